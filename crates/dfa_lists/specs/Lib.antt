pub use Rattle.dfa_paths.specs as dfa_paths
pub use Rattle.dfa_graph.specs as dfa_graph
pub mod Lists
pub mod Searches
pub mod Tries
