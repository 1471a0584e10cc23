pub use Rattle.dfa_lists.specs.dfa_graph as dfa_graph
pub use Rattle.dfa_ends.specs as dfa_ends
pub mod Admitted
pub mod Answer
pub mod Agreement
pub mod Common
pub mod Enough
