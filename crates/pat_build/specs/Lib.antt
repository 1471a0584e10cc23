pub use Rattle.pat_grammar.specs.State
pub use Rattle.pat_grammar.specs.Options
pub use Rattle.pat_grammar.specs.Classes
pub use Rattle.pat_grammar.specs.Callouts
pub use Rattle.pat_grammar.specs.Groups
pub use Rattle.pat_grammar.specs.Parts
pub use Rattle.pat_grammar.specs.Reading
pub use Rattle.pat_grammar.specs.Places
pub use Rattle.pat_nodes.specs.Nodes
pub use Rattle.pat_grammar.specs as pat_grammar
pub mod Stack
pub mod Rows
pub mod Machine
