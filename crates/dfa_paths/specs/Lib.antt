pub use Rattle.pat_lengths.specs as pat_lengths
pub mod Graph
pub mod Meets
pub mod Fragment
pub mod Plain
