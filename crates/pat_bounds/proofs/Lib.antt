pub use Rattle.pat_lengths.proofs as pat_lengths
pub mod Backwards
pub mod BoundLemmas
