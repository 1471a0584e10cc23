pub mod TryLemmas
pub mod LookTurns
pub mod CondTurns
pub mod CalledTests
pub mod CallTurns
