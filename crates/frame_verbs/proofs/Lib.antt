pub mod VerbTurns
pub mod CatchTurns
pub mod SkipTurns
pub mod Leaving
