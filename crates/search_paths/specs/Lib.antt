pub mod PathLaw
pub mod Pauses
