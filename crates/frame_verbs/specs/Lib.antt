pub mod Acting
pub mod Names
pub mod Catching
