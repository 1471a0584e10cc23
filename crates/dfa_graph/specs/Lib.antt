pub use Rattle.pat_check.specs as pat_check
pub mod Building
pub mod Served
