pub use Rattle.grep_multi.specs as grep_multi
pub mod BlockScan
pub mod BlockText
pub mod Steps
pub mod Scanned
