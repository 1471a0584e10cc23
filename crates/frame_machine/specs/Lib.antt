pub use Rattle.frame_board.specs as frame_board
pub mod Scratch
pub mod Back
pub mod Callouts
