pub use Rattle.match_starts.specs as match_starts
pub use Rattle.frame_machine.specs.frame_board as frame_board
pub use Rattle.frame_machine.specs as frame_machine
pub use Rattle.frame_state.specs as frame_state
pub mod Rest
pub mod Answer
pub mod Begin
pub mod BeginText
pub mod Run
pub mod Outline
pub mod Course
pub mod Starts
pub mod Enough
