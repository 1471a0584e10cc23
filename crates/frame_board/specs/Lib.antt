pub use Rattle.frame_state.specs as frame_state
pub use Rattle.pat_check.specs as pat_check
pub mod Ready
pub mod Told
pub mod BoardProps
pub mod BytesBack
pub mod Standing
pub mod GroundLaw
