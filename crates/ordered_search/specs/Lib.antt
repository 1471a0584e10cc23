pub use Rattle.pat_check.specs as pat_check
pub mod Stream
pub mod Setting
pub mod Tests
pub mod Parts
pub mod Run
pub mod PlaceAnswer
pub mod Places
pub mod MatchAnswer
pub mod Written
pub mod PlaceRows
pub mod MatchRows
pub mod Laws
pub mod Forward
pub mod Moves
pub mod Paths
pub mod Plain
pub mod LaterPlaces
