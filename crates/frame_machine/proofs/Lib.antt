pub mod Restores
pub mod ReturnTurns
pub mod Start
pub mod StopAnswers
pub mod AcceptTurns
pub mod Popped
pub mod CalloutParts
mod TestsBack
