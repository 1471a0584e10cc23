pub mod Deciding
pub mod Downward
pub mod Scenes
pub mod Ending
pub mod Walking
pub mod Agreeing
pub mod CommonLaw
pub mod Enough
