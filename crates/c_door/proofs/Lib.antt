pub mod AsBox
pub mod Answered
pub mod Running
