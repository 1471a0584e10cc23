pub mod Captures
pub mod Entry
pub mod Gains
pub mod Stack
pub mod Undo
pub mod Rows
