pub mod Words
pub mod ToolText
pub mod RunsBy
pub mod Laws
pub mod Worked
pub mod Opens
