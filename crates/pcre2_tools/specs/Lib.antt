pub mod ToolText
pub mod Start
