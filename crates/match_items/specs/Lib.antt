pub use Rattle.char_sets.specs as char_sets
pub mod Scene
pub mod Subjects
pub mod Items
pub mod Views
pub mod Laws
pub mod Rows
