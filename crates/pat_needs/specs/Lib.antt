pub use Rattle.pat_bounds.specs as pat_bounds
pub mod Distances
pub mod Lacking
pub mod Needs
pub mod NeedTables
pub mod Texts
