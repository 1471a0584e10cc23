pub mod Laws
pub mod Named
pub mod Rows
pub mod Runs
pub mod Sets
pub mod Table
