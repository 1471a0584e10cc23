pub mod Walking
pub mod Shown
pub mod Parting
pub mod Turning
pub mod Scanning
pub mod Ending
pub mod Counting
pub mod Texts
