pub mod Starting
pub mod Searched
pub mod Admission
pub mod Matching
pub mod Naming
pub mod Behind
pub mod Faults
pub mod Informing
pub mod Leading
pub mod Taking
pub mod Walking
pub mod Enough
pub mod Replacing
pub mod Rewriting
pub mod SubstitutionRows
pub mod DfaMatching
pub mod Needing
pub mod Shaping
mod LendingSteps
mod Lending
