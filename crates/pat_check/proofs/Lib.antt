mod RowProofs
pub mod LeadLemmas
pub mod NodeLemmas
pub mod ByteLemmas
pub mod SizeLemmas
pub mod LookLemmas
