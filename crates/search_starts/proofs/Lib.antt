mod SameSearch
mod KeptStreams
mod LeadItems
mod LeadSearch
pub mod StartLaw
pub mod Regular
