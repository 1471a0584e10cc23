mod LengthLaw
mod LeastLaw
pub mod CountLemmas
pub mod BackLemmas
pub mod OrderLemmas
pub mod OtherNodes
pub mod PassLemmas
pub mod GroupLemmas
mod PlacedLemmas
pub mod KeepLemmas
pub mod RoundLemmas
pub mod KidLemmas
pub mod SpanLemmas
pub mod Placing
pub mod LeadingStable
pub mod LeadingLemmas
pub mod RingLemmas
pub mod PlainLemmas
pub mod SettleLemmas
pub mod EmptyLemmas
