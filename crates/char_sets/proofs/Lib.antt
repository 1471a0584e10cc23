pub mod ByteLemmas
pub mod FoldLemmas
pub mod PairLemmas
pub mod PartLemmas
pub mod RunLemmas
pub mod TableLemmas
pub mod UnicodeBytes
