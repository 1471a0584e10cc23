pub mod CharLemmas
pub mod FoldLemmas
pub mod NameLemmas
pub mod NumberLemmas
pub mod ValidLemmas
