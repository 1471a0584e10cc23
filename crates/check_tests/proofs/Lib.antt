pub mod DraftLemmas
