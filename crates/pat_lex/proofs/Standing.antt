-- A byte that stands at a place stands within the text.
pub use Rattle.token_parts.proofs.Standing.{stands_within}
