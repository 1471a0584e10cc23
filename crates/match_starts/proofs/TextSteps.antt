-- The places to which a search goes on are places of its subject.
use Rattle.std.proofs.Common.{◌≡◌, ℕ, ◌≤◌, Bool, true, false, List, length, Option, Some, None, sym, ap, ◌∙◌}
use Rattle.std.specs.Prelude.{IfSome, nat_le}
use Rattle.pat_tree.specs.declared.options.Options.{Options}
use Rattle.match_items.specs.declared.view.Taken.TheVariants.{Took}
use Rattle.match_items.specs.Subjects.{IsTextPlace}
use Rattle.match_items.specs.Views.{told}
use Rattle.ordered_search.specs.Places.{up_to}

module _ (options : Options) (subject : List ℕ) where
  -- outside UTF each place within the subject is one
  pub byte_place : options.utf ≡ false → (p : ℕ) → p ≤ length subject → IsTextPlace options subject p
  byte_place bytes p within = record {
    within = within;
    between = λ utf. absurd (let no : true ≡ false = sym utf ∙ bytes in cc);
  }

-- what holds of a place holds of it where it isn't past the last one
pub up_to_place : (P : ℕ → Type 0) (last : ℕ) (o : Option ℕ) → IfSome o P → IfSome (up_to last o) P
up_to_place P last None h = tt
up_to_place P last (Some q) h = by_test (nat_le q last)
  where
    by_test : (b : Bool) → IfSome (elim b [ true ↦ Some q | false ↦ None ]) P
    by_test true = h
    by_test false = tt

-- what was told as taken was taken
pub took : (o : Option ℕ) (reaches : Bool) (q : ℕ) → told o reaches ≡ Took q → o ≡ Some q
took (Some p) reaches q e = ap Some (let same : p ≡ q = cc in same)
took None true q e = absurd (cc e)
took None false q e = absurd (cc e)
