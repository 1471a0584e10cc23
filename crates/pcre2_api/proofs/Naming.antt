-- Groups by their numbers and names.
use Rattle.std.proofs.Common.{◌≡◌, ◌∙◌, ℕ, zero, suc, ◌+◌, ◌-◌, ◌<◌, Bool, true, false, if◌then◌else◌, List, drop}
use Rattle.std.proofs.Common.{length, get_or, Option, Some, None, refl, sym, ap, subst, arith, bytes_eq, is_some}
use Rattle.std.proofs.Math.Seq.{drop-cons}
use Rattle.std.proofs.lemmas.Bool.{ne_eqb}
use Rattle.pat_tree.specs.declared.names.NameEntry.{NameEntry}
use Rattle.frame_store.specs.Captures.{Captures, capture, capture_if_any}
use Rattle.pcre2_api.specs.Matched.{MatchParts}
use Rattle.pcre2_api.specs.Captured.{group_of, first_named, top_within}

pub top_step : (caps : Captures) (n : ℕ) → 0 < n
    → top_within caps n ≡ (if is_some (capture caps n) then n else top_within caps (n - 1))
unfolding top_within
top_step caps zero h = absurd (omega arith)
top_step caps (suc n) h = let same : suc n - 1 ≡ n = omega arith in rw same refl

-- a number of 1 or more may name a group
pub capture_numbered : (caps : Captures) (n : ℕ) → 0 < n → capture_if_any caps n ≡ capture caps n
capture_numbered caps n some =
    ap (λ (b : Bool). if b then None else capture caps n) (ne_eqb n 0 (λ none. absurd (omega (arith, some, none))))

abbrev pub named_at : MatchParts → List ℕ → NameEntry → List NameEntry → Option (List ℕ)
named_at f name e es = if bytes_eq e.name name then
    (elim (group_of f e.group) [ Some text ↦ Some text | None ↦ first_named f name es ]) else first_named f name es

named_step : (f : MatchParts) (name : List ℕ) (es : List NameEntry) (i j : ℕ) (other : NameEntry) → j ≡ suc i
    → i < length es → first_named f name (drop i es) ≡ named_at f name (get_or es i other) (drop j es)
named_step f name es i j other e h =
    subst (λ k. first_named f name (drop i es) ≡ named_at f name (get_or es i other) (drop k es)) (sym e)
    (rw (drop-cons es i other) refl)

-- the pair at a place has the name, and its group is set
pub named_here : (f : MatchParts) (name : List ℕ) (es : List NameEntry) (i : ℕ) (other : NameEntry) (text : List ℕ)
    → i < length es → bytes_eq (get_or es i other).name name ≡ true → group_of f (get_or es i other).group ≡ Some text
    → first_named f name (drop i es) ≡ Some text
named_here f name es i other text h same set = named_step f name es i (i + 1) other (omega arith) h
    ∙ rw (same, set) refl

-- it has the name, and its group is not set
pub named_later : (f : MatchParts) (name : List ℕ) (es : List NameEntry) (i : ℕ) (other : NameEntry) → i < length es
    → bytes_eq (get_or es i other).name name ≡ true → group_of f (get_or es i other).group ≡ None
    → first_named f name (drop i es) ≡ first_named f name (drop (i + 1) es)
named_later f name es i other h same unset = named_step f name es i (i + 1) other (omega arith) h
    ∙ rw (same, unset) refl

-- it has another name
pub named_not : (f : MatchParts) (name : List ℕ) (es : List NameEntry) (i : ℕ) (other : NameEntry) → i < length es
    → bytes_eq (get_or es i other).name name ≡ false → first_named f name (drop i es) ≡ first_named f name
    (drop (i + 1) es)
named_not f name es i other h differs = named_step f name es i (i + 1) other (omega arith) h ∙ rw differs refl
