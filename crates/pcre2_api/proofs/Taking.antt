-- Groups by their numbers and names, as a replacement takes them.
use Rattle.std.proofs.Common.{◌≡◌, ◌∙◌, ℕ, zero, suc, ◌-◌, ◌<◌, ◌≤◌, Bool, true, false, if◌then◌else◌, List, [], ◌∷◌}
use Rattle.std.proofs.Common.{length, get_or, Option, Some, None, map, refl, sym, ap, subst, arith, bytes_eq}
use Rattle.std.specs.Prelude.{slice_get, ◌||◌}
use Rattle.std.specs.List.{list_any}
use Rattle.std.specs.Option.{option_map}
use Rattle.pat_tree.specs.declared.names.NameEntry.{NameEntry}
use Rattle.frame_store.specs.Captures.{Captures}
use Rattle.subst_plan.specs.Matched.{Matched, Found, text, unset, unknown, numbered, numbers_of, first_set, first_of}
use Rattle.subst_plan.specs.Matched.{named}
use Rattle.pcre2_api.specs.Captured.{text_at, group_of, first_named, named_of}
use Rattle.pcre2_api.specs.Matched.{MatchParts}
use Rattle.pcre2_api.specs.Taken.{named_group, taken_from}

-- a group that there is
abbrev pub there : Option (List ℕ) → Found
there (Some bytes) = text bytes
there None = unset

-- a group that there may be
abbrev any_group : Option (Option (List ℕ)) → Found
any_group None = unknown
any_group (Some None) = unset
any_group (Some (Some bytes)) = text bytes

-- what there is of a group, and its text if it is set
abbrev Fits : Found → Option (List ℕ) → Type 0
Fits (text bytes) (Some t) = bytes ≡ t
Fits unset None = Unit {0}
Fits unknown None = Unit {0}
Fits _ _ = ⊥

-- the first of two groups that is set
first-group : (found : Found) (group : Option (List ℕ)) (later : Found) (rest : Option (List ℕ)) → Fits found group
    → later ≡ there rest
    → (elim found [ text bytes ↦ text bytes | unset ↦ later | unknown ↦ later ]) ≡ there
    (elim group [ Some t ↦ Some t | None ↦ rest ])
first-group (text bytes) (Some t) later rest fit e = ap text fit
first-group (text bytes) None later rest fit e = absurd fit
first-group unset None later rest fit e = e
first-group unset (Some t) later rest fit e = absurd fit
first-group unknown None later rest fit e = e
first-group unknown (Some t) later rest fit e = absurd fit

fits-set : (found : Found) (group : Option (List ℕ)) (t : List ℕ) → Fits found group → group ≡ Some t → found ≡ text t
fits-set (text bytes) (Some u) t fit e = cc
fits-set (text bytes) None t fit e = absurd fit
fits-set unset (Some u) t fit e = absurd fit
fits-set unset None t fit e = cc
fits-set unknown (Some u) t fit e = absurd fit
fits-set unknown None t fit e = cc

module _ (subject : List ℕ) where
  abbrev texts : Captures → List (Option (List ℕ))
  texts caps = map (option_map (text_at subject)) caps

  inner-group : (caps : Captures) (n : ℕ) → n < length caps
      → any_group (slice_get (texts caps) n) ≡ there (option_map (text_at subject) (get_or caps n None))
  inner-group [] n h = absurd (omega arith)
  inner-group (None ∷ caps) zero h = refl
  inner-group (Some span ∷ caps) zero h = refl
  inner-group (x ∷ caps) (suc n) h = inner-group caps n (omega arith)

  no-group : (caps : Captures) (n : ℕ) → length caps ≤ n → slice_get (texts caps) n ≡ None
  no-group [] n h = refl
  no-group (x ∷ caps) zero h = absurd (omega arith)
  no-group (x ∷ caps) (suc n) h = no-group caps n (omega arith)

  fits-inner : (caps : Captures) (n : ℕ) → Fits (any_group (slice_get (texts caps) n))
      (option_map (text_at subject) (get_or caps n None))
  fits-inner [] n = tt
  fits-inner (None ∷ caps) zero = tt
  fits-inner (Some span ∷ caps) zero = refl
  fits-inner (x ∷ caps) (suc n) = fits-inner caps n

module _ (f : MatchParts) where
  abbrev caps : Captures
  caps = f.outcome.caps

  abbrev m : Matched
  m = taken_from f

  less-one : (n : ℕ) → suc n - 1 ≡ n
  less-one n = omega arith

  numbered-within : (n : ℕ) → n ≤ length caps → numbered m n ≡ there (group_of f n)
  numbered-within zero h = refl
  numbered-within (suc n) h =
      inner-group f.subject caps n (omega arith)
      ∙ ap (λ k. there (option_map (text_at f.subject) (get_or caps k None))) (sym (less-one n))

  pub numbered-past : (n : ℕ) → length caps < n → numbered m n ≡ unknown
  numbered-past zero h = absurd (omega arith)
  numbered-past (suc n) h = ap any_group (no-group f.subject caps n (omega arith))

  fits : (n : ℕ) → Fits (numbered m n) (group_of f n)
  fits zero = refl
  fits (suc n) = subst (λ k. Fits (numbered m (suc n)) (option_map (text_at f.subject) (get_or caps k None)))
      (sym (less-one n)) (fits-inner f.subject caps n)

  pub numbered-set : (n : ℕ) (t : List ℕ) → group_of f n ≡ Some t → numbered m n ≡ text t
  numbered-set n t e = fits-set (numbered m n) (group_of f n) t (fits n) e

  pub numbered-unset : (n : ℕ) → group_of f n ≡ None → n ≤ length caps → numbered m n ≡ unset
  numbered-unset n e h = numbered-within n h ∙ ap there e

  module _ (name : List ℕ) where
    abbrev numbers : List NameEntry → List ℕ
    numbers es = numbers_of name (map named_group es)

    abbrev has : NameEntry → Bool
    has e = bytes_eq e.name name

    by-name : (b : Bool) (n : ℕ) (ns : List ℕ) (rest : Option (List ℕ)) → first_set m ns ≡ there rest
        → first_set m (if b then n ∷ ns else ns) ≡ there
        (if b then (elim (group_of f n) [ Some t ↦ Some t | None ↦ rest ]) else rest)
    by-name true n ns rest e = first-group (numbered m n) (group_of f n) (first_set m ns) rest (fits n) e
    by-name false n ns rest e = e

    first-set : (es : List NameEntry) → first_set m (numbers es) ≡ there (first_named f name es)
    first-set [] = refl
    first-set (e ∷ es) = by-name (has e) e.group (numbers es) (first_named f name es) (first-set es)

    set-is-first : (ns : List ℕ) (t : List ℕ) → first_set m ns ≡ text t → first_of m ns ≡ text t
    set-is-first [] t e = cc
    set-is-first (n ∷ ns) t e = e

    some-number : (b rest : Bool) (n : ℕ) (ns : List ℕ) → (b || rest) ≡ true
        → (rest ≡ true → first_of m ns ≡ first_set m ns)
        → first_of m (if b then n ∷ ns else ns) ≡ first_set m (if b then n ∷ ns else ns)
    some-number true rest n ns h later = refl
    some-number false rest n ns h later = later h

    has-numbers : (es : List NameEntry) → list_any has es ≡ true → first_of m (numbers es) ≡ first_set m (numbers es)
    has-numbers [] h = cc
    has-numbers (e ∷ es) h = some-number (has e) (list_any has es) e.group (numbers es) h (has-numbers es)

    no-number : (b rest : Bool) (n : ℕ) (ns : List ℕ) → (b || rest) ≡ false → (rest ≡ false → first_of m ns ≡ unknown)
        → first_of m (if b then n ∷ ns else ns) ≡ unknown
    no-number true rest n ns h later = cc
    no-number false rest n ns h later = later h

    no-numbers : (es : List NameEntry) → list_any has es ≡ false → first_of m (numbers es) ≡ unknown
    no-numbers [] h = refl
    no-numbers (e ∷ es) h = no-number (has e) (list_any has es) e.group (numbers es) h (no-numbers es)

    pub named-set : (t : List ℕ) → named_of f name ≡ Some t → named m name ≡ text t
    named-set t e = set-is-first (numbers f.code.tree.names) t (first-set f.code.tree.names ∙ ap there e)

    pub named-unset : named_of f name ≡ None → list_any has f.code.tree.names ≡ true → named m name ≡ unset
    named-unset e h = has-numbers f.code.tree.names h ∙ first-set f.code.tree.names ∙ ap there e

    pub named-unknown : list_any has f.code.tree.names ≡ false → named m name ≡ unknown
    named-unknown h = no-numbers f.code.tree.names h
