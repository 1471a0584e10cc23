-- A letter or a name that stands in no row of the table has no option.
use Rattle.std.proofs.Common.{◌≡◌, ◌≢◌, ℕ, false, eqb, bytes_eq, List, [], ◌∷◌, ◌++◌, None, refl}
use Rattle.std.specs.List.{list_any, find}
use Rattle.std.proofs.lemmas.Bool.{ne_eqb, false_from_ne_true}
use Rattle.std.proofs.lemmas.Slice.Eq.{bytes_eq-Decides}
use Rattle.grep_args.specs.Table.{Row, has_letter, has_name}

abbrev pub Differs : {A : Type 0} → A → List A → Type 0
Differs x [] = Unit {0}
Differs x (y ∷ ys) = (x ≢ y) × Differs x ys

abbrev pub NoLetter : ℕ → List Row → Type 0
NoLetter x [] = Unit {0}
NoLetter x (r ∷ rs) = Differs x r.letters × NoLetter x rs

abbrev pub NoName : List ℕ → List Row → Type 0
NoName x [] = Unit {0}
NoName x (r ∷ rs) = Differs x r.names × NoName x rs

letter_differs : (b : ℕ) (xs : List ℕ) → Differs b xs → list_any (eqb b) xs ≡ false
letter_differs b [] h = refl
letter_differs b (x ∷ xs) h = rw (ne_eqb b x h.0) (letter_differs b xs h.1)

differs : (b x : List ℕ) → b ≢ x → bytes_eq b x ≡ false
differs b x h = false_from_ne_true (bytes_eq b x) (λ same. h ((bytes_eq-Decides b x).0 same))

name_differs : (b : List ℕ) (xs : List (List ℕ)) → Differs b xs → list_any (bytes_eq b) xs ≡ false
name_differs b [] h = refl
name_differs b (x ∷ xs) h = rw (differs b x h.0) (name_differs b xs h.1)

pub letter_absent : (b : ℕ) (rows : List Row) → NoLetter b rows → find (has_letter b) rows ≡ None
letter_absent b [] h = refl
letter_absent b (r ∷ rs) h = rw (letter_differs b r.letters h.0) (letter_absent b rs h.1)

pub name_absent : (b : List ℕ) (rows : List Row) → NoName b rows → find (has_name b) rows ≡ None
name_absent b [] h = refl
name_absent b (r ∷ rs) h = rw (name_differs b r.names h.0) (name_absent b rs h.1)

-- past rows without the name
pub name_past : (b : List ℕ) (rows more : List Row) → NoName b rows
    → find (has_name b) (rows ++ more) ≡ find (has_name b) more
name_past b [] more h = refl
name_past b (r ∷ rs) more h = rw (name_differs b r.names h.0) (name_past b rs more h.1)
