-- A stack around one of its entries, and what stands below it and above it.
use Rattle.std.proofs.Common.{◌≡◌, ℕ, suc, ◌<◌, ◌∙◌, List, [], ◌∷◌, ◌++◌, reverse, Some, None, length, slice_get}
use Rattle.std.proofs.Common.{sym, ap, inl, inr, arith, length-append}
use Rattle.std.proofs.lemmas.List.{length-map, length-reverse}
use Rattle.std.proofs.lemmas.Bool.{cases_eq}
use Rattle.std.proofs.lemmas.Option.{slice_get_within}
use Rattle.frame_store.specs.declared.records.Record.{Record}
use Rattle.frame_store.specs.Captures.{Captures}
use Rattle.frame_store.specs.Entry.{Entry, entry_of, entries}
use Rattle.frame_store.specs.Stack as stack_of
use Rattle.frame_store.specs.Undo.{taken_back, undone}
use Rattle.frame_store.proofs.StackLemmas.{slice_get-reverse-here, slice_get-reverse-below, up_to-more, up_to-all}
use Rattle.frame_store.proofs.StackLemmas.{past-more, past-all}

-- the list around the entry at a height
pub record Split (stack : List Entry) (h : ℕ) (r : Entry) : Type 0 where
  pub above : List Entry
  pub below : List Entry
  pub is : stack ≡ above ++ (r ∷ below)
  pub height : h ≡ suc (length below)

none_some : {A : Type 0} (a : A) → None ≡ Some a → ⊥
none_some a e = cc

some_same : {A : Type 0} (a b : A) → Some a ≡ Some b → a ≡ b
some_same a b e = cc

pub split : (records : List Record) (i : ℕ) (r : Record) → slice_get (reverse records) i ≡ Some r
    → Split (entries records) (suc i) (entry_of r)
split [] i r e = absurd (none_some r e)
split (p ∷ older) i r e =
    elim (cases_eq i (length older)) [
      | inl here ↦
          let same : p ≡ r = some_same p r (sym (slice_get-reverse-here p older)
          ∙ ap (slice_get (reverse (p ∷ older))) (sym here) ∙ e) in
          record {
            above = [];
            below = entries older;
            is = ap (λ x. entry_of x ∷ entries older) same;
            height = let len : length (entries older) ≡ length older = length-map older entry_of in
                ap suc (here ∙ sym len);
          }
      | inr not ↦
          let within : i < length (reverse (p ∷ older)) = slice_get_within (reverse (p ∷ older)) i r e in
          let len : length (reverse (p ∷ older)) ≡ suc (length older) = length-reverse (p ∷ older) in
          let lt : i < length older = omega (arith, within, len, not) in
          let s = split older i r (sym (slice_get-reverse-below p older i lt) ∙ e) in
          record {
            above = entry_of p ∷ s.above;
            below = s.below;
            is = ap (λ l. entry_of p ∷ l) s.is;
            height = s.height;
          }
    ]

-- the entries below one and above it
pub up_to_below : (above below : List Entry) (r : Entry) → stack_of.up_to (length below) (above ++ (r ∷ below)) ≡ below
up_to_below [] below r = up_to-more (length below) r below (omega arith) ∙ up_to-all (length below) below (omega arith)
up_to_below (p ∷ above) below r =
    up_to-more (length below) p (above ++ (r ∷ below)) (omega (arith, length-append above (r ∷ below)))
    ∙ up_to_below above below r

pub past_above : (above below : List Entry) (r : Entry) (caps : Captures)
    → undone (stack_of.past (length below) (above ++ (r ∷ below))) caps ≡ taken_back r (undone above caps)
unfolding undone
past_above [] below r caps =
    ap (λ es. undone es caps) (past-more (length below) r below (omega arith)
    ∙ ap (λ es. r ∷ es) (past-all (length below) below (omega arith)))
past_above (p ∷ above) below r caps =
    ap (λ es. undone es caps) (past-more (length below) p (above ++ (r ∷ below))
    (omega (arith, length-append above (r ∷ below))))
    ∙ past_above above below r (taken_back p caps)

pub up_to_base : (above base : List Entry) → stack_of.up_to (length base) (above ++ base) ≡ base
up_to_base [] base = up_to-all (length base) base (omega arith)
up_to_base (p ∷ above) base =
    up_to-more (length base) p (above ++ base) (omega (arith, length-append above base)) ∙ up_to_base above base

pub past_base : (above base : List Entry) (caps : Captures)
    → undone (stack_of.past (length base) (above ++ base)) caps ≡ undone above caps
unfolding undone
past_base [] base caps = ap (λ es. undone es caps) (past-all (length base) base (omega arith))
past_base (p ∷ above) base caps =
    ap (λ es. undone es caps) (past-more (length base) p (above ++ base) (omega (arith, length-append above base)))
    ∙ past_base above base (taken_back p caps)
