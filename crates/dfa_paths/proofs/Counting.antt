-- Where reaching the subject's end counts: everywhere, or only after a word anchor that was passed at
-- the end.
use Rattle.std.proofs.Common.{◌≡◌, ◌∙◌, ℕ, ◌<◌, ◌≤◌, ◌⊎◌, Bool, true, false, length, refl, sym, ap, inl, inr, arith}
use Rattle.std.proofs.Common.{ltb-true, lt-ltb, le-leb}
use Rattle.std.proofs.lemmas.Bool.{false≢true}
use Rattle.std.specs.Prelude.{◌&&◌, ◌||◌, ◌==◌, IsTrue, not, min, nat_lt, nat_le}
use Rattle.pat_tree.specs.declared.nodes.Item.{Item}
use Rattle.pat_tree.specs.declared.nodes.AnchorKind.{AnchorKind}
use Rattle.pat_tree.specs.declared.nodes.AnchorKind.TheVariants.{Caret, Dollar, SubjectStart, SubjectEnd}
use Rattle.pat_tree.specs.declared.nodes.AnchorKind.TheVariants.{EndOrNewline, StartGiven, Word, NotWord}
use Rattle.match_items.specs.Items.{item_reaches, break_reaches, anchor_reaches, earliest, place_before}
use Rattle.dfa_ends.specs.ordered_search.Setting.{Setting, has_lookbehind, can_be_empty}
use Rattle.dfa_ends.specs.Ends.{Spot, begun, seen, Counts, ItemReaches, BreakReaches, AnchorReaches}
use Rattle.dfa_ends.proofs.ListLemmas.{both_true, and_true}
use Rattle.dfa_ends.proofs.ListLaw.{Onward}
use Rattle.dfa_paths.specs.Meets.{looks_back}

or_falls : (a b c d : Bool) → (a ≡ true → b ≡ true) → IsTrue (a || c || d) → IsTrue (b || c || d)
or_falls true true c d f e = refl
or_falls true false c d f e = absurd (false≢true (f refl))
or_falls false true c d f e = refl
or_falls false false c d f e = e

or_first : (a c d : Bool) → a ≡ true → IsTrue (a || c || d)
or_first true c d e = refl
or_first false c d e = absurd (false≢true e)

-- what is true of one alone
or_only : (a b c d : Bool) → (a || c || d) ≡ false → IsTrue (b || c || d) → b ≡ true
or_only true b c d e f = absurd (false≢true (sym e))
or_only false true c d e f = refl
or_only false false c d e f = absurd (false≢true (sym e ∙ f))

module _ (g : Setting) (counts : Bool) where
  -- where the search counts, each test does; else it is at the subject's end
  pub record Good (x : Spot) : Type 0 where
    pub counting : counts ≡ true → Counts g x
    pub ending : counts ≡ false → x.place ≡ length g.subject

  -- an earlier place was inspected at the end
  abbrev pub Lowered : Spot → Type 0
  Lowered x = (counts ≡ false) × Counts g x

  lt_falls : (a b n : ℕ) → b ≤ a → nat_lt a n ≡ true → nat_lt b n ≡ true
  lt_falls a b n l e = let k = ltb-true a n e in lt-ltb b n (omega (arith, k, l))

  counts_falls : (x y : Spot) → y.early ≤ x.early → Counts g x → Counts g y
  counts_falls x y l c =
      or_falls (nat_lt x.early (length g.subject)) (nat_lt y.early (length g.subject))
      (has_lookbehind g) (can_be_empty g) (lt_falls x.early y.early (length g.subject) l) c

  pub good_on : (x y : Spot) → Good x → Onward (length g.subject) x y → Good y
  good_on x y h o = record {
    counting = λ c. counts_falls x y o.falls (h.counting c);
    ending = λ c. (
        let e = h.ending c in
        elim o.moves [ inl a ↦ absurd (omega (arith, a, e)) | inr b ↦ b ∙ e ]);
  }

  pub good_begun : counts ≡ true → (p : ℕ) (x : Spot) → Good x → Good (begun p x)
  good_begun sure p x h = record {
    counting = λ c. counts_falls x (begun p x) (omega arith) (h.counting c);
    ending = λ c. absurd (false≢true (sym c ∙ sure));
  }

  pub same_lowered : (x y : Spot) → y.early ≡ x.early → Lowered y → Lowered x
  same_lowered x y e h = (h.0, counts_falls y x (omega (arith, e)) h.1)

  pub item_counts : (item : Item) (x : Spot) → Good x →
      IsTrue (item_reaches g.scene item x.place && counts) → ItemReaches g item x
  item_counts item x h t =
      let r = both_true (item_reaches g.scene item x.place) counts t in (r.0, h.counting r.1)

  pub break_counts : (x : Spot) → Good x →
      IsTrue (break_reaches g.scene x.place && counts) → BreakReaches g x
  break_counts x h t =
      let r = both_true (break_reaches g.scene x.place) counts t in (r.0, h.counting r.1)

  earliest_falls : (kind : AnchorKind) (p e : ℕ) → earliest g.scene kind p e ≤ e
  earliest_falls (Caret m) p e = omega arith
  earliest_falls (Dollar m n) p e = omega arith
  earliest_falls SubjectStart p e = omega arith
  earliest_falls SubjectEnd p e = omega arith
  earliest_falls EndOrNewline p e = omega arith
  earliest_falls StartGiven p e = omega arith
  earliest_falls (Word ucp) p e = omega arith
  earliest_falls (NotWord ucp) p e = omega arith

  seen_counts : (kind : AnchorKind) (x : Spot) → Counts g x → Counts g (seen g kind x)
  seen_counts kind x c =
      counts_falls x (seen g kind x) (earliest_falls kind x.place x.early) c

  some_length : (n : ℕ) → not (n == 0) ≡ true → 0 < n
  some_length n e = grind (arith, e)

  length_some : (n : ℕ) → 0 < n → not (n == 0) ≡ true
  length_some n l = grind (arith, l)

  -- the character before the subject's end begins earlier
  abbrev pub IsBefore : Type 0
  IsBefore =
      counts ≡ false → 0 < length g.subject →
      place_before g.scene (length g.subject) < length g.subject

  module _ (before : IsBefore) where
    lower : (x : Spot) (e : ℕ) → counts ≡ false → x.place ≡ length g.subject →
        0 < length g.subject → e ≡ min x.early (place_before g.scene x.place) →
        e < length g.subject
    lower x e off at some is =
        let l = before off some in
        let same : place_before g.scene x.place ≡ place_before g.scene (length g.subject)
        = ap (place_before g.scene) at in
        omega (arith, l, same, is)

    looked_counts : (kind : AnchorKind) (x : Spot) → counts ≡ false →
        x.place ≡ length g.subject → looks_back kind ≡ true → 0 < length g.subject →
        Counts g (seen g kind x)
    looked_counts (Word ucp) x off at b some =
        or_first _ (has_lookbehind g) (can_be_empty g)
        (lt-ltb _ _ (lower x _ off at some refl))
    looked_counts (NotWord ucp) x off at b some =
        or_first _ (has_lookbehind g) (can_be_empty g)
        (lt-ltb _ _ (lower x _ off at some refl))
    looked_counts (Caret m) x off at b some = absurd (false≢true b)
    looked_counts (Dollar m n) x off at b some = absurd (false≢true b)
    looked_counts SubjectStart x off at b some = absurd (false≢true b)
    looked_counts SubjectEnd x off at b some = absurd (false≢true b)
    looked_counts EndOrNewline x off at b some = absurd (false≢true b)
    looked_counts StartGiven x off at b some = absurd (false≢true b)

    told_counts : (kind : AnchorKind) (x : Spot) → Good x → (b : Bool) → counts ≡ b →
        IsTrue (b || looks_back kind && not (length g.subject == 0)) → Counts g (seen g kind x)
    told_counts kind x h true e t = seen_counts kind x (h.counting e)
    told_counts kind x h false e t =
        let r = both_true (looks_back kind) (not (length g.subject == 0)) t in
        looked_counts kind x e (h.ending e) r.0 (some_length (length g.subject) r.1)

    pub anchor_counts : (kind : AnchorKind) (x : Spot) → Good x →
        IsTrue (anchor_reaches g.scene kind x.place
        && (counts || looks_back kind && not (length g.subject == 0))) → AnchorReaches g kind x
    anchor_counts kind x h t =
        let r = both_true (anchor_reaches g.scene kind x.place)
        (counts || looks_back kind && not (length g.subject == 0)) t in
        (r.0, told_counts kind x h counts refl r.1)

  -- The other way.

  -- an anchor that lowers the earliest place at the end tells it
  abbrev AnchorTells : AnchorKind → Spot → Type 0
  AnchorTells kind x =
      IsTrue (anchor_reaches g.scene kind x.place
      && (counts || looks_back kind && not (length g.subject == 0)))

  at_end : (n p : ℕ) → p ≡ n → nat_le n p ≡ true
  at_end n p e = le-leb n p (omega (arith, e))

  or_second : (a b c : Bool) → b ≡ true → c ≡ true → (a || b && c) ≡ true
  or_second true b c e f = refl
  or_second false true true e f = refl
  or_second false false c e f = absurd (false≢true e)
  or_second false true false e f = absurd (false≢true f)

  -- a word anchor looks back
  looking : (x : Spot) (e : ℕ) → (nat_lt x.early (length g.subject)
      || has_lookbehind g || can_be_empty g) ≡ false →
      IsTrue (nat_lt e (length g.subject) || has_lookbehind g || can_be_empty g) →
      not (length g.subject == 0) ≡ true
  looking x e none some =
      let l = ltb-true e (length g.subject)
      (or_only (nat_lt x.early (length g.subject)) (nat_lt e (length g.subject))
      (has_lookbehind g) (can_be_empty g) none some) in
      length_some (length g.subject) (omega (arith, l))

  seen_tells : (kind : AnchorKind) (x : Spot) → x.place ≡ length g.subject →
      (nat_lt x.early (length g.subject) || has_lookbehind g || can_be_empty g) ≡ false →
      Counts g (seen g kind x) → AnchorTells kind x
  seen_tells (Word ucp) x at none some =
      and_true _ _ (at_end (length g.subject) x.place at)
      (or_second counts true _ refl (looking x _ none some))
  seen_tells (NotWord ucp) x at none some =
      and_true _ _ (at_end (length g.subject) x.place at)
      (or_second counts true _ refl (looking x _ none some))
  seen_tells (Caret m) x at none some = absurd (false≢true (sym none ∙ some))
  seen_tells (Dollar m n) x at none some = absurd (false≢true (sym none ∙ some))
  seen_tells SubjectStart x at none some = absurd (false≢true (sym none ∙ some))
  seen_tells SubjectEnd x at none some = absurd (false≢true (sym none ∙ some))
  seen_tells EndOrNewline x at none some = absurd (false≢true (sym none ∙ some))
  seen_tells StartGiven x at none some = absurd (false≢true (sym none ∙ some))

  lowered_case : (kind : AnchorKind) (x : Spot) → Good x → counts ≡ false →
      Counts g (seen g kind x) → (b : Bool) →
      (nat_lt x.early (length g.subject) || has_lookbehind g || can_be_empty g) ≡ b →
      AnchorTells kind x ⊎ Lowered x
  lowered_case kind x h off c true e = inr (off, e)
  lowered_case kind x h off c false e = inl (seen_tells kind x (h.ending off) e c)

  pub anchor_lowered : (kind : AnchorKind) (x : Spot) → Good x → counts ≡ false →
      Counts g (seen g kind x) → AnchorTells kind x ⊎ Lowered x
  anchor_lowered kind x h off c = lowered_case kind x h off c _ refl

  -- a test that counts tells, or the earliest place is lowered already
  pub test_tells : (r : Bool) (x : Spot) → IsTrue r → Counts g x → (b : Bool) → counts ≡ b →
      IsTrue (r && counts) ⊎ Lowered x
  test_tells r x t c true e = inl (and_true r counts t e)
  test_tells r x t c false e = inr (e, c)

  pub anchor_tells : (kind : AnchorKind) (x : Spot) → Good x → AnchorReaches g kind x →
      (b : Bool) → counts ≡ b → AnchorTells kind x ⊎ Lowered x
  anchor_tells kind x h r true e =
      inl (and_true _ _ r.0 (ap (λ b. b || looks_back kind && not (length g.subject == 0)) e))
  anchor_tells kind x h r false e = anchor_lowered kind x h e r.1
