-- Nodes of plain trees, by their children.
use Rattle.std.proofs.Common.{◌≡◌, ◌∙◌, ℕ, ◌<◌, ◌≤◌, ◌&&◌, ◌||◌, Bool, true, false, List, [], ◌∷◌, ◌++◌, map, length}
use Rattle.std.proofs.Common.{Option, Some, None, All, get_or, length-append, ◌⊎◌, inl, inr, refl, sym, ap, subst}
use Rattle.std.proofs.Common.{arith}
use Rattle.std.specs.Prelude.{nat_le, nat_lt}
use Rattle.std.specs.List.{list_any, list_all}
use Rattle.std.proofs.lemmas.Bool.{cases_Bool, cases_lt, le-leb, lt-ltb, leb-true, and_parts, or_right, true≢false}
use Rattle.std.proofs.lemmas.List.{get_or_append_left, get_or_push, get_or_past}
use Rattle.std.proofs.lemmas.List.Elements.{All-head, All-tail}
use Rattle.pat_tree.specs.declared.nodes.Item.{Item}
use Rattle.pat_tree.specs.Rules.{AtMost}
use Rattle.pat_tree.specs.Nested as tree
use Rattle.pat_tree.specs.Nested.{Nested, Row, row, tree_at}
use Rattle.pat_lengths.specs.Passing.{flagged}
use Rattle.search_starts.specs.StartLaw.{IsUnverbed, AreUnverbed, IsRegular, AreRegular}
use Rattle.pat_shape.specs.Plain.{are_few, takes_some, one_takes, all_take, is_plain_item, is_plain, are_plain}
use Rattle.pat_shape.specs.Plain.{IsPlainAt, AreTaking}

both : (a b : Bool) → a ≡ true → b ≡ true → (a && b) ≡ true
both a b x y = rw (x, y) refl

module _ (trees : List Nested) (marks : List Bool) (taking : AreTaking trees marks) where
  abbrev of : ℕ → Nested
  of = tree_at trees

  pub all_taking : (ks : List ℕ) → list_all (flagged marks) ks ≡ true → all_take (row (map of ks)) ≡ true
  all_taking [] e = refl
  all_taking (k ∷ ks) e =
      let parts = and_parts (flagged marks k) (list_all (flagged marks) ks) e in
      both (takes_some (of k)) (all_take (row (map of ks))) (taking k parts.0) (all_taking ks parts.1)

  pub one_taking : (ks : List ℕ) → list_any (flagged marks) ks ≡ true → one_takes (row (map of ks)) ≡ true
  one_taking [] e = absurd (true≢false (sym e))
  one_taking (k ∷ ks) e = elim (cases_Bool (flagged marks k)) [
    | inl here ↦ ap (λ b. b || one_takes (row (map of ks))) (taking k here)
    | inr none ↦ or_right (takes_some (of k)) (one_takes (row (map of ks)))
        (one_taking ks (sym (ap (λ b. b || list_any (flagged marks) ks) none) ∙ e))
  ]

pub parts_plain : (dots : Bool) (trees : List Nested) (ks : List ℕ) → All (IsPlainAt dots trees) ks
    → are_plain dots (row (map (tree_at trees) ks)) ≡ true
parts_plain dots trees [] h = refl
parts_plain dots trees (k ∷ ks) h =
    both (is_plain dots (tree_at trees k)) (are_plain dots (row (map (tree_at trees) ks)))
    (All-head (IsPlainAt dots trees) k ks h) (parts_plain dots trees ks (All-tail (IsPlainAt dots trees) k ks h))

-- what holds of each number below n holds of all of these
pub all_of : (P : ℕ → Type 0) (n : ℕ) (ks : List ℕ) → ((k : ℕ) → k < n → P k) → All (λ k. k < n) ks → All P ks
all_of P n ks h below = λ i d l. h (get_or ks i d) (below i d l)

-- one more mark
pub taking_more : (trees : List Nested) (marks : List Bool) (mark : Bool) → AreTaking trees marks
    → (mark ≡ true → takes_some (tree_at trees (length marks)) ≡ true) → AreTaking trees (marks ++ mark ∷ [])
taking_more trees marks mark h new k e = elim (cases_lt k (length marks)) [
  | inl less ↦ h k (sym (get_or_append_left marks (mark ∷ []) false k less) ∙ e)
  | inr past ↦ by_end (cases_lt (length marks) k) past
]
  where
    by_end : (length marks < k) ⊎ (k ≤ length marks) → length marks ≤ k → takes_some (tree_at trees k) ≡ true
    by_end (inr le) past =
        let same : length marks ≡ k = omega (arith, le, past) in
        subst (λ n. takes_some (tree_at trees n) ≡ true) same
        (new (sym (subst (λ n. flagged (marks ++ mark ∷ []) n ≡ mark) same (get_or_push marks mark false _ refl)) ∙ e))
    by_end (inl more) past = absurd (true≢false (sym e ∙ get_or_past (marks ++ mark ∷ []) k false
        (let long = length-append marks (mark ∷ []) in omega (arith, long, more))))

-- Few rounds.

pub few_open : (low : ℕ) → low ≤ 200 → are_few low None ≡ true
few_open low le = le-leb low 200 le

pub few_closed : (low high : ℕ) → low ≤ high → high ≤ 200 → are_few low (Some high) ≡ true
few_closed low high le le' = both (nat_le low high) (nat_le high 200) (le-leb low high le) (le-leb high 200 le')

pub many_plain : (dots : Bool) (trees : List Nested) (body low : ℕ) (high : Option ℕ) (lazily : Bool)
    → are_few low high ≡ true → takes_some (tree_at trees body) ≡ true → is_plain dots (tree_at trees body) ≡ true
    → is_plain dots (tree.repeat (tree_at trees body) low high lazily) ≡ true
many_plain dots trees body low high lazily few some plain =
    both (are_few low high) (takes_some (tree_at trees body) && is_plain dots (tree_at trees body)) few
    (both (takes_some (tree_at trees body)) (is_plain dots (tree_at trees body)) some plain)

pub items_plain : (dots : Bool) (low : ℕ) (high : Option ℕ) (item : Item) → are_few low high ≡ true
    → is_plain_item dots item ≡ true → (are_few low high && is_plain_item dots item) ≡ true
items_plain dots low high item few plain = both (are_few low high) (is_plain_item dots item) few plain

pub some_times : (low : ℕ) (b : Bool) → 0 < low → b ≡ true → (nat_lt 0 low && b) ≡ true
some_times low b some e = both (nat_lt 0 low) b (lt-ltb 0 low some) e

-- A plain tree has no verbs, and keeps the rules of trees.

at_most : (low : ℕ) (high : Option ℕ) → are_few low high ≡ true → AtMost low high
at_most low None e = tt
at_most low (Some high) e = leb-true low high (and_parts (nat_le low high) (nat_le high 200) e).0

mutual
  pub plain_unverbed : (dots : Bool) (t : Nested) → is_plain dots t ≡ true → IsUnverbed t
  plain_unverbed dots tree.empty e = tt
  plain_unverbed dots (tree.one item) e = tt
  plain_unverbed dots (tree.seq ts) e = row_unverbed dots ts e
  plain_unverbed dots (tree.group number ts) e = row_unverbed dots ts e
  plain_unverbed dots (tree.repeat t low high lazily) e =
      plain_unverbed dots t (and_parts (takes_some t) (is_plain dots t)
      (and_parts (are_few low high) (takes_some t && is_plain dots t) e).1).1
  plain_unverbed dots (tree.one_repeat item low high lazily) e = tt
  plain_unverbed dots _ e = absurd (true≢false (sym e))

  row_unverbed : (dots : Bool) (ts : Row) → are_plain dots ts ≡ true → AreUnverbed ts
  row_unverbed dots tree.none e = tt
  row_unverbed dots (tree.more t ts) e =
      let parts = and_parts (is_plain dots t) (are_plain dots ts) e in
      (plain_unverbed dots t parts.0, row_unverbed dots ts parts.1)

mutual
  pub plain_regular : (dots : Bool) (t : Nested) → is_plain dots t ≡ true → IsRegular t
  plain_regular dots tree.empty e = tt
  plain_regular dots (tree.one item) e = tt
  plain_regular dots (tree.seq ts) e = row_regular dots ts e
  plain_regular dots (tree.group number ts) e = row_regular dots ts e
  plain_regular dots (tree.repeat t low high lazily) e =
      let parts = and_parts (are_few low high) (takes_some t && is_plain dots t) e in
      (at_most low high parts.0, plain_regular dots t (and_parts (takes_some t) (is_plain dots t) parts.1).1)
  plain_regular dots (tree.one_repeat item low high lazily) e = tt
  plain_regular dots _ e = absurd (true≢false (sym e))

  row_regular : (dots : Bool) (ts : Row) → are_plain dots ts ≡ true → AreRegular ts
  row_regular dots tree.none e = tt
  row_regular dots (tree.more t ts) e =
      let parts = and_parts (is_plain dots t) (are_plain dots ts) e in
      (plain_regular dots t parts.0, row_regular dots ts parts.1)
