-- What is placed is of the forms of which a graph is made.
use Rattle.std.proofs.Common.{◌≡◌, ◌∙◌, ℕ, zero, suc, ◌-◌, ◌<◌, ◌≤◌, Bool, true, false, List, Option, Some, None}
use Rattle.std.proofs.Common.{refl, sym, ap, subst, arith, ltb-true, ltb-false, inl, inr}
use Rattle.std.proofs.lemmas.Bool.{false≢true}
use Rattle.std.specs.Prelude.{◌&&◌, ◌||◌, nat_lt}
use Rattle.pat_tree.specs.declared.nodes.Verb.{Verb}
use Rattle.pat_tree.specs.declared.nodes.Verb.TheVariants.{Accept, Fail, Commit, Prune, Skip, Then, Mark}
use Rattle.pat_tree.specs.Nested as tree
use Rattle.pat_tree.specs.Nested.{Nested, Row, Test, Other}
use Rattle.pat_lengths.specs.Lengths.{counted}
use Rattle.pat_check.specs.Size.{size, whole_size}
use Rattle.pat_check.specs.Support.{dfa_support}
use Rattle.pat_check.specs.declared.support.DfaSupport.{DfaSupport}
use Rattle.pat_check.specs.declared.support.DfaSupport.TheVariants as support
use Rattle.dfa_paths.specs.declared.graph.Node.{Node}
use Rattle.dfa_graph.specs.declared.making.GraphError.{GraphError}
use Rattle.dfa_graph.specs.declared.making.GraphError.TheVariants.{Item, Cond, TooLarge}
use Rattle.dfa_paths.specs.Fragment.{Part, Copies, Options, Turns, IsLast, VerbPlaced, Placed, AllPlaced, AnyPlaced}
use Rattle.dfa_paths.specs.Fragment.{BehindPlaced, TestPlaced, OtherPlaced, Branches, AreStatesOf, most_nested}
use Rattle.dfa_paths.specs.Plain.{is_never}
use Rattle.dfa_graph.specs.Served.{is_fail, has_fragment, has_graph, all_have, test_has, other_has, unless_small}
use Rattle.dfa_graph.specs.Served.{unless_supported, refusal}

both : (a b : Bool) → a ≡ true → b ≡ true → (a && b) ≡ true
both true b e k = k
both false b e k = absurd (false≢true e)

module _ (nodes : List Node) where
  none_less : (n : ℕ) → n - 0 ≡ n
  none_less n = omega arith

  -- what is placed at each turn is so where there is a turn
  turns_have : (P : Part) (b : Bool) → ((e next : ℕ) → P e next → b ≡ true) →
      (low : ℕ) (high : Option ℕ) (e next : ℕ) → Turns nodes P low high e next →
      (is_never high || b) ≡ true
  unfolding Copies Options
  turns_have P b f low None e next h = f h.2.0 h.0 h.2.2
  turns_have P b f low (Some zero) e next h = refl
  turns_have P b f zero (Some (suc high)) e next h =
      let o = subst (λ k. Options nodes P k h.0 next) (none_less (suc high)) h.2.1 in
      f o.0 o.1 o.4
  turns_have P b f (suc low) (Some (suc high)) e next h = f e h.1.0 h.1.1

  last_has : (ts : Row) (d : ℕ) → IsLast nodes ts → all_have ts d ≡ true
  unfolding has_fragment
  last_has tree.none d h = refl
  last_has (tree.more t ts) d h = absurd h

  verb_has : (v : Verb) (e next : ℕ) → VerbPlaced nodes v e next → is_fail v ≡ true
  verb_has (Fail name) e next h = refl
  verb_has (Accept name) e next h = absurd h
  verb_has (Commit name) e next h = absurd h
  verb_has (Prune name) e next h = absurd h
  verb_has (Skip name) e next h = absurd h
  verb_has (Then name) e next h = absurd h
  verb_has (Mark name) e next h = absurd h

  -- both branches of a condition
  branches_have : (positive : Bool) (P Q : ℕ → Type 0) (hit miss : ℕ) (first second : Bool) →
      ((q : ℕ) → P q → first ≡ true) → ((q : ℕ) → Q q → second ≡ true) →
      Branches nodes positive P Q hit miss → (first && second) ≡ true
  branches_have true P Q hit miss first second f g h = both first second (f hit h.0) (g miss h.1)
  branches_have false P Q hit miss first second f g h = both first second (f miss h.1) (g hit h.0)

  -- what is known of a lookaround that a condition asks
  abbrev TestAsks : Test → ℕ → Type 0
  TestAsks (tree.assert true positive once ts) (suc d) =
      (entry : ℕ) → AnyPlaced nodes ts d entry 1 → all_have ts d ≡ true
  TestAsks (tree.assert false positive once ts) (suc d) =
      (hit miss e : ℕ) → BehindPlaced nodes ts d hit miss e → all_have ts d ≡ true
  TestAsks (tree.called c test) d = TestAsks test d
  TestAsks _ d = Unit {0}

  test_placed_has : (test : Test) (d : ℕ) (P Q : ℕ → Type 0) (e : ℕ) (first second : Bool) →
      TestAsks test d → ((q : ℕ) → P q → first ≡ true) → ((q : ℕ) → Q q → second ≡ true) →
      TestPlaced nodes test d P Q e → test_has test d first second ≡ true
  unfolding Placed has_fragment
  test_placed_has tree.never d P Q e first second ask f g h = g e h
  test_placed_has tree.in_call d P Q e first second ask f g h = g e h
  test_placed_has (tree.any_set ns) d P Q e first second ask f g h = absurd h
  test_placed_has (tree.in_call_of ns) d P Q e first second ask f g h = absurd h
  test_placed_has (tree.assert true positive once ts) zero P Q e first second ask f g h = absurd h
  test_placed_has (tree.assert true positive once ts) (suc d) P Q e first second ask f g h =
      both (all_have ts d) (first && second) (ask h.0 h.4)
      (branches_have positive P Q h.1 h.2 first second f g h.5)
  test_placed_has (tree.assert false positive once ts) zero P Q e first second ask f g h = absurd h
  test_placed_has (tree.assert false positive once ts) (suc d) P Q e first second ask f g h =
      both (all_have ts d) (first && second) (ask h.0 h.1 e h.2)
      (branches_have positive P Q h.0 h.1 first second f g h.3)
  test_placed_has (tree.called c test) d P Q e first second ask f g h =
      test_placed_has test d P Q e first second ask f g h

  mutual
    unfolding Placed has_fragment

    placed_has : (t : Nested) (d e next : ℕ) → Placed nodes t d e next → has_fragment t d ≡ true
    placed_has tree.empty d e next h = refl
    placed_has (tree.one item) d e next h = refl
    placed_has tree.line_break d e next h = refl
    placed_has (tree.seq ts) d e next h = all_placed_have ts d e next h
    placed_has (tree.group number ts) d e next h = any_placed_have ts d e next h
    placed_has (tree.repeat body low high lazily) d e next h =
        turns_have (Placed nodes body d) (has_fragment body d) (λ a b q. placed_has body d a b q)
        low high e next h
    placed_has (tree.one_repeat item low high lazily) d e next h = refl
    placed_has (tree.atomic ts) zero e next h = absurd h
    placed_has (tree.atomic ts) (suc d) e next h = any_placed_have ts d h.0 1 h.2
    placed_has (tree.look true positive once ts) zero e next h = absurd h
    placed_has (tree.look true positive once ts) (suc d) e next h =
        any_placed_have ts d h.0 1 h.4
    placed_has (tree.look false positive once ts) zero e next h = absurd h
    placed_has (tree.look false positive once ts) (suc d) e next h =
        behind_placed_have ts d h.0 h.1 e h.2
    placed_has (tree.condition test first second) d e next h =
        test_placed_has test d (λ q. Placed nodes first d q next)
        (λ q. OtherPlaced nodes second d q next) e (has_fragment first d) (other_has second d)
        (test_asks test d) (λ q k. placed_has first d q next k) (λ q k. other_placed_has second d q next k) h
    placed_has (tree.call n) d e next h = absurd h
    placed_has (tree.ref ns caseless) d e next h = absurd h
    placed_has (tree.anchor kind) d e next h = refl
    placed_has tree.keep_out d e next h = absurd h
    placed_has (tree.verb v) d e next h = verb_has v e next h
    placed_has (tree.callout c) d e next h = refl

    test_asks : (test : Test) (d : ℕ) → TestAsks test d
    test_asks (tree.assert true positive once ts) zero = tt
    test_asks (tree.assert true positive once ts) (suc d) =
        λ entry h. any_placed_have ts d entry 1 h
    test_asks (tree.assert false positive once ts) zero = tt
    test_asks (tree.assert false positive once ts) (suc d) =
        λ hit miss e h. behind_placed_have ts d hit miss e h
    test_asks (tree.called c test) d = test_asks test d
    test_asks tree.never d = tt
    test_asks tree.in_call d = tt
    test_asks (tree.any_set ns) d = tt
    test_asks (tree.in_call_of ns) d = tt

    all_placed_have : (ts : Row) (d e next : ℕ) → AllPlaced nodes ts d e next →
        all_have ts d ≡ true
    all_placed_have tree.none d e next h = refl
    all_placed_have (tree.more t ts) d e next h =
        both (has_fragment t d) (all_have ts d) (placed_has t d e h.0 h.1)
        (all_placed_have ts d h.0 next h.2)

    any_placed_have : (ts : Row) (d e next : ℕ) → AnyPlaced nodes ts d e next →
        all_have ts d ≡ true
    any_placed_have tree.none d e next h = refl
    any_placed_have (tree.more t ts) d e next h =
        elim h [
          | inl a ↦ both (has_fragment t d) (all_have ts d) (placed_has t d e next a.1)
              (last_has ts d a.0)
          | inr b ↦ both (has_fragment t d) (all_have ts d) (placed_has t d b.0 next b.3)
              (any_placed_have ts d b.1 next b.4)
        ]

    behind_placed_have : (ts : Row) (d hit miss e : ℕ) → BehindPlaced nodes ts d hit miss e →
        all_have ts d ≡ true
    behind_placed_have tree.none d hit miss e h = refl
    behind_placed_have (tree.more t ts) d hit miss e h =
        both (has_fragment t d) (all_have ts d) (placed_has t d h.1 1 h.5)
        (behind_placed_have ts d hit miss h.2 h.6)

    other_placed_has : (o : Other) (d e next : ℕ) → OtherPlaced nodes o d e next →
        other_has o d ≡ true
    other_placed_has tree.no_other d e next h = refl
    other_placed_has (tree.other t) d e next h = placed_has t d e next h

graph_has : (classes : ℕ) (nodes : List Node) (t : Nested) → AreStatesOf classes nodes t →
    has_graph t ≡ true
graph_has classes nodes t g = placed_has nodes t most_nested 0 1 g.placed

-- Why there is no graph.

not_over : (n : ℕ) (b : Bool) → nat_lt 65536 n ≡ b → n ≤ 65536 → b ≡ false
not_over n true e l = let k = ltb-true 65536 n e in absurd (omega (arith, k, l))
not_over n false e l = refl

is_over : (n : ℕ) (b : Bool) → nat_lt 65536 n ≡ b → 65536 < n → b ≡ true
is_over n true e l = refl
is_over n false e l = let k = ltb-false 65536 n e in absurd (omega (arith, k, l))

abbrev refusal_by : DfaSupport → Bool → Bool → Option GraphError
refusal_by s over built = unless_supported s (unless_small over built)

refusal_is : (t : Nested) (s : DfaSupport) (over built : Bool) → dfa_support t ≡ s →
    nat_lt 65536 (size t) ≡ over → has_graph t ≡ built → refusal t ≡ refusal_by s over built
refusal_is t s over built a b c =
    ap (λ x. refusal_by x (nat_lt 65536 (size t)) (has_graph t)) a
    ∙ ap (λ x. refusal_by s x (has_graph t)) b
    ∙ ap (λ x. refusal_by s over x) c

pub refused_item : (t : Nested) (s : DfaSupport) → s ≡ dfa_support t → s ≡ support.Item →
    refusal t ≡ Some Item
refused_item t s e k =
    refusal_is t support.Item (nat_lt 65536 (size t)) (has_graph t) (sym e ∙ k) refl refl

pub refused_cond : (t : Nested) (s : DfaSupport) → s ≡ dfa_support t → s ≡ support.Cond →
    refusal t ≡ Some Cond
refused_cond t s e k =
    refusal_is t support.Cond (nat_lt 65536 (size t)) (has_graph t) (sym e ∙ k) refl refl

pub refused_large : (t : Nested) (s : DfaSupport) (n : ℕ) → s ≡ dfa_support t → s ≡ support.Yes →
    n ≡ size t → 65536 < n → refusal t ≡ Some TooLarge
refused_large t s n e k m l =
    refusal_is t support.Yes true (has_graph t) (sym e ∙ k)
    (is_over (size t) (nat_lt 65536 (size t)) refl (omega (arith, m, l))) refl

pub size_is : (w n : ℕ) → n ≡ counted w → n ≤ 65536 → w ≤ 65536
size_is w n e l = omega (arith, e, l)

unbuilt : (t : Nested) (b : Bool) → has_graph t ≡ b → (has_graph t ≡ true → ⊥) → b ≡ false
unbuilt t true e f = absurd (f e)
unbuilt t false e f = refl

pub refused_form : (t : Nested) (s : DfaSupport) (n : ℕ) → s ≡ dfa_support t → s ≡ support.Yes →
    n ≡ size t → n ≤ 65536 → (whole_size t ≤ 65536 → has_graph t ≡ true → ⊥) →
    refusal t ≡ Some TooLarge
refused_form t s n e k m l f =
    refusal_is t support.Yes false false (sym e ∙ k)
    (not_over (size t) (nat_lt 65536 (size t)) refl (subst (λ x. x ≤ 65536) m l))
    (unbuilt t (has_graph t) refl (f (size_is (whole_size t) n m l)))

pub not_refused : (classes : ℕ) (nodes : List Node) (t : Nested) (s : DfaSupport) (n : ℕ) →
    AreStatesOf classes nodes t → s ≡ dfa_support t → s ≡ support.Yes → n ≡ size t → n ≤ 65536 →
    refusal t ≡ None
not_refused classes nodes t s n g e k m l =
    refusal_is t support.Yes false true (sym e ∙ k)
    (not_over (size t) (nat_lt 65536 (size t)) refl (subst (λ x. x ≤ 65536) m l))
    (graph_has classes nodes t g)
