-- What the steps of a building mean.
use Rattle.std.proofs.Common.{◌≡◌, ◌∙◌, ℕ, zero, suc, ◌+◌, ◌-◌, ◌<◌, ◌≤◌, Bool, true, false, List, [], ◌∷◌, map}
use Rattle.std.proofs.Common.{drop, length, Option, Some, None, refl, sym, ap, subst, inl, inr, arith, eqb-true}
use Rattle.std.specs.Prelude as list
use Rattle.std.specs.Prelude.{◌==◌, slice_get, option_map}
use Rattle.std.proofs.lemmas.Bool.{false≢true}
use Rattle.pat_tree.specs.declared.nodes.Placed as placed
use Rattle.pat_tree.specs.declared.nodes.Node as parts
use Rattle.pat_tree.specs.declared.nodes.Node.TheVariants as part
use Rattle.pat_tree.specs.declared.nodes.Cond.{Cond}
use Rattle.pat_tree.specs.declared.nodes.Cond.TheVariants as cond
use Rattle.pat_tree.specs.declared.nodes.Verb.{Verb}
use Rattle.pat_tree.specs.declared.nodes.Verb.TheVariants.{Accept, Fail, Commit, Prune, Skip, Then, Mark}
use Rattle.pat_tree.specs.Rules.{kids_of, is_test}
use Rattle.pat_tree.specs.Nested as tree
use Rattle.pat_tree.specs.Nested.{Nested, Row, row, tree_at, nest, trees, cond_of, other_of, test_of}
use Rattle.dfa_paths.specs.declared.graph.Node.{Node}
use Rattle.dfa_paths.specs.declared.graph.Node.TheVariants.{Split, Goto, Look, Atomic, Dead}
use Rattle.dfa_graph.specs.declared.build.Work.{Work}
use Rattle.dfa_graph.specs.declared.build.Work.TheVariants as work
use Rattle.dfa_graph.specs.declared.build.Work.TheVariants.{All, Any, Turn, Ask, Behind}
use Rattle.dfa_graph.specs.declared.build.Step.{Step}
use Rattle.dfa_graph.specs.declared.build.Step.TheVariants as step
use Rattle.pat_lengths.specs.Backs.{behind_branches, back_at}
use Rattle.pat_lengths.specs.declared.backs.Back.{Back}
use Rattle.dfa_paths.specs.Graph.{IsNodeIn}
use Rattle.dfa_paths.specs.Fragment as fragment
use Rattle.dfa_paths.specs.Fragment.{Part, IsNode, Copies, Options, VerbPlaced, Placed, AllPlaced, AnyPlaced}
use Rattle.dfa_paths.specs.Fragment.{BehindPlaced, HasBack, TestPlaced, OtherPlaced}
use Rattle.dfa_graph.specs.Building.{part_of, IsRange, IsTurnRange, ids_of, one_less, part_step, second_step}
use Rattle.dfa_graph.specs.Building.{cond_step, ask_step, ask_second, look_node, verb_step, all_step, any_step}
use Rattle.dfa_graph.specs.Building.{turn_step, turns_step, behind_step, so_at, else_at, node_of, step_of}
use Rattle.dfa_graph.specs.Building.{TurnPlaced, tree_of, row_from, WorkPlaced, IsPart}
use Rattle.dfa_paths.proofs.Behind.{IsMeasured, IsReady, AreTold, is_behind, known_branch, all_here}

-- Lists.

pub drop_some : (xs : List ℕ) (i x : ℕ) → slice_get xs i ≡ Some x → drop i xs ≡ x ∷ drop (i + 1) xs
drop_some xs i x e =
    let one : i + 1 ≡ suc i = omega arith in
    go xs i x e ∙ ap (λ j. x ∷ drop j xs) (sym one)
  where
    go : (xs : List ℕ) (i x : ℕ) → slice_get xs i ≡ Some x → drop i xs ≡ x ∷ drop (suc i) xs
    go [] i x e = cc
    go (y ∷ ys) zero x e = let same : y ≡ x = cc in ap (λ z. z ∷ ys) same
    go (y ∷ ys) (suc i) x e = go ys i x e

pub drop_none : (xs : List ℕ) (i : ℕ) → slice_get xs i ≡ None → drop i xs ≡ []
drop_none [] zero e = refl
drop_none [] (suc i) e = refl
drop_none (y ∷ ys) zero e = cc
drop_none (y ∷ ys) (suc i) e = drop_none ys i e

drop_past : (xs : List ℕ) (i : ℕ) → length xs ≤ i → drop i xs ≡ []
drop_past [] zero l = refl
drop_past [] (suc i) l = refl
drop_past (y ∷ ys) zero l = absurd (omega (arith, l))
drop_past (y ∷ ys) (suc i) l = drop_past ys i (omega (arith, l))

pub all_get : (P : ℕ → Type 0) (xs : List ℕ) (i x : ℕ) → list.All P xs → slice_get xs i ≡ Some x → P x
all_get P [] i x h e = cc
all_get P (y ∷ ys) zero x h e = let same : y ≡ x = cc in subst P same (h 0 0 (omega arith))
all_get P (y ∷ ys) (suc i) x h e = all_get P ys i x (λ k d l. h (suc k) d (omega (arith, l))) e

none_in : (P : ℕ → Type 0) → list.All P []
none_in P k d l = absurd (omega (arith, l))

pub ids_below : (P : ℕ → Type 0) (m : parts.Node) → list.All P (kids_of m) → list.All P (ids_of m)
ids_below P part.Empty h = none_in P
ids_below P (part.One item) h = none_in P
ids_below P part.Break h = none_in P
ids_below P (part.Seq kids) h = h
ids_below P (part.Group number branches) h = h
ids_below P (part.Repeat body min max lazy) h = none_in P
ids_below P (part.OneRepeat item min max lazy) h = none_in P
ids_below P (part.Atomic branches) h = h
ids_below P (part.Look ahead positive once branches) h = h
ids_below P (part.Cond test yes' no') h = none_in P
ids_below P (part.Call n) h = none_in P
ids_below P (part.Ref groups caseless) h = none_in P
ids_below P (part.Anchor kind) h = none_in P
ids_below P part.KeepOut h = none_in P
ids_below P (part.VerbNode v) h = none_in P
ids_below P (part.Callout number from to at len) h = none_in P

pub last_kid : (P : ℕ → Type 0) (xs : List ℕ) (y z : ℕ) → list.All P (list.◌++◌ xs (y ∷ z ∷ [])) → P z
last_kid P [] y z h = h 1 0 (omega arith)
last_kid P (x ∷ xs) y z h = last_kid P xs y z (λ k d l. h (suc k) d (omega (arith, l)))

-- one level less
pub less_depth : (d : ℕ) → suc d - 1 ≡ d
less_depth d = omega arith

-- a lookaround after a callout is a test, as it is one alone
pub test_after : (x y : Nested) (r : Row) → is_test (tree.seq (tree.more x (tree.more y r))) ≡ true →
    is_test y ≡ true
test_after (tree.callout c) (tree.look ahead positive once ts) tree.none e = refl
test_after _ _ _ e = absurd (false≢true e)

pub one_part : (x : Nested) → is_test (tree.seq (tree.more x tree.none)) ≡ true → ⊥
one_part (tree.callout c) e = false≢true e
one_part _ e = false≢true e

pub no_part : is_test (tree.seq tree.none) ≡ true → ⊥
no_part e = false≢true e

called_placed : (final : List Node) (x y : Nested) (r : Row) →
    is_test (tree.seq (tree.more x (tree.more y r))) ≡ true →
    (d : ℕ) (P Q : ℕ → Type 0) (e : ℕ) → TestPlaced final (test_of y) d P Q e →
    TestPlaced final (test_of (tree.seq (tree.more x (tree.more y r)))) d P Q e
unfolding Placed
called_placed final (tree.callout c) (tree.look ahead positive once ts) tree.none t d P Q e h = h
called_placed final _ _ _ t d P Q e h = absurd (false≢true t)

look_placed : (final : List Node) (positive once : Bool) (ts : Row) (d at next entry dead : ℕ) →
    IsNode final (look_node entry positive next dead) at → IsNode final Dead dead →
    AnyPlaced final ts d entry 1 →
    Placed final (tree.look true positive once ts) (suc d) at next
unfolding Placed
look_placed final true once ts d at next entry dead n z body =
    (entry, next, dead, n, body, (refl, z))
look_placed final false once ts d at next entry dead n z body =
    (entry, dead, next, n, body, (z, refl))

choose_placed : (final : List Node) (positive once : Bool) (ts : Row) (d : ℕ)
    (P Q : ℕ → Type 0) (at entry first second : ℕ) →
    IsNode final (look_node entry positive first second) at → AnyPlaced final ts d entry 1 →
    P first → Q second → TestPlaced final (tree.assert true positive once ts) (suc d) P Q at
unfolding Placed
choose_placed final true once ts d P Q at entry first second n body a b =
    (entry, first, second, n, body, (a, b))
choose_placed final false once ts d P Q at entry first second n body a b =
    (entry, second, first, n, body, (b, a))

seek_placed : (final : List Node) (positive once : Bool) (ts : Row) (d at next miss : ℕ) →
    IsNode final (Goto next) (so_at positive miss) → IsNode final Dead (else_at positive miss) →
    BehindPlaced final ts d (miss + 1) miss at →
    Placed final (tree.look false positive once ts) (suc d) at next
unfolding Placed
seek_placed final true once ts d at next miss n z body = (miss + 1, miss, body, (inr n, z))
seek_placed final false once ts d at next miss n z body = (miss + 1, miss, body, (z, inr n))

decide_placed : (final : List Node) (positive once : Bool) (ts : Row) (d : ℕ)
    (P Q : ℕ → Type 0) (at miss : ℕ) → P (so_at positive miss) → Q (else_at positive miss) →
    BehindPlaced final ts d (miss + 1) miss at →
    TestPlaced final (tree.assert false positive once ts) (suc d) P Q at
unfolding Placed
decide_placed final true once ts d P Q at miss a b body = (miss + 1, miss, body, (a, b))
decide_placed final false once ts d P Q at miss a b body = (miss + 1, miss, body, (b, a))

module _ (ps : List placed.Placed) where
  -- a part up to the root, of which no lookbehind is refused
  abbrev pub IsIn : ℕ → ℕ → Type 0
  IsIn root q = (q ≤ root) × IsReady (tree_at (trees ps) q)

  abbrev pub NoIn : ℕ → Option ℕ → Type 0
  NoIn root None = Unit {0}
  NoIn root (Some q) = IsIn root q

  -- a condition's test is a lookaround, and its branches are parts; a lookbehind is one
  abbrev pub IsAsked : ℕ → Work → Type 0
  IsAsked root (Ask p yes' no') =
      IsIn root yes' × NoIn root no' × (is_test (tree_at (trees ps) p) ≡ true)
  IsAsked root (Behind p from) = is_behind (tree_at (trees ps) p) ≡ true
  IsAsked root _ = Unit {0}

  -- a work may be done
  pub record IsWork (root : ℕ) (w : Work) : Type 0 where
    pub inside : part_of w ≤ root
    pub range : IsTurnRange w
    pub asked : IsAsked root w
    pub ready : IsReady (tree_at (trees ps) (part_of w))

  -- the works of a step may be done, and what it writes is a state
  abbrev pub IsStep : ℕ → ℕ → ℕ → Step → Type 0
  IsStep root states classes step.Refuse = Unit {0}
  IsStep root states classes (step.Write n) = IsNodeIn states classes n
  IsStep root states classes (step.Hand a) = IsWork root a
  IsStep root states classes (step.Chain a b) = IsWork root a × IsWork root b
  IsStep root states classes (step.Loop a) = IsWork root a
  IsStep root states classes (step.Fork a b) = IsWork root a × IsWork root b
  IsStep root states classes (step.Skip a b) = IsWork root a × IsWork root b
  IsStep root states classes (step.Keep a) = IsWork root a
  IsStep root states classes (step.Assert a positive) = IsWork root a
  IsStep root states classes (step.Choose a positive b None) = IsWork root a × IsWork root b
  IsStep root states classes (step.Choose a positive b (Some c)) =
      IsWork root a × IsWork root b × IsWork root c
  IsStep root states classes (step.Seek a positive) = IsWork root a
  IsStep root states classes (step.Decide a positive b None) = IsWork root a × IsWork root b
  IsStep root states classes (step.Decide a positive b (Some c)) =
      IsWork root a × IsWork root b × IsWork root c
  IsStep root states classes (step.Reach back a b) = IsWork root a × IsWork root b

  -- the graph holds what a step leaves, so many levels deep
  abbrev pub StepPlaced : List Node → Step → ℕ → Part
  StepPlaced final step.Refuse d e next = ⊥
  StepPlaced final (step.Write n) d e next = IsNode final n e
  StepPlaced final (step.Hand a) d e next = WorkPlaced ps final a d e next
  StepPlaced final (step.Chain a b) d e next =
      (m : ℕ) × WorkPlaced ps final a d e m × WorkPlaced ps final b d m next
  StepPlaced final (step.Loop a) d e next =
      (p : ℕ) × IsNode final (Split p next) e × WorkPlaced ps final a d p e
  StepPlaced final (step.Fork a b) d e next =
      (p : ℕ) × (q : ℕ) × IsNode final (Split p q) e × WorkPlaced ps final a d p next × WorkPlaced
      ps final b d q next
  StepPlaced final (step.Skip a b) d e next =
      (p : ℕ) × (m : ℕ) × IsNode final (Split p next) e × WorkPlaced ps final a d p m × WorkPlaced
      ps final b d m next
  StepPlaced final (step.Keep a) d e next =
      (entry : ℕ) × IsNode final (Atomic entry next) e × WorkPlaced ps final a (d - 1) entry 1
  StepPlaced final (step.Assert a positive) d e next =
      (entry : ℕ) × (dead : ℕ) × IsNode final (look_node entry positive next dead) e
      × IsNode final Dead dead × WorkPlaced ps final a (d - 1) entry 1
  StepPlaced final (step.Choose a positive b None) d e next =
      (entry : ℕ) × (first : ℕ) × IsNode final (look_node entry positive first next) e
      × WorkPlaced ps final a (d - 1) entry 1 × WorkPlaced ps final b d first next
  StepPlaced final (step.Choose a positive b (Some c)) d e next =
      (entry : ℕ) × (first : ℕ) × (second : ℕ)
      × IsNode final (look_node entry positive first second) e
      × WorkPlaced ps final a (d - 1) entry 1 × WorkPlaced ps final b d first next
      × WorkPlaced ps final c d second next
  StepPlaced final (step.Seek a positive) d e next =
      (miss : ℕ) × IsNode final (Goto next) (so_at positive miss)
      × IsNode final Dead (else_at positive miss) × WorkPlaced ps final a d e (miss + 1)
  StepPlaced final (step.Decide a positive b None) d e next =
      (miss : ℕ) × WorkPlaced ps final b d (so_at positive miss) next
      × IsNode final (Goto next) (else_at positive miss) × WorkPlaced ps final a d e (miss + 1)
  StepPlaced final (step.Decide a positive b (Some c)) d e next =
      (miss : ℕ) × WorkPlaced ps final b d (so_at positive miss) next
      × WorkPlaced ps final c d (else_at positive miss) next
      × WorkPlaced ps final a d e (miss + 1)
  StepPlaced final (step.Reach back a b) d e next =
      (entry : ℕ) × (miss : ℕ) × IsNode final (Look (Some back) entry next miss) e
      × WorkPlaced ps final a (d - 1) entry 1 × WorkPlaced ps final b d miss next × (e < miss)

  f : ℕ → Nested
  f = tree_at (trees ps)

  second_placed : (final : List Node) (no' : Option ℕ) (d e next : ℕ) →
      StepPlaced final (second_step next no') d e next →
      OtherPlaced final (other_of (trees ps) no') d e next
  unfolding Placed
  second_placed final None d e next h = inr h
  second_placed final (Some q) d e next h = h

  cond_placed : (final : List Node) (test : Cond) (yes' : ℕ) (no' : Option ℕ) (d e next : ℕ) →
      StepPlaced final (cond_step next test yes' no') d e next →
      TestPlaced final (cond_of (trees ps) test) d (λ q. Placed final (tree_of ps yes') d q next)
      (λ q. OtherPlaced final (other_of (trees ps) no') d q next) e
  unfolding Placed
  cond_placed final cond.Never yes' no' d e next h = second_placed final no' d e next h
  cond_placed final cond.InCall yes' no' d e next h = second_placed final no' d e next h
  cond_placed final (cond.AnySet groups) yes' no' d e next h = absurd h
  cond_placed final (cond.InCallOf groups) yes' no' d e next h = absurd h
  cond_placed final (cond.Assert k) yes' no' d e next h = h

  verb_placed : (final : List Node) (v : Verb) (d e next : ℕ) →
      StepPlaced final (verb_step v) d e next → VerbPlaced final v e next
  verb_placed final (Fail name) d e next h = h
  verb_placed final (Accept name) d e next h = absurd h
  verb_placed final (Commit name) d e next h = absurd h
  verb_placed final (Prune name) d e next h = absurd h
  verb_placed final (Skip name) d e next h = absurd h
  verb_placed final (Then name) d e next h = absurd h
  verb_placed final (Mark name) d e next h = absurd h

  module _ (p next : ℕ) (m : parts.Node) (e : node_of ps p ≡ m)
      (is : nest (trees ps) m ≡ tree_of ps p) where
    -- a row that begins with the first part is the part's whole row
    from_first : (P : Row → Type 0) → P (row_from ps p 0) →
        P (row (map (tree_at (trees ps)) (ids_of m)))
    from_first P h = subst (λ k. P (row (map (tree_at (trees ps)) (ids_of k)))) e h

    to_first : (P : Row → Type 0) → P (row (map (tree_at (trees ps)) (ids_of m))) →
        P (row_from ps p 0)
    to_first P h = subst (λ k. P (row (map (tree_at (trees ps)) (ids_of k)))) (sym e) h

  -- the branches of a nested part
  nested_row : (p : ℕ) (m : parts.Node) → node_of ps p ≡ m → (final : List Node) (d entry : ℕ) →
      AnyPlaced final (row_from ps p 0) (suc d - 1) entry 1 →
      AnyPlaced final (row (map (tree_at (trees ps)) (ids_of m))) d entry 1
  nested_row p m e final d entry h =
      subst (λ k. AnyPlaced final (row (map (tree_at (trees ps)) (ids_of k))) d entry 1) e
      (subst (λ k. AnyPlaced final (row_from ps p 0) k entry 1) (less_depth d) h)

  one_back : (miss : ℕ) → miss + 1 - 1 ≡ miss
  one_back miss = omega arith

  -- the branches of a lookbehind
  behind_row : (p : ℕ) (m : parts.Node) → node_of ps p ≡ m → (final : List Node)
      (d miss at : ℕ) →
      BehindPlaced final (row_from ps p 0) (suc d - 1) (miss + 1) (miss + 1 - 1) at →
      BehindPlaced final (row (map (tree_at (trees ps)) (ids_of m))) d (miss + 1) miss at
  behind_row p m e final d miss at h =
      subst (λ k. BehindPlaced final (row (map (tree_at (trees ps)) (ids_of k))) d (miss + 1)
      miss at) e
      (subst (λ k. BehindPlaced final (row_from ps p 0) k (miss + 1) miss at) (less_depth d)
      (subst (λ k. BehindPlaced final (row_from ps p 0) (suc d - 1) (miss + 1) k at)
      (one_back miss) h))

  part_core : (p d next : ℕ) (m : parts.Node) → node_of ps p ≡ m →
      nest (trees ps) m ≡ tree_of ps p →
      (final : List Node) (at : ℕ) → StepPlaced final (part_step p d next m) d at next →
      Placed final (nest (trees ps) m) d at next
  unfolding Placed
  part_core p d next part.Empty e is final at h = inr h
  part_core p d next (part.One item) e is final at h = h
  part_core p d next part.Break e is final at h = h
  part_core p d next (part.Seq kids) e is final at h =
      from_first p next (part.Seq kids) e is (λ r. AllPlaced final r d at next) h
  part_core p d next (part.Group number branches) e is final at h =
      from_first p next (part.Group number branches) e is (λ r. AnyPlaced final r d at next) h
  part_core p d next (part.Repeat body min max lazy) e is final at h =
      subst (λ t. fragment.Turns final (TurnPlaced final t d) min max at next) (sym is) h
  part_core p d next (part.OneRepeat item min max lazy) e is final at h =
      subst (λ t. fragment.Turns final (TurnPlaced final t d) min max at next) (sym is) h
  part_core p zero next (part.Atomic branches) e is final at h = absurd h
  part_core p (suc d) next (part.Atomic branches) e is final at h =
      (h.0, h.1, nested_row p (part.Atomic branches) e final d h.0 h.2)
  part_core p zero next (part.Look true positive once branches) e is final at h = absurd h
  part_core p (suc d) next (part.Look true positive once branches) e is final at h =
      look_placed final positive once (row (map (tree_at (trees ps)) branches)) d at next h.0 h.1
      h.2 h.3 (nested_row p (part.Look true positive once branches) e final d h.0 h.4)
  part_core p zero next (part.Look false positive once branches) e is final at h = absurd h
  part_core p (suc d) next (part.Look false positive once branches) e is final at h =
      seek_placed final positive once (row (map (tree_at (trees ps)) branches)) d at next h.0 h.1
      h.2 (behind_row p (part.Look false positive once branches) e final d h.0 at h.3)
  part_core p d next (part.Cond test yes' no') e is final at h =
      cond_placed final test yes' no' d at next h
  part_core p d next (part.Call n) e is final at h = absurd h
  part_core p d next (part.Ref groups caseless) e is final at h = absurd h
  part_core p d next (part.Anchor kind) e is final at h = h
  part_core p d next part.KeepOut e is final at h = absurd h
  part_core p d next (part.VerbNode v) e is final at h = verb_placed final v d at next h
  part_core p d next (part.Callout number from to pos len) e is final at h = inr h

  -- the branches of a condition on a lookaround
  ask_look : (p d next yes' : ℕ) (no' : Option ℕ) (positive once : Bool) (branches : List ℕ) →
      node_of ps p ≡ part.Look true positive once branches → (final : List Node) (at : ℕ) →
      StepPlaced final (step.Choose (Any p 0) positive (work.Part yes')
      (option_map work.Part no')) (suc d) at next →
      TestPlaced final
      (tree.assert true positive once (row (map (tree_at (trees ps)) branches))) (suc d)
      (λ q. Placed final (tree_of ps yes') (suc d) q next)
      (λ q. OtherPlaced final (other_of (trees ps) no') (suc d) q next) at
  unfolding Placed
  ask_look p d next yes' None positive once branches e final at h =
      choose_placed final positive once (row (map (tree_at (trees ps)) branches)) d _ _ at h.0 h.1
      next h.2 (nested_row p (part.Look true positive once branches) e final d h.0 h.3) h.4
      (inl refl)
  ask_look p d next yes' (Some q) positive once branches e final at h =
      choose_placed final positive once (row (map (tree_at (trees ps)) branches)) d _ _ at h.0 h.1
      h.2 h.3 (nested_row p (part.Look true positive once branches) e final d h.0 h.4) h.5 h.6

  -- and on a lookbehind
  ask_behind : (p d next yes' : ℕ) (no' : Option ℕ) (positive once : Bool)
      (branches : List ℕ) → node_of ps p ≡ part.Look false positive once branches →
      (final : List Node) (at : ℕ) →
      StepPlaced final
      (step.Decide (Behind p 0) positive (work.Part yes') (option_map work.Part no')) (suc d) at
      next →
      TestPlaced final
      (tree.assert false positive once (row (map (tree_at (trees ps)) branches))) (suc d)
      (λ q. Placed final (tree_of ps yes') (suc d) q next)
      (λ q. OtherPlaced final (other_of (trees ps) no') (suc d) q next) at
  unfolding Placed
  ask_behind p d next yes' None positive once branches e final at h =
      decide_placed final positive once (row (map (tree_at (trees ps)) branches)) d _ _ at h.0
      h.1 (inr h.2) (behind_row p (part.Look false positive once branches) e final d h.0 at h.3)
  ask_behind p d next yes' (Some q) positive once branches e final at h =
      decide_placed final positive once (row (map (tree_at (trees ps)) branches)) d _ _ at h.0
      h.1 h.2 (behind_row p (part.Look false positive once branches) e final d h.0 at h.3)

  -- a callout stands before the lookaround
  ask_seq : (d next yes' : ℕ) (no' : Option ℕ) (kids : List ℕ) →
      is_test (tree.seq (row (map (tree_at (trees ps)) kids))) ≡ true →
      (final : List Node) (at : ℕ) →
      StepPlaced final (ask_second (slice_get kids 1) yes' no') d at next →
      TestPlaced final (test_of (tree.seq (row (map (tree_at (trees ps)) kids)))) d
      (λ q. Placed final (tree_of ps yes') d q next)
      (λ q. OtherPlaced final (other_of (trees ps) no') d q next) at
  unfolding f trees
  ask_seq d next yes' no' [] t final at h = absurd (no_part t)
  ask_seq d next yes' no' (a ∷ []) t final at h = absurd (one_part (f a) t)
  ask_seq d next yes' no' (a ∷ b ∷ ks) t final at h =
      called_placed final (f a) (f b) (row (map (tree_at (trees ps)) ks)) t d _ _ at h

  ask_core : (p d next yes' : ℕ) (no' : Option ℕ) (m : parts.Node) → node_of ps p ≡ m →
      is_test (nest (trees ps) m) ≡ true → (final : List Node) (at : ℕ) →
      StepPlaced final (ask_step p yes' no' d m) d at next →
      TestPlaced final (test_of (nest (trees ps) m)) d
      (λ q. Placed final (tree_of ps yes') d q next)
      (λ q. OtherPlaced final (other_of (trees ps) no') d q next) at
  ask_core p zero next yes' no' (part.Look true positive once branches) e t final at h = absurd h
  ask_core p (suc d) next yes' no' (part.Look true positive once branches) e t final at h =
      ask_look p d next yes' no' positive once branches e final at h
  ask_core p zero next yes' no' (part.Look false positive once branches) e t final at h =
      absurd h
  ask_core p (suc d) next yes' no' (part.Look false positive once branches) e t final at h =
      ask_behind p d next yes' no' positive once branches e final at h
  ask_core p d next yes' no' (part.Seq kids) e t final at h = ask_seq d next yes' no' kids t final at h
  ask_core p d next yes' no' part.Empty e t final at h = absurd h
  ask_core p d next yes' no' (part.One item) e t final at h = absurd h
  ask_core p d next yes' no' part.Break e t final at h = absurd h
  ask_core p d next yes' no' (part.Group number branches) e t final at h = absurd h
  ask_core p d next yes' no' (part.Repeat body min max lazy) e t final at h = absurd h
  ask_core p d next yes' no' (part.OneRepeat item min max lazy) e t final at h = absurd h
  ask_core p d next yes' no' (part.Atomic branches) e t final at h = absurd h
  ask_core p d next yes' no' (part.Cond test y n) e t final at h = absurd h
  ask_core p d next yes' no' (part.Call n) e t final at h = absurd h
  ask_core p d next yes' no' (part.Ref groups caseless) e t final at h = absurd h
  ask_core p d next yes' no' (part.Anchor kind) e t final at h = absurd h
  ask_core p d next yes' no' part.KeepOut e t final at h = absurd h
  ask_core p d next yes' no' (part.VerbNode v) e t final at h = absurd h
  ask_core p d next yes' no' (part.Callout number from to pos len) e t final at h = absurd h

  all_core : (p from d next : ℕ) (o : Option ℕ) → slice_get (ids_of (node_of ps p)) from ≡ o →
      (final : List Node) (at : ℕ) →
      StepPlaced final (all_step p from next o) d at next →
      AllPlaced final (row_from ps p from) d at next
  unfolding Placed
  all_core p from d next None e final at h =
      subst (λ xs. AllPlaced final (row (map (tree_at (trees ps)) xs)) d at next)
      (sym (drop_none _ from e)) (inr h)
  all_core p from d next (Some k) e final at h =
      subst (λ xs. AllPlaced final (row (map (tree_at (trees ps)) xs)) d at next)
      (sym (drop_some _ from k e)) h

  any_core : (p from d next : ℕ) (o : Option ℕ) (last : Bool) →
      slice_get (ids_of (node_of ps p)) from ≡ o →
      (from + 1 == length (ids_of (node_of ps p))) ≡ last → (final : List Node) (at : ℕ) →
      StepPlaced final (any_step p from o last) d at next →
      AnyPlaced final (row_from ps p from) d at next
  unfolding Placed
  any_core p from d next None last e l final at h =
      subst (λ xs. AnyPlaced final (row (map (tree_at (trees ps)) xs)) d at next)
      (sym (drop_none _ from e)) h
  any_core p from d next (Some k) true e l final at h =
      let n = eqb-true (from + 1) (length (ids_of (node_of ps p))) l in
      let rest = drop_past (ids_of (node_of ps p)) (from + 1) (omega (arith, n)) in
      subst (λ xs. AnyPlaced final (row (map (tree_at (trees ps)) xs)) d at next)
      (sym (drop_some _ from k e ∙ ap (λ xs. k ∷ xs) rest)) (inl (tt, h))
  any_core p from d next (Some k) false e l final at h =
      subst (λ xs. AnyPlaced final (row (map (tree_at (trees ps)) xs)) d at next)
      (sym (drop_some _ from k e)) (inr h)

  turn_core : (d next : ℕ) (m : parts.Node) → (final : List Node) (at : ℕ) →
      StepPlaced final (turn_step next m) d at next → TurnPlaced final (nest (trees ps) m) d at next
  turn_core d next (part.Repeat body min max lazy) final at h = h
  turn_core d next (part.OneRepeat item min max lazy) final at h = h
  turn_core d next part.Empty final at h = absurd h
  turn_core d next (part.One item) final at h = absurd h
  turn_core d next part.Break final at h = absurd h
  turn_core d next (part.Seq kids) final at h = absurd h
  turn_core d next (part.Group number branches) final at h = absurd h
  turn_core d next (part.Atomic branches) final at h = absurd h
  turn_core d next (part.Look ahead positive once branches) final at h = absurd h
  turn_core d next (part.Cond test yes' no') final at h = absurd h
  turn_core d next (part.Call n) final at h = absurd h
  turn_core d next (part.Ref groups caseless) final at h = absurd h
  turn_core d next (part.Anchor kind) final at h = absurd h
  turn_core d next part.KeepOut final at h = absurd h
  turn_core d next (part.VerbNode v) final at h = absurd h
  turn_core d next (part.Callout number from to pos len) final at h = absurd h

  less_one : (high low : ℕ) → (high - 1) - low ≡ high - suc low
  less_one high low = omega arith

  more_turns : (final : List Node) (P : Part) (low : ℕ) (high : Option ℕ) (at next m : ℕ) →
      IsRange (suc low) high → P at m →
      fragment.Turns final P low (one_less high) m next →
      fragment.Turns final P (suc low) high at next
  unfolding Copies
  more_turns final P low None at next m ok a b = (b.0, (m, a, b.1), b.2)
  more_turns final P low (Some high) at next m ok a b =
      (b.0, (m, a, b.1), (ok, subst (λ k. Options final P k b.0 next) (less_one high low) b.2.1))

  none_less : (n : ℕ) → n ≡ n - 0
  none_less n = omega arith

  skip_turn : (final : List Node) (P : Part) (high at next p m : ℕ) →
      IsNode final (Split p next) at → P p m →
      fragment.Turns final P 0 (Some high) m next →
      fragment.Turns final P 0 (Some (suc high)) at next
  unfolding Copies Options
  skip_turn final P high at next p m s a b =
      let rest = subst (λ k. Options final P k b.0 next) (sym (none_less high)) b.2.1 in (
        at,
        inl refl,
        (
          omega arith,
          subst (λ k. Options final P k at next) (none_less (suc high))
              (p, m, b.0, s, a, b.1, rest),
        ),
      )

  turns_core : (p low d next : ℕ) (high : Option ℕ) → IsRange low high →
      (final : List Node) (at : ℕ) →
      StepPlaced final (turns_step p next low high) d at next →
      fragment.Turns final (TurnPlaced final (tree_of ps p) d) low high at next
  unfolding Copies Options
  turns_core p (suc low) d next high ok final at h =
      more_turns final (TurnPlaced final (tree_of ps p) d) low high at next h.0 ok h.1 h.2
  turns_core p zero d next None ok final at h = (at, inl refl, h)
  turns_core p zero d next (Some zero) ok final at h = (at, inl refl, (omega arith, inr h))
  turns_core p zero d next (Some (suc high)) ok final at h =
      skip_turn final (TurnPlaced final (tree_of ps p) d) high at next h.0 h.1 h.2 h.3 h.4

  -- the branches of a lookbehind have the lengths that are told
  behind_core : (p from d next : ℕ) (backs : List Back) (o : Option ℕ) →
      slice_get (ids_of (node_of ps p)) from ≡ o →
      ((k : ℕ) → o ≡ Some k → HasBack (tree_of ps k) (back_at backs k)) →
      (final : List Node) (at : ℕ) →
      StepPlaced final (behind_step backs p from next o) d at next →
      BehindPlaced final (row_from ps p from) (d - 1) next (next - 1) at
  unfolding Placed
  behind_core p from d next backs None e known final at h =
      subst (λ xs. BehindPlaced final (row (map (tree_at (trees ps)) xs)) (d - 1) next
      (next - 1) at) (sym (drop_none _ from e)) h
  behind_core p from d next backs (Some k) e known final at h =
      subst (λ xs. BehindPlaced final (row (map (tree_at (trees ps)) xs)) (d - 1) next
      (next - 1) at) (sym (drop_some _ from k e))
      (back_at backs k, h.0, h.1, known k refl, h.2, h.3, h.4, h.5)

  -- the branches of a part that is a lookbehind
  behind_ids : (m : parts.Node) → is_behind (nest (trees ps) m) ≡ true →
      ids_of m ≡ behind_branches m
  behind_ids (part.Look false positive once branches) e = refl
  behind_ids (part.Look true positive once branches) e = absurd (false≢true e)
  behind_ids _ e = absurd (false≢true e)

  told_back : (classes p from root : ℕ) (backs : List Back) → IsPart ps classes p →
      IsWork root (Behind p from) → AreTold ps root backs → (k : ℕ) →
      slice_get (ids_of (node_of ps p)) from ≡ Some k →
      HasBack (tree_of ps k) (back_at backs k)
  told_back classes p from root backs part ok told k e =
      let behind : is_behind (nest (trees ps) (node_of ps p)) ≡ true = ap is_behind part.is
      ∙ ok.asked in
      let here = all_here IsMeasured (trees ps) (node_of ps p) part.tested
      (subst IsReady (sym part.is) ok.ready) in
      let b = known_branch (trees ps) (node_of ps p) from k here behind
      (ap (λ ks. slice_get ks from) (sym (behind_ids (node_of ps p) behind)) ∙ e) in
      let below = all_get (λ k. k < p) (ids_of (node_of ps p)) from k
      (ids_below (λ k. k < p) (node_of ps p) part.below) e in
      let inside : p ≤ root = ok.inside in
      subst (HasBack (tree_of ps k))
      (sym (told k b.0 (omega (arith, below, inside)) b.1 b.2)) b.1

  pub step_means : (classes : ℕ) (backs : List Back) (w : Work) (d next root : ℕ) →
      IsPart ps classes (part_of w) → IsWork root w → AreTold ps root backs →
      (final : List Node) (at : ℕ) → StepPlaced final (step_of ps backs w d next) d at next →
      WorkPlaced ps final w d at next
  step_means classes backs (work.Part p) d next root k ok told final at h =
      subst (λ t. Placed final t d at next) k.is
      (part_core p d next (node_of ps p) refl k.is final at h)
  step_means classes backs (All p from) d next root k ok told final at h =
      all_core p from d next (slice_get (ids_of (node_of ps p)) from) refl final at h
  step_means classes backs (Any p from) d next root k ok told final at h =
      any_core p from d next (slice_get (ids_of (node_of ps p)) from)
      (from + 1 == length (ids_of (node_of ps p))) refl refl final at h
  step_means classes backs (Turn p) d next root k ok told final at h =
      subst (λ t. TurnPlaced final t d at next) k.is
      (turn_core d next (node_of ps p) final at h)
  step_means classes backs (work.Turns p low high) d next root k ok told final at h =
      turns_core p low d next high ok.range final at h
  step_means classes backs (Ask p yes' no') d next root k ok told final at h =
      subst (λ t. TestPlaced final (test_of t) d (λ q. Placed final (tree_of ps yes') d q next)
      (λ q. OtherPlaced final (other_of (trees ps) no') d q next) at) k.is
      (ask_core p d next yes' no' (node_of ps p) refl (ap is_test k.is ∙ ok.asked.2) final at h)
  step_means classes backs (Behind p from) d next root k ok told final at h =
      behind_core p from d next backs (slice_get (ids_of (node_of ps p)) from) refl
      (λ j e. told_back classes p from root backs k ok told j e) final at h
