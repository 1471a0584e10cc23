-- Which groups can match an empty text, where none leads back to itself: answers that a round doesn't change.
use Rattle.std.proofs.Common.{◌≡◌, ◌∙◌, ℕ, zero, suc, ◌<◌, ◌++◌, ◌||◌, ◌&&◌, ◌==◌, Bool, true, false, List, [], ◌∷◌}
use Rattle.std.proofs.Common.{All, flat_map, get_or, length, Option, Some, None, inl, inr, refl, sym, ap, subst, arith}
use Rattle.std.proofs.lemmas.Grind.{flat_map-append}
use Rattle.std.proofs.lemmas.List.Elements.{All-head}
use Rattle.node_flow.proofs.Waiting.{all_front}
use Rattle.pat_tree.specs.Groups.{group_of}
use Rattle.pat_tree.specs.Nested as tree
use Rattle.pat_tree.specs.Nested.{Nested, Row, Test, Other}
use Rattle.pat_lengths.specs.Lengths.{leads_back, named_in_group, names_of_group}
use Rattle.pat_lengths.specs.Nodes.{captures, named_by, named_in, nodes, nodes_in, nodes_of_other, nodes_of_test}
use Rattle.pat_lengths.specs.Passing.{all_pass, flagged, is_at_most, other_passes, passes, ref_passes, some_passes}
use Rattle.pat_lengths.specs.Passing.{test_passes}
use Rattle.pat_lengths.specs.Rounds.{group_answer, rounds}
use Rattle.pat_lengths.specs.declared.rounds.Question.{Question}
use Rattle.pat_lengths.specs.declared.rounds.Question.TheVariants.{Passes}
use Rattle.pat_lengths.proofs.LeadingStable.{there}
use Rattle.pat_lengths.proofs.PlainLemmas.{all_behind}
use Rattle.pat_lengths.proofs.SettleLemmas.{named_lower, rank, rank_below}

module _ (any : Bool) (f g : ℕ → Bool) where
  abbrev Alike : List ℕ → Type 0
  Alike ns = All (λ x. f x ≡ g x) ns

  parts : (ts us : List Nested) → Alike (flat_map named_by (ts ++ us))
      → Alike (flat_map named_by ts) × Alike (flat_map named_by us)
  parts ts us h =
      let all = subst Alike (flat_map-append named_by ts us) h in (
        all_front (λ x. f x ≡ g x) (flat_map named_by ts) (flat_map named_by us) all,
        all_behind (λ x. f x ≡ g x) (flat_map named_by ts) (flat_map named_by us) all,
      )

  refers_alike : (ns : List ℕ) → Alike (ns ++ []) → ref_passes any f ns ≡ ref_passes any g ns
  refers_alike [] h = refl
  refers_alike (n ∷ []) h = ap (λ b. any || b) (All-head (λ x. f x ≡ g x) n [] h)
  refers_alike (n ∷ m ∷ ns) h = refl

  tests_alike : (test : Test) (b : Bool) → test_passes any f test b ≡ test_passes any g test b
  unfolding passes
  tests_alike tree.never b = refl
  tests_alike (tree.any_set ns) b = refl
  tests_alike tree.in_call b = refl
  tests_alike (tree.in_call_of ns) b = refl
  tests_alike (tree.assert ahead positive once ts) b = refl
  tests_alike (tree.called c test) b = refl

  mutual
    unfolding passes nodes

    -- where the groups that a tree names have the same answers, so has the tree
    pub same_pass : (t : Nested) → Alike (named_in t) → passes any f t ≡ passes any g t
    same_pass tree.empty h = refl
    same_pass (tree.one item) h = refl
    same_pass tree.line_break h = refl
    same_pass (tree.seq ts) h = all_alike ts h
    same_pass (tree.group number ts) h = some_alike ts h
    same_pass (tree.repeat t low high lazily) h =
        ap (λ b. is_at_most low high && (low == 0 || b)) (same_pass t h)
    same_pass (tree.one_repeat item low high lazily) h = refl
    same_pass (tree.atomic ts) h = some_alike ts h
    same_pass (tree.look ahead positive once ts) h = refl
    same_pass (tree.condition test first second) h =
        let both = parts (nodes_of_test true test ++ nodes true first) (nodes_of_other true second) h in
        let front = parts (nodes_of_test true test) (nodes true first) both.0 in
        tests_alike test (passes any f first || other_passes any f second)
        ∙ ap (λ b. test_passes any g test (b || other_passes any f second)) (same_pass first front.1)
        ∙ ap (λ b. test_passes any g test (passes any g first || b)) (others_alike second both.1)
    same_pass (tree.call n) h = All-head (λ x. f x ≡ g x) n [] h
    same_pass (tree.ref ns caseless) h = refers_alike ns h
    same_pass (tree.anchor a) h = refl
    same_pass tree.keep_out h = refl
    same_pass (tree.verb v) h = refl
    same_pass (tree.callout c) h = refl

    all_alike : (ts : Row) → Alike (flat_map named_by (nodes_in true ts)) → all_pass any f ts ≡ all_pass any g ts
    all_alike tree.none h = refl
    all_alike (tree.more t ts) h =
        let both = parts (nodes true t) (nodes_in true ts) h in
        ap (λ b. b && all_pass any f ts) (same_pass t both.0)
        ∙ ap (λ b. passes any g t && b) (all_alike ts both.1)

    some_alike : (ts : Row) → Alike (flat_map named_by (nodes_in true ts))
        → some_passes any f ts ≡ some_passes any g ts
    some_alike tree.none h = refl
    some_alike (tree.more t ts) h =
        let both = parts (nodes true t) (nodes_in true ts) h in
        ap (λ b. b || some_passes any f ts) (same_pass t both.0)
        ∙ ap (λ b. passes any g t || b) (some_alike ts both.1)

    others_alike : (second : Other) → Alike (flat_map named_by (nodes_of_other true second))
        → other_passes any f second ≡ other_passes any g second
    others_alike tree.no_other h = refl
    others_alike (tree.other t) h = same_pass t h

groups_alike : (any : Bool) (f g : ℕ → Bool) (o : Option Nested) → All (λ x. f x ≡ g x) (named_in_group o)
    → group_answer (Passes any) f o ≡ group_answer (Passes any) g o
groups_alike any f g None h = refl
groups_alike any f g (Some t) h = same_pass any f g t h

module _ (whole : Nested) (any : Bool) (of : List Bool) (none : (n : ℕ) → leads_back whole n ≡ false)
    (round : (n : ℕ) → flagged of n ≡ group_answer (Passes any) (flagged of) (group_of whole n)) where
  abbrev q : Question
  q = Passes any

  lacks : (n : ℕ) → group_of whole n ≡ None → flagged of n ≡ false
  lacks n h = round n ∙ ap (group_answer q (flagged of)) h

  never : (d n : ℕ) → group_of whole n ≡ None → rounds q whole d n ≡ false
  unfolding rounds
  never zero n h = refl
  never (suc d) n h = ap (group_answer q (rounds q whole d)) h

  rounds_is : (d n : ℕ) → rounds q whole (suc d) n ≡ group_answer q (rounds q whole d) (group_of whole n)
  unfolding rounds
  rounds_is d n = refl

  settled_by : (r n d : ℕ) → rank whole n < r → rank whole n < d → flagged of n ≡ rounds q whole d n
  settled_by zero n d l j = absurd (omega (arith, l))
  settled_by (suc r) n zero l j = absurd (omega (arith, j))
  settled_by (suc r) n (suc d) l j =
      round n
      ∙ groups_alike any (flagged of) (rounds q whole d) (group_of whole n)
      (λ i z lt. at_name (λ m lower. settled_by r m d (omega (arith, l, lower)) (omega (arith, j, lower))) i z lt)
      ∙ sym (rounds_is d n)
    where
      at_name : ((m : ℕ) → rank whole m < rank whole n → flagged of m ≡ rounds q whole d m) →
          (i z : ℕ) (lt : i < length (names_of_group whole n))
          → flagged of (get_or (names_of_group whole n) i z) ≡ rounds q whole d (get_or (names_of_group whole n) i z)
      at_name later i z lt =
          let m = get_or (names_of_group whole n) i z in
          elim (named_lower whole n i z lt (none m)) [
            | inl lost ↦ lacks m lost ∙ sym (never d m lost)
            | inr lower ↦ later m lower
          ]

  pub all_answered : (n : ℕ) → flagged of n ≡ rounds q whole (suc (captures whole)) n
  all_answered n = elim (there whole n n) [
    | inl lost ↦ lacks n lost ∙ sym (never (suc (captures whole)) n lost)
    | inr at ↦ settled_by (suc (rank whole n)) n (suc (captures whole)) (omega arith) (rank_below whole n (none n) at)
  ]
