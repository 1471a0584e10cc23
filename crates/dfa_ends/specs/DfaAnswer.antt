-- What a DFA match answers: all ends at the first place that decides (pcre2matching, "The
-- alternative matching algorithm"; pcre2partial).
use Rattle.std.specs.Prelude.{◌≡◌, ℕ, zero, suc, ◌+◌, ◌-◌, Bool, true, false, ◌&&◌, ◌||◌, not, cond, List, [], ◌∷◌}
use Rattle.std.specs.Prelude.{length, Option, Some, None, ◌==◌, nat_lt}
use Rattle.pat_tree.specs.declared.nodes.Item.{Item}
use Rattle.pat_tree.specs.declared.options.PartialMode.{PartialMode}
use Rattle.pat_tree.specs.declared.options.PartialMode.TheVariants.{Soft, Hard}
use Rattle.pat_tree.specs.Nested as tree
use Rattle.pat_tree.specs.Nested.{Nested, Row, Test, Other}
use Rattle.match_items.specs.Items.{item_reaches, break_reaches, anchor_reaches}
use Rattle.ordered_search.specs.Setting.{Setting, has_lookbehind, can_be_empty, branch_lengths, endanchored}
use Rattle.ordered_search.specs.Setting.{notempty, notempty_atstart}
use Rattle.ordered_search.specs.PlaceAnswer.{Exhausted}
use Rattle.ordered_search.specs.Places.{within, place_after, is_excluded}
use Rattle.dfa_ends.specs.Ends.{Spot, spot, seen, tries, Reaches}
use Rattle.dfa_ends.specs.EndList.{further, most_turns, item_ends, begun_at, ends_list, any_list, behind_list}
use Rattle.dfa_ends.specs.EndList.{end_places}

unfoldable pub some_spot : (Spot → Bool) → List Spot → Bool
some_spot p [] = false
some_spot p (x ∷ xs) = elim (p x) [ true ↦ true | false ↦ some_spot p xs ]

abbrev pub some_is : List Spot → Bool
some_is [] = false
some_is (x ∷ xs) = true

module _ (g : Setting) where
  abbrev pub counts_at : Spot → Bool
  counts_at x = nat_lt x.early (length g.subject) || has_lookbehind g || can_be_empty g

  abbrev pub item_reaches_at : Item → Spot → Bool
  item_reaches_at item x = item_reaches g.scene item x.place && counts_at x

  -- before each turn that may be made
  unfoldable pub some_turn : (Spot → List Spot) → (Spot → Bool) → Option ℕ → Spot → Bool
  some_turn f p None x = some_spot p (further f (most_turns g 0 None x) (x ∷ []))
  some_turn f p (Some zero) x = false
  some_turn f p (Some (suc high)) x = some_spot p (further f high (x ∷ []))

  unfoldable mutual
    pub reach_test : Nested → Spot → Bool
    reach_test (tree.one item) x = item_reaches_at item x
    reach_test tree.line_break x = break_reaches g.scene x.place && counts_at x
    reach_test (tree.seq ts) x = all_reach ts x
    reach_test (tree.group number ts) x = any_reaches ts x
    reach_test (tree.repeat body low high lazily) x =
        some_turn (ends_list g body) (reach_test body) high x
    reach_test (tree.one_repeat item low high lazily) x =
        some_turn (item_ends g item) (item_reaches_at item) high x
    reach_test (tree.atomic ts) x = any_reaches ts x
    reach_test (tree.look true positive once ts) x = any_reaches ts x
    reach_test (tree.look false positive once ts) x = behind_reaches ts x
    reach_test (tree.condition test first second) x =
        test_reaches test x (reach_test first x) (other_reaches second x)
    reach_test (tree.anchor kind) x =
        anchor_reaches g.scene kind x.place && counts_at (seen g kind x)
    reach_test tree.empty x = false
    reach_test (tree.call n) x = false
    reach_test (tree.ref ns caseless) x = false
    reach_test tree.keep_out x = false
    reach_test (tree.verb v) x = false
    reach_test (tree.callout c) x = false

    pub all_reach : Row → Spot → Bool
    all_reach tree.none x = false
    all_reach (tree.more t ts) x = reach_test t x || some_spot (all_reach ts) (ends_list g t x)

    pub any_reaches : Row → Spot → Bool
    any_reaches tree.none x = false
    any_reaches (tree.more t ts) x = reach_test t x || any_reaches ts x

    pub behind_reaches : Row → Spot → Bool
    behind_reaches tree.none x = false
    behind_reaches (tree.more t ts) x =
        some_spot (reach_test t) (begun_at (tries g (branch_lengths g t) x.place) x)
        || behind_reaches ts x

    -- a where the test is so, b where it is not
    pub test_reaches : Test → Spot → Bool → Bool → Bool
    test_reaches (tree.assert true true once ts) x a b =
        any_reaches ts x || cond (some_is (any_list g ts x)) a b
    test_reaches (tree.assert true false once ts) x a b =
        any_reaches ts x || cond (some_is (any_list g ts x)) b a
    test_reaches (tree.assert false true once ts) x a b =
        behind_reaches ts x || cond (some_is (behind_list g ts x)) a b
    test_reaches (tree.assert false false once ts) x a b =
        behind_reaches ts x || cond (some_is (behind_list g ts x)) b a
    test_reaches (tree.called c test) x a b = test_reaches test x a b
    test_reaches tree.never x a b = b
    test_reaches tree.in_call x a b = b
    test_reaches (tree.any_set ns) x a b = false
    test_reaches (tree.in_call_of ns) x a b = false

    pub other_reaches : Other → Spot → Bool
    other_reaches tree.no_other x = false
    other_reaches (tree.other t) x = reach_test t x

  -- an end at q of a match that begins at p
  abbrev pub is_admitted : ℕ → ℕ → Bool
  is_admitted p q =
      not (endanchored g && not (q == length g.subject))
      && not ((p == q) && (notempty g || notempty_atstart g && (p == g.start)))

  unfoldable pub admitted : ℕ → List ℕ → List ℕ
  admitted p [] = []
  admitted p (q ∷ qs) =
      elim (is_admitted p q) [ true ↦ q ∷ admitted p qs | false ↦ admitted p qs ]

unfoldable pub last_of : List ℕ → List ℕ
last_of [] = []
last_of (q ∷ []) = q ∷ []
last_of (q ∷ q' ∷ qs) = last_of (q' ∷ qs)

pub data DfaAnswer : Type 0 where
  -- where the match begins, and its ends, the longest first
  EndsFrom : ℕ → List ℕ → DfaAnswer
  NoMatch : DfaAnswer
  PartialFrom : ℕ → DfaAnswer

-- what a place decides, if it does: by its ends, and by whether some test reached the subject's end
abbrev pub decision : PartialMode → ℕ → List ℕ → Bool → Option DfaAnswer
decision Hard p qs true = Some (PartialFrom p)
decision mode p (q ∷ qs) hit = Some (EndsFrom p (q ∷ qs))
decision Soft p [] true = Some (PartialFrom p)
decision mode p [] hit = None

-- Under DFA_SHORTEST only the shortest end counts.
module _ (g : Setting) (shortest : Bool) where
  abbrev pub ends_from : ℕ → List ℕ
  ends_from p =
      let qs = admitted g p (end_places g g.whole p) in
      cond shortest (last_of qs) qs

  abbrev pub decision_at : ℕ → Option DfaAnswer
  decision_at p =
      decision g.matching.«partial» p (ends_from p) (reach_test g g.whole (spot p p))

  -- the places from one on, n of them at most
  unfoldable pub from_place : ℕ → Option ℕ → DfaAnswer
  from_place zero p = NoMatch
  from_place (suc n) None = NoMatch
  from_place (suc n) (Some p) =
      elim (is_excluded g p) [
        | true ↦ from_place n (place_after g p Exhausted)
        | false ↦ elim (decision_at p) [
          | Some a ↦ a
          | None ↦ from_place n (place_after g p Exhausted)
        ]
      ]

  -- the first place that decides
  abbrev pub dfa_answer : DfaAnswer
  dfa_answer = from_place (length g.subject + 1 - g.start) (within g (Some g.start))

-- The test of reaching the end is the relation.
abbrev pub ReachLaw : Type 0
ReachLaw =
    (g : Setting) (t : Nested) (x : Spot) →
    (reach_test g t x ≡ true → Reaches g t x) × (Reaches g t x → reach_test g t x ≡ true)
