-- Later start places in the first run of a pattern fail where an earlier one fails.
use Rattle.std.proofs.Common.{refl, sym, ap, subst, ◌≡◌, ℕ, zero, suc, ◌+◌, ◌≤◌, ◌&&◌, ◌||◌, ◌==◌, not, Bool, true}
use Rattle.std.proofs.Common.{false, List, [], ◌∷◌, ◌++◌, length, drop, reverse, Option, Some, None, ◌∙◌, arith}
use Rattle.std.specs.Prelude.{nat_le}
use Rattle.pat_tree.specs.declared.options.PartialMode.TheVariants.{Off}
use Rattle.pat_tree.specs.declared.nodes.Item.{Item}
use Rattle.pat_tree.specs.Nested.{Nested, Row, one_repeat, seq, group, none, more}
use Rattle.match_items.specs.Items.{longest_run}
use Rattle.ordered_search.specs.Stream.{State, first_state, by_halt, too_many_units, How, reached, accepted, Stream}
use Rattle.ordered_search.specs.Stream.{ends, gives, ◌or_else◌}
use Rattle.ordered_search.specs.Setting.{Setting, match_limit, notempty, notempty_atstart, held, hold}
use Rattle.ordered_search.specs.Tests.{move_to, offers, greedy, run_many}
use Rattle.ordered_search.specs.Parts.{Searches, in_order, branches, run_group}
use Rattle.ordered_search.specs.Run.{level, levels, run}
use Rattle.ordered_search.specs.PlaceAnswer.{PlaceAnswer, Matched, Failed, Exhausted, Walked, outcome, answers}
use Rattle.ordered_search.specs.PlaceAnswer.{decision, is_refused_as_empty, is_refused_by_end, walk}
use Rattle.ordered_search.specs.Plain.{IsPlain, ArePlain}
use Rattle.ordered_search.specs.LaterPlaces.{first_run, run_of_first, run_of_only, BeginsWithRun, run_end}
use Rattle.ordered_search.specs.LaterPlaces.{LaterPlacesLaw}
use Rattle.ordered_search.proofs.FollowStreams.{IsNear, Follows, at_limit, at_stop, at_end, at_state, at_step}
use Rattle.ordered_search.proofs.FollowStreams.{follows_gives, follows_or_else, follows_each, follows_and_then}
use Rattle.ordered_search.proofs.FollowSearch.{KeepsBelow, near_moved, near_captured, keeps_in_order, keep_levels}
use Rattle.ordered_search.proofs.FollowSearch.{keeps_run, follows_reach, held_apart, follows_hold}
use Rattle.ordered_search.proofs.LaterRuns.{IsRest, begins_reversed, later_rest}

same_item : (a b : Item) → Some a ≡ Some b → a ≡ b
same_item a b e = cc

module _ (g : Setting) (off : g.matching.«partial» ≡ Off) where
  -- a begin of what is offered
  follows_begin : (ps qs : List ℕ) (t s : State) → t.units ≤ s.units
      → Follows true (offers g ps t) (offers g (ps ++ qs) s)
  unfolding offers hold held ◌or_else◌
  follows_begin [] qs t s few = at_stop refl
  follows_begin (p ∷ []) [] t s few = at_step (follows_gives reached _ _ (near_moved p t s few))
  follows_begin (p ∷ []) (q ∷ qs) t s few =
      at_step (by_test (nat_le (s.units + 1) g.matching.frame_limit))
    where
      by_test : (b : Bool) → Follows true (gives reached (move_to p t))
          ((elim b [
            | true ↦ gives reached (record (move_to p s) { units = s.units + 1 })
            | false
                ↦ ends (by_halt too_many_units)
          ]) or_else offers g (q ∷ qs) s)
      by_test true = at_state reached _ _ (record { place = refl; units = omega arith })
          (at_stop refl)
      by_test false = at_limit
  follows_begin (p ∷ p' ∷ ps) qs t s few =
      at_step (follows_or_else (follows_hold g off reached _ _ (near_moved p t s few))
      (follows_begin (p' ∷ ps) qs t s few))

  module _ (item : Item) where
    -- at a later place of the run of an item, with no more units
    record IsLater (t s : State) : Type 0 where
      rest : IsRest (t.place ∷ longest_run g.scene item None t.place)
          (s.place ∷ longest_run g.scene item None s.place)
      units : t.units ≤ s.units

    follows_greedy : (low : ℕ) (t s : State) → IsLater t s
        → Follows true (run_many g item low None false t) (run_many g item low None false s)
    unfolding run_many greedy
    follows_greedy low t s later =
        let ts = t.place ∷ longest_run g.scene item None t.place in
        let ss = s.place ∷ longest_run g.scene item None s.place in
        let begun = begins_reversed low ss ts later.rest in
        follows_reach g off _ _ t s _ _
        (subst (λ ps. Follows true (offers g (reverse (drop low ts)) t) (offers g ps s))
        (sym begun.1) (follows_begin (reverse (drop low ts)) begun.0 t s later.units))

    module _ (below : Searches) (keeps : KeepsBelow below) where
      mutual
        unfolding level levels in_order run_group branches

        follows_first : (t : Nested) → IsPlain t → first_run t ≡ Some item → (u v : State)
            → IsLater u v → Follows true (level g below t u) (level g below t v)
        follows_first (one_repeat other low None false) plain e u v later =
            subst (λ i. Follows true (run_many g i low None false u)
            (run_many g i low None false v)) (sym (same_item other item e))
            (follows_greedy low u v later)
        follows_first (seq ts) plain e u v later = follows_row ts plain e u v later
        follows_first (group number ts) plain e u v later =
            follows_group number ts plain e u v later
        follows_first t plain e u v later = absurd (cc e)

        follows_row : (ts : Row) → ArePlain ts → run_of_first ts ≡ Some item → (u v : State)
            → IsLater u v
            → Follows true (in_order (levels g below ts) u) (in_order (levels g below ts) v)
        follows_row none plain e u v later = absurd (cc e)
        follows_row (more t ts) plain e u v later =
            follows_and_then (follows_first t plain.0 e u v later)
            (keeps_in_order _ (keep_levels g off below keeps ts plain.1))

        follows_group : (number : Option ℕ) (ts : Row) → ArePlain ts → run_of_only ts ≡ Some item
            → (u v : State) → IsLater u v
            → Follows true (run_group g number (branches g (levels g below ts)) u)
            (run_group g number (branches g (levels g below ts)) v)
        follows_group number none plain e u v later = absurd (cc e)
        follows_group None (more t none) plain e u v later = follows_first t plain.0 e u v later
        follows_group (Some n) (more t none) plain e u v later =
            held_apart g off 1 u v _ _ later.units
            (follows_each
            (follows_first t plain.0 e _ _
            (record { rest = later.rest; units = let few = later.units in omega arith }))
            (λ how w z near. follows_hold g off how _ _ (near_captured n u.place v.place w z near)))
        follows_group number (more t (more t' ts)) plain e u v later = absurd (cc e)

  -- What is walked.

  not_empty : (s : State) → notempty g ≡ false → notempty_atstart g ≡ false
      → is_refused_as_empty g s ≡ false
  not_empty s e h =
      ap (λ b. (s.keep == s.place) && (b || notempty_atstart g && (s.keep == g.start))) e
      ∙ ap (λ b. (s.keep == s.place) && (b && (s.keep == g.start))) h ∙ never (s.keep == s.place)
    where
      never : (b : Bool) → (b && false) ≡ false
      never true = refl
      never false = refl

  abbrev decision_of : Bool → Bool → How → State → Option PlaceAnswer
  decision_of empty by_end how s =
      elim empty [
        | true ↦ None
        | false ↦ elim by_end [
          | false ↦ Some (Matched (outcome s))
          | true ↦ elim how [ reached ↦ None | accepted ↦ Some (Failed Exhausted) ]
        ]
      ]

  abbrev walked : Option PlaceAnswer → Walked → Walked
  walked d w = elim d [ None ↦ w | Some a ↦ answers a ]

  decided_alike : (by_end : Bool) (how : How) (t s : State) (y x : Walked)
      → (x.answer ≡ Failed Exhausted → y ≡ answers (Failed Exhausted))
      → (walked (decision_of false by_end how s) x).answer ≡ Failed Exhausted
      → walked (decision_of false by_end how t) y ≡ answers (Failed Exhausted)
  decided_alike false how t s y x along e = absurd (cc e)
  decided_alike true reached t s y x along e = along e
  decided_alike true accepted t s y x along e = refl

  module _ (any_length : notempty g ≡ false) (any_start : notempty_atstart g ≡ false) where
    decision_is : (how : How) (t s : State) → IsNear t s
        → decision g how t ≡ decision_of false (is_refused_by_end g s) how t
    decision_is how t s near =
        ap (λ b. decision_of b (is_refused_by_end g t) how t) (not_empty t any_length any_start)
        ∙ ap (λ b. decision_of false b how t)
        (ap (λ p. (g.options.endanchored || g.matching.endanchored)
        && not (p == length g.subject)) near.place)

    walk_follows : {b : Bool} {y x : Stream} → Follows b y x → (n : ℕ)
        → (walk g n x).answer ≡ Failed Exhausted → walk g n y ≡ answers (Failed Exhausted)
    unfolding walk
    walk_follows at_limit n e = absurd (cc e)
    walk_follows (at_stop s) n e = refl
    walk_follows (at_end a) n e = ap answers e
    walk_follows (at_state {y = y} {x = x} how t s near h) n e =
        ap (λ d. walked d (walk g n y)) (decision_is how t s near)
        ∙ decided_alike (is_refused_by_end g s) how t s (walk g n y) (walk g n x) (walk_follows h n)
        (subst (λ d. (walked d (walk g n x)).answer ≡ Failed Exhausted)
        (decision_is how s s (record { place = refl; units = omega arith })) e)
    walk_follows (at_step h) zero e = absurd (cc e)
    walk_follows (at_step h) (suc n) e = walk_follows h n e

follows_whole : (g : Setting) (item : Item) → BeginsWithRun g item → (d p q : ℕ) → p ≤ q
    → q ≤ run_end g item p
    → Follows true (run g (suc d) g.whole (first_state g.groups q))
    (run g (suc d) g.whole (first_state g.groups p))
unfolding run
follows_whole g item begins d p q ordered within =
    follows_first g begins.off item (run g d) (keeps_run g begins.off d) g.whole begins.plain
    begins.first _ _
    (record { rest = later_rest g.scene item begins.bytes p q ordered within; units = omega arith })

pub later_places : LaterPlacesLaw
later_places g item begins p q ordered within failed =
    let e : match_limit g + 1 ≡ suc (match_limit g) = omega arith in
    walk_follows g begins.off begins.any_length begins.any_start
    (subst (λ d. Follows true (run g d g.whole (first_state g.groups q))
    (run g d g.whole (first_state g.groups p))) (sym e)
    (follows_whole g item begins (match_limit g) p q ordered within))
    (match_limit g) failed
