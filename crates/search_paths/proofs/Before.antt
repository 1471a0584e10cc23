-- Without its pauses a path is the search of the definitions before what follows.
use Rattle.std.proofs.Common.{◌≡◌, ℕ, zero, suc, ◌+◌, ◌∙◌, Bool, true, false, ◌∷◌, Option, Some, None, refl, sym, ap}
use Rattle.pat_tree.specs.declared.nodes.Verb.{Verb}
use Rattle.pat_tree.specs.declared.nodes.Verb.TheVariants.{Accept, Fail, Commit, Prune, Skip, Then, Mark}
use Rattle.pat_tree.specs.Nested as tree
use Rattle.pat_tree.specs.Nested.{Nested, Row, Test, Other}
use Rattle.pat_tree.specs.Groups.{group_of}
use Rattle.match_items.specs.Items.{after_item, item_reaches, after_break, break_reaches}
use Rattle.ordered_search.specs.Stream.{State, first_state, next_branch, prune, skip, commit, loop, Ending}
use Rattle.ordered_search.specs.Stream.{exhausted, by_verb, by_halt, name, How, reached, accepted, note, state, step}
use Rattle.ordered_search.specs.Stream.{Stream, Search, ends, ◌▸◌, nothing, gives, each, catch, is_verb, changes}
use Rattle.ordered_search.specs.Stream.{shown}
use Rattle.ordered_search.specs.Setting.{Setting, held, hold, match_limit, branch_lengths}
use Rattle.ordered_search.specs.Tests.{run_one, run_break}
use Rattle.ordered_search.specs.Parts.{Searches, branches, run_group, some_set, is_called, is_called_of, block_of}
use Rattle.ordered_search.specs.Parts.{run_callout, run_tree, is_active, returns, run_call, named, skip_to, backs}
use Rattle.ordered_search.specs.Parts.{run_verb}
use Rattle.ordered_search.specs.Run.{level, levels, run, levels_behind, level_test, level_other}
use Rattle.ordered_search.specs.PlaceAnswer.{with_note, answers, decision, walk, place_answer}
use Rattle.ordered_search.specs.Moves.{Moves, stops, pause, stepped, noted, found, exhaust, Follow, Handler, Path}
use Rattle.ordered_search.specs.Moves.{before, at_end, at_verbs, holding, tread}
use Rattle.ordered_search.specs.Paths.{Paths, branch_paths, path, row_paths, paths, only_many, behind_paths}
use Rattle.ordered_search.specs.Paths.{test_path, other_path, pauses, returned, called_path, call_path, ended}
use Rattle.ordered_search.specs.Paths.{named_path, backs_path, verb_path}
use Rattle.search_paths.specs.Pauses.{strip}
use Rattle.search_paths.proofs.Streams.{before_each, before_catch_verb, IsStripped, AreStripped, IsSearch}
use Rattle.search_paths.proofs.Streams.{strip_going, ArePaths, strip_parts, strip_holding, strip_hold}
use Rattle.search_paths.proofs.Streams.{strip_reaching, strip_if, strip_ref, strip_anchor, strip_many}
use Rattle.search_paths.proofs.Groups.{strip_branches, strip_capture, strip_repeat, strip_behind, strip_over}
use Rattle.search_paths.proofs.Groups.{only_search, strip_look, strip_assert, strip_chosen, strip_answered}

module _ (g : Setting) where
  -- Calls.

  strip_pauses : (n : ℕ) (f : Moves) → strip (pauses n f) ≡ strip f
  unfolding strip
  strip_pauses zero f = refl
  strip_pauses (suc n) f = strip_pauses n f

  -- a call is left
  returned_stripped : (s : State) (k l : Follow) (j : Handler) → IsStripped k l →
      IsStripped (returned g s k) (λ how u m. before (returns g s how u) l m j)
  unfolding before strip returns
  returned_stripped s k l j e = record {
    same = λ how u m.
        let count : ℕ = changes u.caps s.caps in
        strip_holding g count (record u { caps = s.caps; calls = s.calls }) (λ t. k reached t (pauses count m))
        (gives reached) l (strip m) j
        (λ t. e.same reached t (pauses count m) ∙ ap (l reached t) (strip_pauses count m));
  }

  module _ (below : Paths) (under : Searches) (same : (t : Nested) → IsSearch (below t) (under t)) where
    -- the group that is called, if it is there
    strip_called : (o : Option Nested) (s t : State) (k l : Follow) (f : Moves) (j : Handler) → IsStripped k l →
        strip (called_path o below t (returned g s k) (pause f) (λ v. pause f))
        ≡ before (catch is_verb (each (run_tree o under t) (returns g s))) l (strip f) j
    unfolding before strip run_tree each catch
    strip_called None s t k l f j e = refl
    strip_called (Some x) s t k l f j e =
        (same x).is t (returned g s k) (λ how u m. before (returns g s how u) l m (λ v. strip f)) (pause f)
        (λ v. pause f) (λ v. strip f)
        (returned_stripped s k l (λ v. strip f) e) (record { same = λ v. refl })
        ∙ sym (before_each (under x t) (returns g s) l (strip f) (λ v. strip f))
        ∙ sym (before_catch_verb (each (under x t) (returns g s)) l (strip f) j)

    strip_call : (n : ℕ) → IsSearch (call_path g below n) (run_call g under n)
    unfolding before strip call_path run_call
    strip_call n = record {
      is = λ s k l f h j e r.
          let called : State → State = λ t. record t { calls = (n, s.place) ∷ s.calls } in
          let o : Option Nested = group_of g.whole n in
          let inside : State → Moves = λ t. called_path o below (called t) (returned g s k) (pause f) (λ v. pause f) in
          let stream : Search = λ t. catch is_verb (each (run_tree o under (called t)) (returns g s)) in
          ap stepped
          (strip_if g (is_active n s.place s.calls) (stops (by_halt loop)) (holding g 1 s inside)
          (ends (by_halt loop)) (held g 1 s stream) l (strip f) j refl
          (strip_holding g 1 s inside stream l (strip f) j (λ t. strip_called o s (called t) k l f j e)));
    }

  -- Verbs.

  strip_ended : (e : Ending) (l : Follow) (f : Moves) (h j : Handler) → AreStripped h j
      → strip (ended e f h) ≡ before (ends e) l (strip f) j
  unfolding before strip
  strip_ended exhausted l f h j r = refl
  strip_ended (by_verb v) l f h j r = r.same v
  strip_ended (by_halt x) l f h j r = refl

  strip_backs : (e : Ending) → IsSearch (backs_path g e) (backs g e)
  unfolding before strip backs
  strip_backs e = record {
    is = λ s k l f h j x r.
        strip_holding g 1 s (λ t. k reached t (pause (pause (ended e f h)))) (λ t. state reached t ▸ ends e) l
        (strip f) j
        (λ t. x.same reached t (pause (pause (ended e f h))) ∙ ap (l reached t) (strip_ended e l f h j r));
  }

  -- a name is met
  strip_named : (o : Option ℕ) (is_noted : Bool) (s : State) (x : State → Moves) (w : Search) (l : Follow) (f : Moves)
      (j : Handler) →
      ((t : State) → strip (x t) ≡ before (w t) l f j) → strip (named_path g o is_noted s x) ≡ before
      (named o is_noted s w) l f j
  unfolding before strip named
  strip_named None is_noted s x w l f j same = same s
  strip_named (Some n) false s x w l f j same = ap (noted (name n)) (same (record s { mark = Some n }))
  strip_named (Some n) true s x w l f j same = ap (noted (name n))
      (same (record s { mark = Some n; passed = (n, s.place) ∷ s.passed }))

  -- a verb that acts when it is backtracked onto
  strip_backs_to : (o : Option ℕ) (e : Ending)
      → IsSearch (λ s k f h. named_path g o false s (λ t. backs_path g e t k f h)) (λ s. named o false s (backs g e))
  strip_backs_to o e = record {
    is = λ s k l f h j x r.
        strip_named o false s (λ t. backs_path g e t k f h) (backs g e) l (strip f) j
        (λ t. (strip_backs e).is t k l f h j x r);
  }

  -- a verb that is passed and does nothing then
  strip_passed : (o : Option ℕ) (how : How)
      → IsSearch (λ s k f h. named_path g o true s (λ t. holding g 1 t (λ u. k how u (pause f))))
      (λ s. named o true s (hold g how))
  unfolding strip
  strip_passed o how = record {
    is = λ s k l f h j x r.
        strip_named o true s (λ t. holding g 1 t (λ u. k how u (pause f))) (hold g how) l (strip f) j
        (λ t. strip_hold g how t (λ u. k how u (pause f)) l (strip f) j (λ u. x.same how u (pause f)));
  }

  strip_verb : (v : Verb) → IsSearch (verb_path g v) (run_verb g v)
  unfolding before strip run_verb
  strip_verb (Accept None) = record { is = λ s k l f h j e r. e.same accepted s f }
  strip_verb (Accept (Some n)) = record { is = (strip_passed (Some n) accepted).is }
  strip_verb (Fail None) = record { is = λ s k l f h j e r. refl }
  strip_verb (Fail (Some n)) = record {
    is = λ s k l f h j e r.
        strip_named (Some n) true s (λ t. holding g 1 t (λ u. f)) (λ t. held g 1 t (λ u. nothing)) l (strip f) j
        (λ t. strip_holding g 1 t (λ u. f) (λ u. nothing) l (strip f) j (λ u. refl));
  }
  strip_verb (Mark o) = record { is = (strip_passed o reached).is }
  strip_verb (Commit o) = record { is = (strip_backs_to o (by_verb commit)).is }
  strip_verb (Prune o) = record { is = (strip_backs_to o (by_verb prune)).is }
  strip_verb (Then o) = record { is = (strip_backs_to o (by_verb next_branch)).is }
  strip_verb (Skip None) = record { is = λ s k l f h j e r. (strip_backs (by_verb (skip s.place))).is s k l f h j e r }
  strip_verb (Skip (Some n)) =
      record { is = λ s k l f h j e r. (strip_backs (skip_to g n s.passed)).is s k l f h j e r }

  -- The trees.

  module _ (d : ℕ) (same : (t : Nested) → IsSearch (paths g d t) (run g d t)) where
    mutual
      unfolding before strip level path run_one run_break run_group run_callout

      strip_path : (t : Nested) (s : State) (k l : Follow) (f : Moves) (h j : Handler) → IsStripped k l
          → AreStripped h j →
          strip (path g d (paths g d) t s k f h) ≡ before (level g (run g d) t s) l (strip f) j
      strip_path tree.empty s k l f h j e r = e.same reached s f
      strip_path (tree.one item) s k l f h j e r =
          strip_reaching g (item_reaches g.scene item s.place) s _ _ l (strip f) j
          (strip_going (after_item g.scene item s.place) s k l f j e)
      strip_path tree.line_break s k l f h j e r =
          strip_reaching g (break_reaches g.scene s.place) s _ _ l (strip f) j
          (strip_going (after_break g.scene s.place) s k l f j e)
      strip_path (tree.seq ts) s k l f h j e r =
          (strip_parts (row_paths g d (paths g d) ts) (levels g (run g d) ts) (strip_row ts)).is s k l f h j e r
      strip_path (tree.group None ts) s k l f h j e r =
          (strip_branches g (row_paths g d (paths g d) ts) (levels g (run g d) ts) (strip_row ts)).is s k l f h j e r
      strip_path (tree.group (Some n) ts) s k l f h j e r =
          strip_capture g n (branch_paths g (row_paths g d (paths g d) ts)) (branches g (levels g (run g d) ts))
          (strip_branches g (row_paths g d (paths g d) ts) (levels g (run g d) ts) (strip_row ts)) s k l f h j e r
      strip_path (tree.repeat body low high lazily) s k l f h j e r =
          strip_repeat g (paths g d) (run g d) same body low high lazily s k l f h j e r
      strip_path (tree.one_repeat item low high lazily) s k l f h j e r = strip_many g item low high lazily s k l f j e
      strip_path (tree.ref ns caseless) s k l f h j e r = strip_ref g ns caseless s k l f j e
      strip_path (tree.anchor kind) s k l f h j e r = strip_anchor g kind s k l f j e
      strip_path tree.keep_out s k l f h j e r = e.same reached (record s { keep = s.place }) f
      strip_path (tree.atomic ts) s k l f h j e r =
          (strip_over g (only_many ts) (branch_paths g (row_paths g d (paths g d) ts))
          (branches g (levels g (run g d) ts))
          (strip_branches g (row_paths g d (paths g d) ts) (levels g (run g d) ts) (strip_row ts))
          (only_search g (run g d) ts)).is s k l f h j e r
      strip_path (tree.look true positive once ts) s k l f h j e r =
          (strip_look g positive once (branch_paths g (row_paths g d (paths g d) ts))
          (branches g (levels g (run g d) ts))
          (strip_branches g (row_paths g d (paths g d) ts) (levels g (run g d) ts) (strip_row ts))).is s k l f h j e r
      strip_path (tree.look false positive once ts) s k l f h j e r =
          (strip_look g positive once (branch_paths g (behind_paths g d (paths g d) ts))
          (branches g (levels_behind g (run g d) ts))
          (strip_branches g (behind_paths g d (paths g d) ts) (levels_behind g (run g d) ts)
          (strip_row_behind ts))).is s k l f h j e r
      strip_path (tree.condition test first second) s k l f h j e r =
          strip_test test (path g d (paths g d) first) (other_path g d (paths g d) second) (level g (run g d) first)
          (level_other g (run g d) second)
          (record { is = strip_path first }) (strip_other second) s k l f h j e r
      strip_path (tree.call n) s k l f h j e r = (strip_call (paths g d) (run g d) same n).is s k l f h j e r
      strip_path (tree.verb v) s k l f h j e r = (strip_verb v).is s k l f h j e r
      strip_path (tree.callout c) s k l f h j e r =
          ap (noted (shown (block_of c s)))
          (strip_answered g (g.reply (block_of c s)) (k reached s f) f (gives reached s) l j (e.same reached s f))

      strip_row : (ts : Row) → ArePaths (row_paths g d (paths g d) ts) (levels g (run g d) ts)
      strip_row tree.none = tt
      strip_row (tree.more t ts) = (record { is = strip_path t }, strip_row ts)

      strip_row_behind : (ts : Row) → ArePaths (behind_paths g d (paths g d) ts) (levels_behind g (run g d) ts)
      strip_row_behind tree.none = tt
      strip_row_behind (tree.more t ts) = (
        strip_behind g (branch_lengths g t) (path g d (paths g d) t) (level g (run g d) t)
            (record { is = strip_path t }),
        strip_row_behind ts,
      )

      strip_test : (test : Test) (q q' : Path) (y y' : Search) → IsSearch q y → IsSearch q' y' →
          (s : State) (k l : Follow) (f : Moves) (h j : Handler) → IsStripped k l → AreStripped h j →
          strip (test_path g d (paths g d) test q q' s k f h) ≡ before (level_test g (run g d) test y y' s) l
          (strip f) j
      strip_test (tree.any_set ns) q q' y y' a b s k l f h j e r =
          (strip_chosen g (some_set s.caps ns) q q' y y' a b).is s k l f h j e r
      strip_test tree.in_call q q' y y' a b s k l f h j e r =
          (strip_chosen g (is_called s.calls) q q' y y' a b).is s k l f h j e r
      strip_test (tree.in_call_of ns) q q' y y' a b s k l f h j e r =
          (strip_chosen g (is_called_of s.calls ns) q q' y y' a b).is s k l f h j e r
      strip_test tree.never q q' y y' a b s k l f h j e r = b.is s k l f h j e r
      strip_test (tree.assert true positive once ts) q q' y y' a b s k l f h j e r =
          (strip_assert g positive (branch_paths g (row_paths g d (paths g d) ts)) q q'
          (branches g (levels g (run g d) ts)) y y'
          (strip_branches g (row_paths g d (paths g d) ts) (levels g (run g d) ts) (strip_row ts)) a b).is s k l f h j
          e r
      strip_test (tree.assert false positive once ts) q q' y y' a b s k l f h j e r =
          (strip_assert g positive (branch_paths g (behind_paths g d (paths g d) ts)) q q'
          (branches g (levels_behind g (run g d) ts)) y y'
          (strip_branches g (behind_paths g d (paths g d) ts) (levels_behind g (run g d) ts) (strip_row_behind ts)) a
          b).is s k l f h j e r
      strip_test (tree.called x test) q q' y y' a b s k l f h j e r =
          ap (noted (shown (block_of x s)))
          (strip_answered g (g.reply (block_of x s)) (test_path g d (paths g d) test q q' s k f h) f
          (level_test g (run g d) test y y' s) l j
          (strip_test test q q' y y' a b s k l f h j e r))

      strip_other : (second : Other) → IsSearch (other_path g d (paths g d) second) (level_other g (run g d) second)
      strip_other tree.no_other = record { is = λ s k l f h j e r. e.same reached s f }
      strip_other (tree.other t) = record { is = strip_path t }

  pub strip_paths : (d : ℕ) (t : Nested) → IsSearch (paths g d t) (run g d t)
  unfolding before strip paths run
  strip_paths zero t = record { is = λ s k l f h j e r. refl }
  strip_paths (suc d) t = record { is = strip_path d (strip_paths d) t }

  -- The walk doesn't see the pauses.

  pub tread_strip : (n : ℕ) (x : Moves) → tread g n (strip x) ≡ tread g n x
  unfolding tread strip
  tread_strip n (stops e) = refl
  tread_strip n (pause x) = tread_strip n x
  tread_strip n (noted k x) = ap (with_note k) (tread_strip n x)
  tread_strip n (found how s x) =
      elim (decision g how s)
      as (λ o. elim o [ None ↦ tread g n (strip x) | Some a ↦ answers a ] ≡ elim o
      [ None ↦ tread g n x | Some a ↦ answers a ]) [
        | None ↦ tread_strip n x
        | Some a ↦ refl
      ]
  tread_strip zero (stepped x) = refl
  tread_strip (suc n) (stepped x) = tread_strip n x

  tread_walk : (n : ℕ) (x : Stream) → tread g n (before x at_end exhaust at_verbs) ≡ walk g n x
  unfolding tread before walk
  tread_walk n (ends exhausted) = refl
  tread_walk n (ends (by_verb v)) = refl
  tread_walk n (ends (by_halt a)) = refl
  tread_walk n (note k ▸ x) = ap (with_note k) (tread_walk n x)
  tread_walk n (state how s ▸ x) =
      elim (decision g how s)
      as (λ o. elim o [ None ↦ tread g n (before x at_end exhaust at_verbs) | Some a ↦ answers a ] ≡ elim o
      [ None ↦ walk g n x | Some a ↦ answers a ]) [
        | None ↦ tread_walk n x
        | Some a ↦ refl
      ]
  tread_walk zero (step ▸ x) = refl
  tread_walk (suc n) (step ▸ x) = tread_walk n x

  -- the whole pattern from its first state
  pub tread_whole : (p : ℕ) →
      tread g (match_limit g) (paths g (match_limit g + 1) g.whole (first_state g.groups p) at_end exhaust at_verbs)
      ≡ place_answer g p
  unfolding strip
  tread_whole p =
      let x : Moves = paths g (match_limit g + 1) g.whole (first_state g.groups p) at_end exhaust at_verbs in
      sym (tread_strip (match_limit g) x)
      ∙ ap (tread g (match_limit g))
      ((strip_paths (match_limit g + 1) g.whole).is (first_state g.groups p) at_end at_end exhaust at_verbs at_verbs
      (record { same = λ how s f. refl }) (record { same = λ v. refl }))
      ∙ tread_walk (match_limit g) (run g (match_limit g + 1) g.whole (first_state g.groups p))
