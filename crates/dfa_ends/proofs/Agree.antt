-- The ordered search fits the ends.
use Rattle.std.proofs.Common.{◌≡◌, ℕ, zero, suc, ◌⊎◌, Bool, true, false, List, [], ◌∷◌, Option, Some, None, refl}
use Rattle.std.proofs.Common.{subst, inl, inr}
use Rattle.pat_tree.specs.declared.options.PartialMode.TheVariants.{Off}
use Rattle.pat_tree.specs.declared.nodes.Verb.TheVariants.{Accept, Fail, Commit, Prune, Skip, Then, Mark}
use Rattle.pat_tree.specs.Nested as tree
use Rattle.pat_tree.specs.Nested.{Nested, Row, Test, Other}
use Rattle.ordered_search.specs.Stream.{State, first_state, exhausted, by_verb, by_halt, is_partial, too_many_units}
use Rattle.ordered_search.specs.Stream.{loop, abort, cut, reached, accepted, name, note, state, step, Stream, Search}
use Rattle.ordered_search.specs.Stream.{ends, ◌▸◌}
use Rattle.ordered_search.specs.Setting.{Setting, branch_lengths}
use Rattle.ordered_search.specs.Parts.{Searches, choices, branches, in_order, tests, is_called, named, run_verb}
use Rattle.ordered_search.specs.Run.{level, levels, levels_behind, level_test, level_other, run}
use Rattle.ordered_search.specs.Laws.{ending}
use Rattle.dfa_ends.specs.Ends.{spot, Spots, Way, TryEnds, Ends, AllEnd, AnyEnds, AnyEndsBehind, IsSo, IsNot, OtherEnds}
use Rattle.dfa_ends.specs.TwoMatchers.{Occurs, Ordered, IsCommon, AreCommon, IsCommonTest, IsCommonOther, Agrees}
use Rattle.dfa_ends.proofs.Fits.{Fits, Sound, Done, fits_same, fits_nothing, fits_cut, fits_note, fits_held}
use Rattle.dfa_ends.proofs.FitItems.{FitsSearch, fit_one, fit_break, fit_anchor, fit_many}
use Rattle.dfa_ends.proofs.FitForms.{all_none, in_order_none, all_more, choices_none, choices_last, choices_more}
use Rattle.dfa_ends.proofs.FitForms.{branches_none, branches_one, branches_two, fit_group, fit_behind, fit_look}
use Rattle.dfa_ends.proofs.FitForms.{fit_not_look, Branching, fit_asserts, fit_asserts_not, Turns, fit_repeat}

module _ (g : Setting) where
  fit_fail : (n : Option ℕ) → FitsSearch (λ x y. ⊥) (run_verb g (Fail n))
  unfolding run_verb named
  fit_fail None s o e = fits_nothing _ (λ y i. i)
  fit_fail (Some n) s o e = fits_note _ (name n) _ (fits_held g _ 1 _ _ (fits_nothing _ (λ y i. i)))

  -- a test that is never so
  fit_never : (v v' : Way) (f f' : Search) → FitsSearch v' f' →
      FitsSearch (Branching g (λ x. ⊥) (λ x. Unit {0}) v v') f'
  fit_never v v' f f' h s o e =
      fits_same (v' (spot s.place e)) _ _ (λ y i. inr (tt, i))
      (λ y i. elim i [ inl a ↦ absurd a.0 | inr b ↦ b.1 ]) (h s o e)

  fit_outside : (v v' : Way) (f f' : Search) (s : State) (calls : List (ℕ × ℕ)) → calls ≡ [] →
      (e : ℕ) →
      Fits (v' (spot s.place e)) (f' s) →
      Fits (Branching g (λ x. ⊥) (λ x. Unit {0}) v v' (spot s.place e))
      (tests (is_called calls) f f' s)
  unfolding tests
  fit_outside v v' f f' s [] o e h =
      fits_same (v' (spot s.place e)) _ _ (λ y i. inr (tt, i))
      (λ y i. elim i [ inl a ↦ absurd a.0 | inr b ↦ b.1 ]) h
  fit_outside v v' f f' s (c ∷ cs) o e h = cc

  module _ (off : g.matching.«partial» ≡ Off) (below : Searches)
      (hb : (t : Nested) → IsCommon t → FitsSearch (Ends g t) (below t)) where
    fit_times : (t : Nested) → IsCommon t → (low : ℕ) (high : Option ℕ) (lazily : Bool) →
        Ordered low high →
        FitsSearch (Turns (Ends g t) low high) (below (tree.repeat t low high lazily))
    unfolding Ends IsCommon
    fit_times t h low high lazily ord = hb (tree.repeat t low high lazily) (h, ord)

    mutual
      unfolding level Ends IsCommon

      fit : (t : Nested) → IsCommon t → FitsSearch (Ends g t) (level g below t)
      fit tree.empty h s o e = all_none s o e
      fit (tree.one item) h s o e = fit_one g off item s o e
      fit tree.line_break h s o e = fit_break g off s o e
      fit (tree.seq ts) h s o e = fit_all ts h s o e
      fit (tree.group number ts) h s o e =
          fit_group g (AnyEnds g ts) number _ (fit_branches ts h) s o e
      fit (tree.repeat body low high lazily) h s o e =
          fit_repeat g (Ends g body) below body lazily (hb body h.0)
          (λ low' high' ord. fit_times body h.0 low' high' lazily ord) low high h.1 s o e
      fit (tree.one_repeat item low high lazily) h s o e = fit_many g off item low high lazily s o e
      fit (tree.atomic ts) h s o e = absurd h
      fit (tree.look true true true ts) h s o e =
          fit_look g (AnyEnds g ts) _ (fit_branches ts h) s o e
      fit (tree.look true false true ts) h s o e =
          fit_not_look g (AnyEnds g ts) true _ (fit_branches ts h) s o e
      fit (tree.look false true true ts) h s o e =
          fit_look g (AnyEndsBehind g ts) _ (fit_branches_behind ts h) s o e
      fit (tree.look false false true ts) h s o e =
          fit_not_look g (AnyEndsBehind g ts) true _ (fit_branches_behind ts h) s o e
      fit (tree.look ahead positive false ts) h s o e = absurd h
      fit (tree.condition test first second) h s o e =
          fit_test test h.0 first second _ _ (fit first h.1) (fit_other second h.2) s o e
      fit (tree.call n) h s o e = absurd h
      fit (tree.ref ns caseless) h s o e = absurd h
      fit (tree.anchor kind) h s o e = fit_anchor g off kind s o e
      fit tree.keep_out h s o e = absurd h
      fit (tree.verb (Fail n)) h s o e = fit_fail n s o e
      fit (tree.verb (Accept n)) h s o e = absurd h
      fit (tree.verb (Commit n)) h s o e = absurd h
      fit (tree.verb (Prune n)) h s o e = absurd h
      fit (tree.verb (Skip n)) h s o e = absurd h
      fit (tree.verb (Then n)) h s o e = absurd h
      fit (tree.verb (Mark n)) h s o e = absurd h
      fit (tree.callout c) h s o e = absurd h

      fit_all : (ts : Row) → AreCommon ts → FitsSearch (AllEnd g ts) (in_order (levels g below ts))
      fit_all tree.none h s o e = in_order_none s o e
      fit_all (tree.more t ts) h s o e =
          all_more (Ends g t) (AllEnd g ts) _ _ (fit t h.0) (fit_all ts h.1) s o e

      fit_choices : (ts : Row) → AreCommon ts →
          FitsSearch (AnyEnds g ts) (choices g (levels g below ts))
      fit_choices tree.none h s o e = choices_none g s o e
      fit_choices (tree.more t tree.none) h s o e = choices_last g (Ends g t) _ (fit t h.0) s o e
      fit_choices (tree.more t (tree.more t' ts)) h s o e =
          choices_more g (Ends g t) (AnyEnds g (tree.more t' ts)) _ _ _ (fit t h.0)
          (fit_choices (tree.more t' ts) h.1) s o e

      fit_branches : (ts : Row) → AreCommon ts →
          FitsSearch (AnyEnds g ts) (branches g (levels g below ts))
      fit_branches tree.none h s o e = branches_none g s o e
      fit_branches (tree.more t tree.none) h s o e = branches_one g (Ends g t) _ (fit t h.0) s o e
      fit_branches (tree.more t (tree.more t' ts)) h s o e =
          branches_two g (AnyEnds g (tree.more t (tree.more t' ts))) _ _ _
          (choices_more g (Ends g t) (AnyEnds g (tree.more t' ts)) _ _ _ (fit t h.0)
          (fit_choices (tree.more t' ts) h.1)) s o e

      fit_choices_behind : (ts : Row) → AreCommon ts →
          FitsSearch (AnyEndsBehind g ts) (choices g (levels_behind g below ts))
      fit_choices_behind tree.none h s o e = choices_none g s o e
      fit_choices_behind (tree.more t tree.none) h s o e =
          choices_last g (TryEnds g (branch_lengths g t) (Ends g t)) _
          (fit_behind g (Ends g t) (branch_lengths g t) _ (fit t h.0)) s o e
      fit_choices_behind (tree.more t (tree.more t' ts)) h s o e =
          choices_more g (TryEnds g (branch_lengths g t) (Ends g t))
          (AnyEndsBehind g (tree.more t' ts)) _ _ _
          (fit_behind g (Ends g t) (branch_lengths g t) _ (fit t h.0))
          (fit_choices_behind (tree.more t' ts) h.1) s o e

      fit_branches_behind : (ts : Row) → AreCommon ts →
          FitsSearch (AnyEndsBehind g ts) (branches g (levels_behind g below ts))
      fit_branches_behind tree.none h s o e = branches_none g s o e
      fit_branches_behind (tree.more t tree.none) h s o e =
          branches_one g (TryEnds g (branch_lengths g t) (Ends g t)) _
          (fit_behind g (Ends g t) (branch_lengths g t) _ (fit t h.0)) s o e
      fit_branches_behind (tree.more t (tree.more t' ts)) h s o e =
          branches_two g (AnyEndsBehind g (tree.more t (tree.more t' ts))) _ _ _
          (choices_more g (TryEnds g (branch_lengths g t) (Ends g t))
          (AnyEndsBehind g (tree.more t' ts)) _ _ _
          (fit_behind g (Ends g t) (branch_lengths g t) _ (fit t h.0))
          (fit_choices_behind (tree.more t' ts) h.1)) s o e

      fit_test : (test : Test) → IsCommonTest test → (a : Nested) (b : Other) (f f' : Search) →
          FitsSearch (Ends g a) f →
          FitsSearch (OtherEnds g b) f' →
          FitsSearch (Branching g (IsSo g test) (IsNot g test) (Ends g a) (OtherEnds g b))
          (level_test g below test f f')
      fit_test (tree.assert true true true ts) h a b f f' k k' s o e =
          fit_asserts g (AnyEnds g ts) (Ends g a) (OtherEnds g b) _ f f' (fit_branches ts h) k k'
          s o e
      fit_test (tree.assert true false true ts) h a b f f' k k' s o e =
          fit_asserts_not g (AnyEnds g ts) (Ends g a) (OtherEnds g b) _ f f' (fit_branches ts h) k
          k' s o e
      fit_test (tree.assert false true true ts) h a b f f' k k' s o e =
          fit_asserts g (AnyEndsBehind g ts) (Ends g a) (OtherEnds g b) _ f f'
          (fit_branches_behind ts h) k k' s o e
      fit_test (tree.assert false false true ts) h a b f f' k k' s o e =
          fit_asserts_not g (AnyEndsBehind g ts) (Ends g a) (OtherEnds g b) _ f f'
          (fit_branches_behind ts h) k k' s o e
      fit_test (tree.assert ahead positive false ts) h a b f f' k k' s o e = absurd h
      fit_test tree.never h a b f f' k k' s o e = fit_never (Ends g a) (OtherEnds g b) f f' k' s o e
      fit_test tree.in_call h a b f f' k k' s o e =
          fit_outside (Ends g a) (OtherEnds g b) f f' s s.calls o e (k' s o e)
      fit_test (tree.any_set ns) h a b f f' k k' s o e = absurd h
      fit_test (tree.in_call_of ns) h a b f f' k k' s o e = absurd h
      fit_test (tree.called c test) h a b f f' k k' s o e = absurd h

      fit_other : (t : Other) → IsCommonOther t → FitsSearch (OtherEnds g t) (level_other g below t)
      fit_other tree.no_other h s o e = all_none s o e
      fit_other (tree.other t) h s o e = fit t h s o e

  -- by the depth
  fit_run : g.matching.«partial» ≡ Off → (d : ℕ) (t : Nested) → IsCommon t →
      FitsSearch (Ends g t) (run g d t)
  unfolding run
  fit_run off zero t h s o e = fits_cut _
  fit_run off (suc d) t h s o e = fit off (run g d) (fit_run off d) t h s o e

-- What a stream that fits says in plain words.
at_place : (Y : Spots) (p q e : ℕ) → p ≡ q → Y (spot p e) → Y (spot q e)
at_place Y p q e same i = subst (λ k. Y (spot k e)) same i

place_met : (Y : Spots) (q : ℕ) (x : Stream) → Sound Y x → Occurs q x → (e : ℕ) × Y (spot q e)
unfolding Sound Occurs
place_met Y q (ends e) h o = absurd o
place_met Y q (state reached u ▸ x) h o =
    elim o [
      | inl a ↦ (h.0.early, at_place Y u.place q h.0.early a h.0.is_in)
      | inr b ↦ place_met Y q x h.1 b
    ]
place_met Y q (state accepted u ▸ x) h o = absurd h
place_met Y q (note k ▸ x) h o = place_met Y q x h o
place_met Y q (step ▸ x) h o = place_met Y q x h o

done_of : (x : Stream) → ending x ≡ exhausted → Done x
unfolding ending Done
done_of (ends exhausted) e = tt
done_of (ends (by_verb v)) e = cc
done_of (ends (by_halt h)) e = cc
done_of (ev ▸ x) e = done_of x e

endings_of : (Y : Spots) (x : Stream) → Sound Y x →
    (ending x ≡ exhausted) ⊎ (ending x ≡ by_halt cut) ⊎ (ending x ≡ by_halt too_many_units)
unfolding Sound ending
endings_of Y (ends exhausted) h = inl refl
endings_of Y (ends (by_verb v)) h = absurd h
endings_of Y (ends (by_halt cut)) h = inr (inl refl)
endings_of Y (ends (by_halt too_many_units)) h = inr (inr refl)
endings_of Y (ends (by_halt is_partial)) h = absurd h
endings_of Y (ends (by_halt loop)) h = absurd h
endings_of Y (ends (by_halt (abort n))) h = absurd h
endings_of Y (state reached u ▸ x) h = endings_of Y x h.1
endings_of Y (state accepted u ▸ x) h = absurd h
endings_of Y (note k ▸ x) h = endings_of Y x h
endings_of Y (step ▸ x) h = endings_of Y x h

-- with the frame limit that the setting has
pub agrees : (g : Setting) → g.matching.«partial» ≡ Off → (t : Nested) → IsCommon t → (d p : ℕ) →
    Agrees g t p (run g d t (first_state g.groups p))
agrees g off t h d p =
    let f = fit_run g off d t h (first_state g.groups p) refl p in
    record {
      each_is_an_end = λ q o. place_met (Ends g t (spot p p)) q _ f.sound o;
      all_are_met = λ e q i. f.full (done_of _ e) (spot q i.0) i.1;
      endings = endings_of (Ends g t (spot p p)) _ f.sound;
    }
