-- The steps of the machine at SKIP of a name.
use Rattle.std.proofs.Common.{◌≡◌, ◌≢◌, ℕ, suc, ◌-◌, ◌<◌, ◌≤◌, ◌∙◌, Bool, true, false, List, [], ◌∷◌, ◌++◌, reverse}
use Rattle.std.proofs.Common.{All, Option, Some, None, length, slice_get, inl, inr, refl, sym, ap, subst, arith}
use Rattle.std.proofs.Common.{length-append}
use Rattle.std.proofs.lemmas.List.Elements.{All-nil, All-cons, All-head, All-tail}
use Rattle.std.proofs.lemmas.Bool.{cases_eq}
use Rattle.pat_tree.specs.declared.nodes.Node.TheVariants as node
use Rattle.pat_tree.specs.declared.nodes.Verb.TheVariants as verb
use Rattle.frame_store.specs.declared.records.Record.{Record}
use Rattle.frame_store.specs.declared.kinds.TheConstants.{KIND_MARK_PASSED}
use Rattle.frame_store.specs.Captures.{Captures}
use Rattle.frame_store.specs.Entry.{Entry, MarkPassed, SkipPassed, entry_in, entry_of, entries, entry_kind}
use Rattle.frame_store.proofs.EntryLemmas.{entry_of-mark_passed, entry_kind-not}
use Rattle.ordered_search.specs.Stream.{State, Ending, exhausted, by_verb, skip, reached}
use Rattle.ordered_search.specs.Setting.{Setting, verb_name}
use Rattle.ordered_search.specs.Parts.{same_text, skip_to}
use Rattle.ordered_search.specs.PlaceAnswer.{answers, FrameLimit}
use Rattle.ordered_search.specs.Moves.{Moves, pause, holding, Follow, Handler}
use Rattle.ordered_search.specs.Paths.{ended}
use Rattle.frame_state.specs.declared.machine.Next.TheVariants.{Enter}
use Rattle.frame_state.specs.declared.machine.Spot.{Spot}
use Rattle.frame_state.specs.Ground.{Ground, IsNode, IsGround}
use Rattle.frame_state.specs.Machine.{conf, kept_at, entry_kept, heard_by, heard, onward}
use Rattle.frame_state.specs.Frames.{past, around, outside, hand, fail, spot_state, ahead}
use Rattle.frame_state.specs.Validity.{IsSound, AreSound, IsValid, Advances}
use Rattle.frame_state.specs.Stops.{told, tells, held_spot}
use Rattle.frame_verbs.specs.Names.{AreHeard, skip_by, skip_record}
use Rattle.frame_state.proofs.Frames.{heard_here, heard_below, heard_sound}
use Rattle.frame_state.proofs.Splits.{Split, split}
use Rattle.frame_verbs.proofs.VerbTurns.{at_verb, turn_acting}
use Rattle.frame_state.proofs.Advance.{holding_full, over_units}

-- The names that were passed.

module _ (c : Ground) where
  heard_deep : (above base : List Entry) (h : ℕ) → h ≤ length base → heard (above ++ base) h ≡ heard base h
  heard_deep [] base h le = refl
  heard_deep (p ∷ above) base h le =
      heard_below c p (above ++ base) h (λ e. omega (arith, e, le, length-append above base))
      ∙ heard_deep above base h le

  pub heard_none : (stack : List Entry) → heard stack 0 ≡ []
  unfolding heard
  heard_none [] = refl
  heard_none (r ∷ below) = heard_below c r below 0 (λ e. omega (arith, e)) ∙ heard_none below

deeper : (above base : List Entry) → AreHeard (above ++ base) → AreHeard base
deeper [] base a = a
deeper (p ∷ above) base a = deeper above base a.1

-- no other record tells of names
told_by_none : (r : Entry) (names : List (ℕ × ℕ)) → entry_kind r ≢ KIND_MARK_PASSED → heard_by r names ≡ []
told_by_none (MarkPassed at kept) names n = absurd (n refl)
told_by_none _ names n = refl

-- of the records
module _ (c : Ground) (records : List Record) (a : AreHeard (entries records)) (height i : ℕ) (is : height ≡ suc i)
    (p : Record) (at : slice_get (reverse records) i ≡ Some p) where
  around_it : Split (entries records) (suc i) (entry_of p)
  around_it = split records i p at

  inner : AreHeard (entry_of p ∷ around_it.below)
  inner = deeper around_it.above (entry_of p ∷ around_it.below) (subst AreHeard around_it.is a)

  heard_one : heard (entries records) height ≡ heard_by (entry_of p)
      (heard around_it.below (entry_kept (entry_of p)).passed)
  heard_one =
      ap (heard (entries records)) is
      ∙ ap (λ (es : List Entry). heard es (suc i)) around_it.is
      ∙ heard_deep c around_it.above (entry_of p ∷ around_it.below) (suc i) (omega (arith, around_it.height))
      ∙ heard_here c (entry_of p) around_it.below (suc i) around_it.height

  pub heard_other : p.kind ≢ KIND_MARK_PASSED → heard (entries records) height ≡ []
  heard_other n = heard_one ∙ told_by_none (entry_of p) _ (entry_kind-not p KIND_MARK_PASSED (omega arith) n)

  module _ (kind : p.kind ≡ KIND_MARK_PASSED) where
    low : p.passed ≤ length around_it.below
    low = let e = ap (λ (r : Entry). (entry_kept r).passed) (entry_of-mark_passed p kind) in omega (arith, e, inner.0)

    pub heard_lower : p.passed < height
    heard_lower = omega (arith, low, is, around_it.height)

    outer : heard around_it.below p.passed ≡ heard (entries records) p.passed
    outer =
        sym
        (ap (λ (es : List Entry). heard es p.passed) around_it.is
        ∙ heard_deep c around_it.above (entry_of p ∷ around_it.below) p.passed (omega (arith, low))
        ∙ heard_below c (entry_of p) around_it.below p.passed (λ e. omega (arith, e, low)))

    pub heard_name : heard (entries records) height ≡ (p.mark - 1, p.place) ∷ heard (entries records) p.passed
    heard_name =
        heard_one
        ∙ ap (λ (r : Entry). heard_by r (heard around_it.below (entry_kept r).passed)) (entry_of-mark_passed p kind)
        ∙ ap (λ (names : List (ℕ × ℕ)). (p.mark - 1, p.place) ∷ names) outer

-- the last one that SKIP looks for, or one before it
module _ (g : Setting) (n m place : ℕ) (names : List (ℕ × ℕ)) where
  abbrev choice : Bool → Ending
  choice b = elim b [ true ↦ by_verb (skip place) | false ↦ skip_to g n names ]

  same_as : (k : ℕ) → k ≡ m → same_text (verb_name g n) (verb_name g k) ≡ same_text (verb_name g n) (verb_name g m)
  same_as k is = ap (λ (j : ℕ). same_text (verb_name g n) (verb_name g j)) is

  pub skip_here : (k : ℕ) → k ≡ m → true ≡ same_text (verb_name g n) (verb_name g k)
      → skip_by (Some place) ≡ skip_to g n ((m, place) ∷ names)
  skip_here k is e = ap choice (e ∙ same_as k is)

  pub skip_before : (k : ℕ) → k ≡ m → false ≡ same_text (verb_name g n) (verb_name g k)
      → skip_to g n names ≡ skip_to g n ((m, place) ∷ names)
  skip_before k is e = ap choice (e ∙ same_as k is)

-- Of the records of a path.

module _ (c : Ground) (left slots : ℕ) where
  pub heard_sound_all : (stack : List Entry) → AreSound c left slots stack → AreHeard stack
  heard_sound_all [] s = tt
  heard_sound_all (r ∷ below) s = (heard_sound c left slots below r s.0, heard_sound_all below s.1)

  abbrev Stands : ℕ × ℕ → Type 0
  Stands m = c.stands m.1 ≡ true

  told_stands : (r : Entry) (below : List Entry) (names : List (ℕ × ℕ)) → IsSound c left slots below r
      → All Stands names → All Stands (heard_by r names)
  told_stands (MarkPassed at kept) below names s a = All-cons Stands (kept.mark - 1, kept.place) names s.1.here a
  told_stands _ below names s a = All-nil Stands

  heard_stands : (stack : List Entry) → AreSound c left slots stack → (h : ℕ) → All Stands (heard stack h)
  unfolding heard
  heard_stands [] s h = All-nil Stands
  heard_stands (r ∷ below) s h =
      elim (cases_eq h (suc (length below))) [
        | inl here ↦
            subst (All Stands) (sym (heard_here c r below h here))
            (told_stands r below (heard below (entry_kept r).passed) s.0 (heard_stands below s.1 (entry_kept r).passed))
        | inr not ↦ subst (All Stands) (sym (heard_below c r below h not)) (heard_stands below s.1 h)
      ]

  abbrev place_in : Ending → ℕ
  place_in (by_verb (skip p)) = p
  place_in _ = 0

  not_exhausted : (p : ℕ) → by_verb (skip p) ≡ exhausted → ⊥
  not_exhausted p e = cc

  -- the place of a name that was passed stands
  module _ (n p : ℕ) where
    either_stands : (m : ℕ × ℕ) (x : Ending) → Stands m → (by_verb (skip p) ≡ x → c.stands p ≡ true) → (b : Bool) →
        by_verb (skip p) ≡ elim b [ true ↦ by_verb (skip m.1) | false ↦ x ] → c.stands p ≡ true
    either_stands m x here later true e = ap c.stands (ap place_in e) ∙ here
    either_stands m x here later false e = later e

    found_stands : (names : List (ℕ × ℕ)) → All Stands names → by_verb (skip p) ≡ skip_to c.setting n names
        → c.stands p ≡ true
    found_stands [] a e = absurd (not_exhausted p e)
    found_stands (m ∷ names) a e =
        either_stands m (skip_to c.setting n names) (All-head Stands m names a)
        (λ z. found_stands names (All-tail Stands m names a) z)
        (same_text (verb_name c.setting n) (verb_name c.setting m.0)) e

-- The machine comes to it.

-- its record
abbrev pub skip_entry : Spot → ℕ → Option ℕ → Entry
skip_entry spot q None = SkipPassed (record { node = q; link = spot.frame }) (kept_at spot) 1 spot.place
skip_entry spot q (Some p) = SkipPassed (record { node = q; link = spot.frame }) (kept_at spot) 0 p

pub skip_recorded : (spot : Spot) (q : ℕ) (found : Option ℕ)
    → entry_of (skip_record spot q found) ≡ skip_entry spot q found
unfolding entry_in
skip_recorded spot q None = refl
skip_recorded spot q (Some p) = refl

module _ (c : Ground) (ok : IsGround c) (q : ℕ) (spot : Spot) (stack : List Entry) (caps : Captures)
    (v : IsValid c (conf (Enter q) spot stack caps)) where
  abbrev S : State
  S = spot_state c spot stack caps

  abbrev after_it : Follow
  after_it = past c (around c stack spot.frame).depth (outside c stack caps spot.frame) q

  abbrev handed : Handler
  handed = hand c stack caps spot.frame q

  pub skip_marked : spot.passed ≤ length stack
  skip_marked = v.running.1.marked

  pub skip_heard : AreHeard stack
  skip_heard = heard_sound_all c spot.left (length caps) stack v.records

  module _ (n : ℕ) (i : IsNode c q (node.VerbNode (verb.Skip (Some n)))) where
    abbrev leads : Ending → Moves
    leads e = pause
        (holding c.setting 1 S (λ t. after_it reached t (pause (pause (ended e (fail c stack caps) handed)))))

    at_skip : (found : Option ℕ) → skip_by found ≡ skip_to c.setting n (heard stack spot.passed)
        → ahead c (conf (Enter q) spot stack caps) ≡ leads (skip_by found)
    at_skip found is = at_verb c ok q spot stack caps v (verb.Skip (Some n)) i ∙ ap leads (sym is)

    pub turn_skip_to : (found : Option ℕ) → skip_by found ≡ skip_to c.setting n (heard stack spot.passed)
        → spot.units < c.setting.matching.frame_limit →
        Advances c (conf (Enter q) spot stack caps)
        (conf (onward c q) (held_spot spot) (skip_entry spot q found ∷ stack) caps)
    unfolding fail
    turn_skip_to None is room =
        turn_acting c ok q spot stack caps v (skip_entry spot q None) (fail c stack caps) refl refl refl
        (v.running.0, v.running.1, v.running.1.here, v.running.2) room (at_skip None is)
    turn_skip_to (Some p) is room =
        turn_acting c ok q spot stack caps v (skip_entry spot q (Some p)) (handed (skip p)) refl refl refl (
          v.running.0,
          v.running.1,
          found_stands c spot.left (length caps) n p (heard stack spot.passed)
              (heard_stands c spot.left (length caps) stack v.records spot.passed) is,
          v.running.2,
        ) room
        (at_skip (Some p) is)

    pub stop_skip_to : c.setting.matching.frame_limit ≤ spot.units →
        tells c.setting spot (ahead c (conf (Enter q) spot stack caps)) ≡ told spot.last (answers FrameLimit)
    stop_skip_to full =
        ap (told spot.last) (over_units c spot.left _ _ (at_verb c ok q spot stack caps v (verb.Skip (Some n)) i)
        (holding_full c.setting _ _ full))
