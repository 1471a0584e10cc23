-- What the search answers where the machine stops.
use Rattle.std.proofs.Common.{◌≡◌, ◌∙◌, ℕ, zero, suc, ◌≤◌, Bool, true, false, ◌||◌, List, [], ◌∷◌, ◌++◌, take}
use Rattle.std.proofs.Common.{length, Option, Some, None, append-nil, refl, sym, ap, subst, arith}
use Rattle.std.specs.Option.{option_or}
use Rattle.frame_store.specs.Captures.{Captures}
use Rattle.frame_store.specs.Stack.{Stack, room}
use Rattle.pat_tree.specs.declared.options.Options.{Options}
use Rattle.frame_state.specs.declared.machine.Spot.{Spot}
use Rattle.frame_state.specs.declared.machine.Stop.{Stop}
use Rattle.frame_state.specs.declared.machine.Stop.TheVariants as stop
use Rattle.ordered_search.specs.PlaceAnswer.{Walked, PlaceAnswer, last_name, has_hit, blocks}
use Rattle.frame_state.specs.Machine.{mark_of}
use Rattle.pcre_io.specs.declared.callouts.Block.{Block}
use Rattle.frame_state.specs.Shown.{seen_after}
use Rattle.frame_state.specs.Over.{in_all, IsEndOver}
use Rattle.frame_state.specs.Stops.{IsEnd, Told, none_met, told, told_at}
use Rattle.frame_state.specs.Answer.{IsAnswer, IsMark, IsSeen, SkipsToPlace, SkipStands, answer_at}
use Rattle.frame_state.specs.declared.answer.PlaceAnswer as told_by
use Rattle.frame_state.specs.declared.answer.PlaceAnswer.TheVariants as told_in
use Rattle.frame_state.specs.declared.answer.Signal.TheVariants as signal
use Rattle.frame_state.specs.declared.machine.Acting.TheVariants as acting
use Rattle.match_items.specs.Subjects.{IsTextPlace}
use Rattle.frame_state.specs.Ground.{Ground}
use Rattle.frame_state.specs.Room.{IsShort}
use Rattle.frame_machine.specs.Scratch.{IsOfSearch}

or_none : (o : Option ℕ) → option_or o None ≡ o
or_none None = refl
or_none (Some n) = refl

-- what is told beside the callouts
abbrev plain : Told → Told
plain t = record t { blocks = [] }

or_false : (b : Bool) → b || false ≡ b
or_false true = refl
or_false false = refl

-- what is told says the answer, the end, and the last name
module _ (spot : Spot) (w : Walked) (a : PlaceAnswer) (e : plain (told none_met w) ≡ plain (told_at spot a)) where
  answer_is : w.answer ≡ a
  unfolding told
  answer_is = ap (λ (t : Told). t.answer) e

  end_is : spot.last.hit ≡ has_hit w.notes
  unfolding told
  end_is = sym (ap (λ (t : Told). t.hit) e) ∙ or_false (has_hit w.notes)

  mark_is : (old new : Option ℕ) → new ≡ option_or (mark_of spot.last.name) old
      → new ≡ option_or (last_name w.notes) old
  unfolding told
  mark_is old new is =
      let same : last_name w.notes ≡ mark_of spot.last.name = sym (or_none (last_name w.notes))
      ∙ ap (λ (t : Told). t.last) e in
      is ∙ ap (λ (o : Option ℕ). option_or o old) (sym same)

stop_answer : (c : Ground) (s : Stop) (spot : Spot) (caps : Captures) (w : Walked) (t : Told)
    → plain (told none_met w) ≡ plain t → IsEnd c s spot caps t → IsAnswer (answer_at s spot) caps w
stop_answer c stop.Match spot caps w t same e = answer_is spot w _ (same ∙ ap plain e)
stop_answer c stop.NoMatch spot caps w t same e =
    (answer_is spot w _ (same ∙ ap plain e), end_is spot w _ (same ∙ ap plain e))
stop_answer c (stop.Verb acting.Prune) spot caps w t same e =
    (answer_is spot w _ (same ∙ ap plain e.0), end_is spot w _ (same ∙ ap plain e.0))
stop_answer c (stop.Verb (acting.Skip p)) spot caps w t same e =
    (answer_is spot w _ (same ∙ ap plain e.0), end_is spot w _ (same ∙ ap plain e.0))
stop_answer c (stop.Verb acting.Commit) spot caps w t same e =
    (answer_is spot w _ (same ∙ ap plain e.0), end_is spot w _ (same ∙ ap plain e.0))
stop_answer c stop.MatchLimit spot caps w t same e = answer_is spot w _ (same ∙ ap plain e)
stop_answer c stop.FrameLimit spot caps w t same e = answer_is spot w _ (same ∙ ap plain e)
stop_answer c (stop.Abort n) spot caps w t same e = answer_is spot w _ (same ∙ ap plain e)
stop_answer c stop.Partial spot caps w t same e = answer_is spot w _ (same ∙ ap plain e)
stop_answer c stop.Loop spot caps w t same e = answer_is spot w _ (same ∙ ap plain e)
stop_answer c stop.Memory spot caps w t same e = tt

stop_mark : (c : Ground) (s : Stop) (spot : Spot) (caps : Captures) (w : Walked) (t : Told)
    → plain (told none_met w) ≡ plain t → (old new : Option ℕ) → new ≡ option_or (mark_of spot.last.name) old →
    IsEnd c s spot caps t → IsMark (answer_at s spot) old new w
stop_mark c stop.Match spot caps w t same old new is e = mark_is spot w _ (same ∙ ap plain e) old new is
stop_mark c stop.NoMatch spot caps w t same old new is e = mark_is spot w _ (same ∙ ap plain e) old new is
stop_mark c (stop.Verb a) spot caps w t same old new is e = mark_is spot w _ (same ∙ ap plain e.0) old new is
stop_mark c stop.MatchLimit spot caps w t same old new is e = mark_is spot w _ (same ∙ ap plain e) old new is
stop_mark c stop.FrameLimit spot caps w t same old new is e = mark_is spot w _ (same ∙ ap plain e) old new is
stop_mark c (stop.Abort n) spot caps w t same old new is e = mark_is spot w _ (same ∙ ap plain e) old new is
stop_mark c stop.Partial spot caps w t same old new is e = mark_is spot w _ (same ∙ ap plain e) old new is
stop_mark c stop.Loop spot caps w t same old new is e = mark_is spot w _ (same ∙ ap plain e) old new is
stop_mark c stop.Memory spot caps w t same old new is e = tt

-- where SKIP names the next start place, it stands
stop_skip : (c : Ground) (s : Stop) (spot : Spot) (caps : Captures) (t : Told) → IsEnd c s spot caps t
    → SkipStands c.stands (answer_at s spot)
stop_skip c stop.Match spot caps t e = tt
stop_skip c stop.NoMatch spot caps t e = tt
stop_skip c (stop.Verb acting.Prune) spot caps t e = tt
stop_skip c (stop.Verb (acting.Skip p)) spot caps t e = e.1
stop_skip c (stop.Verb acting.Commit) spot caps t e = tt
stop_skip c stop.MatchLimit spot caps t e = tt
stop_skip c stop.FrameLimit spot caps t e = tt
stop_skip c stop.Partial spot caps t e = tt
stop_skip c stop.Loop spot caps t e = tt
stop_skip c (stop.Abort n) spot caps t e = tt
stop_skip c stop.Memory spot caps t e = tt

-- what was shown, where nothing is told after it
seen_none : (seen : Option (List Block)) → seen_after seen [] ≡ seen
seen_none None = refl
seen_none (Some bs) = ap Some (append-nil bs)

seen_is : (spot : Spot) (w : Walked) (t : Told) (a : PlaceAnswer) (old new : Option (List Block))
    → in_all old (told none_met w) ≡ in_all new t → t ≡ told_at spot a → new ≡ seen_after old (blocks w.notes)
unfolding told
seen_is spot w t a old new whole e =
    sym (ap (λ (p : Told × Option (List Block)). p.1) whole ∙ ap (λ (u : Told). seen_after new u.blocks) e
    ∙ seen_none new)

stop_seen : (c : Ground) (s : Stop) (spot : Spot) (caps : Captures) (w : Walked) (t : Told)
    (old new : Option (List Block)) → in_all old (told none_met w) ≡ in_all new t →
    IsEnd c s spot caps t → IsSeen (answer_at s spot) old new w
stop_seen c stop.Match spot caps w t old new whole e = seen_is spot w t _ old new whole e
stop_seen c stop.NoMatch spot caps w t old new whole e = seen_is spot w t _ old new whole e
stop_seen c (stop.Verb a) spot caps w t old new whole e = seen_is spot w t _ old new whole e.0
stop_seen c stop.MatchLimit spot caps w t old new whole e = seen_is spot w t _ old new whole e
stop_seen c stop.FrameLimit spot caps w t old new whole e = seen_is spot w t _ old new whole e
stop_seen c stop.Partial spot caps w t old new whole e = seen_is spot w t _ old new whole e
stop_seen c stop.Loop spot caps w t old new whole e = seen_is spot w t _ old new whole e
stop_seen c (stop.Abort n) spot caps w t old new whole e = seen_is spot w t _ old new whole e
stop_seen c stop.Memory spot caps w t old new whole e = tt

-- the same of the answer that is given
module _ (c : Ground) (s : Stop) (spot : Spot) (answer : told_by.PlaceAnswer) (is : answer ≡ answer_at s spot)
    (caps : Captures) (w : Walked) (old new : Option (List Block))
    (e : IsEndOver c s spot caps new (in_all old (told none_met w))) where
  same : plain (told none_met w) ≡ plain e.left
  same = ap (λ (p : Told × Option (List Block)). p.0) e.whole

  pub stop_answered : IsAnswer answer caps w
  stop_answered = subst (λ (a : told_by.PlaceAnswer). IsAnswer a caps w) (sym is)
      (stop_answer c s spot caps w e.left same e.is)

  pub stop_marked : (earlier later : Option ℕ) → later ≡ option_or (mark_of spot.last.name) earlier
      → IsMark answer earlier later w
  stop_marked earlier later met =
      subst (λ (a : told_by.PlaceAnswer). IsMark a earlier later w) (sym is)
      (stop_mark c s spot caps w e.left same earlier later met e.is)

  pub stop_skipped : SkipStands c.stands answer
  stop_skipped = subst (SkipStands c.stands) (sym is) (stop_skip c s spot caps e.left e.is)

  pub stop_shown : IsSeen answer old new w
  stop_shown = subst (λ (a : told_by.PlaceAnswer). IsSeen a old new w) (sym is)
      (stop_seen c s spot caps w e.left old new e.whole e.is)

-- such a place is one of the subject
pub skip_place : (stands : ℕ → Bool) (options : Options) (subject : List ℕ)
    → ((p : ℕ) → stands p ≡ true → IsTextPlace options subject p) →
    (a : told_by.PlaceAnswer) → SkipStands stands a → SkipsToPlace options subject a
skip_place stands options subject places (told_in.Failed (signal.Skip p) hit) e = places p e
skip_place stands options subject places (told_in.Failed signal.Exhausted hit) e = tt
skip_place stands options subject places (told_in.Failed signal.Prune hit) e = tt
skip_place stands options subject places (told_in.Failed signal.Commit hit) e = tt
skip_place stands options subject places (told_in.Matched keep to mark) e = tt
skip_place stands options subject places told_in.Partial e = tt
skip_place stands options subject places told_in.MatchLimit e = tt
skip_place stands options subject places told_in.FrameLimit e = tt
skip_place stands options subject places told_in.Loop e = tt
skip_place stands options subject places (told_in.Abort n) e = tt
skip_place stands options subject places told_in.Memory e = tt

-- what is written over a whole list is what stands there
pub front : {X : Type 0} (ws more : List X) (n : ℕ) → length ws ≡ n → take n (ws ++ more) ≡ ws
front [] more zero e = refl
front [] more (suc n) e = absurd (omega (arith, e))
front (x ∷ ws) more zero e = absurd (omega (arith, e))
front (x ∷ ws) more (suc n) e = ap (λ ys. x ∷ ys) (front ws more n (omega (arith, e)))

-- where there is room under the frame limit, neither want of memory is answered nor a callout's answer
pub stop_of_search : (s : Stop) (spot : Spot) (limit : ℕ) (store : Stack) → IsShort s limit store → limit ≤ room store
    → IsOfSearch (answer_at s spot)
stop_of_search stop.Memory spot limit store h le = absurd (omega (arith, h, le))
stop_of_search (stop.Abort n) spot limit store h le = absurd h
stop_of_search stop.Match spot limit store h le = tt
stop_of_search stop.NoMatch spot limit store h le = tt
stop_of_search stop.Partial spot limit store h le = tt
stop_of_search (stop.Verb a) spot limit store h le = tt
stop_of_search stop.MatchLimit spot limit store h le = tt
stop_of_search stop.FrameLimit spot limit store h le = tt
stop_of_search stop.Loop spot limit store h le = tt
