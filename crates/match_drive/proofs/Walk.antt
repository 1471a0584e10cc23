-- One place of the walk: it decides, or the walk goes on.
use mathlib.Core.Path.{fun_ext}
use Rattle.std.proofs.Common.{◌≡◌, ℕ, ℤ, ◌≤◌, Bool, false, length, List, Option, Some, None, refl, sym, subst, ap, ◌∙◌}
use Rattle.std.specs.Option.{option_or}
use Rattle.std.specs.Prelude.{IfSome}
use Rattle.pcre_io.specs.declared.callouts.Block.{Block}
use Rattle.frame_store.specs.Captures.{Captures}
use Rattle.frame_state.specs.declared.answer.PlaceAnswer.{PlaceAnswer}
use Rattle.frame_state.specs.declared.answer.PlaceAnswer.TheVariants.{Failed}
use Rattle.frame_state.specs.declared.answer.Signal.{Signal}
use Rattle.frame_state.specs.Answer.{signal_of, IsAnswer, IsMark, IsSeen}
use Rattle.frame_state.specs.Shown.{seen_after}
use Rattle.ordered_search.specs.PlaceAnswer as place
use Rattle.ordered_search.specs.PlaceAnswer.{last_name, blocks, place_answer}
use Rattle.ordered_search.specs.Setting.{Setting}
use Rattle.match_drive.specs.declared.answer.MatchAnswer.{MatchAnswer}
use Rattle.match_starts.specs.Asked.{replied}
use Rattle.ordered_search.specs.Places.{last_place, place_after, is_excluded}
use Rattle.ordered_search.specs.MatchAnswer.{Found, found_at, match_answer}
use Rattle.match_drive.specs.Answer.{IsMatchAnswer, IsLastMark, IsDeciding, IsShown, TellsMemory, TellsPlace}
use Rattle.match_drive.specs.Rest.{found_from, first_hit, IsLeft, IsShownTo, IsNextTried}
use Rattle.match_drive.proofs.Steps.{left_at, found_here, next_same, match_found}
use Rattle.match_drive.proofs.Shown.{shown_failed, shown_ends}
use Rattle.match_drive.proofs.Left.{left_failed}

module _ (g : Setting) (begun : g.start ≤ length g.subject) (whole : Found) (first old next : Option ℕ) (p : ℕ)
    (is : next ≡ Some p) (left : IsLeft whole first old (found_from g next)) (low : IfSome next (λ q. q ≤ last_place g))
    (tried : IfSome next (λ q. is_excluded g q ≡ false)) (caps : Captures) where
  -- the place decides
  pub walk_ends : (answer : PlaceAnswer) (last mark : Option ℕ) (result : MatchAnswer)
      → IsAnswer answer caps (place_answer g p) → IsMark answer old last (place_answer g p)
      → mark ≡ last → TellsPlace answer p first mark result
      → IsMatchAnswer result caps whole × IsLastMark result last whole
  walk_ends answer last mark result answered marked same tells =
      subst (λ (m : Option ℕ). IsMatchAnswer result caps whole × IsLastMark result m whole) same
      (tells caps (place_answer g p) (λ (signal : place.Signal). found_from g (place_after g p signal)) old whole
      answered
      (subst (λ (m : Option ℕ). IsMark answer old m (place_answer g p)) (sym same) marked)
      (left_at g begun whole first old next p is left low tried))

  -- the place failed
  pub walk_on : (signal : Signal) (hit : Bool) (mark hits after later : Option ℕ)
      → IsAnswer (Failed signal hit) caps (place_answer g p)
      → IsMark (Failed signal hit) old mark (place_answer g p) → hits ≡ first_hit first hit p
      → found_from g after ≡ found_from g (place_after g p (signal_of signal))
      → IsNextTried g after later
      → IsLeft whole hits mark (found_from g later)
  walk_on signal hit mark hits after later answered marked same follows next_tried =
      subst (λ (o : Option ℕ). IsLeft whole o mark (found_from g later)) (sym same)
      (subst (IsLeft whole (first_hit first hit p) mark) (sym follows
      ∙ sym (next_same g after later next_tried))
      (left_failed signal hit caps (place_answer g p) p
      (λ (signal : place.Signal). found_from g (place_after g p signal)) first old mark whole answered marked
      (left_at g begun whole first old next p is left low tried)))

-- The callouts that were shown.

module _ (g : Setting) (begun : g.start ≤ length g.subject) (whole : Found) (next : Option ℕ) (p : ℕ)
    (is : next ≡ Some p) (low : IfSome next (λ q. q ≤ last_place g))
    (tried : IfSome next (λ q. is_excluded g q ≡ false)) (caps : Captures) (old now new : Option (List Block))
    (shown : IsShownTo old now whole (found_from g next)) where
  shown_here : IsShownTo old now whole (found_at p (place_answer g p)
      (λ (signal : place.Signal). found_from g (place_after g p signal)))
  shown_here = subst (IsShownTo old now whole) (found_here g begun next p is low tried) shown

  pub shown_at_last : (answer : PlaceAnswer) (result : MatchAnswer) → IsDeciding answer
      → IsAnswer answer caps (place_answer g p) → IsSeen answer now new (place_answer g p)
      → TellsMemory answer result → IsShown result old new whole
  shown_at_last answer result decides answered seen memory =
      shown_ends caps (place_answer g p) p (λ (signal : place.Signal). found_from g (place_after g p signal)) old now
      new whole result shown_here answer decides answered seen memory

  pub shown_on : (signal : Signal) (hit : Bool) (after later : Option ℕ)
      → IsAnswer (Failed signal hit) caps (place_answer g p) → IsSeen (Failed signal hit) now new (place_answer g p)
      → found_from g after ≡ found_from g (place_after g p (signal_of signal)) → IsNextTried g after later
      → IsShownTo old new whole (found_from g later)
  shown_on signal hit after later answered seen follows next_tried =
      subst (IsShownTo old new whole) (sym follows ∙ sym (next_same g after later next_tried))
      (shown_failed signal hit caps (place_answer g p) p
      (λ (signal : place.Signal). found_from g (place_after g p signal)) old now new whole answered seen
      shown_here)

pub shown_first : (g : Setting) (begun : g.start ≤ length g.subject) (next : Option ℕ) (seen : Option (List Block))
    → IsNextTried g (Some g.start) next
    → IsShownTo seen seen (match_answer g) (found_from g next)
shown_first g begun next seen next_tried =
    ap (λ (f : Found). seen_after seen (blocks f.notes)) (match_found g begun
    ∙ sym (next_same g (Some g.start) next next_tried))

or_none : (x : Option ℕ) → option_or x None ≡ x
or_none None = refl
or_none (Some n) = refl

-- No place was tried yet.
pub walk_begins : (g : Setting) (begun : g.start ≤ length g.subject) (mark next : Option ℕ) → mark ≡ None
    → IsNextTried g (Some g.start) next
    → IsLeft (match_answer g) None mark (found_from g next)
walk_begins g begun mark next none next_tried =
    let e : match_answer g ≡ found_from g next = match_found g begun
    ∙ sym (next_same g (Some g.start) next next_tried) in
    record {
      answer = ap (λ (f : Found). f.answer) e;
      last_mark = ap (λ (f : Found). last_name f.notes) e ∙ sym (or_none _)
          ∙ ap (option_or (last_name (found_from g next).notes)) (sym none);
    }

-- Callouts answer as they did before.
pub asked_alike : {A : Type 0} (asked : (A → ℤ) → Setting) (plain : Setting) (old new : A → ℤ)
    → ((b : A) → new b ≡ old b) → asked old ≡ replied (asked old).reply plain
    → asked new ≡ replied (asked old).reply plain
asked_alike asked plain old new same alike = ap asked (fun_ext same) ∙ alike
