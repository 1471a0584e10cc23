-- What callouts showed, from place to place.
use Rattle.std.proofs.Common.{◌≡◌, ◌∙◌, ℕ, Bool, List, [], ◌++◌, map, Option, Some, None, append_assoc, append-nil}
use Rattle.std.proofs.Common.{refl, sym, ap, subst}
use Rattle.std.proofs.lemmas.List.{map-append}
use Rattle.std.proofs.lemmas.List.Elements.{filter_map-append}
use Rattle.pcre_io.specs.declared.callouts.Block.{Block}
use Rattle.frame_store.specs.Captures.{Captures}
use Rattle.frame_state.specs.declared.answer.PlaceAnswer.{PlaceAnswer}
use Rattle.frame_state.specs.declared.answer.PlaceAnswer.TheVariants as told
use Rattle.frame_state.specs.declared.answer.Signal.{Signal}
use Rattle.frame_state.specs.Answer.{signal_of, IsAnswer, IsSeen}
use Rattle.frame_state.specs.Shown.{shown_as, seen_after}
use Rattle.ordered_search.specs.Stream as search
use Rattle.ordered_search.specs.PlaceAnswer as place
use Rattle.ordered_search.specs.PlaceAnswer.{Walked, block_in, blocks}
use Rattle.match_drive.specs.declared.answer.MatchAnswer.{MatchAnswer}
use Rattle.match_drive.specs.declared.answer.MatchAnswer.TheVariants as answer
use Rattle.ordered_search.specs.MatchAnswer.{Found, found_by, found_at}
use Rattle.match_drive.specs.Answer.{IsShown, IsDeciding, TellsMemory}
use Rattle.match_drive.specs.Rest.{IsShownTo}

-- some blocks, and then others
seen_on : (seen : Option (List Block)) (xs ys : List search.Block)
    → seen_after seen (xs ++ ys) ≡ seen_after (seen_after seen xs) ys
seen_on None xs ys = refl
seen_on (Some seen) xs ys =
    ap (λ (bs : List Block). Some (seen ++ bs)) (map-append shown_as xs ys)
    ∙ ap Some (sym (append_assoc seen (map shown_as xs) (map shown_as ys)))

pub seen_none : (seen : Option (List Block)) → seen_after seen [] ≡ seen
seen_none None = refl
seen_none (Some bs) = ap Some (append-nil bs)

-- a place decides that doesn't fail
pub decides : (a : PlaceAnswer) → ((signal : Signal) (hit : Bool) → a ≡ told.Failed signal hit → ⊥) → IsDeciding a
decides (told.Matched keep to mark) x = tt
decides (told.Failed signal hit) x = absurd (x signal hit refl)
decides told.Partial x = tt
decides told.MatchLimit x = tt
decides told.FrameLimit x = tt
decides told.Loop x = tt
decides (told.Abort n) x = tt
decides told.Memory x = tt

-- The place failed, and what is left follows it.
pub shown_failed : (signal : Signal) (hit : Bool) (caps : Captures) (w : Walked) (p : ℕ)
    (later : place.Signal → Found) (old now new : Option (List Block)) (whole : Found)
    → IsAnswer (told.Failed signal hit) caps w → IsSeen (told.Failed signal hit) now new w
    → IsShownTo old now whole (found_at p w later)
    → IsShownTo old new whole (later (signal_of signal))
shown_failed signal hit caps w p later old now new whole is seen shown =
    let l = later (signal_of signal) in
    shown
    ∙ ap (λ a. seen_after now (blocks (found_by p w later a).notes)) is.0
    ∙ ap (seen_after now) (filter_map-append block_in w.notes l.notes)
    ∙ seen_on now (blocks w.notes) (blocks l.notes)
    ∙ ap (λ (s : Option (List Block)). seen_after s (blocks l.notes)) (sym seen)

-- any answer but for want of memory
shown_by : (result : MatchAnswer) (old new : Option (List Block)) (whole : Found)
    → new ≡ seen_after old (blocks whole.notes) → IsShown result old new whole
shown_by (answer.Match keep to mark) old new whole e = e
shown_by (answer.NoMatch mark) old new whole e = e
shown_by (answer.Partial start mark) old new whole e = e
shown_by answer.MatchLimit old new whole e = e
shown_by answer.FrameLimit old new whole e = e
shown_by answer.RecurseLoop old new whole e = e
shown_by (answer.Callout n) old new whole e = e
shown_by answer.Memory old new whole e = tt

module _ (caps : Captures) (w : Walked) (p : ℕ) (later : place.Signal → Found) (old now new : Option (List Block))
    (whole : Found) (result : MatchAnswer)
    (shown : IsShownTo old now whole (found_at p w later)) where
  shown_at : (a : place.PlaceAnswer) → w.answer ≡ a → (found_by p w later a).notes ≡ w.notes
      → new ≡ seen_after now (blocks w.notes) → IsShown result old new whole
  shown_at a is notes seen =
      shown_by result old new whole
      (seen
      ∙ ap (λ ns. seen_after now (blocks ns)) (sym notes)
      ∙ ap (λ x. seen_after now (blocks (found_by p w later x).notes)) (sym is)
      ∙ sym shown)

  -- the place decides
  pub shown_ends : (a : PlaceAnswer) → IsDeciding a → IsAnswer a caps w → IsSeen a now new w → TellsMemory a result
      → IsShown result old new whole
  shown_ends (told.Matched keep to mark) d is seen m = shown_at _ is refl seen
  shown_ends (told.Failed signal hit) d is seen m = absurd d
  shown_ends told.Partial d is seen m = shown_at _ is refl seen
  shown_ends told.MatchLimit d is seen m = shown_at _ is refl seen
  shown_ends told.FrameLimit d is seen m = shown_at _ is refl seen
  shown_ends told.Loop d is seen m = shown_at _ is refl seen
  shown_ends (told.Abort n) d is seen m = shown_at _ is refl seen
  shown_ends told.Memory d is seen m = subst (λ (r : MatchAnswer). IsShown r old new whole) (sym m) tt

-- no place decides
pub shown_none : (result : MatchAnswer) (old new : Option (List Block)) (whole rest : Found)
    → IsShownTo old new whole rest → rest.notes ≡ [] → IsShown result old new whole
shown_none result old new whole rest shown none =
    shown_by result old new whole (sym (shown ∙ ap (λ ns. seen_after new (blocks ns)) none ∙ seen_none new))
