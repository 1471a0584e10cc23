-- What the answer of a search that goes forward says of a match, and what callouts showed.
use Rattle.std.proofs.Common.{◌≡◌, List, Option, Some, None, ap, sym, subst}
use Rattle.pcre_io.specs.declared.callouts.Block.{Block}
use Rattle.ordered_search.specs.Setting.{Setting}
use Rattle.ordered_search.specs.PlaceAnswer.{Outcome, blocks}
use Rattle.ordered_search.specs.MatchAnswer.{MatchAnswer, Match, Found, match_answer}
use Rattle.ordered_search.specs.Forward.{IsPlaced, IsPlain}
use Rattle.match_drive.specs.frame_state.Shown.{seen_after}
use Rattle.pcre2_api.specs.Matched.{fault_in, shown_by, HasShown}
use Rattle.pcre2_errors.specs.declared.error.MatchError.{MatchError}
use Rattle.pcre2_errors.specs.declared.error.MatchError.TheVariants as told

module _ (g : Setting) (f : Found) (plain : IsPlain g f.answer) where
  pub is_placed : (o : Outcome) → f.answer ≡ Match o → IsPlaced g o
  is_placed o e = subst (IsPlain g) e plain

  pub is_plain : (a : MatchAnswer) → f.answer ≡ a → IsPlain g a
  is_plain a e = subst (IsPlain g) e plain

module _ (g : Setting) (before : Option (List Block)) where
  abbrev by_fault : Option MatchError → Option (List Block)
  by_fault f = elim f [ Some e ↦ before | None ↦ seen_after before (blocks (match_answer g).notes) ]

  pub shown-begun : fault_in g ≡ None → seen_after before (blocks (match_answer g).notes) ≡ shown_by g before
  shown-begun h = sym (ap by_fault h)

  unshown : (e : MatchError) → fault_in g ≡ Some e → before ≡ shown_by g before
  unshown e h = sym (ap by_fault h)

  pub shown-unbegun : (e : MatchError) → fault_in g ≡ Some e → HasShown e before (shown_by g before)
  shown-unbegun told.Memory h = tt
  shown-unbegun told.BadOffset h = unshown told.BadOffset h
  shown-unbegun (told.BadUtf at) h = unshown (told.BadUtf at) h
  shown-unbegun told.BadUtfOffset h = unshown told.BadUtfOffset h
  shown-unbegun (told.NoMatch mark) h = unshown (told.NoMatch mark) h
  shown-unbegun (told.Partial from to mark) h = unshown (told.Partial from to mark) h
  shown-unbegun told.MatchLimit h = unshown told.MatchLimit h
  shown-unbegun told.FrameLimit h = unshown told.FrameLimit h
  shown-unbegun told.RecurseLoop h = unshown told.RecurseLoop h
  shown-unbegun (told.Callout n) h = unshown (told.Callout n) h
