-- What a place decides.
use Rattle.std.proofs.Common.{◌≡◌, ◌∙◌, ◌≤◌, ℕ, Bool, true, false, List, [], ◌∷◌, length, Option, Some, None, sym}
use Rattle.std.proofs.Common.{ap, subst, inr}
use Rattle.std.specs.Prelude.{IfSome}
use Rattle.pat_tree.specs.declared.options.Options.{Options}
use Rattle.pat_tree.specs.declared.options.PartialMode.{PartialMode}
use Rattle.pat_tree.specs.declared.options.PartialMode.TheVariants.{Off, Soft, Hard}
use Rattle.match_items.specs.Subjects.{IsTextPlace}
use Rattle.ordered_search.specs.Setting.{Setting}
use Rattle.ordered_search.specs.Places.{is_excluded}
use Rattle.dfa_ends.specs.Ends.{spot}
use Rattle.dfa_ends.specs.DfaAnswer.{EndsFrom, PartialFrom, reach_test, decision, ends_from, decision_at}
use Rattle.dfa_drive.specs.declared.answer.DfaAnswer.{DfaAnswer}
use Rattle.dfa_drive.specs.declared.answer.DfaAnswer.TheVariants.{Ends, NoMatch, Partial}
use Rattle.dfa_drive.specs.Answer.{IsDecision, IsDecidedBy, AreWithin, IsPlaced, IsWhole}

-- It begins there, and a partial match is only where one is looked for.

part_decides : (mode : PartialMode) (p : ℕ) (qs : List ℕ) (hit : Bool) (start : ℕ) →
    decision mode p qs hit ≡ Some (PartialFrom start) → (start ≡ p) × (mode ≡ Off → ⊥)
part_decides Hard p [] true start e = (cc, λ off. cc)
part_decides Hard p (q ∷ qs) true start e = (cc, λ off. cc)
part_decides Hard p [] false start e = cc
part_decides Hard p (q ∷ qs) false start e = cc
part_decides Soft p [] true start e = (cc, λ off. cc)
part_decides Soft p [] false start e = cc
part_decides Soft p (q ∷ qs) true start e = cc
part_decides Soft p (q ∷ qs) false start e = cc
part_decides Off p [] true start e = cc
part_decides Off p [] false start e = cc
part_decides Off p (q ∷ qs) true start e = cc
part_decides Off p (q ∷ qs) false start e = cc

ends_decide : (mode : PartialMode) (p : ℕ) (qs : List ℕ) (hit : Bool) (start : ℕ)
    (ends : List ℕ) → decision mode p qs hit ≡ Some (EndsFrom start ends) →
    (start ≡ p) × (ends ≡ qs)
ends_decide Hard p [] true start ends e = cc
ends_decide Hard p (q ∷ qs) true start ends e = cc
ends_decide Hard p [] false start ends e = cc
ends_decide Hard p (q ∷ qs) false start ends e = (cc, cc)
ends_decide Soft p [] true start ends e = cc
ends_decide Soft p [] false start ends e = cc
ends_decide Soft p (q ∷ qs) true start ends e = (cc, cc)
ends_decide Soft p (q ∷ qs) false start ends e = (cc, cc)
ends_decide Off p [] true start ends e = cc
ends_decide Off p [] false start ends e = cc
ends_decide Off p (q ∷ qs) true start ends e = (cc, cc)
ends_decide Off p (q ∷ qs) false start ends e = (cc, cc)

module _ (mode : PartialMode) (p : ℕ) (qs : List ℕ) (hit : Bool) where
  pub tells_whole : (told : Option DfaAnswer) → IsDecision (decision mode p qs hit) told →
      mode ≡ Off → IfSome told IsWhole
  tells_whole None e off = tt
  tells_whole (Some (Ends start ends)) e off = tt
  tells_whole (Some NoMatch) e off = tt
  tells_whole (Some (Partial start)) e off = absurd ((part_decides mode p qs hit start e).1 off)

  pub tells_placed : (options : Options) (subject : List ℕ) (from : ℕ)
      (told : Option DfaAnswer) → IsDecision (decision mode p qs hit) told →
      AreWithin p (length subject) qs → from ≤ p → IsTextPlace options subject p →
      IfSome told (IsPlaced options subject from)
  tells_placed options subject from None e within l place = tt
  tells_placed options subject from (Some NoMatch) e within l place = tt
  tells_placed options subject from (Some (Ends start ends)) e within l place =
      let same = ends_decide mode p qs hit start ends e in
      subst (λ low. AreWithin low (length subject) ends) (sym same.0)
      (subst (AreWithin p (length subject)) (sym same.1) within)
  tells_placed options subject from (Some (Partial start)) e within l place =
      let same = (part_decides mode p qs hit start e).0 in
      (subst (λ low. from ≤ low) (sym same) l, subst (IsTextPlace options subject) (sym same) place)

-- By the ends that a place has, and by whether the subject's end is reached from there.
module _ (g : Setting) (shortest : Bool) (p : ℕ) (qs : List ℕ) (hit : Bool)
    (ends : qs ≡ ends_from g shortest p) (reached : hit ≡ reach_test g g.whole (spot p p)) where
  decides_so : decision_at g shortest p ≡ decision g.matching.«partial» p qs hit
  decides_so =
      sym (ap (λ rs. decision g.matching.«partial» p rs hit) ends
      ∙ ap (decision g.matching.«partial» p (ends_from g shortest p)) reached)

  pub decides : (told : Option DfaAnswer) → is_excluded g p ≡ false →
      IsDecision (decision g.matching.«partial» p qs hit) told → IsDecidedBy g shortest p told
  decides None inside e = inr (decides_so ∙ e)
  decides (Some told) inside e = (inside, decides_so ∙ e)
