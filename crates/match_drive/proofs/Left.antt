-- What the places before add to what is found later.
use Rattle.std.proofs.Common.{◌≡◌, ℕ, ℤ, Bool, true, false, List, [], ◌∷◌, ◌++◌, Option, Some, None, refl, sym, ap, ◌∙◌}
use Rattle.std.specs.Option.{option_or, unwrap_or}
use Rattle.frame_store.specs.Captures.{Captures}
use Rattle.ordered_search.specs.Stream.{Note}
use Rattle.frame_state.specs.declared.answer.PlaceAnswer.TheVariants as told
use Rattle.frame_state.specs.declared.answer.Signal.{Signal}
use Rattle.frame_state.specs.Answer.{signal_of, IsAnswer, IsMark}
use Rattle.ordered_search.specs.PlaceAnswer as place
use Rattle.ordered_search.specs.PlaceAnswer.{Walked, name_in, last_name}
use Rattle.match_drive.specs.declared.answer.MatchAnswer.TheVariants as answer
use Rattle.ordered_search.specs.MatchAnswer.{MatchAnswer, Match, NoMatch, PartialFrom, Error, Found, undecided}
use Rattle.ordered_search.specs.MatchAnswer.{found_by, found_at}
use Rattle.match_drive.specs.Answer.{TellsPlace, TellsNone}
use Rattle.match_drive.specs.Rest.{first_hit, after_hit, IsLeft}

or_none : (x : Option ℕ) → option_or x None ≡ x
or_none None = refl
or_none (Some n) = refl

or_assoc : (x y z : Option ℕ) → option_or (option_or x y) z ≡ option_or x (option_or y z)
or_assoc None y z = refl
or_assoc (Some n) y z = refl

-- the last name of two lists is that of the second, or else of the first
pub last_name-append : (xs ys : List Note) → last_name (xs ++ ys) ≡ option_or (last_name ys) (last_name xs)
last_name-append [] ys = sym (or_none (last_name ys))
last_name-append (x ∷ xs) ys = ap (λ o. option_or o (name_in x)) (last_name-append xs ys)
    ∙ or_assoc (last_name ys) (last_name xs) (name_in x)

-- one more place that reached the end, or didn't
after_undecided : (first : Option ℕ) (hit : Bool) (p : ℕ) (a : MatchAnswer)
    → after_hit first (undecided hit p a) ≡ after_hit (first_hit first hit p) a
after_undecided None true p a = refl
after_undecided None false p a = refl
after_undecided (Some q) true p NoMatch = refl
after_undecided (Some q) true p (PartialFrom r) = refl
after_undecided (Some q) true p (Match o) = refl
after_undecided (Some q) true p (Error e) = refl
after_undecided (Some q) false p a = refl

-- The place failed, and what is left follows it.
pub left_failed : (signal : Signal) (hit : Bool) (caps : Captures) (w : Walked) (p : ℕ) (later : place.Signal → Found)
    (first old mark : Option ℕ) (whole : Found)
    → IsAnswer (told.Failed signal hit) caps w → IsMark (told.Failed signal hit) old mark w
    → IsLeft whole first old (found_at p w later)
    → IsLeft whole (first_hit first hit p) mark (later (signal_of signal))
left_failed signal hit caps w p later first old mark whole is is_mark left =
    let l = later (signal_of signal) in
    let e : found_at p w later ≡ found_by p w later (place.Failed (signal_of signal)) = ap (found_by p w later) is.0 in
    record {
      answer = left.answer ∙ ap (λ f. after_hit first f.answer) e
          ∙ ap (λ h. after_hit first (undecided h p l.answer)) (sym is.1) ∙ after_undecided first hit p l.answer;
      last_mark =
          left.last_mark ∙ ap (λ f. option_or (last_name f.notes) old) e
          ∙ ap (λ o. option_or o old) (last_name-append w.notes l.notes)
          ∙ or_assoc (last_name l.notes) (last_name w.notes) old ∙ ap (option_or (last_name l.notes)) (sym is_mark);
    }

-- Each answer of a place that decides.

after_match : (first : Option ℕ) (o : place.Outcome) → after_hit first (Match o) ≡ Match o
after_match None o = refl
after_match (Some q) o = refl

after_error : (first : Option ℕ) (a : place.PlaceAnswer) → after_hit first (Error a) ≡ Error a
after_error None a = refl
after_error (Some q) a = refl

after_partial : (first : Option ℕ) (p : ℕ) → after_hit first (PartialFrom p) ≡ PartialFrom (unwrap_or first p)
after_partial None p = refl
after_partial (Some q) p = refl

pub tells_match : (keep to : ℕ) (m : Option ℕ) (p : ℕ) (first mark : Option ℕ)
    → TellsPlace (told.Matched keep to m) p first mark (answer.Match keep to m)
tells_match keep to m p first mark caps w later old whole is is_mark left = (
  left.answer ∙ ap (λ a. after_hit first (found_by p w later a).answer) is ∙ after_match first _,
  is_mark ∙ sym (left.last_mark ∙ ap (λ a. option_or (last_name (found_by p w later a).notes) old) is),
)

pub tells_partial : (p : ℕ) (first mark : Option ℕ) → TellsPlace told.Partial p first mark
    (answer.Partial (unwrap_or first p) mark)
tells_partial p first mark caps w later old whole is is_mark left =
    let last = is_mark ∙ sym (left.last_mark ∙ ap (λ a. option_or (last_name (found_by p w later a).notes) old) is) in
    ((left.answer ∙ ap (λ a. after_hit first (found_by p w later a).answer) is ∙ after_partial first p, last), last)

pub tells_match_limit : (p : ℕ) (first mark : Option ℕ) → TellsPlace told.MatchLimit p first mark answer.MatchLimit
tells_match_limit p first mark caps w later old whole is is_mark left = (
  left.answer ∙ ap (λ a. after_hit first (found_by p w later a).answer) is ∙ after_error first _,
  is_mark ∙ sym (left.last_mark ∙ ap (λ a. option_or (last_name (found_by p w later a).notes) old) is),
)

pub tells_frame_limit : (p : ℕ) (first mark : Option ℕ) → TellsPlace told.FrameLimit p first mark answer.FrameLimit
tells_frame_limit p first mark caps w later old whole is is_mark left = (
  left.answer ∙ ap (λ a. after_hit first (found_by p w later a).answer) is ∙ after_error first _,
  is_mark ∙ sym (left.last_mark ∙ ap (λ a. option_or (last_name (found_by p w later a).notes) old) is),
)

pub tells_loop : (p : ℕ) (first mark : Option ℕ) → TellsPlace told.Loop p first mark answer.RecurseLoop
tells_loop p first mark caps w later old whole is is_mark left = (
  left.answer ∙ ap (λ a. after_hit first (found_by p w later a).answer) is ∙ after_error first _,
  is_mark ∙ sym (left.last_mark ∙ ap (λ a. option_or (last_name (found_by p w later a).notes) old) is),
)

pub tells_callout : (n m : ℤ) → m ≡ n → (p : ℕ) (first mark : Option ℕ)
    → TellsPlace (told.Abort n) p first mark (answer.Callout m)
tells_callout n m same p first mark caps w later old whole is is_mark left = (
  left.answer ∙ ap (λ a. after_hit first (found_by p w later a).answer) is ∙ after_error first _
      ∙ ap (λ k. Error (place.Abort k)) (sym same),
  is_mark ∙ sym (left.last_mark ∙ ap (λ a. option_or (last_name (found_by p w later a).notes) old) is),
)

-- No place decides.

pub tells_no_match : (mark : Option ℕ) → TellsNone None mark (answer.NoMatch mark)
tells_no_match mark caps whole left = ((left.answer, sym left.last_mark), sym left.last_mark)

pub tells_soft_partial : (p : ℕ) (mark : Option ℕ) → TellsNone (Some p) mark (answer.Partial p mark)
tells_soft_partial p mark caps whole left = ((left.answer, sym left.last_mark), sym left.last_mark)
