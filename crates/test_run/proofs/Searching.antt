-- What a search answers, by what the library's call says.
use Rattle.std.proofs.Common.{◌≡◌, ◌∙◌, ◌++◌, ◌≤◌, ℕ, Bool, true, false, List, [], length, Option, Some, None}
use Rattle.std.proofs.Common.{Result, Ok, Err, IfOk, refl, sym, ap, subst, arith}
use Rattle.std.specs.Prelude.{if◌then◌else◌, unwrap_or}
use Rattle.pcre_io.specs.declared.callouts.Block.{Block}
use Rattle.pat_tree.specs.declared.options.MatchOptions.{MatchOptions}
use Rattle.pat_tree.specs.Pattern.{Pattern, pattern_of}
use Rattle.ordered_search.specs.Setting.{Setting}
use Rattle.pcre_io.specs.Told.{Kept}
use Rattle.pcre_io.specs.declared.traits.IoError.{IoError}
use Rattle.tool_io.specs.Writes.{Writes}
use Rattle.pcre2_api.specs.Compiled.{CodeParts}
use Rattle.pcre2_api.specs.Matched.{MatchParts, search_of, fault_in, shown_by, HasShown, IsFound, IsMatchError}
use Rattle.pcre2_errors.specs.declared.error.MatchError.{MatchError}
use Rattle.pcre2_errors.specs.declared.error.MatchError.TheVariants as told
use Rattle.pcre2_api.specs.Walks.{Answer, found, none, failed}
use Rattle.pcre2_api.proofs.Walking.{Says, search-found, search-error}
use Rattle.test_lines.specs.declared.gathered.Replies.{Replies}
use Rattle.test_run.specs.declared.options.How.{How}
use Rattle.test_run.specs.declared.matches.Search.{Search}
use Rattle.test_run.specs.declared.matches.Search.TheVariants as search
use Rattle.pcre2_api.proofs.Starting.{IsStartFault}
use Rattle.test_lines.specs.Callouts.{reply_of, called_text, calls_text}
use Rattle.test_lines.specs.Lines.{failed_line, unmatched_line}
use Rattle.test_run.specs.Searches.{error_text, refused_text, IsSearch, LiesIn, TellsMatch, TellsMissed, TellsError}
use Rattle.test_run.specs.Matches.{answered, last_met, called, answer_text, search_text}
use Rattle.test_lines.specs.Marks.{Showing, showing, match_text}
use Rattle.test_lines.proofs.Writing.{writes-first, writes-equal}

-- callouts are told after a search where they were before, and else not
some-shown : (f : Option MatchError) (blocks : List Block)
    → (elim f as (λ _. Option (List Block)) [ Some e ↦ Some [] | None ↦ Some blocks ]) ≡ None → ⊥
some-shown None blocks h = cc
some-shown (Some e) blocks h = cc

none-shown : (f : Option MatchError) (blocks : List Block)
    → Some blocks ≡ (elim f as (λ _. Option (List Block)) [ Some e ↦ None | None ↦ None ]) → ⊥
none-shown None blocks h = cc
none-shown (Some e) blocks h = cc

-- What a search answers whose callouts are answered so.
module _ (code : CodeParts) (replies : Replies) (matching : MatchOptions) (subject : List ℕ) (start : ℕ) where
  abbrev asked : Setting
  asked = search_of code matching subject start (reply_of replies)

  abbrev answered_here : Answer
  answered_here = answered (pattern_of code.tree) replies matching subject start

  pub answered-found : (f : MatchParts) → IsFound asked f → answered_here ≡ found f.outcome
  unfolding answered
  answered-found f is = search-found asked f is

  pub answered-error : (e : MatchError) → IsMatchError asked e → Says e answered_here
  unfolding answered
  answered-error e is = search-error asked e is

  -- What its callouts were shown is what the definition says.

  abbrev blocks_here : List Block
  blocks_here = called (pattern_of code.tree) replies matching subject start

  -- what is told of the callouts that were shown, unless they are passed over
  abbrev told_if : Bool → List Block → Option (List Block)
  told_if passes blocks = if passes then None else Some blocks

  module _ (pattern : List ℕ) where
    abbrev text_of : List Block → List ℕ
    text_of blocks = called_text code.tree.options.utf code.tree.verb_names pattern subject None blocks

    calls-by : (now passes : Bool) (blocks : List Block) → told_if now blocks ≡ shown_by asked (told_if passes []) →
        (if now then [] else text_of blocks) ≡ (if passes then [] else text_of blocks_here)
    calls-by true true blocks h = refl
    calls-by false false blocks h = ap (λ (o : Option (List Block)). text_of (unwrap_or o [])) h
    calls-by true false blocks h = absurd (some-shown (fault_in asked) _ (sym h))
    calls-by false true blocks h = absurd (none-shown (fault_in asked) blocks h)

    abbrev calls_of : Replies → List Block → List ℕ
    calls_of r blocks = calls_text code.tree.options.utf code.tree.verb_names pattern subject r blocks

    pub calls-are : (r : Replies) (blocks : List Block)
        → told_if r.none blocks ≡ shown_by asked (told_if replies.none [])
        → calls_of r blocks ≡ calls_of replies blocks_here
    calls-are r blocks h = calls-by r.none replies.none blocks h

-- What is written of a search, and what is told of it.
module _ (code : CodeParts) (pattern : List ℕ) (how : How) (matching : MatchOptions) (subject : List ℕ)
    (start : ℕ) where
  abbrev p : Pattern
  p = pattern_of code.tree

  abbrev show : Showing
  show = showing p how.marks

  abbrev search_at : Setting
  search_at = search_of code matching subject start (reply_of how.replies)

  abbrev here : Answer
  here = answered p how.replies matching subject start

  abbrev now_called : List ℕ
  now_called = calls_text p.options.utf p.verb_names pattern subject how.replies
      (called p how.replies matching subject start)

  abbrev said : List ℕ
  said = search_text pattern p how subject matching start

  abbrev seen : Replies → List Block → Option (List Block)
  seen r blocks = if r.none then None else Some blocks

  abbrev calls : Replies → List Block → List ℕ
  calls r blocks = calls_text p.options.utf p.verb_names pattern subject r blocks

  -- these are the callouts of the search
  abbrev Shows : Replies → List Block → Type 0
  Shows r blocks = seen r blocks ≡ shown_by search_at (seen how.replies [])

  -- the same, or nothing where memory lacked
  abbrev ShowsBy : MatchError → Replies → List Block → Type 0
  ShowsBy e r blocks = HasShown e (seen r blocks) (shown_by search_at (seen how.replies []))

  -- the list was empty before the search
  pub shows-from : (first : List Block) (r : Replies) (blocks : List Block) → first ≡ []
      → seen r blocks ≡ shown_by search_at (seen how.replies first) → Shows r blocks
  shows-from first r blocks none_yet h = subst (λ l. seen r blocks ≡ shown_by search_at (seen how.replies l)) none_yet h

  pub shows-by-from : (e : MatchError) (first : List Block) (r : Replies) (blocks : List Block) → first ≡ []
      → HasShown e (seen r blocks) (shown_by search_at (seen how.replies first)) → ShowsBy e r blocks
  shows-by-from e first r blocks none_yet h =
      subst (λ l. HasShown e (seen r blocks) (shown_by search_at (seen how.replies l))) none_yet h

  pub text-found : (f : MatchParts) (r : Replies) (blocks : List Block) → IsFound search_at f → f.code ≡ code
      → f.subject ≡ subject → Shows r blocks →
      calls r blocks ++ match_text (showing (pattern_of f.code.tree) how.marks) f.subject f.outcome ≡ said
  text-found f r blocks is same_code same shows =
      ap (λ (c : CodeParts). calls r blocks ++ match_text (showing (pattern_of c.tree) how.marks) f.subject f.outcome)
      same_code
      ∙ ap (λ s. calls r blocks ++ match_text show s f.outcome) same
      ∙ ap (λ l. l ++ match_text show subject f.outcome)
      (calls-are code how.replies matching subject start pattern r blocks shows)
      ∙ sym (ap (λ a. now_called ++ answer_text show subject a)
      (answered-found code how.replies matching subject start f is))

  told-found : (f : MatchParts) (s : Search) → IsFound search_at f → TellsMatch s f.outcome
      → IsSearch (length subject) s here
  told-found f (search.Found to is_empty) is h =
      subst (IsSearch (length subject) (search.Found to is_empty))
      (sym (answered-found code how.replies matching subject start f is)) (h.0, h.1, is.placed.within)
  told-found f (search.Nothing mark) is h = absurd h
  told-found f search.Failed is h = absurd h

  pub told-of-found : (f : MatchParts) (r : Result Search IoError) → IsFound search_at f
      → IfOk r (λ s. TellsMatch s f.outcome) → IfOk r (λ s. IsSearch (length subject) s here)
  told-of-found f (Ok s) is h = told-found f s is h
  told-of-found f (Err e) is h = tt

  -- an error that isn't want of memory
  said-by : (a : Answer) (q : Replies) (blocks : List Block) (text : List ℕ) (r : Result Search IoError)
      (old new : Kept) → Shows q blocks → here ≡ a →
      answer_text show subject a ≡ text → Writes (calls q blocks ++ text) old new r → Writes said old new r
  said-by a q blocks text r old new shows is same w =
      writes-equal
      (ap (λ l. calls q blocks ++ l) (sym same) ∙ ap (λ l. l ++ answer_text show subject a)
      (calls-are code how.replies matching subject start pattern q blocks shows)
      ∙ sym (ap (λ b. now_called ++ answer_text show subject b) is)) w

  text-by : (e : MatchError) (q : Replies) (blocks : List Block) (r : Result Search IoError) (old new : Kept)
      → Says e here →
      ShowsBy e q blocks → IfOk r (TellsError e) → Writes (refused_text (calls q blocks) show subject e) old new r
      → Writes said old new r
  text-by told.Memory q blocks (Ok s) old new is shows comes w = absurd comes
  text-by told.Memory q blocks (Err f) old new is shows comes w = writes-first {A = Search} [] said old new f w
  text-by (told.NoMatch mark) q blocks r old new is shows comes w = said-by none q blocks [] r old new shows is refl w
  text-by told.BadOffset q blocks r old new is shows comes w =
      said-by (failed told.BadOffset) q blocks _ r old new shows is refl w
  text-by (told.BadUtf at) q blocks r old new is shows comes w =
      said-by (failed (told.BadUtf at)) q blocks _ r old new shows is refl w
  text-by told.BadUtfOffset q blocks r old new is shows comes w =
      said-by (failed told.BadUtfOffset) q blocks _ r old new shows is refl w
  text-by (told.Partial from to mark) q blocks r old new is shows comes w =
      said-by (failed (told.Partial from to mark)) q blocks _ r old new shows is refl w
  text-by told.MatchLimit q blocks r old new is shows comes w =
      said-by (failed told.MatchLimit) q blocks _ r old new shows is refl w
  text-by told.FrameLimit q blocks r old new is shows comes w =
      said-by (failed told.FrameLimit) q blocks _ r old new shows is refl w
  text-by told.RecurseLoop q blocks r old new is shows comes w =
      said-by (failed told.RecurseLoop) q blocks _ r old new shows is refl w
  text-by (told.Callout n) q blocks r old new is shows comes w =
      said-by (failed (told.Callout n)) q blocks _ r old new shows is refl w

  pub text-error : (e : MatchError) (q : Replies) (blocks : List Block) (r : Result Search IoError) (old new : Kept)
      → IsMatchError search_at e →
      ShowsBy e q blocks → IfOk r (TellsError e) → Writes (refused_text (calls q blocks) show subject e) old new r
      → Writes said old new r
  text-error e q blocks r old new is shows comes w = text-by e q blocks r old new
      (answered-error code how.replies matching subject start e is) shows comes w

  told-by : (s : Search) (a : Answer) → here ≡ a → IsSearch (length subject) s a → IsSearch (length subject) s here
  told-by s a is h = subst (IsSearch (length subject) s) (sym is) h

  told-nothing : (mark : Option ℕ) (s : Search) → s ≡ search.Nothing mark → here ≡ none
      → IsSearch (length subject) s here
  told-nothing mark s same is = told-by s none is (subst (λ t. IsSearch (length subject) t none) (sym same) tt)

  told-failed : (e : MatchError) (s : Search) → s ≡ search.Failed → here ≡ failed e → IsSearch (length subject) s here
  told-failed e s same is = told-by s (failed e) is (subst (λ t. IsSearch (length subject) t (failed e)) (sym same) tt)

  told-so : (e : MatchError) (s : Search) → Says e here → TellsError e s → IsSearch (length subject) s here
  told-so told.Memory s is same = absurd same
  told-so (told.NoMatch mark) s is same = told-nothing mark s same is
  told-so told.BadOffset s is same = told-failed told.BadOffset s same is
  told-so (told.BadUtf at) s is same = told-failed (told.BadUtf at) s same is
  told-so told.BadUtfOffset s is same = told-failed told.BadUtfOffset s same is
  told-so (told.Partial from to mark) s is same = told-failed (told.Partial from to mark) s same is
  told-so told.MatchLimit s is same = told-failed told.MatchLimit s same is
  told-so told.FrameLimit s is same = told-failed told.FrameLimit s same is
  told-so told.RecurseLoop s is same = told-failed told.RecurseLoop s same is
  told-so (told.Callout n) s is same = told-failed (told.Callout n) s same is

  pub told-error : (e : MatchError) (r : Result Search IoError) → IsMatchError search_at e → IfOk r (TellsError e)
      → IfOk r (λ s. IsSearch (length subject) s here)
  told-error e (Ok s) is comes = told-so e s (answered-error code how.replies matching subject start e is) comes
  told-error e (Err f) is comes = tt

  -- the name that is told where nothing is found
  abbrev last : Option ℕ
  last = last_met p how.replies matching subject start

  missed-found : (f : MatchParts) (s : Search) → TellsMatch s f.outcome → TellsMissed last s
  missed-found f (search.Found to is_empty) h = tt
  missed-found f (search.Nothing mark) h = absurd h
  missed-found f search.Failed h = tt

  pub missed-of-found : (f : MatchParts) (r : Result Search IoError) → IfOk r (λ s. TellsMatch s f.outcome)
      → IfOk r (TellsMissed last)
  missed-of-found f (Ok s) h = missed-found f s h
  missed-of-found f (Err e) h = tt

  missed-so : (e : MatchError) (s : Search) → IsMatchError search_at e → TellsError e s → TellsMissed last s
  missed-so told.Memory s is same = absurd same
  missed-so (told.NoMatch mark) s is same = subst (TellsMissed last) (sym same) is.2
  missed-so told.BadOffset s is same = subst (TellsMissed last) (sym same) tt
  missed-so (told.BadUtf at) s is same = subst (TellsMissed last) (sym same) tt
  missed-so told.BadUtfOffset s is same = subst (TellsMissed last) (sym same) tt
  missed-so (told.Partial from to mark) s is same = subst (TellsMissed last) (sym same) tt
  missed-so told.MatchLimit s is same = subst (TellsMissed last) (sym same) tt
  missed-so told.FrameLimit s is same = subst (TellsMissed last) (sym same) tt
  missed-so told.RecurseLoop s is same = subst (TellsMissed last) (sym same) tt
  missed-so (told.Callout n) s is same = subst (TellsMissed last) (sym same) tt

  pub missed-error : (e : MatchError) (r : Result Search IoError) → IsMatchError search_at e → IfOk r (TellsError e)
      → IfOk r (TellsMissed last)
  missed-error e (Ok s) is comes = missed-so e s is comes
  missed-error e (Err f) is comes = tt

-- an error that tells neither that there is no match, whole or partial, nor want of memory
pub error-failed : (s : Showing) (subject : List ℕ) (e : MatchError) → (e ≡ told.Memory → ⊥)
    → ((mark : Option ℕ) → e ≡ told.NoMatch mark → ⊥)
    → ((from to : ℕ) (mark : Option ℕ) → e ≡ told.Partial from to mark → ⊥) →
    (failed_line e ≡ error_text s subject e) × TellsError e search.Failed
error-failed s subject told.Memory memory missed part = absurd (memory refl)
error-failed s subject (told.NoMatch m) memory missed part = absurd (missed m refl)
error-failed s subject told.BadOffset memory missed part = (refl, refl)
error-failed s subject (told.BadUtf at) memory missed part = (refl, refl)
error-failed s subject told.BadUtfOffset memory missed part = (refl, refl)
error-failed s subject (told.Partial from to m) memory missed part = absurd (part from to m refl)
error-failed s subject told.MatchLimit memory missed part = (refl, refl)
error-failed s subject told.FrameLimit memory missed part = (refl, refl)
error-failed s subject told.RecurseLoop memory missed part = (refl, refl)
error-failed s subject (told.Callout n) memory missed part = (refl, refl)

-- what is written of an error that isn't want of memory, after these callouts
pub refused-is : (calls : List ℕ) (s : Showing) (subject : List ℕ) (e : MatchError) → (e ≡ told.Memory → ⊥)
    → calls ++ error_text s subject e ≡ refused_text calls s subject e
refused-is calls s subject told.Memory memory = absurd (memory refl)
refused-is calls s subject (told.NoMatch m) memory = refl
refused-is calls s subject told.BadOffset memory = refl
refused-is calls s subject (told.BadUtf at) memory = refl
refused-is calls s subject told.BadUtfOffset memory = refl
refused-is calls s subject (told.Partial from to m) memory = refl
refused-is calls s subject told.MatchLimit memory = refl
refused-is calls s subject told.FrameLimit memory = refl
refused-is calls s subject told.RecurseLoop memory = refl
refused-is calls s subject (told.Callout n) memory = refl

pub told-failure : (e : MatchError) → TellsError e search.Failed → (r : Result Search IoError)
    → IfOk r (λ s. s ≡ search.Failed) → IfOk r (TellsError e)
told-failure e tells (Ok s) same = subst (TellsError e) (sym same) tells
told-failure e tells (Err f) same = tt

-- a partial match lies in the subject that was searched
pub lies-in : (g : Setting) (e : MatchError) → IsMatchError g e → LiesIn (length g.subject) e
lies-in g (told.Partial from to mark) is = let there : from ≤ length g.subject = is.4.within in
    (omega (arith, there, is.5), omega (arith, is.5))
lies-in g told.Memory is = tt
lies-in g (told.NoMatch mark) is = tt
lies-in g told.BadOffset is = tt
lies-in g (told.BadUtf at) is = tt
lies-in g told.BadUtfOffset is = tt
lies-in g told.MatchLimit is = tt
lies-in g told.FrameLimit is = tt
lies-in g told.RecurseLoop is = tt
lies-in g (told.Callout n) is = tt

-- a search that can't begin has no partial match
pub unbegun-line : (s : Showing) (subject : List ℕ) (e : MatchError) → IsStartFault e
    → failed_line e ≡ unmatched_line s subject e
unbegun-line s subject told.BadOffset is = refl
unbegun-line s subject (told.BadUtf at) is = refl
unbegun-line s subject told.BadUtfOffset is = refl
unbegun-line s subject _ is = absurd is
