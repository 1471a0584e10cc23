-- What is told of inputs beside the text of a run, from each of its stages on.
use Rattle.std.proofs.Common.{◌≡◌, ◌≢◌, refl, sym, ap, subst, ◌∙◌, ℕ, Bool, true, false, ◌&&◌, ◌||◌, not}
use Rattle.std.proofs.Common.{if◌then◌else◌, List, [], ◌∷◌, ◌++◌, Option, None, Some, Result, Ok, Err}
use Rattle.std.specs.List.{list_any}
use Rattle.std.proofs.lemmas.Bool.{false≢true}
use Rattle.std.proofs.lemmas.List.Folds.{list_any-append}
use Rattle.pcre_io.specs.Files.{Contents}
use Rattle.pcre_io.specs.Told.{Told}
use Rattle.pcre_io.specs.declared.traits.IoError.{IoError}
use Rattle.pcre_io.specs.declared.traits.IoError.TheVariants as io
use Rattle.line_feed.specs.Rows.{At, End, rows_within}
use Rattle.grep_args.specs.declared.plan.GrepPlan.{GrepPlan}
use Rattle.tool_io.specs.declared.target.Target.{Target}
use Rattle.pat_tree.specs.Pattern.{Pattern}
use Rattle.grep_output.specs.declared.ended.Stop.{Stop}
use Rattle.grep_output.specs.declared.ended.Stop.TheVariants.{SinkFault, TooManyErrors, Memory}
use Rattle.grep_output.specs.declared.shows.Treatment.TheVariants.{AsText}
use Rattle.grep_output.specs.declared.state.State.{State}
use Rattle.grep_output.specs.Ends.{stop_of}
use Rattle.grep_output.specs.InputText.{input_text}
use Rattle.grep_output.specs.Lines.{is_nul, lines, treatment_by}
use Rattle.grep_output.specs.Scans.{at_finish, early, nth_place, place_of_most, scan, scan_to}
use Rattle.grep_output.specs.Shows.{greatest_selected, trailing}
use Rattle.grep_core.specs.grep_match.Matches.{is_selected}
use Rattle.tool_io.specs.Asked.{Asked, asked, is_standard, nothing, standard_after, StandFor, Stands}
use Rattle.grep_main.specs.PatternFiles.{shown_name}
use Rattle.grep_main.specs.Reports.{report_of, state_after_report}
use Rattle.grep_main.specs.Leaves.{Either, LeavesIt, LeavesAll, LeavesUnasked, TiesBy, Unless, UnlessLacks, Uses}

-- Where a run stops.

pub where-stop : (T U : Type 0) (stop : Stop) (fact : Type 0) → UnlessLacks {T = T} (Err stop) fact
    → UnlessLacks {T = U} (Err stop) fact
where-stop T U SinkFault fact h = h
where-stop T U TooManyErrors fact h = h
where-stop T U Memory fact h = tt

pub where-any : {T : Type 0} (result : Result T Stop) (fact : Type 0) → fact → UnlessLacks result fact
where-any (Ok x) fact h = h
where-any (Err SinkFault) fact h = h
where-any (Err TooManyErrors) fact h = h
where-any (Err Memory) fact h = tt

pub where-map : {T : Type 0} (result : Result T Stop) (fact more : Type 0) → (fact → more) → UnlessLacks result fact
    → UnlessLacks result more
where-map (Ok x) fact more f h = f h
where-map (Err SinkFault) fact more f h = f h
where-map (Err TooManyErrors) fact more f h = f h
where-map (Err Memory) fact more f h = tt

pub unless-any : (b : Bool) (fact : Type 0) → fact → Unless b fact
unless-any true fact h = tt
unless-any false fact h = h

pub where-refused : (T : Type 0) (fault : IoError) (fact : Type 0) → fact
    → UnlessLacks {T = T} (Err (stop_of fault)) fact
where-refused T io.Failed fact h = h
where-refused T io.Memory fact h = tt

module _ {T U : Type 0} {contents : Option Contents} {first last : ℕ} {given : List Asked} {fact : Type 0} where
  pub tied-stop : (stop : Stop) (result : Result U Stop) → result ≡ Err stop
      → TiesBy {T = T} contents first last given (Err stop) fact → TiesBy contents first last given result fact
  tied-stop stop result same ties = record {
    absent = ties.absent;
    leaves = subst (λ r. UnlessLacks r fact) (sym same) (where-stop T U stop fact ties.leaves);
  }

  pub tied-refused : {x : T} (fault : IoError) (result : Result U Stop) → result ≡ Err (stop_of fault)
      → TiesBy contents first last given (Ok x) fact → TiesBy contents first last given result fact
  tied-refused fault result same ties = record {
    absent = ties.absent;
    leaves = subst (λ r. UnlessLacks r fact) (sym same) (where-refused U fault fact ties.leaves);
  }

-- Standard input that isn't among the targets.

or_first : (a b : Bool) → (a || b) ≡ false → a ≡ false
or_first true b e = e
or_first false b e = refl

or_second : (a b : Bool) → (a || b) ≡ false → b ≡ false
or_second true b e = absurd (false≢true (sym e))
or_second false b e = e

module _ (list others : List Target) (before mid after : Told) where
  neither : list_any is_standard (list ++ others) ≡ false
      → (list_any is_standard list || list_any is_standard others) ≡ false
  neither none = sym (list_any-append is_standard list others) ∙ none

  pub unasked-join : LeavesUnasked list before mid → LeavesUnasked others mid after
      → LeavesUnasked (list ++ others) before after
  unasked-join had more = λ none.
      let parts = neither none in
      more (or_second (list_any is_standard list) (list_any is_standard others) parts)
      ∙ had (or_first (list_any is_standard list) (list_any is_standard others) parts)

  pub unasked-front : LeavesUnasked list before mid → LeavesUnasked (list ++ others) before mid
  unasked-front had = λ none. had (or_first (list_any is_standard list) (list_any is_standard others) (neither none))

-- one target that was searched
pub unasked-uses : (target : Target) (mid_used is_used : Bool) (mid after : Told)
    → Uses (is_standard target) mid_used is_used mid after → LeavesUnasked (target ∷ []) mid after
unasked-uses target mid_used is_used mid after uses = by_test (is_standard target) uses
  where
    by_test : (b : Bool) → Uses b mid_used is_used mid after → (b || false) ≡ false → after ≡ mid
    by_test true uses none = absurd (false≢true (sym none))
    by_test false uses none = uses.1

-- Standard input that was used before.

and-none : (a : Bool) → (a && false) ≡ false
and-none true = refl
and-none false = refl

module _ (plan : GrepPlan) (patterns : List Pattern) where
  none-selected : (most : Option ℕ) → place_of_most (is_selected plan) most [] ≡ None
  unfolding nth_place
  none-selected None = refl
  none-selected (Some n) = refl

  -- the scan of nothing ends with it
  nothing-ends : (name : List ℕ) (s : State) → (input_text plan patterns name s nothing).ended ≡ at_finish (At End)
  unfolding input_text rows_within nth_place
  nothing-ends name s =
      ap (λ b. (scan plan patterns s.errors (treatment_by b plan.binary) (lines plan nothing)).ended)
      (and-none (not (is_nul plan.newline)))
      ∙ ap (λ p. (scan_to [] (At End) (trailing plan AsText) None p).ended)
      (none-selected (greatest_selected plan AsText))

  end-late : at_finish (At End) ≢ early
  end-late e = cc

  nothing-left : (before after : Told) (target : Target) (s : State)
      → LeavesIt before after (report_of plan patterns s (asked target (Some nothing)))
  nothing-left before after target s = λ is. absurd (end-late (sym (nothing-ends (shown_name plan target) s) ∙ is))

  still-nothing : (target : Target) → standard_after target nothing ≡ nothing
  still-nothing target = by_test (is_standard target)
    where
      by_test : (b : Bool) → (if b then nothing else nothing) ≡ nothing
      by_test true = refl
      by_test false = refl

  nothing-either : (contents : Option Contents) (before after : Told) (a : Asked) (s : State) (b : Bool)
      (rest : Type 0) → Stands b contents nothing a.target a.input → rest
      → Either b (LeavesIt before after (report_of plan patterns s a)) rest
  nothing-either contents before after a s true rest is more =
      subst (λ i. LeavesIt before after (report_of plan patterns s (asked a.target i))) (sym is)
      (nothing-left before after a.target s)
  nothing-either contents before after a s false rest is more = more

  -- of standard input that is nothing, whatever was taken before
  pub leaves-nothing : (contents : Option Contents) (before after : Told) (list : List Target) (given : List Asked)
      (s : State) → StandFor contents nothing list given → LeavesAll before after plan patterns given s
  leaves-nothing contents before after [] [] s h = tt
  leaves-nothing contents before after [] (a ∷ given) s h = absurd h
  leaves-nothing contents before after (target ∷ list) [] s h = absurd h
  leaves-nothing contents before after (target ∷ list) (a ∷ given) s h =
      let s_next = state_after_report s (report_of plan patterns s a) in
      nothing-either contents before after a s (is_standard a.target)
      (LeavesAll before after plan patterns given s_next)
      (subst (λ t. Stands (is_standard t) contents nothing t a.input) (sym h.0) h.1)
      (leaves-nothing contents before after list given s_next
      (subst (λ i. StandFor contents i list given) (still-nothing target) h.2))
