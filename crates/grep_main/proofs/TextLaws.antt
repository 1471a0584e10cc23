-- The laws of the text of a run.
use Rattle.std.proofs.Common.{◌≡◌, sym, ap, subst, ◌∙◌, arith, ℕ, ◌<◌, Bool, true, false, if◌then◌else◌, List, []}
use Rattle.std.proofs.Common.{◌∷◌, ◌++◌, length, map, drop, Option, None, Some, Result, Ok, Err}
use Rattle.pcre_io.specs.Files.{Contents}
use Rattle.grep_args.specs.declared.plan.GrepPlan.{GrepPlan}
use Rattle.grep_args.specs.declared.plan.HelpKind.{HelpKind}
use Rattle.grep_args.specs.Words.{Reads, plan_of}
use Rattle.tool_io.specs.Outcomes.{RunOutcome}
use Rattle.grep_main.specs.Refusals.{refusal, usage_message}
use Rattle.line_feed.specs.Rows.{Input}
use Rattle.tool_io.specs.declared.target.Target.{Target}
use Rattle.tool_io.specs.declared.target.Target.TheVariants as targets
use Rattle.grep_targets.specs.Filters.{Filter, BadFilter, filter_of}
use Rattle.tool_io.specs.Asked.{Asked, StandFor, asked, named_target}
use Rattle.grep_main.specs.PatternFiles.{FileTexts}
use Rattle.grep_output.specs.InputText.{first_state}
use Rattle.grep_main.specs.ToolText.{with_names, targets_of, text_by_help, text_by_texts, text_by_patterns}
use Rattle.grep_main.specs.ToolText.{text_by_filter, text_of}
use Rattle.grep_main.specs.Asks.{Lists, MayStandFor, AsksUnless, AsksBy, asked_unless, asked_by_plan, filtered}
use Rattle.grep_main.specs.Asks.{targets_by}
use Rattle.grep_core.specs.grep_match.Compiled.{Compiled}
use Rattle.grep_main.specs.Laws.{SoundEndWell, ToldAskForOne, NamesNoFile, NoneButStandard}
use Rattle.grep_main.proofs.SoundInputs.{all-well}

-- no input has failed
well-status : (failed selected : Bool) → failed ≡ false → (if failed then 2 else if selected then 0 else 1) < 2
well-status true selected h = absurd (cc h)
well-status false true h = omega arith
well-status false false h = omega arith

well-help : (words : List (List ℕ)) (plan : GrepPlan) (given : List Asked) (help : Option HelpKind)
    → (text_by_help words plan given None).status < 2
    → (text_by_help words plan given help).status < 2
well-help words plan given None h = h
well-help words plan given (Some kind) h = omega arith

abbrev EndsWell : RunOutcome → Type 0
EndsWell text = text.status < 2

-- by the plan of the words
well-plan : (words : List (List ℕ)) (given : List Asked) (found : Reads GrepPlan) (plan : GrepPlan) → found ≡ Ok plan
    → EndsWell (text_by_help (drop plan.files_from words) plan given plan.help)
    → EndsWell (elim found [
      | Err fault ↦ refusal (usage_message words fault)
      | Ok p ↦
          text_by_help (drop p.files_from words) p given p.help
    ])
well-plan words given (Err fault) plan is h = absurd (cc is)
well-plan words given (Ok p) plan is h = let same : p ≡ plan = cc in
    subst (λ q. EndsWell (text_by_help (drop q.files_from words) q given q.help)) (sym same) h

pub sound-well : SoundEndWell
unfolding text_of
sound-well words given sound =
    let plan = sound.plan in
    let file_words = drop plan.files_from words in
    let inputs = drop (length plan.pattern_files) given in
    well-plan words given (plan_of words) plan sound.accepted (well-help file_words plan given plan.help
    (subst (λ (t : FileTexts). EndsWell (text_by_texts file_words plan inputs t)) (sym sound.readable)
    (subst (λ (c : Compiled). EndsWell (text_by_patterns file_words plan inputs c)) (sym sound.compiled)
    (subst (λ (f : Result Filter BadFilter). EndsWell (text_by_filter file_words plan inputs sound.patterns f))
    (sym sound.filtered)
    (well-status _ _ (all-well (with_names file_words (targets_of inputs) plan) sound.patterns inputs first_state
    sound.whole (omega (arith, sound.few))))))))

-- Over files that are told.

told-unless : (help : Option HelpKind) (set : Contents) (first last : ℕ) (plan : GrepPlan) (words : List (List ℕ))
    (asked : List Target) → AsksUnless help (Some set) first last plan words asked
    → asked ≡ asked_unless help (asked_by_plan plan (targets_by plan set words))
told-unless (Some kind) set first last plan words asked h = h
told-unless None set first last plan words asked h = h.1 ∙ ap (asked_by_plan plan) h.2

told-by : (read : Reads GrepPlan) (set : Contents) (first last : ℕ) (words : List (List ℕ)) (asked : List Target)
    → AsksBy read (Some set) first last words asked
    → asked ≡ elim read [
      | Err fault ↦ []
      | Ok plan ↦ asked_unless plan.help
          (asked_by_plan plan (targets_by plan set (drop plan.files_from words)))
    ]
told-by (Err fault) set first last words asked h = h
told-by (Ok plan) set first last words asked h = told-unless plan.help set first last plan
    (drop plan.files_from words) asked h

pub told-asks : ToldAskForOne
told-asks set first last words asked h = told-by (plan_of words) set first last words asked h

-- Words that name no file.

alone-stands : (contents : Option Contents) (heard : Input) (given : List Asked)
    → StandFor contents heard (targets.Input ∷ []) given → given ≡ asked targets.Input (Some heard) ∷ []
alone-stands contents heard [] h = absurd h
alone-stands contents heard (a ∷ []) h =
    ap (λ (a : Asked). a ∷ []) (ap (λ t. asked t a.input) h.0 ∙ ap (λ i. asked targets.Input i) h.1)
alone-stands contents heard (a ∷ b ∷ more) h = absurd h.2

none-lists : (contents : Option Contents) (first last : ℕ) (plan : GrepPlan) (list : List Target) (filter : Filter)
    → filter_of plan ≡ Ok filter → Lists contents first last plan [] list → list ≡ targets.Input ∷ []
none-lists None first last plan list filter is h =
    subst (λ f. MayStandFor f plan.recursive [] list) is h.0
none-lists (Some set) first last plan list filter is h = h ∙ ap (λ f. filtered f plan set []) is

none-asks : (contents : Option Contents) (first last : ℕ) (words : List (List ℕ)) (list : List Target)
    (n : NamesNoFile words) → AsksUnless n.plan.help contents first last n.plan [] list → list ≡ targets.Input ∷ []
none-asks contents first last words list n h =
    let plan = n.plan in
    let (found, is, lists) = subst (λ o. AsksUnless o contents first last plan [] list) n.searches h in
    is ∙ ap (λ files. map named_target files ++ found) n.patterns
    ∙ none-lists contents first last plan found n.filter n.filtered lists

pub standard-alone : NoneButStandard
standard-alone contents first last words heard list given n asks stand =
    let by_plan = subst (λ r. AsksBy r contents first last words list) n.accepted asks in
    let by_none = subst (λ files. AsksUnless n.plan.help contents first last n.plan files list) n.inputs by_plan in
    alone-stands contents heard given
    (subst (λ found. StandFor contents heard found given) (none-asks contents first last words list n by_none) stand)
