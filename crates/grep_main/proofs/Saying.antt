-- What is said in place of a search, and what a run comes to.
use Rattle.std.proofs.Common.{◌≡◌, ℕ, ◌<◌, List, [], ◌++◌, codes, decimal, length, take, drop, Option, Some, None}
use Rattle.std.proofs.Common.{Result, Ok, Err, refl, sym, subst, ◌∙◌, arith, inl, inr, append_assoc, append-nil}
use Rattle.std.proofs.lemmas.Bool.{lt-leb}
use Rattle.std.specs.Fmt.{signed_decimal}
use Rattle.pcre_io.specs.Told.{Kept}
use Rattle.grep_args.specs.declared.plan.GrepPlan.{GrepPlan}
use Rattle.grep_args.specs.declared.plan.HelpKind.{HelpKind}
use Rattle.grep_args.specs.Words.{Reads, plan_of}
use Rattle.grep_output.specs.declared.ended.Stop.TheVariants.{SinkFault, TooManyErrors, Memory}
use Rattle.pat_tree.specs.Pattern.{Pattern}
use Rattle.grep_targets.specs.Filters.{Filter, BadFilter, filter_of}
use Rattle.tool_io.specs.Asked.{Asked}
use Rattle.token_parts.specs.declared.fault.Fault.{Fault}
use Rattle.grep_core.specs.grep_match.Compiled.{Compiled, patterns_of}
use Rattle.pcre2_errors.specs.FaultTexts.{fault_text}
use Rattle.grep_output.specs.InputText.{first_state}
use Rattle.grep_output.specs.Messages.{message}
use Rattle.tool_io.specs.Outcomes.{RunOutcome, Stops, RunsSome, RunsAll, Runs}
use Rattle.grep_main.specs.Refusals.{refusal, usage_message, refused_message}
use Rattle.grep_main.specs.Reports.{Report, reports}
use Rattle.grep_main.specs.PatternFiles.{FileTexts, texts_in_files}
use Rattle.grep_main.specs.ToolText.{status_of, with_names, targets_of, text_by_filter, text_by_patterns}
use Rattle.grep_main.specs.ToolText.{text_by_texts, text_by_help, text_of}
use Rattle.grep_main.specs.RunsBy.{RunsBy}
use Rattle.tool_io.specs.Printed.{Printed, printed}

-- The texts of messages, as they are written piece by piece.

pub usage-of : (start word : List ℕ) → codes "pcre2grep: " ++ (start ++ (word ++ (codes "\n" ++ []))) ≡ message
    (start ++ word)
usage-of start word = simp (append_assoc, append-nil)

refused-of : (kind index error at text : List ℕ)
    → codes "pcre2grep: "
    ++ (kind ++ (codes " "
    ++ (index ++ (codes ": error "
    ++ (error ++ (codes " at offset " ++ (at ++ (codes ": " ++ (text ++ (codes "\n" ++ []))))))))))
    ≡ message (kind ++ codes " " ++ index ++ codes ": error " ++ error ++ codes " at offset " ++ at ++ codes ": "
    ++ text)
refused-of kind index error at text = simp (append_assoc, append-nil)

pub refused-said : (kind : List ℕ) (number : ℕ) (fault : Fault) (index error at text : List ℕ)
    → index ≡ decimal number → error ≡ signed_decimal fault.number → at ≡ decimal fault.at
    → text ≡ fault_text fault.number
    → codes "pcre2grep: "
    ++ (kind ++ (codes " "
    ++ (index ++ (codes ": error "
    ++ (error ++ (codes " at offset " ++ (at ++ (codes ": " ++ (text ++ (codes "\n" ++ []))))))))))
    ≡ refused_message kind number fault
refused-said kind number fault index error at text n e a t =
    refused-of kind index error at text
    ∙ (λ i. message (kind ++ codes " " ++ n i ++ codes ": error " ++ e i ++ codes " at offset " ++ a i ++ codes
    ": " ++ t i))

-- The status of a run that can go on is at most 2.

abbrev Few : RunOutcome → Type 0
Few text = text.status < 3

few-reports : (rs : List Report) → status_of rs < 3
few-reports rs = grind arith

few-filter : (words : List (List ℕ)) (plan : GrepPlan) (given : List Asked) (patterns : List Pattern)
    (found : Result Filter BadFilter) → Few (text_by_filter words plan given patterns found)
few-filter words plan given patterns (Err bad) = omega arith
few-filter words plan given patterns (Ok filter) =
    few-reports (reports (with_names words (targets_of given) plan) patterns given first_state)

few-patterns : (words : List (List ℕ)) (plan : GrepPlan) (given : List Asked) (found : Compiled)
    → Few (text_by_patterns words plan given found)
few-patterns words plan given (Err bad) = omega arith
few-patterns words plan given (Ok patterns) = few-filter words plan given patterns (filter_of plan)

few-texts : (words : List (List ℕ)) (plan : GrepPlan) (given : List Asked) (texts : FileTexts)
    → Few (text_by_texts words plan given texts)
few-texts words plan given (Err text) = omega arith
few-texts words plan given (Ok texts) = few-patterns words plan given (patterns_of plan (plan.patterns ++ texts))

few-help : (words : List (List ℕ)) (plan : GrepPlan) (given : List Asked) (help : Option HelpKind)
    → Few (text_by_help words plan given help)
few-help words plan given (Some kind) = omega arith
few-help words plan given None =
    let n = length plan.pattern_files in few-texts words plan (drop n given) (texts_in_files plan (take n given))

few-plan : (words : List (List ℕ)) (given : List Asked) (found : Reads GrepPlan)
    → Few (elim found [
      | Err fault ↦ refusal (usage_message words fault)
      | Ok plan ↦
          text_by_help (drop plan.files_from words) plan given plan.help
    ])
few-plan words given (Err fault) = omega arith
few-plan words given (Ok plan) = few-help (drop plan.files_from words) plan given plan.help

few-grep : (words : List (List ℕ)) (given : List Asked) → Few (text_of words given)
unfolding text_of
few-grep words given = few-plan words given (plan_of words)

-- a run that wrote all
pub runs-whole : (words : List (List ℕ)) (given : List Asked) (status : ℕ) (out_old out_new err_old err_new : Kept)
    → RunsBy (text_of words given) (printed out_old err_old) (printed out_new err_new) (Ok status)
    → Runs (text_of words given) status (printed out_old err_old) (printed out_new err_new)
runs-whole words given status out_old out_new err_old err_new runs =
    let text = text_of words given in
    let few : status < 3 = subst (λ n. n < 3) (sym runs.1) (few-grep words given) in
    subst (λ b. Stops b (RunsSome text status (printed out_old err_old) (printed out_new err_new))
    (RunsAll text status (printed out_old err_old) (printed out_new err_new))) (sym (lt-leb 3 status few))
    (record { out = runs.0.out; err = runs.0.err; answer = runs.1; steady = runs.0.steady })

-- a run that the last match error that there may be ended
pub runs-many : (text : RunOutcome) (old new : Printed) → RunsBy text old new (Err TooManyErrors) → Runs text 2 old new
runs-many text old new runs = record { out = runs.0.out; err = runs.0.err; answer = sym runs.1; steady = runs.0.steady }

-- a run that stopped: memory lacked, or a write was refused
pub runs-lacked : (text : RunOutcome) (old new : Printed) → RunsBy text old new (Err Memory) → Runs text 3 old new
runs-lacked text old new runs = record { out = runs.out; err = runs.err; cause = inl (refl, runs.steady (λ is. cc)) }

pub runs-refused : (text : RunOutcome) (old new : Printed) → RunsBy text old new (Err SinkFault) → Runs text 4 old new
runs-refused text old new runs = record { out = runs.out; err = runs.err; cause = inr (refl, runs.cause refl) }
