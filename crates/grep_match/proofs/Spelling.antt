-- Fixed strings whose bytes stand for themselves: what they are compiled to, and where they aren't found.
use Rattle.std.proofs.Common.{◌≡◌, ◌∙◌, ℕ, ◌+◌, ◌-◌, ◌≤◌, Bool, false, List, [], ◌∷◌, length, map, flat_map}
use Rattle.std.proofs.Common.{drop, get_or, Option, Some, None, Result, Ok, refl, sym, ap, subst, arith}
use Rattle.std.proofs.Common.{length-drop}
use Rattle.std.proofs.lemmas.List.{get_or-drop}
use Rattle.std.proofs.lemmas.Bool.Decides.{nat_tests}
use Rattle.std.specs.Prelude.{nat_lt}
use Rattle.memchr.specs.Find.{FindsNeedle}
use Rattle.pat_tree.specs.declared.options.Newline.{Newline}
use Rattle.pat_tree.specs.declared.options.Options.{Options}
use Rattle.pat_tree.specs.declared.options.MatchOptions.{MatchOptions}
use Rattle.pat_tree.specs.declared.options.PartialMode.TheVariants.{Off}
use Rattle.pat_tree.specs.Nested.{row}
use Rattle.pat_tree.specs.Pattern.{Pattern}
use Rattle.pat_lengths.specs.Lookbehinds.{found_in, found_in_row}
use Rattle.token_parts.specs.declared.fault.Fault.{Fault}
use Rattle.token_parts.specs.Tell.{◌>>=◌}
use Rattle.pat_grammar.specs.Reading.{spelt}
use Rattle.pat_grammar.specs.Parts.{alternative}
use Rattle.ordered_search.specs.MatchAnswer.{Found, match_answer}
use Rattle.pcre2_api.specs.Patterns.{compiled, setting, fault_behind, unless_refused}
use Rattle.pcre2_api.specs.Answers.{Answer, none, error, answer_of, pattern_answer}
use Rattle.pcre2_api.specs.Starts.{start_fault}
use Rattle.pcre2_api.specs.pcre2_errors.declared.error.MatchError.{MatchError}
use Rattle.pcre2_api.specs.pcre2_errors.MatchErrors.{number_of}
use Rattle.grep_args.specs.declared.plan.GrepPlan.{GrepPlan}
use Rattle.grep_match.specs.PatternTexts.{escaped, wrapped, options_of}
use Rattle.grep_match.specs.Spelt.{bytewise, spelling, IsSpelling, IsSpelt, StandsNowhere}
use Rattle.grep_match.proofs.SpeltReading.{spelt-read, read_of}
use Rattle.grep_match.proofs.SpeltSearches.{none-at-all}

-- no lookbehind stands among characters
no-lookbehind : (options : Options) (text : List ℕ) → found_in_row (row (map (spelt options) text)) [] ≡ ([], [])
unfolding found_in found_in_row
no-lookbehind options [] = refl
no-lookbehind options (c ∷ cs) = rw (no-lookbehind options cs) refl

none-behind : (options : Options) (text : List ℕ) → found_in (alternative (map (spelt options) text)) [] ≡ ([], [])
unfolding found_in found_in_row
none-behind options [] = refl
none-behind options (c ∷ []) = refl
none-behind options (c ∷ d ∷ cs) = no-lookbehind options (c ∷ d ∷ cs)

unfaulted : (lines : Bool) (newline : Newline) (text : List ℕ) → fault_behind (read_of lines newline text) ≡ None
unfolding found_in found_in_row
unfaulted lines newline text = rw (none-behind (bytewise lines newline) text) refl

by_newline : (lines : Bool) (newline : Newline) (text : List ℕ) → length text ≤ 32768
    → compiled (bytewise lines newline) (flat_map escaped text) ≡ Ok (spelling (bytewise lines newline) text)
by_newline lines newline text short =
    ap (λ r. r >>= λ parsed. unless_refused parsed.pattern (fault_behind parsed)) (spelt-read lines newline text short)
    ∙ ap (unless_refused (spelling (bytewise lines newline) text)) (unfaulted lines newline text)

pub spelt-compiled : (options : Options) (text : List ℕ) → IsSpelling options text
    → compiled options (flat_map escaped text) ≡ Ok (spelling options text)
spelt-compiled options text s =
    subst (λ o. compiled o (flat_map escaped text) ≡ Ok (spelling o text)) (sym s.bytes)
    (by_newline s.lines s.newline text s.short)

-- so in a plan
pub spelt-in-plan : (plan : GrepPlan) (text : List ℕ) → IsSpelt plan text
    → compiled (options_of plan) (wrapped plan (flat_map escaped text)) ≡ Ok (spelling (options_of plan) text)
spelt-in-plan plan text s =
    ap (compiled (options_of plan)) (s.alone (flat_map escaped text))
    ∙ spelt-compiled (options_of plan) text s.spelling

-- what a code is, that is made of it
pub same-pattern : (p q : Pattern) (found : Result Pattern Fault) → found ≡ Ok p → found ≡ Ok q → p ≡ q
same-pattern p q found first second = let both : ◌≡◌ {A = Result Pattern Fault} (Ok p) (Ok q) = sym first ∙ second in cc

no-fault : (line : List ℕ) (start : ℕ) → start ≤ length line → start_fault false line start ≡ None
no-fault line start begun =
    let inside : nat_lt (length line) start ≡ false = grind (arith, nat_tests) in
    rw (inside, start_fault) refl

lacking-by : (lines : Bool) (newline : Newline) (text : List ℕ) (matching : MatchOptions) (line : List ℕ) (start : ℕ)
    → matching.«partial» ≡ Off → start ≤ length line → StandsNowhere text line start
    → pattern_answer matching line start (spelling (bytewise lines newline) text) ≡ none
lacking-by lines newline text matching line start off begun nowhere =
    let asked = setting (spelling (bytewise lines newline) text) matching line start in
    ap (λ (f : Option MatchError). elim f as (λ _. Answer) [
      | Some e ↦ error (number_of e)
      | None ↦ answer_of (match_answer asked).answer
    ]) (no-fault line start begun)
    ∙ ap (λ (f : Found). answer_of f.answer) (none-at-all asked text off refl refl begun nowhere)

pub lacking : (options : Options) (text : List ℕ) (matching : MatchOptions) (line : List ℕ) (start : ℕ)
    → IsSpelling options text → matching.«partial» ≡ Off → start ≤ length line → StandsNowhere text line start
    → pattern_answer matching line start (spelling options text) ≡ none
lacking options text matching line start s off begun nowhere =
    subst (λ o. pattern_answer matching line start (spelling o text) ≡ none) (sym s.bytes)
    (lacking-by s.lines s.newline text matching line start off begun nowhere)

-- A text that isn't found from a place on stands nowhere from there.
pub nowhere : (line hay text : List ℕ) (start : ℕ) → start ≤ length line → hay ≡ drop start line
    → FindsNeedle hay text 0 None → StandsNowhere text line start
nowhere line hay text start begun is finds k from occurs =
    let long : length hay ≡ length line - start = ap length is ∙ length-drop start line in
    let fits = occurs.fits in
    finds (k - start) (omega arith) (omega arith) (record {
      fits = omega arith;
      reads = λ j low. ap (λ h. get_or h (k - start + j) 0) is
          ∙ get_or-drop start line (k - start + j) 0
          ∙ ap (λ n. get_or line n 0) (let same : start + (k - start + j) ≡ k + j = omega arith in same)
          ∙ occurs.reads j low;
    })

-- what makes a string one of a plan
pub spelt-by : (plan : GrepPlan) (text : List ℕ) → plan.ignore_case ≡ false → plan.utf ≡ false
    → plan.line_regex ≡ false → plan.word_regex ≡ false → length text ≤ 32768 → IsSpelt plan text
spelt-by plan text cases utf lines words short = record {
  spelling = record {
    lines = false;
    newline = plan.newline;
    bytes = rw (cases, utf) refl;
    short = short;
  };
  alone = λ whole. rw (lines, words) refl;
}
