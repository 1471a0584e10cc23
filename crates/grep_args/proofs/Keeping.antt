-- The options keep the plan within its limits.
use Rattle.std.proofs.Common.{◌≡◌, ℕ, ◌+◌, ◌≤◌, Bool, true, false, cond, List, [], ◌∷◌, Option, Some, None, Result}
use Rattle.std.proofs.Common.{Ok, Err, IfOk, bytes_eq, subst, ◌&&◌, ◌||◌, arith, lit≤, slice_get}
use Rattle.std.specs.List.{before_first}
use Rattle.std.proofs.lemmas.Bool.Decides.{nat_tests}
use Rattle.pat_tree.specs.Newlines.{newline_in_any_case}
use Rattle.grep_args.specs.declared.plan.GrepPlan.{GrepPlan}
use Rattle.grep_args.specs.declared.plan.HelpKind.{HelpKind}
use Rattle.grep_args.specs.declared.usage.UsageKind.{UsageKind}
use Rattle.grep_args.specs.declared.options.Flag.{Flag}
use Rattle.grep_args.specs.declared.options.Flag.TheVariants.{Count, TotalCount, FixedStrings, IgnoreCase, Utf}
use Rattle.grep_args.specs.declared.options.Flag.TheVariants.{LineNumber, Quiet, NoMessages, InvertMatch, WordRegex}
use Rattle.grep_args.specs.declared.options.Flag.TheVariants.{LineRegex, Recursive}
use Rattle.grep_args.specs.declared.options.PlainOption.{PlainOption}
use Rattle.grep_args.specs.declared.options.PlainOption.TheVariants.{Switch, Names, Binary, Offsets, Help, NoEffect}
use Rattle.grep_args.specs.declared.options.NumberOption.{NumberOption}
use Rattle.grep_args.specs.declared.options.NumberOption.TheVariants.{AfterContext, BeforeContext, Context}
use Rattle.grep_args.specs.declared.options.NumberOption.TheVariants.{MatchLimit, FrameLimit, BufferSize}
use Rattle.grep_args.specs.declared.options.NumberOption.TheVariants.{MaxBufferSize, MaxCount}
use Rattle.grep_args.specs.declared.options.FilterOption.{FilterOption}
use Rattle.grep_args.specs.declared.options.FilterOption.TheVariants as filter
use Rattle.grep_args.specs.declared.options.ValuedOption.{ValuedOption}
use Rattle.grep_args.specs.declared.options.ValuedOption.TheVariants as valued
use Rattle.grep_args.specs.declared.options.GrepOption.{GrepOption}
use Rattle.grep_args.specs.declared.options.GrepOption.TheVariants.{Plain, OnlyMatching, Valued}
use Rattle.grep_args.specs.Numbers.{number_of, greatest}
use Rattle.grep_args.specs.Table.{by_letter, by_name}
use Rattle.grep_args.specs.Effects.{◌>>=◌, Effect, unset, switched, is_empty, no_offsets, same_offsets, plain_effect}
use Rattle.grep_args.specs.Effects.{within, ranged, number_effect, listed, binary_of, filter_effect, value_effect}
use Rattle.grep_args.specs.Effects.{group_shown, group_effect}
use Rattle.grep_args.specs.Words.{Reads, Taken, Opted, told, complete, starts_with_digit, letter, letters, long}
use Rattle.grep_args.specs.Words.{long_option, joined_value, is_equals, Word, operand, terminator, name, joined}
use Rattle.grep_args.specs.Words.{word_of, option_in, options, has_patterns, pattern_word, plan_of}
use Rattle.grep_args.specs.Limits.{IsWithinLimits}

then_keeps : {A B E : Type 0} (P : A → Type 0) (Q : B → Type 0) (r : Result A E) (k : A → Result B E) → IfOk r P
    → ((x : A) → P x → IfOk (k x) Q) → IfOk (r >>= k) Q
then_keeps P Q (Ok x) k h f = f x h
then_keeps P Q (Err e) k h f = tt

within_range : (low high : ℕ) (n : Option ℕ) → IfOk (within low high n) (λ n. (low ≤ n) × (n ≤ high))
within_range low high None = tt
within_range low high (Some n) = grind (arith, nat_tests)

switched_keeps : (flag : Flag) (plan : GrepPlan) → IsWithinLimits plan → IsWithinLimits (switched flag plan)
switched_keeps Count plan h = h
switched_keeps TotalCount plan h = h
switched_keeps FixedStrings plan h = h
switched_keeps IgnoreCase plan h = h
switched_keeps Utf plan h = h
switched_keeps LineNumber plan h = h
switched_keeps Quiet plan h = h
switched_keeps NoMessages plan h = h
switched_keeps InvertMatch plan h = h
switched_keeps WordRegex plan h = h
switched_keeps LineRegex plan h = h
switched_keeps Recursive plan h = h

-- an effect keeps the limits
abbrev Keeps : Effect → Type 0
Keeps effect = (plan : GrepPlan) → IsWithinLimits plan → IfOk (effect plan) IsWithinLimits

chosen_keeps : (b : Bool) (plan : GrepPlan) (kind : UsageKind) → IsWithinLimits plan
    → IfOk (cond b (Ok plan) (Err kind)) IsWithinLimits
chosen_keeps true plan kind h = h
chosen_keeps false plan kind h = tt

plain_keeps : (option : PlainOption) → Keeps (plain_effect option)
plain_keeps (Switch flag) plan h = switched_keeps flag plan h
plain_keeps (Names mode) plan h = h
plain_keeps (Binary mode) plan h = h
plain_keeps (Offsets mode) plan h =
    chosen_keeps (is_empty plan.only_matching && (no_offsets plan.offsets || same_offsets plan.offsets mode)) _ _ h
plain_keeps (Help kind) plan h = h
plain_keeps NoEffect plan h = h

shown_keeps : (n : ℕ) → Keeps (group_shown n)
shown_keeps n plan h = chosen_keeps (no_offsets plan.offsets) _ _ h

numbered_keeps : (option : NumberOption) (text : List ℕ) → Keeps (number_effect option text)
numbered_keeps AfterContext text plan h = then_keeps _ _ (ranged 0 greatest text) _
    (within_range 0 greatest (number_of text)) (λ n bounds. h)
numbered_keeps BeforeContext text plan h = then_keeps _ _ (ranged 0 greatest text) _
    (within_range 0 greatest (number_of text)) (λ n bounds. h)
numbered_keeps Context text plan h = then_keeps _ _ (ranged 0 greatest text) _
    (within_range 0 greatest (number_of text)) (λ n bounds. h)
numbered_keeps MatchLimit text plan h = then_keeps _ _ (ranged 0 greatest text) _
    (within_range 0 greatest (number_of text)) (λ n bounds. h)
numbered_keeps FrameLimit text plan h = then_keeps _ _ (ranged 0 greatest text) _
    (within_range 0 greatest (number_of text)) (λ n bounds. h)
numbered_keeps BufferSize text plan h = then_keeps _ _ (ranged 0 greatest text) _
    (within_range 0 greatest (number_of text)) (λ n bounds. h)
numbered_keeps MaxBufferSize text plan h = then_keeps _ _ (ranged 1 1073741824 text) _
    (within_range 1 1073741824 (number_of text)) (λ n bounds. (bounds.0, bounds.1, h.2))
numbered_keeps MaxCount text plan h = then_keeps _ _ (ranged 1 greatest text) _
    (within_range 1 greatest (number_of text)) (λ n bounds. (h.0, h.1, bounds.0))

always : {A E : Type 0} (r : Result A E) → IfOk r (λ _. Unit {0})
always (Ok x) = tt
always (Err e) = tt

filtered_keeps : (option : FilterOption) (text : List ℕ) (plan : GrepPlan) → IsWithinLimits plan
    → IsWithinLimits (filter_effect option text plan)
filtered_keeps filter.Include text plan h = h
filtered_keeps filter.Exclude text plan h = h
filtered_keeps filter.IncludeDir text plan h = h
filtered_keeps filter.ExcludeDir text plan h = h

valued_keeps : (option : ValuedOption) (text : List ℕ) → Keeps (value_effect option text)
valued_keeps (valued.Number option) text plan h = numbered_keeps option text plan h
valued_keeps (valued.Filter option) text plan h = filtered_keeps option text plan h
valued_keeps valued.Regex text plan h = h
valued_keeps valued.File text plan h = h
valued_keeps valued.Label text plan h = h
valued_keeps valued.OmSeparator text plan h = h
valued_keeps valued.BinaryFiles text plan h = then_keeps _ _ (listed (binary_of text)) _
    (always (listed (binary_of text))) (λ mode _. h)
valued_keeps valued.Newline text plan h = then_keeps _ _ (listed (newline_in_any_case text)) _
    (always (listed (newline_in_any_case text))) (λ newline _. h)

group_keeps : (text : List ℕ) → Keeps (group_effect text)
group_keeps text plan h = then_keeps _ _ (ranged 0 greatest text) _ (within_range 0 greatest (number_of text))
    (λ n bounds. shown_keeps n plan h)

told_keeps : (word : ℕ) (r : Result GrepPlan UsageKind) → IfOk r IsWithinLimits → IfOk (told word r) IsWithinLimits
told_keeps word (Ok plan) h = h
told_keeps word (Err kind) h = tt

-- the plan of a pair is within its limits
abbrev First : {B : Type 0} → GrepPlan × B → Type 0
First found = IsWithinLimits found.0

abbrev KeepsTaken : (GrepPlan → Taken) → Type 0
KeepsTaken read = (plan : GrepPlan) → IsWithinLimits plan → IfOk (read plan) First

complete_keeps : (r : Reads GrepPlan) → IfOk r IsWithinLimits → IfOk (complete r) First
complete_keeps r h = then_keeps _ _ r _ h (λ plan good. good)

whole_keeps : (word : ℕ) (effect : Effect) → Keeps effect → KeepsTaken (λ plan. complete (told word (effect plan)))
whole_keeps word effect keeps plan h = complete_keeps (told word (effect plan))
    (told_keeps word (effect plan) (keeps plan h))

valued_letter_keeps : (b : Bool) (left : Taken) (right : Taken) → IfOk left First → IfOk right First
    → IfOk (cond b left right) First
valued_letter_keeps true left right l r = l
valued_letter_keeps false left right l r = r

letter_keeps : (word : ℕ) (rest : List ℕ) (others : GrepPlan → Taken) → KeepsTaken others
    → (option : Option GrepOption) → KeepsTaken (letter word rest others option)
letter_keeps word rest others keeps None plan h = tt
letter_keeps word rest others keeps (Some (Plain option)) plan h =
    then_keeps _ _ (told word (plain_effect option plan)) others (told_keeps word _ (plain_keeps option plan h)) keeps
letter_keeps word rest others keeps (Some OnlyMatching) plan h =
    valued_letter_keeps (starts_with_digit rest) _ _ (whole_keeps word (group_effect rest) (group_keeps rest) plan h)
    (then_keeps _ _ (told word (group_shown 0 plan)) others (told_keeps word _ (shown_keeps 0 plan h)) keeps)
letter_keeps word rest others keeps (Some (Valued option)) plan h =
    valued_letter_keeps (bytes_eq rest []) _ _ h
    (whole_keeps word (value_effect option rest) (valued_keeps option rest) plan h)

letters_keep : (word : ℕ) (text : List ℕ) → KeepsTaken (letters word text)
letters_keep word [] plan h = h
letters_keep word (b ∷ rest) plan h = letter_keeps word rest (letters word rest) (letters_keep word rest)
    (by_letter b) plan h

long_keeps : (word : ℕ) (option : Option GrepOption) (value : Option (List ℕ)) → KeepsTaken (long word option value)
long_keeps word None value plan h = tt
long_keeps word (Some (Plain option)) None plan h = whole_keeps word (plain_effect option) (plain_keeps option) plan h
long_keeps word (Some (Plain option)) (Some text) plan h = tt
long_keeps word (Some OnlyMatching) None plan h = whole_keeps word (group_shown 0) (shown_keeps 0) plan h
long_keeps word (Some OnlyMatching) (Some text) plan h = whole_keeps word (group_effect text) (group_keeps text) plan h
long_keeps word (Some (Valued option)) None plan h = h
long_keeps word (Some (Valued option)) (Some text) plan h =
    whole_keeps word (value_effect option text) (valued_keeps option text) plan h

abbrev KeepsOthers : (ℕ → Option ValuedOption → GrepPlan → Opted) → Type 0
KeepsOthers others = (n : ℕ) (awaited : Option ValuedOption) (plan : GrepPlan) → IsWithinLimits plan
    → IfOk (others n awaited plan) First

option_in_keeps : (n : ℕ) (word : Word) (others : ℕ → Option ValuedOption → GrepPlan → Opted) → KeepsOthers others
    → (plan : GrepPlan) → IsWithinLimits plan → IfOk (option_in n word others plan) First
option_in_keeps n operand others keeps plan h = h
option_in_keeps n terminator others keeps plan h = h
option_in_keeps n (name text) others keeps plan h = then_keeps _ _ (long_option n text plan) _
    (long_keeps n (by_name (before_first is_equals text)) (joined_value text) plan h)
    (λ taken good. keeps (n + 1) taken.1 taken.0 good)
option_in_keeps n (joined text) others keeps plan h =
    then_keeps _ _ (letters n text plan) _ (letters_keep n text plan h)
    (λ taken good. keeps (n + 1) taken.1 taken.0 good)

options_keep : (words : List (List ℕ)) → KeepsOthers (options words)
options_keep [] n None plan h = h
options_keep [] n (Some option) plan h = tt
options_keep (word ∷ words) n None plan h = option_in_keeps n (word_of word) (options words) (options_keep words) plan h
options_keep (word ∷ words) n (Some option) plan h =
    then_keeps _ _ (told n (value_effect option word plan)) _ (told_keeps n _ (valued_keeps option word plan h))
    (options_keep words (n + 1) None)

pattern_keeps : (n : ℕ) (pattern : Option (List ℕ)) (help : Option HelpKind) (plan : GrepPlan) → IsWithinLimits plan
    → IfOk (pattern_word n pattern help plan) IsWithinLimits
pattern_keeps n (Some pattern) help plan h = h
pattern_keeps n None None plan h = tt
pattern_keeps n None (Some kind) plan h = h

completed_keeps : (b : Bool) (left right : Reads GrepPlan) → IfOk left IsWithinLimits → IfOk right IsWithinLimits
    → IfOk (cond b left right) IsWithinLimits
completed_keeps true left right l r = l
completed_keeps false left right l r = r

plan_of_keeps : (words : List (List ℕ)) → IfOk (plan_of words) IsWithinLimits
unfolding plan_of
plan_of_keeps words =
    then_keeps _ _ (options words 0 None unset) _ (options_keep words 0 None unset (lit≤ tt, lit≤ tt, tt))
    (λ opted good. completed_keeps (has_patterns opted.0) _ _ good
    (pattern_keeps opted.1 (slice_get words opted.1) opted.0.help opted.0 good))

-- each plan of words is within its limits
pub plan_within_limits : (words : List (List ℕ)) (plan : GrepPlan) → plan_of words ≡ Ok plan → IsWithinLimits plan
plan_within_limits words plan e = subst (λ r. IfOk r IsWithinLimits) e (plan_of_keeps words)
