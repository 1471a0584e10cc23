-- What a step of the reading leaves to the next ones.
use Rattle.std.specs.Prelude.{ℕ, ◌+◌, Option, Ok}
use Rattle.grep_args.specs.declared.plan.GrepPlan.{GrepPlan}
use Rattle.grep_args.specs.declared.letters.Rest.{Rest}
use Rattle.grep_args.specs.declared.letters.Rest.TheVariants.{Letters, Used}
use Rattle.grep_args.specs.declared.words.Word.{Word as Seen}
use Rattle.grep_args.specs.declared.words.Word.TheVariants as seen
use Rattle.grep_args.specs.declared.words.Outcome.{Outcome}
use Rattle.grep_args.specs.declared.words.Outcome.TheVariants.{Goes, Ends}
use Rattle.grep_args.specs.declared.options.ValuedOption.{ValuedOption}
use Rattle.grep_args.specs.Words.{Taken, Opted, Word, operand, terminator, name, joined}

-- the letters of the rest, or nothing
abbrev pub followed : Rest → (GrepPlan → Taken) → GrepPlan → Taken
followed Letters others plan = others plan
followed (Used awaited) others plan = Ok (plan, awaited)

-- a word as the definition sees it
abbrev pub word_seen : Seen → Word
word_seen seen.Operand = operand
word_seen seen.Terminator = terminator
word_seen (seen.Name text) = name text.now
word_seen (seen.Joined text) = joined text.now

-- the words after a word
abbrev pub followed_by : ℕ → Outcome → (ℕ → Option ValuedOption → GrepPlan → Opted) → GrepPlan → Opted
followed_by n (Goes awaited) others plan = others (n + 1) awaited plan
followed_by n (Ends m) others plan = Ok (plan, m)
