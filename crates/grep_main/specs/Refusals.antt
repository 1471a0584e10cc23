-- Words and patterns that are refused, and the texts that are asked for in place of a search (pcre2grep,
-- "DIAGNOSTICS").
use Rattle.std.specs.Prelude.{ℕ, List, [], ◌++◌, codes, decimal, slice_index_or}
use Rattle.std.specs.Fmt.{signed_decimal}
use Rattle.grep_args.specs.declared.plan.HelpKind.{HelpKind}
use Rattle.grep_args.specs.declared.plan.HelpKind.TheVariants.{Help, Version}
use Rattle.grep_args.specs.declared.usage.UsageKind.{UsageKind}
use Rattle.grep_args.specs.declared.usage.UsageKind.TheVariants.{UnknownOption, MissingValue, BadNumber, BadValue}
use Rattle.grep_args.specs.declared.usage.UsageKind.TheVariants.{Exclude, NoPattern}
use Rattle.grep_args.specs.declared.options.FilterOption.{FilterOption}
use Rattle.grep_args.specs.declared.options.FilterOption.TheVariants.{Include, Exclude, IncludeDir, ExcludeDir}
use Rattle.grep_args.specs.Words.{Fault}
use Rattle.token_parts.specs.declared.fault.Fault.{Fault as PatternFault}
use Rattle.grep_targets.specs.Filters.{BadFilter}
use Rattle.grep_core.specs.grep_match.Compiled.{BadPattern}
use Rattle.tool_io.specs.Texts.{line}
use Rattle.grep_output.specs.Messages.{message}
use Rattle.pcre2_errors.specs.FaultTexts.{fault_text}
use Rattle.tool_io.specs.Outcomes.{RunOutcome}

-- nothing but a message is written
abbrev pub refusal : List ℕ → RunOutcome
refusal text = record { out = []; err = text; status = 2 }

abbrev pub usage_text : UsageKind → List ℕ → List ℕ
usage_text UnknownOption word = codes "unknown option " ++ word
usage_text MissingValue word = codes "missing value for " ++ word
usage_text BadNumber word = codes "bad number in " ++ word
usage_text BadValue word = codes "bad value in " ++ word
usage_text Exclude word = codes "options exclude each other"
usage_text NoPattern word = codes "no pattern"

abbrev pub usage_message : List (List ℕ) → Fault → List ℕ
usage_message words fault = message (usage_text fault.kind (slice_index_or words fault.word []))

-- the pattern of a kind that has this number is refused
abbrev pub refused_message : List ℕ → ℕ → PatternFault → List ℕ
refused_message kind number fault =
    message (kind ++ codes " " ++ decimal number ++ codes ": error "
    ++ signed_decimal fault.number
    ++ codes " at offset " ++ decimal fault.at ++ codes ": " ++ fault_text fault.number)

abbrev pub pattern_message : BadPattern → List ℕ
pattern_message bad = refused_message (codes "pattern") bad.number bad.fault

-- the option of a pattern for names
abbrev pub filter_name : FilterOption → List ℕ
filter_name Include = codes "--include"
filter_name Exclude = codes "--exclude"
filter_name IncludeDir = codes "--include-dir"
filter_name ExcludeDir = codes "--exclude-dir"

abbrev pub filter_message : BadFilter → List ℕ
filter_message bad = refused_message (filter_name bad.option) bad.index bad.fault

abbrev pub help_text : HelpKind → List ℕ
help_text Help = line (codes "usage: pcre2grep [options] [pattern] [files]")
help_text Version = line (codes "pcre2grep 8-bit profile")
