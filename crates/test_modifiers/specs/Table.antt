-- The modifiers' names, the lists where they belong, and the letters (pcre2test, "PATTERN MODIFIERS" and "SUBJECT
-- MODIFIERS").
use Rattle.std.specs.Prelude.{ℕ, Bool, true, false, List, [], ◌∷◌, Option, Some, None, codes, bytes_eq, find}
use Rattle.std.specs.Prelude.{if◌then◌else◌}
use Rattle.std.specs.Option.{option_map, option_or}
use Rattle.token_parts.specs.Bytes.{◌∈◌}
use Rattle.test_modifiers.specs.declared.kinds.Flag.{Flag}
use Rattle.test_modifiers.specs.declared.kinds.Flag.TheVariants as flag
use Rattle.test_modifiers.specs.declared.kinds.NumberModifier.TheVariants as number
use Rattle.test_modifiers.specs.declared.table.Row.{Row as Kept}
use Rattle.test_modifiers.specs.declared.kinds.Modifier.{Modifier}
use Rattle.test_modifiers.specs.declared.kinds.Modifier.TheVariants as modifier

pub record Row : Type 0 where
  pub name : List ℕ
  pub modifier : Modifier

abbrev pub row : List ℕ → Modifier → Row
row name modifier = record { name = name; modifier = modifier }

-- a row of the code's table
abbrev pub row_seen : Kept → Row
row_seen r = row r.name.now r.modifier

-- those of patterns and of subjects
abbrev pub on_both : List Row
on_both =
    row (codes "mark") (modifier.Flag flag.Mark)
    ∷ row (codes "global") (modifier.Flag flag.Global)
    ∷ row (codes "g") (modifier.Flag flag.Global)
    ∷ row (codes "replace") modifier.Replace
    ∷ row (codes "substitute_extended") (modifier.Flag flag.SubstituteExtended)
    ∷ row (codes "substitute_literal") (modifier.Flag flag.SubstituteLiteral)
    ∷ row (codes "substitute_unset_empty") (modifier.Flag flag.SubstituteUnsetEmpty)
    ∷ row (codes "substitute_unknown_unset") (modifier.Flag flag.SubstituteUnknownUnset)
    ∷ row (codes "substitute_replacement_only") (modifier.Flag flag.SubstituteReplacementOnly)
    ∷ row (codes "dfa") (modifier.Flag flag.Dfa)
    ∷ row (codes "dfa_shortest") (modifier.Flag flag.DfaShortest)
    ∷ row (codes "partial_soft") (modifier.Flag flag.PartialSoft)
    ∷ row (codes "ps") (modifier.Flag flag.PartialSoft)
    ∷ row (codes "partial_hard") (modifier.Flag flag.PartialHard)
    ∷ row (codes "ph") (modifier.Flag flag.PartialHard)
    ∷ row (codes "notbol") (modifier.Flag flag.NotBol)
    ∷ row (codes "noteol") (modifier.Flag flag.NotEol)
    ∷ row (codes "notempty") (modifier.Flag flag.NotEmpty)
    ∷ row (codes "notempty_atstart") (modifier.Flag flag.NotEmptyAtStart)
    ∷ row (codes "anchored") (modifier.Flag flag.Anchored)
    ∷ row (codes "endanchored") (modifier.Flag flag.EndAnchored)
    ∷ row (codes "offset") (modifier.Number number.Offset)
    ∷ row (codes "match_limit") (modifier.Number number.MatchLimit)
    ∷ row (codes "frame_limit") (modifier.Number number.FrameLimit)
    ∷ row (codes "callout_fail") (modifier.Number number.CalloutFail)
    ∷ row (codes "callout_error") (modifier.Number number.CalloutError)
    ∷ row (codes "callout_none") (modifier.Flag flag.CalloutNone)
    ∷ []

-- those of patterns alone
abbrev pub on_patterns : List Row
on_patterns =
    row (codes "caseless") (modifier.Flag flag.Caseless)
    ∷ row (codes "multiline") (modifier.Flag flag.Multiline)
    ∷ row (codes "dotall") (modifier.Flag flag.DotAll)
    ∷ row (codes "extended") (modifier.Flag flag.Extended)
    ∷ row (codes "extended_more") (modifier.Flag flag.ExtendedMore)
    ∷ row (codes "dollar_endonly") (modifier.Flag flag.DollarEndOnly)
    ∷ row (codes "dupnames") (modifier.Flag flag.DupNames)
    ∷ row (codes "firstline") (modifier.Flag flag.FirstLine)
    ∷ row (codes "literal") (modifier.Flag flag.Literal)
    ∷ row (codes "no_auto_capture") (modifier.Flag flag.NoAutoCapture)
    ∷ row (codes "ungreedy") (modifier.Flag flag.Ungreedy)
    ∷ row (codes "utf") (modifier.Flag flag.Utf)
    ∷ row (codes "ucp") (modifier.Flag flag.Ucp)
    ∷ row (codes "allow_empty_class") (modifier.Flag flag.AllowEmptyClass)
    ∷ row (codes "match_unset_backref") (modifier.Flag flag.MatchUnsetBackref)
    ∷ row (codes "no_start_optimize") (modifier.Flag flag.NoStartOptimize)
    ∷ row (codes "auto_callout") (modifier.Flag flag.AutoCallout)
    ∷ row (codes "newline") modifier.Newline
    ∷ row (codes "bsr") modifier.Bsr
    ∷ row (codes "info") (modifier.Flag flag.Info)
    ∷ []

abbrev pub named : List Row → List ℕ → Option Modifier
named rows name = option_map (λ (r : Row). r.modifier) (find (λ (r : Row). bytes_eq r.name name) rows)

-- the modifier of a name, in a list of a pattern or of a subject
abbrev pub by_name : Bool → List ℕ → Option Modifier
by_name true name = option_or (named on_both name) (named on_patterns name)
by_name false name = named on_both name

-- the letters, of which several may be joined
abbrev pub pattern_letter : ℕ → Option Flag
pattern_letter c =
    if c ∈ "i" then Some flag.Caseless
    else if c ∈ "m" then Some flag.Multiline
    else if c ∈ "s" then Some flag.DotAll
    else if c ∈ "x" then Some flag.Extended
    else if c ∈ "n" then Some flag.NoAutoCapture
    else if c ∈ "I" then Some flag.Info
    else None

abbrev pub by_letter : Bool → ℕ → Option Flag
by_letter pattern c = if c ∈ "g" then Some flag.Global else if pattern then pattern_letter c else None
