-- Quantifiers (pcre2pattern, "Repetition").
use Rattle.std.specs.Prelude.{ℕ, ◌+◌, Bool, ◌&&◌, ◌||◌, nat_lt, List, Option, Some, None, Ok, is_some, unwrap_or}
use Rattle.std.specs.Prelude.{if◌then◌else◌}
use Rattle.token_parts.specs.declared.token.LexFlags.{LexFlags}
use Rattle.token_parts.specs.declared.token.QuantMode.TheVariants.{Greedy, Lazy, Possessive}
use Rattle.token_parts.specs.declared.token.Token.TheVariants.{Quantifier}
use Rattle.token_parts.specs.Bytes.{◌∈◌, is_at, run_end, digits_end, numeral}
use Rattle.token_parts.specs.Tell.{Lexed, fault}
use Rattle.token_parts.specs.Comments.{is_extended, blanks_end}
use Rattle.pat_lex.specs.declared.quantifiers.Counts.{Counts}

-- a space or a tab
abbrev pub is_blank : ℕ → Bool
is_blank c = c ∈ " \t"

module _ (text : List ℕ) where
  -- The number that is written from a place on, or none, with spaces and tabs on both sides, and
  -- the place after these.
  unfoldable pub count : ℕ → Option ℕ × ℕ
  count i =
      let from = run_end text is_blank i in
      let to = digits_end text 10 from in
      (if nat_lt from to then Some (numeral text 10 from to) else None, run_end text is_blank to)

  -- What the braces that begin at a place count: `{n}` exactly n turns, `{n,m}` from n to m turns,
  -- `{n,}` n or more, `{,m}` at most m. Spaces and tabs may stand after the first brace, before the
  -- last and on both sides of the comma. Any other brace is a character.
  unfoldable pub braces : ℕ → Option Counts
  braces brace =
      let low = count (brace + 1) in
      let high = count (low.1 + 1) in
      if is_at text "}" low.1 && is_some low.0
      then Some (record { min = unwrap_or low.0 0; max = low.0; after = low.1 + 1 })
      else if is_at text "," low.1 && is_at text "}" high.1 && (is_some low.0 || is_some high.0)
      then Some (record { min = unwrap_or low.0 0; max = high.0; after = high.1 + 1 })
      else None

  unfoldable pub is_counted : ℕ → Bool
  is_counted brace = is_some (braces brace)

  module _ (flags : LexFlags) where
    -- What stands after `*`, `+`, `?` or the braces: `?` for lazy, or `+` for possessive, before which EXTENDED ignores
    -- white space and `#` comments.
    unfoldable pub with_mode : ℕ → Option ℕ → ℕ → Lexed
    with_mode min max i =
        let plus = if is_extended flags then blanks_end text flags i else i in
        if is_at text "?" i then Ok (Quantifier min max Lazy, i + 1)
        else if is_at text "+" plus then Ok (Quantifier min max Possessive, plus + 1)
        else Ok (Quantifier min max Greedy, i)

    -- a quantifier in braces that begin at a place and have these counts
    unfoldable pub counted : Counts → ℕ → Lexed
    counted counts at =
        if nat_lt 65535 counts.min then fault 105 at
        else (elim counts.max [
          | None ↦ with_mode counts.min None counts.after
          | Some most ↦
              if nat_lt 65535 most then fault 105 at
              else if nat_lt most counts.min then fault 104 at
              else with_mode counts.min (Some most) counts.after
        ])
