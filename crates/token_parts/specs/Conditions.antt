-- The tests of conditional groups (pcre2pattern, "Conditional groups").
use Rattle.std.specs.Prelude.{ℕ, ◌+◌, ◌-◌, ◌^◌, min, Bool, ◌&&◌, ◌||◌, ◌==◌, List, length, Some, None, Ok, slice_get}
use Rattle.std.specs.Prelude.{slice_range, if◌then◌else◌, codes}
use Rattle.std.specs.Str.{byte, bytes_eq}
use Rattle.token_parts.specs.declared.token.CondText.{CondText}
use Rattle.token_parts.specs.declared.token.CondText.TheVariants.{Group, InCall, InCallOf, Define, Lookaround}
use Rattle.token_parts.specs.declared.token.Target.TheVariants.{Number, Named}
use Rattle.token_parts.specs.declared.token.Token.TheVariants.{CondStart}
use Rattle.token_parts.specs.Bytes.{◌∈◌, is_at, begins, digits_end, numeral}
use Rattle.token_parts.specs.Tell.{Lexed, fault, ◌>>=◌}
use Rattle.token_parts.specs.Names.{name_end}
use Rattle.token_parts.specs.Targets.{begins_number, numbered}

module _ (text : List ℕ) where
  -- A test that is a name: DEFINE, R and Rn have meanings of their own. Whether a group has such a name is the reader's
  -- to know.
  unfoldable pub named_test : ℕ → ℕ → CondText
  named_test from to =
      let word = slice_range text from to in
      if bytes_eq word (codes "DEFINE") then Define
      else if bytes_eq word (codes "R") then InCall
      else if is_at text "R" from && digits_end text 10 (from + 1) == to
      then InCallOf (Number (min (2 ^ 32 - 1) (numeral text 10 (from + 1) to)))
      else Group (Named from to)

  -- a test that begins 3 bytes on and ends at the place
  unfoldable pub test_closed : ℕ → CondText → ℕ → Lexed
  test_closed at test to = if is_at text ")" to then Ok (CondStart test (at + 3) to, to + 1) else fault 128 at

  -- `<name>` or `'name'`
  unfoldable pub quoted_test : Bool → ℕ → ℕ → Lexed
  quoted_test utf at close = do
    to ← name_end text utf at (at + 4) close
    test_closed at (Group (Named (at + 4) to)) (to + 1)

  -- `R&name`
  unfoldable pub call_test : Bool → ℕ → Lexed
  call_test utf at = do
    to ← name_end text utf at (at + 5) (byte ")")
    Ok (CondStart (InCallOf (Named (at + 5) to)) (at + 3) to, to + 1)

  -- `name`, `R`, `Rn` or `DEFINE`
  unfoldable pub bare_test : Bool → ℕ → Lexed
  bare_test utf at = do
    to ← name_end text utf at (at + 3) (byte ")")
    Ok (CondStart (named_test (at + 3) to) (at + 3) to, to + 1)

  -- `n`, `+n` or `-n`
  unfoldable pub numbered_test : ℕ → Lexed
  numbered_test at = do
    (target, to) ← numbered text at (at + 3)
    test_closed at (Group target) to

  -- what stands for a test that is no lookaround
  unfoldable pub plain_test : Bool → ℕ → Lexed
  plain_test utf at =
      if begins_number text (at + 3) then numbered_test at
      else if is_at text "+" (at + 3) || is_at text "-" (at + 3) then fault 128 at
      else if is_at text "<" (at + 3) then quoted_test utf at (byte ">")
      else if is_at text "'" (at + 3) then quoted_test utf at (byte "'")
      else if begins text "R&" (at + 3) then call_test utf at
      else if begins text "VERSION=" (at + 3) || begins text "VERSION>" (at + 3) then fault 195 at
      else bare_test utf at

  -- `(?(`: before a lookaround, or a callout or a comment, only `(?` is taken
  unfoldable pub condition : Bool → ℕ → Lexed
  condition utf at = elim (slice_get text (at + 3)) [
    | None ↦ fault 114 (length text)
    | Some c ↦ if c ∈ "?" || c ∈ "*" then Ok (CondStart Lookaround (at + 2) (at + 2), at + 2) else plain_test utf at
  ]
