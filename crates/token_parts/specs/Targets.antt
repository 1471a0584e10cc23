-- Which group a backreference or a call is of (pcre2pattern, "Backreferences", "Groups as subroutines").
use Rattle.std.specs.Prelude.{ℕ, ◌+◌, ◌==◌, ◌||◌, Bool, not, nat_lt, nat_le, List, length, Result, Ok, if◌then◌else◌}
use Rattle.std.specs.Char.{is_ascii_digit}
use Rattle.std.specs.Str.{byte}
use Rattle.token_parts.specs.declared.fault.Fault.{Fault}
use Rattle.token_parts.specs.declared.token.LexFlags.{LexFlags}
use Rattle.token_parts.specs.declared.token.Target.{Target}
use Rattle.token_parts.specs.declared.token.Target.TheVariants.{Number, Plus, Minus, Named}
use Rattle.token_parts.specs.declared.token.Token.TheVariants.{Reference, CallTo}
use Rattle.token_parts.specs.Bytes.{passes_at, is_at, stands, digits_end, numeral}
use Rattle.token_parts.specs.Tell.{Lexed, fault, ◌>>=◌}
use Rattle.token_parts.specs.Names.{name_end}
use Rattle.token_parts.specs.Codes.{octal}

abbrev pub refer_to : Result (Target × ℕ) Fault → Lexed
refer_to found = found >>= λ (target, after). Ok (Reference target, after)

abbrev pub call_to : Result (Target × ℕ) Fault → Lexed
call_to found = found >>= λ (target, after). Ok (CallTo target, after)

module _ (text : List ℕ) where
  -- past a sign
  unfoldable pub digits_start : ℕ → ℕ
  digits_start i = if is_at text "+" i || is_at text "-" i then i + 1 else i

  -- a number with or without a sign begins here
  unfoldable pub begins_number : ℕ → Bool
  begins_number i = passes_at text is_ascii_digit (digits_start i)

  -- the number of a group, or how many groups on or back
  unfoldable pub numbered : ℕ → ℕ → Result (Target × ℕ) Fault
  numbered at from =
      let to = digits_end text 10 (digits_start from) in
      let n = numeral text 10 (digits_start from) to in
      if nat_lt 65535 n then fault 161 at
      else if is_at text "+" from then (if n == 0 then fault 126 at else Ok (Plus n, to))
      else if is_at text "-" from then (if n == 0 then fault 126 at else Ok (Minus n, to))
      else Ok (Number n, to)

  -- after `\g{`, `\g<` or `\g'`: a number or a name, and what closes it
  unfoldable pub enclosed : Bool → ℕ → ℕ → Result (Target × ℕ) Fault
  enclosed utf at close =
      if begins_number (at + 3) then (do
        (target, to) ← numbered at (at + 3)
        if stands text close to then Ok (target, to + 1) else fault 169 at)
      else if is_at text "+" (at + 3) || is_at text "-" (at + 3) then fault 169 at
      else (do
        to ← name_end text utf at (at + 3) close
        Ok (Named (at + 3) to, to + 1))

  -- a reference by a name that begins at a place
  unfoldable pub named_reference : Bool → ℕ → ℕ → ℕ → Lexed
  named_reference utf at from close = do
    to ← name_end text utf at from close
    Ok (Reference (Named from to), to + 1)

  -- a call by a name that begins at a place
  unfoldable pub named_call : Bool → ℕ → ℕ → Lexed
  named_call utf at from = do
    to ← name_end text utf at from (byte ")")
    Ok (CallTo (Named from to), to + 1)

  -- `\g{..}` and `\gn` are references, `\g<..>` and `\g'..'` are calls
  unfoldable pub group_escape : Bool → ℕ → Lexed
  group_escape utf at =
      if is_at text "{" (at + 2) then refer_to (enclosed utf at (byte "}"))
      else if is_at text "<" (at + 2) then call_to (enclosed utf at (byte ">"))
      else if is_at text "'" (at + 2) then call_to (enclosed utf at (byte "'"))
      else if begins_number (at + 2) then refer_to (numbered at (at + 2))
      else fault 169 at

  -- `\k{name}`, `\k<name>` and `\k'name'`
  unfoldable pub name_escape : Bool → ℕ → Lexed
  name_escape utf at =
      if is_at text "{" (at + 2) then named_reference utf at (at + 3) (byte "}")
      else if is_at text "<" (at + 2) then named_reference utf at (at + 3) (byte ">")
      else if is_at text "'" (at + 2) then named_reference utf at (at + 3) (byte "'")
      else fault 169 at

  -- `(?n)`, `(?+n)` and `(?-n)`
  unfoldable pub numbered_call : ℕ → Lexed
  numbered_call at = do
    (target, to) ← numbered at (at + 2)
    if is_at text ")" to then Ok (CallTo target, to + 1) else fault 114 (length text)

  module _ (flags : LexFlags) where
    -- `\1` and further digits: a reference by a decimal number that is below 10, or begins with 8 or 9, or of which at
    -- least so many groups were opened before; else up to three octal digits
    unfoldable pub numbered_escape : ℕ → Lexed
    numbered_escape at =
        let to = digits_end text 10 (at + 1) in
        let n = numeral text 10 (at + 1) to in
        if not (nat_lt n 10 || (is_at text "89" (at + 1) || nat_le n flags.groups)) then octal text flags at (at + 1)
        else if nat_lt 65535 n then fault 161 at
        else Ok (Reference (Number n), to)
