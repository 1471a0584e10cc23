-- What an opening parenthesis begins (pcre2pattern, "Groups", "Assertions", "Conditional groups").
use Rattle.std.specs.Prelude.{ℕ, ◌+◌, Bool, true, false, ◌&&◌, ◌||◌, ◌==◌, List, length, Option, Some, None, Ok}
use Rattle.std.specs.Prelude.{slice_get, if◌then◌else◌}
use Rattle.std.specs.Str.{byte}
use Rattle.std.specs.Char.{is_ascii_alphabetic}
use Rattle.token_parts.specs.declared.token.OpenKind.{OpenKind}
use Rattle.token_parts.specs.declared.token.OpenKind.TheVariants.{Capture, Plain, Atomic, BranchReset, Named, Look}
use Rattle.token_parts.specs.declared.token.Target.TheVariants.{Number}
use Rattle.token_parts.specs.declared.token.Token.TheVariants.{Open, CallTo}
use Rattle.token_parts.specs.Bytes.{◌∈◌, passes_at, is_at}
use Rattle.token_parts.specs.Tell.{Lexed, fault, ◌>>=◌}
use Rattle.token_parts.specs.Names.{name_end}
use Rattle.token_parts.specs.Targets.{begins_number, named_reference, named_call, numbered_call}
use Rattle.token_parts.specs.Comments.{comment}
use Rattle.token_parts.specs.Settings.{setting}
use Rattle.token_parts.specs.Conditions.{condition}
use Rattle.token_parts.specs.Callouts.{callout}
use Rattle.pat_lex.specs.Verbs.{star_word}

-- the groups that one character after `(?` opens
unfoldable pub opened_by : ℕ → Option OpenKind
opened_by c =
    if c ∈ ":" then Some Plain
    else if c ∈ "|" then Some BranchReset
    else if c ∈ ">" then Some Atomic
    else if c ∈ "=" then Some (Look true true true)
    else if c ∈ "!" then Some (Look true false true)
    else if c ∈ "*" then Some (Look true true false)
    else None

module _ (text : List ℕ) where
  -- a named group whose name begins at a place
  unfoldable pub named_group : Bool → ℕ → ℕ → ℕ → Lexed
  named_group utf at from close = do
    to ← name_end text utf at from close
    Ok (Open (Named from to), to + 1)

  -- `(?<`
  unfoldable pub angle : Bool → ℕ → Lexed
  angle utf at =
      if is_at text "=" (at + 3) then Ok (Open (Look false true true), at + 4)
      else if is_at text "!" (at + 3) then Ok (Open (Look false false true), at + 4)
      else if is_at text "*" (at + 3) then Ok (Open (Look false true false), at + 4)
      else named_group utf at (at + 3) (byte ">")

  -- `(?P`
  unfoldable pub python : Bool → ℕ → Lexed
  python utf at =
      if is_at text "<" (at + 3) then named_group utf at (at + 4) (byte ">")
      else if is_at text "=" (at + 3) then named_reference text utf at (at + 4) (byte ")")
      else if is_at text ">" (at + 3) then named_call text utf at (at + 4)
      else if at + 3 == length text then fault 114 (length text)
      else fault 111 at

  -- `(?R`
  unfoldable pub whole_call : ℕ → Lexed
  whole_call at = if is_at text ")" (at + 3) then Ok (CallTo (Number 0), at + 4) else fault 114 (length text)

  -- `(?` and the byte after it
  unfoldable pub special : Bool → ℕ → ℕ → Lexed
  special utf c at = elim (opened_by c) [
    | Some kind ↦ Ok (Open kind, at + 3)
    | None ↦
        if c ∈ "#" then comment text at
        else if c ∈ "<" then angle utf at
        else if c ∈ "'" then named_group utf at (at + 3) (byte "'")
        else if c ∈ "P" then python utf at
        else if c ∈ "&" then named_call text utf at (at + 3)
        else if c ∈ "R" then whole_call at
        else if c ∈ "C" then callout text at
        else if c ∈ "(" then condition text utf at
        else if begins_number text (at + 2) then numbered_call text at
        else setting text at
  ]

  -- An asterisk with neither a letter nor a colon after it is a quantifier after `(`.
  unfoldable pub group : Bool → ℕ → Lexed
  group utf at =
      if is_at text "?" (at + 1)
      then (elim (slice_get text (at + 2)) [ None ↦ fault 114 (length text) | Some c ↦ special utf c at ])
      else if is_at text "*" (at + 1) && (passes_at text is_ascii_alphabetic (at + 2) || is_at text ":" (at + 2)) then
      star_word text at
      else Ok (Open Capture, at + 1)
