-- What begins with `(*` and a word: verbs (pcre2pattern, "Backtracking control"), groups by name ("Groups",
-- "Assertions"), and items for the very start ("Special start-of-pattern items").
use Rattle.std.specs.Prelude.{ℕ, ◌+◌, ◌-◌, ◌^◌, Bool, true, false, not, ◌&&◌, ◌||◌, ◌==◌, nat_lt, List, Option, Some}
use Rattle.std.specs.Prelude.{None, Ok, slice_range, if◌then◌else◌, codes}
use Rattle.std.specs.Str.{bytes_eq}
use Rattle.pat_tree.specs.Newlines.{newline_named}
use Rattle.pat_tree.specs.declared.options.Bsr.TheVariants as bsr
use Rattle.token_parts.specs.declared.token.StartItem.{StartItem}
use Rattle.token_parts.specs.declared.token.StartItem.TheVariants.{NewlineIs, BsrIs, Utf, Ucp, NotEmpty}
use Rattle.token_parts.specs.declared.token.StartItem.TheVariants.{NotEmptyAtStart, NoStartOpt, NoEffect, LimitMatch}
use Rattle.token_parts.specs.declared.token.OpenKind.{OpenKind}
use Rattle.token_parts.specs.declared.token.OpenKind.TheVariants.{Atomic, Look}
use Rattle.token_parts.specs.declared.token.VerbKind.{VerbKind}
use Rattle.token_parts.specs.declared.token.VerbKind.TheVariants.{Accept, Fail, Commit, Prune, Skip, Then, Mark}
use Rattle.token_parts.specs.declared.token.Token.TheVariants.{Start, Open, VerbItem}
use Rattle.token_parts.specs.Bytes.{◌∈◌, is_word_byte, is_at, run_end, digits_end, numeral}
use Rattle.token_parts.specs.Tell.{Lexed, fault}

-- before `)`, at the very start, but for the newlines
abbrev pub other_start_word : List ℕ → Option StartItem
other_start_word word =
    if bytes_eq word (codes "UTF") then Some Utf
    else if bytes_eq word (codes "UCP") then Some Ucp
    else if bytes_eq word (codes "NOTEMPTY") then Some NotEmpty
    else if bytes_eq word (codes "NOTEMPTY_ATSTART") then Some NotEmptyAtStart
    else if bytes_eq word (codes "NO_START_OPT") then Some NoStartOpt
    else if bytes_eq word (codes "NO_AUTO_POSSESS") then Some NoEffect
    else if bytes_eq word (codes "NO_DOTSTAR_ANCHOR") then Some NoEffect
    else if bytes_eq word (codes "NO_JIT") then Some NoEffect
    else if bytes_eq word (codes "BSR_ANYCRLF") then Some (BsrIs bsr.AnyCrLf)
    else if bytes_eq word (codes "BSR_UNICODE") then Some (BsrIs bsr.Unicode)
    else None

-- before `)`, at the very start
unfoldable pub start_word : List ℕ → Option StartItem
start_word word = elim (newline_named word) [ Some newline ↦ Some (NewlineIs newline) | None ↦ other_start_word word ]

-- before `)` or `:`; without a word a colon is MARK's
unfoldable pub verb_word : List ℕ → Option VerbKind
verb_word word =
    if bytes_eq word (codes "ACCEPT") then Some Accept
    else if bytes_eq word (codes "FAIL") then Some Fail
    else if bytes_eq word (codes "F") then Some Fail
    else if bytes_eq word (codes "COMMIT") then Some Commit
    else if bytes_eq word (codes "PRUNE") then Some Prune
    else if bytes_eq word (codes "SKIP") then Some Skip
    else if bytes_eq word (codes "THEN") then Some Then
    else if bytes_eq word (codes "MARK") then Some Mark
    else if bytes_eq word (codes "") then Some Mark
    else None

abbrev pub is_mark : VerbKind → Bool
is_mark Mark = true
is_mark _ = false

-- before `:`
unfoldable pub group_word : List ℕ → Option OpenKind
group_word word =
    if bytes_eq word (codes "atomic") then Some Atomic
    else if bytes_eq word (codes "pla") then Some (Look true true true)
    else if bytes_eq word (codes "positive_lookahead") then Some (Look true true true)
    else if bytes_eq word (codes "nla") then Some (Look true false true)
    else if bytes_eq word (codes "negative_lookahead") then Some (Look true false true)
    else if bytes_eq word (codes "plb") then Some (Look false true true)
    else if bytes_eq word (codes "positive_lookbehind") then Some (Look false true true)
    else if bytes_eq word (codes "nlb") then Some (Look false false true)
    else if bytes_eq word (codes "negative_lookbehind") then Some (Look false false true)
    else if bytes_eq word (codes "napla") then Some (Look true true false)
    else if bytes_eq word (codes "non_atomic_positive_lookahead") then Some (Look true true false)
    else if bytes_eq word (codes "naplb") then Some (Look false true false)
    else if bytes_eq word (codes "non_atomic_positive_lookbehind") then Some (Look false true false)
    else None

-- script runs, which are left out
unfoldable pub is_script_run : List ℕ → Bool
is_script_run word =
    bytes_eq word (codes "sr")
    || (bytes_eq word (codes "script_run") || (bytes_eq word (codes "asr") || bytes_eq word
    (codes "atomic_script_run")))

module _ (text : List ℕ) where
  -- a verb's name, up to the next `)`: at most 255 bytes, and MARK needs one
  unfoldable pub named_verb : ℕ → VerbKind → ℕ → Lexed
  named_verb at verb from =
      let to = run_end text (λ c. not (c ∈ ")")) from in
      if not (is_at text ")" to) then fault 160 at
      else if nat_lt 255 (to - from) then fault 176 at
      else if is_mark verb && from == to then fault 166 at
      else Ok (VerbItem verb from to, to + 1)

  -- a word with `)` after it
  unfoldable pub closed_word : ℕ → ℕ → Lexed
  closed_word at to =
      let word = slice_range text (at + 2) to in
      elim (start_word word) [
        | Some item ↦ Ok (Start item, to + 1)
        | None ↦ elim (verb_word word) [ Some verb ↦ named_verb at verb to | None ↦ fault 160 at ]
      ]

  -- a word with `:` after it
  unfoldable pub colon_word : ℕ → ℕ → Lexed
  colon_word at to =
      let word = slice_range text (at + 2) to in
      elim (verb_word word) [
        | Some verb ↦ named_verb at verb (to + 1)
        | None ↦ elim (group_word word) [
          | Some kind ↦ Ok (Open kind, to + 1)
          | None ↦ if is_script_run word then fault 195 at else fault 160 at
        ]
      ]

  -- `(*LIMIT_MATCH=d)`
  unfoldable pub limit : ℕ → ℕ → Lexed
  limit at to =
      let end = digits_end text 10 (to + 1) in
      let n = numeral text 10 (to + 1) end in
      if bytes_eq (slice_range text (at + 2) to) (codes "LIMIT_MATCH")
      && (nat_lt (to + 1) end && (nat_lt n (2 ^ 32) && is_at text ")" end))
      then Ok (Start (LimitMatch n), end + 1)
      else fault 160 at

  -- `(*` with a letter or a colon after it
  unfoldable pub star_word : ℕ → Lexed
  star_word at =
      let to = run_end text is_word_byte (at + 2) in
      if is_at text ")" to then closed_word at to
      else if is_at text ":" to then colon_word at to
      else if is_at text "=" to then limit at to
      else fault 160 at
