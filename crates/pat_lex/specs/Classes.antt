-- Classes (pcre2pattern, "Square brackets and character classes", "POSIX character classes").
use Rattle.std.specs.Prelude.{ℕ, ◌+◌, ◌-◌, true, false, not, ◌&&◌, ◌||◌, ◌==◌, List, [], ◌∷◌, length, drop, Option}
use Rattle.std.specs.Prelude.{Some, None, Ok, slice_get, slice_range, if◌then◌else◌, codes}
use Rattle.std.specs.Str.{bytes_eq}
use Rattle.std.specs.Char.{is_ascii_alphanumeric}
use Rattle.pat_tree.specs.declared.nodes.SetName.{SetName}
use Rattle.pat_tree.specs.declared.nodes.SetName.TheVariants.{Digit, Space, Word, Alpha, Alnum, Lower, Upper, Blank}
use Rattle.pat_tree.specs.declared.nodes.SetName.TheVariants.{Cntrl, Graph, Print, Punct, Ascii, Xdigit}
use Rattle.token_parts.specs.declared.token.LexFlags.{LexFlags}
use Rattle.token_parts.specs.declared.token.Token.TheVariants.{Literal, Set, ClassStart, ClassEnd, Hyphen, Passed}
use Rattle.token_parts.specs.Bytes.{◌∈◌, is_at}
use Rattle.token_parts.specs.Comments.{skip}
use Rattle.token_parts.specs.Tell.{Lexed, fault}
use Rattle.token_parts.specs.Codes.{octal, coded}
use Rattle.pat_lex.specs.Characters.{literal}
use Rattle.pat_lex.specs.Escapes.{everywhere, listed, property}

-- the names between `[:` and `:]`
unfoldable pub posix_set : List ℕ → Option SetName
posix_set name =
    if bytes_eq name (codes "alpha") then Some Alpha
    else if bytes_eq name (codes "lower") then Some Lower
    else if bytes_eq name (codes "upper") then Some Upper
    else if bytes_eq name (codes "alnum") then Some Alnum
    else if bytes_eq name (codes "ascii") then Some Ascii
    else if bytes_eq name (codes "blank") then Some Blank
    else if bytes_eq name (codes "cntrl") then Some Cntrl
    else if bytes_eq name (codes "digit") then Some Digit
    else if bytes_eq name (codes "graph") then Some Graph
    else if bytes_eq name (codes "print") then Some Print
    else if bytes_eq name (codes "punct") then Some Punct
    else if bytes_eq name (codes "space") then Some Space
    else if bytes_eq name (codes "word") then Some Word
    else if bytes_eq name (codes "xdigit") then Some Xdigit
    else None

-- Where the mark of a POSIX item stands again with `]` after it, from a place on, the text from there on being given.
-- No `]` and no `[` with the mark stands before that; a backslash is passed over with a `]` or a backslash after it.
abbrev pub mark_again : ℕ → ℕ → List ℕ → Option ℕ
mark_again mark i [] = None
mark_again mark i (c ∷ []) = None
mark_again mark i (c ∷ d ∷ rest) =
    if c ∈ "\\" && d ∈ "]\\" then mark_again mark (i + 2) rest
    else if c ∈ "]" || (c ∈ "[" && d == mark) then None
    else if c == mark && d ∈ "]" then Some i
    else mark_again mark (i + 1) (d ∷ rest)

module _ (text : List ℕ) where
  -- where the second mark of `[:name:]`, `[.x.]` or `[=x=]` stands, if the bracket begins one
  unfoldable pub posix_end : ℕ → Option ℕ
  posix_end bracket = elim (slice_get text (bracket + 1)) [
    | None ↦ None
    | Some mark ↦ if mark ∈ ":.=" then mark_again mark (bracket + 2) (drop (bracket + 2) text) else None
  ]

  module _ (flags : LexFlags) where
    -- Past one `\E`, an empty `\Q\E`, or a blank under xx; the place itself where none stands there.
    unfoldable pub ignored_end : ℕ → ℕ
    ignored_end i =
        if is_at text "\\" i && is_at text "E" (i + 1) then i + 2
        else if is_at text "\\" i && is_at text "Q" (i + 1) && (is_at text "\\" (i + 2) && is_at text "E" (i + 3))
        then i + 4
        else if flags.extended_more && is_at text " \t" i then i + 1
        else i

    -- past all of them
    unfoldable pub all_ignored_end : ℕ → ℕ
    all_ignored_end i = skip ignored_end (length text - i) i

    -- `[` outside a class: a `^` negates it also after what is ignored there
    unfoldable pub class_start : ℕ → Lexed
    class_start at = elim (posix_end at) [
      | Some to ↦ if is_at text ":" (at + 1) then fault 112 at else fault 113 at
      | None ↦
          if is_at text "^" (all_ignored_end (at + 1)) then Ok (ClassStart true, all_ignored_end (at + 1) + 1)
          else Ok (ClassStart false, at + 1)
    ]

  -- a POSIX item whose second mark is given
  unfoldable pub posix : ℕ → ℕ → Lexed
  posix at to =
      let name = slice_range text (at + 2) to in
      let negated = is_at name "^" 0 in
      if not (is_at text ":" (at + 1)) then fault 113 at
      else (elim (if negated then posix_set (drop 1 name) else posix_set name) [
        | Some set ↦ Ok (Set set negated, to + 2)
        | None ↦ fault 130 at
      ])

  -- `[` in a class
  unfoldable pub bracket : ℕ → Lexed
  bracket at = elim (posix_end at) [ Some to ↦ posix at to | None ↦ Ok (Literal 0x5B, at + 1) ]

  module _ (flags : LexFlags) where
    -- In a class a backslash and digits are never a reference.
    unfoldable pub longer_in_class : ℕ → ℕ → Lexed
    longer_in_class c at =
        if c ∈ "b" then Ok (Literal 0x08, at + 2)
        else if c ∈ "cox" then coded text flags c at
        else if c ∈ "01234567" then octal text flags at (at + 1)
        else if c ∈ "89" then Ok (Literal c, at + 2)
        else if c ∈ "p" then property text false at
        else if c ∈ "P" then property text true at
        else if c ∈ "BRNXAZzGKgk" then fault 107 at
        else if c ∈ "CLlUu" then fault 195 at
        else if is_ascii_alphanumeric c then fault 103 at
        else literal text flags.utf c (at + 1)

    unfoldable pub class_escape : ℕ → Lexed
    class_escape at = elim (slice_get text (at + 1)) [
      | None ↦ fault 101 at
      | Some c ↦ listed (everywhere c) (at + 2) (longer_in_class c at)
    ]

    -- the token in a class that begins with this byte
    unfoldable pub in_class : ℕ → ℕ → Lexed
    in_class c at =
        if c ∈ "]" then Ok (ClassEnd, at + 1)
        else if c ∈ "-" then Ok (Hyphen, at + 1)
        else if c ∈ "[" then bracket at
        else if c ∈ "\\" then class_escape at
        else if flags.extended_more && c ∈ " \t" then Ok (Passed, at + 1)
        else literal text flags.utf c at
