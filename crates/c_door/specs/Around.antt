-- Patterns of which a match is whole words or whole lines (pcre2api, "Setting up a compile context",
-- PCRE2_EXTRA_MATCH_WORD and PCRE2_EXTRA_MATCH_LINE).
use Rattle.std.specs.Prelude.{◌≡◌, ◌+◌, ◌&&◌, ◌||◌, not, nat_lt, if◌then◌else◌, ℕ, Bool, true, false}
use Rattle.std.specs.Prelude.{List, [], ◌∷◌, ◌++◌, length, flat_map, take, drop, codes, pos, negsuc, ◌==◌}
use Rattle.std.specs.Prelude.{Result, Ok, Err}
use Rattle.uni_text.specs.Ascii.{is_letter, is_digit}
use Rattle.pat_tree.specs.declared.options.Options.{Options}
use Rattle.pat_tree.specs.Pattern.{Pattern}
use Rattle.token_parts.specs.declared.fault.Fault.{Fault}
use Rattle.token_parts.specs.Tell.{◌>>=◌}
use Rattle.pat_grammar.specs.Reading.{started, start}
use Rattle.pcre2_api.specs.Patterns.{compiled}

-- a byte below 128 that is neither a letter nor a digit gets a backslash
abbrev pub escaped : ℕ → List ℕ
escaped b = if nat_lt b 128 && not (is_letter b || is_digit b) then 92 ∷ b ∷ [] else b ∷ []

-- A line matches as a whole between `^(?:` and `)$`, a word between `\b(?:` and `)\b`.
abbrev pub enclosed : Bool → List ℕ → List ℕ → List ℕ → List ℕ
enclosed true front pattern end = front ++ codes "^(?:" ++ pattern ++ end ++ codes ")$"
enclosed false front pattern end = front ++ codes "\\b(?:" ++ pattern ++ end ++ codes ")\\b"

-- where the start items end, which stay in front
abbrev pub items_end : Options → List ℕ → ℕ
items_end options text = elim (started text (length text + 1) (start options)) [ Ok st ↦ st.at | Err f ↦ 0 ]

-- `\E` ends a quotation at the pattern's end, and a newline a comment.
abbrev pub around : Options → Bool → Bool → List ℕ → List ℕ
around options line commented text =
    if options.literal then enclosed line [] (flat_map escaped text) []
    else enclosed line (take (items_end options text) text) (drop (items_end options text) text)
    (if commented then codes "\\E\n" else codes "\\E")

-- an opening parenthesis isn't closed: by the comment into which the closing one came
abbrev pub is_unclosed : Result Pattern Fault → Bool
is_unclosed (Ok p) = false
is_unclosed (Err f) = elim f.number [ pos n ↦ n == 114 | negsuc n ↦ false ]

-- The pattern has to be one by itself, and is compiled with what stands around it.
abbrev pub compiled_around : Options → Bool → List ℕ → Result Pattern Fault
compiled_around options line text =
    let plain = record options { literal = false } in
    let once = compiled plain (around options line false text) in
    compiled options text >>= λ _.
    if is_unclosed once then compiled plain (around options line true text) else once
