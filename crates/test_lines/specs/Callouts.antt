-- What is shown of callouts (pcre2test, "CALLOUTS"): the blocks of a match call → its subject, and a
-- line for each.
use Rattle.std.specs.Prelude.{ℕ, ◌+◌, ◌-◌, ◌==◌, ◌&&◌, not, min, max, Bool, true, false, if◌then◌else◌, nat_lt}
use Rattle.std.specs.Prelude.{is_none, List, [], ◌∷◌, ◌++◌, length, replicate, codes, decimal, ℤ, pos, negsuc}
use Rattle.std.specs.Prelude.{Option, Some, None, slice_get, slice_index, slice_range}
use Rattle.std.specs.Option.{option_and_then}
use Rattle.std.specs.Str.{byte, bytes_eq}
use Rattle.tool_io.specs.Texts.{line, text_if}
use Rattle.pcre_io.specs.declared.callouts.Block.{Block}
use Rattle.test_lines.specs.declared.gathered.Replies.{Replies}
use Rattle.test_lines.specs.Shown.{shown}
use Rattle.test_lines.specs.Marks.{name_line}

-- What callouts answer: an error comes before a failure.

abbrev pub is_number : Option ℕ → ℕ → Bool
is_number None n = false
is_number (Some m) n = m == n

abbrev pub answer_to : Replies → ℕ → ℤ
answer_to r n =
    if r.none then pos 0 else if is_number r.errs n then negsuc 36
    else if is_number r.fails n then pos 1 else pos 0

abbrev pub reply_of : Replies → Block → ℤ
reply_of r block = answer_to r block.number

-- Strings.

-- the bytes of a string, where a closing delimiter that was doubled stands once: `again` is said
-- just behind one
abbrev pub undoubled : ℕ → Bool → List ℕ → List ℕ
undoubled close again [] = []
undoubled close again (c ∷ rest) =
    if again && (c == close) then undoubled close false rest
    else c ∷ undoubled close (c == close) rest

-- what closes a string that this opens
abbrev pub closer : ℕ → ℕ
closer opener = if opener == byte "{" then byte "}" else opener

abbrev pub has_string : Block → Bool
has_string block = nat_lt 0 block.text_to

-- a callout's string with its delimiters
abbrev pub string_in : List ℕ → Block → List ℕ
string_in pattern block =
    let opener = slice_index pattern (block.text_from - 1) in
    opener ∷ undoubled (closer opener) false (slice_range pattern block.text_from block.text_to)
    ++ closer opener ∷ []

abbrev pub string_place : ℕ → List ℕ
string_place at = codes "Callout (" ++ decimal at ++ codes "): "

-- The parts of a line.

abbrev pub blanks : ℕ → List ℕ
blanks n = replicate n (byte " ")

-- how many columns a text takes as it is shown
abbrev pub columns : Bool → List ℕ → ℕ
columns utf text = length (shown utf text)

-- a number right in three places
abbrev pub number_part : ℕ → List ℕ
number_part n = text_if (nat_lt n 100) (codes " ") ++ text_if (nat_lt n 10) (codes " ") ++ decimal n

-- the place of an automatic callout, after its sign
abbrev pub place_part : ℕ → List ℕ
place_part at = text_if (nat_lt at 10) (codes " ") ++ codes "+" ++ decimal at

-- how the line of a block begins
abbrev pub begin_part : Block → List ℕ
begin_part block =
    if has_string block then codes "    "
    else (if block.number == 255 then place_part block.pattern_at else number_part block.number)
    ++ codes " "

-- a mark after so many blanks
abbrev pub caret_part : ℕ → List ℕ
caret_part n = blanks n ++ codes "^"

-- the lower of a block's two places, and the other
abbrev pub low : Block → ℕ
low block = min block.start block.current

abbrev pub high : Block → ℕ
high block = max block.start block.current

module _ (utf : Bool) (pattern subject : List ℕ) where
  abbrev pub low_width : Block → ℕ
  low_width block = columns utf (slice_range subject 0 (low block))

  -- behind the first mark
  abbrev pub rest_width : Block → ℕ
  rest_width block = columns utf (slice_range subject (low block) (high block)) - 1

  -- up to five columns past the subject's end
  abbrev pub gap : Block → ℕ
  gap block = columns utf (slice_range subject (high block) (length subject)) + 4

  abbrev pub second_part : Block → List ℕ
  second_part block = text_if (nat_lt (low block) (high block)) (caret_part (rest_width block))

  -- a mark under the lower place, and one under the other where they differ
  abbrev pub marks_part : Block → List ℕ
  marks_part block = caret_part (low_width block) ++ second_part block

  abbrev pub item_of : Block → List ℕ
  item_of block = slice_range pattern block.pattern_at (block.pattern_at + block.item_len)

  -- the next item
  abbrev pub item_part : Block → List ℕ
  item_part block = blanks (gap block) ++ shown utf (item_of block)

  -- how the line ends
  abbrev pub end_part : Block → List ℕ
  end_part block = line (text_if (nat_lt 0 block.item_len) (item_part block))

  abbrev pub block_line : Block → List ℕ
  block_line block = begin_part block ++ marks_part block ++ end_part block

  abbrev pub subject_line : List ℕ
  subject_line = name_line utf (codes "--->") subject

  abbrev pub string_line : Block → List ℕ
  string_line block =
      name_line utf (string_place block.text_from) (string_in pattern block)

  -- What stands before the line of a block: the subject at a match call's first callout, and at each
  -- that has a string.
  abbrev pub head_part : Option Block → Block → List ℕ
  head_part before block =
      if has_string block then string_line block ++ subject_line
      else text_if (is_none before) subject_line

-- The last name, where it isn't that of the callout before.

abbrev pub is_same : Option (List ℕ) → Option (List ℕ) → Bool
is_same None None = true
is_same (Some a) (Some b) = bytes_eq a b
is_same _ _ = false

abbrev pub latest_line : Bool → Option (List ℕ) → List ℕ
latest_line utf None = line (codes "Latest Mark: <unset>")
latest_line utf (Some name) = name_line utf (codes "Latest Mark: ") name

module _ (names : List (List ℕ)) where
  abbrev pub name_in : Block → Option (List ℕ)
  name_in block = option_and_then (slice_get names) block.mark

  abbrev pub name_before : Option Block → Option (List ℕ)
  name_before before = option_and_then name_in before

  abbrev pub latest_part : Bool → Option Block → Block → List ℕ
  latest_part utf before block =
      text_if (not (is_same (name_before before) (name_in block))) (latest_line utf (name_in block))

module _ (utf : Bool) (names : List (List ℕ)) (pattern subject : List ℕ) where
  abbrev pub callout_text : Option Block → Block → List ℕ
  callout_text before block =
      head_part utf pattern subject before block ++ block_line utf pattern subject block
      ++ latest_part names utf before block

  -- the callouts of a match call, one after another
  abbrev pub called_text : Option Block → List Block → List ℕ
  called_text before [] = []
  called_text before (block ∷ blocks) =
      callout_text before block ++ called_text (Some block) blocks

  -- those of a call whose callouts are shown
  abbrev pub calls_text : Replies → List Block → List ℕ
  calls_text r blocks = if r.none then [] else called_text None blocks
