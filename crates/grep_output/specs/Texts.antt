-- How lines, parts of them and places are written (pcre2grep, "OPTIONS"): shown lines, or the matches of selected ones
-- → bytes.
use Rattle.std.specs.Prelude.{ℕ, ◌-◌, ◌+◌, ◌==◌, Bool, true, false, ◌&&◌, ◌||◌, not, if◌then◌else◌, List, [], ◌∷◌}
use Rattle.std.specs.Prelude.{◌++◌, map, filter, flat_map, codes, decimal, Option, Some, None, Ok, Err, slice_range}
use Rattle.frame_store.specs.declared.registers.Span.{Span}
use Rattle.frame_store.specs.Captures.{capture}
use Rattle.ordered_search.specs.PlaceAnswer.{Outcome}
use Rattle.line_feed.specs.Rows.{Row}
use Rattle.grep_args.specs.declared.plan.OffsetMode.{OffsetMode}
use Rattle.grep_args.specs.declared.plan.OffsetMode.TheVariants.{NoOffsets, Lines, File}
use Rattle.grep_args.specs.declared.plan.GrepPlan.{GrepPlan}
use Rattle.grep_args.specs.Effects.{is_empty}
use Rattle.grep_match.specs.Matches.{Tried}
use Rattle.grep_match.specs.Modes.{is_with}
use Rattle.grep_output.specs.Context.{Shown, parts_groups}
use Rattle.tool_io.specs.Texts.{line, text_if}

-- Whole lines.

-- a line keeps its newline, and a last one without a newline gets LF
abbrev pub newline_of : Row → List ℕ
newline_of row = if is_empty row.newline then 10 ∷ [] else row.newline

-- a colon stands after name and number of a selected line, a hyphen after those of context
abbrev pub mark_of : Bool → List ℕ
mark_of is_selected = if is_selected then codes ":" else codes "-"

module _ (plan : GrepPlan) (name : List ℕ) where
  -- the name of the input and a mark, where names are shown
  abbrev pub name_before : List ℕ → List ℕ
  name_before mark = text_if (is_with plan.names) (name ++ mark)

  abbrev pub number_before : ℕ → List ℕ → List ℕ
  number_before number mark = text_if plan.line_number (decimal number ++ mark)

  abbrev pub line_text : Shown → List ℕ
  line_text s =
      let mark = mark_of s.is_selected in
      name_before mark ++ number_before s.row.number mark ++ s.row.bytes ++ newline_of s.row

  -- groups that don't touch are parted, also from those of the inputs before
  abbrev pub lines_text : Bool → List Shown → List ℕ
  lines_text is_later [] = []
  lines_text is_later (s ∷ more) =
      text_if (is_later && (s.begins_group && parts_groups plan)) (line (codes "--")) ++ line_text s ++ lines_text
      true more

-- Matched parts.

abbrev pub span_text : List ℕ → Option Span → List ℕ
span_text bytes None = []
span_text bytes (Some span) = slice_range bytes span.from span.to

-- the text of a group, 0 being the whole match
abbrev pub group_text : List ℕ → Outcome → ℕ → List ℕ
group_text bytes o n =
    if n == 0 then slice_range bytes o.keep o.to else span_text bytes (capture o.caps n)

-- those of texts that are not empty
abbrev pub given_texts : List (List ℕ) → List (List ℕ)
given_texts texts = filter (λ text. not (is_empty text)) texts

-- those of the groups that are set and not empty
abbrev pub group_texts : GrepPlan → List ℕ → Outcome → List (List ℕ)
group_texts plan bytes o = given_texts (map (group_text bytes o) plan.only_matching)

abbrev pub joined : List ℕ → List (List ℕ) → List ℕ
joined separator [] = []
joined separator (text ∷ texts) = text ++ flat_map (λ other. separator ++ other) texts

abbrev pub is_any : List (List ℕ) → Bool
is_any [] = false
is_any (text ∷ texts) = true

-- Places of matches.

-- where a match stands, from an offset on, and its length
abbrev pub span_of : ℕ → Outcome → List ℕ
span_of offset o = decimal (offset + o.keep) ++ codes "," ++ decimal (o.to - o.keep)

module _ (plan : GrepPlan) (name : List ℕ) where
  -- where no group is left, only a name or a number makes a line
  abbrev pub part_text : Row → Outcome → List ℕ
  part_text row o =
      let texts = group_texts plan row.bytes o in
      text_if (is_any texts || (is_with plan.names || plan.line_number))
      (line (name_before plan name (codes ":") ++ number_before plan name row.number (codes ":")
      ++ joined plan.om_separator texts))

  abbrev pub match_text : OffsetMode → Row → Outcome → List ℕ
  match_text NoOffsets row o = part_text row o
  match_text Lines row o =
      line (name_before plan name (codes ":") ++ decimal row.number ++ codes ":" ++ span_of 0 o)
  match_text File row o = line (name_before plan name (codes ":") ++ span_of row.offset o)

  -- every match of a selected line; under `-v` it has none
  abbrev pub matches_text : Tried → List ℕ
  matches_text t =
      elim t.matches [ Ok os ↦ flat_map (match_text plan.offsets t.row) os | Err e ↦ [] ]
