-- The start places of a search, in order.
use Rattle.std.specs.Prelude.{ℕ, ◌+◌, Bool, true, false, ◌&&◌, not, length, Option, Some, None, nat_lt, nat_le}
use Rattle.std.specs.Prelude.{slice_index}
use Rattle.pat_tree.specs.declared.options.PartialMode.{PartialMode}
use Rattle.pat_tree.specs.declared.options.PartialMode.TheVariants.{Off, Soft, Hard}
use Rattle.byte_lanes.specs.declared.line_end.EndKind.TheVariants.{CrLf}
use Rattle.byte_lanes.specs.Newlines.{newline_len, has_crlf}
use Rattle.pat_tree.specs.Newlines.{end_kind}
use Rattle.byte_lanes.specs.Places.{least_from}
use Rattle.match_items.specs.Items.{is_end, next, newline_at}
use Rattle.ordered_search.specs.Setting.{Setting, anchored, names_cr_or_lf, lead_set}
use Rattle.ordered_search.specs.PlaceAnswer.{Signal, Exhausted, Prune, Skip, Commit}

abbrev pub is_off : PartialMode → Bool
is_off Off = true
is_off Soft = false
is_off Hard = false

-- a place that is not past the last one
abbrev pub up_to : ℕ → Option ℕ → Option ℕ
up_to last None = None
up_to last (Some p) = elim (nat_le p last) [ true ↦ Some p | false ↦ None ]

module _ (g : Setting) where
  -- a CRLF is passed whole where it is a newline, unless the pattern names one half of it
  abbrev pub passes_crlf : ℕ → Bool
  passes_crlf p = has_crlf (end_kind g.options.newline g.options.utf) && nat_lt 0 (newline_len CrLf g.subject p)
      && not (names_cr_or_lf g)

  -- the place after another
  abbrev pub next_place : ℕ → Option ℕ
  next_place p =
      elim (next g.scene p) [
        | None ↦ None
        | Some c ↦ elim (passes_crlf p) [ true ↦ Some (p + 2) | false ↦ Some c.1 ]
      ]

  -- the last place that may be tried: the start alone, or under FIRSTLINE where the first newline begins
  abbrev pub last_place : ℕ
  last_place =
      elim (anchored g) [
        | true ↦ g.start
        | false ↦ elim g.options.firstline [
          | true ↦ least_from (λ p. nat_lt 0 (newline_at g.scene p)) g.start (length g.subject)
          | false ↦ length g.subject
        ]
      ]

  abbrev pub within : Option ℕ → Option ℕ
  within p = up_to last_place p

  -- the place that follows one that failed
  abbrev pub place_after : ℕ → Signal → Option ℕ
  place_after p Exhausted = within (next_place p)
  place_after p Prune = within (next_place p)
  place_after p (Skip q) = elim (nat_lt p q) [ true ↦ within (Some q) | false ↦ within (next_place p) ]
  place_after p Commit = None

  -- no match begins there: the byte is not one that matches begin with
  abbrev pub is_outside : Option (ℕ → Bool) → ℕ → Bool
  is_outside None p = false
  is_outside (Some has) p = elim (is_end g.scene p) [
    | true ↦ is_off g.matching.«partial»
    | false ↦
        not (has (slice_index g.subject p))
  ]

  abbrev pub is_excluded : ℕ → Bool
  is_excluded p = elim g.options.no_start_optimize [ true ↦ false | false ↦ is_outside (lead_set g) p ]
