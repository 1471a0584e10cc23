-- What a search is about: the pattern, the subject, the options, the limits and the answers of callouts, which stay as
-- they are.
use Rattle.std.specs.Prelude.{ℕ, ◌+◌, Bool, true, false, ◌||◌, List, [], length, min, ℤ, Option, Some, None, nat_lt}
use Rattle.std.specs.Prelude.{nat_le, slice_get, slice_index_or}
use Rattle.pat_tree.specs.declared.options.MatchOptions.{MatchOptions}
use Rattle.pat_tree.specs.declared.options.PartialMode.TheVariants.{Off, Soft, Hard}
use Rattle.pat_tree.specs.declared.nodes.ClassSpec.{ClassSpec}
use Rattle.pat_tree.specs.Newlines.{end_kind, break_kind}
use Rattle.pat_tree.specs.Nested.{Nested}
use Rattle.pat_tree.specs.Pattern.{Pattern}
use Rattle.match_items.specs.char_sets.Sets.{takes}
use Rattle.match_items.specs.Scene.{Scene}
use Rattle.pat_lengths.specs.Nodes as nodes
use Rattle.pat_lengths.specs.Lengths as lengths
use Rattle.pat_lengths.specs.Lengths.{SomeLengths}
use Rattle.pat_check.specs.Lead as lead
use Rattle.ordered_search.specs.Stream.{State, Block, hit_end, note, How, Stream, Search, ends, ◌▸◌, by_halt}
use Rattle.ordered_search.specs.Stream.{too_many_units, is_partial, gives}

pub record Setting : Type 0 where
  -- the subject, the start, the options, and the tests of characters
  pub scene : Scene
  pub open scene use *
  -- the pattern, whose group 0 it is, and the greatest number of its groups
  pub whole : Nested
  pub groups : ℕ
  pub classes : List ClassSpec
  pub verb_names : List (List ℕ)
  -- what a callout answers
  pub reply : Block → ℤ

-- the lower of two limits, where there is a first one
abbrev pub lower_of : Option ℕ → ℕ → ℕ
lower_of None l = l
lower_of (Some k) l = min k l

module _ (g : Setting) where
  -- What is known of the pattern.

  abbrev pub has_lookbehind : Bool
  has_lookbehind = nodes.has_lookbehind g.whole

  abbrev pub can_be_empty : Bool
  can_be_empty = lengths.can_be_empty g.options.match_unset_backref g.whole

  -- the lengths of a branch of a lookbehind
  abbrev pub branch_lengths : Nested → SomeLengths
  branch_lengths t = lengths.branch_lengths g.options.match_unset_backref g.whole t

  abbrev pub names_cr_or_lf : Bool
  names_cr_or_lf = nodes.names_cr_or_lf g.classes g.whole

  -- the bytes that every match begins with, where they are known
  abbrev pub lead_set : Option (ℕ → Bool)
  lead_set =
      lead.lead_set g.options.utf (end_kind g.options.newline g.options.utf)
      (break_kind g.options.bsr g.options.utf) g.class_has g.fold g.whole

  abbrev pub verb_name : ℕ → List ℕ
  verb_name n = slice_index_or g.verb_names n []

  -- Options that the pattern or the match may set, and the lower of two limits.

  abbrev pub anchored : Bool
  anchored = g.options.anchored || g.matching.anchored

  abbrev pub endanchored : Bool
  endanchored = g.options.endanchored || g.matching.endanchored

  abbrev pub notempty : Bool
  notempty = g.options.notempty || g.matching.notempty

  abbrev pub notempty_atstart : Bool
  notempty_atstart = g.options.notempty_atstart || g.matching.notempty_atstart

  abbrev pub match_limit : ℕ
  match_limit = lower_of g.options.match_limit g.matching.match_limit

  -- n more units, where there is room for them
  unfoldable pub held : ℕ → State → Search → Stream
  held n s f =
      elim (nat_le (s.units + n) g.matching.frame_limit) [
        | true ↦ f (record s { units = s.units + n })
        | false ↦ ends (by_halt too_many_units)
      ]

  unfoldable pub hold : How → Search
  hold how s = held 1 s (gives how)

  -- Reaching the subject's end counts (pcre2partial, "Partial matching in PCRE2").
  abbrev pub counts : State → Bool
  counts s = nat_lt s.early (length g.subject) || has_lookbehind || can_be_empty

  -- the subject's end was reached, and x follows
  unfoldable pub reach : State → Stream → Stream
  reach s x =
      elim g.matching.«partial» [
        | Off ↦ x
        | Soft ↦ elim (counts s) [ true ↦ note hit_end ▸ x | false ↦ x ]
        | Hard ↦ elim (counts s) [ true ↦ ends (by_halt is_partial) | false ↦ x ]
      ]

  -- the same where the test is true
  unfoldable pub reach_if : Bool → State → Stream → Stream
  reach_if true s x = reach s x
  reach_if false s x = x

-- a class that is there holds of a character, in UTF or outside it
abbrev pub class_holds : Bool → Option ClassSpec → ℕ → Bool
class_holds utf None c = false
class_holds utf (Some class) c = takes utf class c

-- What a search for a pattern is about.
abbrev pub setting_of : Pattern → MatchOptions → List ℕ → ℕ → (ℕ → ℕ) → (ℕ → Bool) → (Block → ℤ) → Setting
setting_of pattern matching subject start fold is_word reply = record {
  scene = record {
    options = pattern.options;
    matching = matching;
    subject = subject;
    start = start;
    class_has = λ n c. class_holds pattern.options.utf (slice_get pattern.classes n) c;
    fold = fold;
    is_word = is_word;
  };
  whole = pattern.tree;
  groups = pattern.groups;
  classes = pattern.classes;
  verb_names = pattern.verb_names;
  reply = reply;
}
