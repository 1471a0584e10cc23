-- Searches with start optimisations and without them (pcre2api, "Option bits for pcre2_compile()",
-- PCRE2_NO_START_OPTIMIZE).
use Rattle.std.specs.Prelude.{◌≡◌, ◌<◌, ℕ, Bool, true, false, length, slice_index}
use Rattle.pat_tree.specs.declared.options.PartialMode.TheVariants.{Off}
use Rattle.pat_tree.specs.Nested as tree
use Rattle.pat_tree.specs.Nested.{Nested, Row, Test, Other}
use Rattle.pat_tree.specs.Rules.{AtMost}
use Rattle.match_items.specs.Subjects.{IsText, IsTextPlace}
use Rattle.ordered_search.specs.Setting.{Setting}
use Rattle.ordered_search.specs.PlaceAnswer.{MatchLimit, FrameLimit}
use Rattle.ordered_search.specs.MatchAnswer.{MatchAnswer, Error, match_answer}

-- the same search, with the option set or not
abbrev pub with_no_start_optimize : Bool → Setting → Setting
with_no_start_optimize b g =
    record g { scene = record g.scene { options = record g.options { no_start_optimize = b } } }

-- no verb stands in it, which a mark is too, no callout and no call
abbrev mutual
  pub IsUnverbed : Nested → Type 0
  IsUnverbed tree.empty = Unit {0}
  IsUnverbed (tree.one item) = Unit {0}
  IsUnverbed tree.line_break = Unit {0}
  IsUnverbed (tree.seq ts) = AreUnverbed ts
  IsUnverbed (tree.group number ts) = AreUnverbed ts
  IsUnverbed (tree.repeat body low high lazily) = IsUnverbed body
  IsUnverbed (tree.one_repeat item low high lazily) = Unit {0}
  IsUnverbed (tree.atomic ts) = AreUnverbed ts
  IsUnverbed (tree.look ahead positive once ts) = AreUnverbed ts
  IsUnverbed (tree.condition test first second) =
      IsUnverbedTest test × IsUnverbed first × IsUnverbedOther second
  IsUnverbed (tree.call n) = ⊥
  IsUnverbed (tree.ref ns caseless) = Unit {0}
  IsUnverbed (tree.anchor kind) = Unit {0}
  IsUnverbed tree.keep_out = Unit {0}
  IsUnverbed (tree.verb v) = ⊥
  IsUnverbed (tree.callout c) = ⊥

  pub AreUnverbed : Row → Type 0
  AreUnverbed tree.none = Unit {0}
  AreUnverbed (tree.more t ts) = IsUnverbed t × AreUnverbed ts

  pub IsUnverbedTest : Test → Type 0
  IsUnverbedTest (tree.any_set ns) = Unit {0}
  IsUnverbedTest tree.in_call = Unit {0}
  IsUnverbedTest (tree.in_call_of ns) = Unit {0}
  IsUnverbedTest tree.never = Unit {0}
  IsUnverbedTest (tree.assert ahead positive once ts) = AreUnverbed ts
  IsUnverbedTest (tree.called c test) = ⊥

  pub IsUnverbedOther : Other → Type 0
  IsUnverbedOther tree.no_other = Unit {0}
  IsUnverbedOther (tree.other t) = IsUnverbed t

-- a definition has no second branch
abbrev pub IsDefinition : Test → Other → Type 0
IsDefinition tree.never (tree.other t) = ⊥
IsDefinition _ _ = Unit {0}

-- it keeps the rules of a tree: the minimum of each repeat of it is at most its maximum, and no
-- definition has a second branch
abbrev mutual
  pub IsRegular : Nested → Type 0
  IsRegular (tree.seq ts) = AreRegular ts
  IsRegular (tree.group number ts) = AreRegular ts
  IsRegular (tree.repeat body low high lazily) = AtMost low high × IsRegular body
  IsRegular (tree.atomic ts) = AreRegular ts
  IsRegular (tree.look ahead positive once ts) = AreRegular ts
  IsRegular (tree.condition test first second) =
      IsDefinition test second × IsRegularTest test × IsRegular first × IsRegularOther second
  IsRegular _ = Unit {0}

  pub AreRegular : Row → Type 0
  AreRegular tree.none = Unit {0}
  AreRegular (tree.more t ts) = IsRegular t × AreRegular ts

  pub IsRegularTest : Test → Type 0
  IsRegularTest (tree.assert ahead positive once ts) = AreRegular ts
  IsRegularTest (tree.called c test) = IsRegularTest test
  IsRegularTest _ = Unit {0}

  pub IsRegularOther : Other → Type 0
  IsRegularOther tree.no_other = Unit {0}
  IsRegularOther (tree.other t) = IsRegular t

-- a search of a subject of bytes for a pattern of this form, without partial matching
pub record IsUnverbedSearch (g : Setting) : Type 0 where
  pub unverbed : IsUnverbed g.whole
  pub regular : IsRegular g.whole
  pub off : g.matching.«partial» ≡ Off
  pub bytes : (k : ℕ) → k < length g.subject → slice_index g.subject k < 256
  pub text : IsText g.options g.subject
  pub begun : IsTextPlace g.options g.subject g.start

-- the match limit or the frame limit
abbrev pub IsLimit : MatchAnswer → Type 0
IsLimit (Error MatchLimit) = Unit {0}
IsLimit (Error FrameLimit) = Unit {0}
IsLimit _ = ⊥

-- Where the search without start optimisations passes no limit, the one with them gives the same.
abbrev pub StartLaw : Type 0
StartLaw =
    (g : Setting) → IsUnverbedSearch g → ¬ IsLimit (match_answer (with_no_start_optimize true g)).answer
    → match_answer (with_no_start_optimize false g) ≡ match_answer (with_no_start_optimize true g)
