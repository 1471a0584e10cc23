-- The ordered search and the set of ends.
use Rattle.std.specs.Prelude.{◌≡◌, ℕ, ◌≤◌, true, false, ◌⊎◌, Option, Some, None}
use Rattle.pat_tree.specs.declared.nodes.Verb.{Verb}
use Rattle.pat_tree.specs.declared.nodes.Verb.TheVariants.{Fail}
use Rattle.pat_tree.specs.declared.options.PartialMode.TheVariants.{Off}
use Rattle.pat_tree.specs.Nested as tree
use Rattle.pat_tree.specs.Nested.{Nested, Row, Test, Other}
use Rattle.ordered_search.specs.Stream.{first_state, exhausted, by_halt, cut, too_many_units, note, state, step}
use Rattle.ordered_search.specs.Stream.{Stream, ends, ◌▸◌}
use Rattle.ordered_search.specs.Setting.{Setting}
use Rattle.ordered_search.specs.Run.{run}
use Rattle.ordered_search.specs.Laws.{ending}
use Rattle.dfa_ends.specs.Ends.{spot, Ends}

-- one of the stream's states has this place
unfoldable pub Occurs : ℕ → Stream → Type 0
Occurs p (ends e) = ⊥
Occurs p (note k ▸ x) = Occurs p x
Occurs p (state how s ▸ x) = (s.place ≡ p) ⊎ Occurs p x
Occurs p (step ▸ x) = Occurs p x

-- a minimum is at most its maximum
abbrev pub Ordered : ℕ → Option ℕ → Type 0
Ordered low None = Unit {0}
Ordered low (Some high) = low ≤ high

abbrev pub IsCommonVerb : Verb → Type 0
IsCommonVerb (Fail name) = Unit {0}
IsCommonVerb _ = ⊥

-- The forms that both matchers have, and of which they say the same: no reference, `\K`, verb but
-- FAIL, call, callout, atomic group, lookaround that isn't atomic, and no condition on a group or
-- on the call of a group.
unfoldable mutual
  pub IsCommon : Nested → Type 0
  IsCommon tree.empty = Unit {0}
  IsCommon (tree.one item) = Unit {0}
  IsCommon tree.line_break = Unit {0}
  IsCommon (tree.seq ts) = AreCommon ts
  IsCommon (tree.group number ts) = AreCommon ts
  IsCommon (tree.repeat body low high lazily) = IsCommon body × Ordered low high
  IsCommon (tree.one_repeat item low high lazily) = Unit {0}
  IsCommon (tree.atomic ts) = ⊥
  IsCommon (tree.look ahead positive true ts) = AreCommon ts
  IsCommon (tree.look ahead positive false ts) = ⊥
  IsCommon (tree.condition test first second) =
      IsCommonTest test × IsCommon first × IsCommonOther second
  IsCommon (tree.call n) = ⊥
  IsCommon (tree.ref ns caseless) = ⊥
  IsCommon (tree.anchor kind) = Unit {0}
  IsCommon tree.keep_out = ⊥
  IsCommon (tree.verb v) = IsCommonVerb v
  IsCommon (tree.callout c) = ⊥

  pub AreCommon : Row → Type 0
  AreCommon tree.none = Unit {0}
  AreCommon (tree.more t ts) = IsCommon t × AreCommon ts

  pub IsCommonTest : Test → Type 0
  IsCommonTest (tree.assert ahead positive true ts) = AreCommon ts
  IsCommonTest (tree.assert ahead positive false ts) = ⊥
  IsCommonTest tree.never = Unit {0}
  IsCommonTest tree.in_call = Unit {0}
  IsCommonTest (tree.any_set ns) = ⊥
  IsCommonTest (tree.in_call_of ns) = ⊥
  IsCommonTest (tree.called c test) = ⊥

  pub IsCommonOther : Other → Type 0
  IsCommonOther tree.no_other = Unit {0}
  IsCommonOther (tree.other t) = IsCommon t

-- q is the place of an end from place p
abbrev pub EndPlace : Setting → Nested → ℕ → ℕ → Type 0
EndPlace g t p q = (e : ℕ) × Ends g t (spot p p) (spot q e)

-- What a stream of the ordered search from place p says of the ends.
pub record Agrees (g : Setting) (t : Nested) (p : ℕ) (x : Stream) : Type 0 where
  pub each_is_an_end : (q : ℕ) → Occurs q x → EndPlace g t p q
  pub all_are_met : ending x ≡ exhausted → (q : ℕ) → EndPlace g t p q → Occurs q x
  pub endings :
      (ending x ≡ exhausted) ⊎ (ending x ≡ by_halt cut) ⊎ (ending x ≡ by_halt too_many_units)

abbrev pub with_frame_limit : ℕ → Setting → Setting
with_frame_limit limit g =
    record g { scene = record g.scene { matching = record g.matching { frame_limit = limit } } }

-- It is so for every depth and every frame limit.
abbrev pub EndsLaw : Type 0
EndsLaw =
    (g : Setting) → g.matching.«partial» ≡ Off → (t : Nested) → IsCommon t →
    (d limit p : ℕ) →
    Agrees g t p (run (with_frame_limit limit g) d t (first_state g.groups p))
