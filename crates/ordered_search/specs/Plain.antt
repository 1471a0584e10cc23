-- Patterns whose search goes by the place alone: what they look at is no captured text, no group
-- that is set and no call.
use Rattle.pat_tree.specs.Nested as tree
use Rattle.pat_tree.specs.Nested.{Nested, Row, Test, Other}

abbrev mutual
  pub IsPlain : Nested → Type 0
  IsPlain tree.empty = Unit {0}
  IsPlain (tree.one item) = Unit {0}
  IsPlain tree.line_break = Unit {0}
  IsPlain (tree.seq ts) = ArePlain ts
  IsPlain (tree.group number ts) = ArePlain ts
  IsPlain (tree.repeat body low high lazily) = IsPlain body
  IsPlain (tree.one_repeat item low high lazily) = Unit {0}
  IsPlain (tree.atomic ts) = ArePlain ts
  IsPlain (tree.look ahead positive once ts) = ArePlain ts
  IsPlain (tree.condition test first second) = IsPlainTest test × IsPlain first
      × IsPlainOther second
  IsPlain (tree.call n) = ⊥
  IsPlain (tree.ref ns caseless) = ⊥
  IsPlain (tree.anchor kind) = Unit {0}
  IsPlain tree.keep_out = Unit {0}
  IsPlain (tree.verb v) = ⊥
  IsPlain (tree.callout c) = ⊥

  pub ArePlain : Row → Type 0
  ArePlain tree.none = Unit {0}
  ArePlain (tree.more t ts) = IsPlain t × ArePlain ts

  pub IsPlainTest : Test → Type 0
  IsPlainTest (tree.any_set ns) = ⊥
  IsPlainTest tree.in_call = ⊥
  IsPlainTest (tree.in_call_of ns) = ⊥
  IsPlainTest tree.never = Unit {0}
  IsPlainTest (tree.assert ahead positive once ts) = ArePlain ts
  IsPlainTest (tree.called c test) = ⊥

  pub IsPlainOther : Other → Type 0
  IsPlainOther tree.no_other = Unit {0}
  IsPlainOther (tree.other t) = IsPlain t
