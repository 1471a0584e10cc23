-- Patterns that stand at the subject's begin alone (pcre2pattern, "Circumflex and dollar").
use Rattle.std.specs.Prelude.{◌≡◌, Bool, true, false, not, None}
use Rattle.pat_tree.specs.declared.nodes.AnchorKind.{AnchorKind}
use Rattle.pat_tree.specs.declared.nodes.AnchorKind.TheVariants.{Caret, SubjectStart}
use Rattle.pat_tree.specs.Nested.{Nested, Row, seq, group, anchor, none, more}

-- `^` outside MULTILINE, or `\A`
abbrev pub is_begin : AnchorKind → Bool
is_begin (Caret multi) = not multi
is_begin SubjectStart = true
is_begin _ = false

-- a sequence that begins with one of these
pub record BeginsSequence (t : Nested) : Type 0 where
  pub kind : AnchorKind
  pub parts : Row
  pub is : t ≡ seq (more (anchor kind) parts)
  pub begin : is_begin kind ≡ true

-- a pattern with one alternative, which begins with one of these
pub record StandsAtBegin (t : Nested) : Type 0 where
  pub kind : AnchorKind
  pub parts : Row
  pub is : t ≡ group None (more (seq (more (anchor kind) parts)) none)
  pub begin : is_begin kind ≡ true
