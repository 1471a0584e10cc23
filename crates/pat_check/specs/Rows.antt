-- Worked rows: lengths, emptiness, first bytes and sizes of small patterns.
use Rattle.std.specs.Prelude.{◌≡◌, ℕ, Bool, true, false, cond, ◌==◌, List, [], ◌∷◌, filter, Option, Some, None}
use Rattle.std.specs.List.{range_with_len}
use Rattle.pat_tree.specs.declared.nodes.Item.TheVariants.{Char, Class}
use Rattle.pat_tree.specs.declared.nodes.Verb.TheVariants.{Accept}
use Rattle.pat_tree.specs.declared.nodes.Part.{Part}
use Rattle.pat_tree.specs.declared.nodes.Part.TheVariants.{Range, Set}
use Rattle.pat_tree.specs.declared.nodes.SetName.TheVariants.{V}
use Rattle.pat_tree.specs.declared.nodes.ClassSpec.{ClassSpec}
use Rattle.pat_tree.specs.Nested.{Nested, Row, empty, one, line_break, seq, group, repeat, one_repeat, look}
use Rattle.pat_tree.specs.Nested.{condition, call, ref, verb, none, more, never, no_other}
use Rattle.byte_lanes.specs.declared.line_end.EndKind.TheVariants.{Lf, Any, AnyUtf}
use Rattle.pat_lengths.specs.Nodes.{has_lookbehind, names_cr_or_lf}
use Rattle.pat_lengths.specs.Lengths.{SomeLengths, between, only, any_length, can_be_empty, branch_lengths}
use Rattle.pat_lengths.specs.Lengths.{branch_fault}
use Rattle.pat_check.specs.Lead.{lead_set}
use Rattle.pat_check.specs.Size.{size}

-- How the trees are written.

infixr 4 ◌&◌
abbrev pub ◌&◌ : Nested → Row → Row
t & ts = more t ts

-- a pattern of one alternative with these parts
abbrev pub pattern : Row → Nested
pattern ts = group None (seq ts & none)

abbrev pub a : Nested
a = one (Char 97 false)

abbrev pub b : Nested
b = one (Char 98 false)

abbrev pub c : Nested
c = one (Char 99 false)

-- Lengths of a branch of a lookbehind, in a pattern and without MATCH_UNSET_BACKREF.

abbrev pub lengths_in : Nested → Nested → SomeLengths
lengths_in whole t = branch_lengths false whole t

-- in `(a(?1)?b)(cc)`
abbrev pub nesting : Nested
nesting = pattern (group (Some 1) (seq (a & repeat (call 1) 0 (Some 1) false & b & none) & none) & group (Some 2)
    (seq (c & c & none) & none) & none)

pub record LengthRows : Type 0 where
  -- `ab`, `a+`, `a{1,3}`, `\R`, `ab?|c`, `(?:ab|c){2}`
  pub fixed : lengths_in empty (seq (a & b & none)) ≡ only 2
  pub unlimited : lengths_in empty (one_repeat (Char 97 false) 1 None false) ≡ between 1 None
  pub limited : lengths_in empty (one_repeat (Char 97 false) 1 (Some 3) false) ≡ between 1 (Some 3)
  pub newline : lengths_in empty line_break ≡ between 1 (Some 2)
  pub branches : lengths_in empty
      (group None (seq (a & one_repeat (Char 98 false) 0 (Some 1) false & none) & c & none)) ≡ between 1 (Some 2)
  pub turns : lengths_in empty (repeat (group None (seq (a & b & none) & c & none)) 2 (Some 2) false) ≡ between 2
      (Some 4)
  -- a group that leads back to itself has any length; another is as long as it is, and so is a reference to it
  pub recursive : lengths_in nesting (call 1) ≡ any_length
  pub called : lengths_in nesting (call 2) ≡ only 2
  pub referred : lengths_in nesting (seq (a & ref (2 ∷ []) false & none)) ≡ only 3
  pub unset : branch_lengths true nesting (ref (2 ∷ []) false) ≡ any_length
  -- ACCEPT, and ACCEPT inside a lookaround
  pub accepting : lengths_in empty (seq (a & verb (Accept None) & none)) ≡ any_length
  pub accepting_inside : lengths_in empty (seq (look true true true (verb (Accept None) & none) & b & none)) ≡ only 1
  -- the faults of `(?<=a+)`, `(?<=ab)`, and of one that is too long
  pub refused : branch_fault (between 1 None) ≡ Some 125
  pub passed : branch_fault (only 2) ≡ None
  pub too_long : branch_fault (only 65536) ≡ Some 187

pub record EmptyRows : Type 0 where
  -- `(a)*`, `(a|(?1)b)`, `(a|(?1))`, `(b|(?1)?)`
  pub star : can_be_empty false (pattern (repeat (group (Some 1) (a & none)) 0 None false & none)) ≡ true
  pub never_empty : can_be_empty false (pattern (group (Some 1) (a & seq (call 1 & b & none) & none) & none)) ≡ false
  pub circular : can_be_empty false (pattern (group (Some 1) (a & call 1 & none) & none)) ≡ false
  pub optional : can_be_empty false (pattern (group (Some 1) (b & repeat (call 1) 0 (Some 1) false & none) & none))
      ≡ true
  pub accepting : can_be_empty false (pattern (a & verb (Accept None) & none)) ≡ true
  -- `(a?)\1`, `(?(DEFINE)a)b`
  pub reference : can_be_empty false
      (pattern (group (Some 1) (one_repeat (Char 97 false) 0 (Some 1) false & none) & ref (1 ∷ []) false & none))
      ≡ true
  pub definition : can_be_empty false (pattern (condition never a no_other & b & none)) ≡ false

-- First bytes.

abbrev pub listed : Option (ℕ → Bool) → Option (List ℕ)
listed None = None
listed (Some has) = Some (filter has (range_with_len 0 256))

-- folding of ASCII's k and the Kelvin sign
abbrev pub some_fold : ℕ → ℕ
some_fold n = cond (n == 75) 107 n

abbrev pub leads : Nested → Option (List ℕ)
leads t = listed (lead_set false Lf Any (λ n d. false) some_fold t)

abbrev pub leads_in_utf : Nested → Option (List ℕ)
leads_in_utf t = listed (lead_set true Lf AnyUtf (λ n d. false) some_fold t)

pub record LeadRows : Type 0 where
  -- `a?b`, `(?=c)a`, `(?i)a`, `\R`
  pub passed : leads (pattern (one_repeat (Char 97 false) 0 (Some 1) false & b & none)) ≡ Some (97 ∷ 98 ∷ [])
  pub ahead : leads (pattern (look true true true (c & none) & a & none)) ≡ Some (97 ∷ [])
  pub caseless : leads (pattern (one (Char 97 true) & none)) ≡ Some (65 ∷ 97 ∷ [])
  pub newline : leads (pattern (line_break & none)) ≡ Some (10 ∷ 11 ∷ 12 ∷ 13 ∷ 133 ∷ [])
  -- a match may take nothing, a call or an ACCEPT stands in the way, or no character has an encoding
  pub empty_match : leads (pattern (one_repeat (Char 97 false) 0 None false & none)) ≡ None
  pub unknown : leads (pattern (call 0 & a & none)) ≡ None
  pub behind : leads (pattern (a & call 0 & none)) ≡ Some (97 ∷ [])
  pub accepting : leads (pattern (a & verb (Accept None) & none)) ≡ None
  pub unencoded : leads (pattern (one (Char 300 false) & none)) ≡ Some []
  pub encoded : leads_in_utf (pattern (one (Char 300 false) & none)) ≡ Some (196 ∷ [])
  pub surrogate : leads_in_utf (pattern (one (Char 0xD800 false) & none)) ≡ Some []

pub record SizeRows : Type 0 where
  -- `a{60000}b{9000}`, and a repeat of a group without maximum
  pub counted : size
      (pattern (one_repeat (Char 97 false) 60000 (Some 60000) false & one_repeat (Char 98 false) 9000 (Some 9000)
      false & none)) ≡ 69004
  pub endless : size (repeat (group None (a & b & none)) 2 None false) ≡ 10
  pub far : size (repeat (repeat (repeat a 65535 (Some 65535) false) 65535 (Some 65535) false) 2 (Some 2) false)
      ≡ 4294967295

abbrev pub class_of : Part → List ClassSpec
class_of part = (record { negated = true; caseless = false; parts = part ∷ [] }) ∷ []

pub record NameRows : Type 0 where
  pub character : names_cr_or_lf [] (pattern (a & one (Char 10 false) & none)) ≡ true
  pub range_end : names_cr_or_lf (class_of (Range 0 13)) (pattern (one (Class 0) & none)) ≡ true
  pub inside_range : names_cr_or_lf (class_of (Range 0 31)) (pattern (one (Class 0) & none)) ≡ false
  pub named_set : names_cr_or_lf (class_of (Set V false false))
      (pattern (one_repeat (Class 0) 0 None false & line_break & none)) ≡ false
  pub lookbehind : has_lookbehind
      (pattern (repeat (group None (look false false true (a & none) & none)) 0 (Some 1) false & none)) ≡ true
  pub lookahead : has_lookbehind (pattern (look true true true (a & none) & none)) ≡ false

pub record WorkedRows : Type 0 where
  pub length_rows : LengthRows
  pub empty_rows : EmptyRows
  pub lead_rows : LeadRows
  pub size_rows : SizeRows
  pub name_rows : NameRows
