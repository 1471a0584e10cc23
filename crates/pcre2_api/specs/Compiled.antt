-- A compiled pattern, and what a pattern is compiled to (pcre2api, "Compiling a pattern").
use Rattle.std.specs.Prelude.{◌≡◌, ℕ, ◌≤◌, max, if◌then◌else◌, List, length, Result, Ok, Err, IsTrue}
use Rattle.pat_tree.specs.declared.options.Options.{Options}
use Rattle.pat_tree.specs.Parts.{TreeParts, tree_of}
use Rattle.pat_tree.specs.Pattern.{Pattern, pattern_of}
use Rattle.pat_tree.specs.Sound.{greatest, group_numbers}
use Rattle.token_parts.specs.declared.fault.Fault.{Fault}
use Rattle.pat_build.specs.pat_grammar.Nesting.{nesting}
use Rattle.pat_build.specs.Reading.{read}
use Rattle.pat_build.specs.Nodes.{parsed_of}
use Rattle.char_sets.specs.Table.{CharSet, IsTableOf}
use Rattle.pat_check.specs.declared.facts.Facts.{Facts}
use Rattle.pat_lengths.specs.Backs.{greatest_back}
use Rattle.pat_lengths.specs.Lengths.{can_be_empty}
use Rattle.pat_lengths.specs.Nodes.{tests_before}
use Rattle.match_drive.specs.frame_board.Ready.{AreFactsOf}
use Rattle.match_drive.specs.declared.outline.Outline.{Outline}
use Rattle.match_drive.specs.Outline.{IsOutlineOf}
use Rattle.pcre2_api.specs.Patterns.{compiled}
use Rattle.pcre2_api.specs.declared.code.Info.{Info}
use Rattle.pcre2_errors.specs.FaultTexts.{is_fault}
use Rattle.pcre2_errors.specs.declared.error.CompileError.{CompileError}
use Rattle.pcre2_errors.specs.declared.error.CompileError.TheVariants.{Bad, Memory}

pub record CodeParts : Type 0 where
  -- the pattern as it was given
  pub text : List ℕ
  pub tree : TreeParts
  pub classes : List CharSet
  pub facts : Facts

-- The table, the facts and the outline are those of the tree, in which at most 501 atomic groups and lookarounds stand
-- in each other.
pub record IsCode (code : CodeParts) (outline : Outline) : Type 0 where
  pub table : IsTableOf code.tree code.classes
  pub facts : AreFactsOf code.tree code.facts
  pub outlined : IsOutlineOf code.tree outline
  pub nested : nesting (tree_of code.tree) ≤ 501

-- what the text is read as is the code's tree, and no lookbehind of it is refused
abbrev pub Compiles : Options → List ℕ → CodeParts → Type 0
Compiles options text code =
    (code.text ≡ text) × (read options text ≡ Ok (parsed_of code.tree))
    × (compiled options text ≡ Ok (pattern_of code.tree))

-- the fault for which a pattern is refused; want of memory may come at any time
abbrev pub IsCompileError : Result Pattern Fault → CompileError → Type 0
IsCompileError pattern (Bad number at) = pattern ≡ Err (record { number = number; at = at })
IsCompileError pattern Memory = Unit {0}

-- the number is that of a fault
abbrev pub HasNumber : CompileError → Type 0
HasNumber (Bad number at) = IsTrue (is_fault number)
HasNumber Memory = Unit {0}

-- and the place is in the pattern or at its end
abbrev pub IsInPattern : List ℕ → CompileError → Type 0
IsInPattern text (Bad number at) = at ≤ length text
IsInPattern text Memory = Unit {0}

-- A match looks at most so far before its start: as far as a branch of a lookbehind begins, and at one character for
-- `\b`, `\B` and `\A`.
abbrev pub info_of : CodeParts → Info
info_of code = record {
  groups = greatest (group_numbers code.tree.nodes);
  max_lookbehind = max (greatest_back code.tree) (if tests_before (tree_of code.tree) then 1 else 0);
  can_be_empty = can_be_empty code.tree.options.match_unset_backref (tree_of code.tree);
}
