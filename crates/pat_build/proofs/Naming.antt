-- The names that groups get.
use Rattle.std.proofs.Common.{◌≡◌, ℕ, ◌+◌, ◌≤◌, List, [], ◌∷◌, ◌++◌, length, Option, Some, None, arith, All}
use Rattle.pat_tree.specs.declared.names.NameEntry.{NameEntry}
use Rattle.pat_tree.proofs.Naming.{all_named, length_named}
use Rattle.pat_nodes.specs.declared.names.Name.{Name}
use Rattle.pat_nodes.specs.declared.frames.Frame.{Frame}
use Rattle.pat_grammar.specs.declared.alternatives.Numbering.{Numbering}
use Rattle.pat_nodes.specs.Names.{entry_of, with_given}
use Rattle.pat_build.specs.Machine.{greatest_given, IsGiven, Numbered, Gives}
use Rattle.pat_build.proofs.Numbers.{greatest_enter, given_on}

pub count_given : (text : List ℕ) (given : Option Name) (table : List NameEntry)
    → length (with_given text given table) ≤ length table + 1
count_given text None table = omega arith
count_given text (Some name) table = length_named (entry_of text name) table

-- where a group begins, the names are of groups that were opened
pub given_names : (text : List ℕ) (given : Option Name) (table : List NameEntry) (groups after : ℕ)
    (number : Option ℕ) (inner : Numbering) (fs after_fs : List Frame) (f : Frame) →
    Numbered groups number inner after → Gives text groups given after → after_fs ≡ fs ++ f ∷ []
    → All (IsGiven (greatest_given fs f.numbering groups)) table →
    All (IsGiven (greatest_given after_fs inner after)) (with_given text given table)
given_names text None table groups after number inner fs after_fs f numbered gives pushed all =
    given_on (greatest_given fs f.numbering groups) (greatest_given after_fs inner after) table
    (greatest_enter fs after_fs f inner groups after number pushed numbered) all
given_names text (Some name) table groups after number inner fs after_fs f numbered gives pushed all =
    let kept = given_on (greatest_given fs f.numbering groups) (greatest_given after_fs inner after) table
    (greatest_enter fs after_fs f inner groups after number pushed numbered) all in
    let some : 1 ≤ name.group = omega (arith, gives.1) in
    let below : name.group ≤ greatest_given after_fs inner after = omega (arith, gives.1, gives.2) in
    all_named (IsGiven (greatest_given after_fs inner after)) (entry_of text name) table (some, below) kept
