use Rattle.std.proofs.Common.{◌≡◌, ◌∙◌, ◌<◌, ◌∷◌, [], All, length, refl, subst}
use Rattle.std.specs.Prelude.{true}
use Rattle.pat_tree.specs.Nested.{tree_at}
use Rattle.pat_tree.specs.Rules.{kids_of, number_in, asserted_by, tests_of, is_test, IsOrdered, AtMost}
use Rattle.pat_lengths.specs.Passing.{flagged, passes}
use Rattle.pat_lengths.proofs.KeepLemmas.{all_kept, one_kept, branches_all}
use Rattle.pat_lengths.proofs.KidLemmas.{repeat_zero, repeat_some, item_zero, parts_pass, branches_pass}
use Rattle.pat_lengths.proofs.KidLemmas.{same_condition, condition_pass, other_passes_too}
use Rattle.pat_lengths.proofs.rounds.node_passes.Goals as goal

pub returns-in-One : goal.returns-in-One
unfolding passes
returns-in-One c trees tests kept = rw c.in-One.is refl

pub returns-in-Break : goal.returns-in-Break
unfolding passes
returns-in-Break c trees tests kept = rw c.in-Break.is refl

pub returns-in-Seq : goal.returns-in-Seq
unfolding passes
returns-in-Seq c trees tests kept =
    let passing = c.args.passing.now in
    let can = flagged c.args.can.now in
    let kids = c.in-Seq.kids in
    let below : All (λ k. k < length passing) kids = subst (λ n. All (λ k. k < length passing) (kids_of n))
    c.in-Seq.is c.requires.below in
    rw c.in-Seq.is
    (rw c.as_slice.ensures at c.every_flag.ensures
    ∙ parts_pass c.args.any can trees (flagged passing) kids
    (all_kept (λ k. flagged passing k ≡ passes c.args.any can (tree_at trees k)) kids (length passing) kept
    below))

pub returns-in-Group : goal.returns-in-Group
unfolding passes
returns-in-Group c trees tests kept =
    let passing = c.args.passing.now in
    let can = flagged c.args.can.now in
    let kids = c.in-Group.branches in
    let below : All (λ k. k < length passing) kids = subst (λ n. All (λ k. k < length passing) (kids_of n))
    c.in-Group.is c.requires.below in
    rw c.in-Group.is
    (rw c.as_slice-in-Group.ensures at c.some_flag.ensures
    ∙ branches_pass c.args.any can trees (flagged passing) kids
    (all_kept (λ k. flagged passing k ≡ passes c.args.any can (tree_at trees k)) kids (length passing) kept
    below))

pub returns-in-Atomic : goal.returns-in-Atomic
unfolding passes
returns-in-Atomic c trees tests kept =
    let passing = c.args.passing.now in
    let can = flagged c.args.can.now in
    let kids = c.in-Atomic.branches in
    let below : All (λ k. k < length passing) kids = subst (λ n. All (λ k. k < length passing) (kids_of n))
    c.in-Atomic.is c.requires.below in
    rw c.in-Atomic.is
    (rw c.as_slice-in-Atomic.ensures at c.some_flag-in-Atomic.ensures
    ∙ branches_pass c.args.any can trees (flagged passing) kids
    (all_kept (λ k. flagged passing k ≡ passes c.args.any can (tree_at trees k)) kids (length passing) kept
    below))

pub returns-then-min-eq0 : goal.returns-then-min-eq0
unfolding passes
returns-then-min-eq0 c trees tests kept =
    let order : AtMost c.in-Repeat.min c.in-Repeat.max = subst IsOrdered c.in-Repeat.is c.requires.ordered in
    rw c.in-Repeat.is (repeat_zero c.in-Repeat.min c.in-Repeat.max
    (passes c.args.any (flagged c.args.can.now) (tree_at trees c.in-Repeat.body)) order c.if-min-eq0.true)

pub returns-else-min-eq0 : goal.returns-else-min-eq0
unfolding passes
returns-else-min-eq0 c trees tests kept =
    let passing = c.args.passing.now in
    let can = flagged c.args.can.now in
    let body = c.in-Repeat.body in
    let order : AtMost c.in-Repeat.min c.in-Repeat.max = subst IsOrdered c.in-Repeat.is c.requires.ordered in
    let below : All (λ k. k < length passing) (body ∷ []) =
    subst (λ n. All (λ k. k < length passing) (kids_of n)) c.in-Repeat.is c.requires.below in
    rw c.in-Repeat.is
    (repeat_some c.in-Repeat.min c.in-Repeat.max c.has_flag.result (passes c.args.any can (tree_at trees body)) order
    c.if-min-eq0.false
    (c.has_flag.ensures ∙ one_kept (λ k. flagged passing k ≡ passes c.args.any can (tree_at trees k)) body
    (length passing) kept below))

pub returns-in-OneRepeat : goal.returns-in-OneRepeat
unfolding passes
returns-in-OneRepeat c trees tests kept =
    let order : AtMost c.in-OneRepeat.min c.in-OneRepeat.max = subst IsOrdered c.in-OneRepeat.is c.requires.ordered in
    rw c.in-OneRepeat.is (item_zero c.in-OneRepeat.min c.in-OneRepeat.max order)

pub returns-in-Cond : goal.returns-in-Cond
returns-in-Cond c trees tests kept =
    let passing = c.args.passing.now in
    let can = flagged c.args.can.now in
    let test = c.in-Cond.test in
    let first = c.in-Cond.yes in
    let second = c.in-Cond.no in
    let below : All (λ k. k < length passing) (first ∷ number_in second) =
    branches_all (λ k. k < length passing) test first second
    (subst (λ n. All (λ k. k < length passing) (kids_of n)) c.in-Cond.is c.requires.below) in
    let tested : All (λ k. is_test (tree_at trees k) ≡ true) (tests_of test) =
    subst (λ n. All (λ k. is_test (tree_at trees k) ≡ true) (asserted_by n)) c.in-Cond.is tests in
    rw c.in-Cond.is
    (c.condition_passes.ensures
    ∙ same_condition c.args.any can trees (flagged passing) test first second
    (all_kept (λ k. flagged passing k ≡ passes c.args.any can (tree_at trees k)) (first ∷ number_in second)
    (length passing) kept below)
    ∙ condition_pass c.args.any can trees test first second tested)

pub returns-in-Call : goal.returns-in-Call
unfolding passes
returns-in-Call c trees tests kept = rw c.in-Call.is c.has_flag-in-Call.ensures

pub returns-in-Ref : goal.returns-in-Ref
unfolding passes
returns-in-Ref c trees tests kept = rw c.in-Ref.is (rw c.as_slice-in-Ref.ensures at c.ref_passes.ensures)

pub returns-in_default : goal.returns-in_default
returns-in_default c trees tests kept =
    let n = c.in_default in
    other_passes_too c.args.any (flagged c.args.can.now) trees c.args.node.now n.not-One n.not-Break n.not-Seq
    n.not-Group n.not-Repeat n.not-OneRepeat n.not-Atomic n.not-Cond n.not-Call n.not-Ref
