use Rattle.std.proofs.Common.{length}
use Rattle.std.specs.List.{repeat}
use Rattle.test_script.specs.Subjects.{repeated}
use Rattle.test_script.proofs.Writing.{copies_are, copies_none}
use Rattle.test_script.proofs.subjects.push_repetition.Goals as goal

pub returns-in_default-times-clause-value : goal.returns-in_default-times-clause-value
returns-in_default-times-clause-value c =
    let text = c.args.text.now in
    let whole = repeated c.args.utf text (length text) c.args.from in
    let found = rw c.in-Some.is at c.in_ok-repetition.ensures.value in
    let none = copies_none c.args.utf text c.in-Some.repetition.bytes.items c.in-Some.repetition.to whole found
    c.in_default-times.ensures.value in
    rw none tt

pub returns-then-branch-clause-value : goal.returns-then-branch-clause-value
returns-then-branch-clause-value c =
    let text = c.args.text.now in
    let whole = repeated c.args.utf text (length text) c.args.from in
    let found = rw c.in-Some.is at c.in_ok-repetition.ensures.value in
    let some = copies_are c.args.utf text c.in-Some.repetition.bytes.items c.in-Some.repetition.to
    c.in-Some-times.count c.in-Some-times.to whole found c.in-Some-times.ensures.value in
    let added = rw (c.if-branch.true, c.as_slice.ensures.value) at c.in_ok-push_copies.ensures in
    (repeat c.in-Some-times.count c.in-Some.repetition.bytes.items, some, added)

pub returns-clause-value : goal.returns-clause-value
returns-clause-value c =
    let text = c.args.text.now in
    let whole = repeated c.args.utf text (length text) c.args.from in
    let found = rw c.in-Some.is at c.in_ok-repetition.ensures.value in
    let some = copies_are c.args.utf text c.in-Some.repetition.bytes.items c.in-Some.repetition.to
    c.in-Some-times.count c.in-Some-times.to whole found c.in-Some-times.ensures.value in
    let many = rw (c.if-branch.false, c.as_slice.ensures.value) at c.in_ok-push_copies.ensures in
    rw some many
