use Rattle.std.proofs.Common.{◌≡◌, ◌∷◌, ◌++◌, ◌∙◌, [], length, reverse, arith, sym, ap}
use Rattle.std.proofs.lemmas.List.{reverse-append}
use Rattle.pat_nodes.specs.Nodes.{form_of}
use Rattle.pat_build.specs.Machine.{ids_held}
use Rattle.pat_nodes.proofs.References.{nothing_in}
use Rattle.pat_build.proofs.Waiting.{ends_level}
use Rattle.pat_build.proofs.Numbers.{frame_numbered}
use Rattle.pat_build.proofs.Nesting.{close_means, close_test_means, lead_stands, lead_ends, test_means}
use Rattle.pat_build.proofs.Nesting.{unopened_means}
use Rattle.pat_build.proofs.Alternatives.{bars_last}
use Rattle.pat_build.proofs.machine.Machine.close.Goals as goal

pub returns-in_default-clause-bad : goal.returns-in_default-clause-bad
returns-in_default-clause-bad c =
    let m = c.args.self.now in
    let none : length m.stack.items ≡ 0 = omega (arith, c.in_default.ensures.cases.0, m.stack.ok.0) in
    unopened_means m c.requires.means c.args.after c.requires (nothing_in m.stack.items none)

pub group-requires-clause-numbered : goal.group-requires-clause-numbered
group-requires-clause-numbered c =
    frame_numbered c.pop.new.self.items c.in-Some.field-0 c.in-Some.ensures.items c.requires.means.numbers

pub group-requires-clause-loose : goal.group-requires-clause-loose
group-requires-clause-loose c = rw c.replace-level.ensures.value
    (ends_level c.args.self.now c.requires.means c.requires.idle)

pub returns-then-tested-clause-ok : goal.returns-then-tested-clause-ok
returns-then-tested-clause-ok c =
    let m = c.args.self.now in
    let e = rw (c.replace-level.ensures.value) at c.in_ok-id.ensures in
    let t = rw (c.replace-level.ensures.after) at c.in_ok-with_test.ensures in
    rw (c.groups_after-self.ensures)
    (close_test_means m c.requires.means c.args.after c.in_ok-id.id c.in-Some.field-0 c.pop.new.self c.group.new.draft
    c.with_test.new.draft c.with_test.new.level
    c.requires (sym c.is_tested-tested.ensures ∙ c.if-tested.true) c.in-Some.ensures.items e.made e.closes
    (λ front h. e.loose front h) e.count t.made t.adds t.count)

pub with_test-requires-clause-below : goal.with_test-requires-clause-below
with_test-requires-clause-below c =
    let m = c.args.self.now in
    let f = c.in-Some.field-0 in
    let e = rw (c.replace-level.ensures.value) at c.in_ok-id.ensures in
    rw (c.replace-level.ensures.after)
    ((lead_stands m c.requires.means f c.pop.new.self c.in-Some.ensures.items c.group.new.draft c.in_ok-id.id _
    e.made).below)

pub with_test-requires-clause-loose : goal.with_test-requires-clause-loose
with_test-requires-clause-loose c =
    let m = c.args.self.now in
    let f = c.in-Some.field-0 in
    let e = rw (c.replace-level.ensures.value) at c.in_ok-id.ensures in
    rw (c.replace-level.ensures.after) (record {
      front = ids_held c.pop.new.self.items ++ f.outer.branches;
      is = lead_ends m c.requires.means f c.pop.new.self c.in-Some.ensures.items c.group.new.draft c.in_ok-id.id
          c.requires.idle (λ front h. e.loose front h);
    })

pub returns-clause-ok : goal.returns-clause-ok
returns-clause-ok c =
    let m = c.args.self.now in
    let e = rw (c.replace-level.ensures.value) at c.in_ok-id.ensures in
    rw (c.replace-level.ensures.after, c.groups_after-self.ensures, c.atom_of.ensures, c.is_look-looks.ensures)
    (close_means m c.requires.means c.args.after c.in_ok-id.id c.in-Some.field-0 c.pop.new.self c.group.new.draft
    c.requires (sym c.is_tested-tested.ensures ∙ c.if-tested.false) c.in-Some.ensures.items e.made e.closes
    (λ front h. e.loose front h) e.count)

pub group-requires-clause-test : goal.group-requires-clause-test
group-requires-clause-test c =
    rw c.replace-level.ensures.value (test_means c.args.self.now c.requires.means c.in-Some.field-0
    c.pop.new.self.items c.in-Some.ensures.items)

pub group-requires-clause-few : goal.group-requires-clause-few
group-requires-clause-few c =
    let m = c.args.self.now in
    let turned : reverse m.stack.items ≡ c.in-Some.field-0 ∷ reverse c.pop.new.self.items =
    ap reverse c.in-Some.ensures.items ∙ reverse-append c.pop.new.self.items (c.in-Some.field-0 ∷ []) in
    rw c.replace-level.ensures.value (bars_last (form_of c.in-Some.field-0.form) (length m.level.branches) m.bars
    (rw turned at c.requires.means.barred).0)
