use Rattle.std.proofs.Common.{◌≡◌, ◌∙◌, ◌<◌, ◌++◌, [], length, append-nil, arith, ap, sym, false-eqb, true-eqb, vec_len}
use Rattle.pat_tree.specs.Growing.{loose}
use Rattle.pat_build.specs.Machine.{ids_held, ids_in}
use Rattle.pat_nodes.proofs.References.{nothing_in}
use Rattle.pat_build.proofs.States.{last_in}
use Rattle.pat_nodes.proofs.Extending.{closes_plain}
use Rattle.pat_build.proofs.Waiting.{ends_level, loose_idle}
use Rattle.pat_build.proofs.Nesting.{unclosed_means, whole_means}
use Rattle.pat_build.proofs.machine.Machine.end.Goals as goal

pub settle-requires-clause-plain : goal.settle-requires-clause-plain
settle-requires-clause-plain c = (c.args.self.now.at, c.requires.token, tt)

pub returns-then-not-is_empty-clause-bad : goal.returns-then-not-is_empty-clause-bad
returns-then-not-is_empty-clause-bad c =
    let m = c.settle.new.self in
    let f = c.in_ok-settle.ensures in
    let some : 0 < length m.stack.items =
    omega (arith, m.stack.ok.0, false-eqb (vec_len m.stack) 0 c.if-not-is_empty.ensures) in
    let l = last_in m.stack.items some in
    sym f.same.whole ∙ unclosed_means m f.means c.args.self.now.at l.last l.front f.idle f.quiet
    (f.there ∙ c.requires.token) l.is

pub returns-clause-ok : goal.returns-clause-ok
returns-clause-ok c =
    let m = c.settle.new.self in
    let f = c.in_ok-settle.ensures in
    let none : length m.stack.items ≡ 0 =
    omega (arith, m.stack.ok.0, true-eqb (vec_len m.stack) 0 c.if-not-is_empty.ensures) in
    let ends = whole_means m f.means c.args.self.now.at c.in_ok-id.id c.group.new.draft c.replace-level.new.dest
    f.idle f.quiet (f.there ∙ c.requires.token) (nothing_in m.stack.items none)
    (rw (c.replace-level.ensures.value, c.plain.ensures) at c.in_ok-id.ensures.made)
    (closes_plain (rw c.plain.ensures at c.in_ok-id.ensures.closes)) in record {
      is = sym f.same.whole ∙ ends.is;
      groups = ends.groups;
      turns = ends.turns;
      refs_are = ends.refs_are;
      text = ends.text ∙ f.same.text;
      named = ends.named;
      options = ends.options ∙ f.same.options;
    }

pub returns-clause-under : goal.returns-clause-under
returns-clause-under c =
    let m = c.settle.new.self in
    let f = c.in_ok-settle.ensures in
    let none : length m.stack.items ≡ 0 =
    omega (arith, m.stack.ok.0, true-eqb (vec_len m.stack) 0 c.if-not-is_empty.ensures) in
    let loose_is : loose m.draft.nodes ≡ m.level.branches ++ m.level.parts =
    loose_idle m f.means f.idle ∙ ap (λ fs. ids_held fs ++ (ids_in m.level ++ [])) (nothing_in m.stack.items none)
    ∙ append-nil (ids_in m.level) in
    (rw c.replace-level.ensures.value at c.in_ok-id.ensures.loose) [] loose_is

pub group-requires-clause-loose : goal.group-requires-clause-loose
group-requires-clause-loose c =
    rw c.replace-level.ensures.value (ends_level c.settle.new.self c.in_ok-settle.ensures.means
    c.in_ok-settle.ensures.idle)
