use Rattle.std.proofs.Common.{◌<◌, ◌∙◌, [], ◌∷◌, ap, sym, subst, length, arith}
use Rattle.std.proofs.lemmas.Bool.{false≢true}
use Rattle.dfa_graph.specs.declared.build.Work.TheVariants as work
use Rattle.pat_check.specs.Size.{whole_size}
use Rattle.dfa_paths.specs.Fragment.{most_nested}
use Rattle.dfa_graph.specs.Building.{states_after, task_in, tasks_after, tree_of}
use Rattle.dfa_graph.proofs.Costs.{first_can, can_step, none_left, not_refused}
use Rattle.dfa_graph.proofs.Takers.{first_bounded, bounded_step, all_bounded}
use Rattle.dfa_graph.proofs.Plain.{first_plain_build, plain_step}
use Rattle.dfa_graph.proofs.Building.{starts, ended, popped, three_more}
use Rattle.dfa_graph.proofs.Doing.{next_step}
use Rattle.dfa_paths.proofs.Behind.{ready_whole, are_told}
use Rattle.dfa_graph.proofs.build.place_tree.Goals as goal

pub tasks-init : goal.tasks-init
tasks-init c =
    let e = c.in_ok-draft.ensures.nodes in
    let l = ap length e in
    let one = c.in_ok-draft.ensures.tasks
    ∙ ap (λ r. task_in most_nested (work.Part r) 0 1 ∷ []) c.root.ensures in
    record {
      building = starts _ _ _ _ _ e one (ready_whole c.args.tree.now c.is_sound.ensures
          c.requires.fixed c.requires.dfa);
      few = omega (arith, l);
      can = λ small has. first_can c.args.tree.now.nodes c.args.tree.now.root _ one small has;
      bounded = first_bounded c.args.tree.now.nodes c.args.tree.now.root _ _ e one;
      plain = first_plain_build c.args.tree.now.nodes c.args.tree.now.root _ _ e one;
    }

pub work_step-step-requires-clause-part : goal.work_step-step-requires-clause-part
work_step-step-requires-clause-part c =
    (popped _ _ _ _ _ _ _ c.tasks.invariant.building c.in-Some.ensures.tasks).1.inside

pub work_step-step-requires-clause-range : goal.work_step-step-requires-clause-range
work_step-step-requires-clause-range c =
    (popped _ _ _ _ _ _ _ c.tasks.invariant.building c.in-Some.ensures.tasks).1.range

pub do_step-requires-clause-at : goal.do_step-requires-clause-at
do_step-requires-clause-at c =
    subst (λ ns. c.in-Some.task.at < length ns) (sym c.in-Some.ensures.nodes)
    (popped _ _ _ _ _ _ _ c.tasks.invariant.building c.in-Some.ensures.tasks).0.0

pub tasks-preserved : goal.tasks-preserved
tasks-preserved c =
    let taken = c.in-Some.ensures.nodes in
    let nodes = ap (λ d. d.nodes) c.in_ok-do_step.ensures
    ∙ ap (states_after c.work_step-step.result c.in-Some.task) taken in
    let tasks = ap (λ d. d.tasks) c.in_ok-do_step.ensures
    ∙ ap (λ ns. tasks_after c.work_step-step.result c.in-Some.task (length ns)
    c.take.new.self.tasks) taken in
    let l = ap length nodes in
    let three = three_more c.args.tree.now.nodes c.args.tree.now.root
    (length c.args.tree.now.classes)
    c.work_step-step.result c.in-Some.task c.tasks.draft.nodes in
    let work = (popped _ _ _ _ _ _ _ c.tasks.invariant.building c.in-Some.ensures.tasks).1 in
    record {
      building = next_step _ _ _ c.args.backs.now
          (are_told c.args.tree.now c.args.backs.now c.requires.backs) _ _ _ _ _ _ _
          c.tasks.invariant.building c.in-Some.ensures.tasks
          c.work_step-step.ensures.part
          c.work_step-step.ensures.is (sym c.is_refused.ensures ∙ c.if-is_refused.false)
          nodes tasks;
      few = omega (arith, l, three, c.tasks.invariant.few, c.if-left-eq0.false);
      can = λ small has.
          can_step c.args.tree.now.nodes (length c.args.tree.now.classes) c.args.tree.now.root
          c.tasks.left c.args.backs.now
          c.tasks.draft.tasks _ c.in-Some.task (c.tasks.invariant.can small has)
          c.in-Some.ensures.tasks work _ c.work_step-step.ensures.part c.work_step-step.ensures.is
          _ _ tasks;
      bounded =
          bounded_step c.args.tree.now.nodes (length c.args.tree.now.classes)
          c.args.tree.now.root
          (whole_size (tree_of c.args.tree.now.nodes c.args.tree.now.root)) c.args.backs.now
          c.tasks.draft.nodes _
          c.tasks.draft.tasks _ _ c.in-Some.task _ c.tasks.invariant.bounded
          c.in-Some.ensures.tasks work c.work_step-step.ensures.part c.work_step-step.ensures.is
          nodes tasks;
      plain = λ plain.
          plain_step c.args.tree.now.nodes (length c.args.tree.now.classes) c.args.backs.now
          c.tasks.draft.nodes _
          c.tasks.draft.tasks _ _ c.in-Some.task _ (c.tasks.invariant.plain plain)
          c.in-Some.ensures.tasks work.range c.work_step-step.ensures.part
          c.work_step-step.ensures.is
          nodes tasks;
    }

pub returns-then-left-eq0-clause-none : goal.returns-then-left-eq0-clause-none
returns-then-left-eq0-clause-none c small has e =
    none_left c.args.tree.now.nodes c.tasks.left c.tasks.draft.tasks _ c.in-Some.task
    (c.tasks.invariant.can small has) c.in-Some.ensures.tasks c.if-left-eq0.true

pub returns-then-is_refused-clause-none : goal.returns-then-is_refused-clause-none
returns-then-is_refused-clause-none c small has e =
    false≢true
    (sym (not_refused c.args.tree.now.nodes (length c.args.tree.now.classes)
    c.args.tree.now.root c.tasks.left c.args.backs.now
    c.tasks.draft.tasks _ c.in-Some.task (c.tasks.invariant.can small has) c.in-Some.ensures.tasks
    (popped _ _ _ _ _ _ _ c.tasks.invariant.building c.in-Some.ensures.tasks).1
    _ c.work_step-step.ensures.part c.work_step-step.ensures.is)
    ∙ sym c.is_refused.ensures ∙ c.if-is_refused.true)

pub returns-clause-some : goal.returns-clause-some
returns-clause-some c =
    let e = c.in_default.ensures.tasks in
    rw (c.states.ensures, c.in_default.ensures.nodes)
    (ended _ _ _ _ _ c.tasks.invariant.building e (omega (arith, c.tasks.invariant.few))
    (all_bounded c.args.tree.now.nodes
    (whole_size (tree_of c.args.tree.now.nodes c.args.tree.now.root)) c.tasks.draft.nodes
    c.tasks.draft.tasks c.tasks.invariant.bounded e)
    (λ plain. (c.tasks.invariant.plain plain).0))
