use Rattle.pat_tree.proofs.Keeping.{rules_none}
use Rattle.pat_tree.proofs.Marks.{none_marked}
use Rattle.pat_tree.proofs.draft.Draft.new.Goals as goal

pub invariant_of-result : goal.invariant_of-result
invariant_of-result c = rw (
  c.new.ensures.items,
  c.new-2.ensures,
  c.new-3.ensures.items,
  c.new-4.ensures,
  c.new-5.ensures.items,
) (rules_none c.args.options, none_marked)
