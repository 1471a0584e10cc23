use Rattle.match_items.proofs.anchors.dollar.Goals as goal

pub returns-then-multi-clause-holds : goal.returns-then-multi-clause-holds
returns-then-multi-clause-holds c = rw c.if-multi.true (c.line_end.ensures.holds c.args.end_only)

pub returns-then-multi-clause-at_end : goal.returns-then-multi-clause-at_end
returns-then-multi-clause-at_end c = rw c.if-multi.true (c.line_end.ensures.at_end c.args.end_only)
