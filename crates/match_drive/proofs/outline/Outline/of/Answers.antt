use Rattle.match_drive.proofs.outline.Outline.of.Goals as goal

pub returns : goal.returns
returns c = record {
  begin = c.stands_at_begin.ensures;
  whole = c.whole_repeat.ensures;
  repeat = c.telling.ensures c.args.tree.now c.first_repeat.ensures;
  run = c.plain_run.ensures;
}
