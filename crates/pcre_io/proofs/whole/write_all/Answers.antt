use Rattle.std.proofs.Common.{rules, ◌∙◌}
use Rattle.std.proofs.lemmas.List.{take_rest}
use Rattle.pcre_io.proofs.Pieces.{Appends-piece}
use Rattle.pcre_io.proofs.whole.write_all.Goals as goal

pub loop-at-preserved : goal.loop-at-preserved
loop-at-preserved g c = record {
  within = search rules;
  written = Appends-piece _ _ _ c.args.bytes.now c.loop-at.at c.in_ok-at.field-0 c.loop-at.invariant.written
      (rw take_rest at c.in_ok-at.ensures.bytes);
  steady = c.in_ok-at.ensures.cause ∙ c.loop-at.invariant.steady;
}
