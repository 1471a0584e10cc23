use Rattle.std.proofs.Common.{◌∙◌, ◌-◌, refl, arith}
use Rattle.match_items.specs.Views.{bare_text}
use Rattle.dfa_drive.proofs.Downward.{all_kept, keeps}
use Rattle.dfa_drive.proofs.ends.admitted_ends.Goals as goal

pub ends-preserved : goal.ends-preserved
ends-preserved c = record {
  same = keeps (bare_text c.args.view.now) c.args.place c.args.rising.now c.ends.ends c.keep.new.ends
      c.ends.left (c.ends.left - 1) c.get-end.result.now c.is_admitted.result refl
      (omega (arith, c.ends-test.true)) c.get-end.ensures c.is_admitted.ensures
      c.in_ok-keep.ensures
      ∙ c.ends.invariant.same;
  within = omega (arith, c.ends.invariant.within);
}

pub returns : goal.returns
returns c =
    all_kept (bare_text c.args.view.now) c.args.place c.args.rising.now c.ends.ends _ c.ends.left
    (omega (arith, c.ends-test.false)) c.ends.invariant.same
