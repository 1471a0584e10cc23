-- What a machine answers where it comes to a failure that is known.
use Rattle.std.proofs.Common.{◌≡◌, ◌∙◌, ℕ, suc, ◌-◌, List, sym, ap, subst, arith}
use Rattle.ordered_search.specs.Stream.{State, reached, exhausted}
use Rattle.ordered_search.specs.Setting.{Setting}
use Rattle.ordered_search.specs.Moves.{Moves, Follow, tread}
use Rattle.search_paths.specs.Pauses.{strip}
use Rattle.search_paths.proofs.Before.{tread_strip}
use Rattle.search_costs.specs.Tasks.{Task, onward}
use Rattle.search_costs.specs.Led.{Leads, IsAny}
use Rattle.search_costs.specs.RecallLaw.{RecallLaw}
use Rattle.search_costs.proofs.Silent.{IsSilent, left_behind, silent_fails, silent_passes, silent_short, tread_fails}
use Rattle.search_costs.proofs.Silent.{tread_passes, tread_runs_out}
use Rattle.search_costs.proofs.LedPaths.{led_silently}
use Rattle.search_costs.proofs.Onward.{late_onward}
use Rattle.search_costs.proofs.CostLaw.{meets_failure, extends_deep, fails_again, passes_again}

-- the walk on the path is that over the stream
tread_led : (g : Setting) (left : List Task) (k : Follow) → Leads g IsAny left k → (s : State) (f : Moves) (n : ℕ)
    → IsSilent (onward g left s) → tread g n (k reached s f) ≡ tread g n (left_behind (onward g left s) (strip f))
tread_led g left k led s f n quiet =
    sym (tread_strip g n (k reached s f)) ∙ ap (tread g n) (led_silently g led s f quiet)

pub recall_law : RecallLaw
recall_law g p ks c left s n k f whole known at deep led = record {
  fails = λ room few.
      let is = fails_again g whole at n few deep known room in
      tread_led g left k led s f n (subst IsSilent (sym is) (silent_fails c.steps))
      ∙ ap (λ y. tread g n (left_behind y (strip f))) is
      ∙ tread_fails g n c.steps (strip f) few ∙ tread_strip g (n - c.steps) f;
  steps_out = λ room out.
      let short = extends_deep g whole known.at at in
      let is = meets_failure g whole known.at at c.steps c.most known.fails room in
      tread_led g left k led s f n (silent_short c.steps short is)
      ∙ tread_runs_out g n (suc n) c.steps exhausted (strip f) short is (late_onward g n left deep s) (omega arith)
      out;
  units_out = λ exact over fits few.
      let there = passes_again g whole at n few deep exact over fits in
      let less = there.few in
      tread_led g left k led s f n (subst IsSilent (sym there.is) (silent_passes there.count))
      ∙ ap (λ y. tread g n (left_behind y (strip f))) there.is
      ∙ tread_passes g n there.count (strip f) (omega (arith, few, less));
}
