use Rattle.std.proofs.Common.{◌≡◌, ◌∙◌, ◌-◌, None, sym, ap, arith, rules}
use Rattle.std.specs.ControlFlow.{continue_value}
use Rattle.match_items.specs.Views.{bare_text}
use Rattle.dfa_lists.specs.Tries.{places_of}
use Rattle.dfa_lists.proofs.BranchTries.{first_short, first_none, first_some}
use Rattle.dfa_lists.proofs.tries.first_try.Goals as goal

pub returns-then-back-clause-tries : goal.returns-then-back-clause-tries
returns-then-back-clause-tries c =
    first_short (bare_text c.args.view.now) c.args.back.least c.args.back.most c.args.at
    (omega (arith, c.if-back.true))

pub returns-in_err-place-clause-tries : goal.returns-in_err-place-clause-tries
returns-in_err-place-clause-tries c =
    let none : c.from_residual.result ≡ None = search rules in
    ap (places_of (bare_text c.args.view.now)) none
    ∙ first_none (bare_text c.args.view.now) c.args.back.least c.args.back.most
    (c.args.back.most - c.args.back.least) c.args.at (omega (arith, c.if-back.false))
    (sym c.text_back.ensures.value ∙ c.branch-place.ensures ∙ ap continue_value c.in_err-place.is)

pub returns-clause-tries : goal.returns-clause-tries
returns-clause-tries c =
    first_some (bare_text c.args.view.now) c.args.back.least c.args.back.most
    (c.args.back.most - c.args.back.least) c.args.at c.in_ok-place.place (omega (arith, c.if-back.false))
    (sym c.text_back.ensures.value ∙ c.branch-place.ensures ∙ ap continue_value c.in_ok-place.is)
