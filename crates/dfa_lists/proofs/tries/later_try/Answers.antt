use Rattle.std.proofs.Common.{◌≡◌, ◌∙◌, ◌-◌, ◌∷◌, Option, None, sym, ap, arith, rules}
use Rattle.std.specs.ControlFlow.{continue_value}
use Rattle.match_items.specs.Views.{bare_text}
use Rattle.dfa_lists.specs.declared.tries.Try.{Try}
use Rattle.dfa_lists.specs.Tries.{places_of}
use Rattle.dfa_lists.proofs.BranchTries.{none_later, later_none, later_some}
use Rattle.dfa_lists.proofs.tries.later_try.Goals as goal

pub returns-then-tried-eq0-clause-tries : goal.returns-then-tried-eq0-clause-tries
returns-then-tried-eq0-clause-tries c =
    none_later (bare_text c.args.view.now) c.args.tried.left c.args.tried.place c.if-tried-eq0.true

pub returns-in_err-place-clause-tries : goal.returns-in_err-place-clause-tries
returns-in_err-place-clause-tries c =
    let none : c.from_residual.result ≡ None = search rules in
    later_none (bare_text c.args.view.now) c.args.tried.left (c.args.tried.left - 1) c.args.tried.place
    (omega (arith, c.if-tried-eq0.false))
    (sym c.text_back.ensures.value ∙ c.branch-place.ensures ∙ ap continue_value c.in_err-place.is)
    ∙ ap (λ (o : Option Try). c.args.tried.place ∷ places_of (bare_text c.args.view.now) o) (sym none)

pub returns-clause-tries : goal.returns-clause-tries
returns-clause-tries c =
    later_some (bare_text c.args.view.now) c.args.tried.left (c.args.tried.left - 1) c.args.tried.place
    c.in_ok-place.place (omega (arith, c.if-tried-eq0.false))
    (sym c.text_back.ensures.value ∙ c.branch-place.ensures ∙ ap continue_value c.in_ok-place.is)
