use Rattle.std.proofs.Common.{◌≡◌, ◌∙◌, true, false, is_some, refl, sym, ap, subst, arith}
use Rattle.frame_store.specs.Captures.{capture}
use Rattle.pcre2_api.specs.Captured.{top_within, top_of}
use Rattle.pcre2_api.proofs.Naming.{top_step, capture_numbered}
use Rattle.pcre2_api.proofs.found.Found.top.Goals as goal

pub returns-then-is_some : goal.returns-then-is_some
returns-then-is_some c =
    let o = c.args.self.now.outcome in
    let seen : is_some (capture o.caps c.loop-n.n) ≡ true =
    ap (λ f. is_some (capture f.outcome.caps c.loop-n.n)) (sym c.self.view_is)
    ∙ ap is_some (sym (capture_numbered _ c.loop-n.n c.loop-n-test.true) ∙ sym c.span.ensures) ∙ sym c.is_some.ensures
    ∙ c.if-is_some.true
    in
    sym (c.loop-n.invariant ∙ top_step o.caps c.loop-n.n c.loop-n-test.true ∙ rw seen refl)

pub loop-n-preserved : goal.loop-n-preserved
loop-n-preserved c =
    let o = c.args.self.now.outcome in
    let unseen : is_some (capture o.caps c.loop-n.n) ≡ false =
    ap (λ f. is_some (capture f.outcome.caps c.loop-n.n)) (sym c.self.view_is)
    ∙ ap is_some (sym (capture_numbered _ c.loop-n.n c.loop-n-test.true) ∙ sym c.span.ensures) ∙ sym c.is_some.ensures
    ∙ c.if-is_some.false
    in
    c.loop-n.invariant ∙ top_step o.caps c.loop-n.n c.loop-n-test.true ∙ rw unseen refl

pub returns : goal.returns
unfolding top_within
returns c =
    let o = c.args.self.now.outcome in
    let none : c.loop-n.n ≡ 0 = omega (arith, c.loop-n-test.false) in
    sym (subst (λ n. top_of o ≡ top_within o.caps n) none c.loop-n.invariant)
