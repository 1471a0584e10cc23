use Rattle.std.proofs.Common.{◌≡◌, ◌∙◌, ◌∷◌, All, ap, sym, subst, arith}
use Rattle.pat_tree.specs.Rules.{number_in}
use Rattle.pat_lengths.specs.Lengths.{either}
use Rattle.pat_lengths.specs.Spans.{kept, span_at, lengths_of_second}
use Rattle.pat_lengths.proofs.SpanLemmas.{no_definition}
use Rattle.pat_lengths.proofs.lengths.span_of_condition.Goals as goal

pub returns-in-Some : goal.returns-in-Some
returns-in-Some c of h =
    let spans = c.args.spans.now in
    let first = c.args.yes in
    let both = subst (λ o. All (λ k. span_at spans k ≡ kept (of k)) (first ∷ number_in o)) c.in-Some.is h in
    c.either.ensures (of first) (of c.in-Some.no) (both 0 0 (omega arith)) (both 1 0 (omega arith))
    ∙ ap (λ o. kept (either (of first) (lengths_of_second of o))) (sym c.in-Some.is)
    ∙ ap kept (sym (no_definition of c.args.test.now first c.args.no c.in_default.not-Never))
