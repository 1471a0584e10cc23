use Rattle.std.proofs.Common.{◌≡◌, ◌∙◌, None, sym, ap, refl, subst}
use Rattle.std.specs.List.{list_any}
use Rattle.pat_lengths.specs.Backs.{fault_in}
use Rattle.pat_lengths.specs.Nodes.{is_lookbehind}
use Rattle.uni_text.specs.Folding.{fold}
use Rattle.pat_check.specs.Starts.{FoldsIn}
use Rattle.pat_check.proofs.LookLemmas.{no_fault, none_some}
use Rattle.pat_check.proofs.facts.check.Goals as goal

pub returns-clause-backs : goal.returns-clause-backs
returns-clause-backs c = (rw c.deref-5.ensures.value at (c.in_ok-of_spans.ensures c.args.tree.now))
    c.in_ok-spans.ensures

pub returns-clause-lead : goal.returns-clause-lead
returns-clause-lead c bytes folding = c.in_ok-lead_unless.ensures folding
    (subst (λ utf. FoldsIn utf folding) (sym bytes) tt)

pub returns-clause-lead_in_utf : goal.returns-clause-lead_in_utf
returns-clause-lead_in_utf c utf = c.in_ok-lead_unless.ensures fold
    (subst (λ utf. FoldsIn utf fold) (sym utf) (λ k. refl))

pub returns-in-Some-clause-without : goal.returns-in-Some-clause-without
returns-in-Some-clause-without c none =
    let t = c.args.tree.now in
    let order = c.in_ok-order.order.items in
    let told : c.fault_in.result ≡ fault_in t order = rw c.deref-3.ensures.value at c.fault_in.ensures in
    let clear : fault_in t order ≡ None =
    no_fault t c.in_ok-order.ensures.rules order c.in_ok-order.ensures.below
    (ap (list_any is_lookbehind) c.in_ok-order.ensures.nodes ∙ none) in
    absurd (none_some c.fault_in.result c.in-Some.fault (told ∙ clear) c.in-Some.is)

pub returns-clause-places : goal.returns-clause-places
returns-clause-places c n = rw (c.deref-2.ensures.value, c.in_ok-order.ensures.order) at
    (c.in_ok-groups.ensures.places n)
