use Rattle.std.proofs.Common.{◌≡◌, ◌∙◌, ◌||◌, ◌<◌, suc, false, length, get_or, ap, sym, subst, arith}
use Rattle.std.proofs.Math.Path.{fun_ext}
use Rattle.std.proofs.lemmas.List.{get_or_default}
use Rattle.pat_tree.specs.Parts.{tree_of}
use Rattle.pat_lengths.specs.Nodes.{captures, has_shared_number}
use Rattle.pat_lengths.specs.Lengths.{by_calls}
use Rattle.pat_lengths.specs.Passing.{flagged, passes}
use Rattle.pat_lengths.specs.Rounds.{AreRounds}
use Rattle.pat_lengths.specs.declared.rounds.Question.TheVariants.{Passes}
use Rattle.pat_lengths.proofs.PassLemmas.{zero_is}
use Rattle.pat_lengths.proofs.RoundLemmas.{passes_rounds}
use Rattle.pat_lengths.proofs.passing.passes_whole.Goals as goal

pub returns : goal.returns
returns c =
    let t = c.args.tree.now in
    let unset = t.options.match_unset_backref in
    let whole = tree_of t in
    let any = unset || has_shared_number whole in
    let is : c.has_any_length-any.result ≡ any = c.has_any_length-any.ensures
    ∙ ap (λ b. unset || b) c.requires.shared in
    let can = c.in_ok-can.can.items in
    let passing = c.in_ok-passing.passing.items in
    let within : t.root < length passing = omega (arith, c.in_ok-passing.ensures.count) in
    let read : c.index.result.now ≡ get_or passing t.root c.index.result.now = rw c.root.ensures at c.index.ensures in
    let settled : AreRounds (Passes any) whole (suc (captures whole)) can =
    subst (λ b. AreRounds (Passes b) whole (suc (captures whole)) can) is
    (subst (λ n. AreRounds (Passes c.has_any_length-any.result) whole (suc n) can) c.requires.count
    c.in_ok-can.ensures) in
    read ∙ get_or_default passing t.root c.index.result.now false within
    ∙ (rw c.deref.ensures.value at c.in_ok-passing.ensures.kept) t.root within
    ∙ ap (λ b. passes b (flagged can) whole) is
    ∙ ap (λ f. passes any f whole) (fun_ext (λ n. settled n ∙ passes_rounds unset whole (suc (captures whole)) n))
    ∙ sym (zero_is unset whole (by_calls unset whole (suc (captures whole))) whole)
