use Rattle.std.proofs.Common.{◌≡◌, ◌∙◌, ◌<◌, suc, None, [], false, length, get_or, ap, sym, arith}
use Rattle.std.proofs.lemmas.List.{get_or_default}
use Rattle.pat_tree.specs.Parts.{tree_of}
use Rattle.pat_lengths.specs.Nodes.{captures}
use Rattle.pat_lengths.specs.Lengths.{by_calls}
use Rattle.pat_lengths.specs.Passing.{flagged, has_zero, passes}
use Rattle.pat_lengths.proofs.PassLemmas.{zero_is}
use Rattle.pat_lengths.proofs.PlainLemmas.{alike}
use Rattle.pat_lengths.proofs.passing.passes_plain.Goals as goal

pub returns : goal.returns
returns c =
    let t = c.args.tree.now in
    let unset = t.options.match_unset_backref in
    let whole = tree_of t in
    let passing = c.in_ok-passing.passing.items in
    let within : t.root < length passing = omega (arith, c.in_ok-passing.ensures.count) in
    let read : c.index.result.now ≡ get_or passing t.root c.index.result.now = rw c.root.ensures at c.index.ensures in
    read ∙ get_or_default passing t.root c.index.result.now false within
    ∙ c.in_ok-passing.ensures.kept t.root within
    ∙ ap (λ b. passes b (flagged []) whole) c.requires.any
    ∙ sym (zero_is unset whole (λ n. None) whole)
    ∙ ap has_zero (alike unset whole (λ n. None) (by_calls unset whole (suc (captures whole))) whole
    c.requires.plain)
