use Rattle.std.proofs.Common.{◌≡◌, ◌∙◌, ◌<◌, None, get_or, length, map, sym, ap, arith}
use Rattle.std.proofs.lemmas.List.{get_or-map, length-map, take_all}
use Rattle.pat_tree.specs.Nested.{tree_at, trees}
use Rattle.pat_tree.specs.Parts.{tree_of}
use Rattle.pat_lengths.specs.Backs.{back_of, lengths_at, lengths_back, no_back}
use Rattle.pat_lengths.specs.HasLength.{BranchHas}
use Rattle.pat_lengths.proofs.BackLemmas.{kept_back}
use Rattle.pat_lengths.proofs.LengthLaw.{branch_bounds}
use Rattle.pat_lengths.proofs.backs.Backs.of_spans.Goals as goal

pub returns : goal.returns
returns c tree h =
    let spans = c.args.spans.now in
    let unset = tree.options.match_unset_backref in
    let all : c.loop-span.lengths.items ≡ map back_of spans = c.loop-span.invariant
    ∙ ap (map back_of) (take_all c.loop-span.span-index spans (omega (arith, c.loop-span-test.false))) in
    record {
      count = ap length all ∙ length-map spans back_of ∙ h.count;
      each = λ k l e. (
          let part = tree_at (trees tree.nodes) k in
          let inside : k < length spans = omega (arith, l, h.count) in
          kept_back (BranchHas unset (tree_of tree) part) (lengths_at tree k)
          (branch_bounds unset (tree_of tree) part) e
          ∙ ap (λ s. lengths_back (back_of s)) (sym (h.each k l))
          ∙ ap lengths_back (sym (get_or-map back_of spans k None no_back inside))
          ∙ ap (λ xs. lengths_back (get_or xs k no_back)) (sym all));
    }
