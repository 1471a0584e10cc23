use Rattle.std.proofs.Common.{◌≡◌, ◌∙◌, ◌+◌, ◌*◌, ◌<◌, ◌∷◌, [], All, length, ap, sym, subst}
use Rattle.pat_tree.specs.Nested.{tree_at}
use Rattle.pat_tree.specs.Rules.{kids_of}
use Rattle.pat_lengths.specs.Lengths.{counted}
use Rattle.pat_lengths.proofs.KeepLemmas.{all_kept, one_kept}
use Rattle.pat_lengths.proofs.CountLemmas.{counted_right, counted_times}
use Rattle.pat_check.specs.Size.{whole_size, size, size_at, copies}
use Rattle.pat_check.proofs.SizeLemmas.{total, sums, size_first, no_repeat}
use Rattle.pat_check.proofs.size.node_size.Goals as goal

pub returns-in-Repeat : goal.returns-in-Repeat
unfolding whole_size
returns-in-Repeat c trees tests kept =
    let sizes = c.args.sizes.now in
    let body = c.in-Repeat.body in
    let times = copies c.in-Repeat.min c.in-Repeat.max in
    let below : All (λ k. k < length sizes) (body ∷ []) =
    subst (λ n. All (λ k. k < length sizes) (kids_of n)) c.in-Repeat.is c.requires.below in
    let here : size_at sizes body ≡ size (tree_at trees body) =
    one_kept (λ k. size_at sizes k ≡ size (tree_at trees k)) body (length sizes) kept below in
    rw c.in-Repeat.is
    (c.sum.ensures
    ∙ ap (λ n. counted (1 + n)) (c.product.ensures ∙ ap (λ n. counted (n * size_at sizes body)) c.copies.ensures.is
    ∙ ap (λ n. counted (times * n)) here ∙ counted_times times (whole_size (tree_at trees body)))
    ∙ counted_right 1 (times * whole_size (tree_at trees body)))

pub returns-in-OneRepeat : goal.returns-in-OneRepeat
unfolding whole_size
returns-in-OneRepeat c trees tests kept =
    rw c.in-OneRepeat.is (c.sum-in-OneRepeat.ensures ∙ ap (λ n. counted (1 + n)) c.copies-in-OneRepeat.ensures.is)

pub returns-in_default : goal.returns-in_default
returns-in_default c trees tests kept =
    let sizes = c.args.sizes.now in
    let n = c.args.node.now in
    c.sum-in_default.ensures
    ∙ ap (λ x. counted (1 + x)) (c.sum_of_kids.ensures
    ∙ sums trees (size_at sizes) (kids_of n)
    (all_kept (λ k. size_at sizes k ≡ size (tree_at trees k)) (kids_of n) (length sizes) kept c.requires.below))
    ∙ counted_right 1 (total trees (kids_of n))
    ∙ ap counted (sym (size_first trees n (no_repeat n c.in_default.not-Repeat c.in_default.not-OneRepeat) tests))
