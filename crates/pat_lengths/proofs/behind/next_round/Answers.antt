use Rattle.std.proofs.Common.{◌≡◌, length, arith}
use Rattle.pat_tree.specs.Nested.{trees}
use Rattle.pat_tree.specs.Parts.{tree_of}
use Rattle.pat_lengths.specs.Lengths.{behind}
use Rattle.pat_lengths.specs.Spans.{kept, span_at}
use Rattle.pat_lengths.proofs.SpanLemmas.{round_back, round_of, span_step}
use Rattle.pat_lengths.proofs.behind.next_round.Goals as goal

pub returns-clause-further : goal.returns-clause-further
returns-clause-further c d h =
    let t = c.args.tree.now in
    let unset = t.options.match_unset_backref in
    let whole = tree_of t in
    let places = c.args.groups.now.places.items in
    let spans = c.in_ok-spans.spans.items in
    let next = c.loop-number.next.items in
    let keep = c.in_ok-spans.ensures.kept unset whole (behind unset whole d) h in
    let count : length next ≡ length places = omega (arith, c.loop-number.invariant.0, c.loop-number-test.false) in
    record {
      any_is = h.any_is;
      each = λ n. span_step unset whole (trees t.nodes) t.root d n spans next places c.args.back.now
          c.in_ok-spans.ensures.count keep c.requires.back c.requires.table.places count
          (λ i l. c.loop-number.invariant.1 i (omega (arith, l, count, c.loop-number.invariant.0)));
    }

pub returns-clause-back : goal.returns-clause-back
returns-clause-back c n h =
    let t = c.args.tree.now in
    let places = c.args.groups.now.places.items in
    let next = c.loop-number.next.items in
    let count : length next ≡ length places = omega (arith, c.loop-number.invariant.0, c.loop-number-test.false) in
    round_back (tree_of t) (trees t.nodes) t.root n c.in_ok-spans.spans.items next places c.args.back.now
    c.requires.back c.requires.table.places
    (λ i l. c.loop-number.invariant.1 i (omega (arith, l, count, c.loop-number.invariant.0))) h

pub returns-clause-round : goal.returns-clause-round
returns-clause-round c a f n names =
    let t = c.args.tree.now in
    let unset = t.options.match_unset_backref in
    let whole = tree_of t in
    let places = c.args.groups.now.places.items in
    let next = c.loop-number.next.items in
    let count : length next ≡ length places = omega (arith, c.loop-number.invariant.0, c.loop-number-test.false) in
    round_of unset whole (trees t.nodes) t.root n f (λ x. span_at c.args.of.now x ≡ kept (f x))
    c.in_ok-spans.spans.items next places c.args.back.now c.in_ok-spans.ensures.count
    (c.in_ok-spans.ensures.each unset whole f a) c.requires.back c.requires.table.places count
    (λ i l. c.loop-number.invariant.1 i (omega (arith, l, count, c.loop-number.invariant.0))) names
