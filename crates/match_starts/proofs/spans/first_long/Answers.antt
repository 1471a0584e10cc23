use Rattle.std.proofs.Common.{inl, inr, length, arith}
use Rattle.std.proofs.lemmas.Bool.{cases_lt}
use Rattle.match_starts.proofs.OpenSpans.{short_to, past_end, short_past}
use Rattle.match_starts.proofs.spans.first_long.Goals as goal

pub spans-preserved : goal.spans-preserved
spans-preserved c =
    let set = c.args.set.now in
    let bytes = c.args.bytes.now in
    let begin = c.span_begin-begin.ensures in
    let next = c.first_in-at.ensures in
    let low = c.spans.invariant.low in
    let high = c.spans.invariant.high in
    let is = c.if-begin-at.false in
    record {
      low = omega (arith, low, begin.low, next.low);
      high = next.high;
      few = λ k a b. elim (cases_lt k c.spans.at) [
        | inl before ↦ c.spans.invariant.few k a before
        | inr past ↦ short_past set bytes c.args.least c.spans.at c.span_begin-begin.result
            c.first_in-at.result c.requires.some (omega (arith, begin.low, is)) begin.high
            begin.outside next.before k past b
      ];
    }

pub returns-clause-short : goal.returns-clause-short
returns-clause-short c k a b =
    let set = c.args.set.now in
    let bytes = c.args.bytes.now in
    elim (cases_lt k c.spans.at) [
      | inl before ↦ c.spans.invariant.few k a before
      | inr past ↦ short_to set bytes c.args.least c.spans.at (length bytes)
          (let few = c.spans-test.false in
          let high = c.spans.invariant.high in omega (arith, few, high))
          (past_end set bytes) k past (omega (arith, b))
    ]
