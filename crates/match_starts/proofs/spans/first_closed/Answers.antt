use Rattle.std.proofs.Common.{inl, inr, arith}
use Rattle.std.proofs.lemmas.Bool.{cases_lt}
use Rattle.match_starts.proofs.OpenSpans.{endless, none_left, open_past}
use Rattle.match_starts.proofs.spans.first_closed.Goals as goal

pub returns-then-end-bytes-clause-open : goal.returns-then-end-bytes-clause-open
returns-then-end-bytes-clause-open c k a b =
    let set = c.args.set.now in
    let ends = c.args.ends.now in
    let bytes = c.args.bytes.now in
    let last = c.if-end-bytes.true in
    elim (cases_lt k c.spans.at) [
      | inl before ↦ c.spans.invariant.before k a before
      | inr past ↦ endless set ends bytes c.args.least c.spans.at
          (λ i low high. c.find_in_set-end.ensures.least.before i low (omega (arith, high, last)))
          k past (omega (arith, b, last))
    ]

pub spans-preserved : goal.spans-preserved
spans-preserved c =
    let set = c.args.set.now in
    let ends = c.args.ends.now in
    let bytes = c.args.bytes.now in
    let begin = c.span_begin-begin.ensures in
    let least = c.find_in_set-end.ensures.least in
    let next = c.first_in-at.ensures in
    let end = c.find_in_set-end.result in
    let low = c.spans.invariant.low in
    record {
      low = omega (arith, low, begin.low, next.low);
      high = next.high;
      before = λ k a b. elim (cases_lt k c.spans.at) [
        | inl before ↦ c.spans.invariant.before k a before
        | inr past ↦ open_past set ends bytes c.args.least c.spans.at c.span_begin-begin.result end
            c.first_in-at.result begin.high
            (let few = c.if-end-begin.false in omega (arith, few)) begin.outside least.before
            next.before k past b
      ];
    }

pub returns-clause-open : goal.returns-clause-open
returns-clause-open c k a b =
    let set = c.args.set.now in
    let ends = c.args.ends.now in
    let bytes = c.args.bytes.now in
    elim (cases_lt k c.spans.at) [
      | inl before ↦ c.spans.invariant.before k a before
      | inr past ↦ none_left set ends bytes c.args.least c.spans.at
          (let few = c.spans-test.false in
          let high = c.spans.invariant.high in omega (arith, few, high))
          k past (omega (arith, b))
    ]
