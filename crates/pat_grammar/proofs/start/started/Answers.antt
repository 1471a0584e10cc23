use Rattle.std.proofs.Common.{◌+◌, ◌∙◌, length, arith, refl, sym, ap}
use Rattle.pat_grammar.specs.Reading.{started, state_from}
use Rattle.pat_grammar.proofs.Starting.{positive, start_ends, start_item, start_fault, start_over}
use Rattle.pat_grammar.proofs.Listed.{own_listed}
use Rattle.pat_grammar.proofs.start.started.Goals as goal

pub items-init : goal.items-init
items-init c = record { within = omega arith; value = (length c.args.text.now + 1, omega arith, refl) }

pub returns-in_default : goal.returns-in_default
returns-in_default c =
    let v = c.items.invariant.value in
    let p = positive 0 v.0 (omega (arith, v.1, c.items.invariant.within)) in
    record {
      ok = v.2 ∙ rw (p.1) (start_ends c.args.text.now (state_from c.items.at c.items.options) p.0 c.in-Ok.token
          c.in-Ok.after (sym c.in-Ok.ensures.value) c.in_default.not-Start);
      within = c.items.invariant.within;
      bad = tt;
      number = tt;
      place = tt;
    }

pub returns-then-begins_limit-clause-bad : goal.returns-then-begins_limit-clause-bad
returns-then-begins_limit-clause-bad c =
    let v = c.items.invariant.value in
    let p = positive 0 v.0 (omega (arith, v.1, c.items.invariant.within)) in
    rw c.from.ensures
    (v.2 ∙ rw (p.1) (start_fault c.args.text.now (state_from c.items.at c.items.options) p.0 c.in-Err.fault
    (sym c.in-Err.ensures.value) (sym c.begins_limit.ensures ∙ c.if-begins_limit.true)))

pub returns-then-begins_limit-clause-number : goal.returns-then-begins_limit-clause-number
returns-then-begins_limit-clause-number c = rw c.from.ensures (own_listed c.in-Err.fault.number c.in-Err.ensures.number)

pub returns-then-begins_limit-clause-place : goal.returns-then-begins_limit-clause-place
returns-then-begins_limit-clause-place c = rw c.from.ensures c.in-Err.ensures.place

pub returns-in-Err-clause-ok : goal.returns-in-Err-clause-ok
returns-in-Err-clause-ok c =
    let v = c.items.invariant.value in
    let p = positive 0 v.0 (omega (arith, v.1, c.items.invariant.within)) in
    v.2 ∙ rw (p.1) (start_over c.args.text.now (state_from c.items.at c.items.options) p.0 c.in-Err.fault
    (sym c.in-Err.ensures.value) (sym c.begins_limit.ensures ∙ c.if-begins_limit.false))

pub items-preserved : goal.items-preserved
items-preserved c =
    let moves = rw (c.in-Start.is) at c.in-Ok.ensures.moves in
    let v = c.items.invariant.value in
    let p = positive 0 v.0 (omega (arith, v.1, c.items.invariant.within)) in
    record {
      within = moves.1;
      value = (
        p.0,
        omega (arith, v.1, p.1, moves.0),
        v.2 ∙ ap (λ k. started c.args.text.now k (state_from c.items.at c.items.options)) p.1
            ∙ start_item c.args.text.now (state_from c.items.at c.items.options) p.0 c.in-Ok.token c.in-Ok.after
            (sym c.in-Ok.ensures.value) c.in-Start.item c.in-Start.is
            ∙ ap (λ o. started c.args.text.now p.0 (state_from c.in-Ok.after o)) (sym c.with_item-options.ensures),
      );
    }
