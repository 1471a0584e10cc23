use Rattle.std.proofs.Common.{ap, ◌∙◌, Ok, Result, if◌then◌else◌}
use Rattle.token_parts.specs.declared.fault.Fault.{Fault}
use Rattle.token_parts.specs.declared.token.Token.TheVariants.{CalloutItem}
use Rattle.token_parts.specs.Tell.{fault}
use Rattle.pat_grammar.specs.Callouts.{next_item}
use Rattle.pat_grammar.specs.Parts.{Beginning, callouts, with_callout}
use Rattle.pat_build.specs.Machine.{state_of}
use Rattle.pat_build.proofs.Waiting.{bad_means}
use Rattle.pat_build.proofs.machine.Machine.callout.Goals as goal

pub returns-clause-bad : goal.returns-clause-bad
unfolding callouts
returns-clause-bad c =
    let m = c.args.self.now in
    let a = c.args in
    let next = record (state_of m) { at = c.args.after } in
    rw c.fault.ensures (bad_means m c.requires.means (CalloutItem a.number a.text_from a.text_to) c.args.after _
    c.requires
    (λ n h. ap (λ b. if b then Ok (with_callout a.number a.text_from a.text_to (next_item m.text.now next) next) else
    fault 195 m.at) c.if-self.false))

pub begin_callout-requires : goal.begin_callout-requires
unfolding callouts
begin_callout-requires c =
    let m = c.args.self.now in
    let a = c.args in
    let next = record (state_of m) { at = c.args.after } in record {
      ready = (
        c.requires,
        λ n h. ap (λ b. if b then Ok (with_callout a.number a.text_from a.text_to (next_item m.text.now next) next)
            else fault 195 m.at) c.if-self.true
            ∙ ap (λ i. let x : Result Beginning Fault = Ok (with_callout a.number a.text_from a.text_to i next) in x)
            c.in_ok-item.ensures.value,
      );
      small = c.in_ok-item.ensures.within;
    }
