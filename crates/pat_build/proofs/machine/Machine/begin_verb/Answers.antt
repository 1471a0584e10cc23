use Rattle.std.proofs.Common.{ap, sym, ◌∙◌, Ok}
use Rattle.pat_tree.specs.Nested.{verb}
use Rattle.token_parts.specs.declared.token.Token.TheVariants.{VerbItem}
use Rattle.pat_grammar.specs.Parts.{part_if}
use Rattle.pat_grammar.specs.Verbs.{verb_of, number_of_name}
use Rattle.pat_build.proofs.Adding.{state_named, verb_waits, verb_stands}
use Rattle.pat_build.proofs.machine.Machine.begin_verb.Goals as goal

pub returns-then-may_be_repeated : goal.returns-then-may_be_repeated
returns-then-may_be_repeated c =
    let m = c.args.self.now in
    let r = c.requires.ready in
    let t = verb (verb_of c.args.kind (number_of_name m.draft.verb_names c.args.name.now)) in
    verb_waits m r.2.means (VerbItem c.args.kind r.0 r.1) c.args.after m.at c.in_ok-id.id c.args.kind c.args.name.now
    c.add_verb.new.draft r.2 c.in_ok-id.ensures
    (λ n h. r.3 n h ∙ ap (λ b. Ok (part_if b t (record (state_named m c.args.name.now) { at = c.args.after })))
    (sym c.may_be_repeated.ensures ∙ c.if-may_be_repeated.true))

pub returns : goal.returns
returns c =
    let m = c.args.self.now in
    let r = c.requires.ready in
    let t = verb (verb_of c.args.kind (number_of_name m.draft.verb_names c.args.name.now)) in
    verb_stands m r.2.means (VerbItem c.args.kind r.0 r.1) c.args.after m.at c.in_ok-id.id c.args.kind c.args.name.now
    c.add_verb.new.draft c.push.new.self r.2 c.in_ok-id.ensures c.in_ok-push.ensures.ok
    (λ n h. r.3 n h ∙ ap (λ b. Ok (part_if b t (record (state_named m c.args.name.now) { at = c.args.after })))
    (sym c.may_be_repeated.ensures ∙ c.if-may_be_repeated.false))
