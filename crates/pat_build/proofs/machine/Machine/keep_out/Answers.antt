use Rattle.std.proofs.Common.{refl, sym, ap, ◌∙◌, append-nil, Ok, if◌then◌else◌}
use Rattle.token_parts.specs.declared.token.Token.TheVariants.{KeepOut}
use Rattle.token_parts.specs.Tell.{fault}
use Rattle.pat_tree.specs.Nested.{keep_out}
use Rattle.pat_grammar.specs.Groups.{places_named}
use Rattle.pat_grammar.specs.Parts.{bare}
use Rattle.pat_build.specs.Machine.{state_of}
use Rattle.pat_nodes.specs.Nodes.{references_of}
use Rattle.pat_build.proofs.Adding.{node_stands}
use Rattle.pat_build.proofs.Waiting.{bad_means}
use Rattle.pat_build.proofs.machine.Machine.keep_out.Goals as goal

pub returns-then-self-clause-bad : goal.returns-then-self-clause-bad
returns-then-self-clause-bad c =
    let m = c.args.self.now in
    rw c.fault.ensures (bad_means m c.requires.means KeepOut c.args.after _ c.requires
    (λ n h. ap (λ b. if b then fault 199 m.at else Ok (bare keep_out (record (state_of m) { at = c.args.after })))
    c.if-self.true))

pub returns-clause-ok : goal.returns-clause-ok
unfolding places_named
returns-clause-ok c =
    let m = c.args.self.now in
    let e = c.in_ok-id.ensures in
    node_stands m c.requires.means KeepOut c.args.after c.in_ok-id.id keep_out c.add.new.self _ c.push.new.self
    c.requires
    (record {
      is = e.grows;
      makes = e.made;
      replaces = e.replaces;
      no_group = λ n. refl;
      groups = e.groups;
      childless = refl;
      named = refl;
    }) c.in_ok-push.ensures.ok
    (λ n h. ap (λ b. if b then fault 199 m.at else Ok (bare keep_out (record (state_of m) { at = c.args.after })))
    c.if-self.false
    ∙ ap (λ rs. Ok (bare keep_out (record (state_of m) { at = c.args.after; references = rs })))
    (sym (append-nil (references_of m.draft.nodes))))
