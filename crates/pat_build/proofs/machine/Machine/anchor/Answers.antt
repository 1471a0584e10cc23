use Rattle.std.proofs.Common.{refl, sym, ap, ◌∙◌, append-nil, Ok}
use Rattle.pat_tree.specs.Nested.{anchor}
use Rattle.pat_grammar.specs.Groups.{places_named}
use Rattle.pat_grammar.specs.Parts.{bare}
use Rattle.pat_build.specs.Machine.{state_of}
use Rattle.pat_nodes.specs.Nodes.{references_of}
use Rattle.pat_build.proofs.Adding.{node_stands}
use Rattle.pat_build.proofs.machine.Machine.anchor.Goals as goal

pub returns : goal.returns
unfolding places_named
returns c =
    let m = c.args.self.now in
    let ready = c.requires.1 in
    let e = c.in_ok-id.ensures in
    node_stands m ready.means c.requires.0 c.args.after c.in_ok-id.id (anchor c.args.kind) c.add.new.self _
    c.push.new.self ready
    (record {
      is = e.grows;
      makes = e.made;
      replaces = e.replaces;
      no_group = λ n. refl;
      groups = e.groups;
      childless = refl;
      named = refl;
    }) c.in_ok-push.ensures.ok
    (λ n h. c.requires.2 n h
    ∙ ap (λ rs. Ok (bare (anchor c.args.kind) (record (state_of m) { at = c.args.after; references = rs })))
    (sym (append-nil (references_of m.draft.nodes))))
