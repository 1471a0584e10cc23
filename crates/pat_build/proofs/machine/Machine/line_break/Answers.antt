use Rattle.std.proofs.Common.{refl, sym, ap, ◌∙◌, append-nil, Ok}
use Rattle.pat_tree.specs.Nested.{line_break}
use Rattle.pat_grammar.specs.Groups.{places_named}
use Rattle.pat_grammar.specs.Parts.{atom}
use Rattle.pat_build.specs.Machine.{state_of}
use Rattle.pat_nodes.specs.Nodes.{references_of}
use Rattle.pat_build.proofs.Adding.{node_waits}
use Rattle.pat_build.proofs.machine.Machine.line_break.Goals as goal

pub returns : goal.returns
unfolding places_named
returns c =
    let m = c.args.self.now in
    let ready = c.requires.1 in
    let e = c.in_ok-id.ensures in
    node_waits m ready.means c.requires.0 c.args.after m.at c.in_ok-id.id line_break c.add.new.self _ ready
    (record {
      is = e.grows;
      makes = e.made;
      replaces = e.replaces;
      no_group = λ n. refl;
      groups = e.groups;
      childless = refl;
      named = refl;
    }) (record { many = λ low high lazy. refl })
    (λ n h. c.requires.2 n h
    ∙ ap (λ rs. Ok (atom line_break (record (state_of m) { at = c.args.after; references = rs })))
    (sym (append-nil (references_of m.draft.nodes))))
