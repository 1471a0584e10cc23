use Rattle.std.proofs.Common.{refl, sym, append-nil, map}
use Rattle.pat_tree.specs.Nested.{ref}
use Rattle.pat_grammar.specs.Groups.{places_named}
use Rattle.pat_build.proofs.Adding.{node_waits}
use Rattle.pat_build.proofs.machine.Machine.reference.Goals as goal

pub returns : goal.returns
unfolding places_named
returns c =
    let m = c.args.self.now in
    let ready = c.requires.ready.1 in
    let e = c.in_ok-id.ensures in
    node_waits m ready.means c.requires.ready.0 c.args.after m.at c.in_ok-id.id (ref c.args.groups m.options.caseless)
    c.add.new.self _ ready
    (record {
      is = e.grows;
      makes = e.made;
      replaces = e.replaces;
      no_group = λ n. refl;
      groups = e.groups;
      childless = refl;
      named = sym (append-nil (map (λ k. (m.at, k)) c.args.groups));
    })
    (record { many = λ low high lazy. refl })
    c.requires.ready.2
