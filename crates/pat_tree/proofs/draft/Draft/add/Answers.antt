use Rattle.std.proofs.Common.{ℕ, ◌≡◌, ◌∙◌, ◌||◌, ◌++◌, sym, ap, length-append, ◌∷◌, [], arith, length}
use Rattle.pat_tree.specs.declared.nodes.Placed.{Placed}
use Rattle.pat_tree.proofs.Growing.{makes_push, refs_push}
use Rattle.pat_tree.proofs.Keeping.{sound_push}
use Rattle.pat_tree.proofs.Loose.{loose_push, replaces_push}
use Rattle.pat_tree.specs.Rules.{number_in}
use Rattle.pat_tree.specs.Refs.{has_group, is_in, marked}
use Rattle.pat_tree.proofs.Marks.{has_group_push}
use Rattle.pat_tree.proofs.draft.Draft.add.Goals as goal

pub returns-clause-made : goal.returns-clause-made
returns-clause-made c =
    rw (c.in_ok-push.ensures.items, c.len-id.ensures, c.self.inside.nodes.ok.0, ← c.self.view_is)
    (makes_push c.self.inside.nodes.items (record { node = c.args.node; at = c.args.at }))

pub returns-clause-refs : goal.returns-clause-refs
returns-clause-refs c =
    rw (c.in_ok-push.ensures.items, ← c.self.view_is)
    (refs_push c.self.inside.nodes.items (record { node = c.args.node; at = c.args.at }))

pub returns-clause-loose : goal.returns-clause-loose
returns-clause-loose c =
    rw (c.in_ok-push.ensures.items, ← c.self.view_is)
    (loose_push c.self.inside.nodes.items (record { node = c.args.node; at = c.args.at }))

pub returns-clause-replaces : goal.returns-clause-replaces
returns-clause-replaces c =
    rw (c.in_ok-push.ensures.items, c.len-id.ensures, c.self.inside.nodes.ok.0, ← c.self.view_is)
    (replaces_push c.self.inside.nodes.items (record { node = c.args.node; at = c.args.at }))

pub invariant_of-self-2 : goal.invariant_of-self-2
invariant_of-self-2 c =
    let p : Placed = record { node = c.args.node; at = c.args.at } in
    let given = rw (← c.self.view_is) at c.requires in
    let ps = c.self.inside.nodes.items in
    let groups : (n : ℕ) → marked c.insert_reserved.new.self n ≡ has_group (ps ++ p ∷ []) n =
    λ n. c.insert_reserved.ensures n
    ∙ ap (λ t. t || is_in n (number_in c.group_number-number.result))
    (c.in_ok-reserve.ensures.same n ∙ c.self.invariant.1 n)
    ∙ ap (λ ks. has_group ps n || is_in n ks) c.group_number-number.ensures
    ∙ sym (has_group_push ps p n) in
    rw c.in_ok-push.ensures.items (
      record {
        nodes = sound_push (length c.self.inside.classes.items) (length c.self.inside.verb_names.items) ps p
            c.self.invariant.0.nodes (record {
              kids = given.kids;
              classes = given.classes;
              verb_names = given.verb_names;
              numbered = given.numbered;
              named = given.named;
              ordered = given.ordered;
              define = given.define;
              test = given.test;
            }) given.fresh;
        ordered = c.self.invariant.0.ordered;
        node_count = omega (arith, given.room, length-append ps (p ∷ []));
        class_count = c.self.invariant.0.class_count;
        verb_name_count = c.self.invariant.0.verb_name_count;
      },
      groups,
    )
