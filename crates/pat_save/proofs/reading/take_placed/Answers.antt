use Rattle.std.proofs.Common.{◌<◌, ◌++◌, ◌∷◌, [], List, ap, arith, sym, ◌∙◌, Some}
use Rattle.std.proofs.lemmas.Result.{err_from_is_err_and}
use Rattle.pat_tree.proofs.Loose.{fresh_at_end}
use Rattle.pat_tree.specs.Parts.{DraftParts}
use Rattle.pat_tree.specs.Rules.{kids_of}
use Rattle.pat_tree.specs.declared.nodes.Placed.{Placed}
use Rattle.pat_save.specs.declared.reading.Growing.{Growing}
use Rattle.pat_save.proofs.Forms.{found}
use Rattle.pat_save.proofs.NodeRules.{NodeIs}
use Rattle.pat_save.proofs.Piles.{grown_more, node_read, placed_fails, placed_read}
use Rattle.pat_save.proofs.Trees.{kids_below}
use Rattle.pat_save.proofs.reading.take_placed.Goals as goal

pub add-requires : goal.add-requires
add-requires c =
    let known = c.args.growing.now.draft.nodes in
    let is : NodeIs c.args.around c.args.text.now known c.in_ok-node.node =
    node_read c.args.around c.args.text.now known c.args.growing.now.pile.items c.requires.grown.pile c.args.bytes.now
    c.in_ok-node.node c.in_ok-node.rest.now (λ i. omega (arith, c.type_inv.bytes i)) c.in_ok-node.ensures.gives in
    record {
      room = c.requires.room;
      kids = kids_below known (kids_of c.in_ok-node.node) is.ends;
      fresh = fresh_at_end is.ends;
      classes = rw c.requires.grown.classes at is.classes;
      verb_names = rw c.requires.grown.verb_names at is.verb_names;
      numbered = is.numbered;
      named = is.named;
      ordered = is.ordered;
      define = is.define;
      test = is.test;
    }

pub returns-in_err-node-clause-gives : goal.returns-in_err-node-clause-gives
returns-in_err-node-clause-gives c =
    let p = err_from_is_err_and c.from_residual.result c.from_residual.ensures.1 in
    rw (p.1, p.2) (placed_fails c.args.around c.args.text.now c.args.growing.now.draft.nodes
    c.args.growing.now.pile.items c.requires.grown.pile c.args.bytes.now c.in_err-node.field-0.0
    c.in_err-node.ensures.gives)

pub returns-clause-gives : goal.returns-clause-gives
returns-clause-gives c =
    placed_read c.args.around c.args.text.now c.args.growing.now.draft.nodes c.args.growing.now.pile.items
    c.requires.grown.pile c.args.bytes.now c.in_ok-node.node c.in_ok-node.rest.now c.in_ok-node.ensures.gives
    ∙ ap (λ (d : DraftParts). found (d.nodes, c.in_ok-node.rest.now)) (sym c.in_ok-id.ensures.grows)

pub returns-clause-grown : goal.returns-clause-grown
returns-clause-grown c =
    let after : Growing = record { draft = c.add.new.self; groups = c.insert.new.self; pile = c.push.new.self } in
    let p : Placed = record { node = c.in_ok-node.node; at = 0 } in
    grown_more c.args.around c.args.growing.now after p c.in_ok-node.role c.in_ok-id.id c.take_node.new.pile.items
    c.requires.grown c.in_ok-id.ensures.grows (λ n. c.in_ok-insert.ensures n) c.in_ok-id.ensures.number
    c.in_ok-node.ensures.taken c.in_ok-push.ensures.items
