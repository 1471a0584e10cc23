use Rattle.std.proofs.Common.{length, sym, ◌∙◌, arith}
use Rattle.pat_check.specs.Size.{whole_size}
use Rattle.dfa_graph.specs.Building.{tree_of}
use Rattle.dfa_graph.proofs.Having.{not_refused, size_is}
use Rattle.dfa_graph.proofs.Shallow.{shallow_has}
use Rattle.dfa_paths.proofs.Behind.{always_same}
use Rattle.dfa_graph.proofs.making.Graph.build.Goals as goal

pub returns-in-Some-clause-graph : goal.returns-in-Some-clause-graph
returns-in-Some-clause-graph c = record {
  states = rw c.in-Some.is at c.in_ok-nodes.ensures.some;
  always = always_same (tree_of c.args.tree.now.nodes c.args.tree.now.root) c.args.facts.now.dfa
      _ _ _ c.args.tree.now.options.match_unset_backref c.requires.dfa c.in-Yes.is
      c.requires.lookbehind c.requires.empty c.counts_always.ensures;
}

pub returns-in-Some-clause-served : goal.returns-in-Some-clause-served
returns-in-Some-clause-served c =
    not_refused (length c.args.tree.now.classes) c.in-Some.nodes.items
    (tree_of c.args.tree.now.nodes c.args.tree.now.root) c.args.facts.now.dfa c.args.facts.now.size
    (rw c.in-Some.is at c.in_ok-nodes.ensures.some) c.requires.dfa c.in-Yes.is c.requires.size
    (omega (arith, c.if-facts-gt-MOST_NODES.false))

pub returns-in-None-clause-large : goal.returns-in-None-clause-large
returns-in-None-clause-large c = λ is shallow.
    let t = tree_of c.args.tree.now.nodes c.args.tree.now.root in
    let yes = sym c.requires.dfa ∙ c.in-Yes.is in
    let small = size_is (whole_size t) c.args.facts.now.size c.requires.size
    (omega (arith, c.if-facts-gt-MOST_NODES.false)) in
    let built = shallow_has c.args.tree.now.nodes c.args.tree.now.root 512 shallow yes in
    absurd (c.in_ok-nodes.ensures.none small built c.in-None.is)
