use Rattle.std.proofs.Common.{◌≡◌, ℕ, ◌+◌, ◌*◌, length, arith, refl, None, [], suc}
use Rattle.std.proofs.lemmas.List.Elements.{All-nil}
use Rattle.pat_tree.specs.Refs.{refs}
use Rattle.pat_tree.specs.Growing.{loose, loose_after}
use Rattle.pat_tree.proofs.Growing.{stand_none}
use Rattle.pat_grammar.specs.Groups.{places_named}
use Rattle.pat_nodes.specs.Nodes.{references_of}
use Rattle.pat_grammar.specs.Reading.{state_from}
use Rattle.pat_build.specs.Machine.{IsGiven}
use Rattle.pat_build.proofs.Steps.{begins}
use Rattle.pat_build.proofs.Numbers.{numbers_none}
use Rattle.pat_build.proofs.machine.Machine.new.Goals as goal

pub returns-clause-means : goal.returns-clause-means
unfolding references_of refs places_named loose loose_after
returns-clause-means c =
    let n : ℕ = 2 * length c.args.text.now + 1 in
    let e : 2 * length c.args.text.now + 2 ≡ suc n = omega arith in
    rw (c.new.ensures, c.new-2.ensures, c.new-3.ensures) (record {
      opens = [];
      layer = record { n = n; k = n; branches = []; parts = [] };
      waiting = None;
      stack = rw c.new-4.ensures.items tt;
      level = record { branches = stand_none []; parts = stand_none []; n = omega arith; k = omega arith };
      pending = refl;
      barred = rw c.new-4.ensures.items refl;
      tested = tt;
      value = rw c.new-4.ensures.items (begins (record { names = c.args.known.now; calling = c.args.calling })
          c.args.text.now (state_from c.args.start c.args.options) n e);
      within = c.requires.within;
      short = c.requires.short;
      depth = rw c.new-4.ensures.items (omega arith);
      classes = omega arith;
      named = rw c.new-4.ensures.items (All-nil (IsGiven 0));
      names = omega arith;
      verb_names = omega arith;
      refs_are = refl;
      turns = tt;
      loose_is = rw c.new-4.ensures.items refl;
      numbers = rw c.new-4.ensures.items numbers_none;
    })
