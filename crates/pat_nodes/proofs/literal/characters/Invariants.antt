use Rattle.std.proofs.Common.{◌≡◌, ◌-◌, ◌*◌, ◌≤◌, length}
use Rattle.uni_text.specs.Characters.{IsPlace}
use Rattle.pat_tree.specs.Growing.{loose}
use Rattle.pat_nodes.specs.Nodes.{Adds}
use Rattle.pat_nodes.proofs.Literally.{Reached}
use Rattle.pat_nodes.proofs.literal.characters.Given as goal

abbrev pub invariant-texts : goal.invariant-texts
invariant-texts l = record {
  stand : Reached l.draft.nodes l.options l.text l.kids l.at;
  place : IsPlace l.options.utf l.text l.at;
  loose : loose l.draft.nodes ≡ l.kids;
  adds : Adds l.fn.draft l.draft;
  count : length l.draft.nodes ≤ 2 * l.at;
}

abbrev pub decreases-texts : goal.decreases-texts
decreases-texts l = length l.text - l.at
