use Rattle.node_flow.proofs.TreeLaws.{parts_come_first, parts_stand_once, parts_stand_together}
use Rattle.node_flow.proofs.InTurn.{children_stand_in_turn}
use Rattle.node_flow.proofs.laws.parts_stand_in_order.Goals as goal

pub returns : goal.returns
returns c = record {
  first = parts_come_first;
  once = parts_stand_once;
  together = parts_stand_together;
  in_turn = children_stand_in_turn;
}
