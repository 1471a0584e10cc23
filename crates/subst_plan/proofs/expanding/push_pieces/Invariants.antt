use Rattle.std.proofs.Common.{◌≡◌, ◌≤◌, drop}
use Rattle.subst_plan.specs.Expansion.{after, expanded_from, beginning}
use Rattle.subst_plan.proofs.expanding.push_pieces.Given as goal

abbrev pub invariant-loop-piece : goal.invariant-loop-piece
invariant-loop-piece g l =
    let m = g.G.Groups.means l.groups in
    record {
      so_far : after l.out.items (expanded_from l.rules m l.text l.state (drop l.piece-index l.pieces)) ≡ after
          l.initial.out.items (expanded_from l.rules m l.text beginning l.pieces);
      few : l.state.left_out ≤ l.piece-index;
    }
