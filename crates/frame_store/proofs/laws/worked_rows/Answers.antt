use Rattle.std.proofs.Common.{refl}
use Rattle.frame_store.specs.Entry.{entry_in}
use Rattle.frame_store.specs.Undo.{undone}
use Rattle.frame_store.proofs.laws.worked_rows.Goals as goal

pub returns : goal.returns
unfolding entry_in undone
returns c = record {
  set_kept = refl;
  unset_kept = refl;
  turn = refl;
  unknown = refl;
  newest_taken = refl;
  all_taken = refl;
  none_taken = refl;
  oldest_kept = refl;
}
