use Rattle.frame_store.proofs.UndoLemmas.{undone-trail, undone-append, undone-filter, undone-plain, length-undone}
use Rattle.frame_store.proofs.laws.undo_laws.Goals as goal

pub returns : goal.returns
returns c = record {
  trail = undone-trail;
  appended = undone-append;
  filtered = undone-filter;
  plain = undone-plain;
  lengths = length-undone;
}
