use Rattle.std.proofs.Common.{◌≡◌, ◌≤◌, length, max}
use Rattle.pcre_io.specs.declared.callouts.Block.{Block}
use Rattle.frame_store.specs.Entry.{entries}
use Rattle.frame_store.specs.Stack.{room}
use Rattle.ordered_search.specs.PlaceAnswer.{place_answer}
use Rattle.ordered_search.specs.Moves.{size}
use Rattle.frame_state.specs.Machine.{conf}
use Rattle.frame_state.specs.Frames.{ahead}
use Rattle.frame_state.specs.Over.{in_all}
use Rattle.frame_state.specs.Stops.{none_met, told, tells}
use Rattle.frame_state.specs.Validity.{IsValid}
use Rattle.frame_machine.proofs.run.run.Given as goal

abbrev pub invariant-turns : goal.invariant-turns
invariant-turns g l = record {
  answer : in_all (g.C.Callouts.seen l.fn.calls)
      (told none_met (place_answer (g.S.Searchable.searched l.on).setting l.place))
      ≡ in_all (g.C.Callouts.seen l.calls)
      (tells (g.S.Searchable.searched l.on).setting l.spot
      (ahead (g.S.Searchable.searched l.on) (conf l.next l.spot (entries l.store.records) l.registers)));
  valid : IsValid (g.S.Searchable.searched l.on) (conf l.next l.spot (entries l.store.records) l.registers);
  rule : (block : Block) → g.C.Callouts.answers l.calls block ≡ g.C.Callouts.answers l.fn.calls block;
  bank : length l.bank ≡ (g.S.Searchable.searched l.on).setting.groups;
  no_less : room l.fn.store ≤ room l.store;
  peak : l.store.peak ≤ max l.fn.store.peak (g.S.Searchable.searched l.on).setting.matching.frame_limit;
}

abbrev pub decreases-turns : goal.decreases-turns
decreases-turns g l =
    size (ahead (g.S.Searchable.searched l.on) (conf l.next l.spot (entries l.store.records) l.registers))
