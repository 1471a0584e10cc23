use Rattle.std.proofs.Common.{◌≡◌, ◌-◌, length}
use Rattle.pat_save.specs.Reading.{gathered}
use Rattle.pat_save.specs.Grown.{IsGrown}
use Rattle.pat_save.specs.ReadImage.{nodes_at}
use Rattle.pat_save.specs.ReadNodes.{placed_after}
use Rattle.pat_save.proofs.reading.take_nodes.Given as goal

abbrev pub invariant-loop : goal.invariant-loop
invariant-loop l = record {
  so_far : gathered (placed_after l.around l.text) (l.count - l.counter) l.growing.draft.nodes l.rest
      ≡ nodes_at l.around l.text l.bytes;
  grown : IsGrown l.around l.growing;
  others : l.growing.draft ≡ record l.initial.growing.draft { nodes = l.growing.draft.nodes };
  many : length l.growing.draft.nodes ≡ l.counter;
}
