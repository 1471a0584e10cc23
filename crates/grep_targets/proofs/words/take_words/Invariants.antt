use Rattle.std.proofs.Common.{◌≡◌, ◌≤◌, ◌++◌, [], length, map, flat_map, string_bytes, IfSome}
use Rattle.grep_targets.specs.Filters.{filter_in}
use Rattle.grep_targets.specs.Targets.{word_targets}
use Rattle.grep_targets.specs.Stands.{AreOfWord}
use Rattle.grep_targets.specs.Walks.{HasCauses}
use Rattle.grep_targets.proofs.Standing.{Leads}
use Rattle.grep_targets.proofs.words.take_words.Given as goal

abbrev pub invariant-word : goal.invariant-word
invariant-word g l = record {
  told : IfSome (g.F.FileSet.tells l.initial.files).contents (λ set.
      l.told ++ flat_map (word_targets (filter_in l.filter) set l.recursive) (map string_bytes l.rest) ≡ flat_map
      (word_targets (filter_in l.filter) set l.recursive) (map string_bytes l.words));
  leads : Leads (AreOfWord l.recursive (filter_in l.filter)) (map string_bytes l.words) (map string_bytes l.rest)
      l.told;
  causes : HasCauses [] l.told (g.F.FileSet.tells l.initial.files).faults (g.F.FileSet.tells l.files).faults;
  same : (g.F.FileSet.tells l.files).contents ≡ (g.F.FileSet.tells l.initial.files).contents;
  later : (g.F.FileSet.tells l.initial.files).faults ≤ (g.F.FileSet.tells l.files).faults;
}

abbrev pub decreases-word : goal.decreases-word
decreases-word g l = length l.rest
