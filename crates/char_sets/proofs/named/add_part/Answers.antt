use Rattle.std.proofs.Common.{◌≡◌, ℕ, ◌||◌, ap, ◌∙◌}
use Rattle.std.specs.List.{list_any}
use Rattle.pat_tree.specs.declared.nodes.SetName.{SetName}
use Rattle.char_sets.specs.Named.{set_in}
use Rattle.char_sets.proofs.PartLemmas.{or_none}
use Rattle.char_sets.proofs.named.add_part.Goals as goal

pub returns-in-Range : goal.returns-in-Range
returns-in-Range c k = rw c.in-Range.is (or_none (list_any (λ set. set_in set k) c.args.sets.now.items))

pub returns-in_ok-add_set-in-Set : goal.returns-in_ok-add_set-in-Set
returns-in_ok-add_set-in-Set c k =
    rw c.in-Set.is
    (c.in_ok-add_set-in-Set.ensures k
    ∙ ap (λ (set : SetName). list_any (λ set. set_in set k) c.args.sets.now.items || set_in
    (record { set = set; reversed = c.in-Set.not; ucp = c.in-Set.ucp }) k) c.in_case.ensures)
