-- Where the search of a pattern begins.
use Rattle.std.proofs.Common.{◌≡◌, ◌∙◌, ℕ, ◌+◌, [], ◌∷◌, arith, refl, sym, ap, subst}
use Rattle.ordered_search.specs.Stream.{first_state, gives, reached}
use Rattle.ordered_search.specs.Setting.{match_limit}
use Rattle.ordered_search.specs.PlaceAnswer.{walk}
use Rattle.ordered_search.specs.Parts.{in_order}
use Rattle.ordered_search.specs.Run.{run}
use Rattle.search_costs.specs.Tasks.{part, part_key, task_search, onward}
use Rattle.fail_sites.specs.Left.{Left, todo}
use Rattle.fail_sites.specs.Stands.{no_task, and_task, of_part, of_todo, standing, Stands}
use Rattle.fail_sites.specs.StartLaw.{StartLaw}
use Rattle.fail_sites.proofs.Streams.{then_gives}

pub start_law : StartLaw
unfolding in_order task_search
start_law c v p first here =
    let g = c.setting in
    let left = part (match_limit g + 1) g.whole ∷ [] in
    record {
      stream = λ u. onward g left (standing p u (first_state g.groups p));
      stands = subst (λ (l : Left). Stands g l (match_limit g) p (λ u. onward g left (standing p u
          (first_state g.groups p))))
          (sym first.left)
          (record {
            here = here;
            search = onward g left;
            state = first_state g.groups p;
            of = of_todo (and_task (of_part (omega arith) first.plain) no_task);
            is = λ u. refl;
          });
      is = ap (walk g (match_limit g)) (then_gives (run g (match_limit g + 1) g.whole (first_state g.groups p)));
    }
