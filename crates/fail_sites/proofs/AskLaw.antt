-- What failed once fails again.
use Rattle.std.proofs.Common.{◌≡◌, ◌∙◌, ◌<◌, ◌≤◌, ℕ, List, refl, sym, ap, subst, arith}
use Rattle.match_items.specs.Subjects.{IsTextPlace}
use Rattle.ordered_search.specs.Stream.{State, exhausted, Stream, Search, ◌or_else◌}
use Rattle.ordered_search.specs.Setting.{Setting}
use Rattle.ordered_search.specs.PlaceAnswer.{walk}
use Rattle.search_costs.specs.Tasks.{Task, onward, Key}
use Rattle.search_costs.specs.Costs.{steps, Cost, IsWhole, IsAt, IsKnown}
use Rattle.search_costs.proofs.CostLaw.{fails_again}
use Rattle.search_costs.proofs.CountLaw.{count_law}
use Rattle.fail_sites.specs.Left.{Left, todo}
use Rattle.fail_sites.specs.Graph.{Graph, IsGraph, Fits, AsksOf, of_tasks}
use Rattle.fail_sites.specs.Stands.{AreOfKeys, IsSearchOf, of_todo, standing, Stands, IsFailure}
use Rattle.fail_sites.specs.SiteLaws.{IsKnownThere, AskLaw}
use Rattle.fail_sites.specs.declared.op.Op.TheVariants as op
use Rattle.fail_sites.proofs.Leading.{keys_are, all_plain, all_begun, all_deep}

module _ (g : Setting) (whole : IsWhole g) (p : ℕ) where
  visits : {n : ℕ} {left : List Task} {ks : List Key} (s : State) (u : ℕ) → IsTextPlace g.options g.subject p
      → AreOfKeys n p left ks → IsAt g p ks left (standing p u s)
  visits s u here hs = record {
    visit = record { here = here; plain = all_plain hs; begun = all_begun hs };
    place = refl;
    keys = keys_are (standing p u s) refl hs;
  }

  known_of : {m : ℕ} {ks : List Key} {f : Search} (cost : Cost) (s : State) → IsTextPlace g.options g.subject p
      → IsSearchOf g m p (todo ks) f → f (standing p cost.most s) ≡ steps cost.steps exhausted → IsKnown g p ks cost
  known_of cost s here (of_todo {left = left} hs) e = record {
    left = left;
    state = standing p 0 s;
    at = visits s 0 here hs;
    fails = e;
  }

  there : {n : ℕ} {ks : List Key} {f : Search} (cost : Cost) (s : State) (u : ℕ) (x : ℕ → Stream)
      → IsTextPlace g.options g.subject p → IsSearchOf g n p (todo ks) f → x u ≡ f (standing p u s)
      → IsKnown g p ks cost → u ≤ cost.most → IsKnownThere g n cost x u
  there {n = n} cost s u x here (of_todo {left = left} hs) e known room = record {
    fails = λ few. e ∙ fails_again g whole (visits s u here hs) n few (all_deep hs) known room;
    passes = λ y out.
        ap (λ z. walk g n (z or_else y)) e
        ∙ (count_law g p _ cost left (standing p u s) n y whole known (visits s u here hs) (all_deep hs)).steps_out room
        out;
  }

  pub known_there : {l : Left} (n u : ℕ) (x : ℕ → Stream) (cost : Cost) → AsksOf l → Stands g l n p x
      → IsFailure g l p cost → u ≤ cost.most → IsKnownThere g n cost x u
  known_there n u x cost of_tasks at failed room =
      there cost at.state u x at.here at.of (at.is u)
      (known_of cost failed.stands.state failed.stands.here failed.stands.of
      (sym (failed.stands.is cost.most) ∙ failed.fails)) room

pub ask_law : AskLaw
ask_law c v w n p u x cost is within e at failed room =
    let fits : Fits c v (op.Ask w) = subst (Fits c v) e (is.fits v within) in
    known_there c.setting is.whole p n u x cost fits.1 at failed room
