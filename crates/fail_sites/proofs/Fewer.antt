-- With fewer Steps left.
use Rattle.std.proofs.Common.{◌≤◌, ℕ, arith}
use Rattle.ordered_search.specs.Stream.{Stream, Search}
use Rattle.ordered_search.specs.Setting.{Setting}
use Rattle.fail_sites.specs.Left.{Left}
use Rattle.fail_sites.specs.Stands.{IsSearchOf, of_todo, of_choosing, of_turn, Stands}
use Rattle.fail_sites.proofs.Leading.{fewer_of}

module _ (g : Setting) (n m p : ℕ) (few : m ≤ n) where
  search_fewer : {l : Left} {f : Search} → IsSearchOf g n p l f → IsSearchOf g m p l f
  search_fewer (of_todo hs) = of_todo (fewer_of n m p few hs)
  search_fewer (of_choosing deep plain plains hs) =
      of_choosing (omega (arith, few, deep)) plain plains (fewer_of n m p few hs)
  search_fewer (of_turn deep plain hs) = of_turn (omega (arith, few, deep)) plain (fewer_of n m p few hs)

  pub stands_fewer : {l : Left} {x : ℕ → Stream} → Stands g l n p x → Stands g l m p x
  stands_fewer at = record {
    here = at.here;
    search = at.search;
    state = at.state;
    of = search_fewer at.of;
    is = at.is;
  }
