-- What follows a path, and what a unit more is held for, are the same where they lead to the same.
use Rattle.std.proofs.Common.{◌≡◌, ℕ, ap}
use mathlib.Core.Path.{fun_ext}
use Rattle.ordered_search.specs.Stream.{State, How}
use Rattle.ordered_search.specs.Setting.{Setting}
use Rattle.ordered_search.specs.Moves.{Moves, Follow, holding}

pub follow_same : (k l : Follow) → ((how : How) (s : State) (f : Moves) → k how s f ≡ l how s f) → k ≡ l
follow_same k l e = fun_ext (λ how. fun_ext (λ s. fun_ext (λ f. e how s f)))

pub holding_same : (g : Setting) (n : ℕ) (s : State) (x y : State → Moves) → ((t : State) → x t ≡ y t)
    → holding g n s x ≡ holding g n s y
holding_same g n s x y same = ap (λ (z : State → Moves). holding g n s z) (fun_ext same)
