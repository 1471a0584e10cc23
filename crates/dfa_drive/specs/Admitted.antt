-- The ends at one place that the options admit.
use Rattle.std.specs.Prelude.{ℕ, zero, suc, Bool, true, false, ◌&&◌, ◌||◌, not, List, [], ◌∷◌, length, ◌==◌}
use Rattle.std.specs.Prelude.{slice_index_or}
use Rattle.match_items.specs.Scene.{Scene}

-- an end at q of a match that begins at p
abbrev pub admits : Scene → ℕ → ℕ → Bool
admits s p q =
    not ((s.options.endanchored || s.matching.endanchored) && not (q == length s.subject))
    && not ((p == q) && ((s.options.notempty || s.matching.notempty)
    || (s.options.notempty_atstart || s.matching.notempty_atstart) && (p == s.start)))

abbrev pub kept_if : Bool → ℕ → List ℕ → List ℕ
kept_if true q qs = q ∷ qs
kept_if false q qs = qs

-- of the first n ends those that are admitted, the last one first
unfoldable pub admitted_down : Scene → ℕ → List ℕ → ℕ → List ℕ
admitted_down s p qs zero = []
admitted_down s p qs (suc n) =
    kept_if (admits s p (slice_index_or qs n 0)) (slice_index_or qs n 0) (admitted_down s p qs n)
