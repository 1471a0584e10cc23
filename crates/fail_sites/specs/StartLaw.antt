-- Where the search of a pattern begins.
use Rattle.std.specs.Prelude.{◌≡◌, ℕ, [], ◌∷◌}
use Rattle.match_items.specs.Subjects.{IsTextPlace}
use Rattle.ordered_search.specs.Stream.{Stream}
use Rattle.ordered_search.specs.Setting.{match_limit}
use Rattle.ordered_search.specs.PlaceAnswer.{place_answer, walk}
use Rattle.ordered_search.specs.Plain.{IsPlain}
use Rattle.search_costs.specs.Tasks.{part_key}
use Rattle.fail_sites.specs.Left.{todo}
use Rattle.fail_sites.specs.Graph.{Graph}
use Rattle.fail_sites.specs.SiteLaws.{StandsAt}

-- The first site has the whole pattern left to do.
pub record IsFirst (c : Graph) (v : ℕ) : Type 0 where
  pub left : c.left v ≡ todo (part_key c.setting.whole ∷ [])
  pub plain : IsPlain c.setting.whole

-- A search stands there, and the walk over its stream is the answer at the place.
pub record Starts (c : Graph) (v p : ℕ) : Type 0 where
  pub stream : ℕ → Stream
  pub stands : StandsAt c v (match_limit c.setting) p stream
  pub is : walk c.setting (match_limit c.setting) (stream 0) ≡ place_answer c.setting p

abbrev pub StartLaw : Type 0
StartLaw = (c : Graph) (v p : ℕ) → IsFirst c v → IsTextPlace c.setting.options c.setting.subject p → Starts c v p
