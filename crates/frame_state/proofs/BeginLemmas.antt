-- How a branch of a lookbehind begins, by its lengths and the characters before a place.
use Rattle.std.proofs.Common.{◌≡◌, ◌≢◌, ◌∙◌, ℕ, ◌+◌, ◌-◌, ◌<◌, ◌≤◌, Bool, true, false, Some, None, length}
use Rattle.std.proofs.Common.{option_map, ap}
use Rattle.std.proofs.Common.{arith}
use Rattle.std.specs.Prelude.{◌==◌, nat_lt, if◌then◌else◌}
use Rattle.std.proofs.lemmas.Bool.{eq-eqb, ne_eqb, lt-ltb, le-ltb}
use Rattle.match_items.specs.Items.{places_back}
use Rattle.pat_lengths.specs.Backs.{lengths_back}
use Rattle.pat_lengths.specs.declared.backs.Back.{Back}
use Rattle.ordered_search.specs.Setting.{branch_lengths}
use Rattle.frame_state.specs.Behind.{place_back}
use Rattle.frame_state.specs.Begun.{placed, tried, begun_within, begun_by, begun_place}
use Rattle.frame_state.specs.Ground.{Ground, tree_of}

module _ (c : Ground) (p place : ℕ) (b : Back)
    (lengths : branch_lengths c.setting (tree_of c p) ≡ lengths_back b) where
  within : (same : Bool) → (b.least == b.most) ≡ same
      → begun_place c p place ≡ begun_within c same b.least b.most place
  within same e = ap (λ x. begun_by c x place) lengths ∙ ap (λ x. begun_within c x b.least b.most place) e

  -- of one length
  pub begun_once : b.least ≡ b.most → begun_place c p place ≡ option_map placed
      (place_back c.setting.scene b.most place)
  begun_once e = within true (eq-eqb b.least b.most e)

  -- where they differ, by how many characters stand before
  module _ (differ : b.least ≢ b.most) (room : ℕ)
      (before : room + 1 ≡ length (places_back c.setting.scene b.most place)) where
    same_room : length (places_back c.setting.scene b.most place) - 1 ≡ room
    same_room = omega (arith, before)

    pub begun_none : room < b.least → begun_place c p place ≡ None
    begun_none few =
        within false (ne_eqb b.least b.most differ)
        ∙ ap (λ n. if nat_lt n b.least then None else Some (tried n)) same_room
        ∙ ap (λ x. if x then None else Some (tried room)) (lt-ltb room b.least few)

    pub begun_tried : b.least ≤ room → begun_place c p place ≡ Some (tried room)
    begun_tried enough =
        within false (ne_eqb b.least b.most differ)
        ∙ ap (λ n. if nat_lt n b.least then None else Some (tried n)) same_room
        ∙ ap (λ x. if x then None else Some (tried room)) (le-ltb room b.least enough)
