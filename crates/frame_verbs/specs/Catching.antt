-- Which frame catches what verbs end with, and which branch a THEN fails.
use Rattle.std.specs.Prelude.{◌≤◌, ℕ, suc, true, false, List, [], ◌∷◌, length, nat_eq, Option, Some, None}
use Rattle.std.specs.Prelude.{option_map, if◌then◌else◌}
use Rattle.frame_store.specs.Entry.{Entry, entry_site}
use Rattle.frame_state.specs.Machine.{link_of}
use Rattle.frame_state.specs.Frames.{began, is_catching, is_catching_then}
use Rattle.frame_state.specs.Ground.{Ground, IsPart}
use Rattle.frame_state.specs.Validity.{IsContained}

-- the innermost one, from the frame at a height outwards, or 0
unfoldable pub catcher : List Entry → ℕ → ℕ
catcher [] l = 0
catcher (r ∷ below) l =
    if nat_eq l (suc (length below)) then elim (is_catching r) [ true ↦ l | false ↦ catcher below (link_of r) ] else
    catcher below l

-- THEN.

-- the part of each record is one of the pattern's, and each stands in a frame below it
abbrev pub AreSoundParts : Ground → List Entry → Type 0
AreSoundParts c [] = Unit {0}
AreSoundParts c (r ∷ below) = IsPart c (entry_site r).node × (link_of r ≤ length below) × IsContained (link_of r)
    below × AreSoundParts c below

-- The height down to which a THEN in a part gives up what was done, in the frame at a height: where the innermost
-- branch around the part began, or the innermost frame that catches it; none where nothing does.
unfoldable pub left_height : Ground → List Entry → ℕ → ℕ → Option ℕ
left_height c [] l q = option_map (λ b. 0) (c.branch q)
left_height c (r ∷ below) l q = elim (c.branch q) [
  | Some b ↦ Some (began c (r ∷ below) l b (length (r ∷ below)))
  | None ↦
      if nat_eq l (suc (length below))
      then elim (is_catching_then r) [ true ↦ Some l | false ↦ left_height c below (link_of r) (entry_site r).node ]
      else left_height c below l q
]
