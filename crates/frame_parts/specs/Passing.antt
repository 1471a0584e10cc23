-- Runs of one item, and branches, that are refused at once.
use Rattle.std.specs.Prelude.{◌≡◌, ℕ, ◌+◌, ◌-◌, ◌<◌, ◌≤◌, Bool, true, false, not, List, [], ◌∷◌, All, None}
use Rattle.pat_tree.specs.declared.nodes.AnchorKind.{AnchorKind}
use Rattle.pat_tree.specs.declared.nodes.AnchorKind.TheVariants.{Dollar, SubjectEnd, EndOrNewline}
use Rattle.pat_tree.specs.Rules.{class_in}
use Rattle.match_items.specs.Items.{after_item, holds, place_before}
use Rattle.frame_store.specs.declared.records.Record.{Record}
use Rattle.frame_store.specs.Captures.{Captures}
use Rattle.frame_store.specs.Entry.{Entry, entries}
use Rattle.frame_parts.specs.declared.passing.Need.{Need}
use Rattle.frame_parts.specs.declared.passing.Need.TheVariants.{Takes, Holds}
use Rattle.frame_state.specs.declared.machine.Next.{Next}
use Rattle.frame_state.specs.declared.machine.Next.TheVariants.{Enter, Back}
use Rattle.frame_state.specs.declared.machine.Spot.{Spot}
use Rattle.ordered_search.specs.Moves.{size}
use Rattle.frame_state.specs.Ground.{Ground, tree_of}
use Rattle.frame_state.specs.Machine.{Conf, conf}
use Rattle.frame_state.specs.Frames.{ahead}
use Rattle.frame_state.specs.Validity.{IsValid, Advances}
use Rattle.frame_state.specs.Stops.{IsNumber, tells}

-- the classes of what is needed
abbrev pub needed_classes : Need → List ℕ
needed_classes (Takes item) = class_in item
needed_classes (Holds kind) = []

-- the simple assertion holds at the subject's end and before a newline there alone
abbrev pub is_of_end : AnchorKind → Bool
is_of_end (Dollar multi end_only) = not multi
is_of_end SubjectEnd = true
is_of_end EndOrNewline = true
is_of_end _ = false

-- So many runs, each a byte longer than the next, are passed over, but the least, with a Step for each.
pub record PassesFar (least last : ℕ) (old new : Spot) (to : ℕ) : Type 0 where
  pub runs : ℕ
  pub few : runs ≤ last - least
  pub paid : runs ≤ old.left
  pub ends : to ≡ last - runs
  pub left : new ≡ record old { left = old.left - runs }

module _ (c : Ground) where
  -- What is needed isn't there at the place: the item takes nothing, the simple assertion doesn't hold.
  abbrev pub IsMissing : Need → ℕ → Type 0
  IsMissing (Takes item) place = after_item c.setting.scene item place ≡ None
  IsMissing (Holds kind) place = holds c.setting.scene kind place ≡ false

  -- At this place and those before it but the first, what is needed isn't there, and the character before is a byte.
  pub record AreFar (need : Need) (far : ℕ) : Type 0 where
    pub missing : (p : ℕ) → 0 < p → p ≤ far → IsMissing need p
    pub bytes : (p : ℕ) → 0 < p → p ≤ far → place_before c.setting.scene p ≡ p - 1

  -- The machine is there, or comes there by its turns.
  pub record Reaches (m n : Conf) : Type 0 where
    pub answer : tells c.setting m.spot (ahead c m) ≡ tells c.setting n.spot (ahead c n)
    pub shorter : size (ahead c n) ≤ size (ahead c m)
    pub valid : IsValid c n

  -- Without a Step, the machine goes back to the newest record.
  pub record FallsBack (m : Conf) : Type 0 where
    pub spot : Spot
    pub left : spot.left ≡ m.spot.left
    pub last : spot.last ≡ m.spot.last
    pub turns : Advances c m (conf Back spot m.stack m.caps)

  -- The part is a capturing group, whose number has a register.
  pub record HasNumber (q : ℕ) : Type 0 where
    pub number : ℕ
    pub is : IsNumber (tree_of c q) number
    pub some : 0 < number
    pub few : number ≤ c.setting.groups

  -- Where what is needed isn't there, the part fails.
  pub record BeginsWith (q : ℕ) (need : Need) : Type 0 where
    pub class : All (λ n. n < c.class_count) (needed_classes need)
    pub fails : (spot : Spot) (stack : List Entry) (caps : Captures) → IsValid c (conf (Enter q) spot stack caps) →
        IsMissing need spot.place → Advances c (conf (Enter q) spot stack caps) (conf Back spot stack caps)

  -- The same, after so many units of the part's own.
  pub record Needs (q : ℕ) (need : Need) (units : ℕ) : Type 0 where
    pub class : All (λ n. n < c.class_count) (needed_classes need)
    pub fails : (spot : Spot) (stack : List Entry) (caps : Captures) → IsValid c (conf (Enter q) spot stack caps)
        → spot.units + units ≤ c.setting.matching.frame_limit →
        IsMissing need spot.place → FallsBack (conf (Enter q) spot stack caps)

  -- The part fails at the place.
  pub record FailsAt (q place : ℕ) : Type 0 where
    pub fails : (spot : Spot) (stack : List Entry) (caps : Captures) → spot.place ≡ place
        → IsValid c (conf (Enter q) spot stack caps) →
        Advances c (conf (Enter q) spot stack caps) (conf Back spot stack caps)

  -- What comes next, in the frame at a height, needs this first, after so many further units.
  pub record IsFollower (next : Next) (height : ℕ) (records : List Record) (caps : Captures) (need : Need)
      (units : ℕ) : Type 0 where
    pub class : All (λ n. n < c.class_count) (needed_classes need)
    pub fails : (newest : Record) (spot : Spot) → spot.frame ≡ height
        → IsValid c (conf next spot (entries (newest ∷ records)) caps) →
        spot.units + units ≤ c.setting.matching.frame_limit → IsMissing need spot.place →
        FallsBack (conf next spot (entries (newest ∷ records)) caps)
