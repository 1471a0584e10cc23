-- The subject's end is reached (pcre2partial, "Partial matching in PCRE2").
use Rattle.std.specs.Prelude.{◌≡◌, ◌≤◌, ℕ, Bool, true, false, ◌&&◌, ◌||◌, not, take, length, Option, Some, None, nat_lt}
use Rattle.pat_tree.specs.declared.nodes.AnchorKind.{AnchorKind}
use Rattle.pat_tree.specs.declared.nodes.Item.{Item}
use Rattle.pat_tree.specs.Nested as tree
use Rattle.pat_tree.specs.Nested.{Nested}
use Rattle.match_items.specs.Items.{item_reaches, longest_run, run_reaches, ref_reaches, holds, anchor_reaches}
use Rattle.match_items.specs.Items.{earliest}
use Rattle.frame_store.specs.declared.records.Record.{Record}
use Rattle.frame_store.specs.declared.registers.Span.{Span}
use Rattle.ordered_search.specs.Stream.{State}
use Rattle.ordered_search.specs.Setting.{Setting, has_lookbehind, can_be_empty}
use Rattle.ordered_search.specs.Places.{is_off}
use Rattle.ordered_search.specs.PlaceAnswer.{Partial, answers}
use Rattle.ordered_search.specs.Moves.{Moves, reaching, tread, size}
use Rattle.frame_state.specs.declared.machine.Next.{Next}
use Rattle.frame_state.specs.declared.machine.Met.{Met}
use Rattle.frame_state.specs.declared.machine.Spot.{Spot}
use Rattle.frame_state.specs.declared.machine.Stop.{Stop}
use Rattle.frame_state.specs.declared.machine.Stop.TheVariants as stop
use Rattle.frame_state.specs.Ground.{Ground, tree_of}
use Rattle.frame_state.specs.Stops.{told, moved_next, moved_spot, held_next, held_early, more_next, IsFurther}

-- partial matches are looked for
abbrev pub asks : Setting → Bool
asks g = not (is_off g.matching.«partial»)

-- reaching the end counts on a path whose earliest place is this
abbrev pub counts_from : Setting → ℕ → Bool
counts_from g early = nat_lt early (length g.subject) || has_lookbehind g || can_be_empty g

module _ (c : Ground) where
  -- A path has noted that it reached the end, if it did: what it tells from there on stays.
  pub record IsNoted (b : Bool) (early : ℕ) (old new : Met) : Type 0 where
    pub answer : (left : ℕ) (s : State) (x : Moves) → s.early ≡ early →
        told old (tread c.setting left (reaching c.setting b s x)) ≡ told new (tread c.setting left x)
    pub longer : (s : State) (x : Moves) → s.early ≡ early → size x ≤ size (reaching c.setting b s x)

  -- the match ends there
  abbrev pub IsHardStop : Bool → ℕ → Met → Met → Stop → Type 0
  IsHardStop b early old new stop.Partial =
      (left : ℕ) (s : State) (x : Moves) → s.early ≡ early →
      told old (tread c.setting left (reaching c.setting b s x)) ≡ told new (answers Partial)
  IsHardStop b early old new _ = ⊥

  -- where a path goes on after a test, which led to this place
  pub record IsTested (q : ℕ) (b : Bool) (to : Option ℕ) (old : Spot) (next : Next) (new : Spot) : Type 0 where
    pub met : Met
    pub noted : IsNoted b old.early old.last met
    pub goes : next ≡ moved_next c q to
    pub moves : new ≡ moved_spot (record old { last = met }) to

  -- and after a simple assertion
  pub record IsAnchored (q : ℕ) (kind : AnchorKind) (old : Spot) (next : Next) (new : Spot) : Type 0 where
    pub met : Met
    pub noted : IsNoted (asks c.setting && anchor_reaches c.setting.scene kind old.place)
        (earliest c.setting.scene kind old.place old.early) old.last met
    pub goes : next ≡ held_next c q (holds c.setting.scene kind old.place)
    pub moves : new ≡ held_early c kind (record old { last = met }) (holds c.setting.scene kind old.place)

  -- and after the tests of a repeat
  pub record IsLed (b : Bool) (to : Next) (old : Spot) (next : Next) (new : Spot) : Type 0 where
    pub met : Met
    pub noted : IsNoted b old.early old.last met
    pub goes : next ≡ to
    pub moves : new ≡ record old { last = met }

  -- a reference whose first set group has captured this reaches the end
  abbrev pub referred_reaches : ℕ → Option Span → Bool → Bool
  referred_reaches place None caseless = false
  referred_reaches place (Some span) caseless = ref_reaches c.setting.scene span.from span.to caseless place

  -- a test of a repeat of one item does, up to its longest run, or where it is lazy up to its minimum
  abbrev pub many_reaches : Item → ℕ → Option ℕ → Bool → ℕ → Bool
  many_reaches item low high true place =
      run_reaches c.setting.scene item (Some low) place (take low (longest_run c.setting.scene item high place))
  many_reaches item low high false place =
      run_reaches c.setting.scene item high place (longest_run c.setting.scene item high place)

  -- the test of a further item of a repeat does
  abbrev pub further_reaches : Nested → ℕ → Bool
  further_reaches (tree.one_repeat item low high lazily) at = item_reaches c.setting.scene item at
  further_reaches _ at = false

  -- where a path goes on after a further item, if it is taken
  pub record IsFurtherTaken (r : Record) (old : Spot) (next : Next) (new : Spot) : Type 0 where
    pub met : Met
    pub to : Option ℕ
    pub noted : IsNoted (asks c.setting && further_reaches (tree_of c r.node) r.to) old.early old.last met
    pub takes : IsFurther c (tree_of c r.node) r.to to
    pub goes : next ≡ more_next r to
    pub moves : new ≡ record old { last = met }

  abbrev pub IsFurtherStop : Record → Spot → Met → Stop → Type 0
  IsFurtherStop r old new s = IsHardStop (asks c.setting && further_reaches (tree_of c r.node) r.to) old.early
      old.last new s
