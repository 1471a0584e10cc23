-- With what the machine stops, and where it goes.
use Rattle.std.specs.Prelude.{◌≡◌, ◌≤◌, ℕ, ◌+◌, ◌-◌, if◌then◌else◌, Bool, true, false, not, ◌&&◌, ◌||◌, ◌==◌, nat_le}
use Rattle.std.specs.Prelude.{nat_lt, length, List, [], ◌∷◌, Option, Some, None}
use Rattle.pat_tree.specs.declared.nodes.Item.{Item}
use Rattle.pat_tree.specs.declared.nodes.AnchorKind.{AnchorKind}
use Rattle.pat_tree.specs.Nested as tree
use Rattle.pat_tree.specs.Nested.{Nested}
use Rattle.match_items.specs.Items.{after_item, after_ref, longest_run, earliest}
use Rattle.frame_store.specs.declared.records.Record.{Record}
use Rattle.frame_store.specs.declared.registers.Span.{Span}
use Rattle.frame_store.specs.Captures.{Captures}
use Rattle.frame_store.specs.Entry.{Site, Kept, Entry, TurnOpen, TurnOrExit}
use Rattle.frame_state.specs.declared.machine.Next.{Next}
use Rattle.frame_state.specs.declared.machine.Next.TheVariants.{Enter, Fewer, More, Back}
use Rattle.frame_state.specs.declared.machine.Acting.{Acting}
use Rattle.frame_state.specs.declared.machine.Acting.TheVariants as acting
use Rattle.frame_state.specs.declared.machine.Met.{Met}
use Rattle.frame_state.specs.declared.machine.Spot.{Spot}
use Rattle.frame_state.specs.declared.machine.Stop.{Stop}
use Rattle.frame_state.specs.declared.machine.Stop.TheVariants as stop
use Rattle.ordered_search.specs.Setting.{Setting, notempty, notempty_atstart, endanchored}
use Rattle.std.specs.Option.{option_or}
use Rattle.ordered_search.specs.Stream.{Block}
use Rattle.ordered_search.specs.Moves.{Moves, tread}
use Rattle.ordered_search.specs.PlaceAnswer.{Walked, PlaceAnswer, Failed, Exhausted, Partial, Matched, MatchLimit}
use Rattle.ordered_search.specs.PlaceAnswer.{FrameLimit, Loop, answers, Outcome, Abort, last_name, has_hit, blocks}
use Rattle.ordered_search.specs.PlaceAnswer.{at_verb}
use Rattle.frame_state.specs.Ground.{Ground}
use Rattle.match_items.specs.Views.{end_of}
use Rattle.frame_state.specs.Machine.{mark_of, kept_at, ending_of, less, onward}

-- what a match gives
abbrev pub spot_outcome : Spot → Captures → Outcome
spot_outcome spot caps = record { keep = spot.keep; to = spot.place; mark = mark_of spot.mark; caps = caps }

-- An answer, the last name that was met up to it, whether the subject's end was reached, and the callouts.
pub record Told : Type 0 where
  pub answer : PlaceAnswer
  pub last : Option ℕ
  pub hit : Bool
  -- the callouts
  pub blocks : List Block

-- what a walk tells, before which this was met
unfoldable pub told : Met → Walked → Told
told met w = record {
  answer = w.answer;
  last = option_or (last_name w.notes) (mark_of met.name);
  hit = has_hit w.notes || met.hit;
  blocks = blocks w.notes;
}

abbrev pub none_met : Met
none_met = record { name = 0; hit = false }

-- what is told of what is ahead of a path
abbrev pub tells : Setting → Spot → Moves → Told
tells g spot x = told spot.last (tread g spot.left x)

-- an answer of a path, after which nothing is told
abbrev pub told_at : Spot → PlaceAnswer → Told
told_at spot a = told spot.last (answers a)

-- what the search tells where the machine stops so; want of memory may come at any time
abbrev pub IsStop : Stop → Spot → Captures → Told → Type 0
IsStop stop.Match spot caps t = t ≡ told_at spot (Matched (spot_outcome spot caps))
IsStop stop.NoMatch spot caps t = t ≡ told_at spot (Failed Exhausted)
IsStop stop.Partial spot caps t = t ≡ told_at spot Partial
IsStop (stop.Verb a) spot caps t = ⊥
IsStop stop.MatchLimit spot caps t = t ≡ told_at spot MatchLimit
IsStop stop.FrameLimit spot caps t = t ≡ told_at spot FrameLimit
IsStop stop.Loop spot caps t = t ≡ told_at spot Loop
IsStop (stop.Abort n) spot caps t = t ≡ told_at spot (Abort n)
IsStop stop.Memory spot caps t = Unit {0}

-- where a verb has the search go on stands
abbrev pub ActsAt : Ground → Acting → Type 0
ActsAt c (acting.Skip p) = c.stands p ≡ true
ActsAt c _ = Unit {0}

-- the same where a verb may have ended the search of the place
abbrev pub IsEnd : Ground → Stop → Spot → Captures → Told → Type 0
IsEnd c (stop.Verb a) spot caps t = (t ≡ told_at spot (Failed (at_verb (ending_of a)))) × ActsAt c a
IsEnd c s spot caps t = IsStop s spot caps t

-- a turn that began at one place after so many took nothing, and no further turn is owed or bounded
abbrev pub took_nothing : ℕ → Option ℕ → ℕ → ℕ → ℕ → Bool
took_nothing low None count from to = nat_le (low - count) 1 && (from == to)
took_nothing low (Some n) count from to = false

-- the path as a record kept it
abbrev pub restored : Spot → Site → Kept → Spot
restored spot site kept = record {
  place = kept.place;
  keep = kept.keep;
  early = kept.early;
  units = kept.units;
  mark = kept.mark;
  passed = kept.passed;
  frame = site.link;
  left = spot.left;
  last = spot.last;
}

-- with one more unit
abbrev pub held_spot : Spot → Spot
held_spot spot = record spot { units = spot.units + 1 }

-- why no unit more is held
abbrev pub IsHeldStop : Stop → ℕ → ℕ → Type 0
IsHeldStop stop.FrameLimit limit units = limit ≤ units
IsHeldStop stop.Memory limit units = Unit {0}
IsHeldStop _ limit units = ⊥

-- a record of an event at a part
abbrev pub record_at : Spot → ℕ → ℕ → ℕ → ℕ → ℕ → Record
record_at spot kind node count from to = record {
  kind = kind;
  slot = 0;
  node = node;
  link = spot.frame;
  mark = spot.mark;
  passed = spot.passed;
  units = spot.units;
  count = count;
  place = spot.place;
  keep = spot.keep;
  early = spot.early;
  from = from;
  to = to;
}

-- where a reference leads, whose first set group has captured this
abbrev pub referred : Ground → ℕ → Option Span → Bool → Option ℕ
referred c place None caseless = if c.setting.options.match_unset_backref then Some place else None
referred c place (Some span) caseless = after_ref c.setting.scene span.from span.to caseless place

-- where a simple assertion leads that holds or not
abbrev pub held_next : Ground → ℕ → Bool → Next
held_next c q true = onward c q
held_next c q false = Back

abbrev pub held_early : Ground → AnchorKind → Spot → Bool → Spot
held_early c kind spot true = record spot { early = earliest c.setting.scene kind spot.place spot.early }
held_early c kind spot false = spot

-- where a sequence begins
abbrev pub part_next : Ground → ℕ → List ℕ → Next
part_next c q [] = onward c q
part_next c q (p ∷ ps) = Enter p

-- where a repeat of one item leads
abbrev pub many_next : Ground → ℕ → Item → ℕ → Option ℕ → Bool → ℕ → Next
many_next c q item low high lazily place =
    let least : ℕ = end_of place (longest_run c.setting.scene item (Some low) place) in
    if nat_lt (length (longest_run c.setting.scene item (Some low) place)) low then Back
    else if lazily then More q low least
    else Fewer q least (end_of least (longest_run c.setting.scene item (less low high) least))

-- the maximum of a repeat of one item
abbrev pub IsMost : Nested → Option ℕ → Type 0
IsMost (tree.one_repeat item low high lazily) most = high ≡ most
IsMost _ most = ⊥

-- what a repeat of one item takes at a place
abbrev pub IsFurther : Ground → Nested → ℕ → Option ℕ → Type 0
IsFurther c (tree.one_repeat item low high lazily) at to = to ≡ after_item c.setting.scene item at
IsFurther c _ at to = ⊥

-- where a lazy repeat of one item leads that takes a further item, if it does
abbrev pub more_next : Record → Option ℕ → Next
more_next r None = Back
more_next r (Some p) = More r.node (r.count + 1) p

-- the number of a capturing group
abbrev pub IsNumber : Nested → ℕ → Type 0
IsNumber (tree.group (Some n) ts) number = n ≡ number
IsNumber _ number = ⊥

-- an outcome from one place to another is refused (pcre2api, "Option bits for pcre2_match()")
abbrev pub refused_as_empty : Setting → ℕ → ℕ → Bool
refused_as_empty g keep place = (keep == place) && (notempty g || notempty_atstart g && (keep == g.start))

abbrev pub refused_by_end : Setting → ℕ → Bool
refused_by_end g place = endanchored g && not (place == length g.subject)

-- and else admitted
abbrev pub admitted : Setting → ℕ → ℕ → Bool
admitted g keep place = not (refused_as_empty g keep place) && not (refused_by_end g place)

-- what a turn leaves
abbrev pub turn_entry : Spot → ℕ → ℕ → Bool → Entry
turn_entry spot q count true = TurnOrExit (record { node = q; link = spot.frame }) (kept_at spot) count
turn_entry spot q count false = TurnOpen (record { node = q; link = spot.frame }) (kept_at spot) count

abbrev pub moved_next : Ground → ℕ → Option ℕ → Next
moved_next c q None = Back
moved_next c q (Some p) = onward c q

abbrev pub moved_spot : Spot → Option ℕ → Spot
moved_spot spot None = spot
moved_spot spot (Some p) = record spot { place = p }
