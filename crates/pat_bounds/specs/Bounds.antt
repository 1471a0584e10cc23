-- How many Steps and states a search of a part of a pattern gives at most, and how many units its paths hold beside
-- those that they began with (docs/SPEED.md, "A text that every match needs").
use Rattle.std.specs.Prelude.{ℕ, zero, suc, ◌+◌, ◌-◌, ◌*◌, ◌^◌, ◌==◌, ◌&&◌, ◌||◌, nat_le, nat_lt, not, max, Bool, true, false}
use Rattle.std.specs.Prelude.{if◌then◌else◌, Option, Some, None}
use Rattle.pat_tree.specs.declared.nodes.Item.{Item}
use Rattle.pat_tree.specs.declared.nodes.Item.TheVariants.{Char, Class}
use Rattle.pat_tree.specs.Nested.{Nested, Row, empty, one, line_break, seq, group, repeat, one_repeat, atomic, look}
use Rattle.pat_tree.specs.Nested.{condition, call, ref, anchor, keep_out, verb, callout, none, more}
use Rattle.pat_bounds.specs.declared.bounds.Growth.{Growth}
use Rattle.pat_bounds.specs.declared.bounds.Bound.{Bound}

-- its value at n, which is one more than the length of a subject
abbrev pub at : Growth → ℕ → ℕ
at a n = a.times * n ^ a.degree

abbrev pub steady : ℕ → Growth
steady k = record { times = k; degree = 0 }

-- one more than the length
abbrev pub line : Growth
line = record { times = 1; degree = 1 }

abbrev pub plus : Growth → Growth → Growth
plus a b = record { times = a.times + b.times; degree = max a.degree b.degree }

abbrev pub product : Growth → Growth → Growth
product a b = record { times = a.times * b.times; degree = a.degree + b.degree }

-- a part that takes no Step and is left once at most, and one that is never left
abbrev pub once : Bound
once = record { steps = steady 0; states = steady 1; units = steady 0 }

abbrev pub never : Bound
never = record { steps = steady 0; states = steady 0; units = steady 0 }

-- a repeat of an item offers so many places
abbrev pub offered : Growth → Bound
offered a = record { steps = a; states = a; units = steady 1 }

-- so many places, of which no more than one goes on
abbrev pub left_once : Growth → Bound
left_once a = record { steps = a; states = steady 1; units = steady 1 }

-- as many as are between the minimum and the maximum, or else as there are places
abbrev pub turns : ℕ → Option ℕ → Growth
turns low None = line
turns low (Some high) = steady (high + 1 - low)

-- b begins anew at each state of a
abbrev pub followed : Bound → Bound → Bound
followed a b = record {
  steps = plus a.steps (product a.states b.steps);
  states = product a.states b.states;
  units = plus a.units b.units;
}

-- a branch, and those behind it
abbrev pub or_later : Bound → Bound → Bound
or_later a b = record {
  steps = plus (steady 1) (plus a.steps b.steps);
  states = plus a.states b.states;
  units = plus (steady 1) (plus a.units b.units);
}

-- the greater of two
abbrev pub greater : Growth → Growth → Growth
greater a b = record { times = max a.times b.times; degree = max a.degree b.degree }

-- a branch that is left only where none of those behind it is, and they only where it isn't
abbrev pub or_apart : Bound → Bound → Bound
or_apart a b = record {
  steps = (or_later a b).steps;
  states = greater a.states b.states;
  units = (or_later a b).units;
}

abbrev pub or_so : Bool → Bound → Bound → Bound
or_so true = or_apart
or_so false = or_later

-- left once at most, with two units more
abbrev pub closed : Bound → Bound
closed a = record { steps = a.steps; states = steady 1; units = plus (steady 2) a.units }

-- a capturing group has a number
abbrev pub grouped : Option ℕ → Bound → Bound
grouped None a = a
grouped (Some n) a = record a { units = plus (steady 2) a.units }

-- A group is gone into so many times at most: up to the minimum, and then as often as there are
-- places, since a turn that takes nothing is the last.
abbrev pub group_turns : ℕ → Option ℕ → Growth
group_turns low None = plus (steady (low - 1)) line
group_turns low (Some high) = steady (max low high)

-- it is left after each of these turns from the minimum on
abbrev pub group_ends : ℕ → Option ℕ → Growth
group_ends low None = plus (steady (1 - low)) line
group_ends low (Some high) = steady (max low high + 1 - low)

-- so many turns of a, each with a Step and a unit of its own
abbrev pub in_turns : ℕ → Option ℕ → Bound → Bound
in_turns low high a = record {
  steps = product (group_turns low high) (plus (steady 1) a.steps);
  states = group_ends low high;
  units = product (group_turns low high) (plus (steady 1) a.units);
}

abbrev pub is_left_once : Bound → Bool
is_left_once a = nat_le a.states.times 1 && (a.states.degree == 0)

-- a turn of a, with a Step and a unit of its own
abbrev pub one_turn : Bound → Bound
one_turn a = record { steps = plus (steady 1) a.steps; states = a.states; units = plus (steady 1) a.units }

-- the same, and it may be left before
abbrev pub or_left : Bound → Bound
or_left a = record a { states = plus (steady 1) a.states }

-- So many turns of a at most: each begins anew at each state of the one before.
abbrev pub few_turns : ℕ → Bound → Bound
few_turns zero a = once
few_turns (suc n) a = or_left (followed (one_turn a) (few_turns n a))

-- turns that branch multiply, so without a maximum there is no bound
abbrev pub branching : ℕ → Option ℕ → Bound → Option Bound
branching low None a = None
branching low (Some high) a = Some (few_turns (max low high) a)

-- a repeat of a group
abbrev pub repeated : ℕ → Option ℕ → Option Bound → Option Bound
repeated low high None = None
repeated low high (Some a) = if is_left_once a then Some (in_turns low high a) else branching low high a

-- Where both are known.
abbrev pub both : (Bound → Bound → Bound) → Option Bound → Option Bound → Option Bound
both f (Some a) (Some b) = Some (f a b)
both f _ _ = None

abbrev pub change : (Bound → Bound) → Option Bound → Option Bound
change f None = None
change f (Some a) = Some (f a)

-- the character with which these parts begin, in its case alone
abbrev pub next_char : Row → Option ℕ
next_char (more (one (Char c false)) ts) = Some c
next_char _ = None

-- the item with which a part begins, where it begins with one
abbrev pub item_of : Nested → Option Item
item_of (one item) = Some item
item_of _ = None

abbrev pub item_ahead : Row → Option Item
item_ahead none = None
item_ahead (more t ts) = item_of t

abbrev pub first_item : Nested → Option Item
first_item (seq ts) = item_ahead ts
first_item t = item_of t

-- By the characters that each class takes.
module _ (has : ℕ → ℕ → Bool) where
  -- the item is known not to take the character
  abbrev pub lacks : Item → ℕ → Bool
  lacks (Class n) c = nat_lt c 256 && not (has n c)
  lacks (Char d false) c = not (d == c)
  lacks _ c = false

  abbrev pub is_apart : Item → Row → Bool
  is_apart item ts = elim (next_char ts) [ None ↦ false | Some c ↦ lacks item c ]

  -- One of two items is a character below 256 that the other doesn't take. With others there could
  -- be so many branches apart that to look at each two of them would take long.

  abbrev pub lacks_item : Item → Item → Bool
  lacks_item item (Char c false) = nat_lt c 256 && lacks item c
  lacks_item item _ = false

  abbrev pub are_apart : Item → Item → Bool
  are_apart a b = lacks_item a b || lacks_item b a

  abbrev pub begins_apart : Item → Option Item → Bool
  begins_apart item None = false
  begins_apart item (Some next) = are_apart item next

  abbrev pub all_begin_apart : Item → Row → Bool
  all_begin_apart item none = true
  all_begin_apart item (more t ts) = begins_apart item (first_item t) && all_begin_apart item ts

  -- none of the branches goes on where one that begins so does
  abbrev pub is_alone : Option Item → Row → Bool
  is_alone None ts = false
  is_alone (Some item) ts = all_begin_apart item ts

  -- A repeat of an item goes on from the end of its longest run alone, where what follows is apart from the item.
  abbrev pub bound_before : Nested → Row → Option Bound → Option Bound
  bound_before (one_repeat item low high lazily) ts b =
      if is_apart item ts then Some (left_once (turns low high)) else b
  bound_before t ts b = b

  -- Without lookbehinds, conditions, calls, verbs and callouts.
  unfoldable mutual
    pub bound : Nested → Option Bound
    bound empty = Some once
    bound (one item) = Some once
    bound line_break = Some once
    bound (seq ts) = bound_in_turn ts
    bound (group number ts) = change (grouped number) (bound_of_one ts)
    bound (repeat t low high lazily) = repeated low high (bound t)
    bound (one_repeat item low high lazily) = Some (offered (turns low high))
    bound (atomic ts) = change closed (bound_of_one ts)
    bound (look true positive true ts) = change closed (bound_of_one ts)
    bound (look true positive false ts) = None
    bound (look false positive _ ts) = None
    bound (condition test first second) = None
    bound (call n) = None
    bound (ref ns caseless) = Some once
    bound (anchor kind) = Some once
    bound keep_out = Some once
    bound (verb v) = None
    bound (callout c) = None

    pub bound_in_turn : Row → Option Bound
    bound_in_turn none = Some once
    bound_in_turn (more t ts) = both followed (bound_before t ts (bound t)) (bound_in_turn ts)

    -- of two branches or more each takes a Step, and a unit while a later one is left; where one
    -- begins with a character that the later ones don't begin with, it goes on or they do
    pub bound_of_one : Row → Option Bound
    bound_of_one none = Some never
    bound_of_one (more t none) = bound t
    bound_of_one (more t (more u ts)) =
        both (or_so (is_alone (first_item t) (more u ts))) (bound t)
        (both (or_so (is_alone (first_item u) ts)) (bound u) (bound_of_choices ts))

    pub bound_of_choices : Row → Option Bound
    bound_of_choices none = Some never
    bound_of_choices (more t ts) =
        both (or_so (is_alone (first_item t) ts)) (bound t) (bound_of_choices ts)
