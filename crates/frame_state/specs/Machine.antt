-- A state of the machine.
use Rattle.std.specs.Prelude.{ℕ, zero, suc, ◌-◌, Bool, true, false, List, [], ◌∷◌, length, Option, Some, None, option_map, nat_eq}
use Rattle.std.specs.Prelude.{if◌then◌else◌}
use Rattle.pat_tree.specs.Nested as tree
use Rattle.pat_tree.specs.Nested.{Nested, Row}
use Rattle.frame_store.specs.declared.registers.Span.{Span}
use Rattle.frame_store.specs.Captures.{Captures, capture}
use Rattle.frame_store.specs.Entry.{Kept, Entry, Undo, LaterBranch, GroupOpen, CalledGroup, TurnOpen, TurnOrExit}
use Rattle.frame_store.specs.Entry.{LaterTurn, FewerItems, MoreItems, AtomicOpen, LookOpen, LookAllOpen, LookTest}
use Rattle.frame_store.specs.Entry.{DenialOpen, DenialTest, CallOpen, AtomicLeft, MarkPassed, CommitPassed}
use Rattle.frame_store.specs.Entry.{PrunePassed, SkipPassed, ThenPassed, LaterTry, Other, entry_site}
use Rattle.frame_state.specs.declared.machine.Next.{Next}
use Rattle.frame_state.specs.declared.machine.Next.TheVariants.{Enter, Branch, End, Settle, Back}
use Rattle.frame_state.specs.declared.machine.Spot.{Spot}
use Rattle.frame_state.specs.declared.machine.Acting.{Acting}
use Rattle.frame_state.specs.declared.machine.Acting.TheVariants as acting
use Rattle.ordered_search.specs.Stream.{State, VerbEnding, prune, skip, commit}
use Rattle.frame_state.specs.Ground.{Ground, next_of, settles}
use Rattle.ordered_search.specs.Moves.{Follow, Handler, Path}

-- a maximum after so many more
abbrev pub less : ℕ → Option ℕ → Option ℕ
less i = option_map (λ n. n - i)

abbrev pub mark_of : ℕ → Option ℕ
mark_of zero = None
mark_of (suc n) = Some n

-- what a path has around it: the depth, the active calls, and the names that SKIP looks for
pub record Around : Type 0 where
  pub depth : ℕ
  pub calls : List (ℕ × ℕ)
  pub passed : List (ℕ × ℕ)

abbrev pub state_at : Around → Kept → Captures → State
state_at a kept caps = record {
  place = kept.place;
  caps = caps;
  mark = mark_of kept.mark;
  passed = a.passed;
  keep = kept.keep;
  calls = a.calls;
  early = kept.early;
  units = kept.units;
}

abbrev pub kept_at : Spot → Kept
kept_at spot =
    record {
      units = spot.units;
      place = spot.place;
      mark = spot.mark;
      passed = spot.passed;
      keep = spot.keep;
      early = spot.early;
    }

-- what a verb ends the search with
abbrev pub ending_of : Acting → VerbEnding
ending_of acting.Prune = prune
ending_of (acting.Skip p) = skip p
ending_of acting.Commit = commit

abbrev pub link_of : Entry → ℕ
link_of e = (entry_site e).link

-- the path that a record keeps; an undo record keeps none
abbrev pub nothing_kept : Kept
nothing_kept = record { units = 0; place = 0; mark = 0; passed = 0; keep = 0; early = 0 }

abbrev pub entry_kept : Entry → Kept
entry_kept (Undo at slot old) = nothing_kept
entry_kept (LaterBranch at kept next) = kept
entry_kept (GroupOpen at kept) = kept
entry_kept (CalledGroup at kept) = kept
entry_kept (TurnOpen at kept count) = kept
entry_kept (TurnOrExit at kept count) = kept
entry_kept (LaterTurn at kept count) = kept
entry_kept (FewerItems at kept least last) = kept
entry_kept (MoreItems at kept count last) = kept
entry_kept (AtomicOpen at kept) = kept
entry_kept (LookOpen at kept) = kept
entry_kept (LookAllOpen at kept) = kept
entry_kept (LookTest at kept) = kept
entry_kept (DenialOpen at kept) = kept
entry_kept (DenialTest at kept) = kept
entry_kept (CallOpen at kept group last) = kept
entry_kept (AtomicLeft at kept height) = kept
entry_kept (MarkPassed at kept) = kept
entry_kept (CommitPassed at kept height) = kept
entry_kept (PrunePassed at kept height) = kept
entry_kept (SkipPassed at kept height next) = kept
entry_kept (ThenPassed at kept) = kept
entry_kept (LaterTry at kept left) = kept
entry_kept (Other at) = nothing_kept

-- a name that was passed, (name, place); no other record tells of names
abbrev pub heard_by : Entry → List (ℕ × ℕ) → List (ℕ × ℕ)
heard_by (MarkPassed at kept) names = (kept.mark - 1, kept.place) ∷ names
heard_by _ names = []

-- the names that were passed up to the record at a height, the last one first
unfoldable pub heard : List Entry → ℕ → List (ℕ × ℕ)
heard [] h = []
heard (r ∷ below) h =
    if nat_eq h (suc (length below)) then heard_by r (heard below (entry_kept r).passed) else heard below h

-- where the frame at a height began; 0 outside all frames
unfoldable pub place_at : List Entry → ℕ → ℕ
place_at [] l = 0
place_at (r ∷ below) l = if nat_eq l (suc (length below)) then (entry_kept r).place else place_at below l

-- what is around a part: what follows at the end of its frame, where the frame began, and what the verbs in each part
-- of the frame lead to
pub record Outside : Type 0 where
  pub follow : Follow
  pub place : ℕ
  pub hand : ℕ → Handler

-- the trees of a row under a function
abbrev pub in_row : (Nested → Path) → Row → List Path
in_row f tree.none = []
in_row f (tree.more t ts) = f t ∷ in_row f ts

abbrev pub row_length : Row → ℕ
row_length tree.none = 0
row_length (tree.more t ts) = suc (row_length ts)

-- a state of the machine
pub record Conf : Type 0 where
  pub next : Next
  pub spot : Spot
  pub stack : List Entry
  pub caps : Captures

abbrev pub conf : Next → Spot → List Entry → Captures → Conf
conf next spot stack caps = record { next = next; spot = spot; stack = stack; caps = caps }

-- the first set group of the list
abbrev pub first_set : Captures → List ℕ → Option Span
first_set caps [] = None
first_set caps (n ∷ ns) = elim (capture caps n) [ None ↦ first_set caps ns | Some span ↦ Some span ]

-- where a group begins
abbrev pub first_next : ℕ → List ℕ → Next
first_next q [] = Back
first_next q (p ∷ []) = Enter p
first_next q (p ∷ p' ∷ ps) = Branch q 0

-- where the machine goes on
abbrev pub towards : Option ℕ → Bool → Next
towards (Some q) ends_try = Enter q
towards None true = Settle
towards None false = End

-- after a part
abbrev pub onward : Ground → ℕ → Next
onward c q = towards (next_of c q) (settles c q)
