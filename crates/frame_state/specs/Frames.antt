-- What a state of the machine stands for: the rest of the search.
use Rattle.std.specs.Prelude.{◌≡◌, ℕ, zero, suc, ◌+◌, ◌-◌, Bool, true, false, List, [], ◌∷◌, drop, length, Option}
use Rattle.std.specs.Prelude.{Some, None, nat_le, nat_lt, nat_eq, if◌then◌else◌, reverse}
use Rattle.pat_tree.specs.declared.nodes.Item.{Item}
use Rattle.pat_tree.specs.Nested as tree
use Rattle.pat_tree.specs.Nested.{Nested, Row, Other}
use Rattle.pat_lengths.specs.Lengths.{SomeLengths}
use Rattle.match_items.specs.Items.{one_less, item_reaches, run_places, place_before, places_back}
use Rattle.frame_store.specs.Captures.{Captures}
use Rattle.frame_store.specs.Entry.{Entry, LaterBranch, GroupOpen, CalledGroup, TurnOpen, TurnOrExit, LaterTurn}
use Rattle.frame_store.specs.Entry.{FewerItems, MoreItems, AtomicOpen, LookOpen, LookAllOpen, LookTest, DenialOpen}
use Rattle.frame_store.specs.Entry.{DenialTest, CallOpen, AtomicLeft, CommitPassed, PrunePassed, SkipPassed}
use Rattle.frame_store.specs.Entry.{ThenPassed, LaterTry, entry_site}
use Rattle.frame_store.specs.Undo.{taken_back}
use Rattle.frame_state.specs.declared.machine.Next.{Next}
use Rattle.frame_state.specs.declared.machine.Next.TheVariants.{Enter, Branch, Try, Offer, Begin, Fewer, More, End}
use Rattle.frame_state.specs.declared.machine.Next.TheVariants.{Settle, Back, Accept, Act, Leave}
use Rattle.frame_state.specs.declared.machine.Spot.{Spot}
use Rattle.ordered_search.specs.Stream.{State, next_branch, prune, skip, commit, reached, accepted}
use Rattle.ordered_search.specs.Setting.{match_limit, branch_lengths}
use Rattle.ordered_search.specs.Parts.{back_to}
use Rattle.ordered_search.specs.Moves.{Moves, pause, exhaust, Follow, Handler, Path, at_end, at_verbs, reaching}
use Rattle.ordered_search.specs.Paths.{close, leave, returned, offer_paths, lazy_paths, turned, turn_path}
use Rattle.ordered_search.specs.Paths.{choice_paths, ends_before, tries_path, behind_path, paths}
use Rattle.frame_state.specs.Ground.{Ground, tree_of, settles, BeginsBy}
use Rattle.frame_state.specs.Machine.{less, Around, state_at, kept_at, link_of, entry_kept, heard, ending_of}
use Rattle.frame_state.specs.Machine.{Outside, place_at, in_row, Conf}

-- inside a frame
abbrev pub frame_around : Entry → Around → Around
frame_around (TurnOpen at kept count) a = record a { depth = a.depth - suc count }
frame_around (TurnOrExit at kept count) a = record a { depth = a.depth - suc count }
frame_around (CallOpen at kept group last) a = record a { depth = a.depth - 1; calls = (group, kept.place) ∷ a.calls }
frame_around _ a = a

-- a frame catches what verbs in it end with
abbrev pub is_catching : Entry → Bool
is_catching (DenialOpen at kept) = true
is_catching (LookTest at kept) = true
is_catching (DenialTest at kept) = true
is_catching (CallOpen at kept group last) = true
is_catching _ = false

-- and a THEN that no branch in it catches
abbrev pub is_catching_then : Entry → Bool
is_catching_then (LookOpen at kept) = true
is_catching_then (LookAllOpen at kept) = true
is_catching_then r = is_catching r

-- What a verb leads to in a frame, a THEN outside its branches, where h is around its parts, and x is left where it
-- fails.
abbrev pub frame_hand : Entry → (ℕ → Handler) → Moves → Handler
frame_hand r h x next_branch = elim (is_catching_then r) [ true ↦ x | false ↦ h (entry_site r).node next_branch ]
frame_hand r h x v = elim (is_catching r) [ true ↦ x | false ↦ h (entry_site r).node v ]

module _ (c : Ground) where
  -- The height at which a branch began in the frame at a height: the frame's records that it has left stand at its
  -- place in the pattern or behind it. `height` is that above which it has left records.
  unfoldable pub began : List Entry → (frame branch height : ℕ) → ℕ
  began [] frame branch height = height
  began (r ∷ below) frame branch height =
      if nat_eq (link_of r) frame
      then (if nat_le (c.rank branch) (c.rank (entry_site r).node) then began below frame branch (length below) else
      height)
      else began below frame branch height

  -- What verbs lead to in a part of the frame at a height, where `to` is left at each height and h is what they lead to
  -- in the frame: a THEN fails the innermost branch.
  abbrev pub hand_in : List Entry → ℕ → (ℕ → Moves) → Handler → ℕ → Handler
  hand_in stack l to h q next_branch = elim (c.branch q) [
    | None ↦ h next_branch
    | Some b ↦
        to (began stack l b (length stack))
  ]
  hand_in stack l to h q v = h v

  -- parts that follow one after the other, and then the frame's end
  unfoldable pub after : ℕ → Outside → List ℕ → Follow
  after d k [] how s f = k.follow how s f
  after d k (q ∷ qs) reached s f = paths c.setting d (tree_of c q) s (after d k qs) f (k.hand q)
  after d k (q ∷ qs) accepted s f = k.follow accepted s f

  -- what is around a part with whose frame a try of a lookbehind's branch ends, or none: a try counts where it ends at
  -- the lookbehind's place
  abbrev pub settle : Bool → ℕ → Follow → Follow
  settle true place k = ends_before place k
  settle false place k = k

  abbrev pub settled : Outside → ℕ → Outside
  settled k q = record k { follow = settle (settles c q) k.place k.follow }

  -- what follows a part
  abbrev pub past : ℕ → Outside → ℕ → Follow
  past d k q = after d (settled k q) (c.rest q)

  abbrev pub enter : ℕ → Outside → ℕ → State → Moves → Moves
  enter d k q s f = paths c.setting d (tree_of c q) s (past d k q) f (k.hand q)

  -- the parts that follow a branch of a group
  abbrev pub branch_rest : Nested → List ℕ → List ℕ
  branch_rest (tree.group None ts) qs = qs
  branch_rest _ qs = []

  -- what follows the branches of a part
  abbrev pub beyond_by : Nested → ℕ → Outside → ℕ → Follow
  beyond_by (tree.group None ts) d k q = past d k q
  beyond_by _ d k q = k.follow

  abbrev pub beyond : ℕ → Outside → ℕ → Follow
  beyond d k q = beyond_by (tree_of c q) d k q

  abbrev pub branch_row : Nested → Row
  branch_row (tree.group n ts) = ts
  branch_row (tree.atomic ts) = ts
  branch_row (tree.look ahead positive once ts) = ts
  branch_row _ = tree.none

  -- a branch of a part; that of a lookbehind begins at an earlier place
  abbrev pub branch_path : Nested → ℕ → Nested → Path
  branch_path (tree.look false positive once ts) d t =
      behind_path c.setting (branch_lengths c.setting t) (paths c.setting d t)
  branch_path _ d t = paths c.setting d t

  -- the branches of a part from one of them on
  abbrev pub branch_from : Nested → ℕ → ℕ → Path
  branch_from t i d s k f h = choice_paths c.setting (drop i (in_row (branch_path t d) (branch_row t))) s k f h

  -- the tries of a branch of a lookbehind of these lengths, from so many characters back down to the least
  abbrev pub tries_from : SomeLengths → ℕ → Path → Path
  tries_from None n p s k f h = f
  tries_from (Some a) n p s k f h =
      tries_path c.setting (reverse (drop a.least (places_back c.setting.scene n s.place))) p s k f h

  -- the tries of a part, which is such a branch
  abbrev pub try_from : ℕ → ℕ → ℕ → Path
  try_from q n d s k f h =
      tries_from (branch_lengths c.setting (tree_of c q)) n (paths c.setting d (tree_of c q)) s k f h

  -- a repeat after i turns
  abbrev pub offer_from : Nested → ℕ → ℕ → Path
  offer_from (tree.repeat body low high lazily) i d s k f h =
      paths c.setting (d - i) (tree.repeat body (low - i) (less i high) lazily) s k f h
  offer_from _ i d s k f h = pause f

  abbrev pub begin_from : Nested → ℕ → ℕ → Path
  begin_from (tree.repeat body low high lazily) i d s k f h =
      turn_path c.setting (paths c.setting (d - suc i)) body (low - i) (less i high) lazily s k f h
  begin_from _ i d s k f h = pause f

  -- the places before one, back to the least; n bounds their number
  unfoldable pub back_from : ℕ → ℕ → ℕ → List ℕ
  back_from zero least last = []
  back_from (suc n) least last =
      if nat_lt least last
      then place_before c.setting.scene last ∷ back_from n least (place_before c.setting.scene last)
      else []

  abbrev pub fewer_places : ℕ → ℕ → List ℕ
  fewer_places least last = back_from last least last

  -- the places after further items, so many at most
  abbrev pub more_places : Item → Option ℕ → ℕ → List ℕ
  more_places item left last = run_places c.setting.scene item (length c.setting.subject) left last

  -- a lazy repeat of one item hands on a place, after so many items
  abbrev pub more_from : Nested → ℕ → ℕ → State → Follow → Moves → Moves
  more_from (tree.one_repeat item low high lazily) count last s k f =
      lazy_paths c.setting item (less count high) (last ∷ more_places item (less count high) last) s k f
  more_from _ count last s k f = pause f

  -- and takes a further item
  abbrev pub further_from : Nested → ℕ → ℕ → State → Follow → Moves → Moves
  further_from (tree.one_repeat item low high lazily) count last s k f =
      reaching c.setting (item_reaches c.setting.scene item last) s
      (lazy_paths c.setting item (one_less (less count high)) (more_places item (less count high) last) s k f)
  further_from _ count last s k f = f

  -- the end of a capturing group
  abbrev pub close_from : Nested → ℕ → Follow → Follow
  close_from (tree.group (Some n) ts) from k how s f = close c.setting n from how s k f
  close_from _ from k how s f = pause f

  -- the end of a turn that began at s after i turns
  abbrev pub turned_from : Nested → ℕ → ℕ → State → Follow → Handler → Follow
  turned_from (tree.repeat body low high lazily) i d s k h how u f =
      turned (paths c.setting (d - suc i)) body (low - i) (less i high) lazily s k h how u f
  turned_from _ i d s k h how u f = pause f

  -- the branch of a condition that is run where its test holds, or not
  abbrev pub other_from : Other → ℕ → Path
  other_from tree.no_other d s k f h = k reached s f
  other_from (tree.other t) d s k f h = paths c.setting d t s k f h

  abbrev pub chosen_from : Nested → Bool → ℕ → Path
  chosen_from (tree.condition test first second) true d s k f h = paths c.setting d first s k f h
  chosen_from (tree.condition test first second) false d s k f h = other_from second d s k f h
  chosen_from _ b d s k f h = pause f

  -- the frame at a height
  unfoldable pub around : List Entry → ℕ → Around
  around [] l = record { depth = match_limit c.setting + 1; calls = []; passed = [] }
  around (r ∷ below) l =
      if nat_eq l (suc (length below)) then frame_around r (around below (link_of r)) else around below l

  -- a path in the frame at a height that passed names up to a height
  abbrev pub around_at : List Entry → ℕ → ℕ → Around
  around_at stack l h = record (around stack l) { passed = heard stack h }

  -- What follows at the end of a frame, where k is around it, `caps` were the registers, and `out` is left below.
  abbrev pub frame_end : Entry → Around → Outside → Captures → Moves → Follow
  frame_end (GroupOpen at kept) a k caps out how s f =
      close_from (tree_of c at.node) kept.place (past a.depth k at.node) how s f
  frame_end (TurnOpen at kept count) a k caps out how s f =
      turned_from (tree_of c at.node) count a.depth (state_at a kept caps) (past a.depth k at.node) (k.hand at.node)
      how s f
  frame_end (TurnOrExit at kept count) a k caps out how s f =
      turned_from (tree_of c at.node) count a.depth (state_at a kept caps) (past a.depth k at.node) (k.hand at.node)
      how s f
  frame_end (AtomicOpen at kept) a k caps out how s f =
      leave c.setting (state_at a kept caps) how s (past a.depth k at.node) out
  frame_end (LookOpen at kept) a k caps out how s f =
      leave c.setting (state_at a kept caps) reached (back_to (state_at a kept caps) s) (past a.depth k at.node) out
  frame_end (LookAllOpen at kept) a k caps out how s f =
      pause (past a.depth k at.node reached (back_to (state_at a kept caps) s) f)
  frame_end (DenialOpen at kept) a k caps out how s f = pause out
  frame_end (LookTest at kept) a k caps out how s f =
      leave c.setting (state_at a kept caps) reached (back_to (state_at a kept caps) s)
      (λ how' u m. chosen_from (tree_of c at.node) true a.depth u (past a.depth k at.node) m (k.hand at.node)) out
  frame_end (DenialTest at kept) a k caps out how s f =
      leave c.setting (state_at a kept caps) reached (back_to (state_at a kept caps) s)
      (λ how' u m. chosen_from (tree_of c at.node) false a.depth u (past a.depth k at.node) m (k.hand at.node)) out
  -- a called group writes its capture, and its call ends, whatever follows the group where it stands
  frame_end (CalledGroup at kept) a k caps out how s f = close_from (tree_of c at.node) kept.place k.follow how s f
  -- `caps` are the captures at the call, which is left by each outcome
  frame_end (CallOpen at kept group last) a k caps out how s f =
      returned c.setting (state_at a kept caps) (past a.depth k at.node) how s f
  frame_end _ a k caps out how s f = pause f

  -- What a record leaves for when the path fails, where k is around it, `out` is left below, and `to` at each height.
  abbrev pub on_fail : Entry → Around → Outside → Captures → Moves → (ℕ → Moves) → Moves
  on_fail (LaterBranch at kept next) a k caps out to =
      branch_from (tree_of c at.node) next a.depth (state_at a kept caps)
      (beyond a.depth k at.node) out (k.hand at.node)
  on_fail (LaterTry at kept n) a k caps out to =
      try_from at.node n a.depth (state_at a kept caps) k.follow out (k.hand at.node)
  on_fail (TurnOrExit at kept count) a k caps out to = past a.depth k at.node reached (state_at a kept caps) out
  on_fail (LaterTurn at kept count) a k caps out to =
      begin_from (tree_of c at.node) count a.depth (state_at a kept caps) (past a.depth k at.node) out (k.hand at.node)
  on_fail (FewerItems at kept least last) a k caps out to =
      offer_paths c.setting (fewer_places least last) (state_at a kept caps) (past a.depth k at.node) out
  on_fail (MoreItems at kept count last) a k caps out to =
      further_from (tree_of c at.node) count last (state_at a kept caps) (past a.depth k at.node) out
  on_fail (DenialOpen at kept) a k caps out to = past a.depth k at.node reached (state_at a kept caps) out
  on_fail (LookTest at kept) a k caps out to =
      chosen_from (tree_of c at.node) false a.depth (state_at a kept caps) (past a.depth k at.node) out (k.hand at.node)
  on_fail (DenialTest at kept) a k caps out to =
      chosen_from (tree_of c at.node) true a.depth (state_at a kept caps) (past a.depth k at.node) out (k.hand at.node)
  on_fail (AtomicLeft at kept height) a k caps out to = to height
  on_fail (CommitPassed at kept height) a k caps out to = pause (k.hand at.node commit)
  on_fail (PrunePassed at kept height) a k caps out to = pause (k.hand at.node prune)
  on_fail (ThenPassed at kept) a k caps out to = pause (k.hand at.node next_branch)
  on_fail (SkipPassed at kept zero next) a k caps out to = pause (k.hand at.node (skip next))
  -- its name was not passed
  on_fail (SkipPassed at kept (suc n) next) a k caps out to = pause out
  on_fail _ a k caps out to = out

  unfoldable mutual
    -- what follows at the end of the frame at a height
    pub cont : List Entry → Captures → ℕ → Follow
    cont [] caps l how s f = at_end how s f
    cont (r ∷ below) caps l how s f =
        if nat_eq l (suc (length below))
        then frame_end r (around_at below (link_of r) (entry_kept r).passed)
        (record {
          follow = cont below (taken_back r caps) (link_of r);
          place = place_at below (link_of r);
          hand = hand_in below (link_of r) (fail_to below (taken_back r caps))
              (caught below (taken_back r caps) (link_of r));
        })
        (taken_back r caps) (fail below (taken_back r caps)) how s f
        else cont below (taken_back r caps) l how s f

    -- what is left for when the path fails
    pub fail : List Entry → Captures → Moves
    fail [] caps = exhaust
    fail (r ∷ below) caps =
        pause
        (on_fail r (around_at below (link_of r) (entry_kept r).passed)
        (record {
          follow = cont below (taken_back r caps) (link_of r);
          place = place_at below (link_of r);
          hand = hand_in below (link_of r) (fail_to below (taken_back r caps))
              (caught below (taken_back r caps) (link_of r));
        })
        (taken_back r caps) (fail below (taken_back r caps)) (fail_to below (taken_back r caps)))

    -- what a verb leads to in the frame at a height, a THEN outside its branches
    pub caught : List Entry → Captures → ℕ → Handler
    caught [] caps l v = at_verbs v
    caught (r ∷ below) caps l v =
        if nat_eq l (suc (length below))
        then frame_hand r (hand_in below (link_of r) (fail_to below (taken_back r caps))
        (caught below (taken_back r caps) (link_of r)))
        (pause
        (on_fail r (around_at below (link_of r) (entry_kept r).passed)
        (record {
          follow = cont below (taken_back r caps) (link_of r);
          place = place_at below (link_of r);
          hand = hand_in below (link_of r) (fail_to below (taken_back r caps))
              (caught below (taken_back r caps) (link_of r));
        })
        (taken_back r caps) (fail below (taken_back r caps)) (fail_to below (taken_back r caps))))
        v
        else caught below (taken_back r caps) l v

    -- what is left at a height
    pub fail_to : List Entry → Captures → ℕ → Moves
    fail_to [] caps h = exhaust
    fail_to (r ∷ below) caps h =
        if nat_eq h (suc (length below))
        then pause
        (on_fail r (around_at below (link_of r) (entry_kept r).passed)
        (record {
          follow = cont below (taken_back r caps) (link_of r);
          place = place_at below (link_of r);
          hand = hand_in below (link_of r) (fail_to below (taken_back r caps))
              (caught below (taken_back r caps) (link_of r));
        })
        (taken_back r caps) (fail below (taken_back r caps)) (fail_to below (taken_back r caps)))
        else fail_to below (taken_back r caps) h

  -- what the verbs in a part lead to, in the frame at a height
  abbrev pub hand : List Entry → Captures → ℕ → ℕ → Handler
  hand stack caps l = hand_in stack l (fail_to stack caps) (caught stack caps l)

  -- what is around the parts of the frame at a height
  abbrev pub outside : List Entry → Captures → ℕ → Outside
  outside stack caps l =
      record { follow = cont stack caps l; place = place_at stack l; hand = hand stack caps l }

  abbrev pub focus : Next → ℕ → Outside → State → Moves → Moves
  focus (Enter q) d k s f = enter d k q s f
  focus (Branch q i) d k s f =
      branch_from (tree_of c q) i d s (beyond d k q) f (k.hand q)
  focus (Try q n) d k s f = try_from q n d s k.follow f (k.hand q)
  focus (Offer q i) d k s f = offer_from (tree_of c q) i d s (past d k q) f (k.hand q)
  focus (Begin q i exits) d k s f =
      begin_from (tree_of c q) i d s (past d k q) (if exits then past d k q reached s f else f) (k.hand q)
  focus (Fewer q least last) d k s f =
      offer_paths c.setting (last ∷ fewer_places least last) s (past d k q) f
  focus (More q count last) d k s f = more_from (tree_of c q) count last s (past d k q) f
  focus End d k s f = k.follow reached s f
  focus Settle d k s f = ends_before k.place k.follow reached s f
  focus Back d k s f = f
  focus Accept d k s f = k.follow accepted s f
  focus (Act a) d k s f = pause (k.hand 0 (ending_of a))
  focus (Leave q) d k s f = pause (k.hand q next_branch)

  -- What is around two paths agrees for the parts of which the branches around them began by the part q.
  pub record Agrees (q : ℕ) (k other : Outside) : Type 0 where
    pub follow : k.follow ≡ other.follow
    pub place : k.place ≡ other.place
    pub hand : (p : ℕ) → BeginsBy c q p → k.hand p ≡ other.hand p

  -- the parts of which the verbs are told where the machine goes
  abbrev pub parts_of : Next → List ℕ
  parts_of (Enter p) = p ∷ c.rest p
  parts_of (Branch p i) = p ∷ c.rest p
  parts_of (Try p n) = p ∷ []
  parts_of (Offer p i) = p ∷ c.rest p
  parts_of (Begin p i exits) = p ∷ c.rest p
  parts_of (Fewer p least last) = p ∷ c.rest p
  parts_of (More p count last) = p ∷ c.rest p
  parts_of (Act a) = 0 ∷ []
  parts_of (Leave p) = p ∷ []
  parts_of _ = []

  abbrev pub spot_state : Spot → List Entry → Captures → State
  spot_state spot stack caps = state_at (around_at stack spot.frame spot.passed) (kept_at spot) caps

  -- the rest of the search
  abbrev pub ahead : Conf → Moves
  ahead m =
      focus m.next (around m.stack m.spot.frame).depth (outside m.stack m.caps m.spot.frame)
      (spot_state m.spot m.stack m.caps) (fail m.stack m.caps)
