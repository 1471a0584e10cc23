-- What holds of each state of the machine, and what a turn of its loop does.
use Rattle.std.specs.Prelude.{◌≡◌, ℕ, suc, ◌-◌, ◌<◌, ◌≤◌, ◌==◌, true, false, List, [], ◌∷◌, length, All, Option, Some, None}
use Rattle.pat_tree.specs.Nested as tree
use Rattle.pat_tree.specs.Nested.{Nested}
use Rattle.match_items.specs.Items.{is_none_left, places_back}
use Rattle.pat_lengths.specs.declared.backs.Back.{Back as Lengths}
use Rattle.pat_lengths.specs.Backs.{lengths_back}
use Rattle.frame_store.specs.declared.registers.Span.{Span}
use Rattle.frame_store.specs.Captures.{Captures}
use Rattle.frame_store.specs.Entry.{Kept, Entry, Undo, LaterBranch, GroupOpen, CalledGroup, TurnOpen, TurnOrExit}
use Rattle.frame_store.specs.Entry.{LaterTurn, FewerItems, MoreItems, LookTest, DenialTest, CallOpen, AtomicLeft}
use Rattle.frame_store.specs.Entry.{SkipPassed, LaterTry, Other, entry_site}
use Rattle.frame_state.specs.declared.machine.Next.{Next}
use Rattle.frame_state.specs.declared.machine.Next.TheVariants.{Enter, Branch, Try, Offer, Begin, Fewer, More, End}
use Rattle.frame_state.specs.declared.machine.Next.TheVariants.{Settle, Back, Accept, Act, Leave}
use Rattle.frame_state.specs.declared.machine.Spot.{Spot}
use Rattle.ordered_search.specs.Moves.{size}
use Rattle.ordered_search.specs.Setting.{branch_lengths}
use Rattle.frame_state.specs.Begun.{is_behind, IsFixedPart}
use Rattle.frame_state.specs.Ground.{Ground, tree_of, IsPart}
use Rattle.frame_state.specs.Machine.{less, Around, kept_at, link_of, entry_kept, place_at, row_length, Conf}
use Rattle.frame_state.specs.Frames.{branch_row, around, ahead}
use Rattle.frame_state.specs.Stops.{ActsAt, tells}

-- The records above a frame are its own or stand in frames within it.
abbrev pub IsContained : (frame : ℕ) → List Entry → Type 0
IsContained frame [] = Unit {0}
IsContained frame (r ∷ below) = (frame ≤ length below → frame ≤ link_of r) × IsContained frame below

module _ (c : Ground) where
  -- None of a frame's own records is of a part that stands past this one in the pattern.
  abbrev pub IsLater : (frame part : ℕ) → List Entry → Type 0
  IsLater frame part [] = Unit {0}
  IsLater frame part (r ∷ below) = (link_of r ≡ frame → c.rank (entry_site r).node ≤ c.rank part) × IsLater frame part
      below

  -- What holds where a path stands over a stack, with so many Steps left and at the depth d.
  pub record IsStanding (left frame : ℕ) (kept : Kept) (d : ℕ) (stack : List Entry) : Type 0 where
    pub inside : frame ≤ length stack
    pub deep : left < d
    pub counted : length stack ≤ kept.units
    pub few : kept.units ≤ c.setting.matching.frame_limit
    pub here : c.stands kept.place ≡ true
    pub marked : kept.passed ≤ length stack
    pub contained : IsContained frame stack

  abbrev pub HasBranch : Nested → ℕ → Type 0
  HasBranch t i = (i < row_length (branch_row c t)) × (1 < row_length (branch_row c t))

  -- the branches of a lookbehind are tried at the place of its frame
  abbrev pub HasBranchAt : (part i place : ℕ) → (stack : List Entry) → (frame : ℕ) → Type 0
  HasBranchAt q i place stack frame =
      HasBranch (tree_of c q) i × (is_behind (tree_of c q) ≡ true → place ≡ place_at stack frame)

  -- A branch of a lookbehind whose lengths differ is tried so many characters before a place, where its frame began.
  pub record IsTried (q n place at : ℕ) : Type 0 where
    pub fixed : IsFixedPart c q
    pub own : c.look_branch q ≡ Some q
    pub alone : c.rest q ≡ []
    pub back : Lengths
    pub lengths : branch_lengths c.setting (tree_of c q) ≡ lengths_back back
    pub differ : (back.least == back.most) ≡ false
    pub least : back.least ≤ n
    -- so many characters stand before
    pub room : length (places_back c.setting.scene n place) ≡ suc n
    pub framed : place ≡ at

  abbrev pub IsRepeat : Nested → Type 0
  IsRepeat (tree.repeat body low high lazily) = Unit {0}
  IsRepeat _ = ⊥

  abbrev pub IsCapture : Nested → Type 0
  IsCapture (tree.group (Some n) ts) = Unit {0}
  IsCapture _ = ⊥

  abbrev pub IsMany : Nested → Type 0
  IsMany (tree.one_repeat item low high lazily) = Unit {0}
  IsMany _ = ⊥

  -- a further item may be taken after so many
  abbrev pub HasFurther : Nested → ℕ → Type 0
  HasFurther (tree.one_repeat item low high lazily) count = is_none_left (less count high) ≡ false
  HasFurther _ count = ⊥

  -- the ends of a span stand
  abbrev pub SpanStands : Option Span → Type 0
  SpanStands None = Unit {0}
  SpanStands (Some span) = (c.stands span.from ≡ true) × (c.stands span.to ≡ true)

  abbrev pub AreSpans : Captures → Type 0
  AreSpans caps = All SpanStands caps

  abbrev pub IsCondition : Nested → Type 0
  IsCondition (tree.condition test first second) = Unit {0}
  IsCondition _ = ⊥

  -- What holds of a record's own values.
  abbrev pub Suits : List Entry → Entry → Type 0
  Suits below (LaterBranch at kept next) = HasBranchAt at.node next kept.place below at.link
  Suits below (LaterTry at kept n) = IsTried at.node n kept.place (place_at below at.link)
  Suits below (GroupOpen at kept) = IsCapture (tree_of c at.node)
  Suits below (TurnOpen at kept count) = IsRepeat (tree_of c at.node)
  Suits below (TurnOrExit at kept count) = IsRepeat (tree_of c at.node)
  Suits below (LaterTurn at kept count) = IsRepeat (tree_of c at.node)
  Suits below (FewerItems at kept least last) = (least < last) × (c.stands last ≡ true)
  Suits below (MoreItems at kept count last) = (count ≤ last) × (c.stands last ≡ true) × HasFurther
      (tree_of c at.node) count
  Suits below (LookTest at kept) = IsCondition (tree_of c at.node)
  Suits below (DenialTest at kept) = IsCondition (tree_of c at.node)
  Suits below (CalledGroup at kept) = IsCapture (tree_of c at.node)
  -- no active call began past the last place
  Suits below (CallOpen at kept group last) =
      All (λ (x : ℕ × ℕ). x.1 ≤ last) ((group, kept.place) ∷ (around c below at.link).calls)
  Suits below (AtomicLeft at kept height) = height ≤ length below
  Suits below (SkipPassed at kept height next) = c.stands next ≡ true
  Suits below _ = Unit {0}

  -- the depth at a record, where this is around it
  abbrev pub depth_at : Entry → Around → ℕ
  depth_at (LaterTurn at kept count) a = a.depth - count
  depth_at _ a = a.depth

  -- a record over those below it, with `left` Steps left and so many registers
  abbrev pub IsSound : ℕ → ℕ → List Entry → Entry → Type 0
  IsSound left slots below (Undo at slot old) = (0 < slot) × (slot ≤ slots) × SpanStands old
      × (at.link ≤ length below) × IsPart c at.node × IsContained at.link below
      × IsLater at.link at.node below
  IsSound left slots below (Other at) = (at.link ≤ length below) × IsPart c at.node × IsContained at.link below
      × IsLater at.link at.node below
  IsSound left slots below r =
      IsPart c (entry_site r).node × IsStanding left (link_of r) (entry_kept r)
      (depth_at r (around c below (link_of r))) below × Suits below r
      × IsLater (link_of r) (entry_site r).node below

  abbrev pub AreSound : ℕ → ℕ → List Entry → Type 0
  AreSound left slots [] = Unit {0}
  AreSound left slots (r ∷ below) = IsSound left slots below r × AreSound left slots below

  abbrev pub StandsAt : Spot → List Entry → ℕ → Type 0
  StandsAt spot stack d = IsStanding spot.left spot.frame (kept_at spot) d stack

  abbrev pub IsRunning : Spot → List Entry → Next → Type 0
  IsRunning spot stack (Enter q) =
      IsPart c q × StandsAt spot stack (around c stack spot.frame).depth × IsLater spot.frame q stack
  IsRunning spot stack (Branch q i) =
      IsPart c q × StandsAt spot stack (around c stack spot.frame).depth
      × HasBranchAt q i spot.place stack spot.frame
      × IsLater spot.frame q stack
  IsRunning spot stack (Try q n) =
      IsPart c q × StandsAt spot stack (around c stack spot.frame).depth
      × IsTried q n spot.place (place_at stack spot.frame)
      × IsLater spot.frame q stack
  IsRunning spot stack (Offer q i) =
      IsPart c q × StandsAt spot stack ((around c stack spot.frame).depth - i) × IsRepeat (tree_of c q) × IsLater
      spot.frame q stack
  IsRunning spot stack (Begin q i exits) =
      IsPart c q × StandsAt spot stack ((around c stack spot.frame).depth - i) × IsRepeat (tree_of c q) × IsLater
      spot.frame q stack
  IsRunning spot stack (Fewer q least last) =
      IsPart c q × StandsAt spot stack (around c stack spot.frame).depth × (c.stands last ≡ true) × IsLater spot.frame
      q stack
  IsRunning spot stack (More q count last) =
      IsPart c q × StandsAt spot stack (around c stack spot.frame).depth × (count ≤ last) × (c.stands last ≡ true)
      × IsMany (tree_of c q)
      × IsLater spot.frame q stack
  IsRunning spot stack End = StandsAt spot stack (around c stack spot.frame).depth
  IsRunning spot stack Settle = StandsAt spot stack (around c stack spot.frame).depth
  IsRunning spot stack Back = Unit {0}
  IsRunning spot stack Accept = StandsAt spot stack (around c stack spot.frame).depth
  IsRunning spot stack (Act a) = StandsAt spot stack (around c stack spot.frame).depth × ActsAt c a
  IsRunning spot stack (Leave q) = IsPart c q × StandsAt spot stack (around c stack spot.frame).depth

  pub record IsValid (m : Conf) : Type 0 where
    pub running : IsRunning m.spot m.stack m.next
    pub records : AreSound m.spot.left (length m.caps) m.stack
    pub spans : AreSpans m.caps
    pub slots : length m.caps ≡ c.setting.groups

  -- One turn of the machine's loop: what is told stays, and what is ahead gets shorter.
  pub record Advances (m n : Conf) : Type 0 where
    pub answer : tells c.setting m.spot (ahead c m) ≡ tells c.setting n.spot (ahead c n)
    pub shorter : size (ahead c n) < size (ahead c m)
    pub valid : IsValid n
