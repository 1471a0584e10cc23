-- What the machine does over the callouts that it calls.
use Rattle.std.specs.Prelude.{◌≡◌, ◌<◌, ℕ, ℤ, Bool, not, List, [], map, Option}
use Rattle.pcre_io.specs.declared.callouts.Block.{Block}
use Rattle.frame_store.specs.Captures.{Captures}
use Rattle.frame_store.specs.Entry.{Entry}
use Rattle.ordered_search.specs.Moves.{Moves, size}
use Rattle.ordered_search.specs.Paths.{branch_paths, tested_path}
use Rattle.frame_state.specs.declared.machine.Next.{Next}
use Rattle.frame_state.specs.declared.machine.Spot.{Spot}
use Rattle.frame_state.specs.declared.machine.Stop.{Stop}
use Rattle.frame_state.specs.Ground.{Ground, tree_of}
use Rattle.frame_state.specs.Machine.{Conf}
use Rattle.frame_state.specs.Frames.{around, outside, spot_state, past, fail, hand, branch_path, chosen_from, ahead}
use Rattle.frame_state.specs.Shown.{seen_after, IsFollowed}
use Rattle.frame_state.specs.Stops.{Told, tells, IsStop, IsEnd, held_next}
use Rattle.frame_state.specs.Validity.{IsValid}

-- how the path goes on after a callout's answer
pub record IsCalloutNext (c : Ground) (q : ℕ) (answer : ℤ) (next : Next) : Type 0 where
  pub goes : Bool
  pub followed : IsFollowed answer goes
  pub is : next ≡ held_next c q goes

-- what is told in all, where these blocks were shown before
abbrev pub in_all : Option (List Block) → Told → Told × Option (List Block)
in_all seen t = (record t { blocks = [] }, seen_after seen t.blocks)

-- The machine stops so, where these blocks were shown: what is told in all is what was told up to here, and then this.
pub record IsStopOver (stop : Stop) (spot : Spot) (caps : Captures) (shown : Option (List Block))
    (all : Told × Option (List Block)) : Type 0 where
  pub left : Told
  pub whole : all ≡ in_all shown left
  pub is : IsStop stop spot caps left

pub record IsEndOver (c : Ground) (stop : Stop) (spot : Spot) (caps : Captures) (shown : Option (List Block))
    (all : Told × Option (List Block)) : Type 0 where
  pub left : Told
  pub whole : all ≡ in_all shown left
  pub is : IsEnd c stop spot caps left

module _ (c : Ground) where
  -- One turn of the machine's loop, where these blocks were shown before it and after it.
  pub record AdvancesOver (old new : Option (List Block)) (m n : Conf) : Type 0 where
    pub answer : in_all old (tells c.setting m.spot (ahead c m)) ≡ in_all new (tells c.setting n.spot (ahead c n))
    pub shorter : size (ahead c n) < size (ahead c m)
    pub valid : IsValid c n

  -- what is ahead of a condition whose test is this lookaround, with these branches
  abbrev pub tested_ahead : ℕ → ℕ → Bool → List ℕ → Spot → List Entry → Captures → Moves
  tested_ahead q p positive ks spot stack caps =
      let d : ℕ = (around c stack spot.frame).depth in
      tested_path c.setting (branch_paths c.setting (map (λ r. branch_path c (tree_of c p) d (tree_of c r)) ks))
      (chosen_from c (tree_of c q) positive d) (chosen_from c (tree_of c q) (not positive) d)
      (spot_state c spot stack caps) (past c d (outside c stack caps spot.frame) q) (fail c stack caps)
      (hand c stack caps spot.frame q)

  -- a turn that goes on with what is ahead of a path
  pub record GoesBy (spot : Spot) (x : Moves) (n : Conf) : Type 0 where
    pub answer : tells c.setting spot x ≡ tells c.setting n.spot (ahead c n)
    pub shorter : size (ahead c n) < size x
    pub valid : IsValid c n
