-- Conditions.
use Rattle.std.specs.Prelude.{◌≡◌, ℕ, Bool, true, false, All, List, Option}
use Rattle.pat_tree.specs.declared.nodes.Cond.TheVariants as cond
use Rattle.pat_tree.specs.declared.nodes.Node.TheVariants as node
use Rattle.frame_store.specs.declared.kinds.TheConstants.{KIND_LOOK_TEST, KIND_DENIAL_TEST}
use Rattle.frame_store.specs.Entry.{Site, Kept, Entry, LookTest, DenialTest}
use Rattle.frame_state.specs.declared.machine.Next.{Next}
use Rattle.frame_state.specs.declared.machine.Next.TheVariants.{End}
use Rattle.frame_state.specs.declared.machine.Spot.{Spot}
use Rattle.ordered_search.specs.Stream.{State}
use Rattle.ordered_search.specs.Moves.{Moves}
use Rattle.frame_state.specs.Ground.{Ground, tree_of, BeginsBy, IsNode, IsPart}
use Rattle.frame_state.specs.Machine.{Outside}
use Rattle.frame_state.specs.Frames.{past, chosen_from, focus, parts_of}
use Rattle.frame_state.specs.Validity.{IsLater, IsRunning}

-- where a condition goes on whose test holds, or not
pub record IsChoice (c : Ground) (q : ℕ) (holds : Bool) (next : Next) : Type 0 where
  pub goes : (d : ℕ) (k : Outside) (s : State) (f : Moves) → ((p : ℕ) → c.branch p ≡ c.branch q → k.hand p ≡ k.hand q) →
      focus c next d k s f ≡ chosen_from c (tree_of c q) holds d s (past c d k q) f (k.hand q)
  pub runs : (spot : Spot) (stack : List Entry) → IsLater c spot.frame q stack → IsRunning c spot stack End
      → IsRunning c spot stack next
  -- the branches around the parts that it goes on with began by the condition
  pub begun : All (BeginsBy c q) (parts_of c next)

-- what a lookaround leaves that is a test, positive or negative
abbrev pub test_entry : Bool → Site → Kept → Entry
test_entry true = LookTest
test_entry false = DenialTest

abbrev pub test_kind : Bool → ℕ
test_kind true = KIND_LOOK_TEST
test_kind false = KIND_DENIAL_TEST

-- a condition on p: a lookaround, or a callout and a lookaround after it
pub record IsAsserted (c : Ground) (q p : ℕ) : Type 0 where
  pub first : ℕ
  pub second : Option ℕ
  pub node : IsNode c q (node.Cond (cond.Assert p) first second)

-- a condition whose test is the lookaround p
pub record IsTest (c : Ground) (q p : ℕ) : Type 0 where
  pub part : ℕ
  pub asserted : IsAsserted c q part
  pub inside : IsPart c p

-- a lookaround, with these branches
pub record IsLook (c : Ground) (q : ℕ) (forward positive : Bool) (ks : List ℕ) : Type 0 where
  pub once : Bool
  pub node : IsNode c q (node.Look forward positive once ks)
