-- What stands for trees stands for them as the draft grows and the text is read.
use Rattle.std.proofs.Common.{◌≡◌, ℕ, ◌≤◌, List, [], ◌∷◌, refl, arith}
use Rattle.pat_tree.specs.declared.nodes.Placed.{Placed}
use Rattle.pat_tree.specs.Growing.{Grows}
use Rattle.pat_tree.proofs.Growing.{stand_on}
use Rattle.pat_nodes.specs.declared.frames.Level.{Level}
use Rattle.pat_nodes.specs.declared.frames.Frame.{Frame}
use Rattle.pat_build.specs.Stack.{Layer, Opened}
use Rattle.pat_build.specs.Machine.{LevelStands, FrameStands, StackStands}

module _ {a b : List Placed} (g : Grows a b) (u v : ℕ) (falls : v ≤ u) where
  pub level_on : {level : Level} {layer : Layer} → LevelStands a u level layer → LevelStands b v level layer
  level_on s = record {
    branches = stand_on g s.branches;
    parts = stand_on g s.parts;
    n = omega (arith, s.n);
    k = omega (arith, s.k);
  }

  pub frame_on : {f : Frame} {o : Opened} → FrameStands a u f o → FrameStands b v f o
  frame_on s = record { how = s.how; outer = level_on s.outer }

  pub stack_on : (fs : List Frame) (os : List Opened) → StackStands a u fs os → StackStands b v fs os
  stack_on [] [] s = tt
  stack_on [] (o ∷ os) s = s
  stack_on (f ∷ fs) [] s = s
  stack_on (f ∷ fs) (o ∷ os) s = (frame_on s.0, stack_on fs os s.1)

-- the innermost frame, and what it stands for
pub record Innermost (ps : List Placed) (u : ℕ) (f : Frame) (fs : List Frame) (opens : List Opened) : Type 0 where
  pub o : Opened
  pub os : List Opened
  pub is : opens ≡ o ∷ os
  pub frame : FrameStands ps u f o
  pub stack : StackStands ps u fs os

pub innermost : (ps : List Placed) (u : ℕ) (f : Frame) (fs : List Frame) (opens : List Opened)
    → StackStands ps u (f ∷ fs) opens → Innermost ps u f fs opens
innermost ps u f fs [] s = absurd s
innermost ps u f fs (o ∷ os) s = record { o = o; os = os; is = refl; frame = s.0; stack = s.1 }

pub none_open : (ps : List Placed) (u : ℕ) (opens : List Opened) → StackStands ps u [] opens → opens ≡ []
none_open ps u [] s = refl
none_open ps u (o ∷ os) s = absurd s
