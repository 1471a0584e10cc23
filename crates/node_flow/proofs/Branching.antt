-- What one node tells its children of the branches around them.
use Rattle.std.proofs.Common.{◌≡◌, ℕ, ◌<◌, ◌≤◌, Bool, true, false, List, [], ◌∷◌, length, get_or, All, Option, Some}
use Rattle.std.proofs.Common.{None, refl, arith}
use Rattle.std.specs.Option.{is_some}
use Rattle.pat_tree.specs.declared.nodes.Cond.{Cond}
use Rattle.pat_tree.specs.declared.nodes.Node.{Node}
use Rattle.pat_tree.specs.declared.nodes.Node.TheVariants as node
use Rattle.pat_tree.specs.Rules.{kids_of}
use Rattle.node_flow.specs.Around.{told_by}
use Rattle.node_flow.specs.Branches.{branch_if, branch_child}
use Rattle.node_flow.specs.LookBranches.{look_branch_child}
use Rattle.node_flow.proofs.Members.{true_false}
use Rattle.node_flow.proofs.Told.{stay}

-- around a single branch, and around two or more
pub branch_alone : (branches : List ℕ) (outer : Option ℕ) (k : ℕ) → length branches < 2
    → branch_if branches outer k ≡ outer
branch_alone [] outer k l = refl
branch_alone (b ∷ []) outer k l = refl
branch_alone (b ∷ b' ∷ bs) outer k l = absurd (omega (arith, l))

pub branch_own : (branches : List ℕ) (outer : Option ℕ) (k : ℕ) → 2 ≤ length branches
    → branch_if branches outer k ≡ Some k
branch_own [] outer k l = absurd (omega (arith, l))
branch_own (b ∷ []) outer k l = absurd (omega (arith, l))
branch_own (b ∷ b' ∷ bs) outer k l = refl

-- the children of a node of another form are told nothing
pub others_untold : (told : List (Option ℕ)) (n : Node) (outer : Option ℕ) → ((x : List ℕ) → n ≡ node.Seq x → ⊥)
    → ((x : Option ℕ) (y : List ℕ) → n ≡ node.Group x y → ⊥) →
    ((x : List ℕ) → n ≡ node.Atomic x → ⊥)
    → ((ahead positive once : Bool) (x : List ℕ) → n ≡ node.Look ahead positive once x → ⊥) →
    ((x : Cond) (y : ℕ) (z : Option ℕ) → n ≡ node.Cond x y z → ⊥) → All (λ k. get_or told k None ≡ None) (kids_of n)
    → (k : ℕ) → get_or told k None ≡ told_by branch_child told n outer k
others_untold told node.Empty outer a b c d e h k = refl
others_untold told (node.One item) outer a b c d e h k = refl
others_untold told node.Break outer a b c d e h k = refl
others_untold told (node.Seq kids) outer a b c d e h k = absurd (a kids refl)
others_untold told (node.Group number branches) outer a b c d e h k = absurd (b number branches refl)
others_untold told (node.Repeat body min max lazy) outer a b c d e h k = stay told (body ∷ []) h k
others_untold told (node.OneRepeat item min max lazy) outer a b c d e h k = refl
others_untold told (node.Atomic branches) outer a b c d e h k = absurd (c branches refl)
others_untold told (node.Look ahead positive once branches) outer a b c d e h k =
    absurd (d ahead positive once branches refl)
others_untold told (node.Cond test yes' no') outer a b c d e h k = absurd (e test yes' no' refl)
others_untold told (node.Call n) outer a b c d e h k = refl
others_untold told (node.Ref groups caseless) outer a b c d e h k = refl
others_untold told (node.Anchor kind) outer a b c d e h k = refl
others_untold told node.KeepOut outer a b c d e h k = refl
others_untold told (node.VerbNode v) outer a b c d e h k = refl
others_untold told (node.Callout number from to at len) outer a b c d e h k = refl

-- the same of the branches of lookbehinds: a capturing group and a lookahead are frames
pub no_branch_told : (told : List (Option ℕ)) (n : Node) (outer : Option ℕ) → ((x : List ℕ) → n ≡ node.Seq x → ⊥)
    → ((x : Option ℕ) (y : List ℕ) → n ≡ node.Group x y → ⊥) →
    ((ahead positive once : Bool) (x : List ℕ) → n ≡ node.Look ahead positive once x → ⊥) →
    ((x : Cond) (y : ℕ) (z : Option ℕ) → n ≡ node.Cond x y z → ⊥) → All (λ k. get_or told k None ≡ None) (kids_of n)
    → (k : ℕ) → get_or told k None ≡ told_by look_branch_child told n outer k
no_branch_told told node.Empty outer a b d e h k = refl
no_branch_told told (node.One item) outer a b d e h k = refl
no_branch_told told node.Break outer a b d e h k = refl
no_branch_told told (node.Seq kids) outer a b d e h k = absurd (a kids refl)
no_branch_told told (node.Group number branches) outer a b d e h k = absurd (b number branches refl)
no_branch_told told (node.Repeat body min max lazy) outer a b d e h k = stay told (body ∷ []) h k
no_branch_told told (node.OneRepeat item min max lazy) outer a b d e h k = refl
no_branch_told told (node.Atomic branches) outer a b d e h k = stay told branches h k
no_branch_told told (node.Look ahead positive once branches) outer a b d e h k =
    absurd (d ahead positive once branches refl)
no_branch_told told (node.Cond test yes' no') outer a b d e h k = absurd (e test yes' no' refl)
no_branch_told told (node.Call n) outer a b d e h k = refl
no_branch_told told (node.Ref groups caseless) outer a b d e h k = refl
no_branch_told told (node.Anchor kind) outer a b d e h k = refl
no_branch_told told node.KeepOut outer a b d e h k = refl
no_branch_told told (node.VerbNode v) outer a b d e h k = refl
no_branch_told told (node.Callout number from to at len) outer a b d e h k = refl

pub group_told : (told : List (Option ℕ)) (number : Option ℕ) (branches : List ℕ) (outer : Option ℕ)
    → is_some number ≡ true → All (λ k. get_or told k None ≡ None) branches → (k : ℕ)
    → get_or told k None ≡ told_by look_branch_child told (node.Group number branches) outer k
group_told told None branches outer some h k = absurd (true_false false some refl)
group_told told (Some n) branches outer some h k = stay told branches h k

pub ahead_told : (told : List (Option ℕ)) (ahead positive once : Bool) (branches : List ℕ) (outer : Option ℕ)
    → ahead ≡ true → All (λ k. get_or told k None ≡ None) branches → (k : ℕ)
    → get_or told k None ≡ told_by look_branch_child told (node.Look ahead positive once branches) outer k
ahead_told told false positive once branches outer is h k = absurd (true_false false is refl)
ahead_told told true positive once branches outer is h k = stay told branches h k
