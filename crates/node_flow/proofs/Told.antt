-- Children that are told nothing.
use Rattle.std.proofs.Common.{◌≡◌, ℕ, true, false, if◌then◌else◌, List, [], ◌∷◌, All, get_or, Option, Some, None}
use Rattle.std.proofs.Common.{inl, inr, refl}
use Rattle.std.specs.Option.{is_some}
use Rattle.pat_tree.specs.declared.nodes.Cond.{Cond}
use Rattle.pat_tree.specs.declared.nodes.Node.{Node}
use Rattle.pat_tree.specs.declared.nodes.Node.TheVariants as node
use Rattle.pat_tree.specs.Rules.{kids_of}
use Rattle.pat_tree.specs.Refs.{is_in}
use Rattle.node_flow.specs.Followers.{next_by}
use Rattle.node_flow.proofs.Members.{in_or_not, of_member, true_false}

pub stay : (told : List (Option ℕ)) (ks : List ℕ) → All (λ k. get_or told k None ≡ None) ks → (k : ℕ)
    → get_or told k None ≡ (if is_in k ks then None else get_or told k None)
stay told ks untold k =
    elim (in_or_not k ks) [
      | inl member ↦ rw member (of_member (λ j. get_or told j None ≡ None) ks k untold member)
      | inr other ↦ rw other refl
    ]

-- the children of a node that is no sequence, group or condition
pub others_stay : (told : List (Option ℕ)) (n : Node) (rest : List ℕ) → ((x : List ℕ) → n ≡ node.Seq x → ⊥)
    → ((x : Option ℕ) (y : List ℕ) → n ≡ node.Group x y → ⊥) →
    ((x : Cond) (y : ℕ) (z : Option ℕ) → n ≡ node.Cond x y z → ⊥) → All (λ k. get_or told k None ≡ None) (kids_of n)
    → (k : ℕ) → get_or told k None ≡ next_by told n rest k
others_stay told node.Empty rest a b c h k = refl
others_stay told (node.One item) rest a b c h k = refl
others_stay told node.Break rest a b c h k = refl
others_stay told (node.Seq kids) rest a b c h k = absurd (a kids refl)
others_stay told (node.Group number branches) rest a b c h k = absurd (b number branches refl)
others_stay told (node.Repeat body min max lazy) rest a b c h k = stay told (body ∷ []) h k
others_stay told (node.OneRepeat item min max lazy) rest a b c h k = refl
others_stay told (node.Atomic branches) rest a b c h k = stay told branches h k
others_stay told (node.Look ahead positive once branches) rest a b c h k = stay told branches h k
others_stay told (node.Cond test yes' no') rest a b c h k = absurd (c test yes' no' refl)
others_stay told (node.Call n) rest a b c h k = refl
others_stay told (node.Ref groups caseless) rest a b c h k = refl
others_stay told (node.Anchor kind) rest a b c h k = refl
others_stay told node.KeepOut rest a b c h k = refl
others_stay told (node.VerbNode v) rest a b c h k = refl
others_stay told (node.Callout number from to at len) rest a b c h k = refl

pub group_stays : (told : List (Option ℕ)) (number : Option ℕ) (branches rest : List ℕ) → is_some number ≡ true
    → All (λ k. get_or told k None ≡ None) branches → (k : ℕ) →
    get_or told k None ≡ next_by told (node.Group number branches) rest k
group_stays told None branches rest some h k = absurd (true_false false some refl)
group_stays told (Some n) branches rest some h k = stay told branches h k
