-- The kinds of nodes that are alike to what is told of a pattern: empty ones, lookarounds, anchors, `\K`, verbs and
-- callouts.
use Rattle.std.proofs.Common.{◌≡◌, ℕ, Bool, List, Option, refl}
use Rattle.pat_tree.specs.declared.nodes.AnchorKind.{AnchorKind}
use Rattle.pat_tree.specs.declared.nodes.Cond.{Cond}
use Rattle.pat_tree.specs.declared.nodes.Item.{Item}
use Rattle.pat_tree.specs.declared.nodes.Node.{Node}
use Rattle.pat_tree.specs.declared.nodes.Node.TheVariants as node
use Rattle.pat_tree.specs.declared.nodes.Verb.{Verb}

-- where a node is of no other kind
abbrev pub IfOther : Node → Type 0 → Type 0
IfOther n Told =
    ((x : Item) → n ≡ node.One x → ⊥) → (n ≡ node.Break → ⊥) → ((x : List ℕ) → n ≡ node.Seq x → ⊥) →
    ((x : Option ℕ) (y : List ℕ) → n ≡ node.Group x y → ⊥) →
    ((w x : ℕ) (y : Option ℕ) (z : Bool) → n ≡ node.Repeat w x y z → ⊥) →
    ((w : Item) (x : ℕ) (y : Option ℕ) (z : Bool) → n ≡ node.OneRepeat w x y z → ⊥) →
    ((x : List ℕ) → n ≡ node.Atomic x → ⊥) →
    ((x : Cond) (y : ℕ) (z : Option ℕ) → n ≡ node.Cond x y z → ⊥) →
    ((x : ℕ) → n ≡ node.Call x → ⊥) →
    ((x : List ℕ) (y : Bool) → n ≡ node.Ref x y → ⊥) →
    Told

pub by_other : (P : Node → Type 0) → P node.Empty →
    ((ahead positive once : Bool) (branches : List ℕ) → P (node.Look ahead positive once branches)) →
    ((kind : AnchorKind) → P (node.Anchor kind)) → P node.KeepOut → ((v : Verb) → P (node.VerbNode v)) →
    ((number from to at len : ℕ) → P (node.Callout number from to at len)) → (n : Node) → IfOther n (P n)
by_other P empty look anchor keep verb callout node.Empty a b c d e f g h i j = empty
by_other P empty look anchor keep verb callout (node.One item) a b c d e f g h i j = absurd (a item refl)
by_other P empty look anchor keep verb callout node.Break a b c d e f g h i j = absurd (b refl)
by_other P empty look anchor keep verb callout (node.Seq kids) a b c d e f g h i j = absurd (c kids refl)
by_other P empty look anchor keep verb callout (node.Group number branches) a b c d e f g h i j =
    absurd (d number branches refl)
by_other P empty look anchor keep verb callout (node.Repeat body min max lazy) a b c d e f g h i j =
    absurd (e body min max lazy refl)
by_other P empty look anchor keep verb callout (node.OneRepeat item min max lazy) a b c d e f g h i j =
    absurd (f item min max lazy refl)
by_other P empty look anchor keep verb callout (node.Atomic branches) a b c d e f g h i j = absurd (g branches refl)
by_other P empty look anchor keep verb callout (node.Look ahead positive once branches) a b c d e f g h i j =
    look ahead positive once branches
by_other P empty look anchor keep verb callout (node.Cond test first second) a b c d e f g h i j =
    absurd (h test first second refl)
by_other P empty look anchor keep verb callout (node.Call n) a b c d e f g h i j = absurd (i n refl)
by_other P empty look anchor keep verb callout (node.Ref groups caseless) a b c d e f g h i j =
    absurd (j groups caseless refl)
by_other P empty look anchor keep verb callout (node.Anchor kind) a b c d e f g h i j = anchor kind
by_other P empty look anchor keep verb callout node.KeepOut a b c d e f g h i j = keep
by_other P empty look anchor keep verb callout (node.VerbNode v) a b c d e f g h i j = verb v
by_other P empty look anchor keep verb callout (node.Callout number from to at len) a b c d e f g h i j =
    callout number from to at len
