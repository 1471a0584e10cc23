-- What comes later among the children of one node.
use Rattle.std.proofs.Common.{◌≡◌, ℕ, Bool, true, false, ◌==◌, ◌||◌, if◌then◌else◌, List, [], ◌∷◌, ◌++◌, get_or, All}
use Rattle.std.proofs.Common.{Some, None, inl, inr, refl, ◌∙◌, subst, arith}
use Rattle.std.proofs.Math.Bool.{or-true}
use Rattle.std.proofs.lemmas.Bool.Decides.{nat_tests}
use Rattle.std.proofs.lemmas.List.Elements.{All-nil, All-tail, All-append}
use Rattle.pat_tree.specs.declared.nodes.Node.{Node}
use Rattle.pat_tree.specs.declared.nodes.Node.TheVariants as node
use Rattle.pat_tree.specs.Rules.{tests_of, number_in, kids_of}
use Rattle.pat_tree.specs.Refs.{is_in}
use Rattle.node_flow.specs.Followers.{later_than, after_child}
use Rattle.node_flow.specs.Linked.{AreChained, IsLinked}
use Rattle.node_flow.proofs.Members.{Once, same_or_other, true_false, in_at, in_append, apart}

later_all : (P : ℕ → Type 0) (k : ℕ) (xs : List ℕ) → All P xs → All P (later_than k xs)
later_all P k [] h = h
later_all P k (x ∷ xs) h =
    let rest = All-tail P x xs h in
    elim (same_or_other x k) [ inl same ↦ rw same.1 rest | inr other ↦ rw other.1 (later_all P k xs rest) ]

chosen_all : (P : ℕ → Type 0) (b : Bool) (after : List ℕ) → All P after → All P (if b then after else [])
chosen_all P true after h = h
chosen_all P false after h = All-nil P

-- what holds of the children and of what follows the node holds of what follows a child
pub after_all : (P : ℕ → Type 0) (n : Node) (after : List ℕ) (k : ℕ) → All P (kids_of n) → All P after
    → All P (after_child n after k)
after_all P node.Empty after k h a = All-nil P
after_all P (node.One item) after k h a = All-nil P
after_all P node.Break after k h a = All-nil P
after_all P (node.Seq kids) after k h a = All-append P (later_than k kids) after (later_all P k kids h) a
after_all P (node.Group None branches) after k h a = a
after_all P (node.Group (Some n) branches) after k h a = All-nil P
after_all P (node.Repeat body min max lazy) after k h a = All-nil P
after_all P (node.OneRepeat item min max lazy) after k h a = All-nil P
after_all P (node.Atomic branches) after k h a = All-nil P
after_all P (node.Look ahead positive once branches) after k h a = All-nil P
after_all P (node.Cond test yes' no') after k h a = chosen_all P (is_in k (yes' ∷ number_in no')) after a
after_all P (node.Call n) after k h a = All-nil P
after_all P (node.Ref groups caseless) after k h a = All-nil P
after_all P (node.Anchor kind) after k h a = All-nil P
after_all P node.KeepOut after k h a = All-nil P
after_all P (node.VerbNode v) after k h a = All-nil P
after_all P (node.Callout number from to at len) after k h a = All-nil P

-- one that is in where another is not is not the other
differ : (x k : ℕ) (xs : List ℕ) → is_in x xs ≡ false → is_in k xs ≡ true → (x == k) ≡ false
differ x k xs out member =
    elim (same_or_other x k) [
      | inl same ↦
          absurd (true_false (is_in k xs) member (subst (λ j. is_in j xs ≡ false) same.0 out))
      | inr other ↦ other.1
    ]

-- the first of the later ones is followed by the others
pub later_chain : (k x : ℕ) (kids xs : List ℕ) → Once kids → later_than k kids ≡ x ∷ xs
    → (is_in x kids ≡ true) × (later_than x kids ≡ xs)
unfolding Once
later_chain k x [] xs once e = absurd cc
later_chain k x (y ∷ ys) xs once e =
    let found : (is_in x ys ≡ true) × (later_than x ys ≡ xs)
    → (is_in x (y ∷ ys) ≡ true) × (later_than x (y ∷ ys) ≡ xs) =
    λ h. (let other = differ y x ys once.0 h.0 in (rw (other, h.0) refl, rw other h.1)) in
    elim (same_or_other y k) [
      | inl same ↦ (let is : ys ≡ x ∷ xs = rw same.1 at e in
          let same_x : (x == x) ≡ true = grind (arith, nat_tests) in
          found (rw (is, same_x) refl, rw (is, same_x) refl))
      | inr other ↦ found (later_chain k x ys xs once.1 (rw other.1 at e))
    ]

chain_from : (rest : ℕ → List ℕ) (after kids : List ℕ) → Once kids
    → ((k : ℕ) → is_in k kids ≡ true → rest k ≡ later_than k kids ++ after) → AreChained rest kids after
unfolding Once
chain_from rest after [] once each = tt
chain_from rest after (k ∷ ks) once each =
    let same : (k == k) ≡ true = grind (arith, nat_tests) in
    let first : rest k ≡ ks ++ after = rw same at (each k (rw same refl)) in
    let later : (j : ℕ) → is_in j ks ≡ true → rest j ≡ later_than j ks ++ after =
    λ j member. (let other = differ k j ks once.0 member in rw other at (each j (rw (other, member) refl))) in
    (first, chain_from rest after ks once.1 later)

-- each child followed as the node says: the children are linked
module _ (rest : ℕ → List ℕ) (after : List ℕ) where
  abbrev pub Each : Node → Type 0
  Each n = (k : ℕ) → is_in k (kids_of n) ≡ true → rest k ≡ after_child n after k

  pub linked : (n : Node) → Once (kids_of n) → Each n → IsLinked rest after n
  linked node.Empty once each = tt
  linked (node.One item) once each = tt
  linked node.Break once each = tt
  linked (node.Seq kids) once each = chain_from rest after kids once each
  linked (node.Group None branches) once each = λ i d l. each (get_or branches i d) (in_at branches i d l)
  linked (node.Group (Some n) branches) once each = λ i d l. each (get_or branches i d) (in_at branches i d l)
  linked (node.Repeat body min max lazy) once each =
      (let same : (body == body) ≡ true = grind (arith, nat_tests) in each body (rw same refl))
  linked (node.OneRepeat item min max lazy) once each = tt
  linked (node.Atomic branches) once each = λ i d l. each (get_or branches i d) (in_at branches i d l)
  linked (node.Look ahead positive once' branches) once each =
      λ i d l. each (get_or branches i d) (in_at branches i d l)
  linked (node.Cond test yes' no') once each =
      let tests = tests_of test in
      let branches = yes' ∷ number_in no' in
      let joined : (k : ℕ) → is_in k (tests ++ branches) ≡ (is_in k tests || is_in k branches) =
      λ k. in_append k tests branches in (
        λ i d l. (let k = get_or tests i d in
            let member : is_in k tests ≡ true = in_at tests i d l in
            let out : is_in k branches ≡ false = apart tests branches k once member in
            let is : rest k ≡ (if is_in k branches then after else []) = each k (rw (joined, member) refl) in
            is ∙ rw out refl),
        λ i d l. (let k = get_or branches i d in
            let member : is_in k branches ≡ true = in_at branches i d l in
            let is : rest k ≡ (if is_in k branches then after else []) = each k (rw (joined, member, or-true) refl) in
            is ∙ rw member refl),
      )
  linked (node.Call n) once each = tt
  linked (node.Ref groups caseless) once each = tt
  linked (node.Anchor kind) once each = tt
  linked node.KeepOut once each = tt
  linked (node.VerbNode v) once each = tt
  linked (node.Callout number from to at len) once each = tt
