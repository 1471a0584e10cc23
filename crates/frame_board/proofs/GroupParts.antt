-- The groups of a finished tree are parts that the machine may call.
use Rattle.std.proofs.Common.{◌≡◌, ◌∙◌, ℕ, zero, suc, ◌<◌, ◌≤◌, ℤ, Bool, true, false, if◌then◌else◌, List, [], ◌∷◌}
use Rattle.std.proofs.Common.{map, flat_map, Option, Some, None, option_map, All, length, get_or, refl, sym, ap}
use Rattle.std.proofs.Common.{subst, arith, inl, inr}
use Rattle.std.proofs.lemmas.Bool.{cases_Bool, cases_eq, eq-eqb, ne_eqb, false≢true}
use Rattle.std.proofs.lemmas.List.{get_or_default}
use Rattle.std.proofs.lemmas.List.Elements.{All-nil, All-cons, All-head, All-tail, All-append}
use Rattle.pat_tree.specs.declared.options.MatchOptions.{MatchOptions}
use Rattle.pat_tree.specs.declared.nodes.Node.TheVariants as node
use Rattle.pat_tree.specs.declared.nodes.Placed.{Placed}
use Rattle.pat_tree.specs.Nested as tree
use Rattle.pat_tree.specs.Nested.{Nested, tree_at, trees}
use Rattle.pat_tree.specs.Groups.{group_of, find_group}
use Rattle.pat_tree.specs.Parts.{TreeParts}
use Rattle.pat_tree.specs.Rules.{kids_of}
use Rattle.pat_tree.specs.Sound.{TreeRules}
use Rattle.pat_tree.proofs.Reached.{reached_node}
use Rattle.node_flow.specs.Order.{order}
use Rattle.node_flow.proofs.TreeLaws.{parts_come_first}
use Rattle.pat_lengths.specs.Nodes.{is_capture_of}
use Rattle.pat_lengths.specs.Passing.{first_of, group_in, called_place}
use Rattle.pat_lengths.proofs.GroupLemmas.{first_is}
use Rattle.pat_lengths.proofs.OrderLemmas.{whole_in_order}
use Rattle.char_sets.specs.Table.{CharSet}
use Rattle.pcre_io.specs.declared.callouts.Block.{Block}
use Rattle.frame_state.specs.Ground.{Ground, tree_of, IsGround, IsPart}
use Rattle.frame_state.specs.Calls.{EndsAlone, IsCalled}
use Rattle.frame_board.specs.Ready.{IsBoardSearch, ground_in}
use Rattle.frame_board.specs.GroundLaw.{ground_is}
use Rattle.frame_state.proofs.KidParts.{kid_parts_of, root_part}

none_some : (k : ℕ) → None ≡ Some k → ⊥
none_some k e = cc

some_same : (a b : ℕ) → Some a ≡ Some b → a ≡ b
some_same a b e = cc

abbrev group_if : List Nested → ℕ → ℕ → List ℕ → Bool → Option ℕ
group_if ts n k ks b = if b then Some k else group_in ts n ks

-- the first group is one of the nodes
in_group : (P : ℕ → Type 0) (ts : List Nested) (n : ℕ) (ks : List ℕ) (k : ℕ) → All P ks → group_in ts n ks ≡ Some k
    → P k × (is_capture_of n (tree_at ts k) ≡ true)
in_group P ts n [] k a e = absurd (none_some k e)
in_group P ts n (x ∷ ks) k a e =
    elim (cases_Bool (is_capture_of n (tree_at ts x))) [
      | inl b ↦
          let same : x ≡ k = some_same x k (sym (ap (group_if ts n x ks) b) ∙ e) in
          (subst P same (All-head P x ks a), subst (λ y. is_capture_of n (tree_at ts y) ≡ true) same b)
      | inr b ↦ in_group P ts n ks k (All-tail P x ks a) (sym (ap (group_if ts n x ks) b) ∙ e)
    ]

first_in : (ts : List Nested) (n : ℕ) (ks : List ℕ) → first_of n (map (tree_at ts) ks) ≡ option_map (tree_at ts)
    (group_in ts n ks)
first_in ts n [] = refl
first_in ts n (x ∷ ks) =
    elim (is_capture_of n (tree_at ts x))
    as (λ b. (if b then Some (tree_at ts x) else first_of n (map (tree_at ts) ks)) ≡ option_map (tree_at ts)
    (if b then Some x else group_in ts n ks)) [
      | true ↦ refl
      | false ↦ first_in ts n ks
    ]

all_flat : (P : ℕ → Type 0) (g : ℕ → List ℕ) (ks : List ℕ) → All (λ k. All P (g k)) ks → All P (flat_map g ks)
all_flat P g [] a = All-nil P
all_flat P g (k ∷ ks) a =
    All-append P (g k) (flat_map g ks) (All-head (λ x. All P (g x)) k ks a)
    (all_flat P g ks (All-tail (λ x. All P (g x)) k ks a))

-- what ends alone
capture_alone : (c : Ground) (q n : ℕ) (t : Nested) → is_capture_of n t ≡ true → EndsAlone c q t
capture_alone c q n (tree.group (Some m) ts) e = tt
capture_alone c q n _ e = absurd (false≢true e)

last_alone : (c : Ground) (q : ℕ) (t : Nested) → c.rest q ≡ [] → c.look_branch q ≡ None → EndsAlone c q t
last_alone c q (tree.group (Some m) ts) e looked = tt
last_alone c q (tree.group None ts) e looked = (e, looked)
last_alone c q _ e looked = (e, looked)

module _ (t : TreeParts) (table : List CharSet) (matching : MatchOptions) (subject : List ℕ) (start : ℕ)
    (answers : Block → ℤ)
    (h : IsBoardSearch t table matching subject) (rules : TreeRules t) where
  abbrev board : Ground
  board = ground_in t matching subject start answers

  ok : IsGround board
  ok = ground_is t table matching subject start answers h

  abbrev nowhere : Placed
  nowhere = record { node = node.Empty; at = 0 }

  -- a part and those under it
  under_parts : (fuel q : ℕ) → q < fuel → IsPart board q → All (IsPart board) (order t.nodes q)
  under_parts zero q l part = absurd (omega (arith, l))
  under_parts (suc fuel) q l part =
      let within : q ≤ t.root = part.within in
      let inside : q < length t.nodes = omega (arith, within, rules.root) in
      let p : Placed = get_or t.nodes q nowhere in
      let r = reached_node t.nodes q p rules.nodes.below inside (get_or_default t.nodes q nowhere p inside) in
      let kids : All (IsPart board) (kids_of p.node) = kid_parts_of board q p.node part r.0 r.1
      (h.linked q within nowhere) (rules.nodes.each q nowhere inside).test
      (h.under q part.under nowhere) (λ k. omega arith) (h.in_turn q part.under nowhere)
      (h.branches.each q within nowhere) (h.look_branches.each q within nowhere) in
      subst (All (IsPart board)) (sym (parts_come_first t rules q within nowhere))
      (All-cons (IsPart board) q (flat_map (order t.nodes) (kids_of p.node)) part
      (all_flat (IsPart board) (order t.nodes) (kids_of p.node)
      (λ i e j.
      let below : get_or (kids_of p.node) i e < q = r.1 i e j in
      under_parts fuel (get_or (kids_of p.node) i e) (omega (arith, below, l)) (kids i e j))))

  all_parts : All (IsPart board) (order t.nodes t.root)
  all_parts = under_parts (suc t.root) t.root (omega arith) (root_part board ok)

  abbrev ts : List Nested
  ts = trees t.nodes

  module _ (n : ℕ) where
    abbrev whole_if : Bool → Option ℕ
    whole_if b = if b then Some t.root else group_in ts n (order t.nodes t.root)

    abbrev group_is : Bool → Option Nested
    group_is b = if b then Some board.setting.whole else find_group n board.setting.whole

    module _ (other : n ≡ 0 → ⊥) where
      found : group_of board.setting.whole n ≡ option_map (tree_at ts) (group_in ts n (order t.nodes t.root))
      found =
          ap group_is (ne_eqb n 0 other)
          ∙ sym (first_is n board.setting.whole)
          ∙ ap (first_of n) (sym (whole_in_order t rules))
          ∙ first_in ts n (order t.nodes t.root)

      grouped : (o : Option ℕ) → group_in ts n (order t.nodes t.root) ≡ o → IsCalled board n o
      grouped None e = found ∙ ap (option_map (tree_at ts)) e
      grouped (Some k) e =
          let z = in_group (IsPart board) ts n (order t.nodes t.root) k all_parts e in (
            found ∙ ap (option_map (tree_at ts)) e,
            record {
              inside = z.0;
              alone = capture_alone board k n (tree_of board k) z.1;
            },
          )

    pub called_part : IsCalled board n (called_place ts t.root (order t.nodes t.root) n)
    called_part =
        elim (cases_eq n 0) [
          | inl same ↦
              subst (IsCalled board n) (sym (ap whole_if (eq-eqb n 0 same))) (
                ap group_is (eq-eqb n 0 same),
                record {
                  inside = root_part board ok;
                  alone = last_alone board t.root (tree_of board t.root) ok.last ok.whole_unlooked;
                },
              )
          | inr other ↦ subst (IsCalled board n) (sym (ap whole_if (ne_eqb n 0 other)))
              (grouped other (group_in ts n (order t.nodes t.root)) refl)
        ]
