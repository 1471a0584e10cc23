-- A part, by its node: what it stands for with what follows.
use Rattle.std.proofs.Common.{◌≡◌, ℕ, zero, suc, ◌-◌, ◌<◌, ◌≤◌, ◌∙◌, Bool, true, false, List, [], ◌∷◌, ◌++◌, map}
use Rattle.std.proofs.Common.{drop, reverse, length, All, Option, Some, None, slice_get, if◌then◌else◌, refl, sym}
use Rattle.std.proofs.Common.{ap, subst, arith, not, inl, inr, option_map}
use Rattle.std.specs.Prelude.{◌==◌, nat_lt}
use Rattle.std.proofs.lemmas.List.{drop-map, drop_all}
use Rattle.std.proofs.Math.ListN.{drop_of_length-le}
use Rattle.std.proofs.lemmas.List.Elements.{All-nil, All-cons, All-head, All-tail}
use Rattle.std.proofs.lemmas.Bool.{false≢true, ne_eqb, eqb-true, ltb-true, cases_Bool}
use Rattle.pat_tree.specs.declared.nodes.Item.{Item}
use Rattle.pat_tree.specs.declared.nodes.AnchorKind.{AnchorKind}
use Rattle.pat_tree.specs.declared.nodes.Node.{Node}
use Rattle.pat_tree.specs.declared.nodes.Node.TheVariants as node
use Rattle.pat_tree.specs.Rules.{kids_of}
use Rattle.pat_tree.specs.Nested as tree
use Rattle.pat_tree.specs.Nested.{Nested, Row, Callout, row, nest, tree_at, other_of, test_of}
use mathlib.Core.Path.{fun_ext}
use Rattle.pat_tree.specs.declared.nodes.Cond.{Cond}
use Rattle.pat_tree.specs.declared.nodes.Verb.{Verb}
use Rattle.pat_tree.specs.declared.nodes.Cond.TheVariants as cond
use Rattle.match_items.specs.Items.{is_none_left, after_item, item_reaches, longest_run, after_break, break_reaches}
use Rattle.match_items.specs.Items.{after_ref, ref_reaches, holds, anchor_reaches, earliest, places_back}
use Rattle.frame_store.specs.declared.registers.Span.{Span}
use Rattle.frame_store.specs.Captures.{capture}
use Rattle.ordered_search.specs.Stream.{State, next_branch, prune, skip, commit, reached, accepted, shown}
use Rattle.ordered_search.specs.Setting.{branch_lengths}
use Rattle.ordered_search.specs.Moves.{Moves, pause, stepped, noted, Follow, Handler, Path, catching, going, holding}
use Rattle.ordered_search.specs.Moves.{reaching}
use Rattle.ordered_search.specs.Paths.{close, ref_path, many_paths, turn_path, repeat_path, go_path, parts_path}
use Rattle.ordered_search.specs.Paths.{choice_paths, branch_paths, leave, Many, only_many, possessive_path}
use Rattle.ordered_search.specs.Paths.{atomic_over, look_path, path, row_paths, behind_paths, try_path, tries_path}
use Rattle.ordered_search.specs.Paths.{ends_before, behind_path, paths, choose_path, other_path, test_path, assert_path}
use Rattle.ordered_search.specs.Paths.{tested_path, answered, call_path, verb_path}
use Rattle.frame_state.specs.declared.machine.Next.TheVariants.{Branch, Offer, Begin}
use Rattle.node_flow.specs.Followers.{first_of}
use Rattle.node_flow.specs.Branches.{branch_if, branch_child}
use Rattle.node_flow.specs.LookBranches.{look_branch_child}
use Rattle.node_flow.specs.Linked.{AreChained, AllFollowed, IsLinked}
use Rattle.frame_state.specs.Branches.{IsBranched, branch_look}
use Rattle.frame_state.specs.Shown.{callout_at}
use Rattle.pat_lengths.specs.Backs.{lengths_back}
use Rattle.pat_lengths.specs.declared.backs.Back.{Back}
use Rattle.frame_state.specs.Behind.{HasFixed}
use Rattle.frame_state.specs.Begun.{Begun, placed, tried, is_behind, IsFixedPart, begun_within, begun_by, begun_place}
use Rattle.frame_state.specs.Begun.{begun_next, first_begun}
use Rattle.frame_state.specs.Reach.{referred_reaches}
use Rattle.frame_state.specs.Ground.{Ground, tree_of, differ, settles_by, settles, IsNode, IsMeasuredIn, IsPart}
use Rattle.frame_state.specs.Ground.{IsGround}
use Rattle.pat_lengths.proofs.BackLemmas.{limited}
use Rattle.frame_state.proofs.BehindLemmas.{one_place, some_back, back_room, all_here}
use Rattle.frame_state.specs.Machine.{less, in_row, first_set, first_next, Outside}
use Rattle.frame_state.specs.Frames.{after, settle, settled, past, enter, branch_rest, beyond_by, beyond, branch_from}
use Rattle.frame_state.specs.Frames.{tries_from, offer_from, begin_from}
use Rattle.frame_state.specs.Frames.{turned_from, close_from, focus, branch_row, branch_path, other_from}
use Rattle.frame_state.specs.Frames.{chosen_from}
use Rattle.frame_state.proofs.KidParts.{fixed_row, kid_ranks}
use Rattle.ordered_search.proofs.Same.{follow_same, holding_same}
use Rattle.ordered_search.specs.Parts.{begun_at, some_set, is_called, is_called_of, block_of}

path_same : (P Q : Path) → ((s : State) (k : Follow) (f : Moves) (h : Handler) → P s k f h ≡ Q s k f h) → P ≡ Q
path_same P Q e = fun_ext (λ s. fun_ext (λ k. fun_ext (λ f. fun_ext (λ h. e s k f h))))

less_none : (high : Option ℕ) → high ≡ less 0 high
less_none None = refl
less_none (Some n) = let e : n ≡ n - 0 = omega arith in ap Some e

-- the paths of some parts
abbrev pub part_paths : Ground → ℕ → List ℕ → List Path
part_paths c d ks = map (λ q. paths c.setting d (tree_of c q)) ks

-- the paths of the branches of a tree
abbrev pub kid_paths : Ground → Nested → ℕ → List ℕ → List Path
kid_paths c t d ks = map (λ q. branch_path c t d (tree_of c q)) ks

module _ (c : Ground) where
  pub after_nil : (d : ℕ) (k : Outside) → after c d k [] ≡ k.follow
  unfolding after
  after_nil d k = follow_same (after c d k []) k.follow (λ how s f. refl)

  pub after_cons : (d : ℕ) (k : Outside) (q : ℕ) (qs : List ℕ) (s : State) (f : Moves) →
      after c d k (q ∷ qs) reached s f ≡ paths c.setting d (tree_of c q) s (after c d k qs) f (k.hand q)
  unfolding after
  after_cons d k q qs s f = refl

  -- where a try of a lookbehind's branch may end

  pub settles_same : (p q : ℕ) → c.look_branch p ≡ c.look_branch q → settles c p ≡ settles c q
  settles_same p q e = ap (settles_by c) e

  settle_accepted : (b : Bool) (place : ℕ) (k : Follow) (s : State) (f : Moves)
      → settle c b place k accepted s f ≡ k accepted s f
  unfolding ends_before
  settle_accepted true place k s f = refl
  settle_accepted false place k s f = refl

  pub past_same : (p q : ℕ) → c.rest p ≡ c.rest q → c.look_branch p ≡ c.look_branch q → (d : ℕ) (k : Outside)
      → past c d k p ≡ past c d k q
  past_same p q rest looked d k =
      ap (after c d (settled c k p)) rest
      ∙ ap (λ b. after c d (record k { follow = settle c b k.place k.follow }) (c.rest q)) (settles_same p q looked)

  -- a part that ends its frame
  pub past_end : (p : ℕ) → c.rest p ≡ [] → (b : Bool) → settles c p ≡ b → (d : ℕ) (k : Outside)
      → past c d k p ≡ settle c b k.place k.follow
  past_end p alone b is d k =
      ap (after c d (settled c k p)) alone
      ∙ after_nil d (settled c k p)
      ∙ ap (λ x. settle c x k.place k.follow) is

  pub after_accepted : (d : ℕ) (k : Outside) (qs : List ℕ) (s : State) (f : Moves)
      → after c d k qs accepted s f ≡ k.follow accepted s f
  unfolding after
  after_accepted d k [] s f = refl
  after_accepted d k (q ∷ qs) s f = refl

  pub past_accepted : (d : ℕ) (k : Outside) (q : ℕ) (s : State) (f : Moves)
      → past c d k q accepted s f ≡ k.follow accepted s f
  past_accepted d k q s f = after_accepted d (settled c k q) (c.rest q) s f
      ∙ settle_accepted (settles c q) k.place k.follow s f

  -- what verbs lead to is the same at each of these parts as at q
  abbrev pub Alike : Outside → ℕ → List ℕ → Type 0
  Alike k q ps = All (λ p. k.hand p ≡ k.hand q) ps

  -- a sequence of parts
  parts_after : (d : ℕ) (k : Outside) (q : ℕ) (ps qs : List ℕ) → Alike k q ps →
      go_path (parts_path (part_paths c d ps)) (after c d k qs) (k.hand q) ≡ after c d k (ps ++ qs)
  unfolding go_path parts_path after
  parts_after d k q [] qs a =
      follow_same (go_path (parts_path []) (after c d k qs) (k.hand q)) (after c d k qs)
      (elim [ reached ↦ λ s f. refl | accepted ↦ λ s f. refl ])
  parts_after d k q (p ∷ ps) qs a =
      follow_same (go_path (parts_path (part_paths c d (p ∷ ps))) (after c d k qs) (k.hand q))
      (after c d k (p ∷ ps ++ qs))
      (elim [
        | reached ↦ λ s f.
            ap (λ (z : Follow). paths c.setting d (tree_of c p) s z f (k.hand q))
            (parts_after d k q ps qs (All-tail (λ x. k.hand x ≡ k.hand q) p ps a))
            ∙ ap (λ (z : Handler). paths c.setting d (tree_of c p) s (after c d k (ps ++ qs)) f z)
            (sym (All-head (λ x. k.hand x ≡ k.hand q) p ps a))
        | accepted ↦ λ s f. after_accepted d k qs s f
      ])

  row_parts : (d : ℕ) (ks : List ℕ) → row_paths c.setting d (paths c.setting d)
      (row (map (tree_at c.trees) ks)) ≡ part_paths c (suc d) ks
  unfolding path paths
  row_parts d [] = refl
  row_parts d (q ∷ ks) = ap (λ ps. paths c.setting (suc d) (tree_of c q) ∷ ps) (row_parts d ks)

  pub in_row_parts : (d : ℕ) (ks : List ℕ) → in_row (paths c.setting d) (row (map (tree_at c.trees) ks)) ≡ part_paths
      c d ks
  in_row_parts d [] = refl
  in_row_parts d (q ∷ ks) = ap (λ ps. paths c.setting d (tree_of c q) ∷ ps) (in_row_parts d ks)

  paths_deep : (d e : ℕ) (t : Nested) (s : State) (k : Follow) (f : Moves) (h : Handler) → d ≡ suc e →
      paths c.setting d t s k f h ≡ path c.setting e (paths c.setting e) t s k f h
  unfolding paths
  paths_deep d e t s k f h deep = ap (λ x. paths c.setting x t s k f h) deep

  pub row_deep : (d e : ℕ) (ks : List ℕ) → d ≡ suc e → row_paths c.setting e (paths c.setting e)
      (row (map (tree_at c.trees) ks)) ≡ part_paths c d ks
  row_deep d e ks deep = row_parts e ks ∙ ap (λ x. part_paths c x ks) (sym deep)

  -- a part with what follows it
  module _ (q : ℕ) (n : Node) (i : IsNode c q n) (d z : ℕ) (k : Outside) (s : State) (f : Moves)
      (deep : d ≡ suc z) where
    pub enter_node : enter c d k q s f ≡ path c.setting z (paths c.setting z) (nest c.trees n) s (past c d k q) f
        (k.hand q)
    enter_node =
        paths_deep d z (tree_of c q) s (past c d k q) f (k.hand q) deep
        ∙ ap (λ t. path c.setting z (paths c.setting z) t s (past c d k q) f (k.hand q)) (sym i.is)

    pub enter_seq_none : n ≡ node.Seq [] → enter c d k q s f ≡ pause (past c d k q reached s f)
    unfolding path parts_path
    enter_seq_none e = enter_node
        ∙ ap (λ m. path c.setting z (paths c.setting z) (nest c.trees m) s (past c d k q) f (k.hand q)) e

    pub enter_seq : (p : ℕ) (ps : List ℕ) → Alike k q (p ∷ ps) → n ≡ node.Seq (p ∷ ps)
        → enter c d k q s f ≡ pause (enter c d k p s f)
    unfolding path parts_path
    enter_seq p ps a e =
        let l : AreChained c.rest (p ∷ ps) (c.rest q) = subst (IsLinked c.rest (c.rest q)) e i.linked in
        let K : Follow = past c d k q in
        let looked : All (λ x. c.look_branch x ≡ c.look_branch q) (p ∷ ps) =
        subst (λ m. All (λ x. c.look_branch x ≡ look_branch_child m (c.look_branch q) x) (kids_of m)) e i.looked in
        let first : c.look_branch p ≡ c.look_branch q =
        All-head (λ x. c.look_branch x ≡ c.look_branch q) p ps looked in
        enter_node
        ∙ ap (λ m. path c.setting z (paths c.setting z) (nest c.trees m) s K f (k.hand q)) e
        ∙ ap (λ (xs : List Path). pause (parts_path xs s K f (k.hand q))) (row_deep d z (p ∷ ps) deep)
        ∙ ap (λ (z : Follow). pause (paths c.setting d (tree_of c p) s z f (k.hand q)))
        (parts_after d (settled c k q) q ps (c.rest q) (All-tail (λ x. k.hand x ≡ k.hand q) p ps a)
        ∙ ap (after c d (settled c k q)) (sym l.0)
        ∙ ap (λ b. after c d (record k { follow = settle c b k.place k.follow }) (c.rest p))
        (sym (settles_same p q first)))
        ∙ ap (λ (z : Handler). pause (paths c.setting d (tree_of c p) s (past c d k p) f z))
        (sym (All-head (λ x. k.hand x ≡ k.hand q) p ps a))

  reaching_not : (s : State) (x : Moves) → reaching c.setting false s x ≡ x
  unfolding reaching
  reaching_not s x = refl

  ref_first : (ns : List ℕ) (caseless : Bool) (s : State) (k : Follow) (f : Moves) →
      ref_path c.setting ns caseless s k f ≡ reaching c.setting
      (referred_reaches c s.place (first_set s.caps ns) caseless) s
      (elim (first_set s.caps ns) [
        | None ↦ elim c.setting.options.match_unset_backref [ true ↦ k reached s f | false ↦ f ]
        | Some span ↦ going (after_ref c.setting.scene span.from span.to caseless s.place) s k f
      ])
  ref_first [] caseless s k f = sym (reaching_not s _)
  ref_first (n ∷ ns) caseless s k f =
      elim (capture s.caps n)
      as (λ o. elim o [
        | None ↦ ref_path c.setting ns caseless s k f
        | Some span ↦
            reaching c.setting (ref_reaches c.setting.scene span.from span.to caseless s.place) s
            (going (after_ref c.setting.scene span.from span.to caseless s.place) s k f)
      ]
      ≡ reaching c.setting (referred_reaches c s.place
      (let z : Option Span = elim o [ None ↦ first_set s.caps ns | Some span ↦ Some span ] in z) caseless) s
      (elim (let z : Option Span = elim o [ None ↦ first_set s.caps ns | Some span ↦ Some span ] in z) [
        | None ↦ elim c.setting.options.match_unset_backref [ true ↦ k reached s f | false ↦ f ]
        | Some span ↦ going (after_ref c.setting.scene span.from span.to caseless s.place) s k f
      ])) [
        | None ↦ ref_first ns caseless s k f
        | Some span ↦ refl
      ]

  in_row_kids : (t : Nested) (d : ℕ) (ks : List ℕ) → in_row (branch_path c t d)
      (row (map (tree_at c.trees) ks)) ≡ kid_paths c t d ks
  in_row_kids t d [] = refl
  in_row_kids t d (q ∷ ks) = ap (λ ps. branch_path c t d (tree_of c q) ∷ ps) (in_row_kids t d ks)

  -- but for those of a lookbehind, branches begin where they are entered
  plain_path : (t : Nested) → is_behind t ≡ false → branch_path c t ≡ paths c.setting
  plain_path (tree.look false positive once ts) e = absurd (false≢true (sym e))
  plain_path _ e = refl

  pub plain_kids : (t : Nested) → is_behind t ≡ false → (d : ℕ) (ks : List ℕ) → kid_paths c t d ks ≡ part_paths c d ks
  plain_kids t e d ks = ap (λ (w : ℕ → Nested → Path). map (λ q. w d (tree_of c q)) ks) (plain_path t e)

  -- the branches of a part, from one on
  branch_is : (q i d : ℕ) (ks : List ℕ) → IsBranched c q ks → (s : State) (k : Follow) (f : Moves) (h : Handler) →
      branch_from c (tree_of c q) i d s k f h ≡ choice_paths c.setting (drop i (kid_paths c (tree_of c q) d ks)) s k f h
  branch_is q i d ks b s k f h =
      ap (λ r. choice_paths c.setting (drop i (in_row (branch_path c (tree_of c q) d) r)) s k f h) b.rows
      ∙ ap (λ (xs : List Path). choice_paths c.setting (drop i xs) s k f h) (in_row_kids (tree_of c q) d ks)

  -- Where a branch begins.

  abbrev pub begun_state : Bool → Option Begun → State → State
  begun_state false to s = s
  begun_state true None s = s
  begun_state true (Some (placed place)) s = begun_at place s
  begun_state true (Some (tried n)) s = s

  -- what follows a branch that begins where it is entered
  beyond_is : (t : Nested) (p q : ℕ) → is_behind t ≡ false → c.rest p ≡ branch_rest c t (c.rest q)
      → c.look_branch p ≡ branch_look t (c.look_branch q) p → (d : ℕ) (k : Outside)
      → past c d k p ≡ beyond_by c t d k q
  beyond_is (tree.group None ts) p q plain linked looked d k = past_same p q linked looked d k
  beyond_is (tree.look false positive once ts) p q plain linked looked d k = absurd (false≢true (sym plain))
  beyond_is _ p q plain linked looked d k = past_end p linked false (ap (settles_by c) looked) d k

  -- a branch of a lookbehind
  module _ (p d : ℕ) (k : Outside) (s : State) (f : Moves) (alone : c.rest p ≡ [])
      (own : c.look_branch p ≡ Some p) (back : Back)
      (lengths : branch_lengths c.setting (tree_of c p) ≡ lengths_back back) where
    abbrev P : Path
    P = paths c.setting d (tree_of c p)

    abbrev begun_focus : Option Begun → Moves
    begun_focus to = focus c (begun_next true to p) d k (begun_state true to s) f

    abbrev before : List ℕ
    before = drop back.least (places_back c.setting.scene back.most s.place)

    try_begun : (places : List ℕ) → length places ≤ 1
        → begun_focus (option_map placed (first_of places)) ≡ try_path (reverse places) P s (past c d k p) f (k.hand p)
    unfolding try_path
    try_begun [] le = refl
    try_begun (x ∷ []) le = refl
    try_begun (x ∷ y ∷ more) le = absurd (omega (arith, le))

    settles_so : settles c p ≡ not (back.least == back.most)
    settles_so = ap (settles_by c) own ∙ ap differ lengths

    -- of one length, it begins so far before the place
    begun_one : (back.least == back.most) ≡ true
        → begun_focus (begun_by c (lengths_back back) s.place)
        ≡ try_path (reverse before) P s k.follow f (k.hand p)
    begun_one same =
        let equal : back.least ≡ back.most = eqb-true back.least back.most same in
        ap (λ b. begun_focus (begun_within c b back.least back.most s.place)) same
        ∙ try_begun (drop back.most (places_back c.setting.scene back.most s.place))
        (one_place c.setting.scene back.most s.place)
        ∙ ap (λ (z : Follow). try_path (reverse (drop back.most (places_back c.setting.scene back.most s.place))) P s z
        f (k.hand p)) (past_end p alone false (settles_so ∙ ap not same) d k)
        ∙ ap (λ n. try_path (reverse (drop n (places_back c.setting.scene back.most s.place))) P s k.follow f
        (k.hand p)) (sym equal)

    -- where they differ, it is tried from as many back as stand before
    abbrev room : ℕ
    room = length (places_back c.setting.scene back.most s.place) - 1

    none_tried : room < back.least → f ≡ tries_path c.setting (reverse before) P s k.follow f (k.hand p)
    unfolding tries_path
    none_tried few =
        let long : length (places_back c.setting.scene back.most s.place) ≤ back.least =
        let some = some_back c.setting.scene back.most s.place in omega (arith, few, some) in
        sym (ap (λ ps. tries_path c.setting (reverse ps) P s k.follow f (k.hand p)) (drop_all back.least _ long))

    tried_from : (b : Bool) → nat_lt room back.least ≡ b
        → begun_focus (if b then None else Some (tried room))
        ≡ tries_path c.setting (reverse before) P s k.follow f (k.hand p)
    tried_from true e = none_tried (ltb-true room back.least e)
    tried_from false e =
        ap (λ x. tries_from c x room P s k.follow f (k.hand p)) lengths
        ∙ ap (λ ps. tries_path c.setting (reverse (drop back.least ps)) P s k.follow f (k.hand p))
        (sym (back_room c.setting.scene back.most s.place))

    begun_many : (back.least == back.most) ≡ false
        → begun_focus (begun_by c (lengths_back back) s.place)
        ≡ tries_path c.setting (reverse before) P s k.follow f (k.hand p)
    begun_many differs =
        ap (λ b. begun_focus (begun_within c b back.least back.most s.place)) differs
        ∙ tried_from (nat_lt room back.least) refl

    abbrev behind_by : Bool → Moves
    behind_by b = elim b [
      | true ↦ try_path (reverse before) P s k.follow f (k.hand p)
      | false ↦ tries_path c.setting (reverse before) P s k.follow f (k.hand p)
    ]

    begun_behind : begun_focus (begun_place c p s.place)
        ≡ behind_path c.setting (branch_lengths c.setting (tree_of c p)) P s k.follow f (k.hand p)
    unfolding behind_path
    begun_behind =
        ap (λ x. begun_focus (begun_by c x s.place)) lengths
        ∙ (elim (cases_Bool (back.least == back.most)) [
          | inl same ↦ begun_one same ∙ ap behind_by (sym same)
          | inr differs ↦ begun_many differs ∙ ap behind_by (sym differs)
        ])
        ∙ ap (λ x. behind_path c.setting x P s k.follow f (k.hand p)) (sym lengths)

  begun_tree : (t : Nested) (q p : ℕ) → (is_behind t ≡ true → IsFixedPart c p)
      → c.rest p ≡ branch_rest c t (c.rest q) → c.look_branch p ≡ branch_look t (c.look_branch q) p →
      (d : ℕ) (k : Outside) (s : State) (f : Moves) →
      focus c (begun_next (is_behind t) (begun_place c p s.place) p) d k
      (begun_state (is_behind t) (begun_place c p s.place) s) f
      ≡ branch_path c t d (tree_of c p) s (beyond_by c t d k q) f (k.hand p)
  begun_tree (tree.look false positive once ts) q p fixed linked looked d k s f =
      let l = limited (branch_lengths c.setting (tree_of c p)) (fixed refl) in
      begun_behind p d k s f linked looked l.0 l.1
  begun_tree (tree.group None ts) q p fixed linked looked d k s f =
      ap (λ (z : Follow). paths c.setting d (tree_of c p) s z f (k.hand p))
      (beyond_is (tree.group None ts) p q refl linked looked d k)
  begun_tree _ q p fixed linked looked d k s f =
      ap (λ (z : Follow). paths c.setting d (tree_of c p) s z f (k.hand p))
      (past_end p linked false (ap (settles_by c) looked) d k)

  -- a branch that is begun, with what follows the branches of its part
  pub begun_is : (q p : ℕ) → (is_behind (tree_of c q) ≡ true → IsFixedPart c p)
      → c.rest p ≡ branch_rest c (tree_of c q) (c.rest q)
      → c.look_branch p ≡ branch_look (tree_of c q) (c.look_branch q) p →
      (d : ℕ) (k : Outside) (h : Handler) → k.hand p ≡ h → (s : State) (f : Moves) →
      focus c (begun_next (is_behind (tree_of c q)) (begun_place c p s.place) p) d k
      (begun_state (is_behind (tree_of c q)) (begun_place c p s.place) s) f
      ≡ branch_path c (tree_of c q) d (tree_of c p) s (beyond c d k q) f h
  begun_is q p fixed linked looked d k h same s f =
      begun_tree (tree_of c q) q p fixed linked looked d k s f
      ∙ ap (λ (z : Handler). branch_path c (tree_of c q) d (tree_of c p) s (beyond c d k q) f z) same

  abbrev pub first_state : Bool → List ℕ → State → State
  first_state b [] s = s
  first_state b (p ∷ []) s = begun_state b (begun_place c p s.place) s
  first_state b (p ∷ p' ∷ ps) s = s

  -- Handlers that lead to the same from every verb but THEN, which each of two branches or more catches.
  pub record IsAgreed (h j : Handler) : Type 0 where
    pub prune : h prune ≡ j prune
    pub skip : (n : ℕ) → h (skip n) ≡ j (skip n)
    pub commit : h commit ≡ j commit

  pub agreed : (h j : Handler) → h ≡ j → IsAgreed h j
  agreed h j e = record {
    prune = ap (λ (z : Handler). z prune) e;
    skip = λ n. ap (λ (z : Handler). z (skip n)) e;
    commit = ap (λ (z : Handler). z commit) e;
  }

  pub catching_same : (f : Moves) (h j : Handler) → IsAgreed h j → catching f h ≡ catching f j
  catching_same f h j r =
      fun_ext (elim [ next_branch ↦ refl | prune ↦ r.prune | skip n ↦ r.skip n | commit ↦ r.commit ])

  choices_same : (ps : List Path) (s : State) (k : Follow) (f : Moves) (h j : Handler) → IsAgreed h j
      → choice_paths c.setting ps s k f h ≡ choice_paths c.setting ps s k f j
  unfolding choice_paths
  choices_same [] s k f h j r = refl
  choices_same (p ∷ []) s k f h j r = ap (λ (z : Handler). stepped (p s k f z)) (catching_same f h j r)
  choices_same (p ∷ p' ∷ ps) s k f h j r =
      let later : Moves = pause (choice_paths c.setting (p' ∷ ps) s k f h) in
      let other : Moves = pause (choice_paths c.setting (p' ∷ ps) s k f j) in
      let e : later ≡ other = ap pause (choices_same (p' ∷ ps) s k f h j r) in
      ap (λ (m : Moves). stepped (holding c.setting 1 s (λ u. p u k m (catching m h)))) e
      ∙ ap (λ (z : Handler). stepped (holding c.setting 1 s (λ u. p u k other z))) (catching_same other h j r)

  -- the branch that stands alone has the handler of them all
  abbrev pub Alone : Outside → List ℕ → Handler → Type 0
  Alone k (p ∷ []) h = k.hand p ≡ h
  Alone k _ h = Unit {0}

  -- where the branches begin
  pub first_branch : (q d : ℕ) (ks : List ℕ) → IsBranched c q ks → (k : Outside) (h : Handler) → Alone k ks h
      → IsAgreed h (k.hand q) → (s : State) (f : Moves) →
      focus c (first_begun c (is_behind (tree_of c q)) q ks s.place) d k (first_state (is_behind (tree_of c q)) ks s) f
      ≡ branch_paths c.setting (kid_paths c (tree_of c q) d ks) s
      (beyond c d k q) f h
  unfolding branch_paths
  first_branch q d [] b k h a r s f = refl
  first_branch q d (p ∷ []) b k h a r s f =
      begun_is q p (λ e. All-head (IsFixedPart c) p [] (b.fixed e))
      (All-head (λ x. c.rest x ≡ branch_rest c (tree_of c q) (c.rest q)) p [] b.linked)
      (All-head (λ x. c.look_branch x ≡ branch_look (tree_of c q) (c.look_branch q) x) p [] b.looked) d k h a s f
  first_branch q d (p ∷ p' ∷ ps) b k h a r s f =
      branch_is q 0 d (p ∷ p' ∷ ps) b s (beyond c d k q) f (k.hand q)
      ∙ sym (choices_same (kid_paths c (tree_of c q) d (p ∷ p' ∷ ps)) s
      (beyond c d k q) f h (k.hand q) r)

  -- where they begin at the place itself
  pub first_plain : (q : ℕ) (ks : List ℕ) (place : ℕ) → first_begun c false q ks place ≡ first_next q ks
  first_plain q [] place = refl
  first_plain q (p ∷ []) place = refl
  first_plain q (p ∷ p' ∷ ps) place = refl

  state_plain : (ks : List ℕ) (s : State) → first_state false ks s ≡ s
  state_plain [] s = refl
  state_plain (p ∷ []) s = refl
  state_plain (p ∷ p' ∷ ps) s = refl

  pub first_here : (q d : ℕ) (ks : List ℕ) → IsBranched c q ks → (k : Outside) (h : Handler) → Alone k ks h
      → IsAgreed h (k.hand q) → (s : State) (f : Moves) → is_behind (tree_of c q) ≡ false →
      focus c (first_next q ks) d k s f
      ≡ branch_paths c.setting (part_paths c d ks) s (beyond c d k q) f h
  first_here q d ks b k h a r s f plain =
      sym (ap (λ n. focus c n d k s f) (first_plain q ks s.place))
      ∙ sym (ap (λ u. focus c (first_begun c false q ks s.place) d k u f) (state_plain ks s))
      ∙ sym (ap (λ (x : Bool). focus c (first_begun c x q ks s.place) d k (first_state x ks s) f) plain)
      ∙ first_branch q d ks b k h a r s f
      ∙ ap (λ (xs : List Path). branch_paths c.setting xs s (beyond c d k q) f
      h) (plain_kids (tree_of c q) plain d ks)

  none_some : (p : ℕ) → None ≡ Some p → ⊥
  none_some p e = cc

  some_same : (p q : ℕ) → Some p ≡ Some q → p ≡ q
  some_same p q e = cc

  drop_here : (ks : List ℕ) (i p : ℕ) → slice_get ks i ≡ Some p → drop i ks ≡ p ∷ drop (suc i) ks
  drop_here [] i p e = absurd (none_some p e)
  drop_here (x ∷ ks) zero p e = ap (λ y. y ∷ ks) (some_same x p e)
  drop_here (x ∷ ks) (suc i) p e = drop_here ks i p e

  pub All-at : (P : ℕ → Type 0) (ks : List ℕ) (i p : ℕ) → All P ks → slice_get ks i ≡ Some p → P p
  All-at P [] i p a e = absurd (none_some p e)
  All-at P (x ∷ ks) zero p a e = subst P (some_same x p e) (All-head P x ks a)
  All-at P (x ∷ ks) (suc i) p a e = All-at P ks i p (All-tail P x ks a) e

  -- the branches of a part end their frame
  abbrev pub EndsFrame : ℕ → Type 0
  EndsFrame q = (d : ℕ) (k : Outside) → beyond c d k q ≡ k.follow

  pub branches_in : (q d : ℕ) (ks : List ℕ) → IsBranched c q ks → EndsFrame q →
      (k : Outside) (h : Handler) → Alone k ks h → IsAgreed h (k.hand q) → (s : State) (f : Moves) →
      branch_paths c.setting (kid_paths c (tree_of c q) d ks) s k.follow f h
      ≡ focus c (first_begun c (is_behind (tree_of c q)) q ks s.place) d k
      (first_state (is_behind (tree_of c q)) ks s) f
  branches_in q d ks b none k h a r s f =
      ap (λ (z : Follow). branch_paths c.setting (kid_paths c (tree_of c q) d ks) s z f h) (sym (none d k))
      ∙ sym (first_branch q d ks b k h a r s f)

  -- one branch of a part
  module _ (q i d : ℕ) (ks : List ℕ) (b : IsBranched c q ks) (p : ℕ) (at : slice_get ks i ≡ Some p) (s : State)
      (k : Outside) (f : Moves) where
    abbrev K : Follow
    K = beyond c d k q

    choice_at : focus c (Branch q i) d k s f
        ≡ choice_paths c.setting (branch_path c (tree_of c q) d (tree_of c p) ∷ kid_paths c (tree_of c q) d
        (drop (suc i) ks)) s K f (k.hand q)
    choice_at =
        branch_is q i d ks b s K f (k.hand q)
        ∙ ap (λ (xs : List Path). choice_paths c.setting xs s K f (k.hand q))
        (drop-map (λ x. branch_path c (tree_of c q) d (tree_of c x)) i ks
        ∙ ap (kid_paths c (tree_of c q) d) (drop_here ks i p at))

    -- what is around it when it is begun, by then
    pub branch_begun : (now : Outside) → beyond c d now q ≡ K
        → (u : State) (m : Moves) → now.hand p ≡ catching m (k.hand q) →
        branch_path c (tree_of c q) d (tree_of c p) u K m (catching m (k.hand q))
        ≡ focus c (begun_next (is_behind (tree_of c q)) (begun_place c p u.place) p) d now
        (begun_state (is_behind (tree_of c q)) (begun_place c p u.place) u) m
    branch_begun now rest u m same =
        ap (λ (z : Follow). branch_path c (tree_of c q) d (tree_of c p) u z m (catching m (k.hand q))) (sym rest)
        ∙ sym (begun_is q p (λ e. All-at (IsFixedPart c) ks i p (b.fixed e) at)
        (All-at (λ x. c.rest x ≡ branch_rest c (tree_of c q) (c.rest q)) ks i p b.linked at)
        (All-at (λ x. c.look_branch x ≡ branch_look (tree_of c q) (c.look_branch q) x) ks i p b.looked at)
        d now (catching m (k.hand q)) same u m)

    pub branch_last : length ks ≤ suc i → focus c (Branch q i) d k s f ≡ stepped
        (branch_path c (tree_of c q) d (tree_of c p) s K f (catching f (k.hand q)))
    unfolding choice_paths
    branch_last e =
        choice_at
        ∙ ap (λ (xs : List ℕ). choice_paths c.setting
        (branch_path c (tree_of c q) d (tree_of c p) ∷ kid_paths c (tree_of c q) d xs) s K f (k.hand q))
        (drop_of_length-le ks e)

    -- what is left where the branch fails
    abbrev pub later : Moves
    later = pause (focus c (Branch q (suc i)) d k s f)

    pub branch_more : (p' : ℕ) → slice_get ks (suc i) ≡ Some p' →
        focus c (Branch q i) d k s f ≡ stepped
        (holding c.setting 1 s (λ u. branch_path c (tree_of c q) d (tree_of c p) u K later
        (catching later (k.hand q))))
    unfolding choice_paths
    branch_more p' at' =
        let rest : drop (suc i) ks ≡ p' ∷ drop (suc (suc i)) ks = drop_here ks (suc i) p' at' in
        let left : Moves = pause (choice_paths c.setting (kid_paths c (tree_of c q) d (p' ∷ drop (suc (suc i)) ks)) s
        K f (k.hand q)) in
        let same : left ≡ later =
        ap (λ (xs : List ℕ). pause (choice_paths c.setting (kid_paths c (tree_of c q) d xs) s K f (k.hand q)))
        (sym rest)
        ∙ ap (λ (xs : List Path). pause (choice_paths c.setting xs s K f (k.hand q)))
        (sym (drop-map (λ x. branch_path c (tree_of c q) d (tree_of c x)) (suc i) ks))
        ∙ ap pause (sym (branch_is q (suc i) d ks b s K f (k.hand q))) in
        choice_at
        ∙ ap (λ (xs : List ℕ). choice_paths c.setting
        (branch_path c (tree_of c q) d (tree_of c p) ∷ kid_paths c (tree_of c q) d xs) s K f (k.hand q)) rest
        ∙ ap (λ (m : Moves). stepped
        (holding c.setting 1 s (λ u. branch_path c (tree_of c q) d (tree_of c p) u K m
        (catching m (k.hand q))))) same

  -- the branches of a part, by its node
  module _ (q : ℕ) (n : Node) (i : IsNode c q n) where
    pub tree_by : (m : Node) → n ≡ m → nest c.trees m ≡ tree_of c q
    tree_by m e = subst (λ z. nest c.trees z ≡ tree_of c q) e i.is

    branched : (ks r : List ℕ) (t : Nested) → t ≡ tree_of c q → branch_row c t ≡ row (map (tree_at c.trees) ks)
        → branch_rest c t (c.rest q) ≡ r →
        (is_behind t ≡ true → All (IsFixedPart c) ks) → AllFollowed c.rest r ks
        → All (λ k. c.look_branch k ≡ branch_look t (c.look_branch q) k) ks → (o : Option ℕ)
        → All (λ k. c.branch k ≡ branch_if ks o k) ks → kids_of n ≡ ks → IsBranched c q ks
    branched ks r t is rows rest fixed l looked o own kids = record {
      rows = ap (branch_row c) (sym is) ∙ rows;
      linked = subst (λ x. AllFollowed c.rest x ks) (sym rest ∙ ap (λ x. branch_rest c x (c.rest q)) is) l;
      fixed = λ e. fixed (ap is_behind is ∙ e);
      looked = subst (λ x. All (λ k. c.look_branch k ≡ branch_look x (c.look_branch q) k) ks) is looked;
      outer = o;
      own = own;
      behind = subst (All (λ k. c.rank q < c.rank k)) kids (kid_ranks c q n i);
    }

    -- the branches around its children, by its node
    pub branches_by : (m : Node) → n ≡ m → All (λ k. c.branch k ≡ branch_child m (c.branch q) k) (kids_of m)
    branches_by m e = subst (λ z. All (λ k. c.branch k ≡ branch_child z (c.branch q) k) (kids_of z)) e i.branched

    -- and the branches of lookbehinds
    looked_by : (m : Node) → n ≡ m → All (λ k. c.look_branch k ≡ look_branch_child m (c.look_branch q) k) (kids_of m)
    looked_by m e = subst (λ z. All (λ k. c.look_branch k ≡ look_branch_child z (c.look_branch q) k) (kids_of z)) e
        i.looked

    pub branched_group : (number : Option ℕ) (ks : List ℕ) → n ≡ node.Group number ks → IsBranched c q ks
    branched_group None ks e =
        branched ks (c.rest q) (tree.group None (row (map (tree_at c.trees) ks))) (tree_by (node.Group None ks) e)
        refl refl (λ z. absurd (false≢true z))
        (subst (IsLinked c.rest (c.rest q)) e i.linked) (looked_by (node.Group None ks) e) (c.branch q)
        (branches_by (node.Group None ks) e) (ap kids_of e)
    branched_group (Some m) ks e =
        branched ks [] (tree.group (Some m) (row (map (tree_at c.trees) ks))) (tree_by (node.Group (Some m) ks) e)
        refl refl (λ z. absurd (false≢true z))
        (subst (IsLinked c.rest (c.rest q)) e i.linked) (looked_by (node.Group (Some m) ks) e) None
        (branches_by (node.Group (Some m) ks) e) (ap kids_of e)

    pub branched_atomic : (ks : List ℕ) → n ≡ node.Atomic ks → IsBranched c q ks
    branched_atomic ks e =
        branched ks [] (tree.atomic (row (map (tree_at c.trees) ks))) (tree_by (node.Atomic ks) e) refl refl
        (λ z. absurd (false≢true z))
        (subst (IsLinked c.rest (c.rest q)) e i.linked) (looked_by (node.Atomic ks) e) None
        (branches_by (node.Atomic ks) e) (ap kids_of e)

    -- the branches of a lookbehind aren't refused
    fixed_here : IsPart c q → HasFixed (branch_lengths c.setting) (nest c.trees n)
    fixed_here part = let P : Nested → Type 0 = HasFixed (branch_lengths c.setting) in
        all_here P c.trees n i.tests (subst (IsMeasuredIn c) (sym i.is) part.measured)

    pub fixed_look : IsPart c q → (ahead positive once : Bool) (ks : List ℕ) → n ≡ node.Look ahead positive once ks
        → not ahead ≡ true → All (IsFixedPart c) ks
    fixed_look part true positive once ks e behind = absurd (false≢true behind)
    fixed_look part false positive once ks e behind =
        fixed_row c ks (subst (λ m. HasFixed (branch_lengths c.setting) (nest c.trees m)) e (fixed_here part))

    looked_look : (ahead positive once : Bool) (ks : List ℕ) → n ≡ node.Look ahead positive once ks
        → All (λ k. c.look_branch k ≡ branch_look (tree.look ahead positive once (row (map (tree_at c.trees) ks)))
        (c.look_branch q) k) ks
    looked_look true positive once ks e = looked_by (node.Look true positive once ks) e
    looked_look false positive once ks e = looked_by (node.Look false positive once ks) e

    pub branched_look : IsPart c q → (ahead positive once : Bool) (ks : List ℕ) → n ≡ node.Look ahead positive once ks
        → IsBranched c q ks
    branched_look part ahead positive once ks e =
        branched ks [] (tree.look ahead positive once (row (map (tree_at c.trees) ks)))
        (tree_by (node.Look ahead positive once ks) e) refl refl (fixed_look part ahead positive once ks e)
        (subst (IsLinked c.rest (c.rest q)) e i.linked) (looked_look ahead positive once ks e) None
        (branches_by (node.Look ahead positive once ks) e)
        (ap kids_of e)

    pub behind_look : (ahead positive once : Bool) (ks : List ℕ) → n ≡ node.Look ahead positive once ks
        → is_behind (tree_of c q) ≡ not ahead
    behind_look ahead positive once ks e = ap is_behind (sym (tree_by (node.Look ahead positive once ks) e))

    pub behind_none : ((ahead positive once : Bool) (ks : List ℕ) → n ≡ node.Look ahead positive once ks → ⊥)
        → is_behind (tree_of c q) ≡ false
    behind_none stray = ap is_behind (sym i.is) ∙ none_behind n stray
      where
        none_behind : (m : Node)
            → ((ahead positive once : Bool) (ks : List ℕ) → m ≡ node.Look ahead positive once ks → ⊥)
            → is_behind (nest c.trees m) ≡ false
        none_behind (node.Look ahead positive once ks) x = absurd (x ahead positive once ks refl)
        none_behind _ x = refl

  -- the branches of a lookaround, forward or back
  abbrev look_paths : Bool → ℕ → Row → List Path
  look_paths true z ts = row_paths c.setting z (paths c.setting z) ts
  look_paths false z ts = behind_paths c.setting z (paths c.setting z) ts

  behind_parts : (z : ℕ) (ks : List ℕ) (positive once : Bool) (ts : Row) →
      behind_paths c.setting z (paths c.setting z) (row (map (tree_at c.trees) ks)) ≡ kid_paths c
      (tree.look false positive once ts) (suc z) ks
  unfolding path paths
  behind_parts z [] positive once ts = refl
  behind_parts z (q ∷ ks) positive once ts =
      ap (λ ps. behind_path c.setting (branch_lengths c.setting (tree_of c q))
      (paths c.setting (suc z) (tree_of c q)) ∷ ps) (behind_parts z ks positive once ts)

  look_row : (d z : ℕ) → d ≡ suc z → (ahead positive once : Bool) (ks : List ℕ) (t : Nested)
      → tree.look ahead positive once (row (map (tree_at c.trees) ks)) ≡ t →
      look_paths ahead z (row (map (tree_at c.trees) ks)) ≡ kid_paths c t d ks
  look_row d z deep true positive once ks t e = row_deep d z ks deep ∙ sym (plain_kids t (ap is_behind (sym e)) d ks)
  look_row d z deep false positive once ks t e =
      behind_parts z ks positive once (row (map (tree_at c.trees) ks)) ∙ ap (λ u. kid_paths c u (suc z) ks) e
      ∙ ap (λ x. kid_paths c t x ks) (sym deep)

  -- a part with what follows it, continued
  module _ (ok : IsGround c) (q : ℕ) (n : Node) (i : IsNode c q n) (d z : ℕ) (k : Outside) (s : State) (f : Moves)
      (deep : d ≡ suc z) where
    by_node : (m : Node) → n ≡ m → enter c d k q s f ≡ path c.setting z (paths c.setting z) (nest c.trees m) s
        (past c d k q) f (k.hand q)
    by_node m e = enter_node q n i d z k s f deep
        ∙ ap (λ x. path c.setting z (paths c.setting z) (nest c.trees x) s (past c d k q) f (k.hand q)) e

    pub enter_empty : n ≡ node.Empty → enter c d k q s f ≡ pause (past c d k q reached s f)
    unfolding path
    enter_empty e = by_node node.Empty e

    pub enter_keep : n ≡ node.KeepOut → enter c d k q s f ≡ pause (past c d k q reached (record s { keep = s.place }) f)
    unfolding path
    enter_keep e = by_node node.KeepOut e

    pub enter_one : (item : Item) → n ≡ node.One item → enter c d k q s f
        ≡ pause (reaching c.setting (item_reaches c.setting.scene item s.place) s
        (going (after_item c.setting.scene item s.place) s (past c d k q) f))
    unfolding path
    enter_one item e = by_node (node.One item) e

    pub enter_break : n ≡ node.Break → enter c d k q s f
        ≡ pause (reaching c.setting (break_reaches c.setting.scene s.place) s
        (going (after_break c.setting.scene s.place) s (past c d k q) f))
    unfolding path
    enter_break e = by_node node.Break e

    pub enter_anchor : (kind : AnchorKind) → n ≡ node.Anchor kind → enter c d k q s f
        ≡ pause (reaching c.setting (anchor_reaches c.setting.scene kind s.place)
        (record s { early = earliest c.setting.scene kind s.place s.early })
        (elim (holds c.setting.scene kind s.place) [
          | true ↦ past c d k q reached (record s { early = earliest c.setting.scene kind s.place s.early }) f
          | false ↦ f
        ]))
    unfolding path
    enter_anchor kind e = by_node (node.Anchor kind) e

    pub enter_ref : (ns : List ℕ) (caseless : Bool) → n ≡ node.Ref ns caseless → enter c d k q s f
        ≡ pause (reaching c.setting (referred_reaches c s.place (first_set s.caps ns) caseless) s
        (elim (first_set s.caps ns) [
          | None ↦ elim c.setting.options.match_unset_backref [ true ↦ past c d k q reached s f | false ↦ f ]
          | Some span ↦ going (after_ref c.setting.scene span.from span.to caseless s.place) s (past c d k q) f
        ]))
    unfolding path
    enter_ref ns caseless e = by_node (node.Ref ns caseless) e ∙ ap pause (ref_first ns caseless s (past c d k q) f)

    pub enter_group : (ks : List ℕ) → Alone k ks (k.hand q) → n ≡ node.Group None ks
        → enter c d k q s f ≡ pause (focus c (first_next q ks) d k s f)
    unfolding path
    enter_group ks a e =
        let t : tree.group None (row (map (tree_at c.trees) ks)) ≡ tree_of c q = tree_by q n i (node.Group None ks) e in
        by_node (node.Group None ks) e
        ∙ ap (λ (xs : List Path). pause (branch_paths c.setting xs s (past c d k q) f (k.hand q)))
        (row_deep d z ks deep)
        ∙ ap (λ (x : Nested). pause (branch_paths c.setting (part_paths c d ks) s (beyond_by c x d k q) f (k.hand q))) t
        ∙ ap pause (sym (first_here q d ks (branched_group q n i None ks e) k (k.hand q) a
        (agreed (k.hand q) (k.hand q) refl) s f (ap is_behind (sym t))))

    pub enter_capture : (m : ℕ) (ks : List ℕ) → n ≡ node.Group (Some m) ks → enter c d k q s f
        ≡ pause (holding c.setting 1 s (λ t. branch_paths c.setting (part_paths c d ks) t
        (close_from c (tree_of c q) s.place (past c d k q)) (pause f) (k.hand q)))
    unfolding path
    enter_capture m ks e =
        let t : tree.group (Some m) (row (map (tree_at c.trees) ks)) ≡ tree_of c q =
        tree_by q n i (node.Group (Some m) ks) e in
        let K : Follow = close_from c (tree_of c q) s.place (past c d k q) in
        let closes : (λ how u x. close c.setting m s.place how u (past c d k q) x) ≡ K =
        ap (λ z. close_from c z s.place (past c d k q)) t in
        by_node (node.Group (Some m) ks) e
        ∙ ap pause
        (holding_same c.setting 1 s _ _
        (λ u.
        ap (λ (xs : List Path). branch_paths c.setting xs u
        (λ how v x. close c.setting m s.place how v (past c d k q) x) (pause f) (k.hand q))
        (row_deep d z ks deep)
        ∙ ap (λ (z : Follow). branch_paths c.setting (part_paths c d ks) u z (pause f) (k.hand q)) closes))

    -- an atomic group over this repeat of one item, or over none
    atomic_row : (ks : List ℕ) → n ≡ node.Atomic ks → (o : Option Many)
        → only_many (row (map (tree_at c.trees) ks)) ≡ o → enter c d k q s f
        ≡ atomic_over c.setting o
        (branch_paths c.setting (row_paths c.setting z (paths c.setting z) (row (map (tree_at c.trees) ks)))) s
        (past c d k q) f (k.hand q)
    unfolding path
    atomic_row ks e o only =
        by_node (node.Atomic ks) e
        ∙ ap (λ (m : Option Many). atomic_over c.setting m
        (branch_paths c.setting (row_paths c.setting z (paths c.setting z) (row (map (tree_at c.trees) ks)))) s
        (past c d k q) f (k.hand q)) only

    pub enter_possessive : (ks : List ℕ) → n ≡ node.Atomic ks → (m : Many)
        → only_many (row (map (tree_at c.trees) ks)) ≡ Some m
        → enter c d k q s f ≡ possessive_path c.setting m s (past c d k q) f (k.hand q)
    enter_possessive ks e m only = atomic_row ks e (Some m) only

    pub enter_atomic : (ks : List ℕ) → n ≡ node.Atomic ks → only_many (row (map (tree_at c.trees) ks)) ≡ None
        → enter c d k q s f
        ≡ pause (holding c.setting 1 s (λ t. branch_paths c.setting (part_paths c d ks) t
        (λ how u e. leave c.setting s how u (past c d k q) f) (pause f) (k.hand q)))
    enter_atomic ks e none =
        atomic_row ks e None none
        ∙ ap (λ (xs : List Path). pause
        (holding c.setting 1 s (λ t. branch_paths c.setting xs t
        (λ how u e. leave c.setting s how u (past c d k q) f) (pause f) (k.hand q)))) (row_deep d z ks deep)

    -- the branches of a lookaround
    look_kids : (ahead positive once : Bool) (ks : List ℕ) (t : Nested)
        → tree.look ahead positive once (row (map (tree_at c.trees) ks)) ≡ t →
        path c.setting z (paths c.setting z) (tree.look ahead positive once (row (map (tree_at c.trees) ks))) s
        (past c d k q) f (k.hand q)
        ≡ look_path c.setting positive once (branch_paths c.setting (kid_paths c t d ks)) s (past c d k q) f (k.hand q)
    unfolding path
    look_kids true positive once ks t e =
        ap (λ (xs : List Path). look_path c.setting positive once (branch_paths c.setting xs) s (past c d k q) f
        (k.hand q)) (look_row d z deep true positive once ks t e)
    look_kids false positive once ks t e =
        ap (λ (xs : List Path). look_path c.setting positive once (branch_paths c.setting xs) s (past c d k q) f
        (k.hand q)) (look_row d z deep false positive once ks t e)

    -- a lookaround
    pub enter_look : (ahead positive once : Bool) (ks : List ℕ) → n ≡ node.Look ahead positive once ks
        → enter c d k q s f
        ≡ look_path c.setting positive once (branch_paths c.setting (kid_paths c (tree_of c q) d ks)) s (past c d k q)
        f (k.hand q)
    enter_look ahead positive once ks e =
        by_node (node.Look ahead positive once ks) e ∙ look_kids ahead positive once ks (tree_of c q)
        (tree_by q n i (node.Look ahead positive once ks) e)

    -- a call
    pub enter_call : (m : ℕ) → n ≡ node.Call m → enter c d k q s f ≡ call_path c.setting (paths c.setting z) m s
        (past c d k q) f (k.hand q)
    unfolding path
    enter_call m e = by_node (node.Call m) e

    pub enter_verb : (v : Verb) → n ≡ node.VerbNode v → enter c d k q s f ≡ pause
        (verb_path c.setting v s (past c d k q) f (k.hand q))
    unfolding path
    enter_verb v e = by_node (node.VerbNode v) e

    -- A condition.

    first_is : (p : ℕ) (u : State) (K : Follow) (m : Moves) (h : Handler)
        → path c.setting z (paths c.setting z) (tree_of c p) u K m h ≡ paths c.setting d (tree_of c p) u K m h
    first_is p u K m h = sym (paths_deep d z (tree_of c p) u K m h deep)

    other_is : (no' : Option ℕ) (u : State) (K : Follow) (m : Moves) (h : Handler) →
        other_path c.setting z (paths c.setting z) (other_of c.trees no') u K m h ≡ other_from c
        (other_of c.trees no') d u K m h
    unfolding path
    other_is None u K m h = refl
    other_is (Some p) u K m h = first_is p u K m h

    -- where a test that is no lookaround holds, or not
    enter_chosen : (test : Cond) (yes' : ℕ) (no' : Option ℕ) → n ≡ node.Cond test yes' no' → (holds : Bool) →
        choose_path holds (path c.setting z (paths c.setting z) (tree_of c yes'))
        (other_path c.setting z (paths c.setting z) (other_of c.trees no')) s (past c d k q) f (k.hand q)
        ≡ pause (chosen_from c (tree_of c q) holds d s (past c d k q) f (k.hand q))
    enter_chosen test yes' no' e true =
        ap pause (first_is yes' s (past c d k q) f (k.hand q))
        ∙ ap (λ t. pause (chosen_from c t true d s (past c d k q) f (k.hand q)))
        (tree_by q n i (node.Cond test yes' no') e)
    enter_chosen test yes' no' e false =
        ap pause (other_is no' s (past c d k q) f (k.hand q))
        ∙ ap (λ t. pause (chosen_from c t false d s (past c d k q) f (k.hand q)))
        (tree_by q n i (node.Cond test yes' no') e)

    pub enter_any_set : (ns : List ℕ) (yes' : ℕ) (no' : Option ℕ) → n ≡ node.Cond (cond.AnySet ns) yes' no' →
        enter c d k q s f ≡ pause (chosen_from c (tree_of c q) (some_set s.caps ns) d s (past c d k q) f (k.hand q))
    unfolding path
    enter_any_set ns yes' no' e = by_node (node.Cond (cond.AnySet ns) yes' no') e
        ∙ enter_chosen (cond.AnySet ns) yes' no' e (some_set s.caps ns)

    pub enter_never : (yes' : ℕ) (no' : Option ℕ) → n ≡ node.Cond cond.Never yes' no' →
        enter c d k q s f ≡ pause (chosen_from c (tree_of c q) false d s (past c d k q) f (k.hand q))
    unfolding path
    enter_never yes' no' e = by_node (node.Cond cond.Never yes' no') e ∙ enter_chosen cond.Never yes' no' e false

    pub enter_in_call : (yes' : ℕ) (no' : Option ℕ) → n ≡ node.Cond cond.InCall yes' no' →
        enter c d k q s f ≡ pause (chosen_from c (tree_of c q) (is_called s.calls) d s (past c d k q) f (k.hand q))
    unfolding path
    enter_in_call yes' no' e = by_node (node.Cond cond.InCall yes' no') e
        ∙ enter_chosen cond.InCall yes' no' e (is_called s.calls)

    pub enter_in_call_of : (ns : List ℕ) (yes' : ℕ) (no' : Option ℕ) → n ≡ node.Cond (cond.InCallOf ns) yes' no' →
        enter c d k q s f ≡ pause (chosen_from c (tree_of c q) (is_called_of s.calls ns) d s (past c d k q) f
        (k.hand q))
    unfolding path
    enter_in_call_of ns yes' no' e = by_node (node.Cond (cond.InCallOf ns) yes' no') e
        ∙ enter_chosen (cond.InCallOf ns) yes' no' e (is_called_of s.calls ns)

    -- a lookaround as a test
    module _ (p : ℕ) (yes' : ℕ) (no' : Option ℕ) (e : n ≡ node.Cond (cond.Assert p) yes' no') where
      first_path : path c.setting z (paths c.setting z) (tree_of c yes') ≡ chosen_from c (tree_of c q) true d
      first_path = path_same _ _ (λ u K m h. first_is yes' u K m h
          ∙ ap (λ t. chosen_from c t true d u K m h) (tree_by q n i (node.Cond (cond.Assert p) yes' no') e))

      second_path : other_path c.setting z (paths c.setting z) (other_of c.trees no') ≡ chosen_from c (tree_of c q)
          false d
      second_path = path_same _ _ (λ u K m h. other_is no' u K m h
          ∙ ap (λ t. chosen_from c t false d u K m h) (tree_by q n i (node.Cond (cond.Assert p) yes' no') e))

      test_kids : (ahead positive once : Bool) (ks : List ℕ) (t : Nested)
          → tree.look ahead positive once (row (map (tree_at c.trees) ks)) ≡ t → (P P' : Path) (K : Follow) →
          test_path c.setting z (paths c.setting z) (tree.assert ahead positive once (row (map (tree_at c.trees) ks)))
          P P' s K f (k.hand q)
          ≡ assert_path c.setting positive (branch_paths c.setting (kid_paths c t d ks)) P P' s K f (k.hand q)
      unfolding path
      test_kids true positive once ks t l P P' K =
          ap (λ (xs : List Path). assert_path c.setting positive (branch_paths c.setting xs) P P' s K f (k.hand q))
          (look_row d z deep true positive once ks t l)
      test_kids false positive once ks t l P P' K =
          ap (λ (xs : List Path). assert_path c.setting positive (branch_paths c.setting xs) P P' s K f (k.hand q))
          (look_row d z deep false positive once ks t l)

      asserted : (ahead positive once : Bool) (ks : List ℕ)
          → tree_of c p ≡ tree.look ahead positive once (row (map (tree_at c.trees) ks)) →
          enter c d k q s f
          ≡ assert_path c.setting positive (branch_paths c.setting (kid_paths c (tree_of c p) d ks))
          (chosen_from c (tree_of c q) true d) (chosen_from c (tree_of c q) false d) s (past c d k q) f (k.hand q)
      unfolding path
      asserted ahead positive once ks t =
          let P : Path = path c.setting z (paths c.setting z) (tree_of c yes') in
          let P' : Path = other_path c.setting z (paths c.setting z) (other_of c.trees no') in
          let K : Follow = past c d k q in
          by_node (node.Cond (cond.Assert p) yes' no') e
          ∙ ap (λ u. test_path c.setting z (paths c.setting z) (test_of u) P P' s K f (k.hand q)) t
          ∙ test_kids ahead positive once ks (tree_of c p) (sym t) P P' K
          ∙ ap (λ (x : Path). assert_path c.setting positive (branch_paths c.setting (kid_paths c (tree_of c p) d ks))
          x P' s K f (k.hand q)) first_path
          ∙ ap (λ (x : Path). assert_path c.setting positive (branch_paths c.setting (kid_paths c (tree_of c p) d ks))
          (chosen_from c (tree_of c q) true d) x s K f (k.hand q)) second_path

      -- where it has an outcome, the first branch is run if it is positive, and else the second
      pub enter_test : (ahead positive once : Bool) (ks : List ℕ)
          → tree_of c p ≡ tree.look ahead positive once (row (map (tree_at c.trees) ks)) →
          enter c d k q s f
          ≡ tested_path c.setting (branch_paths c.setting (kid_paths c (tree_of c p) d ks))
          (chosen_from c (tree_of c q) positive d) (chosen_from c (tree_of c q) (not positive) d) s (past c d k q)
          f (k.hand q)
      enter_test ahead true once ks t = asserted ahead true once ks t
      enter_test ahead false once ks t = asserted ahead false once ks t

      -- a lookaround after a callout
      looked : (r : ℕ) (ahead positive once : Bool) (ks : List ℕ)
          → tree_of c r ≡ tree.look ahead positive once (row (map (tree_at c.trees) ks)) →
          test_path c.setting z (paths c.setting z) (tree.assert ahead positive once (row (map (tree_at c.trees) ks)))
          (path c.setting z (paths c.setting z) (tree_of c yes'))
          (other_path c.setting z (paths c.setting z) (other_of c.trees no')) s (past c d k q) f (k.hand q)
          ≡ assert_path c.setting positive (branch_paths c.setting (kid_paths c (tree_of c r) d ks))
          (chosen_from c (tree_of c q) true d) (chosen_from c (tree_of c q) false d) s (past c d k q) f (k.hand q)
      looked r ahead positive once ks t =
          let P' : Path = other_path c.setting z (paths c.setting z) (other_of c.trees no') in
          let K : Follow = past c d k q in
          test_kids ahead positive once ks (tree_of c r) (sym t)
          (path c.setting z (paths c.setting z) (tree_of c yes')) P' K
          ∙ ap (λ (x : Path). assert_path c.setting positive (branch_paths c.setting (kid_paths c (tree_of c r) d ks))
          x P' s K f (k.hand q)) first_path
          ∙ ap (λ (x : Path). assert_path c.setting positive (branch_paths c.setting (kid_paths c (tree_of c r) d ks))
          (chosen_from c (tree_of c q) true d) x s K f (k.hand q)) second_path

      tested : (r : ℕ) (ahead positive once : Bool) (ks : List ℕ)
          → tree_of c r ≡ tree.look ahead positive once (row (map (tree_at c.trees) ks)) →
          test_path c.setting z (paths c.setting z) (tree.assert ahead positive once (row (map (tree_at c.trees) ks)))
          (path c.setting z (paths c.setting z) (tree_of c yes'))
          (other_path c.setting z (paths c.setting z) (other_of c.trees no')) s (past c d k q) f (k.hand q)
          ≡ tested_path c.setting (branch_paths c.setting (kid_paths c (tree_of c r) d ks))
          (chosen_from c (tree_of c q) positive d) (chosen_from c (tree_of c q) (not positive) d) s (past c d k q)
          f (k.hand q)
      tested r ahead true once ks t = looked r ahead true once ks t
      tested r ahead false once ks t = looked r ahead false once ks t

      pub enter_called : (x : Callout) (r : ℕ) (ahead positive once : Bool) (ks : List ℕ) →
          tree_of c p ≡ tree.seq (tree.more (tree.callout x)
          (tree.more (tree.look ahead positive once (row (map (tree_at c.trees) ks))) tree.none)) →
          tree_of c r ≡ tree.look ahead positive once (row (map (tree_at c.trees) ks)) →
          enter c d k q s f
          ≡ pause (noted (shown (block_of x s)) (answered (c.setting.reply (block_of x s))
          (tested_path c.setting (branch_paths c.setting (kid_paths c (tree_of c r) d ks))
          (chosen_from c (tree_of c q) positive d) (chosen_from c (tree_of c q) (not positive) d) s
          (past c d k q) f (k.hand q))
          f))
      unfolding path
      enter_called x r ahead positive once ks t u =
          let P : Path = path c.setting z (paths c.setting z) (tree_of c yes') in
          let P' : Path = other_path c.setting z (paths c.setting z) (other_of c.trees no') in
          by_node (node.Cond (cond.Assert p) yes' no') e
          ∙ ap (λ v. test_path c.setting z (paths c.setting z) (test_of v) P P' s (past c d k q) f (k.hand q)) t
          ∙ ap (λ m. pause (noted (shown (block_of x s)) (answered (c.setting.reply (block_of x s)) m f)))
          (tested r ahead positive once ks u)

    pub enter_callout : (number from to at len : ℕ) → n ≡ node.Callout number from to at len →
        enter c d k q s f
        ≡ pause (noted (shown (block_of (callout_at number from to at len) s))
        (answered (c.setting.reply (block_of (callout_at number from to at len) s)) (past c d k q reached s f) f))
    unfolding path
    enter_callout number from to at len e = by_node (node.Callout number from to at len) e

    pub enter_repeat : (body low : ℕ) (high : Option ℕ) (lazily : Bool) → n ≡ node.Repeat body low high lazily →
        enter c d k q s f ≡ focus c (Offer q 0) d k s f
    enter_repeat body low high lazily e =
        let t : tree.repeat (tree_of c body) low high lazily ≡ tree_of c q =
        tree_by q n i (node.Repeat body low high lazily) e in
        let none_less : high ≡ less 0 high = less_none high in
        let zero_less : d ≡ d - 0 = omega arith in
        let low_less : low ≡ low - 0 = omega arith in
        ap (λ z. paths c.setting d z s (past c d k q) f (k.hand q)) (sym t)
        ∙ ap (λ x. paths c.setting x (tree.repeat (tree_of c body) low high lazily) s (past c d k q) f (k.hand q))
        zero_less
        ∙ ap (λ x. paths c.setting (d - 0) (tree.repeat (tree_of c body) x high lazily) s (past c d k q) f (k.hand q))
        low_less
        ∙ ap (λ x. paths c.setting (d - 0) (tree.repeat (tree_of c body) (low - 0) x lazily) s (past c d k q) f
        (k.hand q)) none_less
        ∙ ap (λ z. offer_from c z 0 d s (past c d k q) f (k.hand q)) t

    pub enter_many : (item : Item) (low : ℕ) (high : Option ℕ) (lazily : Bool)
        → n ≡ node.OneRepeat item low high lazily →
        enter c d k q s f ≡ pause (many_paths c.setting item low high lazily
        (longest_run c.setting.scene item high s.place) s (past c d k q) f)
    unfolding path
    enter_many item low high lazily e = by_node (node.OneRepeat item low high lazily) e

  -- A repeat after some turns.

  repeat_below : (d : ℕ) (body : Nested) (low : ℕ) (high : Option ℕ) (lazily : Bool) (s : State) (k : Follow)
      (f : Moves) (h : Handler) → 0 < low →
      paths c.setting (suc d) (tree.repeat body low high lazily) s k f h ≡ pause
      (turn_path c.setting (paths c.setting d) body low high lazily s k f h)
  unfolding paths path repeat_path
  repeat_below d body zero high lazily s k f h lt = absurd (omega (arith, lt))
  repeat_below d body (suc low) high lazily s k f h lt = refl

  some_left : (n : ℕ) → is_none_left (Some (suc n)) ≡ true → ⊥
  some_left n e = false≢true (sym (ne_eqb (suc n) 0 (λ x. omega (arith, x))) ∙ e)

  repeat_full : (d : ℕ) (body : Nested) (low : ℕ) (high : Option ℕ) (lazily : Bool) (s : State) (k : Follow)
      (f : Moves) (h : Handler) → low ≡ 0 → is_none_left high ≡ true →
      paths c.setting (suc d) (tree.repeat body low high lazily) s k f h ≡ pause (k reached s f)
  unfolding paths path repeat_path
  repeat_full d body (suc low) high lazily s k f h x e = absurd (omega (arith, x))
  repeat_full d body zero None lazily s k f h x e = absurd (false≢true e)
  repeat_full d body zero (Some zero) lazily s k f h x e = refl
  repeat_full d body zero (Some (suc n)) lazily s k f h x e = absurd (some_left n e)

  repeat_greedy : (d : ℕ) (body : Nested) (low : ℕ) (high : Option ℕ) (s : State) (k : Follow) (f : Moves)
      (h : Handler) → low ≡ 0 → is_none_left high ≡ false →
      paths c.setting (suc d) (tree.repeat body low high false) s k f h ≡ pause
      (turn_path c.setting (paths c.setting d) body low high false s k (k reached s f) h)
  unfolding paths path repeat_path
  repeat_greedy d body (suc low) high s k f h x e = absurd (omega (arith, x))
  repeat_greedy d body zero None s k f h x e = refl
  repeat_greedy d body zero (Some zero) s k f h x e = absurd (false≢true (sym e))
  repeat_greedy d body zero (Some (suc n)) s k f h x e = refl

  repeat_lazy : (d : ℕ) (body : Nested) (low : ℕ) (high : Option ℕ) (s : State) (k : Follow) (f : Moves) (h : Handler)
      → low ≡ 0 → is_none_left high ≡ false →
      paths c.setting (suc d) (tree.repeat body low high true) s k f h
      ≡ pause (holding c.setting 1 s
      (λ t. k reached t (pause (turn_path c.setting (paths c.setting d) body low high true s k f h))))
  unfolding paths path repeat_path
  repeat_lazy d body (suc low) high s k f h x e = absurd (omega (arith, x))
  repeat_lazy d body zero None s k f h x e = refl
  repeat_lazy d body zero (Some zero) s k f h x e = absurd (false≢true (sym e))
  repeat_lazy d body zero (Some (suc n)) s k f h x e = refl

  -- A repeat of the pattern after i turns, where d is one more than the depth after a further turn.
  module _ (q i d : ℕ) (body : Nested) (low : ℕ) (high : Option ℕ) (lazily : Bool)
      (t : tree.repeat body low high lazily ≡ tree_of c q)
      (k : Outside) (s : State) (f : Moves) (deep : i < d) where
    offer_is : focus c (Offer q i) d k s f ≡ paths c.setting (suc (d - suc i))
        (tree.repeat body (low - i) (less i high) lazily) s (past c d k q) f (k.hand q)
    offer_is =
        let e : d - i ≡ suc (d - suc i) = omega (arith, deep) in
        ap (λ x. offer_from c x i d s (past c d k q) f (k.hand q)) (sym t)
        ∙ ap (λ x. paths c.setting x (tree.repeat body (low - i) (less i high) lazily) s (past c d k q) f (k.hand q)) e

    pub begin_is : (m : Moves) → turn_path c.setting (paths c.setting (d - suc i)) body (low - i) (less i high) lazily
        s (past c d k q) m (k.hand q)
        ≡ begin_from c (tree_of c q) i d s (past c d k q) m (k.hand q)
    begin_is m = ap (λ x. begin_from c x i d s (past c d k q) m (k.hand q)) t

    pub offer_below : i < low → focus c (Offer q i) d k s f ≡ pause (focus c (Begin q i false) d k s f)
    offer_below lt =
        offer_is ∙ repeat_below (d - suc i) body (low - i) (less i high) lazily s (past c d k q) f (k.hand q)
        (omega (arith, lt)) ∙ ap pause (begin_is f)

    pub offer_full : low ≤ i → is_none_left (less i high) ≡ true
        → focus c (Offer q i) d k s f ≡ pause (past c d k q reached s f)
    offer_full ge e = offer_is ∙ repeat_full (d - suc i) body (low - i) (less i high) lazily s (past c d k q) f
        (k.hand q) (omega (arith, ge)) e

    pub offer_greedy : low ≤ i → is_none_left (less i high) ≡ false → lazily ≡ false
        → focus c (Offer q i) d k s f ≡ pause (focus c (Begin q i true) d k s f)
    offer_greedy ge e is =
        let K : Follow = past c d k q in
        offer_is
        ∙ ap (λ b. paths c.setting (suc (d - suc i)) (tree.repeat body (low - i) (less i high) b) s K f (k.hand q)) is
        ∙ repeat_greedy (d - suc i) body (low - i) (less i high) s K f (k.hand q) (omega (arith, ge)) e
        ∙ ap (λ b. pause (turn_path c.setting (paths c.setting (d - suc i)) body (low - i) (less i high) b s K
        (K reached s f) (k.hand q))) (sym is)
        ∙ ap pause (begin_is (K reached s f))

    pub offer_lazy : low ≤ i → is_none_left (less i high) ≡ false → lazily ≡ true → focus c (Offer q i) d k s f
        ≡ pause (holding c.setting 1 s (λ u. past c d k q reached u
        (pause (begin_from c (tree_of c q) i d s (past c d k q) f (k.hand q)))))
    offer_lazy ge e is =
        let K : Follow = past c d k q in
        offer_is
        ∙ ap (λ b. paths c.setting (suc (d - suc i)) (tree.repeat body (low - i) (less i high) b) s K f (k.hand q)) is
        ∙ repeat_lazy (d - suc i) body (low - i) (less i high) s K f (k.hand q) (omega (arith, ge)) e
        ∙ ap (λ b. pause
        (holding c.setting 1 s
        (λ u. K reached u
        (pause (turn_path c.setting (paths c.setting (d - suc i)) body (low - i) (less i high) b s K f
        (k.hand q)))))) (sym is)
        ∙ ap (λ m. pause (holding c.setting 1 s (λ u. K reached u (pause m)))) (begin_is f)

    -- a further turn
    pub begin_step : (b : Bool) → focus c (Begin q i b) d k s f ≡ stepped (holding c.setting 1 s (λ u.
        paths c.setting (d - suc i) body u (turned_from c (tree_of c q) i d s (past c d k q) (k.hand q))
        (pause (if b then past c d k q reached s f else f)) (k.hand q)))
    unfolding turn_path
    begin_step b =
        let K : Follow = past c d k q in
        let m : Moves = if b then K reached s f else f in
        sym (begin_is m)
        ∙ ap (λ (l : Follow). stepped
        (holding c.setting 1 s (λ u. paths c.setting (d - suc i) body u l (pause m) (k.hand q))))
        (ap (λ x. turned_from c x i d s K (k.hand q)) t)
