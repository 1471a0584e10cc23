-- The parts that the search comes to from a part.
use Rattle.std.proofs.Common.{◌≡◌, ◌∙◌, ℕ, suc, ◌<◌, ◌≤◌, Bool, true, false, if◌then◌else◌, List, [], ◌∷◌, ◌++◌, get_or}
use Rattle.std.proofs.Common.{All, Option, Some, None, IfSome, map, sym, ap, subst, arith}
use Rattle.std.proofs.lemmas.List.Elements.{All-nil, All-cons, All-head, All-tail, All-append, All-weaker}
use Rattle.pat_tree.specs.declared.nodes.Node.{Node}
use Rattle.pat_tree.specs.declared.nodes.Node.TheVariants as node
use Rattle.pat_tree.specs.Nested.{Nested, row, nest, tree_at}
use Rattle.pat_tree.specs.Rules.{kids_of, tests_of, number_in, asserted_by, is_test}
use Rattle.pat_tree.specs.Refs.{is_in}
use Rattle.node_flow.specs.Branches.{branch_if, branch_child}
use Rattle.node_flow.specs.Linked.{AreChained, AllFollowed, IsLinked}
use Rattle.node_flow.specs.LookBranches.{look_branch_child}
use Rattle.node_flow.proofs.Members.{in_at}
use Rattle.node_flow.specs.Order.{StandInTurn}
use Rattle.ordered_search.specs.Setting.{branch_lengths}
use Rattle.frame_state.specs.Behind.{IsFixed, AreFixed, HasFixed}
use Rattle.frame_state.specs.Ground.{Ground, tree_of, IsNode, IsGround, IsMeasuredIn, IsOfPattern, StandLater}
use Rattle.frame_state.specs.Ground.{BeginsBy, IsLooked, IsPart}
use Rattle.frame_state.proofs.BehindLemmas.{all_here, all_below}

module _ (c : Ground) where
  front_all : (P : ℕ → Type 0) (xs ys : List ℕ) → All P (xs ++ ys) → All P xs
  front_all P [] ys a = All-nil P
  front_all P (x ∷ xs) ys a = All-cons P x xs (All-head P x (xs ++ ys) a)
      (front_all P xs ys (All-tail P x (xs ++ ys) a))

  back_all : (P : ℕ → Type 0) (xs ys : List ℕ) → All P (xs ++ ys) → All P ys
  back_all P [] ys a = a
  back_all P (x ∷ xs) ys a = back_all P xs ys (All-tail P x (xs ++ ys) a)

  -- Where parts stand.

  later_from : (q k : ℕ) (ps : List ℕ) → c.past k ≤ c.past q → StandLater c q ps → StandLater c k ps
  later_from q k [] le l = tt
  later_from q k (p ∷ ps) le l = let first = l.0 in (omega (arith, first, le), l.1)

  -- a branch that began by a part began by one that stands later
  pub begins_later : (q k p : ℕ) → c.rank q ≤ c.rank k → BeginsBy c q p → BeginsBy c k p
  begins_later q k p le by =
      (elim (c.branch p) as (λ (o : Option ℕ). IfSome o (λ b. c.rank b ≤ c.rank q) → IfSome o
      (λ b. c.rank b ≤ c.rank k)) [
        | None ↦ λ h. h
        | Some b ↦ λ h. omega (arith, h, le)
      ]) by

  begins_all : (q k : ℕ) (ps : List ℕ) → c.rank q ≤ c.rank k → All (BeginsBy c q) ps → All (BeginsBy c k) ps
  begins_all q k ps le a = All-weaker (BeginsBy c q) (BeginsBy c k) (λ p by. begins_later q k p le by) ps a

  branch_as : (P : ℕ → Type 0) (p : ℕ) (o : Option ℕ) → c.branch p ≡ o → IfSome o P → IfSome (c.branch p) P
  branch_as P p o e h = subst (λ (x : Option ℕ). IfSome x P) (sym e) h

  begins_as : (k p : ℕ) (o : Option ℕ) → c.branch p ≡ o → IfSome o (λ b. c.rank b ≤ c.rank k) → BeginsBy c k p
  begins_as k p o e h = branch_as (λ b. c.rank b ≤ c.rank k) p o e h

  -- what holds of a child, and of the branch around its node, holds of that around the child
  module _ (P : ℕ → Type 0) (k : ℕ) (own : P k) where
    branch_own_if : (bs : List ℕ) (o : Option ℕ) → c.branch k ≡ branch_if bs o k → IfSome o P → IfSome (c.branch k) P
    branch_own_if [] o e h = branch_as P k o e h
    branch_own_if (b ∷ []) o e h = branch_as P k o e h
    branch_own_if (b ∷ b' ∷ bs) o e h = branch_as P k (Some k) e own

    branch_chosen : (b : Bool) (o : Option ℕ) → c.branch k ≡ (if b then o else None) → IfSome o P
        → IfSome (c.branch k) P
    branch_chosen true o e h = branch_as P k o e h
    branch_chosen false o e h = branch_as P k None e tt

    kid_branch : (n : Node) (o : Option ℕ) → c.branch k ≡ branch_child n o k → IfSome o P → IfSome (c.branch k) P
    kid_branch (node.Seq kids) o e h = branch_as P k o e h
    kid_branch (node.Group None branches) o e h = branch_own_if branches o e h
    kid_branch (node.Group (Some m) branches) o e h = branch_own_if branches None e tt
    kid_branch (node.Atomic branches) o e h = branch_own_if branches None e tt
    kid_branch (node.Look ahead positive once branches) o e h = branch_own_if branches None e tt
    kid_branch (node.Cond test yes' no') o e h = branch_chosen (is_in k (yes' ∷ number_in no')) o e h
    kid_branch node.Empty o e h = branch_as P k None e tt
    kid_branch (node.One item) o e h = branch_as P k None e tt
    kid_branch node.Break o e h = branch_as P k None e tt
    kid_branch (node.Repeat body low high lazily) o e h = branch_as P k None e tt
    kid_branch (node.OneRepeat item low high lazily) o e h = branch_as P k None e tt
    kid_branch (node.Call m) o e h = branch_as P k None e tt
    kid_branch (node.Ref ns caseless) o e h = branch_as P k None e tt
    kid_branch (node.Anchor kind) o e h = branch_as P k None e tt
    kid_branch node.KeepOut o e h = branch_as P k None e tt
    kid_branch (node.VerbNode v) o e h = branch_as P k None e tt
    kid_branch (node.Callout number from to at len) o e h = branch_as P k None e tt

  -- The branch of a lookbehind around a child.

  look_as : (p : ℕ) (o : Option ℕ) → c.look_branch p ≡ o
      → IfSome o (λ b. (b ≤ c.root) × IsFixed (branch_lengths c.setting) (tree_of c b)) → IsLooked c p
  look_as p o e h = subst (λ (x : Option ℕ). IfSome x (λ b. (b ≤ c.root) × IsFixed (branch_lengths c.setting)
      (tree_of c b))) (sym e) h

  look_chosen : (p : ℕ) (b : Bool) (o : Option ℕ) → c.look_branch p ≡ (if b then o else None)
      → IfSome o (λ b. (b ≤ c.root) × IsFixed (branch_lengths c.setting) (tree_of c b)) → IsLooked c p
  look_chosen p true o e h = look_as p o e h
  look_chosen p false o e h = look_as p None e tt

  pub fixed_row : (ks : List ℕ) → AreFixed (branch_lengths c.setting) (row (map (tree_at c.trees) ks))
      → All (λ k. IsFixed (branch_lengths c.setting) (tree_of c k)) ks
  fixed_row [] a = All-nil (λ k. IsFixed (branch_lengths c.setting) (tree_of c k))
  fixed_row (k ∷ ks) a = All-cons (λ k. IsFixed (branch_lengths c.setting) (tree_of c k)) k ks a.0 (fixed_row ks a.1)

  module _ (outer : Option ℕ)
      (h : IfSome outer (λ b. (b ≤ c.root) × IsFixed (branch_lengths c.setting) (tree_of c b))) where
    looked_kids : (n : Node) → HasFixed (branch_lengths c.setting) (nest c.trees n)
        → All (λ k. k ≤ c.root) (kids_of n) → All (λ k. c.look_branch k ≡ look_branch_child n outer k) (kids_of n)
        → All (IsLooked c) (kids_of n)
    looked_kids (node.Seq ks) f w u = λ i d m. look_as (get_or ks i d) outer (u i d m) h
    looked_kids (node.Group None ks) f w u = λ i d m. look_as (get_or ks i d) outer (u i d m) h
    looked_kids (node.Group (Some m') ks) f w u = λ i d m. look_as (get_or ks i d) None (u i d m) tt
    looked_kids (node.Atomic ks) f w u = λ i d m. look_as (get_or ks i d) None (u i d m) tt
    looked_kids (node.Look false positive once ks) f w u = λ i d m.
        look_as (get_or ks i d) (Some (get_or ks i d)) (u i d m) (w i d m, fixed_row ks f i d m)
    looked_kids (node.Look true positive once ks) f w u = λ i d m. look_as (get_or ks i d) None (u i d m) tt
    looked_kids (node.Cond test yes' no') f w u = λ i d m.
        let k : ℕ = get_or (kids_of (node.Cond test yes' no')) i d in
        look_chosen k (is_in k (yes' ∷ number_in no')) outer (u i d m) h
    looked_kids (node.Repeat body low high lazily) f w u = λ i d m.
        look_as (get_or (body ∷ []) i d) None (u i d m) tt
    looked_kids node.Empty f w u = All-nil (IsLooked c)
    looked_kids (node.One item) f w u = All-nil (IsLooked c)
    looked_kids node.Break f w u = All-nil (IsLooked c)
    looked_kids (node.OneRepeat item low high lazily) f w u = All-nil (IsLooked c)
    looked_kids (node.Call m) f w u = All-nil (IsLooked c)
    looked_kids (node.Ref ns caseless) f w u = All-nil (IsLooked c)
    looked_kids (node.Anchor kind) f w u = All-nil (IsLooked c)
    looked_kids node.KeepOut f w u = All-nil (IsLooked c)
    looked_kids (node.VerbNode v) f w u = All-nil (IsLooked c)
    looked_kids (node.Callout number from to at len) f w u = All-nil (IsLooked c)

  -- the branch around a child began by then, where that around its node did
  kid_begins : (n : Node) (o : Option ℕ) (k : ℕ) → c.branch k ≡ branch_child n o k
      → IfSome o (λ b. c.rank b ≤ c.rank k) → BeginsBy c k k
  kid_begins n o k e h = kid_branch (λ b. c.rank b ≤ c.rank k) k (omega arith) n o e h

  module _ (spans : (k : ℕ) → c.rank k ≤ c.past k) where
    -- parts in turn stand between their ends
    between : (from : ℕ) (ks : List ℕ) (to : ℕ) → StandInTurn c.rank c.past from ks to
        → (from ≤ to) × All (λ k. (from ≤ c.rank k) × (c.past k ≤ to)) ks
    between from [] to t = (omega (arith, t), All-nil (λ k. (from ≤ c.rank k) × (c.past k ≤ to)))
    between from (k ∷ ks) to t =
        let at : c.rank k ≡ from = t.0 in
        let wide : c.rank k ≤ c.past k = spans k in
        let rest = between (c.past k) ks to t.1 in
        let later : c.past k ≤ to = rest.0 in (
          omega (arith, at, wide, later),
          All-cons (λ x. (from ≤ c.rank x) × (c.past x ≤ to)) k ks (omega (arith, at), later)
              (All-weaker (λ x. (c.past k ≤ c.rank x) × (c.past x ≤ to)) (λ x. (from ≤ c.rank x) × (c.past x ≤ to))
              (λ x b. let low : c.past k ≤ c.rank x = b.0 in (omega (arith, low, at, wide), b.1)) ks rest.1),
        )

    -- The children of a part q, where what follows it is `after`.
    module _ (q : ℕ) (after : List ℕ) (later : StandLater c q after) (own : BeginsBy c q q)
        (begun : All (BeginsBy c q) after) (looked_on : All (λ p. c.look_branch p ≡ c.look_branch q) after) where
      -- those that follow q have the branch of a lookbehind around them that is around q
      on_after : (k : ℕ) → c.look_branch k ≡ c.look_branch q → All (λ p. c.look_branch p ≡ c.look_branch k) after
      on_after k same = All-weaker (λ p. c.look_branch p ≡ c.look_branch q) (λ p. c.look_branch p ≡ c.look_branch k)
          (λ p e. e ∙ sym same) after looked_on

      as_part : (k : ℕ) → IsOfPattern c k → All (IsOfPattern c) (c.rest k) → StandLater c k (c.rest k)
          → BeginsBy c k k → All (BeginsBy c k) (c.rest k) → IsLooked c k
          → All (λ p. c.look_branch p ≡ c.look_branch k) (c.rest k) → IsPart c k
      as_part k first followed stands by all looked on = record {
        within = first.0;
        measured = first.1;
        followed = followed;
        under = first.2;
        among = first.3;
        later = stands;
        begun = All-cons (BeginsBy c k) k (c.rest k) by all;
        looked = looked;
        looked_on = on;
      }

      stands_later : (k : ℕ) (ks : List ℕ) → StandInTurn c.rank c.past (c.past k) ks (c.past q)
          → StandLater c k (ks ++ after)
      stands_later k [] t = later_from q k after (omega (arith, t)) later
      stands_later k (x ∷ xs) t = let at : c.rank x ≡ c.past k = t.0 in (omega (arith, at), stands_later x xs t.1)

      -- parts that follow one another, before others
      chained_parts : (from : ℕ) (ks : List ℕ) → AreChained c.rest ks after → All (IsOfPattern c) ks
          → All (IsOfPattern c) after →
          c.rank q ≤ from → StandInTurn c.rank c.past from ks (c.past q) → All (BeginsBy c q) ks
          → All (IsLooked c) ks → All (λ p. c.look_branch p ≡ c.look_branch q) ks → All (IsPart c) ks
      chained_parts from [] l a b low t by looks sames = All-nil (IsPart c)
      chained_parts from (k ∷ ks) l a b low t by looks sames =
          let same : c.look_branch k ≡ c.look_branch q = All-head (λ p. c.look_branch p ≡ c.look_branch q) k ks sames in
          let rest_same : All (λ p. c.look_branch p ≡ c.look_branch k) (ks ++ after) =
          All-append (λ p. c.look_branch p ≡ c.look_branch k) ks after
          (All-weaker (λ p. c.look_branch p ≡ c.look_branch q) (λ p. c.look_branch p ≡ c.look_branch k)
          (λ p e. e ∙ sym same) ks (All-tail (λ p. c.look_branch p ≡ c.look_branch q) k ks sames)) (on_after k same) in
          let first = All-head (IsOfPattern c) k ks a in
          let others = All-tail (IsOfPattern c) k ks a in
          let wide : c.rank k ≤ c.past k = spans k in
          let at : c.rank k ≡ from = t.0 in
          let up : c.rank q ≤ c.rank k = omega (arith, at, low) in
          let all : All (BeginsBy c q) (ks ++ after) = All-append (BeginsBy c q) ks after
          (All-tail (BeginsBy c q) k ks by) begun in
          All-cons (IsPart c) k ks
          (as_part k first (subst (All (IsOfPattern c)) (sym l.0) (All-append (IsOfPattern c) ks after others b))
          (subst (StandLater c k) (sym l.0) (stands_later k ks t.1))
          (begins_later q k k up (All-head (BeginsBy c q) k ks by))
          (begins_all q k (c.rest k) up (subst (All (BeginsBy c q)) (sym l.0) all))
          (All-head (IsLooked c) k ks looks)
          (subst (All (λ p. c.look_branch p ≡ c.look_branch k)) (sym l.0) rest_same))
          (chained_parts (c.past k) ks l.1 others b (omega (arith, up, wide)) t.1 (All-tail (BeginsBy c q) k ks by)
          (All-tail (IsLooked c) k ks looks) (All-tail (λ p. c.look_branch p ≡ c.look_branch q) k ks sames))

      -- parts each of which others follow, which are those that follow q or none
      followed_parts : (then' ks : List ℕ) → StandLater c q then' → All (BeginsBy c q) then'
          → AllFollowed c.rest then' ks → All (IsOfPattern c) ks → All (IsOfPattern c) then' →
          All (λ k. (suc (c.rank q) ≤ c.rank k) × (c.past k ≤ c.past q)) ks → All (λ k. BeginsBy c k k) ks
          → All (IsLooked c) ks → All (λ k. All (λ p. c.look_branch p ≡ c.look_branch k) then') ks
          → All (IsPart c) ks
      followed_parts then' ks stands by l a b places owns looks ons = λ i d m.
          let k : ℕ = get_or ks i d in
          let low : suc (c.rank q) ≤ c.rank k = (places i d m).0 in
          let high : c.past k ≤ c.past q = (places i d m).1 in
          let up : c.rank q ≤ c.rank k = omega (arith, low) in
          as_part k (a i d m) (subst (All (IsOfPattern c)) (sym (l i d m)) b)
          (subst (StandLater c k) (sym (l i d m)) (later_from q k then' high stands))
          (owns i d m)
          (begins_all q k (c.rest k) up (subst (All (BeginsBy c q)) (sym (l i d m)) by))
          (looks i d m) (subst (All (λ p. c.look_branch p ≡ c.look_branch k)) (sym (l i d m)) (ons i d m))

      none_on : (ks : List ℕ) → All (λ k. All (λ p. c.look_branch p ≡ c.look_branch k) []) ks
      none_on ks = λ i d m. All-nil (λ p. c.look_branch p ≡ c.look_branch (get_or ks i d))

      all_on : (ks : List ℕ) → All (λ k. c.look_branch k ≡ c.look_branch q) ks
          → All (λ k. All (λ p. c.look_branch p ≡ c.look_branch k) after) ks
      all_on ks a = λ i d m. on_after (get_or ks i d) (a i d m)

      -- the branches of a condition
      chosen_on : (ks : List ℕ)
          → All (λ k. c.look_branch k ≡ (if is_in k ks then c.look_branch q else None)) ks
          → All (λ k. c.look_branch k ≡ c.look_branch q) ks
      chosen_on ks a = λ i d m. a i d m ∙ ap (λ (b : Bool). if b then c.look_branch q else None) (in_at ks i d m)

      outer_begins : (k : ℕ) → c.rank q ≤ c.rank k → IfSome (c.branch q) (λ b. c.rank b ≤ c.rank k)
      outer_begins k le = begins_later q k q le own

      parts_by : (n : Node) → IsLinked c.rest after n → All (IsOfPattern c) (kids_of n) → All (IsOfPattern c) after →
          StandInTurn c.rank c.past (suc (c.rank q)) (kids_of n) (c.past q)
          → All (λ k. c.branch k ≡ branch_child n (c.branch q) k) (kids_of n) →
          All (λ k. (suc (c.rank q) ≤ c.rank k) × (c.past k ≤ c.past q)) (kids_of n)
          → All (λ k. BeginsBy c k k) (kids_of n)
          → All (λ k. c.look_branch k ≡ look_branch_child n (c.look_branch q) k) (kids_of n)
          → All (IsLooked c) (kids_of n) → All (IsPart c) (kids_of n)
      parts_by node.Empty l a r t w places owns u ls = All-nil (IsPart c)
      parts_by (node.One item) l a r t w places owns u ls = All-nil (IsPart c)
      parts_by node.Break l a r t w places owns u ls = All-nil (IsPart c)
      parts_by (node.Seq ks) l a r t w places owns u ls =
          chained_parts (suc (c.rank q)) ks l a r (omega arith) t
          (λ i d m. begins_as q (get_or ks i d) (c.branch q) (w i d m) own) ls u
      parts_by (node.Group None ks) l a r t w places owns u ls = followed_parts after ks later begun l a r places
          owns ls (all_on ks u)
      parts_by (node.Group (Some m) ks) l a r t w places owns u ls =
          followed_parts [] ks tt (All-nil (BeginsBy c q)) l a (All-nil (IsOfPattern c)) places owns ls (none_on ks)
      parts_by (node.Repeat body low high lazily) l a r t w places owns u ls =
          followed_parts [] (body ∷ []) tt (All-nil (BeginsBy c q))
          (All-cons (λ k. c.rest k ≡ []) body [] l (All-nil (λ k. c.rest k ≡ []))) a (All-nil (IsOfPattern c))
          places owns ls (none_on (body ∷ []))
      parts_by (node.OneRepeat item low high lazily) l a r t w places owns u ls = All-nil (IsPart c)
      parts_by (node.Atomic ks) l a r t w places owns u ls =
          followed_parts [] ks tt (All-nil (BeginsBy c q)) l a (All-nil (IsOfPattern c)) places owns ls (none_on ks)
      parts_by (node.Look ahead positive once ks) l a r t w places owns u ls =
          followed_parts [] ks tt (All-nil (BeginsBy c q)) l a (All-nil (IsOfPattern c)) places owns ls (none_on ks)
      parts_by (node.Cond test yes' no') l a r t w places owns u ls =
          let P : ℕ → Type 0 = λ k. (suc (c.rank q) ≤ c.rank k) × (c.past k ≤ c.past q) in
          let tests : List ℕ = tests_of test in
          let ends : List ℕ = yes' ∷ number_in no' in
          All-append (IsPart c) tests ends
          (followed_parts [] tests tt (All-nil (BeginsBy c q)) l.0 (front_all (IsOfPattern c) tests ends a)
          (All-nil (IsOfPattern c)) (front_all P tests ends places)
          (front_all (λ k. BeginsBy c k k) tests ends owns) (front_all (IsLooked c) tests ends ls) (none_on tests))
          (followed_parts after ends later begun l.1 (back_all (IsOfPattern c) tests ends a) r
          (back_all P tests ends places) (back_all (λ k. BeginsBy c k k) tests ends owns)
          (back_all (IsLooked c) tests ends ls)
          (all_on ends (chosen_on ends
          (back_all (λ k. c.look_branch k ≡ (if is_in k ends then c.look_branch q else None))
          tests ends u))))
      parts_by (node.Call m) l a r t w places owns u ls = All-nil (IsPart c)
      parts_by (node.Ref ns caseless) l a r t w places owns u ls = All-nil (IsPart c)
      parts_by (node.Anchor kind) l a r t w places owns u ls = All-nil (IsPart c)
      parts_by node.KeepOut l a r t w places owns u ls = All-nil (IsPart c)
      parts_by (node.VerbNode v) l a r t w places owns u ls = All-nil (IsPart c)
      parts_by (node.Callout number from to at len) l a r t w places owns u ls = All-nil (IsPart c)

      parts_under : (n : Node) → IsLinked c.rest after n → All (IsOfPattern c) (kids_of n) → All (IsOfPattern c) after →
          StandInTurn c.rank c.past (suc (c.rank q)) (kids_of n) (c.past q)
          → All (λ k. c.branch k ≡ branch_child n (c.branch q) k) (kids_of n)
          → All (λ k. c.look_branch k ≡ look_branch_child n (c.look_branch q) k) (kids_of n)
          → All (IsLooked c) (kids_of n) → All (IsPart c) (kids_of n)
      parts_under n l a r t branched u v =
          let places = (between (suc (c.rank q)) (kids_of n) (c.past q) t).1 in
          let owns : All (λ k. BeginsBy c k k) (kids_of n) = λ i d m.
          let k : ℕ = get_or (kids_of n) i d in
          let low : suc (c.rank q) ≤ c.rank k = (places i d m).0 in
          kid_begins n (c.branch q) k (branched i d m) (outer_begins k (omega (arith, low))) in
          parts_by n l a r t branched places owns u v

  -- the children of a part
  pub kid_parts_of : (q : ℕ) (n : Node) → IsPart c q → nest c.trees n ≡ tree_of c q → All (λ k. k < q) (kids_of n)
      → IsLinked c.rest (c.rest q) n →
      All (λ k. is_test (tree_of c k) ≡ true) (asserted_by n) → All (λ k. c.under k ≡ true) (kids_of n)
      → ((k : ℕ) → c.rank k ≤ c.past k) →
      StandInTurn c.rank c.past (suc (c.rank q)) (kids_of n) (c.past q)
      → All (λ k. c.branch k ≡ branch_child n (c.branch q) k) (kids_of n)
      → All (λ k. c.look_branch k ≡ look_branch_child n (c.look_branch q) k) (kids_of n) → All (IsPart c) (kids_of n)
  kid_parts_of q n p is below linked tests under spans in_turn branched looked =
      let P : Nested → Type 0 = HasFixed (branch_lengths c.setting) in
      let fixed : P (nest c.trees n) = all_here P c.trees n tests (subst (IsMeasuredIn c) (sym is) p.measured) in
      let all_within : All (λ k. k ≤ c.root) (kids_of n) = λ j d m.
      let lt = below j d m in omega (arith, lt, p.within) in
      let measured : All (λ k. IsMeasuredIn c (tree_of c k)) (kids_of n) =
      all_below P c.trees n tests (subst (IsMeasuredIn c) (sym is) p.measured) in
      parts_under spans q (c.rest q) p.later (All-head (BeginsBy c q) q (c.rest q) p.begun)
      (All-tail (BeginsBy c q) q (c.rest q) p.begun) p.looked_on n linked
      (λ j d m.
      let lt = below j d m in
      let within : get_or (kids_of n) j d ≤ c.root = omega (arith, lt, p.within) in (
        within,
        measured j d m,
        under j d m,
        kid_branch (λ b. (b ≤ c.root) × (c.under b ≡ true)) (get_or (kids_of n) j d) (within, under j d m) n
            (c.branch q) (branched j d m) p.among,
      )) p.followed in_turn branched looked (looked_kids (c.look_branch q) p.looked n fixed all_within looked)

  pub kid_parts : (q : ℕ) (n : Node) → IsPart c q → IsNode c q n → All (IsPart c) (kids_of n)
  kid_parts q n p i = kid_parts_of q n p i.is i.below i.linked i.tests i.under i.spans i.in_turn i.branched i.looked

  -- they stand behind it
  pub kid_ranks : (q : ℕ) (n : Node) → IsNode c q n → All (λ k. c.rank q < c.rank k) (kids_of n)
  kid_ranks q n i = λ j d m.
      let place : suc (c.rank q) ≤ c.rank (get_or (kids_of n) j d) =
      ((between i.spans (suc (c.rank q)) (kids_of n) (c.past q) i.in_turn).1 j d m).0 in
      omega (arith, place)

  -- the part that follows stands later
  pub next_rank : IsGround c → (q p : ℕ) (ps : List ℕ) → IsPart c q → c.rest q ≡ p ∷ ps → c.rank q ≤ c.rank p
  next_rank ok q p ps h e =
      let l : StandLater c q (p ∷ ps) = subst (StandLater c q) e h.later in
      let first : c.past q ≤ c.rank p = l.0 in
      let wide : c.rank q ≤ c.past q = ok.spans q in
      omega (arith, first, wide)

  pub next_part : IsGround c → (q p : ℕ) (ps : List ℕ) → IsPart c q → c.rest q ≡ p ∷ ps → IsPart c p
  next_part ok q p ps h e =
      let all : All (IsOfPattern c) (p ∷ ps) = subst (All (IsOfPattern c)) e h.followed in
      let first = All-head (IsOfPattern c) p ps all in
      let rest : c.rest p ≡ ps = ok.chained q p ps h.within e in
      let l : StandLater c q (p ∷ ps) = subst (StandLater c q) e h.later in
      let by : All (BeginsBy c q) (p ∷ ps) = subst (All (BeginsBy c q)) e
      (All-tail (BeginsBy c q) q (c.rest q) h.begun) in
      let looks : All (λ x. c.look_branch x ≡ c.look_branch q) (p ∷ ps) =
      subst (All (λ x. c.look_branch x ≡ c.look_branch q)) e h.looked_on in
      let same : c.look_branch p ≡ c.look_branch q = All-head (λ x. c.look_branch x ≡ c.look_branch q) p ps looks in
      record {
        within = first.0;
        measured = first.1;
        followed = subst (All (IsOfPattern c)) (sym rest) (All-tail (IsOfPattern c) p ps all);
        under = first.2;
        among = first.3;
        later = subst (StandLater c p) (sym rest) l.1;
        begun = subst (λ xs. All (BeginsBy c p) (p ∷ xs)) (sym rest)
            (begins_all q p (p ∷ ps) (next_rank ok q p ps h e) by);
        looked = look_as p (c.look_branch q) same h.looked;
        looked_on = subst (All (λ x. c.look_branch x ≡ c.look_branch p)) (sym rest)
            (All-weaker (λ x. c.look_branch x ≡ c.look_branch q) (λ x. c.look_branch x ≡ c.look_branch p)
            (λ x z. z ∙ sym same) ps (All-tail (λ x. c.look_branch x ≡ c.look_branch q) p ps looks));
      }

  -- the whole pattern
  pub root_part : IsGround c → IsPart c c.root
  root_part ok = record {
    within = omega arith;
    measured = subst (IsMeasuredIn c) (sym ok.whole) ok.measured;
    followed = subst (All (IsOfPattern c)) (sym ok.last) (All-nil (IsOfPattern c));
    under = ok.whole_under;
    among = branch_as (λ b. (b ≤ c.root) × (c.under b ≡ true)) c.root None ok.whole_alone tt;
    later = subst (StandLater c c.root) (sym ok.last) tt;
    begun = subst (λ xs. All (BeginsBy c c.root) (c.root ∷ xs)) (sym ok.last)
        (All-cons (BeginsBy c c.root) c.root [] (begins_as c.root c.root None ok.whole_alone tt)
        (All-nil (BeginsBy c c.root)));
    looked = look_as c.root None ok.whole_unlooked tt;
    looked_on = subst (All (λ x. c.look_branch x ≡ c.look_branch c.root)) (sym ok.last)
        (All-nil (λ x. c.look_branch x ≡ c.look_branch c.root));
  }
