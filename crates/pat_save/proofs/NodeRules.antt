-- What fits as a node keeps the rules of a draft and of checked trees, and what keeps them fits.
use Rattle.std.proofs.Common.{◌≡◌, ℕ, zero, suc, ◌+◌, ◌-◌, ◌^◌, ◌<◌, ◌≤◌, Bool, true, false, not, ◌||◌, ◌&&◌, ◌==◌}
use Rattle.std.proofs.Common.{List, [], ◌∷◌, ◌++◌, length, map, Option, Some, None, refl, sym, ap, ◌∙◌, subst}
use Rattle.std.proofs.Common.{append_assoc, append-nil, arith, inl, inr, All, cond, get_or}
use Rattle.std.specs.Prelude.{nat_le, nat_lt, IsTrue, IsCharBoundary, is_some, if◌then◌else◌}
use Rattle.std.specs.List.{AllByRecursion}
use Rattle.std.proofs.lemmas.Bool.{cases_Bool, cases_lt, eqb-true}
use Rattle.std.proofs.lemmas.Bool.Decides.{nat_tests}
use Rattle.std.proofs.lemmas.List.{length-append, map-append}
use Rattle.std.proofs.lemmas.List.Elements.{All-nil, All-cons, All-head, All-tail, All-from_recursion}
use Rattle.std.proofs.lemmas.List.Elements.{recursion_from_All}
use Rattle.uni_text.specs.Characters.{IsPlace}
use Rattle.pat_tree.specs.declared.nodes.Item.{Item}
use Rattle.pat_tree.specs.declared.nodes.Item.TheVariants as item
use Rattle.pat_tree.specs.declared.nodes.Verb.{Verb}
use Rattle.pat_tree.specs.declared.nodes.Verb.TheVariants as verb
use Rattle.pat_tree.specs.declared.nodes.Cond.{Cond}
use Rattle.pat_tree.specs.declared.nodes.Cond.TheVariants as test
use Rattle.pat_tree.specs.declared.nodes.Node.{Node}
use Rattle.pat_tree.specs.declared.nodes.Node.TheVariants as node
use Rattle.pat_tree.specs.declared.nodes.Placed.{Placed}
use Rattle.pat_tree.specs.Growing.{loose, EndsIn}
use Rattle.pat_tree.specs.Nested.{trees, tree_at}
use Rattle.pat_tree.specs.Rules.{kids_of, number_in, tests_of, asserted_by, classes_of, class_in, verb_names_of}
use Rattle.pat_tree.specs.Rules.{name_in}
use Rattle.pat_tree.specs.Rules.{numbers_of, IsNamed, IsOrdered, IsDefine, AtMost, defines, is_test}
use Rattle.pat_save.specs.Checked.{IsCharacter, IsNode, IsPiece, IsRising, IsString, CallsIn, characters_of}
use Rattle.pat_save.specs.Checked.{character_in}
use Rattle.pat_save.specs.Checked.{NamesRising, IsRisingTest}
use Rattle.pat_save.specs.Sized.{IsSizedNode, shorts_of, groups_in}
use Rattle.pat_save.specs.Reading.{◌>>=◌}
use Rattle.pat_save.specs.ReadTables.{is_character}
use Rattle.pat_save.specs.ReadNodes.{Free, free_in, top_of, second_of, asserted, may_have, is_below, is_ordered}
use Rattle.pat_save.specs.ReadNodes.{is_numbered}
use Rattle.pat_save.specs.ReadNodes.{is_filled, is_boundary, is_place, is_string, is_piece, is_callout}
use Rattle.pat_save.specs.declared.taken_nodes.Around.{Around}
use Rattle.pat_save.proofs.Forms.{Holds, bind_some, chosen_some, found, found_is}
use Rattle.pat_save.proofs.NodeForms.{Ends, TopIs, FitsCond, FitsItem, FitsKids, FitsLimits, FitsName, FitsNode}
use Rattle.pat_save.proofs.NodeForms.{FitsNumber}
use Rattle.pat_save.proofs.NodeForms.{FitsPlaces, FitsTest, FitsVerb, Places, ends_none, ids_in, marker_of, name_of}
use Rattle.pat_save.proofs.NodeForms.{top_again}
use Rattle.pat_save.proofs.NodeForms.{top_is}
use Rattle.pat_save.proofs.Sorting.{and_both, both_true}
use Rattle.pat_save.proofs.TableForms.{AreGroups, character_below, character_is, is_a_character}

-- what a node behind these keeps
pub record NodeIs (around : Around) (text : List ℕ) (known : List Placed) (x : Node) : Type 0 where
  pub ends : EndsIn known (kids_of x)
  pub few : length (kids_of x) < 2 ^ 32
  pub classes : All (λ n. n < around.classes) (classes_of x)
  pub verb_names : All (λ n. n < around.verb_names) (verb_names_of x)
  pub numbered : All (λ n. 1 ≤ n) (numbers_of x)
  pub named : IsNamed x
  pub ordered : IsOrdered x
  pub define : IsDefine x
  pub test : All (λ k. is_test (tree_at (trees known) k) ≡ true) (asserted_by x)
  pub node : IsNode around.utf text x
  pub sized : IsSizedNode x

-- ---- children

-- what stands behind the rest
record Behind (free rest : Free) (ks : List ℕ) : Type 0 where
  last : Free
  is : free ≡ rest ++ last
  ids : ids_in last ≡ ks

second_ends : (free : Free) (no' : Option ℕ) (rest : Free) → second_of free (is_some no') ≡ Some (no', rest)
    → Behind free rest (number_in no')
second_ends free None rest e =
    let made_of : Option ℕ × Free = (None, free) in
    let same : free ≡ rest = ap (λ (s : Option ℕ × Free). s.1) (found_is made_of (None, rest) e) in
    record { last = []; is = same ∙ sym (append-nil rest); ids = refl }
second_ends free (Some k) rest e =
    let p = bind_some (top_of free) (λ j. Some (Some j.0.0, j.1)) (Some k, rest) e in
    let made_of : Option ℕ × Free = (Some p.0.0.0, p.0.1) in
    let both = found_is made_of (Some k, rest) p.2 in
    let id : found p.0.0.0 ≡ Some k = ap (λ (s : Option ℕ × Free). s.0) both in
    record {
      last = p.0.0 ∷ [];
      is = top_is free p.0 p.1 ∙ ap (λ (l : Free). l ++ p.0.0 ∷ []) (ap (λ (s : Option ℕ × Free). s.1) both);
      ids = ap (λ j. j ∷ []) (found_is p.0.0.0 k id);
    }

alone : (j k : ℕ) → j ∷ [] ≡ k ∷ [] → j ≡ k
alone j k e = cc

test_ends : (free : Free) (t : Cond) → asserted free (marker_of t) ≡ Some t → Ends free (tests_of t)
test_ends free (test.AnySet groups) e = ends_none free
test_ends free test.InCall e = ends_none free
test_ends free (test.InCallOf groups) e = ends_none free
test_ends free test.Never e = ends_none free
test_ends free (test.Assert k) e =
    let p = bind_some (top_of free) (λ k. cond k.0.1 (Some (test.Assert k.0.0)) None) (test.Assert k) e in
    let g = chosen_some p.0.0.1 (test.Assert p.0.0.0) (test.Assert k) p.2 in
    record { front = p.0.1; last = p.0.0 ∷ []; is = top_is free p.0 p.1; ids = ap tests_of g.1 }

-- numbers with a flag each
module _ (flag : ℕ → Bool) where
  abbrev flagged : List ℕ → Free
  flagged = map (λ k. (k, flag k))

  ids_back : (ks : List ℕ) → ids_in (flagged ks) ≡ ks
  ids_back [] = refl
  ids_back (k ∷ ks) = ap (λ l. k ∷ l) (ids_back ks)

  -- each of the free nodes has its flag
  Right : Free → Type 0
  Right free = AllByRecursion (λ k. k.1 ≡ flag k.0) free

  all_right : (ks : List ℕ) → Right (flagged ks)
  unfolding Right
  all_right [] = tt
  all_right (k ∷ ks) = (refl, all_right ks)

  right_last : (front : Free) (k : ℕ × Bool) → Right (front ++ k ∷ []) → (k.1 ≡ flag k.0) × Right front
  unfolding Right
  right_last [] k right = (right.0, tt)
  right_last (x ∷ front) k right = let more = right_last front k right.1 in (more.0, (right.0, more.1))

  right_top : (free : Free) (k : (ℕ × Bool) × Free) → top_of free ≡ Some k → Right free
      → (k.0.1 ≡ flag k.0.0) × Right k.1
  right_top free k e right = right_last k.1 k.0 (subst Right (top_is free k e) right)

  ends_in_flagged : (loose' : List ℕ) (ks : List ℕ) → Ends (flagged loose') ks
      → (front : List ℕ) × (loose' ≡ front ++ ks)
  ends_in_flagged loose' ks ends = (
    ids_in ends.front,
    sym (ids_back loose') ∙ ap ids_in ends.is ∙ map-append (λ (k : ℕ × Bool). k.0) ends.front ends.last
        ∙ ap (λ l. ids_in ends.front ++ l) ends.ids,
  )

  flagged_ends : (loose' front ks : List ℕ) → loose' ≡ front ++ ks → Ends (flagged loose') ks
  flagged_ends loose' front ks e = record {
    front = flagged front;
    last = flagged ks;
    is = ap flagged e ∙ map-append (λ k. (k, flag k)) front ks;
    ids = ids_back ks;
  }

  -- of a condition that is read the test has its flag
  test_flag : (free : Free) (t : Cond) → asserted free (marker_of t) ≡ Some t → Right free
      → All (λ k. flag k ≡ true) (tests_of t)
  test_flag free (test.AnySet groups) e right = All-nil (λ k. flag k ≡ true)
  test_flag free test.InCall e right = All-nil (λ k. flag k ≡ true)
  test_flag free (test.InCallOf groups) e right = All-nil (λ k. flag k ≡ true)
  test_flag free test.Never e right = All-nil (λ k. flag k ≡ true)
  test_flag free (test.Assert k) e right =
      let p = bind_some (top_of free) (λ k. cond k.0.1 (Some (test.Assert k.0.0)) None) (test.Assert k) e in
      let g = chosen_some p.0.0.1 (test.Assert p.0.0.0) (test.Assert k) p.2 in
      let same : p.0.0.0 ≡ k = alone p.0.0.0 k (ap tests_of g.1) in
      let is : flag p.0.0.0 ≡ true = sym (right_top free p.0 p.1 right).0 ∙ g.0 in
      All-cons (λ k. flag k ≡ true) k [] (subst (λ j. flag j ≡ true) same is) (All-nil (λ k. flag k ≡ true))

  cond_flag : (free : Free) (t : Cond) (yes' : ℕ) (no' : Option ℕ) → FitsCond free t yes' no' → Right free
      → All (λ k. flag k ≡ true) (tests_of t)
  cond_flag free t yes' None fit right =
      let made_of : Option ℕ × Free = (None, free) in
      let same : Right fit.rest = subst Right
      (ap (λ (s : Option ℕ × Free). s.1) (found_is made_of (None, fit.rest) fit.second)) right in
      test_flag fit.front t fit.test (right_top fit.rest ((yes', fit.flag), fit.front) fit.first same).1
  cond_flag free t yes' (Some k) fit right =
      let p = bind_some (top_of free) (λ j. Some (Some j.0.0, j.1)) (Some k, fit.rest) fit.second in
      let made_of : Option ℕ × Free = (Some p.0.0.0, p.0.1) in
      let same : p.0.1 ≡ fit.rest = ap (λ (s : Option ℕ × Free). s.1) (found_is made_of (Some k, fit.rest) p.2) in
      let rest : Right fit.rest = subst Right same (right_top free p.0 p.1 right).1 in
      test_flag fit.front t fit.test (right_top fit.rest ((yes', fit.flag), fit.front) fit.first rest).1

  flagged_push : (front : List ℕ) (k : ℕ) → flagged (front ++ k ∷ []) ≡ flagged front ++ (k, flag k) ∷ []
  flagged_push front k = map-append (λ k. (k, flag k)) front (k ∷ [])

  test_back : (front : List ℕ) (t : Cond) → All (λ k. flag k ≡ true) (tests_of t)
      → asserted (flagged (front ++ tests_of t)) (marker_of t) ≡ Some t
  test_back front (test.AnySet groups) tests = refl
  test_back front test.InCall tests = refl
  test_back front (test.InCallOf groups) tests = refl
  test_back front test.Never tests = refl
  test_back front (test.Assert k) tests =
      ap (λ (free : Free). asserted free None) (flagged_push front k)
      ∙ ap (λ (o : Option ((ℕ × Bool) × Free)). o >>= λ j. if j.0.1 then Some (test.Assert j.0.0) else None)
      (top_again (flagged front) (k, flag k))
      ∙ ap (λ (b : Bool). if b then Some (test.Assert k) else None) (All-head (λ k. flag k ≡ true) k [] tests)

  may_back : (t : Cond) (no' : Option ℕ) → defines t no' → may_have t (is_some no') ≡ true
  may_back test.Never None define = refl
  may_back test.Never (Some k) define = absurd cc
  may_back (test.AnySet groups) no' define = refl
  may_back test.InCall no' define = refl
  may_back (test.InCallOf groups) no' define = refl
  may_back (test.Assert k) no' define = refl

  regrouped : (a b : List ℕ) (k : ℕ) → a ++ (b ++ k ∷ []) ≡ (a ++ b) ++ k ∷ []
  regrouped a b k = sym (append_assoc a b (k ∷ []))

  regrouped_both : (a b : List ℕ) (j k : ℕ) → a ++ (b ++ j ∷ k ∷ []) ≡ ((a ++ b) ++ j ∷ []) ++ k ∷ []
  regrouped_both a b j k = sym (append_assoc a b (j ∷ k ∷ [])) ∙ sym (append_assoc (a ++ b) (j ∷ []) (k ∷ []))

  cond_back : (loose' front : List ℕ) (t : Cond) (yes' : ℕ) (no' : Option ℕ)
      → loose' ≡ front ++ (tests_of t ++ yes' ∷ number_in no') → All (λ k. flag k ≡ true) (tests_of t) → defines t no'
      → FitsTest t → FitsCond (flagged loose') t yes' no'
  cond_back loose' front t yes' None e tests define groups = record {
    rest = flagged loose';
    flag = flag yes';
    front = flagged (front ++ tests_of t);
    second = refl;
    first = ap (λ l. top_of (flagged l)) (e ∙ regrouped front (tests_of t) yes')
        ∙ ap top_of (flagged_push (front ++ tests_of t) yes')
        ∙ top_again (flagged (front ++ tests_of t)) (yes', flag yes');
    test = test_back front t tests;
    may = may_back t None define;
    groups = groups;
  }
  cond_back loose' front t yes' (Some k) e tests define groups = record {
    rest = flagged ((front ++ tests_of t) ++ yes' ∷ []);
    flag = flag yes';
    front = flagged (front ++ tests_of t);
    second = ap (λ (o : Option ((ℕ × Bool) × Free)). o >>= λ j. found (found j.0.0, j.1))
        (ap (λ l. top_of (flagged l)) (e ∙ regrouped_both front (tests_of t) yes' k)
        ∙ ap top_of (flagged_push ((front ++ tests_of t) ++ yes' ∷ []) k)
        ∙ top_again (flagged ((front ++ tests_of t) ++ yes' ∷ [])) (k, flag k));
    first = ap top_of (flagged_push (front ++ tests_of t) yes')
        ∙ top_again (flagged (front ++ tests_of t)) (yes', flag yes');
    test = test_back front t tests;
    may = may_back t (Some k) define;
    groups = groups;
  }

  top_back : (loose' front : List ℕ) (k : ℕ) → loose' ≡ front ++ k ∷ [] → TopIs (flagged loose') k
  top_back loose' front k e = record {
    flag = flag k;
    front = flagged front;
    is = ap (λ l. top_of (flagged l)) e ∙ ap top_of (flagged_push front k) ∙ top_again (flagged front) (k, flag k);
  }

cond_ends : (free : Free) (t : Cond) (yes' : ℕ) (no' : Option ℕ) → FitsCond free t yes' no'
    → Ends free (tests_of t ++ yes' ∷ number_in no')
cond_ends free t yes' no' fit =
    let first : fit.rest ≡ fit.front ++ (yes', fit.flag) ∷ [] = top_is fit.rest
    ((yes', fit.flag), fit.front) fit.first in
    let tested = test_ends fit.front t fit.test in
    let whole = second_ends free no' fit.rest fit.second in
    record {
      front = tested.front;
      last = tested.last ++ (yes', fit.flag) ∷ whole.last;
      is = whole.is ∙ ap (λ l. l ++ whole.last) first
          ∙ append_assoc fit.front ((yes', fit.flag) ∷ []) whole.last
          ∙ ap (λ l. l ++ (yes', fit.flag) ∷ whole.last) tested.is
          ∙ append_assoc tested.front tested.last ((yes', fit.flag) ∷ whole.last);
      ids = map-append (λ (k : ℕ × Bool). k.0) tested.last ((yes', fit.flag) ∷ whole.last)
          ∙ ap (λ l. l ++ yes' ∷ ids_in whole.last) tested.ids ∙ ap (λ l. tests_of t ++ yes' ∷ l) whole.ids;
    }

-- ---- the rules of a node that fits

fits_ends : (around : Around) (text : List ℕ) (free : Free) (x : Node) → FitsNode around text free x
    → Ends free (kids_of x)
fits_ends around text free (node.Seq kids) fit = fit.1
fits_ends around text free (node.Group number branches) fit = fit.1.1
fits_ends around text free (node.Repeat body min max lazy) fit = record {
  front = fit.1.front;
  last = (body, fit.1.flag) ∷ [];
  is = top_is free ((body, fit.1.flag), fit.1.front) fit.1.is;
  ids = refl;
}
fits_ends around text free (node.Atomic branches) fit = fit.1
fits_ends around text free (node.Look ahead positive once branches) fit = fit.1
fits_ends around text free (node.Cond t yes' no') fit = cond_ends free t yes' no' fit
fits_ends around text free _ fit = ends_none free

tests_few : (t : Cond) → length (tests_of t) ≤ 1
tests_few (test.Assert k) = omega arith
tests_few _ = omega arith

number_few : (n : Option ℕ) → length (number_in n) ≤ 1
number_few None = omega arith
number_few (Some k) = omega arith

fits_few : (around : Around) (text : List ℕ) (free : Free) (x : Node) → FitsNode around text free x
    → length (kids_of x) < 2 ^ 32
fits_few around text free (node.Seq kids) fit = fit.0
fits_few around text free (node.Group number branches) fit = fit.1.0
fits_few around text free (node.Atomic branches) fit = fit.0
fits_few around text free (node.Look ahead positive once branches) fit = fit.0
fits_few around text free (node.Cond t yes' no') fit =
    omega (arith, length-append (tests_of t) (yes' ∷ number_in no'), tests_few t, number_few no')
fits_few around text free (node.Repeat body min max lazy) fit = omega arith
fits_few around text free _ fit = omega arith

item_classes : (around : Around) (i : Item) → FitsItem around i → All (λ n. n < around.classes) (class_in i)
item_classes around (item.Class n) fit =
    All-cons (λ n. n < around.classes) n [] (grind (arith, nat_tests, fit.1)) (All-nil (λ n. n < around.classes))
item_classes around _ fit = All-nil (λ n. n < around.classes)

fits_classes : (around : Around) (text : List ℕ) (free : Free) (x : Node) → FitsNode around text free x
    → All (λ n. n < around.classes) (classes_of x)
fits_classes around text free (node.One i) fit = item_classes around i fit
fits_classes around text free (node.OneRepeat i min max lazy) fit = item_classes around i fit.0
fits_classes around text free _ fit = All-nil (λ n. n < around.classes)

name_in_is : (v : Verb) → name_in v ≡ number_in (name_of v)
name_in_is (verb.Accept name) = refl
name_in_is (verb.Fail name) = refl
name_in_is (verb.Commit name) = refl
name_in_is (verb.Prune name) = refl
name_in_is (verb.Skip name) = refl
name_in_is (verb.Then name) = refl
name_in_is (verb.Mark name) = refl

name_below : (names : ℕ) (name : Option ℕ) → is_below names name ≡ true → All (λ n. n < names) (number_in name)
name_below names None e = All-nil (λ n. n < names)
name_below names (Some n) e = All-cons (λ n. n < names) n [] (grind (arith, nat_tests, e)) (All-nil (λ n. n < names))

fits_verb_names : (around : Around) (text : List ℕ) (free : Free) (x : Node) → FitsNode around text free x
    → All (λ n. n < around.verb_names) (verb_names_of x)
fits_verb_names around text free (node.VerbNode v) fit =
    subst (All (λ n. n < around.verb_names)) (sym (name_in_is v)) (name_below around.verb_names (name_of v) fit.1)
fits_verb_names around text free _ fit = All-nil (λ n. n < around.verb_names)

number_some : (number : Option ℕ) → is_numbered number ≡ true → All (λ n. 1 ≤ n) (number_in number)
number_some None e = All-nil (λ n. 1 ≤ n)
number_some (Some n) e = All-cons (λ n. 1 ≤ n) n [] (grind (arith, nat_tests, e)) (All-nil (λ n. 1 ≤ n))

fits_numbered : (around : Around) (text : List ℕ) (free : Free) (x : Node) → FitsNode around text free x
    → All (λ n. 1 ≤ n) (numbers_of x)
fits_numbered around text free (node.Group number branches) fit = number_some number fit.0.1
fits_numbered around text free _ fit = All-nil (λ n. 1 ≤ n)

fits_named : (around : Around) (text : List ℕ) (free : Free) (x : Node) → FitsNode around text free x → IsNamed x
fits_named around text free (node.Ref groups caseless) fit = grind (arith, nat_tests, fit.1)
fits_named around text free _ fit = tt

ordered_is : (min : ℕ) (max : Option ℕ) → is_ordered min max ≡ true → AtMost min max
ordered_is min None e = tt
ordered_is min (Some max) e = grind (arith, nat_tests, e)

fits_ordered : (around : Around) (text : List ℕ) (free : Free) (x : Node) → FitsNode around text free x → IsOrdered x
fits_ordered around text free (node.Repeat body min max lazy) fit = ordered_is min max fit.0.1
fits_ordered around text free (node.OneRepeat i min max lazy) fit = ordered_is min max fit.1.1
fits_ordered around text free _ fit = tt

may_is : (t : Cond) (no' : Option ℕ) → may_have t (is_some no') ≡ true → defines t no'
may_is test.Never None e = refl
may_is test.Never (Some k) e = absurd cc
may_is _ no' e = tt

fits_define : (around : Around) (text : List ℕ) (free : Free) (x : Node) → FitsNode around text free x → IsDefine x
fits_define around text free (node.Cond t yes' no') fit = may_is t no' fit.may
fits_define around text free _ fit = tt

-- a place is one where a character begins, or the end
boundary_is : (size at byte : ℕ) → (nat_le size at || nat_lt byte 128 || nat_le 192 byte) ≡ true → at < size
    → 128 ≤ byte → 192 ≤ byte
boundary_is size at byte e lt high = grind (arith, nat_tests)

is_a_boundary : (size at byte : ℕ) → (at < size → 128 ≤ byte → 192 ≤ byte)
    → (nat_le size at || nat_lt byte 128 || nat_le 192 byte) ≡ true
is_a_boundary size at byte h =
    elim (cases_lt at size) [
      | inr past ↦ grind (arith, nat_tests)
      | inl inside ↦
          elim (cases_lt byte 128) [
            | inl low ↦ grind (arith, nat_tests)
            | inr high ↦ (let top : 192 ≤ byte = h inside high in grind (arith, nat_tests))
          ]
    ]

place_is : (utf : Bool) (text : List ℕ) (at : ℕ) → is_place utf text at ≡ true → IsPlace utf text at
place_is utf text at e =
    let b = both_true (nat_le at (length text)) (not utf || is_boundary text at) e in
    let within : at ≤ length text = grind (arith, nat_tests, b.0) in (
      within,
      λ on. (
        within,
        boundary_is (length text) at (get_or text at 0)
            (subst (λ u. (not u || is_boundary text at) ≡ true) on b.1),
      ),
    )

is_a_place : (utf : Bool) (text : List ℕ) (at : ℕ) → IsPlace utf text at → is_place utf text at ≡ true
is_a_place false text at place = and_both (nat_le at (length text)) true (grind (arith, nat_tests, place.0)) refl
is_a_place true text at place =
    and_both (nat_le at (length text)) (is_boundary text at) (grind (arith, nat_tests, place.0))
    (is_a_boundary (length text) at (get_or text at 0) (place.1 refl).1)

piece_is : (utf : Bool) (text : List ℕ) (at len : ℕ) → is_piece utf text at len ≡ true → IsPiece utf text at (at + len)
piece_is utf text at len e =
    let b = both_true (is_place utf text at) (is_place utf text (at + len)) e in
    record { order = omega arith; first = place_is utf text at b.0; last = place_is utf text (at + len) b.1 }

is_a_piece : (utf : Bool) (text : List ℕ) (at len : ℕ) → IsPiece utf text at (at + len) → is_piece utf text at len
    ≡ true
is_a_piece utf text at len piece =
    and_both (is_place utf text at) (is_place utf text (at + len)) (is_a_place utf text at piece.first)
    (is_a_place utf text (at + len) piece.last)

string_is : (utf : Bool) (text : List ℕ) (from to : ℕ) → is_string utf text from to ≡ true → IsString utf text from to
string_is utf text from to e =
    elim (cases_Bool (from == 0)) [
      | inl none ↦
          let both : (to == 0) ≡ true = rw none at e in
          inl (eqb-true from 0 none, eqb-true to 0 both)
      | inr some ↦
          let all : (nat_le from to && nat_lt to (length text) && is_place utf text (from - 1)
          && is_place utf text (to + 1)) ≡ true = rw some at e in
          let a = both_true (nat_le from to && nat_lt to (length text) && is_place utf text (from - 1))
          (is_place utf text (to + 1)) all in
          let b = both_true (nat_le from to && nat_lt to (length text)) (is_place utf text (from - 1)) a.0 in
          let c = both_true (nat_le from to) (nat_lt to (length text)) b.0 in
          let order : from ≤ to = grind (arith, nat_tests, c.0) in
          inr (
            grind (arith, nat_tests, some),
            order,
            grind (arith, nat_tests, c.1),
            record {
              order = omega arith;
              first = place_is utf text (from - 1) b.1;
              last = place_is utf text (to + 1) a.1;
            },
          )
    ]

is_a_string : (utf : Bool) (text : List ℕ) (from to : ℕ) → IsString utf text from to → is_string utf text from to ≡ true
is_a_string utf text from to (inl none) = rw (none.0, none.1) refl
is_a_string utf text from to (inr some) =
    let other : (from == 0) ≡ false = grind (arith, nat_tests, some.0) in
    rw other (
    and_both (nat_le from to && nat_lt to (length text) && is_place utf text (from - 1)) (is_place utf text (to + 1))
    (and_both (nat_le from to && nat_lt to (length text)) (is_place utf text (from - 1))
    (and_both (nat_le from to) (nat_lt to (length text)) (grind (arith, nat_tests, some.1))
    (grind (arith, nat_tests, some.2)))
    (is_a_place utf text (from - 1) some.3.first))
    (is_a_place utf text (to + 1) some.3.last)
    )

item_characters : (around : Around) (i : Item) → FitsItem around i → All (IsCharacter around.utf) (character_in i)
item_characters around (item.Char c caseless) fit =
    All-cons (IsCharacter around.utf) c [] (character_is around.utf c fit.1) (All-nil (IsCharacter around.utf))
item_characters around _ fit = All-nil (IsCharacter around.utf)

fits_characters : (around : Around) (text : List ℕ) (free : Free) (x : Node) → FitsNode around text free x
    → All (IsCharacter around.utf) (characters_of x)
fits_characters around text free (node.One i) fit = item_characters around i fit
fits_characters around text free (node.OneRepeat i min max lazy) fit = item_characters around i fit.0
fits_characters around text free _ fit = All-nil (IsCharacter around.utf)

test_rising : (t : Cond) → FitsTest t → IsRisingTest t
test_rising (test.AnySet groups) fit = fit.0
test_rising (test.InCallOf groups) fit = fit.0
test_rising _ fit = tt

fits_rising : (around : Around) (text : List ℕ) (free : Free) (x : Node) → FitsNode around text free x → NamesRising x
fits_rising around text free (node.Cond t yes' no') fit = test_rising t fit.groups
fits_rising around text free (node.Ref groups caseless) fit = fit.0.0
fits_rising around text free _ fit = tt

fits_callout : (around : Around) (text : List ℕ) (free : Free) (x : Node) → FitsNode around text free x
    → CallsIn around.utf text x
fits_callout around text free (node.Callout number from to at len) fit =
    let b = both_true (is_string around.utf text from to) (is_piece around.utf text at len) fit.1 in
    (string_is around.utf text from to b.0, piece_is around.utf text at len b.1)
fits_callout around text free _ fit = tt

number_short : (n : Option ℕ) → Holds (λ n. n < 2 ^ 16) n → All (λ n. n < 2 ^ 16) (number_in n)
number_short None fit = All-nil (λ n. n < 2 ^ 16)
number_short (Some n) fit = All-cons (λ n. n < 2 ^ 16) n [] fit (All-nil (λ n. n < 2 ^ 16))

test_short : (t : Cond) → FitsTest t → All (λ n. n < 2 ^ 16) (groups_in t)
test_short (test.AnySet groups) fit = All-from_recursion (λ n. n < 2 ^ 16) groups fit.1
test_short (test.InCallOf groups) fit = All-from_recursion (λ n. n < 2 ^ 16) groups fit.1
test_short _ fit = All-nil (λ n. n < 2 ^ 16)

fits_sized : (around : Around) (text : List ℕ) (free : Free) (x : Node) → FitsNode around text free x → IsSizedNode x
fits_sized around text free (node.Group number branches) fit = number_short number fit.0.0
fits_sized around text free (node.Repeat body min max lazy) fit =
    All-cons (λ n. n < 2 ^ 16) min (number_in max) fit.0.0.0 (number_short max fit.0.0.1)
fits_sized around text free (node.OneRepeat i min max lazy) fit =
    All-cons (λ n. n < 2 ^ 16) min (number_in max) fit.1.0.0 (number_short max fit.1.0.1)
fits_sized around text free (node.Cond t yes' no') fit = test_short t fit.groups
fits_sized around text free (node.Call group) fit =
    All-cons (λ n. n < 2 ^ 16) group [] fit (All-nil (λ n. n < 2 ^ 16))
fits_sized around text free (node.Ref groups caseless) fit = All-from_recursion (λ n. n < 2 ^ 16) groups fit.0.1
fits_sized around text free _ fit = All-nil (λ n. n < 2 ^ 16)

fits_test : (around : Around) (text : List ℕ) (known : List Placed) (x : Node)
    → FitsNode around text (free_in known) x → All (λ k. is_test (tree_at (trees known) k) ≡ true) (asserted_by x)
fits_test around text known (node.Cond t yes' no') fit =
    cond_flag (λ k. is_test (tree_at (trees known) k)) (free_in known) t yes' no' fit
    (all_right (λ k. is_test (tree_at (trees known) k)) (loose known))
fits_test around text known _ fit = All-nil (λ k. is_test (tree_at (trees known) k) ≡ true)

-- what fits keeps the rules
pub keeps : (around : Around) (text : List ℕ) (known : List Placed) (x : Node)
    → FitsNode around text (free_in known) x → NodeIs around text known x
keeps around text known x fit =
    let free = free_in known in
    let ends = ends_in_flagged (λ k. is_test (tree_at (trees known) k)) (loose known) (kids_of x)
    (fits_ends around text free x fit) in
    record {
      ends = record { front = ends.0; is = ends.1 };
      few = fits_few around text free x fit;
      classes = fits_classes around text free x fit;
      verb_names = fits_verb_names around text free x fit;
      numbered = fits_numbered around text free x fit;
      named = fits_named around text free x fit;
      ordered = fits_ordered around text free x fit;
      define = fits_define around text free x fit;
      test = fits_test around text known x fit;
      node = record {
        characters = fits_characters around text free x fit;
        rising = fits_rising around text free x fit;
        callout = fits_callout around text free x fit;
      };
      sized = fits_sized around text free x fit;
    }

-- ---- what keeps the rules fits

item_fits : (around : Around) (i : Item) → around.classes < 2 ^ 32 → All (IsCharacter around.utf) (character_in i)
    → All (λ n. n < around.classes) (class_in i) → FitsItem around i
item_fits around (item.Char c caseless) few characters classes =
    let is : IsCharacter around.utf c = All-head (IsCharacter around.utf) c [] characters in
    (character_below around.utf c is, is_a_character around.utf c is)
item_fits around item.AnyAll few characters classes = tt
item_fits around item.NotNewline few characters classes = tt
item_fits around (item.Class n) few characters classes =
    let is : n < around.classes = All-head (λ n. n < around.classes) n [] classes in
    (omega arith, grind (arith, nat_tests))

number_holds : (n : Option ℕ) → All (λ n. n < 2 ^ 16) (number_in n) → Holds (λ n. n < 2 ^ 16) n
number_holds None all = tt
number_holds (Some n) all = All-head (λ n. n < 2 ^ 16) n [] all

number_fits : (n : Option ℕ) → All (λ n. n < 2 ^ 16) (number_in n) → All (λ n. 1 ≤ n) (number_in n) → FitsNumber n
number_fits None short some = (tt, refl)
number_fits (Some n) short some =
    let one : 1 ≤ n = All-head (λ n. 1 ≤ n) n [] some in
    (All-head (λ n. n < 2 ^ 16) n [] short, grind (arith, nat_tests))

is_an_order : (min : ℕ) (max : Option ℕ) → AtMost min max → is_ordered min max ≡ true
is_an_order min None h = refl
is_an_order min (Some max) h = grind (arith, nat_tests, h)

limits_fit : (min : ℕ) (max : Option ℕ) → All (λ n. n < 2 ^ 16) (min ∷ number_in max) → AtMost min max
    → FitsLimits min max
limits_fit min max short order = (
  (
    All-head (λ n. n < 2 ^ 16) min (number_in max) short,
    number_holds max (All-tail (λ n. n < 2 ^ 16) min (number_in max) short),
  ),
  is_an_order min max order,
)

name_fits : (names : ℕ) (name : Option ℕ) → names < 2 ^ 32 → All (λ n. n < names) (number_in name) → FitsName names name
name_fits names None few below = (tt, refl)
name_fits names (Some n) few below =
    let is : n < names = All-head (λ n. n < names) n [] below in (omega arith, grind (arith, nat_tests))

groups_fit : (groups : List ℕ) → IsRising groups → All (λ n. n < 2 ^ 16) groups → AreGroups groups
groups_fit groups rising short = (rising, recursion_from_All (λ n. n < 2 ^ 16) groups short)

test_fits : (t : Cond) → IsRisingTest t → All (λ n. n < 2 ^ 16) (groups_in t) → FitsTest t
test_fits (test.AnySet groups) rising short = groups_fit groups rising short
test_fits (test.InCallOf groups) rising short = groups_fit groups rising short
test_fits test.InCall rising short = tt
test_fits test.Never rising short = tt
test_fits (test.Assert k) rising short = tt

place_below : (utf : Bool) (text : List ℕ) (at : ℕ) → length text ≤ 65536 → IsPlace utf text at → at ≤ 65536
place_below utf text at short place = omega (arith, place.0)

string_below : (utf : Bool) (text : List ℕ) (from to : ℕ) → length text ≤ 65536 → IsString utf text from to
    → (from ≤ 65536) × (to ≤ 65536)
string_below utf text from to short (inl none) = (omega (arith, none.0), omega (arith, none.1))
string_below utf text from to short (inr some) = (omega (arith, some.1, some.2), omega (arith, some.2))

places_fit : (utf : Bool) (text : List ℕ) (number from to at len : ℕ) → length text ≤ 65536 → IsString utf text from to
    → IsPiece utf text at (at + len) → FitsPlaces utf text (number, (from, (to, (at, len))))
places_fit utf text number from to at len short string piece =
    let s = string_below utf text from to short string in
    let end = place_below utf text (at + len) short piece.last in (
      (tt, (omega (arith, s.0), (omega (arith, s.1), (omega arith, omega arith)))),
      and_both (is_string utf text from to) (is_piece utf text at len) (is_a_string utf text from to string)
          (is_a_piece utf text at len piece),
    )

ends_back : (known : List Placed) (ks : List ℕ) → EndsIn known ks → Ends (free_in known) ks
ends_back known ks ends = flagged_ends (λ k. is_test (tree_at (trees known) k)) (loose known) ends.front ks ends.is

pub record Few (around : Around) (text : List ℕ) : Type 0 where
  pub classes : around.classes < 2 ^ 32
  pub verb_names : around.verb_names < 2 ^ 32
  pub short : length text ≤ 65536

pub fits : (around : Around) (text : List ℕ) (known : List Placed) (x : Node) → Few around text
    → NodeIs around text known x → FitsNode around text (free_in known) x
fits around text known node.Empty few is = tt
fits around text known (node.One i) few is = item_fits around i few.classes is.node.characters is.classes
fits around text known node.Break few is = tt
fits around text known (node.Seq kids) few is = (is.few, ends_back known kids is.ends)
fits around text known (node.Group number branches) few is =
    (number_fits number is.sized is.numbered, (is.few, ends_back known branches is.ends))
fits around text known (node.Repeat body min max lazy) few is = (
  limits_fit min max is.sized is.ordered,
  top_back (λ k. is_test (tree_at (trees known) k)) (loose known) is.ends.front
      body is.ends.is,
)
fits around text known (node.OneRepeat i min max lazy) few is =
    (item_fits around i few.classes is.node.characters is.classes, limits_fit min max is.sized is.ordered)
fits around text known (node.Atomic branches) few is = (is.few, ends_back known branches is.ends)
fits around text known (node.Look ahead positive once branches) few is = (is.few, ends_back known branches is.ends)
fits around text known (node.Cond t yes' no') few is =
    cond_back (λ k. is_test (tree_at (trees known) k))
    (loose known) is.ends.front t yes' no' is.ends.is is.test is.define
    (test_fits t is.node.rising is.sized)
fits around text known (node.Call group) few is = All-head (λ n. n < 2 ^ 16) group [] is.sized
fits around text known (node.Ref groups caseless) few is =
    (groups_fit groups is.node.rising is.sized, grind (arith, nat_tests, is.named))
fits around text known (node.Anchor kind) few is = tt
fits around text known node.KeepOut few is = tt
fits around text known (node.VerbNode v) few is =
    name_fits around.verb_names (name_of v) few.verb_names
    (subst (All (λ n. n < around.verb_names)) (name_in_is v) is.verb_names)
fits around text known (node.Callout number from to at len) few is =
    places_fit around.utf text number from to at len few.short is.node.callout.0 is.node.callout.1
