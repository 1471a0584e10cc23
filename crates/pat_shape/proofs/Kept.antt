-- Shapes that are kept for the nodes of a tree.
use Rattle.std.proofs.Common.{◌≡◌, ◌≢◌, ◌∙◌, ℕ, suc, ◌<◌, ◌≤◌, Bool, true, false, List, [], ◌∷◌, ◌++◌, length, map}
use Rattle.std.proofs.Common.{take, drop, append-nil, set, get_or, Vec, Global, Option, Some, None, ◌⊎◌, inl, inr}
use Rattle.std.proofs.Common.{refl, sym, ap, subst, arith}
use Rattle.std.specs.Prelude.{All, IfOk, IfSome, IsTrue, Result, Ok, Err, ◌&&◌, ◌||◌, nat_lt, nat_le}
use Rattle.std.proofs.lemmas.Bool.{cases_Bool, cases_lt, ltb-true, leb-true, and_parts, true≢false}
use Rattle.std.proofs.lemmas.List.{get_or-set_same, get_or-set_other, length-set, drop_all, take_all}
use Rattle.std.proofs.Math.Seq.{take-suc}
use Rattle.pat_tree.specs.declared.nodes.Item.{Item}
use Rattle.pat_tree.specs.declared.nodes.AnchorKind.{AnchorKind}
use Rattle.pat_tree.specs.Parts.{TreeParts}
use Rattle.pat_tree.specs.Nested as tree
use Rattle.pat_tree.specs.Nested.{Nested, Test, Other, Callout, other_of, row, tree_at, trees}
use Rattle.pat_tree.specs.declared.nodes.Verb.{Verb}
use Rattle.pat_tree.specs.declared.nodes.Verb.TheVariants.{Fail}
use Rattle.regex_hir.specs.Re.{Re, empty, byte_in}
use Rattle.regex_class.specs.Ranges.{in_ranges}
use Rattle.regex_hir.specs.Meaning.{meaning, cat_all, alt_all, repeat}
use Rattle.regex_hir.specs.declared.hir.Hir.{Hir}
use Rattle.regex_hir.specs.declared.hir.Hir.TheVariants.{Empty, Concat, Alternation}
use Rattle.regex_hir.proofs.MatchesLemmas.{Matches-IsSpan}
use Rattle.regex_hir.proofs.MeaningLemmas.{meaning-Empty, meaning-Concat, meaning-Alternation}
use Rattle.pat_lengths.proofs.KeepLemmas.{keep_more}
use Rattle.pat_shape.specs.Looks.{SeesLines, TakesNoLf}
use Rattle.pat_shape.specs.Exact.{IsExact, AreExact, IsSolid}
use Rattle.pat_shape.specs.Plain.{are_few, takes_some, one_takes, all_take, is_plain_item, is_plain, are_plain}
use Rattle.pat_shape.specs.IsShape.{dots_of, IsKnown, GoesOn, IsPlainTest, IsShape, IsWider, IsOtherShape, AreShapes}
use Rattle.pat_shape.specs.IsShape.{IsItemShape, IsAnchorShape, IsAnyText, IsUpTo, AreRounds, KeepShapes, shape_at}
use Rattle.pat_shape.proofs.Turns.{repeat_sees, repeat_dry}
use Rattle.pat_shape.proofs.Rounds.{repeat_solid}
use Rattle.pat_shape.proofs.ExactComposed.{just_empty, just_one, just_many, just_seq, just_group, just_repeat}
use Rattle.pat_shape.proofs.Composed.{shape_empty, shape_keep, shape_one, shape_many, shape_seq, shape_group}
use Rattle.pat_shape.proofs.Composed.{shape_atomic, shape_repeat, shape_look, shape_anchor, shape_break, shape_ref}
use Rattle.pat_shape.proofs.Composed.{shape_call, shape_condition, other_none, other_some, shape_fail, shape_verb}
use Rattle.pat_shape.proofs.Composed.{shape_callout}

module _ (parts : TreeParts) (lined : Bool) where
  abbrev Is : ℕ → Option Hir → Type 0
  Is k o = IfSome o (λ hir. IsShape parts lined (tree_at (trees parts.nodes) k) (meaning hir))

  abbrev Known : Nested → Re → Type 0
  Known = IsKnown parts lined

  abbrev Off : Type 0
  Off = parts.options.utf ≡ false

  abbrev dots : Bool
  dots = dots_of parts lined

  pub keep_set : (shapes : List (Option Hir)) (k : ℕ) → k < length shapes → KeepShapes parts lined shapes
      → KeepShapes parts lined (set shapes k None)
  keep_set shapes k inside h j low = by_place (cases_lt j k)
    where
      other : j ≢ k → Is j (shape_at (set shapes k None) j)
      other apart = subst (Is j) (sym (get_or-set_other shapes k j None None apart))
          (h j (let e = length-set shapes k None in omega (arith, low, e)))

      by_place : (j < k) ⊎ (k ≤ j) → Is j (shape_at (set shapes k None) j)
      by_place (inl less) = other (λ e. omega (arith, e, less))
      by_place (inr more) = elim (cases_lt k j) [
        | inl less ↦ other (λ e. omega (arith, e, less))
        | inr le ↦
            let same : k ≡ j = omega (arith, more, le) in
            subst (Is j) (sym (subst (λ n. shape_at (set shapes k None) n ≡ None) same
            (get_or-set_same shapes k None None inside))) tt
      ]

  pub shapes_more : (ts : List Nested) (res : List Re) (t : Nested) (re : Re) → AreShapes parts lined ts res
      → IsShape parts lined t re → AreShapes parts lined (ts ++ t ∷ []) (res ++ re ∷ [])
  shapes_more [] [] t re h k = (k, tt)
  shapes_more [] (a ∷ res) t re h k = absurd h
  shapes_more (u ∷ ts) [] t re h k = absurd h
  shapes_more (u ∷ ts) (a ∷ res) t re h k = (h.0, shapes_more ts res t re h.1 k)

  map_last : {X Y : Type 0} (f : X → Y) (xs : List X) (x : X) → map f (xs ++ x ∷ []) ≡ map f xs ++ f x ∷ []
  map_last f [] x = refl
  map_last f (y ∷ ys) x = ap (λ l. f y ∷ l) (map_last f ys x)

  abbrev of : ℕ → Nested
  of = tree_at (trees parts.nodes)

  pub are_next : (kids : List ℕ) (subs : List Hir) (i d : ℕ) (hir : Hir) → i < length kids
      → AreShapes parts lined (map of (take i kids)) (map meaning subs)
      → IsShape parts lined (of (get_or kids i d)) (meaning hir)
      → AreShapes parts lined (map of (take (suc i) kids)) (map meaning (subs ++ hir ∷ []))
  are_next kids subs i d hir inside h k =
      let front : map of (take (suc i) kids) ≡ map of (take i kids) ++ of (get_or kids i d) ∷ [] =
      ap (map of) (take-suc kids i d inside) ∙ map_last of (take i kids) (get_or kids i d) in
      let back = map_last meaning subs hir in
      subst (λ ts. AreShapes parts lined ts (map meaning (subs ++ hir ∷ []))) (sym front)
      (subst (AreShapes parts lined (map of (take i kids) ++ of (get_or kids i d) ∷ [])) (sym back)
      (shapes_more (map of (take i kids)) (map meaning subs) (of (get_or kids i d)) (meaning hir) h k))

  -- Shapes by their meanings.

  cat_sees : (ts : List Nested) (res : List Re) → AreShapes parts lined ts res → SeesLines (cat_all res)
  cat_sees [] [] h = tt
  cat_sees [] (a ∷ res) h = absurd h
  cat_sees (t ∷ ts) [] h = absurd h
  cat_sees (t ∷ ts) (a ∷ res) h = (h.0.0, cat_sees ts res h.1)

  alt_sees : (ts : List Nested) (res : List Re) → AreShapes parts lined ts res → SeesLines (alt_all res)
  alt_sees [] [] h = tt
  alt_sees [] (a ∷ res) h = absurd h
  alt_sees (t ∷ ts) [] h = absurd h
  alt_sees (t ∷ ts) (a ∷ res) h = (h.0.0, alt_sees ts res h.1)

  -- Shapes that take something.

  cat_solid : (ts : List Nested) (res : List Re) → AreShapes parts lined ts res → one_takes (row ts) ≡ true
      → IsSolid (cat_all res)
  cat_solid [] [] h e hay i j m = absurd (true≢false (sym e))
  cat_solid [] (a ∷ res) h e hay i j m = absurd h
  cat_solid (t ∷ ts) [] h e hay i j m = absurd h
  cat_solid (t ∷ ts) (a ∷ res) h e hay i j m =
      let first = Matches-IsSpan hay a i m.0 m.1 in
      let rest = Matches-IsSpan hay (cat_all res) m.0 j m.2 in
      by_first (cases_Bool (takes_some t)) first.0 rest.0 (λ later. cat_solid ts res h.1 later hay m.0 j m.2)
    where
      by_first : (takes_some t ≡ true) ⊎ (takes_some t ≡ false) → i ≤ m.0 → m.0 ≤ j
          → (one_takes (row ts) ≡ true → m.0 < j) → i < j
      by_first (inl some) le le' later = let on = h.0.2.solid some hay i m.0 m.1 in omega (arith, on, le')
      by_first (inr none) le le' later = let on = later (ap (λ b. b || one_takes (row ts)) (sym none) ∙ e) in
          omega (arith, on, le)

  alt_solid : (ts : List Nested) (res : List Re) → AreShapes parts lined ts res → all_take (row ts) ≡ true
      → IsSolid (alt_all res)
  unfolding in_ranges
  alt_solid [] [] h e hay i j m = let none = m.2 in absurd cc
  alt_solid [] (a ∷ res) h e hay i j m = absurd h
  alt_solid (t ∷ ts) [] h e hay i j m = absurd h
  alt_solid (t ∷ ts) (a ∷ res) h e hay i j (inl m) = h.0.2.solid (and_parts (takes_some t) (all_take (row ts)) e).0
      hay i j m
  alt_solid (t ∷ ts) (a ∷ res) h e hay i j (inr m) = alt_solid ts res h.1
      (and_parts (takes_some t) (all_take (row ts)) e).1 hay i j m

  are_exact : (ts : List Nested) (res : List Re) → AreShapes parts lined ts res → Off → are_plain dots (row ts) ≡ true
      → AreExact parts lined ts res
  are_exact [] [] h off e = tt
  are_exact [] (a ∷ res) h off e = absurd h
  are_exact (t ∷ ts) [] h off e = absurd h
  are_exact (t ∷ ts) (a ∷ res) h off e =
      let both = and_parts (is_plain dots t) (are_plain dots (row ts)) e in
      (h.0.2.exact off both.0, are_exact ts res h.1 off both.1)

  cat_dry : (ts : List Nested) (res : List Re) → AreShapes parts lined ts res → Off → IsTrue lined
      → are_plain dots (row ts) ≡ true → TakesNoLf (cat_all res)
  cat_dry [] [] h off on e = tt
  cat_dry [] (a ∷ res) h off on e = absurd h
  cat_dry (t ∷ ts) [] h off on e = absurd h
  cat_dry (t ∷ ts) (a ∷ res) h off on e =
      let both = and_parts (is_plain dots t) (are_plain dots (row ts)) e in
      (h.0.2.no_lf off on both.0, cat_dry ts res h.1 off on both.1)

  alt_dry : (ts : List Nested) (res : List Re) → AreShapes parts lined ts res → Off → IsTrue lined
      → are_plain dots (row ts) ≡ true → TakesNoLf (alt_all res)
  unfolding in_ranges
  alt_dry [] [] h off on e = refl
  alt_dry [] (a ∷ res) h off on e = absurd h
  alt_dry (t ∷ ts) [] h off on e = absurd h
  alt_dry (t ∷ ts) (a ∷ res) h off on e =
      let both = and_parts (is_plain dots t) (are_plain dots (row ts)) e in
      (h.0.2.no_lf off on both.0, alt_dry ts res h.1 off on both.1)

  in_order_of : (low : ℕ) (high : Option ℕ) → are_few low high ≡ true → IsUpTo high low
  in_order_of low None e = tt
  in_order_of low (Some high) e = leb-true low high (and_parts (nat_le low high) (nat_le high 200) e).0

  just_rounds : (low : ℕ) (high : Option ℕ) (a re : Re) → AreRounds low high a re → are_few low high ≡ true
      → re ≡ repeat low high true a
  just_rounds low high a re r few =
      let same = r.1.1.1.2 few in
      r.1.1.0 ∙ ap (λ n. repeat n r.1.0 true a) same.0 ∙ ap (λ o. repeat low o true a) same.1

  rounds_solid : (low : ℕ) (high : Option ℕ) (a re : Re) → AreRounds low high a re → 0 < low → IsSolid a → IsSolid re
  rounds_solid low high a re r some solid = subst IsSolid (sym r.1.1.0)
      (repeat_solid r.0 r.1.0 a (r.1.1.1.3 some) solid)

  rounds_see : (low : ℕ) (high : Option ℕ) (a re : Re) → AreRounds low high a re → SeesLines a → SeesLines re
  rounds_see low high a re r h = subst SeesLines (sym r.1.1.0) (repeat_sees r.0 r.1.0 a h)

  rounds_dry : (low : ℕ) (high : Option ℕ) (a re : Re) → AreRounds low high a re → TakesNoLf a → TakesNoLf re
  rounds_dry low high a re r h = subst TakesNoLf (sym r.1.1.0) (repeat_dry r.0 r.1.0 a h)

  -- of a tree that isn't plain nothing more is known
  no_more : (t : Nested) (re : Re) → takes_some t ≡ false → is_plain dots t ≡ false → Known t re
  no_more t re may_be other = record {
    solid = λ e. absurd (true≢false (sym e ∙ may_be));
    exact = λ off e. absurd (true≢false (sym e ∙ other));
    no_lf = λ off on e. absurd (true≢false (sym e ∙ other));
  }

  as_empty : (t : Nested) → IsWider parts lined t empty → Known t empty → IsShape parts lined t (meaning Empty)
  as_empty t h k = subst (IsShape parts lined t) (sym meaning-Empty) (tt, h, k)

  pub empty_is : IsShape parts lined tree.empty (meaning Empty)
  empty_is = as_empty tree.empty (shape_empty parts lined) (record {
    solid = λ e. absurd (true≢false (sym e));
    exact = λ off e. just_empty parts lined;
    no_lf = λ off on e. tt;
  })

  pub keep_is : IsShape parts lined tree.keep_out (meaning Empty)
  keep_is = as_empty tree.keep_out (shape_keep parts lined) (no_more tree.keep_out empty refl refl)

  pub look_is : (ahead positive once : Bool) (ts : List Nested)
      → IsShape parts lined (tree.look ahead positive once (row ts)) (meaning Empty)
  look_is ahead positive once ts = as_empty (tree.look ahead positive once (row ts))
      (shape_look parts lined ahead positive once (row ts))
      (no_more (tree.look ahead positive once (row ts)) empty refl refl)

  pub callout_is : (c : Callout) → IsShape parts lined (tree.callout c) (meaning Empty)
  callout_is c = as_empty (tree.callout c) (shape_callout parts lined c) (no_more (tree.callout c) empty refl refl)

  pub verb_is : (v : Verb) → GoesOn v → IsShape parts lined (tree.verb v) (meaning Empty)
  verb_is v k = as_empty (tree.verb v) (shape_verb parts lined v k) (no_more (tree.verb v) empty refl refl)

  pub fail_is : (o : Option ℕ) (re : Re) → re ≡ byte_in [] → IsShape parts lined (tree.verb (Fail o)) re
  fail_is o re e = subst (IsShape parts lined (tree.verb (Fail o))) (sym e)
      (tt, shape_fail parts lined o, no_more (tree.verb (Fail o)) (byte_in []) refl refl)

  pub anchor_is : (kind : AnchorKind) (re : Re) → IsAnchorShape parts lined kind re
      → IsShape parts lined (tree.anchor kind) re
  anchor_is kind re h = (h.0, shape_anchor parts lined kind re h, no_more (tree.anchor kind) re refl refl)

  pub break_is : (re : Re) → IsAnyText parts lined re → IsShape parts lined tree.line_break re
  break_is re h = (h.0, shape_break parts lined re h, no_more tree.line_break re refl refl)

  pub ref_is : (ns : List ℕ) (caseless : Bool) (re : Re) → IsAnyText parts lined re
      → IsShape parts lined (tree.ref ns caseless) re
  ref_is ns caseless re h = (h.0, shape_ref parts lined ns caseless re h, no_more (tree.ref ns caseless) re refl refl)

  pub call_is : (n : ℕ) (re : Re) → IsAnyText parts lined re → IsShape parts lined (tree.call n) re
  call_is n re h = (h.0, shape_call parts lined n re h, no_more (tree.call n) re refl refl)

  pub one_is : (item : Item) (re : Re) → IsItemShape parts lined item re → IsShape parts lined (tree.one item) re
  one_is item re h = (
    h.sees,
    shape_one parts lined item re h,
    record {
      solid = λ e. h.solid;
      exact = λ off e. just_one parts lined item re (h.exact off e);
      no_lf = λ off on e. h.no_lf off on;
    },
  )

  pub many_is : (item : Item) (a re : Re) (low : ℕ) (high : Option ℕ) (lazily : Bool) → IsItemShape parts lined item a
      → AreRounds low high a re → IsShape parts lined (tree.one_repeat item low high lazily) re
  many_is item a re low high lazily h r = (
    rounds_see low high a re r h.sees,
    shape_many parts lined item a re low high lazily h r,
    record {
      solid = λ e. rounds_solid low high a re r (ltb-true 0 low e) h.solid;
      exact = λ off e.
          let few = and_parts (are_few low high) (is_plain_item dots item) e in
          subst (IsExact parts lined (tree.one_repeat item low high lazily)) (sym (just_rounds low high a re r few.0))
          (just_many parts lined item a low high lazily (in_order_of low high few.0) (h.exact off few.1));
      no_lf = λ off on e. rounds_dry low high a re r (h.no_lf off on);
    },
  )

  pub repeat_is : (body : Nested) (a re : Re) (low : ℕ) (high : Option ℕ) (lazily : Bool) → IsUpTo high low
      → IsShape parts lined body a → AreRounds low high a re
      → IsShape parts lined (tree.repeat body low high lazily) re
  repeat_is body a re low high lazily le h r = (
    rounds_see low high a re r h.0,
    shape_repeat parts lined body a re low high lazily le h.1 r,
    record {
      solid = λ e. let some = and_parts (nat_lt 0 low) (takes_some body) e in
          rounds_solid low high a re r (ltb-true 0 low some.0) (h.2.solid some.1);
      exact = λ off e.
          let few = and_parts (are_few low high) (takes_some body && is_plain dots body) e in
          let body_is = and_parts (takes_some body) (is_plain dots body) few.1 in
          subst (IsExact parts lined (tree.repeat body low high lazily)) (sym (just_rounds low high a re r few.0))
          (just_repeat parts lined body a low high lazily le h.1 (h.2.exact off body_is.1) (h.2.solid body_is.0));
      no_lf = λ off on e.
          let few = and_parts (are_few low high) (takes_some body && is_plain dots body) e in
          let body_is = and_parts (takes_some body) (is_plain dots body) few.1 in
          rounds_dry low high a re r (h.2.no_lf off on body_is.1);
    },
  )

  pub condition_is : (test : Test) (first : Nested) (second : Other) (a b re : Re) → IsPlainTest test
      → IsShape parts lined first a → IsOtherShape parts lined second b
      → re ≡ alt_all (a ∷ b ∷ []) → IsShape parts lined (tree.condition test first second) re
  condition_is test first second a b re plain h k e =
      subst (IsShape parts lined (tree.condition test first second)) (sym e) (
        (h.0, (k.0, tt)),
        shape_condition parts lined test first second a b plain h.1 k,
        no_more (tree.condition test first second) (alt_all (a ∷ b ∷ [])) refl refl,
      )

  pub no_other_is : IsOtherShape parts lined tree.no_other (meaning Empty)
  no_other_is = subst (IsOtherShape parts lined tree.no_other) (sym meaning-Empty) (tt, other_none parts lined)

  pub other_is : (t : Nested) (re : Re) → IsShape parts lined t re → IsOtherShape parts lined (tree.other t) re
  other_is t re h = (h.0, other_some parts lined t re h.1)

  pub no_other_told : (no : Option ℕ) → no ≡ None → IsOtherShape parts lined (other_of (trees parts.nodes) no)
      (meaning Empty)
  no_other_told other e = subst (λ o. IsOtherShape parts lined (other_of (trees parts.nodes) o) (meaning Empty))
      (sym e) no_other_is

  pub other_told : (no : Option ℕ) (k : ℕ) (o : Option Hir) → no ≡ Some k → Is k o
      → IfSome o (λ hir. IsOtherShape parts lined (other_of (trees parts.nodes) no) (meaning hir))
  other_told other k o e h =
      subst (λ n. IfSome o (λ hir. IsOtherShape parts lined (other_of (trees parts.nodes) n) (meaning hir))) (sym e)
      (of_some o h)
    where
      of_some : (o : Option Hir) → Is k o
          → IfSome o (λ hir. IsOtherShape parts lined (tree.other (tree_at (trees parts.nodes) k)) (meaning hir))
      of_some None h = tt
      of_some (Some hir) h = other_is (tree_at (trees parts.nodes) k) (meaning hir) h

  pub seq_is : (ts : List Nested) (subs : Vec Hir Global) → AreShapes parts lined ts (map meaning subs.items)
      → IsShape parts lined (tree.seq (row ts)) (meaning (Concat subs))
  seq_is ts subs h = subst (IsShape parts lined (tree.seq (row ts))) (sym (meaning-Concat subs)) (
    cat_sees ts (map meaning subs.items) h,
    shape_seq parts lined ts (map meaning subs.items) h,
    record {
      solid = cat_solid ts (map meaning subs.items) h;
      exact = λ off e. just_seq parts lined ts (map meaning subs.items) h
          (are_exact ts (map meaning subs.items) h off e);
      no_lf = λ off on e. cat_dry ts (map meaning subs.items) h off on e;
    },
  )

  pub group_is : (number : Option ℕ) (ts : List Nested) (subs : Vec Hir Global)
      → AreShapes parts lined ts (map meaning subs.items)
      → IsShape parts lined (tree.group number (row ts)) (meaning (Alternation subs))
  group_is number ts subs h = subst (IsShape parts lined (tree.group number (row ts)))
      (sym (meaning-Alternation subs)) (
        alt_sees ts (map meaning subs.items) h,
        shape_group parts lined number ts (map meaning subs.items) h,
        record {
          solid = alt_solid ts (map meaning subs.items) h;
          exact = λ off e. just_group parts lined number ts (map meaning subs.items)
              (are_exact ts (map meaning subs.items) h off e);
          no_lf = λ off on e. alt_dry ts (map meaning subs.items) h off on e;
        },
      )

  pub atomic_is : (ts : List Nested) (subs : Vec Hir Global) → AreShapes parts lined ts (map meaning subs.items)
      → IsShape parts lined (tree.atomic (row ts)) (meaning (Alternation subs))
  atomic_is ts subs h = subst (IsShape parts lined (tree.atomic (row ts))) (sym (meaning-Alternation subs)) (
    alt_sees ts (map meaning subs.items) h,
    shape_atomic parts lined ts (map meaning subs.items) h,
    no_more (tree.atomic (row ts)) (alt_all (map meaning subs.items)) refl refl,
  )

  -- the shapes of the parts of a node, where they were told of the same parts
  pub told_are : (ks ks' : List ℕ) (o : Option (Vec Hir Global)) (subs : Vec Hir Global) → ks ≡ ks' → o ≡ Some subs
      → IfSome o (λ v. AreShapes parts lined (map of ks) (map meaning v.items))
      → AreShapes parts lined (map of ks') (map meaning subs.items)
  told_are ks ks' o subs e is h =
      subst (λ l. AreShapes parts lined (map of l) (map meaning subs.items)) e
      (subst (λ (p : Option (Vec Hir Global)). IfSome p
      (λ v. AreShapes parts lined (map of ks) (map meaning v.items))) is h)

-- the first branch of a condition stands behind its test
pub yes_below : (P : ℕ → Type 0) (ts : List ℕ) (first : ℕ) (rest : List ℕ) → All P (ts ++ first ∷ rest) → P first
yes_below P [] first rest h = h 0 0 (omega arith)
yes_below P (t ∷ ts) first rest h = yes_below P ts first rest (λ k d low. h (suc k) d (omega (arith, low)))

pub told_some : {E : Type 0} (P Q : Hir → Type 0) (r : Result (Option Hir) E) → ((hir : Hir) → P hir → Q hir)
    → IfOk r (λ o. IfSome o P) → IfOk r (λ o. IfSome o Q)
told_some P Q (Err e) to h = tt
told_some P Q (Ok None) to h = tt
told_some P Q (Ok (Some hir)) to h = to hir h

-- all of a vector that is lent as a slice
pub lent_whole : (len : ℕ) (new old : List (Option Hir)) → length new ≡ length old → len ≡ length old
    → take len (new ++ drop (length new) old) ≡ new
lent_whole len new old e k =
    ap (λ (l : List (Option Hir)). take len (new ++ l)) (drop_all (length new) old (omega (arith, e)))
    ∙ ap (take len) (append-nil new) ∙ take_all len new (omega (arith, e, k))

-- one more is kept
pub keep_one : (parts : TreeParts) (lined : Bool) (shapes : List (Option Hir)) (o : Option Hir)
    → KeepShapes parts lined shapes
    → IfSome o (λ hir. IsShape parts lined (tree_at (trees parts.nodes) (length shapes)) (meaning hir))
    → KeepShapes parts lined (shapes ++ o ∷ [])
keep_one parts lined shapes o h k =
    keep_more (λ n x. IfSome x (λ (hir : Hir). IsShape parts lined (tree_at (trees parts.nodes) n) (meaning hir)))
    shapes o None h k
