-- The ends don't depend on the frame limit, so the search under any limit agrees with them.
use mathlib.Core.Path.{fun_ext}
use Rattle.std.proofs.Common.{◌≡◌, ◌∙◌, ℕ, zero, suc, true, false, List, [], ◌∷◌, drop, Option, Some, None, refl}
use Rattle.std.proofs.Common.{sym, ap, ap₂, subst}
use Rattle.pat_tree.specs.Nested as tree
use Rattle.pat_tree.specs.Nested.{Nested, Row, Test, Other}
use Rattle.pat_lengths.specs.Lengths.{SomeLengths}
use Rattle.match_items.specs.Items.{places_back, previous}
use Rattle.ordered_search.specs.Stream.{Stream}
use Rattle.ordered_search.specs.Setting.{Setting, branch_lengths}
use Rattle.dfa_ends.specs.Ends.{Spot, spot, has_one_length, tries}
use Rattle.dfa_ends.specs.EndList.{In, union, every, longest, if_any, begun_at, counted, repeated, item_ends}
use Rattle.dfa_ends.specs.EndList.{try_list, ends_list, all_list, any_list, behind_list, test_list, other_list}
use Rattle.dfa_ends.specs.TwoMatchers.{EndPlace, Agrees, with_frame_limit, EndsLaw}
use Rattle.dfa_ends.proofs.ListLaw.{list_law}
use Rattle.dfa_ends.proofs.Agree.{agrees}

module _ (g : Setting) (limit : ℕ) where
  abbrev h : Setting
  h = with_frame_limit limit g

  back_on : (n p : ℕ) (o : Option (ℕ × ℕ)) →
      ((q : ℕ) → places_back h.scene n q ≡ places_back g.scene n q) →
      ◌≡◌ {A = List ℕ} (elim o [ None ↦ p ∷ [] | Some c ↦ p ∷ places_back h.scene n c.1 ])
      (elim o [ None ↦ p ∷ [] | Some c ↦ p ∷ places_back g.scene n c.1 ])
  back_on n p None f = refl
  back_on n p (Some c) f = ap (λ ps. p ∷ ps) (f c.1)

  same_back : (n p : ℕ) → places_back h.scene n p ≡ places_back g.scene n p
  unfolding places_back
  same_back zero p = refl
  same_back (suc n) p = back_on n p (previous g.scene p) (same_back n)

  same_within : (least : ℕ) (most : Option ℕ) (p : ℕ) →
      tries h (Some (record { least = least; most = most })) p
      ≡ tries g (Some (record { least = least; most = most })) p
  same_within least None p = refl
  same_within least (Some most) p = ap (λ ps. drop least ps) (same_back most p)

  same_tries : (lengths : SomeLengths) (p : ℕ) → tries h lengths p ≡ tries g lengths p
  same_tries None p = refl
  same_tries (Some a) p = same_within a.least a.most p

  same_try : (lengths : SomeLengths) (f k : Spot → List Spot) → f ≡ k → (x : Spot) →
      try_list h lengths f x ≡ try_list g lengths k x
  unfolding try_list
  same_try lengths f k e x =
      ap₂ (λ f ps. counted (has_one_length lengths) x (every f (begun_at ps x))) e
      (same_tries lengths x.place)

  mutual
    unfolding ends_list repeated item_ends

    same : (t : Nested) (x : Spot) → ends_list h t x ≡ ends_list g t x
    same tree.empty x = refl
    same (tree.one item) x = refl
    same tree.line_break x = refl
    same (tree.seq ts) x = same_all ts x
    same (tree.group number ts) x = same_any ts x
    same (tree.repeat body low high lazily) x =
        ap (λ f. repeated g f low high x) (fun_ext (same body))
    same (tree.one_repeat item low high lazily) x = refl
    same (tree.atomic ts) x = ap longest (same_any ts x)
    same (tree.look true true once ts) x = ap (λ zs. if_any zs (x ∷ []) []) (same_any ts x)
    same (tree.look true false once ts) x = ap (λ zs. if_any zs [] (x ∷ [])) (same_any ts x)
    same (tree.look false true once ts) x = ap (λ zs. if_any zs (x ∷ []) []) (same_behind ts x)
    same (tree.look false false once ts) x = ap (λ zs. if_any zs [] (x ∷ [])) (same_behind ts x)
    same (tree.condition test first second) x =
        same_test test x (ends_list h first x) (other_list h second x)
        ∙ ap₂ (λ xs ys. test_list g test x xs ys) (same first x) (same_other second x)
    same (tree.anchor kind) x = refl
    same (tree.callout c) x = refl
    same (tree.verb v) x = refl
    same (tree.call n) x = refl
    same (tree.ref ns caseless) x = refl
    same tree.keep_out x = refl

    same_all : (ts : Row) (x : Spot) → all_list h ts x ≡ all_list g ts x
    same_all tree.none x = refl
    same_all (tree.more t ts) x = ap₂ (λ f xs. every f xs) (fun_ext (same_all ts)) (same t x)

    same_any : (ts : Row) (x : Spot) → any_list h ts x ≡ any_list g ts x
    same_any tree.none x = refl
    same_any (tree.more t ts) x = ap₂ (λ xs ys. union xs ys) (same t x) (same_any ts x)

    same_behind : (ts : Row) (x : Spot) → behind_list h ts x ≡ behind_list g ts x
    same_behind tree.none x = refl
    same_behind (tree.more t ts) x =
        ap₂ (λ xs ys. union xs ys)
        (same_try (branch_lengths g t) (ends_list h t) (ends_list g t) (fun_ext (same t)) x)
        (same_behind ts x)

    same_test : (test : Test) (x : Spot) (xs ys : List Spot) →
        test_list h test x xs ys ≡ test_list g test x xs ys
    same_test (tree.assert true true once ts) x xs ys = ap (λ zs. if_any zs xs ys) (same_any ts x)
    same_test (tree.assert true false once ts) x xs ys = ap (λ zs. if_any zs ys xs) (same_any ts x)
    same_test (tree.assert false true once ts) x xs ys =
        ap (λ zs. if_any zs xs ys) (same_behind ts x)
    same_test (tree.assert false false once ts) x xs ys =
        ap (λ zs. if_any zs ys xs) (same_behind ts x)
    same_test (tree.called c test) x xs ys = same_test test x xs ys
    same_test tree.never x xs ys = refl
    same_test tree.in_call x xs ys = refl
    same_test (tree.any_set ns) x xs ys = refl
    same_test (tree.in_call_of ns) x xs ys = refl

    same_other : (o : Other) (x : Spot) → other_list h o x ≡ other_list g o x
    same_other tree.no_other x = refl
    same_other (tree.other t) x = same t x

  from_limited : (t : Nested) (p q : ℕ) → EndPlace h t p q → EndPlace g t p q
  from_limited t p q i =
      let y = (list_law h t (spot p p) (spot q i.0)).1 i.1 in (
        i.0,
        (list_law g t (spot p p) (spot q i.0)).0
            (subst (In (spot q i.0)) (same t (spot p p)) y),
      )

  to_limited : (t : Nested) (p q : ℕ) → EndPlace g t p q → EndPlace h t p q
  to_limited t p q i =
      let y = (list_law g t (spot p p) (spot q i.0)).1 i.1 in (
        i.0,
        (list_law h t (spot p p) (spot q i.0)).0
            (subst (In (spot q i.0)) (sym (same t (spot p p))) y),
      )

  agrees_limited : (t : Nested) (p : ℕ) (x : Stream) → Agrees h t p x → Agrees g t p x
  agrees_limited t p x a = record {
    each_is_an_end = λ q o. from_limited t p q (a.each_is_an_end q o);
    all_are_met = λ e q i. a.all_are_met e q (to_limited t p q i);
    endings = a.endings;
  }

pub ends_law : EndsLaw
ends_law g off t common d limit p =
    agrees_limited g limit t p _ (agrees (with_frame_limit limit g) off t common d p)
