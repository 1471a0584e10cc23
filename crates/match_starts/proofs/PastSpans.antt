-- A pattern fails at the places from which too few bytes of its first repeat's class stand, or
-- where the character that has to follow stands behind no number of them that is enough.
use Rattle.std.proofs.Common.{◌≡◌, ℕ, ℤ, zero, suc, ◌+◌, ◌-◌, ◌<◌, ◌≤◌, inl, inr, Bool, true, false, List, [], ◌∷◌}
use Rattle.std.proofs.Common.{length, drop, Option, Some, None, refl, sym, ap, subst, ◌∙◌, arith}
use Rattle.std.specs.Prelude.{◌==◌, ◌||◌, slice_index, IfSome}
use Rattle.std.proofs.lemmas.Bool.{cases_lt, cases_Bool, eqb-true}
use Rattle.std.proofs.lemmas.Bool.Decides.{nat_tests}
use Rattle.byte_lanes.specs.Sets.{has_byte, IsIn}
use Rattle.pat_tree.specs.declared.nodes.Item.{Item}
use Rattle.pat_tree.specs.declared.nodes.Item.TheVariants.{Char, Class}
use Rattle.pat_tree.specs.declared.options.Options.{Options}
use Rattle.pat_tree.specs.Parts.{TreeParts}
use Rattle.char_sets.specs.Sets.{class_has}
use Rattle.char_sets.specs.Table.{CharSet, IsTableOf}
use Rattle.match_items.specs.declared.view.View.{View}
use Rattle.match_items.specs.Scene.{Scene}
use Rattle.match_items.specs.Items.{takes, after_item, is_none_left, one_less, run_places, longest_run}
use Rattle.match_items.specs.Views.{text_scene, end_of}
use Rattle.match_items.proofs.OneItem.{if_taken, after_item-before, after_item-end}
use Rattle.match_items.proofs.Places.{item_forward, place_before-less}
use Rattle.frame_board.specs.Ready.{setting_for}
use Rattle.ordered_search.specs.Stream.{Block}
use Rattle.ordered_search.specs.Setting.{Setting, lower_of}
use Rattle.ordered_search.specs.PlaceAnswer.{Exhausted, Failed, answers, place_answer}
use Rattle.ordered_search.proofs.LaterRuns.{end_within}
use Rattle.match_starts.specs.declared.repeats.FirstRepeat.{FirstRepeat}
use Rattle.match_starts.specs.Asked.{passed_over, replied}
use Rattle.match_starts.specs.Repeats.{IsFirstRepeat, FailsUpTo}
use Rattle.match_starts.specs.Spans.{IsOutside, IsShort, IsOpen}
use Rattle.match_starts.specs.Bytes.{AreBytes}
use Rattle.match_starts.proofs.PastRepeats.{AreOut, out_drop, short_run, followed_run}

-- what is put into a set is in it
pub put_in : (b : Bool) (n : ℕ) → (b || (n == n)) ≡ true
put_in true n = refl
put_in false n = grind (arith, nat_tests)

-- Runs end where their item takes nothing.

abbrev IsStopped : ℕ → ℕ → List ℕ → Type 0
IsStopped p stop run = (length run + p ≤ stop) × (end_of p run ≤ stop)

module _ (g : Scene) (item : Item) (bytes : g.options.utf ≡ false) (stop : ℕ)
    (none : after_item g item stop ≡ None) where
  stops : (n p : ℕ) → p ≤ stop → p ≤ length g.subject
      → IsStopped p stop (run_places g item n None p)
  unfolding run_places
  stops zero p low within = (omega (arith, low), low)
  stops (suc n) p low within = by_next (after_item g item p) refl (λ q a b. stops n q a b)
    where
      by_next : (o : Option ℕ) → after_item g item p ≡ o
          → ((q : ℕ) → q ≤ stop → q ≤ length g.subject
          → IsStopped q stop (run_places g item n None q))
          → IsStopped p stop (elim o as
          (λ _. List ℕ) [ None ↦ [] | Some q ↦ q ∷ run_places g item n None q ])
      by_next None e again = (omega (arith, low), low)
      by_next (Some q) e again = elim (cases_lt p stop) [
        | inl before ↦
            let f = item_forward g item p q bytes within e in
            let less : q - 1 ≡ p = sym (place_before-less g q bytes) ∙ f.2 in
            let later = f.0 in
            let h = again q (omega (arith, less, before)) f.1 in
            let count = h.0 in
            (omega (arith, count, less, later), h.1)
        | inr past ↦
            let here : p ≡ stop = omega (arith, low, past) in
            absurd (let e' = ap (after_item g item) here in cc (sym e ∙ e' ∙ none))
      ]

  abbrev IsOutFrom : Item → ℕ → ℕ → Type 0
  IsOutFrom other low p = (j : ℕ) → p + low ≤ j → j ≤ stop → after_item g other j ≡ None

  alone : (other : Item) (low p : ℕ) → p ≤ stop → IsOutFrom other low p
      → AreOut g other (drop low (p ∷ []))
  alone other zero p near out = (out p (omega arith) near, tt)
  alone other (suc low) p near out = out_drop g other low [] tt

  -- what stands nowhere from enough of the item's run on up to there follows no run that is long
  -- enough
  out_past : (other : Item) (n : ℕ) (most : Option ℕ) (low p : ℕ) → p ≤ stop
      → p ≤ length g.subject → IsOutFrom other low p
      → AreOut g other (drop low (p ∷ run_places g item n most p))
  unfolding run_places
  out_past other zero most low p near within out = alone other low p near out
  out_past other (suc n) most low p near within out = by_left (is_none_left most) low out
      (λ l q a b h. out_past other n (one_less most) l q a b h)
    where
      by_low : (q l : ℕ) → q ≡ p + 1 → q ≤ stop → q ≤ length g.subject → IsOutFrom other l p
          → ((l q : ℕ) → q ≤ stop → q ≤ length g.subject → IsOutFrom other l q
          → AreOut g other (drop l (q ∷ run_places g item n (one_less most) q)))
          → AreOut g other (drop l (p ∷ q ∷ run_places g item n (one_less most) q))
      by_low q zero later a b h again = (
        h p (omega arith) near,
        again 0 q a b
            (λ j c d. h j (omega (arith, later, c)) d),
      )
      by_low q (suc l) later a b h again =
          again l q a b (λ j c d. h j (omega (arith, later, c)) d)

      by_next : (o : Option ℕ) → after_item g item p ≡ o → (l : ℕ) → IsOutFrom other l p
          → ((l q : ℕ) → q ≤ stop → q ≤ length g.subject → IsOutFrom other l q
          → AreOut g other (drop l (q ∷ run_places g item n (one_less most) q)))
          → AreOut g other (drop l (p ∷ elim o as (λ _. List ℕ) [
            | None ↦ []
            | Some q ↦ q ∷ run_places g item n (one_less most) q
          ]))
      by_next None e l h again = alone other l p near h
      by_next (Some q) e l h again = elim (cases_lt p stop) [
        | inl before ↦
            let f = item_forward g item p q bytes within e in
            let less : q - 1 ≡ p = sym (place_before-less g q bytes) ∙ f.2 in
            let later = f.0 in
            by_low q l (omega (arith, less, later)) (omega (arith, less, before)) f.1 h again
        | inr past ↦
            let here : p ≡ stop = omega (arith, near, past) in
            absurd (let e' = ap (after_item g item) here in cc (sym e ∙ e' ∙ none))
      ]

      by_left : (b : Bool) (l : ℕ) → IsOutFrom other l p
          → ((l q : ℕ) → q ≤ stop → q ≤ length g.subject → IsOutFrom other l q
          → AreOut g other (drop l (q ∷ run_places g item n (one_less most) q)))
          → AreOut g other (drop l (p ∷ elim b as (λ _. List ℕ) [
            | true ↦ []
            | false ↦ elim (after_item g item p) [
              | None ↦ []
              | Some q ↦ q ∷ run_places g item n (one_less most) q
            ]
          ]))
      by_left true l h again = alone other l p near h
      by_left false l h again = by_next (after_item g item p) refl l h again

-- The search of a tree.

module _ (tree : TreeParts) (table : List CharSet) (view : View) (first : FirstRepeat)
    (shown : IsTableOf tree table)
    (options : view.options.now ≡ tree.options) (is : IsFirstRepeat tree view first)
    (class : ℕ) (item : first.item ≡ Class class) (set : List Bool)
    (small : AreBytes view.subject.now)
    (has : (b : ℕ) → b < 256 → has_byte set b ≡ class_has tree class b) where
  abbrev scene : Scene
  scene = text_scene view table

  abbrev g : Setting
  g = setting_for tree view passed_over

  abbrev run_from : ℕ → List ℕ
  run_from k = longest_run scene first.item None k

  abbrev Fails : ℕ → Type 0
  Fails k = (reply : Block → ℤ) → place_answer (replied reply g) k ≡ answers (Failed Exhausted)

  none_at : (k : ℕ) → IsOutside set view.subject.now k → after_item scene first.item k ≡ None
  none_at k out = elim (cases_lt k (length view.subject.now)) [
    | inl inside ↦
        let b = slice_index view.subject.now k in
        let lacks : takes scene (Class class) k b ≡ false = shown.answers class b
        ∙ sym (has b (small k inside)) ∙ out inside in
        after_item-before scene first.item k is.bytes inside
        ∙ ap (λ (i : Item). if_taken (takes scene i k b) (k + 1)) item
        ∙ ap (λ (t : Bool). if_taken t (k + 1)) lacks
    | inr past ↦ after_item-end scene first.item k past
  ]

  stopped : (k stop : ℕ) → k ≤ stop → IsOutside set view.subject.now stop
      → k ≤ length view.subject.now → IsStopped k stop (run_from k)
  stopped k stop low out within =
      stops scene first.item is.bytes stop (none_at stop out) (length view.subject.now) k low within

  run_low : (k : ℕ) → k ≤ length view.subject.now
      → k ≤ end_of k (longest_run g.scene first.item None k)
  run_low k within =
      let bytes : g.options.utf ≡ false = ap (λ (o : Options). o.utf) (sym options) ∙ is.bytes in
      (end_within g.scene first.item bytes (length view.subject.now) k within).0

  short_place : (k : ℕ) → k ≤ length view.subject.now
      → IsShort set view.subject.now first.min k → Fails k
  short_place k within h reply =
      let count = (stopped k h.stop h.low h.outside within).0 in
      let near = h.near in
      short_run tree table view first shown options is k within (length (run_from k)) refl
      (omega (arith, count, near)) reply k (omega arith) (run_low k within)

  module _ (c : ℕ) (behind : first.behind ≡ Some c) (ends : List Bool)
      (member : has_byte ends c ≡ true) where
    unfollowed : (k : ℕ) → k < length view.subject.now → ¬ IsIn ends view.subject.now k
        → after_item scene (Char c false) k ≡ None
    unfollowed k inside no-end =
        let b = slice_index view.subject.now k in
        let other : (c == b) ≡ false = elim (cases_Bool (c == b)) [
          | inl here ↦ absurd (no-end
              (subst (λ x. has_byte ends x ≡ true) (eqb-true c b here) member))
          | inr apart ↦ apart
        ] in
        after_item-before scene (Char c false) k is.bytes inside
        ∙ ap (λ (t : Bool). if_taken t (k + 1)) other

    none_follows : (j : ℕ)
        → (j < length view.subject.now → ¬ IsIn ends view.subject.now j)
        → after_item scene (Char c false) j ≡ None
    none_follows j no-end = elim (cases_lt j (length view.subject.now)) [
      | inl inside ↦ unfollowed j inside (no-end inside)
      | inr past ↦ after_item-end scene (Char c false) j past
    ]

    open_place : (p k : ℕ) → p ≤ k → k ≤ length view.subject.now
        → length view.subject.now - p < lower_of view.options.now.match_limit
        view.matching.now.match_limit
        → IsOpen set ends view.subject.now first.min k → Fails k
    open_place p k later within limit h reply =
        let count = (stopped k (length view.subject.now) within
        (λ inside. absurd (omega (arith, inside))) within).0 in
        followed_run tree table view first shown options is c behind k
        (λ high. out_past scene first.item is.bytes h.stop (none_at h.stop h.outside)
        (Char c false) (length view.subject.now) high first.min k h.low within
        (λ j a b. none_follows j (h.none j a b))) (length (run_from k)) refl
        (omega (arith, count, later, limit)) reply

  -- all places before another one
  fail_before : (p next : ℕ) → next ≤ length view.subject.now + 1
      → ((k : ℕ) → p ≤ k → k < next → Fails k)
      → (o : Option ℕ) → IfSome o (λ q. (p ≤ q) × (q + 1 ≡ next))
      → IfSome o (FailsUpTo tree view p)
  fail_before p next high fail None last = tt
  fail_before p next high fail (Some q) last =
      let low = last.0 in
      let is' = last.1 in
      record {
        low = low;
        within = omega (arith, is', high);
        bytes = ap (λ (o : Options). o.utf) (sym options) ∙ is.bytes;
        fail = λ reply k a b. fail k a (omega (arith, b, is')) reply;
      }

  pub short_before : (p next : ℕ) → next ≤ length view.subject.now + 1
      → ((k : ℕ) → p ≤ k → k < next → IsShort set view.subject.now first.min k)
      → (o : Option ℕ) → IfSome o (λ q. (p ≤ q) × (q + 1 ≡ next))
      → IfSome o (FailsUpTo tree view p)
  short_before p next high short o last =
      fail_before p next high
      (λ k a b. short_place k (omega (arith, b, high)) (short k a b)) o last

  pub open_before : (c : ℕ) → first.behind ≡ Some c → (ends : List Bool) → has_byte ends c ≡ true
      → (p next : ℕ) → next ≤ length view.subject.now + 1
      → length view.subject.now - p < lower_of view.options.now.match_limit
      view.matching.now.match_limit
      → ((k : ℕ) → p ≤ k → k < next → IsOpen set ends view.subject.now first.min k)
      → (o : Option ℕ) → IfSome o (λ q. (p ≤ q) × (q + 1 ≡ next))
      → IfSome o (FailsUpTo tree view p)
  open_before c behind ends member p next high limit open' o last =
      fail_before p next high (λ k a b. open_place c behind ends member p k a
      (omega (arith, b, high)) limit (open' k a b)) o last
