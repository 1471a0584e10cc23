-- A greedy repeat of one item, and the places that it hands on.
use Rattle.std.proofs.Common.{◌≡◌, ◌∙◌, ◌<◌, ◌≤◌, ℕ, zero, suc, ◌+◌, ◌-◌, Bool, true, false, List, [], ◌∷◌, length}
use Rattle.std.proofs.Common.{drop}
use Rattle.std.proofs.Common.{reverse, arith, refl, sym, ap, subst, Option, Some, None}
use mathlib.Core.List.{reverse_aux}
use Rattle.std.proofs.Math.Seq.{drop-nil}
use Rattle.pat_tree.specs.declared.options.PartialMode.TheVariants.{Off}
use Rattle.pat_tree.specs.declared.nodes.Item.{Item}
use Rattle.pat_tree.specs.Nested as tree
use Rattle.match_items.specs.Items.{is_none_left, one_less, after_item, run_places, longest_run, place_before}
use Rattle.match_items.specs.Items.{run_reaches}
use Rattle.match_items.specs.Subjects.{IsText, IsTextPlace}
use Rattle.match_items.specs.Views.{end_of}
use Rattle.match_items.proofs.TextGround.{places_stand}
use Rattle.ordered_search.specs.Stream.{State, reached, step, Stream, Search, ◌▸◌, nothing, gives, ◌or_else◌, each}
use Rattle.ordered_search.specs.Stream.{go_on}
use Rattle.ordered_search.specs.Stream.{and_then}
use Rattle.ordered_search.specs.Setting.{Setting, hold}
use Rattle.ordered_search.specs.Tests.{move_to, offers, greedy, run_many}
use Rattle.ordered_search.specs.Run.{run, level}
use Rattle.search_costs.specs.Tasks.{Task, Key, part, onward}
use Rattle.search_costs.specs.Costs.{IsWhole}
use Rattle.search_costs.proofs.RunLaw.{each_or_else}
use Rattle.fail_sites.specs.Left.{Left, todo}
use Rattle.fail_sites.specs.Graph as sites
use Rattle.fail_sites.specs.Graph.{Graph, IsGraph, Fits, moved}
use Rattle.fail_sites.specs.Stands.{AreOfKeys, and_task, of_part, IsSearchOf, of_todo, standing, Stands}
use Rattle.fail_sites.specs.SiteLaws.{one_more, StandsAt}
use Rattle.fail_sites.specs.Offers.{AreHandedOn, at_start, at_least, and_before, last_site, IsOffer, Repeats, Further}
use Rattle.fail_sites.specs.Offers.{Last}
use Rattle.fail_sites.specs.Offers.{RepeatLaw, OfferLaw, LastLaw}
use Rattle.fail_sites.specs.declared.op.Op.TheVariants as op
use Rattle.fail_sites.proofs.Streams.{then_given, reach_off}
use Rattle.fail_sites.proofs.Leading.{fewer_of, moved_of, on_part}
use Rattle.fail_sites.proofs.OneSite.{held_then}

-- Places that follow one another.
module _ (g : Setting) (text : IsText g.options g.subject) (item : Item) where
  pub data AreForward : ℕ → List ℕ → Type 0 where
    no_further : {r : ℕ} → AreForward r []
    then_further : {r q : ℕ} {qs : List ℕ} → r < q → IsTextPlace g.options g.subject q → place_before g.scene q ≡ r
        → AreForward q qs → AreForward r (q ∷ qs)

  forward_run : (n : ℕ) (most : Option ℕ) (p : ℕ) → IsTextPlace g.options g.subject p
      → AreForward p (run_places g.scene item n most p)
  unfolding run_places
  forward_run zero most p here = no_further
  forward_run (suc n) most p here =
      by_left (λ q there. forward_run n (one_less most) q there) (is_none_left most)
    where
      Onward : Type 0
      Onward = (q : ℕ) → IsTextPlace g.options g.subject q → AreForward q (run_places g.scene item n (one_less most) q)

      by_item : Onward → (o : Option ℕ) → after_item g.scene item p ≡ o
          → AreForward p (elim o [ None ↦ [] | Some q ↦ q ∷ run_places g.scene item n (one_less most) q ])
      by_item k None e = no_further
      by_item k (Some q) e =
          let there = (places_stand g.scene text).forward item p q here e in
          then_further there.0 there.1 there.2 (k q there.1)

      by_left : Onward → (b : Bool) → AreForward p (elim b [
        | true ↦ []
        | false ↦ elim (after_item g.scene item p)
            [ None ↦ [] | Some q ↦ q ∷ run_places g.scene item n (one_less most) q ]
      ])
      by_left k true = no_further
      by_left k false = by_item k (after_item g.scene item p) refl

  -- what the places after r add to those that are handed on
  pub record Handed (low p q further : ℕ) (ps : List ℕ) : Type 0 where
    pub rest : List ℕ
    pub is : ps ≡ q ∷ rest
    pub places : AreHandedOn g low p (q ∷ rest)
    pub count : length rest ≡ further

  handed : (low p r : ℕ) (qs acc : List ℕ) → p ≤ r → AreForward r qs → AreHandedOn g low p (r ∷ acc)
      → Handed low p (end_of r qs) (length qs + length acc) (reverse_aux qs (r ∷ acc))
  handed low p r [] acc le no_further h =
      record { rest = acc; is = refl; places = h; count = omega arith }
  handed low p r (q ∷ qs) acc le (then_further far there before more) h =
      let next : AreHandedOn g low p (q ∷ r ∷ acc) =
      subst (λ s. AreHandedOn g low p (q ∷ s ∷ acc)) before
      (and_before (omega (arith, le, far)) there
      (subst (λ s. AreHandedOn g low p (s ∷ acc)) (sym before) h)) in
      let all = handed low p q qs (r ∷ acc) (omega (arith, le, far)) more next in
      record { rest = all.rest; is = all.is; places = all.places; count = all.count ∙ moves (length qs) (length acc) }
    where
      moves : (n m : ℕ) → n + suc m ≡ suc n + m
      moves n m = omega arith

  -- past the least number of items
  from_least : (low k p r : ℕ) (qs : List ℕ) → p < r → 0 < low → IsTextPlace g.options g.subject r → AreForward r qs
      → k ≤ length qs → Handed low p (end_of r qs) (length qs - k) (reverse (drop k (r ∷ qs)))
  from_least low zero p r qs far some here more le =
      let all = handed low p r qs [] (omega (arith, far)) more (at_least some far here) in
      record { rest = all.rest; is = all.is; places = all.places; count = all.count ∙ none (length qs) }
    where
      none : (n : ℕ) → n + 0 ≡ n - 0
      none n = omega arith
  from_least low (suc k) p r [] far some here more le = absurd (omega arith)
  from_least low (suc k) p r (q ∷ qs) far some here (then_further on there before more) le =
      let all = from_least low k p q qs (omega (arith, far, on)) some there more (omega (arith, le)) in
      record { rest = all.rest; is = all.is; places = all.places; count = all.count ∙ one (length qs) }
    where
      one : (n : ℕ) → n - k ≡ suc n - suc k
      one n = omega arith

  pub all_handed : (low p : ℕ) (qs : List ℕ) → AreForward p qs → low ≤ length qs
      → Handed low p (end_of p qs) (length qs - low) (reverse (drop low (p ∷ qs)))
  all_handed zero p qs more le =
      let all = handed 0 p p qs [] (omega arith) more (at_start refl) in
      record { rest = all.rest; is = all.is; places = all.places; count = all.count ∙ none (length qs) }
    where
      none : (n : ℕ) → n + 0 ≡ n - 0
      none n = omega arith
  all_handed (suc low) p [] more le = absurd (omega arith)
  all_handed (suc low) p (q ∷ qs) (then_further far there before more) le =
      let all = from_least (suc low) low p q qs far (omega arith) there more (omega (arith, le)) in
      record { rest = all.rest; is = all.is; places = all.places; count = all.count ∙ one (length qs) low }
    where
      one : (n m : ℕ) → n - m ≡ suc n - suc m
      one n m = omega arith

too_few : (low p : ℕ) (qs : List ℕ) → length qs < low → drop low (p ∷ qs) ≡ []
too_few zero p qs le = absurd (omega arith)
too_few (suc low) p [] le = drop-nil low
too_few (suc low) p (q ∷ qs) le = too_few low q qs (omega (arith, le))

module _ (c : Graph) (is : IsGraph c) where
  repeat_is : (item : Item) (d low : ℕ) (high : Option ℕ) (left : List Task) (s : State)
      → onward c.setting (part (suc d) (tree.one_repeat item low high false) ∷ left) s
      ≡ and_then (offers c.setting
      (reverse (drop low (s.place ∷ longest_run c.setting.scene item high s.place))) s) (onward c.setting left)
  unfolding level run_many greedy
  repeat_is item d low high left s =
      on_part c.setting d (tree.one_repeat item low high false) left s
      ∙ ap (λ y. and_then y (onward c.setting left)) (reach_off c.setting is.whole.off
      (run_reaches c.setting.scene item high s.place (longest_run c.setting.scene item high s.place)) s _)

  repeats : (item : Item) (low : ℕ) (high : Option ℕ) (next' moved' n p : ℕ) {l l' l'' : Left} {f : Search} (s : State)
      (x : ℕ → Stream) → c.left next' ≡ l' → c.left moved' ≡ l'' → IsTextPlace c.setting.options c.setting.subject p
      → sites.Repeats item low high l l' l'' → IsSearchOf c.setting n p l f → ((u : ℕ) → x u ≡ f (standing p u s))
      → Repeats c item low high next' moved' n p x
  unfolding offers each
  repeats item low high next' moved' n p s x e e' here sites.repeats (of_todo (and_task
      (of_part {d = zero} deep plain) hs))
      at = absurd (omega arith)
  repeats item low high next' moved' n p s x e e' here sites.repeats
      (of_todo (and_task {left = left} (of_part {d = suc d} deep plain) hs)) at = record {
        none = λ short u.
            at u ∙ repeat_is item d low high left (standing p u s)
            ∙ ap (λ ps. and_then (offers c.setting (reverse ps) (standing p u s)) (onward c.setting left))
            (too_few low p (longest_run c.setting.scene item high p) short);
        some = λ enough.
            let all = all_handed c.setting is.whole.text item low p (longest_run c.setting.scene item high p)
            (forward_run c.setting is.whole.text item _ high p here) enough in
            record {
              left = left;
              keys = _;
              state = s;
              rest = all.rest;
              of = hs;
              here = here;
              next_is = e;
              moved_is = e';
              places = all.places;
              count = all.count;
              is = λ u.
                  at u ∙ repeat_is item d low high left (standing p u s)
                  ∙ ap (λ ps. and_then (offers c.setting ps (standing p u s)) (onward c.setting left)) all.is;
            };
      }

  -- what stands at a place that was handed on
  at_place : (low next' moved' n p q further : ℕ) (x : ℕ → Stream) (offer : IsOffer c low next' moved' n p q further x)
      → p < q → IsTextPlace c.setting.options c.setting.subject q → (m : ℕ) → n ≡ suc m
      → StandsAt c moved' m q (λ u. onward c.setting offer.left (standing q u offer.state))
  at_place low next' moved' n p q further x offer far there m e =
      subst (λ (l : Left). Stands c.setting l m q (λ u. onward c.setting offer.left (standing q u offer.state)))
      (sym offer.moved_is)
      (record {
        here = there;
        search = onward c.setting offer.left;
        state = offer.state;
        of = of_todo (moved_of m p q far (fewer_of n m p (omega (arith, e)) offer.of));
        is = λ u. refl;
      })

  further : (low next' moved' n p q k : ℕ) (x : ℕ → Stream) (offer : IsOffer c low next' moved' n p q (suc k) x)
      (rest : List ℕ) → offer.rest ≡ rest → AreHandedOn c.setting low p (q ∷ rest)
      → Further c low next' moved' n p q k x
  unfolding offers each hold
  further low next' moved' n p q k x offer [] e (at_start none) =
      absurd (let z : length offer.rest ≡ 0 = ap length e in let w = offer.count in omega (arith, z, w))
  further low next' moved' n p q k x offer [] e (at_least some far there) =
      absurd (let z : length offer.rest ≡ 0 = ap length e in let w = offer.count in omega (arith, z, w))
  further low next' moved' n p q k x offer _ e (and_before {ps = ps} far there before) = record {
    after = λ u. onward c.setting offer.left (standing q u offer.state);
    stands = at_place low next' moved' n p q (suc k) x offer far there;
    second = λ u. and_then (offers c.setting (place_before c.setting.scene q ∷ ps) (standing p u offer.state))
        (onward c.setting offer.left);
    offer = record {
      left = offer.left;
      keys = offer.keys;
      state = offer.state;
      rest = ps;
      of = offer.of;
      here = offer.here;
      next_is = offer.next_is;
      moved_is = offer.moved_is;
      places = before;
      count = let z : length offer.rest ≡ suc (length ps) = ap length e in let w = offer.count in omega (arith, z, w);
      is = λ u. refl;
    };
    is = λ u.
        offer.is u
        ∙ ap (λ ps. and_then (offers c.setting (q ∷ ps) (standing p u offer.state)) (onward c.setting offer.left)) e
        ∙ ap (λ y. step ▸ y)
        (each_or_else (hold c.setting reached (move_to q (standing p u offer.state)))
        (offers c.setting (place_before c.setting.scene q ∷ ps) (standing p u offer.state))
        (go_on (onward c.setting offer.left))
        ∙ ap (λ y. y or_else and_then (offers c.setting (place_before c.setting.scene q ∷ ps)
        (standing p u offer.state)) (onward c.setting offer.left))
        (held_then c.setting is.whole.off n q u offer.state (gives reached) (onward c.setting offer.left)
        (onward c.setting offer.left)
        (then_given (standing q (u + 1) offer.state) (onward c.setting offer.left))));
  }

  last : (low next' moved' n p q : ℕ) (x : ℕ → Stream) (offer : IsOffer c low next' moved' n p q 0 x) (rest : List ℕ)
      → offer.rest ≡ rest → AreHandedOn c.setting low p (q ∷ rest) → Last c (last_site low next' moved') n q x
  unfolding offers each
  last low next' moved' n p q x offer _ e (and_before {ps = ps} far there before) =
      absurd (let z : length offer.rest ≡ suc (length ps) = ap length e in let w = offer.count in omega (arith, z, w))
  last (suc low) next' moved' n p q x offer [] e (at_start none) = absurd (cc none)
  last zero next' moved' n p q x offer [] e (at_start none) = record {
    after = λ u. onward c.setting offer.left (standing q u offer.state);
    stands = λ m e'.
        subst (λ (l : Left). Stands c.setting l m q (λ u. onward c.setting offer.left (standing q u offer.state)))
        (sym offer.next_is)
        (record {
          here = offer.here;
          search = onward c.setting offer.left;
          state = offer.state;
          of = of_todo (fewer_of n m q (omega (arith, e')) offer.of);
          is = λ u. refl;
        });
    is = λ u.
        offer.is u
        ∙ ap (λ ps. and_then (offers c.setting (q ∷ ps) (standing p u offer.state)) (onward c.setting offer.left)) e
        ∙ ap (λ y. step ▸ y) (then_given (standing q u offer.state) (onward c.setting offer.left));
  }
  last zero next' moved' n p q x offer [] e (at_least some far there) = absurd (omega arith)
  last (suc low) next' moved' n p q x offer [] e (at_least some far there) = record {
    after = λ u. onward c.setting offer.left (standing q u offer.state);
    stands = at_place (suc low) next' moved' n p q 0 x offer far there;
    is = λ u.
        offer.is u
        ∙ ap (λ ps. and_then (offers c.setting (q ∷ ps) (standing p u offer.state)) (onward c.setting offer.left)) e
        ∙ ap (λ y. step ▸ y) (then_given (standing q u offer.state) (onward c.setting offer.left));
  }

pub repeat_law : RepeatLaw
repeat_law c v n p item low high next' moved' x is within e at =
    let fits : Fits c v (op.Many item low high next' moved') = subst (Fits c v) e (is.fits v within) in
    repeats c is item low high next' moved' n p at.state x refl refl at.here fits.0.2 at.of at.is

pub offer_law : OfferLaw
offer_law c low next' moved' n p q k x is offer =
    further c is low next' moved' n p q k x offer offer.rest refl offer.places

pub last_law : LastLaw
last_law c low next' moved' n p q x is offer = last c is low next' moved' n p q x offer offer.rest refl offer.places
