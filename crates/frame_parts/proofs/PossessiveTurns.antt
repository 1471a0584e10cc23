-- The steps of the machine at an atomic group over a repeat of one item.
use Rattle.std.proofs.Common.{◌≡◌, ℕ, suc, ◌+◌, ◌-◌, ◌<◌, ◌≤◌, ◌∙◌, Bool, true, false, not, List, [], ◌∷◌, map, drop}
use Rattle.std.proofs.Common.{reverse, Option, Some, None, length, ◌≢◌, inl, inr, refl, sym, ap, subst, arith}
use Rattle.std.specs.Prelude.{if◌then◌else◌, nat_lt}
use Rattle.std.proofs.lemmas.Bool.{cases_lt, cond-true, cond-false, lt-ltb, le-ltb}
use Rattle.pat_tree.specs.declared.nodes.Node.TheVariants as node
use Rattle.pat_tree.specs.Nested.{Nested, row, tree_at}
use Rattle.match_items.specs.Items.{one_less, is_none_left, item_reaches, longest_run}
use Rattle.match_items.specs.Views.{end_of}
use Rattle.frame_store.specs.Captures.{Captures}
use Rattle.frame_store.specs.Entry.{Entry}
use Rattle.ordered_search.specs.Stream.{State, How, reached, too_many_units, by_halt}
use Rattle.ordered_search.specs.Setting.{Setting}
use Rattle.ordered_search.specs.PlaceAnswer.{answers, MatchLimit, FrameLimit}
use Rattle.ordered_search.specs.Tests.{move_to}
use Rattle.ordered_search.specs.Parts.{forget_passed}
use Rattle.ordered_search.specs.Moves.{Moves, stops, pause, stepped, Follow, holding, reaching, tread, size}
use Rattle.ordered_search.specs.Paths.{only_many, offer_paths, offer_path, lazy_paths, many_paths}
use Rattle.frame_state.specs.declared.machine.Next.TheVariants.{Enter, Back}
use Rattle.frame_state.specs.declared.machine.Spot.{Spot}
use Rattle.frame_parts.specs.declared.possessive.ItemRepeat.{ItemRepeat}
use Rattle.frame_parts.specs.declared.possessive.FirstPlace.{FirstPlace}
use Rattle.frame_state.specs.Ground.{Ground, IsNode, IsGround}
use Rattle.frame_state.specs.Machine.{less, conf, onward}
use Rattle.frame_state.specs.Stops.{told, tells, IsStop}
use Rattle.frame_state.specs.Frames.{past, around, outside, fail, spot_state, ahead, fewer_places}
use Rattle.frame_state.specs.Validity.{IsValid, Advances}
use Rattle.frame_parts.specs.Possessive.{many_of, IsMeet, IsOnly, first_place, repeat_reaches, units_of}
use Rattle.frame_state.specs.declared.machine.Met.{Met}
use Rattle.frame_state.specs.declared.machine.Stop.{Stop}
use Rattle.frame_state.specs.Reach.{IsNoted, IsHardStop, many_reaches}
use Rattle.frame_state.proofs.ReachTurns.{advance_noted, stop_noted}
use Rattle.frame_state.proofs.PartPaths.{enter_possessive}
use Rattle.frame_state.proofs.Frames.{sound_less, focus_towards, running_towards}
use Rattle.frame_state.proofs.Advance.{holding_room, holding_full, over_units, over_steps, over_units_step}
use Rattle.frame_state.proofs.Turns.{deep}
use Rattle.frame_parts.proofs.Runs.{run_at, run_reached, run_short, run_count, run_end, run_back, fewer_step}
use Rattle.frame_parts.proofs.Runs.{fewer_none}

-- of several branches none is the only one
pub several : (ts : List Nested) (ks : List ℕ) → 2 ≤ length ks → only_many (row (map (tree_at ts) ks)) ≡ None
several ts [] h = absurd (omega (arith, h))
several ts (k ∷ []) h = absurd (omega (arith, h))
several ts (k ∷ k' ∷ ks) h = refl

pub no_place : (o : Option FirstPlace) → ((p : FirstPlace) → o ≢ Some p) → o ≡ None
no_place None h = refl
no_place (Some p) h = absurd (h p refl)

-- the first place is handed on, where nothing goes back to the others
abbrev handed_if : Setting → Bool → State → (State → Moves) → Moves
handed_if g true s x = holding g 1 s x
handed_if g false s x = x s

abbrev handed : Setting → Option FirstPlace → State → (State → Moves) → Moves → Moves
handed g None s x f = f
handed g (Some p) s x f = stepped (handed_if g p.further (move_to p.to s) x)

module _ (c : Ground) (ok : IsGround c) (r : ItemRepeat) (meet : IsMeet c r) (place : ℕ)
    (here : c.stands place ≡ true) where
  abbrev least : ℕ
  least = end_of place (run_at c ok r.item (Some r.min) place)

  abbrev most : ℕ
  most = end_of least (run_at c ok r.item (less r.min r.max) least)

  abbrev lazy_first : FirstPlace
  lazy_first = record { to = least; further = not (is_none_left (less r.min r.max)) }

  abbrev greedy_first : FirstPlace
  greedy_first = record { to = most; further = nat_lt least most }

  stands_least : c.stands least ≡ true
  stands_least = (run_end c ok r.item (Some r.min) place here).0

  stands_most : c.stands most ≡ true
  stands_most = (run_end c ok r.item (less r.min r.max) least stands_least).0

  -- the first place stands
  abbrev pub IsPlaced : Option FirstPlace → Type 0
  IsPlaced None = Unit {0}
  IsPlaced (Some p) = c.stands p.to ≡ true

  placed : (b z : Bool) (x y : FirstPlace) → c.stands x.to ≡ true → c.stands y.to ≡ true
      → IsPlaced (if b then None else if z then Some x else Some y)
  placed true z x y a b = tt
  placed false true x y a b = a
  placed false false x y a b = b

  pub first_stands : IsPlaced (first_place c r place)
  first_stands = placed (nat_lt (length (run_at c ok r.item (Some r.min) place)) r.min) r.«lazy» lazy_first
      greedy_first stands_least stands_most

  module _ (s : State) (at : s.place ≡ place) (x : How → State → Moves) (f : Moves) where
    abbrev goes : Follow
    goes how u e = x how u

    -- what a repeat does with the places that are left from its minimum on
    abbrev left_of : Bool → List ℕ → Moves
    left_of b rest =
        elim b [
          | true ↦ lazy_paths c.setting r.item (less r.min r.max) rest s goes f
          | false ↦
              offer_paths c.setting (reverse rest) s goes f
        ]

    pub meets : Bool → Moves
    meets b = left_of b (drop r.min (place ∷ run_at c ok r.item r.max place))

    pub paths_are : (b : Bool) → many_paths c.setting r.item r.min r.max b
        (longest_run c.setting.scene r.item r.max s.place) s goes f
        ≡ reaching c.setting (many_reaches c r.item r.min r.max b place) s (meets b)
    unfolding many_paths meets
    paths_are true =
        ap (λ p. reaching c.setting (many_reaches c r.item r.min r.max true p) s
        (lazy_paths c.setting r.item (less r.min r.max) (drop r.min (p ∷ run_at c ok r.item r.max p)) s goes f)) at
    paths_are false =
        ap (λ p. reaching c.setting (many_reaches c r.item r.min r.max false p) s
        (offer_paths c.setting (reverse (drop r.min (p ∷ run_at c ok r.item r.max p))) s goes f)) at

    many_at : (b : Bool) (rest : List ℕ) → drop r.min (place ∷ run_at c ok r.item r.max place) ≡ rest
        → meets b ≡ left_of b rest
    unfolding meets
    many_at b rest same = ap (left_of b) same

    meets_none : (b : Bool) → length (run_at c ok r.item (Some r.min) place) < r.min → meets b ≡ f
    unfolding offer_paths lazy_paths
    meets_none true lt = many_at true [] (run_short c ok r.item r.min r.max place here meet.ordered lt)
    meets_none false lt = many_at false [] (run_short c ok r.item r.min r.max place here meet.ordered lt)

    module _ (enough : length (run_at c ok r.item (Some r.min) place) ≡ r.min) where
      abbrev later : Moves
      later =
          reaching c.setting (item_reaches c.setting.scene r.item least) s
          (lazy_paths c.setting r.item (one_less (less r.min r.max)) (run_at c ok r.item (less r.min r.max) least) s
          goes f)

      lazy_handed : (b : Bool) → is_none_left (less r.min r.max) ≡ b
          → meets true ≡ stepped (handed_if c.setting (not b) (move_to least s) (x reached))
      unfolding lazy_paths
      lazy_handed true e =
          many_at true _ (run_reached c ok r.item r.min r.max place here meet.ordered enough).rest
          ∙ ap (λ b. offer_path c.setting b (move_to least s) goes later f) e
      lazy_handed false e =
          many_at true _ (run_reached c ok r.item r.min r.max place here meet.ordered enough).rest
          ∙ ap (λ b. offer_path c.setting b (move_to least s) goes later f) e

      lazy_is : (b : Bool) → is_none_left (less r.min r.max) ≡ b
          → meets true ≡ handed c.setting (Some lazy_first) s (x reached) f
      lazy_is b e = lazy_handed b e ∙ ap (λ z. stepped (handed_if c.setting (not z) (move_to least s) (x reached)))
          (sym e)

      offered : meets false ≡ offer_paths c.setting (most ∷ fewer_places c least most) s goes f
      offered =
          many_at false _ (run_reached c ok r.item r.min r.max place here meet.ordered enough).rest
          ∙ ap (λ l. offer_paths c.setting l s goes f) (run_back c ok r.item (less r.min r.max) least stands_least)

      greedy_is : meets false ≡ handed c.setting (Some greedy_first) s (x reached) f
      unfolding offer_paths
      greedy_is =
          elim (cases_lt least most) [
            | inl lt ↦
                offered
                ∙ ap (λ l. offer_paths c.setting (most ∷ l) s goes f) (fewer_step c ok least most stands_most lt)
                ∙ ap (λ b. stepped (handed_if c.setting b (move_to most s) (x reached))) (sym (lt-ltb _ _ lt))
            | inr ge ↦
                offered
                ∙ ap (λ l. offer_paths c.setting (most ∷ l) s goes f) (fewer_none c ok least most ge)
                ∙ ap (λ b. stepped (handed_if c.setting b (move_to most s) (x reached))) (sym (le-ltb _ _ ge))
          ]

      enough_handed : (b : Bool) → meets b ≡ handed c.setting (if b then Some lazy_first else Some greedy_first) s
          (x reached) f
      enough_handed true = lazy_is (is_none_left (less r.min r.max)) refl
      enough_handed false = greedy_is

    pub first_handed : meets r.«lazy» ≡ handed c.setting (first_place c r place) s (x reached) f
    first_handed =
        elim (cases_lt (length (run_at c ok r.item (Some r.min) place)) r.min) [
          | inl lt ↦ meets_none r.«lazy» lt ∙ ap (λ o. handed c.setting o s (x reached) f)
              (sym (cond-true _ _ _ (lt-ltb _ _ lt)))
          | inr ge ↦
              enough_handed (omega (arith, ge, run_count c ok r.item r.min place here)) r.«lazy»
              ∙ ap (λ o. handed c.setting o s (x reached) f) (sym (cond-false _ _ _ (le-ltb _ _ ge)))
        ]

module _ (c : Ground) (ok : IsGround c) (q : ℕ) (spot : Spot) (stack : List Entry) (caps : Captures)
    (v : IsValid c (conf (Enter q) spot stack caps)) (ks : List ℕ) (i : IsNode c q (node.Atomic ks))
    (r : ItemRepeat) (only : IsOnly c ks r) where
  abbrev begun : State
  begun = spot_state c spot stack caps

  abbrev K : Follow
  K = past c (around c stack spot.frame).depth (outside c stack caps spot.frame) q

  abbrev leaving : How → State → Moves
  leaving how u = holding c.setting 1 (forget_passed begun u) (λ t. K how t (fail c stack caps))

  abbrev flag : Bool
  flag = repeat_reaches c r spot.place

  entered : ahead c (conf (Enter q) spot stack caps)
      ≡ pause
      (holding c.setting 1 begun
      (λ t. many_paths c.setting r.item r.min r.max r.«lazy» (longest_run c.setting.scene r.item r.max t.place) t
      (λ how u e. leaving how u) (fail c stack caps)))
  entered = enter_possessive c ok q (node.Atomic ks) i _ _ _ _ _ (deep c ok q spot stack caps v (node.Atomic ks) i) ks
      refl (many_of r) only.is

  pub stop_full : c.setting.matching.frame_limit ≤ spot.units
      → tread c.setting spot.left (ahead c (conf (Enter q) spot stack caps)) ≡ answers FrameLimit
  stop_full full = over_units c spot.left _ _ entered (holding_full c.setting _ _ full)

  abbrev within : State
  within = record begun { units = spot.units + 1 }

  -- what a place comes to that is handed on
  handed_full : (b : Bool) (t : State) → t.units ≡ spot.units + 1
      → c.setting.matching.frame_limit < spot.units + units_of b
      → handed_if c.setting b t (leaving reached) ≡ stops (by_halt too_many_units)
  handed_full false t e full =
      let over : c.setting.matching.frame_limit < spot.units + 2 = full in
      holding_full c.setting _ _ (omega (arith, e, over))
  handed_full true t e full =
      let over : c.setting.matching.frame_limit < spot.units + 3 = full in
      elim (cases_lt t.units c.setting.matching.frame_limit) [
        | inl lt ↦ holding_room c.setting _ _ lt ∙ holding_full c.setting _ _ (omega (arith, e, over))
        | inr ge ↦ holding_full c.setting _ _ ge
      ]

  abbrev passed_over : State → Bool → Moves
  passed_over t b = K reached (record (forget_passed begun t) { units = spot.units + units_of b }) (fail c stack caps)

  handed_room : (b : Bool) (t : State) → t.units ≡ spot.units + 1
      → spot.units + units_of b ≤ c.setting.matching.frame_limit
      → handed_if c.setting b t (leaving reached) ≡ passed_over t b
  handed_room false t e room =
      let few : spot.units + 2 ≤ c.setting.matching.frame_limit = room in
      let n : t.units + 1 ≡ spot.units + 2 = omega (arith, e) in
      holding_room c.setting _ _ (omega (arith, e, few))
      ∙ ap (λ u. K reached (record (forget_passed begun t) { units = u }) (fail c stack caps)) n
  handed_room true t e room =
      let few : spot.units + 3 ≤ c.setting.matching.frame_limit = room in
      let n : t.units + 1 + 1 ≡ spot.units + 3 = omega (arith, e) in
      holding_room c.setting _ _ (omega (arith, e, few)) ∙ holding_room c.setting _ _ (omega (arith, e, few))
      ∙ ap (λ u. K reached (record (forget_passed begun t) { units = u }) (fail c stack caps)) n

  module _ (room : spot.units < c.setting.matching.frame_limit) where
    held : (o : Option FirstPlace) → first_place c r spot.place ≡ o →
        ahead c (conf (Enter q) spot stack caps) ≡ pause
        (reaching c.setting flag within (handed c.setting o within (leaving reached) (fail c stack caps)))
    held o e =
        entered
        ∙ ap pause
        (holding_room c.setting _ _ room
        ∙ paths_are c ok r only.meet spot.place v.running.1.here within refl leaving (fail c stack caps) r.«lazy»
        ∙ ap (reaching c.setting flag within) (first_handed c ok r only.meet spot.place v.running.1.here within refl
        leaving (fail c stack caps)))
        ∙ ap (λ z. pause (reaching c.setting flag within
        (handed c.setting z within (leaving reached) (fail c stack caps)))) e

    pub stop_reached : (new : Spot) (s : Stop) → IsHardStop c flag spot.early spot.last new.last s →
        IsStop s new caps (tells c.setting spot (ahead c (conf (Enter q) spot stack caps)))
    stop_reached new s h = stop_noted c (conf (Enter q) spot stack caps) flag spot.early within _
        (held (first_place c r spot.place) refl) refl new caps s h

    module _ (met : Met) (noted : IsNoted c flag spot.early spot.last met) where
      pub turn_none : first_place c r spot.place ≡ None
          → Advances c (conf (Enter q) spot stack caps) (conf Back (record spot { last = met }) stack caps)
      turn_none none =
          advance_noted c _ (conf Back (record spot { last = met }) stack caps) flag spot.early within _
          (held None none) refl noted refl refl
          (record { running = tt; records = v.records; spans = v.spans; slots = v.slots })

      module _ (p : FirstPlace) (some : first_place c r spot.place ≡ Some p) where
        abbrev moved : State
        moved = move_to p.to within

        over_pause : (z : Moves) → handed_if c.setting p.further moved (leaving reached) ≡ z →
            tells c.setting spot (ahead c (conf (Enter q) spot stack caps)) ≡ told met
            (tread c.setting spot.left (stepped z))
        unfolding tread
        over_pause z e =
            ap (tells c.setting spot) (held (Some p) some) ∙ noted.answer spot.left within _ refl
            ∙ ap (λ x. told met (tread c.setting spot.left (stepped x))) e

        pub stop_steps : spot.left ≡ 0 → tells c.setting spot (ahead c (conf (Enter q) spot stack caps)) ≡ told met
            (answers MatchLimit)
        stop_steps out = over_pause _ refl ∙ ap (told met) (over_steps c spot.left _ _ refl out)

        pub stop_units : 0 < spot.left → c.setting.matching.frame_limit < spot.units + units_of p.further →
            tells c.setting spot (ahead c (conf (Enter q) spot stack caps)) ≡ told met (answers FrameLimit)
        stop_units left full = over_pause _ (handed_full p.further moved refl full)
            ∙ ap (told met) (over_units_step c spot.left _ _ refl refl left)

        abbrev after_it : Spot
        after_it = record spot {
          place = p.to;
          left = spot.left - 1;
          units = spot.units + units_of p.further;
          last = met;
        }

        pub turn_passed : 0 < spot.left → spot.units + units_of p.further ≤ c.setting.matching.frame_limit
            → Advances c (conf (Enter q) spot stack caps) (conf (onward c q) after_it stack caps)
        unfolding tread size
        turn_passed left few =
            let w = v.running.1 in
            let one : spot.left ≡ suc (spot.left - 1) = omega arith in
            let z : Moves = passed_over moved p.further in
            let m : ahead c (conf (Enter q) spot stack caps) ≡ pause (reaching c.setting flag within (stepped z)) =
            held (Some p) some ∙ ap (λ x. pause (reaching c.setting flag within (stepped x)))
            (handed_room p.further moved refl few) in
            let longer = noted.longer within (stepped z) refl in
            let n : ahead c (conf (onward c q) after_it stack caps) ≡ z =
            focus_towards c ok q v.running.0 _ _ _ _ in
            record {
              answer =
                  over_pause z (handed_room p.further moved refl few)
                  ∙ ap (told met) (ap (λ l. tread c.setting l (stepped z)) one
                  ∙ sym (ap (tread c.setting (spot.left - 1)) n));
              shorter = omega (arith, longer, ap size m, ap size n);
              valid = record {
                running = running_towards c ok q v.running.0 after_it stack v.running.2 (record {
                  inside = w.inside;
                  deep = omega (arith, w.deep);
                  counted = omega (arith, w.counted);
                  few = few;
                  here = subst (IsPlaced c ok r only.meet spot.place w.here) some
                      (first_stands c ok r only.meet spot.place w.here);
                  marked = omega (arith, w.marked);
                  contained = w.contained;
                });
                records = sound_less c spot.left (spot.left - 1) (length caps) stack (omega arith) v.records;
                spans = v.spans;
                slots = v.slots;
              };
            }
