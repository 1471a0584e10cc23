-- The steps of the machine at a repeat of one item.
use Rattle.std.proofs.Common.{◌≡◌, ℕ, suc, ◌+◌, ◌-◌, ◌<◌, ◌≤◌, ◌∙◌, Bool, true, false, if◌then◌else◌, List, [], ◌∷◌}
use Rattle.std.proofs.Common.{Option, Some, length, reverse, refl, sym, ap, subst, arith}
use Rattle.std.proofs.lemmas.Bool.{cond-true, cond-false}
use Rattle.pat_tree.specs.Nested as tree
use Rattle.match_items.specs.Items.{is_none_left, longest_run, place_before}
use Rattle.frame_store.specs.Captures.{Captures}
use Rattle.frame_store.specs.Entry.{Entry, FewerItems, MoreItems}
use Rattle.ordered_search.specs.Stream.{State, reached}
use Rattle.ordered_search.specs.PlaceAnswer.{answers, MatchLimit, FrameLimit}
use Rattle.ordered_search.specs.Moves.{Moves, pause, stepped, Follow, holding, reaching, tread}
use Rattle.ordered_search.specs.Paths.{offer_paths, offer_path, lazy_paths, many_paths}
use Rattle.frame_state.specs.declared.machine.Next.{Next}
use Rattle.frame_state.specs.declared.machine.Next.TheVariants.{Enter, Fewer, More, Back}
use Rattle.frame_state.specs.declared.machine.Spot.{Spot}
use Rattle.frame_state.specs.Ground.{Ground, tree_of, IsGround}
use Rattle.match_items.specs.Views.{end_of}
use Rattle.frame_state.specs.Machine.{Around, less, kept_at, conf, onward}
use Rattle.frame_state.specs.Frames.{past, around, more_from, further_from, fewer_places, outside, fail, spot_state}
use Rattle.frame_state.specs.Frames.{ahead}
use Rattle.frame_state.specs.Validity.{StandsAt, IsStanding, IsMany, HasFurther, IsValid, Advances}
use Rattle.frame_state.proofs.PartPaths.{enter_many}
use Rattle.frame_state.specs.declared.machine.Met.{Met}
use Rattle.frame_state.specs.declared.machine.Stop.{Stop}
use Rattle.frame_state.specs.Reach.{IsNoted, IsHardStop, IsLed, many_reaches}
use Rattle.frame_state.proofs.ReachTurns.{advance_noted, stop_noted}
use Rattle.frame_state.proofs.Frames.{around_push, focus_kept, sound_less, focus_towards, running_towards}
use Rattle.frame_state.proofs.Frames.{begun_towards, later_push, contained_push}
use Rattle.frame_state.proofs.Advance.{holding_room, holding_full, advance_step, over_steps, over_units_step}
use Rattle.frame_state.proofs.Advance.{goes_on_step}
use Rattle.std.proofs.Common.{drop, inl, inr}
use Rattle.std.proofs.lemmas.Bool.{cases_lt, cond-true, cond-false, lt-ltb, le-ltb}
use Rattle.frame_state.specs.Stops.{many_next, tells, IsStop}
use Rattle.pat_tree.specs.declared.nodes.Item.{Item}
use Rattle.pat_tree.specs.declared.nodes.Node.{Node}
use Rattle.pat_tree.specs.declared.nodes.Node.TheVariants as node
use Rattle.pat_tree.specs.Nested.{nest}
use Rattle.pat_tree.specs.Rules.{AtMost, IsOrdered}
use Rattle.frame_state.specs.Ground.{IsNode}
use Rattle.frame_parts.proofs.Runs.{run_at, Reached, run_reached, run_short, run_count, run_end, run_back}
use Rattle.frame_parts.proofs.Runs.{fewer_step, fewer_none}

-- a repeat of one item is entered
module _ (c : Ground) (ok : IsGround c) (q : ℕ) (spot : Spot) (stack : List Entry) (caps : Captures)
    (v : IsValid c (conf (Enter q) spot stack caps)) (n : Node) (i : IsNode c q n)
    (item : Item) (low : ℕ) (high : Option ℕ) (lazily : Bool) (e : n ≡ node.OneRepeat item low high lazily) where
  at_most : AtMost low high
  at_most = subst IsOrdered e i.ordered

  is_many : IsMany c (tree_of c q)
  is_many = subst (IsMany c) (subst (λ m. nest c.trees m ≡ tree_of c q) e i.is) tt

  entered : ahead c (conf (Enter q) spot stack caps)
      ≡ pause (many_paths c.setting item low high lazily (longest_run c.setting.scene item high spot.place)
      (spot_state c spot stack caps)
      (past c (around c stack spot.frame).depth (outside c stack caps spot.frame) q) (fail c stack caps))
  entered =
      let deep : (around c stack spot.frame).depth ≡ suc ((around c stack spot.frame).depth - 1) =
      omega (arith, v.running.1.deep) in
      enter_many c ok q n i _ _ _ _ _ deep item low high lazily e

  abbrev begun : State
  begun = spot_state c spot stack caps

  abbrev K : Follow
  K = past c (around c stack spot.frame).depth (outside c stack caps spot.frame) q

  -- what a repeat does with the places that are left from its minimum on
  abbrev left_of : Bool → List ℕ → Moves
  left_of b rest =
      elim b [
        | true ↦ lazy_paths c.setting item (less low high) rest begun K (fail c stack caps)
        | false ↦ offer_paths c.setting (reverse rest) begun K (fail c stack caps)
      ]

  many_is : (b : Bool) (rest : List ℕ) → drop low (spot.place ∷ run_at c ok item high spot.place) ≡ rest →
      many_paths c.setting item low high b (longest_run c.setting.scene item high spot.place) begun K
      (fail c stack caps)
      ≡ reaching c.setting (many_reaches c item low high b spot.place) begun (left_of b rest)
  unfolding many_paths
  many_is true rest same =
      ap (λ l. reaching c.setting (many_reaches c item low high true spot.place) begun (left_of true l)) same
  many_is false rest same =
      ap (λ l. reaching c.setting (many_reaches c item low high false spot.place) begun (left_of false l)) same

  led : (b : Bool) → lazily ≡ b → (rest : List ℕ) → drop low (spot.place ∷ run_at c ok item high spot.place) ≡ rest →
      ahead c (conf (Enter q) spot stack caps) ≡ pause
      (reaching c.setting (many_reaches c item low high b spot.place) begun (left_of b rest))
  led b is rest same =
      entered
      ∙ ap (λ z. pause (many_paths c.setting item low high z (longest_run c.setting.scene item high spot.place) begun
      K (fail c stack caps))) is
      ∙ ap pause (many_is b rest same)

  pub stop_many : (new : Spot) (s : Stop) → IsHardStop c (many_reaches c item low high lazily spot.place) spot.early
      spot.last new.last s →
      IsStop s new caps (tells c.setting spot (ahead c (conf (Enter q) spot stack caps)))
  stop_many new s h = stop_noted c (conf (Enter q) spot stack caps) _ spot.early begun _ (led lazily refl _ refl) refl
      new caps s h

  module _ (met : Met) (w : IsNoted c (many_reaches c item low high lazily spot.place) spot.early spot.last met) where
    abbrev to_spot : Spot
    to_spot = record spot { last = met }

    noted_as : (b : Bool) → lazily ≡ b → IsNoted c (many_reaches c item low high b spot.place) spot.early spot.last met
    noted_as b is = subst (λ z. IsNoted c (many_reaches c item low high z spot.place) spot.early spot.last met) is w

    pub turn_short : length (run_at c ok item (Some low) spot.place) < low
        → Advances c (conf (Enter q) spot stack caps) (conf Back to_spot stack caps)
    unfolding offer_paths lazy_paths
    turn_short lt =
        advance_noted c _ (conf Back to_spot stack caps) _ spot.early begun _
        (led lazily refl [] (run_short c ok item low high spot.place v.running.1.here at_most lt)) refl w
        (sym (none lazily)) refl
        (record { running = tt; records = v.records; spans = v.spans; slots = v.slots })
      where
        none : (b : Bool) → left_of b [] ≡ fail c stack caps
        none true = refl
        none false = refl

    standing : StandsAt c to_spot stack (around c stack spot.frame).depth
    standing = let s = v.running.1 in record {
      inside = s.inside;
      deep = s.deep;
      counted = s.counted;
      few = s.few;
      here = s.here;
      marked = s.marked;
      contained = s.contained;
    }

    module _ (reached_low : length (run_at c ok item (Some low) spot.place) ≡ low) where
      least : Reached c ok item low high spot.place (run_at c ok item (Some low) spot.place)
      least = run_reached c ok item low high spot.place v.running.1.here at_most reached_low

      pub turn_fewer : lazily ≡ false → (from to : ℕ) → from ≡ end_of spot.place
          (run_at c ok item (Some low) spot.place) → to ≡ end_of from (run_at c ok item (less low high) from) →
          Advances c (conf (Enter q) spot stack caps) (conf (Fewer q from to) to_spot stack caps)
      turn_fewer is from to first last =
          let here : c.stands from ≡ true = subst (λ x. c.stands x ≡ true) (sym first) least.here in
          let rest : drop low (spot.place ∷ run_at c ok item high spot.place) ≡ from ∷ run_at c ok item
          (less low high) from =
          subst (λ x. drop low (spot.place ∷ run_at c ok item high spot.place) ≡ x ∷ run_at c ok item
          (less low high) x) (sym first) least.rest in
          let places : reverse (from ∷ run_at c ok item (less low high) from) ≡ to ∷ fewer_places c from to =
          run_back c ok item (less low high) from here ∙ ap (λ x. x ∷ fewer_places c from x) (sym last) in
          advance_noted c _ (conf (Fewer q from to) to_spot stack caps) _ spot.early begun _
          (led false is _ rest
          ∙ ap (λ l. pause (reaching c.setting (many_reaches c item low high false spot.place) begun
          (offer_paths c.setting l begun K (fail c stack caps)))) places)
          refl (noted_as false is) refl refl
          (record {
            running = (
              v.running.0,
              standing,
              subst (λ x. c.stands x ≡ true) (sym last)
                  (run_end c ok item (less low high) from here).0,
              v.running.2,
            );
            records = v.records;
            spans = v.spans;
            slots = v.slots;
          })

      pub turn_more : lazily ≡ true → (from : ℕ) → from ≡ end_of spot.place (run_at c ok item (Some low) spot.place) →
          Advances c (conf (Enter q) spot stack caps) (conf (More q low from) to_spot stack caps)
      turn_more is from first =
          let here : c.stands from ≡ true = subst (λ x. c.stands x ≡ true) (sym first) least.here in
          let rest : drop low (spot.place ∷ run_at c ok item high spot.place) ≡ from ∷ run_at c ok item
          (less low high) from =
          subst (λ x. drop low (spot.place ∷ run_at c ok item high spot.place) ≡ x ∷ run_at c ok item
          (less low high) x) (sym first) least.rest in
          let t : tree.one_repeat item low high lazily ≡ tree_of c q =
          subst (λ m. nest c.trees m ≡ tree_of c q) e i.is in
          advance_noted c _ (conf (More q low from) to_spot stack caps) _ spot.early begun _
          (led true is _ rest) refl (noted_as true is)
          (sym (ap (λ x. more_from c x low from begun K (fail c stack caps)) t)) refl
          (record {
            running = (v.running.0, standing, omega (arith, least.further, first), here, is_many, v.running.2);
            records = v.records;
            spans = v.spans;
            slots = v.slots;
          })

    many_reached : (b : Bool) → lazily ≡ b → length (run_at c ok item (Some low) spot.place) ≡ low →
        Advances c (conf (Enter q) spot stack caps)
        (conf (if b then More q low (end_of spot.place (run_at c ok item (Some low) spot.place))
        else Fewer q (end_of spot.place (run_at c ok item (Some low) spot.place))
        (end_of (end_of spot.place (run_at c ok item (Some low) spot.place))
        (run_at c ok item (less low high) (end_of spot.place (run_at c ok item (Some low) spot.place)))))
        to_spot stack caps)
    many_reached true is e = turn_more e is _ refl
    many_reached false is e = turn_fewer e is _ _ refl refl

    pub turn_many : Advances c (conf (Enter q) spot stack caps)
        (conf (many_next c q item low high lazily spot.place) to_spot stack caps)
    turn_many =
        elim (cases_lt (length (run_at c ok item (Some low) spot.place)) low) [
          | inl lt ↦ subst (λ x. Advances c (conf (Enter q) spot stack caps) (conf x to_spot stack caps))
              (sym (cond-true _ _ _ (lt-ltb _ _ lt))) (turn_short lt)
          | inr ge ↦
              subst (λ x. Advances c (conf (Enter q) spot stack caps) (conf x to_spot stack caps))
              (sym (cond-false _ _ _ (le-ltb _ _ ge)))
              (many_reached lazily refl (omega (arith, ge, run_count c ok item low spot.place v.running.1.here)))
        ]

  -- and where the machine goes on after them
  pub turn_led : (next : Next) (new : Spot) → IsLed c (many_reaches c item low high lazily spot.place)
      (many_next c q item low high lazily spot.place) spot next new →
      Advances c (conf (Enter q) spot stack caps) (conf next new stack caps)
  turn_led next new t =
      subst (λ x. Advances c (conf (Enter q) spot stack caps) (conf x new stack caps)) (sym t.goes)
      (subst (λ x. Advances c (conf (Enter q) spot stack caps)
      (conf (many_next c q item low high lazily spot.place) x stack caps)) (sym t.moves)
      (turn_many t.met t.noted))

-- a place of a greedy repeat is handed on
module _ (c : Ground) (ok : IsGround c) (q from to : ℕ) (spot : Spot) (stack : List Entry) (caps : Captures)
    (v : IsValid c (conf (Fewer q from to) spot stack caps)) where
  moved_standing : (units left : ℕ) → left ≤ spot.left → units ≤ c.setting.matching.frame_limit → spot.units ≤ units
      → IsStanding c left spot.frame (record (kept_at spot) { place = to; units = units })
      (around c stack spot.frame).depth stack
  moved_standing units left le few more = let w = v.running.1 in record {
    inside = w.inside;
    deep = omega (arith, w.deep, le);
    counted = omega (arith, w.counted, more);
    few = few;
    here = v.running.2;
    marked = omega (arith, w.marked, more);
    contained = w.contained;
  }

  fewer_last : to ≤ from → ahead c (conf (Fewer q from to) spot stack caps)
      ≡ stepped (past c (around c stack spot.frame).depth (outside c stack caps spot.frame) q reached
      (record (spot_state c spot stack caps) { place = to }) (fail c stack caps))
  unfolding offer_paths
  fewer_last le =
      ap (λ l. offer_paths c.setting (to ∷ l) (spot_state c spot stack caps)
      (past c (around c stack spot.frame).depth (outside c stack caps spot.frame) q) (fail c stack caps))
      (fewer_none c ok from to le)

  fewer_more : from < to → ahead c (conf (Fewer q from to) spot stack caps)
      ≡ stepped (holding c.setting 1 (record (spot_state c spot stack caps) { place = to })
      (λ t. past c (around c stack spot.frame).depth (outside c stack caps spot.frame) q reached t
      (pause (offer_paths c.setting (fewer_places c from to) (spot_state c spot stack caps)
      (past c (around c stack spot.frame).depth (outside c stack caps spot.frame) q) (fail c stack caps)))))
  unfolding offer_paths
  fewer_more lt =
      let s : State = spot_state c spot stack caps in
      let K : Follow = past c (around c stack spot.frame).depth (outside c stack caps spot.frame) q in
      let f : Moves = fail c stack caps in
      let step : fewer_places c from to ≡ place_before c.setting.scene to ∷ fewer_places c from
      (place_before c.setting.scene to) = fewer_step c ok from to v.running.2 lt in
      ap (λ l. offer_paths c.setting (to ∷ l) s K f) step
      ∙ ap (λ l. stepped (holding c.setting 1 (record s { place = to })
      (λ t. K reached t (pause (offer_paths c.setting l s K f))))) (sym step)

  pub stop_fewer : spot.left ≡ 0 → tread c.setting spot.left (ahead c (conf (Fewer q from to) spot stack caps))
      ≡ answers MatchLimit
  stop_fewer out =
      elim (cases_lt from to) [
        | inl lt ↦ over_steps c spot.left _ _ (fewer_more lt) out
        | inr le ↦ over_steps c spot.left _ _ (fewer_last le) out
      ]

  pub stop_fewer_units : from < to → 0 < spot.left → c.setting.matching.frame_limit ≤ spot.units
      → tread c.setting spot.left (ahead c (conf (Fewer q from to) spot stack caps)) ≡ answers FrameLimit
  stop_fewer_units lt left full = over_units_step c spot.left _ _ (fewer_more lt) (holding_full c.setting _ _ full) left

  pub turn_fewer_last : to ≤ from → 0 < spot.left → Advances c (conf (Fewer q from to) spot stack caps)
      (conf (onward c q) (record spot { place = to; left = spot.left - 1 }) stack caps)
  turn_fewer_last le left =
      goes_on_step c _ (record spot { place = to; left = spot.left - 1 }) stack caps
      (sound_less c spot.left (spot.left - 1) (length caps) stack (omega arith) v.records) v.spans v.slots ok q
      v.running.0 v.running.3
      (moved_standing spot.units (spot.left - 1) (omega arith) v.running.1.few (omega arith)) (omega arith) refl
      (fewer_last le)

  pub turn_fewer_more : from < to → 0 < spot.left → spot.units < c.setting.matching.frame_limit →
      Advances c (conf (Fewer q from to) spot stack caps)
      (conf (onward c q) (record spot { place = to; left = spot.left - 1; units = spot.units + 1 })
      (FewerItems (record { node = q; link = spot.frame }) (kept_at spot) from to ∷ stack) caps)
  unfolding fail
  turn_fewer_more lt left room =
      let r : Entry = FewerItems (record { node = q; link = spot.frame }) (kept_at spot) from to in
      let to' : Spot = record spot { place = to; left = spot.left - 1; units = spot.units + 1 } in
      let w = v.running.1 in
      advance_step c _ _ _
      (fewer_more lt ∙ ap stepped (holding_room c.setting _ _ room))
      (focus_kept c r stack caps (onward c q) spot.frame spot.passed (kept_at to') caps
      (fail c (r ∷ stack) caps) w.inside w.marked refl (begun_towards c ok q v.running.0)
      ∙ focus_towards c ok q v.running.0 _ _ _ _)
      (omega arith) refl
      (record {
        running = running_towards c ok q v.running.0 to' (r ∷ stack)
            (later_push c spot.frame q r stack (omega arith) v.running.3) (record {
              inside = omega (arith, w.inside);
              deep = omega (arith, w.deep, ap (λ (a : Around). a.depth) (around_push c r stack spot.frame w.inside));
              counted = omega (arith, w.counted);
              few = omega (arith, room);
              here = v.running.2;
              marked = omega (arith, w.marked);
              contained = contained_push c spot.frame r stack refl w.contained;
            });
        records = (
          (
            v.running.0,
            record {
              inside = w.inside;
              deep = omega (arith, w.deep);
              counted = w.counted;
              few = w.few;
              here = w.here;
              marked = w.marked;
              contained = w.contained;
            },
            (lt, v.running.2),
            v.running.3,
          ),
          sound_less c spot.left (spot.left - 1) (length caps) stack (omega arith) v.records,
        );
        spans = v.spans;
        slots = v.slots;
      })

-- a place of a lazy repeat is handed on
module _ (c : Ground) (ok : IsGround c) (q count to : ℕ) (spot : Spot) (stack : List Entry) (caps : Captures)
    (v : IsValid c (conf (More q count to) spot stack caps))
    (item : Item) (low : ℕ) (high : Option ℕ) (lazily : Bool)
    (t : tree.one_repeat item low high lazily ≡ tree_of c q) where
  more_is : ahead c (conf (More q count to) spot stack caps)
      ≡ offer_path c.setting (is_none_left (less count high)) (record (spot_state c spot stack caps) { place = to })
      (past c (around c stack spot.frame).depth (outside c stack caps spot.frame) q)
      (further_from c (tree_of c q) count to (spot_state c spot stack caps)
      (past c (around c stack spot.frame).depth (outside c stack caps spot.frame) q) (fail c stack caps))
      (fail c stack caps)
  unfolding lazy_paths
  more_is =
      let s : State = spot_state c spot stack caps in
      let K : Follow = past c (around c stack spot.frame).depth (outside c stack caps spot.frame) q in
      let f : Moves = fail c stack caps in
      ap (λ x. more_from c x count to s K f) (sym t)
      ∙ ap (λ x. offer_path c.setting (is_none_left (less count high)) (record s { place = to }) K
      (further_from c x count to s K f) f) t

  more_last : is_none_left (less count high) ≡ true → ahead c (conf (More q count to) spot stack caps)
      ≡ stepped (past c (around c stack spot.frame).depth (outside c stack caps spot.frame) q reached
      (record (spot_state c spot stack caps) { place = to }) (fail c stack caps))
  more_last e =
      more_is ∙ ap (λ b. offer_path c.setting b (record (spot_state c spot stack caps) { place = to })
      (past c (around c stack spot.frame).depth (outside c stack caps spot.frame) q)
      (further_from c (tree_of c q) count to (spot_state c spot stack caps)
      (past c (around c stack spot.frame).depth (outside c stack caps spot.frame) q) (fail c stack caps))
      (fail c stack caps)) e

  more_more : is_none_left (less count high) ≡ false → ahead c (conf (More q count to) spot stack caps)
      ≡ stepped (holding c.setting 1 (record (spot_state c spot stack caps) { place = to })
      (λ u. past c (around c stack spot.frame).depth (outside c stack caps spot.frame) q reached u
      (pause (further_from c (tree_of c q) count to (spot_state c spot stack caps)
      (past c (around c stack spot.frame).depth (outside c stack caps spot.frame) q) (fail c stack caps)))))
  more_more e =
      more_is ∙ ap (λ b. offer_path c.setting b (record (spot_state c spot stack caps) { place = to })
      (past c (around c stack spot.frame).depth (outside c stack caps spot.frame) q)
      (further_from c (tree_of c q) count to (spot_state c spot stack caps)
      (past c (around c stack spot.frame).depth (outside c stack caps spot.frame) q) (fail c stack caps))
      (fail c stack caps)) e

  pub stop_more : spot.left ≡ 0 → (b : Bool) → is_none_left (less count high) ≡ b
      → tread c.setting spot.left (ahead c (conf (More q count to) spot stack caps)) ≡ answers MatchLimit
  stop_more out true e = over_steps c spot.left _ _ (more_last e) out
  stop_more out false e = over_steps c spot.left _ _ (more_more e) out

  pub stop_more_units : is_none_left (less count high) ≡ false → 0 < spot.left
      → c.setting.matching.frame_limit ≤ spot.units → tread c.setting spot.left
      (ahead c (conf (More q count to) spot stack caps)) ≡ answers FrameLimit
  stop_more_units e left full = over_units_step c spot.left _ _ (more_more e) (holding_full c.setting _ _ full) left

  pub turn_more_last : is_none_left (less count high) ≡ true → 0 < spot.left
      → Advances c (conf (More q count to) spot stack caps)
      (conf (onward c q) (record spot { place = to; left = spot.left - 1 }) stack caps)
  turn_more_last e left =
      let w = v.running.1 in
      goes_on_step c _ (record spot { place = to; left = spot.left - 1 }) stack caps
      (sound_less c spot.left (spot.left - 1) (length caps) stack (omega arith) v.records) v.spans v.slots ok q
      v.running.0 v.running.5
      (record {
        inside = w.inside;
        deep = omega (arith, w.deep);
        counted = w.counted;
        few = w.few;
        here = v.running.3;
        marked = w.marked;
        contained = w.contained;
      }) (omega arith) refl (more_last e)

  pub turn_more_more : is_none_left (less count high) ≡ false → 0 < spot.left
      → spot.units < c.setting.matching.frame_limit →
      Advances c (conf (More q count to) spot stack caps)
      (conf (onward c q) (record spot { place = to; left = spot.left - 1; units = spot.units + 1 })
      (MoreItems (record { node = q; link = spot.frame }) (kept_at spot) count to ∷ stack) caps)
  unfolding fail
  turn_more_more e left room =
      let r : Entry = MoreItems (record { node = q; link = spot.frame }) (kept_at spot) count to in
      let to' : Spot = record spot { place = to; left = spot.left - 1; units = spot.units + 1 } in
      let w = v.running.1 in
      advance_step c _ _ _
      (more_more e ∙ ap stepped (holding_room c.setting _ _ room))
      (focus_kept c r stack caps (onward c q) spot.frame spot.passed (kept_at to') caps
      (fail c (r ∷ stack) caps) w.inside w.marked refl (begun_towards c ok q v.running.0)
      ∙ focus_towards c ok q v.running.0 _ _ _ _)
      (omega arith) refl
      (record {
        running = running_towards c ok q v.running.0 to' (r ∷ stack)
            (later_push c spot.frame q r stack (omega arith) v.running.5) (record {
              inside = omega (arith, w.inside);
              deep = omega (arith, w.deep, ap (λ (a : Around). a.depth) (around_push c r stack spot.frame w.inside));
              counted = omega (arith, w.counted);
              few = omega (arith, room);
              here = v.running.3;
              marked = omega (arith, w.marked);
              contained = contained_push c spot.frame r stack refl w.contained;
            });
        records = (
          (
            v.running.0,
            record {
              inside = w.inside;
              deep = omega (arith, w.deep);
              counted = w.counted;
              few = w.few;
              here = w.here;
              marked = w.marked;
              contained = w.contained;
            },
            (v.running.2, v.running.3, subst (λ x. HasFurther c x count) t e),
            v.running.5,
          ),
          sound_less c spot.left (spot.left - 1) (length caps) stack (omega arith) v.records,
        );
        spans = v.spans;
        slots = v.slots;
      })
