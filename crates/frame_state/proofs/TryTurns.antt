-- A branch of a lookbehind whose lengths differ is tried from so many characters back.
use Rattle.std.proofs.Common.{◌≡◌, ◌∙◌, ℕ, suc, ◌+◌, ◌-◌, ◌<◌, ◌≤◌, ◌⊎◌, inl, inr, Bool, true, false, not, ◌==◌}
use Rattle.std.proofs.Common.{if◌then◌else◌, List, [], ◌∷◌, drop, reverse, length, min, Option, Some, None, option_map}
use Rattle.std.proofs.Common.{refl, sym, ap, subst, arith}
use Rattle.std.proofs.lemmas.Bool.{cases_lt, cases_Bool}
use Rattle.match_items.specs.Items.{places_back}
use Rattle.node_flow.specs.Followers.{first_of}
use Rattle.frame_store.specs.Captures.{Captures}
use Rattle.frame_store.specs.Entry.{Entry, LaterTry, Site}
use Rattle.ordered_search.specs.Stream.{State, reached}
use Rattle.ordered_search.specs.Setting.{branch_lengths}
use Rattle.ordered_search.specs.Parts.{begun_at}
use Rattle.ordered_search.specs.PlaceAnswer.{answers, MatchLimit, FrameLimit}
use Rattle.ordered_search.specs.Moves.{Moves, pause, stepped, Follow, Path, holding, tread}
use Rattle.ordered_search.specs.Paths.{ends_before, tries_path, paths}
use Rattle.frame_state.specs.declared.machine.Next.{Next}
use Rattle.frame_state.specs.declared.machine.Next.TheVariants.{Enter, Try, End, Settle, Back}
use Rattle.frame_state.specs.declared.machine.Spot.{Spot}
use Rattle.frame_state.specs.Behind.{place_back}
use Rattle.frame_state.specs.Begun.{placed, begun_next, begun_spot}
use Rattle.frame_state.specs.Ground.{Ground, tree_of, differ, settles_by, settles, StandsIf, IsGround, BeginsBy}
use Rattle.frame_state.specs.Machine.{Around, Outside, kept_at, conf, place_at}
use Rattle.frame_state.specs.Frames.{past, settle, tries_from, try_from, around, outside, fail, focus, spot_state}
use Rattle.frame_state.specs.Frames.{ahead}
use Rattle.frame_state.specs.Validity.{IsValid, IsTried, Advances}
use Rattle.frame_state.proofs.BackPlaces.{some_place, last_place, less_long, more_places, others_left}
use Rattle.frame_state.proofs.PartPaths.{past_end}
use Rattle.frame_state.proofs.Frames.{focus_kept, around_push, contained_push, later_push, sound_less}
use Rattle.frame_state.proofs.Advance.{advance_pause, advance_step, holding_room, holding_full, over_steps}
use Rattle.frame_state.proofs.Advance.{over_units_step}

module _ (c : Ground) (ok : IsGround c) (p n : ℕ) (spot : Spot) (stack : List Entry) (caps : Captures)
    (v : IsValid c (conf (Try p n) spot stack caps)) where
  abbrev t : IsTried c p n spot.place (place_at stack spot.frame)
  t = v.running.2

  abbrev K : Outside
  K = outside c stack caps spot.frame

  abbrev depth_now : ℕ
  depth_now = (around c stack spot.frame).depth

  abbrev now : State
  now = spot_state c spot stack caps

  abbrev P : Path
  P = paths c.setting depth_now (tree_of c p)

  abbrev f : Moves
  f = fail c stack caps

  -- a try that ends counts at the place of the lookbehind
  abbrev counted : Follow
  counted = ends_before spot.place K.follow

  abbrev tries_at : List ℕ → Moves
  tries_at places = tries_path c.setting places P now K.follow f (K.hand p)

  tried_is : ahead c (conf (Try p n) spot stack caps) ≡ tries_at
      (reverse (drop t.back.least (places_back c.setting.scene n spot.place)))
  tried_is = ap (λ x. tries_from c x n P now K.follow f (K.hand p)) t.lengths

  module _ (q : ℕ) (at : place_back c.setting.scene n spot.place ≡ Some q) where
    try_last : n ≤ t.back.least → ahead c (conf (Try p n) spot stack caps) ≡ stepped
        (P (begun_at q now) counted f (K.hand p))
    unfolding tries_path
    try_last le =
        let least = t.least in
        let same : t.back.least ≡ n = omega (arith, le, least) in
        tried_is
        ∙ ap (λ k. tries_at (reverse (drop k (places_back c.setting.scene n spot.place)))) same
        ∙ ap tries_at (last_place c.setting.scene n spot.place q t.room at)

    -- what is left where the try fails
    abbrev later : Moves
    later = pause (try_from c p (n - 1) depth_now now K.follow f (K.hand p))

    try_two : (ps : List ℕ) (a : ℕ) (as' : List ℕ) → ps ≡ a ∷ as' → tries_at (q ∷ ps)
        ≡ stepped (holding c.setting 1 now (λ u. P (begun_at q u) counted (pause (tries_at ps)) (K.hand p)))
    unfolding tries_path
    try_two ps a as' e =
        ap (λ xs. tries_at (q ∷ xs)) e
        ∙ ap (λ xs. stepped (holding c.setting 1 now (λ u. P (begun_at q u) counted (pause (tries_at xs))
        (K.hand p)))) (sym e)

    try_more : t.back.least < n → ahead c (conf (Try p n) spot stack caps) ≡ stepped
        (holding c.setting 1 now (λ u. P (begun_at q u) counted later (K.hand p)))
    try_more lt =
        let is : n ≡ suc (n - 1) = omega (arith, lt) in
        let low : t.back.least ≤ n - 1 = omega (arith, lt) in
        let left = others_left c.setting.scene t.back.least n (n - 1) spot.place q is low t.room at in
        let ps : List ℕ = reverse (drop t.back.least (places_back c.setting.scene (n - 1) spot.place)) in
        tried_is
        ∙ ap tries_at (more_places c.setting.scene t.back.least n (n - 1) spot.place q is low t.room at)
        ∙ try_two ps left.first left.others left.is
        ∙ ap (λ x. stepped (holding c.setting 1 now (λ u. P (begun_at q u) counted
        (pause (tries_from c x (n - 1) P now K.follow f (K.hand p))) (K.hand p)))) (sym t.lengths)

    -- and the branch is run so
    settles_so : settles c p ≡ true
    settles_so = ap (settles_by c) t.own ∙ ap differ t.lengths ∙ ap not t.differ

    follows_so : past c depth_now K p ≡ counted
    follows_so =
        past_end c p t.alone true settles_so depth_now K ∙ ap (λ x. ends_before x K.follow) (sym t.framed)

    stands_there : c.stands q ≡ true
    stands_there = subst (StandsIf c) at (ok.steps_back n spot.place v.running.1.here)

    abbrev moved : Spot → Spot
    moved to = record to { place = q; early = min spot.early q }

    pub stop_try : spot.left ≡ 0 → tread c.setting spot.left (ahead c (conf (Try p n) spot stack caps))
        ≡ answers MatchLimit
    stop_try out = elim (cases_lt t.back.least n) [
      | inl lt ↦ over_steps c spot.left _ _ (try_more lt) out
      | inr ge ↦ over_steps c spot.left _ _ (try_last ge) out
    ]

    turn_last_at : n ≤ t.back.least → 0 < spot.left →
        Advances c (conf (Try p n) spot stack caps)
        (conf (Enter p) (moved (record spot { left = spot.left - 1 })) stack caps)
    turn_last_at le left =
        let w = v.running.1 in
        advance_step c _ _ _ (try_last le)
        (ap (λ (z : Follow). P (begun_at q now) z f (K.hand p)) follows_so)
        (omega (arith, left)) refl
        (record {
          running = (
            v.running.0,
            record {
              inside = w.inside;
              deep = omega (arith, w.deep);
              counted = w.counted;
              few = w.few;
              here = stands_there;
              marked = w.marked;
              contained = w.contained;
            },
            v.running.3,
          );
          records = sound_less c spot.left (spot.left - 1) (length caps) stack (omega arith) v.records;
          spans = v.spans;
          slots = v.slots;
        })

    module _ (lt : t.back.least < n) (left : 0 < spot.left) where
      stop_units_at : c.setting.matching.frame_limit ≤ spot.units
          → tread c.setting spot.left (ahead c (conf (Try p n) spot stack caps)) ≡ answers FrameLimit
      stop_units_at full = over_units_step c spot.left _ _ (try_more lt) (holding_full c.setting _ _ full) left

      abbrev r : Entry
      r = LaterTry (record { node = p; link = spot.frame }) (kept_at spot) (n - 1)

      later_tried : IsTried c p (n - 1) spot.place (place_at stack spot.frame)
      later_tried = record {
        fixed = t.fixed;
        own = t.own;
        alone = t.alone;
        back = t.back;
        lengths = t.lengths;
        differ = t.differ;
        least = omega (arith, lt);
        room = less_long c.setting.scene t.back.least n (n - 1) spot.place q (omega (arith, lt)) (omega (arith, lt))
            t.room at;
        framed = t.framed;
      }

      turn_more_at : spot.units < c.setting.matching.frame_limit →
          Advances c (conf (Try p n) spot stack caps)
          (conf (Enter p) (moved (record spot { left = spot.left - 1; units = spot.units + 1 })) (r ∷ stack) caps)
      unfolding fail
      turn_more_at room =
          let w = v.running.1 in
          let to : Spot = moved (record spot { left = spot.left - 1; units = spot.units + 1 }) in
          let held : State = record now { units = spot.units + 1 } in
          advance_step c _ _ _
          (try_more lt ∙ ap stepped (holding_room c.setting _ _ room))
          (focus_kept c r stack caps (Enter p) spot.frame spot.passed (kept_at to) caps later w.inside w.marked refl
          v.running.0.begun
          ∙ ap (λ (z : Follow). P (begun_at q held) z later (K.hand p)) follows_so)
          (omega (arith, left)) refl
          (record {
            running = (
              v.running.0,
              record {
                inside = omega (arith, w.inside);
                deep = omega (arith, w.deep, ap (λ (a : Around). a.depth) (around_push c r stack spot.frame w.inside));
                counted = omega (arith, w.counted);
                few = omega (arith, room);
                here = stands_there;
                marked = omega (arith, w.marked);
                contained = contained_push c spot.frame r stack refl w.contained;
              },
              later_push c spot.frame p r stack (omega arith) v.running.3,
            );
            records = (
              (
                v.running.0,
                record {
                  inside = w.inside;
                  deep = omega (arith, w.deep);
                  counted = w.counted;
                  few = w.few;
                  here = w.here;
                  marked = w.marked;
                  contained = w.contained;
                },
                later_tried,
                v.running.3,
              ),
              sound_less c spot.left (spot.left - 1) (length caps) stack (omega arith) v.records,
            );
            spans = v.spans;
            slots = v.slots;
          })

  -- the place from which it is tried
  there : (q : ℕ) × (place_back c.setting.scene n spot.place ≡ Some q)
  there = some_place c.setting.scene n spot.place t.room

  abbrev start : Option ℕ
  start = place_back c.setting.scene n spot.place

  pub stop_at_try : spot.left ≡ 0 → tread c.setting spot.left (ahead c (conf (Try p n) spot stack caps))
      ≡ answers MatchLimit
  stop_at_try out = stop_try there.0 there.1 out

  pub stop_at_try_units : (least : ℕ) → least ≡ t.back.least → least < n → 0 < spot.left
      → c.setting.matching.frame_limit ≤ spot.units
      → tread c.setting spot.left (ahead c (conf (Try p n) spot stack caps)) ≡ answers FrameLimit
  stop_at_try_units least same lt left full =
      stop_units_at there.0 there.1 (omega (arith, same, lt)) left full

  pub turn_last_try : (least : ℕ) → least ≡ t.back.least → n ≤ least → 0 < spot.left →
      Advances c (conf (Try p n) spot stack caps)
      (conf (begun_next true (option_map placed start) p)
      (begun_spot true (option_map placed start) (record spot { left = spot.left - 1 })) stack caps)
  turn_last_try least same le left =
      subst (λ o. Advances c (conf (Try p n) spot stack caps)
      (conf (begun_next true (option_map placed o) p)
      (begun_spot true (option_map placed o) (record spot { left = spot.left - 1 })) stack caps)) (sym there.1)
      (turn_last_at there.0 there.1 (omega (arith, same, le)) left)

  pub turn_next_try : (least : ℕ) → least ≡ t.back.least → least < n → 0 < spot.left → (m : ℕ) → m ≡ n - 1
      → spot.units < c.setting.matching.frame_limit →
      Advances c (conf (Try p n) spot stack caps)
      (conf (begun_next true (option_map placed start) p)
      (begun_spot true (option_map placed start) (record spot { left = spot.left - 1; units = spot.units + 1 }))
      (LaterTry (record { node = p; link = spot.frame }) (kept_at spot) m ∷ stack) caps)
  turn_next_try least same lt left m is room =
      subst (λ k. Advances c (conf (Try p n) spot stack caps)
      (conf (begun_next true (option_map placed start) p)
      (begun_spot true (option_map placed start) (record spot { left = spot.left - 1; units = spot.units + 1 }))
      (LaterTry (record { node = p; link = spot.frame }) (kept_at spot) k ∷ stack) caps)) (sym is)
      (subst (λ o. Advances c (conf (Try p n) spot stack caps)
      (conf (begun_next true (option_map placed o) p)
      (begun_spot true (option_map placed o) (record spot { left = spot.left - 1; units = spot.units + 1 }))
      (LaterTry (record { node = p; link = spot.frame }) (kept_at spot) (n - 1) ∷ stack) caps)) (sym there.1)
      (turn_more_at there.0 there.1 (omega (arith, same, lt)) left room))

-- a try has ended, which counts at the place of its lookbehind
module _ (c : Ground) (spot : Spot) (stack : List Entry) (caps : Captures)
    (v : IsValid c (conf Settle spot stack caps)) where
  abbrev there_by : Bool → Next
  there_by b = if b then End else Back

  settled_by : (b : Bool) → (spot.place == place_at stack spot.frame) ≡ b
      → Advances c (conf Settle spot stack caps) (conf (there_by b) spot stack caps)
  unfolding ends_before
  settled_by true e =
      advance_pause c _ _ _
      (ap (λ b. pause (elim b [
        | true ↦ (outside c stack caps spot.frame).follow reached (spot_state c spot stack caps) (fail c stack caps)
        | false ↦ fail c stack caps
      ])) e) refl refl
      (record { running = v.running; records = v.records; spans = v.spans; slots = v.slots })
  settled_by false e =
      advance_pause c _ _ _
      (ap (λ b. pause (elim b [
        | true ↦ (outside c stack caps spot.frame).follow reached (spot_state c spot stack caps) (fail c stack caps)
        | false ↦ fail c stack caps
      ])) e) refl refl
      (record { running = tt; records = v.records; spans = v.spans; slots = v.slots })

  pub turn_settle : Advances c (conf Settle spot stack caps)
      (conf (there_by (spot.place == place_at stack spot.frame)) spot stack caps)
  turn_settle = settled_by (spot.place == place_at stack spot.frame) refl
