-- One turn of the machine's loop: what is ahead gives way to what follows.
use Rattle.std.proofs.Common.{◌≡◌, ℕ, suc, ◌+◌, ◌-◌, ◌<◌, ◌≤◌, ◌∙◌, true, false, List, length, refl, sym, ap, arith}
use Rattle.std.proofs.lemmas.Bool.{le-leb, lt-leb}
use Rattle.frame_store.specs.Captures.{Captures}
use Rattle.frame_store.specs.Entry.{Entry}
use Rattle.ordered_search.specs.Stream.{State, too_many_units, by_halt, reached}
use Rattle.ordered_search.specs.Setting.{Setting}
use Rattle.ordered_search.specs.PlaceAnswer.{answers, MatchLimit, FrameLimit}
use Rattle.ordered_search.specs.Moves.{Moves, stops, pause, stepped, holding, tread, size}
use Rattle.frame_state.specs.declared.machine.Next.TheVariants.{Back, End}
use Rattle.frame_state.specs.declared.machine.Met.{Met}
use Rattle.frame_state.specs.declared.machine.Spot.{Spot}
use Rattle.frame_state.specs.Ground.{Ground, IsGround, IsPart}
use Rattle.frame_state.specs.Machine.{Conf, conf, onward}
use Rattle.frame_state.specs.Stops.{Told, told, tells}
use Rattle.frame_state.specs.Frames.{past, around, outside, fail, spot_state, ahead}
use Rattle.frame_state.specs.Over.{GoesBy}
use Rattle.frame_state.specs.Validity.{IsLater, AreSpans, AreSound, IsRunning, IsValid, Advances}
use Rattle.frame_state.proofs.Frames.{focus_towards, running_towards}

-- room for a unit, or none
module _ (g : Setting) (s : State) (x : State → Moves) where
  pub holding_room : s.units < g.matching.frame_limit → holding g 1 s x ≡ x (record s { units = s.units + 1 })
  unfolding holding
  holding_room lt =
      let h : s.units + 1 ≤ g.matching.frame_limit = omega (arith, lt) in
      ap (λ b. elim b [ true ↦ x (record s { units = s.units + 1 }) | false ↦ stops (by_halt too_many_units) ])
      (le-leb _ _ h)

  pub holding_full : g.matching.frame_limit ≤ s.units → holding g 1 s x ≡ stops (by_halt too_many_units)
  unfolding holding
  holding_full full =
      let h : g.matching.frame_limit < s.units + 1 = omega (arith, full) in
      ap (λ b. elim b [ true ↦ x (record s { units = s.units + 1 }) | false ↦ stops (by_halt too_many_units) ])
      (lt-leb _ _ h)

-- the Steps that are left, and what was met, which going back leaves as they are
abbrev pub stays : Spot → ℕ × Met
stays spot = (spot.left, spot.last)

module _ (c : Ground) where
  -- what a path tells where it has so many Steps left, and this was met
  abbrev saying : ℕ × Met → Moves → Told
  saying p x = told p.1 (tread c.setting p.0 x)

  pub advance_pause : (m n : Conf) (z : Moves) → ahead c m ≡ pause z → ahead c n ≡ z → stays n.spot ≡ stays m.spot
      → IsValid c n → Advances c m n
  unfolding tread size
  advance_pause m n z e w same v = record {
    answer = ap (tells c.setting m.spot) e ∙ sym (ap (tells c.setting m.spot) w)
        ∙ ap (λ (p : ℕ × Met). saying p (ahead c n)) (sym same);
    shorter = omega (arith, ap size e, ap size w);
    valid = v;
  }

  -- a turn from what is ahead of a path
  pub goes_pause : (spot : Spot) (x : Moves) (n : Conf) (z : Moves) → x ≡ pause z → ahead c n ≡ z
      → stays n.spot ≡ stays spot → IsValid c n → GoesBy c spot x n
  unfolding tread size
  goes_pause spot x n z e w same v = record {
    answer = ap (tells c.setting spot) e ∙ sym (ap (tells c.setting spot) w)
        ∙ ap (λ (p : ℕ × Met). saying p (ahead c n)) (sym same);
    shorter = omega (arith, ap size e, ap size w);
    valid = v;
  }

  pub advance_from : (m n : Conf) (x : Moves) → ahead c m ≡ x → GoesBy c m.spot x n → Advances c m n
  advance_from m n x e g = record {
    answer = ap (tells c.setting m.spot) e ∙ g.answer;
    shorter = omega (arith, ap size e, g.shorter);
    valid = g.valid;
  }

  pub advance_step : (m n : Conf) (z : Moves) → ahead c m ≡ stepped z → ahead c n ≡ z → suc n.spot.left ≡ m.spot.left
      → n.spot.last ≡ m.spot.last → IsValid c n → Advances c m n
  unfolding tread size
  advance_step m n z e w same met v = record {
    answer =
        ap (tells c.setting m.spot) e ∙ ap (λ l. saying (l, m.spot.last) (stepped z)) (sym same)
        ∙ ap (λ l. saying (n.spot.left, l) z) (sym met) ∙ sym (ap (tells c.setting n.spot) w);
    shorter = omega (arith, ap size e, ap size w);
    valid = v;
  }

  -- the same is ahead of another state
  pub advance_same : (m p n : Conf) → ahead c m ≡ ahead c p → stays m.spot ≡ stays p.spot → Advances c p n
      → Advances c m n
  advance_same m p n e same a = record {
    answer = ap (tells c.setting m.spot) e ∙ ap (λ (x : ℕ × Met). saying x (ahead c p)) same ∙ a.answer;
    shorter = omega (arith, ap size e, a.shorter);
    valid = a.valid;
  }

  -- the answers where there is a Step or a unit too many
  pub over_steps : (left : ℕ) (x z : Moves) → x ≡ stepped z → left ≡ 0 → tread c.setting left x ≡ answers MatchLimit
  unfolding tread
  over_steps left x z e out = ap (tread c.setting left) e ∙ ap (λ l. tread c.setting l (stepped z)) out

  pub over_units : (left : ℕ) (x z : Moves) → x ≡ pause z → z ≡ stops (by_halt too_many_units)
      → tread c.setting left x ≡ answers FrameLimit
  unfolding tread
  over_units left x z e f = ap (tread c.setting left) e ∙ ap (tread c.setting left) f

  pub over_units_step : (left : ℕ) (x z : Moves) → x ≡ stepped z → z ≡ stops (by_halt too_many_units) → 0 < left
      → tread c.setting left x ≡ answers FrameLimit
  unfolding tread
  over_units_step left x z e f some =
      let one : left ≡ suc (left - 1) = omega arith in
      ap (tread c.setting left) e ∙ ap (λ l. tread c.setting l (stepped z)) one ∙ ap (tread c.setting (left - 1)) f

  -- the machine goes back
  module _ (m : Conf) (spot : Spot) (stack : List Entry) (caps : Captures)
      (records : AreSound c spot.left (length caps) stack) (spans : AreSpans c caps)
      (slots : length caps ≡ c.setting.groups) where
    pub goes_back : stays spot ≡ stays m.spot → ahead c m ≡ pause (fail c stack caps)
        → Advances c m (conf Back spot stack caps)
    goes_back same e = advance_pause m (conf Back spot stack caps) (fail c stack caps) e refl same
        (record { running = tt; records = records; spans = spans; slots = slots })

    -- the machine goes on after a part
    module _ (ok : IsGround c) (q : ℕ) (inside : IsPart c q) (later : IsLater c spot.frame q stack)
        (standing : IsRunning c spot stack End) where
      pub goes_on : stays spot ≡ stays m.spot →
          ahead c m ≡ pause (past c (around c stack spot.frame).depth (outside c stack caps spot.frame) q reached
          (spot_state c spot stack caps) (fail c stack caps)) →
          Advances c m (conf (onward c q) spot stack caps)
      goes_on same e =
          advance_pause m (conf (onward c q) spot stack caps) _ e (focus_towards c ok q inside _ _ _ _) same
          (record {
            running = running_towards c ok q inside spot stack later standing;
            records = records;
            spans = spans;
            slots = slots;
          })

      pub goes_on_step : suc spot.left ≡ m.spot.left → spot.last ≡ m.spot.last →
          ahead c m ≡ stepped (past c (around c stack spot.frame).depth (outside c stack caps spot.frame) q reached
          (spot_state c spot stack caps) (fail c stack caps)) →
          Advances c m (conf (onward c q) spot stack caps)
      goes_on_step same met e =
          advance_step m (conf (onward c q) spot stack caps) _ e (focus_towards c ok q inside _ _ _ _) same
          met
          (record {
            running = running_towards c ok q inside spot stack later standing;
            records = records;
            spans = spans;
            slots = slots;
          })
