-- Runs of one item, and branches, that are refused at once: the turns that try one, fail and go back to the next.
use Rattle.std.proofs.Common.{◌≡◌, ℕ, zero, suc, ◌+◌, ◌-◌, ◌<◌, ◌≤◌, ◌∙◌, Bool, false, List, [], ◌∷◌, All}
use Rattle.std.proofs.Common.{MatchOption, Option, Some, None, length, reverse, slice_get, slice_index_or, refl, sym}
use Rattle.std.proofs.Common.{ap, subst, arith}
use Rattle.std.proofs.lemmas.List.Elements.{All-head, All-nil}
use Rattle.std.proofs.lemmas.List.{length-reverse, set-set, set-get_or}
use Rattle.std.proofs.lemmas.Option.{slice_get_within}
use Rattle.pat_tree.specs.declared.options.PartialMode.TheVariants.{Off}
use Rattle.pat_tree.specs.declared.nodes.Item.{Item}
use Rattle.pat_tree.specs.declared.nodes.AnchorKind.{AnchorKind}
use Rattle.pat_tree.specs.declared.nodes.Node.{Node}
use Rattle.pat_tree.specs.declared.nodes.Node.TheVariants as node
use Rattle.pat_tree.specs.Rules.{classes_of, kids_of}
use Rattle.node_flow.specs.Followers.{first_of}
use Rattle.match_items.specs.Items.{after_item, is_none_left, place_before}
use Rattle.frame_store.specs.declared.records.Record.{Record}
use Rattle.frame_store.specs.declared.kinds.TheConstants.{KIND_GROUP_OPEN, KIND_FEWER_ITEMS, KIND_MORE_ITEMS}
use Rattle.frame_store.specs.Captures.{Captures, capture, with_capture}
use Rattle.frame_store.specs.Entry.{Entry, GroupOpen, Site, Undo, LaterBranch, entry_in, entries}
use Rattle.frame_store.specs.Undo.{taken_back}
use Rattle.frame_store.proofs.StackLemmas.{slice_get-reverse-below}
use Rattle.frame_state.specs.declared.machine.Next.TheVariants.{Enter, Branch, Fewer, More, End, Back}
use Rattle.frame_state.specs.declared.machine.Spot.{Spot}
use Rattle.frame_state.specs.declared.machine.Stop.{Stop}
use Rattle.frame_state.specs.Ground.{Ground, tree_of, next_of, IsNode, IsGround, IsPart}
use Rattle.frame_state.specs.Machine.{Conf, less, kept_at, conf, towards, onward}
use Rattle.frame_state.specs.Validity.{IsValid, Advances}
use Rattle.frame_state.specs.Stops.{Told, moved_next, moved_spot, held_next, held_early, record_at, restored, IsMost}
use Rattle.frame_state.specs.Stops.{IsStop, IsFurther}
use Rattle.frame_parts.specs.declared.passing.Follower.{Follower}
use Rattle.frame_parts.specs.declared.passing.Need.{Need}
use Rattle.frame_parts.specs.declared.passing.Need.TheVariants.{Takes, Holds}
use Rattle.frame_parts.specs.Passing.{HasNumber, AreFar, PassesFar, IsMissing, BeginsWith, Needs, FailsAt}
use Rattle.frame_parts.specs.Passing.{IsFollower, FallsBack, Reaches}
use Rattle.frame_state.proofs.KidParts.{kid_parts, next_part}
use Rattle.frame_state.proofs.MostOf.{most}
use Rattle.frame_state.proofs.ReachTurns.{noted_off}
use Rattle.frame_state.proofs.Turns.{turn_one_off, turn_anchor, turn_seq, turn_group, turn_capture_of}
use Rattle.frame_parts.proofs.EndTurns.{turn_open}
use Rattle.frame_parts.proofs.Runs.{run_at, longest_none}
use Rattle.frame_parts.proofs.ItemTurns.{turn_short, turn_fewer_more, turn_more_more}
use Rattle.frame_parts.proofs.BackTurns.{back_branch, back_fewer, back_further_some, back_plain}
use Rattle.frame_state.proofs.BranchTurns.{turn_next_branch}
use Rattle.frame_state.specs.Begun.{Begun, is_behind, begun_place, begun_next, begun_spot}
use Rattle.frame_state.specs.Branches.{AreBranches}
use Rattle.frame_state.specs.Ground.{settles}

some_none : (p : ℕ) → Some p ≡ None → ⊥
some_none p e = cc

some_same : (p x : ℕ) → Some p ≡ Some x → p ≡ x
some_same p x e = cc

pub stops_then : (s : Stop) (spot : Spot) (caps : Captures) (t u : Told) → t ≡ u → IsStop s spot caps u
    → IsStop s spot caps t
stops_then s spot caps t u e a = subst (λ (w : Told). IsStop s spot caps w) (sym e) a

module _ (c : Ground) where
  pub stays : (m : Conf) → IsValid c m → Reaches c m m
  stays m v = record { answer = refl; shorter = omega arith; valid = v }

  pub goes_further : (m p n : Conf) → Reaches c m p → Advances c p n → Reaches c m n
  goes_further m p n r a = record {
    answer = r.answer ∙ a.answer;
    shorter = omega (arith, r.shorter, a.shorter);
    valid = a.valid;
  }

  pub reaches_then : (m p n : Conf) → Reaches c m p → Advances c p n → Advances c m n
  reaches_then m p n r a = record {
    answer = r.answer ∙ a.answer;
    shorter = omega (arith, r.shorter, a.shorter);
    valid = a.valid;
  }

  both : (m p n : Conf) → Advances c m p → Advances c p n → Advances c m n
  both m p n a b = record {
    answer = a.answer ∙ b.answer;
    shorter = omega (arith, a.shorter, b.shorter);
    valid = b.valid;
  }

module _ (c : Ground) (ok : IsGround c) where
  pub next_inside : (q p : ℕ) → IsPart c q → (ps : List ℕ) → c.rest q ≡ ps → Some p ≡ first_of ps → IsPart c p
  next_inside q p inside [] e is = absurd (some_none p is)
  next_inside q p inside (x ∷ xs) e is = subst (IsPart c) (sym (some_same p x is)) (next_part c ok q x xs inside e)

  -- what a part needs, where partial matches are not looked for
  pub begins_one : c.setting.matching.«partial» ≡ Off → (p : ℕ) (n : Node) → IsNode c p n → (item : Item)
      → n ≡ node.One item → BeginsWith c p (Takes item)
  begins_one off p n i item e = record {
    class = subst (λ m. All (λ k. k < c.class_count) (classes_of m)) e i.classes;
    fails = λ spot stack caps v none.
        subst (λ o. Advances c (conf (Enter p) spot stack caps)
        (conf (moved_next c p o) (moved_spot spot o) stack caps)) none
        (turn_one_off c ok p spot stack caps v n i item e off);
  }

  pub begins_many : c.setting.matching.«partial» ≡ Off → (p : ℕ) (n : Node) → IsNode c p n
      → (item : Item) (low : ℕ) (high : Option ℕ) (lazily : Bool) → n ≡ node.OneRepeat item low high lazily → 0 < low
      → BeginsWith c p (Takes item)
  begins_many off p n i item low high lazily e some = record {
    class = subst (λ m. All (λ k. k < c.class_count) (classes_of m)) e i.classes;
    fails = λ spot stack caps v none.
        let z : length (run_at c ok item (Some low) spot.place) ≡ 0 =
        ap length (longest_none c ok item (Some low) spot.place none) in
        turn_short c ok p spot stack caps v n i item low high lazily e spot.last
        (noted_off c off _ spot.early spot.last) (omega (arith, z, some));
  }

  pub begins_anchor : c.setting.matching.«partial» ≡ Off → (p : ℕ) (n : Node) → IsNode c p n → (kind : AnchorKind)
      → n ≡ node.Anchor kind → BeginsWith c p (Holds kind)
  begins_anchor off p n i kind e = record {
    class = All-nil (λ k. k < c.class_count);
    fails = λ spot stack caps v missing.
        turn_anchor c ok p spot stack caps v n i kind e Back spot
        (record {
          met = spot.last;
          noted = noted_off c off _ _ spot.last;
          goes = ap (held_next c p) (sym missing);
          moves = ap (held_early c kind spot) (sym missing);
        });
  }

  -- inside a group of one branch too
  pub needs_plain : (p : ℕ) (need : Need) → BeginsWith c p need → Needs c p need 0
  needs_plain p need b = record {
    class = b.class;
    fails = λ spot stack caps v room missing. record {
      spot = spot;
      left = refl;
      last = refl;
      turns = b.fails spot stack caps v missing;
    };
  }

  module _ (q : ℕ) (n : Node) (i : IsNode c q n) (number : Option ℕ) (ks : List ℕ) (e : n ≡ node.Group number ks) where
    pub needs_group : (xs : List ℕ) → xs ≡ ks → length xs ≡ 1 → (need : Need)
        → BeginsWith c (slice_index_or xs 0 0) need → number ≡ None → Needs c q need 0
    needs_group (x ∷ []) same one need b none = record {
      class = b.class;
      fails = λ spot stack caps v room missing.
          let into = turn_group c ok q spot stack caps v n i (x ∷ [])
          (e ∙ ap (node.Group number) (sym same) ∙ ap (λ z. node.Group z (x ∷ [])) none) in
          record {
            spot = spot;
            left = refl;
            last = refl;
            turns = both c _ _ _ into (b.fails spot stack caps into.valid missing);
          };
    }
    needs_group _ same one need b none = absurd (omega (arith, one))

    pub needs_capture : (xs : List ℕ) → xs ≡ ks → length xs ≡ 1 → (need : Need)
        → BeginsWith c (slice_index_or xs 0 0) need → (m : ℕ) → number ≡ Some m → Needs c q need 1
    needs_capture (x ∷ []) same one need b m is = record {
      class = b.class;
      fails = λ spot stack caps v room missing.
          let opened : Spot = record spot { frame = suc (length stack); units = spot.units + 1 } in
          let begun : Entry = GroupOpen (record { node = q; link = spot.frame }) (kept_at spot) in
          let into : Advances c (conf (Enter q) spot stack caps) (conf (Enter x) opened (begun ∷ stack) caps) =
          turn_capture_of c ok q spot stack caps v n i number (x ∷ []) (e ∙ ap (node.Group number) (sym same)) m is
          (omega (arith, room)) in
          let failed : Advances c (conf (Enter x) opened (begun ∷ stack) caps)
          (conf Back opened (begun ∷ stack) caps) = b.fails opened (begun ∷ stack) caps into.valid missing in
          let undone : Advances c (conf Back opened (begun ∷ stack) caps) (conf Back opened stack caps) =
          back_plain c ok opened stack caps begun (λ a k y out h. refl) failed.valid in
          record { spot = opened; left = refl; last = refl; turns = both c _ _ _ into (both c _ _ _ failed undone) };
    }
    needs_capture _ same one need b m is = absurd (omega (arith, one))

  -- what follows in the frame, or after the group that it is of
  pub follows_next : (p height : ℕ) (records : List Record) (caps : Captures) (need : Need) (units : ℕ)
      → Needs c p need units → IsFollower c (Enter p) height records caps need units
  follows_next p height records caps need units b = record {
    class = b.class;
    fails = λ newest spot at v room missing. b.fails spot (entries (newest ∷ records)) caps v room missing;
  }

  pub follows : (p height : ℕ) (records : List Record) (caps : Captures) (r : Option Follower)
      → MatchOption r (Unit {0}) (λ f. Needs c p f.need f.units) →
      MatchOption r (Unit {0}) (λ f. IsFollower c (Enter p) height records caps f.need f.units)
  follows p height records caps None b = tt
  follows p height records caps (Some f) b = follows_next p height records caps f.need f.units b

  module _ (p : Record) (kind : p.kind ≡ KIND_GROUP_OPEN) (g : HasNumber c p.node) (next : ℕ)
      (is : next_of c p.node ≡ Some next) (need : Need) (units : ℕ) (b : Needs c next need units) where
    closed_again : (spot : Spot) (records : List Record) (caps : Captures)
        → IsValid c (conf End spot (entries records) caps) → (h : ℕ) → spot.frame ≡ h + 1
        → slice_get (reverse records) h ≡ Some p →
        spot.units + (units + 1) ≤ c.setting.matching.frame_limit → IsMissing c need spot.place
        → FallsBack c (conf End spot (entries records) caps)
    closed_again spot records caps v h height at room none =
        let m : ℕ = g.number in
        let to : Spot = record spot { frame = p.link; units = spot.units + 1 } in
        let undo : Entry = Undo (record { node = p.node; link = p.link }) m (capture caps m) in
        let new : Captures = with_capture caps m (Some (record { from = p.place; to = spot.place })) in
        let same : taken_back undo new ≡ caps = set-set caps (m - 1) _ (capture caps m)
        ∙ set-get_or caps (m - 1) None in
        let closed : Advances c (conf End spot (entries records) caps)
        (conf (Enter next) to (undo ∷ entries records) new) =
        subst (λ o. Advances c (conf End spot (entries records) caps)
        (conf (towards o (settles c p.node)) to (undo ∷ entries records) new)) is
        (turn_open c ok spot records caps v h height p at kind m g.is g.some g.few (omega (arith, room))) in
        let failed = b.fails to (undo ∷ entries records) new closed.valid (omega (arith, room)) none in
        let undone : Advances c (conf Back failed.spot (undo ∷ entries records) new)
        (conf Back failed.spot (entries records) caps) =
        subst (λ x. Advances c (conf Back failed.spot (undo ∷ entries records) new)
        (conf Back failed.spot (entries records) x)) same
        (back_plain c ok failed.spot (entries records) new undo (λ a k x out h'. refl) failed.turns.valid) in
        record {
          spot = failed.spot;
          left = failed.left;
          last = failed.last;
          turns = both c _ _ _ closed (both c _ _ _ failed.turns undone);
        }

    pub follows_group : (height : ℕ) (records : List Record) (caps : Captures) (h : ℕ) → height ≡ h + 1
        → slice_get (reverse records) h ≡ Some p → IsFollower c End height records caps need (units + 1)
    follows_group height records caps h above at =
        let within : h < length (reverse records) = slice_get_within (reverse records) h p at in
        let len : length (reverse records) ≡ length records = length-reverse records in
        record {
          class = b.class;
          fails = λ newest spot same v room none.
              closed_again spot (newest ∷ records) caps v h (same ∙ above)
              (slice_get-reverse-below newest records h (omega (arith, within, len)) ∙ at) room none;
        }

  -- a run of a greedy repeat is refused
  pub fewer_refused : (q from to : ℕ) (spot : Spot) (records : List Record) (caps : Captures)
      → IsValid c (conf (Fewer q from to) spot (entries records) caps) → (need : Need) (units : ℕ) →
      IsFollower c (onward c q) spot.frame records caps need units → from < to → 0 < spot.left
      → spot.units + units < c.setting.matching.frame_limit → IsMissing c need to →
      Advances c (conf (Fewer q from to) spot (entries records) caps)
      (conf (Fewer q from (place_before c.setting.scene to)) (record spot { left = spot.left - 1 })
      (entries records) caps)
  unfolding entry_in
  fewer_refused q from to spot records caps v need units f lt left room none =
      let newest : Record = record_at spot KIND_FEWER_ITEMS q 0 from to in
      let site : Site = record { node = q; link = spot.frame } in
      let first = turn_fewer_more c ok q from to spot (entries records) caps v lt left (omega (arith, room)) in
      let back = f.fails newest (record spot { place = to; left = spot.left - 1; units = spot.units + 1 }) refl
      first.valid (omega (arith, room)) none in
      let again = back_fewer c ok back.spot (entries records) caps site (kept_at spot) from to back.turns.valid in
      let same : restored back.spot site (kept_at spot) ≡ record spot { left = spot.left - 1 } =
      ap (λ l. record spot { left = l; last = back.spot.last }) back.left
      ∙ ap (λ l. record spot { left = spot.left - 1; last = l }) back.last in
      subst (λ s. Advances c (conf (Fewer q from to) spot (entries records) caps)
      (conf (Fewer q from (place_before c.setting.scene to)) s (entries records) caps)) same
      (both c _ _ _ first (both c _ _ _ back.turns again))

  pub pass_run : (m : Conf) (q from to : ℕ) (spot : Spot) (records : List Record) (caps : Captures)
      → Reaches c m (conf (Fewer q from to) spot (entries records) caps) → (need : Need) (height units : ℕ) →
      IsFollower c (onward c q) height records caps need units → height ≡ spot.frame → from < to
      → 0 < spot.left → spot.units + units < c.setting.matching.frame_limit → IsMissing c need to →
      Reaches c m (conf (Fewer q from (place_before c.setting.scene to)) (record spot { left = spot.left - 1 })
      (entries records) caps)
  pass_run m q from to spot records caps r need height units f same lt left room none =
      goes_further c _ _ _ r (fewer_refused q from to spot records caps r.valid need units
      (subst (λ x. IsFollower c (onward c q) x records caps need units) same f) lt left room none)

  -- runs that end too far from the subject's end
  module _ (m : Conf) (q from : ℕ) (records : List Record) (caps : Captures) (need : Need) (height units : ℕ)
      (f : IsFollower c (onward c q) height records caps need units) (far : ℕ)
      (a : AreFar c need far) where
    pass_far : (k to : ℕ) (spot : Spot) → Reaches c m (conf (Fewer q from to) spot (entries records) caps)
        → height ≡ spot.frame → to ≤ far → k ≤ to - from → k ≤ spot.left →
        spot.units + units < c.setting.matching.frame_limit
        → Reaches c m (conf (Fewer q from (to - k)) (record spot { left = spot.left - k }) (entries records) caps)
    pass_far zero to spot r same low few paid room =
        let place : to ≡ to - 0 = omega arith in
        let left : spot.left ≡ spot.left - 0 = omega arith in
        subst (λ x. Reaches c m (conf (Fewer q from x) (record spot { left = spot.left - 0 }) (entries records) caps))
        place
        (subst (λ l. Reaches c m (conf (Fewer q from to) (record spot { left = l }) (entries records) caps)) left r)
    pass_far (suc k) to spot r same low few paid room =
        let some : 0 < to = omega (arith, few) in
        let next : Reaches c m (conf (Fewer q from (to - 1)) (record spot { left = spot.left - 1 }) (entries records)
        caps) =
        subst (λ x. Reaches c m (conf (Fewer q from x) (record spot { left = spot.left - 1 }) (entries records) caps))
        (a.bytes to some low)
        (pass_run m q from to spot records caps r need height units f same (omega (arith, few)) (omega (arith, paid))
        room (a.missing to some low)) in
        let place : to - 1 - k ≡ to - suc k = omega arith in
        let left : spot.left - 1 - k ≡ spot.left - suc k = omega arith in
        subst (λ x. Reaches c m (conf (Fewer q from x) (record spot { left = spot.left - suc k }) (entries records)
        caps)) place
        (subst (λ l. Reaches c m (conf (Fewer q from (to - 1 - k)) (record spot { left = l }) (entries records) caps))
        left
        (pass_far k (to - 1) (record spot { left = spot.left - 1 }) next same (omega (arith, low))
        (omega (arith, few)) (omega (arith, paid)) room))

    pub pass_runs : (to last : ℕ) (spot new : Spot) → Reaches c m (conf (Fewer q from to) spot (entries records) caps)
        → height ≡ spot.frame → to ≤ far →
        spot.units + units < c.setting.matching.frame_limit → PassesFar from to spot new last
        → Reaches c m (conf (Fewer q from last) new (entries records) caps)
    pass_runs to last spot new r same low room p =
        subst (λ x. Reaches c m (conf (Fewer q from x) new (entries records) caps)) (sym p.ends)
        (subst (λ s. Reaches c m (conf (Fewer q from (to - p.runs)) s (entries records) caps)) (sym p.left)
        (pass_far p.runs to spot r same low p.few p.paid room))

  -- a run of a lazy repeat is refused
  pub more_refused : c.setting.matching.«partial» ≡ Off
      → (q count to : ℕ) (spot : Spot) (records : List Record) (caps : Captures)
      → IsValid c (conf (More q count to) spot (entries records) caps) → (need : Need) (units : ℕ) →
      IsFollower c (onward c q) spot.frame records caps need units → (high : Option ℕ)
      → IsMost (tree_of c q) high → is_none_left (less count high) ≡ false → 0 < spot.left →
      spot.units + units < c.setting.matching.frame_limit → IsMissing c need to → (p : ℕ)
      → IsFurther c (tree_of c q) to (Some p) → (j : ℕ) → j ≡ suc count →
      Advances c (conf (More q count to) spot (entries records) caps)
      (conf (More q j p) (record spot { left = spot.left - 1 }) (entries records) caps)
  unfolding entry_in
  more_refused off q count to spot records caps v need units f high is some left room none p further j same =
      let w = most (tree_of c q) high is in
      let own : Some p ≡ after_item c.setting.scene w.item to =
      subst (λ x. IsFurther c x to (Some p)) (sym w.is) further in
      let newest : Record = record_at spot KIND_MORE_ITEMS q count 0 to in
      let site : Site = record { node = q; link = spot.frame } in
      let first = turn_more_more c ok q count to spot (entries records) caps v w.item w.low high w.lazily w.is some
      left (omega (arith, room)) in
      let back = f.fails newest (record spot { place = to; left = spot.left - 1; units = spot.units + 1 }) refl
      first.valid (omega (arith, room)) none in
      let again =
      back_further_some c ok back.spot (entries records) caps site (kept_at spot) count to w.item w.low high w.lazily
      w.is back.turns.valid back.spot.last
      (noted_off c off _ spot.early back.spot.last) p j same (sym own) in
      let spots : restored back.spot site (kept_at spot) ≡ record spot { left = spot.left - 1 } =
      ap (λ l. record spot { left = l; last = back.spot.last }) back.left
      ∙ ap (λ l. record spot { left = spot.left - 1; last = l }) back.last in
      subst (λ s. Advances c (conf (More q count to) spot (entries records) caps)
      (conf (More q j p) s (entries records) caps)) spots
      (both c _ _ _ first (both c _ _ _ back.turns again))

  pub pass_further : c.setting.matching.«partial» ≡ Off
      → (m : Conf) (q count to : ℕ) (spot : Spot) (records : List Record) (caps : Captures)
      → Reaches c m (conf (More q count to) spot (entries records) caps) → (need : Need) (height units : ℕ) →
      IsFollower c (onward c q) height records caps need units → height ≡ spot.frame → (high : Option ℕ)
      → IsMost (tree_of c q) high → is_none_left (less count high) ≡ false → 0 < spot.left →
      spot.units + units < c.setting.matching.frame_limit → IsMissing c need to → (p : ℕ)
      → IsFurther c (tree_of c q) to (Some p) → (j : ℕ) → j ≡ suc count →
      Reaches c m (conf (More q j p) (record spot { left = spot.left - 1 }) (entries records) caps)
  pass_further off m q count to spot records caps r need height units f at high is some left room none p further j
      same =
      goes_further c _ _ _ r
      (more_refused off q count to spot records caps r.valid need units
      (subst (λ x. IsFollower c (onward c q) x records caps need units) at f) high is some left room
      none p further j same)

  -- a branch that begins with an item
  pub begins_seq : (p : ℕ) (n : Node) → IsNode c p n → (k : ℕ) (ks : List ℕ) → n ≡ node.Seq (k ∷ ks) → (need : Need)
      → BeginsWith c k need → BeginsWith c p need
  begins_seq p n i k ks e need b = record {
    class = b.class;
    fails = λ spot stack caps v none.
        let into = turn_seq c ok p spot stack caps v n i k ks e in
        both c _ _ _ into (b.fails spot stack caps into.valid none);
  }

  -- the first branch of a group
  pub first_branch : (q : ℕ) (n : Node) → IsPart c q → IsNode c q n → (number : Option ℕ) (ks : List ℕ)
      → n ≡ node.Group number ks → (xs : List ℕ) → xs ≡ ks → 1 ≤ length xs → IsPart c (slice_index_or xs 0 0)
  first_branch q n inside i number ks e [] same some = absurd (omega (arith, some))
  first_branch q n inside i number ks e (x ∷ xs) same some =
      All-head (IsPart c) x xs (subst (All (IsPart c)) (ap kids_of e ∙ sym same) (kid_parts c q n inside i))

  -- the first part of a sequence
  pub first_kid : (q : ℕ) (n : Node) → IsPart c q → IsNode c q n → (ks : List ℕ) → n ≡ node.Seq ks → (xs : List ℕ)
      → xs ≡ ks → 1 ≤ length xs → IsPart c (slice_index_or xs 0 0)
  first_kid q n inside i ks e [] same some = absurd (omega (arith, some))
  first_kid q n inside i ks e (x ∷ xs) same some = All-head (IsPart c) x xs
      (subst (All (IsPart c)) (ap kids_of e ∙ sym same) (kid_parts c q n inside i))

  pub leads : (q : ℕ) (n : Node) → IsNode c q n → (ks : List ℕ) → n ≡ node.Seq ks → (xs : List ℕ) → xs ≡ ks
      → 1 ≤ length xs → (r : Option Need) →
      MatchOption r (Unit {0}) (λ need. BeginsWith c (slice_index_or xs 0 0) need)
      → MatchOption r (Unit {0}) (λ need. BeginsWith c q need)
  leads q n i ks e [] same some r b = absurd (omega (arith, some))
  leads q n i ks e (x ∷ xs) same some None b = tt
  leads q n i ks e (x ∷ xs) same some (Some need) b = begins_seq q n i x xs (e ∙ ap node.Seq (sym same)) need b

  pub branch_refused : (q j : ℕ) (spot : Spot) (stack : List Entry) (caps : Captures)
      → IsValid c (conf (Branch q j) spot stack caps) → (ks : List ℕ) → AreBranches c q ks → (p : ℕ)
      → slice_get ks j ≡ Some p →
      is_behind (tree_of c q) ≡ false → FailsAt c p spot.place → (j' : ℕ) → j' ≡ suc j → suc j < length ks
      → 0 < spot.left → spot.units < c.setting.matching.frame_limit →
      Advances c (conf (Branch q j) spot stack caps)
      (conf (Branch q j') (record spot { left = spot.left - 1 }) stack caps)
  branch_refused q j spot stack caps v ks b p at plain f j' same lt left room =
      let site : Site = record { node = q; link = spot.frame } in
      let to : Spot = record spot { left = spot.left - 1; units = spot.units + 1 } in
      let later : Entry = LaterBranch site (kept_at spot) j' in
      let start : Option Begun = begun_place c p spot.place in
      let first : Advances c (conf (Branch q j) spot stack caps) (conf (Enter p) to (later ∷ stack) caps) =
      subst (λ x. Advances c (conf (Branch q j) spot stack caps)
      (conf (begun_next x start p) (begun_spot x start to) (later ∷ stack) caps)) plain
      (turn_next_branch c ok q j spot stack caps v ks b p at j' same lt left room) in
      let failed = f.fails to (later ∷ stack) caps refl first.valid in
      let again = back_branch c ok to stack caps site (kept_at spot) j' failed.valid in
      both c _ _ _ first (both c _ _ _ failed again)

  pub pass_branch : (m : Conf) (q j : ℕ) (spot : Spot) (stack : List Entry) (caps : Captures)
      → Reaches c m (conf (Branch q j) spot stack caps) → (ks : List ℕ) → AreBranches c q ks → (p : ℕ)
      → slice_get ks j ≡ Some p →
      is_behind (tree_of c q) ≡ false → FailsAt c p spot.place → (j' : ℕ) → j' ≡ suc j → suc j < length ks
      → 0 < spot.left → spot.units < c.setting.matching.frame_limit →
      Reaches c m (conf (Branch q j') (record spot { left = spot.left - 1 }) stack caps)
  pass_branch m q j spot stack caps r ks b p at plain f j' same lt left room =
      goes_further c _ _ _ r (branch_refused q j spot stack caps r.valid ks b p at plain f j' same lt left room)
