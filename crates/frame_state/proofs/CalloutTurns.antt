-- The steps of the machine at a callout, and what is told in all.
use Rattle.std.proofs.Common.{◌≡◌, ◌∙◌, ℕ, ℤ, ◌≤◌, Bool, true, false, ◌||◌, List, [], ◌∷◌, map, Option, Some, None}
use Rattle.std.proofs.Common.{Result, Ok, Err, IfOk, IfErr, append_assoc, refl, sym, ap, subst, arith}
use Rattle.std.specs.Prelude.{OnOk}
use Rattle.std.specs.Option.{option_or}
use Rattle.pat_tree.specs.declared.nodes.Node.TheVariants as node
use Rattle.pcre_io.specs.declared.callouts.Block.{Block}
use Rattle.pcre_io.specs.Called.{SeenGrows}
use Rattle.frame_store.specs.Captures.{Captures}
use Rattle.frame_store.specs.Entry.{Entry}
use Rattle.ordered_search.specs.Stream as search
use Rattle.ordered_search.specs.Stream.{State, shown, reached, by_halt, abort}
use Rattle.ordered_search.specs.PlaceAnswer.{Walked, Abort, with_note, last_name, has_hit, blocks}
use Rattle.ordered_search.specs.Moves.{Moves, stops, pause, noted, Follow, tread, size}
use Rattle.ordered_search.specs.Paths.{answered}
use Rattle.frame_state.specs.declared.machine.Met.{Met}
use Rattle.frame_state.specs.declared.machine.Next.{Next}
use Rattle.frame_state.specs.declared.machine.Next.TheVariants.{Enter, Back}
use Rattle.frame_state.specs.declared.machine.Spot.{Spot}
use Rattle.frame_state.specs.declared.machine.Stop.{Stop}
use Rattle.frame_state.specs.declared.machine.Stop.TheVariants as stop
use Rattle.frame_state.specs.Ground.{Ground, IsNode, IsGround}
use Rattle.frame_state.specs.Machine.{Conf, conf, mark_of, onward}
use Rattle.frame_state.specs.Frames.{past, around, outside, fail, spot_state, ahead}
use Rattle.frame_state.specs.Shown.{callout_at, block_at, shown_as, seen_after, IsReplied, IsFollowed, IsCallStop}
use Rattle.frame_state.specs.Stops.{Told, told, tells, told_at, IsStop, IsEnd, held_next}
use Rattle.frame_state.specs.Over.{IsCalloutNext, in_all, IsStopOver, IsEndOver, AdvancesOver, GoesBy}
use Rattle.frame_state.specs.Validity.{IsValid, Advances}
use Rattle.frame_state.proofs.PartPaths.{enter_callout}
use Rattle.frame_state.proofs.Frames.{focus_towards, running_towards}
use Rattle.frame_state.proofs.Turns.{deep}
use Rattle.frame_state.proofs.Advance.{advance_from}
use Rattle.frame_state.proofs.HeldStops.{stop_end}

-- A callout that is shown comes before what is told later.

or_none : (o : Option ℕ) → option_or o None ≡ o
or_none None = refl
or_none (Some n) = refl

telling : Walked → search.Block → Met → Option ℕ → Told
telling w b met o = record {
  answer = w.answer;
  last = option_or o (mark_of met.name);
  hit = has_hit w.notes || met.hit;
  blocks = b ∷ blocks w.notes;
}

told_shown : (met : Met) (b : search.Block) (w : Walked)
    → told met (with_note (shown b) w) ≡ record (told met w) { blocks = b ∷ (told met w).blocks }
unfolding told telling
told_shown met b w = ap (telling w b met) (or_none (last_name w.notes))

in_all_grows : (old new : Option (List Block)) (b : search.Block) (t : Told) → SeenGrows old new (shown_as b)
    → in_all old (record t { blocks = b ∷ t.blocks }) ≡ in_all new t
in_all_grows None new b t e = ap (λ (s : Option (List Block)). (record t { blocks = [] }, seen_after s t.blocks))
    (sym e)
in_all_grows (Some seen) new b t e =
    ap (λ (bs : List Block). (record t { blocks = [] }, Some bs))
    (sym (append_assoc seen (shown_as b ∷ []) (map shown_as t.blocks)))
    ∙ ap (λ (s : Option (List Block)). (record t { blocks = [] }, seen_after s t.blocks)) (sym e)

-- Where none is shown.

module _ (seen : Option (List Block)) where
  pub still : (c : Ground) (m n : Conf) → Advances c m n → AdvancesOver c seen seen m n
  still c m n a = record { answer = ap (in_all seen) a.answer; shorter = a.shorter; valid = a.valid }

  pub still_stop : (s : Stop) (spot : Spot) (caps : Captures) (t : Told) → IsStop s spot caps t
      → IsStopOver s spot caps seen (in_all seen t)
  still_stop s spot caps t is = record { left = t; whole = refl; is = is }

  pub still_end : (c : Ground) (s : Stop) (spot : Spot) (caps : Captures) (t : Told) → IsEnd c s spot caps t
      → IsEndOver c s spot caps seen (in_all seen t)
  still_end c s spot caps t is = record { left = t; whole = refl; is = is }

-- A turn over a callout.

module _ (c : Ground) (old new : Option (List Block)) (b : search.Block) (spot : Spot) (x z : Moves)
    (e : x ≡ pause (noted (shown b) z)) (grows : SeenGrows old new (shown_as b)) where
  pub over_told : in_all old (tells c.setting spot x) ≡ in_all new (tells c.setting spot z)
  unfolding tread
  over_told =
      ap (λ (y : Moves). in_all old (tells c.setting spot y)) e
      ∙ ap (in_all old) (told_shown spot.last b (tread c.setting spot.left z))
      ∙ in_all_grows old new b (tells c.setting spot z) grows

  pub over_more : (n : Conf) → tells c.setting spot z ≡ tells c.setting n.spot (ahead c n) → size (ahead c n) ≤ size z
      → (m : Conf) → ahead c m ≡ x → m.spot ≡ spot → IsValid c n → AdvancesOver c old new m n
  unfolding size
  over_more n told_same le m at here v = record {
    answer = ap (λ (y : Moves). in_all old (tells c.setting m.spot y)) at
        ∙ ap (λ (s : Spot). in_all old (tells c.setting s x)) here ∙ over_told ∙ ap (in_all new) told_same;
    shorter = omega (arith, le, ap size e, ap size at);
    valid = v;
  }

-- and a stop there
pub call_stop : (c : Ground) (old new : Option (List Block)) (b : search.Block) (spot : Spot) (caps : Captures)
    (x y f : Moves) (n : ℤ) → x ≡ pause (noted (shown b) (answered n y f)) →
    (s : Stop) → IsCallStop s n old new (shown_as b) → IsStopOver s spot caps new (in_all old (tells c.setting spot x))
unfolding tread
call_stop c old new b spot caps x y f n e (stop.Abort m) h = record {
  left = told_at spot (Abort m);
  whole = over_told c old new b spot x (stops (by_halt (abort m))) (e ∙ ap (λ z. pause (noted (shown b) z)) (h.0 y f))
      h.1;
  is = refl;
}
call_stop c old new b spot caps x y f n e stop.Memory h = record {
  left = tells c.setting spot x;
  whole = ap (λ (s : Option (List Block)). in_all s (tells c.setting spot x)) (sym h);
  is = tt;
}
call_stop c old new b spot caps x y f n e stop.Match h = absurd h
call_stop c old new b spot caps x y f n e stop.NoMatch h = absurd h
call_stop c old new b spot caps x y f n e (stop.Verb a) h = absurd h
call_stop c old new b spot caps x y f n e stop.MatchLimit h = absurd h
call_stop c old new b spot caps x y f n e stop.FrameLimit h = absurd h
call_stop c old new b spot caps x y f n e stop.Partial h = absurd h
call_stop c old new b spot caps x y f n e stop.Loop h = absurd h

-- The machine comes to a callout.

module _ (c : Ground) (ok : IsGround c) (q : ℕ) (spot : Spot) (stack : List Entry) (caps : Captures)
    (v : IsValid c (conf (Enter q) spot stack caps)) (answer : Block → ℤ) (replied : IsReplied c.setting answer)
    (number from to at len : ℕ) (i : IsNode c q (node.Callout number from to at len)) where
  abbrev s : State
  s = spot_state c spot stack caps

  abbrev K : Follow
  K = past c (around c stack spot.frame).depth (outside c stack caps spot.frame) q

  abbrev f : Moves
  f = fail c stack caps

  abbrev pub b : search.Block
  b = block_at (callout_at number from to at len) spot

  at_callout : ahead c (conf (Enter q) spot stack caps) ≡ pause
      (noted (shown b) (answered (answer (shown_as b)) (K reached s f) f))
  at_callout =
      enter_callout c ok q (node.Callout number from to at len) i _ _ _ _ _
      (deep c ok q spot stack caps v (node.Callout number from to at len) i) number from to at len refl
      ∙ ap (λ n. pause (noted (shown b) (answered n (K reached s f) f))) (replied b)

  goes_over : (old new : Option (List Block)) → SeenGrows old new (shown_as b) → (goes : Bool)
      → IsFollowed (answer (shown_as b)) goes →
      AdvancesOver c old new (conf (Enter q) spot stack caps) (conf (held_next c q goes) spot stack caps)
  goes_over old new grows true followed =
      let same = focus_towards c ok q v.running.0 (around c stack spot.frame).depth (outside c stack caps spot.frame)
      s f in
      over_more c old new b spot _ _ (at_callout ∙ ap (λ z. pause (noted (shown b) z)) (followed (K reached s f) f))
      grows
      (conf (onward c q) spot stack caps) (sym (ap (tells c.setting spot) same))
      (omega (arith, ap size same)) _ refl refl
      (record {
        running = running_towards c ok q v.running.0 spot stack v.running.2 v.running.1;
        records = v.records;
        spans = v.spans;
        slots = v.slots;
      })
  goes_over old new grows false followed =
      over_more c old new b spot _ _ (at_callout ∙ ap (λ z. pause (noted (shown b) z)) (followed (K reached s f) f))
      grows
      (conf Back spot stack caps) refl (omega arith) _ refl refl
      (record { running = tt; records = v.records; spans = v.spans; slots = v.slots })

  pub turn_callout : (old new : Option (List Block)) → SeenGrows old new (shown_as b) → (next : Next)
      → IsCalloutNext c q (answer (shown_as b)) next →
      AdvancesOver c old new (conf (Enter q) spot stack caps) (conf next spot stack caps)
  turn_callout old new grows next h =
      subst (λ (x : Next). AdvancesOver c old new (conf (Enter q) spot stack caps) (conf x spot stack caps))
      (sym h.is) (goes_over old new grows h.goes h.followed)

  pub stop_callout : (old new : Option (List Block)) (x : Stop)
      → IsCallStop x (answer (shown_as b)) old new (shown_as b) →
      IsStopOver x spot caps new (in_all old (tells c.setting spot (ahead c (conf (Enter q) spot stack caps))))
  stop_callout old new x h = call_stop c old new b spot caps _ (K reached s f) f (answer (shown_as b)) at_callout x h

  module _ (old new : Option (List Block)) (block : Block) (is : block ≡ shown_as b) where
    pub callout_goes : (r : Result Next Stop) → IfOk r (IsCalloutNext c q (answer block))
        → OnOk r (SeenGrows old new block) →
        IfOk r (λ next. AdvancesOver c old new (conf (Enter q) spot stack caps) (conf next spot stack caps))
    callout_goes (Ok next) h grows = turn_callout old new (subst (SeenGrows old new) is grows) next
        (subst (λ x. IsCalloutNext c q (answer x) next) is h)
    callout_goes (Err x) h grows = h

    pub callout_stops : {A : Type 0} (r : Result A Stop) → IfErr r (λ x. IsCallStop x (answer block) old new block) →
        IfErr r (λ x. IsStopOver x spot caps new
        (in_all old (tells c.setting spot (ahead c (conf (Enter q) spot stack caps)))))
    callout_stops (Ok x) h = h
    callout_stops (Err x) h = stop_callout old new x (subst (λ z. IsCallStop x (answer z) old new z) is h)

-- Where another step is taken.

pub ok_still : (seen : Option (List Block)) (c : Ground) (m : Conf) (n : Next → Conf) (r : Result Next Stop)
    → IfOk r (λ x. Advances c m (n x)) → IfOk r (λ x. AdvancesOver c seen seen m (n x))
ok_still seen c m n (Ok x) a = still seen c m (n x) a
ok_still seen c m n (Err s) a = a

pub err_still : {A : Type 0} (seen : Option (List Block)) (spot : Spot) (caps : Captures) (t : Told)
    (r : Result A Stop) → IfErr r (λ s. IsStop s spot caps t)
    → IfErr r (λ s. IsStopOver s spot caps seen (in_all seen t))
err_still seen spot caps t (Ok x) a = a
err_still seen spot caps t (Err s) a = still_stop seen s spot caps t a

pub err_same : {A : Type 0} (seen : Option (List Block)) (spot : Spot) (caps : Captures) (t u : Told)
    (r : Result A Stop) → t ≡ u → IfErr r (λ s. IsStop s spot caps u)
    → IfErr r (λ s. IsStopOver s spot caps seen (in_all seen t))
err_same seen spot caps t u r e a = err_still seen spot caps t r
    (subst (λ (x : Told). IfErr r (λ s. IsStop s spot caps x)) (sym e) a)

-- Where a lookaround is tested.
pub ok_by : (seen : Option (List Block)) (c : Ground) (m : Conf) (x : Moves) (n : Next → Conf) (r : Result Next Stop)
    → ahead c m ≡ x → IfOk r (λ y. GoesBy c m.spot x (n y)) → IfOk r (λ y. AdvancesOver c seen seen m (n y))
ok_by seen c m x n (Ok y) e g = still seen c m (n y) (advance_from c m (n y) x e g)
ok_by seen c m x n (Err s) e g = g

-- Where a turn ends the search.

pub end_still : {A : Type 0} (c : Ground) (seen : Option (List Block)) (spot : Spot) (caps : Captures) (t : Told)
    (r : Result A Stop) → IfErr r (λ s. IsStop s spot caps t)
    → IfErr r (λ s. IsEndOver c s spot caps seen (in_all seen t))
end_still c seen spot caps t (Ok x) a = a
end_still c seen spot caps t (Err s) a = still_end seen c s spot caps t (stop_end c s spot caps t a)

pub act_still : {A : Type 0} (c : Ground) (seen : Option (List Block)) (spot : Spot) (caps : Captures) (t : Told)
    (r : Result A Stop) → IfErr r (λ s. IsEnd c s spot caps t)
    → IfErr r (λ s. IsEndOver c s spot caps seen (in_all seen t))
act_still c seen spot caps t (Ok x) a = a
act_still c seen spot caps t (Err s) a = still_end seen c s spot caps t a

pub end_over : {A : Type 0} (c : Ground) (old new : Option (List Block)) (spot : Spot) (caps : Captures) (t : Told)
    (r : Result A Stop) → IfErr r (λ s. IsStopOver s spot caps new (in_all old t))
    → IfErr r (λ s. IsEndOver c s spot caps new (in_all old t))
end_over c old new spot caps t (Ok x) a = a
end_over c old new spot caps t (Err s) a = record {
  left = a.left;
  whole = a.whole;
  is = stop_end c s spot caps a.left a.is;
}
