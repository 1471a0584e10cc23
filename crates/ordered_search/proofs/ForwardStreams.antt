-- Streams that go forward: their states are reached at a place or past it, in the subject. A verb that skips goes to a
-- place of the subject.
use Rattle.std.proofs.Common.{◌≡◌, ◌∙◌, ℕ, zero, suc, ◌+◌, ◌≤◌, ℤ, pos, negsuc, Bool, true, false, List, [], ◌∷◌}
use Rattle.std.proofs.Common.{All, length, Option, Some, None, arith}
use Rattle.std.specs.Prelude.{nat_le}
use Rattle.std.proofs.lemmas.List.{length-set}
use Rattle.std.proofs.lemmas.List.Elements.{All-set}
use Rattle.pat_tree.specs.declared.options.PartialMode.{PartialMode}
use Rattle.pat_tree.specs.declared.options.PartialMode.TheVariants.{Off, Soft, Hard}
use Rattle.match_items.specs.Subjects.{IsTextPlace}
use Rattle.ordered_search.specs.Stream.{State, Block, VerbEnding, skip, exhausted, by_verb, by_halt, is_partial}
use Rattle.ordered_search.specs.Stream.{too_many_units, loop, abort, cut, Ending, How, reached, accepted, note, name}
use Rattle.ordered_search.specs.Stream.{shown, hit_end, state, step, Stream, Search, ends, ◌▸◌, nothing, gives}
use Rattle.ordered_search.specs.Stream.{◌or_else◌, each, and_then, go_on, decide, catch, captured}
use Rattle.ordered_search.specs.Setting.{Setting, held, hold, counts, reach, reach_if}
use Rattle.ordered_search.specs.Parts.{back_to, follow}
use Rattle.ordered_search.specs.Forward.{IsWithin}

-- The text of a match begins at `low` or past it, and not past the place. In a lookaround, which leaves it as it was,
-- nothing is asked of it.
abbrev pub IsKept : Option ℕ → ℕ → ℕ → Type 0
IsKept None keep place = Unit {0}
IsKept (Some low) keep place = (low ≤ keep) × (keep ≤ place)

kept_on : (low : Option ℕ) (keep p q : ℕ) → p ≤ q → IsKept low keep p → IsKept low keep q
kept_on None keep p q le h = tt
kept_on (Some low) keep p q le h = let ordered : keep ≤ p = h.1 in (h.0, omega (arith, ordered, le))

kept_here : (low : Option ℕ) (keep p : ℕ) → IsKept low keep p → IsKept low p p
kept_here None keep p h = tt
kept_here (Some low) keep p h = let begins : low ≤ keep = h.0 in let ordered : keep ≤ p = h.1 in
    (omega (arith, begins, ordered), omega arith)

module _ (g : Setting) where
  -- where it skips to is a place of the subject
  abbrev pub LeadsInside : VerbEnding → Type 0
  LeadsInside (skip p) = IsTextPlace g.options g.subject p
  LeadsInside _ = Unit {0}

  -- the names were passed at places of the subject
  abbrev pub ArePassedInside : List (ℕ × ℕ) → Type 0
  ArePassedInside [] = Unit {0}
  ArePassedInside (m ∷ ms) = IsTextPlace g.options g.subject m.1 × ArePassedInside ms

module _ (g : Setting) (low : Option ℕ) where
  -- a state on a path that began at `low`
  pub record IsOnWay (s : State) : Type 0 where
    pub kept : IsKept low s.keep s.place
    pub here : IsTextPlace g.options g.subject s.place
    pub passed : ArePassedInside g s.passed
    pub caps : All (IsWithin (length g.subject)) s.caps
    pub groups : length s.caps ≡ g.groups

  unfoldable pub Forward : ℕ → Stream → Type 0
  Forward p (ends exhausted) = Unit {0}
  Forward p (ends (by_verb v)) = LeadsInside g v
  Forward p (ends (by_halt is_partial)) = Unit {0}
  Forward p (ends (by_halt too_many_units)) = Unit {0}
  Forward p (ends (by_halt loop)) = Unit {0}
  Forward p (ends (by_halt (abort n))) = Unit {0}
  Forward p (ends (by_halt cut)) = Unit {0}
  Forward p (note k ▸ x) = Forward p x
  Forward p (state how s ▸ x) = (p ≤ s.place) × IsOnWay s × Forward p x
  Forward p (step ▸ x) = Forward p x

  -- a search whose streams go forward
  abbrev pub IsForward : Search → Type 0
  IsForward f = (s : State) → IsOnWay s → Forward s.place (f s)

  pub forward_nothing : (p : ℕ) → Forward p nothing
  unfolding Forward
  forward_nothing p = tt

  pub forward_loop : (p : ℕ) → Forward p (ends (by_halt loop))
  unfolding Forward
  forward_loop p = tt

  pub forward_gives_so : (p : ℕ) (how : How) (s : State) → p ≤ s.place → IsOnWay s → Forward p (gives how s)
  unfolding Forward
  forward_gives_so p how s h on = (h, on, tt)

  pub forward_gives : (p : ℕ) (s : State) → p ≤ s.place → IsOnWay s → Forward p (gives reached s)
  forward_gives p s h on = forward_gives_so p reached s h on

  pub forward_backs : (p : ℕ) (s : State) (v : VerbEnding) → p ≤ s.place → IsOnWay s → LeadsInside g v
      → Forward p (state reached s ▸ ends (by_verb v))
  unfolding Forward
  forward_backs p s v le on h = (le, on, h)

  pub forward_name : (p n : ℕ) (x : Stream) → Forward p x → Forward p (note (name n) ▸ x)
  unfolding Forward
  forward_name p n x h = h

  -- what a callout's answer makes of a stream
  pub forward_follow : (p : ℕ) (n : ℤ) (x : Stream) → Forward p x → Forward p (follow n x)
  unfolding Forward follow
  forward_follow p (pos zero) x h = h
  forward_follow p (pos (suc n)) x h = tt
  forward_follow p (negsuc n) x h = tt

  pub forward_shown : (p : ℕ) (b : Block) (n : ℤ) (x : Stream) → Forward p x → Forward p (note (shown b) ▸ follow n x)
  unfolding Forward
  forward_shown p b n x h = forward_follow p n x h

  pub forward_step : (p : ℕ) (x : Stream) → Forward p x → Forward p (step ▸ x)
  unfolding Forward
  forward_step p x h = h

  pub forward_if : (p : ℕ) (b : Bool) (x y : Stream) → Forward p x → Forward p y
      → Forward p (elim b [ true ↦ x | false ↦ y ])
  forward_if p true x y h k = h
  forward_if p false x y h k = k

  pub forward_less : (p q : ℕ) (x : Stream) → p ≤ q → Forward q x → Forward p x
  unfolding Forward
  forward_less p q (ends exhausted) le h = tt
  forward_less p q (ends (by_verb v)) le h = h
  forward_less p q (ends (by_halt is_partial)) le h = tt
  forward_less p q (ends (by_halt too_many_units)) le h = tt
  forward_less p q (ends (by_halt loop)) le h = tt
  forward_less p q (ends (by_halt (abort n))) le h = tt
  forward_less p q (ends (by_halt cut)) le h = tt
  forward_less p q (note k ▸ x) le h = forward_less p q x le h
  forward_less p q (state how s ▸ x) le h = (omega (arith, le, h.0), h.1, forward_less p q x le h.2)
  forward_less p q (step ▸ x) le h = forward_less p q x le h

  pub forward_or_else : (p : ℕ) (x y : Stream) → Forward p x → Forward p y → Forward p (x or_else y)
  unfolding Forward ◌or_else◌
  forward_or_else p (ends exhausted) y h k = k
  forward_or_else p (ends (by_verb v)) y h k = h
  forward_or_else p (ends (by_halt a)) y h k = h
  forward_or_else p (note m ▸ x) y h k = forward_or_else p x y h k
  forward_or_else p (state how s ▸ x) y h k = (h.0, h.1, forward_or_else p x y h.2 k)
  forward_or_else p (step ▸ x) y h k = forward_or_else p x y h k

  pub forward_each : (p : ℕ) (x : Stream) (f : How → Search) → Forward p x
      → ((how : How) (s : State) → p ≤ s.place → IsOnWay s → Forward p (f how s)) → Forward p (each x f)
  unfolding Forward each
  forward_each p (ends e) f h k = h
  forward_each p (note m ▸ x) f h k = forward_each p x f h k
  forward_each p (state how s ▸ x) f h k = forward_or_else p (f how s) (each x f) (k how s h.0 h.1)
      (forward_each p x f h.2 k)
  forward_each p (step ▸ x) f h k = forward_each p x f h k

  -- what goes on from a state; an accepted one stays
  forward_on : (p : ℕ) (f : Search) (how : How) (s : State) → p ≤ s.place → IsOnWay s → Forward s.place (f s)
      → Forward p (go_on f how s)
  forward_on p f reached s le on h = forward_less p s.place (f s) le h
  forward_on p f accepted s le on h = forward_gives_so p accepted s le on

  pub forward_and_then : (p : ℕ) (x : Stream) (f : Search) → Forward p x
      → ((s : State) → p ≤ s.place → IsOnWay s → Forward s.place (f s)) → Forward p (and_then x f)
  forward_and_then p x f h k = forward_each p x (go_on f) h (λ how s le on. forward_on p f how s le on (k s le on))

  pub forward_catch : (p : ℕ) (caught : Ending → Bool) (x : Stream) → Forward p x → Forward p (catch caught x)
  unfolding Forward catch
  forward_catch p caught (ends e) h = forward_if p (caught e) nothing (ends e) (forward_nothing p) h
  forward_catch p caught (note m ▸ x) h = forward_catch p caught x h
  forward_catch p caught (state how s ▸ x) h = (h.0, h.1, forward_catch p caught x h.2)
  forward_catch p caught (step ▸ x) h = forward_catch p caught x h

  -- the first state decides
  pub forward_decide : (p : ℕ) (fails : Ending → Bool) (x : Stream) (f : How → Search) (y : Stream) → Forward p x
      → Forward p y →
      ((how : How) (s : State) → p ≤ s.place → IsOnWay s → Forward p (f how s)) → Forward p (decide fails x f y)
  unfolding Forward decide
  forward_decide p fails (ends e) f y h k to = forward_if p (fails e) y (ends e) k h
  forward_decide p fails (note m ▸ x) f y h k to = forward_decide p fails x f y h k to
  forward_decide p fails (state how s ▸ x) f y h k to = to how s h.0 h.1
  forward_decide p fails (step ▸ x) f y h k to = forward_decide p fails x f y h k to

  -- States that stay on the way.

  pub with_units : (s : State) (n : ℕ) → IsOnWay s → IsOnWay (record s { units = n })
  with_units s n on = record { kept = on.kept; here = on.here; passed = on.passed; caps = on.caps; groups = on.groups }

  pub with_early : (s : State) (n : ℕ) → IsOnWay s → IsOnWay (record s { early = n })
  with_early s n on = record { kept = on.kept; here = on.here; passed = on.passed; caps = on.caps; groups = on.groups }

  pub with_place : (s : State) (q : ℕ) → s.place ≤ q → IsTextPlace g.options g.subject q → IsOnWay s
      → IsOnWay (record s { place = q })
  with_place s q le in' on = record {
    kept = kept_on low s.keep s.place q le on.kept;
    here = in';
    passed = on.passed;
    caps = on.caps;
    groups = on.groups;
  }

  pub with_mark : (s : State) (mark : Option ℕ) → IsOnWay s → IsOnWay (record s { mark = mark })
  with_mark s mark on = record {
    kept = on.kept;
    here = on.here;
    passed = on.passed;
    caps = on.caps;
    groups = on.groups;
  }

  pub with_keep : (s : State) → IsOnWay s → IsOnWay (record s { keep = s.place })
  with_keep s on = record {
    kept = kept_here low s.keep s.place on.kept;
    here = on.here;
    passed = on.passed;
    caps = on.caps;
    groups = on.groups;
  }

  pub with_capture : (s : State) (n p : ℕ) → p ≤ s.place → IsOnWay s → IsOnWay (captured n p s)
  with_capture s n p le on = record {
    kept = on.kept;
    here = on.here;
    passed = on.passed;
    caps = All-set (IsWithin (length g.subject)) s.caps _ (Some (record { from = p; to = s.place }))
        (le, on.here.within) on.caps;
    groups = length-set s.caps _ _ ∙ on.groups;
  }

  pub with_passed : (s : State) (ps : List (ℕ × ℕ)) → ArePassedInside g ps → IsOnWay s
      → IsOnWay (record s { passed = ps })
  with_passed s ps inside on = record {
    kept = on.kept;
    here = on.here;
    passed = inside;
    caps = on.caps;
    groups = on.groups;
  }

  pub with_calls : (s : State) (calls : List (ℕ × ℕ)) → IsOnWay s → IsOnWay (record s { calls = calls })
  with_calls s calls on = record {
    kept = on.kept;
    here = on.here;
    passed = on.passed;
    caps = on.caps;
    groups = on.groups;
  }

  -- back from a call, with the captures and the calls from before it
  pub with_returned : (s u : State) (n : ℕ) → IsOnWay s → IsOnWay u
      → IsOnWay (record u { caps = s.caps; calls = s.calls; units = n })
  with_returned s u n on on' = record {
    kept = on'.kept;
    here = on'.here;
    passed = on'.passed;
    caps = on.caps;
    groups = on.groups;
  }

  -- Units and hits of the end.

  pub forward_held : (p k : ℕ) (s : State) (f : Search) → Forward p (f (record s { units = s.units + k }))
      → Forward p (held g k s f)
  unfolding held Forward
  forward_held p k s f h = forward_if p (nat_le (s.units + k) g.matching.frame_limit) _ _ h tt

  pub forward_hold_so : (p : ℕ) (how : How) (s : State) → p ≤ s.place → IsOnWay s → Forward p (hold g how s)
  unfolding hold
  forward_hold_so p how s le on = forward_held p 1 s (gives how) (forward_gives_so p how _ le (with_units s _ on))

  pub forward_hold : (p : ℕ) (s : State) → p ≤ s.place → IsOnWay s → Forward p (hold g reached s)
  forward_hold p s le on = forward_hold_so p reached s le on

  forward_reached : (p : ℕ) (mode : PartialMode) (b : Bool) (x : Stream) → Forward p x → Forward p (elim mode [
    | Off ↦ x
    | Soft ↦ elim b [ true ↦ note hit_end ▸ x | false ↦ x ]
    | Hard ↦ elim b [ true ↦ ends (by_halt is_partial) | false ↦ x ]
  ])
  unfolding Forward
  forward_reached p Off b x h = h
  forward_reached p Soft true x h = h
  forward_reached p Soft false x h = h
  forward_reached p Hard true x h = tt
  forward_reached p Hard false x h = h

  pub forward_reach_if : (p : ℕ) (b : Bool) (s : State) (x : Stream) → Forward p x → Forward p (reach_if g b s x)
  unfolding reach reach_if
  forward_reach_if p true s x h = forward_reached p g.matching.«partial» (counts g s) x h
  forward_reach_if p false s x h = h

-- Lookarounds: what is inside goes its own way, and only its captures stay.
module _ (g : Setting) (low : Option ℕ) where
  pub loosened : (s : State) → IsOnWay g low s → IsOnWay g None s
  loosened s on = record { kept = tt; here = on.here; passed = on.passed; caps = on.caps; groups = on.groups }

  -- back from a lookaround, with the captures of its body
  pub with_return : (s u : State) → IsOnWay g low s → IsOnWay g None u → IsOnWay g low (back_to s u)
  with_return s u on on' = record {
    kept = on.kept;
    here = on.here;
    passed = on'.passed;
    caps = on'.caps;
    groups = on'.groups;
  }

  forward_ending : (p : ℕ) (e : Ending) → Forward g None 0 (ends e) → Forward g low p (ends e)
  unfolding Forward
  forward_ending p exhausted h = tt
  forward_ending p (by_verb v) h = h
  forward_ending p (by_halt is_partial) h = tt
  forward_ending p (by_halt too_many_units) h = tt
  forward_ending p (by_halt loop) h = tt
  forward_ending p (by_halt (abort n)) h = tt
  forward_ending p (by_halt cut) h = tt

  pub each_inside : (p : ℕ) (x : Stream) (f : How → Search) → Forward g None 0 x
      → ((how : How) (s : State) → IsOnWay g None s → Forward g low p (f how s)) → Forward g low p (each x f)
  unfolding Forward each
  each_inside p (ends e) f h k = forward_ending p e h
  each_inside p (note m ▸ x) f h k = each_inside p x f h k
  each_inside p (state how s ▸ x) f h k = forward_or_else g low p (f how s) (each x f) (k how s h.1)
      (each_inside p x f h.2 k)
  each_inside p (step ▸ x) f h k = each_inside p x f h k

  -- the first state decides
  pub decide_inside : (p : ℕ) (fails : Ending → Bool) (x : Stream) (f : How → Search) (y : Stream)
      → Forward g None 0 x → Forward g low p y →
      ((how : How) (s : State) → IsOnWay g None s → Forward g low p (f how s)) → Forward g low p (decide fails x f y)
  unfolding Forward decide
  decide_inside p fails (ends e) f y h k to = forward_if g low p (fails e) y (ends e) k (forward_ending p e h)
  decide_inside p fails (note m ▸ x) f y h k to = decide_inside p fails x f y h k to
  decide_inside p fails (state how s ▸ x) f y h k to = to how s h.1
  decide_inside p fails (step ▸ x) f y h k to = decide_inside p fails x f y h k to
