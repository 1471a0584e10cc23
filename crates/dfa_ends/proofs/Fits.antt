-- A stream fits a set of spots: its states stand at spots of the set, and where it is exhausted it
-- leaves none out.
use Rattle.std.proofs.Common.{◌≡◌, ℕ, ◌+◌, ◌⊎◌, Bool, true, false, [], refl, sym, subst, inl, inr}
use Rattle.std.specs.Prelude.{nat_le}
use Rattle.pat_tree.specs.declared.options.PartialMode.TheVariants.{Off}
use Rattle.ordered_search.specs.Stream.{State, Ending, exhausted, by_verb, by_halt, is_partial, too_many_units, loop}
use Rattle.ordered_search.specs.Stream.{abort, cut, Note, How, reached, accepted, note, state, step, Stream, Search}
use Rattle.ordered_search.specs.Stream.{ends, ◌▸◌, nothing, gives, ◌or_else◌, each, decide, catch, is_next_branch}
use Rattle.ordered_search.specs.Stream.{fails_alone, fails_inside}
use Rattle.ordered_search.specs.Setting.{Setting, held, hold, reach, reach_if}
use Rattle.dfa_ends.specs.Ends.{Spot, spot, Spots, Way, HasOne, HasNone}
use Rattle.dfa_ends.specs.TwoMatchers.{Occurs}

-- the state stands at a spot of the set, outside of all calls
pub record Met (Y : Spots) (u : State) : Type 0 where
  pub outside : u.calls ≡ []
  pub early : ℕ
  pub is_in : Y (spot u.place early)

unfoldable pub Sound : Spots → Stream → Type 0
Sound Y (ends exhausted) = Unit {0}
Sound Y (ends (by_verb v)) = ⊥
Sound Y (ends (by_halt cut)) = Unit {0}
Sound Y (ends (by_halt too_many_units)) = Unit {0}
Sound Y (ends (by_halt is_partial)) = ⊥
Sound Y (ends (by_halt loop)) = ⊥
Sound Y (ends (by_halt (abort n))) = ⊥
Sound Y (state reached u ▸ x) = Met Y u × Sound Y x
Sound Y (state accepted u ▸ x) = ⊥
Sound Y (note k ▸ x) = Sound Y x
Sound Y (step ▸ x) = Sound Y x

-- it ran to its end
unfoldable pub Done : Stream → Type 0
Done (ends exhausted) = Unit {0}
Done (ends (by_verb v)) = ⊥
Done (ends (by_halt h)) = ⊥
Done (e ▸ x) = Done x

pub record Fits (Y : Spots) (x : Stream) : Type 0 where
  pub sound : Sound Y x
  pub full : Done x → (y : Spot) → Y y → Occurs y.place x

-- some spot of this place is in it
abbrev pub PlaceIn : Spots → ℕ → Type 0
PlaceIn Z p = (e : ℕ) × Z (spot p e)

pub sound_like : (Y Z : Spots) (x : Stream) → ((y : Spot) → Y y → PlaceIn Z y.place) → Sound Y x →
    Sound Z x
unfolding Sound
sound_like Y Z (ends exhausted) to h = tt
sound_like Y Z (ends (by_verb v)) to h = h
sound_like Y Z (ends (by_halt cut)) to h = tt
sound_like Y Z (ends (by_halt too_many_units)) to h = tt
sound_like Y Z (ends (by_halt is_partial)) to h = h
sound_like Y Z (ends (by_halt loop)) to h = h
sound_like Y Z (ends (by_halt (abort k))) to h = h
sound_like Y Z (state reached u ▸ x) to h =
    let z = to (spot u.place h.0.early) h.0.is_in in
    (record { outside = h.0.outside; early = z.0; is_in = z.1 }, sound_like Y Z x to h.1)
sound_like Y Z (state accepted u ▸ x) to h = h
sound_like Y Z (note k ▸ x) to h = sound_like Y Z x to h
sound_like Y Z (step ▸ x) to h = sound_like Y Z x to h

-- sets with the same places are the same here
pub fits_like : (Y Z : Spots) (x : Stream) → ((y : Spot) → Y y → PlaceIn Z y.place) →
    ((z : Spot) → Z z → PlaceIn Y z.place) → Fits Y x → Fits Z x
fits_like Y Z x to from h = record {
  sound = sound_like Y Z x to h.sound;
  full = λ d z i. let y = from z i in h.full d (spot z.place y.0) y.1;
}

pub fits_same : (Y Z : Spots) (x : Stream) → ((y : Spot) → Y y → Z y) → ((z : Spot) → Z z → Y z) →
    Fits Y x → Fits Z x
fits_same Y Z x to from h =
    fits_like Y Z x (λ y i. (y.early, to y i)) (λ z i. (z.early, from z i)) h

pub fits_nothing : (Y : Spots) → HasNone Y → Fits Y nothing
unfolding Sound Done Occurs
fits_nothing Y none = record { sound = tt; full = λ d y i. none y i }

pub fits_cut : (Y : Spots) → Fits Y (ends (by_halt cut))
unfolding Sound Done
fits_cut Y = record { sound = tt; full = λ d y i. absurd d }

pub fits_too_many : (Y : Spots) → Fits Y (ends (by_halt too_many_units))
unfolding Sound Done
fits_too_many Y = record { sound = tt; full = λ d y i. absurd d }

pub fits_gives : (Y : Spots) (s : State) → s.calls ≡ [] → (e : ℕ) → Y (spot s.place e) →
    ((y : Spot) → Y y → y.place ≡ s.place) → Fits Y (gives reached s)
unfolding Sound Done Occurs
fits_gives Y s o e i only = record {
  sound = (record { outside = o; early = e; is_in = i }, tt);
  full = λ d y j. inl (sym (only y j));
}

pub fits_step : (Y : Spots) (x : Stream) → Fits Y x → Fits Y (step ▸ x)
unfolding Sound Done Occurs
fits_step Y x h = record { sound = h.sound; full = h.full }

pub fits_note : (Y : Spots) (k : Note) (x : Stream) → Fits Y x → Fits Y (note k ▸ x)
unfolding Sound Done Occurs
fits_note Y k x h = record { sound = h.sound; full = h.full }

pub fits_if : (Y : Spots) (b : Bool) (x y : Stream) → Fits Y x → Fits Y y →
    Fits Y (elim b [ true ↦ x | false ↦ y ])
fits_if Y true x y h k = h
fits_if Y false x y h k = k

-- both at once
abbrev pub Either : Spots → Spots → Spots
Either Y Z y = Y y ⊎ Z y

sound_or_else : (Y : Spots) (x y : Stream) → Sound Y x → Sound Y y → Sound Y (x or_else y)
unfolding Sound ◌or_else◌
sound_or_else Y (ends exhausted) y h k = k
sound_or_else Y (ends (by_verb v)) y h k = h
sound_or_else Y (ends (by_halt cut)) y h k = tt
sound_or_else Y (ends (by_halt too_many_units)) y h k = tt
sound_or_else Y (ends (by_halt is_partial)) y h k = h
sound_or_else Y (ends (by_halt loop)) y h k = h
sound_or_else Y (ends (by_halt (abort n))) y h k = h
sound_or_else Y (state reached u ▸ x) y h k = (h.0, sound_or_else Y x y h.1 k)
sound_or_else Y (state accepted u ▸ x) y h k = h
sound_or_else Y (note n ▸ x) y h k = sound_or_else Y x y h k
sound_or_else Y (step ▸ x) y h k = sound_or_else Y x y h k

done_both : (x y : Stream) → Done (x or_else y) → Done x × Done y
unfolding Done ◌or_else◌
done_both (ends exhausted) y d = (tt, d)
done_both (ends (by_verb v)) y d = absurd d
done_both (ends (by_halt h)) y d = absurd d
done_both (e ▸ x) y d = done_both x y d

occurs_first : (q : ℕ) (x y : Stream) → Occurs q x → Occurs q (x or_else y)
unfolding Occurs ◌or_else◌
occurs_first q (ends e) y o = absurd o
occurs_first q (state how u ▸ x) y o =
    elim o [ inl h ↦ inl h | inr h ↦ inr (occurs_first q x y h) ]
occurs_first q (note k ▸ x) y o = occurs_first q x y o
occurs_first q (step ▸ x) y o = occurs_first q x y o

occurs_second : (q : ℕ) (x y : Stream) → Done x → Occurs q y → Occurs q (x or_else y)
unfolding Done Occurs ◌or_else◌
occurs_second q (ends exhausted) y d o = o
occurs_second q (ends (by_verb v)) y d o = absurd d
occurs_second q (ends (by_halt h)) y d o = absurd d
occurs_second q (state how u ▸ x) y d o = inr (occurs_second q x y d o)
occurs_second q (note k ▸ x) y d o = occurs_second q x y d o
occurs_second q (step ▸ x) y d o = occurs_second q x y d o

pub fits_or_else : (Y Z : Spots) (x y : Stream) → Fits Y x → Fits Z y →
    Fits (Either Y Z) (x or_else y)
fits_or_else Y Z x y h k = record {
  sound =
      sound_or_else (Either Y Z) x y
      (sound_like Y (Either Y Z) x (λ w i. (w.early, inl i)) h.sound)
      (sound_like Z (Either Y Z) y (λ w i. (w.early, inr i)) k.sound);
  full = λ d w i.
      let ds = done_both x y d in
      elim i [
        | inl a ↦ occurs_first w.place x y (h.full ds.0 w a)
        | inr b ↦ occurs_second w.place x y ds.0 (k.full ds.1 w b)
      ];
}

-- on from each
abbrev pub Chain : Spots → Way → Spots
Chain Y Z q = (z : Spot) × Y z × Z z q

-- what goes on from a state fits, whatever its earliest place
abbrev pub GoesOn : Way → Search → State → Type 0
GoesOn Z f u = u.calls ≡ [] → (e : ℕ) → Fits (Z (spot u.place e)) (f u)

sound_each : (Y : Spots) (Z : Way) (x : Stream) (f : How → Search) → Sound Y x →
    ((u : State) → GoesOn Z (f reached) u) → Sound (Chain Y Z) (each x f)
unfolding Sound each
sound_each Y Z (ends exhausted) f h k = tt
sound_each Y Z (ends (by_verb v)) f h k = h
sound_each Y Z (ends (by_halt cut)) f h k = tt
sound_each Y Z (ends (by_halt too_many_units)) f h k = tt
sound_each Y Z (ends (by_halt is_partial)) f h k = h
sound_each Y Z (ends (by_halt loop)) f h k = h
sound_each Y Z (ends (by_halt (abort n))) f h k = h
sound_each Y Z (state reached u ▸ x) f h k =
    sound_or_else (Chain Y Z) (f reached u) (each x f)
    (sound_like (Z (spot u.place h.0.early)) (Chain Y Z) (f reached u)
    (λ y i. (y.early, (spot u.place h.0.early, h.0.is_in, i)))
    (k u h.0.outside h.0.early).sound)
    (sound_each Y Z x f h.1 k)
sound_each Y Z (state accepted u ▸ x) f h k = absurd h
sound_each Y Z (note n ▸ x) f h k = sound_each Y Z x f h k
sound_each Y Z (step ▸ x) f h k = sound_each Y Z x f h k

done_each : (x : Stream) (f : How → Search) → Done (each x f) → Done x
unfolding Done each
done_each (ends e) f d = d
done_each (state how u ▸ x) f d = done_each x f (done_both (f how u) (each x f) d).1
done_each (note n ▸ x) f d = done_each x f d
done_each (step ▸ x) f d = done_each x f d

full_each : (Y : Spots) (Z : Way) (x : Stream) (f : How → Search) → Sound Y x →
    ((u : State) → GoesOn Z (f reached) u) → Done (each x f) → (z y : Spot) → Occurs z.place x →
    Z z y → Occurs y.place (each x f)
unfolding Sound Done Occurs each
full_each Y Z (ends e) f h k d z y o i = absurd o
full_each Y Z (state reached u ▸ x) f h k d z y o i =
    let ds = done_both (f reached u) (each x f) d in
    elim o [
      | inl e ↦ occurs_first y.place (f reached u) (each x f)
          ((k u h.0.outside z.early).full ds.0 y (subst (λ p. Z (spot p z.early) y) (sym e) i))
      | inr later ↦ occurs_second y.place (f reached u) (each x f) ds.0
          (full_each Y Z x f h.1 k ds.1 z y later i)
    ]
full_each Y Z (state accepted u ▸ x) f h k d z y o i = absurd h
full_each Y Z (note n ▸ x) f h k d z y o i = full_each Y Z x f h k d z y o i
full_each Y Z (step ▸ x) f h k d z y o i = full_each Y Z x f h k d z y o i

pub fits_each : (Y : Spots) (Z : Way) (x : Stream) (f : How → Search) → Fits Y x →
    ((u : State) → GoesOn Z (f reached) u) → Fits (Chain Y Z) (each x f)
fits_each Y Z x f h k = record {
  sound = sound_each Y Z x f h.sound k;
  full = λ d y i. full_each Y Z x f h.sound k d i.0 y (h.full (done_each x f d) i.0 i.1) i.2;
}

-- which endings make a test false: that of a search that ran to its end, and none of the two limits
pub record Tests (fails : Ending → Bool) : Type 0 where
  pub by_end : fails exhausted ≡ true
  pub not_cut : fails (by_halt cut) ≡ false
  pub not_units : fails (by_halt too_many_units) ≡ false

pub alone_tests : Tests fails_alone
alone_tests = record { by_end = refl; not_cut = refl; not_units = refl }

pub inside_tests : Tests fails_inside
inside_tests = record { by_end = refl; not_cut = refl; not_units = refl }

if_true : (Y : Spots) (b : Bool) (x y : Stream) → b ≡ true → Fits Y x →
    Fits Y (elim b [ true ↦ x | false ↦ y ])
if_true Y true x y e h = h
if_true Y false x y e h = cc

pub if_false : (Y : Spots) (b : Bool) (x y : Stream) → b ≡ false → Fits Y y →
    Fits Y (elim b [ true ↦ x | false ↦ y ])
if_false Y true x y e h = cc
if_false Y false x y e h = h

-- the set has one where there is a state, and none where there is none and the search ran to its end
decided : (fails : Ending → Bool) → Tests fails → (Y W : Spots) (x : Stream) (f : How → Search)
    (otherwise : Stream) → Sound Y x → (Done x → (y : Spot) → Y y → Occurs y.place x) →
    ((u : State) → u.calls ≡ [] → HasOne Y → Fits W (f reached u)) →
    (HasNone Y → Fits W otherwise) → Fits W (decide fails x f otherwise)
unfolding Sound Done Occurs decide
decided fails t Y W (ends exhausted) f other sound full found none =
    if_true W (fails exhausted) other (ends exhausted) t.by_end (none (λ y i. full tt y i))
decided fails t Y W (ends (by_verb v)) f other sound full found none = absurd sound
decided fails t Y W (ends (by_halt cut)) f other sound full found none =
    if_false W (fails (by_halt cut)) other (ends (by_halt cut)) t.not_cut (fits_cut W)
decided fails t Y W (ends (by_halt too_many_units)) f other sound full found none =
    if_false W (fails (by_halt too_many_units)) other (ends (by_halt too_many_units)) t.not_units
    (fits_too_many W)
decided fails t Y W (ends (by_halt is_partial)) f other sound full found none = absurd sound
decided fails t Y W (ends (by_halt loop)) f other sound full found none = absurd sound
decided fails t Y W (ends (by_halt (abort n))) f other sound full found none = absurd sound
decided fails t Y W (state reached u ▸ x) f other sound full found none =
    found u sound.0.outside (spot u.place sound.0.early, sound.0.is_in)
decided fails t Y W (state accepted u ▸ x) f other sound full found none = absurd sound
decided fails t Y W (note n ▸ x) f other sound full found none = (
    let r = decided fails t Y W x f other sound full found none in
    record { sound = r.sound; full = r.full })
decided fails t Y W (step ▸ x) f other sound full found none = (
    let r = decided fails t Y W x f other sound full found none in
    record { sound = r.sound; full = r.full })

pub fits_decide : (fails : Ending → Bool) → Tests fails → (Y W : Spots) (x : Stream)
    (f : How → Search) (otherwise : Stream) → Fits Y x →
    ((u : State) → u.calls ≡ [] → HasOne Y → Fits W (f reached u)) →
    (HasNone Y → Fits W otherwise) → Fits W (decide fails x f otherwise)
fits_decide fails t Y W x f other h found none =
    decided fails t Y W x f other h.sound h.full found none

-- no THEN is there to be caught
caught : (Y : Spots) (x : Stream) → Sound Y x → catch is_next_branch x ≡ x
unfolding Sound catch
caught Y (ends exhausted) h = refl
caught Y (ends (by_verb v)) h = absurd h
caught Y (ends (by_halt k)) h = refl
caught Y (state reached u ▸ x) h = rw (caught Y x h.1) refl
caught Y (state accepted u ▸ x) h = absurd h
caught Y (note n ▸ x) h = rw (caught Y x h) refl
caught Y (step ▸ x) h = rw (caught Y x h) refl

pub fits_catch : (Y : Spots) (x : Stream) → Fits Y x → Fits Y (catch is_next_branch x)
fits_catch Y x h = subst (Fits Y) (sym (caught Y x h.sound)) h

module _ (g : Setting) where
  pub fits_held : (Y : Spots) (n : ℕ) (s : State) (f : Search) →
      Fits Y (f (record s { units = s.units + n })) → Fits Y (held g n s f)
  unfolding held
  fits_held Y n s f h =
      fits_if Y (nat_le (s.units + n) g.matching.frame_limit) _ _ h (fits_too_many Y)

  pub fits_hold : (Y : Spots) (s : State) → s.calls ≡ [] → (e : ℕ) → Y (spot s.place e) →
      ((y : Spot) → Y y → y.place ≡ s.place) → Fits Y (hold g reached s)
  unfolding hold
  fits_hold Y s o e i only = fits_held Y 1 s (gives reached) (fits_gives Y _ o e i only)

  pub fits_reach : g.matching.«partial» ≡ Off → (Y : Spots) (s : State) (x : Stream) → Fits Y x →
      Fits Y (reach g s x)
  unfolding reach
  fits_reach off Y s x h = rw off h

  pub fits_reach_if : g.matching.«partial» ≡ Off → (Y : Spots) (b : Bool) (s : State) (x : Stream) →
      Fits Y x → Fits Y (reach_if g b s x)
  unfolding reach_if
  fits_reach_if off Y true s x h = fits_reach off Y s x h
  fits_reach_if off Y false s x h = h
