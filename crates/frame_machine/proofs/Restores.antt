-- Registers are given back one by one, the last first.
use Rattle.std.proofs.Common.{◌≡◌, ℕ, zero, suc, ◌+◌, ◌-◌, ◌<◌, ◌≤◌, ◌∙◌, Bool, true, false, ◌&&◌, ◌==◌, inl, inr}
use Rattle.std.proofs.Common.{List, [], ◌∷◌, Option, Some, None, length, drop, set, get_or, refl, sym, ap, subst}
use Rattle.std.proofs.Common.{arith}
use Rattle.std.proofs.lemmas.Bool.{cases_Bool, eqb-true, false≢true}
use Rattle.std.proofs.lemmas.List.{length-set, set-set, set-get_or, drop-set, drop_more, get_or-set_other, drop_all}
use Rattle.std.proofs.lemmas.List.Elements.{All-set, All-get_or}
use Rattle.frame_store.specs.declared.registers.Span.{Span}
use Rattle.frame_store.specs.Captures.{Captures, capture, with_capture}
use Rattle.frame_store.specs.Entry.{Site, Entry, Undo}
use Rattle.frame_store.specs.Undo.{taken_back, undone}
use Rattle.ordered_search.specs.Stream.{changes, same_span}
use Rattle.ordered_search.specs.Moves.{pause}
use Rattle.ordered_search.specs.Paths.{pauses}
use Rattle.frame_state.specs.Ground.{Ground}
use Rattle.frame_state.specs.Frames.{outside, fail, Agrees}
use Rattle.frame_state.specs.Validity.{SpanStands, AreSpans}
use Rattle.ordered_search.specs.PlaceAnswer.{Walked, answers, FrameLimit}
use Rattle.frame_state.specs.declared.machine.Met.{Met}
use Rattle.frame_state.specs.declared.machine.Spot.{Spot}
use Rattle.frame_state.specs.declared.machine.Stop.{Stop}
use Rattle.frame_state.specs.declared.machine.Stop.TheVariants as stop
use Rattle.frame_state.specs.Stops.{IsStop, IsHeldStop, told}
use Rattle.frame_state.specs.Calls.{AreRestored, IsReturnStop, trail}
use Rattle.frame_state.proofs.Frames.{path_push, outside_push, agrees_same, agrees_over, later_push}

-- How many captures change.

changes_none : (xs : Captures) → changes xs [] ≡ 0
unfolding changes
changes_none [] = refl
changes_none (x ∷ xs) = refl

changes_more : (b : Bool) (n : ℕ) → n ≤ elim b as (λ _. ℕ) [ true ↦ n | false ↦ 1 + n ]
changes_more true n = omega arith
changes_more false n = omega arith

pub changes_drop : (n : ℕ) (xs ys : Captures) → changes (drop n xs) (drop n ys) ≤ changes xs ys
unfolding changes
changes_drop zero xs ys = omega arith
changes_drop (suc n) [] ys = omega arith
changes_drop (suc n) (x ∷ xs) [] = let none = changes_none (drop n xs) in omega (arith, none)
changes_drop (suc n) (x ∷ xs) (y ∷ ys) = let fewer = changes_drop n xs ys in let more =
    changes_more (same_span x y) (changes xs ys) in omega (arith, fewer, more)

-- the capture at j, and those after it
changes_at : (old entry : Captures) (j : ℕ) → j < length old → j < length entry →
    changes (drop j old) (drop j entry)
    ≡ elim (same_span (get_or old j None) (get_or entry j None)) as (λ _. ℕ) [
      | true ↦ changes (drop (j + 1) old) (drop (j + 1) entry)
      | false ↦
          1 + changes (drop (j + 1) old) (drop (j + 1) entry)
    ]
unfolding changes
changes_at old entry j a b =
    ap (λ (xs : Captures). changes xs (drop j entry)) (drop_more old j None a)
    ∙ ap (changes (get_or old j None ∷ drop (j + 1) old)) (drop_more entry j None b)

pub changes_same : (old entry : Captures) (j : ℕ) → j < length old → j < length entry
    → same_span (get_or old j None) (get_or entry j None) ≡ true →
    changes (drop j old) (drop j entry) ≡ changes (drop (j + 1) old) (drop (j + 1) entry)
changes_same old entry j a b e =
    changes_at old entry j a b
    ∙ ap (λ (x : Bool). elim x as (λ _. ℕ) [
      | true ↦ changes (drop (j + 1) old) (drop (j + 1) entry)
      | false ↦
          1 + changes (drop (j + 1) old) (drop (j + 1) entry)
    ]) e

pub changes_other : (old entry : Captures) (j : ℕ) → j < length old → j < length entry
    → same_span (get_or old j None) (get_or entry j None) ≡ false →
    changes (drop j old) (drop j entry) ≡ 1 + changes (drop (j + 1) old) (drop (j + 1) entry)
changes_other old entry j a b e =
    changes_at old entry j a b
    ∙ ap (λ (x : Bool). elim x as (λ _. ℕ) [
      | true ↦ changes (drop (j + 1) old) (drop (j + 1) entry)
      | false ↦
          1 + changes (drop (j + 1) old) (drop (j + 1) entry)
    ]) e

-- Nothing is given back yet.

abbrev pub site_at : ℕ → ℕ → Site
site_at link node = record { node = node; link = link }

pub none_restored : (link node : ℕ) (old entry : Captures) (n : ℕ) (stack : List Entry) → length old ≤ n
    → length entry ≤ n → AreRestored (site_at link node) entry n (trail old stack) (trail old stack)
unfolding changes
none_restored link node old entry n stack a b =
    let o : drop n old ≡ [] = drop_all n old a in
    let e : drop n entry ≡ [] = drop_all n entry b in
    let none : changes (drop n old) (drop n entry) ≡ 0 = ap (λ (xs : Captures). changes xs (drop n entry)) o in
    record {
      length_kept = refl;
      left = λ j lt. refl;
      done = o ∙ sym e;
      counted = omega (arith, none);
      failing = λ c. ap (λ k. pauses k (fail c stack old)) (sym none);
      arounds = λ c l h le low. refl;
      outsides = λ c le. agrees_same c node (outside c stack old link);
      contained = λ h. h;
      later = λ c h. h;
      sound = λ c steps le part inside later a b s. s;
      spans = λ c a b. a;
    }

-- The capture at j is given back next.

module _ (link node : ℕ) (old entry caps : Captures) (j i : ℕ) (next : i ≡ j + 1) (within : j < length old)
    (there : j < length entry) (stack now : List Entry)
    (r : AreRestored (site_at link node) entry i (trail old stack) (trail caps now)) where
  abbrev value : Option Span
  value = get_or entry j None

  abbrev set_caps : Captures
  set_caps = set caps j value

  here_is : get_or caps j None ≡ get_or old j None
  here_is = r.left j (omega (arith, next))

  set_length : length set_caps ≡ length old
  set_length = length-set caps j value ∙ r.length_kept

  set_left : (k : ℕ) → k < j → get_or set_caps k None ≡ get_or old k None
  set_left k lt = get_or-set_other caps j k value None (λ e. omega (arith, e, lt)) ∙ r.left k (omega (arith, lt, next))

  set_done : drop j set_caps ≡ drop j entry
  set_done =
      drop-set caps j value (omega (arith, within, r.length_kept))
      ∙ ap (λ xs. value ∷ xs) (ap (λ k. drop k caps) (sym next) ∙ r.done ∙ ap (λ k. drop k entry) next)
      ∙ sym (drop_more entry j None there)

  set_spans : (c : Ground) → AreSpans c old → AreSpans c entry → AreSpans c set_caps
  set_spans c a b = All-set (SpanStands c) caps j value (All-get_or (SpanStands c) entry j None there b) (r.spans c a b)

  -- it is the same
  pub kept_restored : same_span (get_or old j None) value ≡ true → set_caps ≡ caps
      → AreRestored (site_at link node) entry j (trail old stack) (trail set_caps now)
  kept_restored same is =
      let count : changes (drop j old) (drop j entry) ≡ changes (drop i old) (drop i entry) =
      changes_same old entry j within there same ∙ ap (λ k. changes (drop k old) (drop k entry)) (sym next) in
      record {
        length_kept = set_length;
        left = set_left;
        done = set_done;
        counted = r.counted ∙ ap (λ k. length stack + k) (sym count);
        failing = λ c. ap (fail c now) is ∙ r.failing c ∙ ap (λ k. pauses k (fail c stack old)) (sym count);
        arounds = r.arounds;
        outsides = λ c le. subst (λ (x : Captures). Agrees c node (outside c now x link) (outside c stack old link))
            (sym is) (r.outsides c le);
        contained = r.contained;
        later = r.later;
        sound = r.sound;
        spans = set_spans;
      }

  -- it changes, and leaves an undo record
  abbrev undo : Entry
  undo = Undo (site_at link node) i (get_or caps j None)

  back_is : taken_back undo set_caps ≡ caps
  back_is =
      let at : i - 1 ≡ j = omega (arith, next) in
      ap (λ k. set set_caps k (get_or caps j None)) at ∙ set-set caps j value (get_or caps j None)
      ∙ set-get_or caps j None

  pub changed_restored : same_span (get_or old j None) value ≡ false
      → AreRestored (site_at link node) entry j (trail old stack) (trail set_caps (undo ∷ now))
  unfolding fail
  changed_restored other =
      let count : changes (drop j old) (drop j entry) ≡ suc (changes (drop i old) (drop i entry)) =
      changes_other old entry j within there other ∙ ap (λ k. 1 + changes (drop k old) (drop k entry)) (sym next)
      ∙ one_more (changes (drop i old) (drop i entry)) in
      record {
        length_kept = set_length;
        left = set_left;
        done = set_done;
        counted = omega (arith, r.counted, count);
        failing = λ c.
            ap (λ (x : Captures). pause (fail c now x)) back_is ∙ ap pause (r.failing c)
            ∙ ap (λ k. pauses k (fail c stack old)) (sym count);
        arounds = λ c l h le low. path_push c undo now l h (omega (arith, le, r.counted))
            (omega (arith, low, r.counted)) ∙ r.arounds c l h le low;
        outsides = λ c le.
            agrees_over c node (outside c (undo ∷ now) set_caps link) (outside c now caps link)
            (outside c stack old link)
            (subst (λ (x : Captures). Agrees c node (outside c (undo ∷ now) set_caps link) (outside c now x link))
            back_is (outside_push c undo now set_caps link (omega (arith, le, r.counted)) refl))
            (r.outsides c le);
        contained = λ h. (λ le. omega arith, r.contained h);
        later = λ c h. later_push c link node undo now (omega arith) (r.later c h);
        sound = λ c steps le part inside later a b s. (
          (
            omega (arith, next),
            omega (arith, within, next),
            subst (SpanStands c) (sym here_is) (All-get_or (SpanStands c) old j None within a),
            omega (arith, le, r.counted),
            part,
            r.contained inside,
            r.later c later,
          ),
          r.sound c steps le part inside later a b s,
        );
        spans = set_spans;
      }
    where
      one_more : (n : ℕ) → 1 + n ≡ suc n
      one_more n = omega arith

-- The same, by numbers of groups.

both : (a b : Bool) → (a && b) ≡ true → (a ≡ true) × (b ≡ true)
both true true e = (refl, refl)
both true false e = absurd (false≢true e)
both false b e = absurd (false≢true e)

span_of : ℕ → ℕ → Option Span
span_of from to = Some (record { from = from; to = to })

spans_same : (a b : Option Span) → same_span a b ≡ true → a ≡ b
unfolding span_of
spans_same None None e = refl
spans_same None (Some y) e = absurd (false≢true e)
spans_same (Some x) None e = absurd (false≢true e)
spans_same (Some x) (Some y) e =
    let z = both (x.from == y.from) (x.to == y.to) e in
    ap (λ k. span_of k x.to) (eqb-true x.from y.from z.0) ∙ ap (span_of y.from) (eqb-true x.to y.to z.1)

-- group i is given back, those past it are already
module _ (link node : ℕ) (old entry caps : Captures) (i : ℕ) (some : 0 < i) (same : length old ≡ length entry)
    (within : i ≤ length entry) (stack now : List Entry)
    (r : AreRestored (site_at link node) entry i (trail old stack) (trail caps now)) where
  abbrev before : Option Span
  before = capture caps i

  abbrev after : Option Span
  after = capture entry i

  next_is : i ≡ i - 1 + 1
  next_is = omega (arith, some)

  read_is : before ≡ get_or old (i - 1) None
  read_is = r.left (i - 1) (omega (arith, some))

  as_old : (b : Bool) → same_span before after ≡ b → same_span (get_or old (i - 1) None) after ≡ b
  as_old b e = ap (λ (x : Option Span). same_span x after) (sym read_is) ∙ e

  in_old : i - 1 < length old
  in_old = omega (arith, some, same, within)

  in_entry : i - 1 < length entry
  in_entry = omega (arith, some, within)

  pub step_restored : (new : Captures) (later : List Entry) → new ≡ with_capture caps i after
      → (same_span before after ≡ true → later ≡ now) →
      (same_span before after ≡ false → later ≡ Undo (site_at link node) i before ∷ now)
      → AreRestored (site_at link node) entry (i - 1) (trail old stack) (trail new later)
  step_restored new later set kept pushed =
      subst (λ (x : Captures). AreRestored (site_at link node) entry (i - 1) (trail old stack) (trail x later))
      (sym set)
      (elim (cases_Bool (same_span before after)) [
        | inl e ↦
            let is : with_capture caps i after ≡ caps = ap (with_capture caps i) (sym (spans_same before after e))
            ∙ set-get_or caps (i - 1) None in
            subst (λ (st : List Entry). AreRestored (site_at link node) entry (i - 1) (trail old stack)
            (trail (with_capture caps i after) st)) (sym (kept e))
            (kept_restored link node old entry caps (i - 1) i next_is in_old in_entry stack now r (as_old true e) is)
        | inr e ↦
            subst (λ (st : List Entry). AreRestored (site_at link node) entry (i - 1) (trail old stack)
            (trail (with_capture caps i after) st)) (sym (pushed e))
            (changed_restored link node old entry caps (i - 1) i next_is in_old in_entry stack now r (as_old false e))
      ])

  abbrev at_i : ℕ
  at_i = changes (drop i old) (drop i entry)

  next_same : same_span before after ≡ true → changes (drop (i - 1) old) (drop (i - 1) entry) ≡ at_i
  next_same e = changes_same old entry (i - 1) in_old in_entry (as_old true e)
      ∙ ap (λ k. changes (drop k old) (drop k entry)) (sym next_is)

  next_other : same_span before after ≡ false → changes (drop (i - 1) old) (drop (i - 1) entry) ≡ 1 + at_i
  next_other e = changes_other old entry (i - 1) in_old in_entry (as_old false e)
      ∙ ap (λ k. 1 + changes (drop k old) (drop k entry)) (sym next_is)

  -- the units that are held
  module _ (first spot new : Spot) (held : spot ≡ record first { units = first.units + at_i }) (limit : ℕ) where
    pub step_spot : (same_span before after ≡ true → new ≡ spot)
        → (same_span before after ≡ false → new ≡ record spot { units = spot.units + 1 }) →
        new ≡ record first { units = first.units + changes (drop (i - 1) old) (drop (i - 1) entry) }
    step_spot kept more =
        elim (cases_Bool (same_span before after)) [
          | inl e ↦ kept e ∙ held ∙ ap (λ k. record first { units = first.units + k }) (sym (next_same e))
          | inr e ↦
              let one : first.units + at_i + 1 ≡ first.units + changes (drop (i - 1) old) (drop (i - 1) entry) =
              omega (arith, next_other e) in
              more e ∙ ap (λ (x : Spot). record x { units = x.units + 1 }) held
              ∙ ap (λ k. record first { units = k }) one
        ]

    pub step_few : spot.units ≤ limit → (same_span before after ≡ true → new ≡ spot)
        → (same_span before after ≡ false → new ≡ record spot { units = spot.units + 1 }) →
        (same_span before after ≡ false → spot.units < limit) → new.units ≤ limit
    step_few few kept more room =
        elim (cases_Bool (same_span before after)) [
          | inl e ↦ omega (arith, few, ap (λ (x : Spot). x.units) (kept e))
          | inr e ↦ omega (arith, room e, ap (λ (x : Spot). x.units) (more e))
        ]

    pub stop_restored : (s : Stop) → same_span before after ≡ false → IsHeldStop s limit spot.units
        → IsReturnStop s limit (first.units + changes old entry)
    stop_restored stop.Match e h = absurd h
    stop_restored stop.NoMatch e h = absurd h
    stop_restored (stop.Verb a) e h = absurd h
    stop_restored stop.MatchLimit e h = absurd h
    stop_restored stop.Partial e h = absurd h
    stop_restored stop.Loop e h = absurd h
    stop_restored (stop.Abort n) e h = absurd h
    stop_restored stop.FrameLimit e h =
        let fewer = changes_drop (i - 1) old entry in
        omega (arith, h, fewer, next_other e, ap (λ (x : Spot). x.units) held)
    stop_restored stop.Memory e h = tt

-- no captures are taken back
back_none : (e : Entry) → taken_back e [] ≡ []
back_none (Undo at slot before) = refl
back_none _ = refl

undone_none : (es : List Entry) → undone es [] ≡ []
unfolding undone
undone_none [] = refl
undone_none (e ∷ es) = ap (undone es) (back_none e) ∙ undone_none es

pub none_undone : (es : List Entry) (caps : Captures) → length caps ≡ 0 → caps ≡ undone es caps
none_undone es [] e = sym (undone_none es)
none_undone es (x ∷ xs) e = absurd (omega (arith, e))

-- a register that holds the value keeps it
pub kept_set : (caps : Captures) (n : ℕ) (value : Option Span) → same_span (capture caps n) value ≡ true
    → caps ≡ with_capture caps n value
kept_set caps n value e = sym (ap (with_capture caps n) (sym (spans_same (capture caps n) value e))
    ∙ set-get_or caps (n - 1) None)

-- no unit is held yet
pub none_held : (old entry : Captures) (n : ℕ) (first : Spot) → length old ≤ n
    → first ≡ record first { units = first.units + changes (drop n old) (drop n entry) }
unfolding changes
none_held old entry n first a =
    let none : changes (drop n old) (drop n entry) ≡ 0 =
    ap (λ (xs : Captures). changes xs (drop n entry)) (drop_all n old a) in
    let same : first.units ≡ first.units + changes (drop n old) (drop n entry) = omega (arith, none) in
    ap (λ k. record first { units = k }) same

-- a call isn't left
module _ (limit units : ℕ) (spot old : Spot) (caps : Captures) (w : Walked) (kept : spot.last ≡ old.last) where
  pub return_stop : (s : Stop) → IsReturnStop s limit units → (limit < units → w ≡ answers FrameLimit)
      → IsStop s spot caps (told old.last w)
  return_stop stop.Match h k = absurd h
  return_stop stop.NoMatch h k = absurd h
  return_stop (stop.Verb a) h k = absurd h
  return_stop stop.MatchLimit h k = absurd h
  return_stop stop.Partial h k = absurd h
  return_stop stop.Loop h k = absurd h
  return_stop (stop.Abort n) h k = absurd h
  return_stop stop.FrameLimit h k = ap (told old.last) (k h) ∙ ap (λ (l : Met). told l (answers FrameLimit)) (sym kept)
  return_stop stop.Memory h k = tt

-- all are given back
pub all_restored : (link node : ℕ) (old entry caps : Captures) (stack now : List Entry)
    → AreRestored (site_at link node) entry 0 (trail old stack) (trail caps now) → caps ≡ entry
all_restored link node old entry caps stack now r = r.done
