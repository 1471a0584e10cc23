-- The subject's end is reached: what is told of it, and how the machine goes on.
use Rattle.std.proofs.Common.{◌≡◌, ℕ, ◌∙◌, Bool, true, false, ◌&&◌, ◌||◌, not, Option, Some, None, Result, Ok, Err}
use Rattle.std.proofs.Common.{IfErr, refl, sym, ap, arith}
use Rattle.std.proofs.lemmas.Bool.{false≢true}
use Rattle.std.specs.Option.{option_or}
use Rattle.pat_tree.specs.declared.options.PartialMode.{PartialMode}
use Rattle.pat_tree.specs.declared.options.PartialMode.TheVariants.{Off, Soft, Hard}
use Rattle.frame_store.specs.Captures.{Captures}
use Rattle.frame_store.specs.Stack.{Stack}
use Rattle.ordered_search.specs.Stream.{State, by_halt, is_partial, hit_end}
use Rattle.ordered_search.specs.Setting.{Setting, counts}
use Rattle.ordered_search.specs.Places.{is_off}
use Rattle.ordered_search.specs.PlaceAnswer.{Walked, with_note, last_name, has_hit, blocks}
use Rattle.ordered_search.specs.Moves.{Moves, stops, pause, noted, reaching, tread, size}
use Rattle.frame_state.specs.declared.machine.Met.{Met}
use Rattle.frame_state.specs.declared.machine.Spot.{Spot}
use Rattle.frame_state.specs.declared.machine.Stop.{Stop}
use Rattle.frame_state.specs.declared.machine.Stop.TheVariants as stop
use Rattle.frame_state.specs.Ground.{Ground}
use Rattle.frame_state.specs.Machine.{Conf, mark_of}
use Rattle.frame_state.specs.Frames.{ahead}
use Rattle.frame_state.specs.Validity.{IsValid, Advances}
use Rattle.frame_state.specs.Stops.{Told, told, tells, IsStop}
use Rattle.frame_state.specs.Room.{IsShort, IsSteady}
use Rattle.frame_state.specs.Reach.{asks, counts_from, IsNoted, IsHardStop}

pub err_more : {A E : Type 0} (P Q : E → Type 0) (r : Result A E) → ((x : E) → P x → Q x) → IfErr r P → IfErr r Q
err_more P Q (Ok x) h p = p
err_more P Q (Err e) h p = h e p

-- the hard rule ends the match, and memory isn't wanting
pub hard_steady : (c : Ground) (b : Bool) (early : ℕ) (old new : Met) (s : Stop) → IsHardStop c b early old new s
    → IsSteady s
hard_steady c b early old new stop.Partial h = tt
hard_steady c b early old new _ h = absurd h

pub steady_short : (s : Stop) (limit : ℕ) (store : Stack) → IsSteady s → IsShort s limit store
steady_short stop.Memory limit store h = absurd h
steady_short (stop.Abort n) limit store h = absurd h
steady_short _ limit store h = tt

pub hard_short : (c : Ground) (b : Bool) (early : ℕ) (old new : Met) (s : Stop) (limit : ℕ) (store : Stack)
    → IsHardStop c b early old new s → IsShort s limit store
hard_short c b early old new s limit store h = steady_short s limit store (hard_steady c b early old new s h)

pub off_is : (p : PartialMode) → is_off p ≡ true → p ≡ Off
off_is Off e = refl
off_is Soft e = absurd (false≢true e)
off_is Hard e = absurd (false≢true e)

-- What reaching comes to, by how partial matches are looked for and whether it counts.
module _ (x : Moves) where
  abbrev reached_in : PartialMode → Bool → Moves
  reached_in p k =
      elim p [
        | Off ↦ x
        | Soft ↦ elim k [ true ↦ noted hit_end x | false ↦ x ]
        | Hard ↦ elim k [ true ↦ stops (by_halt is_partial) | false ↦ x ]
      ]

  uncounted : (p : PartialMode) → reached_in p false ≡ x
  uncounted Off = refl
  uncounted Soft = refl
  uncounted Hard = refl

module _ (g : Setting) where
  reaching_in : (p : PartialMode) (k : Bool) → g.matching.«partial» ≡ p → (s : State) → counts g s ≡ k → (x : Moves) →
      reaching g true s x ≡ reached_in x p k
  unfolding reaching
  reaching_in p k mode s counted x = ap (λ m. reached_in x m (counts g s)) mode ∙ ap (reached_in x p) counted

  pub reaching_off : g.matching.«partial» ≡ Off → (b : Bool) (s : State) (x : Moves) → reaching g b s x ≡ x
  unfolding reaching
  reaching_off off false s x = refl
  reaching_off off true s x = reaching_in Off (counts g s) off s refl x

  reaching_uncounted : (b : Bool) (s : State) (x : Moves) → counts g s ≡ false → reaching g b s x ≡ x
  unfolding reaching
  reaching_uncounted false s x e = refl
  reaching_uncounted true s x e = reaching_in g.matching.«partial» false refl s e x ∙ uncounted x g.matching.«partial»

  reaching_not : (s : State) (x : Moves) → reaching g false s x ≡ x
  unfolding reaching
  reaching_not s x = refl

  -- where partial matches are not looked for, nothing asks whether the end is reached
  asked_in : (p : PartialMode) → g.matching.«partial» ≡ p → (b : Bool) (s : State) (x : Moves) →
      reaching g (not (is_off p) && b) s x ≡ reaching g b s x
  asked_in Off off b s x = reaching_not s x ∙ sym (reaching_off off b s x)
  asked_in Soft e b s x = refl
  asked_in Hard e b s x = refl

  asked : (b : Bool) (s : State) (x : Moves) → reaching g (asks g && b) s x ≡ reaching g b s x
  asked b s x = asked_in g.matching.«partial» refl b s x

  counted_from : (early : ℕ) (s : State) → s.early ≡ early → (k : Bool) → counts_from g early ≡ k → counts g s ≡ k
  counted_from early s same k e = ap (counts_from g) same ∙ e

-- A hit that is told.

or_none : (o l : Option ℕ) → option_or (option_or o None) l ≡ option_or o l
or_none None l = refl
or_none (Some n) l = refl

or_true : (b : Bool) → b || true ≡ true
or_true true = refl
or_true false = refl

telling : Walked → Option ℕ → Bool → Told
telling w o b = record { answer = w.answer; last = o; hit = b; blocks = blocks w.notes }

told_hit : (met : Met) (w : Walked) → told met (with_note hit_end w) ≡ told (record met { hit = true }) w
unfolding told telling
told_hit met w =
    ap (λ o. telling w o true) (or_none (last_name w.notes) (mark_of met.name))
    ∙ ap (telling w (option_or (last_name w.notes) (mark_of met.name))) (sym (or_true (has_hit w.notes)))

module _ (c : Ground) where
  -- nothing has to be noted
  noted_none : (b : Bool) (early : ℕ) (met : Met)
      → ((s : State) (x : Moves) → s.early ≡ early → reaching c.setting b s x ≡ x) →
      IsNoted c b early met met
  noted_none b early met h = record {
    answer = λ left s x same. ap (λ y. told met (tread c.setting left y)) (h s x same);
    longer = λ s x same. omega (arith, ap size (h s x same));
  }

  pub noted_off : c.setting.matching.«partial» ≡ Off → (b : Bool) (early : ℕ) (met : Met) → IsNoted c b early met met
  noted_off off b early met = noted_none b early met (λ s x same. reaching_off c.setting off b s x)

  pub noted_not : (b : Bool) (early : ℕ) (met : Met) → b ≡ false → IsNoted c b early met met
  noted_not b early met e =
      noted_none b early met (λ s x same. ap (λ z. reaching c.setting z s x) e ∙ reaching_not c.setting s x)

  pub noted_uncounted : (b : Bool) (early : ℕ) (met : Met) → counts_from c.setting early ≡ false
      → IsNoted c b early met met
  noted_uncounted b early met e =
      noted_none b early met
      (λ s x same. reaching_uncounted c.setting b s x (counted_from c.setting early s same false e))

  module _ (b : Bool) (is : b ≡ true) (early : ℕ) (met : Met) (counted : counts_from c.setting early ≡ true) where
    reached_as : (p : PartialMode) → c.setting.matching.«partial» ≡ p → (s : State) (x : Moves) → s.early ≡ early →
        reaching c.setting b s x ≡ reached_in x p true
    reached_as p mode s x same =
        ap (λ z. reaching c.setting z s x) is
        ∙ reaching_in c.setting p true mode s (counted_from c.setting early s same true counted) x

    pub noted_soft : c.setting.matching.«partial» ≡ Soft → IsNoted c b early met (record met { hit = true })
    unfolding tread size
    noted_soft soft = record {
      answer = λ left s x same.
          ap (λ y. told met (tread c.setting left y)) (reached_as Soft soft s x same)
          ∙ told_hit met (tread c.setting left x);
      longer = λ s x same. omega (arith, ap size (reached_as Soft soft s x same));
    }

    pub stop_hard : c.setting.matching.«partial» ≡ Hard → IsHardStop c b early met met stop.Partial
    unfolding tread
    stop_hard hard = λ left s x same. ap (λ y. told met (tread c.setting left y)) (reached_as Hard hard s x same)

  -- the same where it is asked only if partial matches are looked for
  module _ (b r : Bool) (is : r ≡ (asks c.setting && b)) (early : ℕ) (old new : Met) where
    asked_as : (s : State) (x : Moves) → reaching c.setting r s x ≡ reaching c.setting b s x
    asked_as s x = ap (λ z. reaching c.setting z s x) is ∙ asked c.setting b s x

    pub noted_asked : IsNoted c r early old new → IsNoted c b early old new
    noted_asked w = record {
      answer = λ left s x same. ap (λ y. told old (tread c.setting left y)) (sym (asked_as s x))
          ∙ w.answer left s x same;
      longer = λ s x same. let l = w.longer s x same in omega (arith, l, ap size (asked_as s x));
    }

    pub stop_asked : (s : Stop) → IsHardStop c r early old new s → IsHardStop c b early old new s
    stop_asked stop.Partial h = λ left s x same. ap (λ y. told old (tread c.setting left y)) (sym (asked_as s x))
        ∙ h left s x same
    stop_asked stop.Match h = absurd h
    stop_asked stop.NoMatch h = absurd h
    stop_asked (stop.Verb a) h = absurd h
    stop_asked stop.MatchLimit h = absurd h
    stop_asked stop.FrameLimit h = absurd h
    stop_asked stop.Loop h = absurd h
    stop_asked (stop.Abort n) h = absurd h
    stop_asked stop.Memory h = absurd h

  -- A turn that notes it, if it is so.
  pub advance_noted : (m n : Conf) (b : Bool) (early : ℕ) (s : State) (z : Moves)
      → ahead c m ≡ pause (reaching c.setting b s z) →
      s.early ≡ early → IsNoted c b early m.spot.last n.spot.last → ahead c n ≡ z → n.spot.left ≡ m.spot.left
      → IsValid c n → Advances c m n
  unfolding tread size
  advance_noted m n b early s z e at w same left v = let longer = w.longer s z at in record {
    answer =
        ap (tells c.setting m.spot) e ∙ w.answer m.spot.left s z at
        ∙ ap (λ l. told n.spot.last (tread c.setting l z)) (sym left) ∙ sym (ap (tells c.setting n.spot) same);
    shorter = omega (arith, longer, ap size e, ap size same);
    valid = v;
  }

  pub stop_noted : (m : Conf) (b : Bool) (early : ℕ) (s : State) (z : Moves)
      → ahead c m ≡ pause (reaching c.setting b s z) → s.early ≡ early →
      (spot : Spot) (caps : Captures) (x : Stop) → IsHardStop c b early m.spot.last spot.last x
      → IsStop x spot caps (tells c.setting m.spot (ahead c m))
  unfolding tread
  stop_noted m b early s z e at spot caps stop.Partial h = ap (tells c.setting m.spot) e ∙ h m.spot.left s z at
  stop_noted m b early s z e at spot caps stop.Match h = absurd h
  stop_noted m b early s z e at spot caps stop.NoMatch h = absurd h
  stop_noted m b early s z e at spot caps (stop.Verb a) h = absurd h
  stop_noted m b early s z e at spot caps stop.MatchLimit h = absurd h
  stop_noted m b early s z e at spot caps stop.FrameLimit h = absurd h
  stop_noted m b early s z e at spot caps stop.Loop h = absurd h
  stop_noted m b early s z e at spot caps (stop.Abort n) h = absurd h
  stop_noted m b early s z e at spot caps stop.Memory h = absurd h
