-- A stack is cut to a height, and what its later records wrote is taken back.
use Rattle.std.proofs.Common.{◌≡◌, ℕ, zero, suc, ◌-◌, ◌≤◌, ◌∙◌, List, [], ◌∷◌, ◌++◌, length, All, take, drop, refl}
use Rattle.std.proofs.Common.{sym, ap, subst, inl, inr, arith}
use Rattle.std.proofs.lemmas.List.{take-append-drop}
use Rattle.std.proofs.lemmas.List.Elements.{All-cons, All-tail, All-head}
use Rattle.std.proofs.lemmas.Bool.{cases_eq}
use Rattle.frame_store.specs.Captures.{Captures}
use Rattle.frame_store.specs.Entry.{Entry}
use Rattle.frame_store.specs.Stack as stack_of
use Rattle.frame_store.specs.Undo.{taken_back, undone, HasSlot}
use Rattle.frame_store.proofs.StackLemmas.{up_to-more, up_to-all, past-more, past-all}
use Rattle.frame_store.proofs.UndoLemmas.{length-taken_back, length-undone, undone-cons, undone-nil}
use Rattle.frame_state.specs.declared.machine.Next.TheVariants.{Back}
use Rattle.frame_state.specs.declared.machine.Spot.{Spot}
use Rattle.frame_state.specs.Ground.{Ground, IsGround}
use Rattle.frame_state.specs.Machine.{conf}
use Rattle.frame_state.specs.Frames.{fail, fail_to}
use Rattle.frame_state.specs.Validity.{AreSpans, AreSound, IsValid}
use Rattle.frame_state.proofs.Frames.{spans_back, slots_sound, fail_to_here, fail_to_below, fail_to_none}

module _ (c : Ground) where
  -- what is left at a height is what is left of the lower stack
  pub fail_to_is : (stack : List Entry) (caps : Captures) (h : ℕ) → h ≤ length stack →
      fail_to c stack caps h ≡ fail c (stack_of.up_to h stack) (undone (stack_of.past h stack) caps)
  fail_to_is [] caps h le =
      fail_to_none c caps h
      ∙ ap (λ st. fail c st caps) (sym (up_to-all h [] (omega arith)))
      ∙ ap (fail c (stack_of.up_to h []))
      (sym (ap (λ es. undone es caps) (past-all h [] (omega arith)) ∙ undone-nil caps))
  fail_to_is (r ∷ below) caps h le =
      elim (cases_eq h (suc (length below))) [
        | inl here ↦
            fail_to_here c r below caps h here
            ∙ ap (λ st. fail c st caps) (sym (up_to-all h (r ∷ below) (omega (arith, here))))
            ∙ ap (fail c (stack_of.up_to h (r ∷ below)))
            (sym (ap (λ es. undone es caps) (past-all h (r ∷ below) (omega (arith, here))) ∙ undone-nil caps))
        | inr not ↦
            let low : h ≤ length below = omega (arith, le, not) in
            fail_to_below c r below caps h not
            ∙ fail_to_is below (taken_back r caps) h low
            ∙ ap (λ st. fail c st (undone (stack_of.past h below) (taken_back r caps))) (sym (up_to-more h r below low))
            ∙ ap (fail c (stack_of.up_to h (r ∷ below)))
            (sym (ap (λ es. undone es caps) (past-more h r below low) ∙ undone-cons r (stack_of.past h below) caps))
      ]

  -- what holds of all records holds of the lower ones
  sound_drop : (left slots n : ℕ) (stack : List Entry) → AreSound c left slots stack
      → AreSound c left slots (drop n stack)
  sound_drop left slots zero stack s = s
  sound_drop left slots (suc n) [] s = s
  sound_drop left slots (suc n) (r ∷ below) s = sound_drop left slots n below s.1

  spans_taken : (left slots : ℕ) (n : ℕ) (stack : List Entry) (caps : Captures) → length caps ≡ slots
      → AreSound c left slots stack → AreSpans c caps → AreSpans c (undone (take n stack) caps)
  unfolding undone
  spans_taken left slots zero stack caps len s a = a
  spans_taken left slots (suc n) [] caps len s a = a
  spans_taken left slots (suc n) (r ∷ below) caps len s a =
      let sound : AreSound c left (length caps) (r ∷ below) = subst (λ m. AreSound c left m (r ∷ below)) (sym len) s in
      spans_taken left slots n below (taken_back r caps) (length-taken_back r caps ∙ len) s.1
      (spans_back c left caps below r sound.0 a)

  module _ (ok : IsGround c) (spot : Spot) (stack : List Entry) (caps : Captures) (h : ℕ) where
    pub dropped : AreSound c spot.left (length caps) stack → AreSpans c caps → length caps ≡ c.setting.groups →
        IsValid c (conf Back spot (stack_of.up_to h stack) (undone (stack_of.past h stack) caps))
    dropped sound spans slots =
        let len : length (undone (stack_of.past h stack) caps) ≡ length caps =
        length-undone (stack_of.past h stack) caps in
        record {
          running = tt;
          records = subst (λ n. AreSound c spot.left n (stack_of.up_to h stack)) (sym len)
              (sound_drop spot.left (length caps) (length stack - h) stack sound);
          spans = spans_taken spot.left (length caps) (length stack - h) stack caps refl sound spans;
          slots = len ∙ slots;
        }

  pub past_slots : IsGround c → (left : ℕ) (caps : Captures) (stack : List Entry) (h : ℕ)
      → AreSound c left (length caps) stack → All (HasSlot caps) (stack_of.past h stack)
  past_slots ok left caps stack h s =
      all_front (stack_of.past h stack) (stack_of.up_to h stack)
      (subst (All (HasSlot caps)) (sym (take-append-drop (length stack - h) stack)) (slots_sound c left caps stack s))
    where
      all_front : (xs ys : List Entry) → All (HasSlot caps) (xs ++ ys) → All (HasSlot caps) xs
      all_front [] ys a = λ i d l. absurd (omega (arith, l))
      all_front (x ∷ xs) ys a = All-cons (HasSlot caps) x xs (All-head (HasSlot caps) x (xs ++ ys) a)
          (all_front xs ys (All-tail (HasSlot caps) x (xs ++ ys) a))
