-- What is written to both sinks, one text after another.
use Rattle.std.proofs.Common.{◌≡◌, ℕ, List, [], ◌++◌, length, Option, None, Some, Ok, Err, refl, sym, ap, subst, ◌∙◌}
use Rattle.std.proofs.Common.{inl, inr, ⊎_elim, append-nil}
use Rattle.std.proofs.Math.Seq.{take-append_seam}
use Rattle.std.proofs.KnownBytes.{Appends-nil, Appends-trans}
use Rattle.std.specs.Io.KnownBytes.{Appends}
use Rattle.pcre_io.specs.Told.{Kept, AppendsPrefix}
use Rattle.pcre_io.specs.Causes.{Rose, CountsRefusals}
use Rattle.pcre_io.specs.declared.traits.IoError.{IoError}
use Rattle.pcre_io.specs.declared.traits.IoError.TheVariants.{Failed, Memory}
use Rattle.tool_io.specs.Printed.{Printed, printed}
use Rattle.tool_io.specs.Writes.{Writes, WritesAll}
use Rattle.tool_io.specs.Prints.{Wrote, Breaks}
use Rattle.tool_io.proofs.Writing.{prefix-more}

-- A whole text is a part of each text that begins with it.
prefix-all : (a b : Option (List ℕ)) (xs ys : List ℕ) → Appends a b xs → AppendsPrefix a b (xs ++ ys)
prefix-all None b xs ys h = tt
prefix-all (Some old) None xs ys h = h
prefix-all (Some old) (Some new) xs ys h = (length xs, h ∙ ap (λ l. old ++ l) (sym (take-append_seam xs ys)))

pub prefix-of : (a b : Option (List ℕ)) (xs : List ℕ) → Appends a b xs → AppendsPrefix a b xs
prefix-of a b xs h = subst (AppendsPrefix a b) (append-nil xs) (prefix-all a b xs [] h)

-- nothing is a part of each text
pub prefix-none : (a : Option (List ℕ)) (xs : List ℕ) → AppendsPrefix a a xs
prefix-none a xs = prefix-all a a [] xs (Appends-nil a)

-- a text that was written without a refusal
pub wrote-of : {T : Type 0} (text : List ℕ) (old new : Kept) (u : T) → Writes {T = T} text old new (Ok u)
    → WritesAll text old new
wrote-of text old new u w = record { all = w.all; steady = w.cause }

-- Nothing was written.
pub wrote-none : (p : Printed) → Wrote [] [] p p
wrote-none p = record { out = Appends-nil p.out.held; err = Appends-nil p.err.held; steady = (refl, refl) }

pub breaks-none : (out_text err_text : List ℕ) (p : Printed) (is_refused : Type 0) → (is_refused → ⊥)
    → Breaks out_text err_text p p is_refused
breaks-none out_text err_text p is_refused other = record {
  out = prefix-none p.out.held out_text;
  err = prefix-none p.err.held err_text;
  cause = λ is. absurd (other is);
  steady = λ _. (refl, refl);
}

-- Texts were written after others.
module _ {old mid new : Printed} (out_text err_text out_more err_more : List ℕ)
    (first : Wrote out_text err_text old mid) where
  pub wrote-more : Wrote out_more err_more mid new → Wrote (out_text ++ out_more) (err_text ++ err_more) old new
  wrote-more next = record {
    out = Appends-trans old.out.held mid.out.held new.out.held out_text out_more first.out next.out;
    err = Appends-trans old.err.held mid.err.held new.err.held err_text err_more first.err next.err;
    steady = (next.steady.0 ∙ first.steady.0, next.steady.1 ∙ first.steady.1);
  }

  pub wrote-breaks : (is_refused : Type 0) → Breaks out_more err_more mid new is_refused
      → Breaks (out_text ++ out_more) (err_text ++ err_more) old new is_refused
  wrote-breaks is_refused next = record {
    out = prefix-more old.out.held mid.out.held new.out.held out_text out_more first.out next.out;
    err = prefix-more old.err.held mid.err.held new.err.held err_text err_more first.err next.err;
    cause = λ is. ⊎_elim
        (λ (rose : Rose mid.out.faults new.out.faults). inl (subst (λ n. Rose n new.out.faults) first.steady.0 rose))
        (λ (rose : Rose mid.err.faults new.err.faults). inr (subst (λ n. Rose n new.err.faults) first.steady.1 rose))
        (next.cause is);
    steady = λ other. (let same = next.steady other in (same.0 ∙ first.steady.0, same.1 ∙ first.steady.1));
  }

-- whether a write was refused is told by its fault
abbrev pub IsToldBy : IoError → Type 0 → Type 0
IsToldBy fault is_refused = (is_refused → fault ≡ Failed) × ((is_refused → ⊥) → fault ≡ Memory)

-- A text was written to the output alone.
pub wrote-out : (text : List ℕ) (old new err : Kept) (u : Unit {0}) → Writes text old new (Ok u)
    → Wrote text [] (printed old err) (printed new err)
wrote-out text old new err u w = record { out = w.all; err = Appends-nil err.held; steady = (w.cause, refl) }

pub breaks-out : (text err_text : List ℕ) (old new err : Kept) (fault : IoError) (is_refused : Type 0)
    → IsToldBy fault is_refused
    → Writes {T = Unit {0}} text old new (Err fault) → Breaks text err_text (printed old err) (printed new err)
    is_refused
breaks-out text err_text old new err fault is_refused told w = record {
  out = w.part;
  err = prefix-none err.held err_text;
  cause = λ is. inl (subst (λ e. CountsRefusals {T = Unit {0}} old.faults new.faults (Err e)) (told.0 is) w.cause);
  steady = λ other. (
    subst (λ e. CountsRefusals {T = Unit {0}} old.faults new.faults (Err e)) (told.1 other) w.cause,
    refl,
  );
}

-- To the messages alone.
pub wrote-err : (text : List ℕ) (out old new : Kept) (u : Unit {0}) → Writes text old new (Ok u)
    → Wrote [] text (printed out old) (printed out new)
wrote-err text out old new u w = record { out = Appends-nil out.held; err = w.all; steady = (refl, w.cause) }

pub breaks-err : (out_text text : List ℕ) (out old new : Kept) (fault : IoError) (is_refused : Type 0)
    → IsToldBy fault is_refused
    → Writes {T = Unit {0}} text old new (Err fault) → Breaks out_text text (printed out old) (printed out new)
    is_refused
breaks-err out_text text out old new fault is_refused told w = record {
  out = prefix-none out.held out_text;
  err = w.part;
  cause = λ is. inr (subst (λ e. CountsRefusals {T = Unit {0}} old.faults new.faults (Err e)) (told.0 is) w.cause);
  steady = λ other. (
    refl,
    subst (λ e. CountsRefusals {T = Unit {0}} old.faults new.faults (Err e)) (told.1 other)
        w.cause,
  );
}
