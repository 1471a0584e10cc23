-- Texts that are written one after another by calls with results of any type.
use Rattle.std.proofs.Common.{◌≡◌, ◌∙◌, ℕ, List, [], ◌++◌, Result, Ok, Err, refl, subst}
use Rattle.std.proofs.KnownBytes.{Appends-nil, Appends-trans}
use Rattle.pcre_io.specs.Told.{Kept}
use Rattle.pcre_io.specs.Causes.{CountsRefusals}
use Rattle.pcre_io.specs.declared.traits.IoError.{IoError}
use Rattle.pcre_io.specs.declared.traits.IoError.TheVariants as io
use Rattle.tool_io.specs.Writes.{Writes}
use Rattle.tool_io.proofs.Printing.{prefix-of, prefix-none}
use Rattle.tool_io.proofs.Writing.{prefix-front, prefix-more}

-- a refusal counts the same for a result of another type
counts-as : (A B : Type 0) (before now : ℕ) (e : IoError) → CountsRefusals {T = A} before now (Err e)
    → CountsRefusals {T = B} before now (Err e)
counts-as A B before now io.Failed rose = rose
counts-as A B before now io.Memory same = same

module _ {A B : Type 0} where
  -- another text follows one that was written
  pub writes-then : (xs ys : List ℕ) (old mid new : Kept) (a : A) (result : Result B IoError)
      → Writes xs old mid (Ok a) → Writes ys mid new result → Writes (xs ++ ys) old new result
  writes-then xs ys old mid new a (Ok b) w v = record {
    all = Appends-trans old.held mid.held new.held xs ys w.all v.all;
    part = tt;
    cause = v.cause ∙ w.cause;
  }
  writes-then xs ys old mid new a (Err e) w v = record {
    all = tt;
    part = prefix-more old.held mid.held new.held xs ys w.all v.part;
    cause = subst (λ n. CountsRefusals {T = B} n new.faults (Err e)) w.cause v.cause;
  }

  -- no other text follows one that was refused
  pub writes-first : (xs ys : List ℕ) (old new : Kept) (e : IoError) → Writes {T = A} xs old new (Err e)
      → Writes {T = B} (xs ++ ys) old new (Err e)
  writes-first xs ys old new e w = record {
    all = tt;
    part = prefix-front old.held new.held xs ys w.part;
    cause = counts-as A B old.faults new.faults e w.cause;
  }

  -- memory lacked for another text
  pub writes-lacks : (xs ys : List ℕ) (old new : Kept) (a : A) → Writes xs old new (Ok a)
      → Writes {T = B} (xs ++ ys) old new (Err io.Memory)
  writes-lacks xs ys old new a w = record {
    all = tt;
    part = prefix-front old.held new.held xs ys (prefix-of old.held new.held xs w.all);
    cause = w.cause;
  }

  -- a result of another type tells the same
  pub writes-as : {text : List ℕ} {old new : Kept} (a : A) (b : B) → Writes text old new (Ok a)
      → Writes text old new (Ok b)
  writes-as a b w = record { all = w.all; part = tt; cause = w.cause }

  pub refused-as : {text : List ℕ} {old new : Kept} (e : IoError) → Writes {T = A} text old new (Err e)
      → Writes {T = B} text old new (Err e)
  refused-as {text} {old} {new} e w = record {
    all = tt;
    part = w.part;
    cause = counts-as A B old.faults new.faults e w.cause;
  }

module _ {A : Type 0} where
  -- an equal text was written
  pub writes-equal : {text other : List ℕ} {old new : Kept} {result : Result A IoError} → text ≡ other
      → Writes text old new result → Writes other old new result
  writes-equal {text} {other} {old} {new} {result} e w = subst (λ l. Writes l old new result) e w

  -- nothing was written
  pub writes-nothing : (old : Kept) (a : A) → Writes {T = A} [] old old (Ok a)
  writes-nothing old a = record { all = Appends-nil old.held; part = tt; cause = refl }

  -- memory lacked before anything was written
  pub lacks-first : (text : List ℕ) (old : Kept) → Writes {T = A} text old old (Err io.Memory)
  lacks-first text old = record { all = tt; part = prefix-none old.held text; cause = refl }
