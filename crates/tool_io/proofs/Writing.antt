-- Texts that are written one after another.
use Rattle.std.proofs.Common.{◌≡◌, ℕ, ◌+◌, min, List, [], ◌++◌, length, take, Option, None, Some, Result, Ok, Err}
use Rattle.std.proofs.Common.{refl, sym, ap, subst, ◌∙◌, arith, append_assoc, append-nil}
use Rattle.std.proofs.lemmas.List.{take_all, take-append-le}
use Rattle.std.proofs.Math.Seq.{take-append-add}
use Rattle.std.proofs.KnownBytes.{Appends-nil, Appends-trans}
use Rattle.std.specs.Io.KnownBytes.{Appends}
use Rattle.pcre_io.specs.Told.{Kept, AppendsPrefix}
use Rattle.pcre_io.specs.Causes.{CountsRefusals}
use Rattle.pcre_io.specs.declared.traits.IoError.{IoError}
use Rattle.tool_io.specs.Writes.{Writes}

pub take-front : (n : ℕ) (xs ys : List ℕ) → (m : ℕ) × (take n xs ≡ take m (xs ++ ys))
take-front n xs ys = (min n (length xs), shorter n xs ∙ sym (take-append-le (min n (length xs)) xs ys (omega arith)))
  where
    shorter : (n : ℕ) (xs : List ℕ) → take n xs ≡ take (min n (length xs)) xs
    shorter n xs = grind (arith, take_all)

pub prefix-front : (a b : Option (List ℕ)) (xs ys : List ℕ) → AppendsPrefix a b xs → AppendsPrefix a b (xs ++ ys)
prefix-front None b xs ys h = tt
prefix-front (Some old) None xs ys h = h
prefix-front (Some old) (Some new) xs ys h = let f = take-front h.0 xs ys in (f.0, h.1 ∙ ap (λ l. old ++ l) f.1)

pub prefix-more : (a b c : Option (List ℕ)) (xs ys : List ℕ) → Appends a b xs → AppendsPrefix b c ys
    → AppendsPrefix a c (xs ++ ys)
prefix-more None b c xs ys h i = tt
prefix-more (Some old) None c xs ys h i = absurd h
prefix-more (Some old) (Some mid) None xs ys h i = i
prefix-more (Some old) (Some mid) (Some new) xs ys h i = (
  length xs + i.0,
  i.1 ∙ ap (λ l. l ++ take i.0 ys) h ∙ append_assoc old xs (take i.0 ys)
      ∙ ap (λ l. old ++ l) (sym (take-append-add xs ys i.0)),
)

-- Of a text a front was written, and this is left.
pub record IsLeft (total rest : List ℕ) (old new : Kept) : Type 0 where
  pub front : List ℕ
  pub parted : front ++ rest ≡ total
  pub written : Appends old.held new.held front
  pub steady : new.faults ≡ old.faults

pub left-all : (total : List ℕ) (old : Kept) → IsLeft total total old old
left-all total old = record { front = []; parted = refl; written = Appends-nil old.held; steady = refl }

-- the next text of what is left was written
pub left-more : {total rest : List ℕ} {old mid new : Kept} (text more : List ℕ) (u : Unit {0})
    → IsLeft total rest old mid → rest ≡ text ++ more → Writes text mid new (Ok u)
    → IsLeft total more old new
left-more {total} {rest} {old} {mid} {new} text more u left e w = record {
  front = left.front ++ text;
  parted = append_assoc left.front text more ∙ ap (λ l. left.front ++ l) (sym e) ∙ left.parted;
  written = Appends-trans old.held mid.held new.held left.front text left.written w.all;
  steady = w.cause ∙ left.steady;
}

-- it was refused
pub left-refused : {total rest : List ℕ} {old mid new : Kept} (text more : List ℕ) (fault : IoError)
    → IsLeft total rest old mid → rest ≡ text ++ more
    → Writes {T = Unit {0}} text mid new (Err fault) → Writes {T = Unit {0}} total old new (Err fault)
left-refused {total} {rest} {old} {mid} {new} text more fault left e w = record {
  all = tt;
  part =
      subst (AppendsPrefix old.held new.held) (ap (λ l. left.front ++ l) (sym e) ∙ left.parted)
      (prefix-more old.held mid.held new.held left.front (text ++ more) left.written
      (prefix-front mid.held new.held text more w.part));
  cause = subst (λ n. CountsRefusals {T = Unit {0}} n new.faults (Err fault)) left.steady w.cause;
}

-- nothing is left
pub left-none : {total rest : List ℕ} {old new : Kept} (u : Unit {0}) → IsLeft total rest old new → rest ≡ []
    → Writes total old new (Ok u)
left-none {total} {rest} {old} {new} u left e = record {
  all = subst (Appends old.held new.held) (sym (append-nil left.front) ∙ ap (λ l. left.front ++ l) (sym e)
      ∙ left.parted) left.written;
  part = tt;
  cause = left.steady;
}

-- an equal text was written
pub writes-same : {text other : List ℕ} {old new : Kept} {result : Result (Unit {0}) IoError} → text ≡ other
    → Writes text old new result → Writes other old new result
writes-same {text} {other} {old} {new} {result} e w = subst (λ l. Writes l old new result) e w

-- nothing was written
pub writes-none : (u : Unit {0}) (old : Kept) → Writes [] old old (Ok u)
writes-none u old = left-none u (left-all [] old) refl

-- the last text was written or refused
pub left-last : {total rest text : List ℕ} {old mid new : Kept} (result : Result (Unit {0}) IoError)
    → IsLeft total rest old mid → rest ≡ text → Writes text mid new result
    → Writes total old new result
left-last {total} {rest} {text} (Ok u) left e w = left-none u (left-more text [] u left (e ∙ sym (append-nil text)) w)
    refl
left-last {total} {rest} {text} (Err fault) left e w = left-refused text [] fault left (e ∙ sym (append-nil text)) w
