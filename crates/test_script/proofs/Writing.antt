-- What the pieces of a subject line write, one after the other.
use Rattle.std.proofs.Common.{◌≡◌, ℕ, zero, suc, ◌+◌, ◌-◌, ◌*◌, ◌<◌, ◌≤◌, leb, Bool, true, false, cond, List, []}
use Rattle.std.proofs.Common.{◌∷◌, ◌++◌, length, Option, Some, None, refl, ap, sym, ◌∙◌, arith, append_assoc}
use Rattle.std.proofs.Common.{length-append}
use Rattle.std.specs.List.{repeat}
use Rattle.std.proofs.lemmas.Bool.Decides.{nat_tests}
use Rattle.token_parts.specs.Bytes.{stands}
use Rattle.test_script.specs.Subjects.{before, times, copies_of, copies, piece_at, repeated_after, repeated}
use Rattle.test_script.specs.Subjects.{greatest_subject}

pub turn_more : (n turn : ℕ) → turn < n → n - turn ≡ suc (n - (turn + 1))
turn_more n turn more = omega arith

append_nothing : (xs : List ℕ) → xs ++ [] ≡ xs
append_nothing [] = refl
append_nothing (x ∷ xs) = ap (λ ys. x ∷ ys) (append_nothing xs)

pub repeated_closed : (utf : Bool) (text old : List ℕ) (at n : ℕ) → stands text 93 at ≡ true
    → before old (repeated utf text (suc n) at) ≡ Some (old, at + 1)
repeated_closed utf text old at n closed =
    ap (λ b. before old (cond b (Some ([], at + 1)) (repeated_after (piece_at utf text at) (repeated utf text n))))
    closed ∙ ap (λ bytes. Some (bytes, at + 1)) (append_nothing old)

-- copies
pub repeat_last : (n : ℕ) (xs : List ℕ) → repeat n xs ++ xs ≡ repeat (suc n) xs
repeat_last zero xs = sym (append_nothing xs)
repeat_last (suc n) xs = append_assoc xs (repeat n xs) xs ∙ ap (λ ys. xs ++ ys) (repeat_last n xs)

abbrev no_bytes : List ℕ
no_bytes = []

pub repeat_nothing : (n : ℕ) → repeat n no_bytes ≡ no_bytes
repeat_nothing zero = refl
repeat_nothing (suc n) = repeat_nothing n

one_more : (n : ℕ) → suc n ≡ n + 1
one_more n = omega arith

pub empty_copies : (copy : List ℕ) (n : ℕ) → length copy ≡ 0 → no_bytes ≡ repeat n copy
empty_copies [] n none = sym (repeat_nothing n)
empty_copies (c ∷ copy) n none = absurd (omega arith)

pub copies_more : (old copy new : List ℕ) (n : ℕ) → new ≡ old ++ repeat n copy
    → new ++ copy ≡ old ++ repeat (n + 1) copy
copies_more old copy new n so_far =
    ap (λ bytes. bytes ++ copy) so_far ∙ append_assoc old (repeat n copy) copy
    ∙ ap (λ bytes. old ++ bytes) (repeat_last n copy ∙ ap (λ k. repeat k copy) (one_more n))

pub length-repeat : (n : ℕ) (xs : List ℕ) → length (repeat n xs) ≡ length xs * n
length-repeat zero xs = omega arith
length-repeat (suc n) xs = rw (length-append, length-repeat n xs) (omega arith)

pub copies_too_many : (old copy : List ℕ) (n : ℕ) → leb (length old + length copy * n) greatest_subject ≡ false
    → greatest_subject < length old + length (repeat n copy)
copies_too_many old copy n past = let size = length-repeat n copy in grind (arith, nat_tests, size)

-- a repetition with its number
pub copies_are : (utf : Bool) (text bytes : List ℕ) (to n after : ℕ) (whole : Option (List ℕ × ℕ))
    → Some (bytes, to) ≡ whole → Some (n, after) ≡ times text to
    → copies utf text whole ≡ Some (repeat n bytes, after)
copies_are utf text bytes to n after whole some count = ap (copies utf text) (sym some)
    ∙ ap (copies_of bytes) (sym count)

pub copies_none : (utf : Bool) (text bytes : List ℕ) (to : ℕ) (whole : Option (List ℕ × ℕ)) → Some (bytes, to) ≡ whole
    → None ≡ times text to → copies utf text whole ≡ None
copies_none utf text bytes to whole some count = ap (copies utf text) (sym some) ∙ ap (copies_of bytes) (sym count)

-- one turn of a loop over the pieces
pub next_turn : {R : Type 0} (f r : ℕ → R) (n turn : ℕ) → turn < n → ((k : ℕ) → f (suc k) ≡ r k)
    → f (n - turn) ≡ r (n - (turn + 1))
next_turn f r n turn more step = ap f (turn_more n turn more) ∙ step (n - (turn + 1))

pub no_turn : {R : Type 0} (f : ℕ → R) (n turn : ℕ) → n ≤ turn → f (n - turn) ≡ f 0
no_turn f n turn past = let e : n - turn ≡ 0 = omega arith in ap f e
