-- Runs of bytes, a byte at a time.
use Rattle.std.proofs.Common.{◌≡◌, ℕ, suc, ◌+◌, ◌<◌, ◌≤◌, true, false, not, cond, List, [], ◌∷◌, length, drop}
use Rattle.std.proofs.Common.{drop_of_length-le, get_or, Bool, Option, ap, sym, ◌∙◌, refl, arith, drop-cons}
use Rattle.std.specs.Prelude.{nat_eq, codes}
use Rattle.std.specs.List.{starts_with}
use Rattle.token_parts.proofs.Runs.{run_end_yes, run_end_no, run_end_all}
use Rattle.subst_plan.specs.declared.pieces.Inner.{Inner}
use Rattle.subst_plan.specs.Reading.{is_special, plain_end, quoted_len, quote_end}

pub plain_yes : (text : List ℕ) (extended : Bool) (inner : Option Inner) (i : ℕ) → i < length text
    → is_special extended inner (get_or text i 0) ≡ false
    → plain_end text extended inner i ≡ plain_end text extended inner (i + 1)
plain_yes text extended inner i within plain = run_end_yes text (λ c. not (is_special extended inner c)) i within
    (ap not plain)

pub plain_no : (text : List ℕ) (extended : Bool) (inner : Option Inner) (i : ℕ) → i < length text
    → is_special extended inner (get_or text i 0) ≡ true → plain_end text extended inner i ≡ i
plain_no text extended inner i within special = run_end_no text (λ c. not (is_special extended inner c)) i within
    (ap not special)

pub plain_all : (text : List ℕ) (extended : Bool) (inner : Option Inner) (i : ℕ) → length text ≤ i
    → plain_end text extended inner i ≡ i
plain_all text extended inner i past = run_end_all text (λ c. not (is_special extended inner c)) i past

abbrev ending : List ℕ
ending = codes "\\E"

none_quoted : (xs : List ℕ) → starts_with nat_eq xs ending ≡ true → quoted_len xs ≡ 0
none_quoted [] here = refl
none_quoted (x ∷ xs) here = ap (λ b. cond b 0 (suc (quoted_len xs))) here

one_quoted : (xs rest : List ℕ) (x : ℕ) → xs ≡ x ∷ rest → starts_with nat_eq xs ending ≡ false
    → quoted_len xs ≡ suc (quoted_len rest)
one_quoted xs rest x is other =
    ap quoted_len is ∙ ap (λ b. cond b 0 (suc (quoted_len rest)))
    (ap (λ ys. starts_with nat_eq ys ending) (sym is) ∙ other)

pub quote_here : (text : List ℕ) (i : ℕ) → starts_with nat_eq (drop i text) ending ≡ true → quote_end text i ≡ i
unfolding quote_end
quote_here text i here = let none = none_quoted (drop i text) here in omega (arith, none)

pub quote_later : (text : List ℕ) (i : ℕ) → i < length text → starts_with nat_eq (drop i text) ending ≡ false
    → quote_end text i ≡ quote_end text (i + 1)
unfolding quote_end
quote_later text i within other =
    let one : suc i ≡ i + 1 = omega arith in
    let is = drop-cons text i 0 within ∙ ap (λ k. get_or text i 0 ∷ drop k text) one in
    let more = one_quoted (drop i text) (drop (i + 1) text) (get_or text i 0) is other in
    omega (arith, more)

pub quote_all : (text : List ℕ) (i : ℕ) → length text ≤ i → quote_end text i ≡ i
unfolding quote_end
quote_all text i past = let none = ap quoted_len (drop_of_length-le text past) in omega (arith, none)
