-- The bytes that stand for themselves.
use Rattle.std.proofs.Common.{◌≡◌, ℕ, ◌+◌, ◌<◌, Bool, true, false, ◌||◌, ◌&&◌, ◌==◌, List, [], ◌∷◌, zero, suc, arith}
use Rattle.std.proofs.Common.{length, nat_le, Some, Ok, slice_get, get_or, refl, ap}
use Rattle.token_parts.specs.declared.token.Token.TheVariants.{Literal}
use Rattle.token_parts.specs.Tell.{Lexed}
use Rattle.pat_lex.specs.Characters.{literal}
use Rattle.pat_lex.specs.Classes.{in_class}
use Rattle.pat_lex.proofs.CharacterLemmas.{alone, wide_is}
use Rattle.pat_lex.specs.Tokens.{quoted, rest, plain, token_at}
use Rattle.pat_lex.specs.Laws.{QuotedBytes, PlainBytes, ClassBytes, LiteralsAreCharacters}

neither : (a b : Bool) → (a || b) ≡ false → (a ≡ false) × (b ≡ false)
neither true b none = cc
neither false b none = (refl, none)

stands : (text : List ℕ) (utf : Bool) (c at : ℕ) → (utf && nat_le 128 c) ≡ false
    → literal text utf c at ≡ Ok (Literal c, at + 1)
stands text utf c at low = ap (λ (r : ℕ × ℕ). let l : Lexed = Ok (Literal r.0, r.1) in l) (alone text utf c at low)

found : (text : List ℕ) (i c : ℕ) → slice_get text i ≡ Some c → (i < length text) × (get_or text i 0 ≡ c)
found [] i c e = cc
found (x ∷ xs) zero c e = (omega arith, cc)
found (x ∷ xs) (suc i) c e = let later = found xs i c e in (omega (arith, later.0), later.1)

pub quoted_bytes : QuotedBytes
unfolding token_at quoted
quoted_bytes text flags at c quoting here other low =
    rw (here, token_at, quoting, other, quoted) (stands text flags.utf c at low)

pub class_bytes : ClassBytes
unfolding token_at in_class
class_bytes text flags at c quoting inside more here other low =
    let a = neither (c == 0x5D) (c == 0x2D || (c == 0x5B || c == 0x5C)) other in
    let b = neither (c == 0x2D) (c == 0x5B || c == 0x5C) a.1 in
    let d = neither (c == 0x5B) (c == 0x5C) b.1 in
    rw (here, token_at, quoting, inside, a.0, in_class, b.0, d.0, d.1, more) (stands text flags.utf c at low)

pub plain_bytes : PlainBytes
unfolding token_at plain rest
plain_bytes text flags at c quoting inside ignored here other low =
    let n0 = neither (c == 92)
    (c == 40 || (c == 41
    || (c == 124 || (c == 91
    || (c == 46 || (c == 94 || (c == 36 || (c == 42 || (c == 43 || (c == 63 || c == 123)))))))))) other in
    let n1 = neither (c == 40)
    (c == 41 || (c == 124
    || (c == 91 || (c == 46 || (c == 94 || (c == 36 || (c == 42 || (c == 43 || (c == 63 || c == 123)))))))))
    n0.1 in
    let n2 = neither (c == 41)
    (c == 124 || (c == 91
    || (c == 46 || (c == 94 || (c == 36 || (c == 42 || (c == 43 || (c == 63 || c == 123)))))))) n1.1 in
    let n3 = neither (c == 124)
    (c == 91 || (c == 46 || (c == 94 || (c == 36 || (c == 42 || (c == 43 || (c == 63 || c == 123))))))) n2.1 in
    let n4 = neither (c == 91) (c == 46 || (c == 94 || (c == 36 || (c == 42 || (c == 43 || (c == 63 || c == 123))))))
    n3.1 in
    let n5 = neither (c == 46) (c == 94 || (c == 36 || (c == 42 || (c == 43 || (c == 63 || c == 123))))) n4.1 in
    let n6 = neither (c == 94) (c == 36 || (c == 42 || (c == 43 || (c == 63 || c == 123)))) n5.1 in
    let n7 = neither (c == 36) (c == 42 || (c == 43 || (c == 63 || c == 123))) n6.1 in
    let n8 = neither (c == 42) (c == 43 || (c == 63 || c == 123)) n7.1 in
    let n9 = neither (c == 43) (c == 63 || c == 123) n8.1 in
    let n10 = neither (c == 63) (c == 123) n9.1 in
    rw (
      here,
      token_at,
      quoting,
      inside,
      n0.0,
      plain,
      n1.0,
      n2.0,
      n3.0,
      n4.0,
      n5.0,
      n6.0,
      n7.0,
      n8.0,
      rest,
      n9.0,
      n10.0,
      n10.1,
      ignored,
    ) (stands text flags.utf c at low)

pub literals_are_characters : LiteralsAreCharacters
literals_are_characters text at c u place here = let at_c = found text at c here in
    wide_is text at c u place at_c.0 at_c.1
