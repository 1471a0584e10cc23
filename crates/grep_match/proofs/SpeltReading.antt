-- A fixed string with its backslashes is read as its characters.
use Rattle.std.proofs.Common.{◌≡◌, ◌∙◌, ℕ, zero, suc, ◌+◌, ◌*◌, ◌<◌, ◌≤◌, Bool, true, false, ◌||◌, ◌&&◌, not, ◌==◌}
use Rattle.std.proofs.Common.{List, [], ◌∷◌, ◌++◌, length, map, flat_map, drop, nat_lt, Some, None}
use Rattle.std.proofs.Common.{Ok, slice_get, refl, sym, ap, arith, true-eqb, if◌then◌else◌}
use Rattle.std.proofs.lemmas.Bool.Decides.{nat_tests}
use Rattle.std.proofs.lemmas.Option.{slice_get_past}
use Rattle.std.specs.Char.{is_ascii_digit, is_ascii_alphabetic}
use Rattle.pat_tree.specs.declared.options.Newline.{Newline}
use Rattle.pat_tree.specs.declared.options.Options.{Options}
use Rattle.pat_tree.specs.Nested.{Nested, group, row}
use Rattle.token_parts.specs.declared.token.Token.{Token}
use Rattle.token_parts.specs.declared.token.Token.TheVariants.{End, Literal}
use Rattle.token_parts.specs.Bytes.{◌∈◌}
use Rattle.token_parts.specs.Tell.{Lexed}
use Rattle.uni_text.specs.Ascii.{is_letter, is_digit}
use Rattle.pat_lex.specs.Tokens.{plain, token_at}
use Rattle.pat_lex.specs.Escapes.{everywhere, outside, longer, escape}
use Rattle.pat_lex.proofs.LawProofs.{plain_bytes}
use Rattle.pat_grammar.specs.State.{State, Known, flags_of, next}
use Rattle.pat_grammar.specs.Groups.{missing, places_named}
use Rattle.pat_grammar.specs.Callouts.{automatic}
use Rattle.pat_grammar.specs.Parts.{alternative}
use Rattle.pat_grammar.specs.Reading.{quantified, part_then, alternatives_from, sequence_at, sequence, alternatives}
use Rattle.pat_grammar.specs.Reading.{whole, started, start, state_from, reading, Parsed, spelt, read_from}
use Rattle.pat_grammar.specs.Reading.{read_with, read}
use Rattle.grep_match.specs.PatternTexts.{escaped}
use Rattle.grep_match.specs.Spelt.{bytewise, spelling}

-- whether a byte has a backslash
abbrev is_marked : ℕ → Bool
is_marked b = nat_lt b 128 && not (is_letter b || is_digit b)

-- a byte without one is no metacharacter
unmarked : (b : ℕ) → is_marked b ≡ false → b ∈ "\\()|[.^$*+?{" ≡ false
unmarked b h = grind (arith, nat_tests)

-- a byte with one isn't a letter or a digit
differs : (b l : ℕ) → is_marked b ≡ true → is_marked l ≡ false → (b == l) ≡ false
differs b l h other = by_test (b == l) refl
  where
    by_test : (t : Bool) → (b == l) ≡ t → t ≡ false
    by_test false e = refl
    by_test true e = let same : b ≡ l = true-eqb b l (sym e) in
        let both : true ≡ false = sym h ∙ ap is_marked same ∙ other in cc

-- it has no meaning behind a backslash
no-meaning : (b : ℕ) → is_marked b ≡ true → everywhere b ≡ None
unfolding everywhere
no-meaning b h =
    rw (
      differs b 97 h refl,
      differs b 101 h refl,
      differs b 102 h refl,
      differs b 110 h refl,
      differs b 114 h refl,
      differs b 116 h refl,
      differs b 100 h refl,
      differs b 68 h refl,
      differs b 115 h refl,
      differs b 83 h refl,
      differs b 119 h refl,
      differs b 87 h refl,
      differs b 104 h refl,
      differs b 72 h refl,
      differs b 118 h refl,
      differs b 86 h refl,
      differs b 81 h refl,
      differs b 69 h refl,
    ) refl

no-meaning-out : (b : ℕ) → is_marked b ≡ true → outside b ≡ None
unfolding outside
no-meaning-out b h = grind (arith, nat_tests)

not-letter : (b : ℕ) → is_marked b ≡ true → is_ascii_alphabetic b ≡ false
not-letter b h = grind (arith, nat_tests)

not-digit : (b : ℕ) → is_marked b ≡ true → is_ascii_digit b ≡ false
not-digit b h = grind (arith, nat_tests)

no-long : (b : ℕ) → is_marked b ≡ true → (b ∈ "cox" ≡ false) × (b ∈ "0" ≡ false) × (b ∈ "p" ≡ false)
    × (b ∈ "P" ≡ false) × (b ∈ "g" ≡ false) × (b ∈ "k" ≡ false) × (b ∈ "N" ≡ false) × (b ∈ "CXLlUu" ≡ false)
no-long b h = (
  grind (arith, nat_tests),
  grind (arith, nat_tests),
  grind (arith, nat_tests),
  grind (arith, nat_tests),
  grind (arith, nat_tests),
  grind (arith, nat_tests),
  grind (arith, nat_tests),
  grind (arith, nat_tests),
)

-- how many bytes the byte has in the pattern
abbrev len : ℕ → ℕ
len b = length (escaped b)

-- Lists from a place on.

here-at : (xs : List ℕ) (p b : ℕ) (rest : List ℕ) → drop p xs ≡ b ∷ rest → slice_get xs p ≡ Some b
here-at [] zero b rest e = cc
here-at [] (suc p) b rest e = cc
here-at (x ∷ xs) zero b rest e = cc
here-at (x ∷ xs) (suc p) b rest e = here-at xs p b rest e

after-it : (xs : List ℕ) (p b : ℕ) (rest : List ℕ) → drop p xs ≡ b ∷ rest → drop (suc p) xs ≡ rest
after-it [] zero b rest e = cc
after-it [] (suc p) b rest e = cc
after-it (x ∷ xs) zero b rest e = cc
after-it (x ∷ xs) (suc p) b rest e = after-it xs p b rest e

all-passed : (xs : List ℕ) (p : ℕ) → drop p xs ≡ [] → length xs ≤ p
all-passed [] p e = omega arith
all-passed (x ∷ xs) zero e = cc
all-passed (x ∷ xs) (suc p) e = let low = all-passed xs p e in omega (arith, low)

module _ (lines : Bool) (newline : Newline) (text : List ℕ) where
  abbrev opts : Options
  opts = bytewise lines newline

  abbrev st : ℕ → State
  st p = state_from p opts

  -- Tokens.

  plain-token : (p b : ℕ) → slice_get text p ≡ Some b → is_marked b ≡ false
      → token_at text (flags_of false (st p)) p ≡ Ok (Literal b, p + 1)
  plain-token p b here h = plain_bytes text (flags_of false (st p)) p b refl refl refl here (unmarked b h) refl

  long-token : (p b : ℕ) → is_marked b ≡ true → longer text (flags_of false (st p)) b p ≡ Ok (Literal b, p + 1 + 1)
  unfolding longer
  long-token p b h =
      let no = no-long b h in
      rw (no.0, no.1, not-digit b h, no.2, no.3, no.4, no.5, no.6, no.7, not-letter b h) refl

  marked-token : (p b : ℕ) → slice_get text p ≡ Some 92 → slice_get text (p + 1) ≡ Some b → is_marked b ≡ true
      → token_at text (flags_of false (st p)) p ≡ Ok (Literal b, p + 2)
  unfolding token_at plain escape
  marked-token p b here there h =
      rw (here, token_at, plain, there, escape, no-meaning b h, no-meaning-out b h, long-token p b h)
      (ap (λ k. let l : Lexed = Ok (Literal b, k) in l) (let two : p + 1 + 1 ≡ p + 2 = omega arith in two))

  next-by : (p q : ℕ) (token : Token) → token_at text (flags_of false (st p)) p ≡ Ok (token, q)
      → next text false (st p) ≡ Ok (token, st q)
  unfolding next
  next-by p q token at = rw at refl

  next-end : (p : ℕ) → drop p text ≡ [] → next text false (st p) ≡ Ok (End, st p)
  unfolding token_at
  next-end p none = next-by p p End (rw (slice_get_past text p (all-passed text p none), token_at) refl)

  first-by : (m : Bool) (b : ℕ) (rest : List ℕ) (p : ℕ) → is_marked b ≡ m
      → drop p text ≡ (if m then 92 ∷ b ∷ [] else b ∷ []) ++ rest
      → (next text false (st p) ≡ Ok (Literal b, st (p + length (if m then 92 ∷ b ∷ [] else b ∷ []))))
      × (drop (p + length (if m then 92 ∷ b ∷ [] else b ∷ [])) text ≡ rest)
  first-by true b rest p h at =
      let one : p + 1 ≡ suc p = omega arith in
      let two : p + 2 ≡ suc (p + 1) = omega arith in
      let back : drop (p + 1) text ≡ b ∷ rest = ap (λ k. drop k text) one ∙ after-it text p 92 (b ∷ rest) at in
      let over : drop (p + 2) text ≡ rest = ap (λ k. drop k text) two ∙ after-it text (p + 1) b rest back in (
        next-by p (p + 2) (Literal b)
            (marked-token p b (here-at text p 92 (b ∷ rest) at) (here-at text (p + 1) b rest back) h),
        over,
      )
  first-by false b rest p h at =
      let one : p + 1 ≡ suc p = omega arith in
      let over : drop (p + 1) text ≡ rest = ap (λ k. drop k text) one ∙ after-it text p b rest at in
      (next-by p (p + 1) (Literal b) (plain-token p b (here-at text p b rest at) h), over)

  first-token : (b : ℕ) (bs : List ℕ) (p : ℕ) → drop p text ≡ flat_map escaped (b ∷ bs)
      → (next text false (st p) ≡ Ok (Literal b, st (p + len b))) × (drop (p + len b) text ≡ flat_map escaped bs)
  first-token b bs p at = first-by (is_marked b) b (flat_map escaped bs) p refl at

  -- Parts.

  abbrev known : Known
  known = record { names = []; calling = true }

  unquantified : (t : Nested) (bs : List ℕ) (p n : ℕ) → drop p text ≡ flat_map escaped bs
      → quantified text (suc n) t (st p) ≡ Ok (t, st p)
  unfolding quantified
  unquantified t [] p n at = rw (next-end p at) refl
  unquantified t (b ∷ bs) p n at = rw ((first-token b bs p at).0) refl

  uncalled : (bs : List ℕ) (p : ℕ) → drop p text ≡ flat_map escaped bs → automatic true text (st p) ≡ None
  unfolding automatic
  uncalled [] p at = rw (next-end p at) refl
  uncalled (b ∷ bs) p at = rw ((first-token b bs p at).0) refl

  -- where the bytes end that begin at a place
  abbrev end_of : ℕ → List ℕ → ℕ
  end_of p [] = p
  end_of p (b ∷ bs) = end_of (p + len b) bs

  ends : (bs : List ℕ) (p : ℕ) → drop p text ≡ flat_map escaped bs → drop (end_of p bs) text ≡ []
  ends [] p at = at
  ends (b ∷ bs) p at = ends bs (p + len b) (first-token b bs p at).1

  parts : (bs : List ℕ) (p n : ℕ) → drop p text ≡ flat_map escaped bs → length bs < n
      → sequence known text n (st p) ≡ Ok (map (spelt opts) bs, st (end_of p bs))
  unfolding sequence sequence_at part_then
  parts bs p zero at low = absurd (omega arith)
  parts [] p (suc n) at low = rw (uncalled [] p at, next-end p at) refl
  parts (b ∷ bs) p (suc zero) at low = absurd (omega arith)
  parts (b ∷ bs) p (suc (suc n)) at low =
      let first = first-token b bs p at in
      let rest : sequence known text (suc n) (st (p + len b)) ≡ Ok (map (spelt opts) bs, st (end_of (p + len b) bs)) =
      parts bs (p + len b) (suc n) first.1 (omega arith) in
      rw (uncalled (b ∷ bs) p at, first.0, unquantified (spelt opts b) bs (p + len b) n first.1, rest) refl

  one-branch : (bs : List ℕ) (p n : ℕ) → drop p text ≡ flat_map escaped bs → length bs + 1 < n
      → alternatives known text n (st p)
      ≡ Ok (alternative (map (spelt opts) bs) ∷ [], st (end_of p bs))
  unfolding alternatives alternatives_from
  one-branch bs p zero at low = absurd (omega arith)
  one-branch bs p (suc n) at low =
      rw (parts bs p n at (omega arith), next-end (end_of p bs) (ends bs p at)) refl

  -- no start item stands there
  unstarted : (bs : List ℕ) (n : ℕ) → text ≡ flat_map escaped bs → started text (suc n) (st 0) ≡ Ok (st 0)
  unfolding started
  unstarted [] n at = rw (next-end 0 at) refl
  unstarted (b ∷ bs) n at = rw ((first-token b bs 0 at).0) refl

shorter : (bs : List ℕ) → length bs ≤ length (flat_map escaped bs)
shorter [] = omega arith
shorter (b ∷ bs) = by_mark (is_marked b) (shorter bs)
  where
    by_mark : (m : Bool) → length bs ≤ length (flat_map escaped bs)
        → suc (length bs) ≤ length ((if m then 92 ∷ b ∷ [] else b ∷ []) ++ flat_map escaped bs)
    by_mark true rest = omega arith
    by_mark false rest = omega arith

bounded : (bs : List ℕ) → length (flat_map escaped bs) ≤ 2 * length bs
bounded [] = omega arith
bounded (b ∷ bs) = by_mark (is_marked b) (bounded bs)
  where
    by_mark : (m : Bool) → length (flat_map escaped bs) ≤ 2 * length bs
        → length ((if m then 92 ∷ b ∷ [] else b ∷ []) ++ flat_map escaped bs) ≤ 2 * suc (length bs)
    by_mark true rest = omega arith
    by_mark false rest = omega arith

module _ (lines : Bool) (newline : Newline) (bs : List ℕ) where
  abbrev pattern : List ℕ
  pattern = flat_map escaped bs

  abbrev pub read_of : Parsed
  read_of = record { pattern = spelling (bytewise lines newline) bs; names = []; places = [] }

  -- its tree, and the state behind it
  abbrev found : Nested × State
  found = (
    group None (row (alternative (map (spelt (bytewise lines newline)) bs) ∷ [])),
    st lines newline pattern (end_of lines newline pattern 0 bs),
  )

  read-whole : reading (known lines newline pattern) pattern (st lines newline pattern 0) ≡ Ok found
  unfolding reading whole
  read-whole =
      let low = shorter bs in
      rw (
        one-branch lines newline pattern bs 0 (2 * length pattern + 2) refl (omega (arith, low)),
        next-end lines newline pattern (end_of lines newline pattern 0 bs) (ends lines newline pattern bs 0 refl),
      ) refl

  read-from : read_from true pattern (st lines newline pattern 0) ≡ Ok read_of
  unfolding read_from missing places_named
  read-from = rw (read-whole, read-whole) refl

  starts : started pattern (length pattern + 1) (start (bytewise lines newline)) ≡ Ok (st lines newline pattern 0)
  starts = let one : length pattern + 1 ≡ suc (length pattern) = omega arith in
      ap (λ n. started pattern n (start (bytewise lines newline))) one
      ∙ unstarted lines newline pattern bs (length pattern) refl

pub spelt-read : (lines : Bool) (newline : Newline) (text : List ℕ) → length text ≤ 32768
    → read (bytewise lines newline) (flat_map escaped text) ≡ Ok (read_of lines newline text)
unfolding read read_with
spelt-read lines newline text short =
    let pattern = flat_map escaped text in
    let low = bounded text in
    let fits : nat_lt 65536 (length pattern) ≡ false = grind (arith, nat_tests) in
    rw (fits, starts lines newline text) (read-from lines newline text)
