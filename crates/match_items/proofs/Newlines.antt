-- Newlines at the end of the bytes, and in a part of them.
use Rattle.std.proofs.Common.{Bool, true, false, ◌⊎◌, ◌&&◌, ◌==◌, ◌≡◌, ℕ, ◌+◌, ◌<◌, ◌≤◌, List, [], ◌∷◌, length, take}
use Rattle.std.proofs.Common.{get_or, nat_lt, refl, sym, ap, ◌∙◌, arith, length-take, inl, inr, min, subst, take_all}
use Rattle.std.proofs.Math.Bool.{and-false}
use Rattle.std.proofs.lemmas.Bool.Decides.{nat_tests}
use Rattle.std.proofs.lemmas.Bool.{cases_Bool, cases_lt, and_parts, eqb-true}
use Rattle.std.proofs.lemmas.List.{get_or-take}
use Rattle.byte_lanes.specs.Newlines.{newline_len, stands}
use Rattle.byte_lanes.specs.Places.{IsLeast}
use Rattle.byte_lanes.specs.declared.line_end.EndKind.{EndKind}
use Rattle.byte_lanes.specs.declared.line_end.EndKind.TheVariants as kind
use Rattle.pat_tree.specs.declared.options.Newline.{Newline}
use Rattle.pat_tree.specs.declared.options.Newline.TheVariants as newline
use Rattle.pat_tree.specs.declared.options.Bsr.{Bsr}
use Rattle.pat_tree.specs.declared.options.Bsr.TheVariants as bsr
use Rattle.pat_tree.specs.Newlines.{end_kind, break_kind}
use Rattle.match_items.specs.Scene.{is_crlf}

-- no text stands past the end
stands_past : (b : ℕ) (text bytes : List ℕ) (p : ℕ) → length bytes ≤ p → stands (b ∷ text) bytes p ≡ false
unfolding stands
stands_past b text bytes p h =
    let past : nat_lt p (length bytes) ≡ false = grind (arith, nat_tests) in
    rw past refl

-- nor one of two bytes at the last place
stands_last : (a b : ℕ) (bytes : List ℕ) (p : ℕ) → length bytes ≤ p + 1 → stands (a ∷ b ∷ []) bytes p ≡ false
unfolding stands
stands_last a b bytes p h =
    let past : nat_lt (p + 1) (length bytes) ≡ false = grind (arith, nat_tests) in
    rw past (rw and-false (and-false (nat_lt p (length bytes))))

stands_here : (b : ℕ) (bytes : List ℕ) (p : ℕ) → p < length bytes → (get_or bytes p 0 == b) ≡ true
    → stands (b ∷ []) bytes p ≡ true
unfolding stands
stands_here b bytes p h e =
    let inside : nat_lt p (length bytes) ≡ true = grind (arith, nat_tests) in
    rw (inside, e) refl

-- no newline begins at the end
pub newline_past : (k : EndKind) (bytes : List ℕ) (p : ℕ) → length bytes ≤ p → newline_len k bytes p ≡ 0
newline_past kind.Cr bytes p h = simp (stands_past)
newline_past kind.Lf bytes p h = simp (stands_past)
newline_past kind.CrLf bytes p h = simp (stands_past)
newline_past kind.AnyCrLf bytes p h = simp (stands_past)
newline_past kind.Any bytes p h = simp (stands_past)
newline_past kind.AnyUtf bytes p h = simp (stands_past)
newline_past kind.Nul bytes p h = simp (stands_past)

-- a byte from 14 to 127 begins none

stands_other : (b : ℕ) (text bytes : List ℕ) (p : ℕ) → (get_or bytes p 0 == b) ≡ false
    → stands (b ∷ text) bytes p ≡ false
unfolding stands
stands_other b text bytes p e = rw e (and-false (nat_lt p (length bytes)))

other_byte : (b c : ℕ) → 13 < b → b < 128 → ((c < 14) ⊎ (127 < c)) → (b == c) ≡ false
other_byte b c low high other = grind (arith, nat_tests)

pub newline_other : (k : EndKind) (bytes : List ℕ) (p : ℕ) → 13 < get_or bytes p 0 → get_or bytes p 0 < 128
    → newline_len k bytes p ≡ 0
newline_other k bytes p low high = by_kind k
    (λ c. other_byte (get_or bytes p 0) c low high)
  where
    by_kind : (k : EndKind) → ((c : ℕ) → ((c < 14) ⊎ (127 < c)) → (get_or bytes p 0 == c) ≡ false)
        → newline_len k bytes p ≡ 0
    by_kind k other =
        let nul : (text : List ℕ) → stands (0 ∷ text) bytes p ≡ false =
        λ text. stands_other 0 text bytes p (other 0 (inl (omega arith))) in
        let lf : (text : List ℕ) → stands (10 ∷ text) bytes p ≡ false =
        λ text. stands_other 10 text bytes p (other 10 (inl (omega arith))) in
        let vt : (text : List ℕ) → stands (11 ∷ text) bytes p ≡ false =
        λ text. stands_other 11 text bytes p (other 11 (inl (omega arith))) in
        let ff : (text : List ℕ) → stands (12 ∷ text) bytes p ≡ false =
        λ text. stands_other 12 text bytes p (other 12 (inl (omega arith))) in
        let cr : (text : List ℕ) → stands (13 ∷ text) bytes p ≡ false =
        λ text. stands_other 13 text bytes p (other 13 (inl (omega arith))) in
        let next_line : (text : List ℕ) → stands (133 ∷ text) bytes p ≡ false =
        λ text. stands_other 133 text bytes p (other 133 (inr (omega arith))) in
        let two : (text : List ℕ) → stands (194 ∷ text) bytes p ≡ false =
        λ text. stands_other 194 text bytes p (other 194 (inr (omega arith))) in
        let three : (text : List ℕ) → stands (226 ∷ text) bytes p ≡ false =
        λ text. stands_other 226 text bytes p (other 226 (inr (omega arith))) in
        each k nul lf vt ff cr next_line two three
      where
        each : (k : EndKind) → ((text : List ℕ) → stands (0 ∷ text) bytes p ≡ false)
            → ((text : List ℕ) → stands (10 ∷ text) bytes p ≡ false)
            → ((text : List ℕ) → stands (11 ∷ text) bytes p ≡ false)
            → ((text : List ℕ) → stands (12 ∷ text) bytes p ≡ false)
            → ((text : List ℕ) → stands (13 ∷ text) bytes p ≡ false)
            → ((text : List ℕ) → stands (133 ∷ text) bytes p ≡ false)
            → ((text : List ℕ) → stands (194 ∷ text) bytes p ≡ false)
            → ((text : List ℕ) → stands (226 ∷ text) bytes p ≡ false) → newline_len k bytes p ≡ 0
        each kind.Cr nul lf vt ff cr next_line two three = simp cr
        each kind.Lf nul lf vt ff cr next_line two three = simp lf
        each kind.CrLf nul lf vt ff cr next_line two three = simp cr
        each kind.AnyCrLf nul lf vt ff cr next_line two three = simp (cr, lf)
        each kind.Any nul lf vt ff cr next_line two three = simp (cr, lf, vt, ff, next_line)
        each kind.AnyUtf nul lf vt ff cr next_line two three = simp (cr, lf, vt, ff, two, three)
        each kind.Nul nul lf vt ff cr next_line two three = simp nul

-- a last CR is a newline of `\R`
pub break_at_cr : (b : Bsr) (utf : Bool) (bytes : List ℕ) (p : ℕ) → newline_len (break_kind b utf) bytes p ≡ 0
    → ((p + 1 == length bytes) && (get_or bytes p 0 == 13)) ≡ false
break_at_cr b utf bytes p h = elim (cases_Bool ((p + 1 == length bytes) && (get_or bytes p 0 == 13))) [
  | inr e ↦ e
  | inl e ↦ (
      let parts = and_parts _ _ e in
      let last : p + 1 ≡ length bytes = eqb-true _ _ parts.0 in
      let here : stands (13 ∷ []) bytes p ≡ true = stands_here 13 bytes p (omega arith) parts.1 in
      absurd (cr_counts b utf bytes p here (stands_last 13 10 bytes p (omega arith)) h)
      )
]
  where
    cr_counts : (b : Bsr) (utf : Bool) (bytes : List ℕ) (p : ℕ) → stands (13 ∷ []) bytes p ≡ true
        → stands (13 ∷ 10 ∷ []) bytes p ≡ false → newline_len (break_kind b utf) bytes p ≡ 0 → ⊥
    cr_counts bsr.AnyCrLf utf bytes p here two h = let n = rw (here, two) at h in absurd (omega arith)
    cr_counts bsr.Unicode false bytes p here two h = let n = rw (here, two) at h in absurd (omega arith)
    cr_counts bsr.Unicode true bytes p here two h = let n = rw (here, two) at h in absurd (omega arith)

-- where the last byte may be a half of a newline, no newline begins
pub no_newline_at_half : (n : Newline) (utf : Bool) (bytes : List ℕ) (p : ℕ)
    → (is_crlf n && ((p + 1 == length bytes) && (get_or bytes p 0 == 13))) ≡ true
    → newline_len (end_kind n utf) bytes p ≡ 0
no_newline_at_half newline.CrLf utf bytes p h =
    let last : length bytes ≤ p + 1 = grind (arith, nat_tests) in
    rw (stands_last 13 10 bytes p last) refl
no_newline_at_half newline.Cr utf bytes p h = grind arith
no_newline_at_half newline.Lf utf bytes p h = grind arith
no_newline_at_half newline.AnyCrLf utf bytes p h = grind arith
no_newline_at_half newline.Any utf bytes p h = grind arith
no_newline_at_half newline.Nul utf bytes p h = grind arith

-- In the first n bytes stands what stands in all, where two bytes are among them.

stands_one_in : (b : ℕ) (bytes : List ℕ) (n p : ℕ) → p < n → n ≤ length bytes
    → stands (b ∷ []) (take n bytes) p ≡ stands (b ∷ []) bytes p
unfolding stands
stands_one_in b bytes n p h l =
    let size : length (take n bytes) ≡ n = omega (arith, length-take n bytes) in
    let short : nat_lt p n ≡ true = grind (arith, nat_tests) in
    let long : nat_lt p (length bytes) ≡ true = grind (arith, nat_tests) in
    rw (size, get_or-take n bytes p 0 h, short, long) refl

stands_two_in : (a b : ℕ) (bytes : List ℕ) (n p : ℕ) → p + 1 < n → n ≤ length bytes
    → stands (a ∷ b ∷ []) (take n bytes) p ≡ stands (a ∷ b ∷ []) bytes p
unfolding stands
stands_two_in a b bytes n p h l =
    let below : p < n = omega arith in
    let size : length (take n bytes) ≡ n = omega (arith, length-take n bytes) in
    let short : nat_lt p n ≡ true = grind (arith, nat_tests) in
    let long : nat_lt p (length bytes) ≡ true = grind (arith, nat_tests) in
    let short_next : nat_lt (p + 1) n ≡ true = grind (arith, nat_tests) in
    let long_next : nat_lt (p + 1) (length bytes) ≡ true = grind (arith, nat_tests) in
    rw (size, get_or-take n bytes p 0 below, get_or-take n bytes (p + 1) 0 h, short, long, short_next, long_next) refl

-- outside UTF a newline has two bytes at most
pub newline_in : (n : Newline) (bytes : List ℕ) (m p : ℕ) → p + 1 < m → m ≤ length bytes
    → newline_len (end_kind n false) (take m bytes) p ≡ newline_len (end_kind n false) bytes p
newline_in n bytes m p h l = cases n (λ b. stands_one_in b bytes m p (omega arith) l)
    (λ a b. stands_two_in a b bytes m p h l)
  where
    cases : (n : Newline) → ((b : ℕ) → stands (b ∷ []) (take m bytes) p ≡ stands (b ∷ []) bytes p)
        → ((a b : ℕ) → stands (a ∷ b ∷ []) (take m bytes) p ≡ stands (a ∷ b ∷ []) bytes p)
        → newline_len (end_kind n false) (take m bytes) p ≡ newline_len (end_kind n false) bytes p
    cases newline.Cr one two = simp one
    cases newline.Lf one two = simp one
    cases newline.CrLf one two = simp two
    cases newline.AnyCrLf one two = simp (one, two)
    cases newline.Any one two = simp (one, two)
    cases newline.Nul one two = simp one

-- The first newline of the bytes up to one past a limit ends the characters before the limit at which none begins.

newline_near : (n : Newline) (bytes : List ℕ) (near limit k : ℕ) → limit ≤ length bytes
    → near ≡ min (length bytes) (limit + 1) → k < limit
    → newline_len (end_kind n false) (take near bytes) k ≡ newline_len (end_kind n false) bytes k
newline_near n bytes near limit k h e l = elim (cases_lt limit (length bytes)) [
  | inl before ↦ newline_in n bytes near k (omega arith) (omega arith)
  | inr at ↦ ap (λ (bs : List ℕ). newline_len (end_kind n false) bs k) (take_all near bytes (omega arith))
]

positive : (n : ℕ) → (n == 0) ≡ false → 0 < n
positive n e = grind (arith, nat_tests)

not_zero : (n : ℕ) → 0 < n → (n == 0) ≡ false
not_zero n h = grind (arith, nat_tests)

pub line_least : (n : Newline) (bytes : List ℕ) (near start limit at r : ℕ) → start ≤ limit → limit ≤ length bytes
    → near ≡ min (length bytes) (limit + 1)
    → IsLeast (λ k. 0 < newline_len (end_kind n false) (take near bytes) k) start (length (take near bytes)) at
    → r ≡ min at limit
    → IsLeast (λ k. (newline_len (end_kind n false) bytes k == 0) ≡ false) start limit r
line_least n bytes near start limit at r ordered within e least er =
    let size = length-take near bytes in
    let low = least.low in
    record {
      low = omega arith;
      high = omega arith;
      before = λ k a l there.
          least.before k a (omega arith) (let same = newline_near n bytes near limit k within e (omega arith) in
          let some_there = positive _ there in omega arith);
      holds = λ l.
          let same = newline_near n bytes near limit r within e l in
          let here : r ≡ at = omega arith in
          let found : 0 < newline_len (end_kind n false) (take near bytes) at = least.holds (omega arith) in
          not_zero _ (subst (λ (m : ℕ). 0 < m) (ap (newline_len (end_kind n false) (take near bytes)) (sym here)
          ∙ same) found);
    }
