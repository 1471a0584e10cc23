-- The lines of a text from a place on, one after another.
use Rattle.std.proofs.Common.{◌≡◌, ◌∙◌, ℕ, zero, suc, ◌+◌, ◌-◌, ◌<◌, ◌≤◌, Bool, true, false, List, [], ◌∷◌, ◌++◌}
use Rattle.std.proofs.Common.{length, take, drop, min, flat_map, refl, sym, ap, subst, arith, ⊎_elim, append-nil}
use Rattle.std.proofs.Common.{length-append, length-drop}
use Rattle.std.specs.Prelude.{nat_le}
use Rattle.std.proofs.lemmas.Bool.{cases_lt, le-leb, lt-leb}
use Rattle.line_feed.specs.Rows.{Row}
use Rattle.line_feed.specs.Lines.{row_of}
use Rattle.line_feed.specs.declared.feed.Line.{Line}
use Rattle.grep_multi.specs.declared.cut.LineStart.{LineStart}
use Rattle.grep_multi.specs.Given.{IsLine, past}
use Rattle.grep_multi.proofs.Cutting.{lines-end, first-at}
use Rattle.grep_blocks.specs.declared.job.Job.{Job}
use Rattle.grep_blocks.specs.Steps.{IsStart, Skips, rows_at}

-- Lists.

pub take-first : (n : ℕ) (x : Row) (xs : List Row) → 0 < n → take n (x ∷ xs) ≡ x ∷ take (n - 1) xs
take-first zero x xs some = absurd (omega arith)
take-first (suc n) x xs some =
    let e : n ≡ suc n - 1 = omega arith in
    ap (λ m. x ∷ take m xs) e

pub drop-first : (n : ℕ) (x : Row) (xs : List Row) → 0 < n → drop n (x ∷ xs) ≡ drop (n - 1) xs
drop-first zero x xs some = absurd (omega arith)
drop-first (suc n) x xs some =
    let e : n ≡ suc n - 1 = omega arith in
    ap (λ m. drop m xs) e

abbrev no_rows : List Row
no_rows = []

pub take-empty : (n : ℕ) → take n no_rows ≡ no_rows
take-empty zero = refl
take-empty (suc n) = refl

pub drop-empty : (n : ℕ) → drop n no_rows ≡ no_rows
drop-empty zero = refl
drop-empty (suc n) = refl

pub take-zero : (n : ℕ) (xs : List Row) → n ≡ 0 → take n xs ≡ []
take-zero n xs e = ap (λ m. take m xs) e

pub drop-zero : (n : ℕ) (xs : List Row) → n ≡ 0 → drop n xs ≡ xs
drop-zero n xs e = ap (λ m. drop m xs) e

pub take-take : (m n : ℕ) (xs : List Row) → take m (take n xs) ≡ take (min m n) xs
take-take zero n xs = sym (take-zero (min zero n) xs (omega arith))
take-take (suc m) zero xs = sym (take-zero (min (suc m) zero) xs (omega arith))
take-take (suc m) (suc n) [] = sym (take-empty (min (suc m) (suc n)))
take-take (suc m) (suc n) (x ∷ xs) =
    ap (λ l. x ∷ l) (take-take m n xs)
    ∙ (let e : min m n ≡ min (suc m) (suc n) - 1 = omega arith in ap (λ k. x ∷ take k xs) e)
    ∙ sym (take-first (min (suc m) (suc n)) x xs (omega arith))

pub take-front : (xs ys : List Row) (n : ℕ) → n ≤ length xs → take n (xs ++ ys) ≡ take n xs
take-front [] ys n few = take-zero n ys (omega arith) ∙ sym (take-empty n)
take-front (x ∷ xs) ys zero few = refl
take-front (x ∷ xs) ys (suc n) few = ap (λ l. x ∷ l) (take-front xs ys n (omega arith))

pub take-all : (xs ys : List Row) (n : ℕ) → n ≡ length xs → take n (xs ++ ys) ≡ xs
take-all [] ys n is = take-zero n ys is
take-all (x ∷ xs) ys zero is = absurd (omega arith)
take-all (x ∷ xs) ys (suc n) is = ap (λ l. x ∷ l) (take-all xs ys n (omega arith))

pub drop-front : (xs ys : List Row) (n : ℕ) → n ≤ length xs → drop n (xs ++ ys) ≡ drop n xs ++ ys
drop-front [] ys n few = drop-zero n ys (omega arith) ∙ ap (λ l. l ++ ys) (sym (drop-empty n))
drop-front (x ∷ xs) ys zero few = refl
drop-front (x ∷ xs) ys (suc n) few = drop-front xs ys n (omega arith)

pub drop-past : (xs : List Row) (n : ℕ) → length xs ≤ n → drop n xs ≡ []
drop-past [] n past = drop-empty n
drop-past (x ∷ xs) zero past = absurd (omega arith)
drop-past (x ∷ xs) (suc n) past = drop-past xs n (omega arith)

pub drop-more : (m n : ℕ) (xs : List Row) → drop m (drop n xs) ≡ drop (n + m) xs
drop-more m zero xs = (let e : m ≡ zero + m = omega arith in ap (λ k. drop k xs) e)
drop-more m (suc n) [] = drop-empty m ∙ sym (drop-empty (suc n + m))
drop-more m (suc n) (x ∷ xs) =
    drop-more m n xs
    ∙ (let e : n + m ≡ suc n + m - 1 = omega arith in ap (λ k. drop k xs) e)
    ∙ sym (drop-first (suc n + m) x xs (omega arith))

-- The lines of a text.
module _ (job : Job) where
  -- the next line begins within the text
  pub start-next : (at : LineStart) (line : Line) → IsStart job at
      → IsLine job.search.kind job.search.text.now at line → IsStart job (past at line)
  start-next at line start is =
      let some = is.some in
      let few = start.few in
      record { within = is.within; few = omega arith; short = start.short }

  pub none-left : (at : LineStart) → length job.search.text.now ≤ at.at → rows_at job at ≡ []
  none-left at past = lines-end job.search.kind job.search.text.now at past

  -- a line is left
  pub some-left : (at : LineStart) → at.at < length job.search.text.now → 0 < length (rows_at job at)
  some-left at some =
      let first = first-at job.search.kind job.search.text.now at some in
      let long = ap length first.1.1.0 in
      omega arith

  -- What a text is made of the lines from a place on: so many, of which k were taken.
  module _ (f : Row → List ℕ) (at : LineStart) (count k : ℕ) where
    pub walk-end : length job.search.text.now ≤ at.at → flat_map f (take (count - k) (rows_at job at)) ≡ []
    walk-end past =
        ap (λ l. flat_map f (take (count - k) l)) (none-left at past) ∙ ap (flat_map f) (take-empty (count - k))

    pub walk-done : count ≤ k → flat_map f (take (count - k) (rows_at job at)) ≡ []
    walk-done all = ap (flat_map f) (take-zero (count - k) (rows_at job at) (omega arith))

    pub walk-step : (line : Line) → IsLine job.search.kind job.search.text.now at line → k < count
        → flat_map f (take (count - k) (rows_at job at))
        ≡ f (row_of line) ++ flat_map f (take (count - (k + 1)) (rows_at job (past at line)))
    walk-step line is less =
        let rest = rows_at job (past at line) in
        ap (λ l. flat_map f (take (count - k) l)) is.lines
        ∙ ap (flat_map f) (take-first (count - k) (row_of line) rest (omega arith))
        ∙ (let e : count - k - 1 ≡ count - (k + 1) = omega arith in
        ap (λ n. f (row_of line) ++ flat_map f (take n rest)) e)

  -- Lines that are passed over.
  module _ (from at : LineStart) (k : ℕ) (lines : rows_at job at ≡ drop k (rows_at job from)) where
    pub skip-step : (line : Line) → IsLine job.search.kind job.search.text.now at line
        → rows_at job (past at line) ≡ drop (k + 1) (rows_at job from)
    skip-step line is =
        ap (λ l. drop 1 l) (sym is.lines ∙ lines) ∙ drop-more 1 k (rows_at job from)

    pub skip-end : (count : ℕ) → k ≤ count → length job.search.text.now ≤ at.at
        → rows_at job at ≡ drop count (rows_at job from)
    skip-end count less past =
        let none = none-left at past in
        let all = drop-more (count - k) k (rows_at job from) in
        let to : k + (count - k) ≡ count = omega arith in
        none ∙ sym (drop-empty (count - k)) ∙ ap (drop (count - k)) (sym none ∙ lines) ∙ all
        ∙ ap (λ n. drop n (rows_at job from)) to

  -- whether so many lines are left, by where the last of them begins
  pub has-lines : (from to : LineStart) (count : ℕ) → 0 < count → Skips job from (count - 1) to
      → to.at < length job.search.text.now → nat_le count (length (rows_at job from)) ≡ true
  has-lines from to count some skips there =
      let long = ap length skips.lines ∙ length-drop (count - 1) (rows_at job from) in
      let left = some-left to there in
      le-leb count (length (rows_at job from)) (omega arith)

  pub lacks-lines : (from to : LineStart) (count : ℕ) → 0 < count → Skips job from (count - 1) to
      → length job.search.text.now ≤ to.at → nat_le count (length (rows_at job from)) ≡ false
  lacks-lines from to count some skips past =
      let long = ap length (sym (none-left to past) ∙ skips.lines) ∙ length-drop (count - 1) (rows_at job from) in
      lt-leb count (length (rows_at job from)) (omega arith)
