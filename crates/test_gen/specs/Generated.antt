-- The lines that are made (docs/pcre2test.md, `-gen`): numbers, each from the one before it → letters
-- → lines.
use Rattle.std.specs.Prelude.{ℕ, zero, suc, ◌+◌, ◌*◌, ◌%◌, ◌==◌, if◌then◌else◌, List, [], ◌∷◌, ◌++◌}

-- the number behind another one
abbrev pub next : ℕ → ℕ
next x = (75 * x + 74) % 65537

-- the number that stands so many behind another one
unfoldable pub behind : ℕ → ℕ → ℕ
behind x zero = x
behind x (suc n) = next (behind x n)

-- `a`, `b`, `c` or `-`
abbrev pub letter : ℕ → ℕ
letter x =
    if x % 4 == 0 then 97 else if x % 4 == 1 then 98 else if x % 4 == 2 then 99 else 45

-- the letters of so many numbers behind one
unfoldable pub letters : ℕ → ℕ → List ℕ
letters x zero = []
letters x (suc n) = letters x n ++ letter (behind x (suc n)) ∷ []

-- A line, counted from 0: the twelve letters behind those of the lines before it. The first line
-- begins behind 1.
abbrev pub line_at : ℕ → List ℕ
line_at i = letters (behind 1 (12 * i)) 12

-- so many lines
unfoldable pub lines : ℕ → List (List ℕ)
lines zero = []
lines (suc n) = lines n ++ line_at n ∷ []
