-- Blanks, white space, and texts without them.
use Rattle.std.specs.Prelude.{ℕ, ◌-◌, ◌==◌, ◌||◌, Bool, true, List, [], ◌∷◌, length, take, drop, reverse, take_while}
use Rattle.std.specs.Int.{is_in_range}
use Rattle.test_modifiers.specs.declared.spaces.Space.{Space}
use Rattle.test_modifiers.specs.declared.spaces.Space.TheVariants.{Blank, White}

-- space and tab
abbrev pub is_blank : ℕ → Bool
is_blank c = c == 32 || c == 9

-- space, tab, line feed, vertical tab, form feed and carriage return
abbrev pub is_white : ℕ → Bool
is_white c = c == 32 || is_in_range 9 13 c

abbrev pub is_space : Space → ℕ → Bool
is_space Blank c = is_blank c
is_space White c = is_white c

-- a text without the bytes at its begin, and at its end, that pass the test
abbrev pub without_begin : (ℕ → Bool) → List ℕ → List ℕ
without_begin test text = drop (length (take_while test text)) text

abbrev pub without_end : (ℕ → Bool) → List ℕ → List ℕ
without_end test text = take (length text - length (take_while test (reverse text))) text

-- white space or the end
abbrev pub begins_white : List ℕ → Bool
begins_white [] = true
begins_white (c ∷ rest) = is_white c
