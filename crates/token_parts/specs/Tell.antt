-- What a lexer answers: a token and the place after it, or a fault.
--
-- A token's own faults, those that its bytes alone show, are the lexer's. They are told at the token's first byte, but
-- 114 and 118 at the pattern's length and 120 at 0. Of several in one token the one that stands first in this list is
-- told.
--
--   backslashes        101 the pattern ends, 103 an unknown letter, 195 a form that is left out by name
-- codes 102 `\c` without a printable character; 134 a code that is too large, 135 no digits or no closing
--                      brace, 173 a surrogate
--   properties         146 neither a letter nor a name in braces
--   names of groups    144 empty, or a digit first, 148 too long, 142 not closed
--   numbers of groups  161 past 65,535, 126 a relative zero, then what closes the form
--   `\g`, `\k`         169 no number and no name, or a number that isn't closed
--   quantifiers        105 a number past 65,535, 104 numbers out of order
-- classes 107 `\B \R \N \X \A \Z \z \G \K \g \k` in a class; 112 `[:name:]` as a whole class, 113 `[.x.]` or
--                      `[=x=]` in a class or as one, 130 an unknown POSIX name
--   groups             114 the pattern ends in what begins a group, or a call by number isn't closed; 111 an unknown
--                      character after `(?`; 118 a comment that isn't closed
-- conditions 128 a sign without digits, or a test that isn't closed; the faults of its name or number before that
-- callouts 138 a number past 255, 120 a string that ends past 4,294,967,295, 139 not closed, or no delimiter verbs 160
-- an unknown word, or not closed, 176 a name that is too long, 166 MARK without a name
--
-- What depends on the tokens before is told by the reader: 106 (a class that isn't closed), 108 and 150 (ranges), 109
-- (a quantifier, also one just after an opening parenthesis), 115 (which groups there are), 119, 122, 127, 128 where no
-- lookaround follows, 143, 147 (which properties there are), 154, 160 for an item that isn't at the start, 161 where a
-- relative number leads past 65,535 or a group opens past it, 165 and 199. It makes a character of a `]` that stands
-- first in a class, a plain group of `(` where groups don't capture, and a lazy quantifier of a greedy one where they
-- change places.
use Rattle.std.specs.Prelude.{◌≡◌, ℕ, ◌<◌, ◌≤◌, ℤ, pos, negsuc, Bool, true, false, ◌==◌, List, [], ◌∷◌, length}
use Rattle.std.specs.Prelude.{Result, Ok, Err, MatchResult, IsTrue, IfSome, ◌+◌}
use Rattle.std.specs.List.{list_any}
use Rattle.token_parts.specs.declared.fault.Fault.{Fault}
use Rattle.token_parts.specs.declared.token.Token.{Token}
use Rattle.token_parts.specs.declared.token.Token.TheVariants.{End, Property, Reference, CallTo, Open, CondStart}
use Rattle.token_parts.specs.declared.token.Token.TheVariants.{CalloutItem, VerbItem, Quantifier}
use Rattle.token_parts.specs.declared.token.Target.{Target}
use Rattle.token_parts.specs.declared.token.Target.TheVariants as targets
use Rattle.token_parts.specs.declared.token.Target.TheVariants.{Number, Plus, Minus}
use Rattle.token_parts.specs.declared.token.OpenKind.{OpenKind}
use Rattle.token_parts.specs.declared.token.OpenKind.TheVariants.{Named}
use Rattle.token_parts.specs.declared.token.CondText.{CondText}
use Rattle.token_parts.specs.declared.token.CondText.TheVariants.{Group, InCallOf}

-- a token and the place after it, or its fault
abbrev pub Lexed : Type 0
Lexed = Result (Token × ℕ) Fault

abbrev pub fault : {A : Type 0} → ℕ → ℕ → Result A Fault
fault number at = Err (record { number = pos number; at = at })

infixl 10 ◌>>=◌
abbrev pub ◌>>=◌ : {A B : Type 0} → Result A Fault → (A → Result B Fault) → Result B Fault
Ok x >>= f = f x
Err e >>= f = Err e

abbrev pub numbers : List ℕ
numbers =
    101 ∷ 102 ∷ 103 ∷ 104 ∷ 105 ∷ 107 ∷ 111 ∷ 112 ∷ 113 ∷ 114 ∷ 118 ∷ 120 ∷ 126 ∷ 128 ∷ 130 ∷ 134 ∷ 135 ∷ 138 ∷ 139
    ∷ 142 ∷ 144
    ∷ 146 ∷ 148 ∷ 160 ∷ 161 ∷ 166 ∷ 169 ∷ 173 ∷ 176 ∷ 195 ∷ []

-- the number is one of a token's own faults
abbrev pub is_own : ℤ → Bool
is_own (pos n) = list_any (λ m. m == n) numbers
is_own (negsuc _) = false

abbrev pub IsTold : List ℕ → Fault → Type 0
IsTold text f = IsTrue (is_own f.number) × (f.at ≤ length text)

abbrev pub is_end : Token → Bool
is_end End = true
is_end _ = false

-- places between which a part of the text stands
abbrev pub IsPart : List ℕ → ℕ → ℕ → Type 0
IsPart text from to = (from ≤ to) × (to ≤ length text)

-- the greatest length of a group's name in bytes
abbrev pub longest_name : ℕ
longest_name = 128

-- places between which a name of a group stands: 1 to 128 bytes of the text
abbrev pub IsName : List ℕ → ℕ → ℕ → Type 0
IsName text from to = (from < to) × (to ≤ from + longest_name) × (to ≤ length text)

-- The number of a group is one that a group can have, and a relative one is not 0.
abbrev pub IsTarget : List ℕ → Target → Type 0
IsTarget text (Number n) = n ≤ 65535
IsTarget text (Plus n) = (0 < n) × (n ≤ 65535)
IsTarget text (Minus n) = (0 < n) × (n ≤ 65535)
IsTarget text (targets.Named from to) = IsName text from to

-- what a parenthesis opens, and a name that it gives
abbrev pub IsKind : List ℕ → OpenKind → Type 0
IsKind text (Named from to) = IsName text from to
IsKind text _ = Unit {0}

-- The reader says whether the test `Rn` is a name: its number is any.
abbrev pub IsTest : List ℕ → CondText → Type 0
IsTest text (Group target) = IsTarget text target
IsTest text (InCallOf (Number n)) = Unit {0}
IsTest text (InCallOf target) = IsTarget text target
IsTest text _ = Unit {0}

-- The parts of a token stand in the text, a verb's name has at most 255 bytes, and a minimum isn't past its maximum.
abbrev pub IsWell : List ℕ → Token → Type 0
IsWell text (Property from to outside) = IsPart text from to
IsWell text (Reference target) = IsTarget text target
IsWell text (CallTo target) = IsTarget text target
IsWell text (Open kind) = IsKind text kind
IsWell text (CondStart test from to) = IsTest text test × IsPart text from to
IsWell text (CalloutItem number from to) = IsPart text from to
IsWell text (VerbItem verb from to) = IsPart text from to × (to ≤ from + 255)
IsWell text (Quantifier min max mode) = IfSome max (λ most. min ≤ most)
IsWell text _ = Unit {0}

-- a token other than the end, whose bytes stand in the text
abbrev pub IsInside : List ℕ → ℕ → Token → ℕ → Type 0
IsInside text at token after = (is_end token ≡ false) × (at < after) × (after ≤ length text) × IsWell text token

abbrev pub IsSound : List ℕ → ℕ → Lexed → Type 0
IsSound text at lexed = MatchResult lexed (λ r. IsInside text at r.0 r.1) (IsTold text)

-- The end is a token where the text ends, and every other token has a byte.
abbrev pub Moves : List ℕ → ℕ → Token → ℕ → Type 0
Moves text at End after = (at ≡ length text) × (after ≡ at)
Moves text at _ after = (at < after) × (after ≤ length text)
