-- The texts of the faults of patterns (pcre2api, "Error codes from pcre2_compile()"): number → text.
use Rattle.std.specs.Prelude.{ℕ, Bool, List, [], ◌∷◌, codes, ℤ, pos, negsuc, ◌==◌, find, Option, Some, None}
use Rattle.std.specs.List.{list_any}

abbrev pub table : List (ℕ × List ℕ)
table =
    (101, codes "backslash at end of pattern")
    ∷ (102, codes "bad character after \\c")
    ∷ (103, codes "unrecognized character after backslash")
    ∷ (104, codes "numbers out of order in quantifier")
    ∷ (105, codes "number too big in quantifier")
    ∷ (106, codes "missing terminating ] for character class")
    ∷ (107, codes "escape not valid in a class")
    ∷ (108, codes "range out of order in character class")
    ∷ (109, codes "quantifier does not follow a repeatable item")
    ∷ (111, codes "unrecognized character after (? or (?-")
    ∷ (112, codes "POSIX class outside a class")
    ∷ (113, codes "collating element")
    ∷ (114, codes "missing closing parenthesis")
    ∷ (115, codes "reference to non-existent group")
    ∷ (118, codes "missing ) after comment")
    ∷ (119, codes "parentheses too deeply nested")
    ∷ (120, codes "pattern too large")
    ∷ (122, codes "unmatched closing parenthesis")
    ∷ (125, codes "lookbehind length is not limited")
    ∷ (126, codes "relative number zero")
    ∷ (127, codes "more than two branches in a condition")
    ∷ (128, codes "malformed condition")
    ∷ (130, codes "unknown POSIX class name")
    ∷ (134, codes "character code too large")
    ∷ (135, codes "bad digits in \\x{} or \\o{}")
    ∷ (138, codes "callout number greater than 255")
    ∷ (139, codes "malformed callout")
    ∷ (142, codes "malformed group name")
    ∷ (143, codes "two groups have the same name")
    ∷ (144, codes "group name empty or begins with a digit")
    ∷ (146, codes "malformed property")
    ∷ (147, codes "unknown property")
    ∷ (148, codes "group name too long")
    ∷ (150, codes "invalid range in class")
    ∷ (154, codes "DEFINE with more than one branch")
    ∷ (160, codes "unknown or malformed verb")
    ∷ (161, codes "group number too big, or too many groups")
    ∷ (165, codes "different names for one group number")
    ∷ (166, codes "MARK needs a name")
    ∷ (169, codes "malformed \\g or \\k")
    ∷ (173, codes "surrogate code")
    ∷ (176, codes "verb name too long")
    ∷ (187, codes "lookbehind too long")
    ∷ (195, codes "not in this profile")
    ∷ (199, codes "\\K in a lookaround")
    ∷ []

-- the number is that of a fault; the one below 0 is that of a pattern that isn't UTF-8
abbrev pub is_fault : ℤ → Bool
is_fault (pos n) = list_any (λ row. row.0 == n) table
is_fault (negsuc n) = n == 2

abbrev pub text_in : Option (ℕ × List ℕ) → List ℕ
text_in None = []
text_in (Some row) = row.1

abbrev pub fault_text : ℤ → List ℕ
fault_text (pos n) = text_in (find (λ row. row.0 == n) table)
fault_text (negsuc n) = codes "invalid UTF-8 in pattern"
