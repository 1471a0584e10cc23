-- The words for the tool: those that the program was started with, of which the first is the program's own path.
use Rattle.std.specs.Prelude.{ℕ, List, [], ◌∷◌, if◌then◌else◌, nat_eq, codes}
use Rattle.std.specs.List.{list_any}
use Rattle.pcre2_tools.specs.ToolText.{is_grep, is_test}

-- what stands behind the last slash
abbrev pub last_component : List ℕ → List ℕ
last_component [] = []
last_component (c ∷ rest) =
    if list_any (nat_eq 47) (c ∷ rest) then last_component rest else c ∷ rest

abbrev pub tool_named : List ℕ → List ℕ
tool_named name =
    if is_grep name then codes "pcre2grep" else if is_test name then codes "pcre2test" else []

-- a tool's name comes first
abbrev pub named_first : List ℕ → List (List ℕ) → List (List ℕ)
named_first [] words = words
named_first (c ∷ tool) words = (c ∷ tool) ∷ words

abbrev pub words_of : List (List ℕ) → List (List ℕ)
words_of [] = []
words_of (path ∷ words) = named_first (tool_named (last_component path)) words
