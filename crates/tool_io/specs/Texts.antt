-- Texts: lines, and texts one after another.
use Rattle.std.specs.Prelude.{ℕ, Bool, if◌then◌else◌, List, [], ◌∷◌, ◌++◌, flat_map}
use denote.Ref.{Bor}

-- a line of output ends with LF
abbrev pub line : List ℕ → List ℕ
line text = text ++ 10 ∷ []

abbrev pub text_if : Bool → List ℕ → List ℕ
text_if is_there text = if is_there then text else []

-- texts one after another
abbrev pub concat_texts : List (Bor (List ℕ)) → List ℕ
concat_texts texts = flat_map (λ t. t.now) texts
