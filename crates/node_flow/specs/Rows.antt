-- Small patterns for worked rows.
use Rattle.std.specs.Prelude.{ℕ, List, [], ◌∷◌, true, false, Option, Some, None}
use Rattle.pat_tree.specs.declared.nodes.Cond.TheVariants.{Assert}
use Rattle.pat_tree.specs.declared.nodes.Node.TheVariants as node
use Rattle.pat_tree.specs.declared.nodes.Placed.{Placed}
use Rattle.pat_tree.specs.Rows.{placed, letter}

-- `(?:ab|c)d` and `(ab|c)d`: the letters a, b and c are the parts 0, 1 and 3, the group is 4 and d is 5
abbrev pub group_before_d : Option ℕ → List Placed
group_before_d number =
    letter 97 0 ∷ letter 98 0 ∷ placed (node.Seq (0 ∷ 1 ∷ [])) 0 ∷ letter 99 0 ∷ placed
    (node.Group number (2 ∷ 3 ∷ [])) 0
    ∷ letter 100 0 ∷ placed (node.Seq (4 ∷ 5 ∷ [])) 0 ∷ placed (node.Group None (6 ∷ [])) 0 ∷ []

-- `(?(?=a)b|c)d`: the lookaround is the part 1, b and c are 2 and 3, and d is 5
abbrev pub condition_before_d : List Placed
condition_before_d =
    letter 97 0 ∷ placed (node.Look true true true (0 ∷ [])) 0 ∷ letter 98 0 ∷ letter 99 0 ∷ placed
    (node.Cond (Assert 1) 2 (Some 3)) 0
    ∷ letter 100 0 ∷ placed (node.Seq (4 ∷ 5 ∷ [])) 0 ∷ []

-- `(?:ab){2}c`: b is the part 1, the sequence 2, the repeat 3, and c is 4
abbrev pub repeat_before_c : List Placed
repeat_before_c =
    letter 97 0 ∷ letter 98 0 ∷ placed (node.Seq (0 ∷ 1 ∷ [])) 0 ∷ placed (node.Repeat 2 2 (Some 2) false) 0 ∷ letter
    99 0
    ∷ placed (node.Seq (3 ∷ 4 ∷ [])) 0 ∷ []

-- `(?<=(?:a)|(b))d`: a and b are the parts 0 and 2, their groups 1 and 3, and the lookbehind is 4
abbrev pub look_before_d : List Placed
look_before_d =
    letter 97 0 ∷ placed (node.Group None (0 ∷ [])) 0 ∷ letter 98 0 ∷ placed (node.Group (Some 1) (2 ∷ [])) 0
    ∷ placed (node.Look false true true (1 ∷ 3 ∷ [])) 0 ∷ letter 100 0 ∷ placed (node.Seq (4 ∷ 5 ∷ [])) 0 ∷ []
