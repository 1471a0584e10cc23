-- A set of numbers by marks.
use Rattle.std.proofs.Common.{Bool, false, ◌≡◌, ◌||◌, ◌∙◌, ℕ, zero, suc, List, [], ◌∷◌, ◌++◌, refl, ap}
use Rattle.std.proofs.Math.Bool.{or-false}
use Rattle.std.proofs.lemmas.List.Folds.{list_any-append}
use Rattle.pat_tree.specs.declared.nodes.Placed.{Placed}
use Rattle.pat_tree.specs.Refs.{marked, has_group, is_group}

-- room for a number is no mark
pub marked_push : (marks : List Bool) (n : ℕ) → marked (marks ++ false ∷ []) n ≡ marked marks n
marked_push [] zero = refl
marked_push [] (suc n) = refl
marked_push (m ∷ marks) zero = refl
marked_push (m ∷ marks) (suc n) = marked_push marks n

pub none_marked : (n : ℕ) → marked [] n ≡ has_group [] n
none_marked n = refl

pub has_group_push : (ps : List Placed) (p : Placed) (n : ℕ)
    → has_group (ps ++ p ∷ []) n ≡ (has_group ps n || is_group n p.node)
has_group_push ps p n = list_any-append (λ q. is_group n q.node) ps (p ∷ [])
    ∙ ap (λ t. has_group ps n || t) (or-false (is_group n p.node))
