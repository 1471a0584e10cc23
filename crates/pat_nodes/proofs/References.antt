-- The references among the nodes of a draft, as nodes are added.
use Rattle.std.proofs.Common.{◌≡◌, Bool, true, false, ◌||◌, List, [], ◌∷◌, ◌++◌, length, refl, sym, ap, ◌∙◌}
use Rattle.std.proofs.Common.{append_assoc, append-nil, arith}
use Rattle.std.proofs.lemmas.Grind.{flat_map-append}
use Rattle.pat_tree.specs.declared.nodes.Placed.{Placed}
use Rattle.pat_grammar.specs.State.{Reference}
use Rattle.pat_grammar.specs.Groups.{places_named}
use Rattle.pat_nodes.specs.Nodes.{references_of, reference_in}

pub or_false : (a : Bool) → (a || false) ≡ a
or_false true = refl
or_false false = refl

pub nothing_in : {A : Type 0} (xs : List A) → length xs ≡ 0 → xs ≡ []
nothing_in [] h = refl
nothing_in (x ∷ xs) h = absurd (omega (arith, h))

pub references_push : (ps : List Placed) (p : Placed)
    → references_of (ps ++ p ∷ []) ≡ references_of ps ++ reference_in p
unfolding references_of
references_push [] p = append-nil (reference_in p)
references_push (q ∷ ps) p = ap (λ rs. reference_in q ++ rs) (references_push ps p)
    ∙ sym (append_assoc (reference_in q) (references_of ps) (reference_in p))

pub places_append : (xs ys : List Reference) → places_named (xs ++ ys) ≡ places_named xs ++ places_named ys
unfolding places_named
places_append xs ys = flat_map-append _ xs ys
