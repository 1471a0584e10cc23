-- The nodes that a tree has, and how many children each takes.
use Rattle.std.proofs.Common.{◌≡◌, ℕ, zero, suc, ◌+◌, ◌<◌, ◌≤◌, true, false, cond, List, [], ◌∷◌, ◌++◌, length, get_or}
use Rattle.std.proofs.Common.{refl, sym, ap, ◌∙◌, arith, length-append, add-zero}
use Rattle.pat_tree.specs.declared.nodes.Placed.{Placed}
use Rattle.pat_tree.specs.Closing.{TakeTheLast}
use Rattle.pat_tree.specs.Growing.{without, loose_after, loose, AllUnder}
use Rattle.pat_tree.specs.Refs.{is_in}
use Rattle.pat_tree.specs.Rules.{kids_of}

length_without : (ks xs : List ℕ) → length (without ks xs) ≤ length xs
length_without ks [] = omega arith
length_without ks (x ∷ xs) =
    let more = length_without ks xs in
    elim (is_in x ks) as (λ b. length (cond b (without ks xs) (x ∷ without ks xs)) ≤ suc (length xs)) [
      | true ↦ omega arith
      | false ↦ omega arith
    ]

length_loose_after : (n : ℕ) (before : List ℕ) (ps : List Placed)
    → length (loose_after n before ps) ≤ length before + length ps
unfolding loose_after
length_loose_after n before [] = omega arith
length_loose_after n before (p ∷ ps) =
    let more = length_loose_after (n + 1) (without (kids_of p.node) before ++ n ∷ []) ps in
    omega (
      arith,
      more,
      length_without (kids_of p.node) before,
      length-append (without (kids_of p.node) before) (n ∷ []),
    )

length_loose : (ps : List Placed) → length (loose ps) ≤ length ps
unfolding loose
length_loose ps = omega (arith, length_loose_after 0 [] ps)

-- a node has no more children than nodes stand before it
pub kids_few : (before ps : List Placed) (i : ℕ) (d : Placed) → TakeTheLast before ps → i < length ps
    → length (kids_of (get_or ps i d).node) ≤ length before + i
kids_few before [] i d turns lt = absurd (omega arith)
kids_few before (p ∷ ps) zero d turns lt =
    omega (
      arith,
      ap length turns.0.is,
      length-append turns.0.front (kids_of p.node),
      length_loose before,
    )
kids_few before (p ∷ ps) (suc i) d turns lt =
    omega (arith, kids_few (before ++ p ∷ []) ps i d turns.1 (omega arith), length-append before (p ∷ []))

-- the last node is loose
last_loose : (n : ℕ) (before : List ℕ) (p : Placed) (ps : List Placed)
    → (front : List ℕ) × (loose_after n before (p ∷ ps) ≡ front ++ (n + length ps) ∷ [])
unfolding loose_after
last_loose n before p [] = (without (kids_of p.node) before, rw (add-zero) refl)
last_loose n before p (q ∷ ps) =
    let more = last_loose (n + 1) (without (kids_of p.node) before ++ n ∷ []) q ps in
    (more.0, more.1 ∙ ap (λ k. more.0 ++ k ∷ []) (omega arith))

alone : (front : List ℕ) (k root : ℕ) → root ∷ [] ≡ front ++ k ∷ [] → root ≡ k
alone [] k root e = cc
alone (x ∷ front) k root e = absurd (omega (arith, ap length e, length-append front (k ∷ [])))

-- the root is the last node
pub root_last : (ps : List Placed) (root : ℕ) → root < length ps → AllUnder ps root → root + 1 ≡ length ps
unfolding loose
root_last [] root lt under = absurd (omega arith)
root_last (p ∷ ps) root lt under =
    let last = last_loose 0 [] p ps in
    omega (arith, alone last.0 (0 + length ps) root (sym under ∙ last.1))
