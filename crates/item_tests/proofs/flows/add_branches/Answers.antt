use Rattle.std.proofs.Common.{◌≡◌, ℕ, List, [], ◌∷◌, ◌++◌, length, ◌∙◌, refl, ap, arith}
use Rattle.pat_tree.specs.Growing.{loose, loose_after, without}
use Rattle.item_tests.proofs.flows.add_branches.Goals as goal

-- one more, which takes these
step : (old new ks taken : List ℕ) (n m : ℕ) (before after : List ℕ) → new ≡ without ks old ++ n ∷ [] → ks ≡ taken
    → old ≡ before → n ≡ m → without taken before ++ m ∷ [] ≡ after → new ≡ after
step old new ks taken n m before after e k f g h =
    e ∙ ap (λ xs. without xs old ++ n ∷ []) k ∙ ap (λ xs. without taken xs ++ n ∷ []) f
    ∙ ap (λ i. without taken before ++ i ∷ []) g ∙ h

-- and one that takes none
plus : (old new : List ℕ) (n m : ℕ) (before after : List ℕ) → new ≡ old ++ n ∷ [] → old ≡ before → n ≡ m
    → before ++ m ∷ [] ≡ after → new ≡ after
plus old new n m before after e f g h = e ∙ ap (λ xs. xs ++ n ∷ []) f ∙ ap (λ i. before ++ i ∷ []) g ∙ h

two : (kids : List ℕ) (a b n m : ℕ) → kids ≡ a ∷ b ∷ [] → a ≡ n → b ≡ m → kids ≡ n ∷ m ∷ []
two kids a b n m e f g = cc

pub returns-clause-loose : goal.returns-clause-loose
unfolding loose loose_after
returns-clause-loose c =
    let none : loose c.args.draft.now.nodes ≡ [] = ap loose c.requires in
    let n0 : length c.args.draft.now.nodes ≡ 0 = ap length c.requires in
    let n1 : length c.add_letter.new.draft.nodes ≡ 1 = omega (arith, n0, c.in_ok-a.ensures.count) in
    let n2 : length c.add_letter-2.new.draft.nodes ≡ 2 = omega (arith, n1, c.in_ok-b.ensures.count) in
    let n3 : length c.add.new.self.nodes ≡ 3 = omega (arith, n2, c.in_ok-body.ensures.count) in
    let n4 : length c.add-2.new.self.nodes ≡ 4 = omega (arith, n3, c.in_ok-first.ensures.count) in
    let n5 : length c.add_letter-3.new.draft.nodes ≡ 5 = omega (arith, n4, c.in_ok-c.ensures.count) in
    let n6 : length c.add_letter-4.new.draft.nodes ≡ 6 = omega (arith, n5, c.in_ok-d.ensures.count) in
    let a : c.in_ok-a.a ≡ 0 = c.in_ok-a.ensures.number ∙ n0 in
    let b : c.in_ok-b.b ≡ 1 = c.in_ok-b.ensures.number ∙ n1 in
    let body : c.in_ok-body.body ≡ 2 = c.in_ok-body.ensures.number ∙ n2 in
    let c4 : c.in_ok-c.c ≡ 4 = c.in_ok-c.ensures.number ∙ n4 in
    let d : c.in_ok-d.d ≡ 5 = c.in_ok-d.ensures.number ∙ n5 in
    let l1 = plus _ _ _ 0 [] (0 ∷ []) c.in_ok-a.ensures.loose none n0 refl in
    let l2 = plus _ _ _ 1 (0 ∷ []) (0 ∷ 1 ∷ []) c.in_ok-b.ensures.loose l1 n1 refl in
    let l3 = step _ _ _ (0 ∷ 1 ∷ []) _ 2 (0 ∷ 1 ∷ []) (2 ∷ []) c.in_ok-body.ensures.loose
    (two _ _ _ 0 1 c.in_ok-pair.ensures a b) l2 n2 refl in
    let l4 = step _ _ _ (2 ∷ []) _ 3 (2 ∷ []) (3 ∷ []) c.in_ok-first.ensures.loose (ap (λ k. k ∷ []) body) l3 n3 refl in
    let l5 = plus _ _ _ 4 (3 ∷ []) (3 ∷ 4 ∷ []) c.in_ok-c.ensures.loose l4 n4 refl in
    let l6 = plus _ _ _ 5 (3 ∷ 4 ∷ []) (3 ∷ 4 ∷ 5 ∷ []) c.in_ok-d.ensures.loose l5 n5 refl in
    step _ _ _ (4 ∷ 5 ∷ []) _ 6 (3 ∷ 4 ∷ 5 ∷ []) (3 ∷ 6 ∷ []) c.in_ok-second.ensures.loose
    (two _ _ _ 4 5 c.in_ok-pair-2.ensures c4 d) l6 n6 refl
