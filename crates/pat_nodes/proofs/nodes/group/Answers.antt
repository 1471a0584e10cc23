use Rattle.std.proofs.Common.{length-append, append_assoc, ◌≡◌, ◌++◌, ◌∷◌, [], map, refl, List, ℕ, sym, ◌∙◌}
use Rattle.pat_tree.specs.Nested.{tree_at, trees}
use Rattle.pat_tree.specs.Growing.{loose, Stand}
use Rattle.pat_tree.proofs.Growing.{stand_made, makes_then}
use Rattle.pat_grammar.specs.Parts.{alternative}
use Rattle.pat_nodes.specs.Nodes.{form_of}
use Rattle.pat_nodes.proofs.Conditions.{has_push}
use Rattle.pat_nodes.proofs.Extending.{closes_then}
use Rattle.pat_nodes.proofs.nodes.group.Goals as goal
use Rattle.pat_nodes.proofs.nodes.group.Goals.{In_ok-push}

stands : (c : In_ok-push) → Stand c.alternative.new.draft.nodes c.push.new.self
    (map (tree_at (trees c.args.draft.now.nodes)) c.args.level.branches ++ alternative
    (map (tree_at (trees c.args.draft.now.nodes)) c.args.level.parts) ∷ [])
stands c =
    let before : Stand c.args.draft.now.nodes c.args.level.branches
    (map (tree_at (trees c.args.draft.now.nodes)) c.args.level.branches) =
    record { below = c.requires.branches; trees_are = refl } in
    rw c.in_ok-push.ensures.ok (stand_made c.in_ok-last.ensures.made before)

pub form_node-requires-clause-branches : goal.form_node-requires-clause-branches
form_node-requires-clause-branches c = (stands (goal.at.form_node-requires-clause-branches c).In_ok-push).below

pub returns-clause-made : goal.returns-clause-made
returns-clause-made c =
    let s = stands (goal.at.returns-clause-made c).In_ok-push in
    makes_then c.in_ok-last.ensures.made.grows (rw (← s.trees_are) c.in_ok-id.ensures.made)

pub alternative-requires-clause-loose : goal.alternative-requires-clause-loose
alternative-requires-clause-loose c = record {
  front = c.requires.loose.front ++ c.args.level.branches;
  is = c.requires.loose.is ∙ sym (append_assoc c.requires.loose.front c.args.level.branches c.args.level.parts);
}

-- the last alternative is the last of the branches
regroup : (front branches : List ℕ) (last : ℕ) → (front ++ branches) ++ last ∷ [] ≡ front ++ (branches ++ last ∷ [])
regroup front branches last = append_assoc front branches (last ∷ [])

after_last : (c : In_ok-push) (front : List ℕ) → loose c.args.draft.now.nodes ≡ front
    ++ (c.args.level.branches ++ c.args.level.parts) → loose c.alternative.new.draft.nodes ≡ front ++ c.push.new.self
after_last c front e =
    rw c.in_ok-push.ensures.ok
    (c.in_ok-last.ensures.loose (front ++ c.args.level.branches)
    (e ∙ sym (append_assoc front c.args.level.branches c.args.level.parts))
    ∙ regroup front c.args.level.branches c.in_ok-last.last)

pub form_node-requires-clause-loose : goal.form_node-requires-clause-loose
form_node-requires-clause-loose c =
    let front = c.requires.loose.front in
    record {
      front = front;
      is = after_last (goal.at.form_node-requires-clause-loose c).In_ok-push front c.requires.loose.is;
    }

pub returns-clause-loose : goal.returns-clause-loose
returns-clause-loose c front e = c.in_ok-id.ensures.loose front
    (after_last (goal.at.returns-clause-loose c).In_ok-push front e)

pub form_node-requires-clause-few : goal.form_node-requires-clause-few
form_node-requires-clause-few c =
    rw (c.in_ok-push.ensures.ok, length-append c.args.level.branches (c.in_ok-last.last ∷ [])) c.requires.few

pub returns-clause-closes : goal.returns-clause-closes
returns-clause-closes c = closes_then c.in_ok-last.ensures.adds c.in_ok-id.ensures.closes

pub form_node-requires-clause-test : goal.form_node-requires-clause-test
form_node-requires-clause-test c =
    let s = stands (goal.at.form_node-requires-clause-test c).In_ok-push in
    rw s.trees_are (has_push (form_of c.args.form)
    (map (tree_at (trees c.args.draft.now.nodes)) c.args.level.branches) _ c.requires.test)
