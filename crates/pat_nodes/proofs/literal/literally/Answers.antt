use Rattle.std.proofs.Common.{◌≡◌, ◌∙◌, ap, ℕ, Bool, List, [], ◌∷◌, Some, map}
use Rattle.pat_tree.specs.declared.options.Options.{Options}
use Rattle.pat_tree.specs.declared.nodes.ClassSpec.{ClassSpec}
use Rattle.pat_tree.specs.declared.names.NameEntry.{NameEntry}
use Rattle.pat_tree.specs.Parts.{DraftParts, with_root}
use Rattle.pat_tree.specs.Nested.{Nested, tree_at, trees}
use Rattle.pat_tree.specs.Refs.{bad_ref, refs, has_group}
use Rattle.pat_tree.specs.Sound.{greatest, group_numbers}
use Rattle.pat_grammar.specs.State.{Reference}
use Rattle.pat_grammar.specs.Reading.{Parsed, literally}
use Rattle.pat_nodes.specs.Nodes.{parsed_of, references_of}
use Rattle.pat_nodes.proofs.Extending.{closes_plain}
use Rattle.pat_nodes.proofs.Numbering.{greatest_none}
use Rattle.pat_nodes.proofs.literal.literally.Goals as goal

no_bad : (f : ℕ → Bool) (rs : List (ℕ × ℕ)) (at : ℕ) → rs ≡ [] → bad_ref f rs ≡ Some at → ⊥
no_bad f [] at e h = cc
no_bad f (r ∷ rs) at e h = cc

abbrev parsed : Options → Nested → List ClassSpec → List NameEntry → List Reference → ℕ → List (List ℕ) → Parsed
parsed o t cs ns rs n vs = record {
  pattern = record { options = o; tree = t; groups = n; classes = cs; verb_names = vs };
  names = ns;
  places = map (λ r. r.at) rs;
}

parsed_is : (d : DraftParts) (root : ℕ) (o : Options) (t : Nested) → d.options ≡ o → tree_at (trees d.nodes) root ≡ t
    → d.classes ≡ [] → d.names ≡ [] → references_of d.nodes ≡ [] → greatest (group_numbers d.nodes) ≡ 0
    → d.verb_names ≡ [] →
    parsed_of (with_root d root) ≡ parsed o t [] [] [] 0 []
parsed_is d root o t options tree classes names references groups verb_names =
    let n : ℕ = greatest (group_numbers d.nodes) in
    ap (λ v. parsed v (tree_at (trees d.nodes) root) d.classes d.names (references_of d.nodes) n d.verb_names) options
    ∙ ap (λ v. parsed o v d.classes d.names (references_of d.nodes) n d.verb_names) tree
    ∙ ap (λ v. parsed o t v d.names (references_of d.nodes) n d.verb_names) classes
    ∙ ap (λ v. parsed o t [] v (references_of d.nodes) n d.verb_names) names
    ∙ ap (λ v. parsed o t [] [] v n d.verb_names) references
    ∙ ap (λ v. parsed o t [] [] [] v d.verb_names) groups
    ∙ ap (λ v. parsed o t [] [] [] 0 v) verb_names

pub unreachable-requires : goal.unreachable-requires
unfolding refs
unreachable-requires c =
    let none : refs c.group.new.draft.nodes ≡ [] =
    (closes_plain (rw c.plain.ensures at c.in_ok-root.ensures.closes)).refs_are
    ∙ c.in_ok-parts.ensures.adds.refs_are ∙ ap (λ d. refs d.nodes) c.new-draft.ensures in
    no_bad (has_group c.group.new.draft.nodes) (refs c.group.new.draft.nodes) c.in-Err.field-0.at none c.in-Err.ensures

pub returns-clause-under : goal.returns-clause-under
returns-clause-under c =
    rw c.in-Ok.ensures.0 ((rw c.new-branches.ensures at c.in_ok-root.ensures.loose) [] c.in_ok-parts.ensures.loose)

pub returns-clause-turns : goal.returns-clause-turns
returns-clause-turns c =
    rw c.in-Ok.ensures.0 (c.in_ok-root.ensures.closes.turns
    (c.in_ok-parts.ensures.adds.turns (rw c.new-draft.ensures tt)))

pub returns-clause-parsed : goal.returns-clause-parsed
unfolding literally references_of
returns-clause-parsed c =
    let d = c.group.new.draft in
    let made = rw (c.new-branches.ensures, c.plain.ensures, c.in_ok-parts.ensures.stand.trees_are) at
    c.in_ok-root.ensures.made in
    let one = c.in_ok-parts.ensures.adds in
    let two = closes_plain (rw c.plain.ensures at c.in_ok-root.ensures.closes) in
    let start = c.new-draft.ensures in
    ap parsed_of c.in-Ok.ensures.0
    ∙ parsed_is d c.in_ok-root.root c.args.options _ (two.options ∙ one.options ∙ ap (λ v. v.options) start) made.is
    (two.classes ∙ one.classes ∙ ap (λ v. v.classes) start)
    (two.names ∙ one.names ∙ ap (λ v. v.names) start) (two.references ∙ one.references
    ∙ ap (λ v. references_of v.nodes) start)
    (greatest_none d.nodes (λ n. two.groups n ∙ one.groups n ∙ ap (λ v. has_group v.nodes n) start))
    (two.verb_names ∙ one.verb_names ∙ ap (λ v. v.verb_names) start)
