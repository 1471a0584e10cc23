use Rattle.std.proofs.Common.{◌≡◌, ◌∙◌, suc, false, [], ap, refl, sym}
use Rattle.pat_tree.specs.Groups.{group_of}
use Rattle.pat_tree.specs.Nested.{trees}
use Rattle.pat_tree.specs.Parts.{tree_of}
use Rattle.pat_lengths.specs.Nodes.{captures}
use Rattle.pat_lengths.specs.Passing.{passes_at, place_of}
use Rattle.pat_lengths.specs.declared.rounds.Question.TheVariants.{Names}
use Rattle.pat_lengths.proofs.RoundLemmas.{leads_nowhere, placed_answer}
use Rattle.pat_lengths.proofs.behind.leads_to_itself.Goals as goal

pub returns-then-not-flag_at : goal.returns-then-not-flag_at
returns-then-not-flag_at c =
    let t = c.args.tree.now in
    let whole = tree_of t in
    let target = c.args.target in
    let names = c.args.names.now in
    let place = place_of c.args.groups.now.places.items target in
    let told : passes_at names place ≡ false =
    ap (λ p. passes_at names p) (sym (c.place_at-place.ensures ∙ ap (λ xs. place_of xs target) c.deref.ensures.value))
    ∙ sym c.flag_at.ensures ∙ c.if-not-flag_at.true in
    let answered = placed_answer Names (trees t.nodes) t.root [] names (λ n. false) place (group_of whole target)
    c.requires.count c.requires.kept (λ n. refl) (c.requires.table.places target) in
    sym (leads_nowhere whole (λ n. false) target (suc (captures whole)) target (sym answered ∙ told))
