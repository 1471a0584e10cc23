use Rattle.std.proofs.Common.{◌≡◌, ◌∙◌, ◌≤◌, None, map, length, refl, ap, arith}
use Rattle.std.proofs.Math.ListN.{get_or-map}
use Rattle.std.proofs.lemmas.List.{take_all}
use Rattle.pat_tree.specs.Groups.{group_of}
use Rattle.pat_tree.specs.Nested.{trees}
use Rattle.pat_tree.specs.Parts.{tree_of}
use Rattle.pat_lengths.specs.Passing.{flagged, passes_at, place_of}
use Rattle.pat_lengths.proofs.RoundLemmas.{placed_answer, round_step}
use Rattle.pat_lengths.proofs.rounds.next_round.Goals as goal

pub returns-clause-further : goal.returns-clause-further
returns-clause-further c d h n =
    let t = c.args.tree.now in
    let answers = c.in_ok-answers.answers.items in
    let places = c.args.places.now in
    let whole : length places ≤ c.loop-place.place-index = omega (arith, c.loop-place-test.false) in
    let items : c.loop-place.next.items ≡ map (passes_at answers) places = c.loop-place.invariant
    ∙ ap (map (passes_at answers)) (take_all c.loop-place.place-index places whole) in
    ap (λ xs. flagged xs n) items ∙ get_or-map (passes_at answers) places n None
    ∙ round_step c.args.question (tree_of t) (trees t.nodes) t.root d n c.args.of.now answers (place_of places n)
    c.in_ok-answers.ensures.count c.in_ok-answers.ensures.kept h (c.requires.places n)

pub returns-clause-round : goal.returns-clause-round
returns-clause-round c n =
    let t = c.args.tree.now in
    let answers = c.in_ok-answers.answers.items in
    let places = c.args.places.now in
    let whole : length places ≤ c.loop-place.place-index = omega (arith, c.loop-place-test.false) in
    let items : c.loop-place.next.items ≡ map (passes_at answers) places = c.loop-place.invariant
    ∙ ap (map (passes_at answers)) (take_all c.loop-place.place-index places whole) in
    ap (λ xs. flagged xs n) items ∙ get_or-map (passes_at answers) places n None
    ∙ placed_answer c.args.question (trees t.nodes) t.root c.args.of.now answers (flagged c.args.of.now)
    (place_of places n) (group_of (tree_of t) n) c.in_ok-answers.ensures.count c.in_ok-answers.ensures.kept
    (λ m. refl) (c.requires.places n)
