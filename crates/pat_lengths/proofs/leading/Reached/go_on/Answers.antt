use Rattle.std.proofs.Common.{◌<◌, All, sym, subst}
use Rattle.std.proofs.lemmas.Result.{on_ok_weaker}
use Rattle.pat_tree.specs.Rules.{kids_of}
use Rattle.pat_lengths.specs.Leading.{Grows, names_of, places_of}
use Rattle.pat_lengths.proofs.LeadingLemmas.{grows_on}
use Rattle.pat_lengths.proofs.leading.Reached.go_on.Goals as goal

pub add_named-requires : goal.add_named-requires
add_named-requires c =
    subst (λ n. All (λ k. k < n) (places_of c.args.groups.now.places.items (names_of c.args.node.now)))
    (sym c.in_ok-add_kids.ensures.size) c.requires.places

pub returns : goal.returns
returns c =
    let named = places_of c.args.groups.now.places.items (names_of c.args.node.now) in
    on_ok_weaker c.add_named.result (λ (g : Grows c.add_kids.new.self c.add_named.new.self named).
    grows_on _ _ _ (kids_of c.args.node.now) named c.in_ok-add_kids.ensures g) c.add_named.ensures
