use Rattle.std.proofs.Common.{◌≡◌, ◌∙◌, ◌+◌, ◌<◌, ◌≤◌, ◌++◌, ◌==◌, true, false, All, get_or, length, ap, sym, subst}
use Rattle.std.proofs.Common.{arith}
use Rattle.std.specs.List.{list_any}
use Rattle.std.proofs.lemmas.List.Elements.{All-get_or, All-nil, All-weaker}
use Rattle.pat_tree.specs.Nested.{trees}
use Rattle.pat_tree.specs.Parts.{tree_of}
use Rattle.pat_tree.specs.Rules.{kids_of, number_in}
use Rattle.pat_lengths.specs.Leading.{Closed, Grows, is_reached, names_of, places_of}
use Rattle.pat_lengths.specs.Passing.{place_of}
use Rattle.pat_lengths.proofs.LeadingLemmas.{all_in, at_end, closed_now, closed_on, found, reached_below, sound_on}
use Rattle.pat_lengths.proofs.LeadingLemmas.{start_in, start_reached, start_sound}
use Rattle.pat_lengths.proofs.leading.comes_back.Goals as goal

pub add_if-requires : goal.add_if-requires
add_if-requires c =
    let t = c.args.tree.now in
    let m = c.args.target in
    let places = c.args.groups.now.places.items in
    let count = length c.in_ok-reached.reached.seen.items in
    let read : c.place_at.result ≡ place_of places m = c.place_at.ensures
    ∙ ap (λ xs. place_of xs m) c.deref.ensures.value in
    let size : count ≡ t.root + 1 = c.in_ok-reached.ensures.size ∙ ap (λ n. n + 1) c.root.ensures in
    subst (λ o. All (λ k. k < count) (number_in o)) (sym read)
    (start_in (tree_of t) (trees t.nodes) t.root m places c.requires.places count m size)

pub loop-next-init : goal.loop-next-init
loop-next-init c =
    let t = c.args.tree.now in
    let m = c.args.target in
    let places = c.args.groups.now.places.items in
    let b = c.in_ok-reached.reached in
    let r = c.add_if.new.self in
    let read : c.place_at.result ≡ place_of places m = c.place_at.ensures
    ∙ ap (λ xs. place_of xs m) c.deref.ensures.value in
    let g : Grows b r (number_in (place_of places m)) =
    subst (λ o. Grows b r (number_in o)) read c.in_ok-add_if.ensures in
    record {
      listed = g.listed c.in_ok-reached.ensures.listed;
      size = g.size ∙ c.in_ok-reached.ensures.size ∙ ap (λ n. n + 1) c.root.ensures;
      start = start_reached (tree_of t) (trees t.nodes) t.root m places c.requires.places b r g;
      sound = start_sound (tree_of t) (trees t.nodes) t.root m places c.requires.places b r
          c.in_ok-reached.ensures.none g;
      closed = All-nil (Closed (trees t.nodes) places m r.seen.items);
    }

pub node-node-requires : goal.node-node-requires
node-node-requires c =
    let r = c.loop-next.reached in
    let next = c.loop-next.next in
    let id = c.in-Some.id.now in
    let items : c.deref-in-loop-next.result.now ≡ r.nodes.items = c.deref-in-loop-next.ensures.value in
    let lt : next < length r.nodes.items = subst (λ xs. next < length xs) items c.in-Some.ensures.lookup.3.0 in
    let is : id ≡ get_or r.nodes.items next 0 = subst (λ xs. id ≡ get_or xs next 0) items
    (c.in-Some.ensures.lookup.3.1 0) in
    let here : is_reached r id ≡ true = subst (λ k. is_reached r k ≡ true) (sym is)
    (All-get_or (λ k. is_reached r k ≡ true) r.nodes.items next 0 lt c.loop-next.invariant.listed.within) in
    omega (arith, reached_below r id here, c.loop-next.invariant.size)

pub go_on-requires : goal.go_on-requires
go_on-requires c =
    let t = c.args.tree.now in
    let r = c.loop-next.reached in
    let next = c.loop-next.next in
    let id = c.in-Some.id.now in
    let node = c.node-node.result.now in
    let items : c.deref-in-loop-next.result.now ≡ r.nodes.items = c.deref-in-loop-next.ensures.value in
    let lt : next < length r.nodes.items = subst (λ xs. next < length xs) items c.in-Some.ensures.lookup.3.0 in
    let is : id ≡ get_or r.nodes.items next 0 = subst (λ xs. id ≡ get_or xs next 0) items
    (c.in-Some.ensures.lookup.3.1 0) in
    let here : is_reached r id ≡ true = subst (λ k. is_reached r k ≡ true) (sym is)
    (All-get_or (λ k. is_reached r k ≡ true) r.nodes.items next 0 lt c.loop-next.invariant.listed.within) in
    let low : id < length r.seen.items = reached_below r id here in
    record {
      kids = All-weaker (λ k. k < id) (λ k. k < length r.seen.items) (λ k l. omega (arith, l, low)) (kids_of node)
          c.node-node.ensures.below;
      places = all_in (tree_of t) (trees t.nodes) t.root c.args.target c.args.groups.now.places.items
          c.requires.places (length r.seen.items) (names_of node) c.loop-next.invariant.size;
    }

pub loop-next-preserved : goal.loop-next-preserved
loop-next-preserved c =
    let t = c.args.tree.now in
    let whole = tree_of t in
    let ts = trees t.nodes in
    let m = c.args.target in
    let places = c.args.groups.now.places.items in
    let r = c.loop-next.reached in
    let new = c.go_on.new.self in
    let next = c.loop-next.next in
    let id = c.in-Some.id.now in
    let node = c.node-node.result.now in
    let told = c.node-node.ensures in
    let items : c.deref-in-loop-next.result.now ≡ r.nodes.items = c.deref-in-loop-next.ensures.value in
    let lt : next < length r.nodes.items = subst (λ xs. next < length xs) items c.in-Some.ensures.lookup.3.0 in
    let is : id ≡ get_or r.nodes.items next 0 = subst (λ xs. id ≡ get_or xs next 0) items
    (c.in-Some.ensures.lookup.3.1 0) in
    let here : is_reached r id ≡ true = subst (λ k. is_reached r k ≡ true) (sym is)
    (All-get_or (λ k. is_reached r k ≡ true) r.nodes.items next 0 lt c.loop-next.invariant.listed.within) in
    let none : list_any (λ x. x == m) (names_of node) ≡ false = sym c.names.ensures ∙ c.if-names.false in
    let g : Grows r new (kids_of node ++ places_of places (names_of node)) = c.in_ok-go_on.ensures in
    record {
      listed = g.listed c.loop-next.invariant.listed;
      size = g.size ∙ c.loop-next.invariant.size;
      start = λ k e. g.kept k (c.loop-next.invariant.start k e);
      sound = sound_on whole ts t.root m places c.requires.places r new id node told.is told.rules.test
          c.loop-next.invariant.sound here g;
      closed = closed_on whole ts t.root m places c.requires.places r new
          (kids_of node ++ places_of places (names_of node)) next 0 g lt c.loop-next.invariant.closed
          (subst (Closed ts places m new.seen.items) is (closed_now whole ts t.root m places c.requires.places new id
          node told.is told.rules.test told.below none g.added));
    }

pub returns-then-names : goal.returns-then-names
returns-then-names c =
    let t = c.args.tree.now in
    let r = c.loop-next.reached in
    let next = c.loop-next.next in
    let id = c.in-Some.id.now in
    let told = c.node-node.ensures in
    let items : c.deref-in-loop-next.result.now ≡ r.nodes.items = c.deref-in-loop-next.ensures.value in
    let lt : next < length r.nodes.items = subst (λ xs. next < length xs) items c.in-Some.ensures.lookup.3.0 in
    let is : id ≡ get_or r.nodes.items next 0 = subst (λ xs. id ≡ get_or xs next 0) items
    (c.in-Some.ensures.lookup.3.1 0) in
    let here : is_reached r id ≡ true = subst (λ k. is_reached r k ≡ true) (sym is)
    (All-get_or (λ k. is_reached r k ≡ true) r.nodes.items next 0 lt c.loop-next.invariant.listed.within) in
    sym (found (tree_of t) (trees t.nodes) t.root c.args.target c.args.groups.now.places.items c.requires.places id
    c.node-node.result.now told.is told.rules.test
    (c.loop-next.invariant.sound id here) (sym c.names.ensures ∙ c.if-names.true))

pub returns-in_default : goal.returns-in_default
returns-in_default c =
    let t = c.args.tree.now in
    let r = c.loop-next.reached in
    let inv = c.loop-next.invariant in
    let le : length r.nodes.items ≤ c.loop-next.next =
    subst (λ xs. length xs ≤ c.loop-next.next) c.deref-in-loop-next.ensures.value c.in_default.ensures.lookup.3 in
    sym (at_end (tree_of t) (trees t.nodes) t.root c.args.target c.args.groups.now.places.items c.requires.places r
    c.loop-next.next inv.listed le inv.closed inv.start)

pub returns : goal.returns
returns c =
    let t = c.args.tree.now in
    let r = c.loop-next.reached in
    let inv = c.loop-next.invariant in
    let le : length r.nodes.items ≤ c.loop-next.next =
    omega (
      arith,
      inv.listed.count,
      inv.size,
      c.in_ok-add_if.ensures.size,
      c.in_ok-reached.ensures.size,
      c.root.ensures,
      c.len-next-end.ensures,
    ) in
    sym (at_end (tree_of t) (trees t.nodes) t.root c.args.target c.args.groups.now.places.items c.requires.places r
    c.loop-next.next inv.listed le inv.closed inv.start)
