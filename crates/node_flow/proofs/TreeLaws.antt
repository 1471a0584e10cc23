-- The laws of every finished tree.
use Rattle.std.specs.List.{IsDistinct}
use Rattle.std.proofs.Common.{◌≡◌, ℕ, zero, suc, ◌+◌, ◌<◌, ◌≤◌, nat_eq, All, List, [], ◌∷◌, take, length, get_or}
use Rattle.std.proofs.Common.{sym, ap, ◌∙◌, arith}
use Rattle.std.proofs.lemmas.List.{get_or-take, length-take-le, get_or_default}
use Rattle.std.proofs.lemmas.List.Elements.{All-weaker}
use Rattle.pat_tree.specs.declared.nodes.Placed.{Placed}
use Rattle.pat_tree.specs.Growing.{AreBelow}
use Rattle.pat_tree.specs.Sound.{children}
use Rattle.node_flow.specs.Followers.{after_child, rest_among, rest}
use Rattle.node_flow.specs.Order.{PartsComeFirst, PartsStandOnce, PartsStandTogether}
use Rattle.node_flow.specs.Linked.{IsLinked, HangTogether, FollowersHangTogether}
use Rattle.node_flow.proofs.Members.{Once}
use Rattle.node_flow.proofs.Children.{once_among, not_among}
use Rattle.pat_tree.proofs.Reached.{reached_node}
use Rattle.node_flow.proofs.Later.{linked}
use Rattle.node_flow.proofs.Orders.{first}
use Rattle.node_flow.proofs.Apart.{stands_once, stands_together}
use Rattle.node_flow.proofs.Among.{inside, chained, no_child, followed, once_at}

pub below_take : (n m : ℕ) (ps : List Placed) → AreBelow n ps → AreBelow n (take m ps)
below_take n zero ps h = tt
below_take n (suc m) [] h = tt
below_take n (suc m) (p ∷ ps) h = (h.0, below_take (n + 1) m ps h.1)

-- what is known of a root's nodes
pub record Standing (nodes : List Placed) (root : ℕ) : Type 0 where
  pub short : root < length nodes
  pub below : AreBelow 0 (take (root + 1) nodes)
  pub once : IsDistinct nat_eq (children nodes)

module _ (nodes : List Placed) (root : ℕ) (s : Standing nodes root) where
  -- those up to the root
  abbrev ps : List Placed
  ps = take (root + 1) nodes

  count : length ps ≡ root + 1
  count = length-take-le (root + 1) nodes (omega (arith, s.short))

  once : Once (children ps)
  once = once_among (root + 1) nodes s.once

  nothing_follows_the_whole : rest nodes root root ≡ []
  unfolding rest
  nothing_follows_the_whole = not_among 0 ps root (no_child 0 ps root s.below (omega (arith, count)))

  followers_are_inside : (q : ℕ) → All (λ p. p ≤ root) (rest nodes root q)
  unfolding rest
  followers_are_inside q = All-weaker (λ p. p < 0 + length ps) (λ p. p ≤ root) (λ p l. omega (arith, l, count))
      (rest nodes root q) (inside 0 ps q s.below)

  followers_are_chained : (q p : ℕ) (later : List ℕ) → rest nodes root q ≡ p ∷ later → rest nodes root p ≡ later
  unfolding rest
  followers_are_chained q p later e = chained 0 ps q p later once e

  children_are_linked : (q : ℕ) → q ≤ root → (other : Placed)
      → IsLinked (rest nodes root) (rest nodes root q) (get_or nodes q other).node
  unfolding rest
  children_are_linked q l other =
      let p = get_or nodes q other in
      let place : 0 + q ≡ q = omega arith in
      let short : q < length ps = omega (arith, l, count) in
      let is : p ≡ get_or ps q p = get_or_default nodes q other p (omega (arith, l, s.short))
      ∙ sym (get_or-take (root + 1) nodes q p (omega (arith, l))) in
      linked (rest nodes root) (rest nodes root q) p.node (once_at ps q p once short is)
      (λ k member. followed 0 ps q k p s.below once short is member
      ∙ ap (λ j. after_child p.node (rest_among 0 ps j) k) place)

  pub hang_together : HangTogether nodes root
  hang_together = record {
    last = nothing_follows_the_whole;
    inside = followers_are_inside;
    chained = followers_are_chained;
    linked = children_are_linked;
  }

pub followers_hang_together : FollowersHangTogether
followers_hang_together t h = hang_together t.nodes t.root (record {
  short = h.root;
  below = below_take 0 (t.root + 1) t.nodes h.nodes.below;
  once = h.nodes.once;
})

pub parts_come_first : PartsComeFirst
parts_come_first t h q l other =
    let p = get_or t.nodes q other in
    let inside : q < length t.nodes = omega (arith, l, h.root) in
    let is : p ≡ get_or t.nodes q p = get_or_default t.nodes q other p inside in
    first t.nodes q p inside is (reached_node t.nodes q p h.nodes.below inside is).1

pub parts_stand_once : PartsStandOnce
parts_stand_once t h = stands_once t.nodes t.root h.nodes.once

pub parts_stand_together : PartsStandTogether
parts_stand_together t h q inside = stands_together t.nodes t.root q h.nodes.once h.nodes.below h.root inside
