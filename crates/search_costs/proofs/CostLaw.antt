-- Failures with the same keys cost the same.
use Rattle.std.proofs.Common.{◌≡◌, ◌<◌, ◌≤◌, ◌∙◌, ℕ, suc, ◌+◌, false, List, [], ◌∷◌, All, length}
use Rattle.std.proofs.Common.{None, arith, refl, sym, subst}
use Rattle.std.proofs.lemmas.List.{length-replicate}
use Rattle.std.proofs.lemmas.List.Elements.{All-replicate, All-head, All-tail, All-nil, All-cons}
use Rattle.ordered_search.specs.Stream.{State, first_state, exhausted, by_halt, too_many_units, Stream}
use Rattle.ordered_search.specs.Setting.{Setting}
use Rattle.ordered_search.specs.Forward.{IsWithin}
use Rattle.ordered_search.proofs.FollowStreams.{IsNear, Follows}
use Rattle.ordered_search.proofs.ForwardStreams.{IsOnWay}
use Rattle.search_costs.specs.Tasks.{Task, part, closing, turning, onward, Key, keys, IsPlainTask, IsBegun, IsDeeper}
use Rattle.search_costs.specs.Costs.{steps, IsTooMuch, holding, Cost, IsWhole, IsAt, IsKnown, IsExact}
use Rattle.search_costs.specs.CostLaw.{CostLaw}
use Rattle.search_costs.proofs.DeeperStreams.{Extends}
use Rattle.search_costs.proofs.Failing.{extended_fails, short_fails, follower_fails, followed_passes}
use Rattle.search_costs.proofs.KeptTasks.{keeps_onward, follows_onward, keys_later}
use Rattle.search_costs.proofs.Onward.{deepened, all_deepened, deepest, extends_onward, late_onward}

-- passed sooner
fewer : (n m : ℕ) (x : Stream) → n ≤ m → IsTooMuch n x → IsTooMuch m x
fewer n m x le h = let few = h.few in record { count = h.count; few = omega (arith, le, few); is = h.is }

-- Tasks that go by the place alone, with another depth.
pub keeps_plain : (n : ℕ) (xs : List Task) → All IsPlainTask xs → All IsPlainTask (all_deepened n xs)
keeps_plain n [] h = All-nil IsPlainTask
keeps_plain n (a ∷ xs) h =
    All-cons IsPlainTask (deepened n a) (all_deepened n xs) (plain_deepened a (All-head IsPlainTask a xs h))
    (keeps_plain n xs (All-tail IsPlainTask a xs h))
  where
    plain_deepened : (a : Task) → IsPlainTask a → IsPlainTask (deepened n a)
    plain_deepened (part d x) h = h
    plain_deepened (closing k from) h = tt
    plain_deepened (turning d body low high lazily began) h = h

-- the first state at a place, with so many units held
abbrev fresh : Setting → ℕ → ℕ → State
fresh g p n = record (first_state g.groups p) { units = n }

-- A search stood at s, and one stands at t, with tasks of the same keys.
module _ (g : Setting) (whole : IsWhole g) {p : ℕ} {ks : List Key} {left : List Task} {s : State}
    (at : IsAt g p ks left s) {left' : List Task} {t : State} (at' : IsAt g p ks left' t) where
  -- a depth that is enough for both
  abbrev pub depth : ℕ
  depth = deepest left + deepest left'

  abbrev deep : List Task
  deep = all_deepened depth left

  abbrev pub deep' : List Task
  deep' = all_deepened depth left'

  same_place : t.place ≡ s.place
  same_place = at'.place ∙ sym at.place

  fresh_on_way : (n : ℕ) → IsOnWay g None (fresh g s.place n)
  fresh_on_way n = record {
    kept = tt;
    here = at.visit.here;
    passed = tt;
    caps = All-replicate (IsWithin (length g.subject)) g.groups None tt;
    groups = length-replicate g.groups None;
  }

  near_fresh : (m n : ℕ) → m ≤ n → IsNear (fresh g s.place m) (fresh g s.place n)
  near_fresh m n few = record { place = refl; units = few }

  begun' : All (IsBegun s.place) left'
  begun' = subst (λ p. All (IsBegun p) left') same_place at'.visit.begun

  same_keys : (m n : ℕ) → keys (fresh g s.place m) left' ≡ keys (fresh g s.place n) left
  same_keys m n =
      keys_later left' left t s _ _ same_place refl (omega arith) at'.visit.begun at.visit.begun
      (at'.keys ∙ sym at.keys)

  -- with no more units held
  pub meets_failure : (c n : ℕ) → onward g left (holding n s) ≡ steps c exhausted → t.units ≤ n
      → onward g deep' t ≡ steps c exhausted
  meets_failure c n is few =
      let x : onward g deep (holding n s) ≡ steps c exhausted =
      extended_fails c exhausted (λ e. cc)
      (subst (λ x. Extends x (onward g deep (holding n s))) is
      (extends_onward g depth left (omega arith) (holding n s))) in
      let y : onward g deep (fresh g s.place n) ≡ steps c exhausted =
      follower_fails c (subst (Follows false (onward g deep (fresh g s.place n))) x
      (keeps_onward g whole.off deep (keeps_plain depth left at.visit.plain) (fresh g s.place n) (holding n s)
      (record { place = refl; units = omega arith }))) in
      let z : onward g deep' (fresh g s.place t.units) ≡ steps c exhausted =
      follower_fails c (subst (Follows false (onward g deep' (fresh g s.place t.units))) y
      (follows_onward g whole.off whole.text depth left' left (fresh g s.place t.units) (fresh g s.place n)
      (near_fresh t.units n few) (fresh_on_way t.units) (fresh_on_way n) at.visit.plain begun' at.visit.begun
      (same_keys t.units n))) in
      follower_fails c (subst (Follows false (onward g deep' t)) z
      (keeps_onward g whole.off deep' (keeps_plain depth left' at'.visit.plain) t (fresh g s.place t.units)
      (record { place = same_place; units = omega arith })))

  -- with no fewer
  pub meets_limit : (c n : ℕ) → IsTooMuch c (onward g left (holding n s)) → n ≤ t.units
      → IsTooMuch c (onward g deep' t)
  meets_limit c n met few =
      let x : onward g deep (holding n s) ≡ steps met.count (by_halt too_many_units) =
      extended_fails met.count (by_halt too_many_units) (λ e. cc)
      (subst (λ x. Extends x (onward g deep (holding n s))) met.is
      (extends_onward g depth left (omega arith) (holding n s))) in
      let y : IsTooMuch met.count (onward g deep (fresh g s.place n)) =
      followed_passes met.count
      (keeps_onward g whole.off deep (keeps_plain depth left at.visit.plain) (holding n s) (fresh g s.place n)
      (record { place = refl; units = omega arith })) x in
      let z : IsTooMuch y.count (onward g deep' (fresh g s.place t.units)) =
      followed_passes y.count
      (follows_onward g whole.off whole.text depth left left' (fresh g s.place n) (fresh g s.place t.units)
      (near_fresh n t.units few) (fresh_on_way n) (fresh_on_way t.units) at'.visit.plain at.visit.begun begun'
      (sym (same_keys t.units n))) y.is in
      let last : IsTooMuch z.count (onward g deep' t) =
      followed_passes z.count
      (keeps_onward g whole.off deep' (keeps_plain depth left' at'.visit.plain) (fresh g s.place t.units) t
      (record { place = sym same_place; units = omega arith })) z.is in
      let first = met.few in let second = y.few in let third = z.few in
      fewer z.count c (onward g deep' t) (omega (arith, first, second, third)) last

  pub extends_deep : Extends (onward g left' t) (onward g deep' t)
  extends_deep = extends_onward g depth left' (omega arith) t

-- What is known, where a search stands there, with enough depth for n Steps.
module _ (g : Setting) (whole : IsWhole g) {p : ℕ} {ks : List Key} {c : Cost} {left : List Task} {s : State}
    (at : IsAt g p ks left s) (n : ℕ) (few : c.steps ≤ n) (deep : All (IsDeeper n) left) where
  pub fails_again : IsKnown g p ks c → s.units ≤ c.most → onward g left s ≡ steps c.steps exhausted
  fails_again known room =
      short_fails c.steps (suc n) exhausted (extends_deep g whole known.at at)
      (meets_failure g whole known.at at c.steps c.most known.fails room) (late_onward g n left deep s)
      (omega (arith, few))

  pub passes_again : IsExact g p ks c → c.most < s.units → s.units ≤ g.matching.frame_limit
      → IsTooMuch c.steps (onward g left s)
  passes_again exact over fits =
      let there = meets_limit g whole exact.at at c.steps (suc c.most) (exact.passes (omega (arith, over, fits)))
      (omega (arith, over)) in
      let less = there.few in
      record {
        count = there.count;
        few = there.few;
        is = short_fails there.count (suc n) (by_halt too_many_units) (extends_deep g whole exact.at at) there.is
            (late_onward g n left deep s) (omega (arith, few, less));
      }

pub cost_law : CostLaw
cost_law g p ks c left s whole known at deep = record {
  fails = fails_again g whole at c.steps (omega arith) deep known;
  passes = passes_again g whole at c.steps (omega arith) deep;
}
