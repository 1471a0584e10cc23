-- Searches within bounds: tests, repeats of an item, parts in turn, branches and groups.
use Rattle.std.proofs.Common.{◌≡◌, ℕ, zero, suc, ◌+◌, ◌-◌, ◌<◌, ◌≤◌, Bool, true, false, List, [], ◌∷◌, length, drop}
use Rattle.std.proofs.Common.{reverse, Option, Some, None, refl, sym, ap, subst, arith}
use Rattle.std.specs.Prelude.{◌==◌}
use Rattle.std.proofs.lemmas.Bool.{le-leb, eqb-false}
use Rattle.std.proofs.lemmas.List.{length-reverse}
use Rattle.std.proofs.Common.{length-drop}
use Rattle.pat_tree.specs.declared.options.PartialMode.TheVariants.{Off}
use Rattle.pat_tree.specs.declared.nodes.Item.{Item}
use Rattle.pat_tree.specs.declared.nodes.AnchorKind.{AnchorKind}
use Rattle.match_items.specs.Items.{one_less, is_none_left, after_item, item_reaches, run_places, longest_run}
use Rattle.match_items.specs.Items.{after_ref, ref_reaches, holds, anchor_reaches}
use Rattle.pat_bounds.specs.declared.bounds.Growth.{Growth}
use Rattle.pat_bounds.specs.declared.bounds.Bound.{Bound}
use Rattle.pat_bounds.specs.Bounds.{at, steady, plus, product, once, never, offered, turns, followed, or_later}
use Rattle.pat_bounds.specs.Bounds.{closed, grouped}
use Rattle.frame_store.specs.Captures.{capture}
use Rattle.ordered_search.specs.Stream.{State, exhausted, reached, by_halt, too_many_units, Stream, Search, ends}
use Rattle.ordered_search.specs.Stream.{nothing, gives, no_ending, is_next_branch, fails_alone, fails_inside}
use Rattle.ordered_search.specs.Stream.{captured}
use Rattle.ordered_search.specs.Setting.{Setting, held, hold, reach, reach_if}
use Rattle.ordered_search.specs.Tests.{move_to, goes_to, run_one, run_break, run_ref, run_anchor, offers, greedy}
use Rattle.ordered_search.specs.Tests.{offer_and, reluctant, lazy_run, run_many}
use Rattle.ordered_search.specs.Parts.{in_order, choices, run_group, run_atomic, run_look, back_to, forget_passed}
use Rattle.search_needs.proofs.TameStreams.{Within, within_more, within_nothing, within_gives, within_if}
use Rattle.search_needs.proofs.TameStreams.{within_step, within_or_else, within_each, within_and_then, within_decide}
use Rattle.search_needs.proofs.TameStreams.{within_catch}
use Rattle.search_needs.proofs.Growing.{at_steady, at_line, at_plus, at_product}
use Rattle.search_needs.proofs.Onward.{Onward, GoesOn, onward_ends, onward_many, onward_turn, onward_choices}
use Rattle.search_needs.proofs.Onward.{onward_group, onward_atomic, onward_look}

-- Runs of an item have no more places than bytes, and no more than the maximum.

run_short : (g : Setting) (item : Item) (n : ℕ) (most : Option ℕ) (p : ℕ)
    → length (run_places g.scene item n most p) ≤ n
unfolding run_places
run_short g item zero most p = omega arith
run_short g item (suc n) most p = by_left (is_none_left most) (λ q. run_short g item n (one_less most) q)
  where
    by_next : (o : Option ℕ) → ((q : ℕ) → length (run_places g.scene item n (one_less most) q) ≤ n) →
        length (elim o as (λ _. List ℕ) [ None ↦ [] | Some q ↦ q ∷ run_places g.scene item n (one_less most) q ])
        ≤ suc n
    by_next None k = omega arith
    by_next (Some q) k = let h = k q in omega (arith, h)

    by_left : (b : Bool) → ((q : ℕ) → length (run_places g.scene item n (one_less most) q) ≤ n) →
        length (elim b as (λ _. List ℕ) [
          | true ↦ []
          | false ↦ elim (after_item g.scene item p) [
            | None ↦ []
            | Some q ↦
                q ∷ run_places g.scene item n (one_less most) q
          ]
        ]) ≤ suc n
    by_left true k = omega arith
    by_left false k = by_next (after_item g.scene item p) k

run_most : (g : Setting) (item : Item) (n m p : ℕ) → length (run_places g.scene item n (Some m) p) ≤ m
unfolding run_places
run_most g item zero m p = omega arith
run_most g item (suc n) m p = by_left (m == 0) refl (λ q. run_most g item n (m - 1) q)
  where
    by_next : 0 < m → (o : Option ℕ) → ((q : ℕ) → length (run_places g.scene item n (Some (m - 1)) q) ≤ m - 1) →
        length (elim o as (λ _. List ℕ) [ None ↦ [] | Some q ↦ q ∷ run_places g.scene item n (Some (m - 1)) q ]) ≤ m
    by_next pos None k = omega arith
    by_next pos (Some q) k = let h = k q in omega (arith, h, pos)

    by_left : (b : Bool) → (m == 0) ≡ b → ((q : ℕ) → length (run_places g.scene item n (Some (m - 1)) q) ≤ m - 1) →
        length (elim b as (λ _. List ℕ) [
          | true ↦ []
          | false ↦ elim (after_item g.scene item p) [
            | None ↦ []
            | Some q ↦
                q ∷ run_places g.scene item n (Some (m - 1)) q
          ]
        ]) ≤ m
    by_left true e k = omega arith
    by_left false e k = let h = eqb-false m 0 e in by_next (omega (arith, h)) (after_item g.scene item p) k

module _ (g : Setting) (off : g.matching.«partial» ≡ Off) where
  -- one more than the subject's length
  abbrev pub size : ℕ
  size = length g.subject + 1

  -- Where so many units are left, its streams stay within these.
  abbrev pub Fits : ℕ → ℕ → ℕ → Search → Type 0
  Fits p r u f = (s : State) → s.units + u ≤ g.matching.frame_limit → Within p r (s.units + u) (f s)

  -- and its states go on
  abbrev pub FitsIn : Bound → Search → Type 0
  FitsIn b f = Fits (at b.steps size) (at b.states size) (at b.units size) f × GoesOn g f

  abbrev pub FitsSome : Option Bound → Search → Type 0
  FitsSome None f = Unit {0}
  FitsSome (Some b) f = FitsIn b f

  -- no more than one state, and no Step
  abbrev Once : Search → Type 0
  Once f = (s : State) → Within 0 1 s.units (f s)

  pub fits_once : (f : Search) → Once f → GoesOn g f → FitsIn once f
  fits_once f h k = (
    λ s le.
        let a = at_steady 0 size in
        let b = at_steady 1 size in
        within_more 0 1 s.units _ _ _ (f s) (omega (arith, a)) (omega (arith, b)) (omega arith) (h s),
    k,
  )

  pub fits_never : (f : Search) → ((s : State) → f s ≡ nothing) → FitsIn never f
  fits_never f h = (
    λ s le. subst (Within _ _ _) (sym (h s)) (within_nothing _ _ _),
    λ s. subst (Onward g s.place) (sym (h s)) (onward_ends g s.place exhausted),
  )

  -- without partial matching reaching the subject's end is not told
  pub unreached : (b : Bool) (s : State) (x : Stream) → reach_if g b s x ≡ x
  unfolding reach_if reach
  unreached true s x = rw off refl
  unreached false s x = refl

  reached_within : (p r u : ℕ) (b : Bool) (s : State) (x : Stream) → Within p r u x → Within p r u (reach_if g b s x)
  reached_within p r u b s x h = subst (Within p r u) (sym (unreached b s x)) h

  pub held_is : (n : ℕ) (s : State) (f : Search) → s.units + n ≤ g.matching.frame_limit
      → held g n s f ≡ f (record s { units = s.units + n })
  unfolding held
  held_is n s f h =
      ap (λ b. elim b [ true ↦ f (record s { units = s.units + n }) | false ↦ ends (by_halt too_many_units) ])
      (le-leb (s.units + n) g.matching.frame_limit h)

  pub held_within : (p r u n : ℕ) (s : State) (f : Search) → s.units + n ≤ g.matching.frame_limit
      → Within p r u (f (record s { units = s.units + n })) → Within p r u (held g n s f)
  held_within p r u n s f le h = subst (Within p r u) (sym (held_is n s f le)) h

  pub fits_hold : Fits 0 1 1 (hold g reached)
  unfolding hold
  fits_hold s le = held_within 0 1 _ 1 s (gives reached) le (within_gives 0 _ _ (omega arith))

  -- Tests.

  within_goes : (o : Option ℕ) (s : State) → Within 0 1 s.units (goes_to o s)
  within_goes None s = within_nothing 0 1 _
  within_goes (Some p) s = within_gives 0 _ _ (omega arith)

  pub once_one : (item : Item) → Once (run_one g item)
  unfolding run_one
  once_one item s = reached_within 0 1 _ _ s _ (within_goes _ s)

  pub once_break : Once (run_break g)
  unfolding run_break
  once_break s = reached_within 0 1 _ _ s _ (within_goes _ s)

  pub once_ref : (ns : List ℕ) (caseless : Bool) → Once (run_ref g ns caseless)
  unfolding run_ref
  once_ref [] caseless s = within_if 0 1 _ g.options.match_unset_backref _ _ (within_gives 0 _ s (omega arith))
      (within_nothing 0 1 _)
  once_ref (m ∷ ns) caseless s = elim (capture s.caps m)
      as (λ o. Within 0 1 s.units (elim o [
        | None ↦ run_ref g ns caseless s
        | Some span ↦ reach_if g (ref_reaches g.scene span.from span.to caseless s.place) s
            (goes_to (after_ref g.scene span.from span.to caseless s.place) s)
      ])) [
        | None ↦ once_ref ns caseless s
        | Some span ↦ reached_within 0 1 _ _ s _ (within_goes _ s)
      ]

  pub once_anchor : (kind : AnchorKind) → Once (run_anchor g kind)
  unfolding run_anchor
  once_anchor kind s =
      reached_within 0 1 _ (anchor_reaches g.scene kind s.place) _ _
      (within_if 0 1 _ (holds g.scene kind s.place) _ _ (within_gives 0 _ _ (omega arith)) (within_nothing 0 1 _))

  -- Repeats of an item.

  fits_offers : (ps : List ℕ) → Fits (length ps) (length ps) 1 (offers g ps)
  unfolding offers
  fits_offers [] s le = within_nothing _ _ _
  fits_offers (p ∷ []) s le = within_step 0 1 _ _ (within_gives 0 _ (move_to p s) (omega arith))
  fits_offers (p ∷ q ∷ ps) s le =
      within_more _ _ _ _ _ _ _ (omega arith) (omega arith) (omega arith)
      (within_step _ _ _ _ (within_or_else 0 1 _ _ _ _ _ (fits_hold (move_to p s) le) (fits_offers (q ∷ ps) s le)))

  within_offer : (b : Bool) (n : ℕ) (s : State) (x : Stream) → s.units + 1 ≤ g.matching.frame_limit
      → Within n n (s.units + 1) x →
      Within (1 + n) (1 + n) (s.units + 1) (offer_and g b s x)
  within_offer true n s x le h =
      within_more _ _ _ _ _ _ _ (omega arith) (omega arith) (omega arith)
      (within_step 0 1 _ _ (within_gives 0 (s.units + 1) s (omega arith)))
  within_offer false n s x le h =
      within_step n (1 + n) _ _
      (within_more (0 + n) (1 + n) (s.units + 1) n (1 + n) (s.units + 1) _ (omega arith) (omega arith) (omega arith)
      (within_or_else 0 1 n n _ _ _ (fits_hold s le) h))

  fits_reluctant : (item : Item) (left : Option ℕ) (ps : List ℕ)
      → Fits (length ps) (length ps) 1 (reluctant g item left ps)
  unfolding reluctant
  fits_reluctant item left [] s le = within_nothing _ _ _
  fits_reluctant item left (p ∷ ps) s le =
      within_more _ _ _ _ _ _ _ (omega arith) (omega arith) (omega arith)
      (within_offer (is_none_left left) (length ps) (move_to p s) _ le
      (reached_within _ _ _ (item_reaches g.scene item p) s _ (fits_reluctant item (one_less left) ps s le)))

  -- so many places are offered
  pub offered_few : (item : Item) (low : ℕ) (high : Option ℕ) (p : ℕ)
      → length (drop low (p ∷ longest_run g.scene item high p)) ≤ at (turns low high) size
  offered_few item low None p =
      let a = length-drop low (p ∷ longest_run g.scene item None p) in
      let b = run_short g item (length g.subject) None p in
      let c = at_line size in
      omega (arith, a, b, c)
  offered_few item low (Some high) p =
      let a = length-drop low (p ∷ longest_run g.scene item (Some high) p) in
      let b = run_most g item (length g.subject) high p in
      let c = at_steady (high + 1 - low) size in
      omega (arith, a, b, c)

  many_few : (item : Item) (low : ℕ) (high : Option ℕ) (lazily : Bool) →
      Fits (at (turns low high) size) (at (turns low high) size) 1 (run_many g item low high lazily)
  unfolding run_many greedy lazy_run
  many_few item low high false s le =
      let ps = drop low (s.place ∷ longest_run g.scene item high s.place) in
      let few = offered_few item low high s.place in
      let e = length-reverse ps in
      reached_within _ _ _ _ s _ (within_more _ _ _ _ _ _ _ (omega (arith, e, few)) (omega (arith, e, few))
      (omega arith) (fits_offers (reverse ps) s le))
  many_few item low high true s le =
      let few = offered_few item low high s.place in
      reached_within _ _ _ _ s _ (within_more _ _ _ _ _ _ _ few few (omega arith)
      (fits_reluctant item _ (drop low (s.place ∷ longest_run g.scene item high s.place)) s le))

  pub fits_many : (item : Item) (low : ℕ) (high : Option ℕ) (lazily : Bool)
      → FitsIn (offered (turns low high)) (run_many g item low high lazily)
  fits_many item low high lazily = (
    λ s le.
        let one = at_steady 1 size in
        within_more _ _ (s.units + 1) _ _ _ _ (omega arith) (omega arith) (omega (arith, one))
        (many_few item low high lazily s (omega (arith, one, le))),
    onward_many g item low high lazily,
  )

  -- Parts one after the other.

  followed_few : (a b : Bound) (f : Search) (fs : List Search) → FitsIn a f
      → FitsIn b (in_order fs) →
      Fits (at (followed a b).steps size) (at (followed a b).states size) (at (followed a b).units size)
      (in_order (f ∷ fs))
  unfolding in_order
  followed_few a b f fs h k s le =
      let p = at_product a.states b.steps size in
      let q = at_plus a.steps (product a.states b.steps) size (omega arith) in
      let r = at_product a.states b.states size in
      let i = at a.units size in
      let j = at b.units size in
      let u = at_plus a.units b.units size (omega arith) in
      within_more _ _ _ _ _ _ _ (omega (arith, p, q)) (omega (arith, r)) (omega (arith, u))
      (within_and_then _ _ (s.units + i) (at b.steps size) (at b.states size) (s.units + (i + j)) (f s) (in_order fs)
      (h.0 s (omega (arith, le, u)))
      (λ t few. within_more _ _ _ _ _ _ _ (omega arith) (omega arith) (omega (arith, few))
      (k.0 t (omega (arith, few, le, u)))))

  pub fits_followed : (a b : Bound) (f : Search) (fs : List Search) → FitsIn a f
      → FitsIn b (in_order fs) → FitsIn (followed a b) (in_order (f ∷ fs))
  fits_followed a b f fs h k = (followed_few a b f fs h k, onward_turn g f fs h.1 k.1)

  -- Branches.

  -- with a unit more than two take
  pub one_more : (a b : Growth) → 1 + (at a size + at b size) ≤ at (plus (steady 1) (plus a b)) size
  one_more a b =
      let one = at_steady 1 size in
      let both = at_plus a b size (omega arith) in
      let more = at_plus (steady 1) (plus a b) size (omega arith) in
      omega (arith, one, both, more)

  choices_few : (a b : Bound) (f : Search) (fs : List Search) → FitsIn a f
      → FitsIn b (choices g fs) →
      Fits (at (or_later a b).steps size) (at (or_later a b).states size) (at (or_later a b).units size)
      (choices g (f ∷ fs))
  unfolding choices
  choices_few a b f [] h k s le =
      let o = at_steady 1 size in
      let p = at_plus a.steps b.steps size (omega arith) in
      let q = at_plus (steady 1) (plus a.steps b.steps) size (omega arith) in
      let r = at_plus a.states b.states size (omega arith) in
      let i = at_plus a.units b.units size (omega arith) in
      let j = at_plus (steady 1) (plus a.units b.units) size (omega arith) in
      let v = s.units + at a.units size in
      within_more _ _ v _ _ _ _ (omega (arith, o, p, q)) (omega (arith, r)) (omega (arith, i, j))
      (within_step _ _ _ _ (within_catch (at a.steps size) (at a.states size) v is_next_branch (f s)
      (h.0 s (omega (arith, le, i, j)))))
  choices_few a b f (f' ∷ fs) h k s le =
      let o = at_steady 1 size in
      let p = at_plus a.steps b.steps size (omega arith) in
      let q = at_plus (steady 1) (plus a.steps b.steps) size (omega arith) in
      let r = at_plus a.states b.states size (omega arith) in
      let i = at_plus a.units b.units size (omega arith) in
      let j = at_plus (steady 1) (plus a.units b.units) size (omega arith) in
      let t : State = record s { units = s.units + 1 } in
      let v = s.units + (1 + (at a.units size + at b.units size)) in
      within_more _ _ v _ _ _ _ (omega (arith, o, p, q)) (omega (arith, r)) (omega (arith, o, i, j))
      (within_step _ _ _ _
      (within_or_else (at a.steps size) (at a.states size) (at b.steps size) (at b.states size) v _ _
      (held_within _ _ v 1 s _ (omega (arith, le, o, i, j))
      (within_catch _ _ v is_next_branch (f t)
      (within_more _ _ _ _ _ _ _ (omega arith) (omega arith) (omega arith)
      (h.0 t (omega (arith, le, o, i, j))))))
      (within_more _ _ _ _ _ _ _ (omega arith) (omega arith) (omega arith) (k.0 s (omega (arith, le, o, i, j))))))

  pub fits_or_else : (a b : Bound) (f : Search) (fs : List Search) → FitsIn a f
      → FitsIn b (choices g fs) → FitsIn (or_later a b) (choices g (f ∷ fs))
  fits_or_else a b f fs h k = (choices_few a b f fs h k, onward_choices g f fs h.1 k.1)

  -- Groups.

  -- with two units more
  pub two_more : (a : Bound) → 2 + at a.units size ≤ at (plus (steady 2) a.units) size
  two_more a = let two = at_steady 2 size in let more = at_plus (steady 2) a.units size (omega arith) in
      omega (arith, two, more)

  group_few : (n : ℕ) (a : Bound) (f : Search) → FitsIn a f
      → Fits (at a.steps size) (at a.states size) (at (plus (steady 2) a.units) size) (run_group g (Some n) f)
  unfolding run_group
  group_few n a f h s le =
      let t : State = record s { units = s.units + 1 } in
      let two = two_more a in
      let v = s.units + (2 + at a.units size) in
      held_within _ _ _ 1 s _ (omega (arith, le, two))
      (within_more _ _ v _ _ _ _ (omega arith) (omega arith) (omega (arith, two))
      (within_each (at a.steps size) (at a.states size) (t.units + at a.units size) 0 1 v (f t) _
      (h.0 t (omega (arith, le, two)))
      (λ u few. within_more _ _ _ _ _ _ _ (omega arith) (omega arith) (omega (arith, few))
      (fits_hold (captured n s.place u) (omega (arith, few, le, two))))))

  pub fits_group : (number : Option ℕ) (a : Bound) (f : Search) → FitsIn a f
      → FitsIn (grouped number a) (run_group g number f)
  unfolding run_group
  fits_group None a f h = (λ s le. h.0 s le, λ s. h.1 s)
  fits_group (Some n) a f h = (group_few n a f h, onward_group g (Some n) f h.1)

  atomic_few : (a : Bound) (f : Search) → FitsIn a f
      → Fits (at a.steps size) (at (steady 1) size) (at (plus (steady 2) a.units) size) (run_atomic g f)
  unfolding run_atomic
  atomic_few a f h s le =
      let t : State = record s { units = s.units + 1 } in
      let one = at_steady 1 size in
      let two = two_more a in
      let v = s.units + (2 + at a.units size) in
      held_within _ _ _ 1 s _ (omega (arith, le, two))
      (within_more _ _ v _ _ _ _ (omega arith) (omega (arith, one)) (omega (arith, two))
      (within_decide (at a.steps size) (at a.states size) (t.units + at a.units size) 0 1 0 0 v no_ending (f t) _
      nothing (h.0 t (omega (arith, le, two)))
      (λ u few. within_more _ _ _ _ _ _ _ (omega arith) (omega arith) (omega (arith, few))
      (fits_hold (forget_passed s u) (omega (arith, few, le, two))))
      (within_nothing 0 0 _)))

  pub fits_atomic : (a : Bound) (f : Search) → FitsIn a f → FitsIn (closed a) (run_atomic g f)
  fits_atomic a f h = (atomic_few a f h, onward_atomic g f h.1)

  look_few : (positive : Bool) (a : Bound) (f : Search) → FitsIn a f →
      Fits (at a.steps size) (at (steady 1) size) (at (plus (steady 2) a.units) size) (run_look g positive true f)
  unfolding run_look
  look_few true a f h s le =
      let t : State = record s { units = s.units + 1 } in
      let one = at_steady 1 size in
      let two = two_more a in
      let v = s.units + (2 + at a.units size) in
      held_within _ _ _ 1 s _ (omega (arith, le, two))
      (within_more _ _ v _ _ _ _ (omega arith) (omega (arith, one)) (omega (arith, two))
      (within_decide (at a.steps size) (at a.states size) (t.units + at a.units size) 0 1 0 0 v fails_alone (f t) _
      nothing (h.0 t (omega (arith, le, two)))
      (λ u few. within_more _ _ _ _ _ _ _ (omega arith) (omega arith) (omega (arith, few))
      (fits_hold (back_to s (forget_passed s u)) (omega (arith, few, le, two))))
      (within_nothing 0 0 _)))
  look_few false a f h s le =
      let t : State = record s { units = s.units + 1 } in
      let one = at_steady 1 size in
      let two = two_more a in
      let v = s.units + (2 + at a.units size) in
      held_within _ _ _ 1 s _ (omega (arith, le, two))
      (within_more _ _ v _ _ _ _ (omega arith) (omega (arith, one)) (omega (arith, two))
      (within_decide (at a.steps size) (at a.states size) (t.units + at a.units size) 0 0 0 1 v fails_inside (f t) _
      (gives reached s) (h.0 t (omega (arith, le, two)))
      (λ u few. within_nothing 0 0 _)
      (within_gives 0 _ s (omega arith))))

  pub fits_look : (positive : Bool) (a : Bound) (f : Search) → FitsIn a f
      → FitsIn (closed a) (run_look g positive true f)
  fits_look positive a f h = (look_few positive a f h, onward_look g positive f h.1)
