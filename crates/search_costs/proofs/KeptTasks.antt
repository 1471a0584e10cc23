-- What is left of a search fails alike from states at one place, where tasks of the same keys are left.
use Rattle.std.proofs.Common.{◌≡◌, ◌≤◌, ◌∙◌, ℕ, ◌-◌, ◌&&◌, ◌==◌, Bool, true, false, List, [], ◌∷◌, All}
use Rattle.std.proofs.Common.{arith, refl, sym, ap, subst, Option, Some, None}
use Rattle.std.specs.Prelude.{map, nat_le}
use Rattle.std.proofs.lemmas.Bool.Decides.{nat_tests}
use Rattle.std.proofs.lemmas.List.Elements.{All-head, All-tail, All-weaker}
use Rattle.pat_tree.specs.declared.options.PartialMode.TheVariants.{Off}
use Rattle.pat_tree.specs.Nested as tree
use Rattle.pat_tree.specs.Nested.{Nested}
use Rattle.match_items.specs.Items.{one_less}
use Rattle.match_items.specs.Subjects.{IsText}
use Rattle.ordered_search.specs.Stream.{State, How, reached, accepted, Stream, Search, gives}
use Rattle.ordered_search.specs.Stream.{captured, each}
use Rattle.ordered_search.specs.Setting.{Setting, hold}
use Rattle.ordered_search.specs.Parts.{in_order, is_over}
use Rattle.ordered_search.specs.Run.{run}
use Rattle.ordered_search.proofs.FollowStreams.{IsNear, Follows, at_limit, at_stop, at_end, at_state, at_step, Keeps}
use Rattle.ordered_search.proofs.FollowStreams.{follows_gives, follows_if, follows_or_else}
use Rattle.ordered_search.proofs.FollowSearch.{AllKeep, follows_hold, keeps_in_order, keeps_run}
use Rattle.ordered_search.proofs.ForwardStreams.{IsOnWay, Forward}
use Rattle.search_costs.specs.Tasks.{Task, part, closing, turning, task_search, onward, Key, part_key, closing_key}
use Rattle.search_costs.specs.Tasks.{turning_key, key, keys, IsPlainTask, IsBegun}
use Rattle.search_costs.proofs.Onward.{deepened, all_deepened, forward_task}

-- where a turn would be over, by the place
over_near : (low : ℕ) (high : Option ℕ) (began t s : State) → t.place ≡ s.place
    → is_over low high began t ≡ is_over low high began s
over_near low None began t s same = ap (λ p. nat_le low 1 && (began.place == p)) same
over_near low (Some n) began t s same = refl

-- Of two turns that began by a place, and are both over there or both not, the same holds later.
over_later : (b : Bool) (began began' here later : ℕ) → began ≤ here → began' ≤ here → here ≤ later
    → (b && (began == here)) ≡ (b && (began' == here)) → (b && (began == later)) ≡ (b && (began' == later))
over_later false began began' here later le le' on e = refl
over_later true began began' here later le le' on e = grind (arith, nat_tests)

key_later : (a b : Task) (t s u v : State) → t.place ≡ s.place → u.place ≡ v.place → s.place ≤ v.place
    → IsBegun t.place a → IsBegun s.place b → key t a ≡ key s b → key u a ≡ key v b
key_later (part d x) (part d' x') t s u v same same' on h k e = e
key_later (part d x) (closing n from) t s u v same same' on h k e = absurd (cc e)
key_later (part d x) (turning d' body low high lazily began) t s u v same same' on h k e = absurd (cc e)
key_later (closing n from) (part d' x') t s u v same same' on h k e = absurd (cc e)
key_later (closing n from) (closing n' from') t s u v same same' on h k e = e
key_later (closing n from) (turning d' body low high lazily began) t s u v same same' on h k e = absurd (cc e)
key_later (turning d body low high lazily began) (part d' x') t s u v same same' on h k e = absurd (cc e)
key_later (turning d body low high lazily began) (closing n from) t s u v same same' on h k e = absurd (cc e)
key_later (turning d body low (Some n) lazily began) (turning d' body' low' (Some n') lazily' began') t s u v same
    same' on h k e = e
key_later (turning d body low (Some n) lazily began) (turning d' body' low' None lazily' began') t s u v same same' on
    h k e = absurd (cc e)
key_later (turning d body low None lazily began) (turning d' body' low' (Some n') lazily' began') t s u v same same'
    on h k e = absurd (cc e)
key_later (turning d body low None lazily began) (turning d' body' low' None lazily' began') t s u v same same' on h k
    e =
    let lows : low ≡ low' = cc e in
    let over : (nat_le low 1 && (began.place == t.place)) ≡ (nat_le low' 1 && (began'.place == s.place)) = cc e in
    let here : (nat_le low 1 && (began.place == s.place)) ≡ (nat_le low 1 && (began'.place == s.place)) =
    sym (ap (λ p. nat_le low 1 && (began.place == p)) same) ∙ over
    ∙ sym (ap (λ n. nat_le n 1 && (began'.place == s.place)) lows) in
    let begun : began.place ≤ s.place = subst (λ p. began.place ≤ p) same h in
    let there : (nat_le low 1 && (began.place == v.place)) ≡ (nat_le low 1 && (began'.place == v.place)) =
    over_later (nat_le low 1) began.place began'.place s.place v.place begun k on here in
    let later : is_over low None began u ≡ is_over low' None began' v =
    ap (λ p. nat_le low 1 && (began.place == p)) same' ∙ there
    ∙ ap (λ n. nat_le n 1 && (began'.place == v.place)) lows in
    cc (e, later)

pub keys_later : (left left' : List Task) (t s u v : State) → t.place ≡ s.place → u.place ≡ v.place → s.place ≤ v.place
    → All (IsBegun t.place) left → All (IsBegun s.place) left' → keys t left ≡ keys s left'
    → keys u left ≡ keys v left'
keys_later [] [] t s u v same same' on h k e = refl
keys_later [] (b ∷ ys) t s u v same same' on h k e = absurd (cc e)
keys_later (a ∷ xs) [] t s u v same same' on h k e = absurd (cc e)
keys_later (a ∷ xs) (b ∷ ys) t s u v same same' on h k e =
    let first : key t a ≡ key s b = cc e in
    let rest : keys t xs ≡ keys s ys = cc e in
    let one : key u a ≡ key v b =
    key_later a b t s u v same same' on (All-head (IsBegun t.place) a xs h) (All-head (IsBegun s.place) b ys k)
    first in
    let others : keys u xs ≡ keys v ys =
    keys_later xs ys t s u v same same' on (All-tail (IsBegun t.place) a xs h)
    (All-tail (IsBegun s.place) b ys k) rest in
    cc (one, others)

begun_later : (p q : ℕ) → p ≤ q → (a : Task) → IsBegun p a → IsBegun q a
begun_later p q le (part d t) h = tt
begun_later p q le (closing n from) h = omega (arith, le, h)
begun_later p q le (turning d body low high lazily began) h = omega (arith, le, h)

module _ (g : Setting) (off : g.matching.«partial» ≡ Off) where
  -- The same tasks.

  keeps_task : (a : Task) → IsPlainTask a → Keeps (task_search g a)
  unfolding task_search
  keeps_task (part d x) plain t s near = keeps_run g off d x plain t s near
  keeps_task (closing n from) plain t s near =
      follows_hold g off reached _ _ (record { place = near.place; units = near.units })
  keeps_task (turning d body low high lazily began) plain t s near =
      subst (λ c. Follows false
      (elim c [ true ↦ gives reached t | false ↦ run g d (tree.repeat body (low - 1) (one_less high) lazily) t ])
      (elim (is_over low high began s) [
        | true ↦ gives reached s
        | false ↦ run g d (tree.repeat body (low - 1) (one_less high) lazily) s
      ]))
      (sym (over_near low high began t s near.place))
      (follows_if (is_over low high began s) (follows_gives reached t s near)
      (keeps_run g off d (tree.repeat body (low - 1) (one_less high) lazily) plain t s near))

  keep_tasks : (left : List Task) → All IsPlainTask left → AllKeep (map (task_search g) left)
  keep_tasks [] plain = tt
  keep_tasks (a ∷ xs) plain = (
    keeps_task a (All-head IsPlainTask a xs plain),
    keep_tasks xs (All-tail IsPlainTask a xs plain),
  )

  pub keeps_onward : (left : List Task) → All IsPlainTask left → Keeps (onward g left)
  keeps_onward left plain = keeps_in_order _ (keep_tasks left plain)

  -- Tasks of the same keys, with the same depth.

  unfoldable by_key : ℕ → Key → Search
  by_key n (part_key x) s = run g n x s
  by_key n (closing_key k) s = hold g reached (captured k 0 s)
  by_key n (turning_key body low high lazily over) s =
      elim over [
        | true ↦ gives reached s
        | false ↦ run g n (tree.repeat body (low - 1) (one_less high) lazily) s
      ]

  follows_task : (n : ℕ) (a b : Task) (t s : State) → IsNear t s → IsPlainTask b → key t a ≡ key s b
      → Follows false (task_search g (deepened n a) t) (task_search g (deepened n b) s)
  unfolding task_search by_key
  follows_task n (part d x) (part d' x') t s near plain e =
      subst (λ z. Follows false z (run g n x' s)) (sym (ap (λ k. by_key n k t) e))
      (keeps_run g off n x' plain t s near)
  follows_task n (part d x) (closing m from) t s near plain e = absurd (cc e)
  follows_task n (part d x) (turning d' body low high lazily began) t s near plain e = absurd (cc e)
  follows_task n (closing k from) (part d' x') t s near plain e = absurd (cc e)
  follows_task n (closing k from) (closing k' from') t s near plain e =
      follows_hold g off reached _ _ (record { place = near.place; units = near.units })
  follows_task n (closing k from) (turning d' body low high lazily began) t s near plain e = absurd (cc e)
  follows_task n (turning d body low high lazily began) (part d' x') t s near plain e = absurd (cc e)
  follows_task n (turning d body low high lazily began) (closing m from) t s near plain e = absurd (cc e)
  follows_task n (turning d body low high lazily began) (turning d' body' low' high' lazily' began') t s near plain e =
      subst (λ z. Follows false z (by_key n (key s (turning d' body' low' high' lazily' began')) s))
      (sym (ap (λ k. by_key n k t) e))
      (follows_if (is_over low' high' began' s) (follows_gives reached t s near)
      (keeps_run g off n (tree.repeat body' (low' - 1) (one_less high') lazily') plain t s near))

  -- from states on the way
  follows_each_on : {f h : How → Search} (p : ℕ) {y x : Stream} → Follows false y x → Forward g None p y
      → Forward g None p x
      → ((how : How) (t s : State) → IsNear t s → p ≤ s.place → IsOnWay g None t → IsOnWay g None s
      → Follows false (f how t) (h how s)) → Follows false (each y f) (each x h)
  unfolding each Forward
  follows_each_on p at_limit to to' k = at_limit
  follows_each_on p (at_stop e) to to' k = absurd (cc e)
  follows_each_on p (at_end e) to to' k = at_end e
  follows_each_on p (at_state how t s near h) to to' k =
      follows_or_else (k how t s near to'.0 to.1 to'.1) (follows_each_on p h to.2 to'.2 k)
  follows_each_on p (at_step h) to to' k = at_step (follows_each_on p h to to' k)

  module _ (text : IsText g.options g.subject) (n : ℕ) where
    -- the task goes forward, whatever its depth
    begun_deepened : (p : ℕ) (a : Task) → IsBegun p a → IsBegun p (deepened n a)
    begun_deepened p (part d x) h = tt
    begun_deepened p (closing k from) h = h
    begun_deepened p (turning d body low high lazily began) h = h

    pub follows_onward : (left left' : List Task) (t s : State) → IsNear t s → IsOnWay g None t → IsOnWay g None s
        → All IsPlainTask left' → All (IsBegun t.place) left → All (IsBegun s.place) left'
        → keys t left ≡ keys s left'
        → Follows false (onward g (all_deepened n left) t) (onward g (all_deepened n left') s)
    unfolding in_order
    follows_onward [] [] t s near on on' plain h k e = follows_gives reached t s near
    follows_onward [] (b ∷ ys) t s near on on' plain h k e = absurd (cc e)
    follows_onward (a ∷ xs) [] t s near on on' plain h k e = absurd (cc e)
    follows_onward (a ∷ xs) (b ∷ ys) t s near on on' plain h k e =
        let first : key t a ≡ key s b = cc e in
        let rest : keys t xs ≡ keys s ys = cc e in
        let begun = All-head (IsBegun t.place) a xs h in
        let begun' = All-head (IsBegun s.place) b ys k in
        let later = All-tail (IsBegun t.place) a xs h in
        let later' = All-tail (IsBegun s.place) b ys k in
        follows_each_on s.place (follows_task n a b t s near (All-head IsPlainTask b ys plain) first)
        (subst (λ p. Forward g None p (task_search g (deepened n a) t)) near.place
        (forward_task g text (deepened n a) t (begun_deepened t.place a begun) on))
        (forward_task g text (deepened n b) s (begun_deepened s.place b begun') on')
        (elim [
          | reached ↦ λ u v close to onto onto'.
              let here : t.place ≤ u.place = let one = near.place in let two = close.place in omega arith in
              follows_onward xs ys u v close onto onto' (All-tail IsPlainTask b ys plain)
              (All-weaker (IsBegun t.place) (IsBegun u.place) (begun_later t.place u.place here) xs later)
              (All-weaker (IsBegun s.place) (IsBegun v.place) (begun_later s.place v.place to) ys later')
              (keys_later xs ys t s u v near.place close.place to later later' rest)
          | accepted ↦ λ u v close to onto onto'. follows_gives accepted u v close
        ])
