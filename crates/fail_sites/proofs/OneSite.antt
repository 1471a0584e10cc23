-- Sites from which the search goes on to one other.
use mathlib.Core.Path.{fun_ext}
use Rattle.std.proofs.Common.{◌≡◌, ◌∙◌, ◌<◌, ◌≤◌, ℕ, zero, suc, ◌+◌, ◌-◌, Bool, true, false, List, [], ◌∷◌, arith, refl}
use Rattle.std.proofs.Common.{sym}
use Rattle.std.proofs.Common.{ap, Option, Some, None}
use Rattle.std.specs.Prelude.{nat_le}
use Rattle.pat_tree.specs.declared.options.PartialMode.TheVariants.{Off}
use Rattle.pat_tree.specs.declared.nodes.Item.{Item}
use Rattle.pat_tree.specs.declared.nodes.AnchorKind.{AnchorKind}
use Rattle.pat_tree.specs.Nested as tree
use Rattle.pat_tree.specs.Nested.{Nested, Row, none, more}
use Rattle.match_items.specs.Items.{one_less, after_item, holds, earliest, anchor_reaches, item_reaches}
use Rattle.ordered_search.specs.Stream.{State, by_halt, too_many_units, reached, captured, step, Stream, Search, ends}
use Rattle.ordered_search.specs.Stream.{◌▸◌, nothing, gives, ◌or_else◌, each, and_then, catch, is_next_branch}
use Rattle.ordered_search.specs.Setting.{Setting, held, hold}
use Rattle.ordered_search.specs.Tests.{move_to, goes_to, run_one, run_anchor}
use Rattle.ordered_search.specs.Parts.{in_order, choices, branches, run_group, is_over, turn, run_repeat}
use Rattle.ordered_search.specs.Run.{run, level, levels}
use Rattle.ordered_search.specs.Plain.{IsPlain, ArePlain}
use Rattle.search_costs.specs.Tasks.{Task, part, closing, turning, task_search, onward, Key}
use Rattle.search_costs.proofs.QuietStreams.{IsQuiet}
use Rattle.search_costs.proofs.QuietSearch.{quiet_run}
use Rattle.fail_sites.specs.Left.{Left, todo, choosing, a_turn}
use Rattle.fail_sites.specs.Graph as sites
use Rattle.fail_sites.specs.Graph.{moved, over_at_once, after_body}
use Rattle.fail_sites.specs.Stands.{over_at, AreOfKeys, and_task, of_part, of_closing, of_turning, IsSearchOf, of_todo}
use Rattle.fail_sites.specs.Stands.{of_choosing, of_turn, standing, turn_search}
use Rattle.fail_sites.specs.SiteLaws.{one_more}
use Rattle.fail_sites.proofs.Streams.{or_nothing, then_given, then_twice, each_then, caught, then_if, reach_off}
use Rattle.fail_sites.proofs.Leading.{Leads, over_is, over_begun, fewer_of, moved_of, row_tasks, row_of, on_part}
use Rattle.fail_sites.proofs.Leading.{on_task}

-- whether a turn is over, by the place where it began
over_same : (low : ℕ) (high : Option ℕ) (p u : ℕ) (s v : State)
    → is_over low high (standing p u s) v ≡ is_over low high (standing p 0 s) v
over_same low None p u s v = refl
over_same low (Some n) p u s v = refl

module _ (g : Setting) (off : g.matching.«partial» ≡ Off) (n p : ℕ) where
  -- Nothing is met.

  in_turn_then : (d : ℕ) (ts : Row) (left : List Task) (s : State)
      → and_then (in_order (levels g (run g d) ts) s) (onward g left) ≡ onward g (row_tasks (suc d) ts left) s
  unfolding in_order levels
  in_turn_then d none left s = then_given s (onward g left)
  in_turn_then d (more t ts) left s =
      then_twice (level g (run g d) t s) (in_order (levels g (run g d) ts)) (onward g left)
      ∙ ap (and_then (level g (run g d) t s)) (fun_ext (λ v. in_turn_then d ts left v))
      ∙ sym (on_part g d t (row_tasks (suc d) ts left) s)

  on_turning : (d low : ℕ) (body : Nested) (high : Option ℕ) (lazily over : Bool) (began s : State) (left : List Task)
      → over_at low high began.place s.place ≡ over
      → onward g (turning d body low high lazily began ∷ left) s ≡ and_then (elim over [
        | true ↦ gives reached s
        | false ↦ run g d (tree.repeat body (low - 1) (one_less high) lazily) s
      ]) (onward g left)
  unfolding in_order task_search
  on_turning d low body high lazily over began s left e =
      ap (λ b. and_then (elim b [
        | true ↦ gives reached s
        | false ↦ run g d (tree.repeat body (low - 1) (one_less high) lazily) s
      ]) (onward g left)) (over_is low high began s ∙ e)

  on_part_so : (d : ℕ) (t : Nested) (left : List Task) (s : State)
      → onward g (part d t ∷ left) s ≡ and_then (run g d t s) (onward g left)
  unfolding in_order task_search
  on_part_so d t left s = refl

  pub skips : {l l' : Left} {f : Search} (s : State) → sites.Skips l l' → IsSearchOf g n p l f → Leads g l' n p f s
  unfolding level branches run_group run_repeat
  skips {f = f} s sites.same h = record { search = f; state = s; of = h; is = λ u. refl }
  skips s sites.past_empty (of_todo (and_task (of_part {d = zero} deep plain) hs)) = absurd (omega arith)
  skips s sites.past_empty (of_todo (and_task {left = left} (of_part {d = suc d} deep plain) hs)) = record {
    search = onward g left;
    state = s;
    of = of_todo hs;
    is = λ u. on_part g d tree.empty left (standing p u s) ∙ then_given (standing p u s) (onward g left);
  }
  skips s sites.past_keep (of_todo (and_task (of_part {d = zero} deep plain) hs)) = absurd (omega arith)
  skips s sites.past_keep (of_todo (and_task {left = left} (of_part {d = suc d} deep plain) hs)) = record {
    search = onward g left;
    state = record s { keep = p };
    of = of_todo hs;
    is = λ u.
        on_part g d tree.keep_out left (standing p u s)
        ∙ then_given (record (standing p u s) { keep = p }) (onward g left);
  }
  skips s sites.in_turn (of_todo (and_task (of_part {d = zero} deep plain) hs)) = absurd (omega arith)
  skips s (sites.in_turn {ts = ts}) (of_todo (and_task {left = left} (of_part {d = suc d} deep plain) hs)) = record {
    search = onward g (row_tasks (suc d) ts left);
    state = s;
    of = of_todo (row_of n p (suc d) deep ts plain hs);
    is = λ u. on_part g d (tree.seq ts) left (standing p u s) ∙ in_turn_then d ts left (standing p u s);
  }
  skips s sites.one_branch (of_todo (and_task (of_part {d = zero} deep plain) hs)) = absurd (omega arith)
  skips s (sites.one_branch {t = t}) (of_todo (and_task {left = left} (of_part {d = suc d} deep plain) hs)) = record {
    search = onward g (part (suc d) t ∷ left);
    state = s;
    of = of_todo (and_task (of_part deep plain.0) hs);
    is = λ u.
        on_part g d (tree.group None (more t none)) left (standing p u s)
        ∙ sym (on_part g d t left (standing p u s));
  }
  skips s sites.by_branches (of_todo (and_task (of_part {d = zero} deep plain) hs)) = absurd (omega arith)
  skips s (sites.by_branches {t = t} {u = u} {ts = ts})
      (of_todo (and_task {left = left} (of_part {d = suc d} deep plain) hs)) = record {
        search = _;
        state = s;
        of = of_choosing {d = d} (omega (arith, deep)) plain.0 plain.1 hs;
        is = λ k. on_part g d (tree.group None (more t (more u ts))) left (standing p k s);
      }
  skips s sites.no_turn (of_todo (and_task (of_part {d = zero} deep plain) hs)) = absurd (omega arith)
  skips s (sites.no_turn {body = body} {lazily = lazily})
      (of_todo (and_task {left = left} (of_part {d = suc d} deep plain) hs)) = record {
        search = onward g left;
        state = s;
        of = of_todo hs;
        is = λ u.
            on_part g d (tree.repeat body 0 (Some 0) lazily) left (standing p u s)
            ∙ then_given (standing p u s) (onward g left);
      }
  skips s (sites.turn_over {body = body} {low = low} {high = high} {lazily = lazily})
      (of_todo (and_task {left = left} (of_turning {d = d} {began = began} deep plain from over) hs)) = record {
        search = onward g left;
        state = s;
        of = of_todo hs;
        is = λ u.
            on_turning d low body high lazily true began (standing p u s) left over
            ∙ then_given (standing p u s) (onward g left);
      }
  skips s (sites.turn_on {body = body} {low = low} {high = high} {lazily = lazily})
      (of_todo (and_task {left = left} (of_turning {d = d} {began = began} deep plain from over) hs)) = record {
        search = onward g (part d (tree.repeat body (low - 1) (one_less high) lazily) ∷ left);
        state = s;
        of = of_todo (and_task (of_part deep plain) hs);
        is = λ u.
            on_turning d low body high lazily false began (standing p u s) left over
            ∙ sym (on_part_so d (tree.repeat body (low - 1) (one_less high) lazily) left (standing p u s));
      }

  -- A unit is held.

  pub record LeadsHeld (l : Left) (f : Search) (s : State) : Type 0 where
    pub search : Search
    pub state : State
    pub of : IsSearchOf g n p l search
    pub is : (u : ℕ) → f (standing p u s) ≡ one_more g (λ k. search (standing p k state)) u

  pub held_then : (u : ℕ) (s : State) (f k h : Search)
      → and_then (f (standing p (u + 1) s)) k ≡ h (standing p (u + 1) s)
      → and_then (held g 1 (standing p u s) f) k ≡ one_more g (λ m. h (standing p m s)) u
  unfolding held
  held_then u s f k h e = then_if (nat_le (u + 1) g.matching.frame_limit) _ _ (by_halt too_many_units) k e

  quiet_branches : (d : ℕ) (ts : Row) → ArePlain ts → (t : State) → IsQuiet (branches g (levels g (run g d) ts) t)
  unfolding run level run_group
  quiet_branches d ts plain t = quiet_run g off (suc d) (tree.group None ts) plain t

  inside : (d m : ℕ) (ts : Row) → ArePlain ts → (left : List Task) (s t : State)
      → and_then (each (branches g (levels g (run g d) ts) t) (λ how v. hold g how (captured m s.place v)))
      (onward g left)
      ≡ and_then (branches g (levels g (run g d) ts) t) (onward g (closing m s.place ∷ left))
  unfolding in_order task_search
  inside d m ts plain left s t =
      each_then (branches g (levels g (run g d) ts) t) (λ how v. hold g how (captured m s.place v)) (onward g left)
      (quiet_branches d ts plain t)

  pub holds_on : {l l' : Left} {f : Search} (s : State) → sites.Holds l l' → IsSearchOf g n p l f → LeadsHeld l' f s
  unfolding hold run_group level task_search
  holds_on s sites.opens (of_todo (and_task (of_part {d = zero} deep plain) hs)) = absurd (omega arith)
  holds_on s (sites.opens {n = m} {ts = ts}) (of_todo (and_task {left = left} (of_part {d = suc d} deep plain) hs)) =
      record {
        search = onward g (part (suc d) (tree.group None ts) ∷ closing m p ∷ left);
        state = s;
        of = of_todo (and_task (of_part deep plain) (and_task (of_closing (omega arith)) hs));
        is = λ u.
            on_part g d (tree.group (Some m) ts) left (standing p u s)
            ∙ held_then u s _ (onward g left) (onward g (part (suc d) (tree.group None ts) ∷ closing m p ∷ left))
            (inside d m ts plain left (standing p u s) (standing p (u + 1) s)
            ∙ sym (on_part g d (tree.group None ts) (closing m p ∷ left) (standing p (u + 1) s)));
      }
  holds_on s (sites.closes {n = m}) (of_todo (and_task {left = left} (of_closing {from = from} before) hs)) = record {
    search = onward g left;
    state = captured m from (standing p 0 s);
    of = of_todo hs;
    is = λ u.
        on_task g (closing m from) left (standing p u s)
        ∙ held_then u (captured m from (standing p 0 s)) (gives reached) (onward g left) (onward g left)
        (then_given (standing p (u + 1) (captured m from (standing p 0 s))) (onward g left));
  }

  -- Step, and a unit is held.

  pub record LeadsPast (l : Left) (m : ℕ) (f : ℕ → Stream) (s : State) : Type 0 where
    pub search : Search
    pub state : State
    pub of : IsSearchOf g m p l search
    pub is : (u : ℕ) → f u ≡ one_more g (λ k. search (standing p k state)) u

  -- a turn, past its Step
  abbrev pub turn_tasks : ℕ → Nested → ℕ → Option ℕ → Bool → List Task → State → List Task
  turn_tasks d body low high lazily left s = part d body ∷ turning d body low high lazily (standing p 0 s) ∷ left

  pub turn_is : (d : ℕ) (body : Nested) (low : ℕ) (high : Option ℕ) (lazily : Bool) (left : List Task) (s : State)
      (u : ℕ)
      → turn_search g d body low high lazily left (standing p u s)
      ≡ step ▸ one_more g (λ m. onward g (turn_tasks d body low high lazily left s) (standing p m s)) u
  unfolding turn each in_order task_search
  turn_is d body low high lazily left s u =
      ap (λ y. step ▸ y) (held_then u s _ (onward g left) (onward g (turn_tasks d body low high lazily left s))
      (then_twice (run g d body (standing p (u + 1) s)) _ (onward g left)
      ∙ ap (and_then (run g d body (standing p (u + 1) s)))
      (fun_ext (λ v. ap (λ b. and_then (elim b [
        | true ↦ gives reached v
        | false ↦ run g d (tree.repeat body (low - 1) (one_less high) lazily) v
      ]) (onward g left)) (over_same low high p u s v)))))

  pub turn_of : (m d : ℕ) (body : Nested) (low : ℕ) (high : Option ℕ) (lazily : Bool) {left : List Task} {ks : List Key}
      (s : State) → m < d → m ≤ n → IsPlain body → AreOfKeys n p left ks
      → AreOfKeys m p (turn_tasks d body low high lazily left s) (after_body body low high lazily ks)
  turn_of m d body low high lazily s deep le plain hs =
      and_task (of_part deep plain)
      (and_task (of_turning deep plain (omega arith) (over_begun low high p)) (fewer_of n m p le hs))

  -- A character is taken.

  pub record Taken (l : Left) (q : ℕ) (f : Search) (s : State) : Type 0 where
    pub search : Search
    pub state : State
    pub of : IsSearchOf g n q l search
    pub is : (u : ℕ) → f (standing p u s) ≡ search (standing q u state)

  pub takes_on : (item : Item) {l l' : Left} {f : Search} (s : State) (q : ℕ) → p < q
      → after_item g.scene item p ≡ Some q → sites.Takes item l l' → IsSearchOf g n p l f → Taken l' q f s
  unfolding level run_one
  takes_on item s q far e sites.taken (of_todo (and_task (of_part {d = zero} deep plain) hs)) = absurd (omega arith)
  takes_on item s q far e sites.taken (of_todo (and_task {left = left} (of_part {d = suc d} deep plain) hs)) = record {
    search = onward g left;
    state = s;
    of = of_todo (moved_of n p q far hs);
    is = λ u.
        on_part g d (tree.one item) left (standing p u s)
        ∙ ap (λ y. and_then y (onward g left))
        (reach_off g off (item_reaches g.scene item p) (standing p u s) _
        ∙ ap (λ o. goes_to o (standing p u s)) e)
        ∙ then_given (standing q u s) (onward g left);
  }

  pub takes_none : (item : Item) {l l' : Left} {f : Search} (s : State) (u : ℕ) → after_item g.scene item p ≡ None
      → sites.Takes item l l' → IsSearchOf g n p l f → f (standing p u s) ≡ nothing
  unfolding level run_one each
  takes_none item s u e sites.taken (of_todo (and_task (of_part {d = zero} deep plain) hs)) = absurd (omega arith)
  takes_none item s u e sites.taken (of_todo (and_task {left = left} (of_part {d = suc d} deep plain) hs)) =
      on_part g d (tree.one item) left (standing p u s)
      ∙ ap (λ y. and_then y (onward g left))
      (reach_off g off (item_reaches g.scene item p) (standing p u s) _
      ∙ ap (λ o. goes_to o (standing p u s)) e)

  -- A simple assertion.

  anchored : (kind : AnchorKind) (b : Bool) (d : ℕ) (left : List Task) (s : State) (u : ℕ)
      → holds g.scene kind p ≡ b
      → onward g (part (suc d) (tree.anchor kind) ∷ left) (standing p u s) ≡ and_then (elim b [
        | true ↦ gives reached (standing p u (record s { early = earliest g.scene kind p s.early }))
        | false ↦ nothing
      ]) (onward g left)
  unfolding level run_anchor
  anchored kind b d left s u e =
      on_part g d (tree.anchor kind) left (standing p u s)
      ∙ ap (λ y. and_then y (onward g left))
      (reach_off g off (anchor_reaches g.scene kind p) _ _
      ∙ ap (λ c. elim c [
        | true ↦ gives reached (standing p u (record s { early = earliest g.scene kind p s.early }))
        | false ↦ nothing
      ]) e)

  pub tests_on : (kind : AnchorKind) {l l' : Left} {f : Search} (s : State) → holds g.scene kind p ≡ true
      → sites.Tests kind l l' → IsSearchOf g n p l f → Leads g l' n p f s
  tests_on kind s e sites.tested (of_todo (and_task (of_part {d = zero} deep plain) hs)) = absurd (omega arith)
  tests_on kind s e sites.tested (of_todo (and_task {left = left} (of_part {d = suc d} deep plain) hs)) = record {
    search = onward g left;
    state = record s { early = earliest g.scene kind p s.early };
    of = of_todo hs;
    is = λ u.
        anchored kind true d left s u e
        ∙ then_given (standing p u (record s { early = earliest g.scene kind p s.early })) (onward g left);
  }

  pub tests_none : (kind : AnchorKind) {l l' : Left} {f : Search} (s : State) (u : ℕ) → holds g.scene kind p ≡ false
      → sites.Tests kind l l' → IsSearchOf g n p l f → f (standing p u s) ≡ nothing
  unfolding each
  tests_none kind s u e sites.tested (of_todo (and_task (of_part {d = zero} deep plain) hs)) = absurd (omega arith)
  tests_none kind s u e sites.tested (of_todo (and_task {left = left} (of_part {d = suc d} deep plain) hs)) =
      anchored kind false d left s u e
