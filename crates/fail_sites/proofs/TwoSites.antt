-- Sites with a Step, and sites from which the search may go on to two others.
use Rattle.std.proofs.Common.{◌≡◌, ◌∙◌, ◌<◌, ◌≤◌, ℕ, zero, suc, ◌+◌, true, false, List, ◌∷◌, arith, refl, sym, ap}
use Rattle.std.proofs.Common.{Option, Some, None}
use Rattle.pat_tree.specs.declared.options.PartialMode.TheVariants.{Off}
use Rattle.pat_tree.specs.Nested as tree
use Rattle.pat_tree.specs.Nested.{Nested, Row, none, more}
use Rattle.ordered_search.specs.Stream.{State, reached, step, Stream, Search, ◌▸◌, gives, ◌or_else◌, each, go_on}
use Rattle.ordered_search.specs.Stream.{and_then, catch, is_next_branch}
use Rattle.ordered_search.specs.Setting.{Setting, held, hold}
use Rattle.ordered_search.specs.Parts.{choices, turn, run_repeat}
use Rattle.ordered_search.specs.Run.{run, level, levels}
use Rattle.ordered_search.specs.Plain.{IsPlain}
use Rattle.search_costs.specs.Tasks.{Task, part, task_search, onward}
use Rattle.search_costs.proofs.QuietStreams.{IsQuiet}
use Rattle.search_costs.proofs.QuietSearch.{quiet_run}
use Rattle.search_costs.proofs.RunLaw.{each_or_else}
use Rattle.fail_sites.specs.Left.{Left}
use Rattle.fail_sites.specs.Graph as sites
use Rattle.fail_sites.specs.Stands.{and_task, of_part, IsSearchOf, of_todo, of_choosing, of_turn, standing}
use Rattle.fail_sites.specs.Stands.{choosing_search, turn_search}
use Rattle.fail_sites.specs.SiteLaws.{one_more}
use Rattle.fail_sites.proofs.Streams.{then_given, caught}
use Rattle.fail_sites.proofs.Leading.{fewer_of, on_part}
use Rattle.fail_sites.proofs.OneSite.{held_then, turn_tasks, turn_is, turn_of}

module _ (g : Setting) (off : g.matching.«partial» ≡ Off) (n p : ℕ) where
  -- Past a Step, with m Steps left.

  pub record LeadsByStep (l : Left) (f : Search) (s : State) : Type 0 where
    pub search : Search
    pub state : State
    pub of : (m : ℕ) → n ≡ suc m → IsSearchOf g m p l search
    pub is : (u : ℕ) → f (standing p u s) ≡ step ▸ search (standing p u state)

  quiet_level : (d : ℕ) (t : Nested) → IsPlain t → (s : State) → IsQuiet (level g (run g d) t s)
  unfolding run
  quiet_level d t plain s = quiet_run g off (suc d) t plain s

  pub steps_on : {l l' : Left} {f : Search} (s : State) → sites.Steps l l' → IsSearchOf g n p l f → LeadsByStep l' f s
  unfolding choices each levels
  steps_on s (sites.last_branch {t = t}) (of_choosing {d = d} {left = left} deep plain plains hs) = record {
    search = onward g (part (suc d) t ∷ left);
    state = s;
    of = λ m e.
        of_todo (and_task (of_part (omega (arith, deep, e)) plain) (fewer_of n m p (omega (arith, e)) hs));
    is = λ u. ap (λ y. step ▸ y)
        (ap (λ y. and_then y (onward g left))
        (caught (level g (run g d) t (standing p u s)) (quiet_level d t plain (standing p u s)))
        ∙ sym (on_part g d t left (standing p u s)));
  }

  pub record LeadsByTurn (l : Left) (f : Search) (s : State) : Type 0 where
    pub search : Search
    pub state : State
    pub of : (m : ℕ) → n ≡ suc m → IsSearchOf g m p l search
    pub is : (u : ℕ) → f (standing p u s) ≡ step ▸ one_more g (λ k. search (standing p k state)) u

  pub turns_on : {l l' : Left} {f : Search} (s : State) → sites.Turns l l' → IsSearchOf g n p l f → LeadsByTurn l' f s
  unfolding level run_repeat
  turns_on s sites.owed (of_todo (and_task (of_part {d = zero} deep plain) hs)) = absurd (omega arith)
  turns_on s (sites.owed {body = body} {low = low} {high = high} {lazily = lazily})
      (of_todo (and_task {left = left} (of_part {d = suc d} deep plain) hs)) = record {
        search = onward g (turn_tasks g off n p d body (suc low) high lazily left s);
        state = s;
        of = λ m e.
            of_todo (turn_of g off n p m d body (suc low) high lazily s (omega (arith, deep, e)) (omega
            (arith, e)) plain hs);
        is = λ u.
            on_part g d (tree.repeat body (suc low) high lazily) left (standing p u s)
            ∙ turn_is g off n p d body (suc low) high lazily left s u;
      }
  turns_on s (sites.begun {body = body} {low = low} {high = high} {lazily = lazily})
      (of_turn {d = d} {left = left} deep plain hs) = record {
        search = onward g (turn_tasks g off n p d body low high lazily left s);
        state = s;
        of = λ m e.
            of_todo (turn_of g off n p m d body low high lazily s (omega (arith, deep, e)) (omega (arith, e)) plain hs);
        is = λ u. turn_is g off n p d body low high lazily left s u;
      }

  pub record LeadsToBranches (l l' : Left) (f : Search) (s : State) : Type 0 where
    pub search : Search
    pub state : State
    pub of : (m : ℕ) → n ≡ suc m → IsSearchOf g m p l search
    pub second : Search
    pub state_second : State
    pub of_second : IsSearchOf g n p l' second
    pub is : (u : ℕ) → f (standing p u s)
        ≡ step ▸ (one_more g (λ k. search (standing p k state)) u or_else second (standing p u state_second))

  first_branch : (d : ℕ) (t : Nested) (left : List Task) → IsPlain t → (s : State) (u : ℕ)
      → and_then (held g 1 (standing p u s) (λ v. catch is_next_branch (level g (run g d) t v))) (onward g left)
      ≡ one_more g (λ k. onward g (part (suc d) t ∷ left) (standing p k s)) u
  first_branch d t left plain s u =
      held_then g off n p u s _ (onward g left) (onward g (part (suc d) t ∷ left))
      (ap (λ y. and_then y (onward g left))
      (caught (level g (run g d) t (standing p (u + 1) s)) (quiet_level d t plain (standing p (u + 1) s)))
      ∙ sym (on_part g d t left (standing p (u + 1) s)))

  turn_or_exit_is : (d : ℕ) (body : Nested) (high : Option ℕ) (left : List Task) (s : State) (u : ℕ)
      → and_then (turn g (run g d) body 0 high false (standing p u s) or_else gives reached (standing p u s))
      (onward g left)
      ≡ step ▸ (one_more g (λ k. onward g (turn_tasks g off n p d body 0 high false left s) (standing p k s)) u
      or_else onward g left (standing p u s))
  unfolding ◌or_else◌
  turn_or_exit_is d body high left s u =
      each_or_else (turn g (run g d) body 0 high false (standing p u s)) (gives reached (standing p u s))
      (go_on (onward g left))
      ∙ ap (λ y. y or_else and_then (gives reached (standing p u s)) (onward g left))
      (turn_is g off n p d body 0 high false left s u)
      ∙ ap (λ y. step ▸ (one_more g (λ k. onward g (turn_tasks g off n p d body 0 high false left s) (standing p k s)) u
      or_else y)) (then_given (standing p u s) (onward g left))

  pub branches_on : {l l' l'' : Left} {f : Search} (s : State) → sites.Branches l l' l'' → IsSearchOf g n p l f
      → LeadsToBranches l' l'' f s
  unfolding level run_repeat choices each
  branches_on s (sites.branch {t = t} {u = t'} {ts = ts}) (of_choosing {d = d} {left = left} deep plain plains hs) =
      record {
        search = onward g (part (suc d) t ∷ left);
        state = s;
        of = λ m e.
            of_todo (and_task (of_part (omega (arith, deep, e)) plain) (fewer_of n m p (omega (arith, e)) hs));
        second = choosing_search g d t' ts left;
        state_second = s;
        of_second = of_choosing deep plains.0 plains.1 hs;
        is = λ u. ap (λ y. step ▸ y)
            (each_or_else (held g 1 (standing p u s) (λ v. catch is_next_branch (level g (run g d) t v)))
            (choices g (level g (run g d) t' ∷ levels g (run g d) ts) (standing p u s)) (go_on (onward g left))
            ∙ ap (λ y. y or_else choosing_search g d t' ts left (standing p u s))
            (first_branch d t left plain s u));
      }
  branches_on s sites.turn_or_exit (of_todo (and_task (of_part {d = zero} deep plain) hs)) = absurd (omega arith)
  branches_on s (sites.turn_or_exit {body = body})
      (of_todo (and_task {left = left} (of_part {d = suc d} deep plain) hs)) = record {
        search = onward g (turn_tasks g off n p d body 0 None false left s);
        state = s;
        of = λ m e.
            of_todo (turn_of g off n p m d body 0 None false s (omega (arith, deep, e)) (omega (arith, e)) plain hs);
        second = onward g left;
        state_second = s;
        of_second = of_todo hs;
        is = λ u.
            on_part g d (tree.repeat body 0 None false) left (standing p u s)
            ∙ turn_or_exit_is d body None left s u;
      }
  branches_on s sites.bounded (of_todo (and_task (of_part {d = zero} deep plain) hs)) = absurd (omega arith)
  branches_on s (sites.bounded {body = body} {n = m})
      (of_todo (and_task {left = left} (of_part {d = suc d} deep plain) hs)) = record {
        search = onward g (turn_tasks g off n p d body 0 (Some (suc m)) false left s);
        state = s;
        of = λ k e.
            of_todo (turn_of g off n p k d body 0 (Some (suc m)) false s (omega (arith, deep, e)) (omega
            (arith, e)) plain
            hs);
        second = onward g left;
        state_second = s;
        of_second = of_todo hs;
        is = λ u.
            on_part g d (tree.repeat body 0 (Some (suc m)) false) left (standing p u s)
            ∙ turn_or_exit_is d body (Some (suc m)) left s u;
      }

  -- Without a Step.

  pub record LeadsToBoth (l l' : Left) (f : Search) (s : State) : Type 0 where
    pub search : Search
    pub state : State
    pub of : IsSearchOf g n p l search
    pub second : Search
    pub state_second : State
    pub of_second : IsSearchOf g n p l' second
    pub is : (u : ℕ) → f (standing p u s)
        ≡ (one_more g (λ k. search (standing p k state)) u or_else second (standing p u state_second))

  exit_or_turn_is : (d : ℕ) (body : Nested) (high : Option ℕ) (left : List Task) (s : State) (u : ℕ)
      → and_then (hold g reached (standing p u s) or_else turn g (run g d) body 0 high true (standing p u s))
      (onward g left)
      ≡ (one_more g (λ k. onward g left (standing p k s)) u
      or_else turn_search g d body 0 high true left (standing p u s))
  unfolding hold
  exit_or_turn_is d body high left s u =
      each_or_else (hold g reached (standing p u s)) (turn g (run g d) body 0 high true (standing p u s))
      (go_on (onward g left))
      ∙ ap (λ y. y or_else turn_search g d body 0 high true left (standing p u s))
      (held_then g off n p u s (gives reached) (onward g left) (onward g left)
      (then_given (standing p (u + 1) s) (onward g left)))

  pub leaves_on : {l l' l'' : Left} {f : Search} (s : State) → sites.Leaves l l' l'' → IsSearchOf g n p l f
      → LeadsToBoth l' l'' f s
  unfolding level run_repeat
  leaves_on s sites.exit_or_turn (of_todo (and_task (of_part {d = zero} deep plain) hs)) = absurd (omega arith)
  leaves_on s (sites.exit_or_turn {body = body})
      (of_todo (and_task {left = left} (of_part {d = suc d} deep plain) hs)) = record {
        search = onward g left;
        state = s;
        of = of_todo hs;
        second = turn_search g d body 0 None true left;
        state_second = s;
        of_second = of_turn (omega (arith, deep)) plain hs;
        is = λ u.
            on_part g d (tree.repeat body 0 None true) left (standing p u s)
            ∙ exit_or_turn_is d body None left s u;
      }
  leaves_on s sites.bounded_lazily (of_todo (and_task (of_part {d = zero} deep plain) hs)) = absurd (omega arith)
  leaves_on s (sites.bounded_lazily {body = body} {n = m})
      (of_todo (and_task {left = left} (of_part {d = suc d} deep plain) hs)) = record {
        search = onward g left;
        state = s;
        of = of_todo hs;
        second = turn_search g d body 0 (Some (suc m)) true left;
        state_second = s;
        of_second = of_turn (omega (arith, deep)) plain hs;
        is = λ u.
            on_part g d (tree.repeat body 0 (Some (suc m)) true) left (standing p u s)
            ∙ exit_or_turn_is d body (Some (suc m)) left s u;
      }
