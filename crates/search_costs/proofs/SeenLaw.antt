-- What a machine learns that has gone through the tasks that were left.
use Rattle.std.proofs.Common.{◌≡◌, ◌<◌, ◌≤◌, ◌∙◌, ◌⊎◌, inl, inr, ℕ, zero, suc, ◌+◌, ◌-◌, List}
use Rattle.std.proofs.Common.{All, refl, sym, ap, arith}
use Rattle.std.proofs.lemmas.Bool.{cases_lt}
use Rattle.std.proofs.lemmas.List.Elements.{All-head, All-tail}
use Rattle.pat_tree.specs.declared.options.PartialMode.TheVariants.{Off}
use Rattle.pat_tree.specs.Nested as tree
use Rattle.match_items.specs.Items.{one_less}
use Rattle.ordered_search.specs.Stream.{State, VerbEnding, Ending, exhausted, by_verb, by_halt, loop, How, reached}
use Rattle.ordered_search.specs.Stream.{accepted}
use Rattle.ordered_search.specs.Stream.{note, state, step, captured, Stream, Search, ends, ◌▸◌, ◌or_else◌, each}
use Rattle.ordered_search.specs.Stream.{go_on}
use Rattle.ordered_search.specs.Setting.{Setting}
use Rattle.ordered_search.specs.Parts.{in_order, is_over}
use Rattle.ordered_search.specs.PlaceAnswer.{Failed, Exhausted, MatchLimit, Loop, answers}
use Rattle.ordered_search.specs.Moves.{Moves, stops, stepped, Follow, Handler, before, tread}
use Rattle.search_paths.specs.Pauses.{strip}
use Rattle.search_paths.proofs.Before.{tread_strip}
use Rattle.search_costs.specs.Tasks.{Task, part, closing, turning, task_search, onward, IsPlainTask}
use Rattle.search_costs.specs.Costs.{steps}
use Rattle.search_costs.specs.Led.{Leads, to_the_end, by_task, GivesUp}
use Rattle.search_costs.specs.SeenLaw.{IsSeen, SeenLaw}
use Rattle.search_costs.proofs.QuietStreams.{IsQuiet, quiet_gives, quiet_if}
use Rattle.search_costs.proofs.QuietSearch.{Quiet, quiet_hold, quiet_run}
use Rattle.search_costs.proofs.Silent.{left_behind, strip_twice, strip_before, tread_fails}
use Rattle.search_costs.proofs.LedPaths.{strip_task, bare, bare_verbs}

-- so many Steps, and then f
abbrev counted : ℕ → Moves → Moves
counted n f = left_behind (steps n exhausted) f

-- a stop behind so many Steps
abbrev stop_after : ℕ → Moves
stop_after n = counted n (stops (by_halt loop))

bare_stops : (e : Ending) → strip (stops e) ≡ stops e
unfolding strip
bare_stops e = refl

bare_after : (n : ℕ) → strip (stop_after n) ≡ stop_after n
unfolding strip before steps
bare_after zero = refl
bare_after (suc n) = ap stepped (bare_after n)

counted_twice : (n m : ℕ) (f : Moves) → counted n (counted m f) ≡ counted (n + m) f
unfolding before steps
counted_twice zero m f = let e : m ≡ 0 + m = omega arith in ap (λ n. counted n f) e
counted_twice (suc n) m f =
    let e : suc (n + m) ≡ suc n + m = omega arith in ap stepped (counted_twice n m f) ∙ ap (λ k. counted k f) e

steps_twice : (n m : ℕ) → (steps n exhausted or_else steps m exhausted) ≡ steps (n + m) exhausted
unfolding steps ◌or_else◌
steps_twice zero m = let e : m ≡ 0 + m = omega arith in ap (λ n. steps n exhausted) e
steps_twice (suc n) m =
    let e : suc (n + m) ≡ suc n + m = omega arith in
    ap (λ x. step ▸ x) (steps_twice n m) ∙ ap (λ k. steps k exhausted) e

-- A search fails after so many Steps, and then f follows, or f is given up.
pub record Fails (x : Stream) (y : Moves → Moves) : Type 0 where
  pub count : ℕ
  pub is : x ≡ steps count exhausted
  pub follows : (f : Moves) → strip f ≡ f → y f ≡ counted count f

abbrev IsGivenUp : (Moves → Moves) → Type 0
IsGivenUp y = (f f' : Moves) → strip f ≡ f → strip f' ≡ f' → y f ≡ y f'

module _ (w : How → Search) (l : Follow) (j : Handler)
    (bared : (how : How) (s : State) (f : Moves) → strip (l how s f) ≡ l how s f)
    (bared' : (v : VerbEnding) → strip (j v) ≡ j v)
    (each_is : (s : State) → Fails (w reached s) (l reached s) ⊎ IsGivenUp (l reached s)) where
  abbrev Either : Stream → Type 0
  Either x = Fails (each x w) (λ f. before x l f j) ⊎ IsGivenUp (λ f. before x l f j)

  either_step : (x : Stream) → Either x → Either (step ▸ x)
  unfolding each before steps
  either_step x (inl h) = inl (record {
    count = suc h.count;
    is = ap (λ y. step ▸ y) h.is;
    follows = λ f e. ap stepped (h.follows f e);
  })
  either_step x (inr h) = inr (λ f f' e e'. ap stepped (h f f' e e'))

  either_state : (s : State) (x : Stream) → Fails (w reached s) (l reached s) ⊎ IsGivenUp (l reached s) → Either x
      → Either (state reached s ▸ x)
  unfolding each before
  either_state s x (inr h) k =
      inr (λ f f' e e'. h _ _ (strip_before w l j bared bared' x f e) (strip_before w l j bared bared' x f' e'))
  either_state s x (inl h) (inr k) = inr (λ f f' e e'. ap (l reached s) (k f f' e e'))
  either_state s x (inl h) (inl k) = inl (record {
    count = h.count + k.count;
    is = ap (λ y. y or_else each x w) h.is ∙ ap (λ y. steps h.count exhausted or_else y) k.is
        ∙ steps_twice h.count k.count;
    follows = λ f e.
        h.follows _ (strip_before w l j bared bared' x f e) ∙ ap (counted h.count) (k.follows f e)
        ∙ counted_twice h.count k.count f;
  })

  fails_or_not : (x : Stream) → IsQuiet x → Either x
  unfolding IsQuiet each before steps
  fails_or_not (ends exhausted) h = inl (record { count = 0; is = refl; follows = λ f e. refl })
  fails_or_not (ends (by_verb v)) h = absurd h
  fails_or_not (ends (by_halt a)) h = inr (λ f f' e e'. refl)
  fails_or_not (note k ▸ x) h = absurd h
  fails_or_not (state reached s ▸ x) h = either_state s x (each_is s) (fails_or_not x h)
  fails_or_not (state accepted s ▸ x) h = absurd h
  fails_or_not (step ▸ x) h = either_step x (fails_or_not x h)

module _ (g : Setting) where
  quiet_task : g.matching.«partial» ≡ Off → (a : Task) → IsPlainTask a → Quiet (task_search g a)
  unfolding task_search
  quiet_task off (part d t) plain s = quiet_run g off d t plain s
  quiet_task off (closing n from) plain s = quiet_hold g (captured n from s)
  quiet_task off (turning d body low high lazily began) plain s =
      quiet_if (is_over low high began s) _ _ (quiet_gives s)
      (quiet_run g off d (tree.repeat body (low - 1) (one_less high) lazily) plain s)

  led_either : g.matching.«partial» ≡ Off → {left : List Task} {k : Follow} → Leads g GivesUp left k
      → All IsPlainTask left → (s : State)
      → Fails (onward g left s) (λ f. strip (k reached s f)) ⊎ IsGivenUp (λ f. strip (k reached s f))
  unfolding in_order
  led_either off (to_the_end k up) plain s = inr (λ f f' e e'. up reached s f f')
  led_either off (by_task {a = a} {left = left} k next hand blind is led) plain s =
      by_path (fails_or_not (go_on (onward g left)) (bare g next) (bare_verbs g hand)
      (λ how u m. strip_twice (next how u m)) (λ v. strip_twice (hand v))
      (led_either off led (All-tail IsPlainTask a left plain)) (task_search g a s)
      (quiet_task off a (All-head IsPlainTask a left plain) s))
    where
      by : (f : Moves) → strip f ≡ f
          → strip (k reached s f) ≡ before (task_search g a s) (bare g next) f (bare_verbs g hand)
      by f e =
          ap strip (is s f)
          ∙ strip_task g a s next (bare g next) f hand (bare_verbs g hand) (record { same = blind })
          (record { same = λ v. refl })
          ∙ ap (λ m. before (task_search g a s) (bare g next) m (bare_verbs g hand)) e

      by_path : Fails (each (task_search g a s) (go_on (onward g left)))
          (λ f. before (task_search g a s) (bare g next) f (bare_verbs g hand))
          ⊎ IsGivenUp (λ f. before (task_search g a s) (bare g next) f (bare_verbs g hand))
          → Fails (each (task_search g a s) (go_on (onward g left))) (λ f. strip (k reached s f))
          ⊎ IsGivenUp (λ f. strip (k reached s f))
      by_path (inl h) = inl (record { count = h.count; is = h.is; follows = λ f e. by f e ∙ h.follows f e })
      by_path (inr h) = inr (λ f f' e e'. by f e ∙ h f f' e e' ∙ sym (by f' e'))

  -- What is answered.

  tread_out : (n c : ℕ) (f : Moves) → n < c → tread g n (counted c f) ≡ answers MatchLimit
  unfolding tread before steps
  tread_out n zero f out = absurd (omega arith)
  tread_out zero (suc c) f out = refl
  tread_out (suc n) (suc c) f out = tread_out n c f (omega arith)

  looped : (n : ℕ) → tread g n (stops (by_halt loop)) ≡ answers Loop
  unfolding tread
  looped n = refl

  stops_in : (n b : ℕ) → b ≤ n → tread g n (stop_after b) ≡ answers Loop
  stops_in n b le = tread_fails g n b (stops (by_halt loop)) le ∙ looped (n - b)

  runs_out : (n b : ℕ) → n < b → tread g n (stop_after b) ≡ answers MatchLimit
  runs_out n b out = tread_out n b (stops (by_halt loop)) out

  exhausts : (n : ℕ) → tread g n (stops exhausted) ≡ answers (Failed Exhausted)
  unfolding tread
  exhausts n = refl

  -- Whatever is left behind, the answer is its answer with m Steps left.
  module _ (n m : ℕ) (fewer : m ≤ n) where
    -- it isn't given up
    not_given_up : (y : Moves → Moves) → ((f : Moves) → (tread g n (y f)).answer ≡ (tread g m f).answer)
        → IsGivenUp y → ⊥
    not_given_up y answered up =
        let same : Loop ≡ Failed Exhausted =
        sym (answered (stops (by_halt loop)) ∙ ap (λ w. w.answer) (looped m))
        ∙ ap (λ x. (tread g n x).answer) (up _ _ (bare_stops (by_halt loop)) (bare_stops exhausted))
        ∙ answered (stops exhausted) ∙ ap (λ w. w.answer) (exhausts m) in
        cc same

    -- and the Steps are those between
    counts_between : (c : ℕ) → ((f : Moves) → strip f ≡ f → (tread g n (counted c f)).answer ≡ (tread g m f).answer)
        → c ≡ n - m
    counts_between c answered = by_order (cases_lt n c)
      where
        -- after so many Steps of c, a stop that b Steps precede
        told : (b : ℕ) → (tread g n (counted c (stop_after b))).answer ≡ (tread g m (stop_after b)).answer
        told b = answered (stop_after b) (bare_after b)

        by_more : c ≤ n → m ≤ n - c → (m < n - c) ⊎ (n - c ≤ m) → c ≡ n - m
        by_more fits le (inl more) =
            let same : Loop ≡ MatchLimit =
            sym (ap (λ w. w.answer) (tread_fails g n c (stop_after (suc m)) fits
            ∙ stops_in (n - c) (suc m) (omega (arith, more))))
            ∙ told (suc m) ∙ ap (λ w. w.answer) (runs_out m (suc m) (omega arith)) in
            absurd (cc same)
        by_more fits le (inr few) = omega (arith, fits, le, few, fewer)

        by_left : c ≤ n → (n - c < m) ⊎ (m ≤ n - c) → c ≡ n - m
        by_left fits (inl less) =
            let same : MatchLimit ≡ Loop =
            sym (ap (λ w. w.answer) (tread_fails g n c (stop_after m) fits ∙ runs_out (n - c) m less))
            ∙ told m ∙ ap (λ w. w.answer) (stops_in m m (omega arith)) in
            absurd (cc same)
        by_left fits (inr le) = by_more fits le (cases_lt m (n - c))

        by_order : (n < c) ⊎ (c ≤ n) → c ≡ n - m
        by_order (inl out) =
            let same : MatchLimit ≡ Loop =
            sym (ap (λ w. w.answer) (tread_out n c (stop_after 0) out)) ∙ told 0
            ∙ ap (λ w. w.answer) (stops_in m 0 (omega arith)) in
            absurd (cc same)
        by_order (inr fits) = by_left fits (cases_lt (n - c) m)

  pub seen_fails : (left : List Task) (s : State) (k : Follow) (n m : ℕ) → g.matching.«partial» ≡ Off
      → IsSeen g left s k n m → onward g left s ≡ steps (n - m) exhausted
  seen_fails left s k n m off seen = by_either (led_either off seen.led seen.visit.plain s)
    where
      answered : (f : Moves) → (tread g n (strip (k reached s f))).answer ≡ (tread g m f).answer
      answered f = ap (λ w. w.answer) (tread_strip g n (k reached s f)) ∙ seen.back f

      by_either : Fails (onward g left s) (λ f. strip (k reached s f)) ⊎ IsGivenUp (λ f. strip (k reached s f))
          → onward g left s ≡ steps (n - m) exhausted
      by_either (inl h) =
          h.is ∙ ap (λ c. steps c exhausted) (counts_between n m seen.fewer h.count (λ f e.
          ap (λ x. (tread g n x).answer) (sym (h.follows f e)) ∙ answered f))
      by_either (inr h) = absurd (not_given_up n m seen.fewer (λ f. strip (k reached s f)) answered h)

pub seen_law : SeenLaw
seen_law g left s k n m whole seen = record {
  left = left;
  state = s;
  at = record { visit = seen.visit; place = refl; keys = refl };
  fails = seen_fails g left s k n m whole.off seen;
}
