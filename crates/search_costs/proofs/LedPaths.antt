-- What a machine meets on the path of the tasks that are left, where it doesn't come to the end of its own.
use Rattle.std.proofs.Common.{◌≡◌, ◌∙◌, ◌-◌, List, refl, ap}
use Rattle.pat_tree.specs.Nested as tree
use Rattle.match_items.specs.Items.{one_less}
use Rattle.ordered_search.specs.Stream.{State, reached, accepted, captured, gives}
use Rattle.ordered_search.specs.Stream.{go_on}
use Rattle.ordered_search.specs.Setting.{Setting}
use Rattle.ordered_search.specs.Parts.{in_order, is_over}
use Rattle.ordered_search.specs.Run.{run}
use Rattle.ordered_search.specs.Moves.{Moves, pause, Follow, Handler, before}
use Rattle.ordered_search.specs.Paths.{turned, paths}
use Rattle.search_paths.specs.Pauses.{strip}
use Rattle.search_paths.proofs.Streams.{IsStripped, AreStripped, strip_hold, strip_if}
use Rattle.search_paths.proofs.Before.{strip_paths}
use Rattle.search_costs.specs.Tasks.{Task, part, closing, turning, task_search, onward}
use Rattle.search_costs.specs.Led.{task_path, Leads, to_the_end, by_task}
use Rattle.search_costs.proofs.Silent.{IsSilent, left_behind, strip_twice, silent_each}

module _ (g : Setting) where
  pub strip_task : (a : Task) (s : State) (k l : Follow) (f : Moves) (h j : Handler) → IsStripped k l → AreStripped h j
      → strip (task_path g a s k f h) ≡ before (task_search g a s) l (strip f) j
  unfolding strip before task_path task_search turned
  strip_task (part d t) s k l f h j e r = (strip_paths g d t).is s k l f h j e r
  strip_task (closing n from) s k l f h j e r =
      strip_hold g reached (captured n from s) (λ t. k reached t (pause f)) l (strip f) j
      (λ t. e.same reached t (pause f))
  strip_task (turning d body low high lazily began) s k l f h j e r =
      strip_if g (is_over low high began s) (k reached s f)
      (paths g d (tree.repeat body (low - 1) (one_less high) lazily) s k f h)
      (gives reached s) (run g d (tree.repeat body (low - 1) (one_less high) lazily) s) l (strip f) j
      (e.same reached s f)
      ((strip_paths g d (tree.repeat body (low - 1) (one_less high) lazily)).is s k l f h j e r)

  -- what follows, and what verbs lead to, without pauses
  abbrev pub bare : Follow → Follow
  bare k how s f = strip (k how s f)

  abbrev pub bare_verbs : Handler → Handler
  bare_verbs h v = strip (h v)

  pub led_silently : {end : Follow → Type 0} {left : List Task} {k : Follow} → Leads g end left k
      → (s : State) (f : Moves)
      → IsSilent (onward g left s) → strip (k reached s f) ≡ left_behind (onward g left s) (strip f)
  unfolding in_order IsSilent
  led_silently (to_the_end k e) s f h = absurd h
  led_silently (by_task {a = a} {left = left} k next hand blind is led) s f h =
      ap strip (is s f)
      ∙ strip_task a s next (bare next) f hand (bare_verbs hand) (record { same = blind })
      (record { same = λ v. refl })
      ∙ silent_each (go_on (onward g left)) (bare next) (bare_verbs hand)
      (λ how u m. strip_twice (next how u m)) (λ v. strip_twice (hand v)) (task_search g a s) (strip f)
      (strip_twice f)
      (elim [
        | reached ↦ λ u m e quiet. led_silently led u m quiet ∙ ap (left_behind (onward g left u)) e
        | accepted ↦ λ u m e quiet. absurd quiet
      ])
      h
