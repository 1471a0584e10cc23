-- The ordered search and the ends that a DFA match answers.
use Rattle.std.specs.Prelude.{◌≡◌, ℕ, ◌<◌, ◌≤◌, List, [], ◌∷◌, true, false, IsTrue}
use Rattle.pat_tree.specs.declared.options.PartialMode.TheVariants.{Off}
use Rattle.ordered_search.specs.Stream.{first_state, exhausted, Stream}
use Rattle.ordered_search.specs.Setting.{Setting}
use Rattle.ordered_search.specs.Run.{run}
use Rattle.ordered_search.specs.Laws.{ending}
use Rattle.dfa_ends.specs.Ends.{Among}
use Rattle.dfa_ends.specs.DfaAnswer.{is_admitted, EndsFrom, dfa_answer}
use Rattle.dfa_ends.specs.TwoMatchers.{IsCommon, Occurs, with_frame_limit}

-- each is above all that follow, so each stands once
unfoldable pub Falls : List ℕ → Type 0
Falls [] = Unit {0}
Falls (p ∷ ps) = ((q : ℕ) → Among q ps → q < p) × Falls ps

-- qs are the places of the stream's states that are admitted, falling
pub record AreAnswered (g : Setting) (p : ℕ) (x : Stream) (qs : List ℕ) : Type 0 where
  pub each_is_met : (q : ℕ) → Among q qs → Occurs q x × IsTrue (is_admitted g p q)
  pub all_are_answered : (q : ℕ) → Occurs q x → IsTrue (is_admitted g p q) → Among q qs
  pub once : Falls qs

-- qs is the least of them alone
pub record IsLeastAnswered (g : Setting) (p : ℕ) (x : Stream) (qs : List ℕ) : Type 0 where
  pub least : ℕ
  pub alone : qs ≡ least ∷ []
  pub met : Occurs least x
  pub counts : IsTrue (is_admitted g p least)
  pub below_all : (q : ℕ) → Occurs q x → IsTrue (is_admitted g p q) → least ≤ q

-- Where the ordered search from the place that decides runs to its end, with some depth and some
-- frame limit.
pub record AnswerLaw : Type 0 where
  pub all :
      (g : Setting) → g.matching.«partial» ≡ Off → IsCommon g.whole →
      (d limit p : ℕ) (qs : List ℕ) → dfa_answer g false ≡ EndsFrom p qs →
      ending (run (with_frame_limit limit g) d g.whole (first_state g.groups p)) ≡ exhausted →
      AreAnswered g p (run (with_frame_limit limit g) d g.whole (first_state g.groups p)) qs
  pub shortest :
      (g : Setting) → g.matching.«partial» ≡ Off → IsCommon g.whole →
      (d limit p : ℕ) (qs : List ℕ) → dfa_answer g true ≡ EndsFrom p qs →
      ending (run (with_frame_limit limit g) d g.whole (first_state g.groups p)) ≡ exhausted →
      IsLeastAnswered g p (run (with_frame_limit limit g) d g.whole (first_state g.groups p)) qs
