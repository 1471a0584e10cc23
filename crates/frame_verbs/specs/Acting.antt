-- Verbs that act when they are backtracked onto (pcre2pattern, "Verbs that act after backtracking").
use Rattle.std.specs.Prelude.{◌≡◌, ℕ, Option, None}
use Rattle.pat_tree.specs.declared.nodes.Node.TheVariants as node
use Rattle.pat_tree.specs.declared.nodes.Verb.{Verb}
use Rattle.pat_tree.specs.declared.nodes.Verb.TheVariants as verb
use Rattle.frame_store.specs.declared.kinds.TheConstants.{KIND_COMMIT_PASSED, KIND_PRUNE_PASSED, KIND_SKIP_PASSED}
use Rattle.frame_store.specs.declared.kinds.TheConstants.{KIND_THEN_PASSED}
use Rattle.frame_state.specs.Ground.{Ground, IsNode}

-- What the record of such a verb at a place keeps: its kind, its name, and the place at which SKIP has the search go
-- on. SKIP of a name looks for its place, and isn't one of these.
abbrev pub Leaves : Verb → ℕ → ℕ × Option ℕ × ℕ → Type 0
Leaves (verb.Commit name) place left = left ≡ (KIND_COMMIT_PASSED, name, 0)
Leaves (verb.Prune name) place left = left ≡ (KIND_PRUNE_PASSED, name, 0)
Leaves (verb.Then name) place left = left ≡ (KIND_THEN_PASSED, name, 0)
Leaves (verb.Skip None) place left = left ≡ (KIND_SKIP_PASSED, None, place)
Leaves _ place left = ⊥

-- such a verb stands at a part
pub record IsActing (c : Ground) (q place kind : ℕ) (name : Option ℕ) (next : ℕ) : Type 0 where
  pub of : Verb
  pub is : IsNode c q (node.VerbNode of)
  pub leaves : Leaves of place (kind, name, next)
