-- The places in the run that a pattern begins with fail with the first of them.
use Rattle.std.proofs.Common.{◌≡◌, ℕ, ℤ, suc, ◌+◌, ◌<◌, ◌≤◌, Bool, true, false, List, [], ◌∷◌, length, map, Option}
use Rattle.std.proofs.Common.{Some, None, refl, subst, ap, ◌∙◌, arith}
use Rattle.std.specs.Prelude.{All, ◌||◌}
use Rattle.ordered_search.specs.Stream.{Block}
use Rattle.pat_tree.specs.Parts.{TreeParts}
use Rattle.pat_tree.specs.declared.options.Options.{Options}
use Rattle.char_sets.specs.Table.{CharSet, IsTableOf}
use Rattle.match_items.specs.Scene.{Scene}
use Rattle.match_items.specs.declared.view.View.{View}
use Rattle.match_items.specs.Items.{longest_run}
use Rattle.match_items.specs.Views.{text_scene, end_of}
use Rattle.frame_machine.specs.frame_board.Ready.{setting_for}
use Rattle.ordered_search.proofs.LaterRuns.{end_within}
use Rattle.ordered_search.proofs.FollowLaw.{later_places}
use Rattle.match_drive.specs.Run.{BeginsByRun, GoesByRuns, IsFirstRun}
use Rattle.match_starts.proofs.PastPrefix.{scene_same}
use Rattle.pat_tree.specs.declared.nodes.Item.{Item}
use Rattle.pat_tree.specs.declared.nodes.Cond.{Cond}
use Rattle.pat_tree.specs.declared.nodes.Cond.TheVariants.{AnySet, InCall, InCallOf, Never, Assert}
use Rattle.pat_tree.specs.declared.nodes.Node.{Node}
use Rattle.pat_tree.specs.declared.nodes.Node.TheVariants as node
use Rattle.pat_tree.specs.Nested.{Nested, row, seq, look, callout, none, more, test_of, tree_at, other_of, nest}
use Rattle.pat_tree.specs.Rules.{kids_of, number_in}
use Rattle.ordered_search.specs.Plain.{IsPlain, ArePlain, IsPlainTest, IsPlainOther}
use Rattle.ordered_search.specs.LaterPlaces.{BeginsWithRun, run_end}
use Rattle.ordered_search.specs.Setting.{Setting}
use Rattle.ordered_search.specs.PlaceAnswer as place
use Rattle.ordered_search.specs.PlaceAnswer.{Exhausted, answers, place_answer}
use Rattle.ordered_search.specs.Places.{last_place, is_excluded, up_to, place_after}
use Rattle.ordered_search.specs.MatchAnswer.{tried}
use Rattle.match_starts.specs.Asked.{passed_over, replied}
use Rattle.match_drive.specs.Run.{is_plain, is_plain_test}
use Rattle.match_drive.specs.Rest.{found_from, behind, FailsTo, FailsToAlways}
use Rattle.match_drive.proofs.Steps.{found_failed, passed}

-- A node over plain parts.

plain_test : (t : Nested) → IsPlain t → IsPlainTest (test_of t)
plain_test (look ahead positive once ts) plain = plain
plain_test (seq (more (callout c) (more (look ahead positive once ts) none))) plain = absurd plain.0
plain_test t plain = tt

module _ (trees : List Nested) (n : ℕ) (plain : (k : ℕ) → k < n → IsPlain (tree_at trees k)) where
  plain_row : (ks : List ℕ) → All (λ k. k < n) ks → ArePlain (row (map (tree_at trees) ks))
  plain_row [] low = tt
  plain_row (k ∷ ks) low =
      (plain k (low 0 k (omega arith)), plain_row ks (λ i d h. low (suc i) d (omega arith)))

  plain_other : (o : Option ℕ) → All (λ k. k < n) (number_in o) → IsPlainOther (other_of trees o)
  plain_other None low = tt
  plain_other (Some k) low = plain k (low 0 k (omega arith))

  plain_cond : (test : Cond) (yes' : ℕ) (no' : Option ℕ) → is_plain_test test ≡ true
      → All (λ k. k < n) (kids_of (node.Cond test yes' no'))
      → IsPlain (nest trees (node.Cond test yes' no'))
  plain_cond Never yes' no' e low = (
    tt,
    plain yes' (low 0 yes' (omega arith)),
    plain_other no'
        (λ i d h. low (suc i) d (omega arith)),
  )
  plain_cond (Assert k) yes' no' e low = (
    plain_test (tree_at trees k) (plain k (low 0 k (omega arith))),
    plain yes'
        (low 1 yes' (omega arith)),
    plain_other no' (λ i d h. low (suc (suc i)) d (omega arith)),
  )
  plain_cond (AnySet ns) yes' no' e low = absurd (cc e)
  plain_cond InCall yes' no' e low = absurd (cc e)
  plain_cond (InCallOf ns) yes' no' e low = absurd (cc e)

  pub plain_node : (m : Node) → is_plain m ≡ true → All (λ k. k < n) (kids_of m)
      → IsPlain (nest trees m)
  plain_node node.Empty e low = tt
  plain_node (node.One item) e low = tt
  plain_node node.Break e low = tt
  plain_node (node.Seq ks) e low = plain_row ks low
  plain_node (node.Group number ks) e low = plain_row ks low
  plain_node (node.Repeat body least most lazily) e low = plain body (low 0 body (omega arith))
  plain_node (node.OneRepeat item least most lazily) e low = tt
  plain_node (node.Atomic ks) e low = plain_row ks low
  plain_node (node.Look ahead positive once ks) e low = plain_row ks low
  plain_node (node.Cond test yes' no') e low = plain_cond test yes' no' e low
  plain_node (node.Call m) e low = absurd (cc e)
  plain_node (node.Ref ns caseless) e low = absurd (cc e)
  plain_node (node.Anchor kind) e low = tt
  plain_node node.KeepOut e low = tt
  plain_node (node.VerbNode v) e low = absurd (cc e)
  plain_node (node.Callout number from to at len) e low = absurd (cc e)

-- Where the search goes on.

module _ (g : Setting) where
  pub tried_fails : (p : ℕ) → place_answer g p ≡ answers (place.Failed Exhausted)
      → tried g p ≡ answers (place.Failed Exhausted)
  tried_fails p e = by_test (is_excluded g p)
    where
      by_test : (b : Bool)
          → elim b [ true ↦ answers (place.Failed Exhausted) | false ↦ place_answer g p ]
          ≡ answers (place.Failed Exhausted)
      by_test true = refl
      by_test false = e

  -- the places that fail with p are passed over
  pub next_past : g.options.utf ≡ false → g.start ≤ length g.subject → (p to q : ℕ)
      → p ≤ last_place g → p < to → FailsTo g p to → p < q → q ≤ to + 1 → q ≤ length g.subject
      → q ≤ last_place g + 1
      → (place_answer g p).answer ≡ place.Failed Exhausted
      → found_from g (up_to (last_place g) (Some (behind g p q)))
      ≡ found_from g (place_after g p Exhausted)
  next_past not_utf begun p to q low before fails less high within most failed =
      passed g begun not_utf p q low (omega arith) within most
      (λ k a b. tried_fails k (fails before failed k a (omega arith)))
      ∙ found_failed g begun p low
      (tried_fails p (fails before failed p (omega arith) (omega arith)))

-- A search that goes by runs goes by the one that its tree begins with.
pub runs_known : (tree : TreeParts) (view : View) (item : Item) → BeginsByRun tree item
    → GoesByRuns view → view.options.now ≡ tree.options → IsFirstRun tree view item
runs_known tree view item run goes same = record {
  begins = record {
    plain = run.plain;
    first = run.first;
    bytes = subst (λ (o : Options). o.utf ≡ false) same goes.bytes;
    off = goes.off;
    any_length = subst
        (λ (o : Options). (o.notempty || view.matching.now.notempty) ≡ false) same goes.any_length;
    any_start = subst
        (λ (o : Options). (o.notempty_atstart || view.matching.now.notempty_atstart) ≡ false) same
        goes.any_start;
  };
  class = run.class;
}

-- A run from p ends at q in the subject, and the places up to there fail with p.
pub record RunFails (tree : TreeParts) (view : View) (p q : ℕ) : Type 0 where
  pub low : p ≤ q
  pub within : q ≤ length view.subject.now
  pub fails : FailsToAlways (setting_for tree view passed_over) p q

pub run_fails : (tree : TreeParts) (table : List CharSet) (view : View) (item : Item) (p q : ℕ)
    → IsTableOf tree table → view.options.now ≡ tree.options → IsFirstRun tree view item
    → q ≡ end_of p (longest_run (text_scene view table) item None p) → p ≤ length view.subject.now
    → RunFails tree view p q
run_fails tree table view item p q shown options first to within =
    let g = setting_for tree view passed_over in
    let is : q ≡ run_end g item p = to
    ∙ ap (λ (s : Scene). end_of p (longest_run s item None p))
    (scene_same tree table view passed_over shown options) in
    let ends = end_within g.scene item first.begins.bytes (length g.subject) p within in
    let low = ends.0 in
    let high = ends.1 in
    record {
      low = omega arith;
      within = omega arith;
      fails = λ reply before failed k a b. later_places (replied reply g) item
          (begins_always g item first.begins reply) p k a (omega arith) failed;
    }
  where
    begins_always : (g : Setting) (item : Item) → BeginsWithRun g item → (reply : Block → ℤ)
        → BeginsWithRun (replied reply g) item
    begins_always g item h reply = record {
      plain = h.plain;
      first = h.first;
      bytes = h.bytes;
      off =
          h.off;
      any_length = h.any_length;
      any_start = h.any_start;
    }

-- where no run is known
pub none_fails : (g : Setting) (p : ℕ) → FailsToAlways g p p
none_fails g p reply before = absurd (omega (arith, before))
