-- A finished tree made ready for searches, and what a search of it is about.
use Rattle.std.specs.Prelude.{◌≡◌, ◌<◌, ◌≤◌, ℕ, suc, ℤ, true, All, List, [], ◌∷◌, None, IfSome, length, slice_index_or}
use Rattle.uni_text.specs.Sets.{word}
use Rattle.pat_tree.specs.declared.options.MatchOptions.{MatchOptions}
use Rattle.pat_tree.specs.Nested.{Nested, trees}
use Rattle.pat_tree.specs.Parts.{TreeParts, tree_of}
use Rattle.pat_tree.specs.Pattern.{pattern_of}
use Rattle.pat_tree.specs.Refs.{has_group, is_in}
use Rattle.pat_tree.specs.Rules.{kids_of}
use Rattle.pat_tree.specs.Sound.{greatest, group_numbers}
use Rattle.pat_tree.specs.declared.nodes.Placed.{Placed}
use Rattle.node_flow.specs.Branches.{branch_of, AreBranchesOf, BranchesHangTogether}
use Rattle.node_flow.specs.Followers.{rest, IsFlowOf}
use Rattle.node_flow.specs.Linked.{IsLinked}
use Rattle.node_flow.specs.LookBranches.{look_branch_of, AreLookBranchesOf, LookBranchesHangTogether}
use Rattle.node_flow.specs.Order.{AreRanks, StandInTurn, order, rank, past}
use Rattle.char_sets.specs.Table.{CharSet, IsTableOf}
use Rattle.match_items.specs.declared.view.View.{View}
use Rattle.match_items.specs.Laws.{PlacesStand}
use Rattle.match_items.specs.Subjects.{IsText, IsTextPlace}
use Rattle.match_items.specs.Views.{fold_in}
use Rattle.pcre_io.specs.declared.callouts.Block.{Block}
use Rattle.pat_check.specs.declared.facts.Facts.{Facts}
use Rattle.pat_check.specs.Known.{IsByteSet, lead_set_of}
use Rattle.pat_lengths.specs.Backs.{AreBacks, first_fault, greatest_back}
use Rattle.pat_lengths.specs.Places.{ArePlaces}
use Rattle.pat_lengths.specs.Lengths.{SomeLengths, branch_lengths, can_be_empty}
use Rattle.pat_check.specs.NeedTables.{IsNeedOf}
use Rattle.pat_check.specs.Size.{size}
use Rattle.pat_check.specs.Support.{dfa_support}
use Rattle.pat_lengths.specs.Nodes.{names_cr_or_lf, has_lookbehind, tests_before}
use Rattle.frame_board.specs.declared.ready.Ready.{Ready}
use Rattle.frame_state.specs.ordered_search.Setting.{Setting, setting_of}
use Rattle.frame_state.specs.Ground.{Ground}
use Rattle.frame_state.specs.Behind.{IsMeasured}
use Rattle.frame_state.specs.Shown.{shown_as}
use Rattle.frame_board.specs.Standing.{stands_in}

-- what is known of a tree is known of this one
pub record AreFactsOf (tree : TreeParts) (facts : Facts) : Type 0 where
  pub lead : IsByteSet facts.lead (lead_set_of tree (fold_in tree.options.utf))
  pub empty : facts.can_be_empty ≡ can_be_empty tree.options.match_unset_backref (tree_of tree)
  pub names : facts.names_crlf ≡ names_cr_or_lf tree.classes (tree_of tree)
  pub lookbehind : facts.has_lookbehind ≡ has_lookbehind (tree_of tree)
  pub before : facts.tests_before ≡ tests_before (tree_of tree)
  pub size : facts.size ≡ size (tree_of tree)
  pub dfa : facts.dfa ≡ dfa_support (tree_of tree)
  -- no lookbehind has a fault, and its branches begin so far before their place
  pub fixed : first_fault tree ≡ None
  pub backs : AreBacks tree facts.backs
  pub places : ArePlaces tree facts.groups
  pub greatest : facts.greatest_back ≡ greatest_back tree
  pub flow : IsFlowOf tree.nodes tree.root facts.flow
  pub branches : AreBranchesOf tree.nodes tree.root facts.branches
  pub look_branches : AreLookBranchesOf tree.nodes tree.root facts.look_branches
  pub ranks : AreRanks tree.nodes tree.root facts.ranks
  pub need : IfSome facts.need (IsNeedOf tree)

-- what is known of when reaching the subject's end counts
pub record IsKnown (tree : TreeParts) (facts : Facts) : Type 0 where
  pub empty : facts.can_be_empty ≡ can_be_empty tree.options.match_unset_backref (tree_of tree)
  pub lookbehind : facts.has_lookbehind ≡ has_lookbehind (tree_of tree)

-- What a search of a finished tree is about: folding is that of Unicode in UTF and else that of ASCII, and where word
-- characters are asked for by Unicode's properties, they are these. The blocks of callouts are answered so.
abbrev pub setting_in : TreeParts → MatchOptions → List ℕ → ℕ → (Block → ℤ) → Setting
setting_in tree matching subject start answers = setting_of (pattern_of tree) matching subject start
    (fold_in tree.options.utf) (word true) (λ b. answers (shown_as b))

-- the same of a view
abbrev pub setting_for : TreeParts → View → (Block → ℤ) → Setting
setting_for tree view answers = setting_in tree view.matching.now view.subject.now view.start answers

-- the lengths of a branch of a lookbehind in it
abbrev pub lengths_in : TreeParts → Nested → SomeLengths
lengths_in tree t = branch_lengths tree.options.match_unset_backref (tree_of tree) t

-- The search is one that runs here: no branch of the tree's lookbehinds is refused, and
-- the subject can be looked at, in UTF as UTF-8.
pub record IsBoardSearch (tree : TreeParts) (table : List CharSet) (matching : MatchOptions) (subject : List ℕ) : Type
    0 where
  pub measured : IsMeasured (lengths_in tree) (tree_of tree)
  pub shown : IsTableOf tree table
  pub searched : IsText tree.options subject
  pub groups : greatest (group_numbers tree.nodes) ≤ 65535
  pub few : matching.match_limit ≤ 4294967295
  pub names : length tree.verb_names ≤ 4294967295
  -- nothing follows the whole, a part that follows is followed by the others, and children are followed as their parent
  -- says
  pub last : rest tree.nodes tree.root tree.root ≡ []
  pub chained : (q p : ℕ) (ps : List ℕ) → rest tree.nodes tree.root q ≡ p ∷ ps → rest tree.nodes tree.root p ≡ ps
  pub linked : (q : ℕ) → q ≤ tree.root → (other : Placed) →
      IsLinked (rest tree.nodes tree.root) (rest tree.nodes tree.root q) (slice_index_or tree.nodes q other).node
  -- around children is the branch that their parent says, and they stand in turn behind it
  pub branches : BranchesHangTogether tree.nodes tree.root
  pub look_branches : LookBranchesHangTogether tree.nodes tree.root
  pub under : (q : ℕ) → is_in q (order tree.nodes tree.root) ≡ true → (other : Placed) →
      All (λ k. is_in k (order tree.nodes tree.root) ≡ true) (kids_of (slice_index_or tree.nodes q other).node)
  pub in_turn : (q : ℕ) → is_in q (order tree.nodes tree.root) ≡ true → (other : Placed) →
      StandInTurn (rank tree.nodes tree.root) (past tree.nodes tree.root) (suc (rank tree.nodes tree.root q))
      (kids_of (slice_index_or tree.nodes q other).node) (past tree.nodes tree.root q)
  pub root_under : is_in tree.root (order tree.nodes tree.root) ≡ true
  -- a group that stands is numbered from 1 on
  pub numbered : (n : ℕ) → has_group tree.nodes n ≡ true → (0 < n) × (n ≤ greatest (group_numbers tree.nodes))
  -- what takes characters goes from place to place
  pub along : PlacesStand

-- What a search of a tree needs: its own table and facts, and a view with its options, whose subject
-- can be searched from the start on.
pub record IsReadySearch (ready : Ready) (view : View) : Type 0 where
  pub table : IsTableOf ready.tree.now ready.classes.now
  pub facts : AreFactsOf ready.tree.now ready.facts.now
  pub options : view.options.now ≡ ready.tree.now.options
  pub subject : IsText view.options.now view.subject.now
  pub start : IsTextPlace view.options.now view.subject.now view.start

-- what the machine goes over there
abbrev pub ground_in : TreeParts → MatchOptions → List ℕ → ℕ → (Block → ℤ) → Ground
ground_in tree matching subject start answers = record {
  setting = setting_in tree matching subject start answers;
  trees = trees tree.nodes;
  root = tree.root;
  rest = rest tree.nodes tree.root;
  branch = branch_of tree.nodes tree.root;
  look_branch = look_branch_of tree.nodes tree.root;
  under = λ q. is_in q (order tree.nodes tree.root);
  rank = rank tree.nodes tree.root;
  past = past tree.nodes tree.root;
  stands = stands_in tree.options.utf subject;
  class_count = length tree.classes;
}
