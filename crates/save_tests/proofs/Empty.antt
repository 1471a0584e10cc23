-- The pattern without an item has an image.
use Rattle.std.proofs.Common.{◌≡◌, ℕ, List, [], ◌∷◌, ◌++◌, length, refl, sym, subst, ◌∙◌, arith}
use Rattle.std.proofs.lemmas.List.Elements.{All-nil, All-cons}
use Rattle.std.proofs.lemmas.Str.{IsUtf8-nil}
use Rattle.pat_tree.specs.Closing.{StandInTurn}
use Rattle.pat_tree.specs.Growing.{AllUnder, loose, loose_after}
use Rattle.pat_tree.specs.Parts.{DraftParts, TreeParts, with_node, with_root}
use Rattle.pat_tree.specs.Rows.{placed}
use Rattle.pat_tree.specs.Sound.{TreeRules}
use Rattle.pat_tree.specs.declared.nodes.Node.TheVariants as node
use Rattle.pat_tree.specs.declared.options.Options.{Options}
use Rattle.pat_save.specs.Checked.{AreChecked, IsCharacter, IsChecked, IsCheckedSaved, IsClass, IsName, IsNode}
use Rattle.pat_save.specs.Checked.{IsVerbName}
use Rattle.pat_save.specs.declared.saved.Saved.{Saved}

abbrev pub draft : Options → DraftParts
draft o = record { options = o; nodes = []; classes = []; names = []; verb_names = [] }

abbrev pub empty : Options → TreeParts
empty o = record {
  options = o;
  nodes = placed node.Empty 0 ∷ [];
  classes = [];
  names = [];
  verb_names = [];
  root = 0;
}

in_turn : StandInTurn (placed node.Empty 0 ∷ [])
unfolding loose loose_after
in_turn = (record { front = []; is = refl }, tt)

under_root : AllUnder (placed node.Empty 0 ∷ []) 0
unfolding loose loose_after
under_root = refl

empty_checked : (o : Options) → TreeRules (empty o) → IsChecked (empty o) []
empty_checked o rules = record {
  rules = rules;
  turns = in_turn;
  whole = under_root;
  nodes = All-cons (λ p. IsNode o.utf [] p.node) (placed node.Empty 0) []
      (record { characters = All-nil (IsCharacter o.utf); rising = tt; callout = tt })
      (All-nil (λ p. IsNode o.utf [] p.node));
  classes = All-nil (IsClass o.utf);
  few_names = omega arith;
  names = All-nil (λ entry. IsName 128 entry.name);
  verb_names = All-nil (IsVerbName o.utf);
  checked = λ utf. IsUtf8-nil;
}

pub tree_checked : (o : Options) (before after : DraftParts) (t : TreeParts) (root : ℕ) → before ≡ draft o
    → after ≡ with_node before (placed node.Empty 0) → root ≡ length before.nodes → t ≡ with_root after root
    → TreeRules t → IsChecked t []
tree_checked o before after t root new grown number made rules =
    let is : t ≡ empty o = made ∙ rw (grown, number, new) refl in
    let P : TreeParts → Type 0 = λ u. IsChecked u [] in
    let Q : TreeParts → Type 0 = λ u. TreeRules u in
    subst P (sym is) (empty_checked o (subst Q is rules))

one_checked : (s : Saved) → s.text ≡ [] → IsChecked s.tree [] → AreChecked (s ∷ [])
one_checked s none checked =
    let one : IsCheckedSaved s = record { short = rw none (omega arith); tree = rw none checked } in record {
      few = omega arith;
      each = All-cons IsCheckedSaved s [] one (All-nil IsCheckedSaved);
    }

pub list_checked : (before after : List Saved) (s : Saved) → before ≡ [] → after ≡ before ++ s ∷ [] → s.text ≡ []
    → IsChecked s.tree [] → AreChecked after
list_checked before after s new grown none checked = rw (grown, new) (one_checked s none checked)
