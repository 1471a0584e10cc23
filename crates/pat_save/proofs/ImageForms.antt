-- The form of whole images.
use Rattle.std.proofs.Common.{◌≡◌, ℕ, zero, suc, ◌+◌, ◌-◌, ◌^◌, ◌<◌, ◌≤◌, Bool, true, false, not, ◌&&◌, ◌==◌}
use Rattle.std.proofs.Common.{List, [], ◌∷◌, ◌++◌, length, take, drop, Option, Some, None, refl, sym, ap, ◌∙◌, subst}
use Rattle.std.proofs.Common.{append_assoc, append-nil, arith, inl, inr, All, cond, get_or, if◌then◌else◌, max}
use Rattle.std.specs.Prelude.{nat_le, nat_lt, is_none, codes, bytes_eq}
use Rattle.std.specs.Int.{w32}
use Rattle.std.specs.List.{list_all, flat_map, AllByRecursion}
use Rattle.std.proofs.lemmas.Bool.{eqb-true, eq-eqb}
use Rattle.std.proofs.lemmas.Bool.Decides.{nat_tests}
use Rattle.std.proofs.lemmas.List.{length-append, nil_from_length}
use Rattle.std.proofs.lemmas.List.Elements.{All-from_recursion, recursion_from_All}
use Rattle.std.proofs.lemmas.List.Sums.{AllPass-from_list_all, list_all-from_AllPass}
use Rattle.pat_tree.specs.declared.options.Options.{Options}
use Rattle.pat_tree.specs.declared.nodes.Node.{Node}
use Rattle.pat_tree.specs.declared.nodes.Placed.{Placed}
use Rattle.pat_tree.specs.Growing.{loose}
use Rattle.pat_tree.specs.Parts.{TreeParts}
use Rattle.pat_tree.specs.Refs.{refs, has_group, bad_ref}
use Rattle.pat_tree.specs.Sound.{greatest, group_numbers}
use Rattle.pat_save.specs.declared.saved.Saved.{Saved}
use Rattle.pat_save.specs.declared.taken_nodes.Around.{Around}
use Rattle.pat_save.specs.Fields.{counted, four_bytes, short_text}
use Rattle.pat_save.specs.Image.{name_bytes, class_bytes, placed_bytes, options_bytes, text_bytes, record_bytes}
use Rattle.pat_save.specs.Image.{image_of}
use Rattle.pat_save.specs.Image.{node_bytes, tables_bytes}
use Rattle.pat_save.specs.Reading.{◌>>=◌, chosen, made, joined, passing, number_at, gathered, counted_at}
use Rattle.pat_save.specs.ReadTables.{options_at, text_at}
use Rattle.pat_save.specs.ReadNodes.{free_in, node_at, placed_after}
use Rattle.pat_save.specs.ReadImage.{Tables, around_of, finished, list_of, names_stand, nodes_at, only_of, record_at}
use Rattle.pat_save.specs.ReadImage.{records_at, rooted, rooted_at, tables_at, tree_at, tree_of}
use Rattle.pat_save.proofs.Forms.{AreBytes, Follow, IsForm, Spelled, bind_some, chosen_form, chosen_some, counted_form}
use Rattle.pat_save.proofs.Forms.{fit_form, found, found_is, four_form, gathered_again, gathered_takes, joined_form}
use Rattle.pat_save.proofs.Forms.{made_form, passing_form}
use Rattle.pat_save.proofs.NodeForms.{FitsNode, node_form}
use Rattle.pat_save.proofs.Sorting.{all_follow, and_both, both_true, follow_all}
use Rattle.pat_save.proofs.TableForms.{AreClasses, AreNames, AreSizedOptions, AreVerbNames, IsText, classes_form}
use Rattle.pat_save.proofs.TableForms.{names_form}
use Rattle.pat_save.proofs.TableForms.{options_form, text_form, verb_names_form}

-- ---- nodes

abbrev pub FitsPlaced : Around → List ℕ → List Placed → Placed → Type 0
FitsPlaced around text known p = FitsNode around text (free_in known) p.node × (p.at ≡ 0)

abbrev pub placed_of : Node → Placed
placed_of node = record { node = node; at = 0 }

placed_form : (around : Around) (text : List ℕ) (known : List Placed)
    → IsForm placed_bytes (FitsPlaced around text known) (placed_after around text known)
unfolding placed_after
placed_form around text known = made_form placed_of (node_form around text (free_in known)) (record {
  takes = λ x fit. (refl, (fit, refl));
  back = λ p. p.node;
  again = λ p fit. (fit.0, ap (λ (n : ℕ). let q : Placed = record { node = p.node; at = n } in q) (sym fit.1), refl);
})

abbrev pub FitNodes : Around → List ℕ → List Placed → Type 0
FitNodes around text ps = Follow (FitsPlaced around text) [] ps × (length ps < 2 ^ 32)

nodes_form : (around : Around) (text : List ℕ)
    → IsForm (counted placed_bytes) (FitNodes around text) (nodes_at around text)
unfolding nodes_at
nodes_form around text = counted_form (placed_form around text)

pub only_is : (xs : List ℕ) (x : ℕ) → only_of xs ≡ Some x → xs ≡ x ∷ []
only_is [] x e = absurd cc
only_is (y ∷ []) x e = ap (λ z. z ∷ []) (found_is y x e)
only_is (y ∷ z ∷ xs) x e = absurd cc

abbrev Rooted : Type 0
Rooted = ℕ × List Placed

abbrev pub FitRooted : Around → List ℕ → Rooted → Type 0
FitRooted around text x = FitNodes around text x.1 × (loose x.1 ≡ x.0 ∷ [])

rooted_form : (around : Around) (text : List ℕ)
    → IsForm (λ (x : Rooted). counted placed_bytes x.1) (FitRooted around text) (rooted_at around text)
unfolding rooted_at
rooted_form around text = chosen_form rooted (nodes_form around text) (record {
  takes = λ ps x fit e.
      let p = bind_some (only_of (loose ps)) (λ root. Some (root, ps)) x e in
      let made_of : Rooted = (p.0, ps) in
      subst (λ (y : Rooted). (counted placed_bytes ps ≡ counted placed_bytes y.1) × FitRooted around text y)
      (found_is made_of x p.2) (refl, (fit, only_is (loose ps) p.0 p.1));
  again = λ x fit. record {
    value = x.1;
    fit = fit.0;
    is = ap (λ l. only_of l >>= λ root. found (root, x.1)) fit.1;
    same = refl;
  };
})

-- ---- trees

tables_spelled : Tables → List ℕ
tables_spelled t = counted name_bytes t.0 ++ (counted short_text t.1.0 ++ counted class_bytes t.1.1)

abbrev pub FitTables : Bool → Tables → Type 0
FitTables utf t = AreNames t.0 × (AreVerbNames utf t.1.0 × AreClasses utf t.1.1)

tables_form : (utf : Bool) → IsForm
    (λ (t : Tables). counted name_bytes t.0 ++ (counted short_text t.1.0 ++ counted class_bytes t.1.1))
    (FitTables utf) (tables_at utf)
unfolding tables_at
tables_form utf = joined_form names_form (λ x fit. joined_form (verb_names_form utf) (λ y fits. classes_form utf))

abbrev pub tables_of : TreeParts → Tables
tables_of t = (t.names, (t.verb_names, t.classes))

abbrev pub around_in : Options → TreeParts → Around
around_in options t = around_of options.utf (tables_of t)

pub record FitsTree (options : Options) (text : List ℕ) (t : TreeParts) : Type 0 where
  pub options_are : t.options ≡ options
  pub most : greatest (group_numbers t.nodes) < 2 ^ 32
  pub tables : FitTables options.utf (tables_of t)
  pub nodes : FitNodes (around_in options t) text t.nodes
  pub root : loose t.nodes ≡ t.root ∷ []
  pub stand : names_stand (greatest (group_numbers t.nodes)) t.names t.nodes ≡ true

abbrev TreeRead : Type 0
TreeRead = ℕ × (Tables × Rooted)

abbrev pub tree_bytes : TreeParts → List ℕ
tree_bytes t = four_bytes (greatest (group_numbers t.nodes))
    ++ (counted name_bytes t.names ++ (counted short_text t.verb_names ++ counted class_bytes t.classes))
    ++ counted placed_bytes t.nodes

tree_parts : (options : Options) (text : List ℕ) → IsForm
    (λ (x : TreeRead). four_bytes x.0
    ++ (counted name_bytes x.1.0.0 ++ (counted short_text x.1.0.1.0 ++ counted class_bytes x.1.0.1.1))
    ++ counted placed_bytes x.1.1.1)
    (λ x. (x.0 < 2 ^ 32) × (FitTables options.utf x.1.0 × FitRooted (around_of options.utf x.1.0) text x.1.1))
    (joined (number_at w32) (λ _. joined (tables_at options.utf) (λ t. rooted_at (around_of options.utf t) text)))
tree_parts options text =
    joined_form four_form (λ n fit. joined_form (tables_form options.utf)
    (λ t fits. rooted_form (around_of options.utf t) text))

most_is : (most : ℕ) (t : Tables) (nodes : List Placed) → names_stand most t.0 nodes ≡ true
    → greatest (group_numbers nodes) ≡ most
most_is most t nodes e =
    let a = both_true (list_all (λ entry. has_group nodes entry.group) t.0
    && is_none (bad_ref (has_group nodes) (refs nodes))) (greatest (group_numbers nodes) == most) e in
    eqb-true (greatest (group_numbers nodes)) most a.1

tree_form : (options : Options) (text : List ℕ) → IsForm tree_bytes (FitsTree options text) (tree_at options text)
unfolding tree_at finished
tree_form options text = chosen_form (λ (x : TreeRead). finished options x.0 x.1.0 x.1.1.0 x.1.1.1)
    (tree_parts options text) (record {
      takes = λ x t fit e.
          let g = chosen_some (names_stand x.0 x.1.0.0 x.1.1.1) (tree_of options x.1.0 x.1.1.0 x.1.1.1) t e in
          let most = most_is x.0 x.1.0 x.1.1.1 g.0 in
          let spelled = ap (λ n. four_bytes n
          ++ (counted name_bytes x.1.0.0 ++ (counted short_text x.1.0.1.0 ++ counted class_bytes x.1.0.1.1))
          ++ counted placed_bytes x.1.1.1) (sym most) in
          let small : greatest (group_numbers x.1.1.1) < 2 ^ 32 = omega (arith, most, fit.0) in
          let fits : FitsTree options text (tree_of options x.1.0 x.1.1.0 x.1.1.1) = record {
            options_are = refl;
            most = small;
            tables = fit.1.0;
            nodes = fit.1.1.0;
            root = fit.1.1.1;
            stand = subst (λ n. names_stand n x.1.0.0 x.1.1.1 ≡ true) (sym most) g.0;
          } in
          subst (λ (u : TreeParts). (four_bytes x.0
          ++ (counted name_bytes x.1.0.0 ++ (counted short_text x.1.0.1.0 ++ counted class_bytes x.1.0.1.1))
          ++ counted placed_bytes x.1.1.1 ≡ tree_bytes u) × FitsTree options text u) g.1 (spelled, fits);
      again = λ t fit. record {
        value = (greatest (group_numbers t.nodes), (tables_of t, (t.root, t.nodes)));
        fit = (fit.most, (fit.tables, (fit.nodes, fit.root)));
        is = ap (λ (b : Bool). if b then Some (tree_of options (tables_of t) t.root t.nodes) else None) fit.stand
            ∙ ap (λ (o : Options). found (tree_of o (tables_of t) t.root t.nodes)) (sym fit.options_are);
        same = refl;
      };
    })

-- ---- records

pub record FitsSaved (s : Saved) : Type 0 where
  pub options : AreSizedOptions s.tree.options
  pub text : IsText s.tree.options.utf s.text
  pub tree : FitsTree s.tree.options s.text s.tree

abbrev RecordRead : Type 0
RecordRead = Options × (List ℕ × TreeParts)

regrouped : (o t g n v c p : List ℕ)
    → o ++ (t ++ (g ++ ((n ++ (v ++ c)) ++ p))) ≡ (((o ++ t) ++ g) ++ ((n ++ v) ++ c)) ++ p
regrouped o t g n v c p = simp append_assoc

record_spelled : (s : Saved) → options_bytes s.tree.options ++ (text_bytes s.text ++ tree_bytes s.tree) ≡ record_bytes s
record_spelled s =
    regrouped (options_bytes s.tree.options) (text_bytes s.text) (four_bytes (greatest (group_numbers s.tree.nodes)))
    (counted name_bytes s.tree.names) (counted short_text s.tree.verb_names) (counted class_bytes s.tree.classes)
    (counted placed_bytes s.tree.nodes)

record_parts : IsForm (λ (x : RecordRead). options_bytes x.0 ++ (text_bytes x.1.0 ++ tree_bytes x.1.1))
    (λ x. AreSizedOptions x.0 × (IsText x.0.utf x.1.0 × FitsTree x.0 x.1.0 x.1.1))
    (joined options_at (λ options. joined (text_at options.utf) (λ text. tree_at options text)))
record_parts = joined_form options_form (λ o fit. joined_form (text_form o.utf) (λ text fits. tree_form o text))

abbrev saved_of : RecordRead → Saved
saved_of x = record { tree = x.1.1; text = x.1.0 }

record_form : IsForm record_bytes FitsSaved record_at
unfolding record_at
record_form = made_form saved_of record_parts (record {
  takes = λ x fit.
      let same : x.1.1.options ≡ x.0 = fit.1.1.options_are in (
        ap (λ (o : Options). options_bytes o ++ (text_bytes x.1.0 ++ tree_bytes x.1.1)) (sym same)
            ∙ record_spelled (saved_of x),
        record {
          options = subst AreSizedOptions (sym same) fit.0;
          text = subst (λ (o : Options). IsText o.utf x.1.0) (sym same) fit.1.0;
          tree = subst (λ (o : Options). FitsTree o x.1.0 x.1.1) (sym same) fit.1.1;
        },
      );
  back = λ s. (s.tree.options, (s.text, s.tree));
  again = λ s fit. ((fit.options, (fit.text, fit.tree)), refl, sym (record_spelled s));
})

-- ---- lists

abbrev pub FitList : List Saved → Type 0
FitList list = AllByRecursion FitsSaved list × (length list ≤ 20)

abbrev pub records_bytes : List Saved → List ℕ
records_bytes list = four_bytes (length list) ++ flat_map record_bytes list

limit_form : IsForm four_bytes (λ n. (n < 2 ^ 32) × (nat_le n 20 ≡ true)) (passing (λ n. nat_le n 20) (number_at w32))
limit_form = passing_form (λ n. nat_le n 20) four_form

pub records_form : IsForm records_bytes FitList records_at
unfolding records_at
records_form = record {
  takes = λ bytes x fits e.
      let p = bind_some (passing (λ n. nat_le n 20) (number_at w32) bytes)
      (λ n. gathered (λ _. record_at) n.0 [] n.1) x e in
      let first = limit_form.takes bytes p.0 fits p.1 in
      let others = gathered_takes (λ known. record_form) p.0.0 [] p.0.1 x first.rest p.2 in
      let many : length x.0 ≡ p.0.0 = ap length others.is ∙ others.many in
      let few : p.0.0 ≤ 20 = grind (arith, nat_tests, first.fit.1) in
      record {
        parts = first.parts ∙ ap (λ (u : List ℕ). four_bytes p.0.0 ++ u) others.parts
            ∙ ap (λ (l : List Saved). four_bytes p.0.0 ++ (flat_map record_bytes l ++ x.1)) (sym others.is)
            ∙ sym (append_assoc (four_bytes p.0.0) (flat_map record_bytes x.0) x.1)
            ∙ ap (λ (n : ℕ). (four_bytes n ++ flat_map record_bytes x.0) ++ x.1) (sym many);
        fit = (
          subst (AllByRecursion FitsSaved) (sym others.is) (follow_all FitsSaved [] others.more others.fit),
          omega (arith, many, few),
        );
        rest = others.rest;
      };
  again = λ xs rest fit.
      ap records_at (append_assoc (four_bytes (length xs)) (flat_map record_bytes xs) rest)
      ∙ ap (λ (o : Option (ℕ × List ℕ)). o >>= λ n. gathered (λ _. record_at) n.0 [] n.1)
      (limit_form.again (length xs) (flat_map record_bytes xs ++ rest)
      (omega (arith, fit.1), grind (arith, nat_tests, fit.1)))
      ∙ gathered_again (λ known. record_form) xs [] rest (all_follow FitsSaved [] xs fit.0);
}

-- at most 20 records begin with their count
pub records_start : (bytes : List ℕ) (count : ℕ) (rest : List ℕ) → number_at w32 bytes ≡ Some (count, rest) → count ≤ 20
    → gathered (λ _. record_at) (count - 0) [] rest ≡ records_at bytes
unfolding records_at
records_start bytes count rest e few =
    let k : count - 0 ≡ count = omega arith in
    let small : nat_le count 20 ≡ true = grind (arith, nat_tests) in
    let within : passing (λ n. nat_le n 20) (number_at w32) bytes ≡ Some (count, rest) =
    ap (λ (o : Option (ℕ × List ℕ)). o >>= λ x. if nat_le x.0 20 then Some x else None) e
    ∙ ap (λ (b : Bool). if b then found (count, rest) else None) small in
    ap (λ n. gathered (λ _. record_at) n [] rest) k
    ∙ sym (ap (λ (o : Option (ℕ × List ℕ)). o >>= λ n. gathered (λ _. record_at) n.0 [] n.1) within)
