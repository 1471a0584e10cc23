-- A draft with one node more, which is no group and takes no other.
use Rattle.std.proofs.Common.{◌≡◌, ℕ, ◌≤◌, ◌+◌, ◌||◌, false, List, [], ◌∷◌, ◌++◌, length, None, refl, sym, ap, ◌∙◌}
use Rattle.std.proofs.Common.{append_assoc, append-nil, arith, length-append, subst}
use Rattle.pat_tree.specs.declared.nodes.Placed.{Placed}
use Rattle.pat_tree.specs.declared.nodes.ClassSpec.{ClassSpec}
use Rattle.pat_tree.specs.Parts.{DraftParts, with_node, with_class}
use Rattle.pat_tree.specs.Nested.{Nested, verb}
use Rattle.pat_tree.specs.Refs.{refs, refs_of, has_group, is_group}
use Rattle.pat_tree.specs.Rules.{kids_of}
use Rattle.pat_tree.specs.Growing.{EndsIn, Grows, Makes, Replaces, loose}
use Rattle.pat_tree.specs.Closing.{TakeTheLast, StandInTurn}
use Rattle.pat_tree.proofs.Growing.{grows_not, refs_push}
use Rattle.pat_grammar.specs.Groups.{Form, grouped, number_of, noted, places_named}
use Rattle.token_parts.specs.declared.token.VerbKind.{VerbKind}
use Rattle.pat_grammar.specs.Verbs.{verb_of, number_of_name, names_after}
use Rattle.pat_nodes.specs.Nodes.{Adds, AddsVerb, Closes, references_of, reference_in, is_number, verb_node}
use Rattle.pat_nodes.proofs.References.{references_push, places_append, or_false}

-- a node without children takes none
pub none_taken : (ps : List Placed) → EndsIn ps []
none_taken ps = record { front = loose ps; is = sym (append-nil (loose ps)) }

-- a node that takes the last stands in turn
turns_after : (before ps : List Placed) (p : Placed) → TakeTheLast before ps → EndsIn (before ++ ps) (kids_of p.node)
    → TakeTheLast before (ps ++ p ∷ [])
turns_after before [] p h last = (subst (λ l. EndsIn l (kids_of p.node)) (append-nil before) last, tt)
turns_after before (q ∷ ps) p h last = (
  h.0,
  turns_after (before ++ q ∷ []) ps p h.1
      (subst (λ l. EndsIn l (kids_of p.node)) (sym (append_assoc before (q ∷ []) ps)) last),
)

turns_with : (d new : DraftParts) (p : Placed) → new ≡ with_node d p → EndsIn d.nodes (kids_of p.node)
    → StandInTurn d.nodes → StandInTurn new.nodes
turns_with d new p is last h = subst (λ v. StandInTurn v.nodes) (sym is) (turns_after [] d.nodes p h last)

-- the draft has this loose node more, if any
pub record Extends (old new : DraftParts) (tail : List ℕ) : Type 0 where
  pub grows : Grows old.nodes new.nodes
  pub options : new.options ≡ old.options
  pub names : new.names ≡ old.names
  pub verb_names : length new.verb_names ≤ length old.verb_names + 1
  pub classes : length new.classes ≤ length old.classes + 1
  pub refs_are : refs new.nodes ≡ places_named (references_of new.nodes)
  pub groups : (n : ℕ) → has_group new.nodes n ≡ has_group old.nodes n
  pub turns : StandInTurn old.nodes → StandInTurn new.nodes
  pub loose_is : loose new.nodes ≡ loose old.nodes ++ tail
  pub count : length new.nodes ≤ length old.nodes + 1

pub extends_none : (d : DraftParts) → refs d.nodes ≡ places_named (references_of d.nodes) → Extends d d []
extends_none d h = record {
  grows = grows_not d.nodes;
  options = refl;
  names = refl;
  verb_names = omega arith;
  classes = omega arith;
  refs_are = h;
  groups = λ n. refl;
  turns = λ h. h;
  loose_is = sym (append-nil (loose d.nodes));
  count = omega arith;
}

pub extends_class : (d : DraftParts) (spec : ClassSpec) → refs d.nodes ≡ places_named (references_of d.nodes)
    → Extends d (with_class d spec) []
extends_class d spec h = record {
  grows = grows_not d.nodes;
  options = refl;
  names = refl;
  verb_names = omega arith;
  classes = omega (arith, length-append d.classes (spec ∷ []));
  refs_are = h;
  groups = λ n. refl;
  turns = λ h. h;
  loose_is = sym (append-nil (loose d.nodes));
  count = omega arith;
}

pub extends_node : (d new : DraftParts) (p : Placed) (id : ℕ) (t : Nested)
    → refs d.nodes ≡ places_named (references_of d.nodes) →
    new ≡ with_node d p → Makes d.nodes new.nodes id t → Replaces d.nodes [] new.nodes id
    → ((n : ℕ) → is_group n p.node ≡ false)
    → ((n : ℕ) → has_group new.nodes n ≡ (has_group d.nodes n || is_group n p.node)) →
    refs_of p ≡ places_named (reference_in p) → kids_of p.node ≡ [] → Extends d new (id ∷ [])
extends_node d new p id t h is made replaces no_group groups named childless = record {
  grows = made.grows;
  options = ap (λ v. v.options) is;
  names = ap (λ v. v.names) is;
  verb_names = omega (arith, ap (λ v. length v.verb_names) is);
  classes = omega (arith, ap (λ v. length v.classes) is);
  refs_are = ap (λ v. refs v.nodes) is ∙ refs_push d.nodes p ∙ ap (λ v. v ++ refs_of p) h
      ∙ ap (λ v. places_named (references_of d.nodes) ++ v) named
      ∙ sym (places_append (references_of d.nodes) (reference_in p))
      ∙ ap places_named (sym (references_push d.nodes p)) ∙ ap (λ v. places_named (references_of v.nodes)) (sym is);
  groups = λ n. groups n ∙ ap (λ b. has_group d.nodes n || b) (no_group n) ∙ or_false (has_group d.nodes n);
  turns = turns_with d new p is (rw childless (none_taken d.nodes));
  loose_is = replaces (loose d.nodes) (sym (append-nil (loose d.nodes)));
  count = omega (arith, ap (λ v. length v.nodes) is, length-append d.nodes (p ∷ []));
}

-- a name is one entry more at most
names_count : (names : List (List ℕ)) (name : List ℕ) → length (names_after names name) ≤ length names + 1
names_count names [] = omega arith
names_count names (c ∷ cs) = omega (arith, length-append names ((c ∷ cs) ∷ []))

-- the node of a verb, and its name
pub extends_verb : (d new : DraftParts) (kind : VerbKind) (name : List ℕ) (at id : ℕ)
    → refs d.nodes ≡ places_named (references_of d.nodes) →
    AddsVerb d new kind name at id → Extends d new (id ∷ [])
unfolding places_named
extends_verb d new kind name at id h adds =
    let named : DraftParts = record d { verb_names = names_after d.verb_names name } in
    let e = extends_node named new (verb_node kind d.verb_names name at) id
    (verb (verb_of kind (number_of_name d.verb_names name))) h adds.is adds.makes adds.replaces (λ n. refl)
    adds.groups refl refl in record {
      grows = e.grows;
      options = e.options;
      names = e.names;
      verb_names = omega (arith, ap (λ v. length v.verb_names) adds.is, names_count d.verb_names name);
      classes = e.classes;
      refs_are = e.refs_are;
      groups = e.groups;
      turns = e.turns;
      loose_is = e.loose_is;
      count = e.count;
    }

pub adds_none : (d : DraftParts) → Adds d d
adds_none d = record {
  options = refl;
  classes = refl;
  names = refl;
  verb_names = refl;
  references = refl;
  refs_are = refl;
  groups = λ n. refl;
  turns = λ h. h;
}

-- a node that is no capturing group, reference and lookaround is added
pub adds_node : (d new : DraftParts) (p : Placed) → new ≡ with_node d p → refs new.nodes ≡ refs d.nodes ++ refs_of p
    → refs_of p ≡ [] → reference_in p ≡ [] →
    ((n : ℕ) → has_group new.nodes n ≡ (has_group d.nodes n || is_group n p.node))
    → ((n : ℕ) → is_group n p.node ≡ false) →
    EndsIn d.nodes (kids_of p.node) → Adds d new
adds_node d new p is refs_are none no_reference groups no_group last = record {
  options = ap (λ v. v.options) is;
  classes = ap (λ v. v.classes) is;
  names = ap (λ v. v.names) is;
  verb_names = ap (λ v. v.verb_names) is;
  references = ap (λ v. references_of v.nodes) is ∙ references_push d.nodes p
      ∙ ap (λ v. references_of d.nodes ++ v) no_reference ∙ append-nil (references_of d.nodes);
  refs_are = refs_are ∙ ap (λ v. refs d.nodes ++ v) none ∙ append-nil (refs d.nodes);
  groups = λ n. groups n ∙ ap (λ b. has_group d.nodes n || b) (no_group n) ∙ or_false (has_group d.nodes n);
  turns = turns_with d new p is last;
}

-- a group's node is added
pub closes_node : (d new : DraftParts) (p : Placed) (form : Form) → new ≡ with_node d p
    → refs new.nodes ≡ refs d.nodes ++ refs_of p → refs_of p ≡ places_named (noted form p.at)
    → reference_in p ≡ noted form p.at →
    ((n : ℕ) → has_group new.nodes n ≡ (has_group d.nodes n || is_group n p.node))
    → ((n : ℕ) → is_group n p.node ≡ is_number (number_of form) n) →
    EndsIn d.nodes (kids_of p.node) → Closes d new form p.at
closes_node d new p form is refs_are named told groups numbered last = record {
  options = ap (λ v. v.options) is;
  classes = ap (λ v. v.classes) is;
  names = ap (λ v. v.names) is;
  verb_names = ap (λ v. v.verb_names) is;
  references = ap (λ v. references_of v.nodes) is ∙ references_push d.nodes p
      ∙ ap (λ v. references_of d.nodes ++ v) told;
  refs_are = refs_are ∙ ap (λ v. refs d.nodes ++ v) named;
  groups = λ n. groups n ∙ ap (λ b. has_group d.nodes n || b) (numbered n);
  turns = turns_with d new p is last;
}

-- first some nodes, then others
pub adds_then : {a b c : DraftParts} → Adds a b → Adds b c → Adds a c
adds_then s t = record {
  options = t.options ∙ s.options;
  classes = t.classes ∙ s.classes;
  names = t.names ∙ s.names;
  verb_names = t.verb_names ∙ s.verb_names;
  references = t.references ∙ s.references;
  refs_are = t.refs_are ∙ s.refs_are;
  groups = λ n. t.groups n ∙ s.groups n;
  turns = λ h. t.turns (s.turns h);
}

-- the last alternative, then the group
pub closes_then : {a b c : DraftParts} {form : Form} {at : ℕ} → Adds a b → Closes b c form at → Closes a c form at
closes_then {a} {b} {c} {form} {at} s t = record {
  options = t.options ∙ s.options;
  classes = t.classes ∙ s.classes;
  names = t.names ∙ s.names;
  verb_names = t.verb_names ∙ s.verb_names;
  references = t.references ∙ ap (λ v. v ++ noted form at) s.references;
  refs_are = t.refs_are ∙ ap (λ v. v ++ places_named (noted form at)) s.refs_are;
  groups = λ n. t.groups n ∙ ap (λ x. x || is_number (number_of form) n) (s.groups n);
  turns = λ h. t.turns (s.turns h);
}

-- a group, then others
pub closes_later : {a b c : DraftParts} {form : Form} {at : ℕ} → Closes a b form at → Adds b c → Closes a c form at
closes_later s t = record {
  options = t.options ∙ s.options;
  classes = t.classes ∙ s.classes;
  names = t.names ∙ s.names;
  verb_names = t.verb_names ∙ s.verb_names;
  references = t.references ∙ s.references;
  refs_are = t.refs_are ∙ s.refs_are;
  groups = λ n. t.groups n ∙ s.groups n;
  turns = λ h. t.turns (s.turns h);
}

-- a plain group adds nothing else
pub closes_plain : {a b : DraftParts} {at : ℕ} → Closes a b (grouped None) at → Adds a b
unfolding places_named
closes_plain {a} {b} {at} s = record {
  options = s.options;
  classes = s.classes;
  names = s.names;
  verb_names = s.verb_names;
  references = s.references ∙ append-nil (references_of a.nodes);
  refs_are = s.refs_are ∙ append-nil (refs a.nodes);
  groups = λ n. s.groups n ∙ or_false (has_group a.nodes n);
  turns = s.turns;
}
