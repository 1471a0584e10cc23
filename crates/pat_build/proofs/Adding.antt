-- What a token that adds one node or one class does to a machine keeps what the machine means.
use Rattle.std.proofs.Common.{◌≡◌, ℕ, ◌<◌, ◌≤◌, Bool, false, ◌||◌, List, [], ◌∷◌, ◌++◌, length, length-append}
use Rattle.std.proofs.Common.{append-nil, Some, Ok, refl, sym, ap, ◌∙◌, arith}
use Rattle.std.proofs.lemmas.List.Elements.{All-nil, All-push}
use Rattle.pat_tree.specs.declared.nodes.Placed.{Placed}
use Rattle.pat_tree.specs.declared.nodes.ClassSpec.{ClassSpec}
use Rattle.pat_tree.specs.declared.nodes.Item.TheVariants.{Class}
use Rattle.pat_tree.specs.Parts.{DraftParts, with_node, with_class}
use Rattle.pat_tree.specs.Nested.{Nested, one, verb}
use Rattle.pat_tree.specs.Refs.{refs_of, has_group, is_group}
use Rattle.pat_tree.specs.Growing.{Makes, Replaces}
use Rattle.pat_tree.specs.Rules.{kids_of}
use Rattle.token_parts.specs.declared.token.Token.{Token}
use Rattle.token_parts.specs.declared.token.VerbKind.{VerbKind}
use Rattle.pat_nodes.specs.declared.frames.Atom.TheVariants.{Single, Whole}
use Rattle.pat_build.specs.declared.machine.Machine.{Machine}
use Rattle.pat_grammar.specs.Groups.{places_named}
use Rattle.pat_grammar.specs.Parts.{atom, bare, of_class}
use Rattle.pat_grammar.specs.State.{State}
use Rattle.pat_grammar.specs.Verbs.{verb_of, number_of_name, names_after}
use Rattle.pat_build.specs.Machine.{Means, Ready, Begins, Took, state_of}
use Rattle.pat_nodes.specs.Nodes.{IsMany, AddsVerb, references_of, reference_in, verb_node}
use Rattle.pat_nodes.proofs.References.{references_push}
use Rattle.pat_nodes.proofs.Extending.{Extends, extends_node, extends_class, extends_verb}
use Rattle.pat_build.proofs.Taking.{atom_means, bare_means}

-- the node that a draft has more
pub record OneMore (m : Machine) (draft : DraftParts) (p : Placed) (id : ℕ) (t : Nested) : Type 0 where
  pub is : draft ≡ with_node m.draft p
  pub makes : Makes m.draft.nodes draft.nodes id t
  pub replaces : Replaces m.draft.nodes [] draft.nodes id
  pub no_group : (n : ℕ) → is_group n p.node ≡ false
  pub groups : (n : ℕ) → has_group draft.nodes n ≡ (has_group m.draft.nodes n || is_group n p.node)
  pub named : refs_of p ≡ places_named (reference_in p)
  pub childless : kids_of p.node ≡ []

pub state_more : (m : Machine) (draft : DraftParts) (p : Placed) → draft ≡ with_node m.draft p →
    state_of (record m { draft = draft }) ≡ record (state_of m)
    { references = references_of m.draft.nodes ++ reference_in p }
state_more m draft p is =
    ap (λ d. state_of (record m { draft = d })) is ∙ ap (λ rs. record (state_of m) { references = rs })
    (references_push m.draft.nodes p)

-- the state after a verb
abbrev pub state_named : Machine → List ℕ → State
state_named m name = record (state_of m) { verb_names = names_after m.draft.verb_names name }

state_verb : (m : Machine) (draft : DraftParts) (kind : VerbKind) (name : List ℕ) (at id : ℕ)
    → AddsVerb m.draft draft kind name at id →
    state_of (record m { draft = draft }) ≡ state_named m name
state_verb m draft kind name at id adds =
    ap (λ d. state_of (record m { draft = d })) adds.is
    ∙ ap (λ rs. record (state_named m name) { references = rs })
    (references_push m.draft.nodes (verb_node kind m.draft.verb_names name at)
    ∙ append-nil (references_of m.draft.nodes))

module _ (m : Machine) (means : Means m) where
  -- the node waits for a quantifier
  pub node_waits : (token : Token) (after at id : ℕ) (t : Nested) (draft : DraftParts) (p : Placed)
      → Ready token after m → OneMore m draft p id t → IsMany t →
      Begins m token after
      (Ok (atom t (record (state_of m) {
        at = after;
        references = references_of m.draft.nodes ++ reference_in p;
      }))) →
      Took m (record m { draft = draft; waiting = Some (Whole id at); at = after })
  node_waits token after at id t draft p ready more many begins =
      let state = state_more m draft p more.is in
      let extends = extends_node m.draft draft p id t means.refs_are more.is more.makes more.replaces more.no_group
      more.groups more.named more.childless in
      atom_means m means token after after m.quoting (Whole id at) draft ready (omega arith) ready.there.within
      extends (more.makes.below, rw more.makes.is many)
      (λ n h. begins n h ∙ ap (λ st. Ok (atom t (record st { at = after }))) (sym state)
      ∙ ap (λ u. Ok (atom u (record (state_of (record m { draft = draft })) { at = after })))
      (sym more.makes.is))

  -- no quantifier may follow the node
  pub node_stands : (token : Token) (after id : ℕ) (t : Nested) (draft : DraftParts) (p : Placed) (parts : List ℕ)
      → Ready token after m → OneMore m draft p id t → parts ≡ m.level.parts ++ id ∷ [] →
      Begins m token after
      (Ok (bare t (record (state_of m) {
        at = after;
        references = references_of m.draft.nodes ++ reference_in p;
      }))) →
      Took m (record m { draft = draft; level = record (m.level) { parts = parts }; at = after })
  node_stands token after id t draft p parts ready more pushed begins =
      let state = state_more m draft p more.is in
      let extends = extends_node m.draft draft p id t means.refs_are more.is more.makes more.replaces more.no_group
      more.groups more.named more.childless in
      bare_means m means token after id t draft parts m.called ready extends more.makes pushed
      (λ n h. begins n h ∙ ap (λ st. Ok (bare t (record st { at = after }))) (sym state))

  -- a new class waits for a quantifier
  pub class_waits : (token : Token) (after end at id : ℕ) (quoting : Bool) (spec : ClassSpec) (draft : DraftParts)
      → Ready token after m → after ≤ end → end ≤ length m.text.now →
      draft ≡ with_class m.draft spec → id ≡ length m.draft.classes →
      Begins m token after (Ok (of_class spec (record (state_of m) { at = end; quoting = quoting }))) →
      Took m (record m { draft = draft; waiting = Some (Single (Class id) at); at = end; quoting = quoting })
  class_waits token after end at id quoting spec draft ready later within is number begins =
      let extends : Extends m.draft draft [] = rw is (extends_class m.draft spec means.refs_are) in
      let below : id < length draft.classes = omega (
        arith,
        number,
        ap (λ d. length d.classes) is,
        length-append m.draft.classes (spec ∷ []),
      ) in
      atom_means m means token after end quoting (Single (Class id) at) draft ready later within extends
      (All-push (λ n. n < length draft.classes) [] id (All-nil (λ n. n < length draft.classes)) below)
      (λ n h. begins n h
      ∙ ap (λ d. Ok (atom (one (Class (length m.draft.classes)))
      (state_of (record m { draft = d; at = end; quoting = quoting })))) (sym is)
      ∙ ap (λ k. Ok (atom (one (Class k)) (state_of (record m { draft = draft; at = end; quoting = quoting }))))
      (sym number))

  -- a verb waits for a quantifier
  pub verb_waits : (token : Token) (after at id : ℕ) (kind : VerbKind) (name : List ℕ) (draft : DraftParts)
      → Ready token after m → AddsVerb m.draft draft kind name at id →
      Begins m token after
      (Ok (atom (verb (verb_of kind (number_of_name m.draft.verb_names name)))
      (record (state_named m name) { at = after }))) →
      Took m (record m { draft = draft; waiting = Some (Whole id at); at = after })
  verb_waits token after at id kind name draft ready adds begins =
      let t = verb (verb_of kind (number_of_name m.draft.verb_names name)) in
      let state = state_verb m draft kind name at id adds in
      let many : IsMany t = record { many = λ low high lazy. refl } in
      atom_means m means token after after m.quoting (Whole id at) draft ready (omega arith) ready.there.within
      (extends_verb m.draft draft kind name at id means.refs_are adds) (adds.makes.below, rw adds.makes.is many)
      (λ n h. begins n h ∙ ap (λ st. Ok (atom t (record st { at = after }))) (sym state)
      ∙ ap (λ u. Ok (atom u (record (state_of (record m { draft = draft })) { at = after })))
      (sym adds.makes.is))

  -- no quantifier may follow a verb
  pub verb_stands : (token : Token) (after at id : ℕ) (kind : VerbKind) (name : List ℕ) (draft : DraftParts)
      (parts : List ℕ) → Ready token after m → AddsVerb m.draft draft kind name at id
      → parts ≡ m.level.parts ++ id ∷ [] →
      Begins m token after
      (Ok (bare (verb (verb_of kind (number_of_name m.draft.verb_names name)))
      (record (state_named m name) { at = after }))) →
      Took m (record m { draft = draft; level = record (m.level) { parts = parts }; at = after })
  verb_stands token after at id kind name draft parts ready adds pushed begins =
      let t = verb (verb_of kind (number_of_name m.draft.verb_names name)) in
      bare_means m means token after id t draft parts m.called ready
      (extends_verb m.draft draft kind name at id means.refs_are adds) adds.makes pushed
      (λ n h. begins n h ∙ ap (λ st. Ok (bare t (record st { at = after })))
      (sym (state_verb m draft kind name at id adds)))
