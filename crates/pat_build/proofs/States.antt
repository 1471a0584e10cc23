-- A machine's state and its reading, as its draft grows.
use Rattle.std.proofs.Common.{◌≡◌, ℕ, ◌<◌, List, [], ◌∷◌, ◌++◌, length, refl, sym, ap, ◌∙◌, append_assoc, append-nil}
use Rattle.std.proofs.Common.{arith}
use Rattle.pat_tree.specs.Parts.{DraftParts}
use Rattle.pat_tree.specs.Refs.{refs}
use Rattle.pat_nodes.specs.declared.frames.Frame.{Frame}
use Rattle.pat_build.specs.declared.machine.Machine.{Machine}
use Rattle.pat_grammar.specs.Groups.{Form, noted, places_named}
use Rattle.pat_nodes.specs.Nodes.{Adds, Closes, references_of}
use Rattle.pat_build.specs.Machine.{state_of, known_of, whole_of, ids_held, ids_in}
use Rattle.pat_grammar.specs.Reading.{state_from, reading}
use Rattle.pat_nodes.proofs.References.{places_append}

-- a list that isn't empty has a last item
pub record HasLast {A : Type 0} (xs : List A) : Type 0 where
  pub front : List A
  pub last : A
  pub is : xs ≡ front ++ last ∷ []

pub last_in : {A : Type 0} (xs : List A) → 0 < length xs → HasLast xs
last_in [] h = absurd (omega (arith, h))
last_in (x ∷ []) h = record { front = []; last = x; is = refl }
last_in (x ∷ y ∷ xs) h = let l = last_in (y ∷ xs) (omega arith) in record {
  front = x ∷ l.front;
  last = l.last;
  is = ap (λ zs. x ∷ zs) l.is;
}

pub held_push : (fs : List Frame) (f : Frame) → ids_held (fs ++ f ∷ []) ≡ ids_held fs ++ ids_in f.outer
held_push [] f = append-nil (ids_in f.outer)
held_push (g ∷ fs) f = ap (λ l. ids_in g.outer ++ l) (held_push fs f)
    ∙ sym (append_assoc (ids_in g.outer) (ids_held fs) (ids_in f.outer))

-- the state and the reading of a machine whose draft has more nodes
module _ (m : Machine) (draft : DraftParts) (adds : Adds m.draft draft) where
  pub state_kept : state_of (record m { draft = draft }) ≡ state_of m
  state_kept =
      ap (λ v. record (state_of (record m { draft = draft })) { classes = v }) adds.classes
      ∙ ap (λ v. record (state_of (record m { draft = draft })) { classes = m.draft.classes; names = v }) adds.names
      ∙ ap (λ v. record (state_of (record m { draft = draft })) {
        classes = m.draft.classes;
        names = m.draft.names;
        verb_names = v;
      }) adds.verb_names
      ∙ ap (λ v. record (state_of m) { references = v }) adds.references

  pub whole_kept : whole_of (record m { draft = draft }) ≡ whole_of m
  whole_kept = ap (λ v. reading (known_of m) m.text.now (state_from m.start v)) adds.options

  pub refs_kept : refs m.draft.nodes ≡ places_named (references_of m.draft.nodes)
      → refs draft.nodes ≡ places_named (references_of draft.nodes)
  refs_kept h = adds.refs_are ∙ h ∙ ap places_named (sym adds.references)

-- the same where a group's node comes last
module _ (m : Machine) (draft : DraftParts) {form : Form} {at : ℕ} (closes : Closes m.draft draft form at) where
  pub state_closed : state_of (record m { draft = draft }) ≡ record (state_of m)
      { references = references_of m.draft.nodes ++ noted form at }
  state_closed =
      ap (λ v. record (state_of (record m { draft = draft })) { classes = v }) closes.classes
      ∙ ap (λ v. record (state_of (record m { draft = draft })) { classes = m.draft.classes; names = v }) closes.names
      ∙ ap (λ v. record (state_of (record m { draft = draft })) {
        classes = m.draft.classes;
        names = m.draft.names;
        verb_names = v;
      }) closes.verb_names
      ∙ ap (λ v. record (state_of m) { references = v }) closes.references

  pub whole_closed : whole_of (record m { draft = draft }) ≡ whole_of m
  whole_closed = ap (λ v. reading (known_of m) m.text.now (state_from m.start v)) closes.options

  pub refs_closed : refs m.draft.nodes ≡ places_named (references_of m.draft.nodes)
      → refs draft.nodes ≡ places_named (references_of draft.nodes)
  refs_closed h =
      closes.refs_are ∙ ap (λ v. v ++ places_named (noted form at)) h
      ∙ sym (places_append (references_of m.draft.nodes) (noted form at)) ∙ ap places_named (sym closes.references)
