-- What a token that begins no group does to a machine keeps what the machine means.
use Rattle.std.proofs.Common.{◌≡◌, ℕ, suc, ◌+◌, ◌-◌, ◌*◌, ◌<◌, ◌≤◌, Bool, true, false, List, [], ◌∷◌, ◌++◌, length}
use Rattle.std.proofs.Common.{append_assoc, append-nil, reverse, Option, Some, None, Ok, refl, sym, ap, ◌∙◌, arith}
use Rattle.std.proofs.Common.{subst}
use Rattle.pat_tree.specs.declared.options.Options.{Options}
use Rattle.pat_tree.specs.Parts.{DraftParts}
use Rattle.pat_tree.specs.Nested.{Nested}
use Rattle.pat_tree.specs.Growing.{Replaces, Makes}
use Rattle.pat_tree.proofs.Growing.{stand_made, grows_not}
use Rattle.token_parts.specs.declared.token.Token.{Token}
use Rattle.token_parts.specs.declared.token.Token.TheVariants.{Quantifier, Passed, QuoteOn, QuoteOff}
use Rattle.token_parts.specs.declared.token.QuantMode.{QuantMode}
use Rattle.pat_nodes.specs.declared.frames.Atom.{Atom}
use Rattle.pat_build.specs.declared.machine.Machine.{Machine}
use Rattle.pat_grammar.specs.State.{State, passed_over}
use Rattle.pat_grammar.specs.Parts.{atom, bare, nothing, repeated}
use Rattle.pat_grammar.specs.Reading.{reading, state_from}
use Rattle.pat_build.specs.Stack.{Layer, Opened, with_part, resume}
use Rattle.pat_nodes.specs.Nodes.{Adds, IsAtom, atom_tree, ids_of}
use Rattle.pat_build.specs.Machine.{AtomStands, state_of, known_of, whole_of, left, Means, IsNext, Ready, Begins}
use Rattle.pat_build.specs.Machine.{Took, HasRoom, ids_waiting, ids_in, ids_held}
use Rattle.pat_build.proofs.Steps.{step_atom, step_bare, step_nothing, step_quantifier, step_passed, step_quote_on}
use Rattle.pat_build.proofs.Steps.{step_quote_off}
use Rattle.pat_grammar.proofs.Starting.{positive}
use Rattle.pat_build.proofs.Standing.{level_on, stack_on}
use Rattle.pat_build.proofs.States.{state_kept, whole_kept, refs_kept}
use Rattle.pat_build.proofs.Numbers.{numbers_on, numbers_kept}
use Rattle.pat_build.proofs.Waiting.{waits_for, idle_value, loose_waiting, loose_idle, as_part}
use Rattle.pat_nodes.proofs.Extending.{Extends}

abbrev quoting_in : Option State → Bool
quoting_in None = false
quoting_in (Some st) = st.quoting

module _ (m : Machine) (means : Means m) where
  -- an atom waits for a quantifier
  pub atom_means : (token : Token) (after end : ℕ) (quoting : Bool) (a : Atom) (draft : DraftParts) →
      Ready token after m → after ≤ end → end ≤ length m.text.now → Extends m.draft draft (ids_of a) → IsAtom draft a →
      Begins m token after
      (Ok (atom (atom_tree draft.nodes a)
      (state_of (record m { draft = draft; waiting = Some a; at = end; quoting = quoting })))) →
      Took m (record m { draft = draft; waiting = Some a; at = end; quoting = quoting })
  atom_means token after end quoting a draft ready later within extends is_atom begins =
      let (n, n_is) = positive (left m) means.layer.n means.level.n in
      let u : ℕ = 2 * (length m.text.now - end) in
      let there = ready.there in
      let enough : 2 * (length m.text.now - after) + 1 < n =
      omega (arith, n_is, means.level.n, there.goes, there.within) in
      let less : u ≤ left m = omega (arith, there.goes) in
      let level = level_on extends.grows (left m) u less means.level in
      let above : u < n = omega (arith, enough, later) in
      let new : Machine = record m { draft = draft; waiting = Some a; at = end; quoting = quoting } in
      let step = step_atom (known_of m) m.text.now (state_of m) token after there.token_is ready.quiet means.opens
      means.layer n (atom_tree draft.nodes a) (state_of new) n_is (begins n enough) in
      let whole : whole_of new ≡ whole_of m = ap (λ v. reading (known_of m) m.text.now (state_from m.start v))
      extends.options in record {
        means = record {
          opens = means.opens;
          layer = record (means.layer) { n = n };
          waiting = Some (n, atom_tree draft.nodes a);
          stack = stack_on extends.grows (left m) u less (reverse m.stack.items) means.opens means.stack;
          level = record { branches = level.branches; parts = level.parts; n = above; k = level.k };
          pending = (is_atom, (n, above, refl));
          barred = means.barred;
          tested = means.tested;
          value = sym step ∙ idle_value m means ready.idle ∙ sym whole;
          within = within;
          short = means.short;
          depth = means.depth;
          classes = omega (arith, means.classes, there.goes, later, extends.classes);
          verb_names = omega (arith, means.verb_names, there.goes, later, extends.verb_names);
          named = rw (extends.names) means.named;
          names = omega (arith, means.names, there.goes, later, ap length extends.names);
          refs_are = extends.refs_are;
          turns = extends.turns means.turns;
          loose_is = extends.loose_is ∙ ap (λ l. l ++ ids_of a) (loose_idle m means ready.idle
              ∙ ap (λ l. ids_held m.stack.items ++ l) (append-nil (ids_in m.level)))
              ∙ append_assoc (ids_held m.stack.items) (ids_in m.level) (ids_of a);
          numbers = numbers_on extends.groups means.numbers;
        };
        room = omega (arith, ready.room, there.goes, later, extends.count);
        goes = omega (arith, there.goes, later);
        same = record { text = refl; options = extends.options; whole = whole };
      }

  -- what no quantifier may follow is a part
  pub bare_means : (token : Token) (after id : ℕ) (t : Nested) (draft : DraftParts) (parts : List ℕ)
      (called : Option ℕ) →
      Ready token after m → Extends m.draft draft (id ∷ []) → Makes m.draft.nodes draft.nodes id t
      → parts ≡ m.level.parts ++ id ∷ [] →
      Begins m token after
      (Ok (bare t (state_of (record m {
        draft = draft;
        level = record (m.level) { parts = parts };
        at = after;
        called = called;
      })))) →
      Took m (record m { draft = draft; level = record (m.level) { parts = parts }; at = after; called = called })
  bare_means token after id t draft parts called ready extends made more begins =
      let (n, n_is) = positive (left m) means.layer.n means.level.n in
      let u : ℕ = 2 * (length m.text.now - after) in
      let there = ready.there in
      let enough : u + 1 < n = omega (arith, n_is, means.level.n, there.goes, there.within) in
      let above : u < n = omega (arith, enough) in
      let less : u ≤ left m = omega (arith, there.goes) in
      let level = level_on extends.grows (left m) u less means.level in
      let new : Machine = record m {
        draft = draft;
        level = record (m.level) { parts = parts };
        at = after;
        called = called;
      } in
      let step = step_bare (known_of m) m.text.now (state_of m) token after there.token_is ready.quiet means.opens
      means.layer n t (state_of new) n_is (begins n enough) in
      let whole : whole_of new ≡ whole_of m = ap (λ v. reading (known_of m) m.text.now (state_from m.start v))
      extends.options in record {
        means = record {
          opens = means.opens;
          layer = with_part (record (means.layer) { n = n }) t;
          waiting = None;
          stack = stack_on extends.grows (left m) u less (reverse m.stack.items) means.opens means.stack;
          level = record {
            branches = level.branches;
            parts = rw more (stand_made made means.level.parts);
            n = above;
            k = level.k;
          };
          pending = rw (ready.idle) refl;
          barred = means.barred;
          tested = means.tested;
          value = sym step ∙ idle_value m means ready.idle ∙ sym whole;
          within = there.within;
          short = means.short;
          depth = means.depth;
          classes = omega (arith, means.classes, there.goes, extends.classes);
          verb_names = omega (arith, means.verb_names, there.goes, extends.verb_names);
          named = rw (extends.names) means.named;
          names = omega (arith, means.names, there.goes, ap length extends.names);
          refs_are = extends.refs_are;
          turns = extends.turns means.turns;
          loose_is = extends.loose_is ∙ ap (λ l. l ++ id ∷ []) (loose_idle m means ready.idle
              ∙ ap (λ l. ids_held m.stack.items ++ l) (append-nil (ids_in m.level)))
              ∙ as_part (ids_held m.stack.items) m.level.branches m.level.parts (id ∷ [])
              ∙ ap (λ l. ids_held m.stack.items ++ ((m.level.branches ++ l) ++ [])) (sym more)
              ∙ ap (λ w. ids_held m.stack.items ++ ((m.level.branches ++ parts) ++ ids_waiting w)) (sym ready.idle);
          numbers = numbers_on extends.groups means.numbers;
        };
        room = omega (arith, ready.room, there.goes, extends.count);
        goes = there.goes;
        same = record { text = refl; options = extends.options; whole = whole };
      }

  -- nothing that is a part
  pub nothing_means : (token : Token) (after : ℕ) (options : Options) (quoting : Bool) → Ready token after m →
      Begins m token after (Ok (nothing (state_of (record m { at = after; options = options; quoting = quoting })))) →
      Took m (record m { at = after; options = options; quoting = quoting })
  nothing_means token after options quoting ready begins =
      let (n, n_is) = positive (left m) means.layer.n means.level.n in
      let u : ℕ = 2 * (length m.text.now - after) in
      let there = ready.there in
      let enough : u + 1 < n = omega (arith, n_is, means.level.n, there.goes, there.within) in
      let above : u < n = omega (arith, enough) in
      let less : u ≤ left m = omega (arith, there.goes) in
      let level = level_on (grows_not m.draft.nodes) (left m) u less means.level in
      let new : Machine = record m { at = after; options = options; quoting = quoting } in
      let step = step_nothing (known_of m) m.text.now (state_of m) token after there.token_is ready.quiet means.opens
      means.layer n (state_of new) n_is (begins n enough) in record {
        means = record {
          opens = means.opens;
          layer = record (means.layer) { n = n };
          waiting = None;
          stack = stack_on (grows_not m.draft.nodes) (left m) u less (reverse m.stack.items) means.opens means.stack;
          level = record { branches = level.branches; parts = level.parts; n = above; k = level.k };
          pending = rw (ready.idle) refl;
          barred = means.barred;
          tested = means.tested;
          value = sym step ∙ idle_value m means ready.idle;
          within = there.within;
          short = means.short;
          depth = means.depth;
          classes = omega (arith, means.classes, there.goes);
          named = means.named;
          names = omega (arith, means.names, there.goes);
          verb_names = omega (arith, means.verb_names, there.goes);
          refs_are = means.refs_are;
          turns = means.turns;
          loose_is = means.loose_is;
          numbers = means.numbers;
        };
        room = omega (arith, ready.room, there.goes);
        goes = there.goes;
        same = record { text = refl; options = refl; whole = refl };
      }

  -- what is passed over leaves an atom waiting
  step_over_passed : (token : Token) (after : ℕ) (quoting : Bool) → IsNext token after m →
      passed_over token (record (state_of m) { at = after }) ≡ Some
      (record (state_of m) { at = after; quoting = quoting }) →
      (os : List Opened) (layer : Layer) (n : ℕ) (t : Nested) →
      resume (known_of m) m.text.now os layer (Some (suc n, t)) (state_of m) ≡ resume (known_of m) m.text.now os layer
      (Some (n, t)) (record (state_of m) { at = after; quoting = quoting })
  step_over_passed Passed after quoting there e os layer n t =
      let same : m.quoting ≡ quoting = ap quoting_in e in
      step_passed (known_of m) m.text.now (state_of m) Passed after there.token_is refl os layer n t
      ∙ ap (λ q. resume (known_of m) m.text.now os layer (Some (n, t))
      (record (state_of m) { at = after; quoting = q })) same
  step_over_passed QuoteOn after quoting there e os layer n t =
      let same : true ≡ quoting = ap quoting_in e in
      step_quote_on (known_of m) m.text.now (state_of m) QuoteOn after there.token_is refl os layer n t
      ∙ ap (λ q. resume (known_of m) m.text.now os layer (Some (n, t))
      (record (state_of m) { at = after; quoting = q })) same
  step_over_passed QuoteOff after quoting there e os layer n t =
      let same : false ≡ quoting = ap quoting_in e in
      step_quote_off (known_of m) m.text.now (state_of m) QuoteOff after there.token_is refl os layer n t
      ∙ ap (λ q. resume (known_of m) m.text.now os layer (Some (n, t))
      (record (state_of m) { at = after; quoting = q })) same
  step_over_passed _ after quoting there e os layer n t = absurd cc

  pub pass_means : (token : Token) (after : ℕ) (quoting : Bool) (a : Atom) → m.waiting ≡ Some a → IsNext token after m
      → HasRoom 0 m →
      passed_over token (record (state_of m) { at = after }) ≡ Some
      (record (state_of m) { at = after; quoting = quoting }) →
      Took m (record m { at = after; quoting = quoting })
  pass_means token after quoting a is there room passed =
      let waits = waits_for m means a is in
      let p = waits.0 in
      let u : ℕ = 2 * (length m.text.now - after) in
      let falls : u < left m - 1 = omega (arith, there.goes, there.within) in
      let less : u ≤ left m = omega arith in
      let above : u < p = omega (arith, waits.1) in
      let t = atom_tree m.draft.nodes a in
      let step = step_over_passed token after quoting there passed means.opens means.layer p t in record {
        means = record {
          opens = means.opens;
          layer = means.layer;
          waiting = Some (p, t);
          stack = stack_on (grows_not m.draft.nodes) (left m) u less (reverse m.stack.items) means.opens means.stack;
          level = level_on (grows_not m.draft.nodes) (left m) u less means.level;
          pending = subst (λ x. AtomStands m.draft u x (Some (p, t))) (sym is) (waits.2, (p, above, refl));
          barred = means.barred;
          tested = means.tested;
          value = sym step ∙ waits.3;
          within = there.within;
          short = means.short;
          depth = means.depth;
          classes = omega (arith, means.classes, there.goes);
          named = means.named;
          names = omega (arith, means.names, there.goes);
          verb_names = omega (arith, means.verb_names, there.goes);
          refs_are = means.refs_are;
          turns = means.turns;
          loose_is = means.loose_is;
          numbers = means.numbers;
        };
        room = omega (arith, room, there.goes);
        goes = there.goes;
        same = record { text = refl; options = refl; whole = refl };
      }

  -- the atom under its quantifier is a part
  pub quantifier_means : (after low : ℕ) (high : Option ℕ) (mode : QuantMode) (a : Atom) (id : ℕ) (draft : DraftParts)
      (parts : List ℕ) →
      m.waiting ≡ Some a → IsNext (Quantifier low high mode) after m → HasRoom 0 m →
      Makes m.draft.nodes draft.nodes id (repeated low high mode m.options.ungreedy (atom_tree m.draft.nodes a))
      → length draft.nodes ≤ length m.draft.nodes + 2 → Adds m.draft draft
      → Replaces m.draft.nodes (ids_of a) draft.nodes id → parts ≡ m.level.parts ++ id ∷ [] →
      Took m (record m { draft = draft; level = record (m.level) { parts = parts }; waiting = None; at = after })
  quantifier_means after low high mode a id draft parts is there room makes count adds replaces more =
      let t = repeated low high mode m.options.ungreedy (atom_tree m.draft.nodes a) in
      let waits = waits_for m means a is in
      let p = waits.0 in
      let u : ℕ = 2 * (length m.text.now - after) in
      let falls : u < left m - 1 = omega (arith, there.goes, there.within) in
      let less : u ≤ left m = omega arith in
      let level = level_on makes.grows (left m) u less means.level in
      let step = step_quantifier (known_of m) m.text.now (state_of m) (Quantifier low high mode) after there.token_is
      low high mode refl means.opens means.layer p (atom_tree m.draft.nodes a) in
      let whole = whole_kept m draft adds in record {
        means = record {
          opens = means.opens;
          layer = with_part means.layer t;
          waiting = None;
          stack = stack_on makes.grows (left m) u less (reverse m.stack.items) means.opens means.stack;
          level = record {
            branches = level.branches;
            parts = rw more (stand_made makes means.level.parts);
            n = level.n;
            k = level.k;
          };
          pending = refl;
          barred = means.barred;
          tested = means.tested;
          value = ap (λ st. resume (known_of m) m.text.now means.opens (with_part means.layer t) None
              (record st { at = after })) (state_kept m draft adds) ∙ sym step ∙ waits.3 ∙ sym whole;
          within = there.within;
          short = means.short;
          depth = means.depth;
          classes = omega (arith, means.classes, there.goes, ap length adds.classes);
          named = rw (adds.names) means.named;
          names = omega (arith, means.names, there.goes, ap length adds.names);
          verb_names = omega (arith, means.verb_names, there.goes, ap length adds.verb_names);
          refs_are = refs_kept m draft adds means.refs_are;
          turns = adds.turns means.turns;
          loose_is = replaces (ids_held m.stack.items ++ ids_in m.level) (loose_waiting m means a is)
              ∙ as_part (ids_held m.stack.items) m.level.branches m.level.parts (id ∷ [])
              ∙ ap (λ l. ids_held m.stack.items ++ ((m.level.branches ++ l) ++ [])) (sym more);
          numbers = numbers_kept adds means.numbers;
        };
        room = omega (arith, room, there.goes, count);
        goes = there.goes;
        same = record { text = refl; options = adds.options; whole = whole };
      }
