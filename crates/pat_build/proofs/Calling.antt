-- What a callout does to a machine keeps what the machine means.
use Rattle.std.proofs.Common.{◌≡◌, ℕ, ◌==◌, ◌&&◌, Bool, true, false, List, [], ◌∷◌, ◌++◌, append-nil, reverse}
use Rattle.std.proofs.Common.{Option, Some, None, Ok, refl, sym, ap, ◌∙◌, arith, if◌then◌else◌}
use Rattle.std.proofs.lemmas.Bool.Decides.{nat_tests}
use Rattle.pat_tree.specs.declared.nodes.Placed.{Placed}
use Rattle.pat_tree.specs.Parts.{DraftParts}
use Rattle.pat_tree.specs.Nested.{Nested}
use Rattle.pat_tree.proofs.Growing.{stand_made}
use Rattle.token_parts.specs.declared.token.Token.{Token}
use Rattle.pat_lex.specs.Tokens.{token_at}
use Rattle.pat_build.specs.declared.machine.Machine.{Machine}
use Rattle.pat_grammar.specs.State.{State, flags_of}
use Rattle.pat_grammar.specs.Callouts.{is_item, is_called, automatic, next_item}
use Rattle.pat_grammar.specs.Parts.{bare}
use Rattle.pat_grammar.specs.Reading.{reading, state_from}
use Rattle.pat_build.specs.Stack.{with_part, resume}
use Rattle.pat_build.specs.Machine.{Means, Ready, Begins, Took, IsQuiet, state_of, known_of, left, ids_held, ids_in}
use Rattle.pat_build.specs.Machine.{ids_waiting}
use Rattle.pat_nodes.specs.Nodes.{references_of, reference_in}
use Rattle.pat_build.proofs.Steps.{step_automatic, quiet_due}
use Rattle.pat_grammar.proofs.Starting.{positive}
use Rattle.pat_build.proofs.Standing.{level_on, stack_on}
use Rattle.pat_build.proofs.Numbers.{numbers_on}
use Rattle.pat_build.proofs.Waiting.{idle_value, loose_idle, as_part}
use Rattle.pat_nodes.proofs.Extending.{extends_node}
use Rattle.pat_build.proofs.Taking.{bare_means}
use Rattle.pat_build.proofs.Adding.{OneMore, state_more}
use Rattle.pat_tree.specs.declared.options.Options.{Options}
use Rattle.pat_grammar.specs.declared.cursor.Place.{Place}

same_place : (n : ℕ) → (n == n) ≡ true
same_place n = grind (arith, nat_tests)

not_twice : (item called on : Bool) → called ≡ true → (if item then (if called then false else on) else false) ≡ false
not_twice true called on is = rw is refl
not_twice false called on is = refl

-- no second automatic callout is due at a place
pub quiet_after : (calling : Bool) (text : List ℕ) (st : State) (found : Token) (place : ℕ)
    → token_at text (flags_of false st) st.at ≡ Ok (found, place) →
    automatic calling text (record st { called = Some st.at }) ≡ None
quiet_after calling text st found place read =
    let here : State = record st { called = Some st.at } in
    quiet_due (record { names = []; calling = calling }) text here found place read calling
    (not_twice (is_item found) (is_called (Some st.at) st.at) (calling && st.options.auto_callout)
    (same_place st.at))

-- a node that no other is told of leaves the state
state_unnamed : (m : Machine) (draft : DraftParts) (p : Placed) (id : ℕ) (t : Nested) → OneMore m draft p id t
    → reference_in p ≡ [] → state_of (record m { draft = draft }) ≡ state_of m
state_unnamed m draft p id t more none =
    state_more m draft p more.is ∙ ap (λ rs. record (state_of m) { references = rs })
    (ap (λ l. references_of m.draft.nodes ++ l) none ∙ append-nil (references_of m.draft.nodes))

module _ (m : Machine) (means : Means m) where
  -- a callout that is written
  pub callout_means : (token : Token) (after id : ℕ) (t : Nested) (draft : DraftParts) (p : Placed) (parts : List ℕ)
      (called : Option ℕ) →
      Ready token after m → OneMore m draft p id t → reference_in p ≡ [] → parts ≡ m.level.parts ++ id ∷ [] →
      Begins m token after (Ok (bare t (record (state_of m) { at = after; called = called }))) →
      Took m (record m { draft = draft; level = record (m.level) { parts = parts }; at = after; called = called })
  callout_means token after id t draft p parts called ready more none pushed begins =
      let extends = extends_node m.draft draft p id t means.refs_are more.is more.makes more.replaces more.no_group
      more.groups more.named more.childless in
      bare_means m means token after id t draft parts called ready extends more.makes pushed
      (λ n h. begins n h ∙ ap (λ st. Ok (bare t (record st { at = after; called = called })))
      (sym (state_unnamed m draft p id t more none)))

  -- an automatic callout
  pub automatic_means : (token : Token) (after id : ℕ) (t : Nested) (draft : DraftParts) (p : Placed) (parts : List ℕ)
      → m.waiting ≡ None →
      token_at m.text.now (flags_of false (state_of m)) m.at ≡ Ok (token, after)
      → automatic m.calling m.text.now (state_of m) ≡ Some t →
      OneMore m draft p id t → reference_in p ≡ [] → parts ≡ m.level.parts ++ id ∷ [] →
      Means (record m { draft = draft; level = record (m.level) { parts = parts }; called = Some m.at })
      × IsQuiet (record m { draft = draft; level = record (m.level) { parts = parts }; called = Some m.at })
  automatic_means token after id t draft p parts idle read due more none pushed =
      let extends = extends_node m.draft draft p id t means.refs_are more.is more.makes more.replaces more.no_group
      more.groups more.named more.childless in
      let (n, n_is) = positive (left m) means.layer.n means.level.n in
      let level = level_on extends.grows (left m) (left m) (omega arith) means.level in
      let quiet = quiet_after m.calling m.text.now (state_of m) token after read in
      let step = step_automatic (known_of m) m.text.now (state_of m) t due quiet means.opens means.layer n n_is in
      let state = state_unnamed m draft p id t more none in
      let whole = ap (λ v. reading (known_of m) m.text.now (state_from m.start v)) extends.options in (
        record {
          opens = means.opens;
          layer = with_part means.layer t;
          waiting = None;
          stack = stack_on extends.grows (left m) (left m) (omega arith) (reverse m.stack.items) means.opens
              means.stack;
          level = record {
            branches = level.branches;
            parts = rw pushed (stand_made more.makes means.level.parts);
            n = level.n;
            k = level.k;
          };
          pending = rw idle refl;
          barred = means.barred;
          tested = means.tested;
          value = ap (λ st. resume (known_of m) m.text.now means.opens (with_part means.layer t) None
              (record st { called = Some m.at })) state
              ∙ sym step ∙ idle_value m means idle ∙ sym whole;
          within = means.within;
          short = means.short;
          depth = means.depth;
          classes = rw (ap (λ d. d.classes) more.is) means.classes;
          named = rw (extends.names) means.named;
          names = rw (extends.names) means.names;
          verb_names = rw (ap (λ d. d.verb_names) more.is) means.verb_names;
          refs_are = extends.refs_are;
          turns = extends.turns means.turns;
          loose_is = extends.loose_is ∙ ap (λ l. l ++ id ∷ []) (loose_idle m means idle
              ∙ ap (λ l. ids_held m.stack.items ++ l) (append-nil (ids_in m.level)))
              ∙ as_part (ids_held m.stack.items) m.level.branches m.level.parts (id ∷ [])
              ∙ ap (λ l. ids_held m.stack.items ++ ((m.level.branches ++ l) ++ [])) (sym pushed)
              ∙ ap (λ w. ids_held m.stack.items ++ ((m.level.branches ++ parts) ++ ids_waiting w)) (sym idle);
          numbers = numbers_on extends.groups means.numbers;
        },
        ap (λ st. automatic m.calling m.text.now (record st { called = Some m.at })) state ∙ quiet,
      )

-- what a cursor at a place of the machine's text tells of the next item
pub item_same : (m : Machine) (at : ℕ) (text : List ℕ) (place : Place) (options : Options) (groups : ℕ) →
    text ≡ m.text.now → place ≡ record { at = at; quoting = m.quoting } → options ≡ m.options → groups ≡ m.groups →
    next_item m.text.now (record (state_of m) { at = at }) ≡ next_item text
    (record (state_of m) { at = place.at; quoting = place.quoting; options = options; groups = groups })
item_same m at text place options groups text_is place_is options_is groups_is =
    ap (λ t. next_item t (record (state_of m) { at = at })) (sym text_is)
    ∙ ap (λ p. next_item text (record (state_of m) { at = p.at; quoting = p.quoting })) (sym place_is)
    ∙ ap (λ o. next_item text (record (state_of m) { at = place.at; quoting = place.quoting; options = o }))
    (sym options_is)
    ∙ ap (λ g. next_item text (record (state_of m) {
      at = place.at;
      quoting = place.quoting;
      options = options;
      groups = g;
    })) (sym groups_is)
