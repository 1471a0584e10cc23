-- Where an atom waits for a quantifier, and where none does.
use Rattle.std.proofs.Common.{◌≡◌, ℕ, suc, ◌+◌, ◌-◌, ◌*◌, ◌<◌, ◌≤◌, List, [], ◌∷◌, ◌++◌, length, append_assoc}
use Rattle.std.proofs.Common.{append-nil, reverse, Option, Some, None, Result, Ok, Err, true, refl, sym, ap, ◌∙◌}
use Rattle.std.proofs.Common.{arith, Bool, false, slice_range}
use Rattle.pat_tree.specs.declared.options.Options.{Options}
use Rattle.pat_tree.specs.declared.nodes.ClassSpec.{ClassSpec}
use Rattle.pat_tree.specs.Parts.{DraftParts}
use Rattle.pat_tree.specs.Growing.{EndsIn, Replaces, Makes, loose}
use Rattle.pat_tree.proofs.Growing.{stand_made}
use Rattle.token_parts.specs.declared.fault.Fault.{Fault}
use Rattle.token_parts.specs.declared.token.Token.{Token}
use Rattle.token_parts.specs.declared.token.Target.{Target}
use Rattle.token_parts.specs.declared.token.Token.TheVariants.{Quantifier, Reference, CallTo, ClassStart, CondStart}
use Rattle.token_parts.specs.declared.token.QuantMode.{QuantMode}
use Rattle.token_parts.specs.Tell.{fault, ◌>>=◌}
use Rattle.pat_lex.specs.Tokens.{token_at}
use Rattle.pat_grammar.specs.declared.error.ReadError.{ReadError}
use Rattle.pat_grammar.specs.declared.error.ReadError.TheVariants.{Bad, Memory}
use Rattle.pat_nodes.specs.declared.frames.Atom.{Atom}
use Rattle.pat_grammar.specs.declared.alternatives.Bars.TheVariants.{Free, First}
use Rattle.pat_grammar.specs.declared.alternatives.Numbering.TheVariants.{Onward}
use Rattle.pat_build.specs.declared.machine.Machine.{Machine}
use Rattle.pat_grammar.specs.declared.cursor.Place.{Place}
use Rattle.pat_grammar.specs.declared.cursor.Assertion as looked
use Rattle.pat_grammar.specs.State.{State, Reads, flags_of}
use Rattle.pat_grammar.specs.Classes.{class_spec}
use Rattle.pat_grammar.specs.Groups.{IsWorded, asserted, named_by}
use Rattle.token_parts.specs.declared.token.CondText.{CondText}
use Rattle.token_parts.specs.declared.token.CondText.TheVariants.{Lookaround}
use Rattle.pat_grammar.specs.Parts.{Assertion, Beginning, asserts, of_class, is_number, number_called, called, calls}
use Rattle.pat_grammar.specs.Parts.{conditions, assertion}
use Rattle.pat_grammar.specs.Leads.{lead_of, assertion_at}
use Rattle.pat_grammar.specs.Places.{Tells, Refuses}
use Rattle.pat_build.specs.Stack.{with_part, resume, IsPlain}
use Rattle.pat_nodes.specs.Nodes.{Adds, IsAtom, atom_tree, ids_of}
use Rattle.pat_build.specs.Machine.{state_of, known_of, whole_of, left, Means, IsNext, Ready, Begins, asserting_from}
use Rattle.pat_build.specs.Machine.{ids_waiting, ids_in, ids_held}
use Rattle.pat_build.proofs.Steps.{quiet_token, step_flush, step_bad, step_fault, step_fault_waiting}
use Rattle.pat_build.proofs.Beginning.{worded_is, before_test, testing, assertions_bad, assertions_deeper}
use Rattle.pat_build.proofs.Beginning.{assertions_fit}
use Rattle.pat_grammar.proofs.Starting.{positive}
use Rattle.pat_build.proofs.Standing.{level_on, stack_on}
use Rattle.pat_build.proofs.States.{state_kept, whole_kept, refs_kept}
use Rattle.pat_build.proofs.Numbers.{numbers_kept}

to_end : (h l x : List ℕ) → h ++ (l ++ x) ≡ (h ++ l) ++ x
to_end h l x = sym (append_assoc h l x)

two_more : (n : ℕ) → (n + 1) + 1 ≡ n + 2
two_more n = omega arith

pub as_part : (h b p x : List ℕ) → (h ++ (b ++ p)) ++ x ≡ h ++ ((b ++ (p ++ x)) ++ [])
as_part h b p x = simp (append_assoc, append-nil)

pub to_parts : (h b p : List ℕ) → h ++ ((b ++ p) ++ []) ≡ (h ++ b) ++ p
to_parts h b p = simp (append_assoc, append-nil)

module _ (m : Machine) (means : Means m) where
  pub loose_waiting : (a : Atom) → m.waiting ≡ Some a
      → loose m.draft.nodes ≡ (ids_held m.stack.items ++ ids_in m.level) ++ ids_of a
  loose_waiting a is =
      means.loose_is ∙ ap (λ w. ids_held m.stack.items ++ (ids_in m.level ++ ids_waiting w)) is
      ∙ to_end (ids_held m.stack.items) (ids_in m.level) (ids_of a)

  pub loose_idle : m.waiting ≡ None → loose m.draft.nodes ≡ ids_held m.stack.items ++ (ids_in m.level ++ [])
  loose_idle is = means.loose_is ∙ ap (λ w. ids_held m.stack.items ++ (ids_in m.level ++ ids_waiting w)) is

  pub ends_atom : (a : Atom) → m.waiting ≡ Some a → EndsIn m.draft.nodes (ids_of a)
  ends_atom a is = record { front = ids_held m.stack.items ++ ids_in m.level; is = loose_waiting a is }

  pub ends_parts : m.waiting ≡ None → EndsIn m.draft.nodes m.level.parts
  ends_parts is = record {
    front = ids_held m.stack.items ++ m.level.branches;
    is = loose_idle is ∙ to_parts (ids_held m.stack.items) m.level.branches m.level.parts;
  }

  pub ends_level : m.waiting ≡ None → EndsIn m.draft.nodes (m.level.branches ++ m.level.parts)
  ends_level is = record {
    front = ids_held m.stack.items;
    is = loose_idle is ∙ ap (λ l. ids_held m.stack.items ++ l) (append-nil (ids_in m.level));
  }

  -- where an atom waits
  pub waits_for : (a : Atom) → m.waiting ≡ Some a →
      (p : ℕ) × (left m ≤ p) × IsAtom m.draft a
      × (resume (known_of m) m.text.now means.opens means.layer (Some (suc p, atom_tree m.draft.nodes a))
      (state_of m) ≡ whole_of m)
  waits_for a is =
      let waits = rw is at means.pending in
      let n_is = positive (left m) waits.1.0 waits.1.1 in
      let waiting : means.waiting ≡ Some (suc n_is.0, atom_tree m.draft.nodes a) = waits.1.2
      ∙ ap (λ k. Some (k, atom_tree m.draft.nodes a)) n_is.1 in (
        n_is.0,
        omega (arith, n_is.1, waits.1.1),
        waits.0,
        ap (λ w. resume (known_of m) m.text.now means.opens means.layer w (state_of m)) (sym waiting)
            ∙ means.value,
      )

  -- where nothing waits
  pub idle_value : m.waiting ≡ None → resume (known_of m) m.text.now means.opens means.layer None
      (state_of m) ≡ whole_of m
  idle_value idle = ap (λ w. resume (known_of m) m.text.now means.opens means.layer w (state_of m))
      (sym (rw idle at means.pending)) ∙ means.value

  pub flush_means : (a : Atom) (id : ℕ) (draft : DraftParts) (parts : List ℕ) (token : Token) (after : ℕ) →
      m.waiting ≡ Some a → token_at m.text.now (flags_of false (state_of m)) m.at ≡ Ok (token, after) → IsPlain token →
      Makes m.draft.nodes draft.nodes id (atom_tree m.draft.nodes a) → Adds m.draft draft
      → Replaces m.draft.nodes (ids_of a) draft.nodes id → parts ≡ m.level.parts ++ id ∷ [] →
      Means (record m { draft = draft; level = record (m.level) { parts = parts }; waiting = None })
  flush_means a id draft parts token after is there plain makes adds replaces more =
      let waits = waits_for a is in
      let t = atom_tree m.draft.nodes a in
      let level = level_on makes.grows (left m) (left m) (omega arith) means.level in record {
        opens = means.opens;
        layer = with_part means.layer t;
        waiting = None;
        stack = stack_on makes.grows (left m) (left m) (omega arith) (reverse m.stack.items) means.opens means.stack;
        level = record {
          branches = level.branches;
          parts = rw more (stand_made makes means.level.parts);
          n = level.n;
          k = level.k;
        };
        pending = refl;
        barred = means.barred;
        tested = means.tested;
        value = ap (λ st. resume (known_of m) m.text.now means.opens (with_part means.layer t) None st)
            (state_kept m draft adds)
            ∙ sym (step_flush (known_of m) m.text.now (state_of m) token after there plain means.opens means.layer
            waits.0 t)
            ∙ waits.3 ∙ sym (whole_kept m draft adds);
        within = means.within;
        short = means.short;
        depth = means.depth;
        classes = rw (adds.classes) means.classes;
        named = rw (adds.names) means.named;
        names = rw (adds.names) means.names;
        verb_names = rw (adds.verb_names) means.verb_names;
        refs_are = refs_kept m draft adds means.refs_are;
        turns = adds.turns means.turns;
        loose_is = replaces (ids_held m.stack.items ++ ids_in m.level) (loose_waiting a is)
            ∙ as_part (ids_held m.stack.items) m.level.branches m.level.parts (id ∷ [])
            ∙ ap (λ l. ids_held m.stack.items ++ ((m.level.branches ++ l) ++ [])) (sym more);
        numbers = numbers_kept adds means.numbers;
      }

  -- the place of a fault
  pub bad_means : (token : Token) (after : ℕ) (f : Fault) → Ready token after m → Begins m token after (Err f)
      → whole_of m ≡ Err f
  bad_means token after f ready begins =
      let n = positive (left m) means.layer.n means.level.n in
      let h : 2 * (length m.text.now - after) + 1 < n.0 =
      omega (arith, n.1, means.level.n, ready.there.goes, ready.there.within) in
      sym (idle_value ready.idle) ∙ step_bad (known_of m) m.text.now (state_of m) token after ready.there.token_is
      ready.quiet means.opens means.layer n.0 f n.1 (begins n.0 h)

  -- a fault of the lexer
  pub fault_means : (f : Fault) → token_at m.text.now (flags_of false (state_of m)) m.at ≡ Err f → whole_of m ≡ Err f
  fault_means f at = elim (m.waiting) as (λ p. m.waiting ≡ p → whole_of m ≡ Err f) [
    | None ↦ λ idle. let n = positive (left m) means.layer.n means.level.n in
        sym (idle_value idle) ∙ step_fault (known_of m) m.text.now (state_of m) f at means.opens means.layer n.0 n.1
    | Some a ↦ λ is. let w = waits_for a is in sym w.3
        ∙ step_fault_waiting (known_of m) m.text.now (state_of m) f at means.opens means.layer w.0
        (atom_tree m.draft.nodes a)
  ] refl

  pub unrepeatable_means : (after low : ℕ) (high : Option ℕ) (mode : QuantMode) → m.waiting ≡ None
      → IsNext (Quantifier low high mode) after m → whole_of m ≡ fault 109 m.at
  unrepeatable_means after low high mode idle there =
      let n = positive (left m) means.layer.n means.level.n in
      sym (idle_value idle)
      ∙ step_bad (known_of m) m.text.now (state_of m) (Quantifier low high mode) after there.token_is
      (quiet_token (known_of m) m.text.now (state_of m) (Quantifier low high mode) after there.token_is m.calling
      refl) means.opens means.layer n.0 _ n.1 refl

  -- the fault of the groups that a reference names
  pub refers_refuse : (target : Target) (after : ℕ) (e : ReadError) → Ready (Reference target) after m
      → Refuses (named_by (known_of m).names m.text.now (state_of m) target) e → Refuses (whole_of m) e
  refers_refuse target after (Bad number at) ready h = bad_means (Reference target) after _ ready (λ n k. rw h refl)
  refers_refuse target after Memory ready h = tt

  -- and a call's
  pub calls_refuse : (target : Target) (after : ℕ) (e : ReadError) → Ready (CallTo target) after m
      → Refuses (named_by (known_of m).names m.text.now (state_of m) target) e → Refuses (whole_of m) e
  unfolding calls
  calls_refuse target after (Bad number at) ready h = bad_means (CallTo target) after _ ready (λ n k. rw h refl)
  calls_refuse target after Memory ready h = tt

  -- what begins there
  pub calls_fit : (target : Target) (after : ℕ) (groups : List ℕ) (number : Option ℕ)
      → named_by (known_of m).names m.text.now (state_of m) target ≡ Ok groups →
      number ≡ number_called (is_number target) groups →
      Begins m (CallTo target) after (Ok (called (state_of m) (record (state_of m) { at = after }) groups number))
  unfolding calls
  calls_fit target after groups number h is n k =
      let next = record (state_of m) { at = after } in
      ap (λ r. r >>= λ gs. Ok (called (state_of m) next gs (number_called (is_number target) gs))) h
      ∙ ap (λ o. Ok (called (state_of m) next groups o)) (sym is)

  -- the fault of a conditional group's test
  pub condition_refuses : (cond : CondText) (from to after : ℕ) (e : ReadError) → IsWorded cond
      → Ready (CondStart cond from to) after m →
      Refuses (conditions (known_of m).names m.text.now (state_of m) cond (slice_range m.text.now from to)
      (record (state_of m) { at = after })) e → Refuses (whole_of m) e
  condition_refuses cond from to after (Bad number at) worded ready h =
      bad_means (CondStart cond from to) after _ ready
      (λ n k. worded_is (known_of m) m.text.now n (state_of m) cond from to (record (state_of m) { at = after })
      worded ∙ h)
  condition_refuses cond from to after Memory worded ready h = tt

  -- where a lookaround is tested, by what a cursor at that place tells of it
  module _ (from to after : ℕ) (text : List ℕ) (place : Place) (options : Options) (groups : ℕ)
      (text_is : text ≡ m.text.now) (place_is : place ≡ record { at = after; quoting = m.quoting })
      (options_is : options ≡ m.options) (groups_is : groups ≡ m.groups)
      (ready : Ready (CondStart Lookaround from to) after m) (fits : length m.stack.items < 250) where
    -- the state at a place
    abbrev there : Place → State
    there p = record (before_test (state_of m) (state_of m)) { at = p.at; quoting = p.quoting }

    abbrev told : Place → State
    told p = record (there p) { options = options; groups = groups }

    told_is : (p : Place) → told p ≡ there p
    told_is p = ap (λ o. record (there p) { options = o; groups = groups }) options_is
        ∙ ap (λ g. record (there p) { groups = g }) groups_is

    assertion_same : (n : ℕ) → assertion m.calling m.text.now n m.at
        (before_test (state_of m) (record (state_of m) { at = after })) ≡ assertion m.calling text n m.at (told place)
    assertion_same n =
        ap (λ t. assertion m.calling t n m.at (before_test (state_of m) (record (state_of m) { at = after })))
        (sym text_is)
        ∙ ap (λ p. assertion m.calling text n m.at (there p)) (sym place_is)
        ∙ ap (assertion m.calling text n m.at) (sym (told_is place))

    enough_there : (n : ℕ) → 2 * (length m.text.now - after) + 1 < n → length text < n + place.at
    enough_there n h = omega (arith, h, ap length text_is, ap (λ p. p.at) place_is)

    pub assertion_refuses : (e : ReadError)
        → ((n : ℕ) → length text < n + place.at → Tells (assertion m.calling text n m.at (told place)) e)
        → Refuses (whole_of m) e
    assertion_refuses (Bad number at) h =
        bad_means (CondStart Lookaround from to) after _ ready
        (λ n k. assertions_bad m.calling m.text.now n (state_of m) (record (state_of m) { at = after }) fits _
        (assertion_same n ∙ h n (enough_there n k)))
    assertion_refuses Memory h = tt

    module _ (a : looked.Assertion) (found : (n : ℕ) → length text < n + place.at → assertion m.calling text n m.at
        (told place) ≡ Ok (assertion_at told a)) where
      found_is : (n : ℕ) → 2 * (length m.text.now - after) + 1 < n →
          assertion m.calling m.text.now n m.at (before_test (state_of m) (record (state_of m) { at = after })) ≡ Ok
          (assertion_at there a)
      found_is n k =
          assertion_same n ∙ found n (enough_there n k)
          ∙ ap (λ st. let x : Result Assertion Fault = Ok (a.ahead, a.positive, st, told a.after, lead_of a.lead) in
          x) (told_is a.here)
          ∙ ap (λ st. let x : Result Assertion Fault = Ok (a.ahead, a.positive, there a.here, st, lead_of a.lead) in
          x) (told_is a.after)

      pub assertion_deep : 250 ≤ length m.stack.items + 1 → whole_of m ≡ fault 119 a.here.at
      assertion_deep deep =
          bad_means (CondStart Lookaround from to) after _ ready
          (λ n k. assertions_deeper m.calling m.text.now n (state_of m) (record (state_of m) { at = after }) fits
          a.ahead a.positive (there a.here) (there a.after) (lead_of a.lead) (found_is n k) deep)

      pub assertion_begins : length m.stack.items + 1 < 250
          → Begins m (CondStart Lookaround from to) after (Ok (asserting_from m a))
      assertion_begins fit n k =
          assertions_fit m.calling m.text.now n (state_of m) (record (state_of m) { at = after }) fits a.ahead
          a.positive (there a.here) (there a.after) (lead_of a.lead) (found_is n k) fit
          ∙ ap (λ d. let x : Result Beginning Fault =
          Ok (asserts (testing (state_of m)) (lead_of a.lead) (record {
            form = asserted a.ahead a.positive;
            around = m.options;
            looking = m.looking;
            bars = First;
            numbering = Onward;
            at = a.here.at;
          })
          (record (there a.after) { depth = d; looking = true; bars = Free; numbering = Onward })) in x)
          (two_more (length m.stack.items))

  -- where a class begins, by what a cursor at that place tells of it
  module _ (negated : Bool) (after : ℕ) (text : List ℕ) (place : Place) (options : Options) (groups : ℕ)
      (text_is : text ≡ m.text.now) (place_is : place ≡ record { at = after; quoting = m.quoting })
      (options_is : options ≡ m.options) (groups_is : groups ≡ m.groups) where
    spec_same : (n : ℕ) → class_spec m.text.now n negated (record (state_of m) { at = after }) ≡ class_spec text n
        negated (record (state_of m) { at = place.at; quoting = place.quoting; options = options; groups = groups })
    spec_same n =
        ap (λ t. class_spec t n negated (record (state_of m) { at = after })) (sym text_is)
        ∙ ap (λ p. class_spec text n negated (record (state_of m) { at = p.at; quoting = p.quoting })) (sym place_is)
        ∙ ap (λ o. class_spec text n negated (record (state_of m) {
          at = place.at;
          quoting = place.quoting;
          options = o;
        })) (sym options_is)
        ∙ ap (λ g. class_spec text n negated (record (state_of m) {
          at = place.at;
          quoting = place.quoting;
          options = options;
          groups = g;
        })) (sym groups_is)

    enough : (n : ℕ) → 2 * (length m.text.now - after) + 1 < n → length text + 1 < n + place.at
    enough n h = omega (arith, h, ap length text_is, ap (λ p. p.at) place_is)

    pub class_refuses : (e : ReadError) → Ready (ClassStart negated) after m →
        ((n : ℕ) → length text + 1 < n + place.at
        → Refuses (class_spec text n negated (record (state_of m) {
          at = place.at;
          quoting = place.quoting;
          options = options;
          groups = groups;
        })) e) → Refuses (whole_of m) e
    class_refuses (Bad number at) ready h = bad_means (ClassStart negated) after _ ready
        (λ n k. rw (spec_same n ∙ h n (enough n k)) refl)
    class_refuses Memory ready h = tt

    pub class_begins : (spec : ClassSpec) (end : Place) →
        ((n : ℕ) → length text + 1 < n + place.at →
        class_spec text n negated (record (state_of m) {
          at = place.at;
          quoting = place.quoting;
          options = options;
          groups = groups;
        }) ≡ Ok (
          spec,
          record (state_of m) {
            at = end.at;
            quoting = end.quoting;
            options = options;
            groups = groups;
          },
        )) →
        Begins m (ClassStart negated) after
        (Ok (of_class spec (record (state_of m) { at = end.at; quoting = end.quoting })))
    class_begins spec end h n k =
        let found = spec_same n ∙ h n (enough n k)
        ∙ ap (λ o. let x : Reads ClassSpec = Ok (
          spec,
          record (state_of m) {
            at = end.at;
            quoting = end.quoting;
            options = o;
            groups = groups;
          },
        ) in x) options_is
        ∙ ap (λ g. let x : Reads ClassSpec = Ok (
          spec,
          record (state_of m) {
            at = end.at;
            quoting = end.quoting;
            groups = g;
          },
        ) in x) groups_is in
        rw found refl

-- a cursor at the machine's place has the machine's token
pub token_same : (m : Machine) (text : List ℕ) (place : Place) (options : Options) (groups : ℕ) → text ≡ m.text.now
    → place ≡ record { at = m.at; quoting = m.quoting } → options ≡ m.options → groups ≡ m.groups →
    token_at m.text.now (flags_of false (state_of m)) m.at
    ≡ token_at text (flags_of false (record {
      at = place.at;
      quoting = place.quoting;
      options = options;
      groups = groups;
      depth = 0;
      looking = false;
      bars = Free;
      numbering = Onward;
      classes = [];
      names = [];
      verb_names = [];
      references = [];
      beyond = None;
      called = None;
    })) place.at
token_same m text place options groups text_is place_is options_is groups_is =
    ap (λ t. token_at t (flags_of false (state_of m)) m.at) (sym text_is)
    ∙ ap (λ p. token_at text (flags_of false (record {
      at = p.at;
      quoting = p.quoting;
      options = m.options;
      groups = m.groups;
      depth = 0;
      looking = false;
      bars = Free;
      numbering = Onward;
      classes = [];
      names = [];
      verb_names = [];
      references = [];
      beyond = None;
      called = None;
    })) p.at) (sym place_is)
    ∙ ap (λ o. token_at text (flags_of false (record {
      at = place.at;
      quoting = place.quoting;
      options = o;
      groups = m.groups;
      depth = 0;
      looking = false;
      bars = Free;
      numbering = Onward;
      classes = [];
      names = [];
      verb_names = [];
      references = [];
      beyond = None;
      called = None;
    })) place.at)
    (sym options_is)
    ∙ ap (λ g. token_at text (flags_of false (record {
      at = place.at;
      quoting = place.quoting;
      options = options;
      groups = g;
      depth = 0;
      looking = false;
      bars = Free;
      numbering = Onward;
      classes = [];
      names = [];
      verb_names = [];
      references = [];
      beyond = None;
      called = None;
    })) place.at) (sym groups_is)
