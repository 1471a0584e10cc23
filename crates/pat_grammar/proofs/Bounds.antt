-- Where the references and the tests stand that a part leaves, and how deep it is nested.
use Rattle.std.proofs.Common.{◌≡◌, ◌⊎◌, inl, inr, ℕ, zero, suc, ◌+◌, ◌-◌, ◌*◌, ◌<◌, ◌≤◌, max, Bool, true, false, not}
use Rattle.std.proofs.Common.{◌&&◌, ◌||◌, nat_le, nat_lt, List, [], ◌∷◌, ◌++◌, length, Option, Some, None, IfSome}
use Rattle.std.proofs.Common.{Result, Ok, Err, IsTrue, slice_range, refl, sym, ap, ◌∙◌, subst, arith, if◌then◌else◌}
use Rattle.std.specs.List.{AllByRecursion, list_any}
use Rattle.std.proofs.lemmas.Bool.Decides.{nat_tests}
use Rattle.pat_tree.specs.Nested.{Nested, Row, Test, Other, empty, one, line_break, seq, group, repeat, one_repeat}
use Rattle.pat_tree.specs.Nested.{atomic, look, condition, call, ref, anchor, keep_out, verb, callout, none, more}
use Rattle.pat_tree.specs.Nested.{any_set, in_call, in_call_of, never, assert, no_other, other, row, test_of}
use Rattle.pat_tree.specs.Refs.{beside_whole}
use Rattle.pat_tree.specs.Names.{with_name}
use Rattle.pat_tree.specs.declared.options.Options.{Options}
use Rattle.pat_tree.specs.declared.names.NameEntry.{NameEntry}
use Rattle.pat_tree.specs.declared.nodes.Part.{Part}
use Rattle.pat_tree.specs.declared.nodes.ClassSpec.{ClassSpec}
use Rattle.pat_tree.specs.declared.nodes.Part.TheVariants as part
use Rattle.token_parts.specs.declared.fault.Fault.{Fault}
use Rattle.token_parts.specs.declared.token.OpenKind.{OpenKind}
use Rattle.token_parts.specs.declared.token.OpenKind.TheVariants as opening
use Rattle.token_parts.specs.declared.token.CondText.{CondText}
use Rattle.token_parts.specs.declared.token.CondText.TheVariants as tested
use Rattle.token_parts.specs.declared.token.QuantMode.{QuantMode}
use Rattle.token_parts.specs.declared.token.QuantMode.TheVariants.{Greedy, Lazy, Possessive}
use Rattle.token_parts.specs.declared.token.Target.{Target}
use Rattle.token_parts.specs.declared.token.Target.TheVariants.{Number, Plus, Minus, Named}
use Rattle.token_parts.specs.declared.token.VerbKind.{VerbKind}
use Rattle.token_parts.specs.declared.token.Token.{Token}
use Rattle.token_parts.specs.declared.token.Token.TheVariants as token
use Rattle.token_parts.specs.Tell.{fault, ◌>>=◌}
use Rattle.pat_grammar.specs.declared.alternatives.Numbering.TheVariants.{Onward, Reset}
use Rattle.pat_grammar.specs.State.{State, Known, Reference, Reads, Item, item}
use Rattle.pat_grammar.specs.Options.{with_setting}
use Rattle.pat_grammar.specs.Verbs.{verb_of, number_of_name, names_after, may_be_repeated}
use Rattle.pat_grammar.specs.Classes.{property_part, class_spec}
use Rattle.pat_grammar.specs.Callouts.{next_item, callout_of}
use Rattle.pat_grammar.specs.Groups.{Form, grouped, atomically, looks, conditional, defines, asserted, asserting}
use Rattle.pat_grammar.specs.Groups.{Opening, Opens, is_look, bars_in, is_elsewhere, is_other, has_name, opened}
use Rattle.pat_grammar.specs.Groups.{captured, named, reset, named_by, groups_of, unless_named, called_number}
use Rattle.pat_grammar.specs.Groups.{called_by, form_in, is_beyond, first_of, beyond_after}
use Rattle.pat_grammar.specs.Parts.{Beginning, atom, bare, inside, asserts, nothing, over, Assertion, enters}
use Rattle.pat_grammar.specs.Parts.{of_class, type_class, any_or_line, part_if, with_callout, with_verb, called}
use Rattle.pat_grammar.specs.Parts.{number_called, is_number, with_reference, with_call, calls, verbs, callouts}
use Rattle.pat_grammar.specs.Parts.{conditions, kept_look, asserted_if, look_by, look_at, automatic_lead}
use Rattle.pat_grammar.specs.Parts.{written_lead, asserted_by, settled, assertion, assertions, beginning}
use Rattle.pat_grammar.specs.Nesting.{nesting, nesting_of_row, nesting_of_test, nesting_of_other}
use Rattle.pat_grammar.proofs.Likes.{bind_ok, if_ok, ok_is, no_fault, Like, like_self, like_on, item_read, class_like}

-- a test that is no lookaround nests nothing
abbrev pub IsFlat : Form → Type 0
IsFlat (conditional test) = nesting_of_test test ≡ 0
IsFlat _ = Unit {0}

pub flat_callout : (number from to : ℕ) (found : ℕ × ℕ) → nesting (callout_of number from to found) ≡ 0
unfolding nesting
flat_callout number from to found = refl

unless_flat : (known : List NameEntry) (word : List ℕ) (test : Test) → nesting_of_test test ≡ 0
    → nesting_of_test (unless_named known word test) ≡ 0
unfolding unless_named nesting nesting_of_row nesting_of_test nesting_of_other
unless_flat known word test flat =
    elim (list_any (has_name word) known) as (λ b. nesting_of_test
    (if b then any_set (groups_of known word) else test) ≡ 0) [ true ↦ refl | false ↦ flat ]

called_flat : (ns : List ℕ) → nesting_of_test (called_by ns) ≡ 0
unfolding nesting nesting_of_row nesting_of_test nesting_of_other
called_flat [] = refl
called_flat (zero ∷ ns) = refl
called_flat (suc n ∷ ns) = refl

form_flat : (known : List NameEntry) (text : List ℕ) (st : State) (cond : CondText) (word : List ℕ) (form : Form)
    → form_in known text st cond word ≡ Ok form → IsFlat form
unfolding form_in nesting nesting_of_row nesting_of_test nesting_of_other
form_flat known text st (tested.Group target) word form h =
    let (groups, is, same) = bind_ok (named_by known text st target)
    (λ groups. let r : Result Form Fault = Ok (conditional (any_set groups)) in r) form h in
    subst IsFlat (ok_is same) refl
form_flat known text st tested.InCall word form h = subst IsFlat (ok_is h) (unless_flat known word in_call refl)
form_flat known text st (tested.InCallOf (Number n)) word form h =
    subst IsFlat (ok_is h) (unless_flat known word (in_call_of (called_number n ∷ [])) refl)
form_flat known text st (tested.InCallOf target) word form h =
    let (groups, is, same) = bind_ok (named_by known text st target)
    (λ groups. let r : Result Form Fault = Ok (conditional (called_by groups)) in r) form h in
    subst IsFlat (ok_is same) (called_flat groups)
form_flat known text st tested.Define word form h = subst IsFlat (ok_is h) tt
form_flat known text st tested.Lookaround word form h = absurd (no_fault h)

pub all_push : {A : Type 0} (P : A → Type 0) (xs : List A) (x : A) → AllByRecursion P xs → P x
    → AllByRecursion P (xs ++ x ∷ [])
all_push P [] x h p = (p, tt)
all_push P (y ∷ xs) x h p = (h.0, all_push P xs x h.1 p)

-- the group, and the state in which its inside begins
abbrev begun_by : State → Form → State → Opens
begun_by st form after =
    Ok (
      record {
        form = form;
        around = st.options;
        looking = st.looking;
        bars = st.bars;
        numbering = st.numbering;
        at = st.at;
      },
      record after {
        depth = st.depth + 1;
        looking = is_look form || st.looking;
        bars = bars_in form;
        numbering = Onward;
      },
    )

module _ (text : List ℕ) where
  abbrev IsInside : Reference → Type 0
  IsInside r = r.at ≤ length text

  -- the references and the first test that is refused stand in the text
  pub record Stands (st : State) : Type 0 where
    pub references : AllByRecursion IsInside st.references
    pub beyond : IfSome st.beyond (λ at. at ≤ length text)

  pub stands_like : {a b : State} → Like a b → Stands a → Stands b
  stands_like p s = record {
    references = subst (λ (rs : List Reference). AllByRecursion IsInside rs) (sym p.references) s.references;
    beyond = subst (λ (o : Option ℕ). IfSome o (λ at. at ≤ length text)) (sym p.beyond) s.beyond;
  }

  -- so it is also after a part
  pub record Goes (st after : State) : Type 0 where
    pub depth : after.depth ≡ st.depth
    pub stands : Stands after

  -- the inside of a group begins
  pub record Inside (st : State) (how : Opening) (start : State) : Type 0 where
    pub shallow : st.depth < 250
    pub at : how.at ≤ length text
    pub flat : IsFlat how.form
    pub depth : start.depth ≡ st.depth + 1
    pub stands : Stands start

  -- the inside of a lookaround that a conditional group tests
  pub record Asserts (st : State) (how : Opening) (before : List Nested) (test : Opening) (start : State) : Type 0 where
    pub shallow : st.depth + 1 < 250
    pub at : how.at ≤ length text
    pub test_at : test.at ≤ length text
    pub form : how.form ≡ asserting
    pub flat : IsFlat test.form
    pub lead : AllByRecursion (λ t. nesting t ≡ 0) before
    pub depth : start.depth ≡ st.depth + 2
    pub stands : Stands start

  abbrev pub Begins : State → Beginning → Type 0
  Begins st (atom t after) = (nesting t ≡ 0) × Goes st after
  Begins st (bare t after) = (nesting t ≡ 0) × Goes st after
  Begins st (inside how start) = Inside st how start
  Begins st (asserts how lead test start) = Asserts st how lead test start
  Begins st (nothing after) = Goes st after
  Begins st over = Unit {0}

  module _ (st next : State) (at : st.at ≤ length text) (goes : Goes st next) where
    -- a further reference
    adds : (groups : List ℕ) → Stands st
        → Goes st (record next { references = st.references ++ record { at = st.at; groups = groups } ∷ [] })
    adds groups s = record {
      depth = goes.depth;
      stands = record {
        references = all_push IsInside st.references (record { at = st.at; groups = groups }) s.references at;
        beyond = goes.stands.beyond;
      };
    }

    -- Groups.

    opened_inside : (form : Form) (after : State) (found : Opening × State) → opened st form after ≡ Ok found
        → IsFlat form → Stands after → Inside st found.0 found.1
    unfolding opened
    opened_inside form after found h flat s =
        elim (if_ok (nat_le 250 st.depth) (fault 119 st.at) (begun_by st form after) found h) [
          | inl x ↦ absurd (no_fault x.1)
          | inr x ↦ subst (λ (f : Opening × State). Inside st f.0 f.1) (ok_is x.1) (record {
            shallow = let deep = x.0 in grind (arith, nat_tests);
            at = at;
            flat = flat;
            depth = refl;
            stands = record { references = s.references; beyond = s.beyond };
          })
        ]

    captured_inside : (after : State) (found : Opening × State) → captured st after ≡ Ok found → Stands after
        → Inside st found.0 found.1
    unfolding captured
    captured_inside after found h s =
        let (made, is, later) =
        bind_ok (opened st (grouped (Some (st.groups + 1))) (record after { groups = st.groups + 1 }))
        (λ made. if nat_le 65535 st.groups then fault 161 st.at else Ok made) found h in
        let whole : Inside st made.0 made.1 = opened_inside (grouped (Some (st.groups + 1)))
        (record after { groups = st.groups + 1 }) made is tt
        (record { references = s.references; beyond = s.beyond }) in
        elim (if_ok (nat_le 65535 st.groups) (fault 161 st.at) (Ok made) found later) [
          | inl x ↦ absurd (no_fault x.1)
          | inr x ↦ subst (λ (f : Opening × State). Inside st f.0 f.1) (ok_is x.1) whole
        ]

    named_inside : (name : List ℕ) (after : State) (found : Opening × State) → named st name after ≡ Ok found
        → Stands after → Inside st found.0 found.1
    unfolding named
    named_inside name after found h s =
        let with : State = record after { names = with_name (record { name = name; group = st.groups + 1 }) st.names }
        in
        let taken : Bool = not st.options.dupnames && list_any (is_elsewhere name (st.groups + 1)) st.names in
        let others : Bool = list_any (is_other name (st.groups + 1)) st.names in
        let (made, is, later) = bind_ok (captured st with)
        (λ made. if taken then fault 143 st.at else if others then fault 165 st.at else Ok made) found h in
        let whole : Inside st made.0 made.1 = captured_inside with made is
        (record { references = s.references; beyond = s.beyond }) in
        elim (if_ok taken (fault 143 st.at) (if others then fault 165 st.at else Ok made) found later) [
          | inl x ↦ absurd (no_fault x.1)
          | inr x ↦ elim (if_ok others (fault 165 st.at) (Ok made) found x.1) [
            | inl y ↦ absurd (no_fault y.1)
            | inr y ↦ subst (λ (f : Opening × State). Inside st f.0 f.1) (ok_is y.1) whole
          ]
        ]

    reset_inside : (after : State) (found : Opening × State) → reset st after ≡ Ok found → Stands after
        → Inside st found.0 found.1
    unfolding reset
    reset_inside after found h s =
        let (made, is, same) = bind_ok (opened st (grouped None) after)
        (λ (how, begun). let r : Opens = Ok (how, record begun { numbering = Reset st.groups st.groups }) in r)
        found h in
        let whole : Inside st made.0 made.1 = opened_inside (grouped None) after made is tt s in
        subst (λ (f : Opening × State). Inside st f.0 f.1) (ok_is same) (record {
          shallow = whole.shallow;
          at = whole.at;
          flat = whole.flat;
          depth = whole.depth;
          stands = record { references = whole.stands.references; beyond = whole.stands.beyond };
        })

    enters_inside : (opens : Opens) (what : Beginning) → enters opens ≡ Ok what
        → ((found : Opening × State) → opens ≡ Ok found → Inside st found.0 found.1) → Begins st what
    enters_inside opens what h each =
        let (found, is, same) =
        bind_ok opens (λ (how, begun). let r : Result Beginning Fault = Ok (inside how begun) in r) what h in
        subst (Begins st) (ok_is same) (each found is)

    -- the first test of a call whose number no group can have
    beyond_stands : (known : List NameEntry) (cond : CondText) (word : List ℕ)
        → IfSome st.beyond (λ p. p ≤ length text) → IfSome (beyond_after known st cond word) (λ p. p ≤ length text)
    beyond_stands known cond word s =
        elim (is_beyond known cond word) as (λ b. IfSome (if b then first_of st.beyond st.at else st.beyond)
        (λ p. p ≤ length text)) [
          | true ↦ first_stands st.beyond s
          | false ↦ s
        ]
      where
        first_stands : (o : Option ℕ) → IfSome o (λ p. p ≤ length text)
            → IfSome (first_of o st.at) (λ p. p ≤ length text)
        first_stands None s = at
        first_stands (Some first) s = s

    conditions_inside : (known : List NameEntry) (cond : CondText) (word : List ℕ) (what : Beginning)
        → conditions known text st cond word next ≡ Ok what → Stands st → Begins st what
    unfolding conditions
    conditions_inside known cond word what h s =
        let after : State = record next { beyond = beyond_after known st cond word } in
        elim (if_ok (nat_le 250 st.depth) (fault 119 st.at)
        (form_in known text st cond word >>= λ form. enters (opened st form after)) what h) [
          | inl x ↦ absurd (no_fault x.1)
          | inr x ↦
              let (form, is, enter) = bind_ok (form_in known text st cond word)
              (λ form. enters (opened st form after)) what x.1 in
              enters_inside (opened st form after) what enter (λ found opens.
              opened_inside form after found opens (form_flat known text st cond word form is)
              (record { references = goes.stands.references; beyond = beyond_stands known cond word s.beyond }))
        ]

  -- Lookarounds that are tested.

  record Tested (begun : State) (a : Assertion) : Type 0 where
    here : Like begun a.2
    after : Like begun a.3
    at : a.2.at < length text
    lead : AllByRecursion (λ t. nesting t ≡ 0) a.4

  asserted_is : (at : ℕ) (lead : List Nested) (o : Option (Bool × Bool)) (here after : State) (a : Assertion)
      → asserted_if at lead o here after ≡ Ok a
      → (P : Assertion → Type 0) → ((ahead positive : Bool) → P (ahead, positive, here, after, lead)) → P a
  asserted_is at lead (Some (ahead, positive)) here after a h P p = subst P (ok_is h) (p ahead positive)
  asserted_is at lead None here after a h P p = absurd (no_fault h)

  look_is : (begun : State) (at : ℕ) (lead : List Nested) (found : Token) (here after : State) (a : Assertion)
      → look_by at lead found here after ≡ Ok a
      → Like begun here → Like begun after → ((found ≡ token.End → ⊥) → here.at < length text)
      → AllByRecursion (λ t. nesting t ≡ 0) lead → Tested begun a
  look_is begun at lead (token.Open kind) here after a h p q there flat =
      asserted_is at lead (kept_look kind) here after a h (Tested begun)
      (λ ahead positive. record { here = p; after = q; at = there (λ e. absurd cc); lead = flat })
  look_is begun at lead _ here after a h p q there flat = absurd (no_fault h)

  look_at_is : (begun : State) (at : ℕ) (lead : List Nested) (r : Result Item Fault) (a : Assertion)
      → look_at at lead r ≡ Ok a
      → ((i : Item) → r ≡ Ok i → Like begun i.1 × Like begun i.2 × ((i.0 ≡ token.End → ⊥) → i.1.at < length text))
      → AllByRecursion (λ t. nesting t ≡ 0) lead → Tested begun a
  look_at_is begun at lead (Ok (found, here, after)) a h each flat =
      let known = each (found, here, after) refl in
      look_is begun at lead found here after a h known.0 known.1 known.2 flat
  look_at_is begun at lead (Err f) a h each flat = absurd cc

  automatic_flat : (calling : Bool) (here : State) → AllByRecursion (λ t. nesting t ≡ 0)
      (automatic_lead calling text here)
  automatic_flat calling here =
      elim (calling && here.options.auto_callout) as (λ b. AllByRecursion (λ t. nesting t ≡ 0)
      (if b then callout_of 255 0 0 (next_item text here) ∷ [] else [])) [
        | true ↦ (flat_callout 255 0 0 (next_item text here), tt)
        | false ↦ tt
      ]

  module _ (calling : Bool) (n at : ℕ) (begun : State) where
    by_found : (found : Token) (here after : State) (a : Assertion)
        → asserted_by calling text n at found here after ≡ Ok a
        → Like begun here → Like begun after → ((found ≡ token.End → ⊥) → here.at < length text) → Tested begun a
    by_found (token.CalloutItem number from to) here after a h p q there =
        elim (if_ok calling (look_at at (written_lead number from to text after) (item text false n after))
        (fault 195 here.at) a h) [
          | inl x ↦ look_at_is begun at (written_lead number from to text after) (item text false n after) a x.1
              (λ i is. let read = item_read text false n after i is in
              (like_on q read.before, like_on q read.after, read.there))
              (flat_callout number from to (next_item text after), tt)
          | inr x ↦ absurd (no_fault x.1)
        ]
    by_found found here after a h p q there = look_is begun at (automatic_lead calling text here) found here after a h
        p q there (automatic_flat calling here)

    by_item : (r : Result Item Fault) (a : Assertion) → settled calling text n at r ≡ Ok a
        → ((i : Item) → r ≡ Ok i → Like begun i.1 × Like begun i.2 × ((i.0 ≡ token.End → ⊥) → i.1.at < length text))
        → Tested begun a
    by_item (Ok (found, here, after)) a h each = let known = each (found, here, after) refl in
        by_found found here after a h known.0 known.1 known.2
    by_item (Err f) a h each = absurd cc

    tested_is : (a : Assertion) → assertion calling text n at begun ≡ Ok a → Tested begun a
    unfolding assertion
    tested_is a h = by_item (item text false n begun) a h (λ i is. let read = item_read text false n begun i is in
        (read.before, read.after, read.there))

  opened_form : (st : State) (form : Form) (after : State) (found : Opening × State) → opened st form after ≡ Ok found
      → found.0.form ≡ form
  unfolding opened
  opened_form st form after found h =
      elim (if_ok (nat_le 250 st.depth) (fault 119 st.at) (begun_by st form after) found h) [
        | inl x ↦ absurd (no_fault x.1)
        | inr x ↦ sym (ap (λ (f : Opening × State). f.0.form) (ok_is x.1))
      ]

  assertions_begin : (calling : Bool) (n : ℕ) (st next : State) (what : Beginning)
      → assertions calling text n st next ≡ Ok what
      → st.at ≤ length text → Goes st next → Begins st what
  unfolding assertions
  assertions_begin calling n st next what h at goes =
      let (whole, is, later) = bind_ok (opened st asserting next)
      (λ (how, begun). assertion calling text n st.at begun >>= λ (ahead, positive, here, after, lead).
      opened here (asserted ahead positive) after >>= λ (test, start). let r : Result Beginning Fault =
      Ok (asserts how lead test start) in r) what h in
      let (a, found, opening_of) = bind_ok (assertion calling text n st.at whole.1)
      (λ (ahead, positive, here, after, lead). opened here (asserted ahead positive) after >>= λ (test, start).
      let r : Result Beginning Fault = Ok (asserts whole.0 lead test start) in r) what later in
      let (test, opens, same) = bind_ok (opened a.2 (asserted a.0 a.1) a.3)
      (λ (test, start). let r : Result Beginning Fault = Ok (asserts whole.0 a.4 test start) in r) what opening_of in
      let outer : Inside st whole.0 whole.1 = opened_inside st next at goes asserting next whole is tt goes.stands in
      let known = tested_is calling n st.at whole.1 a found in
      let here : Goes a.2 a.3 = record {
        depth = known.after.depth ∙ sym known.here.depth;
        stands = stands_like known.after outer.stands;
      } in
      let inner : Inside a.2 test.0 test.1 = opened_inside a.2 a.3 (omega (arith, known.at)) here (asserted a.0 a.1)
      a.3 test opens tt here.stands in
      subst (Begins st) (ok_is same) (record {
        shallow = omega (arith, inner.shallow, known.here.depth, outer.depth);
        at = outer.at;
        test_at = inner.at;
        form = opened_form st asserting next whole is;
        flat = inner.flat;
        lead = known.lead;
        depth = omega (arith, inner.depth, known.here.depth, outer.depth);
        stands = inner.stands;
      })

  -- What a token begins.

  module _ (known : Known) (n : ℕ) (st next : State) (like : Like st next) (s : Stands st) where
    there : Goes st next
    there = record { depth = like.depth; stands = stands_like like s }

    found_is : {what' : Beginning} (what : Beginning) → (let r : Result Beginning Fault = Ok what' in r) ≡ Ok what
        → Begins st what' → Begins st what
    found_is what h b = subst (Begins st) (ok_is h) b

    class_begins : (what : Beginning) (spec : ClassSpec) (after : State)
        → (let r : Result Beginning Fault = Ok (of_class spec after) in r) ≡ Ok what → Like st after → Begins st what
    unfolding nesting
    class_begins what spec after h p = found_is what h (
      refl,
      record {
        depth = p.depth;
        stands = record { references = (stands_like p s).references; beyond = (stands_like p s).beyond };
      },
    )

    simple_begins : (t : Nested) (what : Beginning) → nesting t ≡ 0
        → (let r : Result Beginning Fault = Ok (bare t next) in r) ≡ Ok what → Begins st what
    simple_begins t what flat h = found_is what h (flat, there)

    atom_begins : (t : Nested) (what : Beginning) → nesting t ≡ 0
        → (let r : Result Beginning Fault = Ok (atom t next) in r) ≡ Ok what → Begins st what
    atom_begins t what flat h = found_is what h (flat, there)

    verb_begins : (repeats : Bool) (t : Nested) (after : State) → nesting t ≡ 0 → Goes st after
        → Begins st (part_if repeats t after)
    verb_begins true t after flat g = (flat, g)
    verb_begins false t after flat g = (flat, g)

    called_begins : (at : st.at ≤ length text) (groups : List ℕ) (o : Option ℕ) → Begins st (called st next groups o)
    unfolding nesting
    called_begins at groups None = (refl, adds st next at there groups s)
    called_begins at groups (Some m) = (refl, adds st next at there (beside_whole (m ∷ [])) s)

    below : {found : Token} → ((found ≡ token.End → ⊥) → st.at < length text) → (found ≡ token.End → ⊥)
        → st.at ≤ length text
    below at no_end = let less = at no_end in omega (arith, less)

    dot_flat : (dotall : Bool) → nesting (any_or_line dotall) ≡ 0
    unfolding nesting
    dot_flat true = refl
    dot_flat false = refl

    plain_begins : (form : Form) (after : State) (what : Beginning) → enters (opened st form after) ≡ Ok what
        → st.at ≤ length text → IsFlat form → Stands after → Begins st what
    plain_begins form after what h at flat stands =
        enters_inside st next at there (opened st form after) what h
        (λ f is. opened_inside st next at there form after f is flat stands)

    calls_begin : (target : Target) (what : Beginning) → calls known.names text st target next ≡ Ok what
        → st.at ≤ length text → Begins st what
    unfolding calls
    calls_begin target what h at =
        let (groups, is, same) = bind_ok (named_by known.names text st target)
        (λ groups. let r : Result Beginning Fault =
        Ok (called st next groups (number_called (is_number target) groups)) in r) what h in
        found_is what same (called_begins at groups (number_called (is_number target) groups))

    verbs_begin : (kind : VerbKind) (name : List ℕ) (what : Beginning) → verbs kind name st next ≡ Ok what
        → Begins st what
    unfolding verbs nesting
    verbs_begin kind name what h =
        found_is what h (verb_begins (may_be_repeated kind) (verb (verb_of kind (number_of_name st.verb_names name)))
        (record next { verb_names = names_after st.verb_names name }) refl
        (record {
          depth = there.depth;
          stands = record {
            references = there.stands.references;
            beyond = there.stands.beyond;
          };
        }))

    callouts_begin : (number from to : ℕ) (what : Beginning)
        → callouts known.calling text number from to st next ≡ Ok what → Begins st what
    unfolding callouts nesting
    callouts_begin number from to what h =
        elim (if_ok known.calling (Ok (with_callout number from to (next_item text next) next)) (fault 195 st.at) what
        h) [
          | inl x ↦ found_is what x.1 (
            refl,
            record {
              depth = there.depth;
              stands = record { references = there.stands.references; beyond = there.stands.beyond };
            },
          )
          | inr x ↦ absurd (no_fault x.1)
        ]

    pub begins : (found : Token) (what : Beginning) → beginning known text n st found next ≡ Ok what
        → ((found ≡ token.End → ⊥) → st.at < length text) → Begins st what
    unfolding nesting
    begins token.End what h at = found_is what h tt
    begins token.Bar what h at = found_is what h tt
    begins token.Close what h at = found_is what h tt
    begins (token.Literal c) what h at = found_is what h (refl, there)
    begins token.Dot what h at = found_is what h (dot_flat st.options.dotall, there)
    begins token.NotNewline what h at = found_is what h (refl, there)
    begins token.LineBreak what h at = found_is what h (refl, there)
    begins (token.Set set outside) what h at = class_begins what (type_class st (part.Set set outside st.options.ucp))
        next h like
    begins (token.Property from to outside) what h at =
        let (p, is, same) = bind_ok (property_part (slice_range text from to) outside st.options.ucp st.at)
        (λ p. let r : Result Beginning Fault = Ok (of_class (type_class st p) next) in r) what h in
        class_begins what (type_class st p) next same like
    begins (token.ClassStart negated) what h at =
        let (spec, is, same) = bind_ok (class_spec text n negated next)
        (λ (spec, after). let r : Result Beginning Fault = Ok (of_class spec after) in r) what h in
        class_begins what spec.0 spec.1 same (like_on like (class_like text n negated next spec is))
    begins token.Caret what h at = found_is what h (refl, there)
    begins token.Dollar what h at = found_is what h (refl, there)
    begins token.SubjectStart what h at = found_is what h (refl, there)
    begins token.SubjectEnd what h at = found_is what h (refl, there)
    begins token.EndOrNewline what h at = found_is what h (refl, there)
    begins token.StartGiven what h at = found_is what h (refl, there)
    begins (token.Boundary opposite) what h at = found_is what h (refl, there)
    begins token.KeepOut what h at =
        elim (if_ok st.looking (fault 199 st.at) (let r : Result Beginning Fault = Ok (bare keep_out next) in r) what
        h) [
          | inl x ↦ absurd (no_fault x.1)
          | inr x ↦ found_is what x.1 (refl, there)
        ]
    begins (token.Reference target) what h at =
        let (groups, is, same) = bind_ok (named_by known.names text st target)
        (λ groups. let r : Result Beginning Fault = Ok (with_reference st next groups) in r) what h in
        found_is what same (refl, adds st next (below at (λ e. absurd cc)) there groups s)
    begins (token.CallTo target) what h at = calls_begin target what h (below at (λ e. absurd cc))
    begins (token.Open opening.Capture) what h at =
        let here = below at (λ e. absurd cc) in
        elim st.options.no_auto_capture
        as (λ b. enters (if b then opened st (grouped None) next else captured st next) ≡ Ok what
        → Begins st what) [
          | true ↦ λ e. enters_inside st next here there (opened st (grouped None) next) what e
              (λ f is. opened_inside st next here there (grouped None) next f is tt there.stands)
          | false ↦ λ e. enters_inside st next here there (captured st next) what e
              (λ f is. captured_inside st next here there next f is there.stands)
        ] h
    begins (token.Open opening.Plain) what h at = plain_begins (grouped None) next what h (below at (λ e. absurd cc))
        tt there.stands
    begins (token.Open opening.BranchReset) what h at =
        let here = below at (λ e. absurd cc) in
        enters_inside st next here there (reset st next) what h
        (λ f is. reset_inside st next here there next f is there.stands)
    begins (token.Open opening.Atomic) what h at = plain_begins atomically next what h (below at (λ e. absurd cc)) tt
        there.stands
    begins (token.Open (opening.Look ahead positive once)) what h at =
        plain_begins (looks ahead positive once) next what h (below at (λ e. absurd cc)) tt there.stands
    begins (token.Open (opening.Named from to)) what h at =
        let here = below at (λ e. absurd cc) in
        let name : List ℕ = slice_range text from to in
        enters_inside st next here there (named st name next) what h
        (λ f is. named_inside st next here there name next f is there.stands)
    begins (token.OptionSet reset on off true) what h at =
        plain_begins (grouped None) (record next { options = with_setting reset on off st.options }) what h
        (below at (λ e. absurd cc)) tt
        (record { references = there.stands.references; beyond = there.stands.beyond })
    begins (token.CondStart tested.Lookaround from to) what h at =
        assertions_begin known.calling n st next what h (below at (λ e. absurd cc)) there
    begins (token.CondStart cond from to) what h at =
        conditions_inside st next (below at (λ e. absurd cc)) there known.names cond (slice_range text from to) what h s
    begins (token.VerbItem kind from to) what h at = verbs_begin kind (slice_range text from to) what h
    begins (token.OptionSet reset on off false) what h at =
        found_is what h (record {
          depth = there.depth;
          stands = record { references = there.stands.references; beyond = there.stands.beyond };
        })
    begins token.Passed what h at = found_is what h there
    begins token.QuoteOn what h at = found_is what h (record {
      depth = there.depth;
      stands = record { references = there.stands.references; beyond = there.stands.beyond };
    })
    begins token.QuoteOff what h at = found_is what h (record {
      depth = there.depth;
      stands = record { references = there.stands.references; beyond = there.stands.beyond };
    })
    begins (token.CalloutItem number from to) what h at = callouts_begin number from to what h
    begins _ what h at = absurd (no_fault h)
