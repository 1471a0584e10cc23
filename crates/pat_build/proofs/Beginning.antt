-- What begins a group, and when it may not.
use Rattle.std.proofs.Common.{◌≡◌, ℕ, Bool, Err, slice_range, ◌+◌, ◌<◌, ◌≤◌, nat_le, true, false, not, ◌&&◌, ◌||◌}
use Rattle.std.proofs.Common.{List, Some, None, Ok, refl, ap, ◌∙◌, arith, if◌then◌else◌}
use Rattle.std.specs.List.{list_any}
use Rattle.std.proofs.lemmas.Bool.Decides.{nat_tests}
use Rattle.token_parts.specs.Tell.{fault}
use Rattle.pat_tree.specs.Names.{with_name}
use Rattle.pat_tree.specs.Nested.{Nested}
use Rattle.pat_tree.specs.declared.names.NameEntry.{NameEntry}
use Rattle.token_parts.specs.declared.fault.Fault.{Fault}
use Rattle.token_parts.specs.declared.token.Token.TheVariants.{Open, CondStart}
use Rattle.token_parts.specs.declared.token.CondText.TheVariants as tested
use Rattle.pat_grammar.specs.declared.alternatives.Bars.TheVariants.{Free, First}
use Rattle.pat_grammar.specs.declared.alternatives.Numbering.TheVariants.{Onward, Reset}
use Rattle.token_parts.specs.declared.token.OpenKind.TheVariants.{Capture}
use Rattle.pat_grammar.specs.State.{State, Known}
use Rattle.token_parts.specs.declared.token.CondText.{CondText}
use Rattle.pat_grammar.specs.declared.error.ReadError.{ReadError}
use Rattle.pat_grammar.specs.declared.error.ReadError.TheVariants.{Bad, Memory}
use Rattle.pat_grammar.specs.Places.{Refuses}
use Rattle.pat_grammar.specs.Parts.{beginning, conditions, assertion, assertions, asserts, enters}
use Rattle.pat_grammar.specs.Groups.{Opens, Opening, Form, grouped, asserted, asserting, IsWorded, is_look, bars_in}
use Rattle.pat_grammar.specs.Groups.{is_elsewhere, is_other, opened, captured, named, reset, form_in, beyond_after}

pub opened_deep : (st : State) (form : Form) (after : State) → 250 ≤ st.depth → opened st form after ≡ fault 119 st.at
unfolding opened
opened_deep st form after h = grind (arith, nat_tests)

-- the group, and the state in which its inside begins
abbrev pub begun : State → Form → State → Opens
begun st form after =
    Ok (
      record {
        form = form;
        around = st.options;
        looking = st.looking;
        bars = st.bars;
        numbering = st.numbering;
        at = st.at;
      },
      record after {
        depth = st.depth + 1;
        looking = is_look form || st.looking;
        bars = bars_in form;
        numbering = Onward;
      },
    )

pub opened_fits : (st : State) (form : Form) (after : State) → st.depth < 250
    → opened st form after ≡ begun st form after
unfolding opened
opened_fits st form after h = grind (arith, nat_tests)

pub captured_deep : (st after : State) → 250 ≤ st.depth → captured st after ≡ fault 119 st.at
unfolding captured
captured_deep st after h =
    rw (opened_deep st (grouped (Some (st.groups + 1))) (record after { groups = st.groups + 1 }) h) refl

pub captured_many : (st after : State) → st.depth < 250 → 65535 ≤ st.groups → captured st after ≡ fault 161 st.at
unfolding captured
captured_many st after h k =
    let many : nat_le 65535 st.groups ≡ true = grind (arith, nat_tests) in
    rw (opened_fits st (grouped (Some (st.groups + 1))) (record after { groups = st.groups + 1 }) h, many) refl

pub captured_fits : (st after : State) → st.depth < 250 → st.groups < 65535 →
    captured st after ≡ begun st (grouped (Some (st.groups + 1))) (record after { groups = st.groups + 1 })
unfolding captured
captured_fits st after h k =
    let few : nat_le 65535 st.groups ≡ false = grind (arith, nat_tests) in
    rw (opened_fits st (grouped (Some (st.groups + 1))) (record after { groups = st.groups + 1 }) h, few) refl

module _ (st : State) (name : List ℕ) (after : State) where
  pub named_deep : 250 ≤ st.depth → named st name after ≡ fault 119 st.at
  unfolding named
  named_deep h =
      rw (captured_deep st
      (record after { names = with_name (record { name = name; group = st.groups + 1 }) st.names }) h) refl

  pub named_many : st.depth < 250 → 65535 ≤ st.groups → named st name after ≡ fault 161 st.at
  unfolding named
  named_many h k =
      rw (captured_many st
      (record after { names = with_name (record { name = name; group = st.groups + 1 }) st.names }) h k) refl

  pub named_twice : st.depth < 250 → st.groups < 65535
      → (not st.options.dupnames && list_any (is_elsewhere name (st.groups + 1)) st.names) ≡ true
      → named st name after ≡ fault 143 st.at
  unfolding named
  named_twice h k twice =
      rw (
        captured_fits st
            (record after { names = with_name (record { name = name; group = st.groups + 1 }) st.names }) h k,
        twice,
      ) refl

  pub named_other : st.depth < 250 → st.groups < 65535
      → (not st.options.dupnames && list_any (is_elsewhere name (st.groups + 1)) st.names) ≡ false →
      list_any (is_other name (st.groups + 1)) st.names ≡ true → named st name after ≡ fault 165 st.at
  unfolding named
  named_other h k once other =
      rw (
        captured_fits st
            (record after { names = with_name (record { name = name; group = st.groups + 1 }) st.names }) h k,
        once,
        other,
      ) refl

  pub named_fits : st.depth < 250 → st.groups < 65535
      → (not st.options.dupnames && list_any (is_elsewhere name (st.groups + 1)) st.names) ≡ false
      → list_any (is_other name (st.groups + 1)) st.names ≡ false →
      named st name after
      ≡ begun st (grouped (Some (st.groups + 1)))
      (record after {
        names = with_name (record { name = name; group = st.groups + 1 }) st.names;
        groups = st.groups + 1;
      })
  unfolding named
  named_fits h k once none =
      rw (
        captured_fits st
            (record after { names = with_name (record { name = name; group = st.groups + 1 }) st.names }) h k,
        once,
        none,
      )
      refl

-- a branch reset
pub reset_deep : (st after : State) → 250 ≤ st.depth → reset st after ≡ fault 119 st.at
unfolding reset
reset_deep st after h = rw (opened_deep st (grouped None) after h) refl

pub reset_fits : (st after : State) → st.depth < 250 →
    reset st after
    ≡ Ok (
      record {
        form = grouped None;
        around = st.options;
        looking = st.looking;
        bars = st.bars;
        numbering = st.numbering;
        at = st.at;
      },
      record after { depth = st.depth + 1; looking = st.looking; bars = Free; numbering = Reset st.groups st.groups },
    )
unfolding reset
reset_fits st after h = rw (opened_fits st (grouped None) after h) refl

-- `(` captures, unless groups don't
module _ (known : Known) (text : List ℕ) (n : ℕ) (st next : State) where
  pub capture_is : st.options.no_auto_capture ≡ false → (opens : Opens) → captured st next ≡ opens
      → beginning known text n st (Open Capture) next ≡ enters opens
  capture_is captures opens is = ap (λ b. enters (if b then opened st (grouped None) next else captured st next))
      captures ∙ ap enters is

-- what begins a conditional group
module _ (known : List NameEntry) (text : List ℕ) (st : State) (cond : CondText) (word : List ℕ) (after : State) where
  pub conditions_deep : 250 ≤ st.depth → conditions known text st cond word after ≡ fault 119 st.at
  unfolding conditions
  conditions_deep h = let deep : nat_le 250 st.depth ≡ true = grind (arith, nat_tests) in rw deep refl

  pub conditions_refuse : st.depth < 250 → (e : ReadError) → Refuses (form_in known text st cond word) e
      → Refuses (conditions known text st cond word after) e
  unfolding conditions
  conditions_refuse h (Bad number at) r = let fits : nat_le 250 st.depth ≡ false = grind (arith, nat_tests) in
      rw (fits, r) refl
  conditions_refuse h Memory r = tt

  pub conditions_fit : st.depth < 250 → (form : Form) → form_in known text st cond word ≡ Ok form →
      conditions known text st cond word after ≡ enters
      (begun st form (record after { beyond = beyond_after known st cond word }))
  unfolding conditions
  conditions_fit h form is =
      let fits : nat_le 250 st.depth ≡ false = grind (arith, nat_tests) in
      rw (fits, is, opened_fits st form (record after { beyond = beyond_after known st cond word }) h) refl

-- a test that is no lookaround
pub worded_is : (known : Known) (text : List ℕ) (n : ℕ) (st : State) (cond : CondText) (from to : ℕ) (next : State)
    → IsWorded cond →
    beginning known text n st (CondStart cond from to) next ≡ conditions known.names text st cond
    (slice_range text from to) next
worded_is known text n st tested.Lookaround from to next worded = absurd worded
worded_is known text n st (tested.Group target) from to next worded = refl
worded_is known text n st tested.InCall from to next worded = refl
worded_is known text n st (tested.InCallOf target) from to next worded = refl
worded_is known text n st tested.Define from to next worded = refl

-- What begins a conditional group that tests a lookaround.

-- the state where the lookaround is looked for
abbrev pub before_test : State → State → State
before_test st after = record after { depth = st.depth + 1; looking = st.looking; bars = First; numbering = Onward }

abbrev pub testing : State → Opening
testing st = record {
  form = asserting;
  around = st.options;
  looking = st.looking;
  bars = st.bars;
  numbering = st.numbering;
  at = st.at;
}

module _ (calling : Bool) (text : List ℕ) (n : ℕ) (st after : State) where
  pub assertions_deep : 250 ≤ st.depth → assertions calling text n st after ≡ fault 119 st.at
  unfolding assertions
  assertions_deep h = rw (opened_deep st asserting after h) refl

  pub assertions_bad : st.depth < 250 → (f : Fault) → assertion calling text n st.at (before_test st after) ≡ Err f
      → assertions calling text n st after ≡ Err f
  unfolding assertions
  assertions_bad h f bad = rw (opened_fits st asserting after h, bad) refl

  module _ (fits : st.depth < 250) (ahead positive : Bool) (here beyond : State) (lead : List Nested)
      (found : assertion calling text n st.at (before_test st after) ≡ Ok (ahead, positive, here, beyond, lead)) where
    pub assertions_deeper : 250 ≤ here.depth → assertions calling text n st after ≡ fault 119 here.at
    unfolding assertions
    assertions_deeper h = rw (
      opened_fits st asserting after fits,
      found,
      opened_deep here (asserted ahead positive) beyond h,
    ) refl

    pub assertions_fit : here.depth < 250 →
        assertions calling text n st after
        ≡ Ok (asserts (testing st) lead (record {
          form = asserted ahead positive;
          around = here.options;
          looking = here.looking;
          bars = here.bars;
          numbering = here.numbering;
          at = here.at;
        })
        (record beyond { depth = here.depth + 1; looking = true; bars = Free; numbering = Onward }))
    unfolding assertions
    assertions_fit h = rw (
      opened_fits st asserting after fits,
      found,
      opened_fits here (asserted ahead positive) beyond h,
    ) refl
