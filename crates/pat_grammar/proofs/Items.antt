-- The next item, from place to place.
use Rattle.std.proofs.Common.{◌≡◌, ℕ, suc, ◌+◌, ◌-◌, ◌<◌, ◌≤◌, Bool, false, List, [], length, Option, Some, None, Ok}
use Rattle.std.proofs.Common.{Err, refl, sym, ap, ◌∙◌, arith}
use Rattle.token_parts.specs.declared.fault.Fault.{Fault}
use Rattle.token_parts.specs.declared.token.OptionMask.{OptionMask}
use Rattle.token_parts.specs.declared.token.Token.{Token}
use Rattle.token_parts.specs.declared.token.Token.TheVariants.{OptionSet, Passed, QuoteOn, QuoteOff, Quantifier}
use Rattle.token_parts.specs.declared.token.QuantMode.{QuantMode}
use Rattle.token_parts.specs.Tell.{Moves}
use Rattle.pat_lex.specs.Tokens.{token_at}
use Rattle.pat_grammar.specs.State.{State, flags_of, next, passed_over}
use Rattle.pat_grammar.specs.Callouts.{set_over, end_by, item_end, item_by, item_from, next_item, is_item}
use Rattle.pat_grammar.specs.Places.{state_at, flags_at}
use Rattle.pat_grammar.specs.declared.cursor.Cursor.{Cursor}
use Rattle.pat_grammar.specs.declared.alternatives.Bars.TheVariants.{Free}
use Rattle.pat_grammar.specs.declared.alternatives.Numbering.TheVariants.{Onward}
use Rattle.pat_grammar.proofs.Spots.{one_less}

-- another token than these is an item
pub none_over : (found : Token) (st : State) → (found ≡ Passed → ⊥) → (found ≡ QuoteOn → ⊥) → (found ≡ QuoteOff → ⊥) →
    ((reset : Bool) (on off : OptionMask) (opens : Bool) → found ≡ OptionSet reset on off opens → ⊥)
    → set_over found st ≡ None
none_over Passed st p q r s = absurd (p refl)
none_over QuoteOn st p q r s = absurd (q refl)
none_over QuoteOff st p q r s = absurd (r refl)
none_over (OptionSet reset on off opens) st p q r s = absurd (s reset on off opens refl)
none_over _ st p q r s = refl

-- another token than a quantifier ends nothing
pub end_here : (at : ℕ) (found : Token) (after : State)
    → ((low : ℕ) (high : Option ℕ) (mode : QuantMode) → found ≡ Quantifier low high mode → ⊥) →
    end_by at found after ≡ at
end_here at (Quantifier low high mode) after p = absurd (p low high mode refl)
end_here at _ after p = refl

-- what is passed over is no item
pub passed_no_item : (found : Token) (before beyond : State) → passed_over found before ≡ Some beyond
    → is_item found ≡ false
passed_no_item Passed before beyond over = refl
passed_no_item QuoteOn before beyond over = refl
passed_no_item QuoteOff before beyond over = refl
passed_no_item _ before beyond over = cc

module _ (text : List ℕ) (st : State) where
  module _ (found : Token) (place : ℕ) (read : token_at text (flags_of false st) st.at ≡ Ok (found, place)) where
    next_is : next text false st ≡ Ok (found, record st { at = place })
    unfolding next
    next_is = rw read

    from_is : (n : ℕ) → item_from text (suc n) st ≡ item_by text (item_from text n) st found
        (record st { at = place }) (set_over found (record st { at = place }))
    unfolding item_from
    from_is n = rw next_is refl

    pub from_over : (n : ℕ) (beyond : State) → set_over found (record st { at = place }) ≡ Some beyond
        → item_from text (suc n) st ≡ item_from text n beyond
    from_over n beyond over = from_is n ∙ ap (item_by text (item_from text n) st found (record st { at = place })) over

    pub from_here : (n : ℕ) → set_over found (record st { at = place }) ≡ None
        → item_from text (suc n) st ≡ (st.at, item_end text found (record st { at = place }) - st.at)
    from_here n none = from_is n ∙ ap (item_by text (item_from text n) st found (record st { at = place })) none

  pub from_bad : (f : Fault) → token_at text (flags_of false st) st.at ≡ Err f → (n : ℕ)
      → item_from text (suc n) st ≡ (st.at, 0)
  unfolding item_from next
  from_bad f read n = rw (item_from, next, read)

-- what is no item isn't the end
moves_set : (text : List ℕ) (at after : ℕ) (found : Token) (before beyond : State) → Moves text at found after
    → set_over found before ≡ Some beyond → (at < after) × (after ≤ length text)
moves_set text at after Passed before beyond moves over = moves
moves_set text at after QuoteOn before beyond moves over = moves
moves_set text at after QuoteOff before beyond moves over = moves
moves_set text at after (OptionSet reset on off opens) before beyond moves over = moves
moves_set text at after _ before beyond moves over = cc

-- The search for an item has come from one cursor to another.
pub record Comes (from cursor : Cursor) : Type 0 where
  pub text : cursor.text.now ≡ from.text.now
  pub past : from.place.at ≤ cursor.place.at
  pub within : cursor.place.at ≤ length cursor.text.now
  pub same : (st : State) (n : ℕ) → length from.text.now < n + from.place.at →
      (m : ℕ) × (length cursor.text.now < suc m + cursor.place.at)
      × (item_from from.text.now n (state_at from st from.place) ≡ item_from cursor.text.now (suc m)
      (state_at cursor st cursor.place))

pub comes_first : (from : Cursor) → from.place.at ≤ length from.text.now → Comes from from
comes_first from within = record {
  text = refl;
  past = omega arith;
  within = within;
  same = λ st n more.
      let (m, is) = one_less n (length from.text.now) from.place.at more within in
      (m, omega arith, ap (λ k. item_from from.text.now k (state_at from st from.place)) is);
}

module _ (from cursor : Cursor) (found : Token) (at : ℕ) (comes : Comes from cursor)
    (read : Ok (found, at) ≡ token_at cursor.text.now (flags_at cursor false cursor.place) cursor.place.at) where
  pub comes_on : Moves cursor.text.now cursor.place.at found at → (beyond : Cursor) →
      ((st : State) → set_over found (record (state_at cursor st cursor.place) { at = at }) ≡ Some
      (state_at beyond st beyond.place)) →
      beyond.text.now ≡ cursor.text.now → beyond.place.at ≡ at → Comes from beyond × (cursor.place.at < beyond.place.at)
  comes_on moves beyond over text is =
      let none : State = record {
        at = 0;
        quoting = false;
        options = cursor.options;
        groups = 0;
        depth = 0;
        looking = false;
        bars = Free;
        numbering = Onward;
        classes = [];
        names = [];
        verb_names = [];
        references = [];
        beyond = None;
        called = None;
      } in
      let goes : (cursor.place.at < at) × (at ≤ length cursor.text.now) = moves_set _ _ _ found _ _ moves (over none) in
      let long : length beyond.text.now ≡ length cursor.text.now = ap length text in (
        record {
          text = text ∙ comes.text;
          past = omega (arith, comes.past);
          within = omega (arith, long);
          same = λ st n more.
              let (m, still, is_same) = comes.same st n more in
              let (k, is_suc) = one_less m (length cursor.text.now) beyond.place.at (omega arith) (omega arith) in (
                k,
                omega (arith, long),
                is_same ∙ from_over cursor.text.now (state_at cursor st cursor.place) found at (sym read) m
                    (state_at beyond st beyond.place) (over st)
                    ∙ ap (λ j. item_from cursor.text.now j (state_at beyond st beyond.place)) is_suc
                    ∙ ap (λ t. item_from t (suc k) (state_at beyond st beyond.place)) (sym text),
              );
        },
        omega arith,
      )

  pub comes_to : (end : ℕ)
      → ((st : State) → set_over found (record (state_at cursor st cursor.place) { at = at }) ≡ None) →
      ((st : State) → item_end cursor.text.now found (record (state_at cursor st cursor.place) { at = at }) ≡ end) →
      (st : State) → next_item from.text.now (state_at from st from.place) ≡ (cursor.place.at, end - cursor.place.at)
  unfolding next_item
  comes_to end none ends st =
      let (m, still, is_same) = comes.same st (length from.text.now + 2) (omega arith) in
      is_same ∙ from_here cursor.text.now (state_at cursor st cursor.place) found at (sym read) m (none st)
      ∙ ap (λ e. (cursor.place.at, e - cursor.place.at)) (ends st)

pub comes_bad : (from cursor : Cursor) (f : Fault) → Comes from cursor
    → Err f ≡ token_at cursor.text.now (flags_at cursor false cursor.place) cursor.place.at →
    (st : State) → next_item from.text.now (state_at from st from.place) ≡ (cursor.place.at, 0)
unfolding next_item
comes_bad from cursor f comes read st =
    let (m, still, is_same) = comes.same st (length from.text.now + 2) (omega arith) in
    is_same ∙ from_bad cursor.text.now (state_at cursor st cursor.place) f (sym read) m
