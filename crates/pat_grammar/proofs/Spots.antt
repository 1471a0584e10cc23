-- The next token that isn't passed over, from place to place.
use Rattle.std.proofs.Common.{◌≡◌, ℕ, zero, suc, ◌+◌, ◌<◌, ◌≤◌, Bool, false, List, [], length, Option, Some, None}
use Rattle.std.proofs.Common.{Result, Ok, Err, refl, sym, ap, ◌∙◌, arith}
use Rattle.token_parts.specs.declared.fault.Fault.{Fault}
use Rattle.token_parts.specs.declared.token.Token.{Token}
use Rattle.token_parts.specs.declared.token.Token.TheVariants.{Passed, QuoteOn, QuoteOff}
use Rattle.token_parts.specs.Tell.{Moves}
use Rattle.pat_lex.specs.Tokens.{token_at}
use Rattle.pat_grammar.specs.State.{State, Item, item, flags_of, next, passed_over}
use Rattle.pat_grammar.specs.Places.{state_at, flags_at}
use Rattle.pat_grammar.specs.declared.alternatives.Bars.TheVariants.{Free}
use Rattle.pat_grammar.specs.declared.alternatives.Numbering.TheVariants.{Onward}
use Rattle.pat_grammar.specs.declared.cursor.Place.{Place}
use Rattle.pat_grammar.specs.declared.cursor.Cursor.{Cursor}

module _ (text : List ℕ) (in_class : Bool) (st : State) where
  module _ (token : Token) (place : ℕ) (at : token_at text (flags_of in_class st) st.at ≡ Ok (token, place)) where
    next_is : next text in_class st ≡ Ok (token, record st { at = place })
    unfolding next
    next_is = rw at

    -- after a token that is passed over the next one counts
    abbrev settled : ℕ → State → Option State → Result Item Fault
    settled n after (Some beyond) = item text in_class n beyond
    settled n after None = Ok (token, st, after)

    item_is : (n : ℕ) → item text in_class (suc n) st ≡ settled n (record st { at = place })
        (passed_over token (record st { at = place }))
    unfolding item
    item_is n = rw next_is refl

    pub item_over : (n : ℕ) (beyond : State) → passed_over token (record st { at = place }) ≡ Some beyond
        → item text in_class (suc n) st ≡ item text in_class n beyond
    item_over n beyond over = item_is n ∙ ap (settled n (record st { at = place })) over

    pub item_found : (n : ℕ) → passed_over token (record st { at = place }) ≡ None
        → item text in_class (suc n) st ≡ Ok (token, st, record st { at = place })
    item_found n none = item_is n ∙ ap (settled n (record st { at = place })) none

  pub item_bad : (f : Fault) → token_at text (flags_of in_class st) st.at ≡ Err f → (n : ℕ)
      → item text in_class (suc n) st ≡ Err f
  unfolding item next
  item_bad f at n = rw (item, next, at)

-- The search for a token has come from one place to another.
pub record Passes (cursor : Cursor) (in_class : Bool) (from here : Place) : Type 0 where
  pub past : from.at ≤ here.at
  pub within : here.at ≤ length cursor.text.now
  pub same : (st : State) (n : ℕ) → length cursor.text.now < n + from.at
      → (m : ℕ) × (length cursor.text.now < suc m + here.at)
      × (item cursor.text.now in_class n (state_at cursor st from) ≡ item cursor.text.now in_class (suc m)
      (state_at cursor st here))

pub one_less : (n size at : ℕ) → size < n + at → at ≤ size → (m : ℕ) × (n ≡ suc m)
one_less zero size at more within = absurd (omega arith)
one_less (suc m) size at more within = (m, refl)

pub begins_there : (cursor : Cursor) (in_class : Bool) (from : Place) → from.at ≤ length cursor.text.now
    → Passes cursor in_class from from
begins_there cursor in_class from within = record {
  past = omega arith;
  within = within;
  same = λ st n more.
      let (m, is) = one_less n (length cursor.text.now) from.at more within in
      (m, omega arith, ap (λ k. item cursor.text.now in_class k (state_at cursor st from)) is);
}

-- a token that is passed over isn't the end
moves_over : (text : List ℕ) (at after : ℕ) (token : Token) (before beyond : State) → Moves text at token after
    → passed_over token before ≡ Some beyond → (at < after) × (after ≤ length text)
moves_over text at after Passed before beyond moves over = moves
moves_over text at after QuoteOn before beyond moves over = moves
moves_over text at after QuoteOff before beyond moves over = moves
moves_over text at after _ before beyond moves over = cc

module _ (cursor : Cursor) (in_class : Bool) (from here : Place) (token : Token) (at : ℕ)
    (passes : Passes cursor in_class from here)
    (read : Ok (token, at) ≡ token_at cursor.text.now (flags_at cursor in_class here) here.at) where
  pub passes_on : Moves cursor.text.now here.at token at → (beyond : Place) →
      ((st : State) → passed_over token (record (state_at cursor st here) { at = at }) ≡ Some
      (state_at cursor st beyond)) → beyond.at ≡ at →
      Passes cursor in_class from beyond × (here.at < beyond.at)
  passes_on moves beyond over is =
      let none : State = record {
        at = 0;
        quoting = false;
        options = cursor.options;
        groups = 0;
        depth = 0;
        looking = false;
        bars = Free;
        numbering = Onward;
        classes = [];
        names = [];
        verb_names = [];
        references = [];
        beyond = None;
        called = None;
      } in
      let goes : (here.at < at) × (at ≤ length cursor.text.now) = moves_over _ _ _ token _ _ moves (over none) in (
        record {
          past = omega (arith, passes.past);
          within = omega arith;
          same = λ st n more.
              let (m, still, is_same) = passes.same st n more in
              let (k, is_suc) = one_less m (length cursor.text.now) beyond.at (omega arith) (omega arith) in (
                k,
                omega arith,
                is_same ∙ item_over cursor.text.now in_class (state_at cursor st here) token at
                    (sym read) m (state_at cursor st beyond) (over st)
                    ∙ ap (λ j. item cursor.text.now in_class j (state_at cursor st beyond)) is_suc,
              );
        },
        omega arith,
      )

  pub passes_to : ((st : State) → passed_over token (record (state_at cursor st here) { at = at }) ≡ None)
      → (st : State) (n : ℕ) → length cursor.text.now < n + from.at →
      item cursor.text.now in_class n (state_at cursor st from) ≡ Ok
      (token, state_at cursor st here, record (state_at cursor st here) { at = at })
  passes_to none st n more =
      let (m, still, is_same) = passes.same st n more in
      is_same ∙ item_found cursor.text.now in_class (state_at cursor st here) token at (sym read) m (none st)

pub passes_bad : (cursor : Cursor) (in_class : Bool) (from here : Place) (f : Fault)
    → Passes cursor in_class from here → Err f ≡ token_at cursor.text.now (flags_at cursor in_class here) here.at →
    (st : State) (n : ℕ) → length cursor.text.now < n + from.at
    → item cursor.text.now in_class n (state_at cursor st from) ≡ Err f
passes_bad cursor in_class from here f passes read st n more =
    let (m, still, is_same) = passes.same st n more in
    is_same ∙ item_bad cursor.text.now in_class (state_at cursor st here) f (sym read) m
