-- The parts of a class, from item to item.
use Rattle.std.proofs.Common.{◌≡◌, ℕ, suc, ◌+◌, ◌<◌, ◌≤◌, Bool, true, false, not, ◌&&◌, List, [], ◌∷◌, ◌++◌, length}
use Rattle.std.proofs.Common.{Ok, Err, refl, ap, ◌∙◌, append_assoc, append-nil, sym, arith}
use Rattle.pat_tree.specs.declared.nodes.Part.{Part}
use Rattle.token_parts.specs.declared.fault.Fault.{Fault}
use Rattle.token_parts.specs.declared.token.Token.{Token}
use Rattle.token_parts.specs.declared.token.Token.TheVariants.{ClassEnd}
use Rattle.token_parts.specs.Tell.{◌>>=◌}
use Rattle.pat_grammar.specs.State.{State, Reads, item}
use Rattle.pat_grammar.specs.Classes.{part_then, from_item, class_parts, class_spec}
use Rattle.pat_grammar.specs.Places.{state_at, is_closing, Tells}
use Rattle.pat_grammar.specs.declared.error.ReadError.{ReadError}
use Rattle.pat_grammar.specs.declared.error.ReadError.TheVariants.{Bad, Memory}
use Rattle.pat_grammar.specs.declared.cursor.Place.{Place}
use Rattle.pat_grammar.specs.declared.cursor.Cursor.{Cursor}
use Rattle.pat_grammar.proofs.Spots.{one_less}

module _ (text : List ℕ) (n : ℕ) where
  closed_by : (rest : State → Reads (List Part)) (first : Bool) (token : Token) (here after : State)
      → is_closing first here.options.allow_empty_class token ≡ true →
      from_item text n rest first token here after ≡ Ok ([], after)
  closed_by rest first ClassEnd here after closes =
      let stays : (first && not here.options.allow_empty_class) ≡ false =
      elim (first && not here.options.allow_empty_class) as (λ b. not b ≡ true → b ≡ false)
      [ true ↦ λ e. cc | false ↦ λ _. refl ] closes in
      rw stays refl
  closed_by rest first _ here after closes = cc

  module _ (first : Bool) (st : State) where
    module _ (token : Token) (here after : State) (found : item text true n st ≡ Ok (token, here, after)) where
      pub parts_from : class_parts text (suc n) first st ≡ from_item text n (class_parts text n false) first token
          here after
      unfolding class_parts
      parts_from = rw found refl

      pub parts_closed : is_closing first here.options.allow_empty_class token ≡ true
          → class_parts text (suc n) first st ≡ Ok ([], after)
      parts_closed closes = parts_from ∙ closed_by (class_parts text n false) first token here after closes

    pub parts_bad : (f : Fault) → item text true n st ≡ Err f → class_parts text (suc n) first st ≡ Err f
    unfolding class_parts
    parts_bad f bad = rw bad refl

-- parts before the others
abbrev pub onto : List Part → Reads (List Part) → Reads (List Part)
onto before r = r >>= λ (parts, end). Ok (before ++ parts, end)

onto_none : (r : Reads (List Part)) → onto [] r ≡ r
onto_none (Ok x) = refl
onto_none (Err f) = refl

onto_one : (before : List Part) (p : Part) (r : Reads (List Part))
    → onto before (part_then p r) ≡ onto (before ++ p ∷ []) r
onto_one before p (Ok (parts, end)) = ap (λ all. let x : Reads (List Part) = Ok (all, end) in x)
    (sym (append_assoc before (p ∷ []) parts))
onto_one before p (Err f) = refl

-- The parts up to a place were read, and the class goes on there.
pub record Reaches (cursor : Cursor) (from here : Place) (first : Bool) (parts : List Part) : Type 0 where
  pub past : from.at ≤ here.at
  pub within : here.at ≤ length cursor.text.now
  pub same : (st : State) (n : ℕ) → length cursor.text.now + 1 < n + from.at →
      (m : ℕ) × (length cursor.text.now < m + here.at)
      × (class_parts cursor.text.now n true (state_at cursor st from) ≡ onto parts
      (class_parts cursor.text.now (suc m) first (state_at cursor st here)))

pub begins_first : (cursor : Cursor) (from : Place) → from.at ≤ length cursor.text.now
    → Reaches cursor from from true []
begins_first cursor from within = record {
  past = omega arith;
  within = within;
  same = λ st n more.
      let (m, is) = one_less n (length cursor.text.now) from.at (omega arith) within in
      (m, omega arith, ap (λ k. class_parts cursor.text.now k true (state_at cursor st from)) is ∙ sym (onto_none _));
}

module _ (cursor : Cursor) (from here : Place) (first : Bool) (parts : List Part)
    (reaches : Reaches cursor from here first parts) where
  pub reaches_on : (next : Place) (p : Part) → here.at < next.at → next.at ≤ length cursor.text.now →
      ((st : State) (n : ℕ) → length cursor.text.now < n + here.at →
      class_parts cursor.text.now (suc n) first (state_at cursor st here) ≡ part_then p
      (class_parts cursor.text.now n false (state_at cursor st next))) →
      Reaches cursor from next false (parts ++ p ∷ [])
  reaches_on next p goes within step = record {
    past = omega (arith, reaches.past);
    within = within;
    same = λ st n more.
        let (m, still, is_same) = reaches.same st n more in
        let (k, is_suc) = one_less m (length cursor.text.now) here.at still reaches.within in (
          k,
          omega arith,
          is_same ∙ ap (onto parts) (step st m still) ∙ onto_one parts p _
              ∙ ap (λ j. onto (parts ++ p ∷ []) (class_parts cursor.text.now j false (state_at cursor st next)))
              is_suc,
        );
  }

  pub reaches_end : (end : Place) →
      ((st : State) (n : ℕ) → length cursor.text.now < n + here.at
      → class_parts cursor.text.now (suc n) first (state_at cursor st here) ≡ Ok ([], state_at cursor st end)) →
      (st : State) (n : ℕ) → length cursor.text.now + 1 < n + from.at
      → class_parts cursor.text.now n true (state_at cursor st from) ≡ Ok (parts, state_at cursor st end)
  reaches_end end step st n more =
      let (m, still, is_same) = reaches.same st n more in
      is_same ∙ ap (onto parts) (step st m still)
      ∙ ap (λ all. let x : Reads (List Part) = Ok (all, state_at cursor st end) in x) (append-nil parts)

  pub reaches_bad : (f : Fault) →
      ((st : State) (n : ℕ) → length cursor.text.now < n + here.at
      → class_parts cursor.text.now (suc n) first (state_at cursor st here) ≡ Err f) →
      (st : State) (n : ℕ) → length cursor.text.now + 1 < n + from.at
      → class_parts cursor.text.now n true (state_at cursor st from) ≡ Err f
  reaches_bad f step st n more =
      let (m, still, is_same) = reaches.same st n more in
      is_same ∙ ap (onto parts) (step st m still)

-- a class of these parts
module _ (text : List ℕ) (n : ℕ) (negated : Bool) (st : State) where
  pub class_is : (parts : List Part) (end : State) → class_parts text n true st ≡ Ok (parts, end) →
      class_spec text n negated st ≡ Ok (
        record { negated = negated; caseless = st.options.caseless; parts = parts },
        end,
      )
  unfolding class_spec
  class_is parts end found = rw found refl

  class_bad : (f : Fault) → class_parts text n true st ≡ Err f → class_spec text n negated st ≡ Err f
  unfolding class_spec
  class_bad f bad = rw bad refl

  pub class_refused : (e : ReadError) → Tells (class_parts text n true st) e → Tells (class_spec text n negated st) e
  class_refused (Bad number at) bad = class_bad (record { number = number; at = at }) bad
  class_refused Memory bad = tt
