-- The start items of a pattern.
use Rattle.std.proofs.Common.{◌≡◌, ℕ, suc, true, false, List, Ok, Err, refl, zero, ◌<◌, arith}
use Rattle.token_parts.specs.declared.fault.Fault.{Fault}
use Rattle.token_parts.specs.declared.token.StartItem.{StartItem}
use Rattle.token_parts.specs.declared.token.Token.{Token}
use Rattle.token_parts.specs.declared.token.Token.TheVariants.{Start}
use Rattle.pat_lex.specs.Tokens.{token_at}
use Rattle.pat_grammar.specs.State.{State, flags_of, next}
use Rattle.pat_grammar.specs.Options.{with_item}
use Rattle.pat_grammar.specs.Reading.{started, started_by, begins_limit}

module _ (text : List ℕ) (st : State) (n : ℕ) where
  module _ (token : Token) (place : ℕ) (at : token_at text (flags_of false st) st.at ≡ Ok (token, place)) where
    next_is : next text false st ≡ Ok (token, record st { at = place })
    unfolding next
    next_is = rw at

    pub start_ends : ((item : StartItem) → token ≡ Start item → ⊥) → started text (suc n) st ≡ Ok st
    unfolding started
    start_ends other =
        rw next_is (elim token as (λ v. token ≡ v → started_by text st (started text n)
        (Ok (v, record st { at = place })) ≡ Ok st) [
          | Start item ↦ λ e. absurd (other item e)
          | _ ↦ λ e. refl
        ] refl)

    pub start_item : (item : StartItem) → token ≡ Start item
        → started text (suc n) st ≡ started text n (record st { at = place; options = with_item item st.options })
    unfolding started
    start_item item is = rw (next_is, is) refl

  -- a fault
  module _ (f : Fault) (at : token_at text (flags_of false st) st.at ≡ Err f) where
    faulty : next text false st ≡ Err f
    unfolding next
    faulty = rw at refl

    pub start_fault : begins_limit text st.at ≡ true → started text (suc n) st ≡ Err f
    unfolding started
    start_fault limit = rw (faulty, limit) refl

    pub start_over : begins_limit text st.at ≡ false → started text (suc n) st ≡ Ok st
    unfolding started
    start_over none = rw (faulty, none) refl

pub positive : (u n : ℕ) → u < n → (p : ℕ) × (n ≡ suc p)
positive u zero h = absurd (omega arith)
positive u (suc p) h = (p, refl)
