-- Callouts, and the items before which they stand (pcre2pattern, "Callouts"; pcre2callout).
use Rattle.std.specs.Prelude.{ℕ, zero, suc, ◌+◌, ◌-◌, ◌==◌, ◌&&◌, Bool, true, false, List, ◌∷◌, length, Option, Some}
use Rattle.std.specs.Prelude.{None, Result, Ok, Err, if◌then◌else◌}
use Rattle.pat_tree.specs.declared.nodes.ClassSpec.{ClassSpec}
use Rattle.pat_tree.specs.Nested.{Nested, callout}
use Rattle.token_parts.specs.declared.fault.Fault.{Fault}
use Rattle.token_parts.specs.declared.token.Token.{Token}
use Rattle.token_parts.specs.declared.token.Token.TheVariants as token
use Rattle.token_parts.specs.Tell.{◌>>=◌}
use Rattle.pat_grammar.specs.State.{State, Reads, Item, item, next, passed_over}
use Rattle.pat_grammar.specs.Options.{with_setting}
use Rattle.pat_grammar.specs.Classes.{class_spec}

-- What is no item: what is passed over, and an option setting. The state after the token is given.
abbrev pub set_over : Token → State → Option State
set_over (token.OptionSet reset on off false) after =
    Some (record after { options = with_setting reset on off after.options })
set_over found after = passed_over found after

-- where an item ends at this place, but for the quantifier that this token may be
abbrev pub end_by : ℕ → Token → State → ℕ
end_by at (token.Quantifier low high mode) after = after.at
end_by at _ after = at

abbrev pub end_at : ℕ → Result Item Fault → ℕ
end_at at (Ok (found, here, after)) = end_by at found after
end_at at (Err f) = at

-- the state after a class, or before one that has a fault
abbrev pub state_after : State → Reads ClassSpec → State
state_after st (Ok (spec, after)) = after
state_after st (Err f) = st

module _ (text : List ℕ) where
  -- where an item ends with the quantifier that follows this state, if one does
  unfoldable pub quantified_end : State → ℕ
  quantified_end st = end_at st.at (item text false (length text + 2) st)

  -- where the item ends that begins with a token, from the state after it
  abbrev pub item_end : Token → State → ℕ
  item_end (token.ClassStart negated) after =
      quantified_end (state_after after (class_spec text (length text + 2) negated after))
  item_end _ after = quantified_end after

  -- the place and the length of an item that begins with a token, or of one after it
  abbrev pub item_by : (State → ℕ × ℕ) → State → Token → State → Option State → ℕ × ℕ
  item_by again st found after (Some beyond) = again beyond
  item_by again st found after None = (st.at, item_end found after - st.at)

  abbrev pub item_at : (State → ℕ × ℕ) → State → Reads Token → ℕ × ℕ
  item_at again st (Ok (found, after)) = item_by again st found after (set_over found after)
  item_at again st (Err f) = (st.at, 0)

  unfoldable pub item_from : ℕ → State → ℕ × ℕ
  item_from zero st = (st.at, 0)
  item_from (suc n) st = item_at (item_from n) st (next text false st)

  -- The place and the length of the next item. What is passed over and option settings are no items; at the end of the
  -- text there is one without a length.
  unfoldable pub next_item : State → ℕ × ℕ
  next_item st = item_from (length text + 2) st

-- a callout before such an item
abbrev pub callout_of : ℕ → ℕ → ℕ → ℕ × ℕ → Nested
callout_of number from to found = callout (record {
  number = number;
  text_from = from;
  text_to = to;
  item_at = found.0;
  item_len = found.1;
})

-- a token before which an automatic callout may stand: an item but a callout that is written, or the end of an
-- alternative
abbrev pub is_item : Token → Bool
is_item token.Passed = false
is_item token.QuoteOn = false
is_item token.QuoteOff = false
is_item (token.OptionSet reset on off false) = false
is_item (token.CalloutItem number from to) = false
is_item (token.Quantifier low high mode) = false
is_item _ = true

-- a callout stands before this place
abbrev pub is_called : Option ℕ → ℕ → Bool
is_called None at = false
is_called (Some place) at = place == at

-- AUTO_CALLOUT has a callout before a token
abbrev pub is_due : Bool → State → Token → Bool
is_due calling st found =
    if is_item found then (if is_called st.called st.at then false else calling && st.options.auto_callout) else false

abbrev pub automatic_by : Bool → List ℕ → State → Reads Token → Option Nested
automatic_by calling text st (Ok (found, after)) =
    if is_due calling st found then Some (callout_of 255 0 0 (next_item text st)) else None
automatic_by calling text st (Err f) = None

-- the automatic callout that is due at a place
unfoldable pub automatic : Bool → List ℕ → State → Option Nested
automatic calling text st = automatic_by calling text st (next text false st)

-- the state past it
abbrev pub called_after : Option Nested → State → State
called_after None st = st
called_after (Some t) st = record st { called = Some st.at }

-- the parts after it, and it before them
abbrev pub led : Option Nested → Reads (List Nested) → Reads (List Nested)
led None parts = parts
led (Some t) parts = parts >>= λ (others, end). Ok (t ∷ others, end)
