-- What is handed on in reading a pattern from left to right (pcre2pattern).
use Rattle.std.specs.Prelude.{ℕ, zero, suc, Bool, true, false, List, Option, Some, None, Result, Ok}
use Rattle.pat_tree.specs.declared.options.Options.{Options}
use Rattle.pat_tree.specs.declared.nodes.ClassSpec.{ClassSpec}
use Rattle.pat_tree.specs.declared.names.NameEntry.{NameEntry}
use Rattle.token_parts.specs.declared.fault.Fault.{Fault}
use Rattle.token_parts.specs.declared.token.LexFlags.{LexFlags}
use Rattle.token_parts.specs.declared.token.Token.{Token}
use Rattle.token_parts.specs.declared.token.Token.TheVariants.{Passed, QuoteOn, QuoteOff}
use Rattle.token_parts.specs.Tell.{fault, ◌>>=◌}
use Rattle.pat_lex.specs.Tokens.{token_at}
use Rattle.pat_grammar.specs.declared.alternatives.Bars.{Bars}
use Rattle.pat_grammar.specs.declared.alternatives.Numbering.{Numbering}

-- what is known of the whole pattern before it is read: its names, and whether callouts are read
pub record Known : Type 0 where
  pub names : List NameEntry
  pub calling : Bool

-- a reference, a call, a lookaround or a condition: its place, and the groups that it names, which are none for a
-- lookaround
pub record Reference : Type 0 where
  pub at : ℕ
  pub groups : List ℕ

pub record State : Type 0 where
  -- how many bytes were read
  pub at : ℕ
  -- the place is between `\Q` and `\E`
  pub quoting : Bool
  -- the options in force
  pub options : Options
  -- the number of the last group that was opened, which goes back in a branch reset
  pub groups : ℕ
  -- how the alternatives of the group number the groups in them
  pub numbering : Numbering
  -- how many parentheses are open
  pub depth : ℕ
  -- the place is inside a lookaround
  pub looking : Bool
  -- which alternatives the group may still have
  pub bars : Bars
  -- the classes that were read, in that order
  pub classes : List ClassSpec
  -- the names that were given, in the order of the table of names
  pub names : List NameEntry
  -- the names of verbs that were read, in that order
  pub verb_names : List (List ℕ)
  -- the references, calls, lookarounds and conditions that were read, in the order in which they end
  pub references : List Reference
  -- the first test of a call whose number no group can have
  pub beyond : Option ℕ
  -- the place of the last item before which a callout stands
  pub called : Option ℕ

-- a value and the state after it, or the first fault
abbrev pub Reads : Type 0 → Type 0
Reads A = Result (A × State) Fault

-- what the tokens depend on
abbrev pub flags_of : Bool → State → LexFlags
flags_of in_class st = record {
  utf = st.options.utf;
  extended = st.options.extended;
  extended_more = st.options.extended_more;
  quoting = st.quoting;
  in_class = in_class;
  newline = st.options.newline;
  groups = st.groups;
}

-- the token at the place, in a class or outside, and the state after it
unfoldable pub next : List ℕ → Bool → State → Reads Token
next text in_class st = token_at text (flags_of in_class st) st.at >>= λ (token, after). Ok
    (token, record st { at = after })

-- Comments, ignored white space, `\Q` and `\E` stand for nothing themselves; the state after the token is given.
abbrev pub passed_over : Token → State → Option State
passed_over Passed after = Some after
passed_over QuoteOn after = Some (record after { quoting = true })
passed_over QuoteOff after = Some (record after { quoting = false })
passed_over _ after = None

-- a token that isn't passed over, with the states before it and after it
abbrev pub Item : Type 0
Item = Token × State × State

-- the next such token, in a class or outside; the number bounds those that are passed over
unfoldable pub item : List ℕ → Bool → ℕ → State → Result Item Fault
item text in_class zero st = fault 0 0
item text in_class (suc n) st = next text in_class st >>= λ (token, after). elim (passed_over token after) [
  | Some beyond ↦ item text in_class n beyond
  | None ↦ Ok (token, st, after)
]
