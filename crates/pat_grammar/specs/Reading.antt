-- What a pattern is read as: a tree with its tables, or the first fault (pcre2pattern).
--
-- The grammar has alternatives, each a sequence of parts, a part being an atom under the quantifier that follows it.
-- Where a number stands as a first argument it bounds how deep the calls go; twice the bytes that are left, and two,
-- are enough.
use Rattle.std.specs.Prelude.{ℕ, zero, suc, ◌+◌, ◌-◌, ◌*◌, negsuc, Bool, true, false, not, ◌&&◌, nat_lt, List, []}
use Rattle.std.specs.Prelude.{◌∷◌, ◌++◌, length, map, Option, Some, None, Result, Ok, Err, if◌then◌else◌, chars}
use Rattle.std.specs.Str.{is_utf8}
use Rattle.std.specs.Char.{len_utf8}
use Rattle.std.specs.Str.Lossy.{utf8_valid_len}
use Rattle.pat_tree.specs.declared.nodes.Item.TheVariants.{Char}
use Rattle.pat_tree.specs.declared.names.NameEntry.{NameEntry}
use Rattle.pat_tree.specs.declared.options.Options.{Options}
use Rattle.pat_tree.specs.Nested.{Nested, one, group, row}
use Rattle.pat_tree.specs.Pattern.{Pattern}
use Rattle.token_parts.specs.declared.fault.Fault.{Fault}
use Rattle.token_parts.specs.declared.token.Token.{Token}
use Rattle.token_parts.specs.declared.token.Token.TheVariants.{End, Bar, Close, Quantifier, Start}
use Rattle.token_parts.specs.Bytes.{begins}
use Rattle.token_parts.specs.Tell.{fault, ◌>>=◌}
use Rattle.pat_grammar.specs.State.{State, Known, Reads, next, passed_over}
use Rattle.pat_grammar.specs.Options.{with_item}
use Rattle.pat_grammar.specs.declared.alternatives.Bars.TheVariants.{Free}
use Rattle.pat_grammar.specs.declared.alternatives.Numbering.TheVariants.{Onward}
use Rattle.pat_grammar.specs.Groups.{Opening, barred, restarted, groups_after, built, noted, missing}
use Rattle.pat_grammar.specs.Callouts.{automatic, callout_of, called_after, led}
use Rattle.pat_grammar.specs.declared.callouts.NextItem.{NextItem}
use Rattle.pat_grammar.specs.Parts.{Beginning, atom, bare, inside, asserts, nothing, over, alternative, repeated}
use Rattle.pat_grammar.specs.Parts.{beginning}

module _ (text : List ℕ) where
  -- the atom under the quantifier that may follow it, also past comments, ignored white space, `\Q` and `\E`
  unfoldable pub quantified : ℕ → Nested → State → Reads Nested
  quantified zero t st = fault 0 0
  quantified (suc n) t st = next text false st >>= λ (token, after). elim token [
    | Quantifier low high mode ↦ Ok (repeated low high mode st.options.ungreedy t, after)
    | other ↦ elim (passed_over other after) [ Some beyond ↦ quantified n t beyond | None ↦ Ok (t, st) ]
  ]

  -- A group of these branches, at its closing parenthesis. What holds around it holds again.
  unfoldable pub closed : Opening → List Nested → State → Reads Nested
  closed opening branches st = next text false st >>= λ (token, after). elim token [
    | Close ↦ Ok (
      built opening.form branches,
      record after {
        options = opening.around;
        looking = opening.looking;
        bars = opening.bars;
        numbering = opening.numbering;
        groups = groups_after st.numbering st.groups;
        depth = st.depth - 1;
        references = st.references ++ noted opening.form opening.at;
      },
    )
    | _ ↦ fault 114 (length text)
  ]

  -- a first part, and the parts after it
  unfoldable pub part_then : (State → Reads (List Nested)) → Reads Nested → Reads (List Nested)
  part_then rest first = do
    (part, st) ← first
    (parts, end) ← rest st
    Ok (part ∷ parts, end)

  -- The parts from what begins at the state `st`, where `inner` reads the alternatives of a group and `rest` a
  -- sequence.
  abbrev pub parts_from : ℕ → (State → Reads (List Nested)) → (State → Reads (List Nested)) → State → Beginning
      → Reads (List Nested)
  parts_from n inner rest st (atom t after) = part_then rest (quantified n t after)
  parts_from n inner rest st (bare t after) = part_then rest (Ok (t, after))
  parts_from n inner rest st (inside opening start) = part_then rest (do
    (branches, end) ← inner start
    (whole, after) ← closed opening branches end
    quantified n whole after)
  parts_from n inner rest st (asserts how lead test start) = part_then rest (do
    (branches, end) ← inner start
    (found, after) ← closed test branches end
    (others, last) ← inner after
    (whole, beyond) ← closed how (alternative (lead ++ found ∷ []) ∷ others) last
    quantified n whole beyond)
  parts_from n inner rest st (nothing after) = rest after
  parts_from n inner rest st over = Ok ([], st)

  -- an alternative of these parts, and those after a bar
  unfoldable pub alternatives_from : (State → Reads (List Nested)) → List Nested → State → Reads (List Nested)
  alternatives_from again parts st = next text false st >>= λ (token, after). elim token [
    | Bar ↦ barred st.bars st.at >>= λ bars. again (restarted st bars after) >>= λ (others, end). Ok
        (alternative parts ∷ others, end)
    | _ ↦ Ok (alternative parts ∷ [], st)
  ]

module _ (known : Known) (text : List ℕ) where
  -- the parts from a state on where no automatic callout is due
  unfoldable pub sequence_at : ℕ → (State → Reads (List Nested)) → (State → Reads (List Nested)) → State
      → Reads (List Nested)
  sequence_at n inner rest st = do
    (token, after) ← next text false st
    what ← beginning known text n st token after
    parts_from text n inner rest st what

  unfoldable mutual
    -- the parts up to the end of the alternative
    pub sequence : ℕ → State → Reads (List Nested)
    sequence zero st = fault 0 0
    sequence (suc n) st =
        led (automatic known.calling text st) (sequence_at n (alternatives n) (sequence n)
        (called_after (automatic known.calling text st) st))

    -- the alternatives up to the end of the group or of the pattern
    pub alternatives : ℕ → State → Reads (List Nested)
    alternatives zero st = fault 0 0
    alternatives (suc n) st = do
      (parts, end) ← sequence n st
      alternatives_from text (alternatives n) parts end

-- The top alternatives are a plain group, and end where the pattern ends.
unfoldable pub whole : List ℕ → List Nested → State → Reads Nested
whole text branches st = next text false st >>= λ (token, after). elim token [
  | End ↦ Ok (group None (row branches), st)
  | _ ↦ fault 122 st.at
]

-- `(*LIMIT_MATCH=` begins at a place
abbrev pub begins_limit : List ℕ → ℕ → Bool
begins_limit text at = begins text "(*LIMIT_MATCH=" at

-- The start items go on past one of them, and end at any other token. Of faults that of a limit that isn't well written
-- is told, any other one by the reading from there.
abbrev pub started_by : List ℕ → State → (State → Result State Fault) → Reads Token → Result State Fault
started_by text st again (Ok (Start item, after)) = again (record after { options = with_item item st.options })
started_by text st again (Ok (token, after)) = Ok st
started_by text st again (Err f) = if begins_limit text st.at then Err f else Ok st

-- the state after the start items
unfoldable pub started : List ℕ → ℕ → State → Result State Fault
started text zero st = fault 0 0
started text (suc n) st = started_by text st (started text n) (next text false st)

abbrev pub start : Options → State
start options = record {
  at = 0;
  quoting = false;
  options = options;
  groups = 0;
  depth = 0;
  looking = false;
  bars = Free;
  numbering = Onward;
  classes = [];
  names = [];
  verb_names = [];
  references = [];
  beyond = None;
  called = None;
}

-- the state in which the reading begins, after the start items
abbrev pub state_from : ℕ → Options → State
state_from at options = record {
  at = at;
  quoting = false;
  options = options;
  groups = 0;
  depth = 0;
  looking = false;
  bars = Free;
  numbering = Onward;
  classes = [];
  names = [];
  verb_names = [];
  references = [];
  beyond = None;
  called = None;
}

-- the tree from a state on and the last state, where these are the names of the whole pattern
unfoldable pub reading : Known → List ℕ → State → Reads Nested
reading known text st = do
  (branches, end) ← alternatives known text (2 * length text + 2) st
  whole text branches end

-- what a pattern is read as
pub record Parsed : Type 0 where
  pub pattern : Pattern
  pub open pattern use *
  -- in the order of the table
  pub names : List NameEntry
  -- where the references, calls, lookarounds and conditions stand, in the order in which they end
  pub places : List ℕ

-- the characters of a text: its bytes, or in UTF its code points
abbrev pub characters : Bool → List ℕ → List ℕ
characters false text = text
characters true text = chars text

-- how many bytes a character has: one, or in UTF those of its encoding
abbrev pub width : Bool → ℕ → ℕ
width false c = 1
width true c = len_utf8 c

-- AUTO_CALLOUT has a callout before an item of this place and length.
abbrev pub before_item : Options → NextItem → List Nested
before_item options item =
    if options.auto_callout then callout_of 255 0 0 (item.at, item.len) ∷ [] else []

-- a character that stands for itself
abbrev pub spelt : Options → ℕ → Nested
spelt options c = one (Char c options.caseless)

-- characters from a place on, each of them an item
abbrev pub spelling : Options → ℕ → List ℕ → List Nested
spelling options at [] = []
spelling options at (c ∷ cs) =
    let len = width options.utf c in
    before_item options (record { at = at; len = len })
    ++ spelt options c ∷ spelling options (at + len) cs

-- The characters of a text, after which the last automatic callout stands.
abbrev pub literal_parts : Options → List ℕ → List Nested
literal_parts options text =
    spelling options 0 (characters options.utf text)
    ++ before_item options (record { at = length text; len = 0 })

-- under LITERAL each character stands for itself
unfoldable pub literally : Options → List ℕ → Parsed
literally options text = record {
  pattern = record {
    options = options;
    tree = group None (row (alternative (literal_parts options text) ∷ []));
    groups = 0;
    classes = [];
    verb_names = [];
  };
  names = [];
  places = [];
}

-- No test may ask for a call of a group whose number is too big, and the references and calls of what was read must
-- name groups.
abbrev pub checked : Options → Option ℕ → Option ℕ → Nested → State → Result Parsed Fault
checked options (Some beyond) bad tree last = fault 161 beyond
checked options None (Some at) tree last = fault 115 at
checked options None None tree last = Ok (record {
  pattern = record {
    options = options;
    tree = tree;
    groups = last.groups;
    classes = last.classes;
    verb_names = last.verb_names;
  };
  names = last.names;
  places = map (λ r. r.at) last.references;
})

-- The names are read first, since a reference may stand before the group that has its name.
unfoldable pub read_from : Bool → List ℕ → State → Result Parsed Fault
read_from calling text st = do
  (first, named) ← reading (record { names = []; calling = calling }) text st
  (tree, last) ← reading (record { names = named.names; calling = calling }) text st
  checked st.options last.beyond (missing last.groups last.references) tree last

-- in UTF the text must be UTF-8: fault -3 at the end of its longest part that is (pcre2unicode, "Validity of UTF
-- strings")
abbrev pub in_utf8 : Bool → List ℕ → Result Parsed Fault → Result Parsed Fault
in_utf8 utf text r =
    if utf && not (is_utf8 text) then Err (record { number = negsuc 2; at = utf8_valid_len text }) else r

-- First the size is tested, then the start items are read, then UTF-8 is tested; then the first fault from the left is
-- told, and last the leftmost reference to no group.
unfoldable pub read_with : Bool → Options → List ℕ → Result Parsed Fault
read_with calling options text =
    if nat_lt 65536 (length text) then fault 120 0
    else if options.literal then in_utf8 options.utf text (Ok (literally options text))
    else (started text (length text + 1) (start options) >>= λ st. in_utf8 st.options.utf text
    (read_from calling text st))

-- what a pattern is read as, with its callouts
unfoldable pub read : Options → List ℕ → Result Parsed Fault
read options text = read_with true options text
