-- The bytes that a match can begin with, as the start optimisations use them (pcre2api, "Option bits for
-- pcre2_compile()", PCRE2_NO_START_OPTIMIZE).
use Rattle.std.specs.Prelude.{ℕ, zero, Bool, true, false, ◌||◌, ◌&&◌, ◌==◌, nat_lt, nat_le, List, [], ◌∷◌, Option}
use Rattle.std.specs.Prelude.{Some, None, encode_utf8}
use Rattle.std.specs.List.{list_any}
use Rattle.std.specs.Int.{is_in_range}
use Rattle.pat_tree.specs.declared.nodes.Item.{Item}
use Rattle.pat_tree.specs.declared.nodes.Item.TheVariants.{Char, AnyAll, NotNewline, Class}
use Rattle.pat_tree.specs.Nested.{Nested, Row, Test, Other, empty, one, line_break, seq, group, repeat, one_repeat}
use Rattle.pat_tree.specs.Nested.{atomic, look, condition, call, ref, anchor, keep_out, verb, callout, none, more}
use Rattle.pat_tree.specs.Nested.{any_set, in_call, in_call_of, never, assert, called, no_other, other}
use Rattle.byte_lanes.specs.declared.line_end.EndKind.{EndKind}
use Rattle.byte_lanes.specs.Newlines.{newline_texts, newline_len}
use Rattle.uni_text.specs.Ascii.{ascii_fold}
use Rattle.pat_lengths.specs.Nodes.{has_accept}

-- the first bytes, and whether the tree may be passed without one
pub record Lead : Type 0 where
  pub has : ℕ → Bool
  pub passing : Bool

-- of a tree of which it is known
abbrev pub SomeLead : Type 0
SomeLead = Option Lead

abbrev pub no_byte : ℕ → Bool
no_byte b = false

abbrev pub passes : SomeLead
passes = Some (record { has = no_byte; passing = true })

abbrev pub begins : (ℕ → Bool) → SomeLead
begins has = Some (record { has = has; passing = false })

-- the second begins the text where the first is passed
abbrev pub then_lead : SomeLead → SomeLead → SomeLead
then_lead None y = None
then_lead (Some a) y = elim a.passing [ true ↦ after a y | false ↦ Some a ]
  where
    after : Lead → SomeLead → SomeLead
    after a None = None
    after a (Some b) = Some (record { has = λ c. a.has c || b.has c; passing = b.passing })

-- one of both begins it
abbrev pub either_lead : SomeLead → SomeLead → SomeLead
either_lead (Some a) (Some b) = Some (record { has = λ c. a.has c || b.has c; passing = a.passing || b.passing })
either_lead _ _ = None

abbrev pub repeated_lead : ℕ → Option ℕ → SomeLead → SomeLead
repeated_lead low (Some zero) x = passes
repeated_lead zero high (Some a) = Some (record { has = a.has; passing = true })
repeated_lead _ _ x = x

-- In UTF or not, the texts of a newline and of `\R`, what the classes hold of, and the folding in UTF.
module _ (utf : Bool) (newlines breaks : EndKind) (class_has : ℕ → ℕ → Bool) (fold : ℕ → ℕ) where
  -- a character has an encoding
  abbrev pub is_encoded : ℕ → Bool
  is_encoded c = elim utf [ true ↦ nat_lt c 0xD800 || is_in_range 0xE000 0x10_FFFF c | false ↦ nat_lt c 256 ]

  abbrev pub encoding : ℕ → List ℕ
  encoding c =
      elim (is_encoded c) [ true ↦ elim utf [ true ↦ encode_utf8 c | false ↦ c ∷ [] ] | false ↦ [] ]

  abbrev pub begins_with : ℕ → List ℕ → Bool
  begins_with b [] = false
  begins_with b (c ∷ cs) = c == b

  abbrev pub fold_of : ℕ → ℕ
  fold_of c = elim utf [ true ↦ fold c | false ↦ ascii_fold c ]

  -- the item takes the byte as a character
  abbrev pub takes_byte : Item → ℕ → Bool
  takes_byte (Char c true) b = fold_of c == fold_of b
  takes_byte (Char c false) b = c == b
  takes_byte AnyAll b = true
  takes_byte NotNewline b = newline_len newlines (b ∷ []) 0 == 0
  takes_byte (Class n) b = class_has n b

  -- the bytes that the characters begin with that an item takes: in UTF all bytes past ASCII
  abbrev pub item_lead : Item → ℕ → Bool
  item_lead (Char c false) b = begins_with b (encoding c)
  item_lead item b = utf && nat_le 128 b || takes_byte item b

  abbrev pub break_lead : ℕ → Bool
  break_lead b = list_any (begins_with b) (newline_texts breaks)

  unfoldable mutual
    pub lead : Nested → SomeLead
    lead empty = passes
    lead (one item) = begins (item_lead item)
    lead line_break = begins break_lead
    lead (seq ts) = lead_in_turn ts
    lead (group number ts) = lead_of_one ts
    lead (repeat t low high lazily) = repeated_lead low high (lead t)
    lead (one_repeat item low high lazily) = repeated_lead low high (begins (item_lead item))
    lead (atomic ts) = lead_of_one ts
    lead (look ahead positive once ts) = passes
    lead (condition test first second) = lead_of_test test (either_lead (lead first) (lead_of_other second))
    lead (call n) = None
    lead (ref ns caseless) = None
    lead (anchor a) = passes
    lead keep_out = passes
    lead (verb v) = passes
    lead (callout c) = passes

    pub lead_in_turn : Row → SomeLead
    lead_in_turn none = passes
    lead_in_turn (more t ts) = then_lead (lead t) (lead_in_turn ts)

    -- without a branch no byte begins it, and nothing passes it
    pub lead_of_one : Row → SomeLead
    lead_of_one none = begins no_byte
    lead_of_one (more t ts) = either_lead (lead t) (lead_of_one ts)

    pub lead_of_other : Other → SomeLead
    lead_of_other no_other = passes
    lead_of_other (other t) = lead t

    -- a definition is passed
    pub lead_of_test : Test → SomeLead → SomeLead
    lead_of_test never x = passes
    lead_of_test (any_set ns) x = x
    lead_of_test in_call x = x
    lead_of_test (in_call_of ns) x = x
    lead_of_test (assert ahead positive once ts) x = x
    lead_of_test (called c test) x = x

  -- the bytes that every match begins with, where they are known and a match takes one
  abbrev pub lead_set : Nested → Option (ℕ → Bool)
  lead_set t = elim (has_accept t) [ true ↦ None | false ↦ of_lead (lead t) ]
    where
      of_lead : SomeLead → Option (ℕ → Bool)
      of_lead None = None
      of_lead (Some a) = elim a.passing [ true ↦ None | false ↦ Some a.has ]
