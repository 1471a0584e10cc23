-- First bytes as they are kept, beside the definition of them.
use Rattle.std.specs.Prelude.{◌≡◌, ℕ, ◌<◌, Bool, true, false, ◌==◌, List, [], ◌∷◌, All, length, Option, Some, None}
use Rattle.std.specs.Prelude.{slice_index_or}
use Rattle.byte_lanes.specs.Sets.{has_byte}
use Rattle.byte_lanes.specs.declared.line_end.EndKind.TheVariants as kind
use Rattle.pat_tree.specs.declared.nodes.Item.{Item}
use Rattle.pat_tree.specs.declared.nodes.Item.TheVariants.{Char}
use Rattle.uni_text.specs.Folding.{fold}
use Rattle.pat_tree.specs.declared.nodes.Cond.{Cond}
use Rattle.pat_tree.specs.declared.nodes.Cond.TheVariants.{Never}
use Rattle.pat_tree.specs.declared.options.Bsr.{Bsr}
use Rattle.pat_tree.specs.Nested.{Nested, tree_at}
use Rattle.pat_tree.specs.Newlines.{end_kind, break_kind}
use Rattle.pat_tree.specs.Parts.{TreeParts}
use Rattle.char_sets.specs.Sets.{class_has}
use Rattle.pat_check.specs.Lead.{Lead, SomeLead, lead, passes, begins, no_byte, then_lead, either_lead, takes_byte}
use Rattle.pat_check.specs.Lead.{item_lead, break_lead}
use Rattle.pat_check.specs.declared.starts.Start.{Start}

-- the bytes, and whether it is passed
pub record IsLead (start : Start) (a : Lead) : Type 0 where
  pub bytes : (b : ℕ) → b < 256 → has_byte start.bytes b ≡ a.has b
  pub passing : start.passing ≡ a.passing

abbrev pub IsSomeLead : Option Start → SomeLead → Type 0
IsSomeLead None None = Unit {0}
IsSomeLead (Some start) (Some a) = IsLead start a
IsSomeLead _ _ = ⊥

-- of parts one after the other, and of alternatives, by the first bytes of each
abbrev pub lead_of_parts : (ℕ → SomeLead) → List ℕ → SomeLead
lead_of_parts of [] = passes
lead_of_parts of (k ∷ ks) = then_lead (of k) (lead_of_parts of ks)

abbrev pub lead_of_branches : (ℕ → SomeLead) → List ℕ → SomeLead
lead_of_branches of [] = begins no_byte
lead_of_branches of (k ∷ ks) = either_lead (of k) (lead_of_branches of ks)

-- what is kept of these nodes is what they are
abbrev pub AreKept : List (Option Start) → (ℕ → SomeLead) → List ℕ → Type 0
AreKept starts of ks = All (λ k. IsSomeLead (slice_index_or starts k None) (of k)) ks

-- the folding is that of UTF, or none is asked
abbrev pub FoldsIn : Bool → (ℕ → ℕ) → Type 0
FoldsIn false folding = Unit {0}
FoldsIn true folding = (c : ℕ) → folding c ≡ fold c

-- the first bytes of a part of a tree, by the folding in UTF
abbrev pub lead_in : TreeParts → (ℕ → ℕ) → Nested → SomeLead
lead_in tree folding t =
    let utf = tree.options.utf in
    lead utf (end_kind tree.options.newline utf) (break_kind tree.options.bsr utf) (class_has tree) folding t

-- what is kept of the first nodes is what they are
abbrev pub KeepLeads : TreeParts → (ℕ → ℕ) → List Nested → List (Option Start) → Type 0
KeepLeads tree folding trees starts =
    (k : ℕ) → k < length starts → IsSomeLead (slice_index_or starts k None) (lead_in tree folding (tree_at trees k))

abbrev pub item_lead_in : TreeParts → (ℕ → ℕ) → Item → ℕ → Bool
item_lead_in tree folding item b =
    let utf = tree.options.utf in
    item_lead utf (end_kind tree.options.newline utf) (break_kind tree.options.bsr utf) (class_has tree) folding item b

-- the character takes a byte as a character
abbrev pub char_taken : Bool → (ℕ → ℕ) → ℕ → Bool → ℕ → Bool
char_taken utf folding c caseless b = takes_byte utf kind.Lf kind.Lf (λ n d. false) folding (Char c caseless) b

-- the encoding of a caseful character begins with a byte
abbrev pub char_lead : Bool → ℕ → ℕ → Bool
char_lead utf c b = item_lead utf kind.Lf kind.Lf (λ n d. false) (λ d. d) (Char c false) b

abbrev pub is_first : Option ℕ → ℕ → Bool
is_first None b = false
is_first (Some c) b = c == b

-- the bytes that `\R` begins with
abbrev pub break_lead_in : Bsr → Bool → ℕ → Bool
break_lead_in bsr utf b = break_lead utf kind.Lf (break_kind bsr utf) (λ n c. false) (λ c. c) b

-- of a condition, by the first bytes of its branches; a definition is passed
abbrev pub lead_of_second : (ℕ → SomeLead) → Option ℕ → SomeLead
lead_of_second of None = passes
lead_of_second of (Some k) = of k

abbrev pub lead_of_condition : (ℕ → SomeLead) → Cond → ℕ → Option ℕ → SomeLead
lead_of_condition of Never first second = passes
lead_of_condition of _ first second = either_lead (of first) (lead_of_second of second)

-- the bytes of a start that is known and isn't passed
abbrev pub known_set : SomeLead → Option (ℕ → Bool)
known_set None = None
known_set (Some a) = elim a.passing [ true ↦ None | false ↦ Some a.has ]
