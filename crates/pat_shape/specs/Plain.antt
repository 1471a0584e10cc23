-- Trees whose shapes match nowhere but where their searches get.
use Rattle.std.specs.Prelude.{◌≡◌, ℕ, Bool, true, false, ◌&&◌, ◌||◌, nat_lt, nat_le, List, Option, Some, None}
use Rattle.pat_tree.specs.declared.nodes.Item.{Item}
use Rattle.pat_tree.specs.declared.nodes.Item.TheVariants.{NotNewline}
use Rattle.pat_tree.specs.declared.options.Options.{Options}
use Rattle.pat_tree.specs.declared.options.MatchOptions.{MatchOptions}
use Rattle.pat_tree.specs.declared.options.Newline.TheVariants.{Lf}
use Rattle.pat_tree.specs.Nested.{Nested, Row, empty, one, seq, group, repeat, one_repeat, none, more, tree_at}
use Rattle.pat_lengths.specs.Passing.{flagged}

-- so many rounds are kept as they are
abbrev pub are_few : ℕ → Option ℕ → Bool
are_few low None = nat_le low 200
are_few low (Some high) = nat_le low high && nat_le high 200

abbrev mutual
  -- each match of it takes something
  pub takes_some : Nested → Bool
  takes_some (one item) = true
  takes_some (seq ts) = one_takes ts
  takes_some (group number ts) = all_take ts
  takes_some (repeat t low high lazily) = nat_lt 0 low && takes_some t
  takes_some (one_repeat item low high lazily) = nat_lt 0 low
  takes_some _ = false

  pub one_takes : Row → Bool
  one_takes none = false
  one_takes (more t ts) = takes_some t || one_takes ts

  pub all_take : Row → Bool
  all_take none = true
  all_take (more t ts) = takes_some t && all_take ts

-- Outside UTF, and with `.` where no newline but LF stands in the text, which is a line.
module _ (dots : Bool) where
  abbrev pub is_plain_item : Item → Bool
  is_plain_item NotNewline = dots
  is_plain_item _ = true

  abbrev mutual
    -- items, sequences, groups, and repeats whose rounds are few and take something
    pub is_plain : Nested → Bool
    is_plain empty = true
    is_plain (one item) = is_plain_item item
    is_plain (seq ts) = are_plain ts
    is_plain (group number ts) = are_plain ts
    is_plain (repeat t low high lazily) = are_few low high && (takes_some t && is_plain t)
    is_plain (one_repeat item low high lazily) = are_few low high && is_plain_item item
    is_plain _ = false

    pub are_plain : Row → Bool
    are_plain none = true
    are_plain (more t ts) = is_plain t && are_plain ts

-- the tree of this number is plain
abbrev pub IsPlainAt : Bool → List Nested → ℕ → Type 0
IsPlainAt dots ts k = is_plain dots (tree_at ts k) ≡ true

-- each match of a marked one takes something
abbrev pub AreTaking : List Nested → List Bool → Type 0
AreTaking ts marks = (k : ℕ) → flagged marks k ≡ true → takes_some (tree_at ts k) ≡ true

-- options under which any match counts and any place is tried, outside UTF, in lines that end by LF alone
pub record IsFree (options : Options) (matching : MatchOptions) : Type 0 where
  pub bytes : options.utf ≡ false
  pub by_lf : options.newline ≡ Lf
  pub starts : (options.anchored || matching.anchored) ≡ false
  pub ends : (options.endanchored || matching.endanchored) ≡ false
  pub further : options.firstline ≡ false
  pub some : (options.notempty || matching.notempty) ≡ false
  pub there : (options.notempty_atstart || matching.notempty_atstart) ≡ false
