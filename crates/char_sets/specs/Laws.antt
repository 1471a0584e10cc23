-- A law on classes.
use Rattle.std.specs.Prelude.{◌≡◌, ℕ, Bool, ◌↔◌, true, false, IsTrue}
use Rattle.std.specs.Int.{IsInRange}
use Rattle.pat_tree.specs.declared.nodes.Part.TheVariants.{Range}
use Rattle.uni_text.specs.Ascii.{ascii_fold}
use Rattle.uni_text.specs.Folding.{fold}
use Rattle.char_sets.specs.Sets.{part_has}

-- simple folding in UTF, else that of ASCII's letters alone
abbrev pub folding : Bool → ℕ → ℕ
folding false c = ascii_fold c
folding true c = fold c

-- in a class that takes any case, a range holds of c where a character of the same folding lies in it
abbrev pub RangesFold : Type 0
RangesFold = (utf : Bool) (from to c : ℕ) →
    IsTrue (part_has utf true (Range from to) c) ↔ ((d : ℕ) × IsInRange from to d × (folding utf d ≡ folding utf c))
