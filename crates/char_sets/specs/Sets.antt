-- Which characters a class takes (pcre2pattern, "Square brackets and character classes", "Generic character types",
-- "POSIX character classes" and "Unicode character properties"). Each named set is the row of its name in `uni_text`.
use Rattle.std.specs.Prelude.{ℕ, ◌-◌, Bool, true, false, not, ◌&&◌, ◌||◌, ◌==◌, if◌then◌else◌, List, [], ◌∷◌, Option}
use Rattle.std.specs.Prelude.{Some, None, slice_index_or}
use Rattle.std.specs.Int.{is_in_range}
use Rattle.std.specs.List.{list_any}
use Rattle.ucd_case.specs.CaseFolding.{fold_pairs}
use Rattle.pat_tree.specs.declared.nodes.SetName.{SetName}
use Rattle.pat_tree.specs.declared.nodes.SetName.TheVariants.{Digit, Space, Word, Alpha, Alnum, Lower, Upper, Blank}
use Rattle.pat_tree.specs.declared.nodes.SetName.TheVariants.{Cntrl, Graph, Print, Punct, Ascii, Xdigit, H, V}
use Rattle.pat_tree.specs.declared.nodes.SetName.TheVariants.{Property}
use Rattle.pat_tree.specs.declared.nodes.Part.{Part}
use Rattle.pat_tree.specs.declared.nodes.Part.TheVariants.{Range, Set}
use Rattle.pat_tree.specs.declared.nodes.ClassSpec.{ClassSpec}
use Rattle.pat_tree.specs.Parts.{TreeParts}
use Rattle.uni_text.specs.declared.properties.Prop.{Prop}
use Rattle.uni_text.specs.Ascii.{is_letter, ascii_fold}
use Rattle.uni_text.specs.Properties.{has_prop, prop_by_number, is_horizontal, is_vertical}
use Rattle.uni_text.specs.Sets as named

-- a number of no property holds of nothing
abbrev pub property_has : Option Prop → ℕ → Bool
property_has None c = false
property_has (Some p) c = has_prop p c

-- a set, with UCP or without
abbrev pub set_has : Bool → SetName → ℕ → Bool
set_has ucp Digit c = named.digit ucp c
set_has ucp Space c = named.space ucp c
set_has ucp Word c = named.word ucp c
set_has ucp Alpha c = named.alpha ucp c
set_has ucp Alnum c = named.alnum ucp c
set_has ucp Lower c = named.lower ucp c
set_has ucp Upper c = named.upper ucp c
set_has ucp Blank c = named.blank ucp c
set_has ucp Cntrl c = named.cntrl ucp c
set_has ucp Graph c = named.graph ucp c
set_has ucp Print c = named.print ucp c
set_has ucp Punct c = named.punct ucp c
set_has ucp Ascii c = named.ascii c
set_has ucp Xdigit c = named.xdigit c
set_has ucp H c = is_horizontal c
set_has ucp V c = is_vertical c
set_has ucp (Property n) c = property_has (prop_by_number n) c

-- in a class that takes any case, lower and upper are alpha
abbrev pub any_case : SetName → SetName
any_case Lower = Alpha
any_case Upper = Alpha
any_case set = set

-- outside UTF the characters with the same folding as c are the two cases of an ASCII letter, and else c alone
abbrev pub two_cases : ℕ → List ℕ
two_cases c = if is_letter c then ascii_fold c ∷ (ascii_fold c - 32) ∷ [] else c ∷ []

-- in UTF the pairs of characters with one simple folding tell it: some other character with the folding of c lies in
-- the range
abbrev pub other_has : List (ℕ × ℕ) → ℕ → ℕ → ℕ → Bool
other_has pairs from to c = list_any (λ (pair : ℕ × ℕ). pair.0 == c && is_in_range from to pair.1) pairs

-- some character with the folding of c lies in the range, in UTF or outside it
abbrev pub folded_has : Bool → ℕ → ℕ → ℕ → Bool
folded_has false from to c = list_any (is_in_range from to) (two_cases c)
folded_has true from to c = is_in_range from to c || other_has fold_pairs from to c

-- a range, in a class that takes any case or does not
abbrev pub range_has : Bool → Bool → ℕ → ℕ → ℕ → Bool
range_has utf false from to c = is_in_range from to c
range_has utf true from to c = folded_has utf from to c

-- a part of a class, which takes any case or does not
abbrev pub part_has : Bool → Bool → Part → ℕ → Bool
part_has utf caseless (Range from to) c = range_has utf caseless from to c
part_has utf caseless (Set set reversed ucp) c =
    let inside = set_has ucp (if caseless then any_case set else set) c in
    if reversed then not inside else inside

-- the class takes c, in UTF or outside it: some part holds of it, or in a negated class none does
abbrev pub takes : Bool → ClassSpec → ℕ → Bool
takes utf spec c =
    let inside = list_any (λ part. part_has utf spec.caseless part c) spec.parts in
    if spec.negated then not inside else inside

abbrev pub no_class : ClassSpec
no_class = record { negated = false; caseless = false; parts = [] }

-- the class of this number in the tree takes c; a number of no class takes nothing
unfoldable pub class_has : TreeParts → ℕ → ℕ → Bool
class_has tree class c = takes tree.options.utf (slice_index_or tree.classes class no_class) c
