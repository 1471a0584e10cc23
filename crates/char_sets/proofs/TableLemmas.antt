-- A table that grows by one class.
use Rattle.std.proofs.Common.{◌≡◌, ℕ, ◌<◌, ◌≤◌, ◌∷◌, ◌++◌, [], List, length, get_or, Some, ap, subst, sym, refl, ◌∙◌}
use Rattle.std.proofs.Common.{slice_get, arith, cond, true, false, nat_lt, inl, inr}
use Rattle.std.proofs.lemmas.Bool.{cases_lt}
use Rattle.std.proofs.lemmas.List.{get_or_past, get_or_default}
use Rattle.std.proofs.Math.ListN.{get_or-append}
use Rattle.std.proofs.Math.Seq.{get_or-append_seam}
use Rattle.std.proofs.lemmas.Option.{get_or_from_slice_get}
use Rattle.pat_tree.specs.declared.nodes.ClassSpec.{ClassSpec}
use Rattle.pat_tree.specs.Parts.{TreeParts}
use Rattle.char_sets.specs.Sets.{takes, class_has, no_class}
use Rattle.byte_lanes.specs.Sets.{has_byte}
use Rattle.char_sets.specs.Table.{CharSet, char_in, table_has, no_chars, IsTableOf}

-- a class that was there is found as before
pub table_has-before : (old : List CharSet) (e : CharSet) (class c : ℕ) → class < length old
    → table_has (old ++ e ∷ []) class c ≡ table_has old class c
unfolding table_has
table_has-before old e class c l = ap (λ s. char_in s c) (get_or-append old (e ∷ []) no_chars class l)

-- and so is the new one
pub table_has-newest : (old : List CharSet) (e : CharSet) (id c : ℕ) → length old ≡ id
    → table_has (old ++ e ∷ []) id c ≡ char_in e c
unfolding table_has
table_has-newest old e id c count = subst (λ k. char_in (get_or (old ++ e ∷ []) k no_chars) c ≡ char_in e c) count
    (ap (λ s. char_in s c) (get_or-append_seam old e [] no_chars))

pub class_has-found : (tree : TreeParts) (id c : ℕ) (class : ClassSpec) → slice_get tree.classes id ≡ Some class
    → class_has tree id c ≡ takes tree.options.utf class c
unfolding class_has
class_has-found tree id c class is = ap (λ s. takes tree.options.utf s c)
    (get_or_from_slice_get tree.classes id class no_class is)

no_chars-take : (c : ℕ) → char_in no_chars c ≡ false
no_chars-take c = elim (nat_lt c 256) as (λ b. cond b (has_byte [] c) false ≡ false) [ true ↦ refl | false ↦ refl ]

-- a number of no class takes nothing
table_has-past : (table : List CharSet) (class c : ℕ) → length table ≤ class → table_has table class c ≡ false
unfolding table_has
table_has-past table class c past = ap (λ s. char_in s c) (get_or_past table class no_chars past) ∙ no_chars-take c

class_has-past : (tree : TreeParts) (class c : ℕ) → length tree.classes ≤ class → class_has tree class c ≡ false
unfolding class_has
class_has-past tree class c past = ap (λ s. takes tree.options.utf s c) (get_or_past tree.classes class no_class past)

-- a table that answers for each class of the tree answers for every number
pub IsTableOf-whole : (tree : TreeParts) (table : List CharSet) (n : ℕ) → length table ≡ n → n ≡ length tree.classes
    → ((class : ℕ) → class < n → (c : ℕ) → table_has table class c ≡ class_has tree class c) → IsTableOf tree table
IsTableOf-whole tree table n count all each = record {
  count = count ∙ all;
  answers = λ class c. elim (cases_lt class n) [
    | inl l ↦ each class l c
    | inr past ↦ table_has-past table class c (omega arith) ∙ sym (class_has-past tree class c (omega arith))
  ];
}

-- what is found of a class stands for another one that is the same
pub class_has-alike : (tree : TreeParts) (before : List CharSet) (last id : ℕ) (found entry : CharSet)
    (one other : ClassSpec) → found ≡ get_or before last found → last < length before →
    slice_get tree.classes id ≡ Some one → slice_get tree.classes last ≡ Some other → one ≡ other → entry ≡ found →
    ((c : ℕ) → table_has before last c ≡ class_has tree last c) → (c : ℕ) → char_in entry c ≡ class_has tree id c
unfolding table_has
class_has-alike tree before last id found entry one other read within is_one is_other same copy kept c =
    ap (λ s. char_in s c) (copy ∙ read ∙ get_or_default before last found no_chars within) ∙ kept c
    ∙ class_has-found tree last c other is_other ∙ ap (λ s. takes tree.options.utf s c) (sym same)
    ∙ sym (class_has-found tree id c one is_one)
