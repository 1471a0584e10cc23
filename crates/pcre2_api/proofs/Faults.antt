-- The numbers and the places of the faults of patterns.
use Rattle.std.proofs.Common.{◌≡◌, ◌⊎◌, inl, inr, ℕ, ℤ, pos, negsuc, zero, suc, ◌≤◌, Bool, true, false, ◌||◌, ◌==◌}
use Rattle.std.proofs.Common.{nat_le, List, [], ◌∷◌, ◌++◌, length, Option, Some, None, IsTrue, Result, Ok}
use Rattle.std.proofs.Common.{refl, sym}
use Rattle.std.proofs.Common.{ap, ◌∙◌, subst, arith}
use Rattle.std.proofs.lemmas.Bool.Decides.{nat_tests}
use Rattle.std.specs.List.{AllByRecursion, list_any}
use Rattle.std.specs.Option.{option_or}
use Rattle.pat_tree.specs.declared.nodes.Node.{Node}
use Rattle.pat_tree.specs.declared.nodes.Node.TheVariants as node
use Rattle.pat_tree.specs.declared.nodes.Placed.{Placed}
use Rattle.pat_tree.specs.declared.options.Options.{Options}
use Rattle.pat_tree.specs.Parts.{TreeParts}
use Rattle.pat_build.specs.Reading.{read}
use Rattle.pat_build.specs.Places.{numbers, is_listed, IsListed, IsInText}
use Rattle.pat_build.specs.Nodes.{parsed_of}
use Rattle.pat_build.specs.pat_grammar.Laws.{ReadingsAreBounded}
use Rattle.pat_build.specs.pat_grammar.declared.error.ReadError.{ReadError}
use Rattle.pat_build.specs.pat_grammar.declared.error.ReadError.TheVariants as reading
use Rattle.pat_check.specs.Known.{IsCheckError}
use Rattle.pat_check.specs.declared.facts.CheckError.{CheckError}
use Rattle.pat_check.specs.declared.facts.CheckError.TheVariants as checking
use Rattle.node_flow.specs.Order.{order}
use Rattle.pat_lengths.specs.Lengths.{SomeLengths, counted, too_long, differing, too_different, branch_fault}
use Rattle.pat_lengths.specs.Backs.{behind_branches, placed_at, fault_from, lengths_at, fault_among, fault_of_node}
use Rattle.pat_lengths.specs.Backs.{fault_in, first_fault}
use Rattle.pat_lengths.specs.Lookbehinds.{place_in, places_of}
use Rattle.pat_lengths.specs.declared.backs.LengthFault.{LengthFault}
use Rattle.pcre2_errors.specs.CompileErrors.{check_error_of, compile_error_of}
use Rattle.pcre2_errors.specs.FaultTexts.{table, is_fault}
use Rattle.pcre2_api.specs.Compiled.{HasNumber, IsInPattern}
use Rattle.pcre2_api.proofs.Behind.{places_are}

-- Numbers.

every : List ℕ → Bool
every [] = true
every (m ∷ ms) = elim (is_fault (pos m)) [ true ↦ every ms | false ↦ false ]

every_first : (m : ℕ) (ms : List ℕ) → every (m ∷ ms) ≡ true → IsTrue (is_fault (pos m)) × (every ms ≡ true)
unfolding every
every_first m ms h =
    elim (is_fault (pos m)) as (λ b. elim b [ true ↦ every ms | false ↦ false ] ≡ true → IsTrue b × (every ms ≡ true)) [
      | true ↦ λ e. (refl, e)
      | false ↦ λ e. absurd cc
    ] h

same_number : (m n : ℕ) → (m == n) ≡ true → m ≡ n
same_number m n h = grind (arith, nat_tests)

faults_among : (n : ℕ) (ms : List ℕ) → every ms ≡ true → list_any (λ m. m == n) ms ≡ true → IsTrue (is_fault (pos n))
faults_among n [] h any = absurd cc
faults_among n (m ∷ ms) h any =
    let both = every_first m ms h in
    elim (m == n) as (λ b. (m == n) ≡ b → (b || list_any (λ m. m == n) ms) ≡ true → IsTrue (is_fault (pos n))) [
      | true ↦ λ is e. subst (λ k. IsTrue (is_fault (pos k))) (same_number m n is) both.0
      | false ↦ λ is e. faults_among n ms both.1 e
    ] refl any

listed_is_fault : (number : ℤ) → IsTrue (is_listed number) → IsTrue (is_fault number)
unfolding every
listed_is_fault (pos n) h = faults_among n numbers refl h
listed_is_fault (negsuc n) h = h

pub read_number : (e : ReadError) → IsListed e → HasNumber (compile_error_of e)
read_number (reading.Bad number at) h = listed_is_fault number h
read_number reading.Memory h = tt

pub read_place : (text : List ℕ) (e : ReadError) → IsInText text e → IsInPattern text (compile_error_of e)
read_place text (reading.Bad number at) h = h
read_place text reading.Memory h = tt

-- Lookbehinds.

some_is : {A : Type 0} {a b : A} → Some a ≡ Some b → a ≡ b
some_is h = cc

long_number : (k n : ℕ) → too_long k ≡ Some n → IsTrue (is_fault (pos n))
long_number k n h =
    elim (nat_le k 65535) as (λ b. elim b [ true ↦ (let o : Option ℕ = None in o) | false ↦ Some 187 ] ≡ Some n
    → IsTrue (is_fault (pos n))) [
      | true ↦ λ e. absurd cc
      | false ↦ λ e. subst (λ k. IsTrue (is_fault (pos k))) (some_is e) refl
    ] h

different_number : (k n : ℕ) → too_different k ≡ Some n → IsTrue (is_fault (pos n))
different_number k n h =
    elim (nat_le k differing) as (λ b. elim b [ true ↦ (let o : Option ℕ = None in o) | false ↦ Some 187 ] ≡ Some n
    → IsTrue (is_fault (pos n))) [
      | true ↦ λ e. absurd cc
      | false ↦ λ e. subst (λ k. IsTrue (is_fault (pos k))) (some_is e) refl
    ] h

most_number : (least : ℕ) (most : Option ℕ) (n : ℕ)
    → branch_fault (Some (record { least = least; most = most })) ≡ Some n → IsTrue (is_fault (pos n))
most_number least None n h = subst (λ k. IsTrue (is_fault (pos k))) (some_is h) refl
most_number least (Some most) n h =
    elim (counted least == counted most) as (λ b. elim b [
      | true ↦ too_long (counted most)
      | false ↦ too_different (counted most)
    ] ≡ Some n → IsTrue (is_fault (pos n))) [
      | true ↦ λ e. long_number (counted most) n e
      | false ↦ λ e. different_number (counted most) n e
    ] h

branch_number : (a : SomeLengths) (n : ℕ) → branch_fault a ≡ Some n → IsTrue (is_fault (pos n))
branch_number None n h = subst (λ k. IsTrue (is_fault (pos k))) (some_is h) refl
branch_number (Some a) n h = most_number a.least a.most n h

or_is : {A : Type 0} (a b : Option A) (x : A) → option_or a b ≡ Some x → (a ≡ Some x) ⊎ (b ≡ Some x)
or_is None b x h = inr h
or_is (Some y) b x h = inl h

record Told (f : LengthFault) (place : ℕ) : Type 0 where
  number : IsTrue (is_fault f.number)
  at : f.at ≡ place

from_told : (at : ℕ) (o : Option ℕ) (f : LengthFault) → fault_from at o ≡ Some f
    → ((n : ℕ) → o ≡ Some n → IsTrue (is_fault (pos n))) → Told f at
from_told at None f h each = absurd cc
from_told at (Some n) f h each =
    subst (λ f. Told f at) (some_is h) (record { number = each n refl; at = refl })

module _ (text : List ℕ) (tree : TreeParts) where
  among_told : (at : ℕ) (ks : List ℕ) (f : LengthFault) → fault_among tree at ks ≡ Some f → Told f at
  among_told at [] f h = absurd cc
  among_told at (k ∷ ks) f h =
      elim (or_is (fault_from at (branch_fault (lengths_at tree k))) (fault_among tree at ks) f h) [
        | inl e ↦ from_told at (branch_fault (lengths_at tree k)) f e (λ n is. branch_number (lengths_at tree k) n is)
        | inr e ↦ among_told at ks f e
      ]

  all_parts : (xs ys : List ℕ) → AllByRecursion (λ at. at ≤ length text) (xs ++ ys)
      → AllByRecursion (λ at. at ≤ length text) xs × AllByRecursion (λ at. at ≤ length text) ys
  all_parts [] ys h = (tt, h)
  all_parts (x ∷ xs) ys h = let later = all_parts xs ys h.1 in ((h.0, later.0), later.1)

  here_inside : (n : Node) (at k : ℕ) (ks : List ℕ) → behind_branches n ≡ k ∷ ks
      → AllByRecursion (λ at. at ≤ length text) (place_in (record { node = n; at = at })) → at ≤ length text
  here_inside (node.Look ahead positive once branches) at k ks some h = h.0
  here_inside _ at k ks some h = absurd cc

  node_inside : (ps : List Placed) (i k : ℕ) (ks : List ℕ) → AllByRecursion (λ at. at ≤ length text) (places_of ps)
      → behind_branches (placed_at ps i).node ≡ k ∷ ks → (placed_at ps i).at ≤ length text
  node_inside [] i k ks h some = absurd cc
  node_inside (p ∷ ps) zero k ks h some = here_inside p.node p.at k ks some (all_parts (place_in p) (places_of ps) h).0
  node_inside (p ∷ ps) (suc i) k ks h some = node_inside ps i k ks (all_parts (place_in p) (places_of ps) h).1 some

  record Stands (f : LengthFault) : Type 0 where
    number : IsTrue (is_fault f.number)
    at : f.at ≤ length text

  module _ (inside : AllByRecursion (λ at. at ≤ length text) (places_of tree.nodes)) where
    of_node : (i : ℕ) (ks : List ℕ) (f : LengthFault) → behind_branches (placed_at tree.nodes i).node ≡ ks
        → fault_among tree (placed_at tree.nodes i).at ks ≡ Some f → Stands f
    of_node i [] f some h = absurd cc
    of_node i (k ∷ ks) f some h =
        let told = among_told (placed_at tree.nodes i).at (k ∷ ks) f h in
        record {
          number = told.number;
          at = subst (λ at. at ≤ length text) (sym told.at) (node_inside tree.nodes i k ks inside some);
        }

    in_order : (is : List ℕ) (f : LengthFault) → fault_in tree is ≡ Some f → Stands f
    in_order [] f h = absurd cc
    in_order (i ∷ is) f h =
        elim (or_is (fault_of_node tree (placed_at tree.nodes i)) (fault_in tree is) f h) [
          | inl e ↦ of_node i (behind_branches (placed_at tree.nodes i).node) f refl e
          | inr e ↦ in_order is f e
        ]

  check_stands : ReadingsAreBounded → (options : Options) → read options text ≡ Ok (parsed_of tree)
      → (f : LengthFault) → first_fault tree ≡ Some f → Stands f
  check_stands law options is f found =
      let places = (law options text (parsed_of tree) is).places in
      in_order (subst (AllByRecursion (λ at. at ≤ length text)) (places_are tree.nodes) places)
      (order tree.nodes tree.root) f found

  module _ (law : ReadingsAreBounded) (options : Options) (is : read options text ≡ Ok (parsed_of tree)) where
    pub check_number : (e : CheckError) → IsCheckError (first_fault tree) e → HasNumber (check_error_of e)
    check_number (checking.Bad number at) h =
        (check_stands law options is (record { number = number; at = at }) h).number
    check_number checking.Memory h = tt

    pub check_place : (e : CheckError) → IsCheckError (first_fault tree) e → IsInPattern text (check_error_of e)
    check_place (checking.Bad number at) h = (check_stands law options is (record { number = number; at = at }) h).at
    check_place checking.Memory h = tt
