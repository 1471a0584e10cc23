-- The numbers of faults.
use Rattle.std.proofs.Common.{◌≡◌, inl, inr, ℕ, ◌≤◌, ℤ, pos, negsuc, Bool, true, false, ◌||◌, ◌==◌, List, [], ◌∷◌}
use Rattle.std.proofs.Common.{◌++◌, length, IsTrue, refl, if◌then◌else◌}
use Rattle.token_parts.specs.declared.fault.Fault.{Fault}
use Rattle.std.specs.List.{list_any}
use Rattle.token_parts.specs.Tell as own
use Rattle.token_parts.specs.Tell.{is_own}
use Rattle.pat_grammar.specs.Parts.{has_number, malformed, fault_of_look, fault_of_test}
use Rattle.pat_grammar.specs.Places.{later_numbers, is_listed, IsClassFault}

behind : (n : ℕ) (xs ys : List ℕ) → list_any (λ m. m == n) ys ≡ true → list_any (λ m. m == n) (xs ++ ys) ≡ true
behind n [] ys h = h
behind n (x ∷ xs) ys h =
    let later = behind n xs ys h in
    elim (x == n) as (λ b. (b || list_any (λ m. m == n) (xs ++ ys)) ≡ true) [ true ↦ refl | false ↦ later ]

-- those of a token are listed
pub own_listed : (number : ℤ) → IsTrue (is_own number) → IsTrue (is_listed number)
own_listed (pos n) h = behind n later_numbers own.numbers h
own_listed (negsuc n) h = absurd cc

-- and so are those in a class
pub class_listed : (number : ℤ) → IsClassFault number → IsTrue (is_listed number)
class_listed number (inl own) = own_listed number own
class_listed number (inr (inl is)) = rw is refl
class_listed number (inr (inr (inl is))) = rw is refl
class_listed number (inr (inr (inr (inl is)))) = rw is refl
class_listed number (inr (inr (inr (inr is)))) = rw is refl

-- those that are told where a lookaround has to be
module _ (at : ℕ) (f : Fault) where
  pub look_listed : IsTrue (is_own f.number) → IsTrue (is_listed (fault_of_look at f).number)
  look_listed own =
      elim (has_number 118 f.number) as (λ b. IsTrue (is_listed (if b then f else malformed at).number))
      [ true ↦ own_listed f.number own | false ↦ refl ]

  pub test_listed : IsTrue (is_own f.number) → IsTrue (is_listed (fault_of_test at f).number)
  test_listed own =
      elim (has_number 138 f.number) as (λ b. IsTrue (is_listed (if b then f else fault_of_look at f).number))
      [ true ↦ own_listed f.number own | false ↦ look_listed own ]

  module _ (text : List ℕ) (inside : at ≤ length text) (there : f.at ≤ length text) where
    pub look_inside : (fault_of_look at f).at ≤ length text
    look_inside = elim (has_number 118 f.number) as (λ b. (if b then f else malformed at).at ≤ length text)
        [ true ↦ there | false ↦ inside ]

    pub test_inside : (fault_of_test at f).at ≤ length text
    test_inside = elim (has_number 138 f.number) as (λ b. (if b then f else fault_of_look at f).at ≤ length text)
        [ true ↦ there | false ↦ look_inside ]
