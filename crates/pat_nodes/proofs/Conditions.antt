-- Conditional groups as nodes.
use Rattle.std.proofs.Common.{◌≡◌, ◌<◌, ℕ, zero, suc, List, [], ◌∷◌, length, slice_get, Option, Some, refl, arith, ◌++◌}
use Rattle.pat_tree.specs.Nested.{Nested, any_set, in_call_of, cond_of}
use Rattle.pat_tree.specs.Rules.{tests_of, defines}
use Rattle.pat_tree.specs.Refs.{named_in}
use Rattle.pat_nodes.specs.declared.frames.Test.{Test}
use Rattle.pat_nodes.specs.declared.frames.Test.TheVariants.{AnySet, InCall, InCallOf}
use Rattle.pat_grammar.specs.Groups.{called_by, groups_in, Form, asserting}
use Rattle.pat_nodes.specs.Nodes.{test_of, cond_in, HasTest}

pub tests_none : (test : Test) → tests_of (cond_in test) ≡ []
tests_none (AnySet groups) = refl
tests_none InCall = refl
tests_none (InCallOf groups) = refl

pub cond_same : (trees : List Nested) (test : Test) → cond_of trees (cond_in test) ≡ test_of test
cond_same trees (AnySet groups) = refl
cond_same trees InCall = refl
cond_same trees (InCallOf groups) = refl

pub named_same : (test : Test) → named_in (cond_in test) ≡ groups_in (test_of test)
named_same (AnySet groups) = refl
named_same InCall = refl
named_same (InCallOf groups) = refl

pub defines_none : (test : Test) (no' : Option ℕ) → defines (cond_in test) no'
defines_none (AnySet groups) no' = tt
defines_none InCall no' = tt
defines_none (InCallOf groups) no' = tt

pub one_get : (xs : List ℕ) (x : ℕ) → length xs ≡ 1 → slice_get xs 0 ≡ Some x → xs ≡ x ∷ []
one_get [] x h is = absurd (omega (arith, h))
one_get (y ∷ []) x h is = cc
one_get (y ∷ z ∷ zs) x h is = absurd (omega (arith, h))

pub two_get : (xs : List ℕ) (x y : ℕ) → length xs ≡ 2 → slice_get xs 0 ≡ Some x → slice_get xs 1 ≡ Some y
    → xs ≡ x ∷ y ∷ []
two_get [] x y h is is' = absurd (omega (arith, h))
two_get (a ∷ []) x y h is is' = absurd (omega (arith, h))
two_get (a ∷ b ∷ []) x y h is is' = cc
two_get (a ∷ b ∷ c ∷ cs) x y h is is' = absurd (omega (arith, h))

pub called_zero : (ns : List ℕ) (n : ℕ) → slice_get ns 0 ≡ Some n → n ≡ 0 → called_by ns ≡ any_set ns
called_zero [] n is none = absurd (cc)
called_zero (zero ∷ ns) n is none = refl
called_zero (suc m ∷ ns) n is none = absurd (cc)

pub called_some : (ns : List ℕ) (n : ℕ) → slice_get ns 0 ≡ Some n → 0 < n → called_by ns ≡ in_call_of ns
called_some [] n is some = refl
called_some (zero ∷ ns) n is some = let same : 0 ≡ n = cc in absurd (omega (arith, same))
called_some (suc m ∷ ns) n is some = refl

pub three_get : (xs : List ℕ) (x y z : ℕ) → length xs ≡ 3 → slice_get xs 0 ≡ Some x → slice_get xs 1 ≡ Some y
    → slice_get xs 2 ≡ Some z → xs ≡ x ∷ y ∷ z ∷ []
three_get [] x y z h a b c = absurd (omega (arith, h))
three_get (d ∷ []) x y z h a b c = absurd (omega (arith, h))
three_get (d ∷ e ∷ []) x y z h a b c = absurd (omega (arith, h))
three_get (d ∷ e ∷ f ∷ []) x y z h a b c = cc
three_get (d ∷ e ∷ f ∷ g ∷ gs) x y z h a b c = absurd (omega (arith, h))

pub has_push : (form : Form) (ts : List Nested) (t : Nested) → HasTest form ts → HasTest form (ts ++ t ∷ [])
has_push asserting [] t h = absurd h
has_push asserting (x ∷ ts) t h = h
has_push _ ts t h = tt
