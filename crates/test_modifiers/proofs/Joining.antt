-- Letters that are joined, from the front on.
use Rattle.std.proofs.Common.{◌≡◌, ℕ, ◌<◌, Bool, true, false, cond, ◌&&◌, List, [], ◌∷◌, length, drop, get_or, eqb}
use Rattle.std.proofs.Common.{Option, Some, refl, ap, ◌∙◌, arith}
use Rattle.std.specs.Option.{option_map, option_and_then}
use Rattle.test_modifiers.specs.declared.modifiers.Modifiers.{Modifiers}
use Rattle.test_modifiers.specs.declared.kinds.Flag.{Flag}
use Rattle.test_modifiers.specs.declared.kinds.Flag.TheVariants as flag
use Rattle.test_modifiers.specs.Modifiers.{flag_given}
use Rattle.test_modifiers.specs.Table.{by_letter}
use Rattle.test_modifiers.specs.Lists.{begins_xx, letters_given}

and_false : (b : Bool) → (b && false) ≡ false
and_false true = refl
and_false false = refl

abbrev pair_given : Bool → List ℕ → Modifiers → Option Modifiers
pair_given p rest m = letters_given p rest (flag_given flag.ExtendedMore true m)

abbrev letter_then : Bool → List ℕ → Modifiers → Option Flag → Option Modifiers
letter_then p rest m found = option_and_then (letters_given p rest) (option_map (λ f. flag_given f true m) found)

pub letters_pair : (p : Bool) (ls : List ℕ) (m : Modifiers) → (p && begins_xx ls) ≡ true
    → letters_given p ls m ≡ letters_given p (drop 2 ls) (flag_given flag.ExtendedMore true m)
letters_pair false ls m h = cc
letters_pair true [] m h = cc
letters_pair true (c ∷ []) m h = let no : begins_xx (c ∷ []) ≡ false = and_false (eqb 120 c) in cc
letters_pair true (c ∷ d ∷ rest) m h =
    ap (λ b. cond b (pair_given true rest m) (letter_then true (d ∷ rest) m (by_letter true c))) h

pub letters_one : (p : Bool) (ls : List ℕ) (m : Modifiers) (f : Flag) → 0 < length ls → (p && begins_xx ls) ≡ false
    → by_letter p (get_or ls 0 0) ≡ Some f → letters_given p ls m ≡ letters_given p (drop 1 ls) (flag_given f true m)
letters_one p [] m f some h known = absurd (omega arith)
letters_one p (c ∷ []) m f some h known = ap (option_map (λ f. flag_given f true m)) known
letters_one p (c ∷ d ∷ rest) m f some h known =
    ap (λ b. cond b (pair_given p rest m) (letter_then p (d ∷ rest) m (by_letter p c))) h
    ∙ ap (letter_then p (d ∷ rest) m) known
