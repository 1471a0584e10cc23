-- Reading fields one after the other, as a loop does.
use Rattle.std.proofs.Common.{◌≡◌, ℕ, suc, ◌-◌, ◌+◌, ◌≤◌, ◌<◌, List, [], ◌∷◌, ◌++◌, Option, Some, None, refl, sym, ap}
use Rattle.std.proofs.Common.{subst}
use Rattle.std.proofs.Common.{◌∙◌, arith}
use Rattle.pat_save.specs.declared.errors.LoadError.{LoadError}
use Rattle.pat_save.specs.declared.errors.LoadError.TheVariants as load
use Rattle.std.specs.Int.{w32}
use Rattle.pat_save.specs.Reading.{Fails, Reader, ◌>>=◌, counted_at, gathered, made, number_at}
use Rattle.pat_save.proofs.Forms.{bind_some, found, found_is}

module _ {A : Type 0} (at : List A → Reader A) (known : List A) (count i : ℕ) (bytes : List ℕ)
    (total : Option (List A × List ℕ)) where
  one_more : i < count → gathered at (count - i) known bytes
      ≡ (at known bytes >>= λ x. gathered at (count - (i + 1)) (known ++ x.0 ∷ []) x.1)
  one_more lt = let k : count - i ≡ suc (count - (i + 1)) = omega arith in ap (λ n. gathered at n known bytes) k

  pub goes_on : (x : A) (after : List ℕ) → i < count → at known bytes ≡ Some (x, after)
      → gathered at (count - i) known bytes ≡ total → gathered at (count - (i + 1)) (known ++ x ∷ []) after ≡ total
  goes_on x after lt here so_far =
      sym (one_more lt ∙ ap (λ (o : Option (A × List ℕ)). o >>= λ x. gathered at (count - (i + 1))
      (known ++ x.0 ∷ []) x.1) here)
      ∙ so_far

  pub fails : (e : LoadError) → i < count → Fails e (at known bytes) → gathered at (count - i) known bytes ≡ total
      → Fails e total
  fails load.Memory lt here so_far = tt
  fails load.Bad lt here so_far =
      sym so_far ∙ one_more lt
      ∙ ap (λ (o : Option (A × List ℕ)). o >>= λ x. gathered at (count - (i + 1)) (known ++ x.0 ∷ []) x.1) here
  fails load.TooLarge lt here so_far = here

  pub is_done : count ≤ i → gathered at (count - i) known bytes ≡ total → total ≡ Some (known, bytes)
  is_done le so_far = let k : count - i ≡ 0 = omega arith in sym so_far ∙ ap (λ n. gathered at n known bytes) k

none_made : {A B : Type 0} (o : Option (A × List ℕ)) (f : A → B)
    → (o >>= λ x. let y : B × List ℕ = (f x.0, x.1) in Some y) ≡ None → o ≡ None
none_made None f e = refl
none_made (Some x) f e = absurd cc

-- the same, where the list with its new field is read
module _ {A : Type 0} (at : List A → Reader A) (known : List A) (count i : ℕ) (bytes : List ℕ)
    (total : Option (List A × List ℕ)) where
  pub goes_on_with : (now : List A) (after : List ℕ) → i < count
      → made (λ p. known ++ p ∷ []) (at known) bytes ≡ Some (now, after)
      → gathered at (count - i) known bytes ≡ total → gathered at (count - (i + 1)) now after ≡ total
  goes_on_with now after lt here so_far =
      let p = bind_some (at known bytes) (λ x. found (known ++ x.0 ∷ [], x.1)) (now, after) here in
      let made_of : List A × List ℕ = (known ++ p.0.0 ∷ [], p.0.1) in
      subst (λ (y : List A × List ℕ). gathered at (count - (i + 1)) y.0 y.1 ≡ total) (found_is made_of (now, after) p.2)
      (goes_on at known count i bytes total p.0.0 p.0.1 lt p.1 so_far)

  pub fails_with : (e : LoadError) → i < count → Fails e (made (λ p. known ++ p ∷ []) (at known) bytes)
      → gathered at (count - i) known bytes ≡ total → Fails e total
  fails_with load.Memory lt here so_far = tt
  fails_with load.Bad lt here so_far =
      fails at known count i bytes total load.Bad lt (none_made (at known bytes) (λ x. known ++ x ∷ []) here) so_far
  fails_with load.TooLarge lt here so_far = here

-- a list of fields begins with their count
pub starts : {A : Type 0} (at : List A → Reader A) (bytes : List ℕ) (count : ℕ) (rest : List ℕ)
    → number_at w32 bytes ≡ Some (count, rest) → gathered at (count - 0) [] rest ≡ counted_at at bytes
starts {A} at bytes count rest e =
    let k : count - 0 ≡ count = omega arith in
    ap (λ n. gathered at n [] rest) k ∙ sym (ap (λ (o : Option (ℕ × List ℕ)). o >>= λ n. gathered at n.0 [] n.1) e)
