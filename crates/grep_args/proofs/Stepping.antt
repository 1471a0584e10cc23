-- What one step of the reading makes of the whole.
use Rattle.std.proofs.Common.{arith, length, map, ◌<◌, ◌+◌, get_or, Bool, true, false, ◌≡◌, ℕ, List, [], ◌∷◌, drop}
use Rattle.std.proofs.Common.{Some, slice_get, refl, ap, sym, ◌∙◌, subst}
use Rattle.std.proofs.lemmas.List.{drop_more}
use Rattle.std.specs.List.{list_any, position_or_len}
use Rattle.grep_args.specs.declared.plan.GrepPlan.{GrepPlan}
use Rattle.grep_args.specs.declared.options.GrepOption.{GrepOption}
use Rattle.grep_args.specs.declared.usage.ArgError.{ArgError}
use Rattle.grep_args.specs.Table.{by_letter}
use Rattle.grep_args.specs.Words.{Reads, letter, letters, Refuses}

same_item : (x y : ℕ) → Some x ≡ Some y → x ≡ y
same_item x y h = cc

pub letters_step : (word : ℕ) (rest more : List ℕ) (b : ℕ) (option : GrepOption) (plan : GrepPlan)
    → slice_get rest 0 ≡ Some b → more ≡ drop 1 rest → by_letter b ≡ Some option
    → letters word rest plan ≡ letter word more (letters word more) (Some option) plan
letters_step word [] more b option plan first rest known = cc
letters_step word (x ∷ xs) more b option plan first rest known =
    ap (λ o. letter word xs (letters word xs) o plan) (ap by_letter (same_item x b first) ∙ known)
    ∙ ap (λ m. letter word m (letters word m) (Some option) plan) (sym rest)

pub refuses_as : {A : Type 0} (read whole : Reads A) (error : ArgError) → read ≡ whole → Refuses read error
    → Refuses whole error
refuses_as read whole error same h = subst (λ r. Refuses r error) same h

past_more : (p : ℕ → Bool) (x : ℕ) (xs : List ℕ) (here : Bool) → p x ≡ here
    → position_or_len p (x ∷ xs) ≡ length (x ∷ xs) → (position_or_len p xs ≡ length xs → list_any p xs ≡ false)
    → list_any p (x ∷ xs) ≡ false
past_more p x xs true e h rest = grind arith
past_more p x xs false e h rest = grind arith

-- a text without a place that passes
pub list_any_past : (p : ℕ → Bool) (xs : List ℕ) → position_or_len p xs ≡ length xs → list_any p xs ≡ false
list_any_past p [] h = refl
list_any_past p (x ∷ xs) h = past_more p x xs (p x) refl h (list_any_past p xs)

-- a list from one of its places on
pub map_drop : {A : Type 0} (f : A → List ℕ) (xs : List A) (n : ℕ) (x : A) (t : List ℕ) → n < length xs
    → x ≡ get_or xs n x → t ≡ f x → map f (drop n xs) ≡ t ∷ map f (drop (n + 1) xs)
map_drop f xs n x t within is text = rw (drop_more xs n x, ← is, ← text) refl
