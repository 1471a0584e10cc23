-- The paths of words, and the names of paths.
use Rattle.std.proofs.Common.{◌≡◌, ℕ, ◌+◌, ◌-◌, ◌<◌, ◌≤◌, Bool, true, false, if◌then◌else◌, List, [], ◌∷◌, ◌++◌}
use Rattle.std.proofs.Common.{length, reverse, take, drop, get_or, ◌≢◌, Option, Some, None, MatchOption, refl, ap}
use Rattle.std.proofs.Common.{sym, ◌∙◌, append_assoc, arith}
use denote.Ref.{Bor}
use Rattle.std.proofs.lemmas.Bool.{eqb-true}
use Rattle.std.proofs.lemmas.List.{reverse-append, reverse-reverse, take_more, drop_more}
use Rattle.pcre_io.specs.MemTree.{is_slash}
use Rattle.grep_targets.specs.Paths.{after_slashes, before_slash, without_slashes, name_of}

-- a word without a slash at its end stays
pub shortest : (word : List ℕ) → ((front : List ℕ) → word ≢ front ++ 47 ∷ []) → word ≡ without_slashes word
shortest word ends = by_last (reverse word) refl
  where
    by_slash : (c : ℕ) (rest : List ℕ) (slash : Bool) → is_slash c ≡ slash → word ≡ reverse (c ∷ rest)
        → word ≡ reverse (if slash then after_slashes rest else c ∷ rest)
    by_slash c rest false is e = e
    by_slash c rest true is e =
        absurd (ends (reverse rest) (e ∙ reverse-append (c ∷ []) rest
        ∙ ap (λ x. reverse rest ++ x ∷ []) (eqb-true c 47 is)))

    by_last : (back : List ℕ) → reverse word ≡ back → word ≡ reverse (after_slashes back)
    by_last [] e = sym (reverse-reverse word) ∙ ap reverse e
    by_last (c ∷ rest) e = by_slash c rest (is_slash c) refl (sym (reverse-reverse word) ∙ ap reverse e)

-- what no slash could be stripped from
pub unstripped : (word : List ℕ) (r : Option (Bor (List ℕ))) → r ≡ None
    → MatchOption r ((front : List ℕ) → word ≢ front ++ 47 ∷ []) (λ x. word ≡ x.now ++ 47 ∷ [])
    → word ≡ without_slashes word
unstripped word None is h = shortest word h
unstripped word (Some x) is h = absurd (let no : Some x ≡ None = is in cc)

not_slash : (c : ℕ) → (c ≡ 47 → ⊥) → is_slash c ≡ false
not_slash c other = by_slash (is_slash c) refl
  where
    by_slash : (slash : Bool) → is_slash c ≡ slash → slash ≡ false
    by_slash false is = refl
    by_slash true is = absurd (other (eqb-true c 47 is))

name-push : (front : List ℕ) (c : ℕ) (slash : Bool) → is_slash c ≡ slash
    → name_of (front ++ c ∷ []) ≡ (if slash then [] else name_of front ++ c ∷ [])
name-push front c slash is = ap (λ l. reverse (before_slash l)) (reverse-append front (c ∷ [])) ∙ by_slash slash is
  where
    by_slash : (slash : Bool) → is_slash c ≡ slash
        → reverse (before_slash (c ∷ reverse front)) ≡ (if slash then [] else name_of front ++ c ∷ [])
    by_slash false is = rw is (reverse-append (c ∷ []) (before_slash (reverse front)))
    by_slash true is = rw is refl

module _ (path : List ℕ) (n : ℕ) (some : 0 < n) (within : n ≤ length path) where
  abbrev last : ℕ
  last = get_or path (n - 1) 0

  cut : take n path ≡ take (n - 1) path ++ last ∷ []
  cut = let e : n ≡ n - 1 + 1 = omega arith in ap (λ k. take k path) e ∙ take_more path (n - 1) 0 (omega arith)

  rest : drop (n - 1) path ≡ last ∷ drop n path
  rest = let e : n - 1 + 1 ≡ n = omega arith in drop_more path (n - 1) 0 (omega arith) ∙ ap (λ k. last ∷ drop k path) e

  -- one byte more before the end belongs to the name
  pub one_more : (get_or path (n - 1) 0 ≡ 47 → ⊥) → name_of path ≡ name_of (take n path) ++ drop n path
      → name_of path ≡ name_of (take (n - 1) path) ++ drop (n - 1) path
  one_more other so_far =
      so_far ∙ ap (λ l. l ++ drop n path) (ap name_of cut
      ∙ name-push (take (n - 1) path) last false (not_slash last other))
      ∙ append_assoc (name_of (take (n - 1) path)) (last ∷ []) (drop n path)
      ∙ ap (λ l. name_of (take (n - 1) path) ++ l) (sym rest)
