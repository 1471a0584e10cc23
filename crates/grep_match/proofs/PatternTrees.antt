-- What compiling texts adds to patterns.
use Rattle.std.proofs.Common.{◌≡◌, ℕ, ◌+◌, List, [], ◌∷◌, ◌++◌, length, Result, Ok, Err, refl, sym, ap, ◌∙◌, arith}
use Rattle.std.proofs.Common.{append-nil, append_assoc, length-append, ℤ}
use Rattle.std.proofs.lemmas.List.{length-map}
use Rattle.pat_tree.specs.declared.options.Options.{Options}
use Rattle.token_parts.specs.declared.fault.Fault.{Fault}
use Rattle.grep_match.specs.declared.patterns.PatternError.{PatternError}
use Rattle.grep_match.specs.declared.patterns.PatternError.TheVariants.{Bad, Memory}
use Rattle.pat_tree.specs.Pattern.{Pattern}
use Rattle.pcre2_api.specs.Patterns.{compiled}
use Rattle.grep_match.specs.Compiled.{BadPattern, Compiled, compiled_from, with_pattern, Adds}
use Rattle.grep_match.specs.Compiled.{pattern_in, meant}
use Rattle.grep_match.specs.declared.patterns.Kept.{Kept}

-- what the first text adds to what the others are
first_then : ℕ → Result Pattern Fault → Compiled → Compiled
first_then n (Ok p) others = with_pattern p others
first_then n (Err fault) others = Err (record { number = n; fault = fault })

from-first_then : (options : Options) (n : ℕ) (x : List ℕ) (xs : List (List ℕ)) (found : Result Pattern Fault)
    → compiled options x ≡ found → compiled_from options n (x ∷ xs) ≡ first_then n found
    (compiled_from options (n + 1) xs)
unfolding first_then
from-first_then options n x xs (Ok p) is =
    ap (λ (r : Result Pattern Fault). elim r [
      | Ok p ↦ with_pattern p (compiled_from options (n + 1) xs)
      | Err fault ↦
          (let c : Compiled = Err (record { number = n; fault = fault }) in c)
    ]) is
from-first_then options n x xs (Err fault) is =
    ap (λ (r : Result Pattern Fault). elim r [
      | Ok p ↦ with_pattern p (compiled_from options (n + 1) xs)
      | Err fault ↦
          (let c : Compiled = Err (record { number = n; fault = fault }) in c)
    ]) is

from-ok : (options : Options) (n : ℕ) (x : List ℕ) (xs : List (List ℕ)) (p : Pattern) → compiled options x ≡ Ok p
    → compiled_from options n (x ∷ xs) ≡ with_pattern p (compiled_from options (n + 1) xs)
unfolding first_then
from-ok options n x xs p is = from-first_then options n x xs (Ok p) is

from-bad : (options : Options) (n : ℕ) (x : List ℕ) (xs : List (List ℕ)) (fault : Fault)
    → compiled options x ≡ Err fault → compiled_from options n (x ∷ xs) ≡ Err (record { number = n; fault = fault })
unfolding first_then
from-bad options n x xs fault is = from-first_then options n x xs (Err fault) is

with_all : List Pattern → Compiled → Compiled
with_all [] found = found
with_all (p ∷ ps) found = with_pattern p (with_all ps found)

none-append : (options : Options) (n : ℕ) (ys : List (List ℕ)) (ps : List Pattern)
    → compiled_from options n [] ≡ Ok ps → compiled_from options n ys ≡ with_all ps
    (compiled_from options (n + length ps) ys)
unfolding with_all
none-append options n ys [] is = ap (λ k. compiled_from options k ys) (omega arith)
none-append options n ys (p ∷ ps) is = cc

-- the first text is a pattern, and the others are these
ok-append : (options : Options) (n : ℕ) (x : List ℕ) (xs ys : List (List ℕ)) (ps : List Pattern) (p : Pattern)
    → compiled options x ≡ Ok p → (found : Compiled) → compiled_from options (n + 1) xs ≡ found
    → ((qs : List Pattern) → compiled_from options (n + 1) xs ≡ Ok qs
    → compiled_from options (n + 1) (xs ++ ys) ≡ with_all qs (compiled_from options (n + 1 + length qs) ys))
    → compiled_from options n (x ∷ xs) ≡ Ok ps → compiled_from options n (x ∷ (xs ++ ys)) ≡ with_all ps
    (compiled_from options (n + length ps) ys)
unfolding with_all
ok-append options n x xs ys ps p one (Ok qs) others later is =
    let whole : with_pattern p (Ok qs) ≡ Ok ps = sym (from-ok options n x xs p one ∙ ap (with_pattern p) others) ∙ is in
    let same : p ∷ qs ≡ ps = cc in
    let place : n + 1 + length qs ≡ n + length (p ∷ qs) = omega arith in
    from-ok options n x (xs ++ ys) p one
    ∙ ap (with_pattern p) (later qs others ∙ ap (λ k. with_all qs (compiled_from options k ys)) place)
    ∙ ap (λ l. with_all l (compiled_from options (n + length l) ys)) same
ok-append options n x xs ys ps p one (Err bad) others later is =
    let whole : with_pattern p (Err bad) ≡ Ok ps = sym (from-ok options n x xs p one ∙ ap (with_pattern p) others)
    ∙ is in
    cc

first-append : (options : Options) (n : ℕ) (x : List ℕ) (xs ys : List (List ℕ)) (ps : List Pattern)
    (found : Result Pattern Fault) → compiled options x ≡ found
    → ((qs : List Pattern) → compiled_from options (n + 1) xs ≡ Ok qs
    → compiled_from options (n + 1) (xs ++ ys) ≡ with_all qs (compiled_from options (n + 1 + length qs) ys))
    → compiled_from options n (x ∷ xs) ≡ Ok ps → compiled_from options n (x ∷ (xs ++ ys)) ≡ with_all ps
    (compiled_from options (n + length ps) ys)
first-append options n x xs ys ps (Ok p) one later is =
    ok-append options n x xs ys ps p one (compiled_from options (n + 1) xs) refl later is
first-append options n x xs ys ps (Err fault) one later is =
    let whole = sym (from-bad options n x xs fault one) ∙ is in
    cc

-- texts after others that are patterns
from-append : (options : Options) (n : ℕ) (xs ys : List (List ℕ)) (ps : List Pattern)
    → compiled_from options n xs ≡ Ok ps → compiled_from options n (xs ++ ys) ≡ with_all ps
    (compiled_from options (n + length ps) ys)
from-append options n [] ys ps is = none-append options n ys ps is
from-append options n (x ∷ xs) ys ps is = first-append options n x xs ys ps (compiled options x) refl
    (from-append options (n + 1) xs ys) is

ok-bad : (options : Options) (n : ℕ) (x : List ℕ) (xs ys : List (List ℕ)) (bad : BadPattern) (p : Pattern)
    → compiled options x ≡ Ok p → (found : Compiled) → compiled_from options (n + 1) xs ≡ found
    → ((other : BadPattern) → compiled_from options (n + 1) xs ≡ Err other
    → compiled_from options (n + 1) (xs ++ ys) ≡ Err other)
    → compiled_from options n (x ∷ xs) ≡ Err bad → compiled_from options n (x ∷ (xs ++ ys)) ≡ Err bad
ok-bad options n x xs ys bad p one (Ok qs) others later is =
    let whole : with_pattern p (Ok qs) ≡ Err bad = sym (from-ok options n x xs p one ∙ ap (with_pattern p) others)
    ∙ is in
    cc
ok-bad options n x xs ys bad p one (Err other) others later is =
    let whole : with_pattern p (Err other) ≡ Err bad = sym (from-ok options n x xs p one ∙ ap (with_pattern p) others)
    ∙ is in
    from-ok options n x (xs ++ ys) p one ∙ ap (with_pattern p) (later other others) ∙ whole

first-bad : (options : Options) (n : ℕ) (x : List ℕ) (xs ys : List (List ℕ)) (bad : BadPattern)
    (found : Result Pattern Fault) → compiled options x ≡ found
    → ((other : BadPattern) → compiled_from options (n + 1) xs ≡ Err other
    → compiled_from options (n + 1) (xs ++ ys) ≡ Err other)
    → compiled_from options n (x ∷ xs) ≡ Err bad → compiled_from options n (x ∷ (xs ++ ys)) ≡ Err bad
first-bad options n x xs ys bad (Ok p) one later is =
    ok-bad options n x xs ys bad p one (compiled_from options (n + 1) xs) refl later is
first-bad options n x xs ys bad (Err fault) one later is = from-bad options n x (xs ++ ys) fault one
    ∙ sym (from-bad options n x xs fault one) ∙ is

-- texts after others of which one is refused
from-first : (options : Options) (n : ℕ) (xs ys : List (List ℕ)) (bad : BadPattern)
    → compiled_from options n xs ≡ Err bad → compiled_from options n (xs ++ ys) ≡ Err bad
from-first options n [] ys bad is = cc
from-first options n (x ∷ xs) ys bad is = first-bad options n x xs ys bad (compiled options x) refl
    (from-first options (n + 1) xs ys) is

with-all : (ps : List Pattern) (qs : List Pattern) → with_all ps (Ok qs) ≡ Ok (ps ++ qs)
unfolding with_all
with-all [] qs = refl
with-all (p ∷ ps) qs = ap (with_pattern p) (with-all ps qs)

with-bad : (ps : List Pattern) (bad : BadPattern) → with_all ps (Err bad) ≡ Err bad
unfolding with_all
with-bad [] bad = refl
with-bad (p ∷ ps) bad = ap (with_pattern p) (with-bad ps bad)

pub adds-none : {A : Type 0} (a : A) (options : Options) (codes : List Pattern) → Adds options [] codes codes (Ok a)
adds-none a options codes = ([], sym (append-nil codes), refl)

pub adds-then : {A B : Type 0} (a : A) (options : Options) (xs ys : List (List ℕ)) (old mid new : List Pattern)
    (found : Result B PatternError) → Adds options xs old mid (Ok a) → Adds options ys mid new found
    → Adds options (xs ++ ys) old new found
adds-then a options xs ys old mid new (Ok b) first second =
    let place : length old + 1 + length first.0 ≡ length mid + 1 =
    omega (
      arith,
      length-append old first.0,
      ap length first.1,
    ) in (
      first.0 ++ second.0,
      second.1 ∙ ap (λ l. l ++ second.0) first.1 ∙ append_assoc old first.0 second.0,
      from-append options (length old + 1) xs ys first.0 first.2
          ∙ ap (λ k. with_all first.0 (compiled_from options k ys)) place
          ∙ ap (with_all first.0) second.2
          ∙ with-all first.0 second.0,
    )
adds-then a options xs ys old mid new (Err (Bad n number at)) first second =
    let place : length old + 1 + length first.0 ≡ length mid + 1 =
    omega (
      arith,
      length-append old first.0,
      ap length first.1,
    ) in
    from-append options (length old + 1) xs ys first.0 first.2
    ∙ ap (λ k. with_all first.0 (compiled_from options k ys)) place
    ∙ ap (with_all first.0) second
    ∙ with-bad first.0 _
adds-then a options xs ys old mid new (Err Memory) first second = tt

pub adds-first : (A : Type 0) (options : Options) (xs ys : List (List ℕ)) (old new : List Pattern)
    (e : PatternError) → Adds {A = A} options xs old new (Err e) → Adds {A = A} options (xs ++ ys) old new (Err e)
adds-first A options xs ys old new (Bad n number at) refused = from-first options (length old + 1) xs ys _ refused
adds-first A options xs ys old new Memory refused = tt

-- one text alone
pub adds-one : {A : Type 0} (a : A) (options : Options) (x : List ℕ) (old new : List Pattern) (p : Pattern)
    → compiled options x ≡ Ok p → new ≡ old ++ p ∷ [] → Adds options (x ∷ []) old new (Ok a)
adds-one a options x old new p is more = (p ∷ [], more, from-ok options (length old + 1) x [] p is)

pub one-refused : (A : Type 0) (options : Options) (x : List ℕ) (kept : List Kept) (new : List Pattern) (n at : ℕ)
    (number : ℤ) → compiled options x ≡ Err (record { number = number; at = at }) → n ≡ length kept + 1
    → Adds {A = A} options (x ∷ []) (meant options kept) new (Err (Bad n number at))
one-refused A options x kept new n at number is count =
    let fault : Fault = record { number = number; at = at } in
    let place : length (meant options kept) + 1 ≡ n =
    omega (arith, count, length-map kept (pattern_in options)) in
    from-bad options (length (meant options kept) + 1) x [] fault is
    ∙ ap (λ k. let r : Compiled = Err (record { number = k; fault = fault }) in r) place
