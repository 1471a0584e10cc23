-- What rounds over the groups come to.
use Rattle.std.proofs.Common.{◌≡◌, ◌∙◌, ℕ, zero, suc, ◌+◌, ◌||◌, ◌&&◌, ◌==◌, Bool, true, false, List, [], ◌∷◌, ◌++◌}
use Rattle.std.proofs.Common.{flat_map, length, Option, Some, None, refl, sym, ap, arith}
use Rattle.std.proofs.Math.Bool.{beq}
use lib.Pointwise.{pointwise}
use Rattle.std.proofs.Math.Path.{fun_ext}
use Rattle.std.specs.List.{list_any}
use Rattle.std.proofs.lemmas.Grind.{flat_map-append}
use Rattle.std.proofs.lemmas.List.Folds.{list_any-append}
use Rattle.pat_tree.specs.Groups.{group_of}
use Rattle.pat_tree.specs.Nested.{Nested, tree_at}
use Rattle.pat_lengths.specs.Nodes.{has_shared_number, named_in}
use Rattle.pat_lengths.specs.Lengths.{lengths, lengths_of_group, by_calls, named_in_group, names_of_group, lead_to}
use Rattle.pat_lengths.specs.Passing.{has_zero, passes, flagged, IsAt, passes_at}
use Rattle.pat_lengths.specs.Rounds.{answer, group_answer, rounds, KeepAnswers, AreRounds}
use Rattle.pat_lengths.specs.declared.rounds.Question.{Question}
use Rattle.pat_lengths.specs.declared.rounds.Question.TheVariants.{Passes, Names}
use Rattle.pat_lengths.proofs.PassLemmas.{zero_is}

passes_next : (unset : Bool) (whole : Nested) (d : ℕ)
    → ((n : ℕ) → rounds (Passes (unset || has_shared_number whole)) whole d n ≡ has_zero (by_calls unset whole d n)) →
    (o : Option Nested) → group_answer (Passes (unset || has_shared_number whole))
    (rounds (Passes (unset || has_shared_number whole)) whole d) o ≡ has_zero
    (lengths_of_group (lengths unset whole (by_calls unset whole d)) o)
passes_next unset whole d h None = refl
passes_next unset whole d h (Some t) =
    ap (λ f. passes (unset || has_shared_number whole) f t) (fun_ext h)
    ∙ sym (zero_is unset whole (by_calls unset whole d) t)

pub passes_rounds : (unset : Bool) (whole : Nested) (d n : ℕ)
    → rounds (Passes (unset || has_shared_number whole)) whole d n ≡ has_zero (by_calls unset whole d n)
unfolding rounds by_calls
passes_rounds unset whole zero n = refl
passes_rounds unset whole (suc d) n = passes_next unset whole d (passes_rounds unset whole d) (group_of whole n)

-- Groups that lead to a group.

none_lead : (whole : Nested) (d m : ℕ) → lead_to whole d [] m ≡ false
unfolding lead_to
none_lead whole zero m = refl
none_lead whole (suc d) m = none_lead whole d m

swapped : (a b c d : Bool) → ((a || b) || (c || d)) ≡ ((a || c) || (b || d))
swapped true b c d = refl
swapped false true true d = refl
swapped false true false d = refl
swapped false false c d = refl

lead_append : (whole : Nested) (d m : ℕ) (xs ys : List ℕ)
    → lead_to whole d (xs ++ ys) m ≡ (lead_to whole d xs m || lead_to whole d ys m)
unfolding lead_to
lead_append whole zero m xs ys = refl
lead_append whole (suc d) m xs ys =
    let f = names_of_group whole in
    let t : ℕ → Bool = λ n. n == m in
    rw (list_any-append t xs ys, flat_map-append f xs ys, lead_append whole d m (flat_map f xs) (flat_map f ys))
    (swapped (list_any t xs) (list_any t ys) (lead_to whole d (flat_map f xs) m) (lead_to whole d (flat_map f ys) m))

pub some_lead : (whole : Nested) (d m : ℕ) (ns : List ℕ) →
    list_any (λ n. n == m || lead_to whole d (names_of_group whole n) m)
    ns ≡ (list_any (λ n. n == m) ns || lead_to whole d (flat_map (names_of_group whole) ns) m)
some_lead whole d m [] = sym (none_lead whole d m)
some_lead whole d m (n ∷ ns) =
    let f = names_of_group whole in
    ap (λ b. (n == m || lead_to whole d (f n) m) || b) (some_lead whole d m ns)
    ∙ swapped (n == m) (lead_to whole d (f n) m) (list_any (λ n. n == m) ns) (lead_to whole d (flat_map f ns) m)
    ∙ ap (λ b. (n == m || list_any (λ n. n == m) ns) || b) (sym (lead_append whole d m (f n) (flat_map f ns)))

-- a group that isn't there leads nowhere
pub lost : (whole : Nested) (m d n : ℕ) → group_of whole n ≡ None → lead_to whole d (names_of_group whole n) m ≡ false
lost whole m d n h = ap (λ o. lead_to whole d (named_in_group o) m) h ∙ none_lead whole d m

-- a group that names no other leads nowhere

pub nothing_named : (ns : List ℕ) → list_any (λ n. true) ns ≡ false → ns ≡ []
nothing_named [] h = refl
nothing_named (n ∷ ns) h = absurd cc

pub leads_nowhere : (whole : Nested) (names : ℕ → Bool) (m d n : ℕ)
    → group_answer Names names (group_of whole n) ≡ false → lead_to whole d (names_of_group whole n) m ≡ false
leads_nowhere whole names m d n h = by_group (group_of whole n) h
  where
    by_group : (o : Option Nested) → group_answer Names names o ≡ false → lead_to whole d (named_in_group o) m ≡ false
    by_group None h = none_lead whole d m
    by_group (Some t) h = ap (λ ns. lead_to whole d ns m) (nothing_named (named_in t) h) ∙ none_lead whole d m

-- One round over the groups' places.

pub placed_answer : (q : Question) (trees : List Nested) (root : ℕ) (of answers : List Bool) (r : ℕ → Bool)
    (place : Option ℕ) (found : Option Nested) →
    length answers ≡ root + 1 → KeepAnswers q of trees answers → ((n : ℕ) → flagged of n ≡ r n)
    → IsAt trees root place found →
    passes_at answers place ≡ group_answer q r found
placed_answer q trees root of answers r None found count kept h at = sym (ap (group_answer q r) at)
placed_answer q trees root of answers r (Some k) found count kept h at =
    kept k (omega (arith, count, at.0)) ∙ ap (λ f. answer q f (tree_at trees k)) (fun_ext h)
    ∙ sym (ap (group_answer q r) at.1)

pub round_step : (q : Question) (whole : Nested) (trees : List Nested) (root d n : ℕ) (of answers : List Bool)
    (place : Option ℕ) →
    length answers ≡ root + 1 → KeepAnswers q of trees answers → AreRounds q whole d of
    → IsAt trees root place (group_of whole n) →
    passes_at answers place ≡ rounds q whole (suc d) n
unfolding rounds
round_step q whole trees root d n of answers place count kept h at =
    placed_answer q trees root of answers (rounds q whole d) place (group_of whole n) count kept h at

-- none is answered before the first
pub before_all : (q : Question) (whole : Nested) → AreRounds q whole 0 []
unfolding rounds
before_all q whole n = refl

-- Two lists of flags that agree place by place are one.

and_left : (a b : Bool) → (a && b) ≡ true → a ≡ true
and_left true b h = refl
and_left false b h = h

and_right : (a b : Bool) → (a && b) ≡ true → b ≡ true
and_right true b h = h
and_right false b h = absurd cc

same_flag : (x y : Bool) → beq x y ≡ true → x ≡ y
same_flag true true h = refl
same_flag false false h = refl
same_flag true false h = sym h
same_flag false true h = h

pub same_flags : (xs ys : List Bool) → pointwise beq xs ys ≡ true → xs ≡ ys
same_flags [] [] h = refl
same_flags [] (y ∷ ys) h = absurd cc
same_flags (x ∷ xs) [] h = absurd cc
same_flags (x ∷ xs) (y ∷ ys) h =
    let here = same_flag x y (and_left (beq x y) (pointwise beq xs ys) h) in
    let later = same_flags xs ys (and_right (beq x y) (pointwise beq xs ys) h) in
    rw (here, later) refl
