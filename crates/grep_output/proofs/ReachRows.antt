-- Rows that are numbered in order: which numbers are among them, and which of them a test keeps.
use Rattle.std.proofs.Common.{◌≡◌, ◌≢◌, ℕ, suc, ◌+◌, ◌-◌, ◌<◌, ◌≤◌, Bool, true, false, ◌||◌, cond, List, [], ◌∷◌}
use Rattle.std.proofs.Common.{◌++◌, length, take, drop, refl, sym, ap, ◌∙◌, subst, ⊎_elim, arith, append_assoc}
use Rattle.std.proofs.Common.{length-append}
use Rattle.std.specs.Prelude.{nat_le, ◌==◌, filter, flat_map}
use Rattle.std.specs.List.{list_any, AllByRecursion}
use Rattle.std.proofs.lemmas.Bool.{ne_eqb, eq-eqb, cases_lt, le-leb, lt-leb, cond_both, cond-true, cond-false}
use Rattle.std.proofs.lemmas.Bool.{or_left, or_right}
use Rattle.std.proofs.lemmas.List.{take-append-drop, length-take}
use Rattle.std.proofs.lemmas.List.Folds.{list_any-append}
use Rattle.std.proofs.Math.ListN.{drop_of_length-le}
use Rattle.std.proofs.Math.Seq.{drop-append-add}
use Rattle.circular_buffer.specs.Buffer.{keep_last}
use Rattle.line_feed.specs.Rows.{Row}
use Rattle.grep_output.specs.Context.{has_number}
use Rattle.grep_output.specs.Course.{AreNumbered}

-- one of the rows has this number
abbrev pub has : ℕ → List Row → Bool
has k xs = list_any (has_number k) xs

pub or_none : (a b : Bool) → b ≡ false → (a || b) ≡ a
or_none true b e = refl
or_none false b e = e

-- What holds of each.

pub every-map : {X : Type 0} (P Q : X → Type 0) → ((x : X) → P x → Q x) → (xs : List X) → AllByRecursion P xs
    → AllByRecursion Q xs
every-map P Q f [] all = tt
every-map P Q f (x ∷ xs) all = (f x all.0, every-map P Q f xs all.1)

pub every-append : {X : Type 0} (P : X → Type 0) (xs ys : List X) → AllByRecursion P xs → AllByRecursion P ys
    → AllByRecursion P (xs ++ ys)
every-append P [] ys all more = more
every-append P (x ∷ xs) ys all more = (all.0, every-append P xs ys all.1 more)

-- of each that a test keeps
pub every-filter : {X : Type 0} (p : X → Bool) (P Q : X → Type 0) → ((x : X) → P x → p x ≡ true → Q x) → (xs : List X)
    → AllByRecursion P xs → AllByRecursion Q (filter p xs)
every-filter p P Q f [] all = tt
every-filter p P Q f (x ∷ xs) all =
    let more = every-filter p P Q f xs all.1 in
    cond_both (p x) (x ∷ filter p xs) (filter p xs) (λ l. AllByRecursion Q l) (λ e. (f x all.0 e, more)) (λ e. more)

pub filter_same : {X : Type 0} (p q : X → Bool) (xs : List X) → AllByRecursion (λ x. p x ≡ q x) xs
    → filter p xs ≡ filter q xs
filter_same p q [] same = refl
filter_same {X} p q (x ∷ xs) same =
    ap (λ (b : Bool). cond b (x ∷ filter p xs) (filter p xs)) same.0
    ∙ ap (λ (l : List X). cond (q x) (x ∷ l) l) (filter_same p q xs same.1)

pub filter_whole : {X : Type 0} (p : X → Bool) (xs : List X) → AllByRecursion (λ x. p x ≡ true) xs → filter p xs ≡ xs
filter_whole p [] all = refl
filter_whole p (x ∷ xs) all = cond-true (p x) (x ∷ filter p xs) (filter p xs) all.0
    ∙ ap (λ l. x ∷ l) (filter_whole p xs all.1)

pub filter_none : {X : Type 0} (p : X → Bool) (xs : List X) → AllByRecursion (λ x. p x ≡ false) xs → filter p xs ≡ []
filter_none p [] none = refl
filter_none p (x ∷ xs) none = cond-false (p x) (x ∷ filter p xs) (filter p xs) none.0 ∙ filter_none p xs none.1

pub flat_map_same : {X : Type 0} (f g : X → List ℕ) (xs : List X) → AllByRecursion (λ x. f x ≡ g x) xs
    → flat_map f xs ≡ flat_map g xs
flat_map_same f g [] same = refl
flat_map_same f g (x ∷ xs) same = ap (λ l. l ++ flat_map f xs) same.0 ∙ ap (λ l. g x ++ l) (flat_map_same f g xs same.1)

-- Which numbers are among them.

pub has-none : (k : ℕ) (xs : List Row) → AllByRecursion (λ (x : Row). x.number ≢ k) xs → has k xs ≡ false
has-none k [] none = refl
has-none k (x ∷ xs) none = ap (λ b. b || has k xs) (ne_eqb x.number k none.0) ∙ has-none k xs none.1

pub has-here : (k : ℕ) (x : Row) (xs : List Row) → x.number ≡ k → has k (x ∷ xs) ≡ true
has-here k x xs e = or_left (x.number == k) (has k xs) (eq-eqb x.number k e)

pub has-some : (k : ℕ) (xs : List Row) → has k xs ≡ true → 0 < length xs
has-some k [] e = absurd cc
has-some k (x ∷ xs) e = omega arith

pub has-append_right : (k : ℕ) (xs ys : List Row) → has k ys ≡ true → has k (xs ++ ys) ≡ true
has-append_right k xs ys e = list_any-append (has_number k) xs ys ∙ or_right (has k xs) (has k ys) e

pub has-append_left : (k : ℕ) (xs ys : List Row) → has k xs ≡ true → has k (xs ++ ys) ≡ true
has-append_left k xs ys e = list_any-append (has_number k) xs ys ∙ or_left (has k xs) (has k ys) e

pub has-append_none : (k : ℕ) (xs ys : List Row) → AllByRecursion (λ (x : Row). x.number ≢ k) ys
    → has k (xs ++ ys) ≡ has k xs
has-append_none k xs ys none = list_any-append (has_number k) xs ys ∙ or_none (has k xs) (has k ys) (has-none k ys none)

pub numbered-range : (h : ℕ) (xs : List Row) → AreNumbered h xs
    → AllByRecursion (λ (x : Row). (h ≤ x.number) × (x.number < h + length xs)) xs
numbered-range h [] are = tt
numbered-range h (x ∷ xs) are =
    let first = are.0 in (
      (omega arith, omega arith),
      every-map (λ (y : Row). (h + 1 ≤ y.number) × (y.number < h + 1 + length xs))
          (λ (y : Row). (h ≤ y.number) × (y.number < h + length (x ∷ xs)))
          (λ y range. (omega arith, omega arith)) xs (numbered-range (h + 1) xs are.1),
    )

pub numbered-at : (h k : ℕ) (xs : List Row) → h ≡ k → AreNumbered h xs → AreNumbered k xs
numbered-at h k xs e are = subst (λ n. AreNumbered n xs) e are

pub numbered-append : (h : ℕ) (xs ys : List Row) → AreNumbered h xs → AreNumbered (h + length xs) ys
    → AreNumbered h (xs ++ ys)
numbered-append h [] ys are more = numbered-at (h + 0) h ys (omega arith) more
numbered-append h (x ∷ xs) ys are more = (
  are.0,
  numbered-append (h + 1) xs ys are.1
      (numbered-at (h + length (x ∷ xs)) (h + 1 + length xs) ys (omega arith) more),
)

pub numbered-right : (h : ℕ) (xs ys : List Row) → AreNumbered h (xs ++ ys) → AreNumbered (h + length xs) ys
numbered-right h [] ys are = numbered-at h (h + 0) ys (omega arith) are
numbered-right h (x ∷ xs) ys are = numbered-at (h + 1 + length xs) (h + length (x ∷ xs)) ys (omega arith)
    (numbered-right (h + 1) xs ys are.1)

pub numbered-left : (h : ℕ) (xs ys : List Row) → AreNumbered h (xs ++ ys) → AreNumbered h xs
numbered-left h [] ys are = tt
numbered-left h (x ∷ xs) ys are = (are.0, numbered-left (h + 1) xs ys are.1)

pub numbered-take : (k h : ℕ) (xs : List Row) → AreNumbered h xs → AreNumbered h (take k xs)
numbered-take k h xs are = numbered-left h (take k xs) (drop k xs)
    (subst (λ l. AreNumbered h l) (sym (take-append-drop k xs)) are)

pub numbered-drop : (k h : ℕ) (xs : List Row) → k ≤ length xs → AreNumbered h xs → AreNumbered (h + k) (drop k xs)
numbered-drop k h xs within are =
    numbered-at (h + length (take k xs)) (h + k) (drop k xs) (omega (arith, length-take k xs))
    (numbered-right h (take k xs) (drop k xs) (subst (λ l. AreNumbered h l) (sym (take-append-drop k xs)) are))

-- a number within the range is among those that a test keeps, where it keeps that number
pub has-kept : (p : Row → Bool) (k h : ℕ) (xs : List Row) → AreNumbered h xs → h ≤ k → k < h + length xs
    → ((x : Row) → x.number ≡ k → p x ≡ true) → has k (filter p xs) ≡ true
has-kept p k h [] are low high keeps = absurd (omega arith)
has-kept p k h (x ∷ xs) are low high keeps =
    let first = are.0 in
    ⊎_elim
    (λ (later : h < k).
    let more = has-kept p k (h + 1) xs are.1 (omega arith) (omega arith) keeps in
    cond_both (p x) (x ∷ filter p xs) (filter p xs) (λ l. has k l ≡ true)
    (λ e. or_right (x.number == k) (has k (filter p xs)) more) (λ e. more))
    (λ (here : k ≤ h).
    let same : x.number ≡ k = omega arith in
    ap (λ l. has k l) (cond-true (p x) (x ∷ filter p xs) (filter p xs) (keeps x same))
    ∙ has-here k x (filter p xs) same)
    (cases_lt h k)

-- The last rows.

pub last_none : {X : Type 0} (n : ℕ) (xs : List X) → xs ≡ [] → keep_last n xs ≡ []
last_none n xs none = ap (λ l. keep_last n l) none ∙ drop_of_length-le [] (omega arith)

pub last_few : {X : Type 0} (n : ℕ) (xs : List X) → length xs ≤ n → keep_last n xs ≡ xs
last_few n xs few = ap (λ k. drop k xs) {x = length xs - n} {y = 0} (omega arith)

pub last_after : {X : Type 0} (n : ℕ) (xs ys : List X) → n ≤ length ys → keep_last n (xs ++ ys) ≡ keep_last n ys
last_after n xs ys many =
    ap (λ k. drop k (xs ++ ys)) {x = length (xs ++ ys) - n} {y = length xs + (length ys - n)}
    (omega (arith, length-append xs ys))
    ∙ drop-append-add xs ys (length ys - n)

pub last_last : {X : Type 0} (n : ℕ) (xs ys : List X) → keep_last n (keep_last n xs ++ ys) ≡ keep_last n (xs ++ ys)
last_last n xs ys = ⊎_elim
    (λ (more : n < length xs).
    let k = length xs - n in
    let whole : take k xs ++ (drop k xs ++ ys) ≡ xs ++ ys = sym (append_assoc (take k xs) (drop k xs) ys)
    ∙ ap (λ l. l ++ ys) (take-append-drop k xs) in
    sym (last_after n (take k xs) (drop k xs ++ ys)
    (omega (
      arith,
      length-append (drop k xs) ys,
      ap length (take-append-drop k xs),
      length-append (take k xs) (drop k xs),
      length-take k xs,
    )))
    ∙ ap (λ l. keep_last n l) whole)
    (λ (few : length xs ≤ n). ap (λ l. keep_last n (l ++ ys)) (last_few n xs few))
    (cases_lt n (length xs))

-- those of which a later row is at most so far after
pub last_near : (before n h : ℕ) (xs : List Row) → AreNumbered h xs → h + length xs ≡ n
    → filter (λ x. nat_le n (x.number + before)) xs ≡ keep_last before xs
last_near before n h [] are long = sym (last_none before [] refl)
last_near before n h (x ∷ xs) are long =
    let first = are.0 in
    ⊎_elim
    (λ (far : before < length (x ∷ xs)).
    cond-false (nat_le n (x.number + before)) _ _ (lt-leb n (x.number + before) (omega arith))
    ∙ last_near before n (h + 1) xs are.1 (omega arith)
    ∙ ap (λ k. drop k (x ∷ xs)) {x = suc (length xs - before)} {y = length (x ∷ xs) - before} (omega arith))
    (λ (all : length (x ∷ xs) ≤ before).
    filter_whole (λ y. nat_le n (y.number + before)) (x ∷ xs)
    (every-map (λ (y : Row). (h ≤ y.number) × (y.number < h + length (x ∷ xs)))
    (λ (y : Row). nat_le n (y.number + before) ≡ true)
    (λ y range. le-leb n (y.number + before) (omega arith)) (x ∷ xs) (numbered-range h (x ∷ xs) are))
    ∙ sym (last_few before (x ∷ xs) all))
    (cases_lt before (length (x ∷ xs)))
