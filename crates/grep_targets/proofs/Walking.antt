-- The stack of a walk, and what is told of it.
use Rattle.std.proofs.Common.{◌≡◌, ℕ, zero, suc, ◌+◌, ◌*◌, ◌<◌, ◌≤◌, Bool, true, false, List, [], ◌∷◌, ◌++◌, length}
use Rattle.std.proofs.Common.{map, reverse, flat_map, Option, Some, None, IfSome, refl, ap, sym, subst, ◌∙◌}
use Rattle.std.proofs.Common.{append_assoc, append-nil, arith}
use Rattle.std.proofs.lemmas.List.{reverse-append, reverse-reverse}
use Rattle.std.proofs.Math.Nat.{mul-lt-mul_of_pos_right, suc-mul}
use Rattle.std.proofs.lemmas.List.Concat.{flat_map-append}
use Rattle.std.proofs.lemmas.List.Sums.{sum_by-append, sum_by_push}
use Rattle.pcre_io.specs.Causes.{Rose}
use Rattle.pcre_io.specs.Files.{Contents, listed_entries, HasEntries}
use Rattle.pcre_io.specs.declared.entries.DirEntry.{DirEntry}
use Rattle.tool_io.specs.declared.target.Target.{Target}
use Rattle.tool_io.specs.declared.target.Target.TheVariants.{TooDeep}
use Rattle.grep_targets.specs.Filters.{Filter}
use Rattle.grep_targets.specs.Paths.{ItemParts, items_in}
use Rattle.grep_targets.specs.Targets.{allows_directory, item_targets, directory_targets, file_targets}
use Rattle.grep_targets.specs.Targets.{listed_targets, unnamed_targets}
use Rattle.grep_targets.specs.Walks.{PendingParts, at_levels, pending_targets, stack_targets, stack_weight, weight}
use Rattle.grep_targets.specs.Walks.{has_failed, walking, Grows, HasCauses, Steps, Walk}

-- faults that were counted before or after

pub rose_later : (first mid last : ℕ) → Rose first mid → mid ≤ last → Rose first last
rose_later first mid last rose later = omega (arith, rose, later)

pub rose_before : (first mid last : ℕ) → first ≤ mid → Rose mid last → Rose first last
rose_before first mid last later rose = omega (arith, rose, later)

pub causes_then : (before between after : List Target) (first mid last : ℕ) → first ≤ mid → mid ≤ last
    → HasCauses before between first mid → HasCauses between after mid last → HasCauses before after first last
causes_then before between after first mid last l1 l2 one two none some = by_failed (has_failed between) refl
  where
    by_failed : (failed : Bool) → has_failed between ≡ failed → Rose first last
    by_failed false is = rose_before first mid last l1 (two is some)
    by_failed true is = rose_later first mid last (one none is) l2

-- no failed target was added
pub unfailed_causes : (before after : List Target) (first last : ℕ) → has_failed after ≡ has_failed before
    → HasCauses before after first last
unfailed_causes before after first last same none some =
    absurd (let no : false ≡ true = sym (same ∙ none) ∙ some in cc)

-- the stack

pub stack_push : (filter : Filter) (set : Contents) (stack : List PendingParts) (p : PendingParts)
    → stack_targets filter set (stack ++ p ∷ []) ≡ pending_targets filter set p ++ stack_targets filter set stack
stack_push filter set stack p = ap (flat_map (pending_targets filter set)) (reverse-append stack (p ∷ []))

items_on : (filter : Filter) (set : Contents) (levels : ℕ) (items : List ItemParts)
    → flat_map (pending_targets filter set) (map (at_levels levels) items) ≡ flat_map
    (item_targets filter (directory_targets filter set levels)) items
items_on filter set levels [] = refl
items_on filter set levels (i ∷ items) = ap (λ l. item_targets filter (directory_targets filter set levels) i ++ l)
    (items_on filter set levels items)

pub stack_items : (filter : Filter) (set : Contents) (levels : ℕ) (stack : List PendingParts) (items : List ItemParts)
    → stack_targets filter set (stack ++ reverse (map (at_levels levels) items)) ≡ flat_map
    (item_targets filter (directory_targets filter set levels)) items ++ stack_targets filter set stack
stack_items filter set levels stack items =
    let added = map (at_levels levels) items in
    ap (flat_map (pending_targets filter set)) (reverse-append stack (reverse added)
    ∙ ap (λ l. l ++ reverse stack) (reverse-reverse added))
    ∙ flat_map-append (pending_targets filter set) added (reverse stack)
    ∙ ap (λ l. l ++ stack_targets filter set stack) (items_on filter set levels items)

-- its weight

some_weight : (levels : ℕ) → 1 ≤ weight levels
unfolding weight
some_weight zero = omega arith
some_weight (suc levels) = let h = some_weight levels in omega (arith, h)

weight_snoc : (stack : List PendingParts) (p : PendingParts)
    → stack_weight (stack ++ p ∷ []) ≡ stack_weight stack + weight p.levels
weight_snoc stack p = sum_by_push (λ (p : PendingParts). weight p.levels) stack p

items_weight : (levels : ℕ) (items : List ItemParts)
    → stack_weight (reverse (map (at_levels levels) items)) ≡ length items * weight levels
items_weight levels [] = let none : 0 ≡ 0 * weight levels = omega arith in none
items_weight levels (i ∷ items) =
    ap stack_weight (reverse-append (at_levels levels i ∷ []) (map (at_levels levels) items))
    ∙ weight_snoc (reverse (map (at_levels levels) items)) (at_levels levels i)
    ∙ ap (λ n. n + weight levels) (items_weight levels items) ∙ sym (suc-mul (length items) (weight levels))

pub lighter_items : (levels : ℕ) (stack : List PendingParts) (items : List ItemParts)
    → length items < 18446744073709551616
    → stack_weight (stack ++ reverse (map (at_levels levels) items)) < stack_weight stack + weight (suc levels)
unfolding weight
lighter_items levels stack items few =
    let added = reverse (map (at_levels levels) items) in
    let whole = sum_by-append (λ (p : PendingParts). weight p.levels) stack added in
    let n = items_weight levels items in
    let m = mul-lt-mul_of_pos_right {k = weight levels} few (some_weight levels) in
    omega (arith, whole, n, m)

-- steps

-- what is told at once, where nothing comes onto the stack
pub told_step : (filter : Filter) (contents : Option Contents) (wanted : Contents → List Target) (levels : ℕ)
    (stack : List PendingParts) (told more : List Target)
    → ((set : Contents) → contents ≡ Some set → more ≡ told ++ wanted set)
    → Steps filter contents wanted (weight levels) (walking stack told) (walking stack more)
told_step filter contents wanted levels stack told more is = record {
  exact = over contents refl;
  lighter = (let h = some_weight levels in omega (arith, h));
}
  where
    over : (c : Option Contents) → contents ≡ c
        → IfSome c (λ set. more ++ stack_targets filter set stack ≡ told ++ wanted set ++ stack_targets filter set
        stack)
    over None e = tt
    over (Some set) e = ap (λ l. l ++ stack_targets filter set stack) (is set e)

-- a directory's entries
pub entries_step : (filter : Filter) (contents : Option Contents) (path : List ℕ) (levels : ℕ)
    (entries : List DirEntry) (stack after : List PendingParts) (told more : List Target)
    → length (items_in path entries) < 18446744073709551616
    → more ≡ told ++ unnamed_targets path entries → after ≡ stack ++ reverse
    (map (at_levels levels) (items_in path entries))
    → Steps filter contents (λ set. listed_targets filter (directory_targets filter set levels) path (Some entries))
    (weight (suc levels)) (walking stack told) (walking after more)
entries_step filter contents path levels entries stack after told more few grown put = record {
  exact = over contents;
  lighter = subst (λ l. stack_weight l < stack_weight stack + weight (suc levels)) (sym put)
      (lighter_items levels stack (items_in path entries) few);
}
  where
    over : (c : Option Contents)
        → IfSome c (λ set. more ++ stack_targets filter set after ≡ told ++ listed_targets filter
        (directory_targets filter set levels) path (Some entries) ++ stack_targets filter set stack)
    over None = tt
    over (Some set) =
        let below = flat_map (item_targets filter (directory_targets filter set levels)) (items_in path entries) in
        ap (λ l. l ++ stack_targets filter set after) grown
        ∙ ap (λ l. (told ++ unnamed_targets path entries) ++ l) (ap (stack_targets filter set) put
        ∙ stack_items filter set levels stack (items_in path entries))
        ∙ sym (append_assoc (told ++ unnamed_targets path entries) below (stack_targets filter set stack))
        ∙ ap (λ l. l ++ stack_targets filter set stack) (append_assoc told (unnamed_targets path entries) below)

-- the same targets by other words
pub step_as : (filter : Filter) (contents : Option Contents) (wanted wanted' : Contents → List Target) (heavy : ℕ)
    {old new : Walk}
    → ((set : Contents) → contents ≡ Some set → wanted set ≡ wanted' set) → Steps filter contents wanted heavy old new
    → Steps filter contents wanted' heavy old new
step_as filter contents wanted wanted' heavy {old} {new} same s = record {
  exact = over contents refl s.exact;
  lighter = s.lighter;
}
  where
    over : (c : Option Contents) → contents ≡ c
        → IfSome c (λ set. new.told ++ stack_targets filter set new.stack ≡ old.told ++ wanted set ++ stack_targets
        filter set old.stack)
        → IfSome c (λ set. new.told ++ stack_targets filter set new.stack ≡ old.told ++ wanted' set ++ stack_targets
        filter set old.stack)
    over None e h = tt
    over (Some set) e h = h ∙ ap (λ l. (old.told ++ l) ++ stack_targets filter set old.stack) (same set e)

-- the loop

-- what was told, with what stands on the stack, is what was to be told
abbrev pub Going : Filter → Option Contents → (Contents → List Target) → List Target → List Target → List PendingParts
    → Type 0
Going filter contents wanted told now stack =
    IfSome contents (λ set. now ++ stack_targets filter set stack ≡ told ++ wanted set)

pub going_on : (filter : Filter) (contents contents' : Option Contents) (wanted : Contents → List Target)
    (told now more : List Target) (stack rest after : List PendingParts) (p : PendingParts) (heavy : ℕ)
    → contents' ≡ contents → stack ≡ rest ++ p ∷ [] → Going filter contents wanted told now stack
    → Steps filter contents' (λ set. pending_targets filter set p) heavy (walking rest now) (walking after more)
    → Going filter contents wanted told more after
going_on filter contents contents' wanted told now more stack rest after p heavy same top so_far s =
    over contents so_far
    (subst (λ c. IfSome c (λ set. more ++ stack_targets filter set after ≡ now ++ pending_targets filter set p
    ++ stack_targets filter set rest)) same s.exact)
  where
    over : (c : Option Contents) → IfSome c (λ set. now ++ stack_targets filter set stack ≡ told ++ wanted set)
        → IfSome c (λ set. more ++ stack_targets filter set after ≡ now ++ pending_targets filter set p
        ++ stack_targets filter set rest)
        → IfSome c (λ set. more ++ stack_targets filter set after ≡ told ++ wanted set)
    over None h k = tt
    over (Some set) h k =
        k ∙ append_assoc now (pending_targets filter set p) (stack_targets filter set rest)
        ∙ ap (λ l. now ++ l) (sym (stack_push filter set rest p) ∙ ap (stack_targets filter set) (sym top)) ∙ h

pub going_first : (filter : Filter) (contents : Option Contents) (told : List Target) (stack : List PendingParts)
    (p : PendingParts) → stack ≡ p ∷ [] → Going filter contents (λ set. pending_targets filter set p) told told stack
going_first filter None told stack p is = tt
going_first filter (Some set) told stack p is = ap (λ l. told ++ l)
    (ap (stack_targets filter set) is ∙ append-nil (pending_targets filter set p))

-- targets by other words

pub listed_as : (filter : Filter) (contents : Option Contents) (path name : List ℕ) (levels : ℕ)
    (answer : Option (List DirEntry)) (set : Contents) → contents ≡ Some set → name ≡ path
    → HasEntries contents name answer
    → listed_targets filter (directory_targets filter set levels) path answer ≡ directory_targets filter set
    (suc levels) path
listed_as filter contents path name levels answer set is same has =
    let h : listed_entries name set ≡ answer = subst (λ c. HasEntries c name answer) is has in
    ap (listed_targets filter (directory_targets filter set levels) path) (sym h ∙ ap (λ n. listed_entries n set) same)

pub too_deep : (filter : Filter) (set : Contents) (levels : ℕ) (path : List ℕ) → levels ≡ 0
    → TooDeep path ∷ [] ≡ directory_targets filter set levels path
too_deep filter set levels path none = ap (λ n. directory_targets filter set n path) (sym none)

pub file_item : (filter : Filter) (below : List ℕ → List Target) (item : ItemParts) → item.is_directory ≡ false
    → file_targets filter item.path ≡ item_targets filter below item
file_item filter below item is = rw is refl

pub directory_item : (filter : Filter) (below : List ℕ → List Target) (item : ItemParts) → item.is_directory ≡ true
    → allows_directory filter item.path ≡ true → below item.path ≡ item_targets filter below item
directory_item filter below item is allowed = rw (is, allowed) refl

pub barred_item : (filter : Filter) (below : List ℕ → List Target) (item : ItemParts) → item.is_directory ≡ true
    → allows_directory filter item.path ≡ false → [] ≡ item_targets filter below item
barred_item filter below item is barred = rw (is, barred) refl

-- words

pub words-on : (contents contents' : Option Contents) (f : Contents → List ℕ → List Target)
    (words rest : List (List ℕ)) (word : List ℕ) (told more : List Target) → contents' ≡ contents
    → IfSome contents (λ set. told ++ flat_map (f set) (word ∷ rest) ≡ flat_map (f set) words)
    → Grows contents' (λ set. f set word) told more
    → IfSome contents (λ set. more ++ flat_map (f set) rest ≡ flat_map (f set) words)
words-on contents contents' f words rest word told more same so_far grown =
    over contents so_far (subst (λ c. Grows c (λ set. f set word) told more) same grown)
  where
    over : (c : Option Contents) → IfSome c (λ set. told ++ flat_map (f set) (word ∷ rest) ≡ flat_map (f set) words)
        → Grows c (λ set. f set word) told more
        → IfSome c (λ set. more ++ flat_map (f set) rest ≡ flat_map (f set) words)
    over None h k = tt
    over (Some set) h k = ap (λ l. l ++ flat_map (f set) rest) k
        ∙ append_assoc told (f set word) (flat_map (f set) rest) ∙ h
