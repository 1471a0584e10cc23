-- Items in order, each once: they are given by what is among them.
use Rattle.std.proofs.Common.{◌≡◌, Bool, true, false, List, [], ◌∷◌, ◌++◌, map, flat_map, All, Contains, Less, Equal}
use Rattle.std.proofs.Common.{Greater, refl, ap, sym, subst, ◌∙◌, append_assoc, append-nil, arith}
use Rattle.std.specs.declared.cmp.Ordering.{Ordering}
use Rattle.std.specs.Ordering.{match_ordering, ordering_then, ordering_reverse, is_eq, eq_by_cmp, bool_cmp}
use Rattle.std.specs.Cmp.{IsTotalOrder, bool_cmp_total}
use Rattle.std.specs.BTreeSet.{insert_key}
use Rattle.std.specs.List.{Any}
use Rattle.std.specs.List.Sorted.{IsPermutation, IsStrictlySortedBy}
use Rattle.std.proofs.lemmas.Cmp.{nat_list_cmp_total, on_total, then_total, tied_itself}
use Rattle.std.proofs.lemmas.List.Elements.{All-nil, All-cons, All-head, All-tail, All-weaker, All-contains}
use Rattle.std.proofs.lemmas.List.Elements.{All-contains_itself, All-map, recursion_from_All, Contains-append_right}
use Rattle.std.proofs.lemmas.List.Concat.{flat_map-append}
use Rattle.std.proofs.lemmas.List.Sorted.{All-permutation, Contains-permutation, IsPermutation-sym}
use Rattle.std.proofs.lemmas.List.Sorted.{IsPermutation-trans, IsPermutation-append_right, IsPermutation-append_comm}
use Rattle.std.proofs.lemmas.Map.Keys.{sorted_tail}
use Rattle.std.proofs.lemmas.Map.Lookups.{CmpEqualImpliesEq, exact_bytes}
use Rattle.std.proofs.lemmas.Map.Made.{Contains-tail}
use Rattle.std.proofs.lemmas.Map.Views.{All-after_first, All-insert_key}
use Rattle.pcre_io.specs.declared.entries.DirEntry.{DirEntry}
use Rattle.grep_targets.specs.declared.items.Item.{Item}
use Rattle.grep_targets.specs.Paths.{ItemParts, item_parts, item_cmp, with_items}

-- The order.

item_total : IsTotalOrder item_cmp
item_total = then_total (on_total (λ (item : ItemParts). item.path) nat_list_cmp_total)
    (on_total (λ (item : ItemParts). item.is_directory) bool_cmp_total)

both-equal : (o p : Ordering) → ordering_then o p ≡ Equal → (o ≡ Equal) × (p ≡ Equal)
both-equal Less p is = absurd (let no : Less ≡ Equal = is in cc)
both-equal Equal p is = (refl, is)
both-equal Greater p is = absurd (let no : Greater ≡ Equal = is in cc)

same-bool : (a b : Bool) → bool_cmp a b ≡ Equal → a ≡ b
same-bool false false is = refl
same-bool false true is = absurd (let no : Less ≡ Equal = is in cc)
same-bool true false is = absurd (let no : Greater ≡ Equal = is in cc)
same-bool true true is = refl

item_exact : CmpEqualImpliesEq item_cmp
item_exact a b is =
    let h = both-equal _ _ is in
    let path = exact_bytes a.path b.path h.0 in
    let kind = same-bool a.is_directory b.is_directory h.1 in
    λ i. record { path = path i; is_directory = kind i }

abbrev InOrder : List ItemParts → Type 0
InOrder items = IsStrictlySortedBy item_cmp items

order-nil : InOrder []
unfolding IsStrictlySortedBy
order-nil = tt

order-cons : (x : ItemParts) (items : List ItemParts) → All (λ y. item_cmp x y ≡ Less) items → InOrder items
    → InOrder (x ∷ items)
unfolding IsStrictlySortedBy
order-cons x items behind ordered = (recursion_from_All (λ y. item_cmp x y ≡ Less) items behind, ordered)

head-of : (x : ItemParts) (xs : List ItemParts) → Contains (x ∷ xs) x
head-of x xs = All-head (Contains (x ∷ xs)) x xs (All-contains_itself (x ∷ xs))

not-less : (x y : ItemParts) → item_cmp x y ≡ Less → item_cmp y x ≡ Less → ⊥
not-less x y one other = let no : Less ≡ Greater = sym one ∙ item_total.antisymm x y ∙ ap ordering_reverse other in cc

not-itself : (x y : ItemParts) → x ≡ y → item_cmp x y ≡ Less → ⊥
not-itself x y same less = let no : Equal ≡ Less = sym (tied_itself item_total x) ∙ ap (λ z. item_cmp x z) same
    ∙ less in cc

-- An item put at its place.

put-in-order : (items : List ItemParts) (item : ItemParts) → InOrder items → InOrder (insert_key item_cmp items item)
put-in-order [] item ordered = order-cons item [] (All-nil (λ y. item_cmp item y ≡ Less)) order-nil
put-in-order (x ∷ items) item ordered = by_order (put-in-order items item (sorted_tail item_cmp x items ordered))
    (item_cmp item x) refl
  where
    behind : All (λ y. item_cmp x y ≡ Less) items
    behind = All-after_first item_cmp x items ordered

    by_order : InOrder (insert_key item_cmp items item) → (o : Ordering) → item_cmp item x ≡ o
        → InOrder (match_ordering o (item ∷ x ∷ items) (x ∷ items) (x ∷ insert_key item_cmp items item))
    by_order later Less is =
        order-cons item (x ∷ items)
        (All-cons (λ y. item_cmp item y ≡ Less) x items is
        (All-weaker (λ y. item_cmp x y ≡ Less) (λ y. item_cmp item y ≡ Less)
        (λ y less. item_total.trans item x y is less) items behind))
        ordered
    by_order later Equal is = ordered
    by_order later Greater is =
        order-cons x (insert_key item_cmp items item)
        (All-insert_key item_cmp item (λ y. item_cmp x y ≡ Less) items behind
        (item_total.antisymm x item ∙ ap ordering_reverse is)) later

put-keeps : (items : List ItemParts) (item : ItemParts) → All (Contains (insert_key item_cmp items item)) (item ∷ items)
put-keeps [] item = All-contains_itself (item ∷ [])
put-keeps (x ∷ items) item = by_order (put-keeps items item) (item_cmp item x) refl
  where
    by_order : All (Contains (insert_key item_cmp items item)) (item ∷ items) → (o : Ordering) → item_cmp item x ≡ o
        → All (Contains (match_ordering o (item ∷ x ∷ items) (x ∷ items) (x ∷ insert_key item_cmp items item)))
        (item ∷ x ∷ items)
    by_order later Less is = All-contains_itself (item ∷ x ∷ items)
    by_order later Equal is =
        All-cons (Contains (x ∷ items)) item (x ∷ items)
        (subst (Contains (x ∷ items)) (sym (item_exact item x is)) (head-of x items))
        (All-contains_itself (x ∷ items))
    by_order later Greater is =
        let put = insert_key item_cmp items item in
        let more = All-weaker (Contains put) (Contains (x ∷ put)) (Contains-append_right (x ∷ []) put) (item ∷ items)
        later in
        All-cons (Contains (x ∷ put)) item (x ∷ items) (All-head (Contains (x ∷ put)) item items more)
        (All-cons (Contains (x ∷ put)) x items (head-of x put) (All-tail (Contains (x ∷ put)) item items more))

-- Items put at their places, one after the other.

all-in-order : (items others : List ItemParts) → InOrder items → InOrder (with_items items others)
all-in-order items [] ordered = ordered
all-in-order items (x ∷ others) ordered = all-in-order (insert_key item_cmp items x) others
    (put-in-order items x ordered)

all-kept : (items others : List ItemParts) → All (Contains (with_items items others)) items × All
    (Contains (with_items items others)) others
all-kept items [] = (All-contains_itself items, All-nil (Contains items))
all-kept items (x ∷ others) =
    let put = insert_key item_cmp items x in
    let whole = with_items put others in
    let later = all-kept put others in
    let kept = All-weaker (Contains put) (Contains whole) (λ y has. All-contains (Contains whole) put y later.0 has)
    (x ∷ items) (put-keeps items x) in (
      All-tail (Contains whole) x items kept,
      All-cons (Contains whole) x others
          (All-head (Contains whole) x items kept) later.1,
    )

none-new : (P : ItemParts → Type 0) (items others : List ItemParts) → All P items → All P others
    → All P (with_items items others)
none-new P items [] all more = all
none-new P items (x ∷ others) all more =
    none-new P (insert_key item_cmp items x) others (All-insert_key item_cmp x P items all (All-head P x others more))
    (All-tail P x others more)

-- Items in order with the same among them are the same.

later-of : (x : ItemParts) (xs ys : List ItemParts) → InOrder (x ∷ xs) → All (Contains (x ∷ ys)) xs
    → All (Contains ys) xs
later-of x xs ys ordered all =
    All-weaker (Contains xs) (Contains ys)
    (λ z has.
    Contains-tail x ys z (λ same. not-itself x z same
    (All-contains (λ q. item_cmp x q ≡ Less) xs z (All-after_first item_cmp x xs ordered) has))
    (All-contains (Contains (x ∷ ys)) xs z all has))
    xs (All-contains_itself xs)

same-head : (x y : ItemParts) (xs ys : List ItemParts) → InOrder (x ∷ xs) → InOrder (y ∷ ys) → Contains (y ∷ ys) x
    → Contains (x ∷ xs) y → x ≡ y
same-head x y xs ys one other has had = by_order (item_cmp x y) refl
  where
    behind : (a b : ItemParts) (bs : List ItemParts) → InOrder (b ∷ bs) → Contains (b ∷ bs) a → item_cmp a b ≡ Less → ⊥
    behind a b bs ordered in' less =
        let there = Contains-tail b bs a (λ same. not-itself a b (sym same) less) in' in
        not-less a b less (All-contains (λ q. item_cmp b q ≡ Less) bs a (All-after_first item_cmp b bs ordered) there)

    by_order : (o : Ordering) → item_cmp x y ≡ o → x ≡ y
    by_order Less is = absurd (behind x y ys other has is)
    by_order Equal is = item_exact x y is
    by_order Greater is = absurd (behind y x xs one had (item_total.antisymm y x ∙ ap ordering_reverse is))

in-order-same : (xs ys : List ItemParts) → InOrder xs → InOrder ys → All (Contains ys) xs → All (Contains xs) ys
    → xs ≡ ys
in-order-same [] [] one other all back = refl
in-order-same [] (y ∷ ys) one other all back =
    absurd (let none = All-head (Contains []) y ys back in omega (arith, none.1))
in-order-same (x ∷ xs) [] one other all back =
    absurd (let none = All-head (Contains []) x xs all in omega (arith, none.1))
in-order-same (x ∷ xs) (y ∷ ys) one other all back =
    let head = same-head x y xs ys one other (All-head (Contains (y ∷ ys)) x xs all)
    (All-head (Contains (x ∷ xs)) y ys back) in
    let rest = in-order-same xs ys (sorted_tail item_cmp x xs one) (sorted_tail item_cmp y ys other)
    (later-of x xs ys one (subst (λ q. All (Contains (q ∷ ys)) xs) (sym head) (All-tail (Contains (y ∷ ys)) x xs all)))
    (later-of y ys xs other (subst (λ q. All (Contains (q ∷ xs)) ys) head (All-tail (Contains (x ∷ xs)) y ys back))) in
    λ i. head i ∷ rest i

-- what stands in order with no item more nor less, is these items at their places
pub in-order-is : (items others : List ItemParts) → InOrder items → All (Contains items) others
    → All (Contains others) items → items ≡ with_items [] others
in-order-is items others ordered kept none =
    let whole = with_items [] others in
    in-order-same items whole ordered (all-in-order [] others order-nil)
    (All-weaker (Contains others) (Contains whole)
    (λ x has. All-contains (Contains whole) others x (all-kept [] others).1 has) items none)
    (All-weaker (Contains others) (Contains items) (λ x has. All-contains (Contains items) others x kept has) whole
    (none-new (Contains others) [] others (All-nil (Contains others)) (All-contains_itself others)))

-- What is left of entries that were put in order.

abbrev by_parts : Item → Item → Ordering
by_parts a b = item_cmp (item_parts a) (item_parts b)

parts-in-order : (items : List Item) → IsStrictlySortedBy by_parts items → InOrder (map item_parts items)
parts-in-order [] ordered = order-nil
parts-in-order (x ∷ items) ordered =
    order-cons (item_parts x) (map item_parts items)
    (All-map (λ y. item_cmp (item_parts x) y ≡ Less) item_parts items (All-after_first by_parts x items ordered))
    (parts-in-order items (sorted_tail by_parts x items ordered))

has-parts : (items : List Item) → All (λ x. Contains (map item_parts items) (item_parts x)) items
has-parts [] = All-nil (λ x. Contains [] (item_parts x))
has-parts (x ∷ items) =
    let parts = map item_parts items in
    let P = λ (y : Item). Contains (item_parts x ∷ parts) (item_parts y) in
    All-cons P x items (head-of (item_parts x) parts)
    (All-weaker (λ y. Contains parts (item_parts y)) P
    (λ y. Contains-append_right (item_parts x ∷ []) parts (item_parts y)) items (has-parts items))

equal-from : (o : Ordering) → is_eq o ≡ true → o ≡ Equal
equal-from Less is = absurd (let no : false ≡ true = is in cc)
equal-from Equal is = refl
equal-from Greater is = absurd (let no : false ≡ true = is in cc)

-- the items that were found, in whatever order, and those that are left of them
pub ordered-is : (found : List ItemParts) (old new : List Item) → IsPermutation found (map item_parts old)
    → IsStrictlySortedBy by_parts new → All (λ x. Any (λ y. eq_by_cmp by_parts x y ≡ true) new) old
    → All (Contains old) new → map item_parts new ≡ with_items [] found
ordered-is found old new moved ordered kept none =
    let parts = map item_parts new in
    in-order-is parts found (parts-in-order new ordered)
    (All-permutation (Contains parts) (map item_parts old) found (IsPermutation-sym found (map item_parts old) moved)
    (All-map (Contains parts) item_parts old
    (All-weaker (λ x. Any (λ y. eq_by_cmp by_parts x y ≡ true) new) (λ x. Contains parts (item_parts x)) is_left
    old kept)))
    (All-map (Contains found) item_parts new
    (All-weaker (Contains old) (λ x. Contains found (item_parts x)) was_found new none))
  where
    is_left : (x : Item) → Any (λ y. eq_by_cmp by_parts x y ≡ true) new → Contains (map item_parts new) (item_parts x)
    is_left x any =
        let y = any.1 in
        let same = item_exact (item_parts x) (item_parts y) (equal-from (by_parts x y) any.4) in
        subst (Contains (map item_parts new)) (sym same)
        (All-contains (λ z. Contains (map item_parts new) (item_parts z)) new y (has-parts new)
        (any.0, any.2, any.3))

    was_found : (x : Item) → Contains old x → Contains found (item_parts x)
    was_found x has =
        Contains-permutation (map item_parts old) found (item_parts x)
        (IsPermutation-sym found (map item_parts old) moved)
        (All-contains (λ z. Contains (map item_parts old) (item_parts z)) old x (has-parts old) has)

-- a loop's step: the last entry that is left goes to the items that were found
pub found-more : (f : DirEntry → List ItemParts) (found some more : List ItemParts) (left rest : List DirEntry)
    (entry : DirEntry)
    → left ≡ rest ++ entry ∷ [] → more ≡ some ++ f entry → IsPermutation found (some ++ flat_map f left)
    → IsPermutation found (more ++ flat_map f rest)
found-more f found some more left rest entry last grown moved =
    let of = flat_map f rest in
    let cut : flat_map f left ≡ of ++ f entry = ap (flat_map f) last ∙ flat_map-append f rest (entry ∷ [])
    ∙ ap (λ l. of ++ l) (append-nil (f entry)) in
    let turned = IsPermutation-append_right some (of ++ f entry) (f entry ++ of)
    (IsPermutation-append_comm of (f entry)) in
    subst (IsPermutation found) (sym (append_assoc some (f entry) of) ∙ ap (λ l. l ++ of) (sym grown))
    (IsPermutation-trans found (some ++ (of ++ f entry)) (some ++ (f entry ++ of))
    (subst (λ l. IsPermutation found (some ++ l)) cut moved) turned)
