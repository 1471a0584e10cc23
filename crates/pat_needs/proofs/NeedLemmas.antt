-- Needed texts as they are kept, joined as the definition joins them.
use Rattle.std.proofs.Common.{◌≡◌, ◌∙◌, ℕ, zero, suc, ◌-◌, ◌<◌, ◌≤◌, ◌⊎◌, ◌&&◌, if◌then◌else◌, Bool, true, false}
use Rattle.std.proofs.Common.{List, [], ◌∷◌, map, Option, Some, None, All, inl, inr, length, drop, get_or, replicate}
use Rattle.std.proofs.Common.{refl, sym, ap, subst, arith}
use Rattle.std.specs.Prelude.{IfSome}
use Rattle.std.proofs.lemmas.List.{get_or_default}
use Rattle.std.proofs.lemmas.List.Elements.{All-get_or}
use Rattle.pat_tree.specs.declared.nodes.Item.{Item}
use Rattle.pat_tree.specs.Nested as tree
use Rattle.pat_tree.specs.Nested.{Nested, Row, row}
use Rattle.char_sets.specs.Sets.{class_has}
use Rattle.pat_tree.specs.Parts.{TreeParts, tree_of}
use Rattle.pat_needs.specs.Needs.{TakesOf, IsShort, IsShortBefore, Begins, copies, Needs, SomeNeeds, AllNeed}
use Rattle.pat_needs.specs.Texts.{sets_of, AreUnions}
use Rattle.pat_needs.specs.declared.needs.Taken.{Taken}
use Rattle.pat_needs.specs.Distances.{IsLong, NeedsAt}
use Rattle.pat_needs.specs.declared.needs.BeginText.{BeginText}
use Rattle.pat_needs.specs.declared.text.ByteText.{ByteText}
use Rattle.pat_needs.specs.declared.needs.Distant.{Distant}
use Rattle.pat_needs.specs.NeedTables.{may_of, IsItemNeed, IsNeed, IsRun, IsSomeNeed, AreAllNeeds, AreNeeds}
use Rattle.pat_needs.specs.NeedTables.{IsDistant, IsBoundLacking, IsLacking, IsNeedOf}
use Rattle.pat_bounds.specs.Bounds.{bound}
use Rattle.pat_bounds.specs.declared.bounds.Bound.{Bound}
use Rattle.pat_needs.specs.declared.lacking.Lacking.{Lacking}
use Rattle.pat_needs.specs.declared.needs.Need.{Need}
use Rattle.pat_needs.specs.declared.needs.Wanted.{Wanted}
use Rattle.pat_bounds.proofs.Backwards.{back}
use Rattle.pat_needs.proofs.TextLemmas.{Wider, begins_more, wider_left, wider_right, clash}

-- A text that holds more is needed too.

module _ (may : Item → ℕ → Bool) (utf anywhere : Bool) (old new : List (List Bool)) (wider : Wider old new) where
  mutual
    pub needs_more : (t : Nested) → Needs may utf anywhere old t → Needs may utf anywhere new t
    needs_more tree.empty h = h
    needs_more (tree.one item) h = begins_more may utf old new wider (tree.more (tree.one item) tree.none) h
    needs_more tree.line_break h = h
    needs_more (tree.seq ts) h = some_more ts h
    needs_more (tree.group number ts) h = all_more ts h
    needs_more (tree.repeat t low high lazily) h = h
    needs_more (tree.one_repeat item low high lazily) h = begins_more may utf old new wider (copies low item) h
    needs_more (tree.atomic ts) h = all_more ts h
    needs_more (tree.look true true once ts) h = all_more ts h
    needs_more (tree.look true false once ts) h = h
    needs_more (tree.look false positive once ts) h = h
    needs_more (tree.condition test first second) h = h
    needs_more (tree.call n) h = h
    needs_more (tree.ref ns caseless) h = h
    needs_more (tree.anchor kind) h = h
    needs_more tree.keep_out h = h
    needs_more (tree.verb v) h = h
    needs_more (tree.callout c) h = h

    pub some_more : (ts : Row) → SomeNeeds may utf anywhere old ts → SomeNeeds may utf anywhere new ts
    some_more tree.none h = h
    some_more (tree.more t ts) (inl h) = inl (needs_more t h)
    some_more (tree.more t ts) (inr (inl h)) = inr (inl (begins_more may utf old new wider (tree.more t ts) h))
    some_more (tree.more t ts) (inr (inr h)) = inr (inr (h.0, some_more ts h.1))

    pub all_more : (ts : Row) → AllNeed may utf anywhere old ts → AllNeed may utf anywhere new ts
    all_more tree.none h = tt
    all_more (tree.more t ts) h = (needs_more t h.0, all_more ts h.1)

-- one more branch
pub both_need : (may : Item → ℕ → Bool) (utf anywhere : Bool) (t : Nested) (ts : Row)
    (others one new : List (List Bool)) → AreUnions new others one →
    Needs may utf anywhere one t → AllNeed may utf anywhere others ts → AllNeed may utf anywhere new (tree.more t ts)
both_need may utf anywhere t ts others one new joined h k = (
  needs_more may utf anywhere one new (wider_right new others one joined) t h,
  all_more may utf anywhere others new (wider_left new others one joined) ts k,
)

-- what holds of the parts from one place on holds from the place before it on
pub needs_back : (may : Item → ℕ → Bool) (utf anywhere : Bool) (of : ℕ → Nested) (needs : List (Option Wanted))
    (xs : List ℕ) (i : ℕ) (first : Option Wanted) (Had Has : Row → Type 0) →
    0 < i → i ≤ length xs → first ≡ get_or needs (get_or xs (i - 1) 0) None →
    (AreNeeds may utf anywhere of needs (drop i xs) → Had (row (map of (drop i xs)))) →
    ((t : Nested) (ts : Row) → IsNeed may utf anywhere t first → Had ts → Has (tree.more t ts)) →
    AreNeeds may utf anywhere of needs (drop (i - 1) xs) → Has (row (map of (drop (i - 1) xs)))
needs_back may utf anywhere of needs xs i first Had Has p l is rest join =
    rw (back xs i p l) (λ kept. join _ _ (rw is (kept 0 0 (omega arith)))
    (rest (λ k d l. kept (suc k) d (omega (arith, l)))))

-- what is read at a number of the list
pub need_read : (needs : List (Option Wanted)) (xs : List ℕ) (i : ℕ) (first : Option Wanted) → i < length xs
    → All (λ k. k < length needs) xs →
    first ≡ get_or needs (get_or xs i 0) first → first ≡ get_or needs (get_or xs i 0) None
need_read needs xs i first l all is = is ∙ get_or_default needs (get_or xs i 0) first None
    (All-get_or (λ k. k < length needs) xs i 0 l all)

-- Of parts in turn.

module _ (may : Item → ℕ → Bool) (utf anywhere : Bool) (t : Nested) (ts : Row) where
  pub some_part : (need copy : Option Wanted) → IsNeed may utf anywhere t need → IfSome copy (λ w. w.is_item ≡ false) →
      ((wanted : Wanted) → need ≡ Some wanted → IfSome copy (λ w. sets_of w.text ≡ sets_of wanted.text))
      → (need ≡ None → copy ≡ None) →
      IsSomeNeed may utf anywhere (tree.more t ts) copy
  some_part need None h i s n = tt
  some_part (Some wanted) (Some w) h i s n =
      (i, inl (subst (λ x. Needs may utf anywhere x t) (sym (s wanted refl)) h.needs))
  some_part None (Some w) h i s n = let e = n refl in absurd cc

  pub some_run : (run copy : Option Wanted) → IsRun may utf (tree.more t ts) run
      → IfSome copy (λ w. w.is_item ≡ false) →
      ((wanted : Wanted) → run ≡ Some wanted → IfSome copy (λ w. sets_of w.text ≡ sets_of wanted.text))
      → (run ≡ None → copy ≡ None) →
      IsSomeNeed may utf anywhere (tree.more t ts) copy
  some_run run None h i s n = tt
  some_run (Some wanted) (Some w) h i s n =
      (i, inr (inl (subst (λ x. Begins may utf x (tree.more t ts)) (sym (s wanted refl)) h.1)))
  some_run None (Some w) h i s n = let e = n refl in absurd cc

  pub some_later : (best earlier : Option Wanted) → earlier ≡ (if anywhere then best else None)
      → IsSomeNeed may utf anywhere ts best → IsSomeNeed may utf anywhere (tree.more t ts) earlier
  some_later best earlier e h = by_place anywhere best refl e h
    where
      by_place : (here : Bool) (best : Option Wanted) → anywhere ≡ here → earlier ≡ (if here then best else None)
          → IsSomeNeed may utf anywhere ts best
          → IsSomeNeed may utf anywhere (tree.more t ts) earlier
      by_place false best is e h = subst (IsSomeNeed may utf anywhere (tree.more t ts)) (sym e) tt
      by_place true None is e h = subst (IsSomeNeed may utf anywhere (tree.more t ts)) (sym e) tt
      by_place true (Some w) is e h = subst (IsSomeNeed may utf anywhere (tree.more t ts)) (sym e)
          (h.0, inr (inr (is, h.1)))

pub some_of_three : (may : Item → ℕ → Bool) (utf anywhere : Bool) (ts : Row) (best one other r : Option Wanted)
    → (r ≡ best) ⊎ ((r ≡ one) ⊎ (r ≡ other)) →
    IsSomeNeed may utf anywhere ts best → IsSomeNeed may utf anywhere ts one → IsSomeNeed may utf anywhere ts other
    → IsSomeNeed may utf anywhere ts r
some_of_three may utf anywhere ts best one other r (inl e) h k l = subst (IsSomeNeed may utf anywhere ts) (sym e) h
some_of_three may utf anywhere ts best one other r (inr (inl e)) h k l =
    subst (IsSomeNeed may utf anywhere ts) (sym e) k
some_of_three may utf anywhere ts best one other r (inr (inr e)) h k l =
    subst (IsSomeNeed may utf anywhere ts) (sym e) l

-- Of an item, and of what holds it.

-- what a text of one byte takes
one_begins : (may : Item → ℕ → Bool) (utf : Bool) (item : Item) (w : Wanted) → sets_of w.text ≡ w.text.first ∷ []
    → TakesOf may w.text.first item
    → Begins may utf (sets_of w.text) (tree.more (tree.one item) tree.none)
one_begins may utf item w e h = subst (λ s. Begins may utf s (tree.more (tree.one item) tree.none)) (sym e)
    ((item, (refl, h)), (tt, tt))

same_item : (item other : Item) → tree.one item ≡ tree.one other → item ≡ other
same_item item other e = cc

pub needs_one : (may : Item → ℕ → Bool) (utf anywhere : Bool) (item : Item) (r : Option Wanted)
    → IfSome r (λ w. sets_of w.text ≡ w.text.first ∷ []) →
    IfSome r (λ w. TakesOf may w.text.first item × (w.is_short ≡ true → IsShort may utf item))
    → IsNeed may utf anywhere (tree.one item) r
needs_one may utf anywhere item None e h = tt
needs_one may utf anywhere item (Some w) e h = record {
  needs = one_begins may utf item w e h.0;
  item = λ yes. (item, (refl, h.0));
  short = λ yes other is. subst (IsShort may utf) (same_item item other is) (h.1 yes);
}

pub needs_repeat : (may : Item → ℕ → Bool) (utf anywhere : Bool) (item : Item) (low : ℕ) (high : Option ℕ)
    (lazily : Bool) (r : Option Wanted) →
    IfSome r (λ w. w.is_item ≡ false) → IfSome r (λ w. Begins may utf (sets_of w.text) (copies low item))
    → IsNeed may utf anywhere (tree.one_repeat item low high lazily) r
needs_repeat may utf anywhere item low high lazily None i h = tt
needs_repeat may utf anywhere item low high lazily (Some w) i h = record {
  needs = h;
  item = λ yes. absurd (clash _ yes i);
  short = λ yes other is. absurd cc;
}

-- a set as often as an item is taken, where that takes one byte each time but the last
pub copies_begin : (may : Item → ℕ → Bool) (utf : Bool) (item : Item) (set : List Bool) (n times : ℕ) → n ≤ times
    → TakesOf may set item → (1 < n → IsShort may utf item)
    → Begins may utf (replicate n set) (copies times item)
copies_begin may utf item set zero times le h short = tt
copies_begin may utf item set (suc n) zero le h short = absurd (omega (arith, le))
copies_begin may utf item set (suc n) (suc times) le h short = (
  (item, (refl, h)),
  (
    short_before n short,
    copies_begin may utf item set n times (omega (arith, le)) h
        (λ two. short (omega (arith, two))),
  ),
)
  where
    short_before : (n : ℕ) → (1 < suc n → IsShort may utf item)
        → IsShortBefore may utf (replicate n set) (tree.one item)
    short_before zero short = tt
    short_before (suc n) short = λ other is. subst (IsShort may utf) (same_item item other is) (short (omega arith))

pub needs_turn : (may : Item → ℕ → Bool) (utf anywhere : Bool) (ts : Row) (r : Option Wanted)
    → IsSomeNeed may utf anywhere ts r → IsNeed may utf anywhere (tree.seq ts) r
needs_turn may utf anywhere ts None h = tt
needs_turn may utf anywhere ts (Some w) h = record {
  needs = h.1;
  item = λ yes. absurd (clash _ yes h.0);
  short = λ yes other is. absurd cc;
}

pub needs_group : (may : Item → ℕ → Bool) (utf anywhere : Bool) (number : Option ℕ) (ts : Row) (r : Option Wanted)
    → AreAllNeeds may utf anywhere ts r → IsNeed may utf anywhere (tree.group number ts) r
needs_group may utf anywhere number ts None h = tt
needs_group may utf anywhere number ts (Some w) h = record {
  needs = h.1;
  item = λ yes. absurd (clash _ yes h.0);
  short = λ yes other is. absurd cc;
}

pub needs_atomic : (may : Item → ℕ → Bool) (utf anywhere : Bool) (ts : Row) (r : Option Wanted)
    → AreAllNeeds may utf anywhere ts r → IsNeed may utf anywhere (tree.atomic ts) r
needs_atomic may utf anywhere ts None h = tt
needs_atomic may utf anywhere ts (Some w) h = record {
  needs = h.1;
  item = λ yes. absurd (clash _ yes h.0);
  short = λ yes other is. absurd cc;
}

needs_look_at : (may : Item → ℕ → Bool) (utf anywhere : Bool) (atomic : Bool) (ts : Row) (r : Option Wanted)
    → AreAllNeeds may utf anywhere ts r → IsNeed may utf anywhere (tree.look true true atomic ts) r
needs_look_at may utf anywhere atomic ts None h = tt
needs_look_at may utf anywhere atomic ts (Some w) h = record {
  needs = h.1;
  item = λ yes. absurd (clash _ yes h.0);
  short = λ yes other is. absurd cc;
}

pub need_whole : (t : TreeParts) (b : Bound) (lacking : Option Lacking) (r : Option Need)
    → bound (class_has t) (tree_of t) ≡ Some b → IfSome lacking (IsLacking t)
    → IfSome r (λ need. (from : Lacking) × ((lacking ≡ Some from)
    × ((sets_of need.text ≡ sets_of from.wanted.text) × (need.lacking ≡ from.bound))))
    → IfSome r (λ need. IfSome need.begin (λ begin. NeedsAt (may_of t) t.options.utf (sets_of begin.text)
    begin.distance (tree_of t)))
    → IfSome r (λ need. IfSome need.other (λ other. Needs (may_of t) t.options.utf true (sets_of other) (tree_of t)))
    → IfSome r (λ need. need.bound ≡ b) → IfSome r (IsNeedOf t)
need_whole t b lacking None e h k m o l = tt
need_whole t b lacking (Some need) e h k m o l =
    let from : IsLacking t k.0 = subst (λ o. IfSome o (IsLacking t)) k.1.0 h in
    record {
      text = subst (λ sets. Needs (may_of t) t.options.utf true sets (tree_of t)) (sym k.1.1.0) from.text;
      lacking = subst (λ sets. IsBoundLacking t sets need.lacking) (sym k.1.1.0)
          (subst (IsBoundLacking t (sets_of k.0.wanted.text)) (sym k.1.1.1) from.bound);
      begin = m;
      other = o;
      bound = e ∙ ap Some (sym l);
    }

-- what is told of a text that is kept
pub begin_kept : (P : BeginText → Type 0) (r : Option Need) (told : Option BeginText)
    → IfSome r (λ need. need.begin ≡ told) → IfSome told P → IfSome r (λ need. IfSome need.begin P)
begin_kept P None told e h = tt
begin_kept P (Some need) told e h = subst (λ o. IfSome o P) (sym e) h

pub other_kept : (P : ByteText → Type 0) (r : Option Need) (told : Option ByteText)
    → IfSome r (λ need. (need.other ≡ told) ⊎ (need.other ≡ None)) → IfSome told P
    → IfSome r (λ need. IfSome need.other P)
other_kept P None told e h = tt
other_kept P (Some need) told (inl e) h = subst (λ o. IfSome o P) (sym e) h
other_kept P (Some need) told (inr e) h = subst (λ o. IfSome o P) (sym e) tt

-- what holds of all holds of the later ones
pub all_behind : (P : ℕ → Type 0) (xs : List ℕ) (i : ℕ) → All P xs → All P (drop i xs)
all_behind P xs zero h = h
all_behind P [] (suc i) h = h
all_behind P (x ∷ xs) (suc i) h = all_behind P xs i (λ k d l. h (suc k) d (omega (arith, l)))

-- what one of the later parts needs the whole row does
pub some_behind : (may : Item → ℕ → Bool) (utf : Bool) (sets : List (List Bool)) (of : ℕ → Nested) (xs : List ℕ)
    (i : ℕ) → i ≤ length xs →
    SomeNeeds may utf true sets (row (map of (drop i xs))) → SomeNeeds may utf true sets (row (map of xs))
some_behind may utf sets of xs zero l h = h
some_behind may utf sets of [] (suc i) l h = h
some_behind may utf sets of (x ∷ xs) (suc i) l h =
    inr (inr (refl, some_behind may utf sets of xs i (omega (arith, l)) h))

pub needs_look : (may : Item → ℕ → Bool) (utf anywhere : Bool) (ahead positive atomic : Bool) (ts : Row)
    (inside result : Option Wanted) → AreAllNeeds may utf anywhere ts inside →
    result ≡ (if ahead && positive then inside else None)
    → IsNeed may utf anywhere (tree.look ahead positive atomic ts) result
needs_look may utf anywhere true true atomic ts inside result h e =
    subst (IsNeed may utf anywhere (tree.look true true atomic ts)) (sym e)
    (needs_look_at may utf anywhere atomic ts inside h)
needs_look may utf anywhere true false atomic ts inside result h e =
    subst (IsNeed may utf anywhere (tree.look true false atomic ts)) (sym e) tt
needs_look may utf anywhere false positive atomic ts inside result h e =
    subst (IsNeed may utf anywhere (tree.look false positive atomic ts)) (sym e) tt

-- Of items whose characters are one byte.

-- outside UTF each is
pub bytes_short : (may : Item → ℕ → Bool) (utf : Bool) (item : Item) (told : Option Taken) → utf ≡ false
    → IfSome told (λ taken. TakesOf may taken.bytes item) → IfSome told (IsItemNeed may utf item)
bytes_short may utf item None no_utf h = tt
bytes_short may utf item (Some taken) no_utf h = (h, λ yes. inl no_utf)

-- Of texts at a distance.

module _ (may : Item → ℕ → Bool) (utf : Bool) where
  -- a text of the parts themselves is at none
  pub at_none : (ts : Row) (here : Option Wanted) (far : Option Distant) → IsSomeNeed may utf false ts here →
      IfSome far (λ far. (here ≡ Some far.wanted) × (far.distance ≡ 0)) → IsDistant may utf ts far
  at_none ts here None h k = tt
  at_none tree.none here (Some far) h k = absurd (subst (IsSomeNeed may utf false tree.none) k.0 h).1
  at_none (tree.more t ts) here (Some far) h k = inl (k.1, (subst (IsSomeNeed may utf false (tree.more t ts)) k.0 h).1)

  pub either_distant : (ts : Row) (far here r : Option Distant) → (r ≡ far) ⊎ (r ≡ here) → IsDistant may utf ts far
      → IsDistant may utf ts here → IsDistant may utf ts r
  either_distant ts far here r (inl e) h k = subst (IsDistant may utf ts) (sym e) h
  either_distant ts far here r (inr e) h k = subst (IsDistant may utf ts) (sym e) k

  -- what holds of the parts from one place on holds from the place before it on, whose part takes so many bytes
  pub distant_back : (of : ℕ → Nested) (needs : List (Option Wanted)) (xs : List ℕ) (i : ℕ) (first : Option Wanted)
      (Long : Nested → Type 0) (Had Has : Row → Type 0) →
      0 < i → i ≤ length xs → first ≡ get_or needs (get_or xs (i - 1) 0) None → Long (of (get_or xs (i - 1) 0)) →
      (AreNeeds may utf false of needs (drop i xs) → Had (row (map of (drop i xs)))) →
      ((t : Nested) (ts : Row) → IsNeed may utf false t first → Long t → Had ts → Has (tree.more t ts)) →
      AreNeeds may utf false of needs (drop (i - 1) xs) → Has (row (map of (drop (i - 1) xs)))
  distant_back of needs xs i first Long Had Has p l is long rest join =
      rw (back xs i p l) (λ kept. join _ _ (rw is (kept 0 0 (omega arith))) long
      (rest (λ k d l. kept (suc k) d (omega (arith, l)))))

  -- a pattern begins with the text, or takes it at the distance
  pub needs_at : (t : Nested) (here far : Option Wanted) (near behind r : Option Distant) (told : Option BeginText)
      → IsNeed may utf false t here →
      IfSome far (λ w. (wanted : Wanted) × ((here ≡ Some wanted) × (sets_of w.text ≡ sets_of wanted.text))) →
      IfSome near (λ d. (far ≡ Some d.wanted) × (d.distance ≡ 0)) →
      IfSome behind (λ d. NeedsAt may utf (sets_of d.wanted.text) d.distance t) → (r ≡ behind) ⊎ (r ≡ near) →
      IfSome told (λ begin. (d : Distant)
      × ((r ≡ Some d) × ((sets_of begin.text ≡ sets_of d.wanted.text) × (begin.distance ≡ d.distance)))) →
      IfSome told (λ begin. NeedsAt may utf (sets_of begin.text) begin.distance t)
  needs_at t here far near behind r None h c k b o e = tt
  needs_at t here far near behind r (Some begin) h c k b o e =
      subst (λ n. NeedsAt may utf (sets_of begin.text) n t) (sym e.1.1.1)
      (subst (λ sets. NeedsAt may utf sets e.0.distance t) (sym e.1.1.0) (by_choice o))
    where
      Holds : Option Distant → Type 0
      Holds o = IfSome o (λ d. NeedsAt may utf (sets_of d.wanted.text) d.distance t)

      copied : (d : Distant) → far ≡ Some d.wanted → (wanted : Wanted)
          × ((here ≡ Some wanted) × (sets_of d.wanted.text ≡ sets_of wanted.text))
      copied d is =
          subst (λ o. IfSome o
          (λ w. (wanted : Wanted) × ((here ≡ Some wanted) × (sets_of w.text ≡ sets_of wanted.text)))) is c

      at_near : (o : Option Distant) → IfSome o (λ d. (far ≡ Some d.wanted) × (d.distance ≡ 0)) → Holds o
      at_near None k = tt
      at_near (Some d) k =
          let from = copied d k.0 in
          inl (
            k.1,
            subst (λ sets. Needs may utf false sets t) (sym from.1.1)
                (subst (IsNeed may utf false t) from.1.0 h).needs,
          )

      by_choice : (r ≡ behind) ⊎ (r ≡ near) → Holds (Some e.0)
      by_choice (inl is) = subst Holds (sym is ∙ e.1.0) b
      by_choice (inr is) = subst Holds (sym is ∙ e.1.0) (at_near near k)

-- what is copied is there
pub copied_from : (need copy : Option Wanted)
    → ((wanted : Wanted) → need ≡ Some wanted → IfSome copy (λ w. sets_of w.text ≡ sets_of wanted.text))
    → (need ≡ None → copy ≡ None) →
    IfSome copy (λ w. (wanted : Wanted) × ((need ≡ Some wanted) × (sets_of w.text ≡ sets_of wanted.text)))
copied_from need None s n = tt
copied_from (Some wanted) (Some w) s n = (wanted, (refl, s wanted refl))
copied_from None (Some w) s n = let e = n refl in absurd cc

-- a repeat takes as many bytes as its minimum says, where that is its maximum too
pub repeat_long : (may : Item → ℕ → Bool) (utf : Bool) (item : Item) (low : ℕ) (high : Option ℕ) (lazily : Bool)
    (r : Option ℕ) →
    IfSome r (λ n. (n ≡ low) × ((high ≡ Some n) × IsShort may utf item))
    → IfSome r (λ n. IsLong may utf n (tree.one_repeat item low high lazily))
repeat_long may utf item low high lazily None h = tt
repeat_long may utf item low high lazily (Some n) h =
    subst (λ o. IsLong may utf n (tree.one_repeat item low o lazily)) (sym h.1.0) (h.0, (sym h.0, h.1.1))

-- an item of one byte
pub short_told : (may : Item → ℕ → Bool) (utf : Bool) (item : Item) (told : Option Taken) (taken : Taken)
    → told ≡ Some taken → IfSome told (IsItemNeed may utf item) → taken.is_short ≡ true → IsShort may utf item
short_told may utf item told taken is h short = (subst (λ o. IfSome o (IsItemNeed may utf item)) is h).1 short
