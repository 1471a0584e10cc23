-- Where a branch began, found from the newest record down.
use Rattle.std.proofs.Common.{◌≡◌, ◌≢◌, ℕ, suc, ◌<◌, ◌≤◌, ◌∙◌, Bool, true, false, List, [], ◌∷◌, reverse, Option}
use Rattle.std.proofs.Common.{Some, None, IfSome, length, slice_get, inl, inr, refl, sym, ap, subst, arith}
use Rattle.std.proofs.Common.{length-append}
use Rattle.std.proofs.lemmas.Bool.{cases_eq, cases_lt}
use Rattle.frame_store.specs.declared.records.Record.{Record}
use Rattle.frame_store.specs.declared.kinds.TheConstants.{KIND_LOOK_OPEN, KIND_LOOK_ALL_OPEN}
use Rattle.frame_store.specs.Entry.{Site, Entry, LookOpen, LookAllOpen, entry_site, entry_of, entries, entry_kind}
use Rattle.frame_store.specs.Stack as stack_of
use Rattle.frame_store.proofs.EntryLemmas.{entry_of-look_open, entry_of-look_all_open, entry_kind-not}
use Rattle.frame_store.proofs.StackLemmas.{up_to-more, up_to-all, length-up_to}
use Rattle.frame_state.specs.Ground.{Ground, IsPart}
use Rattle.frame_state.specs.Machine.{link_of}
use Rattle.frame_state.specs.Frames.{began, is_catching, is_catching_then}
use Rattle.frame_state.specs.Validity.{IsContained}
use Rattle.frame_verbs.specs.Catching.{AreSoundParts, left_height}
use Rattle.frame_state.proofs.Frames.{IsFresh, began_in, began_before, began_deeper, began_fresh, began_none}
use Rattle.frame_state.proofs.Splits.{split, up_to_base, up_to_below}
use Rattle.frame_state.proofs.CallFrames.{site_is, link_is}
use Rattle.frame_verbs.proofs.CatchTurns.{left_by, left_is, left_here, left_below}

-- the records up to one
pub up_to_step : (records : List Record) (i : ℕ) (p : Record) → slice_get (reverse records) i ≡ Some p →
    stack_of.up_to (suc i) (entries records) ≡ entry_of p ∷ stack_of.up_to i (entries records)
up_to_step records i p at =
    let z = split records i p at in
    let r : Entry = entry_of p in
    let same : i ≡ length z.below = omega (arith, z.height) in
    let upper : stack_of.up_to (suc i) (entries records) ≡ r ∷ z.below =
    ap (λ n. stack_of.up_to n (entries records)) z.height ∙ ap (stack_of.up_to (length (r ∷ z.below))) z.is
    ∙ up_to_base z.above (r ∷ z.below) in
    let lower : stack_of.up_to i (entries records) ≡ z.below =
    ap (λ n. stack_of.up_to n (entries records)) same ∙ ap (stack_of.up_to (length z.below)) z.is
    ∙ up_to_below z.above z.below r in
    upper ∙ ap (λ st. r ∷ st) (sym lower)

module _ (c : Ground) (frame branch : ℕ) where
  -- records that stand in a frame within this one are passed over
  pub began_past : (stack : List Entry) (inner height : ℕ) → IsContained inner stack → frame < inner
      → inner ≤ length stack →
      began c stack frame branch height ≡ began c (stack_of.up_to inner stack) frame branch height
  began_past [] inner height h lt le = ap (λ st. began c st frame branch height)
      (sym (up_to-all inner [] (omega (arith, le))))
  began_past (r ∷ below) inner height h lt le =
      elim (cases_eq inner (suc (length below))) [
        | inl here ↦ ap (λ st. began c st frame branch height) (sym (up_to-all inner (r ∷ below) (omega (arith, here))))
        | inr not ↦
            let low : inner ≤ length below = omega (arith, le, not) in
            let deep : inner ≤ link_of r = h.0 low in
            began_deeper c r below frame branch height (λ at. omega (arith, at, deep, lt))
            ∙ began_past below inner height h.1 lt low
            ∙ ap (λ st. began c st frame branch height) (sym (up_to-more inner r below low))
      ]

  -- the frame's own record at the top, and one of a frame within it
  module _ (stack below : List Entry) (r : Entry) (is : stack ≡ r ∷ below) (height : ℕ) where
    pub began_step : link_of r ≡ frame → c.rank branch ≤ c.rank (entry_site r).node
        → began c stack frame branch height ≡ began c below frame branch (length below)
    began_step at le = ap (λ st. began c st frame branch height) is ∙ began_in c r below frame branch height at le

    pub began_stop : link_of r ≡ frame → c.rank (entry_site r).node < c.rank branch
        → began c stack frame branch height ≡ height
    began_stop at lt = ap (λ st. began c st frame branch height) is ∙ began_before c r below frame branch height at lt

    pub began_jump : frame < link_of r → link_of r ≤ length below → IsContained (link_of r) below →
        began c stack frame branch height ≡ began c (stack_of.up_to (link_of r) below) frame branch height
    began_jump lt le h =
        ap (λ st. began c st frame branch height) is
        ∙ began_deeper c r below frame branch height (λ at. omega (arith, at, lt))
        ∙ began_past below (link_of r) height h lt le

-- The records up to a height.

up_to_low : (xs : List Entry) (n m : ℕ) → n ≤ m → stack_of.up_to n (stack_of.up_to m xs) ≡ stack_of.up_to n xs
up_to_low [] n m le = ap (stack_of.up_to n) (up_to-all m [] (omega arith))
up_to_low (x ∷ xs) n m le =
    elim (cases_lt (length xs) m) [
      | inl above ↦ ap (stack_of.up_to n) (up_to-all m (x ∷ xs) (omega (arith, above)))
      | inr inside ↦ ap (stack_of.up_to n) (up_to-more m x xs inside) ∙ up_to_low xs n m le
          ∙ sym (up_to-more n x xs (omega (arith, inside, le)))
    ]

contained_up_to : (frame n : ℕ) (xs : List Entry) → IsContained frame xs → IsContained frame (stack_of.up_to n xs)
contained_up_to frame n [] h = subst (IsContained frame) (sym (up_to-all n [] (omega arith))) tt
contained_up_to frame n (x ∷ xs) h =
    elim (cases_lt (length xs) n) [
      | inl above ↦ subst (IsContained frame) (sym (up_to-all n (x ∷ xs) (omega (arith, above)))) h
      | inr inside ↦ subst (IsContained frame) (sym (up_to-more n x xs inside)) (contained_up_to frame n xs h.1)
    ]

length_low : (xs : List Entry) (n : ℕ) → length (stack_of.up_to n xs) ≤ n
length_low [] n = let e : length (stack_of.up_to n []) ≡ 0 =
    ap (λ (ys : List Entry). length ys) (up_to-all n [] (omega arith)) in omega (arith, e)
length_low (x ∷ xs) n =
    elim (cases_lt (length xs) n) [
      | inl above ↦ let e : length (stack_of.up_to n (x ∷ xs)) ≡ suc (length xs) =
          ap (λ (ys : List Entry). length ys) (up_to-all n (x ∷ xs) (omega (arith, above))) in omega (arith, e, above)
      | inr inside ↦ let low = length_low xs n in let e : length (stack_of.up_to n (x ∷ xs)) ≡ length
          (stack_of.up_to n xs) = ap (λ (ys : List Entry). length ys) (up_to-more n x xs inside) in
          omega (arith, e, low)
    ]

module _ (c : Ground) where
  parts_up_to : (n : ℕ) (xs : List Entry) → AreSoundParts c xs → AreSoundParts c (stack_of.up_to n xs)
  parts_up_to n [] h = subst (AreSoundParts c) (sym (up_to-all n [] (omega arith))) tt
  parts_up_to n (x ∷ xs) h =
      elim (cases_lt (length xs) n) [
        | inl above ↦ subst (AreSoundParts c) (sym (up_to-all n (x ∷ xs) (omega (arith, above)))) h
        | inr inside ↦ subst (AreSoundParts c) (sym (up_to-more n x xs inside)) (parts_up_to n xs h.3)
      ]

  fresh_parts : (l : ℕ) (xs : List Entry) → AreSoundParts c xs → length xs ≤ l → IsFresh l xs
  fresh_parts l [] h le = tt
  fresh_parts l (r ∷ below) h le = (λ at. omega (arith, at, h.1, le), fresh_parts l below h.3 (omega (arith, le)))

  -- The record at a height, and where a branch began from there down.
  module _ (records : List Record) (sound : AreSoundParts c (entries records)) where
    -- none of the records below a frame are its own
    pub began_whole : (frame branch height : ℕ) → began c (stack_of.up_to frame (entries records)) frame branch
        height ≡ height
    began_whole frame branch height =
        began_fresh c (stack_of.up_to frame (entries records)) frame branch height
        (fresh_parts frame (stack_of.up_to frame (entries records)) (parts_up_to frame (entries records) sound)
        (length_low (entries records) frame))

    pub contained_low : (frame n m : ℕ) → n ≤ m → IsContained frame (stack_of.up_to m (entries records))
        → IsContained frame (stack_of.up_to n (entries records))
    contained_low frame n m le h = subst (IsContained frame) (up_to_low (entries records) n m le)
        (contained_up_to frame n (stack_of.up_to m (entries records)) h)

    module _ (i : ℕ) (p : Record) (at : slice_get (reverse records) i ≡ Some p) where
      abbrev lower : List Entry
      lower = stack_of.up_to i (entries records)

      here : AreSoundParts c (entry_of p ∷ lower)
      here = subst (AreSoundParts c) (up_to_step records i p at) (parts_up_to (suc i) (entries records) sound)

      pub below_top : i < length (entries records)
      below_top = let z = split records i p at in
          omega (
            arith,
            z.height,
            ap (λ (es : List Entry). length es) z.is,
            length-append z.above (entry_of p ∷ z.below),
          )

      lower_length : length lower ≡ i
      lower_length = length-up_to i (entries records) (omega (arith, below_top))

      pub event_part : IsPart c p.node
      event_part = subst (λ (s : Site). IsPart c s.node) (site_is p) here.0

      pub event_low : p.link ≤ i
      event_low = omega (arith, here.1, lower_length, link_is p)

      pub event_contained : IsContained p.link lower
      event_contained = subst (λ l. IsContained l lower) (link_is p) here.2

      rank_is : c.rank (entry_site (entry_of p)).node ≡ c.rank p.node
      rank_is = ap (λ (s : Site). c.rank s.node) (site_is p)

      module _ (h : ℕ) (is : h ≡ suc i) (frame branch height : ℕ)
          (inside : IsContained frame (stack_of.up_to h (entries records))) (within : frame ≤ i) where
        abbrev upper : List Entry
        upper = stack_of.up_to h (entries records)

        upper_is : upper ≡ entry_of p ∷ lower
        upper_is = ap (λ n. stack_of.up_to n (entries records)) is ∙ up_to_step records i p at

        event_deep : frame ≤ p.link
        event_deep =
            let all : IsContained frame (entry_of p ∷ lower) = subst (IsContained frame) upper_is inside in
            let deep : frame ≤ link_of (entry_of p) = all.0 (omega (arith, lower_length, within)) in
            omega (arith, deep, link_is p)

        pub event_jump : frame < p.link → began c upper frame branch height ≡ began c
            (stack_of.up_to p.link (entries records)) frame branch height
        event_jump lt =
            began_jump c frame branch upper lower (entry_of p) upper_is height (omega (arith, lt, link_is p)) here.1
            here.2
            ∙ ap (λ l. began c (stack_of.up_to l lower) frame branch height) (link_is p)
            ∙ ap (λ (es : List Entry). began c es frame branch height) (up_to_low (entries records) p.link i event_low)

        module _ (own : p.link ≤ frame) where
          link_here : link_of (entry_of p) ≡ frame
          link_here = omega (arith, own, event_deep, link_is p)

          pub event_stop : c.rank p.node < c.rank branch → began c upper frame branch height ≡ height
          event_stop lt = began_stop c frame branch upper lower (entry_of p) upper_is height link_here
              (omega (arith, lt, rank_is))

          pub event_step : c.rank branch ≤ c.rank p.node → began c upper frame branch height ≡ began c lower frame
              branch i
          event_step le =
              began_step c frame branch upper lower (entry_of p) upper_is height link_here (omega (arith, le, rank_is))
              ∙ ap (λ n. began c lower frame branch n) lower_length

  -- Where a THEN leads, from a frame outwards.

  pub left_some : (stack : List Entry) (l q b : ℕ) → c.branch q ≡ Some b
      → left_height c stack l q ≡ Some (began c stack l b (length stack))
  unfolding left_by
  left_some [] l q b e = left_is c [] l q (Some b) e ∙ ap Some (sym (began_none c l b 0))
  left_some (r ∷ below) l q b e = left_is c (r ∷ below) l q (Some b) e

  left_none : (l q : ℕ) → c.branch q ≡ None → left_height c [] l q ≡ None
  unfolding left_by
  left_none l q e = left_is c [] l q None e

  pub left_whole : (stack : List Entry) (q : ℕ) → c.branch q ≡ None → left_height c stack 0 q ≡ None
  left_whole [] q e = left_none 0 q e
  left_whole (r ∷ below) q e = left_below c r below 0 q e (λ z. omega (arith, z)) ∙ left_whole below q e

  left_down : (stack : List Entry) (l q : ℕ) → c.branch q ≡ None → l ≤ length stack
      → left_height c stack l q ≡ left_height c (stack_of.up_to l stack) l q
  left_down [] l q e le = ap (λ st. left_height c st l q) (sym (up_to-all l [] (omega arith)))
  left_down (r ∷ below) l q e le =
      elim (cases_eq l (suc (length below))) [
        | inl here ↦ ap (λ st. left_height c st l q) (sym (up_to-all l (r ∷ below) (omega (arith, here))))
        | inr not ↦
            let low : l ≤ length below = omega (arith, le, not) in
            left_below c r below l q e not ∙ left_down below l q e low
            ∙ ap (λ st. left_height c st l q) (sym (up_to-more l r below low))
      ]

  module _ (records : List Record) (i : ℕ) (p : Record) (at : slice_get (reverse records) i ≡ Some p)
      (top frame q : ℕ) (is : frame ≡ suc i) (within : frame ≤ top)
      (few : top ≤ length (entries records)) (none : c.branch q ≡ None) where
    left_frame : left_height c (stack_of.up_to top (entries records)) frame q
        ≡ elim (is_catching_then (entry_of p)) [
          | true ↦ Some frame
          | false ↦
              left_height c (stack_of.up_to i (entries records)) p.link p.node
        ]
    left_frame =
        let lower : List Entry = stack_of.up_to i (entries records) in
        let inside : length lower ≡ i = length-up_to i (entries records) (omega (arith, is, within, few)) in
        left_down (stack_of.up_to top (entries records)) frame q none
        (omega (arith, within, length-up_to top (entries records) few))
        ∙ ap (λ st. left_height c st frame q) (up_to_low (entries records) frame top within
        ∙ ap (λ n. stack_of.up_to n (entries records)) is ∙ up_to_step records i p at)
        ∙ left_here c (entry_of p) lower frame q none (omega (arith, is, inside))
        ∙ ap (λ (s : Site). elim (is_catching_then (entry_of p)) [
          | true ↦ Some frame
          | false ↦
              left_height c lower s.link s.node
        ]) (site_is p)

    pub left_caught : is_catching_then (entry_of p) ≡ true
        → left_height c (stack_of.up_to top (entries records)) frame q ≡ Some frame
    left_caught yes' = left_frame
        ∙ ap (λ (b : Bool). elim b [
          | true ↦ Some frame
          | false ↦
              left_height c (stack_of.up_to i (entries records)) p.link p.node
        ]) yes'

    pub left_outer : is_catching_then (entry_of p) ≡ false →
        left_height c (stack_of.up_to top (entries records)) frame q ≡ left_height c
        (stack_of.up_to i (entries records)) p.link p.node
    left_outer no' = left_frame
        ∙ ap (λ (b : Bool). elim b [
          | true ↦ Some frame
          | false ↦
              left_height c (stack_of.up_to i (entries records)) p.link p.node
        ]) no'

  pub among_root : (q b : ℕ) → IsPart c q → c.branch q ≡ Some b → (b ≤ c.root) × (c.under b ≡ true)
  among_root q b part e = subst (λ (o : Option ℕ). IfSome o (λ x. (x ≤ c.root) × (c.under x ≡ true))) e part.among

-- which frames catch a THEN
pub catches_look : (p : Record) → p.kind ≡ KIND_LOOK_OPEN → true ≡ is_catching_then (entry_of p)
catches_look p e = sym (ap is_catching_then (entry_of-look_open p e))

pub catches_look_all : (p : Record) → p.kind ≡ KIND_LOOK_ALL_OPEN → true ≡ is_catching_then (entry_of p)
catches_look_all p e = sym (ap is_catching_then (entry_of-look_all_open p e))

catches_alike : (r : Entry) → entry_kind r ≢ KIND_LOOK_OPEN → entry_kind r ≢ KIND_LOOK_ALL_OPEN
    → is_catching r ≡ is_catching_then r
catches_alike (LookOpen at kept) n1 n2 = absurd (n1 refl)
catches_alike (LookAllOpen at kept) n1 n2 = absurd (n2 refl)
catches_alike _ n1 n2 = refl

pub catches_then : (p : Record) → p.kind ≢ KIND_LOOK_OPEN → p.kind ≢ KIND_LOOK_ALL_OPEN
    → is_catching (entry_of p) ≡ is_catching_then (entry_of p)
catches_then p n1 n2 = catches_alike (entry_of p) (entry_kind-not p KIND_LOOK_OPEN (omega arith) n1)
    (entry_kind-not p KIND_LOOK_ALL_OPEN (omega arith) n2)
