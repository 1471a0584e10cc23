-- Streams that go on: each state stands where the search began, or nearer to the subject's end.
use Rattle.std.proofs.Common.{◌≡◌, ◌∙◌, ℕ, zero, suc, ◌+◌, ◌-◌, ◌<◌, ◌≤◌, Bool, true, false, List, [], ◌∷◌, length}
use Rattle.std.proofs.Common.{drop, take, reverse, Option, Some, None, ◌⊎◌, inl, inr, refl, sym, ap, subst, arith}
use Rattle.std.specs.Prelude.{All, nat_le, nat_lt, sum_by, chars}
use Rattle.std.specs.Char.{len_utf8}
use Rattle.std.proofs.lemmas.Bool.{cases_lt, leb-false}
use Rattle.std.proofs.lemmas.List.{drop_all, reverse-append}
use Rattle.std.proofs.lemmas.List.Elements.{All-nil, All-cons, All-head, All-tail, All-append}
use Rattle.std.proofs.lemmas.Str.{len_utf8_bounds, chars-nil}
use Rattle.uni_text.specs.Characters.{first_char, char_at}
use Rattle.pat_tree.specs.declared.options.PartialMode.{PartialMode}
use Rattle.pat_tree.specs.declared.options.PartialMode.TheVariants.{Off, Soft, Hard}
use Rattle.pat_tree.specs.declared.nodes.Item.{Item}
use Rattle.pat_tree.specs.declared.nodes.AnchorKind.{AnchorKind}
use Rattle.pat_tree.specs.Newlines.{break_kind}
use Rattle.match_items.specs.Items.{one_less, is_none_left, is_end, takes, after_item, item_reaches, run_places}
use Rattle.match_items.specs.Items.{longest_run, characters, width, break_len, after_ref, ref_reaches, holds}
use Rattle.match_items.specs.Items.{anchor_reaches}
use Rattle.match_items.proofs.Newlines.{newline_past}
use Rattle.frame_store.specs.Captures.{capture}
use Rattle.ordered_search.specs.Stream.{State, Ending, exhausted, by_verb, by_halt, is_partial, How, reached}
use Rattle.ordered_search.specs.Stream.{accepted, note, hit_end, state, step, Stream, Search, ends, ◌▸◌, nothing}
use Rattle.ordered_search.specs.Stream.{gives, ◌or_else◌, each, go_on, and_then, decide, catch, no_ending}
use Rattle.ordered_search.specs.Stream.{is_next_branch, fails_alone, fails_inside, captured}
use Rattle.ordered_search.specs.Setting.{Setting, counts, held, hold, reach, reach_if}
use Rattle.ordered_search.specs.Tests.{move_to, goes_to, run_one, run_break, run_ref, run_anchor, offers, greedy}
use Rattle.ordered_search.specs.Tests.{offer_and, reluctant, lazy_run, run_many}
use Rattle.ordered_search.specs.Parts.{in_order, choices, run_group, run_atomic, run_look, back_to, forget_passed}

some_same : (a b : ℕ) → ◌≡◌ {A = Option ℕ} (Some a) (Some b) → a ≡ b
some_same a b e = cc

module _ (g : Setting) where
  -- the same place, or one nearer to the end
  abbrev pub Near : ℕ → ℕ → Type 0
  Near p q = (p ≡ q) ⊎ (length g.subject - q < length g.subject - p)

  near_on : (p q r : ℕ) → Near p q → Near q r → Near p r
  near_on p q r (inl e) h = subst (λ m. Near m r) (sym e) h
  near_on p q r (inr less) (inl e) = inr (subst (λ m. length g.subject - m < length g.subject - p) e less)
  near_on p q r (inr less) (inr h) = inr (omega (arith, less, h))

  unfoldable pub Onward : ℕ → Stream → Type 0
  Onward p (ends e) = Unit {0}
  Onward p (note k ▸ x) = Onward p x
  Onward p (state how s ▸ x) = Near p s.place × Onward p x
  Onward p (step ▸ x) = Onward p x

  -- a search whose streams go on
  abbrev pub GoesOn : Search → Type 0
  GoesOn f = (s : State) → Onward s.place (f s)

  pub onward_ends : (p : ℕ) (e : Ending) → Onward p (ends e)
  unfolding Onward
  onward_ends p e = tt

  pub onward_gives : (p : ℕ) (how : How) (s : State) → Near p s.place → Onward p (gives how s)
  unfolding Onward
  onward_gives p how s h = (h, tt)

  pub onward_step : (p : ℕ) (x : Stream) → Onward p x → Onward p (step ▸ x)
  unfolding Onward
  onward_step p x h = h

  pub onward_if : (p : ℕ) (b : Bool) (x y : Stream) → Onward p x → Onward p y
      → Onward p (elim b [ true ↦ x | false ↦ y ])
  onward_if p true x y h k = h
  onward_if p false x y h k = k

  onward_nearer : (p q : ℕ) (x : Stream) → Near p q → Onward q x → Onward p x
  unfolding Onward
  onward_nearer p q (ends e) h k = tt
  onward_nearer p q (note m ▸ x) h k = onward_nearer p q x h k
  onward_nearer p q (state how s ▸ x) h k = (near_on p q s.place h k.0, onward_nearer p q x h k.1)
  onward_nearer p q (step ▸ x) h k = onward_nearer p q x h k

  pub onward_or_else : (p : ℕ) (x y : Stream) → Onward p x → Onward p y → Onward p (x or_else y)
  unfolding Onward ◌or_else◌
  onward_or_else p (ends exhausted) y h k = k
  onward_or_else p (ends (by_verb v)) y h k = tt
  onward_or_else p (ends (by_halt a)) y h k = tt
  onward_or_else p (note m ▸ x) y h k = onward_or_else p x y h k
  onward_or_else p (state how s ▸ x) y h k = (h.0, onward_or_else p x y h.1 k)
  onward_or_else p (step ▸ x) y h k = onward_or_else p x y h k

  onward_each : (p : ℕ) (x : Stream) (f : How → Search) → Onward p x
      → ((how : How) (s : State) → Near p s.place → Onward p (f how s)) → Onward p (each x f)
  unfolding Onward each
  onward_each p (ends e) f h k = tt
  onward_each p (note m ▸ x) f h k = onward_each p x f h k
  onward_each p (state how s ▸ x) f h k = onward_or_else p (f how s) (each x f) (k how s h.0) (onward_each p x f h.1 k)
  onward_each p (step ▸ x) f h k = onward_each p x f h k

  onward_from : (p : ℕ) (f : Search) → GoesOn f → (how : How) (s : State) → Near p s.place
      → Onward p (go_on f how s)
  onward_from p f k reached s h = onward_nearer p s.place (f s) h (k s)
  onward_from p f k accepted s h = onward_gives p accepted s h

  pub onward_and_then : (p : ℕ) (x : Stream) (f : Search) → Onward p x → GoesOn f
      → Onward p (and_then x f)
  onward_and_then p x f h k = onward_each p x (go_on f) h (onward_from p f k)

  onward_catch : (p : ℕ) (caught : Ending → Bool) (x : Stream) → Onward p x
      → Onward p (catch caught x)
  unfolding Onward catch
  onward_catch p caught (ends e) h = onward_if p (caught e) nothing (ends e) (onward_ends p exhausted) (onward_ends p e)
  onward_catch p caught (note m ▸ x) h = onward_catch p caught x h
  onward_catch p caught (state how s ▸ x) h = (h.0, onward_catch p caught x h.1)
  onward_catch p caught (step ▸ x) h = onward_catch p caught x h

  onward_decide : (p : ℕ) (fails : Ending → Bool) (x : Stream) (f : How → Search) (y : Stream)
      → Onward p x → Onward p y
      → ((how : How) (s : State) → Near p s.place → Onward p (f how s))
      → Onward p (decide fails x f y)
  unfolding Onward decide
  onward_decide p fails (ends e) f y h k to = onward_if p (fails e) y (ends e) k (onward_ends p e)
  onward_decide p fails (note m ▸ x) f y h k to = onward_decide p fails x f y h k to
  onward_decide p fails (state how s ▸ x) f y h k to = to how s h.0
  onward_decide p fails (step ▸ x) f y h k to = onward_decide p fails x f y h k to

  pub onward_held : (p k : ℕ) (s : State) (f : Search)
      → Onward p (f (record s { units = s.units + k })) → Onward p (held g k s f)
  unfolding held
  onward_held p k s f h = onward_if p (nat_le (s.units + k) g.matching.frame_limit) _ _ h (onward_ends p _)

  pub onward_hold : (p : ℕ) (how : How) (s : State) → Near p s.place → Onward p (hold g how s)
  unfolding hold
  onward_hold p how s h = onward_held p 1 s (gives how) (onward_gives p how _ h)

  onward_reached : (p : ℕ) (mode : PartialMode) (b : Bool) (x : Stream) → Onward p x
      → Onward p (elim mode [
        | Off ↦ x
        | Soft ↦ elim b [ true ↦ note hit_end ▸ x | false ↦ x ]
        | Hard ↦ elim b [ true ↦ ends (by_halt is_partial) | false ↦ x ]
      ])
  unfolding Onward
  onward_reached p Off b x h = h
  onward_reached p Soft true x h = h
  onward_reached p Soft false x h = h
  onward_reached p Hard true x h = tt
  onward_reached p Hard false x h = h

  onward_reach_if : (p : ℕ) (b : Bool) (s : State) (x : Stream) → Onward p x
      → Onward p (reach_if g b s x)
  unfolding reach reach_if
  onward_reach_if p true s x h = onward_reached p g.matching.«partial» (counts g s) x h
  onward_reach_if p false s x h = h

  -- Where items, newlines and references lead.

  char_later : (utf : Bool) (p : ℕ) → p < (char_at utf g.subject p).1
  char_later false p = omega arith
  char_later true p = let bounds = len_utf8_bounds (first_char (drop p g.subject)) in omega (arith, bounds.0)

  item_near : (item : Item) (p q : ℕ) → after_item g.scene item p ≡ Some q → Near p q
  item_near item p q e = by_end (is_end g.scene p) refl e
    where
      by_taken : p < length g.subject → (b : Bool) (r : ℕ) → p < r
          → ◌≡◌ {A = Option ℕ} (elim b [ true ↦ Some r | false ↦ None ]) (Some q) → Near p q
      by_taken inside true r later e = let same = some_same r q e in inr (omega (arith, inside, later, same))
      by_taken inside false r later e = absurd cc

      by_end : (b : Bool) → is_end g.scene p ≡ b →
          ◌≡◌ {A = Option ℕ}
          (elim (elim b as (λ _. Option (ℕ × ℕ)) [
            | true ↦ None
            | false ↦
                Some (char_at g.options.utf g.subject p)
          ]) [
            | None ↦ None
            | Some c ↦ elim (takes g.scene item p c.0) [ true ↦ Some c.1 | false ↦ None ]
          ]) (Some q) → Near p q
      by_end true is e = absurd cc
      by_end false is e =
          let c = char_at g.options.utf g.subject p in
          by_taken (leb-false (length g.subject) p is) (takes g.scene item p c.0) c.1 (char_later g.options.utf p) e

  -- a text that stands here takes nothing past the end
  told_near : (b : Bool) (p n q : ℕ) → (length g.subject ≤ p → n ≡ 0)
      → ◌≡◌ {A = Option ℕ} (elim b [ true ↦ Some (p + n) | false ↦ None ]) (Some q) → Near p q
  told_near false p n q none e = absurd cc
  told_near true p n q none e = let same = some_same (p + n) q e in elim (cases_lt p (length g.subject)) [
    | inr past ↦ inl (let flat = none past in omega (arith, flat, same))
    | inl inside ↦ elim (cases_lt 0 n) [
      | inl some ↦ inr (omega (arith, inside, some, same))
      | inr flat ↦ inl (omega (arith, flat, same))
    ]
  ]

  break_past : (p : ℕ) → length g.subject ≤ p → break_len g.scene p ≡ 0
  break_past p past = newline_past (break_kind g.options.bsr g.options.utf) g.subject p past

  take_none : (n : ℕ) (cs : List ℕ) → cs ≡ [] → take n cs ≡ []
  take_none zero cs e = refl
  take_none (suc n) cs e = ap (λ (bytes : List ℕ). take (suc n) bytes) e

  -- no characters stand past the end
  width_past : (n p : ℕ) → length g.subject ≤ p
      → width g.scene (take n (characters g.scene (drop p g.subject))) ≡ 0
  width_past n p past = ap (λ (bytes : List ℕ). width g.scene (take n (characters g.scene bytes)))
      (drop_all p g.subject past) ∙ by_utf g.options.utf
    where
      by_utf : (utf : Bool) → elim utf as (λ _. ℕ) [
        | true ↦ sum_by len_utf8 (take n (elim utf as (λ _. List ℕ) [ true ↦ chars [] | false ↦ [] ]))
        | false ↦ length (take n (elim utf as (λ _. List ℕ) [ true ↦ chars [] | false ↦ [] ]))
      ] ≡ 0
      by_utf true = ap (λ (cs : List ℕ). sum_by len_utf8 cs) (take_none n (chars []) chars-nil)
      by_utf false = ap (λ (cs : List ℕ). length cs) (take_none n [] refl)

  onward_goes : (s : State) (o : Option ℕ) → ((q : ℕ) → o ≡ Some q → Near s.place q)
      → Onward s.place (goes_to o s)
  onward_goes s None h = onward_ends s.place exhausted
  onward_goes s (Some q) h = onward_gives s.place reached (move_to q s) (h q refl)

  pub onward_one : (item : Item) → GoesOn (run_one g item)
  unfolding run_one
  onward_one item s = onward_reach_if s.place _ s _ (onward_goes s _ (item_near item s.place))

  pub onward_break : GoesOn (run_break g)
  unfolding run_break
  onward_break s =
      onward_reach_if s.place _ s _
      (onward_goes s _ (λ q e. told_near (nat_lt 0 (break_len g.scene s.place)) s.place (break_len g.scene s.place) q
      (break_past s.place) e))

  pub onward_ref : (ns : List ℕ) (caseless : Bool) → GoesOn (run_ref g ns caseless)
  unfolding run_ref
  onward_ref [] caseless s = onward_if s.place g.options.match_unset_backref _ _
      (onward_gives s.place reached s (inl refl)) (onward_ends s.place exhausted)
  onward_ref (m ∷ ns) caseless s = elim (capture s.caps m)
      as (λ o. Onward s.place (elim o [
        | None ↦ run_ref g ns caseless s
        | Some span ↦ reach_if g (ref_reaches g.scene span.from span.to caseless s.place) s
            (goes_to (after_ref g.scene span.from span.to caseless s.place) s)
      ])) [
        | None ↦ onward_ref ns caseless s
        | Some span ↦ onward_reach_if s.place _ s _
            (onward_goes s _ (λ q e. told_near _ s.place _ q (width_past _ s.place) e))
      ]

  pub onward_anchor : (kind : AnchorKind) → GoesOn (run_anchor g kind)
  unfolding run_anchor
  onward_anchor kind s =
      onward_reach_if s.place (anchor_reaches g.scene kind s.place) _ _
      (onward_if s.place (holds g.scene kind s.place) _ _ (onward_gives s.place reached _ (inl refl))
      (onward_ends s.place exhausted))

  -- Repeats of an item.

  all_drop : (p n : ℕ) (qs : List ℕ) → All (Near p) qs → All (Near p) (drop n qs)
  all_drop p zero qs h = h
  all_drop p (suc n) [] h = h
  all_drop p (suc n) (q ∷ qs) h = all_drop p n qs (All-tail (Near p) q qs h)

  all_reverse : (p : ℕ) (qs : List ℕ) → All (Near p) qs → All (Near p) (reverse qs)
  all_reverse p [] h = h
  all_reverse p (q ∷ qs) h =
      subst (All (Near p)) (sym (reverse-append (q ∷ []) qs))
      (All-append (Near p) (reverse qs) (q ∷ []) (all_reverse p qs (All-tail (Near p) q qs h))
      (All-cons (Near p) q [] (All-head (Near p) q qs h) (All-nil (Near p))))

  all_nearer : (p q : ℕ) (qs : List ℕ) → Near p q → All (Near q) qs → All (Near p) qs
  all_nearer p q [] h k = All-nil (Near p)
  all_nearer p q (r ∷ rs) h k = All-cons (Near p) r rs (near_on p q r h (All-head (Near q) r rs k))
      (all_nearer p q rs h (All-tail (Near q) r rs k))

  places_near : (item : Item) (n : ℕ) (most : Option ℕ) (p : ℕ)
      → All (Near p) (run_places g.scene item n most p)
  unfolding run_places
  places_near item zero most p = All-nil (Near p)
  places_near item (suc n) most p = by_left (is_none_left most) (places_near item n (one_less most))
    where
      Rest : Type 0
      Rest = (q : ℕ) → All (Near q) (run_places g.scene item n (one_less most) q)

      by_item : (o : Option ℕ) → after_item g.scene item p ≡ o → Rest
          → All (Near p) (elim o as (λ _. List ℕ) [
            | None ↦ []
            | Some q ↦
                q ∷ run_places g.scene item n (one_less most) q
          ])
      by_item None e rest = All-nil (Near p)
      by_item (Some q) e rest = let near = item_near item p q e in
          All-cons (Near p) q _ near (all_nearer p q _ near (rest q))

      by_left : (b : Bool) → Rest → All (Near p) (elim b as (λ _. List ℕ) [
        | true ↦ []
        | false ↦ elim (after_item g.scene item p) [
          | None ↦ []
          | Some q ↦
              q ∷ run_places g.scene item n (one_less most) q
        ]
      ])
      by_left true rest = All-nil (Near p)
      by_left false rest = by_item (after_item g.scene item p) refl rest

  onward_offers : (ps : List ℕ) (s : State) → All (Near s.place) ps → Onward s.place (offers g ps s)
  unfolding offers
  onward_offers [] s h = onward_ends s.place exhausted
  onward_offers (p ∷ []) s h = onward_step s.place _
      (onward_gives s.place reached (move_to p s) (All-head (Near s.place) p [] h))
  onward_offers (p ∷ q ∷ ps) s h =
      onward_step s.place _
      (onward_or_else s.place _ _ (onward_hold s.place reached (move_to p s) (All-head (Near s.place) p (q ∷ ps) h))
      (onward_offers (q ∷ ps) s (All-tail (Near s.place) p (q ∷ ps) h)))

  onward_offer : (p : ℕ) (b : Bool) (s : State) (x : Stream) → Near p s.place → Onward p x
      → Onward p (offer_and g b s x)
  onward_offer p true s x near h = onward_step p _ (onward_gives p reached s near)
  onward_offer p false s x near h = onward_step p _ (onward_or_else p _ _ (onward_hold p reached s near) h)

  onward_reluctant : (item : Item) (left : Option ℕ) (ps : List ℕ) (s : State)
      → All (Near s.place) ps → Onward s.place (reluctant g item left ps s)
  unfolding reluctant
  onward_reluctant item left [] s h = onward_ends s.place exhausted
  onward_reluctant item left (p ∷ ps) s h =
      onward_offer s.place (is_none_left left) (move_to p s) _ (All-head (Near s.place) p ps h)
      (onward_reach_if s.place (item_reaches g.scene item p) s _
      (onward_reluctant item (one_less left) ps s (All-tail (Near s.place) p ps h)))

  pub onward_many : (item : Item) (low : ℕ) (high : Option ℕ) (lazily : Bool)
      → GoesOn (run_many g item low high lazily)
  unfolding run_many greedy lazy_run
  onward_many item low high lazily s = by_kind lazily
    where
      near : All (Near s.place) (drop low (s.place ∷ longest_run g.scene item high s.place))
      near = all_drop s.place low _ (All-cons (Near s.place) s.place _ (inl refl)
          (places_near item (length g.subject) high s.place))

      by_kind : (l : Bool) → Onward s.place (run_many g item low high l s)
      by_kind false = onward_reach_if s.place _ s _ (onward_offers _ s (all_reverse s.place _ near))
      by_kind true = onward_reach_if s.place _ s _ (onward_reluctant item _ _ s near)

  -- Parts in turn, branches and groups.

  pub onward_none : GoesOn (in_order [])
  unfolding in_order
  onward_none s = onward_gives s.place reached s (inl refl)

  pub onward_turn : (f : Search) (fs : List Search) → GoesOn f → GoesOn (in_order fs)
      → GoesOn (in_order (f ∷ fs))
  unfolding in_order
  onward_turn f fs h k s = onward_and_then s.place (f s) (in_order fs) (h s) k

  pub onward_choices : (f : Search) (fs : List Search) → GoesOn f → GoesOn (choices g fs)
      → GoesOn (choices g (f ∷ fs))
  unfolding choices
  onward_choices f [] h k s = onward_step s.place _ (onward_catch s.place is_next_branch (f s) (h s))
  onward_choices f (f' ∷ fs) h k s =
      onward_step s.place _ (onward_or_else s.place _ _
      (onward_held s.place 1 s _ (onward_catch s.place is_next_branch _ (h (record s { units = s.units + 1 }))))
      (k s))

  pub onward_group : (number : Option ℕ) (f : Search) → GoesOn f → GoesOn (run_group g number f)
  unfolding run_group
  onward_group None f h s = h s
  onward_group (Some n) f h s =
      onward_held s.place 1 s _
      (onward_each s.place _ _ (h (record s { units = s.units + 1 }))
      (λ how u near. onward_hold s.place how (captured n s.place u) near))

  pub onward_atomic : (f : Search) → GoesOn f → GoesOn (run_atomic g f)
  unfolding run_atomic
  onward_atomic f h s =
      onward_held s.place 1 s _
      (onward_decide s.place no_ending _ (λ how u. hold g how (forget_passed s u)) nothing
      (h (record s { units = s.units + 1 })) (onward_ends s.place exhausted)
      (λ how u near. onward_hold s.place how (forget_passed s u) near))

  pub onward_look : (positive : Bool) (f : Search) → GoesOn f → GoesOn (run_look g positive true f)
  unfolding run_look
  onward_look true f h s =
      onward_held s.place 1 s _
      (onward_decide s.place fails_alone _ (λ how u. hold g reached (back_to s (forget_passed s u))) nothing
      (h (record s { units = s.units + 1 })) (onward_ends s.place exhausted)
      (λ how u near. onward_hold s.place reached (back_to s (forget_passed s u)) (inl refl)))
  onward_look false f h s =
      onward_held s.place 1 s _
      (onward_decide s.place fails_inside _ (λ how u. nothing) (gives reached s)
      (h (record s { units = s.units + 1 })) (onward_gives s.place reached s (inl refl))
      (λ how u near. onward_ends s.place exhausted))
