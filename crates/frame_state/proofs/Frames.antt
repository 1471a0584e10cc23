-- Frames and records of a stack.
use Rattle.std.proofs.Common.{◌≡◌, ◌≢◌, ℕ, Bool, true, false, suc, ◌-◌, ◌<◌, ◌≤◌, ◌∙◌, List, [], ◌∷◌, ◌++◌, reverse}
use Rattle.std.proofs.Common.{Option, Some, None, IfSome, if◌then◌else◌, length, All, set, slice_get, refl, sym, ap}
use Rattle.std.proofs.Common.{subst, inl, inr, arith, length-append}
use Rattle.std.proofs.lemmas.List.Elements.{All-nil, All-cons, All-head, All-tail, All-set}
use Rattle.std.proofs.lemmas.Bool.{cases_eq, cases_lt, cond-true, cond-false, eq-eqb, ne_eqb, le-leb, lt-leb}
use Rattle.frame_store.specs.declared.records.Record.{Record}
use Rattle.frame_store.specs.declared.registers.Span.{Span}
use Rattle.frame_store.specs.Captures.{Captures}
use Rattle.frame_store.specs.Entry.{Kept, Entry, Undo, GroupOpen, CalledGroup, TurnOpen, TurnOrExit, AtomicOpen}
use Rattle.frame_store.specs.Entry.{LookOpen, LookAllOpen, LookTest, DenialTest, CallOpen, entry_site, entry_of}
use Rattle.frame_store.specs.Entry.{entries, Other}
use mathlib.Core.Path.{fun_ext}
use Rattle.frame_store.specs.Stack as stack_of
use Rattle.frame_store.specs.Undo.{taken_back, HasSlot, undone}
use Rattle.ordered_search.specs.Stream.{State, VerbEnding, next_branch, prune, skip, commit, reached, accepted}
use Rattle.ordered_search.specs.Moves.{Moves, pause, Follow, at_end, at_verbs, catching, Handler}
use Rattle.frame_state.specs.declared.machine.Next.{Next}
use Rattle.frame_state.specs.declared.machine.Next.TheVariants.{Enter, Branch, Try, Offer, Begin, Fewer, More, End}
use Rattle.frame_state.specs.declared.machine.Next.TheVariants.{Settle, Back, Accept, Act, Leave}
use Rattle.frame_state.specs.declared.machine.Spot.{Spot}
use Rattle.node_flow.specs.Followers.{first_of}
use Rattle.frame_state.specs.Ground.{Ground, tree_of, settles, BeginsBy, IsGround, IsPart}
use Rattle.frame_state.specs.Machine.{Around, state_at, link_of, towards, onward, entry_kept, ending_of, heard_by}
use Rattle.frame_state.specs.Machine.{heard}
use Rattle.frame_state.specs.Machine.{Outside, place_at}
use Rattle.frame_state.specs.Frames.{frame_around, after, settle, settled, past, beyond_by, beyond, branch_from}
use Rattle.frame_state.specs.Frames.{try_from, fewer_places, more_from}
use Rattle.frame_state.specs.Frames.{offer_from, begin_from, close_from, turned_from, chosen_from, around, around_at}
use Rattle.frame_state.specs.Frames.{frame_end, is_catching, is_catching_then, frame_hand, began, hand, cont, caught}
use Rattle.frame_state.specs.Frames.{fail, fail_to, outside, focus, Agrees, parts_of}
use Rattle.frame_state.specs.Validity.{IsContained, IsLater, IsStanding, SpanStands, AreSpans, IsSound, AreSound}
use Rattle.frame_state.specs.Validity.{IsRunning}
use Rattle.frame_state.proofs.KidParts.{next_part, next_rank}
use Rattle.ordered_search.specs.Parts.{back_to}
use Rattle.ordered_search.specs.Paths.{leave, returned, ends_before, offer_paths, paths}
use Rattle.pat_tree.specs.Nested as tree
use Rattle.pat_tree.specs.Nested.{Nested}
use Rattle.ordered_search.proofs.Same.{follow_same}
use Rattle.frame_state.proofs.PartPaths.{after_nil, after_cons, settles_same}
use Rattle.frame_state.proofs.Splits.{split, up_to_below, up_to_base, past_above, past_base}

-- none of these records is the frame's own at a height
abbrev pub IsFresh : ℕ → List Entry → Type 0
IsFresh l [] = Unit {0}
IsFresh l (r ∷ rest) = (link_of r ≢ l) × IsFresh l rest

-- where a frame began

pub place_here : (r : Entry) (below : List Entry) (l : ℕ) → l ≡ suc (length below)
    → place_at (r ∷ below) l ≡ (entry_kept r).place
unfolding place_at
place_here r below l e = cond-true _ _ _ (eq-eqb _ _ e)

place_below : (r : Entry) (below : List Entry) (l : ℕ) → (l ≡ suc (length below) → ⊥)
    → place_at (r ∷ below) l ≡ place_at below l
unfolding place_at
place_below r below l n = cond-false _ _ _ (ne_eqb _ _ n)

pub place_push : (r : Entry) (below : List Entry) (l : ℕ) → l ≤ length below
    → place_at (r ∷ below) l ≡ place_at below l
place_push r below l h = place_below r below l (λ e. omega (arith, e, h))

place_deep : (above base : List Entry) (l : ℕ) → l ≤ length base → place_at (above ++ base) l ≡ place_at base l
place_deep [] base l h = refl
place_deep (p ∷ above) base l h = place_push p (above ++ base) l (omega (arith, h, length-append above base))
    ∙ place_deep above base l h

module _ (c : Ground) where
  pub around_here : (r : Entry) (below : List Entry) (l : ℕ) → l ≡ suc (length below)
      → around c (r ∷ below) l ≡ frame_around r (around c below (link_of r))
  unfolding around
  around_here r below l e = cond-true _ _ _ (eq-eqb _ _ e)

  pub around_below : (r : Entry) (below : List Entry) (l : ℕ) → (l ≡ suc (length below) → ⊥)
      → around c (r ∷ below) l ≡ around c below l
  unfolding around
  around_below r below l n = cond-false _ _ _ (ne_eqb _ _ n)

  pub around_push : (r : Entry) (below : List Entry) (l : ℕ) → l ≤ length below
      → around c (r ∷ below) l ≡ around c below l
  around_push r below l h = around_below r below l (λ e. omega (arith, e, h))

  pub heard_below : (r : Entry) (below : List Entry) (h : ℕ) → (h ≡ suc (length below) → ⊥)
      → heard (r ∷ below) h ≡ heard below h
  unfolding heard
  heard_below r below h n = cond-false _ _ _ (ne_eqb _ _ n)

  pub heard_push : (r : Entry) (below : List Entry) (h : ℕ) → h ≤ length below → heard (r ∷ below) h ≡ heard below h
  heard_push r below h le = heard_below r below h (λ e. omega (arith, e, le))

  pub heard_here : (r : Entry) (below : List Entry) (h : ℕ) → h ≡ suc (length below)
      → heard (r ∷ below) h ≡ heard_by r (heard below (entry_kept r).passed)
  unfolding heard
  heard_here r below h e = cond-true _ _ _ (eq-eqb _ _ e)

  pub path_push : (r : Entry) (below : List Entry) (l h : ℕ) → l ≤ length below → h ≤ length below
      → around_at c (r ∷ below) l h ≡ around_at c below l h
  path_push r below l h le low =
      ap (λ (a : Around). record a { passed = heard (r ∷ below) h }) (around_push r below l le)
      ∙ ap (λ (names : List (ℕ × ℕ)). record (around c below l) { passed = names }) (heard_push r below h low)

  pub cont_here : (r : Entry) (below : List Entry) (caps : Captures) (l : ℕ) → l ≡ suc (length below) →
      cont c (r ∷ below) caps l ≡ frame_end c r (around_at c below (link_of r) (entry_kept r).passed)
      (outside c below (taken_back r caps) (link_of r)) (taken_back r caps) (fail c below (taken_back r caps))
  unfolding cont
  cont_here r below caps l e =
      follow_same _ (frame_end c r (around_at c below (link_of r) (entry_kept r).passed)
      (outside c below (taken_back r caps) (link_of r)) (taken_back r caps) (fail c below (taken_back r caps)))
      (λ how s f. cond-true _ _ _ (eq-eqb _ _ e))

  cont_below : (r : Entry) (below : List Entry) (caps : Captures) (l : ℕ) → (l ≡ suc (length below) → ⊥)
      → cont c (r ∷ below) caps l ≡ cont c below (taken_back r caps) l
  unfolding cont
  cont_below r below caps l n = follow_same _ (cont c below (taken_back r caps) l)
      (λ how s f. cond-false _ _ _ (ne_eqb _ _ n))

  cont_push : (r : Entry) (below : List Entry) (caps : Captures) (l : ℕ) → l ≤ length below
      → cont c (r ∷ below) caps l ≡ cont c below (taken_back r caps) l
  cont_push r below caps l h = cont_below r below caps l (λ e. omega (arith, e, h))

  -- the pattern's own end
  pub cont_whole : (stack : List Entry) (caps : Captures) → cont c stack caps 0 ≡ at_end
  unfolding cont
  cont_whole [] caps = follow_same _ at_end (λ how s f. refl)
  cont_whole (r ∷ below) caps = cont_below r below caps 0 (λ e. omega (arith, e)) ∙ cont_whole below (taken_back r caps)

  -- What verbs lead to.

  pub caught_here : (r : Entry) (below : List Entry) (caps : Captures) (l : ℕ) → l ≡ suc (length below) →
      caught c (r ∷ below) caps l ≡ frame_hand r (hand c below (taken_back r caps) (link_of r))
      (fail c (r ∷ below) caps)
  unfolding cont
  caught_here r below caps l e = fun_ext (λ v. cond-true _ _ _ (eq-eqb _ _ e))

  pub caught_below : (r : Entry) (below : List Entry) (caps : Captures) (l : ℕ) → (l ≡ suc (length below) → ⊥)
      → caught c (r ∷ below) caps l ≡ caught c below (taken_back r caps) l
  unfolding cont
  caught_below r below caps l n = fun_ext (λ v. cond-false _ _ _ (ne_eqb _ _ n))

  pub caught_push : (r : Entry) (below : List Entry) (caps : Captures) (l : ℕ) → l ≤ length below
      → caught c (r ∷ below) caps l ≡ caught c below (taken_back r caps) l
  caught_push r below caps l h = caught_below r below caps l (λ e. omega (arith, e, h))

  -- the whole pattern's
  pub caught_whole : (stack : List Entry) (caps : Captures) → caught c stack caps 0 ≡ at_verbs
  unfolding cont
  caught_whole [] caps = fun_ext (λ v. refl)
  caught_whole (r ∷ below) caps = caught_below r below caps 0 (λ e. omega (arith, e))
      ∙ caught_whole below (taken_back r caps)

  -- What a frame does with them.

  -- it hands on a verb that it doesn't catch to its part
  frame_passes : (r : Entry) (h : ℕ → Handler) (x : Moves) → is_catching_then r ≡ false → is_catching r ≡ false
      → frame_hand r h x ≡ h (entry_site r).node
  frame_passes r h x then' no' =
      let q : ℕ = (entry_site r).node in
      fun_ext (elim [
        | next_branch ↦ ap (λ (b : Bool). elim b [ true ↦ x | false ↦ h q next_branch ]) then'
        | prune ↦ ap (λ (b : Bool). elim b [ true ↦ x | false ↦ h q prune ]) no'
        | skip n ↦ ap (λ (b : Bool). elim b [ true ↦ x | false ↦ h q (skip n) ]) no'
        | commit ↦ ap (λ (b : Bool). elim b [ true ↦ x | false ↦ h q commit ]) no'
      ])

  frame_catches : (r : Entry) (h : ℕ → Handler) (x : Moves) → is_catching_then r ≡ true → is_catching r ≡ true
      → frame_hand r h x ≡ λ (v : VerbEnding). x
  frame_catches r h x then' yes' =
      let q : ℕ = (entry_site r).node in
      fun_ext (elim [
        | next_branch ↦ ap (λ (b : Bool). elim b [ true ↦ x | false ↦ h q next_branch ]) then'
        | prune ↦ ap (λ (b : Bool). elim b [ true ↦ x | false ↦ h q prune ]) yes'
        | skip n ↦ ap (λ (b : Bool). elim b [ true ↦ x | false ↦ h q (skip n) ]) yes'
        | commit ↦ ap (λ (b : Bool). elim b [ true ↦ x | false ↦ h q commit ]) yes'
      ])

  -- verbs pass on through the frame, or are caught there
  pub caught_through : (r : Entry) (below : List Entry) (caps : Captures) → is_catching_then r ≡ false
      → is_catching r ≡ false →
      hand c below (taken_back r caps) (link_of r) (entry_site r).node ≡ caught c (r ∷ below) caps (suc (length below))
  caught_through r below caps then' no' =
      sym (frame_passes r (hand c below (taken_back r caps) (link_of r)) (fail c (r ∷ below) caps) then' no')
      ∙ sym (caught_here r below caps _ refl)

  pub caught_at : (r : Entry) (below : List Entry) (caps : Captures) → is_catching_then r ≡ true
      → is_catching r ≡ true →
      (λ (v : VerbEnding). fail c (r ∷ below) caps) ≡ caught c (r ∷ below) caps (suc (length below))
  caught_at r below caps then' yes' =
      sym (frame_catches r (hand c below (taken_back r caps) (link_of r)) (fail c (r ∷ below) caps) then' yes')
      ∙ sym (caught_here r below caps _ refl)

  -- a THEN alone is caught there
  pub caught_then : (r : Entry) (below : List Entry) (caps : Captures) → is_catching_then r ≡ true
      → is_catching r ≡ false →
      catching (fail c (r ∷ below) caps) (hand c below (taken_back r caps) (link_of r) (entry_site r).node) ≡ caught c
      (r ∷ below) caps (suc (length below))
  caught_then r below caps then' no' =
      let h : ℕ → Handler = hand c below (taken_back r caps) (link_of r) in
      let x : Moves = fail c (r ∷ below) caps in
      let q : ℕ = (entry_site r).node in
      let on : catching x (h q) ≡ frame_hand r h x =
      fun_ext (elim [
        | next_branch ↦ sym (ap (λ (b : Bool). elim b [ true ↦ x | false ↦ h q next_branch ]) then')
        | prune ↦ sym (ap (λ (b : Bool). elim b [ true ↦ x | false ↦ h q prune ]) no')
        | skip n ↦ sym (ap (λ (b : Bool). elim b [ true ↦ x | false ↦ h q (skip n) ]) no')
        | commit ↦ sym (ap (λ (b : Bool). elim b [ true ↦ x | false ↦ h q commit ]) no')
      ]) in
      on ∙ sym (caught_here r below caps _ refl)

  -- What is left at a height.

  pub fail_to_here : (r : Entry) (below : List Entry) (caps : Captures) (h : ℕ) → h ≡ suc (length below)
      → fail_to c (r ∷ below) caps h ≡ fail c (r ∷ below) caps
  unfolding fail
  fail_to_here r below caps h e = cond-true _ _ _ (eq-eqb _ _ e)

  pub fail_to_below : (r : Entry) (below : List Entry) (caps : Captures) (h : ℕ) → (h ≡ suc (length below) → ⊥)
      → fail_to c (r ∷ below) caps h ≡ fail_to c below (taken_back r caps) h
  unfolding fail
  fail_to_below r below caps h n = cond-false _ _ _ (ne_eqb _ _ n)

  pub fail_to_none : (caps : Captures) (h : ℕ) → fail_to c [] caps h ≡ fail c [] caps
  unfolding fail
  fail_to_none caps h = refl

  pub fail_to_top : (stack : List Entry) (caps : Captures) → fail_to c stack caps (length stack) ≡ fail c stack caps
  fail_to_top [] caps = fail_to_none caps 0
  fail_to_top (r ∷ below) caps = fail_to_here r below caps _ refl

  -- Where a branch began.

  pub began_in : (r : Entry) (below : List Entry) (l b h : ℕ) → link_of r ≡ l → c.rank b ≤ c.rank (entry_site r).node
      → began c (r ∷ below) l b h ≡ began c below l b (length below)
  unfolding began
  began_in r below l b h at le = cond-true _ _ _ (eq-eqb _ _ at) ∙ cond-true _ _ _ (le-leb _ _ le)

  pub began_before : (r : Entry) (below : List Entry) (l b h : ℕ) → link_of r ≡ l
      → c.rank (entry_site r).node < c.rank b → began c (r ∷ below) l b h ≡ h
  unfolding began
  began_before r below l b h at lt = cond-true _ _ _ (eq-eqb _ _ at) ∙ cond-false _ _ _ (lt-leb _ _ lt)

  pub began_deeper : (r : Entry) (below : List Entry) (l b h : ℕ) → link_of r ≢ l
      → began c (r ∷ below) l b h ≡ began c below l b h
  unfolding began
  began_deeper r below l b h other = cond-false _ _ _ (ne_eqb _ _ other)

  pub began_none : (l b h : ℕ) → began c [] l b h ≡ h
  unfolding began
  began_none l b h = refl

  pub began_low : (stack : List Entry) (l b h : ℕ) → length stack ≤ h → began c stack l b h ≤ h
  began_low [] l b h le = let e = began_none l b h in omega (arith, e)
  began_low (r ∷ below) l b h le =
      elim (cases_eq (link_of r) l) [
        | inl at ↦ elim (cases_lt (c.rank (entry_site r).node) (c.rank b)) [
          | inl before ↦ let e = began_before r below l b h at before in omega (arith, e)
          | inr inside ↦
              let e = began_in r below l b h at inside in
              let low = began_low below l b (length below) (omega arith) in
              omega (arith, e, low, le)
        ]
        | inr other ↦
            let e = began_deeper r below l b h other in
            let low = began_low below l b h (omega (arith, le)) in
            omega (arith, e, low)
      ]

  -- none of the frame's records stands in the branch yet
  pub began_now : (stack : List Entry) (l q b h : ℕ) → IsLater c l q stack → c.rank q < c.rank b
      → began c stack l b h ≡ h
  began_now [] l q b h later lt = began_none l b h
  began_now (r ∷ below) l q b h later lt =
      elim (cases_eq (link_of r) l) [
        | inl at ↦ let le = later.0 at in began_before r below l b h at (omega (arith, le, lt))
        | inr other ↦ began_deeper r below l b h other ∙ began_now below l q b h later.1 lt
      ]

  pub began_above : (above base : List Entry) (l b h : ℕ) → IsFresh l above
      → began c (above ++ base) l b h ≡ began c base l b h
  began_above [] base l b h deeper = refl
  began_above (r ∷ above) base l b h deeper = began_deeper r (above ++ base) l b h deeper.0
      ∙ began_above above base l b h deeper.1

  -- What verbs lead to in a part.

  -- by the branch around it
  pub hand_of : (stack : List Entry) (caps : Captures) (l p : ℕ) (o : Option ℕ) → c.branch p ≡ o →
      hand c stack caps l p next_branch ≡ elim o [
        | None ↦ caught c stack caps l next_branch
        | Some b ↦
            fail_to c stack caps (began c stack l b (length stack))
      ]
  hand_of stack caps l p o e =
      ap (λ (x : Option ℕ). elim x [
        | None ↦ caught c stack caps l next_branch
        | Some b ↦
            fail_to c stack caps (began c stack l b (length stack))
      ]) e

  hand_is : (stack below : List Entry) (caps now : Captures) (l p : ℕ) → caught c stack caps l ≡ caught c below now l →
      ((b : ℕ) → c.branch p ≡ Some b → fail_to c stack caps (began c stack l b (length stack)) ≡ fail_to c below now
      (began c below l b (length below))) →
      hand c stack caps l p ≡ hand c below now l p
  hand_is stack below caps now l p same then' =
      let by : (o : Option ℕ) → c.branch p ≡ o → hand c stack caps l p next_branch ≡ hand c below now l p next_branch =
      elim [
        | None ↦ λ e. hand_of stack caps l p None e ∙ ap (λ (z : Handler). z next_branch) same
            ∙ sym (hand_of below now l p None e)
        | Some b ↦ λ e. hand_of stack caps l p (Some b) e ∙ then' b e ∙ sym (hand_of below now l p (Some b) e)
      ] in
      fun_ext (elim [
        | next_branch ↦ by (c.branch p) refl
        | prune ↦ ap (λ (z : Handler). z prune) same
        | skip n ↦ ap (λ (z : Handler). z (skip n)) same
        | commit ↦ ap (λ (z : Handler). z commit) same
      ])

  -- none of its records stands yet in a frame that was just opened
  pub began_fresh : (stack : List Entry) (l b h : ℕ) → IsFresh l stack → began c stack l b h ≡ h
  began_fresh [] l b h f = began_none l b h
  began_fresh (r ∷ below) l b h f = began_deeper r below l b h f.0 ∙ began_fresh below l b h f.1

  -- in a frame that was just opened and catches all verbs, each part leads to its failure
  pub hand_fresh : (r : Entry) (below : List Entry) (caps : Captures) (p : ℕ) → is_catching_then r ≡ true
      → is_catching r ≡ true → IsFresh (suc (length below)) (r ∷ below) →
      (λ (v : VerbEnding). fail c (r ∷ below) caps) ≡ hand c (r ∷ below) caps (suc (length below)) p
  hand_fresh r below caps p then' yes' fresh =
      let l : ℕ = suc (length below) in
      let same : (λ (v : VerbEnding). fail c (r ∷ below) caps) ≡ caught c (r ∷ below) caps l =
      caught_at r below caps then' yes' in
      let by : (o : Option ℕ) → c.branch p ≡ o → fail c (r ∷ below) caps ≡ hand c (r ∷ below) caps l p next_branch =
      elim [
        | None ↦ λ e. ap (λ (z : Handler). z next_branch) same ∙ sym (hand_of (r ∷ below) caps l p None e)
        | Some b ↦ λ e.
            sym (hand_of (r ∷ below) caps l p (Some b) e ∙ ap (fail_to c (r ∷ below) caps)
            (began_fresh (r ∷ below) l b l fresh) ∙ fail_to_here r below caps l refl)
      ] in
      fun_ext (elim [
        | next_branch ↦ by (c.branch p) refl
        | prune ↦ ap (λ (z : Handler). z prune) same
        | skip n ↦ ap (λ (z : Handler). z (skip n)) same
        | commit ↦ ap (λ (z : Handler). z commit) same
      ])

  -- it is the same in parts with the same branch around them, and outside all branches the frame's
  pub hand_same : (stack : List Entry) (caps : Captures) (l q p : ℕ) → c.branch q ≡ c.branch p
      → hand c stack caps l q ≡ hand c stack caps l p
  hand_same stack caps l q p e =
      fun_ext (elim [
        | next_branch ↦ hand_of stack caps l q (c.branch p) e
        | prune ↦ refl
        | skip n ↦ refl
        | commit ↦ refl
      ])

  pub hand_frame : (stack : List Entry) (caps : Captures) (l p : ℕ) → c.branch p ≡ None
      → hand c stack caps l p ≡ caught c stack caps l
  hand_frame stack caps l p e =
      fun_ext (elim [ next_branch ↦ hand_of stack caps l p None e | prune ↦ refl | skip n ↦ refl | commit ↦ refl ])

  pub begins : (q p b : ℕ) → BeginsBy c q p → c.branch p ≡ Some b → c.rank b ≤ c.rank q
  begins q p b h e = subst (λ (o : Option ℕ). IfSome o (λ x. c.rank x ≤ c.rank q)) e h

  -- a record of the frame's leaves it as it was where the branch around the part began by then
  pub hand_push : (r : Entry) (below : List Entry) (caps : Captures) (l p : ℕ) → l ≤ length below → link_of r ≡ l
      → BeginsBy c (entry_site r).node p →
      hand c (r ∷ below) caps l p ≡ hand c below (taken_back r caps) l p
  hand_push r below caps l p le at by =
      hand_is (r ∷ below) below caps (taken_back r caps) l p (caught_push r below caps l le)
      (λ b e.
      let low : began c below l b (length below) ≤ length below = began_low below l b (length below) (omega arith) in
      ap (fail_to c (r ∷ below) caps) (began_in r below l b _ at (begins (entry_site r).node p b by e))
      ∙ fail_to_below r below caps _ (λ here. omega (arith, here, low)))

  -- where a branch begins a THEN leads to what is left now
  pub hand_now : (stack : List Entry) (caps : Captures) (l q p : ℕ) → c.branch p ≡ Some p → IsLater c l q stack
      → c.rank q < c.rank p →
      hand c stack caps l p next_branch ≡ fail c stack caps
  hand_now stack caps l q p own later lt =
      hand_of stack caps l p (Some p) own ∙ ap (fail_to c stack caps) (began_now stack l q p _ later lt)
      ∙ fail_to_top stack caps

  -- a branch that begins fails by a THEN
  pub hand_begun : (stack : List Entry) (caps : Captures) (l q p : ℕ) → c.branch p ≡ Some p → IsLater c l q stack
      → c.rank q < c.rank p →
      hand c stack caps l p ≡ catching (fail c stack caps) (hand c stack caps l q)
  hand_begun stack caps l q p own later lt =
      fun_ext (elim [
        | next_branch ↦ hand_now stack caps l q p own later lt
        | prune ↦ refl
        | skip n ↦ refl
        | commit ↦
            refl
      ])

  abbrev pub around_with : Follow → ℕ → (ℕ → Handler) → Outside
  around_with k place h = record { follow = k; place = place; hand = h }

  -- What is around two paths agrees.

  pub agrees_same : (q : ℕ) (k : Outside) → Agrees c q k k
  agrees_same q k = record { follow = refl; place = refl; hand = λ p by. refl }

  pub agrees_over : (q : ℕ) (k l m : Outside) → Agrees c q k l → Agrees c q l m → Agrees c q k m
  agrees_over q k l m a b = record {
    follow = a.follow ∙ b.follow;
    place = a.place ∙ b.place;
    hand = λ p by. a.hand p by ∙ b.hand p by;
  }

  pub agrees_back : (q : ℕ) (k l : Outside) → Agrees c q k l → Agrees c q l k
  agrees_back q k l a = record {
    follow = sym a.follow;
    place = sym a.place;
    hand = λ p by. sym (a.hand p by);
  }

  later_begins : (q to p : ℕ) → c.rank q ≤ c.rank to → BeginsBy c q p → BeginsBy c to p
  later_begins q to p le by =
      (elim (c.branch p) as (λ (o : Option ℕ). IfSome o (λ b. c.rank b ≤ c.rank q) → IfSome o
      (λ b. c.rank b ≤ c.rank to)) [
        | None ↦ λ h. h
        | Some b ↦ λ h. omega (arith, h, le)
      ]) by

  pub agrees_earlier : (q to : ℕ) (k l : Outside) → c.rank q ≤ c.rank to → Agrees c to k l → Agrees c q k l
  agrees_earlier q to k l le a = record {
    follow = a.follow;
    place = a.place;
    hand = λ p by. a.hand p (later_begins q to p le by);
  }

  pub outside_push : (r : Entry) (below : List Entry) (caps : Captures) (l : ℕ) → l ≤ length below → link_of r ≡ l →
      Agrees c (entry_site r).node (outside c (r ∷ below) caps l) (outside c below (taken_back r caps) l)
  outside_push r below caps l le at = record {
    follow = cont_push r below caps l le;
    place = place_push r below l le;
    hand = λ p by. hand_push r below caps l p le at by;
  }

  -- What follows.

  after_both : (d : ℕ) (k l : Outside) (p : ℕ) (ps : List ℕ) → after c d k ps ≡ after c d l ps → k.hand p ≡ l.hand p
      → k.follow ≡ l.follow →
      after c d k (p ∷ ps) ≡ after c d l (p ∷ ps)
  unfolding after
  after_both d k l p ps later same ends =
      follow_same _ _
      (elim [
        | reached ↦ λ s f.
            ap (λ (z : Follow). paths c.setting d (tree_of c p) s z f (k.hand p)) later
            ∙ ap (λ (h : Handler). paths c.setting d (tree_of c p) s (after c d l ps) f h) same
        | accepted ↦ λ s f. ap (λ (z : Follow). z accepted s f) ends
      ])

  pub after_agrees : (q d : ℕ) (k l : Outside) (ps : List ℕ) → Agrees c q k l → All (BeginsBy c q) ps
      → after c d k ps ≡ after c d l ps
  after_agrees q d k l [] a by = after_nil c d k ∙ a.follow ∙ sym (after_nil c d l)
  after_agrees q d k l (p ∷ ps) a by =
      let later : after c d k ps ≡ after c d l ps = after_agrees q d k l ps a (All-tail (BeginsBy c q) p ps by) in
      let same : k.hand p ≡ l.hand p = a.hand p (All-head (BeginsBy c q) p ps by) in
      after_both d k l p ps later same a.follow

  module _ (q d : ℕ) (k l : Outside) (a : Agrees c q k l) (s : State) (f : Moves) where
    hand_agrees : (p : ℕ) (ps : List ℕ) → All (BeginsBy c q) (p ∷ ps) → k.hand p ≡ l.hand p
    hand_agrees p ps by = a.hand p (All-head (BeginsBy c q) p ps by)

    settle_agrees : (b : Bool) → settle c b k.place k.follow ≡ settle c b l.place l.follow
    settle_agrees b = ap (λ x. settle c b x k.follow) a.place ∙ ap (settle c b l.place) a.follow

    settled_agrees : (p : ℕ) → Agrees c q (settled c k p) (settled c l p)
    settled_agrees p = record { follow = settle_agrees (settles c p); place = a.place; hand = a.hand }

    past_agrees : (p : ℕ) → All (BeginsBy c q) (p ∷ c.rest p) → past c d k p ≡ past c d l p
    past_agrees p by = after_agrees q d (settled c k p) (settled c l p) (c.rest p) (settled_agrees p)
        (All-tail (BeginsBy c q) p (c.rest p) by)

    pub beyond_agrees : (t : Nested) (p : ℕ) → All (BeginsBy c q) (p ∷ c.rest p)
        → beyond_by c t d k p ≡ beyond_by c t d l p
    beyond_agrees (tree.group None ts) p by = past_agrees p by
    beyond_agrees _ p by = a.follow

    pub focus_agrees : (next : Next) → All (BeginsBy c q) (parts_of c next)
        → focus c next d k s f ≡ focus c next d l s f
    focus_agrees (Enter p) by =
        ap (λ (z : Follow). paths c.setting d (tree_of c p) s z f (k.hand p)) (past_agrees p by)
        ∙ ap (λ (h : Handler). paths c.setting d (tree_of c p) s (past c d l p) f h) (hand_agrees p (c.rest p) by)
    focus_agrees (Branch p i) by =
        ap (λ (z : Follow). branch_from c (tree_of c p) i d s z f (k.hand p)) (beyond_agrees (tree_of c p) p by)
        ∙ ap (λ (h : Handler). branch_from c (tree_of c p) i d s (beyond c d l p) f h) (hand_agrees p (c.rest p) by)
    focus_agrees (Try p n) by =
        ap (λ (z : Follow). try_from c p n d s z f (k.hand p)) a.follow
        ∙ ap (λ (h : Handler). try_from c p n d s l.follow f h) (hand_agrees p [] by)
    focus_agrees (Offer p i) by =
        ap (λ (z : Follow). offer_from c (tree_of c p) i d s z f (k.hand p)) (past_agrees p by)
        ∙ ap (λ (h : Handler). offer_from c (tree_of c p) i d s (past c d l p) f h) (hand_agrees p (c.rest p) by)
    focus_agrees (Begin p i exits) by =
        ap (λ (z : Follow). begin_from c (tree_of c p) i d s z (if exits then z reached s f else f) (k.hand p))
        (past_agrees p by)
        ∙ ap (λ (h : Handler). begin_from c (tree_of c p) i d s (past c d l p)
        (if exits then past c d l p reached s f else f) h) (hand_agrees p (c.rest p) by)
    focus_agrees (Fewer p least last) by =
        ap (λ (z : Follow). offer_paths c.setting (last ∷ fewer_places c least last) s z f) (past_agrees p by)
    focus_agrees (More p count last) by = ap (λ (z : Follow). more_from c (tree_of c p) count last s z f)
        (past_agrees p by)
    focus_agrees End by = ap (λ (z : Follow). z reached s f) a.follow
    focus_agrees Settle by =
        ap (λ x. ends_before x k.follow reached s f) a.place
        ∙ ap (λ (z : Follow). ends_before l.place z reached s f) a.follow
    focus_agrees Back by = refl
    focus_agrees Accept by = ap (λ (z : Follow). z accepted s f) a.follow
    focus_agrees (Act x) by = ap (λ (h : Handler). pause (h (ending_of x))) (hand_agrees 0 [] by)
    focus_agrees (Leave p) by = ap (λ (h : Handler). pause (h next_branch)) (hand_agrees p [] by)

  frame_end_by : (r : Entry) (a : Around) (k l : Outside) (now : Captures) (out : Moves)
      → past c a.depth k (entry_site r).node ≡ past c a.depth l (entry_site r).node →
      k.hand (entry_site r).node ≡ l.hand (entry_site r).node → k.follow ≡ l.follow
      → frame_end c r a k now out ≡ frame_end c r a l now out
  frame_end_by (GroupOpen at kept) a k l now out p h e = ap (close_from c (tree_of c at.node) kept.place) p
  frame_end_by (TurnOpen at kept count) a k l now out p h e =
      ap (λ (z : Follow). turned_from c (tree_of c at.node) count a.depth (state_at a kept now) z (k.hand at.node)) p
      ∙ ap (turned_from c (tree_of c at.node) count a.depth (state_at a kept now) (past c a.depth l at.node)) h
  frame_end_by (TurnOrExit at kept count) a k l now out p h e =
      ap (λ (z : Follow). turned_from c (tree_of c at.node) count a.depth (state_at a kept now) z (k.hand at.node)) p
      ∙ ap (turned_from c (tree_of c at.node) count a.depth (state_at a kept now) (past c a.depth l at.node)) h
  frame_end_by (AtomicOpen at kept) a k l now out p h e =
      ap {B = Follow} (λ z how s f. leave c.setting (state_at a kept now) how s z out) p
  frame_end_by (LookOpen at kept) a k l now out p h e =
      ap {B = Follow} (λ z how s f. leave c.setting (state_at a kept now) reached (back_to (state_at a kept now) s) z
      out) p
  frame_end_by (LookAllOpen at kept) a k l now out p h e =
      ap {B = Follow} (λ z how s f. pause (z reached (back_to (state_at a kept now) s) f)) p
  frame_end_by (LookTest at kept) a k l now out p h e =
      ap {B = Follow} (λ z how s f. leave c.setting (state_at a kept now) reached (back_to (state_at a kept now) s)
      (λ how' u m. chosen_from c (tree_of c at.node) true a.depth u z m (k.hand at.node)) out) p
      ∙ ap {B = Follow} (λ z how s f. leave c.setting (state_at a kept now) reached (back_to (state_at a kept now) s)
      (λ how' u m. chosen_from c (tree_of c at.node) true a.depth u (past c a.depth l at.node) m z) out) h
  frame_end_by (DenialTest at kept) a k l now out p h e =
      ap {B = Follow} (λ z how s f. leave c.setting (state_at a kept now) reached (back_to (state_at a kept now) s)
      (λ how' u m. chosen_from c (tree_of c at.node) false a.depth u z m (k.hand at.node)) out) p
      ∙ ap {B = Follow} (λ z how s f. leave c.setting (state_at a kept now) reached (back_to (state_at a kept now) s)
      (λ how' u m. chosen_from c (tree_of c at.node) false a.depth u (past c a.depth l at.node) m z) out) h
  frame_end_by (CalledGroup at kept) a k l now out p h e = ap (close_from c (tree_of c at.node) kept.place) e
  frame_end_by (CallOpen at kept group last) a k l now out p h e = ap (returned c.setting (state_at a kept now)) p
  frame_end_by _ a k l now out p h e = refl

  -- the end of a frame, by what is around the part that opened it
  pub frame_end_agrees : (r : Entry) (a : Around) (k l : Outside) (now : Captures) (out : Moves)
      → Agrees c (entry_site r).node k l →
      All (BeginsBy c (entry_site r).node) ((entry_site r).node ∷ c.rest (entry_site r).node)
      → frame_end c r a k now out ≡ frame_end c r a l now out
  frame_end_agrees r a k l now out same by =
      let q : ℕ = (entry_site r).node in
      let past' : past c a.depth k q ≡ past c a.depth l q =
      past_agrees q a.depth k l same (state_at a (entry_kept r) now) out q by in
      let hand' : k.hand q ≡ l.hand q = same.hand q (All-head (BeginsBy c q) q (c.rest q) by) in
      frame_end_by r a k l now out past' hand' same.follow

  -- what is around the parts in a frame that is pushed
  abbrev pub inside_of : Entry → List Entry → Captures → Outside
  inside_of r stack caps =
      around_with (frame_end c r (around_at c stack (link_of r) (entry_kept r).passed)
      (outside c stack (taken_back r caps) (link_of r)) (taken_back r caps) (fail c stack (taken_back r caps)))
      (entry_kept r).place (hand c (r ∷ stack) caps (suc (length stack)))

  -- fewer Steps left
  standing_less : (left less frame d : ℕ) (kept : Kept) (stack : List Entry) → less ≤ left
      → IsStanding c left frame kept d stack → IsStanding c less frame kept d stack
  standing_less left less frame d kept stack h s =
      record {
        inside = s.inside;
        deep = omega (arith, s.deep, h);
        counted = s.counted;
        few = s.few;
        here = s.here;
        marked = s.marked;
        contained = s.contained;
      }

  sound_one : (left less slots : ℕ) (below : List Entry) (r : Entry) → less ≤ left → IsSound c left slots below r
      → IsSound c less slots below r
  sound_one left less slots below (Undo at slot old) h s = s
  sound_one left less slots below (Other at) h s = s
  sound_one left less slots below r h s = (
    s.0,
    standing_less left less (link_of r) _ (entry_kept r) below h s.1,
    s.2,
    s.3,
  )

  pub sound_less : (left less slots : ℕ) (stack : List Entry) → less ≤ left → AreSound c left slots stack
      → AreSound c less slots stack
  sound_less left less slots [] h s = tt
  sound_less left less slots (r ∷ below) h s =
      (sound_one left less slots below r h s.0, sound_less left less slots below h s.1)

  -- a record that is pushed leaves the frames below as they were
  module _ (r : Entry) (stack : List Entry) (caps : Captures) where
    pub focus_kept : (next : Next) (l h : ℕ) (kept : Kept) (now : Captures) (f : Moves) → l ≤ length stack
        → h ≤ length stack → link_of r ≡ l →
        All (BeginsBy c (entry_site r).node) (parts_of c next) →
        focus c next (around c (r ∷ stack) l).depth (outside c (r ∷ stack) caps l)
        (state_at (around_at c (r ∷ stack) l h) kept now) f
        ≡ focus c next (around c stack l).depth (outside c stack (taken_back r caps) l)
        (state_at (around_at c stack l h) kept now) f
    focus_kept next l h kept now f le low at by =
        ap (λ (a : Around). focus c next a.depth (outside c (r ∷ stack) caps l) (state_at a kept now) f)
        (path_push r stack l h le low)
        ∙ focus_agrees (entry_site r).node (around c stack l).depth (outside c (r ∷ stack) caps l)
        (outside c stack (taken_back r caps) l) (outside_push r stack caps l le at)
        (state_at (around_at c stack l h) kept now) f next by

    -- a record of a name that was passed
    pub focus_named : (next : Next) (l : ℕ) (kept : Kept) (now : Captures) (f : Moves) → l ≤ length stack
        → link_of r ≡ l →
        All (BeginsBy c (entry_site r).node) (parts_of c next) →
        focus c next (around c (r ∷ stack) l).depth (outside c (r ∷ stack) caps l)
        (state_at (around_at c (r ∷ stack) l (suc (length stack))) kept now) f
        ≡ focus c next (around c stack l).depth (outside c stack (taken_back r caps) l)
        (state_at (record (around c stack l) { passed = heard_by r (heard stack (entry_kept r).passed) }) kept
        now) f
    focus_named next l kept now f le at by =
        ap (λ (a : Around). focus c next a.depth (outside c (r ∷ stack) caps l)
        (state_at (record a { passed = heard (r ∷ stack) (suc (length stack)) }) kept now) f)
        (around_push r stack l le)
        ∙ ap (λ (names : List (ℕ × ℕ)). focus c next (around c stack l).depth (outside c (r ∷ stack) caps l)
        (state_at (record (around c stack l) { passed = names }) kept now) f) (heard_here r stack _ refl)
        ∙ focus_agrees (entry_site r).node (around c stack l).depth (outside c (r ∷ stack) caps l)
        (outside c stack (taken_back r caps) l) (outside_push r stack caps l le at)
        (state_at (record (around c stack l) { passed = heard_by r (heard stack (entry_kept r).passed) }) kept now) f
        next by

    -- a frame that is pushed, for a path that passed names up to a height below it
    abbrev pub path_in : ℕ → Around
    path_in h = record (frame_around r (around c stack (link_of r))) { passed = heard stack h }

    pub focus_framed : (next : Next) (h : ℕ) (kept : Kept) (now : Captures) (f : Moves) → h ≤ length stack →
        focus c next (around c (r ∷ stack) (suc (length stack))).depth
        (outside c (r ∷ stack) caps (suc (length stack)))
        (state_at (around_at c (r ∷ stack) (suc (length stack)) h) kept now) f
        ≡ focus c next (frame_around r (around c stack (link_of r))).depth (inside_of r stack caps)
        (state_at (path_in h) kept now) f
    focus_framed next h kept now f low =
        ap (λ (a : Around). focus c next a.depth (outside c (r ∷ stack) caps (suc (length stack)))
        (state_at (record a { passed = heard (r ∷ stack) h }) kept now) f) (around_here r stack _ refl)
        ∙ ap (λ (names : List (ℕ × ℕ)). focus c next (frame_around r (around c stack (link_of r))).depth
        (outside c (r ∷ stack) caps (suc (length stack)))
        (state_at (record (frame_around r (around c stack (link_of r))) { passed = names }) kept now) f)
        (heard_push r stack h low)
        ∙ ap (λ (k : Follow). focus c next (frame_around r (around c stack (link_of r))).depth
        (around_with k (place_at (r ∷ stack) (suc (length stack))) (hand c (r ∷ stack) caps (suc (length stack))))
        (state_at (path_in h) kept now) f)
        (cont_here r stack caps _ refl)
        ∙ ap (λ x. focus c next (frame_around r (around c stack (link_of r))).depth
        (around_with (inside_of r stack caps).follow x (hand c (r ∷ stack) caps (suc (length stack))))
        (state_at (path_in h) kept now) f) (place_here r stack _ refl)

module _ (c : Ground) where
  around_deep : (above base : List Entry) (l : ℕ) → l ≤ length base → around c (above ++ base) l ≡ around c base l
  around_deep [] base l h = refl
  around_deep (p ∷ above) base l h = around_push c p (above ++ base) l (omega (arith, h, length-append above base))
      ∙ around_deep above base l h

  path_deep : (above base : List Entry) (l h : ℕ) → l ≤ length base → h ≤ length base
      → around_at c (above ++ base) l h ≡ around_at c base l h
  path_deep [] base l h le low = refl
  path_deep (p ∷ above) base l h le low =
      path_push c p (above ++ base) l h (omega (arith, le, length-append above base))
      (omega (arith, low, length-append above base)) ∙ path_deep above base l h le low

  -- names are not the frame's
  frame_passed : (r : Entry) (a : Around) (names : List (ℕ × ℕ))
      → record (frame_around r a) { passed = names } ≡ frame_around r (record a { passed = names })
  frame_passed (TurnOpen at kept count) a names = refl
  frame_passed (TurnOrExit at kept count) a names = refl
  frame_passed (CallOpen at kept group last) a names = refl
  frame_passed _ a names = refl

  cont_deep : (above base : List Entry) (caps : Captures) (l : ℕ) → l ≤ length base
      → cont c (above ++ base) caps l ≡ cont c base (undone above caps) l
  unfolding undone
  cont_deep [] base caps l h = refl
  cont_deep (p ∷ above) base caps l h =
      cont_push c p (above ++ base) caps l (omega (arith, h, length-append above base))
      ∙ cont_deep above base (taken_back p caps) l h

  caught_deep : (above base : List Entry) (caps : Captures) (l : ℕ) → l ≤ length base
      → caught c (above ++ base) caps l ≡ caught c base (undone above caps) l
  unfolding undone
  caught_deep [] base caps l h = refl
  caught_deep (p ∷ above) base caps l h =
      caught_push c p (above ++ base) caps l (omega (arith, h, length-append above base))
      ∙ caught_deep above base (taken_back p caps) l h

  fail_to_deep : (above base : List Entry) (caps : Captures) (h : ℕ) → h ≤ length base
      → fail_to c (above ++ base) caps h ≡ fail_to c base (undone above caps) h
  unfolding undone
  fail_to_deep [] base caps h le = refl
  fail_to_deep (p ∷ above) base caps h le =
      fail_to_below c p (above ++ base) caps h (λ e. omega (arith, e, le, length-append above base))
      ∙ fail_to_deep above base (taken_back p caps) h le

  -- records in a frame stand deeper than the one around it
  in_frame_deeper : (above : List Entry) (r : Entry) (below : List Entry) → link_of r ≤ length below
      → IsContained (suc (length below)) (above ++ (r ∷ below)) → IsFresh (link_of r) above
  in_frame_deeper [] r below low h = tt
  in_frame_deeper (p ∷ above) r below low h =
      let inside : suc (length below) ≤ length (above ++ (r ∷ below)) =
      omega (arith, length-append above (r ∷ below)) in
      let deep : suc (length below) ≤ link_of p = h.0 inside in
      (λ e. omega (arith, e, deep, low), in_frame_deeper above r below low h.1)

  -- where a frame ends, what is around its part is as when it was opened
  outside_left : (above : List Entry) (r : Entry) (below : List Entry) (caps : Captures) → link_of r ≤ length below
      → IsContained (suc (length below)) (above ++ (r ∷ below)) →
      Agrees c (entry_site r).node (outside c (above ++ (r ∷ below)) caps (link_of r))
      (outside c below (taken_back r (undone above caps)) (link_of r))
  outside_left above r below caps low inside =
      let l : ℕ = link_of r in
      let stack : List Entry = above ++ (r ∷ below) in
      let inner : Captures = undone above caps in
      let lowest : l ≤ length (r ∷ below) = omega (arith, low) in
      record {
        follow = cont_deep above (r ∷ below) caps l lowest ∙ cont_push c r below inner l low;
        place = place_deep above (r ∷ below) l lowest ∙ place_push r below l low;
        hand = λ p by.
            hand_is c stack below caps (taken_back r inner) l p (caught_deep above (r ∷ below) caps l lowest
            ∙ caught_push c r below inner l low)
            (λ b e.
            let first : began c below l b (length below) ≤ length below =
            began_low c below l b (length below) (omega arith) in
            ap (fail_to c stack caps)
            (began_above c above (r ∷ below) l b (length stack) (in_frame_deeper above r below low inside)
            ∙ began_in c r below l b (length stack) refl (begins c (entry_site r).node p b by e))
            ∙ fail_to_deep above (r ∷ below) caps (began c below l b (length below)) (omega (arith, first))
            ∙ fail_to_below c r below inner _ (λ here. omega (arith, here, first)));
      }

  sound_deep : (left slots : ℕ) (above base : List Entry) → AreSound c left slots (above ++ base)
      → AreSound c left slots base
  sound_deep left slots [] base s = s
  sound_deep left slots (p ∷ above) base s = sound_deep left slots above base s.1

  pub link_sound : (left slots : ℕ) (below : List Entry) (r : Entry) → IsSound c left slots below r
      → link_of r ≤ length below
  link_sound left slots below (Undo at slot old) s = s.3
  link_sound left slots below (Other at) s = s.0
  link_sound left slots below r s = s.1.inside

  -- Records of a frame that stand before a part.

  pub later_more : (l q to : ℕ) (stack : List Entry) → c.rank q ≤ c.rank to → IsLater c l q stack → IsLater c l to stack
  later_more l q to [] le h = tt
  later_more l q to (r ∷ below) le h = (
    λ at. let first = h.0 at in omega (arith, first, le),
    later_more l q to below le h.1,
  )

  pub later_push : (l q : ℕ) (r : Entry) (stack : List Entry) → c.rank (entry_site r).node ≤ c.rank q
      → IsLater c l q stack → IsLater c l q (r ∷ stack)
  later_push l q r stack le h = (λ at. le, h)

  pub fresh_sound : (left slots l : ℕ) (stack : List Entry) → AreSound c left slots stack → length stack ≤ l
      → IsFresh l stack
  fresh_sound left slots l [] s le = tt
  fresh_sound left slots l (r ∷ below) s le =
      let low : link_of r ≤ length below = link_sound left slots below r s.0 in
      (λ at. omega (arith, at, low, le), fresh_sound left slots l below s.1 (omega (arith, le)))

  -- none of a frame that is just opened
  pub later_none : (left slots l q : ℕ) (stack : List Entry) → AreSound c left slots stack → length stack ≤ l
      → IsLater c l q stack
  later_none left slots l q [] s le = tt
  later_none left slots l q (r ∷ below) s le =
      let low : link_of r ≤ length below = link_sound left slots below r s.0 in
      (λ at. absurd (omega (arith, at, low, le)), later_none left slots l q below s.1 (omega (arith, le)))

  pub within_frame : (l m : ℕ) (stack : List Entry) → l ≡ m → IsContained l stack → IsContained m stack
  within_frame l m stack e h = subst (λ x. IsContained x stack) e h

  pub contained_push : (l : ℕ) (r : Entry) (stack : List Entry) → link_of r ≡ l → IsContained l stack
      → IsContained l (r ∷ stack)
  contained_push l r stack at h = (λ le. omega (arith, at), h)

  pub contained_none : (l : ℕ) (stack : List Entry) → length stack ≤ l → IsContained l stack
  contained_none l [] le = tt
  contained_none l (r ∷ below) le = (
    λ in_it. absurd (omega (arith, in_it, le)),
    contained_none l below (omega (arith, le)),
  )

  -- where the frame of a record ends
  pub contained_left : (above : List Entry) (r : Entry) (below : List Entry) → link_of r ≤ length below
      → IsContained (suc (length below)) (above ++ (r ∷ below)) →
      IsContained (link_of r) below → IsContained (link_of r) (above ++ (r ∷ below))
  contained_left [] r below low inside h = (λ le. omega arith, h)
  contained_left (p ∷ above) r below low inside h =
      let deep : suc (length below) ≤ link_of p = inside.0 (omega (arith, length-append above (r ∷ below))) in
      (λ le. omega (arith, deep, low), contained_left above r below low inside.1 h)

  pub later_left : (q : ℕ) (above : List Entry) (r : Entry) (below : List Entry) → link_of r ≤ length below
      → IsContained (suc (length below)) (above ++ (r ∷ below)) →
      c.rank (entry_site r).node ≤ c.rank q → IsLater c (link_of r) (entry_site r).node below
      → IsLater c (link_of r) q (above ++ (r ∷ below))
  later_left q [] r below low inside le h = (λ at. le, later_more (link_of r) (entry_site r).node q below le h)
  later_left q (p ∷ above) r below low inside le h =
      let deep : suc (length below) ≤ link_of p = inside.0 (omega (arith, length-append above (r ∷ below))) in
      (λ at. absurd (omega (arith, at, deep, low)), later_left q above r below low inside.1 le h)

  -- the entry at a height is a frame, where the registers at the top are `caps`
  pub record Framed (left slots : ℕ) (stack : List Entry) (caps : Captures) (l : ℕ) (r : Entry) : Type 0 where
    pub below : List Entry
    pub inner : Captures
    pub ends : cont c stack caps l ≡ frame_end c r (around_at c stack (link_of r) (entry_kept r).passed)
        (outside c stack caps (link_of r)) inner (fail c below inner)
    -- what verbs in it lead to; where it catches them it fails
    pub catches : caught c stack caps l ≡ frame_hand r (hand c below inner (link_of r))
        (fail c (stack_of.up_to l stack) (undone (stack_of.past l stack) caps))
    pub deep : around c stack l ≡ frame_around r (around c stack (link_of r))
    pub path : (h : ℕ) → around_at c stack l h ≡ frame_around r (around_at c stack (link_of r) h)
    pub marked : (entry_kept r).passed ≤ length stack
    pub link : link_of r ≤ length stack
    -- the records above it, and where those of the frame around it stand
    pub outer : IsContained (link_of r) stack
    pub later : (q : ℕ) → c.rank (entry_site r).node ≤ c.rank q → IsLater c (link_of r) q stack
    pub sound : IsSound c left slots below r
    pub same_around : around c below (link_of r) ≡ around c stack (link_of r)
    -- the frame's record is the oldest that is given up where the stack is cut just below it
    pub given_up : (h : ℕ) → l ≡ suc h → (stack_of.up_to h stack ≡ below)
        × (undone (stack_of.past h stack) caps ≡ inner)

  pub heard_sound : (left slots : ℕ) (below : List Entry) (r : Entry) → IsSound c left slots below r
      → (entry_kept r).passed ≤ length below
  heard_sound left slots below (Undo at slot old) s = omega arith
  heard_sound left slots below (Other at) s = omega arith
  heard_sound left slots below r s = s.1.marked

  pub part_sound : (left slots : ℕ) (below : List Entry) (r : Entry) → IsSound c left slots below r
      → IsPart c (entry_site r).node
  part_sound left slots below (Undo at slot old) s = s.4
  part_sound left slots below (Other at) s = s.1
  part_sound left slots below r s = s.0

  pub contained_sound : (left slots : ℕ) (below : List Entry) (r : Entry) → IsSound c left slots below r
      → IsContained (link_of r) below
  contained_sound left slots below (Undo at slot old) s = s.5
  contained_sound left slots below (Other at) s = s.2
  contained_sound left slots below r s = s.1.contained

  later_sound : (left slots : ℕ) (below : List Entry) (r : Entry) → IsSound c left slots below r
      → IsLater c (link_of r) (entry_site r).node below
  later_sound left slots below (Undo at slot old) s = s.6
  later_sound left slots below (Other at) s = s.3
  later_sound left slots below r s = s.3

  -- the branches around a record's part and those that follow it began by then
  begun_sound : (left slots : ℕ) (below : List Entry) (r : Entry) → IsSound c left slots below r
      → All (BeginsBy c (entry_site r).node) ((entry_site r).node ∷ c.rest (entry_site r).node)
  begun_sound left slots below (Undo at slot old) s = s.4.begun
  begun_sound left slots below (Other at) s = s.1.begun
  begun_sound left slots below r s = s.0.begun

  framed_split : (left slots : ℕ) (above below : List Entry) (caps : Captures) (r : Entry) → link_of r ≤ length below
      → (entry_kept r).passed ≤ length below →
      IsContained (suc (length below)) (above ++ (r ∷ below))
      → All (BeginsBy c (entry_site r).node) ((entry_site r).node ∷ c.rest (entry_site r).node)
      → AreSound c left slots (above ++ (r ∷ below)) → Framed left slots (above ++ (r ∷ below)) caps
      (suc (length below)) r
  framed_split left slots above below caps r low early within begun s =
      let one : suc (length below) ≤ length (r ∷ below) = omega arith in
      let lowest : link_of r ≤ length (r ∷ below) = omega (arith, low) in
      let inner : Captures = undone above caps in
      let k2 : Agrees c (entry_site r).node (outside c (above ++ (r ∷ below)) caps (link_of r))
      (outside c below (taken_back r inner) (link_of r)) =
      outside_left above r below caps low within in
      let d2 : around c (above ++ (r ∷ below)) (link_of r) ≡ around c below (link_of r) =
      around_deep above (r ∷ below) (link_of r) lowest ∙ around_push c r below (link_of r) low in
      let told : ℕ = (entry_kept r).passed in
      let p2 : around_at c (above ++ (r ∷ below)) (link_of r) told ≡ around_at c below (link_of r) told =
      path_deep above (r ∷ below) (link_of r) told lowest (omega (arith, early))
      ∙ path_push c r below (link_of r) told low early in
      let deep_is : around c (above ++ (r ∷ below)) (suc (length below)) ≡ frame_around r
      (around c (above ++ (r ∷ below)) (link_of r)) =
      around_deep above (r ∷ below) _ one ∙ around_here c r below _ refl ∙ ap (frame_around r) (sym d2) in
      record {
        below = below;
        inner = taken_back r inner;
        ends =
            cont_deep above (r ∷ below) caps (suc (length below)) one
            ∙ cont_here c r below inner _ refl
            ∙ ap (λ (a : Around). frame_end c r a (outside c below (taken_back r inner) (link_of r))
            (taken_back r inner) (fail c below (taken_back r inner))) (sym p2)
            ∙ sym (frame_end_agrees c r (around_at c (above ++ (r ∷ below)) (link_of r) told) _ _ (taken_back r inner)
            (fail c below (taken_back r inner)) k2 begun);
        catches =
            caught_deep above (r ∷ below) caps (suc (length below)) one
            ∙ caught_here c r below inner _ refl
            ∙ ap (λ st. frame_hand r (hand c below (taken_back r inner) (link_of r)) (fail c st inner))
            (sym (up_to_base above (r ∷ below)))
            ∙ ap (λ (x : Captures). frame_hand r (hand c below (taken_back r inner) (link_of r))
            (fail c (stack_of.up_to (suc (length below)) (above ++ (r ∷ below))) x))
            (sym (past_base above (r ∷ below) caps));
        deep = deep_is;
        path = λ h.
            ap (λ (a : Around). record a { passed = heard (above ++ (r ∷ below)) h }) deep_is
            ∙ frame_passed r (around c (above ++ (r ∷ below)) (link_of r)) (heard (above ++ (r ∷ below)) h);
        link = omega (arith, low, length-append above (r ∷ below));
        marked = omega (arith, early, length-append above (r ∷ below));
        outer = contained_left above r below low within
            (contained_sound left slots below r (sound_deep left slots above (r ∷ below) s).0);
        later = λ q le. later_left q above r below low within le
            (later_sound left slots below r (sound_deep left slots above (r ∷ below) s).0);
        sound = (sound_deep left slots above (r ∷ below) s).0;
        same_around = sym d2;
        given_up = λ h e.
            let same : h ≡ length below = omega (arith, e) in (
              ap (λ x. stack_of.up_to x (above ++ (r ∷ below))) same ∙ up_to_below above below r,
              ap (λ x. undone (stack_of.past x (above ++ (r ∷ below))) caps) same ∙ past_above above below r caps,
            );
      }

  pub framed : (left slots : ℕ) (records : List Record) (caps : Captures) (i : ℕ) (p : Record) (r : Entry)
      → entry_of p ≡ r →
      AreSound c left slots (entries records) → IsContained (suc i) (entries records)
      → slice_get (reverse records) i ≡ Some p → Framed left slots (entries records) caps (suc i) r
  framed left slots records caps i p r same s within e =
      let z = split records i p e in
      let is : entries records ≡ z.above ++ (r ∷ z.below) = z.is ∙ ap (λ x. z.above ++ (x ∷ z.below)) same in
      let here : AreSound c left slots (z.above ++ (r ∷ z.below)) = subst (λ st. AreSound c left slots st) is s in
      subst (λ st. Framed left slots st caps (suc i) r) (sym is)
      (subst (λ h. Framed left slots (z.above ++ (r ∷ z.below)) caps h r) (sym z.height)
      (framed_split left slots z.above z.below caps r
      (link_sound left slots z.below r (sound_deep left slots z.above (r ∷ z.below) here).0)
      (heard_sound left slots z.below r (sound_deep left slots z.above (r ∷ z.below) here).0)
      (subst (λ h. IsContained h (z.above ++ (r ∷ z.below))) z.height (subst (IsContained (suc i)) is within))
      (begun_sound left slots z.below r (sound_deep left slots z.above (r ∷ z.below) here).0) here))

  -- where the machine goes on after a part
  module _ (ok : IsGround c) (q : ℕ) (inside : IsPart c q) where
    focus_end : (b : Bool) (d : ℕ) (k : Outside) (s : State) (f : Moves)
        → focus c (towards None b) d k s f ≡ settle c b k.place k.follow reached s f
    focus_end true d k s f = refl
    focus_end false d k s f = refl

    -- the part that follows settles as it does
    settled_next : (k : Outside) (p : ℕ) (ps : List ℕ) → c.rest q ≡ p ∷ ps → settled c k p ≡ settled c k q
    settled_next k p ps e =
        let same : c.look_branch p ≡ c.look_branch q =
        All-head (λ x. c.look_branch x ≡ c.look_branch q) p ps
        (subst (All (λ x. c.look_branch x ≡ c.look_branch q)) e inside.looked_on) in
        ap (λ b. record k { follow = settle c b k.place k.follow }) (settles_same c p q same)

    focus_first : (b : Bool) (d : ℕ) (k : Outside) (qs : List ℕ) (s : State) (f : Moves) → c.rest q ≡ qs
        → settles c q ≡ b → focus c (towards (first_of qs) b) d k s f ≡ after c d (settled c k q) qs reached s f
    focus_first b d k [] s f e is =
        focus_end b d k s f
        ∙ ap (λ x. settle c x k.place k.follow reached s f) (sym is)
        ∙ ap (λ (z : Follow). z reached s f) (sym (after_nil c d (settled c k q)))
    focus_first b d k (p ∷ ps) s f e is =
        ap (λ (o : Outside). paths c.setting d (tree_of c p) s (after c d o (c.rest p)) f (k.hand p))
        (settled_next k p ps e)
        ∙ sym (after_cons c d (settled c k q) p (c.rest p) s f)
        ∙ ap (λ (r : List ℕ). after c d (settled c k q) (p ∷ r) reached s f) (ok.chained q p ps inside.within e)

    pub focus_towards : (d : ℕ) (k : Outside) (s : State) (f : Moves)
        → focus c (onward c q) d k s f ≡ past c d k q reached s f
    focus_towards d k s f = focus_first (settles c q) d k (c.rest q) s f refl refl

    running_end : (b : Bool) (spot : Spot) (stack : List Entry) → IsRunning c spot stack End
        → IsRunning c spot stack (towards None b)
    running_end true spot stack r = r
    running_end false spot stack r = r

    running_first : (b : Bool) (spot : Spot) (stack : List Entry) (o : List ℕ) → c.rest q ≡ o
        → IsLater c spot.frame q stack
        → IsRunning c spot stack End → IsRunning c spot stack (towards (first_of o) b)
    running_first b spot stack [] e later r = running_end b spot stack r
    running_first b spot stack (p ∷ ps) e later r =
        (next_part c ok q p ps inside e, r, later_more spot.frame q p stack (next_rank c ok q p ps inside e) later)

    -- its own records and those before it stand before what follows
    pub running_towards : (spot : Spot) (stack : List Entry) → IsLater c spot.frame q stack
        → IsRunning c spot stack End → IsRunning c spot stack (onward c q)
    running_towards spot stack later r = running_first (settles c q) spot stack (c.rest q) refl later r

    begun_end : (b : Bool) → All (BeginsBy c q) (parts_of c (towards None b))
    begun_end true = All-nil (BeginsBy c q)
    begun_end false = All-nil (BeginsBy c q)

    begun_first : (b : Bool) (o : List ℕ) → c.rest q ≡ o → All (BeginsBy c q) (parts_of c (towards (first_of o) b))
    begun_first b [] e = begun_end b
    begun_first b (p ∷ ps) e =
        let all : All (BeginsBy c q) (p ∷ ps) = subst (All (BeginsBy c q)) e
        (All-tail (BeginsBy c q) q (c.rest q) inside.begun) in
        subst (λ xs. All (BeginsBy c q) (p ∷ xs)) (sym (ok.chained q p ps inside.within e)) all

    pub begun_towards : All (BeginsBy c q) (parts_of c (onward c q))
    begun_towards = begun_first (settles c q) (c.rest q) refl

  -- what a sound record gives back
  pub slot_sound : (left : ℕ) (caps : Captures) (below : List Entry) (r : Entry)
      → IsSound c left (length caps) below r → HasSlot caps r
  slot_sound left caps below (Undo at slot old) s = (s.0, s.1)
  slot_sound left caps below _ s = tt

  set_spans : (caps : Captures) (i : ℕ) (v : Option Span) → SpanStands c v → AreSpans c caps → AreSpans c (set caps i v)
  set_spans caps i v s a = All-set (SpanStands c) caps i v s a

  pub spans_back : (left : ℕ) (caps : Captures) (below : List Entry) (r : Entry)
      → IsSound c left (length caps) below r → AreSpans c caps → AreSpans c (taken_back r caps)
  spans_back left caps below (Undo at slot old) s a = set_spans caps (slot - 1) old s.2 a
  spans_back left caps below _ s a = a

  pub slots_sound : (left : ℕ) (caps : Captures) (stack : List Entry) → AreSound c left (length caps) stack
      → All (HasSlot caps) stack
  slots_sound left caps [] s = λ k d h. absurd (omega (arith, h))
  slots_sound left caps (r ∷ below) s = All-cons (HasSlot caps) r below (slot_sound left caps below r s.0)
      (slots_sound left caps below s.1)
