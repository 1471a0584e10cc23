-- A fixed string that stands nowhere in a line is found by no search.
use Rattle.std.proofs.Common.{◌≡◌, ◌∙◌, ℕ, zero, suc, ◌+◌, ◌<◌, ◌≤◌, Bool, true, false, ◌==◌, List, [], ◌∷◌, ◌++◌}
use Rattle.std.proofs.Common.{length, map, get_or, nat_le, Option, Some, None, IfSome, refl, sym, ap, arith}
use Rattle.std.proofs.Common.{true-eqb, ⊎_elim}
use Rattle.std.proofs.lemmas.Bool.{cases_lt}
use Rattle.uni_text.specs.Characters.{char_at}
use Rattle.std.proofs.lemmas.Bool.Decides.{nat_tests}
use Rattle.memchr.specs.Find.{OccursAt}
use Rattle.pat_tree.specs.declared.options.PartialMode.TheVariants.{Off}
use Rattle.pat_tree.specs.declared.nodes.Item.TheVariants.{Char}
use Rattle.pat_tree.specs.Nested.{Nested, one, group, row}
use Rattle.pat_grammar.specs.Parts.{alternative}
use Rattle.match_items.specs.Items.{is_end, after_item}
use Rattle.ordered_search.specs.Setting.{Setting, reach, reach_if, match_limit}
use Rattle.ordered_search.specs.Stream.{State, first_state, Stream, Search, nothing, ◌or_else◌, each, go_on, and_then}
use Rattle.ordered_search.specs.Tests.{goes_to, run_one}
use Rattle.ordered_search.specs.Parts.{Searches, in_order, branches, run_group}
use Rattle.ordered_search.specs.Run.{level, levels, run}
use Rattle.ordered_search.specs.PlaceAnswer.{Walked, Exhausted, Failed, answers, walk, place_answer}
use Rattle.ordered_search.specs.Places.{is_excluded, next_place, last_place, up_to, within, place_after, passes_crlf}
use Rattle.ordered_search.specs.MatchAnswer.{Found, none_found, tried, found_at, from_place, match_answer}
use Rattle.grep_match.specs.Spelt.{StandsNowhere}

abbrev pub bytes_tree : List ℕ → Nested
bytes_tree text = group None (row (alternative (map (λ c. one (Char c false)) text) ∷ []))

module _ (g : Setting) (off : g.matching.«partial» ≡ Off) (single : g.options.utf ≡ false) where
  unreached : (b : Bool) (s : State) (x : Stream) → reach_if g b s x ≡ x
  unfolding reach_if reach
  unreached true s x = rw off refl
  unreached false s x = refl

  -- One byte.

  -- the item of a byte at a place: nothing stands there, another byte, or it
  past-end : (c p : ℕ) → length g.subject ≤ p → after_item g.scene (Char c false) p ≡ None
  past-end c p past = let at_end : is_end g.scene p ≡ true = grind (arith, nat_tests) in rw (at_end, after_item) refl

  other-byte : (c p : ℕ) → p < length g.subject → (c == get_or g.subject p 0) ≡ false
      → after_item g.scene (Char c false) p ≡ None
  other-byte c p inside other =
      let before : is_end g.scene p ≡ false = grind (arith, nat_tests) in
      rw (before, after_item, single, other) refl

  same-byte : (c p : ℕ) → p < length g.subject → (c == get_or g.subject p 0) ≡ true
      → after_item g.scene (Char c false) p ≡ Some (p + 1)
  same-byte c p inside same =
      let before : is_end g.scene p ≡ false = grind (arith, nat_tests) in
      rw (before, after_item, single, same)
      (ap (λ (u : Bool). let o : Option ℕ = Some (char_at u g.subject p).1 in o) single)

  -- what a search of a byte and then of the rest gives by the place after the byte
  abbrev then : Option ℕ → State → Search → Stream
  then q s f = each (goes_to q s) (go_on f)

  byte-then : (c : ℕ) (s : State) (f : Search) (q : Option ℕ) → after_item g.scene (Char c false) s.place ≡ q
      → and_then (run_one g (Char c false) s) f ≡ then q s f
  unfolding run_one
  byte-then c s f q is =
      ap (λ x. each x (go_on f)) (unreached _ s _)
      ∙ ap (λ o. then o s f) is

  none-then : (s : State) (f : Search) → then None s f ≡ nothing
  unfolding each
  none-then s f = refl

  some-then : (q : ℕ) (s : State) (f : Search) → f (record s { place = q }) ≡ nothing → then (Some q) s f ≡ nothing
  unfolding each ◌or_else◌
  some-then q s f h = rw h refl

  -- Bytes one after the other.

  occurs-more : (c : ℕ) (bs : List ℕ) (p : ℕ) → p < length g.subject → (c == get_or g.subject p 0) ≡ true
      → OccursAt g.subject bs (p + 1) → OccursAt g.subject (c ∷ bs) p
  occurs-more c bs p inside same o = record { fits = let fits = o.fits in omega arith; reads = reads }
    where
      reads : (j : ℕ) → j < length (c ∷ bs) → get_or g.subject (p + j) 0 ≡ get_or (c ∷ bs) j 0
      reads zero low =
          ap (λ k. get_or g.subject k 0) (let here : p + 0 ≡ p = omega arith in here)
          ∙ sym (true-eqb c (get_or g.subject p 0) (sym same))
      reads (suc j) low =
          ap (λ k. get_or g.subject k 0) (let on : p + suc j ≡ p + 1 + j = omega arith in on)
          ∙ o.reads j (omega arith)

  module _ (below : Searches) where
    abbrev searches : List ℕ → List Search
    searches bs = levels g below (row (map (λ c. one (Char c false)) bs))

    step : (c : ℕ) (bs : List ℕ) (s : State)
        → (s.place < length g.subject → (c == get_or g.subject s.place 0) ≡ true
        → in_order (searches bs) (record s { place = s.place + 1 }) ≡ nothing)
        → in_order (searches (c ∷ bs)) s ≡ nothing
    unfolding in_order level levels
    step c bs s rest =
        ⊎_elim (λ inside. by_test (c == get_or g.subject s.place 0) refl inside)
        (λ past. byte-then c s (in_order (searches bs)) None (past-end c s.place past)
        ∙ none-then s (in_order (searches bs)))
        (cases_lt s.place (length g.subject))
      where
        by_test : (t : Bool) → (c == get_or g.subject s.place 0) ≡ t → s.place < length g.subject
            → in_order (searches (c ∷ bs)) s ≡ nothing
        by_test false e inside =
            byte-then c s (in_order (searches bs)) None (other-byte c s.place inside e)
            ∙ none-then s (in_order (searches bs))
        by_test true e inside =
            byte-then c s (in_order (searches bs)) (Some (s.place + 1)) (same-byte c s.place inside e)
            ∙ some-then (s.place + 1) s (in_order (searches bs)) (rest inside e)

    fails : (bs : List ℕ) (s : State) → (length bs ≡ 0 → s.place ≤ length g.subject)
        → ¬ OccursAt g.subject bs s.place → in_order (searches bs) s ≡ nothing
    fails [] s within none =
        let here : s.place ≤ length g.subject = within refl in
        absurd (none (record { fits = omega arith; reads = λ j low. absurd (omega arith) }))
    fails (c ∷ bs) s within none =
        step c bs s (λ inside same. fails bs (record s { place = s.place + 1 }) (λ _. omega arith)
        (λ o. none (occurs-more c bs s.place inside same o)))

    one-fails : (c : ℕ) (s : State) → ¬ OccursAt g.subject (c ∷ []) s.place → run_one g (Char c false) s ≡ nothing
    unfolding run_one
    one-fails c s none =
        unreached _ s _
        ∙ ⊎_elim (λ inside. by_test (c == get_or g.subject s.place 0) refl inside)
        (λ past. ap (λ q. goes_to q s) (past-end c s.place past))
        (cases_lt s.place (length g.subject))
      where
        by_test : (t : Bool) → (c == get_or g.subject s.place 0) ≡ t → s.place < length g.subject
            → goes_to (after_item g.scene (Char c false) s.place) s ≡ nothing
        by_test false e inside = ap (λ q. goes_to q s) (other-byte c s.place inside e)
        by_test true e inside =
            absurd (none (occurs-more c [] s.place inside e
            (record { fits = omega arith; reads = λ j low. absurd (omega arith) })))

    tree-fails : (bs : List ℕ) (s : State) → 0 < length bs → ¬ OccursAt g.subject bs s.place
        → level g below (alternative (map (λ c. one (Char c false)) bs)) s ≡ nothing
    unfolding level
    tree-fails [] s some none = absurd (omega arith)
    tree-fails (c ∷ []) s some none = one-fails c s none
    tree-fails (c ∷ d ∷ bs) s some none = fails (c ∷ d ∷ bs) s (λ e. absurd (omega (arith, e))) none

  -- The places of a search.

  module _ (text : List ℕ) (is : g.whole ≡ bytes_tree text) (some : 0 < length text)
      (nowhere : StandsNowhere text g.subject g.start) where
    whole-fails : (d : ℕ) (s : State) → g.start ≤ s.place → run g (suc d) (bytes_tree text) s ≡ nothing
    unfolding run level levels run_group branches
    whole-fails d s from = tree-fails (run g d) text s some (nowhere s.place from)

    place-fails : (p : ℕ) → g.start ≤ p → place_answer g p ≡ answers (Failed Exhausted)
    unfolding walk
    place-fails p from =
        let deep : match_limit g + 1 ≡ suc (match_limit g) = omega arith in
        ap (λ d. walk g (match_limit g) (run g d g.whole (first_state g.groups p))) deep
        ∙ ap (λ t. walk g (match_limit g) (run g (suc (match_limit g)) t (first_state g.groups p))) is
        ∙ ap (walk g (match_limit g)) (whole-fails (match_limit g) (first_state g.groups p) from)

    tried-fails : (p : ℕ) → g.start ≤ p → tried g p ≡ answers (Failed Exhausted)
    tried-fails p from = by_test (is_excluded g p)
      where
        by_test : (c : Bool) → ◌≡◌ {A = Walked}
            (elim c [ true ↦ answers (Failed Exhausted) | false ↦ place_answer g p ]) (answers (Failed Exhausted))
        by_test true = refl
        by_test false = place-fails p from

    kept-later : (last : ℕ) (o : Option ℕ) → IfSome o (λ q. g.start ≤ q) → IfSome (up_to last o) (λ q. g.start ≤ q)
    kept-later last None later = tt
    kept-later last (Some q) later = by_test (nat_le q last)
      where
        by_test : (c : Bool) → IfSome (elim c as (λ _. Option ℕ) [ true ↦ Some q | false ↦ None ]) (λ q. g.start ≤ q)
        by_test true = later
        by_test false = tt

    next-later : (p : ℕ) → g.start ≤ p → IfSome (next_place g p) (λ q. g.start ≤ q)
    next-later p from = by_end (is_end g.scene p)
      where
        by_crlf : (c : Bool) (q : ℕ) → q ≡ p + 1
            → IfSome (elim c as (λ _. Option ℕ) [ true ↦ Some (p + 2) | false ↦ Some q ]) (λ q. g.start ≤ q)
        by_crlf true q is = omega arith
        by_crlf false q is = omega arith

        by_end : (c : Bool) → IfSome (elim (elim c as (λ _. Option (ℕ × ℕ)) [
          | true ↦ None
          | false ↦ Some (char_at g.options.utf g.subject p)
        ]) as (λ _. Option ℕ) [
          | None ↦ None
          | Some c ↦ elim (passes_crlf g p) as (λ _. Option ℕ) [ true ↦ Some (p + 2) | false ↦ Some c.1 ]
        ]) (λ q. g.start ≤ q)
        by_end true = tt
        by_end false =
            by_crlf (passes_crlf g p) (char_at g.options.utf g.subject p).1
            (ap (λ (u : Bool). (char_at u g.subject p).1) single)

    none-from : (n : ℕ) (o : Option ℕ) → IfSome o (λ q. g.start ≤ q) → from_place g n o ≡ none_found
    unfolding from_place
    none-from zero o later = refl
    none-from (suc n) None later = refl
    none-from (suc n) (Some p) later =
        ap (λ w. found_at p w (λ signal. from_place g n (place_after g p signal))) (tried-fails p later)
        ∙ ap (λ (f : Found). record { answer = f.answer; notes = [] ++ f.notes })
        (none-from n (place_after g p Exhausted)
        (kept-later (last_place g) (next_place g p) (next-later p later)))

    none-found : match_answer g ≡ none_found
    none-found = none-from _ (within g (Some g.start)) (kept-later (last_place g) (Some g.start) (omega arith))

some-text : (text subject : List ℕ) (start : ℕ) → start ≤ length subject → StandsNowhere text subject start
    → 0 < length text
some-text [] subject start begun nowhere =
    absurd (nowhere start (omega arith) (record { fits = omega arith; reads = λ j low. absurd (omega arith) }))
some-text (c ∷ bs) subject start begun nowhere = omega arith

pub none-at-all : (g : Setting) (text : List ℕ) → g.matching.«partial» ≡ Off → g.options.utf ≡ false
    → g.whole ≡ bytes_tree text → g.start ≤ length g.subject → StandsNowhere text g.subject g.start
    → match_answer g ≡ none_found
none-at-all g text off single is begun nowhere =
    none-found g off single text is (some-text text g.subject g.start begun nowhere) nowhere
