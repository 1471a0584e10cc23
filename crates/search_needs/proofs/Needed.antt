-- Where no text stands that every match needs, there is no match, and within the bound no limit is passed.
use Rattle.std.proofs.Common.{◌≡◌, ℕ, zero, suc, ◌+◌, ◌-◌, ◌<◌, ◌≤◌, Bool, true, false, List, [], ◌∷◌, ◌++◌, length}
use Rattle.std.proofs.Common.{length-drop, drop, drop-cons, take-append-drop, get_or, reverse, Option, Some, None}
use Rattle.std.proofs.Common.{◌⊎◌, inl, inr, refl, sym, ap, subst, ◌∙◌, arith}
use Rattle.std.specs.Prelude.{IfSome, IsTrue, if◌then◌else◌, nat_le, ◌==◌, ◌&&◌, ◌||◌, slice_index, option_map}
use Rattle.std.specs.Char.{len_utf8}
use Rattle.std.proofs.Math.Utf8.{encode}
use Rattle.std.proofs.lemmas.Bool.{cases_lt, eqb-true, eq-eqb, lt-ltb, le-ltb, le-leb, leb-true, leb-false, or_left}
use Rattle.std.proofs.lemmas.Bool.{or_right}
use Rattle.std.proofs.lemmas.List.{drop_all}
use Rattle.std.proofs.lemmas.Str.{byte_from_char, char_from_byte, len_utf8_ascii}
use Rattle.uni_text.specs.Characters.{first_char, char_at}
use Rattle.uni_text.specs.Ascii.{ascii_fold}
use Rattle.uni_text.specs.Folding.{fold, begins_past_ascii}
use Rattle.uni_text.proofs.FoldLemmas.{past_alike}
use Rattle.pat_tree.specs.declared.options.PartialMode.TheVariants.{Off}
use Rattle.pat_tree.specs.declared.nodes.Item.{Item}
use Rattle.pat_tree.specs.declared.nodes.Item.TheVariants.{Char, AnyAll, NotNewline, Class}
use Rattle.pat_tree.specs.Nested as tree
use Rattle.pat_tree.specs.Nested.{Nested, Row}
use Rattle.match_items.specs.Items.{is_end, takes, after_item, item_reaches, one_less, is_none_left, run_places}
use Rattle.match_items.specs.Items.{longest_run}
use Rattle.match_items.specs.Subjects.{IsText, IsTextPlace}
use Rattle.match_items.specs.Views.{fold_in}
use Rattle.match_items.proofs.TextGround.{next_place as goes_to_place, text_forward}
use Rattle.pat_bounds.specs.declared.bounds.Growth.{Growth}
use Rattle.pat_bounds.specs.declared.bounds.Bound.{Bound}
use Rattle.pat_bounds.specs.Bounds.{at, followed, or_later, or_so, first_item, is_alone, closed, grouped, both}
use Rattle.pat_bounds.specs.Bounds.{change, offered, turns, left_once, is_apart, bound, bound_before, bound_in_turn}
use Rattle.pat_bounds.specs.Bounds.{bound_of_one, bound_of_choices}
use Rattle.pat_needs.specs.Needs.{may_begin, may_take, TakesOf, IsShort, Begins, copies, Needs, SomeNeeds, AllNeed}
use Rattle.pat_needs.specs.Lacking.{IsBoundWithout, sequence}
use Rattle.pat_needs.specs.Texts.{Stands}
use Rattle.pat_needs.proofs.TextLemmas.{clash}
use Rattle.byte_lanes.specs.Sets.{IsIn}
use Rattle.ordered_search.specs.Stream.{State, first_state, exhausted, by_verb, by_halt, is_partial, too_many_units}
use Rattle.ordered_search.specs.Stream.{loop, abort, cut, How, reached, accepted, note, state, step, Stream, Search}
use Rattle.ordered_search.specs.Stream.{ends, ◌▸◌, nothing, each, go_on, and_then, no_ending, is_next_branch}
use Rattle.ordered_search.specs.Stream.{fails_alone}
use Rattle.ordered_search.specs.Setting.{Setting, match_limit, held, reach_if}
use Rattle.ordered_search.specs.Tests.{goes_to, run_one, offers, greedy, reluctant, lazy_run, run_many}
use Rattle.ordered_search.specs.Parts.{Searches, in_order, choices, branches, run_group, run_atomic, run_look}
use Rattle.ordered_search.specs.Run.{level, levels, run}
use Rattle.ordered_search.specs.Laws.{ending, step_count}
use Rattle.ordered_search.specs.PlaceAnswer.{Exhausted, Failed, Walked, answers, walk, place_answer}
use Rattle.ordered_search.specs.Forward.{IsTextSearch}
use Rattle.ordered_search.specs.Places.{next_place, last_place, within, is_excluded, place_after}
use Rattle.ordered_search.specs.MatchAnswer.{Found, none_found, tried, found_at, from_place, match_answer}
use Rattle.search_needs.specs.Needed.{IsWithoutNeed, NeedLaw}
use Rattle.search_needs.proofs.TameStreams.{state_count, Tame}
use Rattle.search_needs.proofs.SilentStreams.{Silent, silent_nothing, silent_halt, silent_step, silent_or_else}
use Rattle.search_needs.proofs.SilentStreams.{silent_before, silent_decide, silent_catch}
use Rattle.ordered_search.proofs.CutLaw.{cut_law}
use Rattle.ordered_search.proofs.StartPlaces.{next_stands, up_to_keeps}
use Rattle.ordered_search.proofs.ForwardStreams.{IsOnWay, Forward, IsForward, with_units, loosened}
use Rattle.ordered_search.proofs.ForwardSearch.{forward_level, forward_run}
use Rattle.ordered_search.proofs.ForwardLaw.{begun_at}
use Rattle.search_needs.proofs.Growing.{at_plus}
use Rattle.search_needs.proofs.Bounded.{FitsSome, unreached, one_more, two_more}
use Rattle.search_needs.proofs.FitsLevels.{fits_level}
use Rattle.search_needs.proofs.FirstParts.{first_alone, bound_of_sequence}

-- the bytes with which a character may begin, each in its case of the definition

folds_low : (c b : ℕ) → b < 128 → fold c ≡ fold b → may_begin true c b ≡ true
folds_low c b low same = rw (lt-ltb b 128 low) (eq-eqb (fold c) (fold b) same)

folds_past : (c b : ℕ) → 128 ≤ b → begins_past_ascii c b ≡ true → may_begin true c b ≡ true
folds_past c b past meets = rw (le-ltb b 128 past) meets

-- by the characters that fold alike past ASCII and what they begin with
begins_by : (c d b : ℕ) → (nat_le 128 c || (ascii_fold c == 107 && d == 0x212A || ascii_fold c == 115 && d == 0x17F))
    ≡ true
    → (d ≡ 0x212A → b ≡ 0xE2) → (d ≡ 0x17F → b ≡ 0xC5) → begins_past_ascii c b ≡ true
begins_by c d b h kelvin long_s = by_letters (nat_le 128 c) (ascii_fold c == 107) (ascii_fold c == 115) (d == 0x212A)
    (d == 0x17F) refl refl h
  where
    by_letters : (past k s at_k at_s : Bool) → (d == 0x212A) ≡ at_k → (d == 0x17F) ≡ at_s
        → (past || (k && at_k || s && at_s)) ≡ true
        → (past || (k && b == 0xE2 || s && b == 0xC5)) ≡ true
    by_letters true k s at_k at_s e f h = refl
    by_letters false true s true at_s e f h = or_left (b == 0xE2) (s && b == 0xC5)
        (eq-eqb b 0xE2 (kelvin (eqb-true d 0x212A e)))
    by_letters false true true false true e f h = or_right (b == 0xE2) (b == 0xC5)
        (eq-eqb b 0xC5 (long_s (eqb-true d 0x17F f)))
    by_letters false true true false false e f h = absurd cc
    by_letters false true false false at_s e f h = absurd cc
    by_letters false false true at_k true e f h = eq-eqb b 0xC5 (long_s (eqb-true d 0x17F f))
    by_letters false false true at_k false e f h = absurd cc
    by_letters false false false at_k at_s e f h = absurd cc

is_low : (c b : ℕ) → b < 128 → c ≡ b → may_begin false c b ≡ true
is_low c b low same = rw (lt-ltb b 128 low) (eq-eqb c b same)

is_past : (c b : ℕ) → 128 ≤ b → 128 ≤ c → may_begin false c b ≡ true
is_past c b past large = rw (le-ltb b 128 past) (le-leb 128 c large)

module _ (g : Setting) (sets : List (List Bool)) (off : g.matching.«partial» ≡ Off)
    (folds : g.fold ≡ fold_in g.options.utf) (text : IsTrue g.options.utf → IsText g.options g.subject)
    (small : (k : ℕ) → k < length g.subject → slice_index g.subject k < 256) (anywhere : Bool) (start : ℕ)
    (missing : (k : ℕ) → (anywhere ≡ false → k ≡ start) → ¬ Stands sets g.subject k) where
  -- An item takes a byte of its set, or nothing.

  abbrev may : Item → ℕ → Bool
  may = may_take g.options.utf g.class_has

  -- in UTF a character begins there
  abbrev Here : ℕ → Type 0
  Here p = IsTrue g.options.utf → IsTextPlace g.options g.subject p

  off_utf : (c b : ℕ) (caseless : Bool) → g.options.utf ≡ false
      → (if caseless then ascii_fold c == ascii_fold b else c == b) ≡ true → may (Char c caseless) b ≡ true
  off_utf c b caseless no_utf h =
      subst (λ (u : Bool). (if u then may_begin caseless c b else if caseless then ascii_fold c == ascii_fold b else
      c == b) ≡ true) (sym no_utf) h

  -- outside UTF an item may take what it takes
  takes_may : (item : Item) (p b : ℕ) → g.options.utf ≡ false → takes g.scene item p b ≡ true → may item b ≡ true
  takes_may (Char c true) p b no_utf h = off_utf c b true no_utf (rw no_utf at h)
  takes_may (Char c false) p b no_utf h = off_utf c b false no_utf h
  takes_may AnyAll p b no_utf h = refl
  takes_may NotNewline p b no_utf h = refl
  takes_may (Class n) p b no_utf h = or_right g.options.utf (g.class_has n b) h

  -- the encoding of the character that begins there
  begun_with : (p : ℕ) → IsTrue g.options.utf → IsTextPlace g.options g.subject p → p < length g.subject
      → (rest : List ℕ) × (drop p g.subject ≡ encode (first_char (drop p g.subject)) ++ rest)
  begun_with p utf here inside =
      let span = (goes_to_place true g.subject p (λ _. (text utf).checked utf) (here.within, λ _. here.between utf)
      inside).1 in
      let n = len_utf8 (first_char (drop p g.subject)) in (
        drop ((p + n) - p) (drop p g.subject),
        sym (take-append-drop ((p + n) - p) (drop p g.subject))
            ∙ ap (λ (xs : List ℕ). xs ++ drop ((p + n) - p) (drop p g.subject)) span.stands,
      )

  first_byte : (p : ℕ) → p < length g.subject → slice_index g.subject p ≡ get_or (drop p g.subject) 0 0
  first_byte p inside = ap (λ (xs : List ℕ). get_or xs 0 0) (sym (drop-cons g.subject p 0 inside))

  -- an ASCII character is its byte, and a byte of ASCII is its character
  byte_here : (p : ℕ) → IsTrue g.options.utf → IsTextPlace g.options g.subject p → p < length g.subject
      → first_char (drop p g.subject) < 128
      → slice_index g.subject p ≡ first_char (drop p g.subject)
  byte_here p utf here inside low =
      let found = begun_with p utf here inside in
      first_byte p inside ∙ byte_from_char (drop p g.subject) found.0 (first_char (drop p g.subject)) found.1 low

  char_here : (p : ℕ) → IsTrue g.options.utf → IsTextPlace g.options g.subject p → p < length g.subject
      → slice_index g.subject p < 128
      → first_char (drop p g.subject) ≡ slice_index g.subject p
  char_here p utf here inside low =
      let found = begun_with p utf here inside in
      let same = first_byte p inside in
      let some : 0 < length (drop p g.subject) = omega (arith, length-drop p g.subject) in
      char_from_byte (drop p g.subject) found.0 (first_char (drop p g.subject)) found.1 (omega (arith, same, low))
      some ∙ sym same

  past_here : (p : ℕ) → IsTrue g.options.utf → IsTextPlace g.options g.subject p → p < length g.subject
      → 128 ≤ slice_index g.subject p
      → 128 ≤ first_char (drop p g.subject)
  past_here p utf here inside high = elim (cases_lt (first_char (drop p g.subject)) 128) [
    | inl low ↦ absurd (let same = byte_here p utf here inside low in omega (arith, same, low, high))
    | inr past ↦ omega (arith, past)
  ]

  -- with what the Kelvin sign and the long s begin
  begun_as : (p c : ℕ) → IsTrue g.options.utf → IsTextPlace g.options g.subject p → p < length g.subject
      → first_char (drop p g.subject) ≡ c
      → (rest : List ℕ) × (slice_index g.subject p ≡ get_or (encode c ++ rest) 0 0)
  begun_as p c utf here inside is =
      let found = begun_with p utf here inside in (
        found.0,
        first_byte p inside ∙ ap (λ (xs : List ℕ). get_or xs 0 0) found.1
            ∙ ap (λ d. get_or (encode d ++ found.0) 0 0) is,
      )

  kelvin_begins : (rest : List ℕ) → get_or (encode 0x212A ++ rest) 0 0 ≡ 0xE2
  unfolding encode
  kelvin_begins rest = refl

  long_s_begins : (rest : List ℕ) → get_or (encode 0x17F ++ rest) 0 0 ≡ 0xC5
  unfolding encode
  long_s_begins rest = refl

  -- in UTF characters fold as Unicode has it
  unicode : IsTrue g.options.utf → (c : ℕ) → g.fold c ≡ fold c
  unicode utf c = ap (λ (f : ℕ → ℕ). f c) folds ∙ ap (λ (u : Bool). fold_in u c) utf

  begun_by : (c p : ℕ) (caseless : Bool) → IsTrue g.options.utf → IsTextPlace g.options g.subject p
      → p < length g.subject
      → takes g.scene (Char c caseless) p (first_char (drop p g.subject)) ≡ true
      → may_begin caseless c (slice_index g.subject p) ≡ true
  begun_by c p true utf here inside h =
      let d = first_char (drop p g.subject) in
      let b = slice_index g.subject p in
      let same : fold c ≡ fold d = sym (unicode utf c) ∙ eqb-true (g.fold c) (g.fold d) (rw utf at h) ∙ unicode utf d in
      elim (cases_lt b 128) [
        | inl low ↦ folds_low c b low (same ∙ ap fold (char_here p utf here inside low))
        | inr past ↦ folds_past c b (omega (arith, past))
            (begins_by c d b (past_alike c d (past_here p utf here inside (omega (arith, past))) same)
            (λ is. let begun = begun_as p 0x212A utf here inside is in begun.1 ∙ kelvin_begins begun.0)
            (λ is. let begun = begun_as p 0x17F utf here inside is in begun.1 ∙ long_s_begins begun.0))
      ]
  begun_by c p false utf here inside h =
      let d = first_char (drop p g.subject) in
      let b = slice_index g.subject p in
      let same : c ≡ d = eqb-true c d h in
      elim (cases_lt b 128) [
        | inl low ↦ is_low c b low (same ∙ char_here p utf here inside low)
        | inr past ↦ is_past c b (omega (arith, past))
            (let beyond = past_here p utf here inside (omega (arith, past)) in omega (arith, same, beyond))
      ]

  -- in UTF it may begin with the byte that stands there
  takes_begun : (item : Item) (p : ℕ) → IsTrue g.options.utf → IsTextPlace g.options g.subject p → p < length g.subject
      → takes g.scene item p (first_char (drop p g.subject)) ≡ true → may item (slice_index g.subject p) ≡ true
  takes_begun (Char c caseless) p utf here inside h =
      let b = slice_index g.subject p in
      subst (λ (u : Bool). (if u then may_begin caseless c b else if caseless then ascii_fold c == ascii_fold b else
      c == b) ≡ true) (sym utf)
      (begun_by c p caseless utf here inside h)
  takes_begun AnyAll p utf here inside h = refl
  takes_begun NotNewline p utf here inside h = refl
  takes_begun (Class n) p utf here inside h = or_left g.options.utf _ utf

  none_of : (set : List Bool) (p : ℕ) → ¬ Stands (set ∷ []) g.subject p → (item : Item) → TakesOf may set item
      → Here p → after_item g.scene item p ≡ None
  none_of set p gone item h here = by_char (is_end g.scene p) refl g.options.utf refl
    where
      by_taken : p < length g.subject → (c q : ℕ)
          → (takes g.scene item p c ≡ true → may item (slice_index g.subject p) ≡ true)
          → (b : Bool) → takes g.scene item p c ≡ b → ◌≡◌ {A = Option ℕ} (elim b [ true ↦ Some q | false ↦ None ]) None
      by_taken inside c q may_it true e =
          absurd (gone (inside, (h (slice_index g.subject p) (small p inside) (may_it e), tt)))
      by_taken inside c q may_it false e = refl

      by_char : (e : Bool) → is_end g.scene p ≡ e → (utf : Bool) → g.options.utf ≡ utf →
          ◌≡◌ {A = Option ℕ}
          (elim (elim e as (λ _. Option (ℕ × ℕ)) [ true ↦ None | false ↦ Some (char_at utf g.subject p) ]) [
            | None ↦ None
            | Some c ↦ elim (takes g.scene item p c.0) [ true ↦ Some c.1 | false ↦ None ]
          ]) None
      by_char true is utf e = refl
      by_char false is true e =
          let inside : p < length g.subject = leb-false (length g.subject) p is in
          let c = first_char (drop p g.subject) in
          by_taken inside c (p + len_utf8 c) (takes_begun item p e (here e) inside) (takes g.scene item p c) refl
      by_char false is false e =
          let c = slice_index g.subject p in
          by_taken (leb-false (length g.subject) p is) c (p + 1) (takes_may item p c e) (takes g.scene item p c) refl

  -- the place behind a byte of the set, if there is one
  abbrev pub IsBehind : List Bool → ℕ → Option ℕ → Type 0
  IsBehind set p o = (o ≡ None) ⊎ ((o ≡ Some (p + 1)) × ((p < length g.subject) × IsIn set g.subject p))

  taken : (no_utf : g.options.utf ≡ false) (set : List Bool) (item : Item) → TakesOf may set item → (p : ℕ)
      → IsBehind set p (after_item g.scene item p)
  taken no_utf set item h p = by_end (is_end g.scene p) refl
    where
      by_taken : p < length g.subject → (b : Bool) → takes g.scene item p (slice_index g.subject p) ≡ b
          → IsBehind set p (elim b [ true ↦ Some (p + 1) | false ↦ None ])
      by_taken inside true e =
          inr (
            refl,
            (
              inside,
              h (slice_index g.subject p) (small p inside)
                  (takes_may item p (slice_index g.subject p) no_utf e),
            ),
          )
      by_taken inside false e = inl refl

      by_char : (e : Bool) → is_end g.scene p ≡ e → (utf : Bool) → utf ≡ false →
          IsBehind set p
          (elim (elim e as (λ _. Option (ℕ × ℕ)) [ true ↦ None | false ↦ Some (char_at utf g.subject p) ]) [
            | None ↦ None
            | Some c ↦ elim (takes g.scene item p c.0) [ true ↦ Some c.1 | false ↦ None ]
          ])
      by_char true is utf e = inl refl
      by_char false is true e = absurd cc
      by_char false is false e = by_taken (leb-false (length g.subject) p is)
          (takes g.scene item p (slice_index g.subject p)) refl

      by_end : (e : Bool) → is_end g.scene p ≡ e → IsBehind set p (after_item g.scene item p)
      by_end e is = by_char (is_end g.scene p) refl g.options.utf no_utf

  -- so it is where each character that the item takes is one byte
  pub taken_short : (set : List Bool) (item : Item) → TakesOf may set item → IsShort may g.options.utf item → (p : ℕ)
      → Here p → IsBehind set p (after_item g.scene item p)
  taken_short set item h (inl no_utf) p here = taken no_utf set item h p
  taken_short set item h (inr low) p here = by_end (is_end g.scene p) refl
    where
      by_taken : p < length g.subject → (c q : ℕ)
          → (takes g.scene item p c ≡ true → may item (slice_index g.subject p) ≡ true)
          → (takes g.scene item p c ≡ true → q ≡ p + 1)
          → (b : Bool) → takes g.scene item p c ≡ b → IsBehind set p (elim b [ true ↦ Some q | false ↦ None ])
      by_taken inside c q may_it near true e =
          inr (ap Some (near e), (inside, h (slice_index g.subject p) (small p inside) (may_it e)))
      by_taken inside c q may_it near false e = inl refl

      -- what it takes begins with a byte of ASCII
      low_byte : p < length g.subject → may item (slice_index g.subject p) ≡ true → slice_index g.subject p < 128
      low_byte inside may_it = elim (cases_lt (slice_index g.subject p) 128) [
        | inl less ↦ less
        | inr past ↦ absurd (clash (may item (slice_index g.subject p)) may_it
            (low (slice_index g.subject p) (omega (arith, past)) (small p inside)))
      ]

      one_byte : (utf : IsTrue g.options.utf) (inside : p < length g.subject)
          → takes g.scene item p (first_char (drop p g.subject)) ≡ true
          → p + len_utf8 (first_char (drop p g.subject)) ≡ p + 1
      one_byte utf inside e =
          let less = low_byte inside (takes_begun item p utf (here utf) inside e) in
          let same = char_here p utf (here utf) inside less in
          let one = len_utf8_ascii (first_char (drop p g.subject)) (omega (arith, same, less)) in
          omega (arith, one)

      by_char : (e : Bool) → is_end g.scene p ≡ e → (utf : Bool) → g.options.utf ≡ utf →
          IsBehind set p
          (elim (elim e as (λ _. Option (ℕ × ℕ)) [ true ↦ None | false ↦ Some (char_at utf g.subject p) ]) [
            | None ↦ None
            | Some c ↦ elim (takes g.scene item p c.0) [ true ↦ Some c.1 | false ↦ None ]
          ])
      by_char true is utf e = inl refl
      by_char false is true e =
          let inside : p < length g.subject = leb-false (length g.subject) p is in
          let c = first_char (drop p g.subject) in
          by_taken inside c (p + len_utf8 c) (takes_begun item p e (here e) inside) (one_byte e inside)
          (takes g.scene item p c) refl
      by_char false is false e =
          let c = slice_index g.subject p in
          by_taken (leb-false (length g.subject) p is) c (p + 1) (takes_may item p c e) (λ _. refl)
          (takes g.scene item p c) refl

      by_end : (e : Bool) → is_end g.scene p ≡ e → IsBehind set p (after_item g.scene item p)
      by_end e is = by_char (is_end g.scene p) refl g.options.utf refl

  same_item : (item other : Item) → tree.one item ≡ tree.one other → other ≡ item
  same_item item other e = cc

  -- an item that takes the whole text takes nothing here
  none_taken : (all : List (List Bool)) (p : ℕ) → ¬ Stands all g.subject p → (item : Item)
      → Begins may g.options.utf all (tree.more (tree.one item) tree.none) →
      Here p → after_item g.scene item p ≡ None
  none_taken [] p gone item h here = absurd (gone tt)
  none_taken (set ∷ set' ∷ rest) p gone item h here = absurd h.1.1
  none_taken (set ∷ []) p gone item h here = none_of set p gone item
      (subst (TakesOf may set) (same_item item h.0.0 h.0.1.0) h.0.1.1) here

  abbrev IsWhole : Item → Type 0
  IsWhole item = Begins may g.options.utf sets (tree.more (tree.one item) tree.none)

  -- and a run of one takes it fewer times than a text of as many copies goes on
  run_after : (item : Item) (low n : ℕ) (most : Option ℕ) (p : ℕ) →
      ((q : ℕ) → after_item g.scene item p ≡ Some q → length (run_places g.scene item n (one_less most) q) < low)
      → length (run_places g.scene item (suc n) most p) < suc low
  unfolding run_places
  run_after item low n most p next = by_left (is_none_left most)
    where
      by_next : (o : Option ℕ) → after_item g.scene item p ≡ o
          → length (elim o as (λ _. List ℕ) [ None ↦ [] | Some q ↦ q ∷ run_places g.scene item n (one_less most) q ])
          < suc low
      by_next None e = omega arith
      by_next (Some q) e = let less = next q e in omega (arith, less)

      by_left : (b : Bool) → length (elim b as (λ _. List ℕ) [
        | true ↦ []
        | false ↦ elim (after_item g.scene item p) [
          | None ↦ []
          | Some q ↦
              q ∷ run_places g.scene item n (one_less most) q
        ]
      ]) < suc low
      by_left true = omega arith
      by_left false = by_next (after_item g.scene item p) refl

  few_run : (all : List (List Bool)) (low n : ℕ) (item : Item) (most : Option ℕ) (p : ℕ)
      → Begins may g.options.utf all (copies low item) → ¬ Stands all g.subject p → Here p
      → length (run_places g.scene item n most p) < low
  unfolding run_places
  few_run [] low n item most p h gone here = absurd (gone tt)
  few_run (set ∷ rest) zero n item most p h gone here = absurd h
  few_run (set ∷ rest) (suc low) zero item most p h gone here = omega arith
  few_run (set ∷ []) (suc low) (suc n) item most p h gone here =
      let none = none_of set p gone item (subst (TakesOf may set) (same_item item h.0.0 h.0.1.0) h.0.1.1) here in
      run_after item low n most p (λ q e. absurd cc)
  few_run (set ∷ set' ∷ rest) (suc low) (suc n) item most p h gone here =
      run_after item low n most p
      (λ q e. elim (taken_short set item (subst (TakesOf may set) (same_item item h.0.0 h.0.1.0) h.0.1.1)
      (h.1.0 item refl) p here) [
        | inl none ↦ absurd cc
        | inr there ↦ let to = there.0 in
            let is : q ≡ p + 1 = cc in
            few_run (set' ∷ rest) low n item (one_less most) q h.1.1
            (λ stands. gone (there.1.0, (there.1.1, subst (Stands (set' ∷ rest) g.subject) is stands)))
            (λ utf. (text_forward g.scene (text utf) item p q (here utf) e).1)
      ])

  -- Searches without a state.

  -- in UTF it stands where a character begins, and it stands at the start where the text isn't needed elsewhere
  abbrev OnWay : State → Type 0
  OnWay s = (IsTrue g.options.utf → IsOnWay g None s) × (anywhere ≡ false → s.place ≡ start)

  with_more : (s : State) (n : ℕ) → OnWay s → OnWay (record s { units = n })
  with_more s n on = (λ utf. with_units g None s n (on.0 utf), on.1)

  gone_at : (s : State) → OnWay s → ¬ Stands sets g.subject s.place
  gone_at s on = missing s.place on.1

  here_at : (s : State) → OnWay s → Here s.place
  here_at s on = λ utf. (on.0 utf).here

  -- from a state of which this holds
  abbrev pub SilentUnder : (State → Type 0) → Option Bound → Search → Type 0
  SilentUnder P None f = Unit {0}
  SilentUnder P (Some b) f = (s : State) → P s → s.units + at b.units (length g.subject + 1) ≤ g.matching.frame_limit
      → Silent (f s)

  abbrev SilentSome : Option Bound → Search → Type 0
  SilentSome = SilentUnder OnWay

  silent_reach : (b : Bool) (s : State) (x : Stream) → Silent x → Silent (reach_if g b s x)
  silent_reach b s x h = subst Silent (sym (unreached g off b s x)) h

  silent_held : (n : ℕ) (s : State) (f : Search)
      → (s.units + n ≤ g.matching.frame_limit → Silent (f (record s { units = s.units + n }))) → Silent (held g n s f)
  unfolding held
  silent_held n s f h = by_room (nat_le (s.units + n) g.matching.frame_limit) refl
    where
      by_room : (b : Bool) → nat_le (s.units + n) g.matching.frame_limit ≡ b →
          Silent (elim b [ true ↦ f (record s { units = s.units + n }) | false ↦ ends (by_halt too_many_units) ])
      by_room true e = h (leb-true (s.units + n) g.matching.frame_limit e)
      by_room false e = silent_halt _

  silent_one : (item : Item) → IsWhole item → (s : State) → OnWay s → Silent (run_one g item s)
  unfolding run_one
  silent_one item h s on =
      silent_reach _ s _ (subst (λ o. Silent (goes_to o s))
      (sym (none_taken sets s.place (gone_at s on) item h (here_at s on))) silent_nothing)

  one_silent : (item : Item) (s : State)
      → Silent (reach_if g (item_reaches g.scene item s.place) s (goes_to (after_item g.scene item s.place) s))
      → Silent (run_one g item s)
  unfolding run_one
  one_silent item s h = h

  silent_offers : (s : State) → Silent (offers g (reverse []) s)
  unfolding offers
  silent_offers s = silent_nothing

  silent_reluctant : (item : Item) (left : Option ℕ) (s : State) → Silent (reluctant g item left [] s)
  unfolding reluctant
  silent_reluctant item left s = silent_nothing

  silent_many : (item : Item) (low : ℕ) (high : Option ℕ) (lazily : Bool)
      → Begins may g.options.utf sets (copies low item) → (s : State) → OnWay s
      → Silent (run_many g item low high lazily s)
  unfolding run_many greedy lazy_run
  silent_many item low high lazily h s on = by_kind lazily
    where
      few : drop low (s.place ∷ longest_run g.scene item high s.place) ≡ []
      few = let less = few_run sets low (length g.subject) item high s.place h (gone_at s on) (here_at s on) in
          drop_all low (s.place ∷ longest_run g.scene item high s.place) (omega (arith, less))

      by_kind : (lazily : Bool) → Silent (run_many g item low high lazily s)
      by_kind false = silent_reach _ s _ (subst (λ (ps : List ℕ). Silent (offers g (reverse ps) s)) (sym few)
          (silent_offers s))
      by_kind true = silent_reach _ s _
          (subst (λ (ps : List ℕ). Silent (reluctant g item (option_map (λ k. k - low) high) ps s)) (sym few)
          (silent_reluctant item (option_map (λ k. k - low) high) s))

  -- a part needs it, or one behind it
  silent_first : (x y : Option Bound) (f : Search) (fs : List Search) → SilentSome x f
      → SilentSome (both followed x y) (in_order (f ∷ fs))
  unfolding in_order
  silent_first None y f fs h = tt
  silent_first (Some a) None f fs h = tt
  silent_first (Some a) (Some b) f fs h = λ s on le.
      let units = at_plus a.units b.units (length g.subject + 1) (omega arith) in
      silent_before (f s) (go_on (in_order fs)) (h s on (omega (arith, le, units)))

  -- its states stand where characters begin
  abbrev Forwards : Search → Type 0
  Forwards f = IsTrue g.options.utf → IsForward g None f

  silent_on_way : IsTrue anywhere → (u p : ℕ) (x : Stream) (f : How → Search) → Tame u x
      → (IsTrue g.options.utf → Forward g None p x)
      → ((s : State) → OnWay s → s.units ≤ u → Silent (f reached s)) → Silent (each x f)
  unfolding state_count each Tame Forward
  silent_on_way wide u p (ends e) f h forth k = refl
  silent_on_way wide u p (note m ▸ x) f h forth k = absurd h
  silent_on_way wide u p (state reached s ▸ x) f h forth k =
      let on : OnWay s = (λ utf. (forth utf).1, λ no. absurd (clash anywhere wide no)) in
      silent_or_else (f reached s) (each x f) (k s on h.0) (silent_on_way wide u p x f h.1 (λ utf. (forth utf).2) k)
  silent_on_way wide u p (state accepted s ▸ x) f h forth k = absurd h
  silent_on_way wide u p (step ▸ x) f h forth k = silent_on_way wide u p x f h forth k

  silent_later : IsTrue anywhere → (x y : Option Bound) (f : Search) (fs : List Search) → FitsSome g off x f
      → Forwards f → SilentSome y (in_order fs)
      → SilentSome (both followed x y) (in_order (f ∷ fs))
  unfolding in_order
  silent_later wide None y f fs h forth k = tt
  silent_later wide (Some a) None f fs h forth k = tt
  silent_later wide (Some a) (Some b) f fs h forth k = λ s on le.
      let n = length g.subject + 1 in
      let units = at_plus a.units b.units n (omega arith) in
      silent_on_way wide (s.units + at a.units n) s.place (f s) (go_on (in_order fs))
      (h.0 s (omega (arith, le, units))).tame (λ utf. forth utf s (on.0 utf))
      (λ t there few. k t there (omega (arith, few, le, units)))

  silent_either : (x y : Option Bound) (f : Search) (fs : List Search) → SilentSome x f
      → SilentSome y (choices g fs) → SilentSome (both or_later x y) (choices g (f ∷ fs))
  unfolding choices
  silent_either None y f fs h k = tt
  silent_either (Some a) None f fs h k = tt
  silent_either (Some a) (Some b) f [] h k = λ s on le.
      let units = one_more g off a.units b.units in
      silent_step _ (silent_catch is_next_branch (f s) (h s on (omega (arith, le, units))))
  silent_either (Some a) (Some b) f (f' ∷ fs) h k = λ s on le.
      let units = one_more g off a.units b.units in
      silent_step _ (silent_or_else _ _
      (silent_held 1 s _ (λ room. silent_catch is_next_branch _
      (h _ (with_more s (s.units + 1) on) (omega (arith, le, units)))))
      (k s on (omega (arith, le, units))))

  -- it is all one how many states they give
  silent_or : (alone : Bool) (x y : Option Bound) (f : Search) (fs : List Search) → SilentSome x f
      → SilentSome y (choices g fs) → SilentSome (both (or_so alone) x y) (choices g (f ∷ fs))
  silent_or alone x y f fs h k = by_alone alone x y (silent_either x y f fs h k)
    where
      by_alone : (alone : Bool) (x y : Option Bound)
          → SilentSome (both or_later x y) (choices g (f ∷ fs))
          → SilentSome (both (or_so alone) x y) (choices g (f ∷ fs))
      by_alone alone None y h = tt
      by_alone alone (Some a) None h = tt
      by_alone true (Some a) (Some b) h = h
      by_alone false (Some a) (Some b) h = h

  silent_group : (number : Option ℕ) (x : Option Bound) (f : Search) → SilentSome x f
      → SilentSome (change (grouped number) x) (run_group g number f)
  unfolding run_group
  silent_group number None f h = tt
  silent_group None (Some a) f h = λ s on le. h s on le
  silent_group (Some n) (Some a) f h = λ s on le.
      let units = two_more g off a in
      silent_held 1 s _ (λ room. silent_before _ _ (h _ (with_more s (s.units + 1) on) (omega (arith, le, units))))

  silent_atomic : (x : Option Bound) (f : Search) → SilentSome x f → SilentSome (change closed x) (run_atomic g f)
  unfolding run_atomic
  silent_atomic None f h = tt
  silent_atomic (Some a) f h = λ s on le.
      let units = two_more g off a in
      silent_held 1 s _ (λ room. silent_decide no_ending _ _ nothing
      (h _ (with_more s (s.units + 1) on) (omega (arith, le, units))) silent_nothing)

  silent_look : (x : Option Bound) (f : Search) → SilentSome x f → SilentSome (change closed x) (run_look g true true f)
  unfolding run_look
  silent_look None f h = tt
  silent_look (Some a) f h = λ s on le.
      let units = two_more g off a in
      silent_held 1 s _ (λ room. silent_decide fails_alone _ _ nothing
      (h _ (with_more s (s.units + 1) on) (omega (arith, le, units))) silent_nothing)

  silent_any : (x : Option Bound) (f : Search) → ((s : State) → OnWay s → Silent (f s)) → SilentSome x f
  silent_any None f h = tt
  silent_any (Some b) f h = λ s on le. h s on

  -- in UTF a state stands where a character begins
  abbrev pub InText : State → Type 0
  InText s = IsTrue g.options.utf → IsOnWay g None s

  -- an item takes the first byte of what doesn't stand here, and so the others don't stand behind it
  silent_run : (set : List Bool) (rest : List (List Bool)) (item : Item) → TakesOf may set item
      → IsShort may g.options.utf item → (f : Search) →
      Forwards (run_one g item) → ((t : State) → InText t → ¬ Stands rest g.subject t.place → Silent (f t)) →
      (s : State) → InText s → ¬ Stands (set ∷ rest) g.subject s.place → Silent (and_then (run_one g item s) f)
  unfolding run_one each Forward
  silent_run set rest item takes short f forth next s on gone =
      let is = unreached g off (item_reaches g.scene item s.place) s (goes_to (after_item g.scene item s.place) s) in
      subst (λ x. Silent (and_then x f)) (sym is)
      (by_place (after_item g.scene item s.place) (λ utf. subst (Forward g None s.place) is (forth utf s (on utf)))
      (taken_short set item takes short s.place (λ utf. (on utf).here)))
    where
      by_place : (o : Option ℕ) → (IsTrue g.options.utf → Forward g None s.place (goes_to o s))
          → IsBehind set s.place o → Silent (and_then (goes_to o s) f)
      by_place None forth h = silent_nothing
      by_place (Some q) forth (inl e) = absurd cc
      by_place (Some q) forth (inr h) =
          let e = h.0 in
          let is : q ≡ s.place + 1 = cc in
          silent_or_else (f (record s { place = q })) nothing
          (next _ (λ utf. (forth utf).1) (λ stands. gone (h.1.0, (h.1.1, subst (Stands rest g.subject) is stands))))
          silent_nothing

  module _ (below : Searches) (deeper : IsTrue g.options.utf → (low : Option ℕ) (t : Nested) → IsForward g low
      (below t))
      (fits : (t : Nested) → FitsSome g off (bound g.class_has t) (level g below t)) where
    forwards : (t : Nested) → Forwards (level g below t)
    forwards t = λ utf. forward_level g (text utf) below (deeper utf) None t

    silent_begins : (all : List (List Bool)) (ts : Row) → Begins may g.options.utf all ts → (s : State) → InText s
        → ¬ Stands all g.subject s.place → Silent (in_order (levels g below ts) s)
    unfolding level in_order
    silent_begins [] ts h s on gone = absurd (gone tt)
    silent_begins (set ∷ rest) tree.none h s on gone = absurd h
    silent_begins (set ∷ []) (tree.more t ts) h s on gone =
        let item = h.0.0 in
        let none = none_of set s.place gone item h.0.1.1 (λ utf. (on utf).here) in
        let first = silent_reach (item_reaches g.scene item s.place) s (goes_to (after_item g.scene item s.place) s)
        (subst (λ o. Silent (goes_to o s)) (sym none) silent_nothing) in
        subst (λ u. Silent (in_order (level g below u ∷ levels g below ts) s)) (sym h.0.1.0)
        (silent_before (run_one g item s) (go_on (in_order (levels g below ts))) (one_silent item s first))
    silent_begins (set ∷ next ∷ rest) (tree.more t ts) h s on gone =
        subst (λ u. Silent (in_order (level g below u ∷ levels g below ts) s)) (sym h.0.1.0)
        (silent_run set (next ∷ rest) h.0.0 h.0.1.1 (h.1.0 h.0.0 h.0.1.0) (in_order (levels g below ts))
        (forwards (tree.one h.0.0))
        (silent_begins (next ∷ rest) ts h.1.1) s on gone)

    -- Where no state is given it is all one how many a repeat gives.
    by_apart : (P : State → Type 0) (b : Bool) (a : Growth) (y : Option Bound) (f : Search)
        → SilentUnder P (both followed (Some (offered a)) y) f
        → SilentUnder P (both followed (if b then Some (left_once a) else Some (offered a)) y) f
    by_apart P false a y f h = h
    by_apart P true a None f h = tt
    by_apart P true a (Some c) f h = h

    pub silent_ahead : (P : State → Type 0) (t : Nested) (ts : Row) (y : Option Bound) (f : Search)
        → SilentUnder P (both followed (bound g.class_has t) y) f
        → SilentUnder P (both followed (bound_before g.class_has t ts (bound g.class_has t)) y) f
    unfolding bound
    silent_ahead P (tree.one_repeat item low high lazily) ts y f h =
        by_apart P (is_apart g.class_has item ts) (turns low high) y f h
    silent_ahead P tree.empty ts y f h = h
    silent_ahead P (tree.one item) ts y f h = h
    silent_ahead P tree.line_break ts y f h = h
    silent_ahead P (tree.seq us) ts y f h = h
    silent_ahead P (tree.group n us) ts y f h = h
    silent_ahead P (tree.repeat u low high lazily) ts y f h = h
    silent_ahead P (tree.atomic us) ts y f h = h
    silent_ahead P (tree.look ahead positive _ us) ts y f h = h
    silent_ahead P (tree.condition test u v) ts y f h = h
    silent_ahead P (tree.call n) ts y f h = h
    silent_ahead P (tree.ref ns caseless) ts y f h = h
    silent_ahead P (tree.anchor kind) ts y f h = h
    silent_ahead P tree.keep_out ts y f h = h
    silent_ahead P (tree.verb v) ts y f h = h
    silent_ahead P (tree.callout k) ts y f h = h

    mutual
      unfolding bound level in_order branches choices

      pub silent_level : (t : Nested) → Needs may g.options.utf anywhere sets t
          → SilentSome (bound g.class_has t) (level g below t)
      silent_level tree.empty h = absurd h
      silent_level (tree.one item) h = λ s on le. silent_one item h s on
      silent_level tree.line_break h = absurd h
      silent_level (tree.seq ts) h = silent_turn ts h
      silent_level (tree.group number ts) h = silent_group number (bound_of_one g.class_has ts)
          (branches g (levels g below ts)) (silent_branches ts h)
      silent_level (tree.repeat body low high lazily) h = absurd h
      silent_level (tree.one_repeat item low high lazily) h = λ s on le. silent_many item low high lazily h s on
      silent_level (tree.atomic ts) h = silent_atomic (bound_of_one g.class_has ts) (branches g (levels g below ts))
          (silent_branches ts h)
      silent_level (tree.look true true true ts) h = silent_look (bound_of_one g.class_has ts)
          (branches g (levels g below ts)) (silent_branches ts h)
      silent_level (tree.look true false true ts) h = absurd h
      silent_level (tree.look true positive false ts) h = tt
      silent_level (tree.look false positive _ ts) h = tt
      silent_level (tree.condition test first second) h = tt
      silent_level (tree.call k) h = tt
      silent_level (tree.ref ns caseless) h = absurd h
      silent_level (tree.anchor kind) h = absurd h
      silent_level tree.keep_out h = absurd h
      silent_level (tree.verb v) h = tt
      silent_level (tree.callout c) h = tt

      pub silent_turn : (ts : Row) → SomeNeeds may g.options.utf anywhere sets ts
          → SilentSome (bound_in_turn g.class_has ts) (in_order (levels g below ts))
      silent_turn tree.none h = absurd h
      silent_turn (tree.more t ts) (inl h) =
          silent_ahead OnWay t ts (bound_in_turn g.class_has ts) _
          (silent_first (bound g.class_has t) (bound_in_turn g.class_has ts) (level g below t) (levels g below ts)
          (silent_level t h))
      silent_turn (tree.more t ts) (inr (inl h)) =
          silent_ahead OnWay t ts (bound_in_turn g.class_has ts) _
          (silent_any (both followed (bound g.class_has t) (bound_in_turn g.class_has ts))
          (in_order (level g below t ∷ levels g below ts))
          (λ s on. silent_begins sets (tree.more t ts) h s on.0 (gone_at s on)))
      silent_turn (tree.more t ts) (inr (inr h)) =
          silent_ahead OnWay t ts (bound_in_turn g.class_has ts) _
          (silent_later h.0 (bound g.class_has t) (bound_in_turn g.class_has ts) (level g below t) (levels g below ts)
          (fits t) (forwards t) (silent_turn ts h.1))

      silent_branches : (ts : Row) → AllNeed may g.options.utf anywhere sets ts
          → SilentSome (bound_of_one g.class_has ts) (branches g (levels g below ts))
      silent_branches tree.none h = λ s on le. silent_nothing
      silent_branches (tree.more t tree.none) h = silent_level t h.0
      silent_branches (tree.more t (tree.more u ts)) h =
          silent_or (is_alone g.class_has (first_item t) (tree.more u ts)) (bound g.class_has t)
          (both (or_so (is_alone g.class_has (first_item u) ts)) (bound g.class_has u)
          (bound_of_choices g.class_has ts)) (level g below t) (level g below u ∷ levels g below ts)
          (silent_level t h.0)
          (silent_or (is_alone g.class_has (first_item u) ts) (bound g.class_has u) (bound_of_choices g.class_has ts)
          (level g below u) (levels g below ts) (silent_level u h.1.0) (silent_choices ts h.1.1))

      silent_choices : (ts : Row) → AllNeed may g.options.utf anywhere sets ts
          → SilentSome (bound_of_choices g.class_has ts) (choices g (levels g below ts))
      silent_choices tree.none h = λ s on le. silent_nothing
      silent_choices (tree.more t ts) h = silent_or (is_alone g.class_has (first_item t) ts) (bound g.class_has t)
          (bound_of_choices g.class_has ts) (level g below t) (levels g below ts) (silent_level t h.0)
          (silent_choices ts h.1)

  -- A stream without a state.

  walk_fails : (n u : ℕ) (x : Stream) → step_count x ≤ n → Tame u x → Silent x
      → ¬ (ending x ≡ by_halt cut) → walk g n x ≡ answers (Failed Exhausted)
  unfolding walk step_count Tame state_count ending
  walk_fails n u (ends exhausted) few h k whole = refl
  walk_fails n u (ends (by_verb v)) few h k whole = absurd h
  walk_fails n u (ends (by_halt is_partial)) few h k whole = absurd h
  walk_fails n u (ends (by_halt too_many_units)) few h k whole = absurd h
  walk_fails n u (ends (by_halt loop)) few h k whole = absurd h
  walk_fails n u (ends (by_halt (abort a))) few h k whole = absurd h
  walk_fails n u (ends (by_halt cut)) few h k whole = absurd (whole refl)
  walk_fails n u (note m ▸ x) few h k whole = absurd h
  walk_fails n u (state how s ▸ x) few h k whole = absurd (omega (arith, k))
  walk_fails zero u (step ▸ x) few h k whole = absurd (omega (arith, few))
  walk_fails (suc n) u (step ▸ x) few h k whole = walk_fails n u x (omega (arith, few)) h k whole

  -- At the start.

  module _ (b : Bound) (steps : at b.steps (length g.subject + 1) ≤ match_limit g)
      (units : at b.units (length g.subject + 1) ≤ g.matching.frame_limit)
      (begun : IsTrue g.options.utf → IsTextPlace g.options g.subject g.start) where
    pub in_text : (p : ℕ) → Here p → InText (first_state g.groups p)
    in_text p here = λ utf.
        let search : IsTextSearch g = record { text = text utf; begun = begun utf } in
        loosened g (Some p) (first_state g.groups p) (begun_at g search p (here utf))

    abbrev below : Searches
    below = run g (match_limit g)

    -- without a state the whole search is that of this tree
    abbrev IsFirst : Nested → Type 0
    IsFirst t =
        (s : State) → Silent (level g below t s) → level g below g.whole s ≡ level g below t s

    pub under_fails : (t : Nested) → bound g.class_has t ≡ Some b → IsFirst t
        → (P : State → Type 0) (p : ℕ) → P (first_state g.groups p)
        → SilentUnder P (bound g.class_has t) (level g below t)
        → place_answer g p ≡ answers (Failed Exhausted)
    unfolding run
    under_fails t bounded first P p on silent =
        let d = match_limit g in
        let s = first_state g.groups p in
        let e : d + 1 ≡ suc d = omega arith in
        let fits = subst (λ o. FitsSome g off o (level g below t)) bounded (fits_level g off d t) in
        let most = at b.units (length g.subject + 1) in
        let room : 0 + most ≤ g.matching.frame_limit = omega (arith, units) in
        let w = fits.0 s room in
        let few : step_count (level g below t s) ≤ d = let k = w.steps in omega (arith, k, steps) in
        let silent' : Silent (level g below t s) =
        subst (λ o. SilentUnder P o (level g below t)) bounded silent s on room in
        ap (λ n. walk g d (run g n g.whole s)) e
        ∙ ap (λ x. walk g d x) (first s silent')
        ∙ walk_fails d (0 + most) (level g below t s) few w.tame silent'
        (λ none. let late = cut_law g (suc d) t s none in omega (arith, late, few))

    start_fails : (t : Nested) → bound g.class_has t ≡ Some b → IsFirst t
        → Needs may g.options.utf anywhere sets t → Here start
        → place_answer g start ≡ answers (Failed Exhausted)
    start_fails t bounded first needs here =
        under_fails t bounded first OnWay start (in_text start here, λ _. refl)
        (silent_level below (λ utf. forward_run g (text utf) (match_limit g))
        (fits_level g off (match_limit g)) t needs)

-- All start places.

module _ (g : Setting) (sets : List (List Bool)) (b : Bound) (h : IsWithoutNeed g sets b) where
  -- in UTF a character begins there
  abbrev Stays : ℕ → Type 0
  Stays p = IsTrue g.options.utf → IsTextPlace g.options g.subject p

  place_fails : (p : ℕ) → Stays p → place_answer g p ≡ answers (Failed Exhausted)
  place_fails p here = by_bound h.bounded
    where
      below : Searches
      below = run g (match_limit g)

      may : Item → ℕ → Bool
      may = may_take g.options.utf g.class_has

      fails : (t : Nested) → bound g.class_has t ≡ Some b
          → ((s : State) → Silent (level g below t s) → level g below g.whole s ≡ level g below t s)
          → Needs may g.options.utf true sets t → place_answer g p ≡ answers (Failed Exhausted)
      fails t bounded first needs =
          start_fails g sets h.off h.folds h.text h.small true p (λ k _. h.missing k) b
          h.steps h.units h.begun t bounded first needs here

      by_bound : IsBoundWithout may g.options.utf g.class_has sets g.whole b
          → place_answer g p ≡ answers (Failed Exhausted)
      by_bound (inl bounded) = fails g.whole bounded (λ s silent. refl) h.needs
      by_bound (inr k) =
          fails (sequence k.0) (bound_of_sequence g.class_has k.0 ∙ k.2.1.1)
          (λ s silent.
          ap (λ (t : Nested). level g below t s) k.2.0 ∙ first_alone g below k.0 k.1 s silent)
          (k.2.1.0, tt)

  tried_fails : (p : ℕ) → Stays p → tried g p ≡ answers (Failed Exhausted)
  tried_fails p here = by_test (is_excluded g p)
    where
      by_test : (c : Bool) → ◌≡◌ {A = Walked}
          (elim c [ true ↦ answers (Failed Exhausted) | false ↦ place_answer g p ]) (answers (Failed Exhausted))
      by_test true = refl
      by_test false = place_fails p here

  -- the places up to the last one
  here_some : (o : Option ℕ) → (IsTrue g.options.utf → IfSome o (IsTextPlace g.options g.subject))
      → IfSome (within g o) Stays
  here_some o stands = by_kept (within g o)
      (λ utf. up_to_keeps (IsTextPlace g.options g.subject) (last_place g) o (stands utf))
    where
      by_kept : (kept : Option ℕ)
          → (IsTrue g.options.utf → IfSome kept (λ q. IsTextPlace g.options g.subject q × (q ≤ last_place g)))
          → IfSome kept Stays
      by_kept None k = tt
      by_kept (Some q) k = λ utf. (k utf).0

  none_from : (n : ℕ) (o : Option ℕ) → IfSome o Stays → from_place g n o ≡ none_found
  unfolding from_place
  none_from zero o here = refl
  none_from (suc n) None here = refl
  none_from (suc n) (Some p) here =
      ap (λ w. found_at p w (λ signal. from_place g n (place_after g p signal))) (tried_fails p here)
      ∙ ap (λ (f : Found). record { answer = f.answer; notes = [] ++ f.notes })
      (none_from n (place_after g p Exhausted)
      (here_some (next_place g p) (λ utf. next_stands g (h.begun utf).within (h.text utf) p (here utf))))

  none_at_all : match_answer g ≡ none_found
  none_at_all = none_from _ (within g (Some g.start)) (here_some (Some g.start) h.begun)

pub need_law : NeedLaw
need_law g sets b h = none_at_all g sets b h
