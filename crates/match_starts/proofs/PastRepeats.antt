-- A pattern fails where the run of the item that it begins with is too short, or where what has to
-- follow follows neither it nor a shorter one.
use Rattle.std.proofs.Common.{◌≡◌, ℕ, ℤ, zero, suc, ◌+◌, ◌-◌, ◌<◌, ◌≤◌, inl, inr, Bool, true, false, List, [], ◌∷◌}
use Rattle.std.proofs.Common.{◌++◌, length, map, drop, reverse, Option, Some, None, refl, sym, ap, subst, ◌∙◌, arith}
use Rattle.std.specs.Prelude.{◌==◌, slice_index, IfSome, if◌then◌else◌}
use Rattle.std.proofs.lemmas.Bool.{le-leb, eqb-true}
use Rattle.std.proofs.lemmas.List.{drop_all, reverse-append, length-append, length-drop, length-reverse}
use Rattle.pat_tree.specs.declared.nodes.Item.{Item}
use Rattle.pat_tree.specs.declared.nodes.Item.TheVariants.{Char, AnyAll, NotNewline, Class}
use Rattle.pat_tree.specs.declared.options.PartialMode.TheVariants.{Off}
use Rattle.pat_tree.specs.Nested.{Nested, Row, row, seq, group, one, one_repeat, none, more, tree_at, trees}
use Rattle.match_items.specs.Scene.{Scene}
use Rattle.match_items.specs.Items.{takes, after_item, item_reaches, one_less, is_none_left, run_places, longest_run}
use Rattle.match_items.specs.Items.{run_reaches}
use Rattle.match_items.specs.Views.{end_of}
use Rattle.ordered_search.specs.Stream.{State, first_state, by_halt, too_many_units, How, reached, captured, Stream}
use Rattle.ordered_search.specs.Stream.{Search, ends, nothing, gives, ◌or_else◌, each, and_then}
use Rattle.ordered_search.specs.Setting.{Setting, match_limit, held, hold}
use Rattle.ordered_search.specs.Tests.{goes_to, move_to, run_one, offers, greedy, run_many}
use Rattle.ordered_search.specs.Parts.{Searches, in_order, branches, run_group}
use Rattle.ordered_search.specs.Run.{level, levels, run}
use Rattle.ordered_search.specs.PlaceAnswer.{Exhausted, Failed, answers, walk, place_answer}
use Rattle.search_needs.proofs.Bounded.{unreached}
use Rattle.ordered_search.proofs.LaterRuns.{IsRest, later_rest, end_within}
use Rattle.pcre_io.specs.declared.callouts.Block as told
use Rattle.ordered_search.specs.Stream.{Block}
use Rattle.ordered_search.specs.Setting.{lower_of}
use Rattle.pat_tree.specs.declared.options.Options.{Options}
use Rattle.pat_tree.specs.Parts.{TreeParts}
use Rattle.char_sets.specs.Sets.{class_has}
use Rattle.char_sets.specs.Table.{CharSet, IsTableOf}
use Rattle.match_items.specs.declared.view.View.{View}
use Rattle.match_items.specs.Items.{next}
use Rattle.match_items.specs.Subjects.{IsTextPlace}
use Rattle.match_items.specs.Views.{text_scene, maximum}
use Rattle.frame_board.specs.Ready.{setting_for}
use Rattle.match_starts.specs.declared.repeats.FirstRepeat.{FirstRepeat}
use Rattle.match_starts.specs.Asked.{passed_over, replied}
use Rattle.match_starts.specs.Prefix.{row_of}
use Rattle.match_starts.specs.Repeats.{Lacks, IsRepeat, IsLead, BeginsPart, Follows, BeginsWith, IsFirstRepeat}
use Rattle.match_starts.specs.Repeats.{FailsUpTo}
use Rattle.match_starts.proofs.Leads.{class_told}
use Rattle.match_starts.proofs.PastPrefix.{scene_same}

-- The parts that begin with a repeat.

pub begins_parts : (tree : TreeParts) (parts : List ℕ) (r : FirstRepeat) → 2 ≤ length parts
    → IsLead (tree_at (trees tree.nodes) (slice_index parts 0)) r.item r.min
    → IfSome r.behind (λ c. tree_at (trees tree.nodes) (slice_index parts 1) ≡ one (Char c false))
    → BeginsWith (seq (row_of tree parts)) r
begins_parts tree [] r two is next = absurd (omega (arith, two))
begins_parts tree (k ∷ []) r two is next = absurd (omega (arith, two))
begins_parts tree (k ∷ j ∷ ks) r two is next = (
  row_of tree (j ∷ ks),
  (
    inr (
      tree_at (trees tree.nodes) k,
      (is, refl),
    ),
    by_next r.behind next,
  ),
)
  where
    by_next : (o : Option ℕ) → IfSome o (λ c. tree_at (trees tree.nodes) j ≡ one (Char c false))
        → Follows (row_of tree (j ∷ ks)) o
    by_next None next = tt
    by_next (Some c) next = (row_of tree ks, ap (λ t. more t (row_of tree ks)) next)

pub lead_alone : (t u : Nested) → t ≡ u → (o : Option FirstRepeat)
    → IfSome o (λ r. IsRepeat t r.item r.min) → IfSome o (λ r. IsLead u r.item r.min)
lead_alone t u e None is = tt
lead_alone t u e (Some r) is = inl (subst (λ v. IsRepeat v r.item r.min) e is)

pub lead_grouped : (ts : List Nested) (number : Option ℕ) (parts : List ℕ) (t : Nested)
    → 1 ≤ length parts → length parts < 2 → group number (row (map (tree_at ts) parts)) ≡ t
    → (inner : Nested) → inner ≡ tree_at ts (slice_index parts 0) → (o : Option FirstRepeat)
    → IfSome o (λ r. IsRepeat inner r.item r.min) → IfSome o (λ r. IsLead t r.item r.min)
lead_grouped ts number [] t some few e inner only o is = absurd (omega (arith, some))
lead_grouped ts number (k ∷ j ∷ ks) t some few e inner only o is = absurd (omega (arith, few))
lead_grouped ts number (k ∷ []) t some few e inner only None is = tt
lead_grouped ts number (k ∷ []) t some few e inner only (Some r) is =
    inr (number, (inner, (is, sym e ∙ ap (λ u. group number (more u none)) (sym only))))

pub begins_alone : (t : Nested) (o : Option FirstRepeat) → IfSome o (λ r. IsLead t r.item r.min)
    → IfSome o (λ r. r.behind ≡ None) → IfSome o (BeginsWith t)
begins_alone t None is alone = tt
begins_alone t (Some r) is alone = (none, (inl (is, refl), subst (Follows none) (sym alone) tt))

-- Runs.

-- the item takes nothing at these places
module _ (g : Scene) (other : Item) where
  abbrev pub AreOut : List ℕ → Type 0
  AreOut [] = Unit {0}
  AreOut (p ∷ ps) = (after_item g other p ≡ None) × AreOut ps

  pub out_drop : (n : ℕ) (ps : List ℕ) → AreOut ps → AreOut (drop n ps)
  out_drop zero ps out = out
  out_drop (suc n) [] out = tt
  out_drop (suc n) (p ∷ ps) out = out_drop n ps out.1

  out_append : (ps qs : List ℕ) → AreOut ps → AreOut qs → AreOut (ps ++ qs)
  out_append [] qs out later = later
  out_append (p ∷ ps) qs out later = (out.0, out_append ps qs out.1 later)

  out_reverse : (ps : List ℕ) → AreOut ps → AreOut (reverse ps)
  out_reverse [] out = tt
  out_reverse (p ∷ ps) out =
      subst AreOut (sym (reverse-append (p ∷ []) ps)) (out_append (reverse ps) (p ∷ [])
      (out_reverse ps out.1) (out.0, tt))

module _ (g : Scene) (item : Item) where
  -- a run with a maximum is no longer than that without one
  shorter : (n : ℕ) (most : Option ℕ) (p : ℕ)
      → length (run_places g item n most p) ≤ length (run_places g item n None p)
  unfolding run_places
  shorter zero most p = omega arith
  shorter (suc n) most p = by_left (is_none_left most) (λ q. shorter n (one_less most) q)
    where
      by_next : (o : Option ℕ) → ((q : ℕ)
          → length (run_places g item n (one_less most) q) ≤ length (run_places g item n None q)) →
          length (elim o as (λ _. List ℕ) [
            | None ↦ []
            | Some q ↦ q ∷ run_places g item n
                (one_less most) q
          ])
          ≤ length (elim o as (λ _. List ℕ) [ None ↦ [] | Some q ↦ q ∷ run_places g item n None q ])
      by_next None k = omega arith
      by_next (Some q) k = let h = k q in omega (arith, h)

      by_left : (b : Bool) → ((q : ℕ)
          → length (run_places g item n (one_less most) q) ≤ length (run_places g item n None q)) →
          length (elim b as (λ _. List ℕ) [
            | true ↦ []
            | false ↦ elim (after_item g item p) [
              | None ↦ []
              | Some q ↦ q ∷ run_places g item n
                  (one_less most) q
            ]
          ])
          ≤ length (elim (after_item g item p) as
          (λ _. List ℕ) [ None ↦ [] | Some q ↦ q ∷ run_places g item n None q ])
      by_left true k = omega arith
      by_left false k = by_next (after_item g item p) k

  -- where another item doesn't follow the run, and the run's item takes nothing that it takes, it
  -- follows no shorter run
  out_run : (other : Item) → ((p q : ℕ) → after_item g item p ≡ Some q
      → after_item g other p ≡ None) → (n : ℕ) (most : Option ℕ) (p : ℕ)
      → after_item g other (end_of p (run_places g item n None p)) ≡ None
      → AreOut g other (p ∷ run_places g item n most p)
  unfolding run_places
  out_run other apart zero most p last = (last, tt)
  out_run other apart (suc n) most p last = by_next (after_item g item p) refl last
      (λ q. out_run other apart n (one_less most) q)
    where
      by_left : (b : Bool) (q : ℕ) → AreOut g other (q ∷ run_places g item n (one_less most) q)
          → AreOut g other (elim b as (λ _. List ℕ) [
            | true ↦ []
            | false ↦ q ∷ run_places g item n
                (one_less most) q
          ])
      by_left true q out = tt
      by_left false q out = out

      none_left : (b : Bool) → AreOut g other (elim b as (λ _. List ℕ) [ true ↦ [] | false ↦ [] ])
      none_left true = tt
      none_left false = tt

      by_next : (o : Option ℕ) → after_item g item p ≡ o
          → after_item g other (end_of p (elim o as
          (λ _. List ℕ) [ None ↦ [] | Some q ↦ q ∷ run_places g item n None q ])) ≡ None
          → ((q : ℕ) → after_item g other (end_of q (run_places g item n None q)) ≡ None
          → AreOut g other (q ∷ run_places g item n (one_less most) q))
          → AreOut g other (p ∷ elim (is_none_left most) as (λ _. List ℕ) [
            | true ↦ []
            | false ↦ elim o [ None ↦ [] | Some q ↦ q ∷ run_places g item n (one_less most) q ]
          ])
      by_next None e last again = (last, none_left (is_none_left most))
      by_next (Some q) e last again = (apart p q e, by_left (is_none_left most) q (again q last))

  -- a run that is shorter than its maximum is that without one
  whole_less : (n m p : ℕ) → length (run_places g item n (Some m) p) < m
      → run_places g item n (Some m) p ≡ run_places g item n None p
  unfolding run_places
  whole_less zero m p few = refl
  whole_less (suc n) m p few = by_left (m == 0) refl (λ q. whole_less n (m - 1) q) few
    where
      by_next : (o : Option ℕ)
          → ((q : ℕ) → length (run_places g item n (Some (m - 1)) q) < m - 1
          → run_places g item n (Some (m - 1)) q ≡ run_places g item n None q)
          → length (elim o as (λ _. List ℕ) [
            | None ↦ []
            | Some q ↦ q ∷ run_places g item n (Some (m - 1)) q
          ]) < m
          → (elim o as (λ _. List ℕ) [
            | None ↦ []
            | Some q ↦ q ∷ run_places g item n (Some (m - 1)) q
          ])
          ≡ (elim o as (λ _. List ℕ) [ None ↦ [] | Some q ↦ q ∷ run_places g item n None q ])
      by_next None again few = refl
      by_next (Some q) again few = ap (λ (qs : List ℕ). q ∷ qs) (again q (omega (arith, few)))

      by_left : (b : Bool) → (m == 0) ≡ b
          → ((q : ℕ) → length (run_places g item n (Some (m - 1)) q) < m - 1
          → run_places g item n (Some (m - 1)) q ≡ run_places g item n None q)
          → length (elim b as (λ _. List ℕ) [
            | true ↦ []
            | false ↦ elim (after_item g item p) [
              | None ↦ []
              | Some q ↦ q ∷ run_places g item n (Some (m - 1)) q
            ]
          ]) < m
          → (elim b as (λ _. List ℕ) [
            | true ↦ []
            | false ↦ elim (after_item g item p) [
              | None ↦ []
              | Some q ↦ q ∷ run_places g item n (Some (m - 1)) q
            ]
          ])
          ≡ (elim (after_item g item p) as (λ _. List ℕ) [
            | None ↦ []
            | Some q ↦ q ∷ run_places g item n None q
          ])
      by_left true e again few = absurd (let none' = eqb-true m 0 e in omega (arith, none', few))
      by_left false e again few = by_next (after_item g item p) again few

  pub whole_short : (m p : ℕ) → length (longest_run g item (maximum m) p) < m
      → longest_run g item (maximum m) p ≡ longest_run g item None p
  whole_short m p few = by_greatest (m == 4294967295) few
    where
      by_greatest : (b : Bool) → length (longest_run g item (if b then None else Some m) p) < m
          → longest_run g item (if b then None else Some m) p ≡ longest_run g item None p
      by_greatest true few = refl
      by_greatest false few = whole_less (length g.subject) m p few

-- the last of a list is that of its rest
last_of : (before : List ℕ) (p : ℕ) (ps : List ℕ) (q : ℕ) (qs : List ℕ)
    → p ∷ ps ≡ before ++ (q ∷ qs) → end_of p ps ≡ end_of q qs
last_of [] p ps q qs e =
    let first : p ≡ q = cc e in
    let rest : ps ≡ qs = cc e in
    ap (λ k. end_of k ps) first ∙ ap (end_of q) rest
last_of (b ∷ []) p [] q qs e = absurd (cc e)
last_of (b ∷ c ∷ before) p [] q qs e = absurd (cc e)
last_of (b ∷ before) p (r ∷ ps) q qs e = last_of before r ps q qs (cc e)

-- Streams.

module _ (g : Setting) (off : g.matching.«partial» ≡ Off) where
  pub many_is : (item : Item) (low : ℕ) (high : Option ℕ) (s : State)
      → run_many g item low high false s ≡ offers g (reverse (drop low
      (s.place ∷ longest_run g.scene item high s.place))) s
  unfolding run_many greedy
  many_is item low high s = unreached g off (run_reaches g.scene item high s.place
      (longest_run g.scene item high s.place)) s _

  -- the places that a repeat offers
  abbrev places_of : Item → ℕ → Option ℕ → ℕ → List ℕ
  places_of item low high p = reverse (drop low (p ∷ longest_run g.scene item high p))

  -- a run that is too short offers nothing
  many_short : (item : Item) (low : ℕ) (high : Option ℕ) (s : State)
      → length (longest_run g.scene item None s.place) < low
      → run_many g item low high false s ≡ nothing
  unfolding offers
  many_short item low high s few =
      let most = shorter g.scene item (length g.subject) high s.place in
      many_is item low high s
      ∙ ap (λ ps. offers g (reverse ps) s) (drop_all low
      (s.place ∷ longest_run g.scene item high s.place) (omega (arith, most, few)))

  -- an item that takes nothing ends what begins with it
  one_ends : (below : Searches) (other : Item) (ts : Row) (s : State)
      → after_item g.scene other s.place ≡ None
      → in_order (levels g below (more (one other) ts)) s ≡ nothing
  unfolding in_order levels level run_one each
  one_ends below other ts s e =
      ap (λ x. and_then x (in_order (levels g below ts)))
      (unreached g off (item_reaches g.scene other s.place) s (goes_to
      (after_item g.scene other s.place) s) ∙ ap (λ o. goes_to o s) e)

  -- a state that the path has room for
  abbrev kept : Bool → State → Stream
  kept b t =
      elim b as (λ _. Stream) [ true ↦ gives reached t | false ↦ ends (by_halt too_many_units) ]

  -- a group that began at a place ends where a state stands
  abbrev captures : ℕ → ℕ → How → Search
  captures n p how u = hold g how (captured n p u)

  -- what follows ends at each place that is offered
  offers_fail : (other : Item) (f : Search) → ((t : State)
      → after_item g.scene other t.place ≡ None → f t ≡ nothing)
      → (ps : List ℕ) (s : State) (n : ℕ) → AreOut g.scene other ps
      → s.units + 1 ≤ g.matching.frame_limit → length ps ≤ n
      → walk g n (and_then (offers g ps s) f) ≡ answers (Failed Exhausted)
  unfolding walk offers each ◌or_else◌ hold held
  offers_fail other f ends' [] s n out room few = refl
  offers_fail other f ends' (p ∷ ps) s zero out room few = absurd (omega (arith, few))
  offers_fail other f ends' (p ∷ []) s (suc n) out room few = ap (λ x. walk g n
      (x or_else nothing)) (ends' (move_to p s) out.0)
  offers_fail other f ends' (p ∷ q ∷ ps) s (suc n) out room few =
      let t : State = record (move_to p s) { units = s.units + 1 } in
      ap (λ b. walk g n (and_then (kept b t or_else offers g (q ∷ ps) s) f))
      (le-leb (s.units + 1) g.matching.frame_limit room)
      ∙ ap (λ x. walk g n (x or_else and_then (offers g (q ∷ ps) s) f)) (ends' t out.0)
      ∙ offers_fail other f ends' (q ∷ ps) s n out.1 room (omega (arith, few))

  -- so it does in a capturing group, whose capture holds a unit more
  captures_fail : (m p₀ : ℕ) (other : Item) (f : Search) → ((t : State)
      → after_item g.scene other t.place ≡ None → f t ≡ nothing)
      → (ps : List ℕ) (s : State) (n : ℕ) → AreOut g.scene other ps
      → s.units + 2 ≤ g.matching.frame_limit → length ps ≤ n
      → walk g n (and_then (each (offers g ps s) (captures m p₀)) f)
      ≡ answers (Failed Exhausted)
  unfolding walk offers each ◌or_else◌ hold held
  captures_fail m p₀ other f ends' [] s n out room few = refl
  captures_fail m p₀ other f ends' (p ∷ ps) s zero out room few = absurd (omega (arith, few))
  captures_fail m p₀ other f ends' (p ∷ []) s (suc n) out room few =
      let c : State = record (captured m p₀ (move_to p s)) { units = s.units + 1 } in
      ap (λ b. walk g n (and_then (kept b c or_else nothing) f))
      (le-leb (s.units + 1) g.matching.frame_limit (omega (arith, room)))
      ∙ ap (λ x. walk g n (x or_else nothing)) (ends' c out.0)
  captures_fail m p₀ other f ends' (p ∷ q ∷ ps) s (suc n) out room few =
      let t : State = record (move_to p s) { units = s.units + 1 } in
      let c : State = record (captured m p₀ t) { units = s.units + 1 + 1 } in
      let later = each (offers g (q ∷ ps) s) (captures m p₀) in
      ap (λ b. walk g n (and_then (each (kept b t or_else offers g (q ∷ ps) s)
      (captures m p₀)) f))
      (le-leb (s.units + 1) g.matching.frame_limit (omega (arith, room)))
      ∙ ap (λ b. walk g n (and_then (kept b c or_else later) f))
      (le-leb (s.units + 1 + 1) g.matching.frame_limit (omega (arith, room)))
      ∙ ap (λ x. walk g n (x or_else and_then later f)) (ends' c out.0)
      ∙ captures_fail m p₀ other f ends' (q ∷ ps) s n out.1 room (omega (arith, few))

  -- Leads.

  module _ (below : Searches) (item : Item) (low : ℕ) (high : Option ℕ) where
    abbrev grouped : Option ℕ → Nested
    grouped number = group number (more (one_repeat item low high false) none)

    pub alone_is : (s : State)
        → level g below (one_repeat item low high false) s ≡ run_many g item low high false s
    unfolding level
    alone_is s = refl

    group_is : (s : State) → level g below (grouped None) s ≡ run_many g item low high false s
    unfolding level levels run_group branches run_many
    group_is s = refl

    capture_is : (n : ℕ) (s : State) → s.units + 1 ≤ g.matching.frame_limit
        → level g below (grouped (Some n)) s
        ≡ each (run_many g item low high false (record s { units = s.units + 1 }))
        (captures n s.place)
    unfolding level levels run_group branches held
    capture_is n s room = ap (λ b. elim b as (λ _. Stream) [
      | true ↦ each (run_many g item low high false (record s { units = s.units + 1 }))
          (captures n s.place)
      | false ↦ ends (by_halt too_many_units)
    ]) (le-leb (s.units + 1) g.matching.frame_limit room)

    no_captures : (n p : ℕ) → each nothing (captures n p) ≡ nothing
    unfolding each
    no_captures n p = refl

    group_short : (number : Option ℕ) (s : State)
        → length (longest_run g.scene item None s.place) < low
        → s.units + 1 ≤ g.matching.frame_limit → level g below (grouped number) s ≡ nothing
    group_short None s few room = group_is s ∙ many_short item low high s few
    group_short (Some n) s few room =
        capture_is n s room
        ∙ ap (λ x. each x (captures n s.place))
        (many_short item low high (record s { units = s.units + 1 }) few)
        ∙ no_captures n s.place

    module _ (other : Item) (f : Search) (ends' : (t : State)
        → after_item g.scene other t.place ≡ None → f t ≡ nothing)
        (s : State) (n : ℕ) (room : s.units + 3 ≤ g.matching.frame_limit)
        (out : AreOut g.scene other (places_of item low high s.place))
        (few : length (places_of item low high s.place) ≤ n) where
      many_fails : walk g n (and_then (run_many g item low high false s) f)
          ≡ answers (Failed Exhausted)
      many_fails =
          ap (λ x. walk g n (and_then x f)) (many_is item low high s)
          ∙ offers_fail other f ends' (places_of item low high s.place) s n out
          (omega (arith, room)) few

      repeat_fails : walk g n (and_then (level g below (one_repeat item low high false) s) f)
          ≡ answers (Failed Exhausted)
      repeat_fails = ap (λ x. walk g n (and_then x f)) (alone_is s) ∙ many_fails

      group_fails : (number : Option ℕ)
          → walk g n (and_then (level g below (grouped number) s) f) ≡ answers (Failed Exhausted)
      group_fails None = ap (λ x. walk g n (and_then x f)) (group_is s) ∙ many_fails
      group_fails (Some m) =
          let t : State = record s { units = s.units + 1 } in
          ap (λ x. walk g n (and_then x f)) (capture_is m s (omega (arith, room)))
          ∙ ap (λ x. walk g n (and_then (each x (captures m s.place)) f)) (many_is item low high t)
          ∙ captures_fail m s.place other f ends' (places_of item low high s.place) t n out
          (omega (arith, room)) few

  lead_short : (below : Searches) (first : Nested) (item : Item) (low : ℕ)
      → IsLead first item low → (s : State)
      → length (longest_run g.scene item None s.place) < low
      → s.units + 1 ≤ g.matching.frame_limit → level g below first s ≡ nothing
  lead_short below first item low (inl is) s few room =
      ap (λ t. level g below t s) is.1 ∙ alone_is below item low is.0 s
      ∙ many_short item low is.0 s few
  lead_short below first item low (inr is) s few room =
      let inner = is.1.1.0 in
      ap (λ t. level g below t s) (is.1.1.1 ∙ ap (λ t. group is.0 (more t none)) inner.1)
      ∙ group_short below item low inner.0 is.0 s few room

  lead_fails : (below : Searches) (first : Nested) (item : Item) (low : ℕ)
      → IsLead first item low → (other : Item) (f : Search)
      → ((t : State) → after_item g.scene other t.place ≡ None → f t ≡ nothing)
      → (s : State) (n : ℕ) → s.units + 3 ≤ g.matching.frame_limit
      → ((high : Option ℕ) → AreOut g.scene other (places_of item low high s.place))
      → ((high : Option ℕ) → length (places_of item low high s.place) ≤ n)
      → walk g n (and_then (level g below first s) f) ≡ answers (Failed Exhausted)
  lead_fails below first item low (inl is) other f ends' s n room out few =
      ap (λ t. walk g n (and_then (level g below t s) f)) is.1
      ∙ repeat_fails below item low is.0 other f ends' s n room (out is.0) (few is.0)
  lead_fails below first item low (inr is) other f ends' s n room out few =
      let inner = is.1.1.0 in
      ap (λ t. walk g n (and_then (level g below t s) f))
      (is.1.1.1 ∙ ap (λ t. group is.0 (more t none)) inner.1)
      ∙ group_fails below item low inner.0 other f ends' s n room (out inner.0) (few inner.0) is.0

  -- Start places.

  pub place_is : (t : Nested) → g.whole ≡ group None (more t none) → (p : ℕ)
      → place_answer g p ≡ walk g (match_limit g) (level g (run g (match_limit g)) t
      (first_state g.groups p))
  unfolding run level levels run_group branches
  place_is t is p =
      let e : match_limit g + 1 ≡ suc (match_limit g) = omega arith in
      ap (λ d. walk g (match_limit g) (run g d g.whole (first_state g.groups p))) e
      ∙ ap (λ u. walk g (match_limit g) (run g (suc (match_limit g)) u (first_state g.groups p))) is

  seq_is : (below : Searches) (first : Nested) (ts : Row) (s : State)
      → level g below (seq (more first ts)) s
      ≡ and_then (level g below first s) (in_order (levels g below ts))
  unfolding level levels in_order
  seq_is below first ts s = refl

  no_walk : (n : ℕ) → walk g n nothing ≡ answers (Failed Exhausted)
  unfolding walk
  no_walk n = refl

  nothing_then : (f : Search) → and_then nothing f ≡ nothing
  unfolding each
  nothing_then f = refl

  -- a place whose run is too short fails
  short_fails : (start : Nested) (item : Item) (low : ℕ) (after : Row)
      → g.whole ≡ group None (more start none) → BeginsPart start item low after
      → (p : ℕ) → length (longest_run g.scene item None p) < low → 3 ≤ g.matching.frame_limit
      → place_answer g p ≡ answers (Failed Exhausted)
  short_fails start item low after is (inl alone) p few room =
      let s = first_state g.groups p in
      let d = match_limit g in
      place_is start is p
      ∙ ap (walk g d) (lead_short (run g d) start item low alone.0 s few (omega (arith, room)))
      ∙ no_walk d
  short_fails start item low after is (inr begins) p few room =
      let s = first_state g.groups p in
      let d = match_limit g in
      let rest = in_order (levels g (run g d) after) in
      place_is start is p
      ∙ ap (λ t. walk g d (level g (run g d) t s)) begins.1.1
      ∙ ap (walk g d)
      (seq_is (run g d) begins.0 after s
      ∙ ap (λ x. and_then x rest)
      (lead_short (run g d) begins.0 item low begins.1.0 s few (omega (arith, room)))
      ∙ nothing_then rest)
      ∙ no_walk d

  -- so does one where what has to follow follows none of the runs, and so many may be tried
  followed_fails : (start : Nested) (item : Item) (low : ℕ) (after : Row) (other : Item)
      (rest : Row) → g.whole ≡ group None (more start none) → BeginsPart start item low after
      → after ≡ more (one other) rest → (p : ℕ)
      → ((high : Option ℕ)
      → AreOut g.scene other (drop low (p ∷ longest_run g.scene item high p)))
      → length (longest_run g.scene item None p) + 1 ≤ low + match_limit g
      → 3 ≤ g.matching.frame_limit
      → place_answer g p ≡ answers (Failed Exhausted)
  followed_fails start item low after other rest is
      (inl alone) follows p none-follow few room = absurd (cc (sym alone.1 ∙ follows))
  followed_fails start item low after other rest is (inr begins) follows p none-follow few room =
      let s = first_state g.groups p in
      let d = match_limit g in
      let runs : Option ℕ → List ℕ = λ high. p ∷ longest_run g.scene item high p in
      let out : (high : Option ℕ) → AreOut g.scene other (reverse (drop low (runs high))) = λ high.
      out_reverse g.scene other (drop low (runs high)) (none-follow high) in
      let few' : (high : Option ℕ) → length (reverse (drop low (runs high))) ≤ d = λ high.
      (let a = shorter g.scene item (length g.subject) high p in
      let b = length-reverse (drop low (runs high)) in
      let c = length-drop low (runs high) in
      omega (arith, a, b, c, few)) in
      place_is start is p
      ∙ ap (λ t. walk g d (level g (run g d) t s))
      (begins.1.1 ∙ ap (λ ts. seq (more begins.0 ts)) follows)
      ∙ ap (walk g d) (seq_is (run g d) begins.0 (more (one other) rest) s)
      ∙ lead_fails (run g d) begins.0 item low begins.1.0 other
      (in_order (levels g (run g d) (more (one other) rest)))
      (λ t e. one_ends (run g d) other rest t e) s d room out few'

-- What the item doesn't take.

lacks_takes : (g : Scene) (item : Item) (c p : ℕ) → Lacks g.class_has item c
    → takes g item p c ≡ false
lacks_takes g (Class n) c p h = h
lacks_takes g (Char d false) c p h = by_test (d == c) refl
  where
    by_test : (b : Bool) → (d == c) ≡ b → (d == c) ≡ false
    by_test true e = absurd (h (eqb-true d c e))
    by_test false e = e
lacks_takes g (Char d true) c p h = absurd h
lacks_takes g AnyAll c p h = absurd h
lacks_takes g NotNewline c p h = absurd h

-- where the item takes a character, the one that it doesn't take doesn't stand
apart : (g : Scene) (item : Item) (c : ℕ) → Lacks g.class_has item c → (p q : ℕ)
    → after_item g item p ≡ Some q → after_item g (Char c false) p ≡ None
apart g item c h p q = by_next (next g p)
  where
    by_same : (d r : ℕ) → takes g item p d ≡ true → (b : Bool) → (c == d) ≡ b
        → ◌≡◌ {A = Option ℕ} (elim b [ true ↦ Some r | false ↦ None ]) None
    by_same d r takes' true e =
        let same : c ≡ d = eqb-true c d e in
        absurd (let no = subst (λ k. takes g item p k ≡ false) same
        (lacks_takes g item c p h) in cc (sym takes' ∙ no))
    by_same d r takes' false e = refl

    by_takes : (d r : ℕ) (b : Bool) → takes g item p d ≡ b
        → (elim b as (λ _. Option ℕ) [ true ↦ Some r | false ↦ None ]) ≡ Some q
        → ◌≡◌ {A = Option ℕ} (elim (c == d) [ true ↦ Some r | false ↦ None ]) None
    by_takes d r true e k = by_same d r e (c == d) refl
    by_takes d r false e k = absurd (cc k)

    by_next : (o : Option (ℕ × ℕ))
        → (elim o as (λ _. Option ℕ) [
          | None ↦ None
          | Some d ↦ elim
              (takes g item p d.0) [ true ↦ Some d.1 | false ↦ None ]
        ]) ≡ Some q
        → ◌≡◌ {A = Option ℕ} (elim o [
          | None ↦ None
          | Some d ↦ elim
              (c == d.0) [ true ↦ Some d.1 | false ↦ None ]
        ]) None
    by_next None k = refl
    by_next (Some d) k = by_takes d.0 d.1 (takes g item p d.0) refl k

-- The search of a tree.

module _ (tree : TreeParts) (table : List CharSet) (view : View) (first : FirstRepeat)
    (shown : IsTableOf tree table)
    (options : view.options.now ≡ tree.options) (is : IsFirstRepeat tree view first)
    (c : ℕ) (behind : first.behind ≡ Some c) (p : ℕ) where
  abbrev asked : Setting
  asked = setting_for tree view passed_over

  abbrev NoneFollow : Scene → Type 0
  NoneFollow s = (high : Option ℕ)
      → AreOut s (Char c false) (drop first.min (p ∷ longest_run s first.item high p))

  -- the character follows none of the runs from the place
  followed_at : NoneFollow asked.scene
      → length (longest_run asked.scene first.item None p) + 1 ≤ first.min
      + lower_of view.options.now.match_limit view.matching.now.match_limit
      → (reply : Block → ℤ) → place_answer (replied reply asked) p ≡ answers (Failed Exhausted)
  followed_at out few reply =
      let limit : lower_of view.options.now.match_limit view.matching.now.match_limit ≡
      match_limit asked = ap (λ
      (o : Options). lower_of o.match_limit view.matching.now.match_limit) options in
      let follows : Follows is.begins.0 (Some c) = subst (Follows is.begins.0) behind
      is.begins.1.1 in
      followed_fails (replied reply asked) is.off is.start first.item first.min is.begins.0
      (Char c false) follows.0 is.whole is.begins.1.0 follows.1 p out (omega (arith, few, limit))
      is.room

  pub followed_run : NoneFollow (text_scene view table) → (n : ℕ)
      → n ≡ length (longest_run (text_scene view table) first.item None p)
      → n + 1 ≤ first.min + lower_of view.options.now.match_limit view.matching.now.match_limit
      → (reply : Block → ℤ) → place_answer (replied reply asked) p ≡ answers (Failed Exhausted)
  followed_run out n count few reply =
      let scene = scene_same tree table view passed_over shown options in
      let same : n ≡ length (longest_run asked.scene first.item None p) = count
      ∙ ap (λ (s : Scene). length (longest_run s first.item None p)) scene in
      followed_at (subst NoneFollow scene out) (omega (arith, same, few)) reply

module _ (tree : TreeParts) (table : List CharSet) (view : View) (first : FirstRepeat)
    (shown : IsTableOf tree table)
    (options : view.options.now ≡ tree.options) (is : IsFirstRepeat tree view first) (p : ℕ)
    (within : p ≤ length view.subject.now) where
  abbrev g : Setting
  g = setting_for tree view passed_over

  abbrev run_from : ℕ → List ℕ
  run_from k = longest_run g.scene first.item None k

  bytes : g.options.utf ≡ false
  bytes = ap (λ (o : Options). o.utf) (sym options) ∙ is.bytes

  -- the run from a later place in the run is its rest
  rest_from : (k : ℕ) → p ≤ k → k ≤ end_of p (run_from p) → IsRest (k ∷ run_from k) (p ∷ run_from p)
  rest_from k low high = later_rest g.scene first.item bytes p k low high

  no_longer : (k : ℕ) → p ≤ k → k ≤ end_of p (run_from p)
      → length (run_from k) ≤ length (run_from p)
  no_longer k low high =
      let r = rest_from k low high in
      let e = ap length r.1 in
      let n = length-append r.0 (k ∷ run_from k) in
      omega (arith, e, n)

  same_end : (k : ℕ) → p ≤ k → k ≤ end_of p (run_from p)
      → end_of p (run_from p) ≡ end_of k (run_from k)
  same_end k low high = let r = rest_from k low high in last_of r.0 p (run_from p) k
      (run_from k) r.1

  pub up_to_end : (q : ℕ) → q ≡ end_of p (longest_run (text_scene view table) first.item None p)
      → ((reply : Block → ℤ) (k : ℕ) → p ≤ k → k ≤ end_of p (run_from p)
      → place_answer (replied reply g) k ≡ answers (Failed Exhausted))
      → FailsUpTo tree view p q
  up_to_end q to fail =
      let is' : q ≡ end_of p (run_from p) = to
      ∙ ap (λ (s : Scene). end_of p (longest_run s first.item None p))
      (scene_same tree table view passed_over shown options) in
      let ends' = end_within g.scene first.item bytes (length g.subject) p within in
      let low = ends'.0 in
      let high = ends'.1 in
      record {
        low = omega arith;
        within = omega arith;
        bytes = bytes;
        fail = λ reply k a b. fail reply k a (omega arith);
      }

  -- the run's end is a place of the subject
  pub end_stands : (q : ℕ)
      → q ≡ end_of p (longest_run (text_scene view table) first.item None p)
      → IsTextPlace view.options.now view.subject.now q
  end_stands q to =
      let is' : q ≡ end_of p (run_from p) = to
      ∙ ap (λ (s : Scene). end_of p (longest_run s first.item None p))
      (scene_same tree table view passed_over shown options) in
      let ends' = end_within g.scene first.item bytes (length g.subject) p within in
      let high = ends'.1 in
      record {
        within = omega arith;
        between = λ utf. absurd (let no = is.bytes in cc (sym utf
            ∙ no));
      }

  pub short_run : (n : ℕ) → n ≡ length (longest_run (text_scene view table) first.item None p)
      → n < first.min
      → (reply : Block → ℤ) (k : ℕ) → p ≤ k → k ≤ end_of p (run_from p)
      → place_answer (replied reply g) k ≡ answers (Failed Exhausted)
  short_run n count few reply k low high =
      let same : n ≡ length (run_from p) = count
      ∙ ap (λ (s : Scene). length (longest_run s first.item None p))
      (scene_same tree table view passed_over shown options) in
      let most = no_longer k low high in
      short_fails (replied reply g) is.off is.start first.item first.min is.begins.0 is.whole
      is.begins.1.0 k (omega (arith, same, most, few)) is.room

  pub lacking_run : (c : ℕ) → first.behind ≡ Some c → Lacks (class_has tree) first.item c
      → (n q : ℕ) → n ≡ length (longest_run (text_scene view table) first.item None p)
      → q ≡ end_of p (longest_run (text_scene view table) first.item None p)
      → after_item (text_scene view table) (Char c false) q ≡ None
      → n + 1 ≤ first.min + lower_of view.options.now.match_limit view.matching.now.match_limit
      → (reply : Block → ℤ) (k : ℕ) → p ≤ k → k ≤ end_of p (run_from p)
      → place_answer (replied reply g) k ≡ answers (Failed Exhausted)
  lacking_run c behind lacks n q count to last few reply k low high =
      let scene = scene_same tree table view passed_over shown options in
      let same : n ≡ length (run_from p) = count
      ∙ ap (λ (s : Scene). length (longest_run s first.item None p)) scene in
      let most = no_longer k low high in
      let lacks' : Lacks g.class_has first.item c = subst (λ has. Lacks has first.item c)
      (class_told tree) lacks in
      let here : q ≡ end_of k (run_from k) = to
      ∙ ap (λ (s : Scene). end_of p (longest_run s first.item None p)) scene
      ∙ same_end k low high in
      let last' : after_item g.scene (Char c false) (end_of k (run_from k)) ≡ None =
      subst (λ j. after_item g.scene (Char c false) j ≡ None) here (subst (λ
      (s : Scene). after_item s (Char c false) q ≡ None) scene last) in
      followed_at tree table view first shown options is c behind k
      (λ high. out_drop g.scene (Char c false) first.min (k ∷ longest_run g.scene first.item high k)
      (out_run g.scene first.item (Char c false) (apart g.scene first.item c lacks')
      (length g.subject) high k last')) (omega (arith, same, most, few)) reply

-- the first of the places that fail
pub fails_first : (tree : TreeParts) (view : View) (p q : ℕ) (given : told.Block → ℤ)
    → FailsUpTo tree view p q
    → place_answer (setting_for tree view given) p ≡ answers (Failed Exhausted)
fails_first tree view p q given h = let low = h.low in h.fail
    (setting_for tree view given).reply p (omega arith) low
