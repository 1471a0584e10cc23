-- What is known of a course between two lines, where lines are shown, and what one more line does to it.
use Rattle.std.proofs.Common.{◌≡◌, ◌≢◌, ℕ, ◌+◌, ◌-◌, ◌<◌, ◌≤◌, true, false, ◌||◌, ◌&&◌, not, cond, List, [], ◌∷◌}
use Rattle.std.proofs.Common.{◌++◌, length, take, drop, refl, sym, ap, ◌∙◌, subst, ⊎_elim, arith, append_assoc}
use Rattle.std.proofs.Common.{append-nil, length-append, length-drop}
use Rattle.std.specs.Prelude.{nat_le, ◌==◌, filter}
use Rattle.std.specs.List.{AllByRecursion}
use Rattle.std.proofs.lemmas.Bool.{false≢true, eq-eqb, ne_eqb, cases_lt, cases_eq, le-leb, lt-leb, lt-ltb, le-ltb}
use Rattle.std.proofs.lemmas.Bool.{leb-true, leb-false, cond_both, or_left, or_right, or_from, and_left, and_right}
use Rattle.std.proofs.lemmas.Bool.{and_from, not_from_true, not_from_false}
use Rattle.std.proofs.lemmas.List.{take-append-drop, drop-append-le, length-take}
use Rattle.std.proofs.lemmas.List.Elements.{filter-append}
use Rattle.std.proofs.lemmas.List.Folds.{list_any-append}
use Rattle.std.proofs.Math.ListN.{drop_of_length-le}
use Rattle.circular_buffer.specs.Buffer.{keep_last}
use Rattle.line_feed.specs.Rows.{Row}
use Rattle.grep_args.specs.declared.plan.GrepPlan.{GrepPlan}
use Rattle.grep_output.specs.declared.shows.Show.TheVariants as show
use Rattle.grep_output.specs.Context.{is_near, is_shown}
use Rattle.grep_output.specs.Course.{Course, AreNumbered, begun, begins_group, course_after_selected}
use Rattle.grep_output.specs.Course.{course_after_passed}
use Rattle.grep_output.proofs.ReachRows.{has, or_none, every-map, every-append, every-filter, filter_same}
use Rattle.grep_output.proofs.ReachRows.{filter_none, has-none, has-here, has-append_right, has-append_none}
use Rattle.grep_output.proofs.ReachRows.{numbered-range, numbered-at, numbered-append, numbered-take, numbered-drop}
use Rattle.grep_output.proofs.ReachRows.{has-kept, last_none, last_last, last_near}

-- These rows were read, these of them selected.
pub record Within (plan : GrepPlan) (sel rows : List Row) (c : Course) : Type 0 where
  -- a row that a later one may show again, and a later row, are shown by their distance to the last selected one
  pub near : (u : Row) → 1 ≤ u.number → length rows ≤ u.number + plan.before_context
      → is_shown plan sel u ≡ nat_le u.number c.context_to
  pub beyond : (u : Row) → c.context_to < u.number → is_shown plan sel u ≡ false
  pub reach : c.context_to ≤ length rows + plan.after_context
  pub first : 0 < c.context_to → 0 < length rows
  pub known : AllByRecursion (λ (s : Row). (s.number ≤ length rows) × (s.number ≤ c.context_to)) sel
  pub earlier : c.earlier ≡ keep_last plan.before_context (drop c.context_to rows)

pub within-begun : (plan : GrepPlan) → Within plan [] [] begun
within-begun plan = record {
  near = λ u one far. sym (lt-leb u.number 0 (omega arith));
  beyond = λ u far. refl;
  reach = omega arith;
  first = λ some. absurd (omega arith);
  known = tt;
  earlier = sym (last_none plan.before_context (drop 0 []) refl);
}

-- a row more is selected
pub shown-more : (plan : GrepPlan) (sel : List Row) (r u : Row)
    → is_shown plan (sel ++ r ∷ []) u ≡ (is_shown plan sel u || is_near plan.after_context plan.before_context u r)
shown-more plan sel r u =
    let p = is_near plan.after_context plan.before_context u in
    list_any-append p sel (r ∷ []) ∙ ap (λ b. is_shown plan sel u || b) (or_none (p r) false refl)

near-not : (after before : ℕ) (u r : Row) → r.number + after < u.number → is_near after before u r ≡ false
near-not after before u r far = and_left (nat_le u.number (r.number + after)) (nat_le r.number (u.number + before))
    (lt-leb u.number (r.number + after) far)

pub near-is : (after before : ℕ) (u r : Row) → u.number ≤ r.number + after → r.number ≤ u.number + before
    → is_near after before u r ≡ true
near-is after before u r low high =
    and_from (nat_le u.number (r.number + after)) (nat_le r.number (u.number + before))
    (le-leb u.number (r.number + after) low) (le-leb r.number (u.number + before) high)

module _ (plan : GrepPlan) (sel rows : List Row) (c : Course) (w : Within plan sel rows c) (are : AreNumbered 1 rows)
    (r : Row) (next : r.number ≡ length rows + 1) where
  long_more : length (rows ++ r ∷ []) ≡ length rows + 1
  long_more = length-append rows (r ∷ [])

  known_more : (n to : ℕ) → length rows ≤ n → c.context_to ≤ to
      → AllByRecursion (λ (s : Row). (s.number ≤ n) × (s.number ≤ to)) sel
  known_more n to more further =
      every-map (λ (s : Row). (s.number ≤ length rows) × (s.number ≤ c.context_to))
      (λ (s : Row). (s.number ≤ n) × (s.number ≤ to)) (λ s both. (omega arith, omega arith)) sel w.known

  pub within-passed : Within plan sel (rows ++ r ∷ []) (course_after_passed plan show.Lines c r)
  within-passed =
      let long = long_more in
      let reach = w.reach in
      let kept : Course = record c { earlier = keep_last plan.before_context (c.earlier ++ r ∷ []) } in
      cond_both (nat_le r.number c.context_to) c kept (λ d. Within plan sel (rows ++ r ∷ []) d)
      (λ e.
      let within : r.number ≤ c.context_to = leb-true r.number c.context_to e in
      let none : drop c.context_to rows ≡ [] = drop_of_length-le rows (omega arith) in
      let none_more : drop c.context_to (rows ++ r ∷ []) ≡ [] = drop_of_length-le (rows ++ r ∷ []) (omega arith) in
      record {
        near = λ u one far. w.near u one (omega arith);
        beyond = w.beyond;
        reach = omega arith;
        first = λ some. omega arith;
        known = known_more (length (rows ++ r ∷ [])) c.context_to (omega arith) (omega arith);
        earlier = w.earlier ∙ last_none plan.before_context _ none ∙ sym (last_none plan.before_context _ none_more);
      })
      (λ e.
      let course_after : c.context_to < r.number = leb-false r.number c.context_to e in
      record {
        near = λ u one far. w.near u one (omega arith);
        beyond = w.beyond;
        reach = omega arith;
        first = λ some. omega arith;
        known = known_more (length (rows ++ r ∷ [])) c.context_to (omega arith) (omega arith);
        earlier = ap (λ l. keep_last plan.before_context (l ++ r ∷ [])) w.earlier
            ∙ last_last plan.before_context (drop c.context_to rows) (r ∷ [])
            ∙ ap (λ l. keep_last plan.before_context l) (sym (drop-append-le c.context_to rows (r ∷ []) (omega arith)));
      })

  pub within-selected : Within plan (sel ++ r ∷ []) (rows ++ r ∷ []) (course_after_selected plan show.Lines c r)
  within-selected =
      let long = long_more in
      let reach = w.reach in
      let to = r.number + plan.after_context in
      record {
        near = λ u one far. shown-more plan sel r u ∙ ⊎_elim
            (λ (over : to < u.number).
            or_from (is_shown plan sel u) _ (w.beyond u (omega arith))
            (near-not plan.after_context plan.before_context u r over) ∙ sym (lt-leb u.number to over))
            (λ (under : u.number ≤ to).
            or_right (is_shown plan sel u) _ (near-is plan.after_context plan.before_context u r under (omega arith))
            ∙ sym (le-leb u.number to under))
            (cases_lt to u.number);
        beyond = λ u over. shown-more plan sel r u ∙ or_from (is_shown plan sel u) _ (w.beyond u (omega arith))
            (near-not plan.after_context plan.before_context u r over);
        reach = omega arith;
        first = λ some. omega arith;
        known = every-append (λ (s : Row). (s.number ≤ length (rows ++ r ∷ [])) × (s.number ≤ to)) sel (r ∷ [])
            (known_more (length (rows ++ r ∷ [])) to (omega arith) (omega arith)) ((omega arith, omega arith), tt);
        earlier = sym (last_none plan.before_context _ (drop_of_length-le (rows ++ r ∷ []) (omega arith)));
      }

-- Of the rows read so far.
module _ (plan : GrepPlan) (sel rows : List Row) (c : Course) (w : Within plan sel rows c)
    (are : AreNumbered 1 rows) where
  -- the number of the last row before those that are kept
  abbrev pub before_back : ℕ
  before_back = length rows - length c.earlier

  pub back_long : length c.earlier ≡ (length rows - c.context_to) - ((length rows - c.context_to) - plan.before_context)
  back_long =
      let rest = drop c.context_to rows in
      ap length w.earlier ∙ length-drop (length rest - plan.before_context) rest
      ∙ ap (λ n. n - (n - plan.before_context)) (length-drop c.context_to rows)

  pub numbered-back : AreNumbered (before_back + 1) c.earlier
  numbered-back =
      let rest = drop c.context_to rows in
      let long = back_long in
      let rest_long = length-drop c.context_to rows in
      ⊎_elim
      (λ (over : length rows < c.context_to).
      let none : rest ≡ [] = drop_of_length-le rows (omega arith) in
      subst (λ l. AreNumbered (before_back + 1) l) (sym (w.earlier ∙ last_none plan.before_context rest none)) tt)
      (λ (under : c.context_to ≤ length rows).
      subst (λ l. AreNumbered (before_back + 1) l) (sym w.earlier)
      (numbered-at (1 + c.context_to + (length rest - plan.before_context)) (before_back + 1) _ (omega arith)
      (numbered-drop (length rest - plan.before_context) (1 + c.context_to) rest (omega arith)
      (numbered-drop c.context_to 1 rows under are))))
      (cases_lt (length rows) c.context_to)

  -- those that are kept are neither shown nor selected
  pub back_range : AllByRecursion (λ (v : Row). (c.context_to < v.number) × (v.number ≤ length rows)) c.earlier
  back_range =
      let long = back_long in
      every-map (λ (v : Row). (before_back + 1 ≤ v.number) × (v.number < before_back + 1 + length c.earlier))
      (λ (v : Row). (c.context_to < v.number) × (v.number ≤ length rows))
      (λ v range. (omega arith, omega arith)) c.earlier (numbered-range (before_back + 1) c.earlier numbered-back)

  abbrev pub so_far : List Row
  so_far = filter (is_shown plan sel) rows

  pub so_far_range : AllByRecursion (λ (u : Row). (1 ≤ u.number) × (u.number ≤ length rows)
      × (u.number ≤ c.context_to)) so_far
  so_far_range =
      every-filter (is_shown plan sel) (λ (u : Row). (1 ≤ u.number) × (u.number < 1 + length rows))
      (λ (u : Row). (1 ≤ u.number) × (u.number ≤ length rows) × (u.number ≤ c.context_to))
      (λ u range e. (
        omega arith,
        omega arith,
        ⊎_elim
            (λ (over : c.context_to < u.number). absurd (false≢true (sym (w.beyond u over) ∙ e)))
            (λ (under : u.number ≤ c.context_to). under)
            (cases_lt c.context_to u.number),
      ))
      rows (numbered-range 1 rows are)

  pub so_far_below : AllByRecursion (λ (u : Row). u.number ≤ before_back) so_far
  so_far_below =
      let long = back_long in
      every-map (λ (u : Row). (1 ≤ u.number) × (u.number ≤ length rows) × (u.number ≤ c.context_to))
      (λ (u : Row). u.number ≤ before_back)
      (λ u range. omega arith) so_far so_far_range

  -- where a line was selected, a number up to the last one of its context is shown
  pub has_shown : (k : ℕ) → 1 ≤ k → k ≤ length rows → k ≤ c.context_to → length rows ≤ k + plan.before_context
      → has k so_far ≡ true
  has_shown k one there under far =
      has-kept (is_shown plan sel) k 1 rows are one (omega arith)
      (λ u e. w.near u (omega arith) (omega arith) ∙ le-leb u.number c.context_to (omega arith))

  -- the lines that the next one shows begin a group where the one before them isn't shown
  pub begins-group : (number : ℕ) → number ≡ length rows + 1 → not (has before_back so_far) ≡ begins_group c number
  begins-group number next =
      let long = back_long in
      ⊎_elim
      (λ (none : c.context_to ≡ 0).
      let nothing : has before_back so_far ≡ false =
      has-none before_back so_far
      (every-map (λ (u : Row). (1 ≤ u.number) × (u.number ≤ length rows) × (u.number ≤ c.context_to))
      (λ (u : Row). u.number ≢ before_back) (λ u range e. omega arith) so_far so_far_range) in
      not_from_false _ nothing ∙ sym (or_left (c.context_to == 0) _ (eq-eqb c.context_to 0 none)))
      (λ (some : c.context_to ≢ 0).
      ⊎_elim
      (λ (apart : c.context_to + 1 < number - length c.earlier).
      let nothing : has before_back so_far ≡ false =
      has-none before_back so_far
      (every-map (λ (u : Row). (1 ≤ u.number) × (u.number ≤ length rows) × (u.number ≤ c.context_to))
      (λ (u : Row). u.number ≢ before_back) (λ u range e. omega arith) so_far so_far_range) in
      not_from_false _ nothing
      ∙ sym (or_right (c.context_to == 0) _ (lt-ltb (c.context_to + 1) (number - length c.earlier) apart)))
      (λ (touches : number - length c.earlier ≤ c.context_to + 1).
      let read = w.first (omega arith) in
      not_from_true _ (has_shown before_back (omega arith) (omega arith) (omega arith) (omega arith))
      ∙ sym (or_from (c.context_to == 0) _ (ne_eqb c.context_to 0 some)
      (le-ltb (c.context_to + 1) (number - length c.earlier) touches)))
      (cases_lt (c.context_to + 1) (number - length c.earlier)))
      (cases_eq c.context_to 0)

  -- The next row.
  module _ (r : Row) (next : r.number ≡ length rows + 1) where
    abbrev more : List Row
    more = sel ++ r ∷ []

    front_same : filter (is_shown plan more) (take c.context_to rows) ≡ filter (is_shown plan sel)
        (take c.context_to rows)
    front_same =
        let front = take c.context_to rows in
        let long = length-take c.context_to rows in
        filter_same (is_shown plan more) (is_shown plan sel) front
        (every-map (λ (u : Row). (1 ≤ u.number) × (u.number < 1 + length front))
        (λ (u : Row). is_shown plan more u ≡ is_shown plan sel u)
        (λ u range. shown-more plan sel r u ∙ ⊎_elim
        (λ (far : u.number + plan.before_context < r.number).
        or_none (is_shown plan sel u) _ (and_right (nat_le u.number (r.number + plan.after_context))
        (nat_le r.number (u.number + plan.before_context))
        (lt-leb r.number (u.number + plan.before_context) far)))
        (λ (close : r.number ≤ u.number + plan.before_context).
        let was : is_shown plan sel u ≡ true = w.near u (omega arith) (omega arith)
        ∙ le-leb u.number c.context_to (omega arith) in
        or_left (is_shown plan sel u) _ was ∙ sym was)
        (cases_lt (u.number + plan.before_context) r.number))
        front (numbered-range 1 front (numbered-take c.context_to 1 rows are)))

    rest_hidden : filter (is_shown plan sel) (drop c.context_to rows) ≡ []
    rest_hidden =
        let rest = drop c.context_to rows in
        ⊎_elim
        (λ (over : length rows < c.context_to).
        ap (λ l. filter (is_shown plan sel) l) (drop_of_length-le rows (omega arith)))
        (λ (under : c.context_to ≤ length rows).
        filter_none (is_shown plan sel) rest
        (every-map (λ (u : Row). (1 + c.context_to ≤ u.number) × (u.number < 1 + c.context_to + length rest))
        (λ (u : Row). is_shown plan sel u ≡ false)
        (λ u range. w.beyond u (omega arith)) rest
        (numbered-range (1 + c.context_to) rest (numbered-drop c.context_to 1 rows under are))))
        (cases_lt (length rows) c.context_to)

    rest_near : filter (is_shown plan more) (drop c.context_to rows) ≡ c.earlier
    rest_near =
        let rest = drop c.context_to rows in
        ⊎_elim
        (λ (over : length rows < c.context_to).
        let none : rest ≡ [] = drop_of_length-le rows (omega arith) in
        ap (λ l. filter (is_shown plan more) l) none ∙ sym (w.earlier ∙ last_none plan.before_context rest none))
        (λ (under : c.context_to ≤ length rows).
        let long = length-drop c.context_to rows in
        let there = numbered-drop c.context_to 1 rows under are in
        filter_same (is_shown plan more) (λ u. nat_le r.number (u.number + plan.before_context)) rest
        (every-map (λ (u : Row). (1 + c.context_to ≤ u.number) × (u.number < 1 + c.context_to + length rest))
        (λ (u : Row). is_shown plan more u ≡ nat_le r.number (u.number + plan.before_context))
        (λ u range.
        shown-more plan sel r u
        ∙ ap (λ b. b || is_near plan.after_context plan.before_context u r) (w.beyond u (omega arith))
        ∙ ap (λ b. b && nat_le r.number (u.number + plan.before_context))
        (le-leb u.number (r.number + plan.after_context) (omega arith)))
        rest (numbered-range (1 + c.context_to) rest there))
        ∙ last_near plan.before_context r.number (1 + c.context_to) rest there (omega arith)
        ∙ sym w.earlier)
        (cases_lt (length rows) c.context_to)

    -- a selected row shows the rows kept, and itself
    pub shown-selected : filter (is_shown plan more) (rows ++ r ∷ []) ≡ so_far ++ (c.earlier ++ r ∷ [])
    shown-selected =
        let g = is_shown plan more in
        let f = is_shown plan sel in
        let front = take c.context_to rows in
        let rest = drop c.context_to rows in
        let whole = take-append-drop c.context_to rows in
        let same : filter g front ≡ so_far = front_same ∙ sym (append-nil (filter f front))
        ∙ ap (λ l. filter f front ++ l) (sym rest_hidden) ∙ sym (filter-append f front rest)
        ∙ ap (λ l. filter f l) whole in
        let one : filter g (r ∷ []) ≡ r ∷ [] =
        ap (λ b. cond b (r ∷ []) []) (shown-more plan sel r r
        ∙ or_right (is_shown plan sel r) _ (near-is plan.after_context plan.before_context r r (omega arith)
        (omega arith))) in
        filter-append g rows (r ∷ [])
        ∙ (λ i. filter g (sym whole i) ++ one i)
        ∙ ap (λ l. l ++ r ∷ []) (filter-append g front rest ∙ (λ i. same i ++ rest_near i))
        ∙ append_assoc so_far c.earlier (r ∷ [])

    -- another row is shown as context, or not
    pub shown-passed : filter (is_shown plan sel) (rows ++ r ∷ []) ≡ so_far ++ cond (nat_le r.number c.context_to)
        (r ∷ []) []
    shown-passed =
        filter-append (is_shown plan sel) rows (r ∷ [])
        ∙ ap (λ b. so_far ++ cond b (r ∷ []) []) (w.near r (omega arith) (omega arith))

    -- up to the rows kept, the same are selected
    pub selected_same : (k : ℕ) → k ≤ before_back → has k more ≡ has k sel
    selected_same k below = has-append_none k sel (r ∷ []) ((λ e. omega arith), tt)

    pub new_numbered : AreNumbered (before_back + 1) (c.earlier ++ r ∷ [])
    new_numbered = let long = back_long in numbered-append (before_back + 1) c.earlier (r ∷ []) numbered-back
        (omega arith, tt)

    pub new_selected : has r.number more ≡ true
    new_selected = has-append_right r.number sel (r ∷ []) (has-here r.number r [] refl)

    pub back_unselected : AllByRecursion (λ (v : Row). has v.number more ≡ false) c.earlier
    back_unselected =
        every-map (λ (v : Row). (c.context_to < v.number) × (v.number ≤ length rows))
        (λ (v : Row). has v.number more ≡ false)
        (λ v range. has-none v.number more (every-append (λ (s : Row). s.number ≢ v.number) sel (r ∷ [])
        (every-map (λ (s : Row). (s.number ≤ length rows) × (s.number ≤ c.context_to))
        (λ (s : Row). s.number ≢ v.number) (λ s both e. omega arith) sel w.known)
        ((λ e. omega arith), tt))) c.earlier back_range

  -- a later row isn't selected
  pub later_unselected : (k : ℕ) → length rows < k → has k sel ≡ false
  later_unselected k later =
      has-none k sel (every-map (λ (s : Row). (s.number ≤ length rows) × (s.number ≤ c.context_to))
      (λ (s : Row). s.number ≢ k) (λ s both e. omega arith) sel w.known)

  -- where a further row is context, the last one is shown
  pub last_shown : length rows < c.context_to → has (length rows) so_far ≡ true
  last_shown further = let read = w.first (omega arith) in
      has_shown (length rows) (omega arith) (omega arith) (omega arith) (omega arith)
