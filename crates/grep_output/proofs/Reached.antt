-- The course of a scan, line by line, is the definition over the whole list of lines.
use Rattle.std.proofs.Common.{◌≡◌, ℕ, ◌+◌, ◌<◌, ◌≤◌, Bool, true, false, ◌||◌, ◌&&◌, not, cond, List, [], ◌∷◌, ◌++◌}
use Rattle.std.proofs.Common.{length, refl, sym, ap, ◌∙◌, subst, ⊎_elim, arith, append_assoc, append-nil}
use Rattle.std.proofs.Common.{length-append, Ok, Err}
use Rattle.std.specs.Prelude.{nat_le, nat_lt, filter, flat_map, codes}
use Rattle.std.specs.List.{AllByRecursion}
use Rattle.std.proofs.lemmas.Bool.{cases_Bool, cases_lt, lt-ltb, le-leb, lt-leb, leb-true, cond_both, cond-true}
use Rattle.std.proofs.lemmas.Bool.{cond-false, or_right, and_right, false≢true}
use Rattle.std.proofs.lemmas.List.{map-append, length-map}
use Rattle.std.proofs.lemmas.List.Concat.{flat_map-append}
use Rattle.std.proofs.lemmas.List.Elements.{filter-append}
use Rattle.line_feed.specs.Rows.{Row}
use Rattle.grep_args.specs.declared.plan.GrepPlan.{GrepPlan}
use Rattle.grep_output.specs.declared.shows.Show.{Show}
use Rattle.grep_output.specs.declared.shows.Show.TheVariants as show
use Rattle.grep_match.specs.Matches.{Matches, Tried, is_selected, has_error, selects}
use Rattle.grep_output.specs.Scans.{rows_of}
use Rattle.grep_output.specs.Context.{is_shown, shown_row, all_shown, shown_lines, parts_groups}
use Rattle.tool_io.specs.Texts.{text_if}
use Rattle.grep_output.specs.Texts.{lines_text, matches_text}
use Rattle.grep_output.specs.InputText.{shown_out, shows_group}
use Rattle.grep_output.specs.Course.{Course, AreNumbered, begun, is_lines, begins_group, line_as, separator}
use Rattle.grep_output.specs.Course.{selected_out, passed_out, row_out, course_after_selected, course_after_passed}
use Rattle.grep_output.specs.Course.{course_after, scan_so_far}
use Rattle.grep_output.proofs.ReachRows.{has, or_none, every-map, filter_whole, flat_map_same, has-some}
use Rattle.grep_output.proofs.ReachRows.{numbered-range, numbered-at, numbered-left, numbered-right}
use Rattle.grep_output.proofs.ReachTexts.{parting, no_parting, plain_line, extended}
use Rattle.grep_output.proofs.ReachCourse.{Within, within-begun, within-passed, within-selected, before_back, so_far}
use Rattle.grep_output.proofs.ReachCourse.{so_far_range, so_far_below, begins-group, shown-selected, shown-passed}
use Rattle.grep_output.proofs.ReachCourse.{selected_same, new_numbered, new_selected, back_unselected}
use Rattle.grep_output.proofs.ReachCourse.{later_unselected, last_shown, shown-more, near-is}

-- the rows of the lines that are selected
abbrev pub selected_of : GrepPlan → List Tried → List Row
selected_of plan ts = rows_of (filter (is_selected plan) ts)

-- What a course is after these lines were tried.
pub record Reached (plan : GrepPlan) (shows : Show) (ts : List Tried) (c : Course) : Type 0 where
  pub selected : c.selected ≡ length (filter (is_selected plan) ts)
  pub lines : shows ≡ show.Lines → Within plan (selected_of plan ts) (rows_of ts) c

-- before the first line
pub reached-begun : (plan : GrepPlan) (s : Show) → Reached plan s [] begun
reached-begun plan s = record { selected = refl; lines = λ e. within-begun plan }

-- One more line is selected, or not.

pub selected-true : (plan : GrepPlan) (ts : List Tried) (t : Tried) → is_selected plan t ≡ true
    → filter (is_selected plan) (ts ++ t ∷ []) ≡ filter (is_selected plan) ts ++ t ∷ []
selected-true plan ts t e = filter-append (is_selected plan) ts (t ∷ [])
    ∙ ap (λ b. filter (is_selected plan) ts ++ cond b (t ∷ []) []) e

pub selected-false : (plan : GrepPlan) (ts : List Tried) (t : Tried) → is_selected plan t ≡ false
    → filter (is_selected plan) (ts ++ t ∷ []) ≡ filter (is_selected plan) ts
selected-false plan ts t e = filter-append (is_selected plan) ts (t ∷ [])
    ∙ ap (λ b. filter (is_selected plan) ts ++ cond b (t ∷ []) []) e ∙ append-nil (filter (is_selected plan) ts)

rows-more : (ts : List Tried) (t : Tried) → rows_of (ts ++ t ∷ []) ≡ rows_of ts ++ t.row ∷ []
rows-more ts t = map-append (λ (t : Tried). t.row) ts (t ∷ [])

rows_long : (ts : List Tried) → length (rows_of ts) ≡ length ts
rows_long ts = length-map ts (λ (t : Tried). t.row)

error-not : (invert : Bool) (m : Matches) → elim m [ Ok os ↦ false | Err e ↦ true ] ≡ true → selects invert m ≡ false
error-not invert (Ok os) e = absurd (false≢true e)
error-not invert (Err n) e = refl

pub unselected-error : (plan : GrepPlan) (t : Tried) → has_error t ≡ true → is_selected plan t ≡ false
unselected-error plan t e = error-not plan.invert_match t.matches e

-- a line with a match error isn't selected
pub out-broken : (plan : GrepPlan) (ts : List Tried) (t : Tried) → has_error t ≡ true
    → filter (is_selected plan) (ts ++ t ∷ []) ≡ filter (is_selected plan) ts
out-broken plan ts t e = selected-false plan ts t (unselected-error plan t e)

and-order : (a b p : Bool) → (a && (b && p)) ≡ (p && (a && b))
and-order true true true = refl
and-order true true false = refl
and-order true false true = refl
and-order true false false = refl
and-order false b true = refl
and-order false b false = refl

some-shown : (sel shown : List Row) → 0 < length shown → 0 < length (all_shown sel shown)
some-shown sel shown some = let long = length-map shown (shown_row sel shown) in omega arith

-- Where lines are shown, in terms of the rows.
module _ (plan : GrepPlan) (name : List ℕ) (sel rows : List Row) (c : Course) (w : Within plan sel rows c)
    (are : AreNumbered 1 rows) (has_shown : Bool) where
  abbrev shown : List Row
  shown = so_far plan sel rows c w are

  abbrev old : List ℕ
  old = lines_text plan name has_shown (all_shown sel shown)

  abbrev later : Bool
  later = has_shown || nat_lt 0 (length (all_shown sel shown))

  below_all : AllByRecursion (λ (u : Row). u.number ≤ length rows) shown
  below_all =
      every-map (λ (u : Row). (1 ≤ u.number) × (u.number ≤ length rows) × (u.number ≤ c.context_to))
      (λ (u : Row). u.number ≤ length rows)
      (λ u range. range.1) shown (so_far_range plan sel rows c w are)

  -- rows up to the last one of the context
  context-out : (fs : List Row) → 0 < length fs → AreNumbered (length rows + 1) fs
      → length rows + length fs ≤ c.context_to
      → lines_text plan name has_shown (shown_lines plan sel (rows ++ fs)) ≡ old ++ flat_map (line_as plan name false)
      fs
  context-out fs some numbered within =
      let range = numbered-range (length rows + 1) fs numbered in
      let Range = λ (v : Row). (length rows + 1 ≤ v.number) × (v.number < length rows + 1 + length fs) in
      let whole : filter (is_shown plan sel) fs ≡ fs =
      filter_whole (is_shown plan sel) fs
      (every-map Range (λ (v : Row). is_shown plan sel v ≡ true)
      (λ v range. w.near v (omega arith) (omega arith) ∙ le-leb v.number c.context_to (omega arith)) fs range)
      in
      let same : flat_map (plain_line plan name sel) fs ≡ flat_map (line_as plan name false) fs =
      flat_map_same (plain_line plan name sel) (line_as plan name false) fs
      (every-map Range (λ (v : Row). plain_line plan name sel v ≡ line_as plan name false v)
      (λ v range. ap (λ b. line_as plan name b v) (later_unselected plan sel rows c w are v.number (omega arith))) fs
      range) in
      ap (λ l. lines_text plan name has_shown (all_shown sel l))
      (filter-append (is_shown plan sel) rows fs ∙ ap (λ l. shown ++ l) whole)
      ∙ extended plan name has_shown sel sel shown fs (length rows) some numbered below_all (λ k low. refl)
      ∙ ap (λ l. old ++ (l ++ flat_map (plain_line plan name sel) fs))
      (no_parting plan name later (has (length rows) shown) (last_shown plan sel rows c w are (omega arith)))
      ∙ ap (λ l. old ++ l) same

  module _ (r : Row) (next : r.number ≡ length rows + 1) where
    abbrev more : List Row
    more = sel ++ r ∷ []

    parted : parting plan name later (not (has (before_back plan sel rows c w are) shown)) ≡ separator plan name later
        c r.number
    parted =
        ap (λ b. parting plan name later b) (begins-group plan sel rows c w are r.number next)
        ∙ ap (λ b. text_if b (codes "--\n")) (and-order later (begins_group c r.number) (parts_groups plan))

    plainly : flat_map (plain_line plan name more) (c.earlier ++ r ∷ []) ≡ flat_map (line_as plan name false)
        c.earlier ++ line_as plan name true r
    plainly =
        let earlier : flat_map (plain_line plan name more) c.earlier ≡ flat_map (line_as plan name false) c.earlier =
        flat_map_same (plain_line plan name more) (line_as plan name false) c.earlier
        (every-map (λ (v : Row). has v.number more ≡ false)
        (λ (v : Row). plain_line plan name more v ≡ line_as plan name false v)
        (λ v e. ap (λ b. line_as plan name b v) e) c.earlier (back_unselected plan sel rows c w are r next)) in
        let one : flat_map (plain_line plan name more) (r ∷ []) ≡ line_as plan name true r =
        append-nil (plain_line plan name more r) ∙ ap (λ b. line_as plan name b r)
        (new_selected plan sel rows c w are r next) in
        flat_map-append (plain_line plan name more) c.earlier (r ∷ []) ∙ (λ i. earlier i ++ one i)

    selected-out : lines_text plan name has_shown (shown_lines plan more (rows ++ r ∷ []))
        ≡ old ++ (separator plan name later c r.number ++ flat_map (line_as plan name false) c.earlier ++ line_as plan
        name true r)
    selected-out =
        ap (λ l. lines_text plan name has_shown (all_shown more l)) (shown-selected plan sel rows c w are r next)
        ∙ extended plan name has_shown sel more shown (c.earlier ++ r ∷ []) (before_back plan sel rows c w are)
        (omega (arith, length-append c.earlier (r ∷ [])))
        (new_numbered plan sel rows c w are r next) (so_far_below plan sel rows c w are)
        (selected_same plan sel rows c w are r next)
        ∙ (λ i. old ++ (parted i ++ plainly i))
        ∙ ap (λ l. old ++ l)
        (sym (append_assoc (separator plan name later c r.number) (flat_map (line_as plan name false) c.earlier)
        (line_as plan name true r)))

    selected-group : nat_lt 0 (length (shown_lines plan more (rows ++ r ∷ []))) ≡ true
    selected-group =
        ap (λ l. nat_lt 0 (length (all_shown more l))) (shown-selected plan sel rows c w are r next)
        ∙ lt-ltb 0 _ (some-shown more (shown ++ (c.earlier ++ r ∷ []))
        (omega (arith, length-append shown (c.earlier ++ r ∷ []), length-append c.earlier (r ∷ []))))

    -- another row that isn't context
    hidden : c.context_to < r.number → filter (is_shown plan sel) (rows ++ r ∷ []) ≡ shown
    hidden over =
        shown-passed plan sel rows c w are r next ∙ ap (λ b. shown ++ cond b (r ∷ []) [])
        (lt-leb r.number c.context_to over) ∙ append-nil shown

    passed-out : lines_text plan name has_shown (shown_lines plan sel (rows ++ r ∷ [])) ≡ old ++ text_if
        (nat_le r.number c.context_to) (line_as plan name false r)
    passed-out = ⊎_elim
        (λ (over : c.context_to < r.number).
        ap (λ l. lines_text plan name has_shown (all_shown sel l)) (hidden over)
        ∙ sym (append-nil old)
        ∙ ap (λ b. old ++ text_if b (line_as plan name false r)) (sym (lt-leb r.number c.context_to over)))
        (λ (under : r.number ≤ c.context_to).
        context-out (r ∷ []) (omega arith) (next, tt) (omega arith)
        ∙ ap (λ l. old ++ l) (append-nil (line_as plan name false r))
        ∙ ap (λ b. old ++ text_if b (line_as plan name false r)) (sym (le-leb r.number c.context_to under)))
        (cases_lt c.context_to r.number)

    passed-group : nat_lt 0 (length (shown_lines plan sel (rows ++ r ∷ []))) ≡ nat_lt 0 (length (all_shown sel shown))
    passed-group = ⊎_elim
        (λ (over : c.context_to < r.number). ap (λ l. nat_lt 0 (length (all_shown sel l))) (hidden over))
        (λ (under : r.number ≤ c.context_to).
        ap (λ l. nat_lt 0 (length (all_shown sel l))) (shown-passed plan sel rows c w are r next
        ∙ ap (λ b. shown ++ cond b (r ∷ []) []) (le-leb r.number c.context_to under))
        ∙ lt-ltb 0 _ (some-shown sel (shown ++ r ∷ []) (omega (arith, length-append shown (r ∷ []))))
        ∙ sym (lt-ltb 0 _
        (some-shown sel shown (has-some (length rows) shown (last_shown plan sel rows c w are (omega arith))))))
        (cases_lt c.context_to r.number)

-- Where lines are shown, in terms of the lines tried.
module _ (plan : GrepPlan) (ts : List Tried) (c : Course) (t : Tried) (numbered : AreNumbered 1 (rows_of ts))
    (next : t.row.number ≡ length ts + 1) (w : Within plan (selected_of plan ts) (rows_of ts) c) where
  here : t.row.number ≡ length (rows_of ts) + 1
  here = let long = rows_long ts in omega arith

  within-more : Within plan (selected_of plan (ts ++ t ∷ [])) (rows_of (ts ++ t ∷ []))
      (course_after plan show.Lines c t)
  within-more = ⊎_elim
      (λ (e : is_selected plan t ≡ true).
      let sel : selected_of plan (ts ++ t ∷ []) ≡ selected_of plan ts ++ t.row ∷ [] =
      ap rows_of (selected-true plan ts t e) ∙ rows-more (filter (is_selected plan) ts) t in
      let to : course_after plan show.Lines c t ≡ course_after_selected plan show.Lines c t.row =
      cond-true (is_selected plan t) _ _ e in
      subst (λ l. Within plan l (rows_of (ts ++ t ∷ [])) (course_after plan show.Lines c t)) (sym sel)
      (subst (λ l. Within plan (selected_of plan ts ++ t.row ∷ []) l (course_after plan show.Lines c t))
      (sym (rows-more ts t))
      (subst (λ d. Within plan (selected_of plan ts ++ t.row ∷ []) (rows_of ts ++ t.row ∷ []) d) (sym to)
      (within-selected plan (selected_of plan ts) (rows_of ts) c w numbered t.row here))))
      (λ (e : is_selected plan t ≡ false).
      let sel : selected_of plan (ts ++ t ∷ []) ≡ selected_of plan ts = ap rows_of (selected-false plan ts t e) in
      let to : course_after plan show.Lines c t ≡ course_after_passed plan show.Lines c t.row =
      cond-false (is_selected plan t) _ _ e in
      subst (λ l. Within plan l (rows_of (ts ++ t ∷ [])) (course_after plan show.Lines c t)) (sym sel)
      (subst (λ l. Within plan (selected_of plan ts) l (course_after plan show.Lines c t)) (sym (rows-more ts t))
      (subst (λ d. Within plan (selected_of plan ts) (rows_of ts ++ t.row ∷ []) d) (sym to)
      (within-passed plan (selected_of plan ts) (rows_of ts) c w numbered t.row here))))
      (cases_Bool (is_selected plan t))

  abbrev sel : List Row
  sel = selected_of plan ts

  sel-true : is_selected plan t ≡ true → selected_of plan (ts ++ t ∷ []) ≡ sel ++ t.row ∷ []
  sel-true e = ap rows_of (selected-true plan ts t e) ∙ rows-more (filter (is_selected plan) ts) t

  sel-false : is_selected plan t ≡ false → selected_of plan (ts ++ t ∷ []) ≡ sel
  sel-false e = ap rows_of (selected-false plan ts t e)

  lines-out : (name : List ℕ) (has_shown : Bool)
      → shown_out plan name show.Lines has_shown (scan_so_far (ts ++ t ∷ []))
      ≡ shown_out plan name show.Lines has_shown (scan_so_far ts) ++ row_out plan name show.Lines
      (has_shown || shows_group plan name show.Lines (scan_so_far ts)) c t
  lines-out name has_shown =
      let old = shown_out plan name show.Lines has_shown (scan_so_far ts) in
      let later = has_shown || shows_group plan name show.Lines (scan_so_far ts) in
      ⊎_elim
      (λ (e : is_selected plan t ≡ true).
      (λ i. lines_text plan name has_shown (shown_lines plan (sel-true e i) (rows-more ts t i)))
      ∙ selected-out plan name sel (rows_of ts) c w numbered has_shown t.row here
      ∙ ap (λ l. old ++ l)
      (sym (cond-true (is_selected plan t) (selected_out plan name show.Lines later c t)
      (passed_out plan name show.Lines c t) e)))
      (λ (e : is_selected plan t ≡ false).
      (λ i. lines_text plan name has_shown (shown_lines plan (sel-false e i) (rows-more ts t i)))
      ∙ passed-out plan name sel (rows_of ts) c w numbered has_shown t.row here
      ∙ ap (λ l. old ++ l)
      (sym (cond-false (is_selected plan t) (selected_out plan name show.Lines later c t)
      (passed_out plan name show.Lines c t) e)))
      (cases_Bool (is_selected plan t))

  lines-group : (name : List ℕ) → shows_group plan name show.Lines
      (scan_so_far (ts ++ t ∷ [])) ≡ (shows_group plan name show.Lines (scan_so_far ts)
      || (is_selected plan t && true))
  lines-group name =
      let old = shows_group plan name show.Lines (scan_so_far ts) in
      ⊎_elim
      (λ (e : is_selected plan t ≡ true).
      (λ i. nat_lt 0 (length (shown_lines plan (sel-true e i) (rows-more ts t i))))
      ∙ selected-group plan name sel (rows_of ts) c w numbered true t.row here
      ∙ sym (or_right old (is_selected plan t && true) (ap (λ b. b && true) e)))
      (λ (e : is_selected plan t ≡ false).
      (λ i. nat_lt 0 (length (shown_lines plan (sel-false e i) (rows-more ts t i))))
      ∙ passed-group plan name sel (rows_of ts) c w numbered true t.row here
      ∙ sym (or_none old (is_selected plan t && true) (ap (λ b. b && true) e)))
      (cases_Bool (is_selected plan t))

-- One more line.

count_selected : (plan : GrepPlan) (s : Show) (c : Course) (r : Row)
    → (course_after_selected plan s c r).selected ≡ c.selected + 1
count_selected plan show.Lines c r = refl
count_selected plan show.Parts c r = refl
count_selected plan show.Nothing c r = refl

count_passed : (plan : GrepPlan) (s : Show) (c : Course) (r : Row)
    → (course_after_passed plan s c r).selected ≡ c.selected
count_passed plan show.Lines c r = cond_both (nat_le r.number c.context_to) c _
    (λ (d : Course). d.selected ≡ c.selected) (λ e. refl) (λ e. refl)
count_passed plan show.Parts c r = refl
count_passed plan show.Nothing c r = refl

-- how the course stands after it
pub reached-more : (plan : GrepPlan) (s : Show) (ts : List Tried) (c : Course) (t : Tried)
    → Reached plan s ts c → AreNumbered 1 (rows_of ts) → t.row.number ≡ length ts + 1
    → Reached plan s (ts ++ t ∷ []) (course_after plan s c t)
reached-more plan s ts c t h numbered next = record {
  selected = ⊎_elim
      (λ (e : is_selected plan t ≡ true).
      ap (λ (d : Course). d.selected) (cond-true (is_selected plan t) (course_after_selected plan s c t.row)
      (course_after_passed plan s c t.row) e)
      ∙ count_selected plan s c t.row
      ∙ ap (λ n. n + 1) h.selected
      ∙ sym (ap length (selected-true plan ts t e) ∙ length-append (filter (is_selected plan) ts) (t ∷ [])))
      (λ (e : is_selected plan t ≡ false).
      ap (λ (d : Course). d.selected) (cond-false (is_selected plan t) (course_after_selected plan s c t.row)
      (course_after_passed plan s c t.row) e)
      ∙ count_passed plan s c t.row
      ∙ h.selected
      ∙ sym (ap length (selected-false plan ts t e)))
      (cases_Bool (is_selected plan t));
  lines = λ is. subst (λ d. Within plan (selected_of plan (ts ++ t ∷ [])) (rows_of (ts ++ t ∷ []))
      (course_after plan d c t)) (sym is) (within-more plan ts c t numbered next (h.lines is));
}

-- what is written of it
pub out-more : (plan : GrepPlan) (name : List ℕ) (s : Show) (ts : List Tried) (c : Course) (t : Tried)
    → Reached plan s ts c → AreNumbered 1 (rows_of ts) → t.row.number ≡ length ts + 1 → (has_shown : Bool)
    → shown_out plan name s has_shown (scan_so_far (ts ++ t ∷ []))
    ≡ shown_out plan name s has_shown (scan_so_far ts) ++ row_out plan name s
    (has_shown || shows_group plan name s (scan_so_far ts)) c t
out-more plan name show.Lines ts c t h numbered next has_shown =
    lines-out plan ts c t numbered next (h.lines refl) name has_shown
out-more plan name show.Parts ts c t h numbered next has_shown =
    let text = matches_text plan name in
    let all = filter (is_selected plan) ts in
    ⊎_elim
    (λ (e : is_selected plan t ≡ true).
    ap (λ l. flat_map text l) (selected-true plan ts t e)
    ∙ flat_map-append text all (t ∷ [])
    ∙ ap (λ l. flat_map text all ++ l) (append-nil (text t) ∙ sym (cond-true (is_selected plan t) (text t) [] e)))
    (λ (e : is_selected plan t ≡ false).
    ap (λ l. flat_map text l) (selected-false plan ts t e)
    ∙ sym (append-nil (flat_map text all))
    ∙ ap (λ l. flat_map text all ++ l) (sym (cond-false (is_selected plan t) (text t) [] e)))
    (cases_Bool (is_selected plan t))
out-more plan name show.Nothing ts c t h numbered next has_shown =
    cond_both (is_selected plan t) [] [] (λ (l : List ℕ). [] ≡ l) (λ e. refl) (λ e. refl)

-- whether a group was shown then
pub group-more : (plan : GrepPlan) (name : List ℕ) (s : Show) (ts : List Tried) (c : Course) (t : Tried)
    → Reached plan s ts c → AreNumbered 1 (rows_of ts) → t.row.number ≡ length ts + 1
    → shows_group plan name s (scan_so_far (ts ++ t ∷ []))
    ≡ (shows_group plan name s (scan_so_far ts) || (is_selected plan t && is_lines s))
group-more plan name show.Lines ts c t h numbered next = lines-group plan ts c t numbered next (h.lines refl) name
group-more plan name show.Parts ts c t h numbered next = sym (and_right (is_selected plan t) false refl)
group-more plan name show.Nothing ts c t h numbered next = sym (and_right (is_selected plan t) false refl)

-- After a selected line.

pub context-selected : (plan : GrepPlan) (ts : List Tried) (c : Course) (t : Tried)
    → Reached plan show.Lines (ts ++ t ∷ []) c → AreNumbered 1 (rows_of (ts ++ t ∷ [])) → is_selected plan t ≡ true
    → c.context_to ≡ t.row.number + plan.after_context
context-selected plan ts c t h numbered e =
    let w = h.lines refl in
    let reach = w.reach in
    let rows = rows-more ts t in
    let long : length (rows_of (ts ++ t ∷ [])) ≡ length (rows_of ts) + 1 = ap length rows
    ∙ length-append (rows_of ts) (t.row ∷ []) in
    let last = numbered-right 1 (rows_of ts) (t.row ∷ []) (subst (λ l. AreNumbered 1 l) rows numbered) in
    let at = last.0 in
    let far : Row = record t.row { number = t.row.number + plan.after_context } in
    let sel : selected_of plan (ts ++ t ∷ []) ≡ selected_of plan ts ++ t.row ∷ [] =
    ap rows_of (selected-true plan ts t e) ∙ rows-more (filter (is_selected plan) ts) t in
    let shows : is_shown plan (selected_of plan (ts ++ t ∷ [])) far ≡ true =
    ap (λ l. is_shown plan l far) sel
    ∙ shown-more plan (selected_of plan ts) t.row far
    ∙ or_right (is_shown plan (selected_of plan ts) far) _
    (near-is plan.after_context plan.before_context far t.row (omega arith) (omega arith)) in
    let within : far.number ≤ c.context_to = leb-true far.number c.context_to
    (sym (w.near far (omega arith) (omega arith)) ∙ shows) in
    omega arith

-- rows that follow as context and aren't tried
pub out-follow : (plan : GrepPlan) (name : List ℕ) (has_shown : Bool) (ts : List Tried) (c : Course) (t : Tried)
    (fs : List Row)
    → Reached plan show.Lines (ts ++ t ∷ []) c → is_selected plan t ≡ true
    → AreNumbered 1 (rows_of (ts ++ t ∷ []) ++ fs) → length fs ≤ plan.after_context
    → lines_text plan name has_shown (shown_lines plan (rows_of (filter (is_selected plan) (ts ++ t ∷ [])))
    (rows_of (ts ++ t ∷ []) ++ fs))
    ≡ lines_text plan name has_shown (shown_lines plan (rows_of (filter (is_selected plan) (ts ++ t ∷ [])))
    (rows_of (ts ++ t ∷ []))) ++ flat_map (line_as plan name false) fs
out-follow plan name has_shown ts c t [] h e numbered few =
    let all = rows_of (ts ++ t ∷ []) in
    let sel = selected_of plan (ts ++ t ∷ []) in
    ap (λ l. lines_text plan name has_shown (shown_lines plan sel l)) (append-nil all)
    ∙ sym (append-nil (lines_text plan name has_shown (shown_lines plan sel all)))
out-follow plan name has_shown ts c t (f ∷ fs) h e numbered few =
    let all = rows_of (ts ++ t ∷ []) in
    let are = numbered-left 1 all (f ∷ fs) numbered in
    let to = context-selected plan ts c t h are e in
    let rows = rows-more ts t in
    let long : length all ≡ length (rows_of ts) + 1 = ap length rows ∙ length-append (rows_of ts) (t.row ∷ []) in
    let last = numbered-right 1 (rows_of ts) (t.row ∷ []) (subst (λ l. AreNumbered 1 l) rows are) in
    let at = last.0 in
    context-out plan name (selected_of plan (ts ++ t ∷ [])) all c (h.lines refl) are has_shown (f ∷ fs) (omega arith)
    (numbered-at (1 + length all) (length all + 1) (f ∷ fs) (omega arith) (numbered-right 1 all (f ∷ fs) numbered))
    (omega arith)
