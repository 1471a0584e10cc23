-- What is written of the lines so far is the first part of what is written of the whole input.
use Rattle.std.proofs.Common.{◌≡◌, ℕ, ◌+◌, ◌<◌, ◌≤◌, ◌||◌, Bool, true, false, List, [], ◌∷◌, ◌++◌, length, take}
use Rattle.std.proofs.Common.{Option, Some, None, Ok, Err, refl, sym, ap, subst, ◌∙◌, ⊎_elim, ◌⊎◌, inl, inr, arith}
use Rattle.std.proofs.Common.{append_assoc, append-nil, length-take}
use Rattle.std.specs.Prelude.{filter, flat_map}
use Rattle.std.proofs.lemmas.Bool.{cases_Bool, cases_lt, false≢true}
use Rattle.std.proofs.lemmas.List.{map-append, length-map}
use Rattle.std.proofs.lemmas.List.Concat.{flat_map-append}
use Rattle.line_feed.specs.Rows.{Row, Finish}
use Rattle.grep_args.specs.declared.plan.GrepPlan.{GrepPlan}
use Rattle.grep_output.specs.declared.shows.Show.{Show}
use Rattle.grep_output.specs.declared.shows.Show.TheVariants as show
use Rattle.grep_output.specs.Shows.{lines_after}
use Rattle.grep_match.specs.Matches.{Matches, Tried, is_selected, has_error, selects}
use Rattle.grep_output.specs.Scans.{Scan, IsBelow, whole_scan, early_scan, broken_scan, rows_of}
use Rattle.grep_output.specs.Context.{shown_lines}
use Rattle.grep_output.specs.Texts.{lines_text, matches_text}
use Rattle.grep_output.specs.InputText.{shown_out, shows_group}
use Rattle.grep_output.specs.Messages.{error_message}
use Rattle.grep_output.specs.Course.{Course, row_out, course_after, line_as, AreNumbered, scan_so_far}
use Rattle.grep_output.proofs.ReachRows.{numbered-left, numbered-right, numbered-take}
use Rattle.grep_output.proofs.Reached.{Reached, reached-more, out-more, out-follow, out-broken}
use Rattle.grep_output.proofs.ScanEnds.{count, count-more, count-one, count-none, scanned, scan-whole, scan-early}
use Rattle.grep_output.proofs.ScanEnds.{scan-broken, early-tried, early-within, broken-within}

selects-error : (invert : Bool) (m : Matches) → elim m [ Ok os ↦ false | Err e ↦ true ] ≡ true
    → selects invert m ≡ false
selects-error invert (Ok os) e = absurd (false≢true e)
selects-error invert (Err n) e = refl

-- a line with a match error isn't selected
pub error-unselected : (plan : GrepPlan) (t : Tried) → has_error t ≡ true → is_selected plan t ≡ false
error-unselected plan t e = selects-error plan.invert_match t.matches e

-- what is written of rows that follow as context
abbrev pub follow_out : GrepPlan → List ℕ → Show → List Row → List ℕ
follow_out plan name show.Lines fs = flat_map (line_as plan name false) fs
follow_out plan name _ fs = []

-- a scan begins with these lines, and what is shown of it so
pub record TextsBegin (plan : GrepPlan) (name : List ℕ) (shows : Show) (hs : Bool) (s : Scan) (out : List ℕ)
    (us : List Tried) : Type 0 where
  pub rest_out : List ℕ
  pub rest : List Tried
  pub out_is : shown_out plan name shows hs s ≡ out ++ rest_out
  pub tried_is : s.tried ≡ us ++ rest

-- what is said of one more line
pub said-more : (name : List ℕ) (us : List Tried) (t : Tried)
    → flat_map (error_message name) (us ++ t ∷ []) ≡ flat_map (error_message name) us ++ error_message name t
said-more name us t = flat_map-append (error_message name) us (t ∷ [])
    ∙ ap (λ l. flat_map (error_message name) us ++ l) (append-nil (error_message name t))

-- the number of a line
pub number-of : (us : List Tried) (t : Tried) (vs : List Tried) → AreNumbered 1 (rows_of (us ++ t ∷ vs))
    → t.row.number ≡ length us + 1
number-of us t vs numbered =
    let all : rows_of (us ++ t ∷ vs) ≡ rows_of us ++ t.row ∷ rows_of vs =
    map-append (λ (x : Tried). x.row) us (t ∷ vs) in
    let right = numbered-right 1 (rows_of us) (t.row ∷ rows_of vs) (subst (λ l. AreNumbered 1 l) all numbered) in
    let here = right.0 in
    let long = length-map us (λ (x : Tried). x.row) in
    omega arith

pub numbered-first : (us vs : List Tried) → AreNumbered 1 (rows_of (us ++ vs)) → AreNumbered 1 (rows_of us)
numbered-first us vs numbered = numbered-left 1 (rows_of us) (rows_of vs)
    (subst (λ l. AreNumbered 1 l) (map-append (λ (x : Tried). x.row) us vs) numbered)

module _ (plan : GrepPlan) (shows : Show) (left : ℕ) (most : Option ℕ) where
  -- no line so far ends the scan
  pub record Goes (us : List Tried) (c : Course) : Type 0 where
    pub reached : Reached plan shows us c
    pub few : count has_error us < left
    pub below : IsBelow most (count (is_selected plan) us)

  -- the next line has the last match error
  pub record LastError (us : List Tried) (t : Tried) : Type 0 where
    pub error : has_error t ≡ true
    pub left_is : count has_error us + 1 ≡ left

  -- the next line is the last one that may be selected
  pub record LastSelected (us : List Tried) (t : Tried) : Type 0 where
    pub few : count has_error (us ++ t ∷ []) < left
    pub most_is : most ≡ Some (count (is_selected plan) us + 1)
    pub selected : is_selected plan t ≡ true

  -- it doesn't end the scan
  pub record GoesOn (us : List Tried) (t : Tried) : Type 0 where
    pub few : count has_error (us ++ t ∷ []) < left
    pub below : IsBelow most (count (is_selected plan) (us ++ t ∷ []))

  pub goes-on : (us : List Tried) (c : Course) (t : Tried) → Goes us c → AreNumbered 1 (rows_of (us ++ t ∷ []))
      → GoesOn us t → Goes (us ++ t ∷ []) (course_after plan shows c t)
  goes-on us c t goes numbered on = record {
    reached = reached-more plan shows us c t goes.reached (numbered-first us (t ∷ []) numbered)
        (number-of us t [] numbered);
    few = on.few;
    below = on.below;
  }

-- a line that isn't selected
pub still-below : (plan : GrepPlan) (most : Option ℕ) (us : List Tried) (t : Tried) → is_selected plan t ≡ false
    → IsBelow most (count (is_selected plan) us) → IsBelow most (count (is_selected plan) (us ++ t ∷ []))
still-below plan most us t e below =
    let sel = is_selected plan in
    let same : count sel (us ++ t ∷ []) ≡ count sel us = count-more sel us t
    ∙ ap (λ n. count sel us + n) (count-none sel t e)
    ∙ (let h : count sel us + 0 ≡ count sel us = omega arith in h) in
    subst (λ n. IsBelow most n) (sym same) below

selected-below : (plan : GrepPlan) (left : ℕ) (most : Option ℕ) (us : List Tried) (t : Tried)
    → is_selected plan t ≡ true → IsBelow most (count (is_selected plan) us) → count has_error (us ++ t ∷ []) < left
    → LastSelected plan show.Nothing left most us t ⊎ GoesOn plan show.Nothing left most us t
selected-below plan left None us t e below few = inr (record { few = few; below = tt })
selected-below plan left (Some m) us t e below few =
    let sel = is_selected plan in
    let one : count sel (us ++ t ∷ []) ≡ count sel us + 1 = count-more sel us t
    ∙ ap (λ n. count sel us + n) (count-one sel t e) in
    ⊎_elim
    (λ (l : count sel us + 1 < m). inr (record { few = few; below = subst (λ n. n < m) (sym one) l }))
    (λ (l : m ≤ count sel us + 1). let is : m ≡ count sel us + 1 = omega arith in
    inl (record { few = few; most_is = ap Some is; selected = e }))
    (cases_lt (count sel us + 1) m)

-- what the next line does
pub next-step : (plan : GrepPlan) (shows : Show) (left : ℕ) (most : Option ℕ) (us : List Tried) (c : Course)
    (t : Tried) → Goes plan shows left most us c
    → LastError plan shows left most us t ⊎ (LastSelected plan shows left most us t ⊎ GoesOn plan shows left most us t)
next-step plan shows left most us c t goes =
    let err = has_error in
    ⊎_elim
    (λ (e : err t ≡ true).
    let one : count err (us ++ t ∷ []) ≡ count err us + 1 = count-more err us t
    ∙ ap (λ n. count err us + n) (count-one err t e) in
    ⊎_elim
    (λ (l : count err us + 1 < left). inr
    (inr (record {
      few = subst (λ n. n < left) (sym one) l;
      below = still-below plan most us t (error-unselected plan t e) goes.below;
    })))
    (λ (l : left ≤ count err us + 1). let few = goes.few in inl (record { error = e; left_is = omega arith }))
    (cases_lt (count err us + 1) left))
    (λ (e : err t ≡ false).
    let same : count err (us ++ t ∷ []) ≡ count err us = count-more err us t
    ∙ ap (λ n. count err us + n) (count-none err t e)
    ∙ (let h : count err us + 0 ≡ count err us = omega arith in h) in
    let few : count err (us ++ t ∷ []) < left = subst (λ n. n < left) (sym same) goes.few in
    ⊎_elim
    (λ (s : is_selected plan t ≡ true).
    ⊎_elim
    (λ (l : LastSelected plan show.Nothing left most us t). inr
    (inl (record { few = l.few; most_is = l.most_is; selected = l.selected })))
    (λ (g : GoesOn plan show.Nothing left most us t). inr (inr (record { few = g.few; below = g.below })))
    (selected-below plan left most us t s goes.below few))
    (λ (s : is_selected plan t ≡ false). inr
    (inr (record { few = few; below = still-below plan most us t s goes.below })))
    (cases_Bool (is_selected plan t)))
    (cases_Bool (err t))

module _ (plan : GrepPlan) (name : List ℕ) (shows : Show) (hs : Bool) (left : ℕ) (most : Option ℕ)
    (finish : Finish) where
  -- the scan of these lines
  abbrev pub full : List Tried → Scan
  full ts = scanned (is_selected plan) has_error left most finish (lines_after shows plan.after_context) ts

  -- what is written of the lines so far
  abbrev pub so_far : List Tried → List ℕ
  so_far ts = shown_out plan name shows hs (scan_so_far ts)

  abbrev pub next_out : List Tried → Course → Tried → List ℕ
  next_out us c t = row_out plan name shows (hs || shows_group plan name shows (scan_so_far us)) c t

  -- where the lines end
  pub whole-is : (ts : List Tried) (c : Course) → Goes plan shows left most ts c → full ts ≡ whole_scan ts finish
  whole-is ts c goes = scan-whole (is_selected plan) has_error left most finish (lines_after shows plan.after_context)
      ts goes.few goes.below

  pub broken-is : (us : List Tried) (t : Tried) (vs : List Tried) (c : Course) → Goes plan shows left most us c
      → LastError plan shows left most us t
      → full (us ++ t ∷ vs) ≡ broken_scan (us ++ t ∷ vs) (length us)
  broken-is us t vs c goes last =
      scan-broken (is_selected plan) has_error left most finish (lines_after shows plan.after_context) us t vs
      last.left_is last.error (error-unselected plan t last.error) goes.below

  pub early-is : (us : List Tried) (t : Tried) (vs : List Tried) → LastSelected plan shows left most us t
      → full (us ++ t ∷ vs) ≡ early_scan (us ++ t ∷ vs) finish (length us) (lines_after shows plan.after_context)
  early-is us t vs last = scan-early (is_selected plan) has_error left most finish
      (lines_after shows plan.after_context) us t vs last.few last.most_is last.selected

-- how the lines end isn't shown
pub whole-out : (plan : GrepPlan) (name : List ℕ) (shows : Show) (hs : Bool) (us : List Tried) (finish : Finish)
    → shown_out plan name shows hs (whole_scan us finish) ≡ shown_out plan name shows hs (scan_so_far us)
whole-out plan name show.Lines hs us finish = refl
whole-out plan name show.Parts hs us finish = refl
whole-out plan name show.Nothing hs us finish = refl

-- what is written of a scan that is broken off
pub broken_out : (plan : GrepPlan) (name : List ℕ) (shows : Show) (hs : Bool) (us : List Tried) (t : Tried)
    (vs : List Tried) → has_error t ≡ true
    → shown_out plan name shows hs (broken_scan (us ++ t ∷ vs) (length us)) ≡ shown_out plan name shows hs
    (scan_so_far us)
broken_out plan name show.Lines hs us t vs e =
    (λ i. lines_text plan name hs (shown_lines plan (rows_of (filter (is_selected plan) (early-tried us t vs i)))
    (broken-within us t vs i)))
    ∙ ap (λ l. lines_text plan name hs (shown_lines plan (rows_of l) (rows_of us))) (out-broken plan us t e)
broken_out plan name show.Parts hs us t vs e =
    ap (λ l. flat_map (matches_text plan name) (filter (is_selected plan) l)) (early-tried us t vs)
    ∙ ap (λ l. flat_map (matches_text plan name) l) (out-broken plan us t e)
broken_out plan name show.Nothing hs us t vs e = refl

-- what is written of a scan that ends early
pub early_out : (plan : GrepPlan) (name : List ℕ) (shows : Show) (hs : Bool) (finish : Finish) (us : List Tried)
    (c : Course) (t : Tried) (vs : List Tried)
    → Reached plan shows (us ++ t ∷ []) c → is_selected plan t ≡ true → AreNumbered 1 (rows_of (us ++ t ∷ vs))
    → shown_out plan name shows hs (early_scan (us ++ t ∷ vs) finish (length us) (lines_after shows plan.after_context))
    ≡ shown_out plan name shows hs (scan_so_far (us ++ t ∷ [])) ++ follow_out plan name shows
    (take (lines_after shows plan.after_context) (rows_of vs))
early_out plan name show.Lines hs finish us c t vs reached e numbered =
    let n = plan.after_context in
    (λ i. lines_text plan name hs (shown_lines plan (rows_of (filter (is_selected plan) (early-tried us t vs i)))
    (early-within us t vs n i)))
    ∙ out-follow plan name hs us c t (take n (rows_of vs)) reached e
    (subst (λ l. AreNumbered 1 l) (early-within us t vs n)
    (numbered-take (length us + 1 + n) 1 (rows_of (us ++ t ∷ vs)) numbered))
    (let short = length-take n (rows_of vs) in omega arith)
early_out plan name show.Parts hs finish us c t vs reached e numbered =
    ap (λ l. flat_map (matches_text plan name) (filter (is_selected plan) l)) (early-tried us t vs)
    ∙ sym (append-nil (flat_map (matches_text plan name) (filter (is_selected plan) (us ++ t ∷ []))))
early_out plan name show.Nothing hs finish us c t vs reached e numbered = refl

module _ (plan : GrepPlan) (name : List ℕ) (shows : Show) (hs : Bool) (left : ℕ) (most : Option ℕ)
    (finish : Finish) where
  abbrev all_of : List Tried → Scan
  all_of ts = full plan name shows hs left most finish ts

  abbrev out_of : List Tried → List ℕ
  out_of ts = so_far plan name shows hs left most finish ts

  -- the next line has the last match error
  pub row-broken : (us : List Tried) (c : Course) (t : Tried) (vs : List Tried) → Goes plan shows left most us c
      → LastError plan shows left most us t
      → TextsBegin plan name shows hs (all_of (us ++ t ∷ vs)) (out_of us) (us ++ t ∷ [])
  row-broken us c t vs goes last =
      let is = broken-is plan name shows hs left most finish us t vs c goes last in record {
        rest_out = [];
        rest = [];
        out_is = ap (λ s. shown_out plan name shows hs s) is ∙ broken_out plan name shows hs us t vs last.error
            ∙ sym (append-nil (out_of us));
        tried_is = ap (λ s. s.tried) is ∙ early-tried us t vs ∙ sym (append-nil (us ++ t ∷ []));
      }

  out-of-more : (us : List Tried) (c : Course) (t : Tried) → Goes plan shows left most us c
      → AreNumbered 1 (rows_of (us ++ t ∷ []))
      → out_of (us ++ t ∷ []) ≡ out_of us ++ next_out plan name shows hs left most finish us c t
  out-of-more us c t goes numbered = out-more plan name shows us c t goes.reached
      (numbered-first us (t ∷ []) numbered) (number-of us t [] numbered) hs

  numbered-more : (us : List Tried) (t : Tried) (vs : List Tried) → AreNumbered 1 (rows_of (us ++ t ∷ vs))
      → AreNumbered 1 (rows_of (us ++ t ∷ []))
  numbered-more us t vs numbered = numbered-first (us ++ t ∷ []) vs
      (subst (λ l. AreNumbered 1 (rows_of l)) (sym (append_assoc us (t ∷ []) vs)) numbered)

  -- where a line is the last one that is selected
  pub early-out : (us : List Tried) (c : Course) (t : Tried) (vs : List Tried) → Reached plan shows (us ++ t ∷ []) c
      → LastSelected plan shows left most us t → AreNumbered 1 (rows_of (us ++ t ∷ vs))
      → shown_out plan name shows hs (all_of (us ++ t ∷ vs)) ≡ out_of (us ++ t ∷ []) ++ follow_out plan name shows
      (take (lines_after shows plan.after_context) (rows_of vs))
  early-out us c t vs reached last numbered =
      ap (λ s. shown_out plan name shows hs s) (early-is plan name shows hs left most finish us t vs last)
      ∙ early_out plan name shows hs finish us c t vs reached last.selected numbered

  early-lines : (us : List Tried) (t : Tried) (vs : List Tried) → LastSelected plan shows left most us t
      → (all_of (us ++ t ∷ vs)).tried ≡ us ++ t ∷ []
  early-lines us t vs last = ap (λ s. s.tried) (early-is plan name shows hs left most finish us t vs last)
      ∙ early-tried us t vs

  row-early : (us : List Tried) (c : Course) (t : Tried) (vs : List Tried) → Goes plan shows left most us c
      → LastSelected plan shows left most us t → AreNumbered 1 (rows_of (us ++ t ∷ vs))
      → TextsBegin plan name shows hs (all_of (us ++ t ∷ vs))
      (out_of us ++ next_out plan name shows hs left most finish us c t) (us ++ t ∷ [])
  row-early us c t vs goes last numbered =
      let one = numbered-more us t vs numbered in
      let reached = reached-more plan shows us c t goes.reached (numbered-first us (t ∷ []) one)
      (number-of us t [] one) in
      let follow = follow_out plan name shows (take (lines_after shows plan.after_context) (rows_of vs)) in record {
        rest_out = follow;
        rest = [];
        out_is = early-out us (course_after plan shows c t) t vs reached last numbered
            ∙ ap (λ l. l ++ follow) (out-of-more us c t goes one);
        tried_is = early-lines us t vs last ∙ sym (append-nil (us ++ t ∷ []));
      }

  row-goes : (us : List Tried) (c : Course) (t : Tried) (vs : List Tried) → Goes plan shows left most us c
      → AreNumbered 1 (rows_of (us ++ t ∷ vs))
      → TextsBegin plan name shows hs (all_of ((us ++ t ∷ []) ++ vs)) (out_of (us ++ t ∷ [])) (us ++ t ∷ [])
      → TextsBegin plan name shows hs (all_of (us ++ t ∷ vs))
      (out_of us ++ next_out plan name shows hs left most finish us c t) (us ++ t ∷ [])
  row-goes us c t vs goes numbered ext =
      let same = append_assoc us (t ∷ []) vs in record {
        rest_out = ext.rest_out;
        rest = ext.rest;
        out_is = ap (λ l. shown_out plan name shows hs (all_of l)) (sym same) ∙ ext.out_is
            ∙ ap (λ l. l ++ ext.rest_out) (out-of-more us c t goes (numbered-more us t vs numbered));
        tried_is = ap (λ l. (all_of l).tried) (sym same) ∙ ext.tried_is;
      }

  shorter : (s : Scan) (out more : List ℕ) (us : List Tried) (t : Tried)
      → TextsBegin plan name shows hs s (out ++ more) (us ++ t ∷ []) → TextsBegin plan name shows hs s out us
  shorter s out more us t ext = record {
    rest_out = more ++ ext.rest_out;
    rest = t ∷ ext.rest;
    out_is = ext.out_is ∙ append_assoc out more ext.rest_out;
    tried_is = ext.tried_is ∙ append_assoc us (t ∷ []) ext.rest;
  }

  barely : (s : Scan) (out : List ℕ) (us : List Tried) (t : Tried)
      → TextsBegin plan name shows hs s out (us ++ t ∷ []) → TextsBegin plan name shows hs s out us
  barely s out us t ext = record {
    rest_out = ext.rest_out;
    rest = t ∷ ext.rest;
    out_is = ext.out_is;
    tried_is = ext.tried_is ∙ append_assoc us (t ∷ []) ext.rest;
  }

  numbered-moved : (us : List Tried) (t : Tried) (vs : List Tried) → AreNumbered 1 (rows_of (us ++ t ∷ vs))
      → AreNumbered 1 (rows_of ((us ++ t ∷ []) ++ vs))
  numbered-moved us t vs numbered = subst (λ l. AreNumbered 1 (rows_of l)) (sym (append_assoc us (t ∷ []) vs)) numbered

  -- whatever lines follow
  pub extends : (vs us : List Tried) (c : Course) → Goes plan shows left most us c
      → AreNumbered 1 (rows_of (us ++ vs)) → TextsBegin plan name shows hs (all_of (us ++ vs)) (out_of us) us
  extends [] us c goes numbered =
      let is = ap (λ l. all_of l) (append-nil us) ∙ whole-is plan name shows hs left most finish us c goes in record {
        rest_out = [];
        rest = [];
        out_is = ap (λ s. shown_out plan name shows hs s) is ∙ whole-out plan name shows hs us finish
            ∙ sym (append-nil (out_of us));
        tried_is = ap (λ s. s.tried) is ∙ sym (append-nil us);
      }
  extends (t ∷ vs) us c goes numbered =
      let next = next_out plan name shows hs left most finish us c t in
      let all = all_of (us ++ t ∷ vs) in
      ⊎_elim
      (λ (last : LastError plan shows left most us t). barely all (out_of us) us t (row-broken us c t vs goes last))
      (λ (other : LastSelected plan shows left most us t ⊎ GoesOn plan shows left most us t).
      ⊎_elim
      (λ (last : LastSelected plan shows left most us t). shorter all (out_of us) next us t
      (row-early us c t vs goes last numbered))
      (λ (on : GoesOn plan shows left most us t).
      shorter all (out_of us) next us t
      (row-goes us c t vs goes numbered (extends vs (us ++ t ∷ []) (course_after plan shows c t)
      (goes-on plan shows left most us c t goes (numbered-more us t vs numbered) on)
      (numbered-moved us t vs numbered))))
      other)
      (next-step plan shows left most us c t goes)

  -- a line more that hasn't the last match error
  pub row-extends : (us : List Tried) (c : Course) (t : Tried) (vs : List Tried) → Goes plan shows left most us c
      → count has_error (us ++ t ∷ []) < left → AreNumbered 1 (rows_of (us ++ t ∷ vs))
      → TextsBegin plan name shows hs (all_of (us ++ t ∷ vs))
      (out_of us ++ next_out plan name shows hs left most finish us c t) (us ++ t ∷ [])
  row-extends us c t vs goes few numbered = ⊎_elim
      (λ (last : LastError plan shows left most us t).
      let one : count has_error (us ++ t ∷ []) ≡ count has_error us + 1 = count-more has_error us t
      ∙ ap (λ n. count has_error us + n) (count-one has_error t last.error) in
      let is = last.left_is in
      absurd (omega arith))
      (λ (other : LastSelected plan shows left most us t ⊎ GoesOn plan shows left most us t).
      ⊎_elim
      (λ (last : LastSelected plan shows left most us t). row-early us c t vs goes last numbered)
      (λ (on : GoesOn plan shows left most us t).
      row-goes us c t vs goes numbered (extends vs (us ++ t ∷ []) (course_after plan shows c t)
      (goes-on plan shows left most us c t goes (numbered-more us t vs numbered) on)
      (numbered-moved us t vs numbered)))
      other)
      (next-step plan shows left most us c t goes)
