-- Where the first selected line decides what is told of an input, its scan ends at that line.
use Rattle.std.proofs.Common.{◌≡◌, ◌≢◌, ℕ, zero, suc, ◌+◌, ◌<◌, ◌≤◌, ◌⊎◌, Bool, true, false, List, [], ◌∷◌, ◌++◌}
use Rattle.std.proofs.Common.{length, Some, refl, sym, ap, subst, ◌∙◌, inl, inr, ⊎_elim, arith, append_assoc}
use Rattle.std.proofs.Common.{append-nil, length-append}
use Rattle.std.specs.Prelude.{filter, nat_lt, nat_le}
use Rattle.std.proofs.lemmas.Bool.{cond-true, le-leb}
use Rattle.std.proofs.lemmas.List.{map-append}
use Rattle.std.proofs.lemmas.List.Elements.{filter-append}
use Rattle.std.proofs.lemmas.List.Sums.{sum_by-append}
use Rattle.line_feed.specs.Rows.{Row, Finish}
use Rattle.grep_args.specs.declared.plan.GrepPlan.{GrepPlan}
use Rattle.grep_output.specs.declared.shows.Show.TheVariants as show
use Rattle.grep_match.specs.declared.modes.Mode.{Mode}
use Rattle.grep_match.specs.declared.modes.Mode.TheVariants as mode_of
use Rattle.grep_match.specs.Matches.{Tried, is_selected}
use Rattle.grep_match.specs.Modes.{mode}
use Rattle.tool_io.specs.Texts.{line, text_if}
use Rattle.grep_output.specs.Shows.{show_in, most_selected}
use Rattle.grep_output.specs.Scans as meant
use Rattle.grep_output.specs.Scans.{Scan, rows_of, selected_in, at_finish, early, too_many_errors}
use Rattle.grep_output.specs.InputText.{out_text, shown_out, end_out, binary_text}
use Rattle.grep_output.specs.Course.{Course, course_after, AreNumbered}
use Rattle.grep_output.specs.LittlePast.{bytes_in}
use Rattle.grep_output.specs.Refused.{needs_all}
use Rattle.grep_output.proofs.ScanEnds.{count, count-more, count-one, early-within}
use Rattle.grep_output.proofs.Extends.{Goes, LastError, LastSelected, GoesOn, full, next-step, goes-on, whole-is}
use Rattle.grep_output.proofs.Extends.{broken-is, early-is, numbered-first}

-- what is told after the lines: nothing, or a text where a line is selected, which is then the last one
abbrev pub TellsNothing : GrepPlan → List ℕ → Bool → Mode → Type 0
TellsNothing plan name told md = (k : ℕ) → end_out plan name md told k ≡ []

pub record TellsOnce (plan : GrepPlan) (name : List ℕ) (told : Bool) (md : Mode) : Type 0 where
  pub shows_is : show.Nothing ≡ show_in told md
  pub most_is : Some 1 ≡ most_selected told md plan.max_count
  pub text : List ℕ
  pub tells : (k : ℕ) → end_out plan name md told k ≡ text_if (nat_lt 0 k) text

pub tells-of : (plan : GrepPlan) (name : List ℕ) (told : Bool) (md : Mode) → needs_all md ≡ false
    → TellsNothing plan name told md ⊎ TellsOnce plan name told md
tells-of plan name true md e = inr (record {
  shows_is = refl;
  most_is = refl;
  text = binary_text plan name;
  tells = λ k. refl;
})
tells-of plan name false mode_of.Nothing e = inl (λ k. refl)
tells-of plan name false mode_of.NamesWithout e = absurd (cc)
tells-of plan name false mode_of.Counts e = absurd (cc)
tells-of plan name false mode_of.NamesWith e =
    inr (record { shows_is = refl; most_is = refl; text = line name; tells = λ k. refl })
tells-of plan name false mode_of.Total e = inl (λ k. refl)
tells-of plan name false mode_of.Parts e = inl (λ k. refl)
tells-of plan name false mode_of.WholeLines e = inl (λ k. refl)

some-of : (k n : ℕ) (b : Bool) (text : List ℕ) → b ≡ nat_lt 0 k → n < length (text_if b text) → 0 < k
some-of zero n true text e long = absurd (cc)
some-of (suc k) n true text e long = omega arith
some-of k n false text e long = let none : n < 0 = long in absurd (omega arith)

module _ (plan : GrepPlan) (name : List ℕ) (told hs : Bool) (x : Scan) where
  abbrev shown : List ℕ
  shown = shown_out plan name (show_in told (mode plan)) hs x

  abbrev tells : List ℕ
  tells = end_out plan name (mode plan) told (length (selected_in plan x))

  -- no more than the lines
  pub only-shown : (ended : meant.Ended) → TellsNothing plan name told (mode plan)
      → length (out_text plan name told hs x ended) ≤ length shown
  only-shown (at_finish finish) nothing =
      let same = ap length (ap (λ l. shown ++ l) (nothing (length (selected_in plan x))) ∙ append-nil shown) in
      omega arith
  only-shown early nothing =
      let same = ap length (ap (λ l. shown ++ l) (nothing (length (selected_in plan x))) ∙ append-nil shown) in
      omega arith
  only-shown too_many_errors nothing = omega arith

  -- something is written only where a line is selected, and not after too many match errors
  abbrev pub Decides : meant.Ended → Type 0
  Decides ended = (ended ≢ too_many_errors) × (0 < length (selected_in plan x))

  none-shown : show.Nothing ≡ show_in told (mode plan) → shown ≡ []
  none-shown is = ap (λ s. shown_out plan name s hs x) (sym is)

  told-once : TellsOnce plan name told (mode plan) → (n : ℕ) → n < length (shown ++ tells)
      → 0 < length (selected_in plan x)
  told-once once n long =
      let same : shown ++ tells ≡ text_if (nat_lt 0 (length (selected_in plan x))) once.text =
      ap (λ l. l ++ tells) (none-shown once.shows_is) ∙ once.tells (length (selected_in plan x)) in
      some-of (length (selected_in plan x)) n (nat_lt 0 (length (selected_in plan x))) once.text refl
      (subst (λ l. n < length l) same long)

  pub decides : TellsOnce plan name told (mode plan) → (ended : meant.Ended) (n : ℕ)
      → n < length (out_text plan name told hs x ended) → Decides ended
  decides once (at_finish finish) n long = (finish-many finish, told-once once n long)
    where
      finish-many : (f : Finish) → at_finish f ≢ too_many_errors
      finish-many f e = cc
  decides once early n long = (early-many, told-once once n long)
    where
      early-many : early ≢ too_many_errors
      early-many e = cc
  decides once too_many_errors n long = let none = subst (λ l. n < length l) (none-shown once.shows_is) long in
      absurd (omega arith)

module _ (plan : GrepPlan) (name : List ℕ) (hs : Bool) (left : ℕ) where
  abbrev sel : Tried → Bool
  sel = is_selected plan

  abbrev scan_at : Finish → List Tried → Scan
  scan_at finish ts = full plan name show.Nothing hs left (Some 1) finish ts

  -- a scan ends at one of these lines
  pub record EndsIn (ts : List Tried) (x : Scan) : Type 0 where
    pub ended : x.ended ≡ early
    pub within : bytes_in x.within ≤ bytes_in (rows_of ts)
    pub some : 0 < count sel ts

  bytes-more : (us vs : List Tried) → bytes_in (rows_of (us ++ vs)) ≡ bytes_in (rows_of us) + bytes_in (rows_of vs)
  bytes-more us vs = ap bytes_in (map-append (λ (x : Tried). x.row) us vs)
      ∙ sum_by-append (λ (r : Row). length r.bytes + length r.newline) (rows_of us) (rows_of vs)

  ends-here : (later : Finish) (us : List Tried) (t : Tried) (vs ws : List Tried)
      → LastSelected plan show.Nothing left (Some 1) us t
      → EndsIn (us ++ t ∷ vs) (scan_at later (us ++ t ∷ (vs ++ ws)))
  ends-here later us t vs ws last =
      let xs = vs ++ ws in
      let is = early-is plan name show.Nothing hs left (Some 1) later us t xs last in
      let long = length-append us (t ∷ xs) in
      let enough : length us + 1 + 0 ≤ length (us ++ t ∷ xs) = omega arith in
      let rows = ap (λ (x : Scan). bytes_in x.within) is
      ∙ ap bytes_in (early-within us t xs 0 ∙ append-nil (rows_of (us ++ t ∷ []))) in
      let moved = ap (λ l. bytes_in (rows_of l)) (append_assoc us (t ∷ []) vs) in
      let bytes = bytes-more (us ++ t ∷ []) vs in
      let counts = ap (λ l. count sel l) (append_assoc us (t ∷ []) vs) in
      let parts : count sel ((us ++ t ∷ []) ++ vs) ≡ count sel (us ++ t ∷ []) + count sel vs =
      ap length (filter-append sel (us ++ t ∷ []) vs)
      ∙ length-append (filter sel (us ++ t ∷ [])) (filter sel vs) in
      let more = count-more sel us t in
      let one = count-one sel t last.selected in
      record {
        ended = ap (λ (x : Scan). x.ended) is ∙ cond-true (nat_le (length us + 1 + 0) (length (us ++ t ∷ xs))) early
            (at_finish later) (le-leb (length us + 1 + 0) (length (us ++ t ∷ xs)) enough);
        within = omega arith;
        some = omega arith;
      }

  -- lines of which one is selected, and that have not too many match errors, end the scan of more lines
  pub ends-in : (vs us : List Tried) (c : Course) (ws : List Tried) (finish later : Finish)
      → Goes plan show.Nothing left (Some 1) us c → AreNumbered 1 (rows_of (us ++ (vs ++ ws)))
      → (scan_at finish (us ++ vs)).ended ≢ too_many_errors
      → 0 < length (selected_in plan (scan_at finish (us ++ vs)))
      → EndsIn (us ++ vs) (scan_at later (us ++ (vs ++ ws)))
  ends-in [] us c ws finish later goes numbered other some =
      let same : length (selected_in plan (scan_at finish (us ++ []))) ≡ count sel us =
      ap (λ l. length (selected_in plan (scan_at finish l))) (append-nil us)
      ∙ ap (λ (x : Scan). length (selected_in plan x))
      (whole-is plan name show.Nothing hs left (Some 1) finish us c goes) in
      let below = goes.below in
      absurd (omega arith)
  ends-in (t ∷ vs) us c ws finish later goes numbered other some =
      let one = numbered-first (us ++ t ∷ []) (vs ++ ws)
      (subst (λ l. AreNumbered 1 (rows_of l)) (sym (append_assoc us (t ∷ []) (vs ++ ws))) numbered) in
      ⊎_elim
      (λ (last : LastError plan show.Nothing left (Some 1) us t). absurd
      (other (ap (λ (x : Scan). x.ended) (broken-is plan name show.Nothing hs left (Some 1) finish us t vs c
      goes last))))
      (λ (next : LastSelected plan show.Nothing left (Some 1) us t ⊎ GoesOn plan show.Nothing left (Some 1) us t).
      ⊎_elim
      (λ (last : LastSelected plan show.Nothing left (Some 1) us t). ends-here later us t vs ws last)
      (λ (on : GoesOn plan show.Nothing left (Some 1) us t).
      let first = append_assoc us (t ∷ []) vs in
      let all = append_assoc us (t ∷ []) (vs ++ ws) in
      let rest = ends-in vs (us ++ t ∷ []) (course_after plan show.Nothing c t) ws finish later
      (goes-on plan show.Nothing left (Some 1) us c t goes one on)
      (subst (λ l. AreNumbered 1 (rows_of l)) (sym all) numbered)
      (subst (λ l. (scan_at finish l).ended ≢ too_many_errors) (sym first) other)
      (subst (λ l. 0 < length (selected_in plan (scan_at finish l))) (sym first) some) in
      subst (λ l. EndsIn l (scan_at later (us ++ t ∷ (vs ++ ws)))) first
      (subst (λ l. EndsIn ((us ++ t ∷ []) ++ vs) (scan_at later l)) all rest))
      next)
      (next-step plan show.Nothing left (Some 1) us c t goes)
