-- What is shown of the first lines of an input is no longer than what is shown of more of them.
use Rattle.std.proofs.Common.{◌≡◌, ℕ, zero, suc, ◌≤◌, Bool, false, List, [], ◌∷◌, ◌++◌, length, take, Option, sym}
use Rattle.std.proofs.Common.{ap, subst, ◌∙◌, ⊎_elim, ◌⊎◌, arith, append_assoc, append-nil, length-append}
use Rattle.std.specs.Prelude.{flat_map}
use Rattle.std.proofs.lemmas.List.{map-append}
use Rattle.line_feed.specs.Rows.{Row, Finish}
use Rattle.grep_args.specs.declared.plan.GrepPlan.{GrepPlan}
use Rattle.grep_output.specs.declared.shows.Show.{Show}
use Rattle.grep_output.specs.declared.shows.Show.TheVariants as show
use Rattle.grep_output.specs.Shows.{lines_after}
use Rattle.grep_match.specs.Matches.{Tried}
use Rattle.grep_output.specs.Scans.{rows_of}
use Rattle.grep_output.specs.InputText.{shown_out}
use Rattle.grep_output.specs.Course.{Course, course_after, line_as, AreNumbered, scan_so_far}
use Rattle.grep_output.proofs.Reached.{reached-more}
use Rattle.grep_output.proofs.Extends.{Goes, LastError, LastSelected, GoesOn, full, next-step, goes-on, whole-is}
use Rattle.grep_output.proofs.Extends.{whole-out, extends, broken-is, broken_out, early-out, follow_out, number-of}
use Rattle.grep_output.proofs.Extends.{numbered-first}

-- of more elements no less
long-taken : {X : Type 0} (text : X → List ℕ) (n : ℕ) (xs ys : List X)
    → length (flat_map text (take n xs)) ≤ length (flat_map text (take n (xs ++ ys)))
long-taken text zero xs ys = omega arith
long-taken text (suc n) [] ys = omega arith
long-taken text (suc n) (x ∷ xs) ys =
    let more = long-taken text n xs ys in
    let left = length-append (text x) (flat_map text (take n xs)) in
    let right = length-append (text x) (flat_map text (take n (xs ++ ys))) in
    omega arith

follow-grows : (plan : GrepPlan) (name : List ℕ) (shows : Show) (n : ℕ) (xs ys : List Row)
    → length (follow_out plan name shows (take n xs)) ≤ length (follow_out plan name shows (take n (xs ++ ys)))
follow-grows plan name show.Lines n xs ys = long-taken (line_as plan name false) n xs ys
follow-grows plan name show.Parts n xs ys = omega arith
follow-grows plan name show.Nothing n xs ys = omega arith

module _ (plan : GrepPlan) (name : List ℕ) (shows : Show) (hs : Bool) (left : ℕ) (most : Option ℕ) where
  abbrev shown : Finish → List Tried → List ℕ
  shown finish ts = shown_out plan name shows hs (full plan name shows hs left most finish ts)

  abbrev so_far : List Tried → List ℕ
  so_far ts = shown_out plan name shows hs (scan_so_far ts)

  numbered-part : (us vs ws : List Tried) → AreNumbered 1 (rows_of (us ++ (vs ++ ws)))
      → AreNumbered 1 (rows_of (us ++ vs))
  numbered-part us vs ws numbered = numbered-first (us ++ vs) ws
      (subst (λ l. AreNumbered 1 (rows_of l)) (sym (append_assoc us vs ws)) numbered)

  -- the lines so far are whole lines of a scan that goes on
  pub shown-whole : (finish : Finish) (us : List Tried) (c : Course) → Goes plan shows left most us c
      → shown finish us ≡ so_far us
  shown-whole finish us c goes = ap (λ s. shown_out plan name shows hs s)
      (whole-is plan name shows hs left most finish us c goes) ∙ whole-out plan name shows hs us finish

  module _ (finish later : Finish) where
    abbrev Grows : List Tried → List Tried → List Tried → Type 0
    Grows us vs ws = length (shown finish (us ++ vs)) ≤ length (shown later (us ++ (vs ++ ws)))

    -- a line that ends the scan is the last one that counts, whatever follows
    grows-error : (us : List Tried) (c : Course) (t : Tried) (vs ws : List Tried) → Goes plan shows left most us c
        → LastError plan shows left most us t → Grows us (t ∷ vs) ws
    grows-error us c t vs ws goes last =
        let one : shown finish (us ++ t ∷ vs) ≡ so_far us =
        ap (λ s. shown_out plan name shows hs s) (broken-is plan name shows hs left most finish us t vs c goes last)
        ∙ broken_out plan name shows hs us t vs last.error in
        let more : shown later (us ++ t ∷ (vs ++ ws)) ≡ so_far us =
        ap (λ s. shown_out plan name shows hs s)
        (broken-is plan name shows hs left most later us t (vs ++ ws) c goes last)
        ∙ broken_out plan name shows hs us t (vs ++ ws) last.error in
        let a = ap length one in
        let b = ap length more in
        omega arith

    grows-selected : (us : List Tried) (c : Course) (t : Tried) (vs ws : List Tried) → Goes plan shows left most us c
        → LastSelected plan shows left most us t → AreNumbered 1 (rows_of (us ++ t ∷ (vs ++ ws)))
        → Grows us (t ∷ vs) ws
    grows-selected us c t vs ws goes last numbered =
        let n = lines_after shows plan.after_context in
        let reached = reached-more plan shows us c t goes.reached (numbered-first us (t ∷ (vs ++ ws)) numbered)
        (number-of us t (vs ++ ws) numbered) in
        let one = ap length (early-out plan name shows hs left most finish us (course_after plan shows c t) t vs
        reached last (numbered-part us (t ∷ vs) ws numbered)) in
        let more = ap length (early-out plan name shows hs left most later us (course_after plan shows c t) t
        (vs ++ ws) reached last numbered) in
        let a = length-append (so_far (us ++ t ∷ [])) (follow_out plan name shows (take n (rows_of vs))) in
        let b = length-append (so_far (us ++ t ∷ [])) (follow_out plan name shows (take n (rows_of (vs ++ ws)))) in
        let joined : rows_of (vs ++ ws) ≡ rows_of vs ++ rows_of ws = map-append (λ (x : Tried). x.row) vs ws in
        let follows = subst (λ l. length (follow_out plan name shows (take n (rows_of vs))) ≤ length
        (follow_out plan name shows (take n l))) (sym joined)
        (follow-grows plan name shows n (rows_of vs) (rows_of ws)) in
        omega arith

    pub grows : (vs us : List Tried) (c : Course) (ws : List Tried) → Goes plan shows left most us c
        → AreNumbered 1 (rows_of (us ++ (vs ++ ws))) → Grows us vs ws
    grows [] us c ws goes numbered =
        let ext = extends plan name shows hs left most later ws us c goes numbered in
        let whole = shown-whole finish us c goes in
        let same : shown finish (us ++ []) ≡ so_far us = ap (shown finish) (append-nil us) ∙ whole in
        let one = ap length same in
        let more = ap length ext.out_is in
        let sum = length-append (so_far us) ext.rest_out in
        omega arith
    grows (t ∷ vs) us c ws goes numbered =
        let one = numbered-part us (t ∷ []) (vs ++ ws) numbered in
        ⊎_elim
        (λ (last : LastError plan shows left most us t). grows-error us c t vs ws goes last)
        (λ (other : LastSelected plan shows left most us t ⊎ GoesOn plan shows left most us t).
        ⊎_elim
        (λ (last : LastSelected plan shows left most us t). grows-selected us c t vs ws goes last numbered)
        (λ (on : GoesOn plan shows left most us t).
        let moved = append_assoc us (t ∷ []) (vs ++ ws) in
        let rest = grows vs (us ++ t ∷ []) (course_after plan shows c t) ws
        (goes-on plan shows left most us c t goes one on)
        (subst (λ l. AreNumbered 1 (rows_of l)) (sym moved) numbered) in
        let a = ap (λ l. length (shown finish l)) (append_assoc us (t ∷ []) vs) in
        let b = ap (λ l. length (shown later l)) moved in
        omega arith)
        other)
        (next-step plan shows left most us c t goes)
