-- Where a write is refused: from the lines of which all was written, to the first line of which something is missing.
use Rattle.std.proofs.Common.{◌≡◌, ◌≢◌, ℕ, ◌+◌, ◌-◌, ◌<◌, ◌≤◌, List, [], ◌++◌, length, take, drop, false, Option}
use Rattle.std.proofs.Common.{Some, None, refl, sym, ap, subst, ◌∙◌, ⊎_elim, arith, append_assoc, length-append}
use Rattle.std.specs.Prelude.{filter}
use Rattle.std.specs.Io.KnownBytes.{Appends}
use Rattle.std.proofs.lemmas.Bool.{cases_lt}
use Rattle.std.proofs.lemmas.List.{take-append-drop, take-append-le}
use Rattle.std.proofs.Math.Seq.{take-append-add}
use Rattle.std.proofs.lemmas.List.Elements.{filter-append}
use Rattle.std.proofs.lemmas.List.Sums.{sum_by-append}
use Rattle.pcre_io.specs.Told.{Told, Kept}
use Rattle.line_feed.specs.Rows.{Row, Rows, Finish, At, End, rows_with}
use Rattle.grep_args.specs.declared.plan.GrepPlan.{GrepPlan}
use Rattle.pat_tree.specs.Pattern.{Pattern}
use Rattle.grep_output.specs.declared.shows.Show.{Show}
use Rattle.grep_output.specs.declared.shows.Show.TheVariants as show
use Rattle.grep_output.specs.declared.shows.Treatment.{Treatment}
use Rattle.grep_output.specs.declared.shows.Treatment.TheVariants.{AsText, AsBinary, Skipped}
use Rattle.grep_output.specs.declared.state.State.{State}
use Rattle.grep_match.specs.Matches.{is_selected}
use Rattle.grep_match.specs.Modes.{mode}
use Rattle.grep_output.specs.Shows.{is_told, show_in, greatest_selected, lines_after}
use Rattle.grep_output.specs.Scans.{Scan, IsBelow, scan, scan_of_rows, errors_left, rows_of, selected_in, early}
use Rattle.grep_output.specs.Scans.{too_many_errors}
use Rattle.grep_output.specs.InputText.{out_text, shown_out}
use Rattle.grep_output.specs.Course.{AreNumbered, begun}
use Rattle.grep_output.specs.LittlePast.{bytes_in, TakesLittlePast}
use Rattle.grep_output.specs.Refused.{GrewBy, GrewTo, IsCut, needs_all}
use Rattle.grep_core.specs.Work.{work_on}
use Rattle.grep_core.specs.WholeScans.{AtLeastOne, StopsSoon}
use Rattle.grep_output.proofs.ReachRows.{numbered-left}
use Rattle.grep_output.proofs.Reached.{reached-begun}
use Rattle.grep_output.proofs.ScanEnds.{count}
use Rattle.grep_output.proofs.Extends.{Goes}
use Rattle.grep_output.proofs.Growing.{grows}
use Rattle.grep_output.proofs.Deciding.{TellsNothing, TellsOnce, tells-of, only-shown, Decides, decides, EndsIn}
use Rattle.grep_output.proofs.Deciding.{ends-in}
use Rattle.grep_core.specs.Underway.{tries}
use Rattle.grep_core.proofs.ScansTaken.{tries-more, rows-tried}
use Rattle.grep_core.proofs.ScansEnd.{full_of, scan-is}

-- what begins what a sink grew by is no longer
grew-long : (text written : List ℕ) (old new : Kept) → GrewBy text old new → GrewTo old new written
    → length text ≤ length written
grew-long text written old new grew to =
    let same : to.held ++ written ≡ to.held ++ (text ++ grew.0) =
    subst (λ o. Appends (Some to.held) o (text ++ grew.0)) to.has
    (subst (λ o. Appends o new.held (text ++ grew.0)) to.had grew.1) in
    let sizes = ap length same in
    let a = length-append to.held written in
    let b = length-append to.held (text ++ grew.0) in
    let d = length-append text grew.0 in
    omega arith

-- more rows have no fewer bytes
more-bytes : (rows more : List Row) → bytes_in rows ≤ bytes_in (rows ++ more)
more-bytes rows more = let sum = sum_by-append (λ (r : Row). length r.bytes + length r.newline) rows more in omega arith

below-none : (most : Option ℕ) → AtLeastOne most → IsBelow most 0
below-none None some = tt
below-none (Some m) some = omega arith

module _ (plan : GrepPlan) (patterns : List Pattern) (name : List ℕ) (s : State) (treated : Treatment) where
  abbrev shows : Show
  shows = show_in (is_told plan treated) (mode plan)

  abbrev most : Option ℕ
  most = greatest_selected plan treated

  -- what is shown of these lines
  abbrev shown : Rows → List ℕ
  shown found = shown_out plan name shows s.has_shown (scan_of_rows plan patterns s.errors treated found)

  -- an input that isn't scanned shows nothing
  skipped-long : (sh : Show) (n : ℕ)
      → n < length (shown_out plan name sh s.has_shown (record { tried = []; within = []; ended = early })) → ⊥
  skipped-long show.Lines n longer = let none : n < 0 = longer in omega arith
  skipped-long show.Parts n longer = let none : n < 0 = longer in omega arith
  skipped-long show.Nothing n longer = let none : n < 0 = longer in omega arith

  module _ (few : s.errors ≤ 20) (some : AtLeastOne most) where
    begins : Goes plan shows (errors_left s.errors) most [] begun
    begins = record { reached = reached-begun plan shows; few = omega arith; below = below-none most some }

    -- of more lines no less is shown
    shown-grows : (rows more : List Row) (finish later : Finish) → AreNumbered 1 (rows ++ more)
        → length (shown (rows_with rows finish)) ≤ length (shown (rows_with (rows ++ more) later))
    shown-grows rows more finish later numbered =
        let us = tries plan patterns rows in
        let vs = tries plan patterns more in
        let both = tries-more plan patterns rows more in
        let whole = grows plan name shows s.has_shown (errors_left s.errors) most finish later us [] begun vs begins
        (subst (λ l. AreNumbered 1 l) (sym (rows-tried plan patterns (rows ++ more)) ∙ ap rows_of both) numbered) in
        let one = ap (λ (x : Scan). length (shown_out plan name shows s.has_shown x))
        (scan-is (work_on plan patterns name shows) most treated s refl refl (rows_with rows finish)) in
        let all = ap (λ (x : Scan). length (shown_out plan name shows s.has_shown x))
        (scan-is (work_on plan patterns name shows) most treated s refl refl (rows_with (rows ++ more) later)
        ∙ ap (λ l. full_of (work_on plan patterns name shows) most treated s later l) both) in
        omega arith

    module _ (found : Rows) (before after : Told) (old new : Kept) (numbered : AreNumbered 1 found.rows)
        (written : List ℕ) (n : ℕ) (to : GrewTo old new written) where
      -- the scan of the first lines, and that of all
      abbrev first : Scan
      first = scan_of_rows plan patterns s.errors treated (rows_with (take n found.rows) (At End))

      abbrev all_of : Scan
      all_of = scan_of_rows plan patterns s.errors treated found

      numbered_parts : AreNumbered 1 (take n found.rows ++ drop n found.rows)
      numbered_parts = subst (λ l. AreNumbered 1 l) (sym (take-append-drop n found.rows)) numbered

      -- it is past the lines of which all was written
      past-these : (soon : StopsSoon (work_on plan patterns name shows) treated s found before after old new)
          → length soon.given < n → TakesLittlePast (take n found.rows) before after
      past-these soon past =
          let upto = soon.given ++ soon.next in
          let one = soon.one in
          let sum = length-append soon.given soon.next in
          let m = n - length upto in
          let split : n ≡ length upto + m = omega arith in
          let first : take n found.rows ≡ upto ++ take m soon.more = (λ i. take (split i) (soon.all i))
          ∙ take-append-add upto soon.more m in
          let bytes = more-bytes upto (take m soon.more) in
          let same = ap bytes_in first in
          let most_taken = soon.little.2 in
          (soon.little.0, soon.little.1, omega arith)

      past-or : (soon : StopsSoon (work_on plan patterns name shows) treated s found before after old new)
          → (n ≤ length soon.given → ⊥) → TakesLittlePast (take n found.rows) before after
      past-or soon other =
          ⊎_elim
          (λ (past : length soon.given < n). past-these soon past)
          (λ (within : n ≤ length soon.given). absurd (other within))
          (cases_lt (length soon.given) n)

      -- where lines or parts of them alone are written
      module _ (longer : length written < length (shown (rows_with (take n found.rows) (At End)))) where
        missing : (whole rest : List Row) (finish : Finish) → found.rows ≡ whole ++ rest
            → GrewBy (shown (rows_with whole finish)) old new → n ≤ length whole → ⊥
        missing whole rest finish all grew within =
            let numbered_whole = numbered-left 1 whole rest (subst (λ l. AreNumbered 1 l) all numbered) in
            let parted = take-append-drop n whole in
            let less = shown-grows (take n whole) (drop n whole) (At End) finish
            (subst (λ l. AreNumbered 1 l) (sym parted) numbered_whole) in
            let there = ap (λ l. length (shown (rows_with l finish))) parted in
            let wrote = grew-long (shown (rows_with whole finish)) written old new grew to in
            let first = ap (λ l. length (shown (rows_with l (At End))))
            (ap (λ l. take n l) all ∙ take-append-le n whole rest within) in
            omega arith

        lines-next : StopsSoon (work_on plan patterns name shows) treated s found before after old new
            → TakesLittlePast (take n found.rows) before after
        lines-next soon = past-or soon (missing soon.given (soon.next ++ soon.more) (At End)
            (soon.all ∙ append_assoc soon.given soon.next soon.more) soon.grew)

        -- all was written
        lines-written : GrewBy (shown found) old new → ⊥
        lines-written grew =
            let less = shown-grows (take n found.rows) (drop n found.rows) (At End) found.finish numbered_parts in
            let there = ap (λ l. length (shown (rows_with l found.finish))) (take-append-drop n found.rows) in
            let wrote = grew-long (shown found) written old new grew to in
            omega arith

      -- where the first selected line decides
      module _ (once : TellsOnce plan name (is_told plan treated) (mode plan))
          (decided : Decides plan name (is_told plan treated) s.has_shown first first.ended) where
        in-first : EndsIn plan name s.has_shown (errors_left s.errors) (tries plan patterns (take n found.rows)) all_of
        in-first =
            let us = tries plan patterns (take n found.rows) in
            let ws = tries plan patterns (drop n found.rows) in
            let scan_at = full_of (work_on plan patterns name show.Nothing) (Some 1) treated s in
            let part : first ≡ scan_at (At End) us = scan-is (work_on plan patterns name show.Nothing) (Some 1)
            treated s once.shows_is once.most_is (rows_with (take n found.rows) (At End)) in
            let both : tries plan patterns found.rows ≡ us ++ ws =
            ap (λ l. tries plan patterns l) (sym (take-append-drop n found.rows))
            ∙ tries-more plan patterns (take n found.rows) (drop n found.rows) in
            let whole : all_of ≡ scan_at found.finish (us ++ ws) =
            scan-is (work_on plan patterns name show.Nothing) (Some 1) treated s once.shows_is once.most_is found
            ∙ ap (λ l. scan_at found.finish l) both in
            let rows : AreNumbered 1 (rows_of (us ++ ws)) =
            subst (λ l. AreNumbered 1 l) (sym (rows-tried plan patterns found.rows) ∙ ap rows_of both) numbered in
            let goes : Goes plan show.Nothing (errors_left s.errors) (Some 1) [] begun =
            record { reached = reached-begun plan show.Nothing; few = omega arith; below = omega arith } in
            subst (λ x. EndsIn plan name s.has_shown (errors_left s.errors) us x) (sym whole)
            (ends-in plan name s.has_shown (errors_left s.errors) us [] begun ws (At End) found.finish goes rows
            (subst (λ (x : Scan). x.ended ≢ too_many_errors) part decided.0)
            (subst (λ (x : Scan). 0 < length (selected_in plan x)) part decided.1))

        selected-later : (soon : StopsSoon (work_on plan patterns name shows) treated s found before after old new)
            → n ≤ length soon.given → ⊥
        selected-later soon within =
            let sel = is_selected plan in
            let given = soon.given in
            let all = soon.all ∙ append_assoc given soon.next soon.more in
            let firsts : take n found.rows ≡ take n given = ap (λ l. take n l) all
            ∙ take-append-le n given (soon.next ++ soon.more) within in
            let us = tries plan patterns (take n given) in
            let vs = tries plan patterns (drop n given) in
            let some = subst (λ l. 0 < count sel (tries plan patterns l)) firsts in-first.some in
            let parts : count sel (tries plan patterns given) ≡ count sel us + count sel vs =
            ap (λ l. count sel l) (ap (λ l. tries plan patterns l) (sym (take-append-drop n given))
            ∙ tries-more plan patterns (take n given) (drop n given)) ∙ ap length (filter-append sel us vs)
            ∙ length-append (filter sel us) (filter sel vs) in
            let below : count sel (tries plan patterns given) < 1 =
            subst (λ m. IsBelow m (count sel (tries plan patterns given))) (sym once.most_is)
            (soon.below (sym (ap (λ x. lines_after x plan.after_context) once.shows_is))) in
            omega arith

        once-next : StopsSoon (work_on plan patterns name shows) treated s found before after old new
            → TakesLittlePast (take n found.rows) before after
        once-next soon = past-or soon (selected-later soon)

        -- the scan ended at that line
        once-ended : (all_of.ended ≡ early → TakesLittlePast all_of.within before after)
            → TakesLittlePast (take n found.rows) before after
        once-ended rest =
            let little = rest in-first.ended in
            let within = in-first.within in
            let rows = ap bytes_in (rows-tried plan patterns (take n found.rows)) in
            let most_taken = little.2 in
            (little.0, little.1, omega arith)

      module _ (plain : needs_all (mode plan) ≡ false)
          (longer : length written < length (out_text plan name (is_told plan treated) s.has_shown first
          first.ended)) where
        by-mode : {T : Type 0} → (length written < length (shown (rows_with (take n found.rows) (At End))) → T)
            → ((once : TellsOnce plan name (is_told plan treated) (mode plan))
            → Decides plan name (is_told plan treated) s.has_shown first first.ended → T) → T
        by-mode lines once_so =
            ⊎_elim
            (λ (nothing : TellsNothing plan name (is_told plan treated) (mode plan)).
            let only = only-shown plan name (is_told plan treated) s.has_shown first first.ended nothing in
            lines (omega arith))
            (λ (once : TellsOnce plan name (is_told plan treated) (mode plan)). once_so once
            (decides plan name (is_told plan treated) s.has_shown first once first.ended (length written)
            longer))
            (tells-of plan name (is_told plan treated) (mode plan) plain)

        pub past-next : StopsSoon (work_on plan patterns name shows) treated s found before after old new
            → TakesLittlePast (take n found.rows) before after
        past-next soon = by-mode (λ long. lines-next long soon) (λ once decided. once-next once decided soon)

        pub past-ended : GrewBy (shown found) old new
            → (all_of.ended ≡ early → TakesLittlePast all_of.within before after)
            → TakesLittlePast (take n found.rows) before after
        past-ended grew rest = by-mode (λ long. absurd (lines-written long grew))
            (λ once decided. once-ended once decided rest)

-- of an input however it is treated
module _ (plan : GrepPlan) (patterns : List Pattern) (name : List ℕ) (s : State) (few : s.errors ≤ 20) (found : Rows)
    (before after : Told) (old new : Kept) (numbered : AreNumbered 1 found.rows)
    (plain : needs_all (mode plan) ≡ false) (written : List ℕ) (n : ℕ) (to : GrewTo old new written) where
  -- of one that isn't scanned nothing is written
  skipped-none : IsCut plan patterns name s Skipped found.rows written n → ⊥
  skipped-none cut =
      let none : Scan = record { tried = []; within = []; ended = early } in
      ⊎_elim
      (λ (nothing : TellsNothing plan name (is_told plan Skipped) (mode plan)).
      let only = only-shown plan name (is_told plan Skipped) s.has_shown none early nothing in
      let longer = cut.longer in
      skipped-long plan patterns name s Skipped (show_in (is_told plan Skipped) (mode plan)) (length written)
      (omega arith))
      (λ (once : TellsOnce plan name (is_told plan Skipped) (mode plan)).
      let decided = decides plan name (is_told plan Skipped) s.has_shown none once early (length written) cut.longer in
      let some : 0 < 0 = decided.1 in omega arith)
      (tells-of plan name (is_told plan Skipped) (mode plan) plain)

  pub refuses-soon : (treated : Treatment) → AtLeastOne (greatest_selected plan treated)
      → IsCut plan patterns name s treated found.rows written n
      → StopsSoon (work_on plan patterns name (show_in (is_told plan treated) (mode plan))) treated s found before
      after old new → TakesLittlePast (take n found.rows) before after
  refuses-soon AsText some cut soon = past-next plan patterns name s AsText few some found before after old new
      numbered written n to plain cut.longer soon
  refuses-soon AsBinary some cut soon = past-next plan patterns name s AsBinary few some found before after old new
      numbered written n to plain cut.longer soon
  refuses-soon Skipped some cut soon = absurd (skipped-none cut)

  pub refuses-ended : (treated : Treatment) → AtLeastOne (greatest_selected plan treated)
      → IsCut plan patterns name s treated found.rows written n
      → GrewBy (shown_out plan name (show_in (is_told plan treated) (mode plan)) s.has_shown
      (scan plan patterns s.errors treated found)) old new
      → (let x : Scan = scan plan patterns s.errors treated found in x.ended ≡ early
      → TakesLittlePast x.within before after) → TakesLittlePast (take n found.rows) before after
  refuses-ended AsText some cut grew rest = past-ended plan patterns name s AsText few some found before after old new
      numbered written n to plain cut.longer grew rest
  refuses-ended AsBinary some cut grew rest = past-ended plan patterns name s AsBinary few some found before after old
      new numbered written n to plain cut.longer grew rest
  refuses-ended Skipped some cut grew rest = absurd (skipped-none cut)
