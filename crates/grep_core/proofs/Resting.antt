-- Where a write is refused in a scan that ends early: the lines that were taken by then are within it.
use Rattle.std.proofs.Common.{◌≡◌, ◌≢◌, ℕ, ◌+◌, ◌-◌, ◌≤◌, Bool, true, false, if◌then◌else◌, List, ◌++◌, length, take}
use Rattle.std.proofs.Common.{Option, None, Some, refl, sym, ap, subst, ◌∙◌, arith, append_assoc, length-append}
use Rattle.std.specs.Prelude.{nat_lt}
use Rattle.std.proofs.lemmas.List.{length-map}
use Rattle.std.proofs.lemmas.List.Sums.{sum_by-append}
use Rattle.std.proofs.Math.Seq.{take-append-add}
use Rattle.pcre_io.specs.Told.{Told}
use Rattle.line_feed.specs.Rows.{Row, Rows, Finish}
use Rattle.grep_output.specs.declared.shows.Treatment.{Treatment}
use Rattle.grep_output.specs.declared.state.State.{State}
use Rattle.grep_match.specs.Matches.{Tried, tried_row, is_selected, has_error}
use Rattle.grep_output.specs.Shows.{greatest_selected, trailing}
use Rattle.grep_output.specs.Scans.{IsBelow, rows_of, errors_left, nth_place, place_of_most, scan_to, broken_scan}
use Rattle.grep_output.specs.Scans.{early_scan, at_finish, early, too_many_errors}
use Rattle.grep_output.specs.LittlePast.{TakesLittlePast}
use Rattle.grep_output.proofs.ScanEnds.{IsPast, count, nth-past}
use Rattle.grep_core.specs.Work.{Work}
use Rattle.grep_core.specs.WholeScans.{scan_of}
use Rattle.grep_core.specs.Underway.{tries}
use Rattle.grep_core.proofs.ScansTaken.{tries-more, rows-tried}

-- little past some rows is little past more of them
pub little-more : (rows more : List Row) (before after : Told) → TakesLittlePast rows before after
    → TakesLittlePast (rows ++ more) before after
little-more rows more before after little =
    let sum = sum_by-append (λ (r : Row). length r.bytes + length r.newline) rows more in
    let few = little.2 in
    (little.0, little.1, omega arith)

little-first : (found given more : List Row) (n : ℕ) (before after : Told) → found ≡ given ++ more → length given ≤ n
    → TakesLittlePast given before after → TakesLittlePast (take n found) before after
little-first found given more n before after all few little =
    let m = n - length given in
    let split : n ≡ length given + m = omega arith in
    let first : take n found ≡ given ++ take m more = (λ i. take (split i) (all i)) ∙ take-append-add given more m in
    subst (λ l. TakesLittlePast l before after) (sym first) (little-more given (take m more) before after little)

-- the last line that may be selected isn't among the first ones, where fewer are selected
last-place : (holds : Tried → Bool) (most : Option ℕ) (us vs : List Tried) (place : ℕ) → IsBelow most (count holds us)
    → place_of_most holds most (us ++ vs) ≡ Some place → length us ≤ place
last-place holds None us vs place below is = let e : None ≡ Some place = is in absurd (cc)
last-place holds (Some n) us vs place below is = subst (λ o. IsPast (length us) o) is (nth-past holds n us vs below)

finish-early : (finish : Finish) → at_finish finish ≢ early
finish-early finish e = cc

errors-early : too_many_errors ≢ early
errors-early e = cc

-- an early end stands at a line that is selected
early-place : (ts : List Tried) (finish : Finish) (following : ℕ) (e s : Option ℕ)
    → (scan_to ts finish following e s).ended ≡ early
    → (place : ℕ) × (s ≡ Some place) × ((scan_to ts finish following e s).within ≡ take (place + 1 + following)
    (rows_of ts))
early-place ts finish following None None is = absurd (finish-early finish is)
early-place ts finish following (Some e) None is = absurd (errors-early is)
early-place ts finish following None (Some s) is = (s, refl, refl)
early-place ts finish following (Some e) (Some s) is = by_test (nat_lt e s) is
  where
    by_test : (b : Bool) → (if b then broken_scan ts e else early_scan ts finish s following).ended ≡ early
        → (place : ℕ) × (Some s ≡ Some place)
        × ((if b then broken_scan ts e else early_scan ts finish s following).within ≡ take
        (place + 1 + following) (rows_of ts))
    by_test true is = absurd (errors-early is)
    by_test false is = (s, refl, refl)

-- fewer lines than may be selected were selected among the first of these rows
pub rest-below : (work : Work) (treated : Treatment) (s0 : State) (found : Rows) (given next more : List Row)
    (before after : Told) → found.rows ≡ (given ++ next) ++ more → length next ≤ 1
    → IsBelow (greatest_selected work.plan treated)
    (count (is_selected work.plan) (tries work.plan work.patterns given))
    → TakesLittlePast (given ++ next) before after
    → (scan_of work treated s0 found).ended ≡ early → TakesLittlePast (scan_of work treated s0 found).within before
    after
rest-below work treated s0 found given next more before after all one below little is =
    let plan = work.plan in
    let ts = tries plan work.patterns found.rows in
    let most = greatest_selected plan treated in
    let at = early-place ts found.finish (trailing plan treated) (nth_place has_error (errors_left s0.errors) ts)
    (place_of_most (is_selected plan) most ts) is in
    let parted : ts ≡ tries plan work.patterns given ++ tries plan work.patterns (next ++ more) =
    ap (tries plan work.patterns) (all ∙ append_assoc given next more)
    ∙ tries-more plan work.patterns given (next ++ more) in
    let past = last-place (is_selected plan) most (tries plan work.patterns given)
    (tries plan work.patterns (next ++ more)) at.0 below (ap (place_of_most (is_selected plan) most) (sym parted)
    ∙ at.1) in
    let size = length-map given (tried_row plan work.patterns) in
    let sum = length-append given next in
    let within = at.2 ∙ ap (take (at.0 + 1 + trailing plan treated)) (rows-tried plan work.patterns found.rows) in
    subst (λ l. TakesLittlePast l before after) (sym within)
    (little-first found.rows (given ++ next) more (at.0 + 1 + trailing plan treated) before after all
    (omega arith) little)
