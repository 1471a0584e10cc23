-- The rows that a feed gives are short: as long as its maximum, and a newline.
use Rattle.std.proofs.Common.{◌≢◌, ℕ, zero, suc, ◌+◌, ◌-◌, ◌≤◌, List, [], ◌∷◌, ◌++◌, length, take, drop, cond}
use Rattle.std.proofs.Common.{slice_range, refl, subst, arith, length-take}
use Rattle.std.specs.Prelude.{nat_lt}
use Rattle.std.proofs.lemmas.Bool.{cond_both}
use Rattle.pcre_io.specs.Told.{Told}
use Rattle.byte_lanes.specs.declared.line_end.EndKind.{EndKind}
use Rattle.byte_lanes.specs.Newlines.{newline_len}
use Rattle.line_feed.specs.declared.phase.Phase.{Phase}
use Rattle.line_feed.specs.declared.phase.Phase.TheVariants.{Open, Ended, Missed, Full, Closed}
use Rattle.line_feed.specs.Rows.{Row, Rows, Ending, End, Fault, Limit, Long, At, none_for, ahead, last_rows}
use Rattle.line_feed.specs.Rows.{first_newline, has_no_row, sure_len, rows_within}
use Rattle.line_feed.specs.View.{Feed, Follows}
use Rattle.line_feed.specs.Answers.{Gives}
use Rattle.line_feed.proofs.Newlines.{newline-most}
use Rattle.grep_output.specs.Earlier.{IsShort}

-- the newline of the first row has at most three bytes
abbrev BeginsShort : List Row → Type 0
BeginsShort [] = Unit {0}
BeginsShort (row ∷ rows) = length row.newline ≤ 3

short-cut : (kind : EndKind) (max number : ℕ) (bytes : List ℕ) (ending : Ending)
    → BeginsShort (cond (nat_lt max (sure_len kind bytes)) (none_for (Long number)) (none_for (At ending))).rows
short-cut kind max number bytes ending = cond_both (nat_lt max (sure_len kind bytes)) (none_for (Long number))
    (none_for (At ending)) (λ (r : Rows). BeginsShort r.rows) (λ e. tt) (λ e. tt)

short-last : (kind : EndKind) (max number offset : ℕ) (bytes : List ℕ) (ending : Ending)
    → BeginsShort (last_rows kind max number offset bytes ending).rows
short-last kind max number offset [] End = tt
short-last kind max number offset (b ∷ bytes) End =
    cond_both (nat_lt max (length (b ∷ bytes))) (none_for (Long number))
    (ahead (record { bytes = b ∷ bytes; newline = []; number = number; offset = offset }) (none_for (At End)))
    (λ (r : Rows). BeginsShort r.rows) (λ e. tt)
    (λ e. omega arith)
short-last kind max number offset bytes Fault = short-cut kind max number bytes Fault
short-last kind max number offset bytes Limit = short-cut kind max number bytes Limit

short-within : (most : ℕ) (kind : EndKind) (max number offset : ℕ) (bytes : List ℕ) (ending : Ending)
    → BeginsShort (rows_within most kind max number offset bytes ending).rows
unfolding rows_within
short-within zero kind max number offset bytes ending = short-last kind max number offset bytes ending
short-within (suc most) kind max number offset bytes ending =
    let k = first_newline kind bytes in
    let behind = k + newline_len kind bytes k in
    let row : Row = record {
      bytes = take k bytes;
      newline = slice_range bytes k behind;
      number = number;
      offset = offset;
    } in
    let rest = rows_within most kind max (number + 1) (offset + behind) (drop behind bytes) ending in
    cond_both (has_no_row kind bytes ending k) (last_rows kind max number offset bytes ending)
    (cond (nat_lt max k) (none_for (Long number)) (ahead row rest))
    (λ (r : Rows). BeginsShort r.rows)
    (λ e. short-last kind max number offset bytes ending)
    (λ e. cond_both (nat_lt max k) (none_for (Long number)) (ahead row rest) (λ (r : Rows). BeginsShort r.rows)
    (λ e. tt)
    (λ e. let long = length-take (behind - k) (drop k bytes) in let most_is = newline-most kind bytes k in omega arith))

-- something can follow, unless the feed is closed
follows-some : (p : Phase) → p ≢ Closed → (ending : Ending) × Follows p [] ending
follows-some Open live = (End, tt)
follows-some Ended live = (End, (refl, refl))
follows-some Missed live = (Fault, (refl, refl))
follows-some Full live = (Limit, (refl, refl))
follows-some Closed live = absurd (live refl)

pub gives-short : (longest : ℕ) (f g : Feed) (now after : Told) (row : Row) → f.max ≤ longest
    → Gives f g now after row → IsShort longest row
gives-short longest f g now after row least gives =
    let mid = gives.mid in
    let cuts = gives.cuts in
    let some = follows-some mid.phase (subst (λ p. p ≢ Closed) cuts.phase gives.live) in
    let newline : length row.newline ≤ 3 =
    subst (λ (r : Rows). BeginsShort r.rows) (cuts.rows [] some.0 some.1)
    (short-within (length (mid.held ++ [])) mid.kind mid.max (mid.number + 1) mid.offset (mid.held ++ []) some.0)
    in
    let room = cuts.room in
    let same = gives.reads.moves.max in
    omega arith
