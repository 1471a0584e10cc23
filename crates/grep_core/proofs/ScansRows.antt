-- The rows of an input are numbered, and what a feed has given of the input that its source stands for.
use Rattle.std.proofs.Common.{◌≡◌, ℕ, zero, suc, ◌+◌, ◌≤◌, true, false, ◌&&◌, List, [], ◌∷◌, ◌++◌, length, take}
use Rattle.std.proofs.Common.{drop, cond, slice_range, refl, sym, ap, subst, arith, length-append, ◌∙◌, inl, inr}
use Rattle.std.specs.Prelude.{nat_lt, nat_eq}
use Rattle.std.specs.List.{list_any}
use Rattle.std.proofs.lemmas.Bool.{cond_both}
use Rattle.pcre_io.specs.Told.{Told}
use Rattle.byte_lanes.specs.declared.line_end.EndKind.{EndKind}
use Rattle.byte_lanes.specs.Newlines.{newline_len}
use Rattle.line_feed.specs.Rows.{Row, Rows, Input, Ending, End, Fault, Limit, Finish, Long, At, none_for, ahead}
use Rattle.line_feed.specs.Rows.{last_rows, first_newline, has_no_row, sure_len, rows, rows_within}
use Rattle.line_feed.specs.View.{Feed, HasNoMore}
use Rattle.line_feed.specs.Steps.{Moves}
use Rattle.line_feed.specs.Answers.{Gives}
use Rattle.line_feed.specs.Hears.{HasGiven}
use Rattle.grep_output.specs.LittlePast.{bytes_in, TakesLittlePast}
use Rattle.std.proofs.lemmas.List.Sums.{fold-append}
use Rattle.line_feed.proofs.Given.{HasGiven-gives, HasGiven-moves, HasHeard-stops, HasBegun-given}
use Rattle.line_feed.proofs.Shown.{HasShown-gives, HasShown-moves, HasShown-stops, HasShown-begun}
use Rattle.grep_args.specs.declared.plan.GrepPlan.{GrepPlan}
use Rattle.grep_output.specs.declared.shows.Treatment.{Treatment}
use Rattle.grep_output.specs.declared.shows.Treatment.TheVariants.{AsText}
use Rattle.grep_output.specs.declared.ended.Ended.{Ended}
use Rattle.grep_output.specs.Ends.{ended_of}
use Rattle.grep_output.specs.Scans.{at_finish}
use Rattle.grep_match.specs.PatternTexts.{line_end}
use Rattle.grep_output.specs.Lines.{lines, treatment_by}
use Rattle.grep_output.specs.Course.{AreNumbered}
use Rattle.grep_match.specs.Modes.{mode}
use Rattle.grep_core.specs.FirstBytes.{looks_first, scanned_as}
use Rattle.grep_core.specs.WholeScans.{Stood, BeginsWith, EndsWith}

Numbers : ℕ → Rows → Type 0
Numbers n r = AreNumbered n r.rows

numbered-cut : (kind : EndKind) (max number : ℕ) (bytes : List ℕ) (ending : Ending)
    → AreNumbered number (cond (nat_lt max (sure_len kind bytes)) (none_for (Long number))
    (none_for (At ending))).rows
numbered-cut kind max number bytes ending = cond_both (nat_lt max (sure_len kind bytes)) (none_for (Long number))
    (none_for (At ending)) (λ (r : Rows). AreNumbered number r.rows) (λ e. tt) (λ e. tt)

numbered-last : (kind : EndKind) (max number offset : ℕ) (bytes : List ℕ) (ending : Ending)
    → AreNumbered number (last_rows kind max number offset bytes ending).rows
numbered-last kind max number offset [] End = tt
numbered-last kind max number offset (b ∷ bytes) End =
    cond_both (nat_lt max (length (b ∷ bytes))) (none_for (Long number))
    (ahead (record { bytes = b ∷ bytes; newline = []; number = number; offset = offset }) (none_for (At End)))
    (λ (r : Rows). AreNumbered number r.rows) (λ e. tt) (λ e. (refl, tt))
numbered-last kind max number offset bytes Fault = numbered-cut kind max number bytes Fault
numbered-last kind max number offset bytes Limit = numbered-cut kind max number bytes Limit

numbered-within : (most : ℕ) (kind : EndKind) (max number offset : ℕ) (bytes : List ℕ) (ending : Ending)
    → AreNumbered number (rows_within most kind max number offset bytes ending).rows
unfolding rows_within
numbered-within zero kind max number offset bytes ending = numbered-last kind max number offset bytes ending
numbered-within (suc most) kind max number offset bytes ending =
    let k = first_newline kind bytes in
    let course_after = k + newline_len kind bytes k in
    let row : Row = record {
      bytes = take k bytes;
      newline = slice_range bytes k course_after;
      number = number;
      offset = offset;
    } in
    let rest = rows_within most kind max (number + 1) (offset + course_after) (drop course_after bytes) ending in
    cond_both (has_no_row kind bytes ending k) (last_rows kind max number offset bytes ending)
    (cond (nat_lt max k) (none_for (Long number)) (ahead row rest))
    (λ (r : Rows). AreNumbered number r.rows)
    (λ e. numbered-last kind max number offset bytes ending)
    (λ e. cond_both (nat_lt max k) (none_for (Long number)) (ahead row rest) (λ (r : Rows). AreNumbered number r.rows)
    (λ e. tt)
    (λ e. (refl, numbered-within most kind max (number + 1) (offset + course_after) (drop course_after bytes) ending)))

-- the rows of an input are numbered from 1
pub rows-numbered : (kind : EndKind) (max : ℕ) (input : Input) → AreNumbered 1 (rows kind max input).rows
rows-numbered kind max input = numbered-within (length input.bytes) kind max 1 0 input.bytes input.ending

-- the bytes of one row more
bytes-more : (given : List Row) (row : Row) → bytes_in (given ++ row ∷ []) ≡ bytes_in
    given + (length row.bytes + length row.newline)
bytes-more given row = fold-append (λ (n : ℕ) (r : Row). n + (length r.bytes + length r.newline)) 0 given (row ∷ [])

-- a feed that gave one row more has given the bytes of all of them
pub whole-gives : (now after : Told) (f g : Feed) (given : List Row) (row : Row) → f.offset ≡ bytes_in given
    → Gives f g now after row → g.offset ≡ bytes_in (given ++ row ∷ [])
whole-gives now after f g given row whole gives =
    let more = bytes-more given row in
    let next_offset = gives.cuts.next_offset in
    let row_offset = gives.cuts.offset in
    let moved = gives.reads.moves.offset in
    omega (arith, more, whole, next_offset, row_offset, moved)

little-past : (before now : Told) (f : Feed) (given : List Row) → HasGiven before now f given → length f.held ≤ 65536
    → f.offset ≡ bytes_in given → TakesLittlePast given before now
little-past before now f given has near whole =
    let offset = has.offset in
    let long = length-append has.gone f.held in
    (has.gone ++ f.held, has.taken, omega (arith, offset, whole, near, long))

-- What a feed has given.
module _ (plan : GrepPlan) (treated : Treatment) (before : Told) where
  pub stood-moves : (now after : Told) (f g : Feed) (given : List Row) → Stood plan treated before now f given
      → Moves f g now after → Stood plan treated before after g given
  stood-moves now after f g given (inl h) moves = inl (h.0, h.1, HasGiven-moves before now after f g given h.2 moves)
  stood-moves now after f g given (inr h) moves =
      inr (h.0, (h.1.0, HasShown-moves before now after f g given h.1.0 h.1.1 moves, h.1.2))

  pub stood-gives : (now after : Told) (f g : Feed) (given : List Row) (row : Row)
      → Stood plan treated before now f given → Gives f g now after row
      → Stood plan treated before after g (given ++ row ∷ [])
  stood-gives now after f g given row (inl h) gives =
      inl (h.0, h.1, HasGiven-gives before now after f g given row h.2 gives)
  stood-gives now after f g given row (inr h) gives =
      inr (h.0, (h.1.0, HasShown-gives before now after f g given row h.1.0 h.1.1 gives, h.1.2))

  -- few bytes are held: little past the rows was taken
  pub stood-little : (now : Told) (f : Feed) (given : List Row) → Stood plan treated before now f given
      → length f.held ≤ 65536 → f.offset ≡ bytes_in given → TakesLittlePast given before now
  stood-little now f given (inl h) near whole = little-past before now f given h.2 near whole
  stood-little now f given (inr h) near whole = little-past before now f given h.1.1.given_so near whole

  treats-unseen : (input : Input) → looks_first plan (mode plan) ≡ false → treated ≡ AsText
      → scanned_as plan input ≡ treated
  treats-unseen input unseen is =
      ap (λ b. treatment_by (b && list_any (nat_eq 0) (take 1024 input.bytes)) plan.binary) unseen ∙ sym is

  treats-shown : (input : Input) (shown : List ℕ) → looks_first plan (mode plan) ≡ true
      → treatment_by (list_any (nat_eq 0) shown) plan.binary ≡ treated → shown ≡ take 1024 input.bytes
      → scanned_as plan input ≡ treated
  treats-shown input shown looks is first =
      ap (λ b. treatment_by (b && list_any (nat_eq 0) (take 1024 input.bytes)) plan.binary) looks
      ∙ ap (λ l. treatment_by (list_any (nat_eq 0) l) plan.binary) (sym first) ∙ is

  module _ (now : Told) (f : Feed) (given : List Row) (kind : f.kind ≡ line_end plan)
      (max : f.max ≡ plan.max_buffer_size) where
    lines-are : (input : Input) → lines plan input ≡ rows f.kind f.max input
    lines-are input = λ i. rows (sym kind i) (sym max i) input

    -- the input begins so
    pub stood-begins : Stood plan treated before now f given → BeginsWith plan treated before now given
    stood-begins (inl h) =
        let begun = HasBegun-given before now f given h.2 in record {
          heard = begun.input;
          hears = begun.hears;
          treats = treats-unseen begun.input h.0 h.1;
          more = begun.more;
          all = ap (λ r. r.rows) (lines-are begun.input) ∙ begun.all;
        }
    stood-begins (inr h) =
        let both = HasShown-begun before now f given h.1.0 h.1.1 in
        let begun = both.0 in record {
          heard = begun.input;
          hears = begun.hears;
          treats = treats-shown begun.input h.1.0 h.0 h.1.2 both.1;
          more = begun.more;
          all = ap (λ r. r.rows) (lines-are begun.input) ∙ begun.all;
        }

    -- the input ends so
    pub stood-stops : (finish : Finish) (ended : Ended) → Stood plan treated before now f given → HasNoMore f finish
        → ended_of ended ≡ at_finish finish → EndsWith plan treated before now given ended
    stood-stops finish ended (inl h) none is =
        let heard = HasHeard-stops before now f given finish h.2 none in record {
          heard = heard.input;
          hears = heard.hears;
          treats = treats-unseen heard.input h.0 h.1;
          finish = finish;
          all = lines-are heard.input ∙ heard.all;
          ended_so = is;
        }
    stood-stops finish ended (inr h) none is =
        let both = HasShown-stops before now f given finish h.1.0 h.1.1 none in
        let heard = both.0 in record {
          heard = heard.input;
          hears = heard.hears;
          treats = treats-shown heard.input h.1.0 h.0 h.1.2 both.1;
          finish = finish;
          all = lines-are heard.input ∙ heard.all;
          ended_so = is;
        }

-- the rows of it that are known are numbered
pub begins-numbered : (plan : GrepPlan) (treated : Treatment) (before after : Told) (given : List Row)
    (begins : BeginsWith plan treated before after given) → AreNumbered 1 (given ++ begins.more)
begins-numbered plan treated before after given begins =
    subst (λ l. AreNumbered 1 l) begins.all (rows-numbered (line_end plan) plan.max_buffer_size begins.heard)

pub ends-numbered : (plan : GrepPlan) (treated : Treatment) (before after : Told) (given : List Row) (ended : Ended)
    → EndsWith plan treated before after given ended → AreNumbered 1 given
ends-numbered plan treated before after given ended ends =
    subst (λ (r : Rows). AreNumbered 1 r.rows) ends.all
    (rows-numbered (line_end plan) plan.max_buffer_size ends.heard)
