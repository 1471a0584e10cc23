-- The lines of a text, one at a time.
use Rattle.std.proofs.Common.{◌≡◌, ◌∙◌, ℕ, zero, suc, ◌+◌, ◌-◌, ◌<◌, ◌≤◌, Bool, true, false, not, List, [], ◌∷◌, ◌++◌}
use Rattle.std.proofs.Common.{length, take, drop, slice_range, nat_lt, if◌then◌else◌, refl, sym, ap, subst, arith}
use Rattle.std.proofs.Common.{⊎_elim, inl, inr, append-nil, append_assoc, length-append, length-drop, length-take-le}
use Rattle.std.proofs.lemmas.Bool.{cases_lt, lt-ltb, le-ltb}
use Rattle.std.proofs.lemmas.List.{take_all, drop_all, drop-drop}
use Rattle.byte_lanes.specs.declared.line_end.EndKind.{EndKind}
use Rattle.byte_lanes.specs.Newlines.{newline_len}
use Rattle.line_feed.specs.Rows.{Row, Rows, Ending, End, Fault, first_newline, has_no_row, rows_from, row_with}
use Rattle.line_feed.proofs.Newlines.{newline-within, newline-end}
use Rattle.line_feed.proofs.RowLemmas.{first-least, no_row-true, no_row-false, rows-rest, rows-row, rows-empty}
use Rattle.line_feed.proofs.RowLemmas.{last-end}
use Rattle.line_feed.proofs.Insides.{range-long}
use Rattle.grep_args.specs.Effects.{is_empty}
use Rattle.grep_multi.specs.declared.cut.LineStart.{LineStart}
use Rattle.grep_multi.specs.declared.cut.Reach.{Reach}
use Rattle.grep_multi.specs.Blocks.{end_of, lines_before, last_line}
use Rattle.line_feed.specs.Lines.{row_of}
use Rattle.line_feed.specs.declared.feed.Line.{Line}
use Rattle.grep_multi.specs.Given.{lines_at, EndsAt, Cuts, Extends, Reaches, IsLine}

-- the first line of bytes
abbrev pub first_line : EndKind → ℕ → ℕ → List ℕ → ℕ → Row
first_line kind number offset rest k =
    row_with (take k rest) (slice_range rest k (k + newline_len kind rest k)) number offset

nothing : (rest : List ℕ) → length rest ≡ 0 → rest ≡ []
nothing [] none = refl
nothing (b ∷ rest) none = absurd (omega (arith, none))

no_range : (rest : List ℕ) (k : ℕ) → k ≡ length rest → slice_range rest k (k + 0) ≡ []
no_range rest k all = nothing _ (range-long rest k (k + 0) (omega arith) (omega (arith, all)) ∙ omega arith)

pub line-step : (kind : EndKind) (most number offset : ℕ) (rest : List ℕ) (k : ℕ) → 0 < length rest
    → length rest ≤ most → k ≡ first_newline kind rest
    → (rows_from kind most number offset rest End).rows
    ≡ first_line kind number offset rest k
    ∷ (rows_from kind most (number + 1) (offset + (k + newline_len kind rest k))
    (drop (k + newline_len kind rest k) rest) End).rows
line-step kind most number offset rest k some room is =
    let high = (first-least kind rest).high in
    ⊎_elim (λ l.
    let has : has_no_row kind rest End k ≡ false = no_row-false kind rest End k l
    (λ h. (let e : false ≡ true = h in cc)) in
    ap (λ (r : Rows). r.rows) (rows-row kind most number offset rest End k is has (omega arith)))
    (λ past.
    let whole : k ≡ length rest = omega (arith, high, past, is) in
    let none : has_no_row kind rest End (first_newline kind rest) ≡ true =
    no_row-true kind rest End (first_newline kind rest) (inl (sym is ∙ whole)) in
    let after = k + newline_len kind rest k in
    let without : newline_len kind rest k ≡ 0 = newline-end kind rest k past in
    ap (λ (r : Rows). r.rows) (rows-rest kind most number offset rest End none
    ∙ last-end kind most number offset rest some room)
    ∙ (let front : rest ≡ take k rest = sym (take_all k rest (omega arith)) in
    let newline : [] ≡ slice_range rest k after =
    sym (ap (λ n. slice_range rest k (k + n)) without ∙ no_range rest k whole) in
    let back = ap (λ (r : Rows). r.rows)
    (rows-empty kind most (number + 1) (offset + after) (drop after rest) (drop_all after rest (omega arith))) in
    ap (λ l. row_with l [] number offset ∷ []) front
    ∙ ap (λ l. row_with (take k rest) l number offset ∷ []) newline
    ∙ ap (λ l. first_line kind number offset rest k ∷ l) (sym back)))
    (cases_lt k (length rest))

-- where it ends
pub line-end : (kind : EndKind) (number offset : ℕ) (rest : List ℕ) (k : ℕ) → k ≤ length rest
    → end_of (first_line kind number offset rest k) ≡ offset + (k + newline_len kind rest k)
line-end kind number offset rest k within =
    let n = newline_len kind rest k in
    let fits = newline-within kind rest k within in
    let front = length-take-le k rest within in
    let back = range-long rest k (k + n) (omega arith) fits in
    omega (arith, front, back)

-- whether it has a newline
has_some : (newline : List ℕ) (n : ℕ) → length newline ≡ n → nat_lt 0 n ≡ not (is_empty newline)
has_some [] n e = le-ltb 0 n (omega (arith, e))
has_some (b ∷ newline) n e = lt-ltb 0 n (omega (arith, e))

line-newline : (kind : EndKind) (rest : List ℕ) (k : ℕ) → k ≤ length rest
    → nat_lt 0 (newline_len kind rest k) ≡ not (is_empty (slice_range rest k (k + newline_len kind rest k)))
line-newline kind rest k within =
    let n = newline_len kind rest k in
    has_some _ n (range-long rest k (k + n) (omega arith) (newline-within kind rest k within) ∙ omega arith)

first_or : Row → List Row → Row
first_or other [] = other
first_or other (line ∷ more) = line

module _ (kind : EndKind) (text : List ℕ) where
  pub cut-within : (at k : ℕ) → at ≤ length text → k ≡ first_newline kind (drop at text)
      → at + k + newline_len kind (drop at text) k ≤ length text
  cut-within at k within is =
      let high = (first-least kind (drop at text)).high in
      let long = length-drop at text in
      let fits = newline-within kind (drop at text) k (omega (arith, is, high)) in
      omega (arith, fits, long)

  -- a line that isn't past the end has a byte
  pub cut-some : (at k : ℕ) → at < length text → k ≡ first_newline kind (drop at text)
      → 0 < k + newline_len kind (drop at text) k
  cut-some at k within is =
      let rest = drop at text in
      let first = first-least kind rest in
      let long = length-drop at text in
      ⊎_elim (λ l. let some = first.holds (subst (λ j. j < length rest) is l) in
      let same = ap (newline_len kind rest) is in omega (arith, some, same))
      (λ past. omega (arith, past, long))
      (cases_lt k (length rest))

  pub cut-line : (from : LineStart) (reach : Reach) (k : ℕ) → from.at < length text
      → k ≡ first_newline kind (drop from.at text)
      → reach.behind.at ≡ from.at + k + newline_len kind (drop from.at text) k
      → reach.behind.lines ≡ from.lines + 1
      → reach.has_newline ≡ nat_lt 0 (newline_len kind (drop from.at text) k) → Cuts kind text from reach
  cut-line from reach k some is behind lines newline =
      let rest = drop from.at text in
      let n = newline_len kind rest k in
      let long = length-drop from.at text in
      let high = (first-least kind rest).high in
      let within : k ≤ length rest = omega (arith, is, high) in
      let step = line-step kind (length text) (from.lines + 1) from.at rest k (omega (arith, long))
      (omega (arith, long)) is in
      let to : from.at + (k + n) ≡ reach.behind.at = omega (arith, behind) in
      record {
        line = first_line kind (from.lines + 1) from.at rest k;
        lines =
            step ∙ ap (λ l. first_line kind (from.lines + 1) from.at rest k ∷ l)
            (ap (λ l. (rows_from kind (length text) (from.lines + 1 + 1) (from.at + (k + n)) l End).rows)
            (drop-drop (k + n) from.at text)
            ∙ ap (λ m. (rows_from kind (length text) (from.lines + 1 + 1) m (drop m text) End).rows) to
            ∙ ap (λ m. (rows_from kind (length text) (m + 1) reach.behind.at (drop reach.behind.at text) End).rows)
            (sym lines));
        offset = refl;
        number = refl;
        ends = record {
          at = line-end kind (from.lines + 1) from.at rest k within ∙ to;
          newline = newline ∙ line-newline kind rest k within;
        };
        many = lines;
        some = let more = cut-some from.at k some is in omega (arith, more, behind);
        within = let fits = cut-within from.at k (omega arith) is in omega (arith, fits, behind);
      }

  pub line-is : (from : LineStart) (line : Line) (k : ℕ) → from.at < length text
      → k ≡ first_newline kind (drop from.at text) → line.bytes.now ≡ take k (drop from.at text)
      → line.end.now ≡ slice_range (drop from.at text) k (k + newline_len kind (drop from.at text) k)
      → line.number ≡ from.lines + 1 → line.offset ≡ from.at → IsLine kind text from line
  line-is from line k some is bytes newline number offset =
      let rest = drop from.at text in
      let n = newline_len kind rest k in
      let long = length-drop from.at text in
      let high = (first-least kind rest).high in
      let within : k ≤ length rest = omega (arith, is, high) in
      let front = ap length bytes ∙ length-take-le k rest within in
      let back = ap length newline ∙ range-long rest k (k + n) (omega arith) (newline-within kind rest k within) in
      let size : length line.bytes.now + length line.end.now ≡ k + n = omega (arith, front, back) in
      let step = line-step kind (length text) (from.lines + 1) from.at rest k (omega (arith, long))
      (omega (arith, long)) is in
      let more = cut-some from.at k some is in
      let fits = cut-within from.at k (omega arith) is in
      record {
        lines =
            step ∙ (λ i. row_with (sym bytes i) (sym newline i) (sym number i) (sym offset i)
            ∷ (rows_from kind (length text) (from.lines + 1 + 1) (from.at + (k + n)) (drop (k + n) rest) End).rows)
            ∙ ap (λ l. row_of line ∷ l)
            (ap (λ l. (rows_from kind (length text) (from.lines + 1 + 1) (from.at + (k + n)) l End).rows)
            (drop-drop (k + n) from.at text)
            ∙ ap (λ m. (rows_from kind (length text) (from.lines + 1 + 1) (from.at + m) (drop (from.at + m) text)
            End).rows) (sym size));
        offset = offset;
        number = number;
        some = omega (arith, more, size);
        within = omega (arith, fits, size);
      }

  -- no line begins at the end
  pub lines-end : (at : LineStart) → length text ≤ at.at → lines_at kind text at ≡ []
  lines-end at past =
      ap (λ (r : Rows). r.rows)
      (rows-empty kind (length text) (at.lines + 1) at.at (drop at.at text) (drop_all at.at text past))

  -- the first line begins at the place
  pub first-at : (at : LineStart) → at.at < length text
      → (line : Row) × ((more : List Row) × ((lines_at kind text at ≡ line ∷ more) × (line.offset ≡ at.at)))
  first-at at some =
      let rest = drop at.at text in
      let long = length-drop at.at text in
      let k = first_newline kind rest in (
        first_line kind (at.lines + 1) at.at rest k,
        (
          _,
          (
            line-step kind (length text) (at.lines + 1) at.at rest k (omega (arith, long)) (omega (arith, long)) refl,
            refl,
          ),
        ),
      )

  before-cons : (to : ℕ) (line : Row) (lines : List Row) → to ≤ line.offset → lines_before to (line ∷ lines) ≡ []
  before-cons to line lines past =
      ap (λ t. if t then line ∷ lines_before to lines else []) (le-ltb line.offset to past)

  -- none of the lines from a place on begins before it
  pub before-none : (to : ℕ) (at : LineStart) → to ≤ at.at → lines_before to (lines_at kind text at) ≡ []
  before-none to at past =
      ⊎_elim (λ some.
      let first = first-at at some in
      ap (lines_before to) first.1.1.0 ∙ before-cons to first.0 first.1.0 (subst (λ n. to ≤ n) (sym first.1.1.1) past))
      (λ end. ap (lines_before to) (lines-end at end))
      (cases_lt at.at (length text))

  -- lines were cut up to the place
  pub extends-done : (to : ℕ) (reach : Reach) → to ≤ reach.behind.at → reach.behind.at ≤ length text
      → reach.behind.lines ≤ reach.behind.at → Extends kind text to reach reach
  extends-done to reach far within few =
      let none = before-none to reach.behind far in
      record {
        lines = ap (λ l. l ++ lines_at kind text reach.behind) (sym none);
        ends = λ line ends. subst (λ l. EndsAt (last_line line l) reach) (sym none) ends;
        many = (let zero = ap length none in omega (arith, zero));
        far = far;
        behind = record { later = omega arith; within = within; few = few };
      }

  -- one more line
  pub extends-more : (to : ℕ) (old mid new : Reach) → old.behind.at < to → Cuts kind text old.behind mid
      → Extends kind text to mid new → Extends kind text to old new
  extends-more to old mid new more cuts rest =
      let behind = lines_at kind text mid.behind in
      let is : lines_before to (lines_at kind text old.behind) ≡ cuts.line ∷ lines_before to behind =
      ap (lines_before to) cuts.lines
      ∙ ap (λ t. if t then cuts.line ∷ lines_before to behind else [])
      (lt-ltb cuts.line.offset to (subst (λ n. n < to) (sym cuts.offset) more)) in
      record {
        lines =
            cuts.lines ∙ ap (λ l. cuts.line ∷ l) rest.lines
            ∙ ap (λ l. l ++ lines_at kind text new.behind) (sym is);
        ends = λ line ends. subst (λ l. EndsAt (last_line line l) new) (sym is) (rest.ends cuts.line cuts.ends);
        many = (let long = ap length is in omega (arith, long, rest.many, cuts.many));
        far = rest.far;
        behind = record {
          later = omega (arith, rest.behind.later, cuts.some);
          within = rest.behind.within;
          few = rest.behind.few;
        };
      }

  -- its number
  pub first-number : (at : LineStart) (line : Row) (more : List Row) → at.at < length text
      → lines_at kind text at ≡ line ∷ more → line.number ≡ at.lines + 1
  unfolding first_or
  first-number at line more some is =
      let rest = drop at.at text in
      let long = length-drop at.at text in
      let step = line-step kind (length text) (at.lines + 1) at.at rest (first_newline kind rest) (omega (arith, long))
      (omega (arith, long)) refl in
      ap (λ l. (first_or (row_with [] [] (at.lines + 1) 0) l).number) (sym is ∙ step)
