-- The fields of a feed.
use Rattle.std.proofs.Common.{◌≡◌, ◌≢◌, ◌⊎◌, inl, inr, ℕ, ◌+◌, ◌-◌, ◌<◌, ◌≤◌, List, [], ◌++◌, length, take, drop}
use Rattle.std.proofs.Common.{slice_range, refl, sym, ap, subst, ◌∙◌, arith, ⊎_elim, length-append, length-drop}
use Rattle.std.proofs.Common.{length-take-le}
use Rattle.std.proofs.lemmas.Bool.{cases_lt, cases_eq}
use Rattle.std.proofs.lemmas.List.{drop-take, drop-drop, take-take}
use Rattle.byte_lanes.specs.declared.line_end.EndKind.{EndKind}
use Rattle.byte_lanes.specs.Newlines.{newline_len}
use Rattle.line_feed.specs.declared.feed.LineFeed.TheInside.{Inside}
use Rattle.line_feed.specs.declared.phase.Phase.{Phase}
use Rattle.line_feed.specs.declared.phase.Phase.TheVariants.{Open, Ended, Full}
use Rattle.line_feed.specs.View.{HoldsRow, given}
use Rattle.line_feed.specs.Passes.{skipped}
use Rattle.line_feed.specs.Inside.{IsWhole, IsNear, IsSearched, held_of, view_of}
use Rattle.line_feed.specs.Steps.{MeetsBehind}
use Rattle.line_feed.proofs.Newlines.{newline-far, newline-shorter, newline-drop}

pub range-long : (xs : List ℕ) (a b : ℕ) → a ≤ b → b ≤ length xs → length (slice_range xs a b) ≡ b - a
range-long xs a b le within = let rest = length-drop a xs in length-take-le (b - a) (drop a xs) (omega arith)

pub held-long : (f : Inside) → IsWhole f → length (held_of f) ≡ f.filled - f.start
held-long f i = range-long f.buffer.items f.start f.filled i.held i.filled

-- with a piece more
pub searched-more : (kind : EndKind) (held piece : List ℕ) (n : ℕ) → IsSearched kind held n
    → IsSearched kind (held ++ piece) n
searched-more kind held piece n h k l =
    let far = (h k l).0 in
    let long = length-append held piece in
    (omega arith, newline-far kind held piece k far ∙ (h k l).1)

pub near-more : (kind : EndKind) (held piece : List ℕ) (room : ℕ) → length piece ≤ room → room ≤ 65536
    → (HoldsRow kind held → length held + room ≤ 65536) → IsNear kind (held ++ piece)
near-more kind held piece room fits few near k some =
    let long = length-append held piece in
    let n = newline_len kind (held ++ piece) k in
    ⊎_elim (λ inside.
    let same = newline-shorter kind held piece k (omega arith) (omega arith) in
    let all = near (k, subst (λ m. 0 < m) (sym same) some, λ _. omega arith) in
    omega arith)
    (λ past. omega arith)
    (cases_lt (k + n) (length held))

-- without its first bytes
pub near-drop : (kind : EndKind) (held : List ℕ) (m : ℕ) → IsNear kind held → IsNear kind (drop m held)
near-drop kind held m near k some =
    let same = newline-drop kind held m k in
    let long = length-drop m held in
    let far = near (m + k) (subst (λ n. 0 < n) same some) in
    omega arith

-- parts of a part
range-rest : (xs : List ℕ) (a b m : ℕ) → a + m ≤ b → slice_range xs (a + m) b ≡ drop m (slice_range xs a b)
range-rest xs a b m le =
    let r = b - (a + m) in
    sym (ap (λ n. drop m (take n (drop a xs))) {x = b - a} {y = m + r} (omega arith) ∙ drop-take m r (drop a xs)
    ∙ ap (λ l. take r l) (drop-drop m a xs))

range-front : (xs : List ℕ) (a b e : ℕ) → a + e ≤ b → slice_range xs a (a + e) ≡ take e (slice_range xs a b)
range-front xs a b e le = ap (λ n. take n (drop a xs)) {x = a + e - a} {y = e} (omega arith)
    ∙ sym (take-take e (b - a) (drop a xs) (omega arith))

range-mid : (xs : List ℕ) (a b e n : ℕ) → a + e + n ≤ b
    → slice_range xs (a + e) (a + e + n) ≡ slice_range (slice_range xs a b) e (e + n)
range-mid xs a b e n le =
    range-front xs (a + e) b n le
    ∙ ap (λ l. take n l) (range-rest xs a b e (omega arith))
    ∙ ap (λ k. take k (drop e (slice_range xs a b))) {x = n} {y = e + n - e} (omega arith)

-- so many bytes further on, behind another row
abbrev pub inside_on : Inside → (from to start number row_at offset : ℕ) → Inside
inside_on f from to start number row_at offset = record f {
  from = from;
  to = to;
  start = start;
  searched = 0;
  number = number;
  row_at = row_at;
  offset = offset;
}

module _ (f : Inside) (bytes from to start number row_at offset : ℕ) (i : IsWhole f) (le : bytes ≤ length (held_of f))
    (begin : start ≡ f.start + bytes) where
  rest-on : held_of (inside_on f from to start number row_at offset) ≡ drop bytes (held_of f)
  rest-on =
      let long = held-long f i in
      let ordered = i.held in
      ap (λ a. slice_range f.buffer.items a f.filled) begin
      ∙ range-rest f.buffer.items f.start f.filled bytes (omega arith)

  whole-on : offset ≡ f.offset + bytes → number ≤ offset → from ≤ to → to ≤ start
      → IsWhole (inside_on f from to start number row_at offset)
  whole-on further few row newline =
      let long = held-long f i in
      let ordered = i.held in
      let within = i.filled in
      let taken = i.taken in
      record {
        row = row;
        newline = newline;
        held = omega arith;
        filled = i.filled;
        stored = i.stored;
        number = few;
        taken = omega arith;
        open_few = λ p. (let few = i.open_few p in omega arith);
        ended_few = λ p. (let few = i.ended_few p in omega arith);
        missed_few = λ p. (let few = i.missed_few p in omega arith);
        full = λ p. (let all = i.full p in omega arith);
        searched = omega arith;
        nothing = λ k l. absurd (omega arith);
        near = subst (IsNear f.kind) (sym rest-on) (near-drop f.kind (held_of f) bytes i.near);
      }

-- a row was given
abbrev pub inside_given : Inside → ℕ → ℕ → Inside
inside_given f end newline =
    inside_on f f.start (f.start + end) (f.start + end + newline) (f.number + 1) f.offset (f.offset + (end + newline))

module _ (f : Inside) (end newline : ℕ) (i : IsWhole f) (le : end + newline ≤ length (held_of f)) where
  pub view-given : view_of (inside_given f end newline) ≡ given (view_of f) end newline
  view-given =
      let long = held-long f i in
      let ordered = i.held in
      let front = range-front f.buffer.items f.start f.filled end (omega arith) in
      let mid = range-mid f.buffer.items f.start f.filled end newline (omega arith) in
      let rest = rest-on f (end + newline) f.start (f.start + end) (f.start + end + newline) (f.number + 1) f.offset
      (f.offset + (end + newline)) i le (omega arith) in
      λ k. record {
        kind = f.kind;
        max = f.max;
        row = record { bytes = front k; newline = mid k; number = f.number + 1; offset = f.offset };
        held = rest k;
        stored = length f.buffer.items;
        number = f.number + 1;
        offset = f.offset + (end + newline);
        phase = f.phase;
      }

  pub whole-given : 0 < end + newline → IsWhole (inside_given f end newline)
  whole-given some =
      let number = i.number in
      whole-on f (end + newline) f.start (f.start + end) (f.start + end + newline) (f.number + 1) f.offset
      (f.offset + (end + newline)) i le
      (omega arith) refl (omega arith) (omega arith) (omega arith)

-- rows were passed over
abbrev pub inside_skipped : Inside → ℕ → ℕ → Inside
inside_skipped f bytes rows =
    inside_on f (f.start + bytes) (f.start + bytes) (f.start + bytes) (f.number + rows) (f.offset + bytes)
    (f.offset + bytes)

module _ (f : Inside) (bytes rows : ℕ) (i : IsWhole f) (le : bytes ≤ length (held_of f)) where
  pub view-skipped : view_of (inside_skipped f bytes rows) ≡ skipped (view_of f) bytes rows
  view-skipped =
      let at = f.start + bytes in
      let none : slice_range f.buffer.items at at ≡ [] =
      ap (λ n. take n (drop at f.buffer.items)) {x = at - at} {y = 0} (omega arith) in
      let rest = rest-on f bytes at at at (f.number + rows) (f.offset + bytes) (f.offset + bytes) i le refl in
      λ k. record {
        kind = f.kind;
        max = f.max;
        row = record { bytes = none k; newline = none k; number = f.number + rows; offset = f.offset + bytes };
        held = rest k;
        stored = length f.buffer.items;
        number = f.number + rows;
        offset = f.offset + bytes;
        phase = f.phase;
      }

  pub whole-skipped : rows ≤ bytes → IsWhole (inside_skipped f bytes rows)
  whole-skipped few =
      let at = f.start + bytes in
      let number = i.number in
      whole-on f bytes at at at (f.number + rows) (f.offset + bytes) (f.offset + bytes) i le refl refl (omega arith)
      (omega arith) (omega arith)

-- what is met behind a piece
pub phase-cases : (n left : ℕ) (p : Phase) → MeetsBehind n left p
    → ((n ≡ 0) × (p ≡ Ended)) ⊎ (((0 < n) × (n ≡ left) × (p ≡ Full)) ⊎ ((0 < n) × (n ≢ left) × (p ≡ Open)))
phase-cases n left p meets =
    ⊎_elim (λ none. inl (none, meets.ended none))
    (λ other.
    let some : 0 < n = ⊎_elim (λ l. l) (λ z. absurd (other (omega arith))) (cases_lt 0 n) in
    ⊎_elim (λ all. inr (inl (some, all, meets.full some all))) (λ few. inr (inr (some, few, meets.goes_on some few)))
    (cases_eq n left))
    (cases_eq n 0)

-- from a place on before which no newline begins
pub whole-searched : (f : Inside) (n : ℕ) → IsWhole f → n ≤ length (held_of f) → IsSearched f.kind (held_of f) n
    → IsWhole (record f { searched = n })
whole-searched f n i within none =
    let long = held-long f i in
    record {
      row = i.row;
      newline = i.newline;
      held = i.held;
      filled = i.filled;
      stored = i.stored;
      number = i.number;
      taken = i.taken;
      open_few = i.open_few;
      ended_few = i.ended_few;
      missed_few = i.missed_few;
      full = i.full;
      searched = omega (arith, long, within);
      nothing = none;
      near = i.near;
    }
