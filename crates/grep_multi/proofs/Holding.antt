-- The whole lines before a read that failed, and the input that is held.
use Rattle.std.proofs.Common.{◌≡◌, ◌≢◌, ◌∙◌, inl, ℕ, ◌+◌, ◌-◌, ◌<◌, ◌≤◌, true, false}
use Rattle.std.proofs.Common.{List, [], ◌∷◌, ◌++◌, length, take, drop, slice_range, refl, sym, ap, subst, arith}
use Rattle.std.proofs.Common.{⊎_elim, append-nil, append_assoc, length-append, length-drop, Ok, Err, take-add}
use Rattle.std.proofs.Common.{Result}
use Rattle.std.proofs.lemmas.Bool.{cases_lt, both_ways}
use Rattle.std.proofs.lemmas.List.{take_all, take-append-drop}
use Rattle.std.proofs.Math.Seq.{take-append_seam}
use Rattle.byte_lanes.specs.declared.line_end.EndKind.{EndKind}
use Rattle.byte_lanes.specs.Newlines.{newline_len}
use Rattle.byte_lanes.proofs.lemmas.NewlineLemmas.{rest_whole}
use Rattle.line_feed.specs.Rows.{Row, Rows, Ending, End, Fault, Limit, first_newline, has_no_row, rows_from}
use Rattle.line_feed.proofs.Newlines.{newline-within}
use Rattle.line_feed.proofs.RowLemmas.{first-least, no_row-true, rows-rest, rows-row, last-cut, sure-len}
use Rattle.std.specs.Io.KnownBytes.{Consumes}
use Rattle.pcre_io.specs.Told.{Told}
use Rattle.line_feed.specs.Rows.{Input}
use Rattle.line_feed.specs.declared.phase.Phase.{Phase}
use Rattle.line_feed.specs.declared.phase.Phase.TheVariants as phase
use Rattle.grep_multi.specs.declared.held.Came.TheVariants as came
use Rattle.grep_multi.specs.declared.held.Held.{Held}
use Rattle.grep_multi.specs.declared.held.HoldError.{HoldError}
use Rattle.grep_multi.specs.declared.held.HoldError.TheVariants.{TooLarge, Memory}
use Rattle.grep_multi.specs.Taken.{Takes, TakesUpTo}
use Rattle.grep_multi.specs.Held.{bytes_of, lines_of, held_by, HoldsInput, Holds, CountsFault, IsGone}
use Rattle.grep_multi.proofs.Taking.{takes-stands}

-- these bytes were passed over, all of whole lines
pub record Passed (kind : EndKind) (bytes rest : List ℕ) : Type 0 where
  pub front : List ℕ
  pub number : ℕ
  pub offset : ℕ
  pub all : bytes ≡ front ++ rest
  pub lines : bytes_of (lines_of kind bytes Fault)
      ≡ front ++ bytes_of (rows_from kind (length bytes) number offset rest Fault).rows

pub passed-none : (kind : EndKind) (bytes : List ℕ) → Passed kind bytes bytes
passed-none kind bytes = record { front = []; number = 1; offset = 0; all = refl; lines = refl }

-- a whole line has a byte
pub passed-some : (kind : EndKind) (rest : List ℕ) (k n : ℕ) → k ≡ first_newline kind rest
    → n ≡ newline_len kind rest k → has_no_row kind rest Fault k ≡ false → 0 < k + n
passed-some kind rest k n is len whole =
    let first = first-least kind rest in
    let high = first.high in
    ⊎_elim (λ l.
    let some = first.holds (subst (λ j. j < length rest) is l) in
    let same = ap (newline_len kind rest) is in
    omega (arith, some, same, len))
    (λ past. absurd (both_ways _ whole (no_row-true kind rest Fault k (inl (omega (arith, is, past, high))))))
    (cases_lt k (length rest))

module _ (kind : EndKind) (bytes rest : List ℕ) (p : Passed kind bytes rest) where
  pub room : length rest ≤ length bytes
  room = let e = ap length p.all in omega (arith, e, length-append p.front rest)

  pub passed-within : (k n : ℕ) → k ≡ first_newline kind rest → n ≡ newline_len kind rest k → k + n ≤ length rest
  passed-within k n is len =
      let high = (first-least kind rest).high in
      let fits = newline-within kind rest k (omega (arith, is, high)) in omega (arith, fits, len)

  -- a whole line more
  pub passed-more : (k n : ℕ) → k ≡ first_newline kind rest → n ≡ newline_len kind rest k
      → has_no_row kind rest Fault k ≡ false → Passed kind bytes (drop (k + n) rest)
  passed-more k n is len whole =
      let high = (first-least kind rest).high in
      let l = newline_len kind rest k in
      let within : k ≤ length rest = omega (arith, is, high) in
      let line : take k rest ++ slice_range rest k (k + l) ≡ take (k + l) rest =
      ap (λ m. take k rest ++ take m (drop k rest)) {x = k + l - k} {y = l} (omega arith) ∙ sym (take-add k l rest) in
      let less = room in
      let more = rows_from kind (length bytes) (p.number + 1) (p.offset + (k + l)) (drop (k + l) rest) Fault in
      let P : ℕ → Type 0 = λ m. Passed kind bytes (drop (k + m) rest) in
      subst P (sym len)
      (record {
        front = p.front ++ take (k + l) rest;
        number = p.number + 1;
        offset = p.offset + (k + l);
        all =
            p.all ∙ ap (λ x. p.front ++ x) (sym (take-append-drop (k + l) rest))
            ∙ sym (append_assoc p.front (take (k + l) rest) (drop (k + l) rest));
        lines =
            p.lines
            ∙ ap (λ (r : Rows). p.front ++ bytes_of r.rows)
            (rows-row kind (length bytes) p.number p.offset rest Fault k is whole (omega (arith, within, less)))
            ∙ ap (λ x. p.front ++ (x ++ bytes_of more.rows)) line
            ∙ sym (append_assoc p.front (take (k + l) rest) (bytes_of more.rows));
      })

  pub passed-next : (k n : ℕ) → k ≡ first_newline kind rest → n ≡ newline_len kind rest k
      → has_no_row kind rest Fault k ≡ false
      → Passed kind bytes (take (length rest - (k + n)) (drop (k + n) rest))
  passed-next k n is len whole =
      subst (Passed kind bytes) (sym (rest_whole rest (k + n))) (passed-more k n is len whole)

  pub passed-shorter : (k n : ℕ) → k ≡ first_newline kind rest → n ≡ newline_len kind rest k
      → has_no_row kind rest Fault k ≡ false
      → length (take (length rest - (k + n)) (drop (k + n) rest)) < length rest
  passed-shorter k n is len whole =
      let some = passed-some kind rest k n is len whole in
      let fits = passed-within k n is len in
      let same = ap length (rest_whole rest (k + n)) in
      omega (arith, some, fits, same, length-drop (k + n) rest)

  -- no whole line is left
  pub passed-stops : has_no_row kind rest Fault (first_newline kind rest) ≡ true
      → take (length bytes - length rest) bytes ≡ bytes_of (lines_of kind bytes Fault)
  passed-stops none =
      let long = ap length p.all in
      let sum = length-append p.front rest in
      let less = room in
      let s = (sure-len kind rest).0 in
      let front : take (length bytes - length rest) bytes ≡ p.front =
      ap (λ k. take k bytes) {x = length bytes - length rest} {y = length p.front} (omega (arith, long, sum))
      ∙ ap (take (length p.front)) p.all ∙ take-append_seam p.front rest in
      front ∙ sym (append-nil p.front)
      ∙ sym (p.lines ∙ ap (λ (r : Rows). p.front ++ bytes_of r.rows)
      (rows-rest kind (length bytes) p.number p.offset rest Fault none
      ∙ last-cut kind (length bytes) p.number p.offset rest Fault refl (omega (arith, s, less))))

-- what is held of the input

consumed : (bytes : List ℕ) (before after : Told) (p : Phase) → Takes [] bytes before after p
    → length bytes ≤ 16842752 → (size : ℕ) (result : Result Held HoldError) → IsGone (length bytes) size result
    → (l : List ℕ) × Consumes before.left after.left l × (length l ≤ 16842752) × IsGone (length l) size result
consumed bytes before after p t few size result gone =
    (bytes, subst (Consumes before.left after.left) (sym t.all) t.left, few, gone)

module _ (kind : EndKind) (bytes : List ℕ) (before after : Told) where
  pub too-large : TakesUpTo 16777216 bytes before after came.More → HoldsInput kind before after (Err TooLarge)
  too-large t =
      let s = takes-stands bytes before after phase.Open t.takes in
      record {
        input = s.input;
        hears = s.hears;
        holds = (let long = ap length s.bytes in let most = t.more refl in
            omega (arith, long, most, length-append bytes s.more));
        counts = t.takes.met.0;
        taken = consumed bytes before after phase.Open t.takes t.room (length s.input.bytes) (Err TooLarge) tt;
      }

  pub no-memory : Takes [] bytes before after phase.Open → length bytes ≤ 16777216 + 65536
      → HoldsInput kind before after (Err Memory)
  no-memory t few =
      let s = takes-stands bytes before after phase.Open t in
      record {
        input = s.input;
        hears = s.hears;
        holds = tt;
        counts = t.met.0;
        taken = consumed bytes before after phase.Open t few (length s.input.bytes) (Err Memory) tt;
      }

  end-whole : End ≢ Limit
  end-whole e = cc

  fault-whole : Fault ≢ Limit
  fault-whole e = cc

  pub held-whole : (held : Held) → TakesUpTo 16777216 bytes before after came.End → held.text ≡ bytes
      → held.faulted ≡ false → HoldsInput kind before after (Ok held)
  held-whole held t text faulted =
      let few : length bytes ≤ 16777216 = t.all (λ e. cc) in
      let s = takes-stands bytes before after phase.Ended t.takes in
      let all : s.input.bytes ≡ bytes = s.bytes ∙ ap (λ l. bytes ++ l) s.follows.0 ∙ append-nil bytes in
      let i : Input = record { bytes = bytes; ending = End } in
      let is : i ≡ s.input = sym (λ k. record { bytes = all k; ending = s.follows.1 k }) in
      record {
        input = s.input;
        hears = s.hears;
        holds = subst (λ x. Holds kind x held) is
            (record {
              few = few;
              short = (let same = ap length text in omega (arith, same, few));
              text = text;
              faulted = faulted;
              whole = λ e. end-whole e;
            });
        counts = subst (λ b. CountsFault b before.faults after.faults) (sym faulted) t.takes.met.0;
        taken = consumed bytes before after phase.Ended t.takes t.room (length s.input.bytes) (Ok held)
            (let same = ap length all in omega (arith, same));
      }

  pub held-part : (held : Held) → TakesUpTo 16777216 bytes before after came.Failed
      → length held.text ≤ length bytes → held.text ≡ bytes_of (lines_of kind bytes Fault) → held.faulted ≡ true
      → HoldsInput kind before after (Ok held)
  held-part held t less text faulted =
      let few : length bytes ≤ 16777216 = t.all (λ e. cc) in
      let s = takes-stands bytes before after phase.Missed t.takes in
      let all : s.input.bytes ≡ bytes = s.bytes ∙ ap (λ l. bytes ++ l) s.follows.0 ∙ append-nil bytes in
      let i : Input = record { bytes = bytes; ending = Fault } in
      let is : i ≡ s.input = sym (λ k. record { bytes = all k; ending = s.follows.1 k }) in
      record {
        input = s.input;
        hears = s.hears;
        holds = subst (λ x. Holds kind x held) is
            (record {
              few = few;
              short = omega (arith, less, few);
              text = text;
              faulted = faulted;
              whole = λ e. fault-whole e;
            });
        counts = subst (λ b. CountsFault b before.faults after.faults) (sym faulted) t.takes.met.0;
        taken = consumed bytes before after phase.Missed t.takes t.room (length s.input.bytes) (Ok held)
            (let same = ap length all in omega (arith, same));
      }
