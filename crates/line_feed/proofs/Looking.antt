-- What the bytes that a feed holds tell of its rows, whatever follows.
use Rattle.std.proofs.Common.{min, ◌≡◌, ◌≢◌, ◌⊎◌, inl, inr, ℕ, ◌+◌, ◌-◌, ◌<◌, ◌≤◌, true, false, ◌&&◌, eqb, List, []}
use Rattle.std.proofs.Common.{◌∷◌, ◌++◌, length, take, drop, slice_range, get_or, refl, sym, ap, subst, ◌∙◌, arith}
use Rattle.std.proofs.Common.{⊎_elim, length-append, length-drop, length-take-le, append-nil, ◌^◌}
use Rattle.std.proofs.lemmas.Bool.{cases_Bool, cases_lt, both_ways, eq-eqb}
use Rattle.std.proofs.lemmas.List.{take-append-le, drop-append-le, take_all, drop_all, take-append-drop}
use Rattle.std.proofs.Math.Seq.{take-add}
use Rattle.byte_lanes.specs.declared.line_end.EndKind.{EndKind}
use Rattle.byte_lanes.specs.Newlines.{newline_len, has_crlf}
use Rattle.line_feed.specs.declared.phase.Phase.{Phase}
use Rattle.line_feed.specs.declared.phase.Phase.TheVariants.{Open, Ended, Missed, Full, Closed}
use Rattle.line_feed.specs.Rows.{Ending, End, Fault, Limit, Finish, At, Long, none_for, ahead, first_newline}
use Rattle.line_feed.specs.Rows.{ends_open, is_cut, sure_len, has_no_row, last_rows, rows_from}
use Rattle.line_feed.specs.View.{Feed, Follows, HasNoMore, HoldsRow, given, next_row}
use Rattle.line_feed.specs.Inside.{IsNear, IsSearched}
use Rattle.line_feed.specs.Steps.{FirstEnd, EndsRow, EndsNone, IsNext, IsLast}
use Rattle.line_feed.specs.Answers.{Cuts}
use Rattle.line_feed.proofs.Newlines.{newline-within, newline-most, newline-far, newline-before, newline-here}
use Rattle.line_feed.proofs.Newlines.{newline-end}
use Rattle.line_feed.proofs.RowLemmas.{IsFirst, first-is, first-least, no_row-true, no_row-false, rows-row}
use Rattle.line_feed.proofs.RowLemmas.{rows-over, rows-rest, rows-empty, sure-len, last-long, last-cut}
use Rattle.line_feed.proofs.RowLemmas.{last-long_end, last-end, none-cut}

-- a newline stays the first one with more bytes behind
pub least-more : (kind : EndKind) (held more : List ℕ) (k : ℕ) → IsFirst kind held k → k < length held
    → (ends_open kind held ≡ true → k + 1 < length held)
    → IsFirst kind (held ++ more) k × (newline_len kind (held ++ more) k ≡ newline_len kind held k)
least-more kind held more k first l settled =
    let there : 0 < newline_len kind held k = first.holds l in
    let long = length-append held more in
    let apart = λ (crlf : has_crlf kind ≡ true) (cr : get_or held k 0 ≡ 13).
    ⊎_elim (λ (more : k + 1 < length held). let h : k + 2 ≤ length held = omega arith in h)
    (λ (last : length held ≤ k + 1).
    let back : length held - 1 ≡ k = omega arith in
    let is_cr : eqb (get_or held (length held - 1) 0) 13 ≡ true = ap (λ q. eqb (get_or held q 0) 13) back
    ∙ eq-eqb _ _ cr in
    let h = settled (λ i. crlf i && is_cr i) in
    absurd (omega arith))
    (cases_lt (k + 1) (length held)) in
    let same = newline-here kind held more k l there apart in (
      record {
        low = omega arith;
        high = omega arith;
        before = λ j a b some.
            let none : newline_len kind held j ≡ 0 = ⊎_elim (λ z. absurd (first.before j a b z))
            (λ z. let e : newline_len kind held j ≡ 0 = omega arith in e) (cases_lt 0 (newline_len kind held j))
            in
            let still = newline-before kind held more j k b l there none in
            omega arith;
        holds = λ _. omega arith;
      },
      same,
    )

phase-ended : (p : Phase) → (p ≡ Ended) ⊎ (p ≢ Ended)
phase-ended Open = inr (λ e. cc)
phase-ended Ended = inl refl
phase-ended Missed = inr (λ e. cc)
phase-ended Full = inr (λ e. cc)
phase-ended Closed = inr (λ e. cc)

-- behind the bytes held, whatever follows, the first newline is the same and ends a row
pub record Stays (f : Feed) (k len : ℕ) (more : List ℕ) (ending : Ending) : Type 0 where
  pub first : k ≡ first_newline f.kind (f.held ++ more)
  pub long : newline_len f.kind (f.held ++ more) k ≡ len
  pub row : has_no_row f.kind (f.held ++ more) ending k ≡ false

pub inside : (f : Feed) (k len : ℕ) → FirstEnd f k len → EndsRow f k len → k < length f.held
inside f k len first row =
    let high = first.least.high in
    let some = row.some in
    let long = first.long in
    ⊎_elim (λ l. l) (λ past. let none = newline-end f.kind f.held k past in absurd (omega arith))
    (cases_lt k (length f.held))

stays-settled : (f : Feed) (k len : ℕ) (more : List ℕ) (ending : Ending) → FirstEnd f k len → k < length f.held
    → (ends_open f.kind f.held ≡ true → k + 1 < length f.held) → Stays f k len more ending
stays-settled f k len more ending first l settled =
    let h = least-more f.kind f.held more k first.least l settled in
    let long = length-append f.held more in
    record {
      first = first-is f.kind (f.held ++ more) k h.0;
      long = h.1 ∙ sym first.long;
      row = no_row-false f.kind (f.held ++ more) ending k (omega arith)
          (λ cut opened. ⊎_elim (λ (some : 0 < length more). let e : k + 1 < length (f.held ++ more) = omega arith in e)
          (λ (none : length more ≤ 0). let nothing = empty more none in let same = ap (λ q. f.held ++ q) nothing
          ∙ append-nil f.held in subst (λ q. k + 1 < length q) (sym same)
          (settled (subst (λ q. ends_open f.kind q ≡ true) same opened)))
          (cases_lt 0 (length more)));
    }
  where
    empty : (l : List ℕ) → length l ≤ 0 → l ≡ []
    empty [] h = refl
    empty (x ∷ l) h = absurd (omega arith)

pub stays : (f : Feed) (k len : ℕ) → FirstEnd f k len → EndsRow f k len → (more : List ℕ) (ending : Ending)
    → Follows f.phase more ending → Stays f k len more ending
stays f k len first row more ending follows =
    let l = inside f k len first row in
    ⊎_elim (λ ended.
    let end = subst (λ p. Follows p more ending) ended follows in
    let same : f.held ≡ f.held ++ more = sym (ap (λ q. f.held ++ q) end.0 ∙ append-nil f.held) in
    record {
      first = subst (λ q. k ≡ first_newline f.kind q) same (first-is f.kind f.held k first.least);
      long = subst (λ q. newline_len f.kind q k ≡ len) same (sym first.long);
      row = subst (λ q. has_no_row f.kind q ending k ≡ false) same
          (no_row-false f.kind f.held ending k l (λ cut _. absurd (both_ways _ (ap is_cut end.1) cut)));
    })
    (λ going. stays-settled f k len more ending first l (row.settled going))
    (phase-ended f.phase)

-- a row that is next
pub next-whole : (f : Feed) (k len : ℕ) → FirstEnd f k len → EndsRow f k len → k ≤ f.max → IsNear f.kind f.held
    → IsNext f k len
next-whole f k len first row room near =
    let l = inside f k len first row in
    let some = row.some in
    let long = first.long in
    let there : 0 < newline_len f.kind f.held k = omega arith in
    let within = newline-within f.kind f.held k (omega arith) in
    let most = newline-most f.kind f.held k in
    let close = near k there in
    record {
      some = omega arith;
      within = omega arith;
      room = room;
      plain = λ j l. ⊎_elim (λ some_there. absurd (first.least.before j (omega arith) l some_there))
          (λ z. let e : newline_len f.kind f.held j ≡ 0 = omega arith in e)
          (cases_lt 0 (newline_len f.kind f.held j));
      near = omega arith;
      small = omega arith;
      rows = λ more ending follows.
          let h = stays f k len first row more ending follows in
          let bytes = f.held ++ more in
          let front : take k bytes ≡ take k f.held = take-append-le k f.held more (omega arith) in
          let behind : drop (k + len) bytes ≡ drop (k + len) f.held ++ more =
          drop-append-le (k + len) f.held more (omega arith) in
          let newline : slice_range bytes k (k + len) ≡ slice_range f.held k (k + len) =
          ap (λ q. take (k + len - k) q) (drop-append-le k f.held more (omega arith))
          ∙ take-append-le (k + len - k) (drop k f.held) more (omega (arith, length-drop k f.held)) in
          rows-row f.kind f.max (f.number + 1) f.offset bytes ending k h.first h.row room
          ∙ ap (λ n. ahead (record {
            bytes = take k bytes;
            newline = slice_range bytes k (k + n);
            number = f.number + 1;
            offset = f.offset;
          })
          (rows_from f.kind f.max (f.number + 1 + 1) (f.offset + (k + n)) (drop (k + n) bytes) ending)) h.long
          ∙ (λ i. ahead (record { bytes = front i; newline = newline i; number = f.number + 1; offset = f.offset })
          (rows_from f.kind f.max (f.number + 1 + 1) (f.offset + (k + len)) (behind i) ending));
    }

-- a row that is too long
pub over-whole : (f : Feed) (k len : ℕ) → FirstEnd f k len → EndsRow f k len → f.max < k
    → HasNoMore f (Long (f.number + 1))
over-whole f k len first row over more ending follows =
    let h = stays f k len first row more ending follows in
    rows-over f.kind f.max (f.number + 1) f.offset (f.held ++ more) ending k h.first h.row over

-- no whole row, and more bytes than a row may have
pub over-far : (f : Feed) → ¬ HoldsRow f.kind f.held → f.max + 3 ≤ length f.held → HasNoMore f (Long (f.number + 1))
over-far f none far more ending follows =
    let bytes = f.held ++ more in
    let k = first_newline f.kind bytes in
    let first = first-least f.kind bytes in
    let long = length-append f.held more in
    let over : f.max < k =
    ⊎_elim (λ l. l) (λ near.
    let there : 0 < newline_len f.kind bytes k = first.holds (omega arith) in
    let same = newline-far f.kind f.held more k (omega arith) in
    absurd (none (k, subst (λ n. 0 < n) same there, λ _. omega arith)))
    (cases_lt f.max k) in
    ⊎_elim (λ rest. rows-rest f.kind f.max (f.number + 1) f.offset bytes ending rest
    ∙ last-long f.kind f.max (f.number + 1) f.offset bytes ending
    (let s = sure-len f.kind bytes in let high = s.1 in omega arith))
    (λ row. rows-over f.kind f.max (f.number + 1) f.offset bytes ending k refl row over)
    (cases_Bool (has_no_row f.kind bytes ending k))

-- where only this ending can follow
no_more-at : (f : Feed) (ending : Ending) (finish : Finish)
    → ((more : List ℕ) (e : Ending) → Follows f.phase more e → (more ≡ []) × (e ≡ ending))
    → rows_from f.kind f.max (f.number + 1) f.offset f.held ending ≡ none_for finish
    → HasNoMore f finish
no_more-at f ending finish only is more e follows =
    let h = only more e follows in
    ap (λ q. rows_from f.kind f.max (f.number + 1) f.offset q e) (ap (λ q. f.held ++ q) h.0 ∙ append-nil f.held)
    ∙ ap (λ q. rows_from f.kind f.max (f.number + 1) f.offset f.held q) h.1 ∙ is

only-ended : (f : Feed) → f.phase ≡ Ended → (more : List ℕ) (e : Ending) → Follows f.phase more e
    → (more ≡ []) × (e ≡ End)
only-ended f at more e follows = subst (λ p. Follows p more e) at follows

only-missed : (f : Feed) → f.phase ≡ Missed → (more : List ℕ) (e : Ending) → Follows f.phase more e
    → (more ≡ []) × (e ≡ Fault)
only-missed f at more e follows = subst (λ p. Follows p more e) at follows

only-full : (f : Feed) → f.phase ≡ Full → (more : List ℕ) (e : Ending) → Follows f.phase more e
    → (more ≡ []) × (e ≡ Limit)
only-full f at more e follows = subst (λ p. Follows p more e) at follows

cut-rows : (f : Feed) (ending : Ending) → ¬ HoldsRow f.kind f.held → is_cut ending ≡ true
    → sure_len f.kind f.held ≤ f.max → rows_from f.kind f.max (f.number + 1) f.offset f.held ending ≡ none_for
    (At ending)
cut-rows f ending none cut room = rows-rest f.kind f.max (f.number + 1) f.offset f.held ending
    (none-cut f.kind f.held ending none cut) ∙ last-cut f.kind f.max (f.number + 1) f.offset f.held ending cut room

cut-over : (f : Feed) (ending : Ending) → ¬ HoldsRow f.kind f.held → is_cut ending ≡ true
    → f.max < sure_len f.kind f.held → rows_from f.kind f.max (f.number + 1) f.offset f.held ending ≡ none_for
    (Long (f.number + 1))
cut-over f ending none cut over = rows-rest f.kind f.max (f.number + 1) f.offset f.held ending
    (none-cut f.kind f.held ending none cut) ∙ last-long f.kind f.max (f.number + 1) f.offset f.held ending over

pub missed-stops : (f : Feed) → f.phase ≡ Missed → ¬ HoldsRow f.kind f.held → sure_len f.kind f.held ≤ f.max
    → HasNoMore f (At Fault)
missed-stops f at none room = no_more-at f Fault (At Fault) (only-missed f at) (cut-rows f Fault none refl room)

pub missed-over : (f : Feed) → f.phase ≡ Missed → ¬ HoldsRow f.kind f.held → f.max < sure_len f.kind f.held
    → HasNoMore f (Long (f.number + 1))
missed-over f at none over = no_more-at f Fault (Long (f.number + 1)) (only-missed f at)
    (cut-over f Fault none refl over)

pub full-stops : (f : Feed) → f.phase ≡ Full → ¬ HoldsRow f.kind f.held → sure_len f.kind f.held ≤ f.max
    → HasNoMore f (At Limit)
full-stops f at none room = no_more-at f Limit (At Limit) (only-full f at) (cut-rows f Limit none refl room)

pub full-over : (f : Feed) → f.phase ≡ Full → ¬ HoldsRow f.kind f.held → f.max < sure_len f.kind f.held
    → HasNoMore f (Long (f.number + 1))
full-over f at none over = no_more-at f Limit (Long (f.number + 1)) (only-full f at) (cut-over f Limit none refl over)

pub ended-stops : (f : Feed) → f.phase ≡ Ended → f.held ≡ [] → HasNoMore f (At End)
ended-stops f at none = no_more-at f End (At End) (only-ended f at)
    (rows-empty f.kind f.max (f.number + 1) f.offset f.held none)

end-rest : (f : Feed) → first_newline f.kind f.held ≡ length f.held
    → rows_from f.kind f.max (f.number + 1) f.offset f.held End ≡ last_rows f.kind f.max (f.number + 1) f.offset
    f.held End
end-rest f plain = rows-rest f.kind f.max (f.number + 1) f.offset f.held End
    (no_row-true f.kind f.held End _ (inl plain))

pub ended-over : (f : Feed) → f.phase ≡ Ended → first_newline f.kind f.held ≡ length f.held → f.max < length f.held
    → HasNoMore f (Long (f.number + 1))
ended-over f at plain over = no_more-at f End (Long (f.number + 1)) (only-ended f at)
    (end-rest f plain ∙ last-long_end f.kind f.max (f.number + 1) f.offset f.held over)

-- a last row without newline
pub ended-last : (f : Feed) → f.phase ≡ Ended → first_newline f.kind f.held ≡ length f.held → 0 < length f.held
    → length f.held ≤ f.max → IsNext f (length f.held) 0
ended-last f at plain some room = record {
  some = omega arith;
  within = omega arith;
  room = room;
  plain = λ j l.
      let first = first-least f.kind f.held in
      ⊎_elim (λ some_there. absurd (first.before j (omega arith) (omega arith) some_there))
      (λ z. let e : newline_len f.kind f.held j ≡ 0 = omega arith in e)
      (cases_lt 0 (newline_len f.kind f.held j));
  near = omega arith;
  small = omega arith;
  rows = λ more e follows.
      let h = only-ended f at more e follows in
      let n = length f.held in
      let whole : f.held ≡ take n f.held = sym (take_all n f.held (omega arith)) in
      let nothing : drop (n + 0) f.held ++ more ≡ [] = ap (λ q. drop (n + 0) f.held ++ q) h.0
      ∙ append-nil (drop (n + 0) f.held) ∙ drop_all (n + 0) f.held (omega arith) in
      let no_newline : [] ≡ slice_range f.held n (n + 0) =
      ap (λ q. take q (drop n f.held)) {x = 0} {y = n + 0 - n} (omega arith) in
      let after = rows-empty f.kind f.max (f.number + 1 + 1) (f.offset + (n + 0)) (drop (n + 0) f.held ++ more)
      nothing in
      ap (λ q. rows_from f.kind f.max (f.number + 1) f.offset q e) (ap (λ q. f.held ++ q) h.0 ∙ append-nil f.held)
      ∙ ap (λ q. rows_from f.kind f.max (f.number + 1) f.offset f.held q) h.1
      ∙ end-rest f plain
      ∙ last-end f.kind f.max (f.number + 1) f.offset f.held some room
      ∙ (λ i. ahead (record { bytes = whole i; newline = no_newline i; number = f.number + 1; offset = f.offset })
      (none_for (At End)))
      ∙ (λ i. ahead (next_row f n 0) (sym after i))
      ∙ ap (λ q. ahead (next_row f n 0) (rows_from f.kind f.max (f.number + 1 + 1) (f.offset + (n + 0))
      (drop (n + 0) f.held ++ more) q)) (sym h.1);
}

-- the first newline of bytes that hold no whole row
pub none-whole : (f : Feed) (at len : ℕ) → FirstEnd f at len
    → (0 < len → (f.phase ≢ Ended) × (ends_open f.kind f.held ≡ true) × (length f.held ≤ at + 1)) → EndsNone f
none-whole f at len first part = record {
  none = λ (k, there, settled).
      let before = λ (l : k < at). first.least.before k (omega arith) l there in
      let in_it : k < length f.held = ⊎_elim (λ l. l) (λ past. let z = newline-end f.kind f.held k past in
      absurd (omega arith)) (cases_lt k (length f.held)) in
      ⊎_elim (λ l. absurd (before l)) (λ back.
      let some : 0 < len = subst (λ n. 0 < n) (sym first.long) (first.least.holds (omega arith)) in
      let open_at = part some in
      let more = settled open_at.1 in
      let last = open_at.2 in
      absurd (omega arith))
      (cases_lt k at);
  plain = λ ended.
      let high = first.least.high in
      ⊎_elim (λ l. let some : 0 < len = subst (λ n. 0 < n) (sym first.long) (first.least.holds l) in
      absurd ((part some).0 ended))
      (λ past. sym (first-is f.kind f.held at first.least) ∙ (let e : at ≡ length f.held = omega arith in e))
      (cases_lt at (length f.held));
}

-- no row is left
pub last-ended : (f : Feed) → f.phase ≡ Ended → f.held ≡ [] → IsLast f
last-ended f at none = record {
  goes_on = λ e. absurd (let q : Open ≡ Ended = sym e ∙ at in cc);
  ended = λ _. (none, ended-stops f at none);
  missed = λ e. absurd (let q : Missed ≡ Ended = sym e ∙ at in cc);
  full = λ e. absurd (let q : Full ≡ Ended = sym e ∙ at in cc);
}

pub last-missed : (f : Feed) → f.phase ≡ Missed → ¬ HoldsRow f.kind f.held → sure_len f.kind f.held ≤ f.max → IsLast f
last-missed f at none room = record {
  goes_on = λ e. absurd (let q : Open ≡ Missed = sym e ∙ at in cc);
  ended = λ e. absurd (let q : Ended ≡ Missed = sym e ∙ at in cc);
  missed = λ _. missed-stops f at none room;
  full = λ e. absurd (let q : Full ≡ Missed = sym e ∙ at in cc);
}

pub last-full : (f : Feed) → f.phase ≡ Full → ¬ HoldsRow f.kind f.held → sure_len f.kind f.held ≤ f.max → IsLast f
last-full f at none room = record {
  goes_on = λ e. absurd (let q : Open ≡ Full = sym e ∙ at in cc);
  ended = λ e. absurd (let q : Ended ≡ Full = sym e ∙ at in cc);
  missed = λ e. absurd (let q : Missed ≡ Full = sym e ∙ at in cc);
  full = λ _. full-stops f at none room;
}

-- the places that need no further search
pub searched-part : (kind : EndKind) (held : List ℕ) → ¬ HoldsRow kind held → IsSearched kind held (length held - 2)
searched-part kind held none k l = (
  omega arith,
  ⊎_elim (λ some. absurd (none (k, some, λ _. omega arith)))
      (λ z. let e : newline_len kind held k ≡ 0 = omega arith in e) (cases_lt 0 (newline_len kind held k)),
)

-- the places before the first newline
pub searched-end : (f : Feed) (at len : ℕ) → FirstEnd f at len → IsSearched f.kind f.held (min at (length f.held - 2))
searched-end f at len first k l = (
  omega arith,
  ⊎_elim (λ some. absurd (first.least.before k (omega arith) (omega arith) some))
      (λ z. let e : newline_len f.kind f.held k ≡ 0 = omega arith in e) (cases_lt 0 (newline_len f.kind f.held k)),
)

pub nothing-held : (held : List ℕ) → length held ≡ 0 → held ≡ []
nothing-held [] h = refl
nothing-held (x ∷ held) h = absurd (omega arith)

-- the row that is next, once it was given
pub cuts-next : (f : Feed) (end newline : ℕ) → IsNext f end newline → (given f end newline).offset ≤ 2 ^ 40
    → f.stored ≤ f.max + 65539 → Cuts f (given f end newline) (next_row f end newline)
cuts-next f end newline next limit stored =
    let within = next.within in
    let some = next.some in
    let near = next.near in
    let shorter = length-drop end f.held in
    let front : length (take end f.held) ≡ end = length-take-le end f.held (omega arith) in
    let back : length (slice_range f.held end (end + newline)) ≡ newline =
    length-take-le (end + newline - end) (drop end f.held) (omega arith) ∙ omega arith in
    let rest = length-drop (end + newline) f.held in
    let whole : take end f.held ++ slice_range f.held end (end + newline) ≡ take (end + newline) f.held =
    ap (λ n. take end f.held ++ take n (drop end f.held)) {x = end + newline - end} {y = newline} (omega arith)
    ∙ sym (take-add end newline f.held) in
    record {
      bytes = sym (ap (λ l. l ++ drop (end + newline) f.held) whole ∙ take-append-drop (end + newline) f.held);
      some = omega arith;
      plain = λ k l. next.plain k (omega arith);
      rows = next.rows;
      number = refl;
      offset = refl;
      next_number = refl;
      next_offset = omega arith;
      phase = refl;
      kind = refl;
      max = refl;
      limit = limit;
      room = (let room = next.room in omega arith);
      near = omega arith;
      stored = omega arith;
    }
