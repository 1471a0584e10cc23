-- Rows that are passed over.
use Rattle.std.proofs.Common.{◌≡◌, ◌≢◌, ℕ, zero, suc, ◌+◌, ◌-◌, ◌^◌, ◌<◌, ◌≤◌, Bool, false, ◌&&◌, cond, eqb, max}
use Rattle.std.proofs.Common.{List, [], ◌∷◌, ◌++◌, length, take, drop, slice_range, get_or, count_by, refl, sym, ap}
use Rattle.std.proofs.Common.{subst, ◌∙◌, arith, ⊎_elim, length-drop, length-take-le}
use Rattle.std.proofs.lemmas.Bool.{cases_lt, cases_eq, both_ways, eq-eqb, ne_eqb}
use Rattle.std.specs.List.{All}
use Rattle.std.proofs.lemmas.List.{drop-drop, get_or-drop}
use Rattle.std.proofs.lemmas.List.Elements.{All-nil, All-cons}
use Rattle.std.proofs.lemmas.List.Sums.{sum_by-append, count_by_more_no, count_by_more_yes, count_by-le-length}
use Rattle.std.proofs.Math.Seq.{take-add}
use Rattle.pcre_io.specs.Told.{Told}
use Rattle.byte_lanes.specs.declared.line_end.EndKind.{EndKind}
use Rattle.byte_lanes.specs.declared.line_end.EndKind.TheVariants.{Lf}
use Rattle.byte_lanes.specs.Newlines.{longest, newline_len}
use Rattle.byte_lanes.proofs.lemmas.NewlineLemmas.{longest-head, stands_here, stands_nil}
use Rattle.line_feed.specs.declared.look.Run.{Run}
use Rattle.line_feed.specs.declared.feed.LineFeed.TheInside.{Inside}
use Rattle.line_feed.specs.declared.phase.Phase.TheVariants.{Open, Closed}
use Rattle.line_feed.specs.Rows.{Row, row_with, ends_open, first_newline}
use Rattle.line_feed.specs.View.{Feed, given, next_row}
use Rattle.line_feed.specs.Inside.{IsWhole, IsNear, view_of}
use Rattle.line_feed.specs.Steps.{FirstEnd, EndsRow}
use Rattle.line_feed.specs.Answers.{Gives}
use Rattle.line_feed.specs.Passes.{GivesAll, IsNewlineByte, Passes, HasRun, HoldsLines, GivesLine, skipped}
use Rattle.line_feed.proofs.RowLemmas.{IsFirst, first-least}
use Rattle.line_feed.proofs.Looking.{next-whole, cuts-next}
use Rattle.line_feed.proofs.Insides.{held-long, near-drop}
use Rattle.line_feed.proofs.Moving.{Moves-none}

-- what holds of every feed
pub record IsSound (f : Feed) : Type 0 where
  pub near : IsNear f.kind f.held
  pub stored : f.stored ≤ f.max + 65539
  pub taken : f.offset + length f.held ≤ 2 ^ 40
  pub few : f.phase ≡ Open → f.offset + length f.held < 2 ^ 40
  pub live : f.phase ≢ Closed

sound-inside : (f : Inside) → IsWhole f → f.phase ≢ Closed → IsSound (view_of f)
sound-inside f i live =
    let long = held-long f i in
    record {
      near = i.near;
      stored = i.stored;
      taken = (let taken = i.taken in omega arith);
      few = λ opened. (let few = i.open_few opened in omega arith);
      live = live;
    }

pub sound-view : (f : Inside) (v : Feed) → IsWhole f → view_of f ≡ v → v.phase ≢ Closed → IsSound v
sound-view f v i is live = subst IsSound is (sound-inside f i (subst (λ w. w.phase ≢ Closed) (sym is) live))

sound-given : (f : Feed) (end newline : ℕ) → IsSound f → end + newline ≤ length f.held → IsSound (given f end newline)
sound-given f end newline s within =
    let long = length-drop (end + newline) f.held in
    record {
      near = near-drop f.kind f.held (end + newline) s.near;
      stored = s.stored;
      taken = (let taken = s.taken in omega arith);
      few = λ opened. (let few = s.few opened in omega arith);
      live = s.live;
    }

-- the next row is given, and the feed may stand at any row then
gives-next : (f : Feed) (k len : ℕ) (row : Row) (now : Told) → IsSound f → FirstEnd f k len → EndsRow f k len
    → k ≤ f.max
    → Gives f (record (given f k len) { row = row }) now now (next_row f k len)
gives-next f k len row now s first ends room =
    let next = next-whole f k len first ends room s.near in
    let within = next.within in
    let taken = s.taken in
    let cuts = cuts-next f k len next (omega arith) s.stored in
    record {
      mid = f;
      reads = record {
        moves = Moves-none f now s.few;
        lazy = λ _. refl;
        stored = (let stored = s.stored in omega arith);
      };
      cuts = record {
        bytes = cuts.bytes;
        some = cuts.some;
        plain = cuts.plain;
        rows = cuts.rows;
        number = cuts.number;
        offset = cuts.offset;
        next_number = cuts.next_number;
        next_offset = cuts.next_offset;
        phase = cuts.phase;
        kind = cuts.kind;
        max = cuts.max;
        limit = cuts.limit;
        room = cuts.room;
        near = cuts.near;
        stored = cuts.stored;
      };
      live = s.live;
    }

-- rows that were given lie behind one another
all-offset : (now : Told) (within longest : ℕ) (f g : Feed) (rows : List Row) → GivesAll now within longest f g rows
    → f.offset ≤ g.offset
all-offset now within longest f g [] h = (let e = ap (λ v. v.offset) h in omega arith)
all-offset now within longest f g (row ∷ rows) h =
    let gives = h.2.1 in
    let rest = all-offset now (within - (length row.bytes + length row.newline)) longest h.2.0 g rows h.2.2 in
    let kept = gives.reads.moves.offset in
    let at = gives.cuts.offset in
    let next = gives.cuts.next_offset in
    omega arith

pub all-append : (now : Told) (within longest bytes : ℕ) (f g h : Feed) (some more : List Row)
    → GivesAll now within longest f g some → g.offset ≡ f.offset + bytes
    → GivesAll now (within - bytes) longest g h more
    → GivesAll now within longest f h (some ++ more)
all-append now within longest bytes f g h [] more none at rest =
    let e = ap (λ v. v.offset) none in
    let left : within - bytes ≡ within = omega arith in
    subst (λ v. GivesAll now within longest v h more) none (subst (λ n. GivesAll now n longest g h more) left rest)
all-append now within longest bytes f g h (row ∷ some) more first at rest =
    let long = length row.bytes + length row.newline in
    let mid = first.2.0 in
    let gives = first.2.1 in
    let kept = gives.reads.moves.offset in
    let begins = gives.cuts.offset in
    let next = gives.cuts.next_offset in
    let past = all-offset now (within - long) longest mid g some first.2.2 in
    let left : within - bytes ≡ within - long - (bytes - long) = omega arith in (
      first.0,
      first.1,
      (
        mid,
        gives,
        all-append now (within - long) longest (bytes - long) mid g h some more first.2.2
            (omega arith) (subst (λ n. GivesAll now n longest g h more) left rest),
      ),
    )

-- and so within more
pub all-more : (now : Told) (a b x y : ℕ) (f g : Feed) (rows : List Row) → a ≤ b → x ≤ y → GivesAll now a x f g rows
    → GivesAll now b y f g rows
all-more now a b x y f g [] within longest h = h
all-more now a b x y f g (row ∷ rows) within longest h =
    let long = length row.bytes + length row.newline in
    let short = h.0 in
    let fits = h.1 in (
      omega arith,
      omega arith,
      (h.2.0, h.2.1, all-more now (a - long) (b - long) x y h.2.0 g rows (omega arith) longest h.2.2),
    )

pub Passes-more : (f g : Feed) (a b x y bytes : ℕ) → a ≤ b → x ≤ y → Passes f g a x bytes → Passes f g b y bytes
Passes-more f g a b x y bytes within longest passes = record {
  rows = passes.rows;
  gives = λ now. all-more now a b x y f g passes.rows within longest (passes.gives now);
  offset = passes.offset;
}

pub Passes-none : (f : Feed) (within longest : ℕ) → Passes f f within longest 0
Passes-none f within longest = record { rows = []; gives = λ now. refl; offset = omega arith }

Passes-trans : (f g h : Feed) (within longest a b : ℕ) → Passes f g within longest a
    → Passes g h (within - a) longest b → Passes f h within longest (a + b)
Passes-trans f g h within longest a b first then = record {
  rows = first.rows ++ then.rows;
  gives = λ now. all-append now within longest a f g h first.rows then.rows (first.gives now) first.offset
      (then.gives now);
  offset = (let one = first.offset in let two = then.offset in omega arith);
}

pub Passes-run : (f g h : Feed) (within longest passed : ℕ) (run : Run) → Passes f g within longest passed
    → HasRun g (within - passed) longest run → h ≡ skipped g run.bytes run.rows
    → Passes f h within longest (passed + run.bytes)
Passes-run f g h within longest passed run before here is =
    Passes-trans f g h within longest passed run.bytes before
    (subst (λ v. Passes g v (within - passed) longest run.bytes) (sym is) here.passes)

-- a row with a newline
abbrev HasEnd : Row → Type 0
HasEnd row = 0 < length row.newline

-- one row
row-back : (f : Feed) (k len : ℕ) → k + len ≤ length f.held → length (slice_range f.held k (k + len)) ≡ len
row-back f k len within =
    let shorter = length-drop k f.held in
    length-take-le (k + len - k) (drop k f.held) (omega (arith, within)) ∙ omega arith

all-row : (f : Feed) (k len most longest : ℕ) (now : Told) → IsSound f → FirstEnd f k len → EndsRow f k len
    → k ≤ f.max → k ≤ longest → k + len ≤ most
    → GivesAll now most longest f (skipped f (k + len) 1) (next_row f k len ∷ [])
all-row f k len most longest now s first ends room short fits =
    let next = next-whole f k len first ends room s.near in
    let within = next.within in
    let front = length-take-le k f.held (omega arith) in
    let back = row-back f k len within in (
      omega arith,
      omega arith,
      (
        skipped f (k + len) 1,
        gives-next f k len (row_with [] [] (f.number + 1) (f.offset + (k + len))) now s
            first ends room,
        refl,
      ),
    )

pub run-row : (f : Feed) (k len most longest : ℕ) (all : Bool) → IsSound f → FirstEnd f k len → EndsRow f k len
    → k ≤ f.max → k ≤ longest → k + len ≤ most → HasRun f most longest
    (record { bytes = k + len; rows = 1; is_all = all })
run-row f k len most longest all s first ends room short fits =
    let some = ends.some in
    let next = next-whole f k len first ends room s.near in
    let back = row-back f k len next.within in
    record {
      passes = record {
        rows = next_row f k len ∷ [];
        gives = λ now. all-row f k len most longest now s first ends room short fits;
        offset = refl;
      };
      ended = All-cons HasEnd (next_row f k len) [] (omega (arith, back, some)) (All-nil HasEnd);
      some = omega arith;
      within = fits;
      few = omega arith;
    }

-- rows that one byte ends
abbrev is_byte : ℕ → ℕ → Bool
is_byte byte b = eqb b byte

-- the first newline of bytes whose n-th is one
record FirstByte (kind : EndKind) (byte : ℕ) (bytes : List ℕ) (n : ℕ) : Type 0 where
  k : ℕ
  first : IsFirst kind bytes k
  one : 1 ≡ newline_len kind bytes k
  before : k < n
  count : count_by (is_byte byte) (take (k + 1) bytes) ≡ 1
  shut : ends_open kind bytes ≡ false

module _ (kind : EndKind) (byte : ℕ) (each : IsNewlineByte kind byte) where
  byte-len : (bytes : List ℕ) (k : ℕ) → k < length bytes → get_or bytes k 0 ≡ byte → 1 ≡ newline_len kind bytes k
  byte-len bytes k l is =
      sym (ap (λ texts. longest texts bytes k) each.0 ∙ ap (λ q. max (cond q 1 0) 0)
      (stands_here byte [] bytes k l is ∙ stands_nil bytes (k + 1)))

  byte-at : (bytes : List ℕ) (k : ℕ) → 0 < newline_len kind bytes k → get_or bytes k 0 ≡ byte
  byte-at bytes k there =
      longest-head (λ b. b ≡ byte) ((byte ∷ []) ∷ []) bytes k (refl, tt)
      (subst (λ texts. 0 < longest texts bytes k) each.0 there)

  no-byte : (bytes : List ℕ) (k i : ℕ) → IsFirst kind bytes k → i ≤ k → count_by (is_byte byte) (take i bytes) ≡ 0
  no-byte bytes k zero first le = refl
  no-byte bytes k (suc i) first le =
      let high = first.high in
      let other : eqb (get_or bytes i 0) byte ≡ false =
      ⊎_elim (λ is. absurd (first.before i (omega arith) (omega arith)
      (let one = byte-len bytes i (omega arith) is in omega arith))) (λ ne. ne_eqb (get_or bytes i 0) byte ne)
      (cases_eq (get_or bytes i 0) byte) in
      ap (λ q. count_by (is_byte byte) (take q bytes)) {x = suc i} {y = i + 1} (omega arith)
      ∙ count_by_more_no (is_byte byte) bytes i 0 (omega arith) other ∙ no-byte bytes k i first (omega arith)

  count-first : (bytes : List ℕ) (k : ℕ) → IsFirst kind bytes k → k < length bytes
      → count_by (is_byte byte) (take (k + 1) bytes) ≡ 1
  count-first bytes k first within =
      count_by_more_yes (is_byte byte) bytes k 0 within (eq-eqb _ _ (byte-at bytes k (first.holds within)))
      ∙ ap (λ m. m + 1) (no-byte bytes k k first (omega arith))

  first-byte : (bytes : List ℕ) (n : ℕ) → 0 < n → n ≤ length bytes → get_or bytes (n - 1) 0 ≡ byte
      → FirstByte kind byte bytes n
  first-byte bytes n some within is =
      let k = first_newline kind bytes in
      let first = first-least kind bytes in
      let there = byte-len bytes (n - 1) (omega arith) is in
      let before : k < n =
      ⊎_elim (λ l. l) (λ past. absurd (first.before (n - 1) (omega arith) (omega arith) (omega arith)))
      (cases_lt k n) in
      record {
        k = k;
        first = first;
        one = byte-len bytes k (omega arith) (byte-at bytes k (first.holds (omega arith)));
        before = before;
        count = count-first bytes k first (omega arith);
        shut = ap (λ b. b && eqb (get_or bytes (length bytes - 1) 0) 13) each.1;
      }

-- passed over in two steps
skipped-twice : (f : Feed) (k m : ℕ) (n rows : ℕ) → k + 1 + m ≡ n
    → skipped (given f k 1) m rows ≡ skipped f n (rows + 1)
skipped-twice f k m n rows is =
    let rest : drop m (drop (k + 1) f.held) ≡ drop n f.held = drop-drop m (k + 1) f.held ∙ ap (λ q. drop q f.held) is in
    let number : f.number + 1 + rows ≡ f.number + (rows + 1) = omega arith in
    let offset : f.offset + (k + 1) + m ≡ f.offset + n = omega arith in
    λ i. record f { row = row_with [] [] (number i) (offset i); held = rest i; number = number i; offset = offset i }

-- the rows of bytes that end in such a byte
all-byte : (byte fuel : ℕ) (f : Feed) (n most longest : ℕ) → n ≤ fuel → IsNewlineByte f.kind byte → IsSound f → 0 < n
    → n ≤ length f.held → get_or f.held (n - 1) 0 ≡ byte → n ≤ f.max → n ≤ longest → n ≤ most
    → (rows : List Row) × ((now : Told) → GivesAll now most longest f
    (skipped f n (count_by (is_byte byte) (take n f.held))) rows) × All HasEnd rows
all-byte byte zero f n most longest few each s some within is room short fits = absurd (omega arith)
all-byte byte (suc fuel) f n most longest few each s some within is room short fits =
    let end = first-byte f.kind byte each f.held n some within is in
    let k = end.k in
    let before = end.before in
    let first : FirstEnd f k 1 = record { least = end.first; long = end.one } in
    let ends : EndsRow f k 1 = record {
      some = omega arith;
      settled = λ going opened. absurd (both_ways _ end.shut opened);
    } in
    let m = n - (k + 1) in
    let all : k + 1 + m ≡ n = omega arith in
    let rest = drop (k + 1) f.held in
    let shorter = length-drop (k + 1) f.held in
    let front : length (take k f.held) ≡ k = length-take-le k f.held (omega arith) in
    let back = row-back f k 1 (omega (arith, before, within)) in
    let one : HasEnd (next_row f k 1) = omega (arith, back) in
    let count : count_by (is_byte byte) (take n f.held) ≡ count_by (is_byte byte) (take m rest) + 1 =
    ap (λ q. count_by (is_byte byte) (take q f.held)) (sym all)
    ∙ ap (count_by (is_byte byte)) (take-add (k + 1) m f.held)
    ∙ sum_by-append (λ b. cond (is_byte byte b) 1 0) (take (k + 1) f.held) (take m rest)
    ∙ ap (λ q. q + count_by (is_byte byte) (take m rest)) end.count
    ∙ omega arith in
    let same : skipped (given f k 1) m (count_by (is_byte byte) (take m rest)) ≡ skipped f n
    (count_by (is_byte byte) (take n f.held)) = skipped-twice f k m n _ all ∙ ap (skipped f n) (sym count) in
    ⊎_elim (λ (more : 0 < m).
    let last : get_or rest (m - 1) 0 ≡ byte = get_or-drop (k + 1) f.held (m - 1) 0
    ∙ ap (λ q. get_or f.held q 0) {x = k + 1 + (m - 1)} {y = n - 1} (omega arith) ∙ is in
    let then = all-byte byte fuel (given f k 1) m (most - (k + 1)) longest (omega arith) each
    (sound-given f k 1 s (omega arith)) more (omega arith) last (omega arith) (omega arith) (omega arith) in (
      next_row f k 1 ∷ then.0,
      λ now.
          let fact = subst (λ v. GivesAll now (most - (k + 1)) longest (given f k 1) v then.0) same (then.1 now) in
          let left : most - (k + 1) ≡ most - (length (take k f.held) + length (slice_range f.held k (k + 1))) =
          omega arith in (
            omega arith,
            omega arith,
            (
              given f k 1,
              gives-next f k 1 (next_row f k 1) now s first ends (omega arith),
              subst (λ q. GivesAll now q longest (given f k 1)
                  (skipped f n (count_by (is_byte byte) (take n f.held))) then.0) left fact,
            ),
          ),
      All-cons HasEnd (next_row f k 1) then.0 one then.2,
    ))
    (λ none.
    let nothing : m ≡ 0 = omega arith in
    let at : skipped f (k + 1) 1 ≡ skipped f n (count_by (is_byte byte) (take n f.held)) =
    (λ i. skipped f (let e : k + 1 ≡ n = omega arith in e i)
    (let e : 1 ≡ count_by (is_byte byte) (take n f.held) =
    sym (count ∙ ap (λ q. count_by (is_byte byte) (take q rest) + 1) nothing) in e i)) in (
      next_row f k 1 ∷ [],
      λ now. (
        omega arith,
        omega arith,
        (
          skipped f (k + 1) 1,
          gives-next f k 1 (row_with [] [] (f.number + 1) (f.offset + (k + 1))) now s first
              ends (omega arith),
          sym at,
        ),
      ),
      All-cons HasEnd (next_row f k 1) [] one (All-nil HasEnd),
    ))
    (cases_lt 0 m)

pub run-byte : (byte : ℕ) (f : Feed) (n most longest : ℕ) (whole : Bool) → IsNewlineByte f.kind byte → IsSound f
    → 0 < n → n ≤ length f.held → n ≤ f.max → n ≤ longest → n ≤ most → get_or f.held (n - 1) 0 ≡ byte
    → HasRun f most longest (record { bytes = n; rows = count_by (is_byte byte) (take n f.held); is_all = whole })
run-byte byte f n most longest whole each s some within room short fits is =
    let all = all-byte byte n f n most longest (omega arith) each s some within is room short fits in
    let few = count_by-le-length (is_byte byte) (take n f.held) in
    let long = length-take-le n f.held (omega arith) in
    record {
      passes = record { rows = all.0; gives = all.1; offset = refl };
      ended = all.2;
      some = some;
      within = fits;
      few = omega arith;
    }

-- Lines that end in LF, of which some are held.

-- behind the first LF there is one less
count-behind : (bytes : List ℕ) (k n : ℕ) → count_by (is_byte 10) (take (k + 1) bytes) ≡ 1 → k < n
    → count_by (is_byte 10) (take n bytes) ≡ count_by (is_byte 10) (take (n - (k + 1)) (drop (k + 1) bytes)) + 1
count-behind bytes k n one before =
    let m = n - (k + 1) in
    let rest = drop (k + 1) bytes in
    ap (λ q. count_by (is_byte 10) (take q bytes)) {x = n} {y = k + 1 + m} (omega arith)
    ∙ ap (count_by (is_byte 10)) (take-add (k + 1) m bytes)
    ∙ sum_by-append (λ b. cond (is_byte 10 b) 1 0) (take (k + 1) bytes) (take m rest)
    ∙ ap (λ q. q + count_by (is_byte 10) (take m rest)) one
    ∙ omega arith

module _ (f : Feed) (k len : ℕ) (first : FirstEnd f k len) where
  line-before : (within lines : ℕ) → HoldsLines f within (lines + 1) → k < within
  line-before within lines held =
      let many = held.many in
      ⊎_elim (λ l. l) (λ (past : within ≤ k). absurd
      (let none = no-byte Lf 10 (refl, refl) f.held k within
      (subst (λ q. IsFirst q f.held k) held.kind first.least) past in omega arith)) (cases_lt k within)

  line-one : f.kind ≡ Lf → k < length f.held → (len ≡ 1) × (count_by (is_byte 10) (take (k + 1) f.held) ≡ 1)
  line-one kind within =
      let least = subst (λ q. IsFirst q f.held k) kind first.least in
      let at = byte-at Lf 10 (refl, refl) f.held k (least.holds within) in (
        first.long ∙ ap (λ q. newline_len q f.held k) kind ∙ sym (byte-len Lf 10 (refl, refl) f.held k within at),
        count-first Lf 10 (refl, refl) f.held k least within,
      )

  line-holds : (within lines : ℕ) → HoldsLines f within (lines + 1)
      → HoldsLines (given f k len) (within - (k + len)) lines
  line-holds within lines held =
      let before = line-before within lines held in
      let long = held.held in
      let room = held.room in
      let many = held.many in
      let one = line-one held.kind (omega arith) in
      let shorter = length-drop (k + 1) f.held in
      let behind = count-behind f.held k within one.1 before in
      subst (λ l. HoldsLines (given f k l) (within - (k + l)) lines) (sym one.0)
      (record { kind = held.kind; held = omega arith; room = omega arith; many = omega arith })

  pub line-ends : (within : ℕ) → HoldsLines f within 1 → (0 < len) × (k + len ≤ length f.held)
  line-ends within held =
      let before = line-before within 0 held in
      let long = held.held in
      let one = (line-one held.kind (omega arith)).0 in
      (omega arith, omega arith)

  line-long : k + len ≤ length f.held → length (take k f.held) + length (slice_range f.held k (k + len)) ≡ k + len
  line-long within =
      let front = length-take-le k f.held (omega (arith, within)) in
      let back = row-back f k len within in
      omega (arith, front, back)

  -- the first of them is given
  pub gives-line : IsSound f → (g : Feed) → g ≡ given f k len → (within : ℕ) → HoldsLines f within 1 → GivesLine f g
  gives-line s g is within held =
      let fits = line-ends within held in
      let before = line-before within 0 held in
      let room = held.room in
      let shut : ends_open f.kind f.held ≡ false = ap (λ q. ends_open q f.held) held.kind in
      let ends : EndsRow f k len = record {
        some = fits.0;
        settled = λ going opened. absurd (both_ways _ shut opened);
      } in
      let long = line-long fits.1 in
      subst (GivesLine f) (sym is) (record {
        gives = λ now. gives-next f k len (next_row f k len) now s first ends (omega arith);
        fits = λ w lines has.
            let low = line-before w lines has in
            let within_w = has.held in
            let one = (line-one has.kind (omega arith)).0 in
            omega arith;
        holds = λ w lines has. subst (λ n. HoldsLines (given f k len) (w - n) lines) (sym long)
            (line-holds w lines has);
      })
