-- Lines that are passed over have no match.
use Rattle.std.proofs.Common.{◌≡◌, ◌⊎◌, inl, inr, ℕ, zero, suc, ◌+◌, ◌-◌, ◌<◌, ◌≤◌, List, [], ◌∷◌, ◌++◌, length}
use Rattle.std.proofs.Common.{take, Option, None, Some, Ok, refl, sym, ap, subst, ◌∙◌, arith, length-append}
use Rattle.std.specs.Prelude.{slice_index, IsTrue, IsUtf8, MatchOption}
use Rattle.std.specs.List.{All}
use Rattle.std.proofs.lemmas.List.{append_assoc, get_or_append_left, get_or-append-add}
use Rattle.std.proofs.lemmas.Option.{none-some}
use Rattle.byte_lanes.specs.declared.line_end.EndKind.TheVariants.{Lf}
use Rattle.pcre_io.specs.Told.{Told}
use Rattle.line_feed.specs.Rows.{Row}
use Rattle.line_feed.specs.View.{Feed}
use Rattle.line_feed.specs.declared.look.Run.{Run}
use Rattle.line_feed.specs.Passes.{GivesAll, Passes, HasRun, skipped}
use Rattle.line_feed.proofs.Given.{kind-gives}
use Rattle.line_feed.proofs.Passing.{all-more}
use Rattle.grep_args.specs.declared.plan.GrepPlan.{GrepPlan}
use Rattle.pat_tree.specs.Pattern.{Pattern}
use Rattle.grep_match.specs.declared.unsearched.Needed.{Needed}
use Rattle.grep_match.specs.Matches.{matches}
use Rattle.grep_watch.specs.declared.watch.Watch.{Watch}
use Rattle.grep_watch.specs.Watched.{Watches, PassesOver, HasQuietRun, ReachesQuiet, HasAsciiNewlines}
use Rattle.grep_watch.proofs.Cutting.{AreValid, are-valid, lf-row}
use Rattle.grep_watch.proofs.Watching.{same-needed, ends-with-lf, watches_gives, watches_line, watches_none}
use Rattle.grep_watch.proofs.Watching.{watches_behind}

pub all-nil : {A : Type 0} (P : A → Type 0) → All P []
all-nil P = λ k d l. absurd (omega arith)

pub all-cons : {A : Type 0} (P : A → Type 0) (x : A) (xs : List A) → P x → All P xs → All P (x ∷ xs)
all-cons P x xs one all zero d l = one
all-cons P x xs one all (suc k) d l = all k d (omega arith)

pub all-tail : {A : Type 0} (P : A → Type 0) (x : A) (xs : List A) → All P (x ∷ xs) → All P xs
all-tail P x xs all = λ k d l. all (suc k) d (omega arith)

-- What is known of the bytes.

abbrev AreBytes : List ℕ → ℕ → Type 0
AreBytes bytes n = (k : ℕ) → k < n → slice_index bytes k < 256

module _ (bytes newline behind held taken : List ℕ) (n : ℕ) (is : held ++ taken ≡ bytes ++ newline ++ behind)
    (within : n ≤ length held) (are : AreBytes held n) where
  byte-at : (k : ℕ) → k < n → slice_index (bytes ++ newline ++ behind) k < 256
  byte-at k l = subst (λ b. b < 256) (sym (get_or_append_left held taken 0 k (omega (arith, l, within)))
      ∙ ap (λ b. slice_index b k) is) (are k l)

  line-bytes : length bytes + length newline ≤ n → AreBytes bytes (length bytes)
  line-bytes long k l =
      let sum = length-append bytes newline in
      subst (λ b. b < 256)
      (get_or_append_left (bytes ++ newline) behind 0 k (omega (arith, l, sum))
      ∙ get_or_append_left bytes newline 0 k l)
      (byte-at k (omega (arith, l, long)))

  behind-bytes : AreBytes behind (n - (length bytes + length newline))
  behind-bytes k l =
      let sum = length-append bytes newline in
      subst (λ b. b < 256) (get_or-append-add (bytes ++ newline) behind k 0)
      (byte-at (length (bytes ++ newline) + k) (omega (arith, l, sum)))

-- in UTF a character begins at either end of a newline
abbrev EndsWhole : Needed → Feed → Type 0
EndsWhole found f = IsTrue found.utf → HasAsciiNewlines f.kind

module _ (plan : GrepPlan) (patterns : List Pattern) (now : Told) where
  -- rows that were given, so many bytes in all
  record Over (w : Watch) (f g : Feed) (rows : List Row) : Type 0 where
    sum : ℕ
    offset : g.offset ≡ f.offset + sum
    none : All (λ (row : Row). matches plan patterns row.bytes ≡ Ok []) rows
    watches : Watches plan patterns (record w { quiet = w.quiet - sum }) g.held

  watches-less : (w : Watch) (held : List ℕ) (a b n : ℕ)
      → Watches plan patterns (record w { quiet = w.quiet - a - b - n }) held
      → Watches plan patterns (record w { quiet = w.quiet - (a + b + n) }) held
  watches-less w held a b n had = let less : w.quiet - a - b - n ≡ w.quiet - (a + b + n) = omega arith in
      subst (λ q. Watches plan patterns (record w { quiet = q }) held) less had

  over-nothing : (w : Watch) (f g : Feed) → Watches plan patterns w f.held → g ≡ f → Over w f g []
  over-nothing w f g had same = record {
    sum = 0;
    offset = let at = ap (λ (x : Feed). x.offset) same in omega arith;
    none = all-nil (λ (row : Row). matches plan patterns row.bytes ≡ Ok []);
    watches = let all : w.quiet ≡ w.quiet - 0 = omega arith in
        subst (λ q. Watches plan patterns (record w { quiet = q }) g.held) all
        (subst (λ (x : Feed). Watches plan patterns w x.held) (sym same) had);
  }

  passes-over : (found : Needed) (rows : List Row) (w : Watch) (f g : Feed) (n : ℕ) → w.needed ≡ Some found
      → n ≡ w.quiet → EndsWhole found f → AreBytes f.held n → Watches plan patterns w f.held
      → GivesAll now n found.most f g rows → Over w f g rows
  passes-over found [] w f g n there is whole are had same = over-nothing w f g had same
  passes-over found (row ∷ rows) w f g n there is whole are had all =
      let short = all.0 in
      let long = all.1 in
      let mid = all.2.0 in
      let gives = all.2.1 in
      let moves = gives.reads.moves in
      let cuts = gives.cuts in
      let a = length row.bytes in
      let b = length row.newline in
      let within = (had.quiet found there).within in
      let held = sym moves.held ∙ cuts.bytes in
      let line = watches_gives plan patterns w f mid now now row gives had in
      let next : Watch = record w { quiet = w.quiet - a - b } in
      let valid : (on : IsTrue found.utf) → AreValid f mid now now row gives (whole on) w.quiet =
      λ on. are-valid f mid now now row gives (whole on) w.quiet (omega (arith, long, is))
      (line.valid found there on) in
      let rest = passes-over found rows next mid g (n - (a + b)) there (omega (arith, is))
      (λ on. subst HasAsciiNewlines (sym (kind-gives f mid now now row gives)) (whole on))
      (behind-bytes row.bytes row.newline mid.held f.held moves.taken n held (omega (arith, is, within)) are)
      (watches_behind plan patterns w row.bytes row.newline mid.held next.quiet refl (λ some is_some on.
      let counted : w.quiet - (a + b) ≡ w.quiet - a - b = omega arith in
      subst (λ k. IsUtf8 (take k mid.held)) counted
      (valid (subst (λ (s : Needed). IsTrue s.utf) (sym (same-needed w.needed found some there is_some))
      on)).behind) (λ none. absurd (none-some found (sym none ∙ there))) line) all.2.2 in
      let row_offset = cuts.offset in
      let mid_offset = cuts.next_offset in
      let same_offset = moves.offset in
      let rest_offset = rest.offset in
      record {
        sum = a + b + rest.sum;
        offset = omega arith;
        none = all-cons (λ (r : Row). matches plan patterns r.bytes ≡ Ok []) row rows
            (watches_none plan patterns w row.bytes (row.newline ++ mid.held) found there (omega (arith, long, is))
            short (λ on. (valid on).line)
            (line-bytes row.bytes row.newline mid.held f.held moves.taken n held (omega (arith, is, within)) are long)
            (watches_line plan patterns w row.bytes row.newline mid.held line))
            rest.none;
        watches = watches-less w g.held a b rest.sum rest.watches;
      }

  -- the same of lines that were found to have no match
  clear-over : (rows : List Row) (w : Watch) (f g : Feed) (n : ℕ) → w.needed ≡ None → n ≡ w.quiet → f.kind ≡ Lf
      → Watches plan patterns w f.held → GivesAll now n w.longest f g rows → Over w f g rows
  clear-over [] w f g n there is lf had same = over-nothing w f g had same
  clear-over (row ∷ rows) w f g n there is lf had all =
      let short = all.0 in
      let long = all.1 in
      let mid = all.2.0 in
      let gives = all.2.1 in
      let moves = gives.reads.moves in
      let cuts = gives.cuts in
      let a = length row.bytes in
      let b = length row.newline in
      let within = (had.clear there).within in
      let line = watches_gives plan patterns w f mid now now row gives had in
      let is_row = lf-row f mid now now row gives (subst HasAsciiNewlines (sym lf) tt) lf in
      let newline : row.newline ≡ 10 ∷ [] = elim is_row.ends [
        | inl ends ↦ ends
        | inr last ↦ let some = last.0 in let more = last.1 in absurd (omega (arith, some, more, long, is, within))
      ] in
      let one = ap length newline in
      let next : Watch = record w { quiet = w.quiet - a - b } in
      let behind = watches_behind plan patterns w row.bytes row.newline mid.held next.quiet refl
      (λ some is_some. absurd (none-some some (sym there ∙ is_some)))
      (λ none. ends-with-lf row.bytes row.newline newline) line in
      let rest = clear-over rows next mid g (n - (a + b)) there (omega (arith, is))
      (kind-gives f mid now now row gives ∙ lf) behind all.2.2 in
      let text : row.bytes ++ row.newline ++ mid.held ≡ row.bytes ++ (10 ∷ mid.held) =
      append_assoc row.bytes row.newline mid.held ∙ ap (λ l. row.bytes ++ (l ++ mid.held)) newline in
      let row_offset = cuts.offset in
      let mid_offset = cuts.next_offset in
      let same_offset = moves.offset in
      let rest_offset = rest.offset in
      record {
        sum = a + b + rest.sum;
        offset = omega arith;
        none = all-cons (λ (r : Row). matches plan patterns r.bytes ≡ Ok []) row rows
            ((line.clear there).none [] row.bytes mid.held text (λ k last. absurd (omega (arith, last))) is_row.plain
            (omega (arith, long, one, is)) short) rest.none;
        watches = watches-less w g.held a b rest.sum rest.watches;
      }

-- nothing was passed over
pub over-none : (plan : GrepPlan) (patterns : List Pattern) (w : Watch) (f : Feed) → Watches plan patterns w f.held
    → PassesOver plan patterns w f f
over-none plan patterns w f had = record {
  within = 0;
  longest = 0;
  rows = [];
  gives = λ now. refl;
  none = all-nil (λ (row : Row). matches plan patterns row.bytes ≡ Ok []);
  watches = had;
}

-- Some were: none of them has a match, and what is known is known behind them.
record IsPassed (plan : GrepPlan) (patterns : List Pattern) (w : Watch) (g : Feed) (rows : List Row) (n : ℕ) : Type
    0 where
  none : All (λ (row : Row). matches plan patterns row.bytes ≡ Ok []) rows
  watches : Watches plan patterns (record w { quiet = n }) g.held

passed-some : (plan : GrepPlan) (patterns : List Pattern) (found : Needed) (w : Watch) (f g : Feed) (passed n : ℕ)
    → w.needed ≡ Some found → EndsWhole found f → AreBytes f.held (length f.held) → Watches plan patterns w f.held
    → (passes : Passes f g w.quiet found.most passed) → n ≡ w.quiet - passed
    → IsPassed plan patterns w g passes.rows n
passed-some plan patterns found w f g passed n there whole are had passes is =
    let now : Told = record { left = None; stop = None; faults = 0 } in
    let within = (had.quiet found there).within in
    let over = passes-over plan patterns now found passes.rows w f g w.quiet there refl whole
    (λ k l. are k (omega (arith, l, within))) had (passes.gives now) in
    let offset = passes.offset in
    let over_offset = over.offset in
    let same : w.quiet - over.sum ≡ n = omega (arith, is, offset, over_offset) in
    record {
      none = over.none;
      watches = subst (λ q. Watches plan patterns (record w { quiet = q }) g.held) same over.watches;
    }

cleared-some : (plan : GrepPlan) (patterns : List Pattern) (w : Watch) (f g : Feed) (passed n : ℕ) → w.needed ≡ None
    → f.kind ≡ Lf → Watches plan patterns w f.held → (passes : Passes f g w.quiet w.longest passed)
    → n ≡ w.quiet - passed
    → IsPassed plan patterns w g passes.rows n
cleared-some plan patterns w f g passed n there lf had passes is =
    let now : Told = record { left = None; stop = None; faults = 0 } in
    let over = clear-over plan patterns now passes.rows w f g w.quiet there refl lf had (passes.gives now) in
    let offset = passes.offset in
    let over_offset = over.offset in
    let same : w.quiet - over.sum ≡ n = omega (arith, is, offset, over_offset) in
    record {
      none = over.none;
      watches = subst (λ q. Watches plan patterns (record w { quiet = q }) g.held) same over.watches;
    }

pub over-clear : (plan : GrepPlan) (patterns : List Pattern) (w : Watch) (f g : Feed) (passed n : ℕ) → w.needed ≡ None
    → f.kind ≡ Lf → Watches plan patterns w f.held → Passes f g w.quiet w.longest passed → n ≡ w.quiet - passed
    → PassesOver plan patterns (record w { quiet = n }) f g
over-clear plan patterns w f g passed n there lf had passes is =
    let over = cleared-some plan patterns w f g passed n there lf had passes is in
    record {
      within = w.quiet;
      longest = w.longest;
      rows = passes.rows;
      gives = passes.gives;
      none = over.none;
      watches = over.watches;
    }

pub over-some : (plan : GrepPlan) (patterns : List Pattern) (found : Needed) (w : Watch) (f g : Feed) (passed n : ℕ)
    → w.needed ≡ Some found → EndsWhole found f → AreBytes f.held (length f.held) → Watches plan patterns w f.held
    → Passes f g w.quiet found.most passed → n ≡ w.quiet - passed
    → PassesOver plan patterns (record w { quiet = n }) f g
over-some plan patterns found w f g passed n there whole are had passes is =
    let over = passed-some plan patterns found w f g passed n there whole are had passes is in
    record {
      within = w.quiet;
      longest = found.most;
      rows = passes.rows;
      gives = passes.gives;
      none = over.none;
      watches = over.watches;
    }

-- rows ahead can be passed over
pub quiet-run : (plan : GrepPlan) (patterns : List Pattern) (found : Needed) (w : Watch) (f : Feed) (run : Run)
    → w.needed ≡ Some found → EndsWhole found f → AreBytes f.held (length f.held) → Watches plan patterns w f.held
    → HasRun f w.quiet found.most run
    → HasQuietRun plan patterns w f run
quiet-run plan patterns found w f run there whole are had has =
    let over = passed-some plan patterns found w f (skipped f run.bytes run.rows) run.bytes (w.quiet - run.bytes)
    there whole are had has.passes refl in
    let within = (had.quiet found there).within in
    let long = has.within in
    record {
      within = w.quiet;
      longest = found.most;
      has = has;
      held = omega (arith, within, long);
      none = over.none;
      watches = over.watches;
    }

clear-run : (plan : GrepPlan) (patterns : List Pattern) (w : Watch) (f : Feed) (run : Run) → w.needed ≡ None
    → f.kind ≡ Lf → Watches plan patterns w f.held → HasRun f w.quiet w.longest run
    → HasQuietRun plan patterns w f run
clear-run plan patterns w f run there lf had has =
    let over = cleared-some plan patterns w f (skipped f run.bytes run.rows) run.bytes (w.quiet - run.bytes) there lf
    had has.passes refl in
    let within = (had.clear there).within in
    let long = has.within in
    record {
      within = w.quiet;
      longest = w.longest;
      has = has;
      held = omega (arith, within, long);
      none = over.none;
      watches = over.watches;
    }

pub clear-found : (before w : Watch) (f : Feed) → w.needed ≡ None → f.kind ≡ Lf
    → ((plan : GrepPlan) (patterns : List Pattern) → Watches plan patterns before f.held
    → Watches plan patterns w f.held)
    → (ahead : Option Run) → MatchOption ahead (Unit {0}) (λ run. HasRun f w.quiet w.longest run)
    → MatchOption ahead (Unit {0}) (λ run. (plan : GrepPlan) (patterns : List Pattern) → Watches plan patterns before
    f.held → HasQuietRun plan patterns w f run)
clear-found before w f there lf still None has = has
clear-found before w f there lf still (Some run) has =
    λ plan patterns had. clear-run plan patterns w f run there lf (still plan patterns had) has

-- those that the feed finds ahead
pub quiet-found : (before w : Watch) (f : Feed) (found : Needed) → w.needed ≡ Some found → EndsWhole found f
    → AreBytes f.held (length f.held)
    → ((plan : GrepPlan) (patterns : List Pattern) → Watches plan patterns before f.held
    → Watches plan patterns w f.held)
    → (ahead : Option Run) → MatchOption ahead (Unit {0}) (λ run. HasRun f w.quiet found.most run)
    → MatchOption ahead (Unit {0}) (λ run. (plan : GrepPlan) (patterns : List Pattern) → Watches plan patterns before
    f.held → HasQuietRun plan patterns w f run)
quiet-found before w f found there whole are still None has = has
quiet-found before w f found there whole are still (Some run) has =
    λ plan patterns had. quiet-run plan patterns found w f run there whole are (still plan patterns had) has

-- those that are given within so many bytes
pub reaches-quiet : (plan : GrepPlan) (patterns : List Pattern) (found : Needed) (w : Watch) (f : Feed) (within : ℕ)
    → w.needed ≡ Some found → EndsWhole found f → AreBytes f.held (length f.held) → within ≤ w.quiet
    → within ≤ found.most → Watches plan patterns w f.held
    → ReachesQuiet plan patterns w f within
reaches-quiet plan patterns found w f within there whole are quiet short had = record {
  held = let known = (had.quiet found there).within in omega (arith, quiet, known);
  over = λ g rows bytes gives offset.
      let passes : Passes f g w.quiet found.most bytes = record {
        rows = rows;
        gives = λ now. all-more now within w.quiet within found.most f g rows quiet short (gives now);
        offset = offset;
      } in
      let passed = passed-some plan patterns found w f g bytes (w.quiet - bytes) there whole are had passes refl in
      (passed.none, passed.watches);
}

pub reaches-clear : (plan : GrepPlan) (patterns : List Pattern) (w : Watch) (f : Feed) (within : ℕ) → w.needed ≡ None
    → f.kind ≡ Lf → within ≤ w.quiet → within ≤ w.longest → Watches plan patterns w f.held
    → ReachesQuiet plan patterns w f within
reaches-clear plan patterns w f within there lf quiet short had = record {
  held = let known = (had.clear there).within in omega (arith, quiet, known);
  over = λ g rows bytes gives offset.
      let passes : Passes f g w.quiet w.longest bytes = record {
        rows = rows;
        gives = λ now. all-more now within w.quiet within w.longest f g rows quiet short (gives now);
        offset = offset;
      } in
      let passed = cleared-some plan patterns w f g bytes (w.quiet - bytes) there lf had passes refl in
      (passed.none, passed.watches);
}
