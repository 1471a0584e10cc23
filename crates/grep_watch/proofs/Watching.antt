-- What is known of the bytes that a feed holds stays known from one line to the next.
use Rattle.std.proofs.Common.{◌≡◌, ◌≢◌, ◌∙◌, ℕ, zero, suc, ◌+◌, ◌-◌, ◌<◌, ◌≤◌, List, [], ◌∷◌, ◌++◌, length, take}
use Rattle.std.proofs.Common.{Bool, true, Option, Some, None, Ok, refl, sym, ap, subst, arith, append-nil}
use Rattle.std.proofs.Common.{length-append}
use Rattle.std.specs.Prelude.{slice_index, IfSome, IsTrue, IsUtf8}
use Rattle.std.proofs.Math.Seq.{take-append-add}
use Rattle.std.proofs.lemmas.Bool.{cases_lt}
use Rattle.std.proofs.lemmas.Option.{none-some}
use Rattle.std.proofs.lemmas.List.{append_assoc, get_or_append_left, get_or-append-add, take-append-le, take_all}
use Rattle.std.proofs.lemmas.Str.{IsUtf8-nil}
use Rattle.uni_text.specs.Characters.{IsChecked}
use Rattle.byte_lanes.specs.Sets.{has_byte}
use Rattle.pat_needs.specs.Texts.{sets_of, behind_of, Stands}
use Rattle.pcre_io.specs.Told.{Told}
use Rattle.pat_tree.specs.Pattern.{Pattern}
use Rattle.grep_args.specs.declared.plan.GrepPlan.{GrepPlan}
use Rattle.line_feed.specs.Rows.{Row}
use Rattle.line_feed.specs.View.{Feed}
use Rattle.line_feed.specs.Answers.{Gives}
use Rattle.grep_match.specs.pcre2_api.Needed.{Lacks}
use Rattle.grep_match.specs.declared.unsearched.Needed.{Needed}
use Rattle.grep_match.specs.Matches.{matches}
use Rattle.grep_match.specs.Needed.{AreNeeded}
use Rattle.grep_watch.specs.declared.watch.Watch.{Watch}
use Rattle.grep_watch.specs.Watched.{IsQuiet, Watches, AreClear, EndsInAscii, EndsInLf}
use Rattle.grep_watch.proofs.Cutting.{ends-behind, valid-behind}

kept : Option Needed → Needed → Needed
kept None d = d
kept (Some x) d = x

pub same-needed : (needed : Option Needed) (found some : Needed) → needed ≡ Some found → needed ≡ Some some
    → found ≡ some
unfolding kept
same-needed needed found some there is = ap (λ o. kept o found) (sym there ∙ is)

-- Where a text stands in bytes before and behind which others stand.

stands_before : (text : List (List Bool)) (xs ys : List ℕ) (k : ℕ) → Stands text xs k → Stands text (xs ++ ys) k
stands_before [] xs ys k h = tt
stands_before (set ∷ sets) xs ys k h =
    let long = length-append xs ys in
    let within = h.0 in (
      omega arith,
      (
        subst (λ b. has_byte set b ≡ true) (sym (get_or_append_left xs ys 0 k within)) h.1.0,
        stands_before sets xs ys (k + 1) h.1.1,
      ),
    )

stands_within : (text : List (List Bool)) (xs ys : List ℕ) (k : ℕ) → k + length text ≤ length xs
    → Stands text (xs ++ ys) k → Stands text xs k
stands_within [] xs ys k l h = tt
stands_within (set ∷ sets) xs ys k l h =
    let within : k < length xs = omega (arith, l) in (
      within,
      (
        subst (λ b. has_byte set b ≡ true) (get_or_append_left xs ys 0 k within) h.1.0,
        stands_within sets xs ys (k + 1) (omega (arith, l)) h.1.1,
      ),
    )

stands_behind : (text : List (List Bool)) (xs ys : List ℕ) (k : ℕ) → Stands text ys k
    → Stands text (xs ++ ys) (length xs + k)
stands_behind [] xs ys k h = tt
stands_behind (set ∷ sets) xs ys k h =
    let long = length-append xs ys in
    let within = h.0 in
    let next : length xs + (k + 1) ≡ length xs + k + 1 = omega arith in (
      omega arith,
      (
        subst (λ b. has_byte set b ≡ true) (sym (get_or-append-add xs ys k 0)) h.1.0,
        subst (Stands sets (xs ++ ys)) next (stands_behind sets xs ys (k + 1) h.1.1),
      ),
    )

stands_long : (text : List (List Bool)) (bytes : List ℕ) (k : ℕ) → k ≤ length bytes → Stands text bytes k
    → k + length text ≤ length bytes
stands_long [] bytes k l h = omega (arith, l)
stands_long (set ∷ sets) bytes k l h = let within = h.0 in let rest =
    stands_long sets bytes (k + 1) (omega arith) h.1.1 in omega arith

quiet-more : (text : List (List Bool)) (held taken : List ℕ) (n : ℕ) → IsQuiet text held n
    → IsQuiet text (held ++ taken) n
quiet-more text held taken n q =
    let long = length-append held taken in
    let within = q.within in
    record {
      within = omega arith;
      lacks = λ k low is. q.lacks k low (stands_within text held taken k (omega (arith, low, within)) is);
    }

quiet-front : (set : List Bool) (sets : List (List Bool)) (bytes behind : List ℕ) (n : ℕ)
    → IsQuiet (set ∷ sets) (bytes ++ behind) n → length bytes ≤ n
    → ((k : ℕ) → k < length bytes → slice_index bytes k < 256) → Lacks (set ∷ sets) bytes
quiet-front set sets bytes behind n q some are = record {
  small = are;
  missing = λ k is.
      let within = is.0 in
      let long = stands_long (set ∷ sets) bytes k (omega arith) is in
      q.lacks k (omega (arith, long, some)) (stands_before (set ∷ sets) bytes behind k is);
}

quiet-behind : (set : List Bool) (sets : List (List Bool)) (bytes behind : List ℕ) (n : ℕ)
    → IsQuiet (set ∷ sets) (bytes ++ behind) n → IsQuiet (set ∷ sets) behind (n - length bytes)
quiet-behind set sets bytes behind n q =
    let long = length-append bytes behind in
    let within = q.within in
    record {
      within = omega arith;
      lacks = λ k low is. q.lacks (length bytes + k) (omega (arith, low))
          (stands_behind (set ∷ sets) bytes behind k is);
    }

-- Lines that have no match.

clear-none : (plan : GrepPlan) (patterns : List Pattern) (longest : ℕ) (held : List ℕ)
    → AreClear plan patterns longest held 0
clear-none plan patterns longest held = record {
  within = omega arith;
  none = λ before line behind is ends plain low short. absurd (omega (arith, low));
}

-- a line that stands in the bytes held stands there before more is taken
line-held : (held taken before line behind : List ℕ) → held ++ taken ≡ before ++ (line ++ (10 ∷ behind))
    → length before + length line < length held
    → held ≡ before ++ (line ++ (10 ∷ take (length held - length before - length line - 1) behind))
line-held held taken before line behind is low =
    let n = length held in
    let a = length before in
    let b = length line in
    let m = n - a - b - 1 in
    let first : a + (b + suc m) ≡ n = omega (arith, low) in
    let whole : take n (held ++ taken) ≡ held = take-append-le n held taken (omega arith)
    ∙ take_all n held (omega arith) in
    sym whole ∙ ap (λ l. take n l) is ∙ ap (λ k. take k (before ++ (line ++ (10 ∷ behind)))) (sym first)
    ∙ take-append-add before (line ++ (10 ∷ behind)) (b + suc m)
    ∙ ap (λ l. before ++ l) (take-append-add line (10 ∷ behind) (suc m))

module _ (plan : GrepPlan) (patterns : List Pattern) (longest : ℕ) where
  clear-more : (held taken : List ℕ) (n : ℕ) → AreClear plan patterns longest held n
      → AreClear plan patterns longest (held ++ taken) n
  clear-more held taken n c =
      let long = length-append held taken in
      let within = c.within in record {
        within = omega (arith, within, long);
        none = λ before line behind is ends plain low short.
            c.none before line (take (length held - length before - length line - 1) behind)
            (line-held held taken before line behind is (omega (arith, low, within))) ends plain low short;
      }

  ends-in-lf : (front before : List ℕ) → EndsInLf front → EndsInLf before → EndsInLf (front ++ before)
  ends-in-lf front [] ends none k last =
      let same = append-nil front in
      subst (λ l. slice_index l k ≡ 10) (sym same) (ends k (last ∙ ap length same))
  ends-in-lf front (b ∷ before) ends more k last =
      let long = length-append front (b ∷ before) in
      let at : length front + (k - length front) ≡ k = omega (arith, last, long) in
      subst (λ n. slice_index (front ++ (b ∷ before)) n ≡ 10) at
      (get_or-append-add front (b ∷ before) (k - length front) 0 ∙ more (k - length front) (omega (arith, last, long)))

  clear-behind : (front behind : List ℕ) (n : ℕ) → EndsInLf front → AreClear plan patterns longest (front ++ behind) n
      → AreClear plan patterns longest behind (n - length front)
  clear-behind front behind n ends c =
      let long = length-append front behind in
      let within = c.within in record {
        within = omega (arith, within, long);
        none = λ before line rest is has plain low short.
            let all = length-append front before in
            c.none (front ++ before) line rest (ap (λ l. front ++ l) is
            ∙ sym (append_assoc front before (line ++ (10 ∷ rest)))) (ends-in-lf front before ends has) plain
            (omega (arith, low, all)) short;
      }

pub ends-with-lf : (bytes newline : List ℕ) → newline ≡ 10 ∷ [] → EndsInLf (bytes ++ newline)
ends-with-lf bytes newline is k last =
    let long = length-append bytes newline in
    let one = ap length is in
    let at : length bytes + 0 ≡ k = omega (arith, last, long, one) in
    subst (λ n. slice_index (bytes ++ newline) n ≡ 10) at (get_or-append-add bytes newline 0 0
    ∙ ap (λ l. slice_index l 0) is)

-- of no text anything need be known
pub watches_new : (plan : GrepPlan) (patterns : List Pattern) (needed : Option Needed)
    → IfSome needed (AreNeeded plan patterns)
    → (held : List ℕ) → Watches plan patterns (record { needed = needed; longest = 0; quiet = 0 }) held
watches_new plan patterns needed are held = record {
  needed = λ some is. subst (λ o. IfSome o (AreNeeded plan patterns)) is are;
  quiet = λ some is. record { within = omega arith; lacks = λ k low stands. omega (arith, low) };
  valid = λ some is on. IsUtf8-nil;
  clear = λ none. clear-none plan patterns 0 held;
}

-- lines were found to have no match
pub watches_clear : (plan : GrepPlan) (patterns : List Pattern) (w : Watch) (held : List ℕ) (longest n : ℕ)
    → w.needed ≡ None → AreClear plan patterns longest held n
    → Watches plan patterns (record w { longest = longest; quiet = n }) held
watches_clear plan patterns w held longest n none clear = record {
  needed = λ some is. absurd (none-some some (sym none ∙ is));
  quiet = λ some is. absurd (none-some some (sym none ∙ is));
  valid = λ some is on. absurd (none-some some (sym none ∙ is));
  clear = λ is. clear;
}

module _ (plan : GrepPlan) (patterns : List Pattern) (w : Watch) where
  watches_more : (held taken : List ℕ) → Watches plan patterns w held → Watches plan patterns w (held ++ taken)
  watches_more held taken had = record {
    needed = had.needed;
    quiet = λ some is. quiet-more (sets_of some.text) held taken w.quiet (had.quiet some is);
    valid = λ some is on.
        let within = (had.quiet some is).within in
        subst IsUtf8 (sym (take-append-le w.quiet held taken within)) (had.valid some is on);
    clear = λ none. clear-more plan patterns w.longest held taken w.quiet (had.clear none);
  }

  -- the text was looked for
  pub watches_found : (held : List ℕ) (n : ℕ) (found : Needed) → w.needed ≡ Some found
      → IsQuiet (sets_of found.text) held n → IsChecked found.utf (take n held)
      → Watches plan patterns w held → Watches plan patterns (record w { quiet = n }) held
  watches_found held n found there quiet valid had = record {
    needed = had.needed;
    quiet = λ some is. subst (λ (s : Needed). IsQuiet (sets_of s.text) held n)
        (same-needed w.needed found some there is) quiet;
    valid = λ some is. subst (λ (s : Needed). IsChecked s.utf (take n held))
        (same-needed w.needed found some there is) valid;
    clear = λ none. absurd (none-some found (sym none ∙ there));
  }

  -- it stands nowhere in a line
  pub watches_none : (bytes behind : List ℕ) (found : Needed) → w.needed ≡ Some found → length bytes ≤ w.quiet
      → length bytes ≤ found.most → IsChecked found.utf bytes
      → ((k : ℕ) → k < length bytes → slice_index bytes k < 256) → Watches plan patterns w (bytes ++ behind)
      → matches plan patterns bytes ≡ Ok []
  watches_none bytes behind found there some short checked are had =
      had.needed found there bytes (record {
        short = short;
        lacks = quiet-front found.text.first (behind_of found.text.second found.text.third) bytes behind w.quiet
            (had.quiet found there) some are;
        checked = checked;
      })

  -- nothing more is known
  pub watches_less : (held rest : List ℕ) → Watches plan patterns w held
      → Watches plan patterns (record w { quiet = 0 }) rest
  watches_less held rest had = record {
    needed = had.needed;
    quiet = λ some is. record { within = omega arith; lacks = λ k low stands. omega (arith, low) };
    valid = λ some is on. IsUtf8-nil;
    clear = λ none. clear-none plan patterns w.longest rest;
  }

  pub watches_behind : (bytes newline behind : List ℕ) (n : ℕ) → n ≡ w.quiet - length bytes - length newline
      → ((some : Needed) → w.needed ≡ Some some → IsChecked some.utf (take n behind))
      → (w.needed ≡ None → EndsInLf (bytes ++ newline))
      → Watches plan patterns w (bytes ++ newline ++ behind)
      → Watches plan patterns (record w { quiet = n }) behind
  watches_behind bytes newline behind n is valid ends had = record {
    needed = had.needed;
    quiet = λ some there.
        let long = length-append bytes newline in
        let same : w.quiet - length (bytes ++ newline) ≡ n = omega (arith, long, is) in
        subst (IsQuiet (sets_of some.text) behind) same
        (quiet-behind some.text.first (behind_of some.text.second some.text.third) (bytes ++ newline) behind w.quiet
        (had.quiet some there));
    valid = valid;
    clear = λ none.
        let long = length-append bytes newline in
        let same : w.quiet - length (bytes ++ newline) ≡ n = omega (arith, long, is) in
        subst (AreClear plan patterns w.longest behind) same
        (clear-behind plan patterns w.longest (bytes ++ newline) behind w.quiet (ends none) (had.clear none));
  }

  -- behind a newline of ASCII it goes on with a character
  pub watches_left : (bytes newline behind : List ℕ) (n : ℕ) → n ≡ w.quiet - length bytes - length newline
      → ((some : Needed) → w.needed ≡ Some some → IsTrue some.utf → EndsInAscii newline)
      → (w.needed ≡ None → newline ≡ 10 ∷ [])
      → Watches plan patterns w (bytes ++ newline ++ behind)
      → Watches plan patterns (record w { quiet = n }) behind
  watches_left bytes newline behind n is ends lf had =
      watches_behind bytes newline behind n is (λ some there on.
      let long = length-append bytes newline in
      let same : w.quiet - length (bytes ++ newline) ≡ n = omega (arith, long, is) in
      subst (λ k. IsUtf8 (take k behind)) same
      (valid-behind (bytes ++ newline) behind w.quiet (ends-behind bytes newline (ends some there on))
      (had.valid some there on)))
      (λ none. ends-with-lf bytes newline (lf none)) had

  -- what the feed held begins with the line that it gives
  pub watches_gives : (f g : Feed) (now after : Told) (row : Row) → Gives f g now after row
      → Watches plan patterns w f.held
      → Watches plan patterns w (row.bytes ++ row.newline ++ g.held)
  watches_gives f g now after row gives had =
      let moves = gives.reads.moves in
      subst (Watches plan patterns w) (sym moves.held ∙ gives.cuts.bytes) (watches_more f.held moves.taken had)

  pub watches_line : (bytes newline behind : List ℕ) → Watches plan patterns w (bytes ++ newline ++ behind)
      → Watches plan patterns w (bytes ++ (newline ++ behind))
  watches_line bytes newline behind had = subst (Watches plan patterns w) (append_assoc bytes newline behind) had
