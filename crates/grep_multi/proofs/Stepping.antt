-- One step through the blocks of a text.
use Rattle.std.proofs.Common.{◌≡◌, ◌∙◌, ℕ, ◌+◌, ◌<◌, ◌≤◌, Bool, true, false, not, ◌&&◌, List, [], ◌∷◌, ◌++◌, length}
use Rattle.std.proofs.Common.{map, if◌then◌else◌, ℤ, Option, Some, None, Result, Ok, Err, IfOk, refl, sym, ap, subst}
use Rattle.std.proofs.Common.{arith}
use Rattle.std.proofs.Common.{⊎_elim}
use Rattle.std.proofs.lemmas.Bool.{cases_lt, lt-ltb, le-ltb}
use Rattle.std.specs.Str.{is_utf8}
use Rattle.std.specs.Str.Lossy.{utf8_valid_len}
use Rattle.byte_lanes.specs.declared.line_end.EndKind.{EndKind}
use Rattle.ordered_search.specs.PlaceAnswer.{Outcome}
use Rattle.line_feed.specs.Rows.{Row}
use Rattle.grep_args.specs.declared.plan.GrepPlan.{GrepPlan}
use Rattle.pat_tree.specs.Pattern.{Pattern}
use Rattle.pcre2_errors.specs.MatchErrors.{minus}
use Rattle.grep_match.specs.pcre2_api.Answers.{found, none, error}
use Rattle.grep_match.specs.declared.found.Place.{Place}
use Rattle.grep_match.specs.declared.search.Answer.TheVariants as told
use Rattle.grep_match.specs.declared.search.Verdict.{Verdict}
use Rattle.grep_match.specs.declared.search.Verdict.TheVariants as verdict
use Rattle.grep_match.specs.Matches.{Matches, first_answer, limits}
use Rattle.grep_match.specs.Found.{Listed, Lists, IsAnswer, IsVerdict}
use Rattle.grep_match.proofs.Searching.{is_matched, is_none, is_error, lists_more, lists_none}
use Rattle.grep_multi.specs.declared.cut.LineStart.{LineStart}
use Rattle.grep_multi.specs.declared.cut.Reach.{Reach}
use Rattle.grep_multi.specs.declared.blocks.Block.{Block}
use Rattle.grep_multi.specs.Blocks.{TriedBlock, lines_before, matches_end, taken_with, matches_with, matches_at}
use Rattle.grep_multi.specs.Blocks.{blocks_from, blocks_in, first_bad, holds, unsearched, tried_block}
use Rattle.grep_multi.specs.Given.{lines_at, EndsAt, Cuts, Reaches, IsBehind, IsTaken, Gives}
use Rattle.grep_multi.proofs.Cutting.{first-at, lines-end}
use Rattle.grep_multi.proofs.Growing.{reaches-first}

-- where the first byte is that isn't UTF-8
abbrev bad_by : List ℕ → Bool → Option ℕ
bad_by text t = if t then Some (utf8_valid_len text) else None

pub bad-text : (plan : GrepPlan) (text : List ℕ) → is_utf8 text ≡ true → first_bad plan text ≡ None
bad-text plan text good = ap (λ b. bad_by text (plan.utf && not b)) good ∙ never plan.utf
  where
    never : (t : Bool) → bad_by text (t && not true) ≡ None
    never true = refl
    never false = refl

pub bad-some : (plan : GrepPlan) (text : List ℕ) → plan.utf ≡ true → is_utf8 text ≡ false
    → first_bad plan text ≡ Some (utf8_valid_len text)
bad-some plan text utf bad =
    ap (λ t. bad_by text (t && not (is_utf8 text))) utf ∙ ap (λ b. bad_by text (true && not b)) bad

module _ (plan : GrepPlan) (patterns : List Pattern) (text : List ℕ) where
  -- a line that the block before has taken, and one that it hasn't
  blocks-passed : (place : ℕ) (line : Row) (lines : List Row) → line.offset < place
      → blocks_from plan patterns text place (line ∷ lines) ≡ blocks_from plan patterns text place lines
  unfolding blocks_from
  blocks-passed place line lines before = rw (lt-ltb line.offset place before, blocks_from) refl

  blocks-tried : (place : ℕ) (line : Row) (lines : List Row) → place ≤ line.offset
      → blocks_from plan patterns text place (line ∷ lines)
      ≡ taken_with line lines (matches_at plan patterns text line lines)
      ∷ blocks_from plan patterns text (matches_end (matches_at plan patterns text line lines)) lines
  unfolding blocks_from
  blocks-tried place line lines past = rw (le-ltb line.offset place past, blocks_from) refl

  blocks-none : (place : ℕ) → blocks_from plan patterns text place [] ≡ []
  unfolding blocks_from
  blocks-none place = refl

  skips_by : (e : ℕ) (x : Row) (xs rest : List Row)
      → blocks_from plan patterns text e (lines_before e xs ++ rest) ≡ blocks_from plan patterns text e rest
      → blocks_from plan patterns text e (lines_before e (x ∷ xs) ++ rest) ≡ blocks_from plan patterns text e rest
  skips_by e x xs rest more =
      let P : Bool → Type 0 = λ t. blocks_from plan patterns text e ((if t then x ∷ lines_before e xs else []) ++ rest)
      ≡ blocks_from plan patterns text e rest in
      ⊎_elim (λ l. subst P (sym (lt-ltb x.offset e l)) (blocks-passed e x (lines_before e xs ++ rest) l ∙ more))
      (λ past. subst P (sym (le-ltb x.offset e past)) refl)
      (cases_lt x.offset e)

  blocks-skip : (e : ℕ) (xs rest : List Row)
      → blocks_from plan patterns text e (lines_before e xs ++ rest) ≡ blocks_from plan patterns text e rest
  blocks-skip e [] rest = refl
  blocks-skip e (x ∷ xs) rest = skips_by e x xs rest (blocks-skip e xs rest)

  -- lines that begin past a place are tried whatever the place
  blocks-anew : (kind : EndKind) (e : ℕ) (at : LineStart) → e ≤ at.at
      → blocks_from plan patterns text e (lines_at kind text at)
      ≡ blocks_from plan patterns text 0 (lines_at kind text at)
  blocks-anew kind e at far =
      ⊎_elim (λ some.
      let first = first-at kind text at some in
      let line = first.0 in
      let more = first.1.0 in
      ap (blocks_from plan patterns text e) first.1.1.0
      ∙ blocks-tried e line more (subst (λ n. e ≤ n) (sym first.1.1.1) far)
      ∙ sym (ap (blocks_from plan patterns text 0) first.1.1.0 ∙ blocks-tried 0 line more (omega arith)))
      (λ end.
      let none = lines-end kind text at end in
      ap (blocks_from plan patterns text e) none ∙ blocks-none e
      ∙ sym (ap (blocks_from plan patterns text 0) none ∙ blocks-none 0))
      (cases_lt at.at (length text))

  in_by : (lines : List Row) (bad : Option ℕ) → first_bad plan text ≡ bad
      → blocks_in plan patterns text lines ≡ elim bad as (λ _. List TriedBlock) [
        | None ↦ blocks_from plan patterns text 0 lines
        | Some place ↦ map (unsearched place) lines
      ]
  in_by lines bad is = ap (λ b. elim b as (λ _. List TriedBlock) [
    | None ↦ blocks_from plan patterns text 0 lines
    | Some place ↦ map (unsearched place) lines
  ]) is

  -- what the first pattern that matches at a line gives
  pub at-none : (line : Row) (lines : List Row) → first_answer (limits plan) text line.offset patterns ≡ none
      → matches_at plan patterns text line lines ≡ Ok []
  unfolding matches_at
  at-none line lines is = rw (is, matches_at) refl

  pub at-error : (line : Row) (lines : List Row) (e : ℤ)
      → first_answer (limits plan) text line.offset patterns ≡ error e
      → matches_at plan patterns text line lines ≡ Err e
  unfolding matches_at
  at-error line lines e is = rw (is, matches_at) refl

  pub at-found : (line : Row) (lines : List Row) (o : Outcome)
      → first_answer (limits plan) text line.offset patterns ≡ found o
      → matches_at plan patterns text line lines ≡ matches_with plan patterns text line lines o
  unfolding matches_at
  at-found line lines o is = rw (is, matches_at) refl

  module _ (kind : EndKind) (from : LineStart) (line : Reach) (cuts : Cuts kind text from line) where
    abbrev pub behind : List Row
    behind = lines_at kind text line.behind

    pub alone : Reaches kind text cuts.line behind 0 line
    alone = reaches-first kind text cuts.line line cuts.ends (cuts.number ∙ sym cuts.many)

    pub gives-taken : (list : Listed) (block : Block) (m : Matches) → first_bad plan text ≡ None
        → m ≡ matches_at plan patterns text cuts.line behind
        → IsTaken kind plan.only_matching text cuts.line behind m list block → IsBehind text line block.reach
        → Gives kind plan patterns text from list block
    gives-taken list block m good is taken far =
        let e = matches_end m in
        let r = taken.reaches in
        let rest = lines_at kind text block.reach.behind in
        let mine = lines_before e behind in
        let step : blocks_from plan patterns text 0 (lines_at kind text from)
        ≡ tried_block (cuts.line ∷ mine) m ∷ blocks_from plan patterns text e behind =
        ap (blocks_from plan patterns text 0) cuts.lines
        ∙ blocks-tried 0 cuts.line behind (omega arith)
        ∙ ap (λ x. taken_with cuts.line behind x ∷ blocks_from plan patterns text (matches_end x) behind) (sym is) in
        let after : blocks_from plan patterns text e behind ≡ blocks_from plan patterns text 0 rest =
        ap (blocks_from plan patterns text e) r.all ∙ blocks-skip e behind rest
        ∙ blocks-anew kind e block.reach.behind r.far in
        record {
          tried = tried_block (cuts.line ∷ mine) m;
          blocks =
              in_by (lines_at kind text from) None good ∙ step
              ∙ ap (λ l. tried_block (cuts.line ∷ mine) m ∷ l) (after ∙ sym (in_by rest None good));
          lines = cuts.lines ∙ ap (λ l. cuts.line ∷ l) r.all;
          many = (let a = r.many in let b = cuts.number in omega (arith, a, b));
          found = taken.found;
          some = omega (arith, cuts.some, far.later);
          within = far.within;
          few = far.few;
        }

    pub gives-none : (before after : Listed) (start : ℕ) → first_bad plan text ≡ None → start ≡ from.at
        → before ≡ record { places = []; groups = [] } → from.lines ≤ from.at
        → IsAnswer plan.only_matching (length text) before after told.Nothing
        (first_answer (limits plan) text start patterns)
        → Gives kind plan patterns text from after (record { reach = line; verdict = verdict.NoMatch })
    gives-none before after start good at empty few answer =
        let m = is_none plan.only_matching (length text) before after (first_answer (limits plan) text start patterns)
        answer in
        gives-taken after (record { reach = line; verdict = verdict.NoMatch }) (Ok []) good
        (sym (at-none cuts.line behind
        (ap (λ n. first_answer (limits plan) text n patterns) (cuts.offset ∙ sym at) ∙ m.0)))
        (record { found = lists_none plan.only_matching (length text) after (m.1 ∙ empty); reaches = alone })
        (record {
          later = omega arith;
          within = cuts.within;
          few = (let a = cuts.many in let b = cuts.some in omega (arith, a, b, few));
        })

    pub gives-error : (before after : Listed) (start : ℕ) (e : ℤ) → first_bad plan text ≡ None → start ≡ from.at
        → from.lines ≤ from.at
        → IsAnswer plan.only_matching (length text) before after (told.Error e)
        (first_answer (limits plan) text start patterns)
        → Gives kind plan patterns text from after (record { reach = line; verdict = verdict.Error e })
    gives-error before after start e good at few answer =
        let is = is_error plan.only_matching (length text) before after e
        (first_answer (limits plan) text start patterns) answer in
        gives-taken after (record { reach = line; verdict = verdict.Error e }) (Err e) good
        (sym (at-error cuts.line behind e
        (ap (λ n. first_answer (limits plan) text n patterns) (cuts.offset ∙ sym at) ∙ is)))
        (record { found = refl; reaches = alone })
        (record {
          later = omega arith;
          within = cuts.within;
          few = (let a = cuts.many in let b = cuts.some in omega (arith, a, b, few));
        })

    pub gives-found : (before mid after : Listed) (start : ℕ) (place : Place) (block : Block)
        → first_bad plan text ≡ None → start ≡ from.at → before ≡ record { places = []; groups = [] }
        → IsAnswer plan.only_matching (length text) before mid (told.Found place)
        (first_answer (limits plan) text start patterns)
        → ((row : Row) (o : Outcome) → EndsAt row line → row.number ≡ line.behind.lines → place.to ≡ o.to
        → Lists plan.only_matching (length text) mid (o ∷ [])
        → IsTaken kind plan.only_matching text row behind (matches_with plan patterns text row behind o) after block)
        → IsBehind text line block.reach → Gives kind plan patterns text from after block
    gives-found before mid after start place block good at empty answer more far =
        let wanted = plan.only_matching in
        let m = is_matched wanted (length text) before mid place (first_answer (limits plan) text start patterns)
        answer in
        let is = ap (λ n. first_answer (limits plan) text n patterns) (cuts.offset ∙ sym at) ∙ m.is in
        gives-taken after block (matches_with plan patterns text cuts.line behind m.outcome) good
        (sym (at-found cuts.line behind m.outcome is))
        (more cuts.line m.outcome cuts.ends (cuts.number ∙ sym cuts.many) (ap (λ p. p.to) m.adds.at)
        (lists_more wanted (length text) before mid place [] m.outcome
        (lists_none wanted (length text) before empty) m.adds m.within))
        far

    unsearched-verdict : (list : Listed) (t : Bool) → list ≡ record { places = []; groups = [] }
        → IsVerdict plan.only_matching (length text) list (if t then verdict.Error (minus 3) else verdict.NoMatch)
        (if t then Err (minus 3) else Ok [])
    unsearched-verdict list true empty = refl
    unsearched-verdict list false empty = lists_none plan.only_matching (length text) list empty

    pub gives-unsearched : (list : Listed) (place : ℕ) (v : Verdict) → first_bad plan text ≡ Some place
        → list ≡ record { places = []; groups = [] } → from.lines ≤ from.at
        → v ≡ (if holds place cuts.line then verdict.Error (minus 3) else verdict.NoMatch)
        → Gives kind plan patterns text from list (record { reach = line; verdict = v })
    gives-unsearched list place v bad empty few is =
        let rest = lines_at kind text line.behind in
        record {
          tried = unsearched place cuts.line;
          blocks =
              in_by (lines_at kind text from) (Some place) bad
              ∙ ap (map (unsearched place)) cuts.lines
              ∙ ap (λ l. unsearched place cuts.line ∷ l) (sym (in_by rest (Some place) bad));
          lines = cuts.lines;
          many = cuts.many;
          found = subst (λ x. IsVerdict plan.only_matching (length text) list x
              (unsearched place cuts.line).matches) (sym is)
              (unsearched-verdict list (holds place cuts.line) empty);
          some = cuts.some;
          within = cuts.within;
          few = (let a = cuts.many in let b = cuts.some in omega (arith, a, b, few));
        }

-- two facts of a success
pub both-ok : {A E : Type 0} (r : Result A E) (P Q R : A → Type 0) → ((a : A) → P a → Q a → R a) → IfOk r P → IfOk r Q
    → IfOk r R
both-ok (Ok a) P Q R f h i = f a h i
both-ok (Err e) P Q R f h i = h
