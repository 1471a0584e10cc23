-- The matches of a block, one at a time, and how far its lines reach.
use Rattle.std.proofs.Common.{◌≡◌, ◌∙◌, ℕ, zero, suc, ◌+◌, ◌-◌, ◌<◌, ◌≤◌, max, Bool, true, false, List, [], ◌∷◌, ◌++◌}
use Rattle.std.proofs.Common.{length, nat_lt, if◌then◌else◌, ℤ, Ok, Err, refl, sym, ap, subst, arith, ⊎_elim}
use Rattle.std.proofs.Common.{append_assoc, length-append, append-nil}
use Rattle.std.proofs.lemmas.Bool.{cases_lt, lt-ltb, le-ltb}
use Rattle.byte_lanes.specs.declared.line_end.EndKind.{EndKind}
use Rattle.ordered_search.specs.PlaceAnswer.{Outcome}
use Rattle.line_feed.specs.Rows.{Row}
use Rattle.grep_args.specs.declared.plan.GrepPlan.{GrepPlan}
use Rattle.pat_tree.specs.Pattern.{Pattern}
use Rattle.grep_match.specs.pcre2_api.Answers.{found, none, error}
use Rattle.grep_match.specs.declared.found.Place.{Place}
use Rattle.pat_tree.specs.declared.options.MatchOptions.{MatchOptions}
use Rattle.grep_match.specs.Compiled.{Keeping, patterns_in}
use Rattle.grep_match.specs.declared.search.Answer.{Answer as Told}
use Rattle.grep_match.specs.declared.search.Answer.TheVariants as told
use Rattle.grep_match.specs.declared.search.Verdict.TheVariants as verdict
use Rattle.grep_match.specs.Matches.{Matches, first_answer, limits, not_empty, shows_each, with_match}
use Rattle.grep_match.specs.Found.{Listed, Lists, IsAnswer, place_of}
use Rattle.grep_match.proofs.Searching.{is_matched, is_none, is_error, found_within, lists_more, prefixed}
use Rattle.grep_match.proofs.Searching.{restated, prefixed_more, prefixed_none, prefixed_error}
use Rattle.grep_multi.specs.declared.cut.Reach.{Reach}
use Rattle.grep_multi.specs.declared.blocks.Block.{Block}
use Rattle.grep_multi.specs.Blocks.{lines_before, last_line, last_end, is_past, later_in, matches_with}
use Rattle.grep_multi.specs.Given.{lines_at, EndsAt, Extends, IsBehind, Reaches, IsTaken}
use Rattle.grep_multi.proofs.Cutting.{before-none}

-- lines before places

kept_by : (e m : ℕ) (x : Row) (xs rest : List Row) → e ≤ m
    → lines_before m (lines_before e xs ++ rest) ≡ lines_before e xs ++ lines_before m rest
    → lines_before m (lines_before e (x ∷ xs) ++ rest) ≡ lines_before e (x ∷ xs) ++ lines_before m rest
kept_by e m x xs rest le more =
    let P : Bool → Type 0 = λ t. lines_before m ((if t then x ∷ lines_before e xs else []) ++ rest)
    ≡ (if t then x ∷ lines_before e xs else []) ++ lines_before m rest in
    ⊎_elim (λ l. subst P (sym (lt-ltb x.offset e l))
    (ap (λ t. if t then x ∷ lines_before m (lines_before e xs ++ rest) else [])
    (lt-ltb x.offset m (omega (arith, l, le)))
    ∙ ap (λ l. x ∷ l) more))
    (λ past. subst P (sym (le-ltb x.offset e past)) refl)
    (cases_lt x.offset e)

front-kept : (e m : ℕ) (xs rest : List Row) → e ≤ m
    → lines_before m (lines_before e xs ++ rest) ≡ lines_before e xs ++ lines_before m rest
front-kept e m [] rest le = refl
front-kept e m (x ∷ xs) rest le = kept_by e m x xs rest le (front-kept e m xs rest le)

last-append : (line : Row) (xs ys : List Row) → last_line line (xs ++ ys) ≡ last_line (last_line line xs) ys
last-append line [] ys = refl
last-append line (x ∷ xs) ys = last-append x xs ys

module _ (kind : EndKind) (text : List ℕ) where
  before-greater : (e to : ℕ) (reach : Reach) → e ≤ reach.behind.at
      → lines_before (max e to) (lines_at kind text reach.behind) ≡ lines_before to (lines_at kind text reach.behind)
  before-greater e to reach far =
      let rest = lines_at kind text reach.behind in
      ⊎_elim (λ l.
      before-none kind text (max e to) reach.behind (omega (arith, l, far))
      ∙ sym (before-none kind text to reach.behind (omega (arith, l, far))))
      (λ past. let same : max e to ≡ to = omega (arith, past) in ap (λ m. lines_before m rest) same)
      (cases_lt to e)

  pub reaches-first : (line : Row) (reach : Reach) → EndsAt line reach → line.number ≡ reach.behind.lines
      → Reaches kind text line (lines_at kind text reach.behind) 0 reach
  reaches-first line reach ends number =
      let none = before-none kind text 0 reach.behind (omega arith) in
      record {
        all = ap (λ l. l ++ lines_at kind text reach.behind) (sym none);
        ends = subst (λ l. EndsAt (last_line line l) reach) (sym none) ends;
        many = (let zero = ap length none in omega (arith, zero, number));
        far = omega arith;
      }

  pub reaches-more : (line : Row) (lines : List Row) (e to : ℕ) (reach new : Reach)
      → Reaches kind text line lines e reach → Extends kind text to reach new
      → Reaches kind text line lines (max e to) new
  reaches-more line lines e to reach new had ext =
      let front = lines_before e lines in
      let rest = lines_at kind text reach.behind in
      let more = lines_before to rest in
      let is : lines_before (max e to) lines ≡ front ++ more =
      ap (lines_before (max e to)) had.all ∙ front-kept e (max e to) lines rest (omega arith)
      ∙ ap (λ l. front ++ l) (before-greater e to reach had.far) in
      record {
        all =
            had.all ∙ ap (λ l. front ++ l) ext.lines
            ∙ sym (append_assoc front more (lines_at kind text new.behind))
            ∙ ap (λ l. l ++ lines_at kind text new.behind) (sym is);
        ends = subst (λ l. EndsAt l new) (sym (ap (last_line line) is ∙ last-append line front more))
            (ext.ends (last_line line front) had.ends);
        many = (let long = ap length is in omega (arith, long, length-append front more, had.many, ext.many));
        far = omega (arith, had.far, ext.behind.later, ext.far);
      }

last-more : (o : Outcome) (os : List Outcome) (p : Outcome) → last_end o (os ++ p ∷ []) ≡ max (last_end o os) p.to
last-more o [] p = refl
last-more o (q ∷ os) p = ap (max o.to) (last-more q os p) ∙ omega arith

module _ (kind : EndKind) (plan : GrepPlan) (patterns : List Pattern) (text : List ℕ) (line : Row)
    (lines : List Row) where
  past-now : (n e start : ℕ) → is_past start (last_line line (lines_before e lines)) ≡ true
      → later_in plan patterns text line lines (suc n) e start ≡ Ok []
  unfolding later_in
  past-now n e start past = rw (past, later_in) refl

  none-now : (n e start : ℕ) → is_past start (last_line line (lines_before e lines)) ≡ false
      → first_answer (not_empty (limits plan)) text start patterns ≡ none
      → later_in plan patterns text line lines (suc n) e start ≡ Ok []
  unfolding later_in
  none-now n e start past is = rw (past, is, later_in) refl

  error-now : (n e start : ℕ) (x : ℤ) → is_past start (last_line line (lines_before e lines)) ≡ false
      → first_answer (not_empty (limits plan)) text start patterns ≡ error x
      → later_in plan patterns text line lines (suc n) e start ≡ Err x
  unfolding later_in
  error-now n e start x past is = rw (past, is, later_in) refl

  found-now : (n e start : ℕ) (o : Outcome) → is_past start (last_line line (lines_before e lines)) ≡ false
      → first_answer (not_empty (limits plan)) text start patterns ≡ found o
      → later_in plan patterns text line lines (suc n) e start
      ≡ with_match o (later_in plan patterns text line lines n (max e o.to) o.to)
  unfolding later_in
  found-now n e start o past is = rw (past, is, later_in) refl

  last-now : (e start : ℕ) → later_in plan patterns text line lines zero e start ≡ Ok []
  unfolding later_in
  last-now e start = refl

  -- so many matches are listed, the lines that they take reach so far, and the next search begins at the place
  pub record IsOn (o : Outcome) (now : Listed) (i start : ℕ) (reach : Reach) : Type 0 where
    pub os : List Outcome
    pub lists : Lists plan.only_matching (length text) now (o ∷ os)
    pub same :
        with_match o (later_in plan patterns text line lines (length text + 1) o.to o.to)
        ≡ with_match o
        (prefixed os (later_in plan patterns text line lines (length text + 1 - i) (last_end o os) start))
    pub reaches : Reaches kind text line lines (last_end o os) reach

  abbrev pub whole : Outcome → Matches
  whole o = with_match o (later_in plan patterns text line lines (length text + 1) o.to o.to)

  pub on-first : (o : Outcome) (now : Listed) (reach : Reach) → Lists plan.only_matching (length text) now (o ∷ [])
      → Reaches kind text line lines (max 0 o.to) reach → IsOn o now 0 o.to reach
  unfolding prefixed
  on-first o now reach lists reaches = record {
    os = [];
    lists = lists;
    same = (let e : length text + 1 ≡ length text + 1 - 0 = omega arith in
        ap (λ n. with_match o (later_in plan patterns text line lines n o.to o.to)) e);
    reaches = (let e : max 0 o.to ≡ o.to = omega arith in subst (λ n. Reaches kind text line lines n reach) e reaches);
  }

  module _ (o : Outcome) (now : Listed) (i start : ℕ) (reach : Reach) (on : IsOn o now i start reach) where
    past-same : (t : Bool) → ((l : Row) → EndsAt l reach → t ≡ is_past start l)
        → is_past start (last_line line (lines_before (last_end o on.os) lines)) ≡ t
    past-same t tells = sym (tells _ on.reaches.ends)

    pub on-more : (after : Listed) (place : Place) (new : Reach) → i < length text + 1
        → ((l : Row) → EndsAt l reach → false ≡ is_past start l)
        → IsAnswer plan.only_matching (length text) now after (told.Found place)
        (first_answer (not_empty (limits plan)) text start patterns)
        → Extends kind text place.to reach new → IsOn o after (i + 1) place.to new
    on-more after place new h past answer ext =
        let m = is_matched plan.only_matching (length text) now after place
        (first_answer (not_empty (limits plan)) text start patterns) answer in
        let n = length text + 1 - (i + 1) in
        let left : length text + 1 - i ≡ suc n = omega arith in
        let at : place.to ≡ m.outcome.to = ap (λ p. p.to) m.adds.at in
        let e = last_end o on.os in
        let longer : max e place.to ≡ last_end o (on.os ++ m.outcome ∷ []) =
        ap (max e) at ∙ sym (last-more o on.os m.outcome) in
        record {
          os = on.os ++ m.outcome ∷ [];
          lists = lists_more plan.only_matching (length text) now after place (o ∷ on.os) m.outcome on.lists m.adds
              m.within;
          same =
              on.same
              ∙ ap (λ k. with_match o (prefixed on.os (later_in plan patterns text line lines k e start))) left
              ∙ ap (λ r. with_match o (prefixed on.os r)) (found-now n e start m.outcome (past-same false past) m.is)
              ∙ ap (with_match o)
              (prefixed_more on.os m.outcome
              (later_in plan patterns text line lines n (max e m.outcome.to) m.outcome.to))
              ∙ ap (λ k. with_match o (prefixed (on.os ++ m.outcome ∷ [])
              (later_in plan patterns text line lines n k m.outcome.to))) (sym (last-more o on.os m.outcome))
              ∙ ap (λ k. with_match o (prefixed (on.os ++ m.outcome ∷ [])
              (later_in plan patterns text line lines n (last_end o (on.os ++ m.outcome ∷ [])) k))) (sym at);
          reaches = subst (λ k. Reaches kind text line lines k new) longer
              (reaches-more kind text line lines e place.to reach new on.reaches ext);
        }

    ended : (after : Listed) (rest : Matches) → Lists plan.only_matching (length text) after (o ∷ on.os)
        → whole o ≡ with_match o (prefixed on.os rest) → rest ≡ Ok []
        → IsTaken kind plan.only_matching text line lines (whole o) after
        (record { reach = reach; verdict = verdict.Match })
    ended after rest lists same over =
        subst (λ m. IsTaken kind plan.only_matching text line lines m after
        (record { reach = reach; verdict = verdict.Match }))
        (sym (same ∙ ap (λ r. with_match o (prefixed on.os r)) over ∙ ap (with_match o) (prefixed_none on.os)))
        (record { found = lists; reaches = on.reaches })

    pub on-past : i < length text + 1 → ((l : Row) → EndsAt l reach → true ≡ is_past start l)
        → IsTaken kind plan.only_matching text line lines (whole o) now
        (record { reach = reach; verdict = verdict.Match })
    on-past h past =
        let n = length text + 1 - (i + 1) in
        let left : length text + 1 - i ≡ suc n = omega arith in
        ended now _ on.lists on.same
        (ap (λ k. later_in plan patterns text line lines k (last_end o on.os) start) left
        ∙ past-now n (last_end o on.os) start (past-same true past))

    pub on-none : (after : Listed) → i < length text + 1
        → ((l : Row) → EndsAt l reach → false ≡ is_past start l)
        → IsAnswer plan.only_matching (length text) now after told.Nothing
        (first_answer (not_empty (limits plan)) text start patterns)
        → IsTaken kind plan.only_matching text line lines (whole o) after
        (record { reach = reach; verdict = verdict.Match })
    on-none after h past answer =
        let m = is_none plan.only_matching (length text) now after
        (first_answer (not_empty (limits plan)) text start patterns) answer in
        let n = length text + 1 - (i + 1) in
        let left : length text + 1 - i ≡ suc n = omega arith in
        ended after _ (subst (λ l. Lists plan.only_matching (length text) l (o ∷ on.os)) (sym m.1) on.lists) on.same
        (ap (λ k. later_in plan patterns text line lines k (last_end o on.os) start) left
        ∙ none-now n (last_end o on.os) start (past-same false past) m.0)

    pub on-end : length text + 1 ≤ i → IsTaken kind plan.only_matching text line lines (whole o) now
        (record { reach = reach; verdict = verdict.Match })
    on-end h =
        let left : length text + 1 - i ≡ 0 = omega arith in
        ended now _ on.lists on.same
        (ap (λ k. later_in plan patterns text line lines k (last_end o on.os) start) left
        ∙ last-now (last_end o on.os) start)

    -- the line alone has the error
    pub on-error : (after : Listed) (e : ℤ) (first : Reach) → i < length text + 1
        → ((l : Row) → EndsAt l reach → false ≡ is_past start l)
        → Reaches kind text line lines 0 first
        → IsAnswer plan.only_matching (length text) now after (told.Error e)
        (first_answer (not_empty (limits plan)) text start patterns)
        → IsTaken kind plan.only_matching text line lines (whole o) after
        (record { reach = first; verdict = verdict.Error e })
    on-error after e first h past alone answer =
        let m = is_error plan.only_matching (length text) now after e
        (first_answer (not_empty (limits plan)) text start patterns) answer in
        let n = length text + 1 - (i + 1) in
        let left : length text + 1 - i ≡ suc n = omega arith in
        subst (λ m. IsTaken kind plan.only_matching text line lines m after
        (record { reach = first; verdict = verdict.Error e }))
        (sym (on.same ∙ ap (λ r. with_match o (prefixed on.os r))
        (ap (λ k. later_in plan patterns text line lines k (last_end o on.os) start) left
        ∙ error-now n (last_end o on.os) start e (past-same false past) m)
        ∙ ap (with_match o) (prefixed_error on.os e)))
        (record { found = refl; reaches = alone })

-- the first match of a block

module _ (kind : EndKind) (plan : GrepPlan) (patterns : List Pattern) (text : List ℕ) (row : Row) (line reach : Reach)
    (to : ℕ) (o : Outcome) (now : Listed) (ends : EndsAt row line) (number : row.number ≡ line.behind.lines)
    (is : to ≡ o.to) (lists : Lists plan.only_matching (length text) now (o ∷ [])) where
  abbrev pub behind : List Row
  behind = lines_at kind text line.behind

  reaches-to : Extends kind text to line reach → Reaches kind text row behind o.to reach
  reaches-to ext =
      let same : max 0 to ≡ o.to = omega (arith, is) in
      subst (λ n. Reaches kind text row behind n reach) same
      (reaches-more kind text row behind 0 to line reach (reaches-first kind text row line ends number) ext)

  pub on-begin : Extends kind text to line reach → IsOn kind plan patterns text row behind o now 0 to reach
  on-begin ext =
      let same : o.to ≡ max 0 o.to = omega arith in
      subst (λ n. IsOn kind plan patterns text row behind o now 0 n reach) (sym is)
      (on-first kind plan patterns text row behind o now reach lists
      (subst (λ n. Reaches kind text row behind n reach) same (reaches-to ext)))

  -- the same for a match that ends there
  pub retold : (after : Listed) (block : Block)
      → IsTaken kind plan.only_matching text row behind (whole kind plan patterns text row behind o) after block
      → IsTaken kind plan.only_matching text row behind
      (with_match o (later_in plan patterns text row behind (length text + 1) to to)) after block
  retold after block = subst (λ n. IsTaken kind plan.only_matching text row behind
      (with_match o (later_in plan patterns text row behind (length text + 1) n n)) after block) (sym is)

  pub taken-one : shows_each plan ≡ false → Extends kind text to line reach
      → IsTaken kind plan.only_matching text row behind (matches_with plan patterns text row behind o) now
      (record { reach = reach; verdict = verdict.Match })
  taken-one one ext =
      let m : Ok (o ∷ []) ≡ matches_with plan patterns text row behind o =
      sym (ap (λ t. elim t as (λ _. Matches) [
        | true ↦ whole kind plan patterns text row behind o
        | false ↦ Ok (o ∷ [])
      ]) one) in
      subst (λ m. IsTaken kind plan.only_matching text row behind m now
      (record { reach = reach; verdict = verdict.Match })) m
      (record { found = lists; reaches = reaches-to ext })

  pub taken-each : (after : Listed) (block : Block) → shows_each plan ≡ true
      → IsTaken kind plan.only_matching text row behind
      (with_match o (later_in plan patterns text row behind (length text + 1) to to)) after block
      → IsTaken kind plan.only_matching text row behind (matches_with plan patterns text row behind o) after block
  taken-each after block each taken =
      let m : with_match o (later_in plan patterns text row behind (length text + 1) to to)
      ≡ matches_with plan patterns text row behind o =
      ap (λ n. with_match o (later_in plan patterns text row behind (length text + 1) n n)) is
      ∙ sym (ap (λ t. elim t as (λ _. Matches) [
        | true ↦ whole kind plan patterns text row behind o
        | false ↦ Ok (o ∷ [])
      ]) each) in
      subst (λ m. IsTaken kind plan.only_matching text row behind m after block) m taken

-- reaches, over several steps
pub behind-then : (text : List ℕ) (a b c : Reach) → IsBehind text a b → IsBehind text b c → IsBehind text a c
behind-then text a b c first next = record {
  later = omega (arith, first.later, next.later);
  within = next.within;
  few = next.few;
}

-- what the code's search answers, in the definition's terms
pub answered : (wanted wanted' : List ℕ) (len : ℕ) (before after : Listed) (a a' : Told)
    (matching matching' : MatchOptions) (text : List ℕ) (start : ℕ) (codes codes' : Keeping)
    → wanted ≡ wanted' → matching ≡ matching' → a ≡ a' → codes ≡ codes'
    → IsAnswer wanted len before after a (first_answer matching text start (patterns_in codes))
    → IsAnswer wanted' len before after a' (first_answer matching' text start (patterns_in codes'))
answered wanted wanted' len before after a a' matching matching' text start codes codes' e f g d h =
    subst (λ x. IsAnswer wanted' len before after a' (first_answer matching' text start (patterns_in x))) d
    (restated wanted wanted' len before after a a' matching matching' text start (patterns_in codes) e f g h)
