-- What is left of a search from a start place on, and how the places before add to it.
use Rattle.std.specs.Prelude.{◌≡◌, ◌≤◌, ◌<◌, ℕ, ℤ, ◌+◌, ◌-◌, Bool, true, false, ◌&&◌, List, length, Option, Some}
use Rattle.std.specs.Prelude.{None, IsSomeAnd, nat_lt}
use Rattle.std.specs.Option.{option_or}
use Rattle.ordered_search.specs.pat_check.Known.{IsByteSet}
use Rattle.pcre_io.specs.declared.callouts.Block as told
use Rattle.match_items.specs.Subjects.{IsTextPlace}
use Rattle.frame_state.specs.Shown.{seen_after}
use Rattle.ordered_search.specs.Stream.{Block}
use Rattle.ordered_search.specs.Setting.{Setting, lead_set}
use Rattle.ordered_search.specs.PlaceAnswer.{Signal, Exhausted, Failed, answers, place_answer, last_name, blocks}
use Rattle.match_starts.specs.Asked.{replied}
use Rattle.match_starts.specs.Repeats.{AllFail}
use Rattle.ordered_search.specs.Places.{up_to, passes_crlf, last_place, place_after, is_excluded}
use Rattle.ordered_search.specs.MatchAnswer.{MatchAnswer, Found, none_found, tried, undecided, from_place}

module _ (g : Setting) where
  -- the search goes by this set of bytes, or excludes no place
  abbrev pub IsLeadUsed : Option (List Bool) → Type 0
  IsLeadUsed None = (p : ℕ) → is_excluded g p ≡ false
  IsLeadUsed (Some set) = (g.options.no_start_optimize ≡ false) × IsByteSet (Some set) (lead_set g)

  -- the place behind those from one up to another: one further where the last of them is the CR of a CRLF that is
  -- passed whole
  abbrev pub behind : ℕ → ℕ → ℕ
  behind p q = elim (nat_lt p q && passes_crlf g (q - 1)) [ true ↦ q + 1 | false ↦ q ]

  -- what is found from a place on
  abbrev pub found_from : Option ℕ → Found
  found_from None = none_found
  found_from (Some p) = from_place g (length g.subject + 1 - p) (Some p)

  -- all places from one up to another fail
  pub record IsPassed (p q : ℕ) : Type 0 where
    pub same : found_from (up_to (last_place g) (Some q)) ≡ found_from (Some p)
    pub later : p ≤ q

  -- all places up to one fail, and that one is tried
  pub record IsTried (from : Option ℕ) (q : ℕ) : Type 0 where
    pub same : found_from (Some q) ≡ found_from from
    pub later : IsSomeAnd from (λ p. p ≤ q)
    pub within : q ≤ last_place g
    pub not_excluded : is_excluded g q ≡ false

  -- the first place that is tried, from one on; where there is none, nothing is found
  abbrev pub IsNextTried : Option ℕ → Option ℕ → Type 0
  IsNextTried from None = found_from from ≡ none_found
  IsNextTried from (Some q) = IsTried from q

  -- all places from one on and before another fail and tell nothing
  abbrev pub FailBefore : ℕ → ℕ → Type 0
  FailBefore p q =
      (k : ℕ) → p ≤ k → k < q → IsTextPlace g.options g.subject k
      → tried g k ≡ answers (Failed Exhausted)

  -- where p fails and q is later, all places from p up to q fail and tell nothing
  abbrev pub FailsTo : ℕ → ℕ → Type 0
  FailsTo p q =
      p < q → (place_answer g p).answer ≡ Failed Exhausted → (k : ℕ) → p ≤ k → k ≤ q
      → place_answer g k ≡ answers (Failed Exhausted)

  -- where p fails so, what is found from the next place on is what the places after p give
  abbrev pub IsNext : ℕ → Signal → Option ℕ → Type 0
  IsNext p signal next = (place_answer g p).answer ≡ Failed signal
      → found_from next ≡ found_from (place_after g p signal)

-- The same whatever callouts answer.

abbrev pub FailBeforeAlways : Setting → ℕ → ℕ → Type 0
FailBeforeAlways g p q = (reply : Block → ℤ) → FailBefore (replied reply g) p q

abbrev pub FailsToAlways : Setting → ℕ → ℕ → Type 0
FailsToAlways g p q = (reply : Block → ℤ) → FailsTo (replied reply g) p q

abbrev pub IsNextAlways : Setting → ℕ → Signal → Option ℕ → Type 0
IsNextAlways g p signal next = (reply : Block → ℤ) → IsNext (replied reply g) p signal next

-- in a search of bytes all places from one up to another fail and tell nothing
pub record AreRefused (g : Setting) (p q : ℕ) : Type 0 where
  pub low : p ≤ q
  pub bytes : g.options.utf ≡ false
  pub fail : AllFail g p q

-- what is found from the next place on is what is found from p on
abbrev pub FindsAlike : Setting → ℕ → Option ℕ → Type 0
FindsAlike g p next = (reply : Block → ℤ)
    → found_from (replied reply g) next ≡ found_from (replied reply g) (Some p)

abbrev pub IsPassedAlways : Setting → ℕ → ℕ → Type 0
IsPassedAlways g p q = (reply : Block → ℤ) → IsPassed (replied reply g) p q

abbrev pub IsNextTriedAlways : Setting → Option ℕ → Option ℕ → Type 0
IsNextTriedAlways g from next = (reply : Block → ℤ) → IsNextTried (replied reply g) from next

-- The places before.

-- the first place that reached the subject's end, after one more place
abbrev pub first_hit : Option ℕ → Bool → ℕ → Option ℕ
first_hit None true p = Some p
first_hit first hit p = first

-- the answer of later places, after a first one that reached the subject's end
abbrev pub after_hit : Option ℕ → MatchAnswer → MatchAnswer
after_hit None a = a
after_hit (Some p) a = undecided true p a

-- A search finds what is found from some place on, after places that failed: the first of them that reached the
-- subject's end, and the last name that was met there.
pub record IsLeft (whole : Found) (first mark : Option ℕ) (rest : Found) : Type 0 where
  pub answer : whole.answer ≡ after_hit first rest.answer
  pub last_mark : last_name whole.notes ≡ option_or (last_name rest.notes) mark

-- What callouts show in all is what they showed up to some place, and then what is found from it on.
abbrev pub IsShownTo : Option (List told.Block) → Option (List told.Block) → Found → Found → Type 0
IsShownTo old now whole rest = seen_after old (blocks whole.notes) ≡ seen_after now (blocks rest.notes)
