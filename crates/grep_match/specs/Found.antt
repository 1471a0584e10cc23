-- The matches of a line, as they are listed.
use Rattle.std.specs.Prelude.{◌≡◌, ℕ, ◌≤◌, List, [], ◌∷◌, ◌++◌, All, map, flat_map, ⊤, Option, Ok, Err}
use Rattle.frame_store.specs.declared.registers.Span.{Span}
use Rattle.ordered_search.specs.PlaceAnswer.{Outcome}
use Rattle.ordered_search.specs.Forward.{IsWithin}
use Rattle.pcre2_api.specs.Captured.{span_of}
use Rattle.grep_match.specs.declared.found.Place.{Place}
use Rattle.grep_match.specs.declared.search.Verdict.{Verdict}
use Rattle.grep_match.specs.declared.search.Verdict.TheVariants.{Match, NoMatch, Error}
use Rattle.grep_match.specs.declared.search.Answer.{Answer as Told}
use Rattle.grep_match.specs.declared.search.Answer.TheVariants as told
use Rattle.pcre2_api.specs.Answers.{Answer, found, none, error}
use Rattle.grep_match.specs.Matches.{Matches}

-- the places of matches, and the places of the groups of each, in order
pub record Listed : Type 0 where
  pub places : List Place
  pub groups : List (Option Span)

abbrev pub place_of : Outcome → Place
place_of o = record { keep = o.keep; to = o.to }

-- the groups of these numbers, 0 being the whole match
abbrev pub groups_of : List ℕ → Outcome → List (Option Span)
groups_of wanted o = map (span_of o) wanted

-- the match and its groups lie in a line of this length
pub record IsInLine (len : ℕ) (o : Outcome) : Type 0 where
  pub ordered : o.keep ≤ o.to
  pub within : o.to ≤ len
  pub caps : All (IsWithin len) o.caps

-- these matches are listed, each with the groups of these numbers
pub record Lists (wanted : List ℕ) (len : ℕ) (list : Listed) (os : List Outcome) : Type 0 where
  pub places : list.places ≡ map place_of os
  pub groups : list.groups ≡ flat_map (groups_of wanted) os
  pub within : All (IsInLine len) os

-- what the searches on a line answer, and the list that they leave
abbrev pub IsVerdict : List ℕ → ℕ → Listed → Verdict → Matches → Type 0
IsVerdict wanted len list Match (Ok (o ∷ os)) = Lists wanted len list (o ∷ os)
IsVerdict wanted len list NoMatch (Ok []) = Lists wanted len list []
IsVerdict wanted len list (Error n) (Err e) = n ≡ e
IsVerdict _ _ _ _ _ = ⊥

abbrev pub ListsMatches : List ℕ → ℕ → Listed → Matches → Type 0
ListsMatches wanted len list (Ok os) = Lists wanted len list os
ListsMatches wanted len list (Err e) = ⊥

-- the list with one more match
abbrev pub with_listed : List ℕ → Listed → Outcome → Listed
with_listed wanted list o =
    record { places = list.places ++ place_of o ∷ []; groups = list.groups ++ groups_of wanted o }

-- a match stands at this place, and the list has grown by it
pub record IsAdded (wanted : List ℕ) (before after : Listed) (place : Place) (o : Outcome)
    : Type 0 where
  pub at : place ≡ place_of o
  pub list : after ≡ with_listed wanted before o

-- an answer without a match
abbrev pub IsUnfound : Told → Answer → Type 0
IsUnfound told.Nothing none = ⊤
IsUnfound (told.Error n) (error e) = n ≡ e
IsUnfound _ _ = ⊥

-- what one search answers, and what it does to the list; a match that it finds lies in the line
abbrev pub IsAnswer : List ℕ → ℕ → Listed → Listed → Told → Answer → Type 0
IsAnswer wanted len before after (told.Found place) (found o) =
    IsAdded wanted before after place o × IsInLine len o
IsAnswer wanted len before after told.Nothing none = after ≡ before
IsAnswer wanted len before after (told.Error n) (error e) = n ≡ e
IsAnswer _ _ _ _ _ _ = ⊥
