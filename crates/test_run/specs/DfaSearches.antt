-- What a search for all ends comes to, as the code says it: an answer → what is told of it.
use Rattle.std.specs.Prelude.{◌≡◌, ◌≤◌, ℕ, Bool, ◌==◌, ⊤, List, []}
use Rattle.pcre2_errors.specs.declared.dfa_error.DfaError.{DfaError}
use Rattle.pcre2_errors.specs.declared.dfa_error.DfaError.TheVariants as told
use Rattle.pcre2_api.specs.declared.dfa.DfaFound.{DfaFound}
use Rattle.test_run.specs.declared.dfa.Search.{Search}
use Rattle.test_run.specs.declared.dfa.Search.TheVariants as search
use Rattle.test_run.specs.Dfa.{Told, ends, nothing, failed, unmatched_text, longest}

-- what is told of a search
abbrev pub IsSearch : Search → Told → Type 0
IsSearch (search.Ends to is_empty) (ends start qs) =
    (to ≡ longest start qs) × (is_empty ≡ (start == longest start qs))
IsSearch search.Nothing nothing = ⊤
IsSearch search.Failed (failed e) = ⊤
IsSearch _ _ = ⊥

-- what is told of a match
abbrev pub TellsEnds : Search → DfaFound → Type 0
TellsEnds (search.Ends to is_empty) f =
    (to ≡ longest f.start f.ends) × (is_empty ≡ (f.start == longest f.start f.ends))
TellsEnds _ f = ⊥

-- a partial match lies in a subject of this length
abbrev pub LiesIn : ℕ → DfaError → Type 0
LiesIn len (told.Partial from to) = (from ≤ to) × (to ≤ len)
LiesIn len _ = ⊤

-- what is written of an error, and what is told of it; of want of memory nothing is
abbrev pub error_text : Bool → List ℕ → DfaError → List ℕ
error_text utf subject told.NoMatch = []
error_text utf subject told.Memory = []
error_text utf subject e = unmatched_text utf subject e

abbrev pub TellsError : DfaError → Search → Type 0
TellsError told.NoMatch s = s ≡ search.Nothing
TellsError told.Memory s = ⊥
TellsError e s = s ≡ search.Failed
