-- What a search answers, from what is said of a match and of a refusal.
use Rattle.std.proofs.Common.{ℕ, List, Result, Ok, Err, IfOk, IfErr}
use Rattle.ordered_search.specs.Setting.{Setting}
use Rattle.pcre2_errors.specs.declared.error.MatchError.{MatchError}
use Rattle.pcre2_api.specs.Compiled.{CodeParts}
use Rattle.pcre2_api.specs.Matched.{IsMatchError}
use Rattle.c_door.specs.declared.told.Hit.{Hit}
use Rattle.c_door.specs.declared.told.Pair.{Pair}
use Rattle.c_door.specs.Telling.{IsTold, IsFoundOrNot}

pub found_or_not : (code : CodeParts) (g : Setting) (places : List Pair) (mark : List ℕ) (r : Result Hit MatchError)
    → IfOk r (λ hit. IsTold code g hit places mark) → IfErr r (IsMatchError g) → IsFoundOrNot code g places mark r
found_or_not code g places mark (Ok hit) is_told is_refused = is_told
found_or_not code g places mark (Err e) is_told is_refused = is_refused
