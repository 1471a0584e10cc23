-- What a match by all ends answers, by what the start, the graph and the search say.
use Rattle.std.proofs.Common.{◌≡◌, ℕ, Bool, true, false, ◌&&◌, not, if◌then◌else◌, nat_lt, length, Option, Some}
use Rattle.std.proofs.Common.{None, refl, subst}
use Rattle.std.specs.Prelude.{slice_index}
use Rattle.std.specs.Str.{is_utf8}
use Rattle.std.specs.Str.Lossy.{utf8_valid_len}
use Rattle.match_drive.specs.frame_board.Standing.{is_inside}
use Rattle.ordered_search.specs.Setting.{Setting}
use Rattle.dfa_drive.specs.dfa_ends.DfaAnswer as meant
use Rattle.dfa_drive.specs.dfa_ends.DfaAnswer.{dfa_answer}
use Rattle.dfa_drive.specs.dfa_graph.declared.making.GraphError.{GraphError}
use Rattle.dfa_drive.specs.dfa_graph.declared.making.GraphError.TheVariants as graph
use Rattle.dfa_drive.specs.dfa_graph.Served.{refusal, IsRefused}
use Rattle.pcre2_api.specs.Matched.{fault_in}
use Rattle.pcre2_errors.specs.declared.error.MatchError.{MatchError}
use Rattle.pcre2_errors.specs.declared.error.MatchError.TheVariants as beginning
use Rattle.pcre2_errors.specs.declared.dfa_error.DfaError.TheVariants as told
use Rattle.pcre2_errors.specs.DfaErrors.{error_of}
use Rattle.pcre2_api.specs.DfaMatched.{IsAnswered, IsDfaError, start_error_of}

module _ (g : Setting) (begun : fault_in g ≡ None) where
  pub barred : (e : GraphError) → IsRefused g.whole e → IsDfaError g (error_of e)
  barred graph.Item r = record { begun = begun; refused = r }
  barred graph.Cond r = record { begun = begun; refused = r }
  barred graph.TooLarge r = record { begun = begun; refused = r }
  barred graph.Memory r = tt

  pub answered : (a : meant.DfaAnswer) → refusal g.whole ≡ None →
      dfa_answer g g.matching.dfa_shortest ≡ a → IsAnswered g a
  answered a served is = record { begun = begun; served = served; answer = is }

-- Of a tree's refusals one alone is that it is too large.
pub is_large : (e : GraphError) → error_of e ≡ told.TooLarge → e ≡ graph.TooLarge
is_large graph.Item is = absurd cc
is_large graph.Cond is = absurd cc
is_large graph.TooLarge is = refl
is_large graph.Memory is = absurd cc

-- Where a match can't begin.

pub never_large : (e : MatchError) → start_error_of e ≡ told.TooLarge → ⊥
never_large (beginning.BadUtf at) is = absurd cc
never_large beginning.BadUtfOffset is = absurd cc
never_large _ is = absurd cc

abbrev first_fault : ℕ → Bool → Bool → Bool → Option MatchError
first_fault n past bad inside =
    if past then Some beginning.BadOffset
    else if bad then Some (beginning.BadUtf n)
    else if inside then Some beginning.BadUtfOffset
    else None

some_is : (d e : MatchError) → ◌≡◌ {A = Option MatchError} (Some d) (Some e) → d ≡ e
some_is d e is = cc

none_is : (e : MatchError) → ◌≡◌ {A = Option MatchError} None (Some e) → ⊥
none_is e is = absurd cc

module _ (g : Setting) where
  abbrev Told : MatchError → Type 0
  Told e = fault_in g ≡ Some e → IsDfaError g (start_error_of e)

  by_tests : (n : ℕ) (past bad inside : Bool) (e : MatchError) →
      first_fault n past bad inside ≡ Some e → Told e
  by_tests n true bad inside e is = subst Told (some_is beginning.BadOffset e is) (λ told. told)
  by_tests n false true inside e is = subst Told (some_is (beginning.BadUtf n) e is) (λ told. told)
  by_tests n false false true e is =
      subst Told (some_is beginning.BadUtfOffset e is) (λ told. told)
  by_tests n false false false e is = absurd (none_is e is)

  pub start_refused : (e : MatchError) → fault_in g ≡ Some e → IsDfaError g (start_error_of e)
  start_refused e is =
      by_tests (utf8_valid_len g.subject) (nat_lt (length g.subject) g.start)
      (g.options.utf && not (is_utf8 g.subject))
      (g.options.utf && is_inside (slice_index g.subject g.start)) e is is
