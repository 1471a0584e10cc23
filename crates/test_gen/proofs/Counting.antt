-- What a line comes to, by what the library's calls say.
use Rattle.std.proofs.Common.{◌≡◌, ◌∙◌, ℕ, ◌-◌, List, pos, Option, Some, None, Result, Ok, Err, IfOk, OnOk, refl}
use Rattle.std.proofs.Common.{sym, ap}
use Rattle.pat_tree.specs.declared.options.MatchOptions.{MatchOptions}
use Rattle.pat_tree.specs.Pattern.{pattern_of}
use Rattle.ordered_search.specs.Setting.{Setting}
use Rattle.dfa_ends.specs.DfaAnswer as meant
use Rattle.dfa_ends.specs.DfaAnswer.{dfa_answer}
use Rattle.dfa_graph.specs.declared.making.GraphError.{GraphError}
use Rattle.dfa_graph.specs.declared.making.GraphError.TheVariants as graph
use Rattle.dfa_graph.specs.Served.{refusal}
use Rattle.pcre2_api.specs.Compiled.{CodeParts}
use Rattle.pcre2_api.specs.DfaMatched.{IsBarred, IsAnswered, IsDfaError}
use Rattle.pcre2_api.specs.Matched.{MatchParts, search_of, fault_in, IsFound, IsMatchError}
use Rattle.pcre2_api.specs.Substituted.{Refuses}
use Rattle.pcre2_api.specs.Walks.{Answer, answer_at}
use Rattle.pcre2_errors.specs.declared.dfa_error.DfaError.{DfaError}
use Rattle.pcre2_errors.specs.declared.dfa_error.DfaError.TheVariants as ends
use Rattle.pcre2_errors.specs.declared.error.MatchError.{MatchError}
use Rattle.pcre2_errors.specs.declared.error.MatchError.TheVariants as told
use Rattle.pcre2_api.specs.declared.substitute.Substituted.{Substituted}
use Rattle.pcre2_errors.specs.declared.subst_error.SubstError.{SubstError}
use Rattle.pcre2_errors.specs.declared.subst_error.SubstError.TheVariants as refused
use Rattle.pcre2_api.proofs.Walking.{Says, answer-found, answer-error}
use Rattle.test_gen.specs.Counts.{length_of, count_of, count_in, replaced_in}

-- The first match.

none-said : (e : MatchError) (a : Answer) → (e ≡ told.Memory → ⊥) → Says e a → length_of a ≡ None
none-said told.Memory a some is = absurd (some refl)
none-said (told.NoMatch mark) a some is = ap length_of is
none-said told.BadOffset a some is = ap length_of is
none-said (told.BadUtf at) a some is = ap length_of is
none-said told.BadUtfOffset a some is = ap length_of is
none-said (told.Partial from to mark) a some is = ap length_of is
none-said told.MatchLimit a some is = ap length_of is
none-said told.FrameLimit a some is = ap length_of is
none-said told.RecurseLoop a some is = ap length_of is
none-said (told.Callout n) a some is = ap length_of is

module _ (code : CodeParts) (matching : MatchOptions) (subject : List ℕ) (start : ℕ) where
  abbrev searching : Setting
  searching = search_of code matching subject start (λ _. pos 0)

  abbrev here : Answer
  here = answer_at (pattern_of code.tree) matching subject start

  pub length-found : (f : MatchParts) → IsFound searching f → Some (f.outcome.to - f.outcome.keep) ≡ length_of here
  length-found f is = sym (ap length_of (answer-found code matching subject start f is))

  pub length-none : {E : Type 0} (e : MatchError) (r : Result (Option ℕ) E) → IfOk r (λ found. found ≡ None)
      → OnOk r (e ≡ told.Memory → ⊥) → IsMatchError searching e
      → IfOk r (λ found. found ≡ length_of here)
  length-none e (Ok found) same some is = same
      ∙ sym (none-said e here some (answer-error code matching subject start e is))
  length-none e (Err f) same some is = tt

-- All ends.

module _ (g : Setting) where
  abbrev by_refusal : Option GraphError → ℕ
  by_refusal r = elim r [ Some e ↦ 0 | None ↦ count_of (dfa_answer g g.matching.dfa_shortest) ]

  abbrev by_fault : Option MatchError → ℕ
  by_fault f = elim f [ Some e ↦ 0 | None ↦ by_refusal (refusal g.whole) ]

  count-faulty : (e : MatchError) → fault_in g ≡ Some e → count_in g ≡ 0
  unfolding count_in
  count-faulty e is = ap by_fault is

  count-barred : (e : GraphError) → IsBarred g e → count_in g ≡ 0
  unfolding count_in
  count-barred e is = ap by_fault is.begun ∙ ap by_refusal is.refused

  pub count-answered : (a : meant.DfaAnswer) → IsAnswered g a → count_in g ≡ count_of a
  unfolding count_in
  count-answered a is = ap by_fault is.begun ∙ ap by_refusal is.served ∙ ap count_of is.answer

  nothing : (e : DfaError) → (e ≡ ends.Memory → ⊥) → IsDfaError g e → 0 ≡ count_in g
  nothing ends.Memory some is = absurd (some refl)
  nothing ends.BadOffset some is = sym (count-faulty told.BadOffset is)
  nothing (ends.BadUtf at) some is = sym (count-faulty (told.BadUtf at) is)
  nothing ends.BadUtfOffset some is = sym (count-faulty told.BadUtfOffset is)
  nothing ends.Item some is = sym (count-barred graph.Item is)
  nothing ends.Cond some is = sym (count-barred graph.Cond is)
  nothing ends.TooLarge some is = sym (count-barred graph.TooLarge is)
  nothing ends.NoMatch some is = sym (count-answered meant.NoMatch is)
  nothing (ends.Partial from to) some is =
      sym (count-answered (meant.PartialFrom from) is.answered)

  pub count-none : {E : Type 0} (e : DfaError) (r : Result ℕ E) → IfOk r (λ count. count ≡ 0)
      → OnOk r (e ≡ ends.Memory → ⊥) → IsDfaError g e → IfOk r (λ count. count ≡ count_in g)
  count-none e (Ok count) same some is = same ∙ nothing e some is
  count-none e (Err f) same some is = tt

-- Replacements.

is-refused : (r : Result Substituted SubstError) (e : SubstError) → (e ≡ refused.Memory → ⊥) → Refuses r e → r ≡ Err e
is-refused r refused.BadOffset some h = h
is-refused r (refused.BadUtf at) some h = h
is-refused r refused.BadUtfOffset some h = h
is-refused r (refused.ReplacementUtf at) some h = h
is-refused r refused.BadReplacement some h = h
is-refused r refused.BadEscape some h = h
is-refused r refused.MissingBrace some h = h
is-refused r refused.BadSyntax some h = h
is-refused r refused.MatchLimit some h = h
is-refused r refused.FrameLimit some h = h
is-refused r refused.RecurseLoop some h = h
is-refused r refused.NoGroup some h = h
is-refused r refused.Unset some h = h
is-refused r refused.Memory some h = absurd (some refl)

pub replaced-none : {E : Type 0} (given : Result Substituted SubstError) (e : SubstError) (r : Result ℕ E)
    → IfOk r (λ count. count ≡ 0) → OnOk r (e ≡ refused.Memory → ⊥) → Refuses given e
    → IfOk r (λ count. count ≡ replaced_in given)
replaced-none given e (Ok count) same some is = same ∙ sym (ap replaced_in (is-refused given e some is))
replaced-none given e (Err f) same some is = tt
