-- What is written of a substitution, by what the library's call says.
use Rattle.std.proofs.Common.{◌≡◌, Result, Ok, Err, refl, sym, ap}
use Rattle.pcre2_api.specs.declared.substitute.Substituted.{Substituted}
use Rattle.pcre2_errors.specs.declared.subst_error.SubstError.{SubstError}
use Rattle.pcre2_errors.specs.declared.subst_error.SubstError.TheVariants as refusal
use Rattle.pcre2_api.specs.Substituted.{Refuses}
use Rattle.std.specs.Prelude.{Bool}
use Rattle.test_lines.specs.Lines.{done_line, unreplaced_line, replaced_text}

is-refused : {A : Type 0} (r : Result A SubstError) (e : SubstError) → (e ≡ refusal.Memory → ⊥) → Refuses r e
    → r ≡ Err e
is-refused r refusal.BadOffset some h = h
is-refused r (refusal.BadUtf at) some h = h
is-refused r refusal.BadUtfOffset some h = h
is-refused r (refusal.ReplacementUtf at) some h = h
is-refused r refusal.BadReplacement some h = h
is-refused r refusal.BadEscape some h = h
is-refused r refusal.MissingBrace some h = h
is-refused r refusal.BadSyntax some h = h
is-refused r refusal.MatchLimit some h = h
is-refused r refusal.FrameLimit some h = h
is-refused r refusal.RecurseLoop some h = h
is-refused r refusal.NoGroup some h = h
is-refused r refusal.Unset some h = h
is-refused r refusal.Memory some h = absurd (some refl)

module _ (utf : Bool) (r : Result Substituted SubstError) where
  pub text-done : (s : Substituted) → r ≡ Ok s → done_line utf s ≡ replaced_text utf r
  text-done s e = sym (ap (replaced_text utf) e)

  pub text-refused : (e : SubstError) → (e ≡ refusal.Memory → ⊥) → Refuses r e → unreplaced_line e ≡ replaced_text utf r
  text-refused e some h = sym (ap (replaced_text utf) (is-refused r e some h))
