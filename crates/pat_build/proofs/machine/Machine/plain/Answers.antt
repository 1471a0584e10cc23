use Rattle.std.proofs.Common.{◌≡◌, ℕ, refl}
use Rattle.token_parts.specs.declared.token.Token.{Token}
use Rattle.token_parts.specs.declared.token.Token.TheVariants as token
use Rattle.token_parts.specs.Tell.{fault}
use Rattle.pat_grammar.specs.Parts.{beginning}
use Rattle.pat_build.specs.Stack.{IsPlain}
use Rattle.pat_build.specs.Machine.{known_of, state_of, IsMore}
use Rattle.pat_build.proofs.Waiting.{bad_means}
use Rattle.pat_build.proofs.machine.Machine.plain.Goals as goal

pub returns-in-Start-clause-bad : goal.returns-in-Start-clause-bad
returns-in-Start-clause-bad c =
    let m = c.args.self.now in
    let ready = rw (c.in-Start.is) at c.requires.ready in
    rw c.fault.ensures (bad_means m ready.means (token.Start c.in-Start.field-0) c.args.after _ ready (λ n h. refl))

pub returns-in_default-clause-bad : goal.returns-in_default-clause-bad
returns-in_default-clause-bad c =
    let m = c.args.self.now in
    let no = c.in_default in
    let Out : Token → Type 0 = λ v. (n : ℕ) → beginning (known_of m) m.text.now n (state_of m) v
    (record (state_of m) { at = c.args.after }) ≡ fault 195 m.at in
    let out : Out c.args.token = elim c.args.token as (λ v. c.args.token ≡ v → IsPlain v → IsMore v → Out v) [
      | token.End ↦ λ e p q. absurd q
      | token.Start item ↦ λ e p q. absurd (no.not-Start item e)
      | token.Literal x ↦ λ e p q. absurd (no.not-Literal x e)
      | token.Dot ↦ λ e p q. absurd (no.not-Dot e)
      | token.NotNewline ↦ λ e p q. absurd (no.not-NotNewline e)
      | token.LineBreak ↦ λ e p q. absurd (no.not-LineBreak e)
      | token.KeepOut ↦ λ e p q. absurd (no.not-KeepOut e)
      | token.Caret ↦ λ e p q. absurd (no.not-Caret e)
      | token.Dollar ↦ λ e p q. absurd (no.not-Dollar e)
      | token.SubjectStart ↦ λ e p q. absurd (no.not-SubjectStart e)
      | token.SubjectEnd ↦ λ e p q. absurd (no.not-SubjectEnd e)
      | token.EndOrNewline ↦ λ e p q. absurd (no.not-EndOrNewline e)
      | token.StartGiven ↦ λ e p q. absurd (no.not-StartGiven e)
      | token.Boundary opposite ↦ λ e p q. absurd (no.not-Boundary opposite e)
      | token.Set set outside ↦ λ e p q. absurd (no.not-Set set outside e)
      | token.Property from to outside ↦ λ e p q. absurd (no.not-Property from to outside e)
      | token.Reference target ↦ λ e p q. absurd (no.not-Reference target e)
      | token.CallTo target ↦ λ e p q. absurd (no.not-CallTo target e)
      | token.QuoteOn ↦ λ e p q. absurd p
      | token.QuoteOff ↦ λ e p q. absurd p
      | token.ClassStart negated ↦ λ e p q. absurd (no.not-ClassStart negated e)
      | token.Open kind ↦ λ e p q. absurd (no.not-Open kind e)
      | token.CalloutItem number from to ↦ λ e p q. absurd (no.not-CalloutItem number from to e)
      | token.VerbItem verb from to ↦ λ e p q. absurd (no.not-VerbItem verb from to e)
      | token.CondStart cond from to ↦ λ e p q. absurd (no.not-CondStart cond from to e)
      | token.Bar ↦ λ e p q. absurd (no.not-Bar e)
      | token.Close ↦ λ e p q. absurd (no.not-Close e)
      | token.OptionSet reset on off opens ↦ λ e p q. absurd (no.not-OptionSet reset on off opens e)
      | token.Quantifier low high mode ↦ λ e p q. absurd p
      | token.Passed ↦ λ e p q. absurd p
      | _ ↦ λ e p q n. refl
    ] refl c.requires.plain c.requires.more in
    rw c.fault-in_default.ensures (bad_means m c.requires.ready.means c.args.token c.args.after _ c.requires.ready
    (λ n h. out n))
