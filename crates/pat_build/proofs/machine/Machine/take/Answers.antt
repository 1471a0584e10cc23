use Rattle.std.proofs.Common.{◌≡◌, refl}
use Rattle.token_parts.specs.declared.token.Token.TheVariants.{Quantifier, Passed, QuoteOn, QuoteOff}
use Rattle.pat_build.specs.Stack.{IsPlain}
use Rattle.pat_build.proofs.machine.Machine.take.Goals as goal

pub plain-requires : goal.plain-requires
plain-requires c =
    let no = c.in_default in
    let f = c.in_ok-settle-in_default.ensures in record {
      ready = record {
        means = f.means;
        idle = f.idle;
        there = f.next c.args.token c.args.after c.requires.next;
        room = f.room;
        quiet = f.quiet;
      };
      plain = elim c.args.token as (λ v. c.args.token ≡ v → IsPlain v) [
        | Quantifier low high mode ↦ λ e. absurd (no.not-Quantifier low high mode e)
        | Passed ↦ λ e. absurd (no.not-Passed e)
        | QuoteOn ↦ λ e. absurd (no.not-QuoteOn e)
        | QuoteOff ↦ λ e. absurd (no.not-QuoteOff e)
        | _ ↦ λ e. tt
      ] refl;
      more = c.requires.more;
    }
