use Rattle.std.proofs.Common.{subst, sym}
use Rattle.regex_hir.specs.Meaning.{meaning}
use Rattle.regex_meta.specs.declared.program.Program.{Program}
use Rattle.grep_match.specs.Wider.{IsWiderBy, IsExactBy}
use Rattle.grep_watch.proofs.filter.Filter.new.Goals as goal

pub returns-in-Ok : goal.returns-in-Ok
returns-in-Ok c = λ plan patterns sifts. record {
  wider = subst (λ (p : Program). IsWiderBy plan patterns (meaning p.hir) c.args.sieve.now.most c.args.sieve.now.utf)
      (sym c.in-Ok.ensures) sifts.wider;
  exact = λ on.
      subst (λ (p : Program). IsExactBy plan patterns (meaning p.hir) c.args.sieve.now.most c.args.sieve.now.utf)
      (sym c.in-Ok.ensures) (sifts.exact on);
}
