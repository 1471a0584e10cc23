use Rattle.std.proofs.Common.{sym, subst}
use Rattle.regex_hir.specs.Meaning.{meaning}
use Rattle.regex_hir.specs.declared.hir.Hir.{Hir}
use Rattle.grep_match.specs.Wider.{IsWiderBy, IsExactBy}
use Rattle.grep_watch.proofs.filter.Sieve.of.Goals as goal

pub returns-in-Ok : goal.returns-in-Ok
returns-in-Ok c = λ plan patterns wider exact.
    let w = c.args.wider in
    let same = c.in-Ok.ensures.pattern in
    record {
      wider = subst (λ (h : Hir). IsWiderBy plan patterns (meaning h) w.most w.utf) (sym same) wider;
      exact = λ on. subst (λ (h : Hir). IsExactBy plan patterns (meaning h) w.most w.utf) (sym same) (exact on);
    }
