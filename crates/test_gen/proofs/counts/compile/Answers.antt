use Rattle.std.proofs.Common.{sym, ap, subst}
use Rattle.pat_tree.specs.declared.options.TheConstants.Options as plain
use Rattle.pcre2_api.specs.Compiled.{IsCompileError}
use Rattle.pcre2_api.specs.Patterns.{compiled}
use Rattle.test_gen.specs.Counts.{accepted, names_in, pattern, names}
use Rattle.test_gen.proofs.counts.compile.Goals as goal

pub returns-in-Ok-clause-pattern : goal.returns-in-Ok-clause-pattern
unfolding pattern
returns-in-Ok-clause-pattern c = sym (ap accepted c.in-Ok.ensures.compiled.2)

pub returns-in-Ok-clause-names : goal.returns-in-Ok-clause-names
unfolding names
returns-in-Ok-clause-names c = sym (ap names_in c.in-Ok.ensures.compiled.1)

pub returns-in-Err-Bad-clause-pattern : goal.returns-in-Err-Bad-clause-pattern
unfolding pattern
returns-in-Err-Bad-clause-pattern c =
    sym (ap accepted (subst (IsCompileError (compiled plain.PLAIN c.args.text.now)) c.in-Err-Bad.field-0-is
    c.in-Err-Bad.ensures.refused))
