use Rattle.std.proofs.Common.{◌≡◌}
use Rattle.token_parts.specs.Bytes.{run_end}
use Rattle.pat_lex.specs.Quantifiers.{is_blank}
use Rattle.pat_lex.proofs.quantifiers.past_blanks.Given as goal

abbrev pub invariant-loop-i : goal.invariant-loop-i
invariant-loop-i l = run_end l.text is_blank l.i ≡ run_end l.text is_blank l.from
