use Rattle.std.proofs.Common.{◌∙◌, length, ◌+◌, ap, arith, refl}
use Rattle.pat_grammar.specs.Callouts.{quantified_end, end_at}
use Rattle.pat_grammar.specs.Places.{state_at}
use Rattle.pat_grammar.proofs.Items.{end_here}
use Rattle.pat_grammar.proofs.cursor.Cursor.quantified_end.Goals as goal

pub returns-in_default-clause-value : goal.returns-in_default-clause-value
unfolding quantified_end
returns-in_default-clause-value c st =
    ap (end_at c.args.place.at) (c.in_default.ensures.bad st (length c.args.self.now.text.now + 2) (omega arith))

pub returns-in-Quantifier-clause-value : goal.returns-in-Quantifier-clause-value
unfolding quantified_end
returns-in-Quantifier-clause-value c st =
    rw (c.in-Ok.ensures.found st (length c.args.self.now.text.now + 2) (omega arith), c.in-Quantifier.is) refl

pub returns-in_default-token : goal.returns-in_default-token
unfolding quantified_end
returns-in_default-token c = record {
  value = λ st. ap (end_at c.args.place.at)
      (c.in-Ok.ensures.found st (length c.args.self.now.text.now + 2) (omega arith))
      ∙ end_here c.args.place.at c.in-Ok.item.token (state_at c.args.self.now st c.in-Ok.item.after)
      c.in_default-token.not-Quantifier;
  past = omega arith;
  within = c.requires;
}
