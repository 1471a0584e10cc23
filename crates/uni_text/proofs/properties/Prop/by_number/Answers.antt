use Rattle.uni_text.proofs.NumberLemmas.{prop_number-prop_by_number}
use Rattle.uni_text.proofs.properties.Prop.by_number.Goals as goal

pub returns-clause-inverse : goal.returns-clause-inverse
returns-clause-inverse c = rw c.by_number.ensures (prop_number-prop_by_number c.args.n)
