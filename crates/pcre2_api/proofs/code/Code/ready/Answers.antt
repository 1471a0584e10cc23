use Rattle.pcre2_api.proofs.code.Code.ready.Goals as goal

pub returns-clause-table : goal.returns-clause-table
returns-clause-table c = c.self.invariant.table

pub returns-clause-facts : goal.returns-clause-facts
returns-clause-facts c = c.self.invariant.facts

pub returns-clause-nested : goal.returns-clause-nested
returns-clause-nested c = c.self.invariant.nested
