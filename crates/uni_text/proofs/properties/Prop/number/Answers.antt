use Rattle.uni_text.proofs.NumberLemmas.{prop_by_number-prop_number}
use Rattle.uni_text.proofs.properties.Prop.number.Goals as goal

pub returns-in-Any-clause-inverse : goal.returns-in-Any-clause-inverse
returns-in-Any-clause-inverse c = rw c.in-Any.is (prop_by_number-prop_number _)

pub returns-in-Xan-clause-inverse : goal.returns-in-Xan-clause-inverse
returns-in-Xan-clause-inverse c = rw c.in-Xan.is (prop_by_number-prop_number _)

pub returns-in-Xsp-clause-inverse : goal.returns-in-Xsp-clause-inverse
returns-in-Xsp-clause-inverse c = rw c.in-Xsp.is (prop_by_number-prop_number _)

pub returns-in-Xps-clause-inverse : goal.returns-in-Xps-clause-inverse
returns-in-Xps-clause-inverse c = rw c.in-Xps.is (prop_by_number-prop_number _)

pub returns-in-Xwd-clause-inverse : goal.returns-in-Xwd-clause-inverse
returns-in-Xwd-clause-inverse c = rw c.in-Xwd.is (prop_by_number-prop_number _)

pub returns-in-Group-clause-inverse : goal.returns-in-Group-clause-inverse
returns-in-Group-clause-inverse c = rw (c.group_number.ensures, c.in-Group.is) (prop_by_number-prop_number _)

pub returns-in-Category-clause-inverse : goal.returns-in-Category-clause-inverse
returns-in-Category-clause-inverse c = rw (c.number.ensures, c.in-Category.is) (prop_by_number-prop_number _)

pub returns-in-Script-clause-inverse : goal.returns-in-Script-clause-inverse
returns-in-Script-clause-inverse c = rw (c.number-in-Script.ensures, c.in-Script.is) (prop_by_number-prop_number _)
