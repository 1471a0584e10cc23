use Rattle.fail_sites.proofs.Offers.{last_law, offer_law, repeat_law}
use Rattle.fail_sites.proofs.laws.repeats_hand_on.Goals as goal

pub returns-clause-first : goal.returns-clause-first
returns-clause-first c = repeat_law

pub returns-clause-further : goal.returns-clause-further
returns-clause-further c = offer_law

pub returns-clause-last : goal.returns-clause-last
returns-clause-last c = last_law
