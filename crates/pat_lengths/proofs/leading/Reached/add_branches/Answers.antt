use Rattle.std.proofs.Common.{◌∷◌, []}
use Rattle.std.proofs.lemmas.Result.{on_ok_weaker}
use Rattle.pat_tree.specs.Rules.{number_in, tests_of}
use Rattle.pat_lengths.specs.Leading.{Grows}
use Rattle.pat_lengths.proofs.LeadingLemmas.{grows_on}
use Rattle.pat_lengths.proofs.leading.Reached.add_branches.Goals as goal

pub returns : goal.returns
returns c =
    on_ok_weaker c.add_if.result (λ (g : Grows c.add.new.self c.add_if.new.self (number_in c.args.no)).
    grows_on _ _ _ (tests_of c.args.test.now) (c.args.yes ∷ number_in c.args.no) c.in_ok-add_test.ensures
    (grows_on _ _ _ (c.args.yes ∷ []) (number_in c.args.no) c.in_ok-add.ensures g)) c.add_if.ensures
