use Rattle.std.proofs.Common.{◌||◌, ◌∙◌, ap}
use Rattle.pat_tree.specs.Refs.{is_in, marked}
use Rattle.pat_tree.specs.Rules.{number_in}
use Rattle.pat_save.proofs.marks.Groups.insert.Goals as goal

pub returns : goal.returns
returns c = λ n.
    c.insert_reserved.ensures n
    ∙ ap (λ t. t || is_in n (number_in c.group_number-number.result)) (c.in_ok-reserve.ensures.same n)
    ∙ ap (λ ks. marked c.args.self.now n || is_in n ks) c.group_number-number.ensures
