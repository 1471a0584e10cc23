use Rattle.std.proofs.Common.{lit<, sym, cond, Some, None, ap}
use Rattle.std.proofs.lemmas.Str.Pattern.{split_once_first}
use Rattle.std.specs.List.{after_first}
use Rattle.grep_args.specs.Words.{is_equals}
use Rattle.grep_args.proofs.Stepping.{list_any_past}
use Rattle.grep_args.proofs.words.name_and_value.Goals as goal

pub returns-in-None-clause-value : goal.returns-in-None-clause-value
returns-in-None-clause-value c =
    let past = rw c.in-None.is at (split_once_first 61 c.args.text.now c.split_once.result c.split_once.ensures.cases
    (lit< tt)) in
    sym (ap (λ any. cond any (Some (after_first is_equals c.args.text.now)) None)
    (list_any_past is_equals c.args.text.now past))
