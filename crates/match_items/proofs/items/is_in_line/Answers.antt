use Rattle.std.proofs.Common.{ℕ, ◌==◌, sym, ap}
use Rattle.pat_tree.specs.Newlines.{end_kind}
use Rattle.match_items.proofs.Newlines.{newline_other}
use Rattle.match_items.proofs.items.is_in_line.Goals as goal

pub returns-then-byte-lt128 : goal.returns-then-byte-lt128
returns-then-byte-lt128 c =
    let view = c.args.view.now in
    sym (ap (λ (n : ℕ). n == 0) (newline_other (end_kind view.options.now.newline view.options.now.utf)
    view.subject.now c.args.at c.if-byte-gt13.true c.if-byte-lt128.true))
