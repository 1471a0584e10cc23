use Rattle.std.proofs.Common.{take, subst, arith}
use Rattle.uni_text.specs.Characters.{IsChecked}
use Rattle.regex_hir.specs.Meaning.{meaning}
use Rattle.grep_watch.proofs.Filtering.{clear-found}
use Rattle.grep_watch.proofs.filter.Filter.clear_len.Goals as goal

pub returns-clause-clear : goal.returns-clause-clear
returns-clause-clear c = λ plan patterns filters.
    let f = c.args.self.now in
    let low = c.min-clear.ensures in
    let less = c.saturating_sub.ensures in
    let within = c.checked_len.ensures.within in
    clear-found plan patterns (meaning f.searcher.program.now.hir) f.most f.utf c.args.held.now c.first_begin.result
    c.checked_len.result filters.wider c.are_bytes.ensures
    c.first_begin.ensures.first (omega (arith, low, within)) (omega (arith, low, less, within))
    (subst (λ u. IsChecked u (take c.checked_len.result c.args.held.now)) c.first_begin.ensures.same.utf
    c.checked_len.ensures.valid)
