use Rattle.std.proofs.Common.{◌≡◌, ◌∙◌, pos, length, IfOk, sym, ap, subst}
use Rattle.dfa_ends.specs.DfaAnswer.{EndsFrom}
use Rattle.pat_tree.specs.declared.options.TheConstants.MatchOptions as plain_match
use Rattle.pcre2_api.specs.Matched.{search_of}
use Rattle.test_gen.specs.Counts.{pattern_in, ends_in}
use Rattle.test_gen.proofs.Counting.{count-answered, count-none}
use Rattle.test_gen.proofs.counts.ends_in.Goals as goal

pub returns-in-Ok : goal.returns-in-Ok
returns-in-Ok g c =
    let f = c.in-Ok.found in
    let told = count-answered (search_of c.in-Some.code plain_match.PLAIN c.args.line.now 0 (λ _. pos 0))
    (EndsFrom f.start f.ends) c.in-Ok.ensures.found.0 in
    ap length c.as_slice.ensures ∙ sym told ∙ sym (ap (λ code. ends_in (pattern_in code) c.args.line.now) c.in-Some.is)

pub returns-in-Err : goal.returns-in-Err
returns-in-Err g c =
    subst (λ code. IfOk c.no_ends.result (λ count. count ≡ ends_in (pattern_in code) c.args.line.now))
    (sym c.in-Some.is)
    (count-none (search_of c.in-Some.code plain_match.PLAIN c.args.line.now 0 (λ _. pos 0)) c.in-Err.e
    c.no_ends.result c.no_ends.ensures.none c.no_ends.ensures.told c.in-Err.ensures.refused)
