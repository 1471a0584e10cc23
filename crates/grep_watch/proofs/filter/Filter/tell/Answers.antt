use Rattle.std.proofs.Common.{◌∙◌, refl, sym, ap, subst, arith}
use Rattle.regex_hir.specs.Meaning.{meaning}
use Rattle.regex_meta.specs.declared.program.Program.{Program}
use Rattle.grep_match.specs.Wider.{IsWiderBy, IsExactBy}
use Rattle.grep_watch.proofs.Filtering.{still-filters, told-match, told-none}
use Rattle.grep_watch.proofs.filter.Filter.tell.Goals as goal

pub returns-then-is_match-clause-known : goal.returns-then-is_match-clause-known
returns-then-is_match-clause-known c = λ plan patterns filters.
    let f = c.args.self.now in
    let re = meaning f.searcher.program.now.hir in
    let long = c.if-line-self.false in
    told-match plan patterns re f.most c.args.line.now (omega (arith, long)) c.are_bytes.ensures c.requires
    (subst (λ u. IsExactBy plan patterns re f.most u) c.if-self.false (filters.exact c.if-not-self.false))
    (sym c.is_match.ensures.found ∙ c.if-is_match.true)

pub returns-then-is_match-clause-same : goal.returns-then-is_match-clause-same
returns-then-is_match-clause-same c = λ plan patterns filters.
    still-filters plan patterns c.args.self.now _ (record {
      hir = ap (λ (p : Program). p.hir) c.is_match.ensures.same;
      most = refl;
      utf = refl;
      exact = refl;
    }) filters

pub returns-else-is_match-clause-known : goal.returns-else-is_match-clause-known
returns-else-is_match-clause-known c = λ plan patterns filters.
    let f = c.args.self.now in
    let re = meaning f.searcher.program.now.hir in
    let long = c.if-line-self.false in
    told-none plan patterns re f.most c.args.line.now (omega (arith, long)) c.are_bytes.ensures c.requires
    (subst (λ u. IsWiderBy plan patterns re f.most u) c.if-self.false filters.wider)
    (sym c.is_match.ensures.found ∙ c.if-is_match.false)

pub returns-else-is_match-clause-same : goal.returns-else-is_match-clause-same
returns-else-is_match-clause-same c = λ plan patterns filters.
    still-filters plan patterns c.args.self.now _ (record {
      hir = ap (λ (p : Program). p.hir) c.is_match.ensures.same;
      most = refl;
      utf = refl;
      exact = refl;
    }) filters
