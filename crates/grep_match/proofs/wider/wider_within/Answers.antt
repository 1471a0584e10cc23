use Rattle.std.proofs.Common.{◌||◌, false, refl, ap, sym, subst}
use Rattle.std.proofs.lemmas.Bool.{and_parts}
use Rattle.std.proofs.lemmas.List.Elements.{All-get_or}
use Rattle.regex_hir.specs.Meaning.{meaning}
use Rattle.grep_match.specs.Compiled.{pattern_in, IsKept}
use Rattle.grep_match.specs.Wider.{Misses}
use Rattle.grep_match.specs.declared.wider.Wider.{Wider}
use Rattle.regex_hir.specs.declared.hir.Hir.TheVariants.{Alternation}
use Rattle.regex_hir.proofs.MeaningLemmas.{meaning-Alternation}
use Rattle.grep_match.proofs.Widening.{next_misses, all_miss}
use Rattle.grep_match.proofs.Finding.{FirstMatchSome, first_some, next_some, all_some}
use Rattle.grep_match.proofs.wider.wider_within.Goals as goal

pub loop-kept-init : goal.loop-kept-init
loop-kept-init c = let patterns = c.args.patterns.now in
    record {
      misses = λ before line after lacks. refl;
      finds = λ on. subst (λ hirs. FirstMatchSome patterns.options c.args.matching.now patterns.kept c.args.most hirs
          false 0) (sym c.new-branches.ensures.items)
          (first_some patterns.options c.args.matching.now patterns.kept c.args.most false);
    }

pub shape_of-requires-in-loop-kept-clause-kept : goal.shape_of-requires-in-loop-kept-clause-kept
shape_of-requires-in-loop-kept-clause-kept c =
    let patterns = c.args.patterns.now in
    subst (IsKept patterns.options) (sym (rw c.kept-kept-items.ensures.value at c.kept-item.is))
    (All-get_or (IsKept patterns.options) patterns.kept c.loop-kept.kept-index c.kept-item.result
    (rw c.kept-kept-items.ensures.value at c.loop-kept-test.true) c.kept-kept-items.ensures.kept)

pub loop-kept-preserved : goal.loop-kept-preserved
loop-kept-preserved c =
    let matching = c.args.matching.now in
    let patterns = c.args.patterns.now in
    let i = c.loop-kept.kept-index in
    let most = c.args.most in
    let kept = c.kept-item.result in
    let hir = c.in-Some.shape.hir in
    let utf = c.loop-kept.utf || c.is_utf-utf.result in
    let both = ap (λ u. c.loop-kept.utf || u) c.is_utf-utf.ensures in
    let within = rw c.kept-kept-items.ensures.value at c.loop-kept-test.true in
    let is = rw c.kept-kept-items.ensures.value at c.kept-item.is in
    let misses : Misses (pattern_in patterns.options kept) matching most (meaning hir) =
    rw c.in-Some.is at c.in_ok-shape.ensures.misses in
    record {
      misses = next_misses patterns.options matching patterns.kept i kept most c.loop-kept.branches.items
          c.push.new.branches.items hir c.loop-kept.utf utf within is misses c.in_ok-push.ensures both
          c.loop-kept.invariant.misses;
      finds = λ on.
          let exact = and_parts c.loop-kept.is_exact c.in-Some.shape.is_exact on in
          next_some patterns.options matching patterns.kept i kept most c.loop-kept.branches.items
          c.push.new.branches.items hir c.loop-kept.utf utf within is misses
          ((rw c.in-Some.is at c.in_ok-shape.ensures.finds) exact.1)
          c.in_ok-push.ensures both (c.loop-kept.invariant.finds exact.0);
    }

pub returns-clause-misses : goal.returns-clause-misses
returns-clause-misses c =
    let patterns = c.args.patterns.now in
    let wider : Wider = record {
      hir = Alternation c.loop-kept.branches;
      most = c.args.most;
      utf = c.loop-kept.utf;
      is_exact = c.loop-kept.is_exact;
    } in
    all_miss patterns.options c.args.matching.now patterns.kept c.loop-kept.kept-index wider
    c.loop-kept.branches.items (rw c.kept-kept-items.ensures.value at c.loop-kept-test.false)
    (meaning-Alternation c.loop-kept.branches) c.loop-kept.invariant.misses

pub returns-clause-finds : goal.returns-clause-finds
returns-clause-finds c = λ on.
    let patterns = c.args.patterns.now in
    let wider : Wider = record {
      hir = Alternation c.loop-kept.branches;
      most = c.args.most;
      utf = c.loop-kept.utf;
      is_exact = c.loop-kept.is_exact;
    } in
    all_some patterns.options c.args.matching.now patterns.kept c.loop-kept.kept-index wider
    c.loop-kept.branches.items (meaning-Alternation c.loop-kept.branches) (c.loop-kept.invariant.finds on)
