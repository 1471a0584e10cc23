use Rattle.std.proofs.Common.{◌≡◌, codes, Err, refl, sym, subst, rules}
use Rattle.tool_io.specs.Writes.{Writes}
use Rattle.tool_io.proofs.Writing.{left-more, left-refused, left-last}
use Rattle.test_gen.specs.Texts.{pattern_text, ends_text, generated_text}
use Rattle.test_gen.proofs.Saying.{behind_first, behind_second, behind_third, behind_fourth, behind_ends, begun}
use Rattle.test_gen.proofs.Saying.{unbegun}
use Rattle.test_gen.proofs.text.write_generated.Goals as goal

pub returns-in_err-write_made : goal.returns-in_err-write_made
returns-in_err-write_made g c =
    let n = c.args.lines in
    let old = g.O.Sink.tells c.args.out.now in
    let new = g.O.Sink.tells c.write_made.new.out in
    let e = c.in_err-write_made.field-0.0 in
    let same : c.from_residual.result ≡ Err e = search rules in
    subst (λ r. Writes (generated_text n) old new r) (sym same)
    (unbegun n old new e c.in_err-write_made.ensures)

pub returns-in_err-write_pattern : goal.returns-in_err-write_pattern
returns-in_err-write_pattern g c =
    let n = c.args.lines in
    let old = g.O.Sink.tells c.args.out.now in
    let new = g.O.Sink.tells c.write_pattern.new.out in
    let e = c.in_err-write_pattern.field-0.0 in
    let same : c.from_residual-in_err-write_pattern.result ≡ Err e = search rules in
    let left_0 = begun n old (g.O.Sink.tells c.write_made.new.out) _ c.in_ok-write_made.ensures in
    subst (λ r. Writes (generated_text n) old new r) (sym same)
    (left-refused (pattern_text 1 (codes "b+a") n) (behind_first n) e left_0 refl c.in_err-write_pattern.ensures)

pub returns-in_err-write_pattern-2 : goal.returns-in_err-write_pattern-2
returns-in_err-write_pattern-2 g c =
    let n = c.args.lines in
    let old = g.O.Sink.tells c.args.out.now in
    let new = g.O.Sink.tells c.write_pattern-2.new.out in
    let e = c.in_err-write_pattern-2.field-0.0 in
    let same : c.from_residual-in_err-write_pattern-2.result ≡ Err e = search rules in
    let left_0 = begun n old (g.O.Sink.tells c.write_made.new.out) _ c.in_ok-write_made.ensures in
    let left_1 = left-more (pattern_text 1 (codes "b+a") n) (behind_first n) _ left_0 refl
    c.in_ok-write_pattern.ensures in
    subst (λ r. Writes (generated_text n) old new r) (sym same)
    (left-refused (pattern_text 2 (codes "(?<=-)b(?=a)") n) (behind_second n) e left_1 refl
    c.in_err-write_pattern-2.ensures)

pub returns-in_err-write_pattern-3 : goal.returns-in_err-write_pattern-3
returns-in_err-write_pattern-3 g c =
    let n = c.args.lines in
    let old = g.O.Sink.tells c.args.out.now in
    let new = g.O.Sink.tells c.write_pattern-3.new.out in
    let e = c.in_err-write_pattern-3.field-0.0 in
    let same : c.from_residual-in_err-write_pattern-3.result ≡ Err e = search rules in
    let left_0 = begun n old (g.O.Sink.tells c.write_made.new.out) _ c.in_ok-write_made.ensures in
    let left_1 = left-more (pattern_text 1 (codes "b+a") n) (behind_first n) _ left_0 refl
    c.in_ok-write_pattern.ensures in
    let left_2 = left-more (pattern_text 2 (codes "(?<=-)b(?=a)") n) (behind_second n) _ left_1 refl
    c.in_ok-write_pattern-2.ensures in
    subst (λ r. Writes (generated_text n) old new r) (sym same)
    (left-refused (pattern_text 3 (codes "(\\w)\\w*\\1") n) (behind_third n) e left_2 refl
    c.in_err-write_pattern-3.ensures)

pub returns-in_err-write_pattern-4 : goal.returns-in_err-write_pattern-4
returns-in_err-write_pattern-4 g c =
    let n = c.args.lines in
    let old = g.O.Sink.tells c.args.out.now in
    let new = g.O.Sink.tells c.write_pattern-4.new.out in
    let e = c.in_err-write_pattern-4.field-0.0 in
    let same : c.from_residual-in_err-write_pattern-4.result ≡ Err e = search rules in
    let left_0 = begun n old (g.O.Sink.tells c.write_made.new.out) _ c.in_ok-write_made.ensures in
    let left_1 = left-more (pattern_text 1 (codes "b+a") n) (behind_first n) _ left_0 refl
    c.in_ok-write_pattern.ensures in
    let left_2 = left-more (pattern_text 2 (codes "(?<=-)b(?=a)") n) (behind_second n) _ left_1 refl
    c.in_ok-write_pattern-2.ensures in
    let left_3 = left-more (pattern_text 3 (codes "(\\w)\\w*\\1") n) (behind_third n) _ left_2 refl
    c.in_ok-write_pattern-3.ensures in
    subst (λ r. Writes (generated_text n) old new r) (sym same)
    (left-refused (pattern_text 4 (codes "(?>b*)a-") n) (behind_fourth n) e left_3 refl
    c.in_err-write_pattern-4.ensures)

pub returns-in_err-write_ends : goal.returns-in_err-write_ends
returns-in_err-write_ends g c =
    let n = c.args.lines in
    let old = g.O.Sink.tells c.args.out.now in
    let new = g.O.Sink.tells c.write_ends.new.out in
    let e = c.in_err-write_ends.field-0.0 in
    let same : c.from_residual-in_err-write_ends.result ≡ Err e = search rules in
    let left_0 = begun n old (g.O.Sink.tells c.write_made.new.out) _ c.in_ok-write_made.ensures in
    let left_1 = left-more (pattern_text 1 (codes "b+a") n) (behind_first n) _ left_0 refl
    c.in_ok-write_pattern.ensures in
    let left_2 = left-more (pattern_text 2 (codes "(?<=-)b(?=a)") n) (behind_second n) _ left_1 refl
    c.in_ok-write_pattern-2.ensures in
    let left_3 = left-more (pattern_text 3 (codes "(\\w)\\w*\\1") n) (behind_third n) _ left_2 refl
    c.in_ok-write_pattern-3.ensures in
    let left_4 = left-more (pattern_text 4 (codes "(?>b*)a-") n) (behind_fourth n) _ left_3 refl
    c.in_ok-write_pattern-4.ensures in
    subst (λ r. Writes (generated_text n) old new r) (sym same)
    (left-refused (ends_text (codes "b+a?") n) (behind_ends n) e left_4 refl c.in_err-write_ends.ensures)

pub returns : goal.returns
returns g c =
    let n = c.args.lines in
    let old = g.O.Sink.tells c.args.out.now in
    let left_0 = begun n old (g.O.Sink.tells c.write_made.new.out) _ c.in_ok-write_made.ensures in
    let left_1 = left-more (pattern_text 1 (codes "b+a") n) (behind_first n) _ left_0 refl
    c.in_ok-write_pattern.ensures in
    let left_2 = left-more (pattern_text 2 (codes "(?<=-)b(?=a)") n) (behind_second n) _ left_1 refl
    c.in_ok-write_pattern-2.ensures in
    let left_3 = left-more (pattern_text 3 (codes "(\\w)\\w*\\1") n) (behind_third n) _ left_2 refl
    c.in_ok-write_pattern-3.ensures in
    let left_4 = left-more (pattern_text 4 (codes "(?>b*)a-") n) (behind_fourth n) _ left_3 refl
    c.in_ok-write_pattern-4.ensures in
    let left_5 = left-more (ends_text (codes "b+a?") n) (behind_ends n) _ left_4 refl c.in_ok-write_ends.ensures in
    left-last c.write_replaced.result left_5 refl c.write_replaced.ensures
