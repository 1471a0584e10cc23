use Rattle.std.proofs.Common.{◌∙◌, true, drop, length, flat_map, refl, ap, arith}
use Rattle.std.proofs.lemmas.List.{at_drop_all, length-append}
use Rattle.std.proofs.lemmas.Str.{IsCharBoundary-start, chars-nil}
use Rattle.pat_nodes.proofs.Literally.{goes_on}
use Rattle.test_lines.specs.Shown.{shown_char, shown_chars}
use Rattle.test_lines.proofs.Showing.{next-shown}
use Rattle.test_lines.proofs.columns.columns_of_chars.Goals as goal

pub chars-init : goal.chars-init
chars-init c = record {
  count = omega arith;
  most = omega arith;
  place = (omega arith, λ _. IsCharBoundary-start c.args.text.now c.requires.valid);
}

pub chars-preserved : goal.chars-preserved
chars-preserved c =
    let text = c.args.text.now in
    let had = c.chars.invariant in
    let code = c.char_at-code.result.0 in
    let after = c.char_at-code.result.1 in
    let found = c.char_at-code.ensures in
    let goes = goes_on true text c.chars.at code after found.value in
    let step = ap length (next-shown text c.chars.at code after c.requires.valid (had.place.1 refl) goes found.span)
    ∙ length-append (shown_char code) (shown_chars (drop after text)) in
    let one = c.char_columns-n.ensures in
    record {
      count = omega (arith, had.count, step, one.value);
      most = omega (arith, had.most, one.most, goes);
      place = found.next;
    }

pub chars-smaller : goal.chars-smaller
chars-smaller c =
    let goes = goes_on true c.args.text.now c.chars.at c.char_at-code.result.0 c.char_at-code.result.1
    c.char_at-code.ensures.value in
    omega (arith, goes, c.chars-test.true)

pub returns-clause-most : goal.returns-clause-most
returns-clause-most c =
    let had = c.chars.invariant in
    omega (arith, had.most, had.place.0)

pub returns-clause-value : goal.returns-clause-value
returns-clause-value c =
    let text = c.args.text.now in
    let none = ap length (at_drop_all shown_chars text c.chars.at (omega (arith, c.chars-test.false))
    ∙ ap (flat_map shown_char) chars-nil) in
    omega (arith, c.chars.invariant.count, none)
