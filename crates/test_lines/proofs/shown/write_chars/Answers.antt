use Rattle.std.proofs.Common.{◌≡◌, ◌∙◌, true, drop, flat_map, refl, ap, subst, sym, rules, arith, Err}
use Rattle.std.proofs.lemmas.List.{at_drop_all}
use Rattle.std.proofs.lemmas.Str.{IsCharBoundary-start, chars-nil}
use Rattle.tool_io.specs.Writes.{Writes}
use Rattle.tool_io.proofs.Writing.{left-all, left-more, left-refused, left-none}
use Rattle.pat_nodes.proofs.Literally.{goes_on}
use Rattle.test_lines.specs.Shown.{shown_char, shown_chars}
use Rattle.test_lines.proofs.Showing.{next-shown}
use Rattle.test_lines.proofs.shown.write_chars.Goals as goal

pub chars-init : goal.chars-init
chars-init g c = record {
  left = left-all _ _;
  place = (omega arith, λ _. IsCharBoundary-start c.args.text.now c.requires);
}

pub chars-preserved : goal.chars-preserved
chars-preserved g c =
    let text = c.args.text.now in
    let i = c.chars.invariant in
    let code = c.char_at-code.result.0 in
    let after = c.char_at-code.result.1 in
    let found = c.char_at-code.ensures in
    let goes = goes_on true text c.chars.at code after found.value in
    record {
      left = left-more (shown_char code) (shown_chars (drop after text)) _ i.left
          (next-shown text c.chars.at code after c.requires (i.place.1 refl) goes found.span)
          c.in_ok-write_char.ensures;
      place = found.next;
    }

pub chars-smaller : goal.chars-smaller
chars-smaller g c =
    let goes = goes_on true c.args.text.now c.chars.at c.char_at-code.result.0 c.char_at-code.result.1
    c.char_at-code.ensures.value in
    omega (arith, goes, c.chars-test.true)

pub returns-in_err-write_char : goal.returns-in_err-write_char
returns-in_err-write_char g c =
    let text = c.args.text.now in
    let i = c.chars.invariant in
    let code = c.char_at-code.result.0 in
    let after = c.char_at-code.result.1 in
    let found = c.char_at-code.ensures in
    let goes = goes_on true text c.chars.at code after found.value in
    let e = c.in_err-write_char.field-0.0 in
    let same : c.from_residual.result ≡ Err e = search rules in
    subst (λ r. Writes (shown_chars text) (g.O.Sink.tells c.args.out.now) (g.O.Sink.tells c.write_char.new.out) r)
    (sym same)
    (left-refused (shown_char code) (shown_chars (drop after text)) e i.left
    (next-shown text c.chars.at code after c.requires (i.place.1 refl) goes found.span)
    c.in_err-write_char.ensures)

pub returns : goal.returns
returns g c =
    left-none _ c.chars.invariant.left (at_drop_all shown_chars c.args.text.now c.chars.at
    (omega (arith, c.chars-test.false)) ∙ ap (flat_map shown_char) chars-nil)
