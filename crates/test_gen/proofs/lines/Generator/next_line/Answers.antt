use Rattle.std.proofs.Common.{◌≡◌, ◌∙◌, ◌+◌, [], ◌∷◌, ◌++◌, length, sym, ap, rules, length-append}
use Rattle.test_gen.specs.Generated.{next, letter}
use Rattle.test_gen.proofs.Making.{letters-none, letters-more, behind-none, behind-more}
use Rattle.test_gen.proofs.lines.Generator.next_line.Goals as goal

pub loop-letter-init : goal.loop-letter-init
loop-letter-init c =
    let x = c.args.self.now.x in
    record {
      line = c.new-line.ensures.items ∙ sym (letters-none x);
      len = ap length c.new-line.ensures.items;
      x = sym (behind-none x);
    }

pub loop-letter-preserved : goal.loop-letter-preserved
loop-letter-preserved c =
    let x = c.args.self.now.x in
    let n = c.loop-letter._letter in
    let i = c.loop-letter.invariant in
    let line = c.loop-letter.line.items in
    let made = c.next_letter.ensures.letter ∙ ap (λ y. letter (next y)) i.x in
    let pushed : c.push.new.self.items ≡ line ++ c.next_letter.result ∷ [] = search rules in
    record {
      line = pushed ∙ (λ j. i.line j ++ made j ∷ []) ∙ sym (letters-more x n);
      len = ap length pushed ∙ length-append line (c.next_letter.result ∷ []) ∙ ap (λ k. k + 1) i.len;
      x = c.next_letter.ensures.x ∙ ap next i.x ∙ sym (behind-more x n);
    }
