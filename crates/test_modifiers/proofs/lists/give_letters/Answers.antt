use Rattle.std.proofs.Common.{◌≡◌, ℕ, zero, suc, ◌<◌, false, eqb, drop, sym, ◌∙◌, ap, arith, length}
use Rattle.test_modifiers.specs.Lists.{letters_given}
use Rattle.test_modifiers.proofs.Joining.{letters_pair, letters_one}
use Rattle.test_modifiers.proofs.lists.give_letters.Goals as goal

some_left : (n : ℕ) → false ≡ eqb n 0 → 0 < n
some_left zero none = cc
some_left (suc n) none = omega arith

pub loop-rest-preserved-then-begins_pair : goal.loop-rest-preserved-then-begins_pair
loop-rest-preserved-then-begins_pair c =
    let rest = c.loop-rest.rest.now in
    ap (λ letters. letters_given c.args.pattern letters c.give_flag.new.modifiers) c.after-rest.ensures
    ∙ ap (letters_given c.args.pattern (drop 2 rest)) c.give_flag.ensures
    ∙ sym (letters_pair c.args.pattern rest c.loop-rest.modifiers (sym c.if-begins_pair.ensures))
    ∙ c.loop-rest.invariant

pub loop-rest-preserved : goal.loop-rest-preserved
loop-rest-preserved c =
    let rest = c.loop-rest.rest.now in
    ap (λ letters. letters_given c.args.pattern letters c.give_flag-else-begins_pair.new.modifiers)
    c.after-rest-else-begins_pair.ensures
    ∙ ap (letters_given c.args.pattern (drop 1 rest)) c.give_flag-else-begins_pair.ensures
    ∙ sym (letters_one c.args.pattern rest c.loop-rest.modifiers c.in-Some.flag
    (some_left (length rest) c.loop-rest-test.ensures) (sym c.if-begins_pair.ensures) (sym c.in-Some.ensures))
    ∙ c.loop-rest.invariant
