use Rattle.std.proofs.Common.{length, refl, ap, arith}
use Rattle.pat_tree.specs.Growing.{loose, loose_after}
use Rattle.pat_tree.proofs.Growing.{stand_none}
use Rattle.std.proofs.lemmas.Str.{IsCharBoundary-start}
use Rattle.pat_nodes.proofs.Extending.{adds_none, adds_then}
use Rattle.pat_nodes.proofs.Literally.{goes_on, reached_none, reached_next, reached_all}
use Rattle.pat_nodes.proofs.literal.characters.Goals as goal

pub texts-init : goal.texts-init
unfolding loose loose_after
texts-init c = record {
  stand = rw (c.new-kids.ensures) (reached_none c.args.draft.now.nodes c.args.options c.args.text.now _
      (stand_none c.args.draft.now.nodes));
  place = (omega arith, λ on. IsCharBoundary-start c.args.text.now (c.requires.checked on));
  loose = rw (c.requires.empty, c.new-kids.ensures) refl;
  adds = adds_none c.args.draft.now;
  count = omega (arith, ap length c.requires.empty);
}

pub overflow_sub-len : goal.overflow_sub-len
overflow_sub-len c =
    let goes = goes_on c.args.options.utf c.args.text.now c.texts.at c.char_at-code.result.0 c.char_at-code.result.1
    c.char_at-code.ensures.value in
    omega (arith, goes)

pub push_callout-requires-clause-small : goal.push_callout-requires-clause-small
push_callout-requires-clause-small c =
    let goes = goes_on c.args.options.utf c.args.text.now c.texts.at c.char_at-code.result.0 c.char_at-code.result.1
    c.char_at-code.ensures.value in
    omega (arith, goes, c.char_at-code.ensures.span.fits, c.requires.short)

pub texts-preserved : goal.texts-preserved
texts-preserved c =
    let i = c.texts.invariant in
    let found = c.char_at-code.ensures in
    let goes = goes_on c.args.options.utf c.args.text.now c.texts.at c.char_at-code.result.0 c.char_at-code.result.1
    found.value in
    let one = c.in_ok-push_callout.ensures in
    let two = c.in_ok-push_character.ensures in
    record {
      stand = reached_next _ c.args.options c.args.text.now _ c.texts.at c.char_at-code.result.0
          c.char_at-code.result.1 c.requires.checked i.place found.value found.span i.stand.1
          (two.stand _ (one.stand _ i.stand.0));
      place = found.next;
      loose = two.loose_is (one.loose_is i.loose);
      adds = adds_then i.adds (adds_then one.adds two.adds);
      count = omega (arith, i.count, one.count, two.count, goes);
    }

pub texts-smaller : goal.texts-smaller
texts-smaller c =
    let goes = goes_on c.args.options.utf c.args.text.now c.texts.at c.char_at-code.result.0 c.char_at-code.result.1
    c.char_at-code.ensures.value in
    omega (arith, goes, c.texts-test.true)

pub push_callout-requires-2-clause-small : goal.push_callout-requires-2-clause-small
push_callout-requires-2-clause-small c = omega (arith, c.texts.invariant.place.0, c.requires.short)

pub returns-clause-stand : goal.returns-clause-stand
returns-clause-stand c =
    let i = c.texts.invariant in
    reached_all _ c.args.options c.args.text.now _ c.texts.at (omega (arith, c.texts-test.false)) i.place.0
    (c.in_ok-push_callout-2.ensures.stand _ i.stand.0)
