use Rattle.std.proofs.Common.{◌≡◌, ◌∙◌, ◌+◌, ◌-◌, ◌<◌, Bool, length, refl, sym, ap, subst, arith}
use Rattle.uni_text.specs.Characters.{char_at, IsCharSpan}
use Rattle.match_items.specs.Views.{text_scene, maximum, step_tests}
use Rattle.match_items.proofs.PlainRuns.{along_plain}
use Rattle.match_items.proofs.TextPlaces.{place_before-next}
use Rattle.match_items.proofs.TextRuns.{IsAlong, at_end, full, along_start, along_next, some_left, all_taken}
use Rattle.match_items.proofs.TextRuns.{refused_at, taken_at, few_tests, step_tests-end, goes_forward, walk_of}
use Rattle.match_items.proofs.TextRuns.{ends_tested, full_tested, refused_tested}
use Rattle.match_items.proofs.walks.text_walk.Goals as goal

pub loop-count-init : goal.loop-count-init
loop-count-init g c =
    let none : 0 ≡ c.args.steps.now - c.args.steps.now = omega arith in
    record {
      place = c.requires.place;
      most = omega arith;
      later = omega arith;
      few = omega arith;
      along = subst (λ t. IsAlong (text_scene c.args.view.now c.args.classes.now) c.args.item.now (maximum c.args.max)
          c.args.at 0 c.args.at t) none (along_start (text_scene c.args.view.now c.args.classes.now) c.args.item.now
          (maximum c.args.max) c.args.at);
    }

pub returns-then-to-view-clause-walk : goal.returns-then-to-view-clause-walk
returns-then-to-view-clause-walk g c =
    let s = text_scene c.args.view.now c.args.classes.now in
    let i = c.loop-count.invariant in
    let short : c.loop-count.count < 4294967295 = let few = i.along.few in
    omega (arith, c.requires.subject.short, i.place.within) in
    let left = some_left s c.args.item.now c.args.max c.loop-count.count (omega arith) short c.loop-count-test.true in
    walk_of s c.args.item.now c.args.max c.args.at c.loop-count.count c.loop-count.to _ i.along
    (at_end left (omega arith)) c.requires.subject.short (omega arith) i.most i.place.within

pub returns-then-to-view-clause-tests : goal.returns-then-to-view-clause-tests
returns-then-to-view-clause-tests g c =
    let s = text_scene c.args.view.now c.args.classes.now in
    let i = c.loop-count.invariant in
    let short : c.loop-count.count < 4294967295 = let few = i.along.few in
    omega (arith, c.requires.subject.short, i.place.within) in
    let left = some_left s c.args.item.now c.args.max c.loop-count.count (omega arith) short c.loop-count-test.true in
    let tested = ends_tested s c.args.item.now c.args.max c.args.at c.loop-count.count c.loop-count.to _ i.along
    (at_end left (omega arith)) (step_tests-end s c.args.item.now c.loop-count.to (omega arith)) in
    omega (arith, tested, i.later)

pub returns-then-not-takes-clause-walk : goal.returns-then-not-takes-clause-walk
returns-then-not-takes-clause-walk g c =
    let s = text_scene c.args.view.now c.args.classes.now in
    let i = c.loop-count.invariant in
    let short : c.loop-count.count < 4294967295 = let few = i.along.few in
    omega (arith, c.requires.subject.short, i.place.within) in
    let left = some_left s c.args.item.now c.args.max c.loop-count.count (omega arith) short c.loop-count-test.true in
    let inside : c.loop-count.to < length c.args.view.now.subject.now =
    omega (arith, i.place.within, c.if-to-view.false) in
    let stands = c.char_at-c.ensures.value ∙ ap (λ (u : Bool). char_at u c.args.view.now.subject.now c.loop-count.to)
    (sym c.requires.utf) in
    walk_of s c.args.item.now c.args.max c.args.at c.loop-count.count c.loop-count.to _ i.along
    (refused_at s c.args.item.now _ c.loop-count.to c.char_at-c.result.0 c.char_at-c.result.1 left inside stands
    (sym c.takes.ensures.value ∙ c.if-not-takes.true))
    c.requires.subject.short (omega arith) i.most i.place.within

pub returns-then-not-takes-clause-tests : goal.returns-then-not-takes-clause-tests
returns-then-not-takes-clause-tests g c =
    let s = text_scene c.args.view.now c.args.classes.now in
    let i = c.loop-count.invariant in
    let short : c.loop-count.count < 4294967295 = let few = i.along.few in
    omega (arith, c.requires.subject.short, i.place.within) in
    let left = some_left s c.args.item.now c.args.max c.loop-count.count (omega arith) short c.loop-count-test.true in
    let inside : c.loop-count.to < length c.args.view.now.subject.now =
    omega (arith, i.place.within, c.if-to-view.false) in
    let stands = c.char_at-c.ensures.value ∙ ap (λ (u : Bool). char_at u c.args.view.now.subject.now c.loop-count.to)
    (sym c.requires.utf) in
    let tested = refused_tested s c.args.item.now c.args.max c.args.at c.loop-count.count c.loop-count.to _ i.along
    (refused_at s c.args.item.now _ c.loop-count.to c.char_at-c.result.0 c.char_at-c.result.1 left inside stands
    (sym c.takes.ensures.value ∙ c.if-not-takes.true)) left in
    omega (arith, tested, i.later, c.takes.ensures.tests)

pub loop-count-preserved : goal.loop-count-preserved
loop-count-preserved g c =
    let s = text_scene c.args.view.now c.args.classes.now in
    let i = c.loop-count.invariant in
    let short : c.loop-count.count < 4294967295 = let few = i.along.few in
    omega (arith, c.requires.subject.short, i.place.within) in
    let left = some_left s c.args.item.now c.args.max c.loop-count.count (omega arith) short c.loop-count-test.true in
    let inside : c.loop-count.to < length c.args.view.now.subject.now =
    omega (arith, i.place.within, c.if-to-view.false) in
    let utf = c.requires.utf in
    let stands = c.char_at-c.ensures.value ∙ ap (λ (u : Bool). char_at u c.args.view.now.subject.now c.loop-count.to)
    (sym utf) in
    let taken = taken_at s c.args.item.now c.loop-count.to c.char_at-c.result.0 c.char_at-c.result.1 inside stands
    (sym c.takes.ensures.value ∙ c.if-not-takes.false) in
    let forward = goes_forward s c.args.item.now c.loop-count.to c.char_at-c.result.1 taken in
    let span = subst (λ (u : Bool). IsCharSpan u c.args.view.now.subject.now c.char_at-c.result.0 c.loop-count.to
    c.char_at-c.result.1) (sym utf) c.char_at-c.ensures.span in
    let back = place_before-next s c.loop-count.to c.char_at-c.result.0 c.char_at-c.result.1
    c.requires.subject.checked (i.place.within, i.place.between) stands span forward.0 in
    let tests : (c.loop-count.steps - c.args.steps.now) + step_tests s c.args.item.now
    c.loop-count.to ≡ c.takes.new.steps - c.args.steps.now = omega (arith, i.later, c.takes.ensures.tests) in
    record {
      place = record { within = c.char_at-c.ensures.next.0; between = λ _. c.char_at-c.ensures.next.1 refl };
      most = omega arith;
      later = omega (arith, i.later, c.takes.ensures.tests);
      few = omega (arith, i.few, c.takes.ensures.tests, few_tests s c.args.item.now c.loop-count.to);
      along = subst (λ t. IsAlong s c.args.item.now (maximum c.args.max) c.args.at (c.loop-count.count + 1)
          c.char_at-c.result.1 t) tests
          (along_next s c.args.item.now (maximum c.args.max) c.args.at c.loop-count.count c.loop-count.to _
          c.char_at-c.result.1 i.along left inside taken back);
    }

pub returns-clause-walk : goal.returns-clause-walk
returns-clause-walk g c =
    let s = text_scene c.args.view.now c.args.classes.now in
    let i = c.loop-count.invariant in
    let short : c.loop-count.count < 4294967295 = let few = i.along.few in
    omega (arith, c.requires.subject.short, i.place.within) in
    let left = all_taken s c.args.item.now c.args.max c.loop-count.count (omega arith) short
    (omega (arith, i.most, c.loop-count-test.false)) in
    walk_of s c.args.item.now c.args.max c.args.at c.loop-count.count c.loop-count.to _ i.along (full left)
    c.requires.subject.short (omega arith) i.most i.place.within

pub returns-clause-tests : goal.returns-clause-tests
returns-clause-tests g c =
    let s = text_scene c.args.view.now c.args.classes.now in
    let i = c.loop-count.invariant in
    let short : c.loop-count.count < 4294967295 = let few = i.along.few in
    omega (arith, c.requires.subject.short, i.place.within) in
    let left = all_taken s c.args.item.now c.args.max c.loop-count.count (omega arith) short
    (omega (arith, i.most, c.loop-count-test.false)) in
    let tested = full_tested s c.args.item.now c.args.max c.args.at c.loop-count.count c.loop-count.to _ i.along
    (full left) left in
    omega (arith, tested, i.later)

pub loop-count-preserved-then-near-to : goal.loop-count-preserved-then-near-to
loop-count-preserved-then-near-to g c =
    let s = text_scene c.args.view.now c.args.classes.now in
    let i = c.loop-count.invariant in
    let told = c.plain_run-near.ensures in
    let n = c.plain_run-near.result - c.loop-count.to in
    let past : c.plain_run-near.result ≡ c.loop-count.to + n = omega (arith, told.low) in
    let moved = along_plain s c.args.item.now c.requires.utf c.requires.subject n (maximum c.args.max) c.args.at
    c.loop-count.count c.loop-count.to (c.loop-count.steps - c.args.steps.now)
    (c.loop-count.count + n) c.plain_run-near.result refl past i.along
    (λ j l.
    let few = i.along.few in
    let short : c.loop-count.count + j < 4294967295 =
    omega (arith, few, l, past, told.within, c.requires.subject.short) in
    some_left s c.args.item.now c.args.max (c.loop-count.count + j) (omega arith) short
    (omega (arith, l, past, told.few, c.loop-count-test.true)))
    i.place told.within told.plain in
    record {
      place = moved.1;
      most = omega (arith, past, told.few, c.loop-count-test.true);
      later = i.later;
      few = omega (arith, i.few);
      along = moved.0;
    }
