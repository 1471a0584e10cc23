use Rattle.std.proofs.Common.{◌≡◌, ◌-◌, ◌∙◌, sym, ap, arith}
use Rattle.frame_store.specs.Entry.{entries}
use Rattle.frame_store.specs.Stack.{up_to}
use Rattle.frame_state.specs.Frames.{began}
use Rattle.frame_verbs.proofs.Leaving.{began_whole, contained_low, event_part, event_low, event_jump, event_stop}
use Rattle.frame_verbs.proofs.Leaving.{event_step}
use Rattle.frame_verbs.proofs.catches.began.Goals as goal

pub records-smaller-then-event-frame : goal.records-smaller-then-event-frame
records-smaller-then-event-frame g c =
    let low = event_low (g.S.Searchable.searched c.args.on.now) c.args.store.now.records c.requires.sound
    (c.records.height - 1) c.get-event.result.now c.get-event.ensures in
    omega (arith, low, c.records-test.true)

pub records-preserved-then-event-frame : goal.records-preserved-then-event-frame
records-preserved-then-event-frame g c =
    let low = event_low (g.S.Searchable.searched c.args.on.now) c.args.store.now.records c.requires.sound
    (c.records.height - 1) c.get-event.result.now c.get-event.ensures in
    record {
      same = sym (event_jump (g.S.Searchable.searched c.args.on.now) c.args.store.now.records c.requires.sound
          (c.records.height - 1) c.get-event.result.now c.get-event.ensures c.records.height
          (omega (arith, c.records-test.true)) c.args.frame c.args.branch c.records.began
          c.records.invariant.contained (omega (arith, c.records-test.true)) c.if-event-frame.true)
          ∙ c.records.invariant.same;
      above = omega (arith, c.if-event-frame.true);
      within = omega (arith, low, c.records.invariant.within);
      contained = contained_low (g.S.Searchable.searched c.args.on.now) c.args.store.now.records c.requires.sound
          c.args.frame c.get-event.result.now.link c.records.height (omega (arith, low))
          c.records.invariant.contained;
    }

pub rank-requires-clause-within : goal.rank-requires-clause-within
rank-requires-clause-within g c =
    (event_part (g.S.Searchable.searched c.args.on.now) c.args.store.now.records c.requires.sound
    (c.records.height - 1) c.get-event.result.now c.get-event.ensures).within

pub rank-requires-clause-under : goal.rank-requires-clause-under
rank-requires-clause-under g c =
    (event_part (g.S.Searchable.searched c.args.on.now) c.args.store.now.records c.requires.sound
    (c.records.height - 1) c.get-event.result.now c.get-event.ensures).under

pub returns-then-rank-start : goal.returns-then-rank-start
returns-then-rank-start g c =
    sym (event_stop (g.S.Searchable.searched c.args.on.now) c.args.store.now.records c.requires.sound
    (c.records.height - 1) c.get-event.result.now c.get-event.ensures c.records.height
    (omega (arith, c.records-test.true)) c.args.frame c.args.branch c.records.began
    c.records.invariant.contained (omega (arith, c.records-test.true)) c.if-event-frame.false
    (omega (arith, c.if-rank-start.true, c.rank.ensures, c.rank-start.ensures)))
    ∙ c.records.invariant.same

pub records-preserved : goal.records-preserved
records-preserved g c = record {
  same =
      sym (event_step (g.S.Searchable.searched c.args.on.now) c.args.store.now.records c.requires.sound
      (c.records.height - 1) c.get-event.result.now c.get-event.ensures c.records.height
      (omega (arith, c.records-test.true)) c.args.frame c.args.branch c.records.began
      c.records.invariant.contained (omega (arith, c.records-test.true)) c.if-event-frame.false
      (omega (arith, c.if-rank-start.false, c.rank.ensures, c.rank-start.ensures)))
      ∙ c.records.invariant.same;
  above = omega (arith, c.records-test.true);
  within = omega (arith, c.records.invariant.within);
  contained = contained_low (g.S.Searchable.searched c.args.on.now) c.args.store.now.records c.requires.sound
      c.args.frame (c.records.height - 1) c.records.height (omega arith) c.records.invariant.contained;
}

pub returns : goal.returns
returns g c =
    let same : c.args.frame ≡ c.records.height = omega (arith, c.records-test.false, c.records.invariant.above) in
    sym (began_whole (g.S.Searchable.searched c.args.on.now) c.args.store.now.records c.requires.sound c.args.frame
    c.args.branch c.records.began)
    ∙ ap (λ h. began (g.S.Searchable.searched c.args.on.now) (up_to h (entries c.args.store.now.records)) c.args.frame
    c.args.branch c.records.began) same
    ∙ c.records.invariant.same
