use Rattle.std.proofs.Common.{◌≡◌, ◌-◌, ◌∙◌, ap, sym, arith}
use Rattle.frame_store.specs.Entry.{entries}
use Rattle.ordered_search.specs.Parts.{skip_to}
use Rattle.frame_state.specs.Machine.{heard}
use Rattle.frame_verbs.proofs.SkipTurns.{heard_none, heard_other, heard_name, heard_lower, skip_here, skip_before}
use Rattle.frame_verbs.proofs.skips.last_passed.Goals as goal

pub returns-then-event-ne-KIND_MARK_PASSED : goal.returns-then-event-ne-KIND_MARK_PASSED
returns-then-event-ne-KIND_MARK_PASSED g c =
    let s = (g.S.Searchable.searched c.args.on.now).setting in
    sym (ap (skip_to s c.args.name) (heard_other (g.S.Searchable.searched c.args.on.now) c.args.store.now.records
    c.requires.heard c.names.height (c.names.height - 1) (omega arith) _ c.get-event.ensures
    c.if-event-ne-KIND_MARK_PASSED.true))
    ∙ c.names.invariant.same

pub returns-then-same_name : goal.returns-then-same_name
returns-then-same_name g c =
    let s = (g.S.Searchable.searched c.args.on.now).setting in
    let stack = entries c.args.store.now.records in
    let r = c.get-event.result.now in
    skip_here s c.args.name (r.mark - 1) r.place (heard stack r.passed) c.saturating_sub.result
    (omega (arith, c.saturating_sub.ensures)) c.if-same_name.ensures
    ∙ sym (ap (skip_to s c.args.name) (heard_name (g.S.Searchable.searched c.args.on.now) c.args.store.now.records
    c.requires.heard c.names.height (c.names.height - 1) (omega arith) _ c.get-event.ensures
    c.if-event-ne-KIND_MARK_PASSED.false))
    ∙ c.names.invariant.same

pub names-smaller : goal.names-smaller
names-smaller g c = heard_lower (g.S.Searchable.searched c.args.on.now) c.args.store.now.records c.requires.heard
    c.names.height (c.names.height - 1) (omega arith) _ c.get-event.ensures c.if-event-ne-KIND_MARK_PASSED.false

pub names-preserved : goal.names-preserved
names-preserved g c =
    let s = (g.S.Searchable.searched c.args.on.now).setting in
    let stack = entries c.args.store.now.records in
    let r = c.get-event.result.now in
    let low = heard_lower (g.S.Searchable.searched c.args.on.now) c.args.store.now.records c.requires.heard
    c.names.height (c.names.height - 1) (omega arith) _ c.get-event.ensures c.if-event-ne-KIND_MARK_PASSED.false
    in
    record {
      same =
          skip_before s c.args.name (r.mark - 1) r.place (heard stack r.passed) c.saturating_sub.result
          (omega (arith, c.saturating_sub.ensures)) c.if-same_name.ensures
          ∙ sym (ap (skip_to s c.args.name) (heard_name (g.S.Searchable.searched c.args.on.now)
          c.args.store.now.records c.requires.heard c.names.height (c.names.height - 1) (omega arith) _
          c.get-event.ensures c.if-event-ne-KIND_MARK_PASSED.false))
          ∙ c.names.invariant.same;
      within = omega (arith, low, c.names.invariant.within);
    }

pub returns : goal.returns
returns g c =
    let s = (g.S.Searchable.searched c.args.on.now).setting in
    let stack = entries c.args.store.now.records in
    let none : c.names.height ≡ 0 = omega arith in
    sym (ap (skip_to s c.args.name) (ap (heard stack) none ∙ heard_none (g.S.Searchable.searched c.args.on.now) stack))
    ∙ c.names.invariant.same
