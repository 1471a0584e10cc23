use Rattle.std.proofs.Common.{◌≡◌, ◌-◌, ◌∙◌, Some, length, sym, ap, arith}
use Rattle.std.proofs.lemmas.List.{length-map}
use Rattle.frame_store.specs.Entry.{entries, entry_of}
use Rattle.frame_store.specs.Stack.{up_to}
use Rattle.frame_store.proofs.StackLemmas.{length-up_to}
use Rattle.frame_verbs.specs.Catching.{left_height}
use Rattle.frame_state.specs.Frames.{began}
use Rattle.frame_verbs.proofs.Leaving.{among_root, event_part, event_low, event_contained, left_some, left_whole}
use Rattle.frame_verbs.proofs.Leaving.{left_caught, left_outer}
use Rattle.frame_verbs.proofs.VerbTurns.{none_of}
use Rattle.frame_verbs.proofs.catches.left_height.Goals as goal

pub began-requires-clause-branch : goal.began-requires-clause-branch
began-requires-clause-branch g c =
    (among_root (g.S.Searchable.searched c.args.on.now) c.frames.part c.in_Some-branch.branch c.frames.invariant.part
    (sym c.branch-branch.ensures ∙ c.in_Some-branch.is)).0

pub began-requires-clause-under : goal.began-requires-clause-under
began-requires-clause-under g c =
    (among_root (g.S.Searchable.searched c.args.on.now) c.frames.part c.in_Some-branch.branch c.frames.invariant.part
    (sym c.branch-branch.ensures ∙ c.in_Some-branch.is)).1

pub returns-in_Some-branch : goal.returns-in_Some-branch
returns-in_Some-branch g c =
    let stack = up_to c.frames.top (entries c.args.store.now.records) in
    let inside : length stack ≡ c.frames.top = length-up_to c.frames.top (entries c.args.store.now.records)
    (omega (arith, c.frames.invariant.within, length-map c.args.store.now.records entry_of)) in
    ap Some (c.began.ensures
    ∙ ap (λ n. began (g.S.Searchable.searched c.args.on.now) stack c.frames.frame c.in_Some-branch.branch n)
    (sym inside))
    ∙ sym (left_some (g.S.Searchable.searched c.args.on.now) stack c.frames.frame c.frames.part
    c.in_Some-branch.branch (sym c.branch-branch.ensures ∙ c.in_Some-branch.is))
    ∙ c.frames.invariant.same

pub returns-then-frame-eq0 : goal.returns-then-frame-eq0
returns-then-frame-eq0 g c =
    let stack = up_to c.frames.top (entries c.args.store.now.records) in
    sym (left_whole (g.S.Searchable.searched c.args.on.now) stack c.frames.part
    (sym c.branch-branch.ensures ∙ none_of c.branch-branch.result c.in_default-branch.not-Some))
    ∙ ap (λ l. left_height (g.S.Searchable.searched c.args.on.now) stack l c.frames.part) (sym c.if-frame-eq0.true)
    ∙ c.frames.invariant.same

pub returns-then-is_catching_then : goal.returns-then-is_catching_then
returns-then-is_catching_then g c =
    sym (left_caught (g.S.Searchable.searched c.args.on.now) c.args.store.now.records (c.frames.frame - 1)
    c.get.result.now c.get.ensures c.frames.top c.frames.frame c.frames.part
    (omega (arith, c.if-frame-eq0.false)) c.frames.invariant.above
    (omega (arith, c.frames.invariant.within, length-map c.args.store.now.records entry_of))
    (sym c.branch-branch.ensures ∙ none_of c.branch-branch.result c.in_default-branch.not-Some)
    (sym c.if-is_catching_then.ensures))
    ∙ c.frames.invariant.same

pub frames-preserved : goal.frames-preserved
frames-preserved g c = record {
  same =
      sym (left_outer (g.S.Searchable.searched c.args.on.now) c.args.store.now.records (c.frames.frame - 1)
      c.get.result.now c.get.ensures c.frames.top c.frames.frame c.frames.part
      (omega (arith, c.if-frame-eq0.false)) c.frames.invariant.above
      (omega (arith, c.frames.invariant.within, length-map c.args.store.now.records entry_of))
      (sym c.branch-branch.ensures ∙ none_of c.branch-branch.result c.in_default-branch.not-Some)
      (sym c.if-is_catching_then.ensures))
      ∙ c.frames.invariant.same;
  part = event_part (g.S.Searchable.searched c.args.on.now) c.args.store.now.records c.requires.sound
      (c.frames.frame - 1) c.get.result.now c.get.ensures;
  above = event_low (g.S.Searchable.searched c.args.on.now) c.args.store.now.records c.requires.sound
      (c.frames.frame - 1) c.get.result.now c.get.ensures;
  within = omega (arith, c.frames.invariant.above, c.frames.invariant.within);
  contained = event_contained (g.S.Searchable.searched c.args.on.now) c.args.store.now.records c.requires.sound
      (c.frames.frame - 1) c.get.result.now c.get.ensures;
}
