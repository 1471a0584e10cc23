use Rattle.std.proofs.Common.{ap, sym, subst, ◌∙◌}
use Rattle.std.specs.Prelude.{IsTrue}
use Rattle.frame_machine.specs.declared.scratch.Scratch.{Scratch}
use Rattle.ordered_search.specs.MatchAnswer.{Found}
use Rattle.ordered_search.specs.PlaceAnswer.{last_name, blocks}
use Rattle.frame_state.specs.Shown.{seen_after}
use Rattle.match_drive.proofs.Shown.{seen_none}
use Rattle.match_drive.proofs.Both.{ready_alike}
use Rattle.match_drive.proofs.drive.search_by.Goals as goal

pub returns-then-lacks_need-clause-answer : goal.returns-then-lacks_need-clause-answer
returns-then-lacks_need-clause-answer g c =
    let e = c.lacks_need.ensures c.if-lacks_need.true (g.C.Callouts.answers c.args.calls.now) in
    rw c.no_match.ensures.answer (ap (λ (f : Found). f.answer) e, sym (ap (λ (f : Found). last_name f.notes) e))

pub returns-then-lacks_need-clause-last_mark : goal.returns-then-lacks_need-clause-last_mark
returns-then-lacks_need-clause-last_mark g c =
    let e = c.lacks_need.ensures c.if-lacks_need.true (g.C.Callouts.answers c.args.calls.now) in
    rw c.no_match.ensures.answer
    (ap (λ (s : Scratch). s.last_mark) c.no_match.ensures.mark ∙ sym (ap (λ (f : Found). last_name f.notes) e))

pub returns-then-lacks_need-clause-seen : goal.returns-then-lacks_need-clause-seen
returns-then-lacks_need-clause-seen g c =
    let e = c.lacks_need.ensures c.if-lacks_need.true (g.C.Callouts.answers c.args.calls.now) in
    let seen = g.C.Callouts.seen c.args.calls.now in
    rw c.no_match.ensures.answer (sym (ap (λ (f : Found). seen_after seen (blocks f.notes)) e ∙ seen_none seen))

pub returns-then-lacks_need-clause-starts : goal.returns-then-lacks_need-clause-starts
returns-then-lacks_need-clause-starts g c =
    ready_alike c.args.ready.now c.args.view.now (g.C.Callouts.answers c.args.calls.now) c.requires.search
    c.is_sound.ensures c.are_bytes.ensures

pub returns-clause-starts : goal.returns-clause-starts
returns-clause-starts g c =
    ready_alike c.args.ready.now c.args.view.now (g.C.Callouts.answers c.args.calls.now) c.requires.search
    c.is_sound.ensures c.are_bytes.ensures

pub search_on-requires : goal.search_on-requires
search_on-requires g c =
    let tree = c.args.ready.now.tree.now in
    let known = c.requires.outline in
    let told = c.for_search.ensures in
    record {
      search = c.requires.search;
      begin = λ on. known.begin (subst (λ b. IsTrue b) told.begin on);
      branches = c.branches.ensures.branches;
      branches_free = c.branches.ensures.free;
      begins_with = c.begin_of.ensures;
      repeats_only = told.whole tree known.whole;
      repeats_first = told.repeat tree known.repeat;
      runs_first = told.run tree known.run c.requires.search.options;
    }
