use Rattle.std.proofs.Common.{◌∙◌, sym, ap, refl, rules}
use Rattle.std.proofs.lemmas.Int.{to_z-of_z}
use mir.Syntax.{w32}
use mir.Val.{SFits}
use Rattle.grep_match.specs.declared.search.Answer.TheVariants as told
use Rattle.grep_match.specs.Compiled.{patterns_in}
use Rattle.grep_multi.proofs.Growing.{answered}
use Rattle.grep_multi.proofs.Stepping.{gives-none, gives-error, gives-found, both-ok}
use Rattle.grep_multi.proofs.blocks.block_at.Goals as goal

pub returns-in-Found-clause-gives : goal.returns-in-Found-clause-gives
returns-in-Found-clause-gives c =
    let s = c.args.search.now in
    both-ok c.block_with.result _ _ _
    (λ block far taken.
    gives-found s.plan.now (patterns_in s.patterns.now) s.text.now s.kind c.args.from c.args.line c.requires.cut
    c.args.work.now.found c.first_answer.new.work.found c.block_with.new.work.found c.args.from.at c.in-Found.place
    block (sym c.requires.search.bad ∙ c.requires.good) refl c.requires.empty
    (answered _ _ _ _ _ _ _ _ _ s.text.now c.args.from.at _ _ c.as_slice-wanted.ensures c.limits-options.ensures
    c.in-Found.is refl c.in_ok-place.ensures.answer)
    taken far)
    c.block_with.ensures.behind c.block_with.ensures.taken

pub returns-in-Nothing-clause-gives : goal.returns-in-Nothing-clause-gives
returns-in-Nothing-clause-gives c =
    let s = c.args.search.now in
    gives-none s.plan.now (patterns_in s.patterns.now) s.text.now s.kind c.args.from c.args.line c.requires.cut
    c.args.work.now.found c.first_answer.new.work.found c.args.from.at
    (sym c.requires.search.bad ∙ c.requires.good) refl c.requires.empty c.requires.few
    (answered _ _ _ _ _ _ _ _ _ s.text.now c.args.from.at _ _ c.as_slice-wanted.ensures c.limits-options.ensures
    c.in-Nothing.is refl c.in_ok-place.ensures.answer)

pub returns-in-Error-clause-gives : goal.returns-in-Error-clause-gives
returns-in-Error-clause-gives c =
    let s = c.args.search.now in
    let fits : SFits w32 c.in-Error.n = search rules in
    gives-error s.plan.now (patterns_in s.patterns.now) s.text.now s.kind c.args.from c.args.line c.requires.cut
    c.args.work.now.found c.first_answer.new.work.found c.args.from.at _
    (sym c.requires.search.bad ∙ c.requires.good) refl c.requires.few
    (answered _ _ _ _ _ _ _ _ _ s.text.now c.args.from.at _ _ c.as_slice-wanted.ensures c.limits-options.ensures
    (c.in-Error.is ∙ ap told.Error (sym (to_z-of_z w32 c.in-Error.n fits))) refl
    c.in_ok-place.ensures.answer)
