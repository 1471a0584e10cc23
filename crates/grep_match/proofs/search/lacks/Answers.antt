use Rattle.byte_lanes.proofs.lemmas.NewlineLemmas.{rest_whole}
use Rattle.grep_match.proofs.Spelling.{nowhere}
use Rattle.grep_match.proofs.search.lacks.Goals as goal

pub returns-in-None : goal.returns-in-None
returns-in-None c = λ _.
    nowhere c.args.line.now _ c.args.text.now c.args.start c.requires (rest_whole c.args.line.now c.args.start)
    c.in-None.ensures
