use Rattle.frame_parts.proofs.PassTurns.{first_kid, leads}
use Rattle.frame_parts.proofs.passing.leading_need.Goals as goal

pub first_need-requires-clause-inside : goal.first_need-requires-clause-inside
first_need-requires-clause-inside g c = first_kid (g.S.Searchable.searched c.args.on.now)
    (g.met.S.Searchable.sound c.args.on.now) c.args.part _ c.requires.inside c.node.ensures _ c.in-Seq.is _
    c.as_slice.ensures c.in-len1-up.len_at_least

pub returns-in-len1-up : goal.returns-in-len1-up
returns-in-len1-up g c = leads (g.S.Searchable.searched c.args.on.now) (g.met.S.Searchable.sound c.args.on.now)
    c.args.part _ c.node.ensures _ c.in-Seq.is _ c.as_slice.ensures c.in-len1-up.len_at_least c.first_need.result
    c.first_need.ensures
