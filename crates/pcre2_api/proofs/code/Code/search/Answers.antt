use Rattle.std.proofs.Common.{rules}
use Rattle.ordered_search.proofs.ForwardLaw.{forward_law}
use Rattle.pcre2_api.specs.Matched.{search_of}
use Rattle.pcre2_api.proofs.Starting.{begun-text, begun-place}
use Rattle.pcre2_api.proofs.code.Code.search.Goals as goal

pub returns-clause-plain : goal.returns-clause-plain
returns-clause-plain g c =
    forward_law (search_of c.args.self.now c.args.options.now c.args.subject.now c.args.start
    (g.C.Callouts.answers c.args.calls.now))
    (record { text = begun-text _ _ _ c.requires.begun c.requires.short; begun = begun-place _ _ _ c.requires.begun })

pub search_by-requires-clause-search : goal.search_by-requires-clause-search
search_by-requires-clause-search g c = search (rules, begun-text, begun-place)
