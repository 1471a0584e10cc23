use Rattle.std.proofs.Common.{sym, ◌∙◌}
use Rattle.ordered_search.proofs.StartPlaces.{crlf_stands}
use Rattle.match_starts.specs.Asked.{passed_over}
use Rattle.match_drive.proofs.places.next_place.Goals as goal

pub char_at-requires-clause-checked : goal.char_at-requires-clause-checked
char_at-requires-clause-checked g c =
    let x = c.args.on.now in
    rw (c.options.ensures, c.subject-else-passes_crlf.ensures) (g.met.S.Driven.subject_is x c.requires.fits).checked

pub char_at-requires-clause-place : goal.char_at-requires-clause-place
char_at-requires-clause-place g c = rw (c.options.ensures, c.subject-else-passes_crlf.ensures)
    (c.requires.at.within, c.requires.at.between)

pub returns-then-passes_crlf-clause-place : goal.returns-then-passes_crlf-clause-place
returns-then-passes_crlf-clause-place g c =
    let x = c.args.on.now in
    crlf_stands (g.S.Driven.asked x passed_over) (g.met.S.Driven.start_is x c.requires.fits).within
    (g.met.S.Driven.subject_is x c.requires.fits) c.args.at (sym c.passes_crlf.ensures ∙ c.if-passes_crlf.true)
