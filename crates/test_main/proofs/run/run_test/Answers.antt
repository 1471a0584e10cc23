use Rattle.std.proofs.Common.{◌∙◌, map, string_bytes, sym, subst}
use Rattle.tool_io.specs.Outcomes.{Runs}
use Rattle.tool_io.specs.Printed.{printed}
use Rattle.test_main.specs.Opens.{AreGiven}
use Rattle.test_main.specs.ToolText.{text_of}
use Rattle.test_main.proofs.Running.{runs-ran, runs-stopped, unless-stopped}
use Rattle.test_main.proofs.run.run_test.Goals as goal

pub returns-in-Ok-clause-text : goal.returns-in-Ok-clause-text
returns-in-Ok-clause-text g c =
    let r = c.in-Ok.ensures.runs in
    let given = r.2.0 in
    let text = text_of (map string_bytes c.args.words.now) given in
    let old = printed (g.O.Sink.tells c.args.out.now) (g.E.Sink.tells c.args.err.now) in
    let new = printed (g.O.Sink.tells c.run_words.new.out) (g.E.Sink.tells c.run_words.new.err) in
    (r.0, r.1, (given, r.2.1, runs-ran text c.in-Ok.status old new r.2.2, r.2.3, λ ran. r.2.4))

pub returns-in-Err-clause-text : goal.returns-in-Err-clause-text
returns-in-Err-clause-text g c =
    let r = c.in-Err.ensures.runs in
    let given = r.2.0 in
    let text = text_of (map string_bytes c.args.words.now) given in
    let old = printed (g.O.Sink.tells c.args.out.now) (g.E.Sink.tells c.args.err.now) in
    let new = printed (g.O.Sink.tells c.run_words.new.out) (g.E.Sink.tells c.run_words.new.err) in (
      r.0,
      r.1,
      (
        given,
        r.2.1,
        subst (λ s. Runs text s old new) (sym c.status_of.ensures)
            (runs-stopped text c.in-Err.e old new r.2.2),
        r.2.3,
        λ ran. unless-stopped c.in-Err.e (AreGiven g.F.Src.Source.tells
            (g.F.FileSet.tells c.args.files.now).contents given) r.2.4 (λ is. ran (c.status_of.ensures ∙ is)),
      ),
    )
