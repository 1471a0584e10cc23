use Rattle.std.proofs.Common.{rules, ◌≡◌, ℕ, false, List, map, string_bytes, Result, Ok, Err, sym, subst}
use Rattle.pcre_io.specs.Told.{Told, Kept}
use Rattle.pcre_io.specs.Files.{Filed}
use Rattle.grep_args.specs.declared.plan.GrepPlan.{GrepPlan}
use Rattle.grep_output.specs.declared.ended.Stop.{Stop}
use Rattle.grep_output.specs.declared.ended.Stop.TheVariants.{Memory}
use Rattle.grep_main.specs.Adds.{AddsAllFrom}
use Rattle.grep_main.specs.Stages.{SearchesBy, Streams, streams}
use Rattle.grep_main.proofs.Asking.{by-lacks, by-unread, by-stopped, by-search}
use Rattle.tool_io.specs.Printed.{printed}
use Rattle.grep_main.proofs.grep.grep_by_plan.Goals as goal

pub returns-in_err-texts-clause-runs : goal.returns-in_err-texts-clause-runs
returns-in_err-texts-clause-runs g c =
    let same : c.from_residual.result ≡ Err Memory = search rules in
    let words = map string_bytes c.args.words.now in
    let files = g.F.FileSet.tells c.args.files.now in
    let now = g.S.Source.tells c.args.input.now in
    let out = g.O.Sink.tells c.args.out.now in
    let err = g.E.Sink.tells c.args.err.now in
    subst (SearchesBy c.args.plan words (streams files now (printed out err)) (streams files now (printed out err)))
    (sym same) (by-lacks c.args.plan words files now out err)

pub returns-in_err-add_files-clause-runs : goal.returns-in_err-add_files-clause-runs
returns-in_err-add_files-clause-runs g c =
    let stop = c.in_err-add_files.field-0.0 in
    let same : c.from_residual-in_err-add_files.result ≡ Err stop = search rules in
    let words = map string_bytes c.args.words.now in
    let files = g.F.FileSet.tells c.args.files.now in
    let files_new = g.F.FileSet.tells c.add_files.new.files in
    let now = g.S.Source.tells c.args.input.now in
    let after = g.S.Source.tells c.add_files.new.input in
    let out = g.O.Sink.tells c.args.out.now in
    let err_old = g.E.Sink.tells c.args.err.now in
    let err_new = g.E.Sink.tells c.add_files.new.err in
    subst (SearchesBy c.args.plan words (streams files now (printed out err_old))
    (streams files_new after (printed out err_new))) (sym same)
    (by-stopped c.args.plan words files files_new now after c.in_ok-texts.texts c.add_files.new.texts
    c.add_files.new.is_used out err_old err_new stop c.in_err-add_files.ensures.unused
    c.in_err-add_files.ensures.adds)

pub returns-then-not-branch-clause-runs : goal.returns-then-not-branch-clause-runs
returns-then-not-branch-clause-runs g c =
    let files = g.F.FileSet.tells c.args.files.now in
    let now = g.S.Source.tells c.args.input.now in
    let after = g.S.Source.tells c.add_files.new.input in
    let err_old = g.E.Sink.tells c.args.err.now in
    let err_new = g.E.Sink.tells c.add_files.new.err in
    by-unread c.args.plan (map string_bytes c.args.words.now) files (g.F.FileSet.tells c.add_files.new.files) now
    after c.in_ok-texts.texts c.add_files.new.texts c.add_files.new.is_used (g.O.Sink.tells c.args.out.now)
    err_old err_new c.in_ok-add_files.ensures.unused
    (subst (λ all. AddsAllFrom c.args.plan files.contents files.faults
    (g.F.FileSet.tells c.add_files.new.files).faults false c.add_files.new.is_used now after
    c.in_ok-texts.texts c.add_files.new.texts err_old err_new (Ok all)) c.if-not-branch.true
    c.in_ok-add_files.ensures.adds)

-- what is said of streams by what they tell is said of them where they are given back
module _ {F S O E : Type 0} (set : F → Filed) (source : S → Told) (sink : O → Kept) (told : E → Kept)
    (plan : GrepPlan) (words : List (List ℕ)) (old : Streams) (result : Result ℕ Stop) where
  abbrev Ends : F → S → O → E → Type 0
  Ends files input out err = SearchesBy plan words old
      (streams (set files) (source input) (printed (sink out) (told err))) result

  given-back : (files : F) (input : S) (out : O) (err : E) → Ends files input out err
      → {files_end : F} {input_end : S} {out_end : O} {err_end : E}
      → files_end ≡ files → input_end ≡ input → out_end ≡ out → err_end ≡ err → Ends files_end input_end out_end err_end
  given-back files input out err h {files_end} {input_end} {out_end} {err_end} same_files same_input same_out same_err =
      subst (λ x. Ends x input_end out_end err_end) (sym same_files)
      (subst (λ x. Ends files x out_end err_end) (sym same_input)
      (subst (λ x. Ends files input x err_end) (sym same_out) (subst (Ends files input out) (sym same_err) h)))

pub returns-clause-runs : goal.returns-clause-runs
returns-clause-runs g c =
    let words = map string_bytes c.args.words.now in
    let files = g.F.FileSet.tells c.args.files.now in
    let ends = c.grep_by_texts.new.io in
    let now = g.S.Source.tells c.args.input.now in
    let mid = g.S.Source.tells c.add_files.new.input in
    let out = g.O.Sink.tells c.args.out.now in
    let err_old = g.E.Sink.tells c.args.err.now in
    let err_mid = g.E.Sink.tells c.add_files.new.err in
    given-back g.F.FileSet.tells g.S.Source.tells g.O.Sink.tells g.E.Sink.tells c.args.plan words
    (streams files now (printed out err_old)) c.grep_by_texts.result ends.files.now ends.input.now ends.out.now
    ends.err.now
    (by-search c.args.plan words files (g.F.FileSet.tells ends.files.now) now (g.S.Source.tells ends.input.now)
    (g.F.FileSet.tells c.add_files.new.files) mid c.in_ok-texts.texts c.add_files.new.texts
    c.add_files.new.is_used
    out err_old err_mid (printed (g.O.Sink.tells ends.out.now) (g.E.Sink.tells ends.err.now)) c.grep_by_texts.result
    c.in_ok-texts.ensures.ok
    c.in_ok-add_files.ensures.files c.in_ok-add_files.ensures.later c.grep_by_texts.ensures.later
    c.in_ok-add_files.ensures.unused
    (subst (λ all. AddsAllFrom c.args.plan files.contents files.faults
    (g.F.FileSet.tells c.add_files.new.files).faults false c.add_files.new.is_used now mid c.in_ok-texts.texts
    c.add_files.new.texts err_old err_mid (Ok all)) c.if-not-branch.false c.in_ok-add_files.ensures.adds)
    c.grep_by_texts.ensures.runs)
    (search rules) (search rules) (search rules) (search rules)
