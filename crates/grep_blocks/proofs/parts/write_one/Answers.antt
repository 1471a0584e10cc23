use Rattle.std.proofs.Common.{◌≡◌, ◌≢◌, ◌∙◌, ◌-◌, refl, sym, ap, subst, rules}
use Rattle.line_feed.specs.Lines.{row_of}
use Rattle.line_feed.specs.Rows.{Row}
use Rattle.grep_args.specs.declared.plan.OffsetMode.TheVariants.{Lines}
use Rattle.grep_multi.specs.grep_match.declared.found.Place.{Place}
use Rattle.grep_output.specs.Texts.{match_text}
use Rattle.tool_io.proofs.Writing.{writes-same}
use Rattle.grep_blocks.specs.BlockText.{match_out, moved, text_row}
use Rattle.grep_blocks.proofs.Parting.{match-else}
use Rattle.grep_blocks.proofs.parts.write_one.Goals as goal

pub returns-then-eq : goal.returns-then-eq
returns-then-eq g c line o number offset place groups =
    let job = c.args.job.now in
    let plan = job.search.plan.now in
    let name = job.name.now in
    let text = job.search.text.now in
    let lines : plan.offsets ≡ Lines = search rules in
    let keep = c.saturating_sub.ensures
    ∙ (λ i. ap (λ (p : Place). p.keep) place i - sym offset i) in
    let to = c.saturating_sub-then-eq.ensures
    ∙ (λ i. ap (λ (p : Place). p.to) place i - sym offset i) in
    writes-same
    (ap (λ n. match_text plan name Lines (text_row plan name text n) (moved plan name text line.offset o)) (sym number)
    ∙ ap (λ m. match_out plan name text m line o) (sym lines))
    (c.write_in_line.ensures (moved plan name text line.offset o) (λ i. record { keep = keep i; to = to i }))

pub returns : goal.returns
returns g c line o number offset place groups =
    let job = c.args.job.now in
    let plan = job.search.plan.now in
    let name = job.name.now in
    let text = job.search.text.now in
    let other : plan.offsets ≢ Lines = λ is. (let e = rw is at c.if-eq.ensures in cc) in
    writes-same
    (ap (λ n. match_text plan name plan.offsets (text_row plan name text n) o) (sym number)
    ∙ match-else plan name text plan.offsets line o other)
    (c.write_match.ensures o place groups)
