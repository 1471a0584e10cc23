-- What the scan of a text counts, and what it leaves.
use Rattle.std.proofs.Common.{◌≡◌, ◌≢◌, ◌∙◌, ℕ, ◌+◌, Bool, true, false, ◌&&◌, ◌||◌, List, [], length, Result, Ok, Err}
use Rattle.std.proofs.Common.{refl, sym, ap, subst, arith}
use Rattle.std.specs.Prelude.{nat_lt}
use Rattle.line_feed.specs.Rows.{Row, Finish}
use Rattle.grep_output.specs.declared.ended.Ended.{Ended}
use Rattle.grep_output.specs.declared.ended.Ended.TheVariants as told
use Rattle.grep_output.specs.declared.ended.FileEnd.{FileEnd}
use Rattle.grep_output.specs.declared.ended.Stop.{Stop}
use Rattle.grep_output.specs.declared.ended.Stop.TheVariants.{SinkFault, TooManyErrors, Memory}
use Rattle.grep_output.specs.declared.shows.Show.{Show}
use Rattle.grep_output.specs.declared.shows.Show.TheVariants as show
use Rattle.grep_output.specs.declared.shows.Treatment.{Treatment}
use Rattle.grep_output.specs.declared.shows.Treatment.TheVariants.{AsText, AsBinary, Skipped}
use Rattle.grep_output.specs.declared.state.State.{State}
use Rattle.grep_output.specs.Course.{is_lines}
use Rattle.grep_output.specs.Scans.{early}
use Rattle.tool_io.specs.Prints.{Wrote}
use Rattle.tool_io.specs.Printed.{Printed}
use Rattle.tool_io.proofs.Printing.{wrote-none}
use Rattle.grep_blocks.specs.declared.job.Job.{Job}
use Rattle.grep_blocks.specs.declared.job.Course.{Course}
use Rattle.grep_blocks.specs.BlockScan.{BlockScan, scan_done, selected_in, errors_in}
use Rattle.grep_blocks.specs.BlockText.{rest_out}
use Rattle.grep_blocks.specs.Steps.{all_rows}
use Rattle.grep_blocks.specs.Scanned.{CountsTo, ScansTo, begun_at, out_at, scan_at, scan_by, state_after}
use Rattle.grep_blocks.proofs.Scanning.{out-end}

module _ (job : Job) (s : BlockScan) (old : State) (new : Course) (before after : Printed) where
  -- what is left where so many were counted
  abbrev pub left_state : State
  left_state = record {
    errors = new.errors;
    total = old.total + new.selected;
    has_shown = old.has_shown || is_lines job.show && nat_lt 0 new.selected;
  }

  state-is : new.selected ≡ 0 + length (selected_in job.search.plan.now s)
      → new.errors ≡ old.errors + length (errors_in s) → left_state ≡ state_after job old s
  state-is selected errors =
      let n : new.selected ≡ length (selected_in job.search.plan.now s) = omega (arith, selected) in
      λ i. record {
        errors = errors i;
        total = old.total + n i;
        has_shown = old.has_shown || is_lines job.show && nat_lt 0 (n i);
      }

  pub counts-ended : (ended : Ended) → ScansTo job s (begun_at old.errors) new before after (Ok ended)
      → CountsTo job s old left_state before after (Ok (record { selected = new.selected; ended = ended }))
  counts-ended ended h = (
    record { wrote = h.0.wrote; state = state-is h.0.selected h.0.errors },
    (let n = h.0.selected in omega (arith, n)),
    h.1,
  )

  pub counts-stopped : (stop : Stop) → ScansTo job s (begun_at old.errors) new before after (Err stop)
      → CountsTo job s old left_state before after (Err stop)
  counts-stopped TooManyErrors h = (
    record { wrote = h.0.wrote; state = state-is h.0.selected h.0.errors },
    h.1,
  )
  counts-stopped SinkFault h = h
  counts-stopped Memory h = h

-- one that isn't scanned
module _ (job : Job) (s : State) (p : Printed) where
  nothing-out : (shows : Show) → rest_out job.search.plan.now job.name.now job.search.text.now (all_rows job)
      job.has_shown shows true [] ≡ []
  nothing-out show.Lines = refl
  nothing-out show.Parts = refl
  nothing-out show.Nothing = refl

  or-none : (b c : Bool) → b ≡ (b || (c && false))
  or-none true c = refl
  or-none false true = refl
  or-none false false = refl

  pub counts-none : CountsTo job (scan_done early) s s p p (Ok (record { selected = 0; ended = told.Early }))
  counts-none = (
    record {
      wrote = subst (λ l. Wrote l [] p p)
          (sym (out-end job.search.plan.now job.name.now job.search.text.now (all_rows job) job.has_shown job.show []
          true [] ∙ nothing-out job.show))
          (wrote-none p);
      state =
          (let e : s.errors ≡ s.errors + 0 = omega arith in
          let t : s.total ≡ s.total + 0 = omega arith in
          λ i. record {
            errors = e i;
            total = t i;
            has_shown = or-none s.has_shown (is_lines job.show) i;
          });
    },
    refl,
    refl,
  )

pub counts-skipped : (job : Job) (finish : Finish) (s : State) (p : Printed) (treated : Treatment) → treated ≡ Skipped
    → CountsTo job (scan_by job finish treated s) s s p p (Ok (record { selected = 0; ended = told.Early }))
counts-skipped job finish s p treated is =
    subst (λ t. CountsTo job (scan_by job finish t s) s s p p (Ok (record { selected = 0; ended = told.Early })))
    (sym is) (counts-none job s p)

pub scan-by : (job : Job) (finish : Finish) (s : State) (treated : Treatment) → treated ≢ Skipped
    → scan_at job finish (begun_at s.errors) ≡ scan_by job finish treated s
scan-by job finish s AsText other = refl
scan-by job finish s AsBinary other = refl
scan-by job finish s Skipped other = absurd (other refl)
