use Rattle.std.proofs.Common.{◌∙◌, length, ap, sym, arith, subst, ◌++◌, ◌+◌, take, reverse, get_or}
use Rattle.frame_store.specs.declared.records.Record.{Record}
use Rattle.frame_store.specs.Entry.{entries, entry_of}
use Rattle.frame_store.specs.Gains.{IsGathered}
use Rattle.frame_store.proofs.GainLemmas.{length-newer_gain, newer_step}
use Rattle.frame_store.proofs.gains.gather_newer.Goals as goal

-- what a read past the end would give
abbrev no_record : Record
no_record =
    record {
      kind = 0;
      slot = 0;
      node = 0;
      link = 0;
      mark = 0;
      passed = 0;
      units = 0;
      count = 0;
      place = 0;
      keep = 0;
      early = 0;
      from = 0;
      to = 0;
    }

pub records-preserved : goal.records-preserved
records-preserved c =
    let xs = c.args.records.now in
    let r = get_or xs c.records.i no_record in
    record {
      count = ap length c.take_newer.ensures ∙ length-newer_gain (entry_of r) c.records.values
          ∙ c.records.invariant.count;
      gathered = λ es h.
          subst (λ vs. IsGathered vs (entries (reverse (take (c.records.i + 1) xs)) ++ es)) (sym c.take_newer.ensures)
          (newer_step xs c.records.values es no_record c.records.i (omega arith) (c.records.invariant.gathered es h));
    }
