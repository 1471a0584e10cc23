use Rattle.std.proofs.Common.{rules, ◌≡◌, ◌≤◌, ◌∙◌, eqb, min, slice_range, count_by, ap, sym, subst, arith, length-drop}
use Rattle.byte_lanes.specs.declared.line_end.EndKind.TheVariants.{Lf}
use Rattle.line_feed.specs.Passes.{HasRun, LeavesLines, skipped}
use Rattle.line_feed.proofs.Passing.{Passes-more}
use Rattle.line_feed.proofs.feed.LineFeed.pass_but.Goals as goal

pub returns : goal.returns
returns c =
    let f = c.args.self.now in
    let run = c.in_ok-run.run' in
    let most = c.before_lines-most.result in
    let has : HasRun f most c.args.within run = c.in_ok-run.ensures in
    let max = ap (λ v. v.max) c.self.view_is in
    let room = c.min-room.ensures in
    let fits = has.within in
    let long = c.requires.held in
    let shorter = length-drop run.bytes f.held in
    let kind : f.kind ≡ Lf = search rules in
    let low : most ≤ c.args.within = search rules in
    let count : c.count_byte.result ≡ count_by (λ b. eqb b 10) (slice_range f.held run.bytes c.min-room.result) =
    c.count_byte.ensures ∙ ap (λ l. count_by (λ b. eqb b 10) (slice_range l run.bytes c.min-room.result))
    c.held-2.ensures in
    let many : c.args.lines ≤ count_by (λ b. eqb b 10) (slice_range f.held run.bytes c.min-room.result) = let enough =
    c.if-count_byte-lines.false in omega arith in
    let left : c.min-room.result ≡ min c.args.within f.max = omega arith in
    subst (λ g. LeavesLines f g c.args.within c.args.lines run.bytes) (sym c.skip.ensures)
    (record {
      passes = Passes-more f (skipped f run.bytes run.rows) most c.args.within c.args.within c.args.within run.bytes
          low (omega arith) has.passes;
      holds = record {
        kind = kind;
        held = omega arith;
        room = omega arith;
        many = subst (λ n. c.args.lines ≤ count_by (λ b. eqb b 10) (slice_range f.held run.bytes n)) left many;
      };
    })
