use Rattle.std.proofs.Common.{rules, ◌≡◌, Ok, Err, refl, subst, sym}
use Rattle.line_feed.specs.declared.phase.FeedError.TheVariants as feed
use Rattle.line_feed.specs.Lines.{row_of}
use Rattle.grep_output.specs.declared.ended.Ended.TheVariants.{TooLong}
use Rattle.grep_output.specs.declared.ended.Stop.TheVariants.{Memory}
use Rattle.grep_main.specs.Adds.{AddsLines}
use Rattle.grep_main.proofs.FilePatterns.{adding-none, adding-more, adds-end, adds-refused, adds-stopped}
use Rattle.grep_main.proofs.pattern_files.add_lines.Goals as goal

pub line-init : goal.line-init
line-init g c =
    let new = c.new-feed.ensures in
    adding-none c.args.max (g.S.Source.tells c.args.source.now) c.new-feed.result c.args.texts.now new.kind new.max
    new.held new.number new.offset new.phase

pub line-preserved : goal.line-preserved
line-preserved g c =
    let gives = rw (c.in-Ok-Some.is, c.in-Ok-Some.field-0-is) at c.next.follows.holds-at-none in
    adding-more _ _ _ _ _ _ _ _ c.line.invariant (row_of c.in-Ok-Some.line) c.add_line.new.texts gives
    c.in_ok-add_line-in-Ok-Some.ensures.ok

pub returns-in_err-add_line-in-Ok-Some : goal.returns-in_err-add_line-in-Ok-Some
returns-in_err-add_line-in-Ok-Some g c =
    let gives = rw (c.in-Ok-Some.is, c.in-Ok-Some.field-0-is) at c.next.follows.holds-at-none in
    let same : c.from_residual.result ≡ Err Memory = search rules in
    subst (AddsLines c.args.max (g.S.Source.tells c.args.source.now) (g.S.Source.tells c.next.new.source)
    c.args.texts.now c.add_line.new.texts) (sym same)
    (adds-stopped _ _ _ _ _ _ _ _ c.line.invariant (row_of c.in-Ok-Some.line) c.add_line.new.texts Memory gives refl)

pub returns-in-Ok-None : goal.returns-in-Ok-None
returns-in-Ok-None g c = adds-end _ _ _ _ _ _ _ _ c.line.invariant
    (rw (c.in-Ok-None.is, c.in-Ok-None.field-0-is) at c.next.follows.holds-at-none)

pub returns-in-Err-ReadFault : goal.returns-in-Err-ReadFault
returns-in-Err-ReadFault g c =
    adds-refused _ _ _ _ _ _ _ _ c.line.invariant feed.ReadFault
    (rw (c.in-Err-ReadFault.is, c.in-Err-ReadFault.field-0-is) at c.next.follows.holds-at-none)

pub returns-in-Err-TooMuch : goal.returns-in-Err-TooMuch
returns-in-Err-TooMuch g c = adds-refused _ _ _ _ _ _ _ _ c.line.invariant feed.TooMuch
    (rw (c.in-Err-TooMuch.is, c.in-Err-TooMuch.field-0-is) at c.next.follows.holds-at-none)

pub returns-in-Err-TooLong : goal.returns-in-Err-TooLong
returns-in-Err-TooLong g c =
    let refuses = rw (c.in-Err-TooLong.is, c.in-Err-TooLong.field-0-is) at c.next.follows.holds-at-none in
    subst (λ n. AddsLines c.args.max (g.S.Source.tells c.args.source.now) (g.S.Source.tells c.next.new.source)
    c.args.texts.now c.line.texts (Ok (TooLong n))) (sym c.in-Err-TooLong.line-is)
    (adds-refused _ _ _ _ _ _ _ _ c.line.invariant (feed.TooLong c.in-Err-TooLong.line) refuses)

pub returns-in-Err-Memory : goal.returns-in-Err-Memory
returns-in-Err-Memory g c = adds-refused _ _ _ _ _ _ _ _ c.line.invariant feed.Memory
    (rw (c.in-Err-Memory.is, c.in-Err-Memory.field-0-is) at c.next.follows.holds-at-none)
