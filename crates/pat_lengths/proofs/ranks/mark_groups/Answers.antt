use Rattle.std.proofs.Common.{◌∙◌, ◌<◌, ◌||◌, ap, arith, get_or, length}
use Rattle.pat_lengths.specs.Passing.{flagged, place_of}
use Rattle.pat_lengths.specs.Rings.{is_in_ring}
use Rattle.pat_lengths.proofs.RingLemmas.{marked_next}
use Rattle.pat_lengths.proofs.ranks.mark_groups.Goals as goal

pub loop-number-preserved : goal.loop-number-preserved
loop-number-preserved c =
    let i = c.loop-number.number-index in
    let within : i < length c.args.named.now = omega arith in
    let places = c.args.groups.now.places.items in
    let n = get_or c.args.named.now i 0 in
    let told = c.is_marked-marked.ensures
    ∙ ap (λ xs. flagged xs n || is_in_ring c.args.rings.now c.args.ring (place_of places n)) c.deref.ensures.value in
    marked_next c.args.rings.now places c.args.ring c.args.named.now i 0 c.args.back.now.items
    c.loop-number.back.items c.set_flag.new.flags.items within c.requires c.loop-number.invariant
    c.set_flag.ensures.size (λ l. c.set_flag.ensures.here l ∙ told) c.set_flag.ensures.others
