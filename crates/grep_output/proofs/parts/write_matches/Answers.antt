use Rattle.std.proofs.Common.{◌≡◌, ◌+◌, ◌<◌, List, All, Option, drop, take, length, flat_map, sym, ap, subst, ◌∙◌}
use Rattle.std.proofs.Common.{arith, rules, Err}
use Rattle.std.proofs.lemmas.List.{drop_more, drop_all}
use Rattle.frame_store.specs.declared.registers.Span.{Span}
use Rattle.ordered_search.specs.Forward.{IsWithin}
use Rattle.line_feed.specs.Lines.{row_of}
use Rattle.grep_match.specs.Found.{groups_of}
use Rattle.grep_output.specs.Texts.{match_text}
use Rattle.tool_io.specs.Writes.{Writes}
use Rattle.tool_io.proofs.Writing.{left-all, left-more, left-refused, left-none}
use Rattle.grep_output.proofs.Parted.{match_at, no_match, count-listed, place-listed, match-listed, groups-listed}
use Rattle.grep_output.proofs.Parted.{groups-reach, groups-front, groups-rest, groups-within}
use Rattle.grep_output.proofs.parts.write_matches.Goals as goal

pub loop-i-init : goal.loop-i-init
loop-i-init g c os h = (c.groups-groups.ensures ∙ h.groups, left-all _ _)

pub split_at-requires : goal.split_at-requires
split_at-requires g c =
    let wanted = c.args.plan.now.only_matching in
    let i = c.loop-i.i in
    let os = c.requires.listed.0 in
    let h = c.requires.listed.1 in
    let within : i < length c.args.found.now.places = omega arith in
    let parted = groups-listed wanted (length c.args.line.now.bytes.now) c.args.found.now os i c.loop-i.groups.now h
    within (c.loop-i.invariant os h).0 in
    omega (
      arith,
      groups-reach wanted (match_at os i) (flat_map (groups_of wanted) (drop (i + 1) os))
          c.loop-i.groups.now parted,
    )

pub write_match-requires-clause-ordered : goal.write_match-requires-clause-ordered
write_match-requires-clause-ordered g c =
    let os = c.requires.listed.0 in
    let h = c.requires.listed.1 in
    let within : c.loop-i.i < length c.args.found.now.places = omega arith in
    let placed = match-listed c.args.plan.now.only_matching (length c.args.line.now.bytes.now) c.args.found.now os
    c.loop-i.i h within in
    rw (place-listed c.args.plan.now.only_matching (length c.args.line.now.bytes.now) c.args.found.now os c.loop-i.i
    c.place.result h within c.place.ensures) placed.ordered

pub write_match-requires-clause-within : goal.write_match-requires-clause-within
write_match-requires-clause-within g c =
    let os = c.requires.listed.0 in
    let h = c.requires.listed.1 in
    let within : c.loop-i.i < length c.args.found.now.places = omega arith in
    let placed = match-listed c.args.plan.now.only_matching (length c.args.line.now.bytes.now) c.args.found.now os
    c.loop-i.i h within in
    rw (place-listed c.args.plan.now.only_matching (length c.args.line.now.bytes.now) c.args.found.now os c.loop-i.i
    c.place.result h within c.place.ensures) placed.within

pub write_match-requires-clause-groups : goal.write_match-requires-clause-groups
write_match-requires-clause-groups g c =
    let wanted = c.args.plan.now.only_matching in
    let len = length c.args.line.now.bytes.now in
    let i = c.loop-i.i in
    let os = c.requires.listed.0 in
    let h = c.requires.listed.1 in
    let within : i < length c.args.found.now.places = omega arith in
    let parted = groups-listed wanted len c.args.found.now os i c.loop-i.groups.now h within
    (c.loop-i.invariant os h).0 in
    let shown =
    c.split_at.ensures.front ∙ ap (λ n. take n c.loop-i.groups.now) c.len-width.ensures
    ∙ groups-front wanted (match_at os i) (flat_map (groups_of wanted) (drop (i + 1) os)) c.loop-i.groups.now
    parted in
    subst (λ (groups : List (Option Span)). All (IsWithin len) groups) (sym shown)
    (groups-within len (match_at os i) wanted (match-listed wanted len c.args.found.now os i h within))

pub returns-in_err-write_match : goal.returns-in_err-write_match
returns-in_err-write_match g c os h =
    let wanted = c.args.plan.now.only_matching in
    let len = length c.args.line.now.bytes.now in
    let i = c.loop-i.i in
    let text = match_text c.args.plan.now c.args.name.now c.args.plan.now.offsets (row_of c.args.line.now) in
    let within : i < length c.args.found.now.places = omega arith in
    let count = count-listed wanted len c.args.found.now os h in
    let inside : i < length os = omega arith in
    let parted = groups-listed wanted len c.args.found.now os i c.loop-i.groups.now h within
    (c.loop-i.invariant os h).0 in
    let shown =
    c.split_at.ensures.front ∙ ap (λ n. take n c.loop-i.groups.now) c.len-width.ensures
    ∙ groups-front wanted (match_at os i) (flat_map (groups_of wanted) (drop (i + 1) os)) c.loop-i.groups.now
    parted in
    let fault = c.in_err-write_match.field-0.0 in
    let same : c.from_residual.result ≡ Err fault = search rules in
    subst (λ r. Writes (flat_map text os) (g.O.Sink.tells c.args.out.now) (g.O.Sink.tells c.write_match.new.out) r)
    (sym same)
    (left-refused {total = flat_map text os} {rest = flat_map text (drop i os)} (text (match_at os i))
    (flat_map text (drop (i + 1) os)) fault (c.loop-i.invariant os h).1
    (ap (flat_map text) (drop_more os i no_match inside))
    (c.in_err-write_match.ensures (match_at os i)
    (place-listed wanted len c.args.found.now os i c.place.result h within c.place.ensures) shown))

pub loop-i-preserved : goal.loop-i-preserved
loop-i-preserved g c os h =
    let wanted = c.args.plan.now.only_matching in
    let len = length c.args.line.now.bytes.now in
    let i = c.loop-i.i in
    let text = match_text c.args.plan.now c.args.name.now c.args.plan.now.offsets (row_of c.args.line.now) in
    let within : i < length c.args.found.now.places = omega arith in
    let count = count-listed wanted len c.args.found.now os h in
    let inside : i < length os = omega arith in
    let rest = flat_map (groups_of wanted) (drop (i + 1) os) in
    let parted = groups-listed wanted len c.args.found.now os i c.loop-i.groups.now h within
    (c.loop-i.invariant os h).0 in
    let shown = c.split_at.ensures.front ∙ ap (λ n. take n c.loop-i.groups.now) c.len-width.ensures
    ∙ groups-front wanted (match_at os i) rest c.loop-i.groups.now parted in (
      c.split_at.ensures.back ∙ ap (λ n. drop n c.loop-i.groups.now) c.len-width.ensures
          ∙ groups-rest wanted (match_at os i) rest c.loop-i.groups.now parted,
      left-more {total = flat_map text os} {rest = flat_map text (drop i os)} (text (match_at os i))
          (flat_map text (drop (i + 1) os)) _ (c.loop-i.invariant os h).1
          (ap (flat_map text) (drop_more os i no_match inside))
          (c.in_ok-write_match.ensures (match_at os i)
          (place-listed wanted len c.args.found.now os i c.place.result h within c.place.ensures) shown),
    )

pub returns : goal.returns
returns g c os h =
    let text = match_text c.args.plan.now c.args.name.now c.args.plan.now.offsets (row_of c.args.line.now) in
    let count = count-listed c.args.plan.now.only_matching (length c.args.line.now.bytes.now) c.args.found.now os h in
    left-none {total = flat_map text os} {rest = flat_map text (drop c.loop-i.i os)} _ (c.loop-i.invariant os h).1
    (ap (flat_map text) (drop_all c.loop-i.i os (omega arith)))
