use Rattle.std.proofs.Common.{◌≡◌, ◌+◌, ◌<◌, List, All, Option, ◌∷◌, drop, take, length, flat_map, sym, ap, subst, ◌∙◌}
use Rattle.std.proofs.Common.{arith, rules, Err, ℕ}
use Rattle.std.proofs.lemmas.List.{drop_more, drop_all}
use Rattle.frame_store.specs.declared.registers.Span.{Span}
use Rattle.ordered_search.specs.Forward.{IsWithin}
use Rattle.ordered_search.specs.PlaceAnswer.{Outcome}
use Rattle.grep_multi.specs.grep_match.Found.{groups_of}
use Rattle.grep_multi.specs.grep_match.declared.found.Place.{Place}
use Rattle.grep_multi.specs.Blocks.{last_line, lines_before}
use Rattle.grep_multi.proofs.Cutting.{first-at}
use Rattle.tool_io.specs.Writes.{Writes}
use Rattle.tool_io.proofs.Writing.{left-all, left-more, left-refused, left-none}
use Rattle.grep_output.proofs.Parted.{match_at, no_match, count-listed, place-listed, match-listed, groups-listed}
use Rattle.grep_output.proofs.Parted.{groups-reach, groups-front, groups-rest, groups-within}
use Rattle.grep_blocks.specs.BlockText.{match_out, line_of, matches_out}
use Rattle.grep_blocks.proofs.Parting.{onward-first}
use Rattle.grep_blocks.proofs.parts.write_parts.Goals as goal

pub loop-i-init : goal.loop-i-init
loop-i-init g c = record {
  on = λ line lines is. onward-first c.args.job.now c.args.from line lines c.requires.start c.requires.some is;
  groups = λ os h. c.groups-groups.ensures ∙ h.groups;
  left = λ line lines os is h. left-all _ _;
}

pub split_at-requires : goal.split_at-requires
split_at-requires g c =
    let job = c.args.job.now in
    let wanted = job.search.plan.now.only_matching in
    let i = c.loop-i.i in
    let os = c.requires.listed.0 in
    let h = c.requires.listed.1 in
    let within : i < length c.args.found.now.places = omega arith in
    let parted = groups-listed wanted (length job.search.text.now) c.args.found.now os i c.loop-i.groups.now h
    within (c.loop-i.invariant.groups os h) in
    omega (
      arith,
      groups-reach wanted (match_at os i) (flat_map (groups_of wanted) (drop (i + 1) os))
          c.loop-i.groups.now parted,
    )

pub write_one-requires-clause-start : goal.write_one-requires-clause-start
write_one-requires-clause-start g c =
    let job = c.args.job.now in
    let first = first-at job.search.kind job.search.text.now c.args.from c.requires.some in
    let it = c.line_of-at.ensures first.0 first.1.0 first.1.1.0 in
    it.onward.start

pub write_one-requires-clause-ordered : goal.write_one-requires-clause-ordered
write_one-requires-clause-ordered g c =
    let job = c.args.job.now in
    let wanted = job.search.plan.now.only_matching in
    let os = c.requires.listed.0 in
    let h = c.requires.listed.1 in
    let within : c.loop-i.i < length c.args.found.now.places = omega arith in
    let placed = match-listed wanted (length job.search.text.now) c.args.found.now os c.loop-i.i h within in
    rw (place-listed wanted (length job.search.text.now) c.args.found.now os c.loop-i.i c.place-place.result h within
    c.place-place.ensures) placed.ordered

pub write_one-requires-clause-within : goal.write_one-requires-clause-within
write_one-requires-clause-within g c =
    let job = c.args.job.now in
    let wanted = job.search.plan.now.only_matching in
    let os = c.requires.listed.0 in
    let h = c.requires.listed.1 in
    let within : c.loop-i.i < length c.args.found.now.places = omega arith in
    let placed = match-listed wanted (length job.search.text.now) c.args.found.now os c.loop-i.i h within in
    rw (place-listed wanted (length job.search.text.now) c.args.found.now os c.loop-i.i c.place-place.result h within
    c.place-place.ensures) placed.within

pub write_one-requires-clause-groups : goal.write_one-requires-clause-groups
write_one-requires-clause-groups g c =
    let job = c.args.job.now in
    let wanted = job.search.plan.now.only_matching in
    let len = length job.search.text.now in
    let i = c.loop-i.i in
    let os = c.requires.listed.0 in
    let h = c.requires.listed.1 in
    let within : i < length c.args.found.now.places = omega arith in
    let parted = groups-listed wanted len c.args.found.now os i c.loop-i.groups.now h within
    (c.loop-i.invariant.groups os h) in
    let shown =
    c.split_at.ensures.front ∙ ap (λ n. take n c.loop-i.groups.now) c.len-width.ensures
    ∙ groups-front wanted (match_at os i) (flat_map (groups_of wanted) (drop (i + 1) os)) c.loop-i.groups.now
    parted in
    subst (λ (groups : List (Option Span)). All (IsWithin len) groups) (sym shown)
    (groups-within len (match_at os i) wanted (match-listed wanted len c.args.found.now os i h within))

pub returns-in_err-write_one : goal.returns-in_err-write_one
returns-in_err-write_one g c line lines os is h =
    let job = c.args.job.now in
    let plan = job.search.plan.now in
    let name = job.name.now in
    let bytes = job.search.text.now in
    let wanted = plan.only_matching in
    let len = length bytes in
    let i = c.loop-i.i in
    let text : Outcome → List ℕ = λ o. match_out plan name bytes plan.offsets (line_of plan name bytes line lines o) o in
    let within : i < length c.args.found.now.places = omega arith in
    let count = count-listed wanted len c.args.found.now os h in
    let inside : i < length os = omega arith in
    let parted = groups-listed wanted len c.args.found.now os i c.loop-i.groups.now h within
    (c.loop-i.invariant.groups os h) in
    let shown =
    c.split_at.ensures.front ∙ ap (λ n. take n c.loop-i.groups.now) c.len-width.ensures
    ∙ groups-front wanted (match_at os i) (flat_map (groups_of wanted) (drop (i + 1) os)) c.loop-i.groups.now
    parted in
    let placed = place-listed wanted len c.args.found.now os i c.place-place.result h within c.place-place.ensures in
    let keep = ap (λ (p : Place). p.keep) placed in
    let it = c.line_of-at.ensures line lines is in
    let fault = c.in_err-write_one.field-0.0 in
    let same : c.from_residual.result ≡ Err fault = search rules in
    subst (λ r. Writes (flat_map text os) (g.O.Sink.tells c.args.out.now) (g.O.Sink.tells c.write_one.new.out) r)
    (sym same)
    (left-refused {total = flat_map text os} {rest = flat_map text (drop i os)} (text (match_at os i))
    (flat_map text (drop (i + 1) os)) fault (c.loop-i.invariant.left line lines os is h)
    (ap (flat_map text) (drop_more os i no_match inside))
    (c.in_err-write_one.ensures (line_of plan name bytes line lines (match_at os i)) (match_at os i)
    (subst (λ k. (last_line line (lines_before (k + 1) lines)).number ≡ c.line_of-at.result.lines + 1) keep it.number)
    (subst (λ k. (last_line line (lines_before (k + 1) lines)).offset ≡ c.line_of-at.result.at) keep it.offset)
    placed shown))

pub loop-i-preserved : goal.loop-i-preserved
loop-i-preserved g c =
    let job = c.args.job.now in
    let plan = job.search.plan.now in
    let name = job.name.now in
    let bytes = job.search.text.now in
    let wanted = plan.only_matching in
    let len = length bytes in
    let i = c.loop-i.i in
    let within : i < length c.args.found.now.places = omega arith in
    record {
      on = λ line lines is. (let it = c.line_of-at.ensures line lines is in it.onward);
      groups = λ os h.
          (let rest = flat_map (groups_of wanted) (drop (i + 1) os) in
          let parted = groups-listed wanted len c.args.found.now os i c.loop-i.groups.now h within
          (c.loop-i.invariant.groups os h) in
          c.split_at.ensures.back ∙ ap (λ n. drop n c.loop-i.groups.now) c.len-width.ensures
          ∙ groups-rest wanted (match_at os i) rest c.loop-i.groups.now parted);
      left = λ line lines os is h.
          (let text : Outcome → List ℕ = λ o. match_out plan name bytes plan.offsets
          (line_of plan name bytes line lines o) o in
          let count = count-listed wanted len c.args.found.now os h in
          let inside : i < length os = omega arith in
          let parted = groups-listed wanted len c.args.found.now os i c.loop-i.groups.now h within
          (c.loop-i.invariant.groups os h) in
          let shown =
          c.split_at.ensures.front ∙ ap (λ n. take n c.loop-i.groups.now) c.len-width.ensures
          ∙ groups-front wanted (match_at os i) (flat_map (groups_of wanted) (drop (i + 1) os)) c.loop-i.groups.now
          parted in
          let placed = place-listed wanted len c.args.found.now os i c.place-place.result h within
          c.place-place.ensures in
          let keep = ap (λ (p : Place). p.keep) placed in
          let it = c.line_of-at.ensures line lines is in
          left-more {total = flat_map text os} {rest = flat_map text (drop i os)} (text (match_at os i))
          (flat_map text (drop (i + 1) os)) _ (c.loop-i.invariant.left line lines os is h)
          (ap (flat_map text) (drop_more os i no_match inside))
          (c.in_ok-write_one.ensures (line_of plan name bytes line lines (match_at os i)) (match_at os i)
          (subst (λ k. (last_line line (lines_before (k + 1) lines)).number ≡ c.line_of-at.result.lines + 1) keep
          it.number)
          (subst (λ k. (last_line line (lines_before (k + 1) lines)).offset ≡ c.line_of-at.result.at) keep it.offset)
          placed shown));
    }

pub returns : goal.returns
returns g c line lines os is h =
    let job = c.args.job.now in
    let plan = job.search.plan.now in
    let name = job.name.now in
    let bytes = job.search.text.now in
    let text : Outcome → List ℕ = λ o. match_out plan name bytes plan.offsets (line_of plan name bytes line lines o) o in
    let count = count-listed plan.only_matching (length bytes) c.args.found.now os h in
    left-none {total = flat_map text os} {rest = flat_map text (drop c.loop-i.i os)} _
    (c.loop-i.invariant.left line lines os is h)
    (ap (flat_map text) (drop_all c.loop-i.i os (omega arith)))
