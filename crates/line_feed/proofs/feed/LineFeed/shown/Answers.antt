use Rattle.std.proofs.Common.{◌≤◌, ◌<◌, length, take, sym, ap, ◌∙◌, arith, ⊎_elim}
use Rattle.std.proofs.lemmas.Bool.{cases_lt}
use Rattle.std.proofs.lemmas.List.{take_all}
use Rattle.line_feed.proofs.feed.LineFeed.shown.Goals as goal

pub returns : goal.returns
returns c =
    let held = c.held-held.result.now in
    let least = c.min.ensures in
    ⊎_elim (λ (many : 1024 < length held). ap (λ n. take n held) {x = c.min.result} {y = 1024} (omega arith))
    (λ (few : length held ≤ 1024). take_all c.min.result held (omega arith) ∙ sym (take_all 1024 held (omega arith)))
    (cases_lt 1024 (length held)) ∙ ap (λ l. take 1024 l) c.held-held.ensures
