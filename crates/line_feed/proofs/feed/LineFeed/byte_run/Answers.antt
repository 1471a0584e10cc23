use Rattle.std.proofs.Common.{◌≡◌, ◌<◌, ◌∙◌, ◌-◌, eqb, take, count_by, get_or, ap, sym, subst, arith}
use Rattle.line_feed.specs.Passes.{HasRun}
use Rattle.line_feed.proofs.Passing.{sound-view, run-byte}
use Rattle.line_feed.proofs.feed.LineFeed.byte_run.Goals as goal

pub returns : goal.returns
returns c =
    let f = c.args.self.now in
    let byte = c.args.byte in
    let n = c.behind_byte-bytes.result in
    let held = c.held-held.ensures in
    let max = ap (λ v. v.max) c.self.view_is in
    let within = c.behind_byte-bytes.ensures.within in
    let long = c.requires.held in
    let least = c.min.ensures in
    let room = c.min-room.ensures in
    let some : 0 < n = omega arith in
    let last : get_or f.held (n - 1) 0 ≡ byte = subst (λ l. get_or l (n - 1) 0 ≡ byte) held
    (c.behind_byte-bytes.ensures.last some) in
    let count : c.count_byte.result ≡ count_by (λ b. eqb b byte) (take n f.held) = c.count_byte.ensures
    ∙ ap (λ l. count_by (λ b. eqb b byte) (take n l)) held in
    let all = eqb c.min-room.result c.args.most in
    let run = run-byte byte f n c.args.most c.args.longest all c.requires.each
    (sound-view c.self.inside f c.self.invariant c.self.view_is c.requires.live) some (omega arith) (omega arith)
    (omega arith) (omega arith) last in
    subst (λ m. HasRun f c.args.most c.args.longest (record { bytes = n; rows = m; is_all = all })) (sym count) run
