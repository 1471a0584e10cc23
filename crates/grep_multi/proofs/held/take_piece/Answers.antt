use Rattle.std.proofs.Common.{◌≡◌, ◌∙◌, ◌+◌, ◌++◌, ◌≤◌, [], length, take, sym, ap, subst, refl, arith}
use Rattle.std.proofs.Common.{append-nil, length-append, length-take-le}
use Rattle.std.proofs.lemmas.Grind.{common_steps}
use Rattle.line_feed.specs.Steps.{StopFell}
use Rattle.line_feed.proofs.Splices.{spliced}
use Rattle.line_feed.proofs.Stops.{StopFell-reached, StopsAfter-reached, Consumes-keeps}
use Rattle.grep_multi.specs.declared.held.Came.TheVariants as came
use Rattle.grep_multi.proofs.Taking.{fell, spliced-none}
use Rattle.grep_multi.proofs.held.take_piece.Goals as goal

pub returns-else-n-eq0 : goal.returns-else-n-eq0
returns-else-n-eq0 g c =
    let k = c.len-filled.result in
    let n = c.in-Ok.n in
    let made = c.in_ok-make_room.ensures in
    let shown = c.deref_mut.result.now in
    let old = c.args.bytes.now.items in
    let long : length shown ≡ k + 65536 = omega (arith, made.len, ap length c.deref_mut.ensures.value) in
    let kept : take k shown ≡ old = grind (arith, common_steps) in
    let fits : n ≤ length c.read.new.buf = c.in-Ok.ensures.bound.0 in
    let room : length c.read.new.buf ≡ 65536 = omega (arith, long) in
    let fresh = take n c.read.new.buf in
    let all : c.truncate.new.self.items ≡ old ++ fresh =
    c.truncate.ensures.items
    ∙ spliced k n c.make_room.new.bytes.len (take k shown) c.read.new.buf _ _
    (length-take-le k shown (omega (arith, long))) fits (omega (arith, made.len, room, fits))
    ∙ ap (λ l. l ++ fresh) kept in
    let many = length-take-le n c.read.new.buf fits in
    let total = ap length all in
    let sum = length-append old fresh in
    record {
      takes = record {
        taken = fresh;
        all = all;
        left = c.in-Ok.ensures.bytes.0;
        stop = subst (StopFell (g.S.Source.tells c.args.source.now).stop (g.S.Source.tells c.read.new.self).stop)
            (sym many) (fell _ _ n _ c.in-Ok.ensures.stop);
        met = (c.in-Ok.ensures.cause, omega (arith, total, sum, many, fits, room, c.requires));
      };
      room = omega (arith, total, sum, many, fits, room);
      more = λ _. omega (arith, total, sum, many);
      none = λ other. absurd (other refl);
    }

pub returns-in-Err : goal.returns-in-Err
returns-in-Err g c =
    let k = c.len-filled.result in
    let made = c.in_ok-make_room.ensures in
    let shown = c.deref_mut.result.now in
    let old = c.args.bytes.now.items in
    let long : length shown ≡ k + 65536 = omega (arith, made.len, ap length c.deref_mut.ensures.value) in
    let kept : take k shown ≡ old = grind (arith, common_steps) in
    let same : c.truncate-in-Err.new.self.items ≡ old =
    c.truncate-in-Err.ensures.items
    ∙ spliced-none k c.make_room.new.bytes.len (take k shown) c.read.new.buf _ _
    (length-take-le k shown (omega (arith, long))) (omega (arith, made.len))
    ∙ kept in
    let total = ap length same in
    record {
      takes = record {
        taken = [];
        all = same ∙ sym (append-nil old);
        left = Consumes-keeps _ _ c.in-Err.ensures.bytes;
        stop = StopFell-reached _ _ _ c.in-Err.ensures.stop;
        met = (
          c.in-Err.ensures.cause,
          omega (arith, total, c.requires),
          StopsAfter-reached _ _ _ (omega (arith, long)) c.in-Err.ensures.stop,
        );
      };
      room = omega (arith, total);
      more = λ e. absurd (let d : came.Failed ≡ came.More = e in cc);
      none = λ _. same;
    }
