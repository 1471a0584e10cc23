use Rattle.std.proofs.Common.{◌≡◌, ◌+◌, ◌-◌, ℕ, length, inl, inr, ap, arith}
use Rattle.match_items.specs.Items.{places_back}
use Rattle.match_items.specs.Views.{bare_text}
use Rattle.frame_board.proofs.RoomBack.{no_room, more_room}
use Rattle.frame_board.proofs.counted.room_before.Goals as goal

pub characters-preserved : goal.characters-preserved
characters-preserved c =
    let g = bare_text c.args.view.now in
    let n : ℕ = c.args.most - (c.characters.room + 1) in
    let left : ℕ = c.args.most - c.characters.room in
    let more = more_room g n left c.characters.place (omega (arith, c.characters-test.true))
    (omega (arith, c.if-place-gt0.true)) in
    let same = ap (λ p. length (places_back g n p)) c.text_before-place.ensures.value in
    record {
      few = omega (arith, c.characters-test.true);
      place = c.text_before-place.ensures.place;
      back = omega (arith, c.characters.invariant.back, more, same);
    }

pub returns-else-place-gt0 : goal.returns-else-place-gt0
returns-else-place-gt0 c =
    let g = bare_text c.args.view.now in
    let one = no_room g (c.args.most - c.characters.room) c.characters.place
    (inr (omega (arith, c.if-place-gt0.false))) in
    omega (arith, c.characters.invariant.back, one)

pub returns-after-characters : goal.returns-after-characters
returns-after-characters c =
    let g = bare_text c.args.view.now in
    let one = no_room g (c.args.most - c.characters.room) c.characters.place
    (inl (omega (arith, c.characters-test.false))) in
    omega (arith, c.characters.invariant.back, one)
