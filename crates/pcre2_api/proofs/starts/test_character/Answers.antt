use Rattle.std.proofs.Common.{◌∙◌, ◌&&◌, ap, sym}
use Rattle.std.specs.Prelude.{slice_index}
use Rattle.match_drive.specs.frame_board.Standing.{is_inside}
use Rattle.pcre2_api.proofs.Starting.{stands-inside, stands}
use Rattle.pcre2_api.proofs.starts.test_character.Goals as goal
use Rattle.pcre2_api.proofs.starts.test_character.Goals.{else-utf-via-then-utf+else-stands_inside}
use Rattle.pcre2_api.proofs.starts.test_character.Goals.{else-utf-via-else-utf}

pub returns-then-stands_inside-clause-refused : goal.returns-then-stands_inside-clause-refused
returns-then-stands_inside-clause-refused c =
    let at = slice_index c.args.subject.now c.args.start in
    stands-inside c.args.utf c.args.subject.now c.args.start c.requires.within c.requires.checked
    (ap (λ b. b && is_inside at) c.if-utf.true ∙ sym c.stands_inside.ensures ∙ c.if-stands_inside.true)

pub returns-clause-ok : goal.returns-clause-ok
returns-clause-ok c =
    let at = slice_index c.args.subject.now c.args.start in
    stands c.args.utf c.args.subject.now c.args.start c.requires.within c.requires.checked
    (elim c.else-utf.branch [
      | else-utf-via-then-utf+else-stands_inside w ↦
          ap (λ b. b && is_inside at) w.if-utf.true ∙ sym w.stands_inside.ensures ∙ w.if-stands_inside.false
      | else-utf-via-else-utf w ↦ ap (λ b. b && is_inside at) w.if-utf.false
    ])
