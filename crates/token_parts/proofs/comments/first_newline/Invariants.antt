use Rattle.std.proofs.Common.{◌≡◌}
use Rattle.token_parts.specs.Comments.{first_newline}
use Rattle.token_parts.proofs.comments.first_newline.Given as goal

abbrev pub invariant-loop-i : goal.invariant-loop-i
invariant-loop-i l = first_newline l.text l.flags l.i ≡ first_newline l.text l.flags l.from
