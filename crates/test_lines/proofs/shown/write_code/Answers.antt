use Rattle.std.proofs.Common.{[], ◌∷◌}
use Rattle.tool_io.proofs.Writing.{writes-same}
use Rattle.test_lines.proofs.shown.write_code.Goals as goal

pub returns : goal.returns
returns g c = writes-same (λ i. 92 ∷ 120 ∷ c.hex_digit-high.ensures i ∷ c.hex_digit-low.ensures i ∷ [])
    c.write_texts.ensures
