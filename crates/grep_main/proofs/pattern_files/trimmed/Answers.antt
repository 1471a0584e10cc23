use Rattle.std.proofs.Common.{◌∙◌, sym}
use Rattle.grep_main.proofs.FilePatterns.{trimmed-white, trimmed-other}
use Rattle.grep_main.proofs.pattern_files.trimmed.Goals as goal

pub returns-then-not-is_white : goal.returns-then-not-is_white
returns-then-not-is_white c = trimmed-other c.byte.rest.now c.in-len1-up.len_at_least
    (sym c.is_white.ensures ∙ c.if-not-is_white.true) ∙ c.byte.invariant

pub byte-preserved : goal.byte-preserved
byte-preserved c = trimmed-white c.byte.rest.now c.in-len1-up.len_at_least
    (sym c.is_white.ensures ∙ c.if-not-is_white.false) ∙ c.byte.invariant
