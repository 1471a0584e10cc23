use Rattle.std.proofs.Common.{◌≡◌, map, string_bytes, length}
use Rattle.test_main.specs.Words.{words_from, words_of}
use Rattle.test_main.proofs.words.read_words.Given as goal

abbrev pub invariant-word : goal.invariant-word
invariant-word l = words_from l.turn (map string_bytes l.rest) ≡ words_of (map string_bytes l.words)

abbrev pub decreases-word : goal.decreases-word
decreases-word l = length l.rest
