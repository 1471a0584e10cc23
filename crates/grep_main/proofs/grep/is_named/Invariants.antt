use Rattle.std.proofs.Common.{◌≡◌, map, length, string_bytes, bytes_eq}
use Rattle.std.specs.List.{list_any}
use Rattle.grep_targets.specs.Paths.{word_path}
use Rattle.grep_main.proofs.grep.is_named.Given as goal

abbrev pub invariant-word : goal.invariant-word
invariant-word l =
    list_any (λ word. bytes_eq l.path (word_path word)) (map string_bytes l.rest) ≡ list_any
    (λ word. bytes_eq l.path (word_path word)) (map string_bytes l.words)

abbrev pub decreases-word : goal.decreases-word
decreases-word l = length l.rest
