use Rattle.std.proofs.Common.{◌≡◌, ◌-◌, ◌∷◌, [], length, map, take, drop, string_bytes, ap, ◌∙◌, arith}
use Rattle.grep_targets.specs.Filters.{filter_in}
use Rattle.grep_targets.specs.Targets.{word_targets}
use Rattle.grep_targets.specs.Stands.{AreOfWord}
use Rattle.grep_targets.proofs.Standing.{first-word, leads-end, leads-on, none-left}
use Rattle.grep_targets.proofs.Walking.{causes_then, words-on}
use Rattle.grep_targets.proofs.words.take_words.Goals as goal

pub returns-in_default-clause-stands : goal.returns-in_default-clause-stands
returns-in_default-clause-stands g c =
    leads-end (AreOfWord c.args.recursive (filter_in c.args.filter.now)) (map string_bytes c.args.words.now)
    (map string_bytes c.word.rest.now) c.word.told
    (ap (map string_bytes) (none-left c.word.rest.now c.in_default.len_below)) c.word.invariant.leads

pub word-preserved : goal.word-preserved
word-preserved g c =
    let filter = filter_in c.args.filter.now in
    let words = map string_bytes c.args.words.now in
    let rest = c.word.rest.now in
    let w = c.word-item.result in
    let after = map string_bytes (take (length rest - 1) (drop 1 rest)) in
    let split : map string_bytes rest ≡ string_bytes w ∷ after =
    first-word string_bytes rest w c.in-len1-up.len_at_least c.word-item.is in
    let so_far = c.word.invariant in
    let taken = c.in_ok-take_word.ensures in
    record {
      told = words-on (g.F.FileSet.tells c.args.files.now).contents (g.F.FileSet.tells c.word.files).contents
          (λ set. word_targets filter set c.args.recursive) words after (string_bytes w) c.word.told
          c.take_word.new.told so_far.same
          (rw split at so_far.told) (rw c.as_str.ensures.value at taken.grows);
      leads = leads-on (AreOfWord c.args.recursive filter) words after (string_bytes w) c.word.told
          c.take_word.new.told (rw split at so_far.leads) (rw c.as_str.ensures.value at taken.stands);
      causes = causes_then [] c.word.told c.take_word.new.told _ _ _ so_far.later taken.later so_far.causes
          taken.causes;
      same = taken.same ∙ so_far.same;
      later = (let a = so_far.later in let b = taken.later in omega (arith, a, b));
    }
