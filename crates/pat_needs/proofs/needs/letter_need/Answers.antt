use Rattle.std.proofs.Common.{◌≡◌, ◌∙◌, ℕ, ◌<◌, ◌≤◌, ◌||◌, ◌==◌, Bool, true, false, ap, arith}
use Rattle.std.proofs.lemmas.Bool.Decides.{nat_tests}
use Rattle.byte_lanes.specs.Sets.{has_byte}
use Rattle.uni_text.specs.Ascii.{ascii_fold}
use Rattle.pat_needs.specs.Needs.{may_begin}
use Rattle.pat_needs.proofs.LetterLemmas.{two_cases, or_byte, kelvin_past, long_s_past, past_both, rare_serves}
use Rattle.pat_needs.proofs.needs.letter_need.Goals as goal

pub returns-in-75-clause-takes : goal.returns-in-75-clause-takes
returns-in-75-clause-takes c =
    let low : c.args.c < 128 = grind (arith, nat_tests) in
    let is : ascii_fold c.args.c ≡ 107 = grind (arith, nat_tests) in
    rare_serves c.with_byte.result c.cased.result c.cased.ensures.bytes
    (λ bytes. (b : ℕ) → b < 256 → may_begin true c.args.c b ≡ true → has_byte bytes b ≡ true)
    (λ b small h. c.with_byte.ensures b ∙ ap (λ (x : Bool). x || b == 0xE2) (c.both_cases.ensures b small)
    ∙ or_byte c.args.c b 0xE2 low (kelvin_past c.args.c b low is) h)

pub returns-in-83-clause-takes : goal.returns-in-83-clause-takes
returns-in-83-clause-takes c =
    let low : c.args.c < 128 = grind (arith, nat_tests) in
    let is : ascii_fold c.args.c ≡ 115 = grind (arith, nat_tests) in
    rare_serves c.with_byte-in-83.result c.cased-in-83.result c.cased-in-83.ensures.bytes
    (λ bytes. (b : ℕ) → b < 256 → may_begin true c.args.c b ≡ true → has_byte bytes b ≡ true)
    (λ b small h. c.with_byte-in-83.ensures b ∙ ap (λ (x : Bool). x || b == 0xC5) (c.both_cases-in-83.ensures b small)
    ∙ or_byte c.args.c b 0xC5 low (long_s_past c.args.c b low is) h)

pub returns-in-0-to-127-clause-takes : goal.returns-in-0-to-127-clause-takes
returns-in-0-to-127-clause-takes c =
    let low : c.args.c < 128 = grind (arith, nat_tests) in
    let alone : (ascii_fold c.args.c == 107 || ascii_fold c.args.c == 115) ≡ false = grind (arith, nat_tests) in
    rare_serves c.both_cases-in-0-to-127.result c.cased-in-0-to-127.result c.cased-in-0-to-127.ensures.bytes
    (λ bytes. (b : ℕ) → b < 256 → may_begin true c.args.c b ≡ true → has_byte bytes b ≡ true)
    (λ b small h. c.both_cases-in-0-to-127.ensures b small ∙ two_cases c.args.c b low alone h)

pub returns-in_default-clause-takes : goal.returns-in_default-clause-takes
returns-in_default-clause-takes c b small h =
    let past : 128 ≤ c.args.c = grind (arith, nat_tests) in
    let alone : (c.args.c == 0x212A || c.args.c == 0x17F) ≡ false = grind (arith, nat_tests) in
    c.past_ascii.ensures.bytes b (past_both c.args.c b past alone h) small
