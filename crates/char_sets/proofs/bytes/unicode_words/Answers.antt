use Rattle.std.proofs.Common.{◌||◌, ◌==◌, ap, ◌∙◌}
use Rattle.std.specs.Int.{is_in_range}
use Rattle.char_sets.proofs.UnicodeBytes.{word_is}
use Rattle.char_sets.proofs.bytes.unicode_words.Goals as goal

pub returns : goal.returns
returns c k l =
    c.add_range-6.ensures k
    ∙ ap (λ x. x || is_in_range 0xF8 0xFF k) (c.add_range-5.ensures k)
    ∙ ap (λ x. (x || is_in_range 0xD8 0xF6 k) || is_in_range 0xF8 0xFF k) (c.add_range-4.ensures k)
    ∙ ap (λ x. ((x || is_in_range 0xC0 0xD6 k) || is_in_range 0xD8 0xF6 k) || is_in_range 0xF8 0xFF k)
    (c.add_range-3.ensures k)
    ∙ ap (λ x. (((x || is_in_range 0xBC 0xBE k) || is_in_range 0xC0 0xD6 k) || is_in_range 0xD8 0xF6 k) || is_in_range
    0xF8 0xFF k) (c.add_range-2.ensures k)
    ∙ ap (λ x. ((((x || is_in_range 0xB9 0xBA k) || is_in_range 0xBC 0xBE k) || is_in_range 0xC0 0xD6 k)
    || is_in_range 0xD8 0xF6 k) || is_in_range 0xF8 0xFF k)
    (c.insert-2.ensures k)
    ∙ ap (λ x. (((((x || k == 0xB5) || is_in_range 0xB9 0xBA k) || is_in_range 0xBC 0xBE k) || is_in_range 0xC0 0xD6
    k) || is_in_range 0xD8 0xF6 k) || is_in_range 0xF8 0xFF k)
    (c.add_range.ensures k)
    ∙ ap (λ x. ((((((x || is_in_range 0xB2 0xB3 k) || k == 0xB5) || is_in_range 0xB9 0xBA k) || is_in_range 0xBC 0xBE
    k) || is_in_range 0xC0 0xD6 k) || is_in_range 0xD8 0xF6 k) || is_in_range 0xF8 0xFF k)
    (c.insert.ensures k)
    ∙ ap (λ x. (((((((x || k == 0xAA) || is_in_range 0xB2 0xB3 k) || k == 0xB5) || is_in_range 0xB9 0xBA k)
    || is_in_range 0xBC 0xBE k) || is_in_range 0xC0 0xD6 k) || is_in_range 0xD8 0xF6 k)
    || is_in_range 0xF8 0xFF k) (c.word_bytes-bytes.ensures k)
    ∙ word_is k l
