use Rattle.std.proofs.lemmas.Str.{IsUtf8-take}
use Rattle.uni_text.proofs.CharLemmas.{IsUtf8-last, char_before-stands}
use Rattle.uni_text.proofs.characters.char_before.Goals as goal

pub last_len-requires-clause-checked : goal.last_len-requires-clause-checked
last_len-requires-clause-checked c = IsUtf8-take c.args.bytes.now c.args.at (c.requires.checked c.if-not-utf.false)
    (c.requires.place.1 c.if-not-utf.false)

pub first_char-c-requires-clause-checked : goal.first_char-c-requires-clause-checked
first_char-c-requires-clause-checked c = IsUtf8-last c.args.bytes.now c.args.at c.last_len.result c.requires.place.0
    c.last_len.ensures

pub returns-clause-value : goal.returns-clause-value
returns-clause-value c =
    let utf = c.if-not-utf.false in
    rw utf (char_before-stands c.args.bytes.now c.args.at _ _ _ (c.requires.checked utf) c.requires.place.0
    c.last_len.ensures c.first_char-c.ensures.scalar c.first_char-c.ensures.stands).0

pub returns-clause-span : goal.returns-clause-span
returns-clause-span c =
    let utf = c.if-not-utf.false in
    let before = char_before-stands c.args.bytes.now c.args.at _ _ _ (c.requires.checked utf) c.requires.place.0
    c.last_len.ensures c.first_char-c.ensures.scalar c.first_char-c.ensures.stands in
    record { stands = rw utf before.1; fits = c.requires.place.0; scalar = λ _. c.first_char-c.ensures.scalar }

pub returns-clause-previous : goal.returns-clause-previous
returns-clause-previous c =
    let utf = c.if-not-utf.false in
    let before = char_before-stands c.args.bytes.now c.args.at _ _ _ (c.requires.checked utf) c.requires.place.0
    c.last_len.ensures c.first_char-c.ensures.scalar c.first_char-c.ensures.stands in
    (before.2.0, λ _. before.2)
