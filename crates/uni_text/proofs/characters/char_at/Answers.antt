use Rattle.uni_text.proofs.CharLemmas.{IsUtf8-from, char_at-stands}
use Rattle.uni_text.proofs.characters.char_at.Goals as goal

pub first_char-c-requires-clause-checked : goal.first_char-c-requires-clause-checked
first_char-c-requires-clause-checked c = IsUtf8-from c.args.bytes.now c.args.at
    (c.requires.checked c.if-not-utf.false) (c.requires.place.1 c.if-not-utf.false)

pub returns-clause-value : goal.returns-clause-value
returns-clause-value c =
    let utf = c.if-not-utf.false in
    rw utf (char_at-stands c.args.bytes.now c.args.at _ _ (c.requires.checked utf) (c.requires.place.1 utf)
    c.first_char-c.ensures.stands).0

pub returns-clause-next : goal.returns-clause-next
returns-clause-next c =
    let utf = c.if-not-utf.false in
    let next = (char_at-stands c.args.bytes.now c.args.at _ _ (c.requires.checked utf) (c.requires.place.1 utf)
    c.first_char-c.ensures.stands).1 in
    (next.0, λ _. next)
