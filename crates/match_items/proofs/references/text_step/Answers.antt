use Rattle.std.proofs.Common.{◌≡◌, ◌∙◌, ℕ, ◌+◌, ◌∷◌, true, List, [], Option, None, drop, chars, refl, sym, ap, arith}
use Rattle.std.specs.Char.{len_utf8}
use Rattle.std.proofs.lemmas.Str.{IsCharBoundary-start, len_utf8_bounds}
use Rattle.match_items.specs.Items.{after_text, text_reaches}
use Rattle.match_items.specs.Views.{bare_text, told}
use Rattle.match_items.proofs.TextRefs.{char_len, chars_at, chars_past, agrees_text, after_agrees, reaches_agrees}
use Rattle.match_items.proofs.TextRefs.{after_differs, reaches_differs, after_whole, after_short, reaches_short}
use Rattle.match_items.proofs.references.text_step.Goals as goal

pub loop-compared-init : goal.loop-compared-init
loop-compared-init c = record {
  text = IsCharBoundary-start c.args.text.now c.requires.text;
  rest = IsCharBoundary-start c.args.rest.now c.requires.rest;
  after = let none : c.args.at ≡ c.args.at + 0 = omega arith in
      ap (after_text (bare_text c.args.view.now) c.args.caseless (chars c.args.text.now) (chars c.args.rest.now))
      none;
  reaches = refl;
}

pub loop-compared-smaller : goal.loop-compared-smaller
loop-compared-smaller c =
    let some = len_utf8_bounds c.char_at-a.result.0 in
    let next = char_len c.args.text.now c.loop-compared.compared c.char_at-a.result.0 c.char_at-a.result.1
    c.char_at-a.ensures.value in
    omega (arith, some.0, next, c.loop-compared-test.true)

pub returns-then-taken-rest : goal.returns-then-taken-rest
returns-then-taken-rest c =
    let g = bare_text c.args.view.now in
    let i = c.loop-compared.invariant in
    let xs = chars (drop c.char_at-a.result.1 c.args.text.now) in
    let a = c.char_at-a.result.0 in
    let text = chars_at c.args.text.now c.loop-compared.compared a c.char_at-a.result.1 c.requires.text i.text
    c.char_at-a.ensures.value c.char_at-a.ensures.span in
    let rest = chars_past c.args.rest.now c.loop-compared.taken (omega arith) in
    let ys = chars (drop c.loop-compared.taken c.args.rest.now) in
    let p = c.args.at + c.loop-compared.taken in
    let none : after_text g c.args.caseless (chars c.args.text.now) (chars c.args.rest.now) c.args.at ≡ None =
    i.after ∙ ap (λ (l : List ℕ). after_text g c.args.caseless l ys p) text
    ∙ ap (λ (l : List ℕ). after_text g c.args.caseless (a ∷ xs) l p) rest
    ∙ after_short g c.requires.utf c.args.caseless a xs p in
    let yes : text_reaches g c.args.caseless (chars c.args.text.now) (chars c.args.rest.now) ≡ true =
    i.reaches ∙ ap (λ (l : List ℕ). text_reaches g c.args.caseless l ys) text
    ∙ ap (λ (l : List ℕ). text_reaches g c.args.caseless (a ∷ xs) l) rest
    ∙ reaches_short g c.requires.utf c.args.caseless a xs in
    sym (ap (λ (o : Option ℕ). told o (text_reaches g c.args.caseless (chars c.args.text.now)
    (chars c.args.rest.now))) none ∙ ap (told None) yes)

pub returns-then-not-agrees : goal.returns-then-not-agrees
returns-then-not-agrees c =
    let g = bare_text c.args.view.now in
    let i = c.loop-compared.invariant in
    let a = c.char_at-a.result.0 in
    let b = c.char_at-b.result.0 in
    let xs = chars (drop c.char_at-a.result.1 c.args.text.now) in
    let zs = chars (drop c.char_at-b.result.1 c.args.rest.now) in
    let ys = chars (drop c.loop-compared.taken c.args.rest.now) in
    let p = c.args.at + c.loop-compared.taken in
    let text = chars_at c.args.text.now c.loop-compared.compared a c.char_at-a.result.1 c.requires.text i.text
    c.char_at-a.ensures.value c.char_at-a.ensures.span in
    let rest = chars_at c.args.rest.now c.loop-compared.taken b c.char_at-b.result.1 c.requires.rest i.rest
    c.char_at-b.ensures.value c.char_at-b.ensures.span in
    let differ = sym (agrees_text c.args.view.now [] true c.args.caseless a b c.requires.utf) ∙ sym c.agrees.ensures
    ∙ c.if-not-agrees.true in
    let none : after_text g c.args.caseless (chars c.args.text.now) (chars c.args.rest.now) c.args.at ≡ None =
    i.after ∙ ap (λ (l : List ℕ). after_text g c.args.caseless l ys p) text
    ∙ ap (λ (l : List ℕ). after_text g c.args.caseless (a ∷ xs) l p) rest
    ∙ after_differs g c.requires.utf c.args.caseless a b xs zs p differ in
    let no = i.reaches ∙ ap (λ (l : List ℕ). text_reaches g c.args.caseless l ys) text
    ∙ ap (λ (l : List ℕ). text_reaches g c.args.caseless (a ∷ xs) l) rest
    ∙ reaches_differs g c.requires.utf c.args.caseless a b xs zs differ in
    sym (ap (λ (o : Option ℕ). told o (text_reaches g c.args.caseless (chars c.args.text.now)
    (chars c.args.rest.now))) none ∙ ap (told None) no)

pub loop-compared-preserved : goal.loop-compared-preserved
loop-compared-preserved c =
    let g = bare_text c.args.view.now in
    let i = c.loop-compared.invariant in
    let a = c.char_at-a.result.0 in
    let b = c.char_at-b.result.0 in
    let xs = chars (drop c.char_at-a.result.1 c.args.text.now) in
    let zs = chars (drop c.char_at-b.result.1 c.args.rest.now) in
    let ys = chars (drop c.loop-compared.taken c.args.rest.now) in
    let p = c.args.at + c.loop-compared.taken in
    let text = chars_at c.args.text.now c.loop-compared.compared a c.char_at-a.result.1 c.requires.text i.text
    c.char_at-a.ensures.value c.char_at-a.ensures.span in
    let rest = chars_at c.args.rest.now c.loop-compared.taken b c.char_at-b.result.1 c.requires.rest i.rest
    c.char_at-b.ensures.value c.char_at-b.ensures.span in
    let agree = sym (agrees_text c.args.view.now [] true c.args.caseless a b c.requires.utf) ∙ sym c.agrees.ensures
    ∙ c.if-not-agrees.false in
    let next : p + len_utf8 b ≡ c.args.at + c.char_at-b.result.1 =
    omega (arith, char_len c.args.rest.now c.loop-compared.taken b c.char_at-b.result.1 c.char_at-b.ensures.value)
    in
    record {
      text = c.char_at-a.ensures.next.1 refl;
      rest = c.char_at-b.ensures.next.1 refl;
      after = i.after ∙ ap (λ (l : List ℕ). after_text g c.args.caseless l ys p) text
          ∙ ap (λ (l : List ℕ). after_text g c.args.caseless (a ∷ xs) l p) rest
          ∙ after_agrees g c.requires.utf c.args.caseless a b xs zs p agree
          ∙ ap (after_text g c.args.caseless xs zs) next;
      reaches = i.reaches ∙ ap (λ (l : List ℕ). text_reaches g c.args.caseless l ys) text
          ∙ ap (λ (l : List ℕ). text_reaches g c.args.caseless (a ∷ xs) l) rest
          ∙ reaches_agrees g c.requires.utf c.args.caseless a b xs zs agree;
    }

pub returns : goal.returns
returns c =
    let g = bare_text c.args.view.now in
    let i = c.loop-compared.invariant in
    let ys = chars (drop c.loop-compared.taken c.args.rest.now) in
    let p = c.args.at + c.loop-compared.taken in
    let text = chars_past c.args.text.now c.loop-compared.compared c.loop-compared-test.false in
    let whole = i.after ∙ ap (λ (l : List ℕ). after_text g c.args.caseless l ys p) text
    ∙ after_whole g c.requires.utf c.args.caseless ys p in
    sym (ap (λ (o : Option ℕ). told o (text_reaches g c.args.caseless (chars c.args.text.now)
    (chars c.args.rest.now))) whole)
