use Rattle.std.proofs.Common.{◌≡◌, ◌∙◌, ℕ, List, false, inl, inr, sym, ap, Some}
use Rattle.std.specs.Str.{IsUtf8, is_utf8}
use Rattle.std.proofs.lemmas.Bool.{cases_Bool}
use Rattle.std.proofs.lemmas.Str.{IsUtf8-from_is_utf8, is_utf8-from_IsUtf8}
use Rattle.grep_multi.proofs.Stepping.{bad-text, bad-some}
use Rattle.grep_multi.proofs.blocks.first_bad.Goals as goal

not-text : (bytes : List ℕ) → (IsUtf8 bytes → ⊥) → is_utf8 bytes ≡ false
not-text bytes refused = elim (cases_Bool (is_utf8 bytes)) [
  | inl on ↦ absurd (refused (IsUtf8-from_is_utf8 bytes on))
  | inr off ↦ off
]

pub returns-in-Ok : goal.returns-in-Ok
returns-in-Ok c =
    sym (bad-text c.args.plan.now c.args.text.now (is_utf8-from_IsUtf8 c.args.text.now c.in-Ok.ensures.exact))

pub returns-in-Err : goal.returns-in-Err
returns-in-Err c =
    ap Some c.in-Err.ensures.place
    ∙ sym (bad-some c.args.plan.now c.args.text.now c.if-not-plan.false
    (not-text c.args.text.now c.in-Err.ensures.exact))
