use Rattle.std.proofs.Common.{◌≡◌, ◌+◌, ◌-◌, ◌≤◌, ◌∙◌, ℕ, List, length, take, drop, ap, sym, subst, arith}
use Rattle.std.specs.Str.{IsUtf8}
use Rattle.std.specs.Str.Lossy.{utf8_valid_len}
use Rattle.std.proofs.lemmas.Str.{utf8_valid_len-IsUtf8}
use Rattle.std.proofs.lemmas.List.{length-drop}
use Rattle.std.proofs.Math.Seq.{take-length}
use Rattle.c_door.specs.declared.runs.Run.{Run}
use Rattle.c_door.proofs.runs.run_from.Goals as goal

-- a text of which all is UTF-8 from a place on is so up to its end
up_to_end : (text : List ℕ) (from : ℕ) → from ≤ length text
    → IsUtf8 (take (length text - from) (drop from text)) → length text ≡ from + utf8_valid_len (drop from text)
up_to_end text from le utf8 =
    let all : take (length text - from) (drop from text) ≡ drop from text =
    ap (λ n. take n (drop from text)) (sym (length-drop from text)) ∙ take-length (drop from text) in
    let is : utf8_valid_len (drop from text) ≡ length (drop from text) =
    utf8_valid_len-IsUtf8 (drop from text) (subst IsUtf8 all utf8) in
    omega (arith, is, length-drop from text)

pub returns-in-Ok-clause-run : goal.returns-in-Ok-clause-run
returns-in-Ok-clause-run c =
    ap (λ (n : ℕ). let run : Run = record { from = c.args.from; to = n } in run)
    (up_to_end c.args.text.now c.args.from c.requires c.in-Ok.ensures.exact)
