-- Subjects of bytes, which can be looked at as they are.
use Rattle.std.proofs.Common.{◌≡◌, ◌∙◌, ℕ, ◌<◌, ◌≤◌, true, false, List, length, sym}
use Rattle.pat_tree.specs.declared.options.Options.{Options}
use Rattle.match_items.specs.Subjects.{IsText, IsTextPlace}

pub byte_text : (options : Options) (bytes : List ℕ) → options.utf ≡ false → length bytes < 4294967295
    → IsText options bytes
byte_text options bytes no_utf short = record {
  short = short;
  checked = λ utf. absurd (let no : true ≡ false = sym utf ∙ no_utf in cc);
}

pub byte_place : (options : Options) (bytes : List ℕ) (p : ℕ) → options.utf ≡ false → p ≤ length bytes
    → IsTextPlace options bytes p
byte_place options bytes p no_utf within = record {
  within = within;
  between = λ utf. absurd (let no : true ≡ false = sym utf ∙ no_utf in cc);
}
