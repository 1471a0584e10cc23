-- Lines, as they are written piece by piece.
use Rattle.std.proofs.Common.{◌≡◌, ◌∙◌, ℕ, List, [], ◌++◌, codes, decimal, Ok, Err, refl, append_assoc, append-nil}
use Rattle.pcre_io.specs.Told.{Kept}
use Rattle.pcre_io.specs.declared.traits.IoError.{IoError}
use Rattle.pcre_io.specs.declared.traits.IoError.TheVariants.{Memory}
use Rattle.tool_io.specs.Texts.{line}
use Rattle.tool_io.specs.Writes.{Writes}
use Rattle.tool_io.proofs.Printing.{prefix-none}
use Rattle.tool_io.proofs.Writing.{IsLeft, left-all, left-more, left-refused}
use Rattle.test_gen.specs.Texts.{made_text, pattern_text, ends_text, replaced_text, generated_text}

pub made-text : (number : ℕ) (count : List ℕ) → count ≡ decimal number
    → codes "lines: " ++ (count ++ (codes "\n" ++ [])) ≡ line (codes "lines: " ++ decimal number)
made-text number count c = (λ i. codes "lines: " ++ (c i ++ (codes "\n" ++ []))) ∙ simp (append_assoc, append-nil)

pub ends-text : (number : ℕ) (count : List ℕ) → count ≡ decimal number
    → codes "dfa: " ++ (count ++ (codes " ends\n" ++ [])) ≡ line (codes "dfa: " ++ decimal number ++ codes " ends")
ends-text number count c = (λ i. codes "dfa: " ++ (c i ++ (codes " ends\n" ++ []))) ∙ simp (append_assoc, append-nil)

pub replaced-text : (number : ℕ) (count : List ℕ) → count ≡ decimal number
    → codes "substitute: " ++ (count ++ (codes "\n" ++ [])) ≡ line (codes "substitute: " ++ decimal number)
replaced-text number count c = (λ i. codes "substitute: " ++ (c i ++ (codes "\n" ++ [])))
    ∙ simp (append_assoc, append-nil)

pub finds-text : (number lines characters : ℕ) (which matched long : List ℕ) → which ≡ decimal number
    → matched ≡ decimal lines → long ≡ decimal characters
    → codes "pattern "
    ++ (which ++ (codes ": " ++ (matched ++ (codes " lines, " ++ (long ++ (codes " characters\n" ++ []))))))
    ≡ line (codes "pattern " ++ decimal number ++ codes ": " ++ decimal lines ++ codes " lines, " ++ decimal
    characters ++ codes " characters")
finds-text number lines characters which matched long w m l =
    (λ i. codes "pattern "
    ++ (w i ++ (codes ": " ++ (m i ++ (codes " lines, " ++ (l i ++ (codes " characters\n" ++ [])))))))
    ∙ simp (append_assoc, append-nil)

-- memory lacked before anything was written
pub lacks : (text : List ℕ) (old : Kept) → Writes {T = Unit {0}} text old old (Err Memory)
lacks text old = record { all = tt; part = prefix-none old.held text; cause = refl }

-- What is left to write behind each line.
module _ (n : ℕ) where
  abbrev pub behind_ends : List ℕ
  behind_ends = replaced_text (codes "-") (codes "+") n

  abbrev pub behind_fourth : List ℕ
  behind_fourth = ends_text (codes "b+a?") n ++ behind_ends

  abbrev pub behind_third : List ℕ
  behind_third = pattern_text 4 (codes "(?>b*)a-") n ++ behind_fourth

  abbrev pub behind_second : List ℕ
  behind_second = pattern_text 3 (codes "(\\w)\\w*\\1") n ++ behind_third

  abbrev pub behind_first : List ℕ
  behind_first = pattern_text 2 (codes "(?<=-)b(?=a)") n ++ behind_second

  abbrev pub behind_made : List ℕ
  behind_made = pattern_text 1 (codes "b+a") n ++ behind_first

  pub begun : (old new : Kept) (u : Unit {0}) → Writes (made_text n) old new (Ok u)
      → IsLeft (generated_text n) behind_made old new
  unfolding generated_text
  begun old new u w = left-more (made_text n) behind_made u (left-all (generated_text n) old) refl w

  pub unbegun : (old new : Kept) (e : IoError) → Writes {T = Unit {0}} (made_text n) old new (Err e)
      → Writes {T = Unit {0}} (generated_text n) old new (Err e)
  unfolding generated_text
  unbegun old new e w = left-refused (made_text n) behind_made e (left-all (generated_text n) old) refl w
