-- Messages, as they are written piece by piece.
use Rattle.std.proofs.Common.{◌≡◌, ◌∙◌, ℕ, List, [], ◌++◌, codes, decimal, sym, ap, append_assoc}
use Rattle.tool_io.specs.Texts.{line}
use Rattle.test_main.specs.ToolText.{message_on}

pub message-text : (name text bytes : List ℕ) → bytes ≡ name
    → codes "pcre2test: " ++ (bytes ++ (codes ": " ++ (text ++ (codes "\n" ++ [])))) ≡ line (message_on name text)
message-text name text bytes e =
    (λ i. codes "pcre2test: " ++ (e i ++ (codes ": " ++ (text ++ (codes "\n" ++ [])))))
    ∙ sym (ap (λ l. codes "pcre2test: " ++ l) (append_assoc name (codes ": " ++ text) (codes "\n")))

pub too-long-text : (name bytes : List ℕ) (number : ℕ) (count : List ℕ) → bytes ≡ name → count ≡ decimal number
    → codes "pcre2test: " ++ (bytes ++ (codes ": line " ++ (count ++ (codes " is too long\n" ++ [])))) ≡ line
    (message_on name (codes "line " ++ (decimal number ++ codes " is too long")))
too-long-text name bytes number count e c =
    (λ i. codes "pcre2test: " ++ (e i ++ (codes ": line " ++ (c i ++ (codes " is too long\n" ++ [])))))
    ∙ sym (ap (λ l. codes "pcre2test: " ++ l)
    (append_assoc name (codes ": line " ++ (decimal number ++ codes " is too long")) (codes "\n")
    ∙ ap (λ l. name ++ (codes ": line " ++ l))
    (append_assoc (decimal number) (codes " is too long") (codes "\n"))))
