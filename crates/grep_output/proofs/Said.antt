-- The texts of messages, as they are written piece by piece.
use Rattle.std.proofs.Common.{◌≡◌, ◌≢◌, ℕ, zero, suc, Bool, true, false, List, [], ◌++◌, ℤ, codes, decimal, nat_lt}
use Rattle.std.proofs.Common.{Err, refl, sym, ap, ◌∙◌, arith, append_assoc, append-nil}
use borrow.Author.Tests.{lt-ltb}
use Rattle.std.specs.Fmt.{signed_decimal}
use Rattle.grep_args.specs.declared.plan.GrepPlan.{GrepPlan}
use Rattle.grep_match.specs.declared.modes.Mode.{Mode}
use Rattle.grep_match.specs.Matches.{Tried}
use Rattle.grep_output.specs.Messages.{message_on, line_said, error_message}
use Rattle.grep_output.specs.InputText.{end_out}

pub message-text : (name n text : List ℕ) → n ≡ name
    → codes "pcre2grep: " ++ (n ++ (codes ": " ++ (text ++ (codes "\n" ++ [])))) ≡ message_on name text
message-text name n text e = ap (λ m. codes "pcre2grep: " ++ (m ++ (codes ": " ++ (text ++ (codes "\n" ++ []))))) e
    ∙ simp (append_assoc, append-nil)

pub too-long-text : (name n : List ℕ) (number : ℕ) (digits : List ℕ) → n ≡ name → digits ≡ decimal number
    → codes "pcre2grep: " ++ (n ++ (codes ": line " ++ (digits ++ (codes " is too long\n" ++ [])))) ≡ message_on name
    (line_said number (codes " is too long"))
too-long-text name n number digits e d =
    ap (λ m. codes "pcre2grep: " ++ (m ++ (codes ": line " ++ (digits ++ (codes " is too long\n" ++ []))))) e
    ∙ ap (λ m. codes "pcre2grep: " ++ (name ++ (codes ": line " ++ (m ++ (codes " is too long\n" ++ []))))) d
    ∙ simp (append_assoc, append-nil)

error-of : (name n : List ℕ) (number : ℕ) (error : ℤ) (digits code : List ℕ) → n ≡ name → digits ≡ decimal number
    → code ≡ signed_decimal error
    → codes "pcre2grep: " ++ (n ++ (codes ": line " ++ (digits ++ (codes ": error " ++ (code ++ (codes "\n" ++ []))))))
    ≡ message_on name (line_said number (codes ": error " ++ signed_decimal error))
error-of name n number error digits code e d s =
    ap (λ m. codes "pcre2grep: "
    ++ (m ++ (codes ": line " ++ (digits ++ (codes ": error " ++ (code ++ (codes "\n" ++ []))))))) e
    ∙ ap (λ m. codes "pcre2grep: "
    ++ (name ++ (codes ": line " ++ (m ++ (codes ": error " ++ (code ++ (codes "\n" ++ []))))))) d
    ∙ ap (λ m. codes "pcre2grep: "
    ++ (name ++ (codes ": line " ++ (decimal number ++ (codes ": error " ++ (m ++ (codes "\n" ++ []))))))) s
    ∙ simp (append_assoc, append-nil)

message-of : (name : List ℕ) (t : Tried) (error : ℤ) → t.matches ≡ Err error
    → message_on name (line_said t.row.number (codes ": error " ++ signed_decimal error)) ≡ error_message name t
message-of name t error e = rw e refl

pub error-text : (name n : List ℕ) (t : Tried) (number : ℕ) (error : ℤ) (digits code : List ℕ) → n ≡ name
    → digits ≡ decimal number → code ≡ signed_decimal error
    → t.row.number ≡ number → t.matches ≡ Err error
    → codes "pcre2grep: "
    ++ (n ++ (codes ": line " ++ (digits ++ (codes ": error " ++ (code ++ (codes "\n" ++ [])))))) ≡ error_message
    name t
error-text name n t number error digits code e d s at is =
    error-of name n t.row.number error digits code e (d ∙ ap decimal (sym at)) s ∙ message-of name t error is

pub binary-told : (plan : GrepPlan) (name n : List ℕ) (mode : Mode) (is_told : Bool) (selected : ℕ) → n ≡ name
    → is_told ≡ true → selected ≢ 0
    → codes "Binary file " ++ (n ++ (codes " matches\n" ++ [])) ≡ end_out plan name mode is_told selected
binary-told plan name n mode true zero e t s = absurd (s refl)
binary-told plan name n mode true (suc k) e t s =
    let some : nat_lt 0 (suc k) ≡ true = lt-ltb 0 (suc k) (omega arith) in
    ap (λ m. codes "Binary file " ++ (m ++ (codes " matches\n" ++ []))) e ∙ simp (some, append_assoc, append-nil)
binary-told plan name n mode false selected e t s = absurd cc
