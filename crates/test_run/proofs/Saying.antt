-- Lines about patterns and searches, as they are written piece by piece.
use Rattle.std.proofs.Common.{◌≡◌, ◌∙◌, ℕ, ◌<◌, List, [], ◌++◌, ℤ, codes, decimal, Option, sym, ap, arith}
use Rattle.std.proofs.Common.{append_assoc, append-nil}
use Rattle.std.proofs.lemmas.Bool.{lt-ltb}
use Rattle.std.specs.Fmt.{signed_decimal}
use Rattle.pcre2_errors.specs.FaultTexts.{fault_text}
use Rattle.test_modifiers.specs.declared.refusal.Refusal.TheVariants.{UnknownModifier, BadModifierValue}
use Rattle.tool_io.specs.Texts.{line, text_if}
use Rattle.test_lines.specs.Lines.{fault_line, error_line, place_text, groups_line, lookbehind_line, refusal_line}

pub fault-text : (number : ℤ) (at : ℕ) (code place text : List ℕ) → code ≡ signed_decimal number → place ≡ decimal at
    → text ≡ fault_text number
    → codes "Failed: error "
    ++ (code ++ (codes " at offset " ++ (place ++ (codes ": " ++ (text ++ (codes "\n" ++ [])))))) ≡ fault_line
    number at
fault-text number at code place text c p t =
    (λ i. codes "Failed: error "
    ++ (c i ++ (codes " at offset " ++ (p i ++ (codes ": " ++ (t i ++ (codes "\n" ++ [])))))))
    ∙ simp (append_assoc, append-nil)

pub error-text : (number : ℤ) (text : List ℕ) (at : Option ℕ) (code place : List ℕ) → code ≡ signed_decimal number
    → place ≡ place_text at
    → codes "Failed: error " ++ (code ++ (codes ": " ++ (text ++ (place ++ (codes "\n" ++ []))))) ≡ error_line number
    text at
error-text number text at code place c p =
    (λ i. codes "Failed: error " ++ (c i ++ (codes ": " ++ (text ++ (p i ++ (codes "\n" ++ []))))))
    ∙ simp (append_assoc, append-nil)

pub error-same : {m n : ℤ} {s t : List ℕ} {p q : Option ℕ} → m ≡ n → s ≡ t → p ≡ q → error_line m s p ≡ error_line n t q
error-same m s p = λ i. error_line (m i) (s i) (p i)

pub groups-text : (groups : ℕ) (count : List ℕ) → count ≡ decimal groups
    → codes "Capture group count = " ++ (count ++ (codes "\n" ++ [])) ≡ groups_line groups
groups-text groups count c = (λ i. codes "Capture group count = " ++ (c i ++ (codes "\n" ++ [])))
    ∙ simp (append_assoc, append-nil)

pub lookbehind-text : (most : ℕ) (count : List ℕ) → (most ≡ 0 → ⊥) → count ≡ decimal most
    → codes "Max lookbehind = " ++ (count ++ (codes "\n" ++ [])) ≡ lookbehind_line most
lookbehind-text most count some c =
    let more : 0 < most = omega arith in
    (λ i. codes "Max lookbehind = " ++ (c i ++ (codes "\n" ++ [])))
    ∙ sym (ap (λ t. text_if t (line (codes "Max lookbehind = " ++ decimal most))) (lt-ltb 0 most more))

pub modifier-text : (name bytes : List ℕ) → bytes ≡ name
    → codes "** unknown modifier " ++ (bytes ++ (codes "\n" ++ [])) ≡ refusal_line (UnknownModifier name)
modifier-text name bytes e = λ i. codes "** unknown modifier " ++ (e i ++ (codes "\n" ++ []))

pub value-text : (name bytes : List ℕ) → bytes ≡ name
    → codes "** bad modifier value " ++ (bytes ++ (codes "\n" ++ [])) ≡ refusal_line (BadModifierValue name)
value-text name bytes e = λ i. codes "** bad modifier value " ++ (e i ++ (codes "\n" ++ []))
