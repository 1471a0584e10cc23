-- What is refused, and what a call that reads may answer.
use Rattle.std.specs.Prelude.{◌≡◌, ⊤, Option, Some, None, Result, Ok, Err}
use Rattle.test_modifiers.specs.declared.refusal.Refusal.{Refusal}
use Rattle.test_modifiers.specs.declared.refusal.ListError.{ListError}
use Rattle.test_modifiers.specs.declared.refusal.ListError.TheVariants.{Refused, Memory}

-- what is read, or why it is refused
abbrev pub Reads : Type 0 → Type 0
Reads A = Result A Refusal

infixl 10 ◌>>=◌
-- what follows a success
abbrev pub ◌>>=◌ : {A B E : Type 0} → Result A E → (A → Result B E) → Result B E
Ok found >>= rest = rest found
Err fault >>= rest = Err fault

-- what there is, else a refusal
abbrev pub or_refused : {A : Type 0} → Option A → Refusal → Reads A
or_refused (Some found) refusal = Ok found
or_refused None refusal = Err refusal

-- what a call answers at a refusal, where it doesn't want memory
abbrev pub Refuses : {A : Type 0} → Reads A → ListError → Type 0
Refuses read (Refused refusal) = read ≡ Err refusal
Refuses read Memory = ⊤
