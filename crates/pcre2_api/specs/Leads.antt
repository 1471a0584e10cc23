-- The byte that every match begins with (pcre2api, "Information about a compiled pattern", PCRE2_INFO_FIRSTCODEUNIT).
use Rattle.std.specs.Prelude.{◌≡◌, ◌<◌, ◌==◌, ℕ, Bool, Option, Some, None}
use Rattle.match_items.specs.Views.{fold_in}
use Rattle.pat_check.specs.Known.{lead_set_of}
use Rattle.pcre2_api.specs.Compiled.{CodeParts}

-- of all bytes this one alone passes the test
abbrev pub IsAlone : (ℕ → Bool) → ℕ → Type 0
IsAlone test byte = (c : ℕ) → c < 256 → test c ≡ (c == byte)

-- the bytes are known, and are this one alone
abbrev pub AreAlone : Option (ℕ → Bool) → ℕ → Type 0
AreAlone None byte = ⊥
AreAlone (Some test) byte = IsAlone test byte

-- the bytes that every match begins with are known, and are this one alone
abbrev pub IsFirstByte : CodeParts → ℕ → Type 0
IsFirstByte code = AreAlone (lead_set_of code.tree (fold_in code.tree.options.utf))
