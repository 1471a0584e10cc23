-- What a subject comes to that is searched and neither replaced nor looked at for all ends.
use Rattle.std.proofs.Common.{◌≡◌, ◌∙◌, Bool, false, List, ℕ, Option, Some, None, sym, ap}
use Rattle.std.specs.Prelude.{if◌then◌else◌}
use Rattle.pat_tree.specs.Pattern.{Pattern}
use Rattle.pat_tree.specs.declared.names.NameEntry.{NameEntry}
use Rattle.test_modifiers.specs.declared.modifiers.Modifiers.{Modifiers}
use Rattle.test_script.specs.declared.entries.SubjectEntry.{SubjectEntry}
use Rattle.test_run.specs.declared.options.How.{How}
use Rattle.test_run.specs.Asked.{is_dfa, how_of, subst_of, replacement_of}
use Rattle.test_run.specs.Courses.{rewritten, found_by_dfa, tested_text}
use Rattle.test_run.specs.Matches.{searched}

module _ (pattern : List ℕ) (p : Pattern) (names : List NameEntry) (m : Modifiers) (s : SubjectEntry) where
  -- by what is asked for
  abbrev tested-by : Bool → Option (List ℕ) → List ℕ
  tested-by dfa replacement =
      if dfa then found_by_dfa p s.subject (how_of s.modifiers m) replacement
      else elim replacement [
        | Some text ↦ rewritten p names s.subject (how_of s.modifiers m) (subst_of s.modifiers m) text
        | None ↦ searched pattern p (how_of s.modifiers m) s.subject
      ]

  pub searched-is : (subject : List ℕ) (how : How) → subject ≡ s.subject → how ≡ how_of s.modifiers m
      → is_dfa s.modifiers m ≡ false → replacement_of s.modifiers m ≡ None →
      searched pattern p how subject ≡ tested_text pattern p names m s
  searched-is subject how same is no_ends none =
      ap (λ l. searched pattern p how l) same ∙ ap (λ (h : How). searched pattern p h s.subject) is
      ∙ sym (ap (λ b. tested-by b (replacement_of s.modifiers m)) no_ends ∙ ap (tested-by false) none)
