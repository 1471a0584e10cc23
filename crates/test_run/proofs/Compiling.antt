-- What is written of a pattern, by what it is compiled to.
use Rattle.std.proofs.Common.{◌≡◌, ◌∙◌, ℕ, Bool, List, ℤ, Result, Ok, Err, sym, ap, subst}
use Rattle.pat_tree.specs.declared.options.Options.{Options}
use Rattle.pat_tree.specs.Pattern.{Pattern, pattern_of}
use Rattle.token_parts.specs.declared.fault.Fault.{Fault}
use Rattle.tool_io.specs.Texts.{text_if}
use Rattle.test_script.specs.declared.entries.PatternEntry.{PatternEntry}
use Rattle.pcre2_errors.specs.declared.error.CompileError.{CompileError}
use Rattle.pcre2_errors.specs.declared.error.CompileError.TheVariants.{Bad}
use Rattle.pcre2_api.specs.Compiled.{IsCompileError}
use Rattle.pcre2_api.specs.Patterns.{compiled}
use Rattle.pcre2_api.specs.Informs.{info_in}
use Rattle.test_run.specs.Asked.{is_on, options_of}
use Rattle.test_lines.specs.Lines.{fault_line, info_text}
use Rattle.pat_build.specs.Reading.{Parsed, read}
use Rattle.pat_build.specs.Nodes.{parsed_of}
use Rattle.pat_tree.specs.Parts.{TreeParts}
use Rattle.test_run.specs.Courses.{tests, names_of, course_by, pattern_course, told_of, pattern_text}

module _ (entry : PatternEntry) (options : Options) (text : List ℕ) (asked : options ≡ options_of entry.modifiers)
    (given : text ≡ entry.pattern) where
  compiled-so : (r : Result Pattern Fault) → compiled options text ≡ r
      → compiled (options_of entry.modifiers) entry.pattern ≡ r
  compiled-so r is = sym (λ i. compiled (asked i) (given i)) ∙ is

  text-is : (r : Result Pattern Fault) → compiled options text ≡ r → told_of entry.modifiers r ≡ pattern_text entry
  text-is r is = sym (ap (told_of entry.modifiers) (compiled-so r is))

  -- it is compiled
  pub text-told : (p : Pattern) (is_asked : Bool) → compiled options text ≡ Ok p
      → is_asked ≡ is_on entry.modifiers.info → text_if is_asked (info_text (info_in p)) ≡ pattern_text entry
  text-told p is_asked is same = ap (λ t. text_if t (info_text (info_in p))) same ∙ text-is (Ok p) is

  -- it is refused
  pub text-fault : (e : CompileError) (number : ℤ) (at : ℕ) → e ≡ Bad number at
      → IsCompileError (compiled options text) e → fault_line number at ≡ pattern_text entry
  text-fault e number at named is =
      text-is (Err (record { number = number; at = at })) (subst (IsCompileError (compiled options text)) named is)

  read-so : (r : Result Parsed Fault) → read options text ≡ r → read (options_of entry.modifiers) entry.pattern ≡ r
  read-so r is = sym (λ i. read (asked i) (given i)) ∙ is

  -- its subject lines are searched for it
  pub course-told : (t : TreeParts) → read options text ≡ Ok (parsed_of t) → compiled options text ≡ Ok (pattern_of t)
      → tests entry.pattern (pattern_of t) t.names entry.modifiers ≡ pattern_course entry
  course-told t is compiles =
      let reads = read-so (Ok (parsed_of t)) is in
      let takes = compiled-so (Ok (pattern_of t)) compiles in
      sym (λ i. course_by entry.pattern entry.modifiers (names_of (reads i)) (takes i))
