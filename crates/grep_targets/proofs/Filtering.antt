-- Patterns that are compiled one after the other.
use Rattle.std.proofs.Common.{◌≡◌, ℕ, ◌+◌, List, [], ◌∷◌, ◌++◌, length, length-append, Result, Ok, Err, refl, ap}
use Rattle.std.proofs.Common.{sym, subst, ◌∙◌, append_assoc, arith}
use Rattle.std.proofs.lemmas.List.{map-append}
use Rattle.pat_tree.specs.declared.options.TheConstants.Options as plain
use Rattle.pat_tree.specs.Pattern.{Pattern, pattern_of}
use Rattle.token_parts.specs.declared.fault.Fault.{Fault}
use Rattle.pcre2_api.specs.Compiled.{CodeParts}
use Rattle.pcre2_api.specs.Patterns.{compiled}
use Rattle.grep_args.specs.declared.options.FilterOption.{FilterOption}
use Rattle.grep_targets.specs.declared.filters.FilterError.{FilterError}
use Rattle.grep_targets.specs.declared.filters.FilterError.TheVariants as refused
use Rattle.grep_targets.specs.Filters.{BadFilter, Compiled, compiled_from, patterns_in, with_compiled, with_patterns}
use Rattle.grep_targets.specs.Filters.{IsFilterError}

with-twice : (ps qs : List Pattern) (more : Compiled)
    → with_patterns ps (with_patterns qs more) ≡ with_patterns (ps ++ qs) more
with-twice ps qs (Ok rs) = ap Ok (sym (append_assoc ps qs rs))
with-twice ps qs (Err bad) = refl

-- the patterns of a text and of others, where the text's are these
then-ok : (option : FilterOption) (n : ℕ) (ps : List Pattern) (later : Compiled) (one : Result Pattern Fault)
    → with_compiled option n one (Ok []) ≡ Ok ps → with_compiled option n one later ≡ with_patterns ps later
then-ok option n ps later (Ok p) e = let so : with_patterns (p ∷ []) (Ok []) ≡ Ok ps = e in let same : p ∷ [] ≡ ps =
    cc in ap (λ l. with_patterns l later) same
then-ok option n ps later (Err fault) e = cc

-- a text is refused, and so are it and others
then-bad : (option : FilterOption) (n : ℕ) (bad : BadFilter) (later : Compiled) (one : Result Pattern Fault)
    → with_compiled option n one (Ok []) ≡ Err bad → with_compiled option n one later ≡ Err bad
then-bad option n bad later (Ok p) e = let so : with_patterns (p ∷ []) (Ok []) ≡ Err bad = e in cc
then-bad option n bad later (Err fault) e = e

module _ (option : FilterOption) (whole : List (List ℕ)) (text : List ℕ) (texts : List (List ℕ))
    (codes : List CodeParts)
    (so_far : with_patterns (patterns_in codes) (compiled_from option (length codes + 1) (text ∷ texts))
    ≡ compiled_from option 1 whole) where
  pub one_more : (code : CodeParts) (new : List CodeParts) (index : ℕ) → index ≡ length codes + 1
      → new ≡ codes ++ code ∷ []
      → compiled_from option index (text ∷ []) ≡ Ok (patterns_in (code ∷ []))
      → with_patterns (patterns_in new) (compiled_from option (length new + 1) texts) ≡ compiled_from option 1 whole
  one_more code new index at grown is =
      let p = patterns_in (code ∷ []) in
      let first = subst (λ k. compiled_from option k (text ∷ []) ≡ Ok p) at is in
      let count : length codes + 1 + 1 ≡ length new + 1 =
      omega (arith, ap length grown, length-append codes (code ∷ [])) in
      sym
      (sym so_far ∙ ap (with_patterns (patterns_in codes))
      (then-ok option (length codes + 1) p (compiled_from option (length codes + 1 + 1) texts)
      (compiled plain.PLAIN text) first)
      ∙ with-twice (patterns_in codes) p (compiled_from option (length codes + 1 + 1) texts)
      ∙ ap (λ l. with_patterns l (compiled_from option (length codes + 1 + 1) texts))
      (sym (map-append (λ (c : CodeParts). pattern_of c.tree) codes (code ∷ [])) ∙ ap patterns_in (sym grown))
      ∙ ap (λ k. with_patterns (patterns_in new) (compiled_from option k texts)) count)

  pub one_bad : (e : FilterError) (index : ℕ) → index ≡ length codes + 1
      → IsFilterError (compiled_from option index (text ∷ [])) e → IsFilterError (compiled_from option 1 whole) e
  one_bad (refused.Bad o i number place) index at is =
      sym so_far ∙ ap (with_patterns (patterns_in codes))
      (then-bad option (length codes + 1) _ (compiled_from option (length codes + 1 + 1) texts)
      (compiled plain.PLAIN text)
      (subst (λ k. compiled_from option k (text ∷ []) ≡ Err (record {
        option = o;
        index = i;
        fault = record { number = number; at = place };
      })) at is))
  one_bad refused.Memory index at is = tt
