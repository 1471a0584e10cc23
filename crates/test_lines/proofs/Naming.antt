-- Names of verbs, where they are shown and where they aren't.
use Rattle.std.proofs.Common.{◌≡◌, ℕ, Bool, true, false, List, [], Option, Some, None, option_and_then, refl, sym}
use Rattle.std.proofs.Common.{arith}
use Rattle.std.specs.Prelude.{slice_get}
use Rattle.std.proofs.lemmas.Option.{slice_get_past}
use Rattle.pat_tree.specs.Pattern.{Pattern}
use Rattle.test_lines.specs.Marks.{showing, name_of}

module _ (p : Pattern) where
  pub shown-name : (marks : Bool) (mark : Option ℕ) → marks ≡ true
      → option_and_then (slice_get p.verb_names) mark ≡ name_of (showing p marks) mark
  shown-name true mark e = refl
  shown-name false mark e = cc

  pub hidden-name : (marks : Bool) (mark : Option ℕ) → marks ≡ false → None ≡ name_of (showing p marks) mark
  hidden-name true mark e = cc
  hidden-name false None e = refl
  hidden-name false (Some id) e = sym (slice_get_past {X = List ℕ} [] id (omega arith))
