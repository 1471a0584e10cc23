-- ASCII folds the same in UTF and outside it.
use Rattle.std.proofs.Common.{◌≡◌, ◌∙◌, ℕ, ◌<◌, Bool, true, false, refl, arith}
use Rattle.std.proofs.lemmas.Bool.Decides.{nat_tests}
use Rattle.std.specs.Char.{to_ascii_lowercase}
use Rattle.ucd_case.proofs.CaseFoldingLemmas.{simple_fold-ascii}
use Rattle.uni_text.specs.Ascii.{ascii_fold}
use Rattle.uni_text.proofs.FoldLemmas.{fold-simple_fold}
use Rattle.match_items.specs.Views.{fold_in}

small_is : (c : ℕ) → to_ascii_lowercase c ≡ ascii_fold c
small_is c = grind (arith, nat_tests)

pub fold_in-ascii : (utf : Bool) (c : ℕ) → c < 128 → fold_in utf c ≡ ascii_fold c
fold_in-ascii true c h = fold-simple_fold c ∙ simple_fold-ascii c h ∙ small_is c
fold_in-ascii false c h = refl
