use Rattle.std.proofs.Common.{refl}
use Rattle.ucd_category.proofs.Computing.{ucd_category}
use Rattle.ucd_case.proofs.Computing.{ucd_case}
use Rattle.ucd_case.specs.CaseFolding.{fold_pairs}
use Rattle.ucd_case.specs.FoldOtherRows.{fold_other_rows}
use Rattle.uni_text.specs.Names.{names}
use Rattle.char_sets.proofs.laws.worked_unicode.Goals as goal

pub returns : goal.returns
unfolding names ucd_category ucd_case fold_pairs fold_other_rows
returns c = record {
  not_kelvin = refl;
  not_k = refl;
  kelvin_outside = refl;
  long_s = refl;
  e_acute = refl;
  not_a_word = refl;
  upper_folds = refl;
  property_stays = refl;
  surrogate = refl;
  no_property = refl;
}
