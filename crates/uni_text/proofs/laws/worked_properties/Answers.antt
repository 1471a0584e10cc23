use Rattle.std.proofs.Common.{refl}
use Rattle.ucd_category.proofs.Computing.{ucd_category}
use Rattle.ucd_script.proofs.Computing.{ucd_script}
use Rattle.uni_text.specs.Names.{names}
use Rattle.uni_text.proofs.laws.worked_properties.Goals as goal

pub returns : goal.returns
unfolding names ucd_category ucd_script
returns c = record {
  category = refl;
  cased = refl;
  passed_over = refl;
  unknown = refl;
  alpha_is_greek = refl;
  a_is_not_greek = refl;
  surrogate = refl;
  past_unicode = refl;
  wide_space = refl;
}
