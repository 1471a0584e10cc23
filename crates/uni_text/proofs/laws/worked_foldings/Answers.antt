use Rattle.std.proofs.Common.{refl}
use Rattle.ucd_category.proofs.Computing.{ucd_category}
use Rattle.ucd_case.proofs.Computing.{ucd_case}
use Rattle.uni_text.proofs.laws.worked_foldings.Goals as goal

pub returns : goal.returns
unfolding ucd_category ucd_case
returns c = record {
  kelvin = refl;
  capital_k = refl;
  long_s = refl;
  final_sigma = refl;
  sharp_s = refl;
  digit_of_arabic = refl;
  digit_of_ascii = refl;
  next_line = refl;
  next_byte = refl;
  accent_alone = refl;
  circle_around = refl;
  undertie = refl;
  undertie_of_ascii = refl;
  dollar = refl;
  euro = refl;
}
