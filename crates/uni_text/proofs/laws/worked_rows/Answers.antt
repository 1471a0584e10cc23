use Rattle.std.proofs.Common.{refl}
use Rattle.std.specs.Str.{chars}
use Rattle.uni_text.proofs.laws.worked_rows.Goals as goal

pub returns : goal.returns
unfolding chars
returns c = record {
  one = refl;
  three = refl;
  two = refl;
  four = refl;
  before_end = refl;
  before_two = refl;
  before_last = refl;
  byte = refl;
  byte_before = refl;
  underscore = refl;
  hyphen = refl;
  folded = refl;
}
