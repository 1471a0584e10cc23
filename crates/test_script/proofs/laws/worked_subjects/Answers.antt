use Rattle.std.proofs.Common.{refl}
use lib.Utf8.{encode}
use Rattle.token_parts.specs.Bytes.{run_end}
use Rattle.test_script.specs.Subjects.{hexadecimal, escape, piece_at, subject_text}
use Rattle.test_script.proofs.laws.worked_subjects.Goals as goal

pub returns-clause-characters : goal.returns-clause-characters
unfolding encode run_end hexadecimal escape piece_at subject_text
returns-clause-characters c = refl
