-- A sound script ends well, and the worked rows of words compute.
use Rattle.std.proofs.Common.{◌≡◌, ◌∙◌, ◌∷◌, Some, refl, ap}
use Rattle.test_modifiers.specs.Lists.{list_of}
use Rattle.byte_lanes.specs.declared.line_end.EndKind.TheVariants.{Lf}
use Rattle.line_feed.specs.Rows.{Input, At, End, rows}
use Rattle.test_script.specs.declared.plan.TestPlan.{TestPlan}
use Rattle.test_run.specs.TestText.{greatest_line}
use Rattle.test_main.specs.declared.words.Script.{Script}
use Rattle.test_main.specs.declared.words.Script.TheVariants.{Standard, File, Generated}
use Rattle.test_main.specs.ToolText.{status_of, text_for, text_by, text_of}
use Rattle.test_main.specs.Laws.{SoundEndWell}
use Rattle.test_main.specs.Worked.{WorkedWords}

-- whatever is asked for
ends-well : (plan : TestPlan) (script : Script) (input : Input) → (rows Lf greatest_line input).finish ≡ At End
    → (text_for plan script (Some input)).status ≡ 0
ends-well plan Standard input whole = ap status_of whole
ends-well plan (File path) input whole = ap status_of whole
ends-well plan (Generated n) input whole = refl

pub sound-end-well : SoundEndWell
unfolding text_of
sound-end-well words a more sound =
    ap (λ read. (text_by read (a ∷ more)).status) sound.accepted
    ∙ ap (λ input. (text_for sound.asked.plan sound.asked.script input).status) sound.there
    ∙ ends-well sound.asked.plan sound.asked.script sound.input sound.whole

pub words-hold : WorkedWords
unfolding list_of
words-hold = record {
  none = refl;
  quiet = refl;
  standard = refl;
  name = refl;
  lists = refl;
  dfa = refl;
  no_list = refl;
  bad_list = refl;
  generated = refl;
  too_many = refl;
  no_number = refl;
  late_word = refl;
  two_scripts = refl;
  late_option = refl;
}
