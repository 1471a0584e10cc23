-- The law of what targets stand for.
use Rattle.std.proofs.Common.{◌≡◌, refl, ap, ◌∙◌, Bool, true, false, if◌then◌else◌, [], ◌∷◌, Option, Some}
use Rattle.pcre_io.specs.Files.{Contents}
use Rattle.line_feed.specs.Rows.{Input}
use Rattle.tool_io.specs.declared.target.Target.{Target}
use Rattle.tool_io.specs.declared.target.Target.TheVariants as targets
use Rattle.tool_io.specs.Asked.{asked, is_standard, file_input, input_named, standard_after, OpensTo, Stands}
use Rattle.tool_io.specs.Laws.{ToldStandForOne}

file-is : (files : Contents) (target : Target) (input : Option Input) → OpensTo (Some files) target input
    → input ≡ file_input files target
file-is files targets.Input input h = h
file-is files (targets.File path) input h = h
file-is files (targets.NoOpen path) input h = h
file-is files (targets.NoList path) input h = h
file-is files (targets.TooDeep path) input h = h
file-is files (targets.Unnamed path) input h = h

input-is : (b : Bool) (files : Contents) (standard : Input) (target : Target) (input : Option Input)
    → Stands b (Some files) standard target input
    → input ≡ if b then Some standard else file_input files target
input-is true files standard target input h = h
input-is false files standard target input h = file-is files target input h

pub told-one : ToldStandForOne
told-one files standard [] [] h = refl
told-one files standard [] (a ∷ given) h = absurd h
told-one files standard (target ∷ list) [] h = absurd h
told-one files standard (target ∷ list) (a ∷ given) h =
    ap (λ w. asked w a.input ∷ given) h.0
    ∙ ap (λ i. asked target i ∷ given) (input-is (is_standard target) files standard target a.input h.1)
    ∙ ap (λ more. asked target (input_named files standard target) ∷ more)
    (told-one files (standard_after target standard) list given h.2)
