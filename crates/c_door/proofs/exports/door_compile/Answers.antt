use Rattle.std.proofs.Common.{refl, sym, subst, rules}
use mir.Syntax.{w32}
use Rattle.std.proofs.lemmas.Int.{to_z-of_z}
use mir.Val.{SFits}
use mathlib.Core.Logic.{inl, inr}
use Rattle.pat_tree.specs.declared.options.Options.{Options}
use Rattle.pcre2_api.specs.Patterns.{compiled}
use Rattle.pcre2_errors.specs.declared.error.CompileError.TheVariants.{Bad}
use Rattle.pcre2_api.specs.Compiled.{Compiles, IsCompileError}
use Rattle.c_door.specs.declared.told.Fault.{Fault}
use Rattle.c_door.specs.Asking.{options_of}
use Rattle.c_door.specs.Telling.{IsHeld}
use Rattle.c_door.proofs.exports.door_compile.Goals as goal

pub returns-in-Ok : goal.returns-in-Ok
returns-in-Ok c =
    inl (
      refl,
      subst (λ h. IsHeld h (λ e. Compiles (options_of c.args.asked.now) c.args.pattern.now e.code.value))
          (sym c.of.ensures)
          (subst (λ (o : Options). Compiles o c.args.pattern.now c.in-Ok.engine.value.code.value) c.options_of.ensures
          c.in-Ok.ensures.compiled),
    )

pub returns-in-Err-Memory : goal.returns-in-Err-Memory
returns-in-Err-Memory c = inr (inr (refl, c.requires))

pub returns-in-Err-Bad : goal.returns-in-Err-Bad
returns-in-Err-Bad c =
    let fits : SFits w32 c.in-Err-Bad.number = search rules in
    inr (inl (
      refl,
      c.requires,
      subst (λ (f : Fault). IsCompileError (compiled (options_of c.args.asked.now) c.args.pattern.now)
          (Bad f.number f.at)) (sym c.fault_of.ensures)
          (subst (λ n. IsCompileError (compiled (options_of c.args.asked.now) c.args.pattern.now)
          (Bad n c.in-Err-Bad.at)) (sym (to_z-of_z w32 c.in-Err-Bad.number fits))
          (subst (λ (o : Options). IsCompileError (compiled o c.args.pattern.now)
          (Bad c.in-Err-Bad.number c.in-Err-Bad.at)) c.options_of.ensures
          (subst (λ e. IsCompileError (compiled c.options_of.result c.args.pattern.now) e) c.in-Err-Bad.field-0-is
          c.in-Err-Bad.ensures.refused))),
    ))
