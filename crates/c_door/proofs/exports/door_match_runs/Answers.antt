use Rattle.std.proofs.Common.{◌∙◌, ℕ, None, ap, sym, subst}
use Rattle.pat_tree.specs.declared.options.MatchOptions.{MatchOptions}
use Rattle.c_door.specs.Held.{EngineValue}
use Rattle.c_door.specs.Asking.{match_options_of}
use Rattle.c_door.specs.Telling.{IsHeld, answer_of}
use Rattle.c_door.specs.Runs.{IsBegin, AreTold, IsToldIn, IsRunsAnswer}
use Rattle.c_door.proofs.exports.door_match_runs.Goals as goal

pub returns-clause-answer : goal.returns-clause-answer
returns-clause-answer c =
    let text = c.args.subject.now in
    let start = c.args.start in
    let run = c.find_in_runs-found.result.run in
    let told = c.find_in_runs-found.result.told in
    let places = c.find_in_runs-found.new.places in
    let mark = c.find_in_runs-found.new.mark in
    let engine = c.take-engine.result.value in
    let of_engine : (begin : ℕ) × IsBegin text start begin
    × AreTold text (IsToldIn engine.code.value c.match_options_of-options.result text start begin places mark) 0 None
    run told =
    subst (λ (e : EngineValue). (begin : ℕ) × IsBegin text start begin
    × AreTold text (IsToldIn e.code.value c.match_options_of-options.result text start begin places mark) 0 None
    run told) c.deref_mut.ensures.value c.find_in_runs-found.ensures.told in
    let of_options : (begin : ℕ) × IsBegin text start begin
    × AreTold text (IsToldIn engine.code.value (match_options_of c.args.asked.now) text start begin places mark) 0
    None run told =
    subst (λ (o : MatchOptions). (begin : ℕ) × IsBegin text start begin
    × AreTold text (IsToldIn engine.code.value o text start begin places mark) 0 None run told)
    c.match_options_of-options.ensures of_engine in
    subst (λ h. IsHeld h (λ e. IsRunsAnswer e.code.value (match_options_of c.args.asked.now) text start
    c.args.asked.now.offset_limit c.answer_of.result run places mark)) (sym c.take-engine.ensures.taken)
    (of_options.0, of_options.1, told, of_options.2, c.answer_of.ensures ∙ ap answer_of c.limited.ensures)
