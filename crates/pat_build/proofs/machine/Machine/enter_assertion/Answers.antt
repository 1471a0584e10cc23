use Rattle.std.proofs.Common.{◌≡◌, ◌∙◌, ◌++◌, ◌∷◌, [], ap, arith}
use Rattle.pat_build.specs.Machine.{tested_frame}
use Rattle.pat_build.proofs.Nesting.{assert_means, frame_from}
use Rattle.pat_nodes.specs.declared.frames.Form.TheVariants as kept
use Rattle.pat_build.proofs.machine.Machine.enter_assertion.Goals as goal

pub returns : goal.returns
returns c =
    let m = c.args.self.now in
    let r = c.requires.ready in
    let outer = c.replace-outer.result in
    let lead = c.in_ok-parts.parts in
    let e = c.in_ok-parts.ensures in
    let second = rw (c.asserted-looks.ensures) at c.in_ok-push_frame-2.ensures in
    let pushed : c.push_frame-2.new.stack.items ≡ (m.stack.items ++ frame_from m kept.Asserting outer ∷ [])
    ++ tested_frame m c.args.test lead ∷ [] =
    second ∙ ap (λ fs. fs ++ tested_frame m c.args.test lead ∷ []) c.in_ok-push_frame.ensures in
    rw (c.replace-outer.ensures.after, c.new.ensures, c.new-2.ensures)
    (assert_means m r.2.means r.0 r.1 c.args.test c.push_frame-2.new.stack outer c.lead_parts.new.draft lead r.2 r.3
    c.requires.onward c.requires.within c.replace-outer.ensures.value pushed c.requires.shallow r.4
    e.adds e.grows e.stands e.loose e.count)

pub overflow_cast-here : goal.overflow_cast-here
overflow_cast-here c = omega (arith, c.requires.before, c.requires.within, c.requires.ready.2.means.short)
