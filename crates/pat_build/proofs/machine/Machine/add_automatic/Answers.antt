use Rattle.std.proofs.Common.{refl, ap, ◌∙◌, Some, ℕ}
use Rattle.pat_tree.specs.Nested.{Nested}
use Rattle.pat_grammar.specs.Callouts.{callout_of}
use Rattle.pat_grammar.specs.Groups.{places_named}
use Rattle.pat_build.specs.Machine.{state_of, known_of}
use Rattle.pat_build.proofs.Steps.{loud_due}
use Rattle.pat_build.proofs.Calling.{automatic_means}
use Rattle.pat_build.proofs.machine.Machine.add_automatic.Goals as goal

pub returns-clause-means : goal.returns-clause-means
unfolding places_named
returns-clause-means c =
    let m = c.args.self.now in
    let r = c.requires.due in
    let e = c.in_ok-id.ensures in
    let t : Nested = callout_of 255 0 0 (c.in_ok-item.item.at, c.in_ok-item.item.len) in
    (automatic_means m c.requires.means r.0 r.1 c.in_ok-id.id t c.add.new.self _ c.push.new.self c.requires.idle r.2
    (loud_due (known_of m) m.text.now (state_of m) r.0 r.1 r.2 m.calling r.3
    ∙ ap (λ (i : ℕ × ℕ). Some (callout_of 255 0 0 i)) c.in_ok-item.ensures.value)
    (record {
      is = e.grows;
      makes = e.made;
      replaces = e.replaces;
      no_group = λ n. refl;
      groups = e.groups;
      childless = refl;
      named = refl;
    })
    refl c.in_ok-push.ensures.ok).0

pub returns-clause-quiet : goal.returns-clause-quiet
unfolding places_named
returns-clause-quiet c =
    let m = c.args.self.now in
    let r = c.requires.due in
    let e = c.in_ok-id.ensures in
    let t : Nested = callout_of 255 0 0 (c.in_ok-item.item.at, c.in_ok-item.item.len) in
    (automatic_means m c.requires.means r.0 r.1 c.in_ok-id.id t c.add.new.self _ c.push.new.self c.requires.idle r.2
    (loud_due (known_of m) m.text.now (state_of m) r.0 r.1 r.2 m.calling r.3
    ∙ ap (λ (i : ℕ × ℕ). Some (callout_of 255 0 0 i)) c.in_ok-item.ensures.value)
    (record {
      is = e.grows;
      makes = e.made;
      replaces = e.replaces;
      no_group = λ n. refl;
      groups = e.groups;
      childless = refl;
      named = refl;
    })
    refl c.in_ok-push.ensures.ok).1
