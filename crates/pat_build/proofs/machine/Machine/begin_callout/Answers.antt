use Rattle.std.proofs.Common.{refl, Some}
use Rattle.token_parts.specs.declared.token.Token.TheVariants.{CalloutItem}
use Rattle.pat_grammar.specs.Callouts.{callout_of}
use Rattle.pat_grammar.specs.Groups.{places_named}
use Rattle.pat_build.proofs.Calling.{callout_means}
use Rattle.pat_build.proofs.machine.Machine.begin_callout.Goals as goal

pub returns : goal.returns
unfolding places_named
returns c =
    let m = c.args.self.now in
    let ready = c.requires.ready.0 in
    let a = c.args.called in
    let e = c.in_ok-id.ensures in
    callout_means m ready.means (CalloutItem a.number a.text_from a.text_to) c.args.after c.in_ok-id.id
    (callout_of a.number a.text_from a.text_to (c.args.item.at, c.args.item.len)) c.add.new.self _ c.push.new.self
    (Some c.args.item.at) ready
    (record {
      is = e.grows;
      makes = e.made;
      replaces = e.replaces;
      no_group = λ n. refl;
      groups = e.groups;
      childless = refl;
      named = refl;
    })
    refl c.in_ok-push.ensures.ok c.requires.ready.1
