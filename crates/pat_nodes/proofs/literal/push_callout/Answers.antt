use Rattle.std.proofs.Common.{◌≡◌, Bool, false, true, not, refl, sym, ◌∙◌, append-nil, arith, subst}
use Rattle.pat_tree.specs.Growing.{Stand}
use Rattle.pat_tree.proofs.Growing.{stand_made}
use Rattle.pat_nodes.proofs.Extending.{none_taken, adds_none, adds_node}
use Rattle.pat_nodes.proofs.literal.push_callout.Goals as goal

is_off : (b : Bool) → not b ≡ true → b ≡ false
is_off false h = refl
is_off true h = absurd cc

is_on : (b : Bool) → not b ≡ false → b ≡ true
is_on true h = refl
is_on false h = absurd cc

pub returns-then-not-options : goal.returns-then-not-options
returns-then-not-options c =
    let d = c.args.draft.now in
    let off : c.args.options.auto_callout ≡ false = is_off c.args.options.auto_callout c.if-not-options.true in
    rw off (record {
      stand = λ ts s. subst (Stand d.nodes c.args.kids.now) (sym (append-nil ts)) s;
      loose_is = λ h. h;
      adds = adds_none d;
      count = omega arith;
    })

pub returns : goal.returns
returns c =
    let e = c.in_ok-id.ensures in
    let kids = c.args.kids.now in
    let on : c.args.options.auto_callout ≡ true = is_on c.args.options.auto_callout c.if-not-options.false in
    rw (on, c.in_ok-push.ensures.ok) (record {
      stand = λ ts s. stand_made e.made s;
      loose_is = λ h. e.replaces kids (h ∙ sym (append-nil kids));
      adds = adds_node c.args.draft.now c.add.new.self _ e.grows e.refs refl refl e.groups (λ n. refl)
          (none_taken c.args.draft.now.nodes);
      count = omega (arith, e.count);
    })
