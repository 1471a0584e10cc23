use Rattle.std.proofs.Common.{sym, ◌∙◌, append-nil, arith}
use Rattle.pat_tree.proofs.Growing.{stand_made}
use Rattle.pat_nodes.proofs.literal.push_character.Goals as goal

pub returns : goal.returns
returns c =
    let e = c.in_ok-id.ensures in
    let kids = c.args.kids.now in
    rw c.in_ok-push.ensures.ok (record {
      stand = λ ts s. stand_made e.made s;
      loose_is = λ h. e.loose kids (h ∙ sym (append-nil kids));
      adds = e.adds;
      count = omega (arith, e.count);
    })
