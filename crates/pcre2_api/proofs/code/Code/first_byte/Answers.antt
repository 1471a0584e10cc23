use Rattle.std.proofs.Common.{subst}
use Rattle.pat_tree.specs.Parts.{TreeParts}
use Rattle.match_items.specs.Views.{fold_in}
use Rattle.pat_check.specs.Known.{IsByteSet, lead_set_of}
use Rattle.match_drive.specs.frame_board.Ready.{AreFactsOf}
use Rattle.pcre2_api.proofs.Leading.{lone_of, none_set, some_set}
use Rattle.pcre2_api.proofs.code.Code.first_byte.Goals as goal

pub returns-in-Some-clause-byte : goal.returns-in-Some-clause-byte
returns-in-Some-clause-byte c =
    let tree = c.args.self.now.tree in
    let test = lead_set_of tree (fold_in tree.options.utf) in
    let facts : AreFactsOf tree c.ready.result.facts.now =
    subst (λ (t : TreeParts). AreFactsOf t c.ready.result.facts.now) c.ready.ensures.tree c.ready.ensures.facts in
    some_set c.in-Some.set test (subst (λ s. IsByteSet s test) c.in-Some.is facts.lead) c.only_byte.result
    c.only_byte.ensures.byte

pub returns-in-Some-clause-none : goal.returns-in-Some-clause-none
returns-in-Some-clause-none c is b lt first =
    let tree = c.args.self.now.tree in
    let test = lead_set_of tree (fold_in tree.options.utf) in
    let facts : AreFactsOf tree c.ready.result.facts.now =
    subst (λ (t : TreeParts). AreFactsOf t c.ready.result.facts.now) c.ready.ensures.tree c.ready.ensures.facts in
    c.only_byte.ensures.none is b lt
    (lone_of c.in-Some.set test (subst (λ s. IsByteSet s test) c.in-Some.is facts.lead) b first)

pub returns-in-None-clause-none : goal.returns-in-None-clause-none
returns-in-None-clause-none c is b lt first =
    let tree = c.args.self.now.tree in
    let test = lead_set_of tree (fold_in tree.options.utf) in
    let facts : AreFactsOf tree c.ready.result.facts.now =
    subst (λ (t : TreeParts). AreFactsOf t c.ready.result.facts.now) c.ready.ensures.tree c.ready.ensures.facts in
    none_set test (subst (λ s. IsByteSet s test) c.in-None.is facts.lead) b first
