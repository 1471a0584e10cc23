use Rattle.std.proofs.Common.{rules, ◌≡◌, ◌∙◌, ◌<◌, Result, Err, IfErr, sym, ap, subst, arith}
use Rattle.pat_tree.specs.Parts.{TreeParts, tree_of}
use Rattle.pat_check.specs.Size.{size}
use Rattle.pat_tree.specs.declared.options.Options.{Options}
use Rattle.match_items.specs.Subjects.{IsText, IsTextPlace}
use Rattle.match_drive.specs.frame_board.Ready.{setting_in}
use Rattle.match_drive.specs.match_starts.Asked.{passed_over}
use Rattle.dfa_drive.specs.dfa_ends.DfaAnswer.{EndsFrom, NoMatch, PartialFrom, dfa_answer}
use Rattle.pcre2_api.specs.Matched.{search_of}
use Rattle.pcre2_errors.specs.DfaErrors.{error_of}
use Rattle.pcre2_api.specs.DfaMatched.{IsDfaError}
use Rattle.dfa_drive.proofs.Agreeing.{agree_from}
use Rattle.pcre2_api.proofs.Starting.{begun-text, begun-place}
use Rattle.dfa_drive.specs.dfa_graph.declared.making.GraphError.TheVariants.{TooLarge}
use Rattle.pcre2_api.proofs.DfaMatching.{barred, answered, is_large}
use Rattle.pcre2_api.proofs.code.Code.ends_from.Goals as goal

err_is : {A B : Type 0} {a b : B} → (let r : Result A B = Err a in r) ≡ Err b → a ≡ b
err_is h = cc

pub returns-in_err-graph-clause-refused : goal.returns-in_err-graph-clause-refused
returns-in_err-graph-clause-refused g c =
    let asked = search_of c.args.self.now c.args.options.now c.args.subject.now c.args.start passed_over in
    let e = c.in_err-graph.field-0.0 in
    let same : c.from_residual.result ≡ Err (error_of e) = search rules in
    subst (λ r. IfErr r (IsDfaError asked)) (sym same)
    (barred asked c.requires.begun e (rw c.ready-ready.ensures.tree at c.in_err-graph.ensures.refused))

pub returns-in_err-graph-clause-large : goal.returns-in_err-graph-clause-large
returns-in_err-graph-clause-large g c = λ is.
    let e = c.in_err-graph.field-0.0 in
    let same : c.from_residual.result ≡ Err (error_of e) = search rules in
    let large : e ≡ TooLarge = is_large e (err_is (sym same ∙ is)) in
    subst (λ (t : TreeParts). 65536 < size (tree_of t)) c.ready-ready.ensures.tree
    (c.in_err-graph.ensures.large (ap (λ e. Err e) large) (omega (arith, c.ready-ready.ensures.nested)))

pub dfa_search-requires-clause-ready : goal.dfa_search-requires-clause-ready
dfa_search-requires-clause-ready g c =
    let subject = c.args.subject.now in
    let same : c.options-compiled.result.now ≡ c.args.self.now.tree.options = c.options-compiled.ensures
    ∙ ap (λ (t : TreeParts). t.options) c.ready-ready.ensures.tree in
    record {
      table = c.ready-ready.ensures.table;
      facts = c.ready-ready.ensures.facts;
      options = c.options-compiled.ensures;
      subject = subst (λ (o : Options). IsText o subject) (sym same)
          (begun-text _ _ _ c.requires.begun c.requires.short);
      start = subst (λ (o : Options). IsTextPlace o subject c.args.start) (sym same)
          (begun-place _ _ _ c.requires.begun);
    }

pub returns-in-Ends-clause-found : goal.returns-in-Ends-clause-found
returns-in-Ends-clause-found g c =
    let matching = c.args.options.now in
    let subject = c.args.subject.now in
    let asked = search_of c.args.self.now matching subject c.args.start passed_over in
    let answer = EndsFrom c.in-Ends.start c.in-Ends.ends in
    let served = rw c.ready-ready.ensures.tree at c.in_ok-graph.ensures.served in
    let is : dfa_answer asked matching.dfa_shortest ≡ answer = subst
    (λ (t : TreeParts). dfa_answer (setting_in t matching subject c.args.start passed_over)
    matching.dfa_shortest ≡ answer)
    c.ready-ready.ensures.tree (rw c.in-Ends.is at c.in_ok-answer.ensures.answer) in
    (answered asked c.requires.begun answer served is, rw c.in-Ends.is at c.in_ok-answer.ensures.placed)

pub returns-in-Ends-clause-agrees : goal.returns-in-Ends-clause-agrees
returns-in-Ends-clause-agrees g c =
    agree_from (search_of c.args.self.now c.args.options.now c.args.subject.now c.args.start passed_over)
    c.in-Ends.start c.in-Ends.ends (returns-in-Ends-clause-found g c).0.answer

pub returns-in-NoMatch-clause-refused : goal.returns-in-NoMatch-clause-refused
returns-in-NoMatch-clause-refused g c =
    let matching = c.args.options.now in
    let subject = c.args.subject.now in
    let asked = search_of c.args.self.now matching subject c.args.start passed_over in
    let served = rw c.ready-ready.ensures.tree at c.in_ok-graph.ensures.served in
    let is : dfa_answer asked matching.dfa_shortest ≡ NoMatch = subst
    (λ (t : TreeParts). dfa_answer (setting_in t matching subject c.args.start passed_over)
    matching.dfa_shortest ≡ NoMatch)
    c.ready-ready.ensures.tree (rw c.in-NoMatch.is at c.in_ok-answer.ensures.answer) in
    answered asked c.requires.begun NoMatch served is

pub returns-clause-refused : goal.returns-clause-refused
returns-clause-refused g c =
    let matching = c.args.options.now in
    let subject = c.args.subject.now in
    let asked = search_of c.args.self.now matching subject c.args.start passed_over in
    let answer = PartialFrom c.in-Partial.start in
    let served = rw c.ready-ready.ensures.tree at c.in_ok-graph.ensures.served in
    let is : dfa_answer asked matching.dfa_shortest ≡ answer = subst
    (λ (t : TreeParts). dfa_answer (setting_in t matching subject c.args.start passed_over)
    matching.dfa_shortest ≡ answer)
    c.ready-ready.ensures.tree (rw c.in-Partial.is at c.in_ok-answer.ensures.answer) in
    let same : c.options-compiled.result.now ≡ c.args.self.now.tree.options = c.options-compiled.ensures
    ∙ ap (λ (t : TreeParts). t.options) c.ready-ready.ensures.tree in
    let placed = rw c.in-Partial.is at c.in_ok-answer.ensures.placed in
    record {
      asked = rw c.in-Partial.is at c.in_ok-answer.ensures.whole;
      answered = answered asked c.requires.begun answer served is;
      from = placed.0;
      place = subst (λ (o : Options). IsTextPlace o subject c.in-Partial.start) same placed.1;
      to = omega arith;
    }
