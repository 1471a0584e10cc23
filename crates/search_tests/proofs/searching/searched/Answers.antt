use Rattle.std.proofs.Common.{subst, sym, inl, inr}
use Rattle.std.proofs.lemmas.Bool.{cases_Bool}
use Rattle.match_items.specs.Views.{fold_in}
use Rattle.pat_check.specs.Known.{IsByteSet, lead_set_of}
use Rattle.search_tests.proofs.searching.searched.Goals as goal

pub answer_of-answer-requires-clause-facts : goal.answer_of-answer-requires-clause-facts
answer_of-answer-requires-clause-facts c =
    let told = c.in_ok-facts.ensures in
    let t = c.in_ok-tree.tree in
    let begins : IsByteSet c.in_ok-facts.facts.lead (lead_set_of t (fold_in t.options.utf)) =
    elim (cases_Bool t.options.utf) [
      | inl on ↦ subst (λ utf. IsByteSet c.in_ok-facts.facts.lead (lead_set_of t (fold_in utf))) (sym on)
          (told.lead_in_utf on)
      | inr off ↦ told.lead off (fold_in t.options.utf)
    ] in
    record {
      lead = begins;
      empty = told.empty;
      names = told.names;
      lookbehind = told.lookbehind;
      before = told.before;
      size = told.size;
      dfa = told.dfa;
      fixed = told.fixed;
      backs = told.backs;
      places = told.places;
      greatest = told.greatest;
      flow = told.flow;
      branches = told.branches;
      look_branches = told.look_branches;
      ranks = told.ranks;
      need = told.need;
    }
