use Rattle.std.proofs.Common.{◌≡◌, ◌∙◌, ◌<◌, None, subst, sym, length, get_or, arith}
use Rattle.std.proofs.lemmas.List.{get_or_default}
use Rattle.pat_tree.specs.Parts.{tree_of}
use Rattle.pat_check.specs.Starts.{lead_in, IsSomeLead}
use Rattle.pat_check.proofs.leads.lead_set.Goals as goal

pub returns : goal.returns
returns c fold folds =
    let t = c.args.tree.now in
    let starts = c.in_ok-starts.starts.items in
    let start = c.index.result.now in
    let within : t.root < length starts = omega (arith, c.in_ok-starts.ensures.count) in
    let read : start ≡ get_or starts t.root start = rw c.root.ensures at c.index.ensures in
    let is : start ≡ get_or starts t.root None = read ∙ get_or_default starts t.root start None within in
    c.known_set.ensures (lead_in t fold (tree_of t))
    (subst (λ s. IsSomeLead s (lead_in t fold (tree_of t))) (sym is)
    (c.in_ok-starts.ensures.kept fold folds t.root within))
