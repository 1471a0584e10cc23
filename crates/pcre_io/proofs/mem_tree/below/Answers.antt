use Rattle.std.proofs.Common.{◌≡◌, ◌++◌, ap, sym, ◌∙◌, lit<}
use Rattle.std.proofs.lemmas.Str.Pattern.{strip_prefix_char}
use Rattle.pcre_io.specs.MemTree.{below}
use Rattle.pcre_io.proofs.Naming.{after-slash, below-append, below-none}
use Rattle.pcre_io.proofs.mem_tree.below.Goals as goal

pub returns-in-Some : goal.returns-in-Some
returns-in-Some c =
    let d = c.args.directory.now in
    let name = c.args.name.now in
    let rest = c.in-Some.rest.now in
    let strips = c.in-Some.ensures.cases in
    let is : name ≡ d ++ rest = strips.1.1 ∙ ap (λ l. d ++ l) (sym strips.2) in
    after-slash rest c.strip_prefix-in-Some.result
    (strip_prefix_char 47 rest c.strip_prefix-in-Some.result c.strip_prefix-in-Some.ensures.cases (lit< tt))
    ∙ sym (below-append d rest) ∙ ap (below d) (sym is)

pub returns-in-None : goal.returns-in-None
returns-in-None c = sym (below-none c.args.directory.now c.args.name.now c.in-None.ensures.cases)
