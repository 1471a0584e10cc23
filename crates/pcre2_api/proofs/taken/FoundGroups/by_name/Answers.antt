use Rattle.std.proofs.Common.{◌≡◌, ◌∙◌, true, false, sym, bytes_eq}
use Rattle.std.specs.List.{list_any}
use Rattle.pcre2_api.proofs.Taking.{named-set, named-unset, named-unknown}
use Rattle.pcre2_api.proofs.taken.FoundGroups.by_name.Goals as goal

pub returns-in-Some : goal.returns-in-Some
returns-in-Some c = sym (named-set c.args.self.now c.args.name.now c.in-Some.text.now (sym c.in-Some.ensures))

pub returns-in-None : goal.returns-in-None
returns-in-None c =
    let f = c.args.self.now in
    let name = c.args.name.now in
    let has : list_any (λ e. bytes_eq e.name name) f.code.tree.names ≡ true = sym c.has_name.ensures
    ∙ c.if-has_name.true in
    sym (named-unset f name (sym c.in-None.ensures) has)

pub returns-in-None-2 : goal.returns-in-None-2
returns-in-None-2 c =
    let f = c.args.self.now in
    let name = c.args.name.now in
    let lacks : list_any (λ e. bytes_eq e.name name) f.code.tree.names ≡ false = sym c.has_name.ensures
    ∙ c.if-has_name.false in
    sym (named-unknown f name lacks)
