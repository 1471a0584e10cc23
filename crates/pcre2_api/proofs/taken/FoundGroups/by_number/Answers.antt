use Rattle.std.proofs.Common.{◌≡◌, ◌∙◌, true, false, length, sym}
use Rattle.std.specs.Prelude.{nat_le}
use Rattle.std.proofs.lemmas.Bool.{leb-true, leb-false}
use Rattle.pcre2_api.proofs.Taking.{numbered-set, numbered-unset, numbered-past}
use Rattle.pcre2_api.proofs.taken.FoundGroups.by_number.Goals as goal

pub returns-in-Some : goal.returns-in-Some
returns-in-Some c = sym (numbered-set c.args.self.now c.args.n c.in-Some.text.now (sym c.in-Some.ensures))

pub returns-in-None : goal.returns-in-None
returns-in-None c =
    let f = c.args.self.now in
    let within : nat_le c.args.n (length f.outcome.caps) ≡ true = sym c.has_group.ensures ∙ c.if-has_group.true in
    sym (numbered-unset f c.args.n (sym c.in-None.ensures) (leb-true c.args.n (length f.outcome.caps) within))

pub returns-in-None-2 : goal.returns-in-None-2
returns-in-None-2 c =
    let f = c.args.self.now in
    let past : nat_le c.args.n (length f.outcome.caps) ≡ false = sym c.has_group.ensures ∙ c.if-has_group.false in
    sym (numbered-past f c.args.n (leb-false c.args.n (length f.outcome.caps) past))
