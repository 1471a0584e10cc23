use Rattle.std.proofs.Common.{◌≡◌, ℕ, List, [], ◌∷◌, length, refl, sym, ap, ◌∙◌, arith, vec_len, true-eqb, false-eqb}
use Rattle.std.proofs.Common.{◌<◌}
use Rattle.pat_grammar.specs.Groups.{groups_of, or_none}
use Rattle.pat_nodes.proofs.References.{nothing_in}
use Rattle.pat_nodes.proofs.names.groups_of.Goals as goal

or_none_some : (ns : List ℕ) → 0 < length ns → ns ≡ or_none ns
or_none_some [] h = absurd (omega (arith, h))
or_none_some (n ∷ ns) h = refl

pub returns-then-is_empty-clause-is : goal.returns-then-is_empty-clause-is
unfolding groups_of
returns-then-is_empty-clause-is c =
    let none : length c.in_ok-groups.groups.items ≡ 0 =
    omega (arith, c.in_ok-groups.groups.ok.0, true-eqb (vec_len c.in_ok-groups.groups) 0 c.if-is_empty.ensures) in
    c.in_ok-none.ensures ∙ ap or_none (sym (nothing_in c.in_ok-groups.groups.items none) ∙ c.in_ok-groups.ensures)

pub returns-clause-is : goal.returns-clause-is
unfolding groups_of
returns-clause-is c =
    let some : 0 < length c.in_ok-groups.groups.items =
    omega (arith, c.in_ok-groups.groups.ok.0, false-eqb (vec_len c.in_ok-groups.groups) 0 c.if-is_empty.ensures)
    in
    c.from_vec.ensures ∙ or_none_some c.in_ok-groups.groups.items some ∙ ap or_none c.in_ok-groups.ensures

pub returns-clause-some : goal.returns-clause-some
returns-clause-some c = omega (
  arith,
  c.in_ok-groups.groups.ok.0,
  false-eqb (vec_len c.in_ok-groups.groups) 0 c.if-is_empty.ensures,
  ap length c.from_vec.ensures,
)
