use Rattle.std.proofs.Common.{◌≡◌, true, subst}
use Rattle.pat_tree.specs.declared.nodes.Item.TheVariants.{Char}
use Rattle.pat_shape.specs.IsShape.{may_take}
use Rattle.pat_shape.proofs.Ranges.{past_all, one_alone}
use Rattle.pat_shape.proofs.pieces.past_char.Goals as goal

pub returns-then-c-lt128 : goal.returns-then-c-lt128
returns-then-c-lt128 c has b high scalar e =
    c.past_ascii.ensures b high (subst (λ any. may_take true has (Char c.args.c any) b ≡ true) c.if-not-caseless.false
    e)

pub returns-else-c-lt128 : goal.returns-else-c-lt128
returns-else-c-lt128 c has b high scalar e = past_all b high scalar

pub returns-then-not-caseless : goal.returns-then-not-caseless
returns-then-not-caseless c has b high scalar e =
    one_alone c.args.c b (subst (λ any. may_take true has (Char c.args.c any) b ≡ true) c.if-not-caseless.true e)
