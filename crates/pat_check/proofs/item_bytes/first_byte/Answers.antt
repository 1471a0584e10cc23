use Rattle.std.proofs.Common.{◌≡◌, ◌==◌, ◌+◌, ◌/◌, inl, inr, sym, subst, arith}
use Rattle.pat_check.specs.Starts.{char_lead}
use Rattle.pat_check.proofs.ByteLemmas.{two_lead, three_lead, four_lead}
use Rattle.pat_check.proofs.item_bytes.first_byte.Goals as goal

pub returns-then-c-lt2048 : goal.returns-then-c-lt2048
returns-then-c-lt2048 c b =
    subst (λ u. (192 + c.args.c / 64 == b) ≡ char_lead u c.args.c b) (sym c.if-not-utf.false)
    (two_lead c.args.c b (omega arith) (omega arith))

pub returns-then-c-lt55296 : goal.returns-then-c-lt55296
returns-then-c-lt55296 c b =
    subst (λ u. (224 + c.args.c / 4096 == b) ≡ char_lead u c.args.c b) (sym c.if-not-utf.false)
    (three_lead c.args.c b (omega arith) (inl (omega arith)) (omega arith))

pub returns-then-c-lt65536 : goal.returns-then-c-lt65536
returns-then-c-lt65536 c b =
    subst (λ u. (224 + c.args.c / 4096 == b) ≡ char_lead u c.args.c b) (sym c.if-not-utf.false)
    (three_lead c.args.c b (omega arith) (inr (omega arith)) (omega arith))

pub returns-then-c-lt1114112 : goal.returns-then-c-lt1114112
returns-then-c-lt1114112 c b =
    subst (λ u. (240 + c.args.c / 262144 == b) ≡ char_lead u c.args.c b) (sym c.if-not-utf.false)
    (four_lead c.args.c b (omega arith) (omega arith))
