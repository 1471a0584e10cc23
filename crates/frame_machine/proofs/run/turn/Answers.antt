use Rattle.std.proofs.Common.{◌≡◌, Err, rules}
use Rattle.frame_state.specs.declared.machine.Next.{Next}
use Rattle.frame_state.proofs.CalloutTurns.{still, end_still}
use Rattle.frame_store.specs.Entry.{entries, entry_of}
use Rattle.frame_state.specs.declared.machine.Next.TheVariants.{Settle}
use Rattle.frame_state.specs.Steps.{over}
use Rattle.frame_state.specs.Validity.{IsValid}
use Rattle.frame_state.proofs.TryTurns.{turn_settle}
use Rattle.frame_machine.proofs.run.turn.Goals as goal

pub returns-in_err-branch-in-Branch-clause-stop : goal.returns-in_err-branch-in-Branch-clause-stop
returns-in_err-branch-in-Branch-clause-stop g c =
    let same : c.from_residual-in_err-branch-in-Branch.result ≡ Err c.in_err-branch-in-Branch.field-0.0 =
    search rules in
    rw (same, c.in-Branch.is) (end_still {A = Next} (g.S.Searchable.searched c.args.on.now) _ _ _ _
    (Err c.in_err-branch-in-Branch.field-0.0) c.in_err-branch-in-Branch.ensures.stop)

pub returns-in_err-try_branch-in-Try-clause-stop : goal.returns-in_err-try_branch-in-Try-clause-stop
returns-in_err-try_branch-in-Try-clause-stop g c =
    let same : c.from_residual-in_err-try_branch-in-Try.result ≡ Err c.in_err-try_branch-in-Try.field-0.0 =
    search rules in
    rw (same, c.in-Try.is) (end_still {A = Next} (g.S.Searchable.searched c.args.on.now) _ _ _ _
    (Err c.in_err-try_branch-in-Try.field-0.0) c.in_err-try_branch-in-Try.ensures.stop)

pub returns-in_err-offer-in-Offer-clause-stop : goal.returns-in_err-offer-in-Offer-clause-stop
returns-in_err-offer-in-Offer-clause-stop g c =
    let same : c.from_residual-in_err-offer-in-Offer.result ≡ Err c.in_err-offer-in-Offer.field-0.0 = search rules in
    rw (same, c.in-Offer.is) (end_still {A = Next} (g.S.Searchable.searched c.args.on.now) _ _ _ _
    (Err c.in_err-offer-in-Offer.field-0.0) c.in_err-offer-in-Offer.ensures.stop)

pub returns-in_err-begin-in-Begin-clause-stop : goal.returns-in_err-begin-in-Begin-clause-stop
returns-in_err-begin-in-Begin-clause-stop g c =
    let same : c.from_residual-in_err-begin-in-Begin.result ≡ Err c.in_err-begin-in-Begin.field-0.0 = search rules in
    rw (same, c.in-Begin.is) (end_still {A = Next} (g.S.Searchable.searched c.args.on.now) _ _ _ _
    (Err c.in_err-begin-in-Begin.field-0.0) c.in_err-begin-in-Begin.ensures.stop)

pub returns-in_err-fewer-in-Fewer-clause-stop : goal.returns-in_err-fewer-in-Fewer-clause-stop
returns-in_err-fewer-in-Fewer-clause-stop g c =
    let same : c.from_residual-in_err-fewer-in-Fewer.result ≡ Err c.in_err-fewer-in-Fewer.field-0.0 = search rules in
    rw (same, c.in-Fewer.is) (end_still {A = Next} (g.S.Searchable.searched c.args.on.now) _ _ _ _
    (Err c.in_err-fewer-in-Fewer.field-0.0) c.in_err-fewer-in-Fewer.ensures.stop)

pub returns-in_err-more-in-More-clause-stop : goal.returns-in_err-more-in-More-clause-stop
returns-in_err-more-in-More-clause-stop g c =
    let same : c.from_residual-in_err-more-in-More.result ≡ Err c.in_err-more-in-More.field-0.0 = search rules in
    rw (same, c.in-More.is) (end_still {A = Next} (g.S.Searchable.searched c.args.on.now) _ _ _ _
    (Err c.in_err-more-in-More.field-0.0) c.in_err-more-in-More.ensures.stop)

pub returns-in_err-finish-in-End-clause-stop : goal.returns-in_err-finish-in-End-clause-stop
returns-in_err-finish-in-End-clause-stop g c =
    let same : c.from_residual-in_err-finish-in-End.result ≡ Err c.in_err-finish-in-End.field-0.0 = search rules in
    rw (same, c.in-End.is) (end_still {A = Next} (g.S.Searchable.searched c.args.on.now) _ _ _ _
    (Err c.in_err-finish-in-End.field-0.0) c.in_err-finish-in-End.ensures.stop)

pub returns-in_err-back-in-Back-clause-stop : goal.returns-in_err-back-in-Back-clause-stop
returns-in_err-back-in-Back-clause-stop g c =
    let same : c.from_residual-in_err-back-in-Back.result ≡ Err c.in_err-back-in-Back.field-0.0 = search rules in
    rw (same, c.in-Back.is) (end_still {A = Next} (g.S.Searchable.searched c.args.on.now) _ _ _ _
    (Err c.in_err-back-in-Back.field-0.0) c.in_err-back-in-Back.ensures.stop)

pub returns-in_err-accept-in-Accept-clause-stop : goal.returns-in_err-accept-in-Accept-clause-stop
returns-in_err-accept-in-Accept-clause-stop g c =
    let same : c.from_residual-in_err-accept-in-Accept.result ≡ Err c.in_err-accept-in-Accept.field-0.0 =
    search rules in
    rw (same, c.in-Accept.is) (end_still {A = Next} (g.S.Searchable.searched c.args.on.now) _ _ _ _
    (Err c.in_err-accept-in-Accept.field-0.0) c.in_err-accept-in-Accept.ensures.stop)

pub returns-in_ok-branch-in-Branch-clause-on : goal.returns-in_ok-branch-in-Branch-clause-on
returns-in_ok-branch-in-Branch-clause-on g c =
    rw c.in-Branch.is (still _ (g.S.Searchable.searched c.args.on.now) _ _ c.in_ok-branch-in-Branch.ensures.on)

pub returns-in_ok-try_branch-in-Try-clause-on : goal.returns-in_ok-try_branch-in-Try-clause-on
returns-in_ok-try_branch-in-Try-clause-on g c =
    rw c.in-Try.is (still _ (g.S.Searchable.searched c.args.on.now) _ _ c.in_ok-try_branch-in-Try.ensures.on)

pub returns-in_ok-offer-in-Offer-clause-on : goal.returns-in_ok-offer-in-Offer-clause-on
returns-in_ok-offer-in-Offer-clause-on g c =
    rw c.in-Offer.is (still _ (g.S.Searchable.searched c.args.on.now) _ _ c.in_ok-offer-in-Offer.ensures.on)

pub returns-in_ok-begin-in-Begin-clause-on : goal.returns-in_ok-begin-in-Begin-clause-on
returns-in_ok-begin-in-Begin-clause-on g c =
    rw c.in-Begin.is (still _ (g.S.Searchable.searched c.args.on.now) _ _ c.in_ok-begin-in-Begin.ensures.on)

pub returns-in_ok-fewer-in-Fewer-clause-on : goal.returns-in_ok-fewer-in-Fewer-clause-on
returns-in_ok-fewer-in-Fewer-clause-on g c =
    rw c.in-Fewer.is (still _ (g.S.Searchable.searched c.args.on.now) _ _ c.in_ok-fewer-in-Fewer.ensures.on)

pub returns-in_ok-more-in-More-clause-on : goal.returns-in_ok-more-in-More-clause-on
returns-in_ok-more-in-More-clause-on g c =
    rw c.in-More.is (still _ (g.S.Searchable.searched c.args.on.now) _ _ c.in_ok-more-in-More.ensures.on)

pub returns-in_ok-finish-in-End-clause-on : goal.returns-in_ok-finish-in-End-clause-on
returns-in_ok-finish-in-End-clause-on g c =
    rw c.in-End.is (still _ (g.S.Searchable.searched c.args.on.now) _ _ c.in_ok-finish-in-End.ensures.on)

pub returns-in_ok-back-in-Back-clause-on : goal.returns-in_ok-back-in-Back-clause-on
returns-in_ok-back-in-Back-clause-on g c =
    rw c.in-Back.is (still _ (g.S.Searchable.searched c.args.on.now) _ _ c.in_ok-back-in-Back.ensures.on)

pub returns-in_ok-accept-in-Accept-clause-on : goal.returns-in_ok-accept-in-Accept-clause-on
returns-in_ok-accept-in-Accept-clause-on g c =
    rw c.in-Accept.is (still _ (g.S.Searchable.searched c.args.on.now) _ _ c.in_ok-accept-in-Accept.ensures.on)

pub returns-in-Settle-clause-on : goal.returns-in-Settle-clause-on
returns-in-Settle-clause-on g c =
    let ground = g.S.Searchable.searched c.args.on.now in
    let valid : IsValid ground (over Settle c.args.spot.now c.args.store.now c.args.registers.now) =
    rw c.in-Settle.is at c.requires.valid in
    rw (c.in-Settle.is, c.settle.ensures)
    (still _ ground _ _
    (turn_settle ground c.args.spot.now (entries c.args.store.now.records) c.args.registers.now valid))
