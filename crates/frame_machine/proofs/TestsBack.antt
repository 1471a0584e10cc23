-- The steps of the machine back to a lookaround that is a condition's test.
use Rattle.std.proofs.Common.{◌≡◌, List, ◌∷◌, true, false, refl}
use Rattle.frame_store.specs.declared.records.Record.{Record}
use Rattle.frame_store.specs.declared.kinds.TheConstants.{KIND_LOOK_TEST, KIND_DENIAL_TEST}
use Rattle.frame_store.specs.Captures.{Captures}
use Rattle.frame_store.specs.Entry.{Site, Kept, Entry, LookTest, DenialTest, entry_of, entries, site_of, kept_of}
use Rattle.frame_store.specs.Undo.{taken_back}
use Rattle.frame_store.proofs.EntryLemmas.{entry_of-look_test, entry_of-denial_test}
use Rattle.frame_state.specs.declared.machine.Next.{Next}
use Rattle.frame_state.specs.declared.machine.Next.TheVariants.{Back}
use Rattle.frame_state.specs.declared.machine.Spot.{Spot}
use Rattle.frame_state.specs.Ground.{Ground, IsGround}
use Rattle.frame_state.specs.Machine.{conf}
use Rattle.frame_state.specs.Frames.{fail, outside}
use Rattle.frame_state.specs.Stops.{restored}
use Rattle.frame_state.specs.Validity.{IsValid, Advances}
use Rattle.frame_state.proofs.Advance.{advance_pause}
use Rattle.frame_state.proofs.Frames.{hand_same}
use Rattle.frame_parts.proofs.BackTurns.{pop_as}
use Rattle.frame_looks.specs.Conditions.{IsChoice}

module _ (c : Ground) (ok : IsGround c) (spot : Spot) (stack : List Entry) (caps : Captures) where
  back_look_test : (site : Site) (kept : Kept) (next : Next) → IsChoice c site.node false next
      → IsValid c (conf Back spot (LookTest site kept ∷ stack) caps) →
      Advances c (conf Back spot (LookTest site kept ∷ stack) caps) (conf next (restored spot site kept) stack caps)
  unfolding fail
  back_look_test site kept next choice v =
      advance_pause c _ _ _ refl (choice.goes _ (outside c stack caps site.link) _ _
      (λ p same. hand_same c stack caps site.link p site.node same)) refl
      (record {
        running = choice.runs (restored spot site kept) stack v.records.0.3 v.records.0.1;
        records = v.records.1;
        spans = v.spans;
        slots = v.slots;
      })

  back_denial_test : (site : Site) (kept : Kept) (next : Next) → IsChoice c site.node true next
      → IsValid c (conf Back spot (DenialTest site kept ∷ stack) caps) →
      Advances c (conf Back spot (DenialTest site kept ∷ stack) caps) (conf next (restored spot site kept) stack caps)
  unfolding fail
  back_denial_test site kept next choice v =
      advance_pause c _ _ _ refl (choice.goes _ (outside c stack caps site.link) _ _
      (λ p same. hand_same c stack caps site.link p site.node same)) refl
      (record {
        running = choice.runs (restored spot site kept) stack v.records.0.3 v.records.0.1;
        records = v.records.1;
        spans = v.spans;
        slots = v.slots;
      })

-- the same, of the records
module _ (c : Ground) (ok : IsGround c) (spot : Spot) (old older : List Record) (r : Record) (caps now : Captures)
    (v : IsValid c (conf Back spot (entries old) caps))
    (popped : old ≡ r ∷ older) (back : now ≡ taken_back (entry_of r) caps) where
  pub pop_look_test : r.kind ≡ KIND_LOOK_TEST → (next : Next) → IsChoice c r.node false next
      → Advances c (conf Back spot (entries old) caps)
      (conf next (restored spot (site_of r) (kept_of r)) (entries older) now)
  pop_look_test e next choice = pop_as c ok spot old older r caps now v popped back _ (entry_of-look_test r e)
      (λ x. conf next (restored spot (site_of r) (kept_of r)) (entries older) x)
      (back_look_test c ok spot (entries older) caps (site_of r) (kept_of r) next choice)

  pub pop_denial_test : r.kind ≡ KIND_DENIAL_TEST → (next : Next) → IsChoice c r.node true next
      → Advances c (conf Back spot (entries old) caps)
      (conf next (restored spot (site_of r) (kept_of r)) (entries older) now)
  pop_denial_test e next choice = pop_as c ok spot old older r caps now v popped back _ (entry_of-denial_test r e)
      (λ x. conf next (restored spot (site_of r) (kept_of r)) (entries older) x)
      (back_denial_test c ok spot (entries older) caps (site_of r) (kept_of r) next choice)
