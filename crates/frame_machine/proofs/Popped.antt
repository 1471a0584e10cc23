-- A path that has failed goes back to its newest record.
use Rattle.std.proofs.Common.{◌≡◌, List, ◌∷◌, sym, subst}
use Rattle.frame_store.specs.declared.records.Record.{Record}
use Rattle.frame_store.specs.Captures.{Captures}
use Rattle.frame_store.specs.Entry.{entries, entry_of}
use Rattle.frame_store.specs.Undo.{taken_back}
use Rattle.frame_state.specs.declared.machine.Next.{Next}
use Rattle.frame_state.specs.declared.machine.Next.TheVariants.{Back}
use Rattle.frame_state.specs.declared.machine.Spot.{Spot}
use Rattle.frame_state.specs.Ground.{Ground}
use Rattle.frame_state.specs.Machine.{conf}
use Rattle.frame_state.specs.Validity.{IsValid, Advances}
use Rattle.frame_machine.specs.Back.{IsNewest, LeadsBack}

module _ (c : Ground) (spot : Spot) (old older : List Record) (r : Record) (caps : Captures) where
  pub is_newest : IsValid c (conf Back spot (entries old) caps) → old ≡ r ∷ older → IsNewest c spot r
  is_newest v popped = record {
    older = older;
    caps = caps;
    valid = subst (λ l. IsValid c (conf Back spot (entries l) caps)) popped v;
  }

  pub popped_leads : (now : Captures) (next : Next) (new : Spot) → IsValid c (conf Back spot (entries old) caps)
      → old ≡ r ∷ older → now ≡ taken_back (entry_of r) caps →
      LeadsBack c r spot next new → Advances c (conf Back spot (entries old) caps) (conf next new (entries older) now)
  popped_leads now next new v popped back leads =
      subst (λ x. Advances c (conf Back spot (entries old) caps) (conf next new (entries older) x)) (sym back)
      (subst (λ l. Advances c (conf Back spot (entries l) caps)
      (conf next new (entries older) (taken_back (entry_of r) caps))) (sym popped)
      (leads older caps (subst (λ l. IsValid c (conf Back spot (entries l) caps)) popped v)))
