-- Worked examples of the way back.
use Rattle.std.specs.Prelude.{◌≡◌, ℕ, List, [], ◌∷◌, Option, Some, None}
use Rattle.frame_store.specs.declared.registers.Span.{Span}
use Rattle.frame_store.specs.declared.records.Record.{Record}
use Rattle.frame_store.specs.declared.kinds.TheConstants.{KIND_UNDO, KIND_TURN_OPEN}
use Rattle.frame_store.specs.Entry.{Site, Kept, Undo, TurnOpen, Other, entry_of, entries}
use Rattle.frame_store.specs.Stack.{up_to, past}
use Rattle.frame_store.specs.Undo.{undone}

abbrev span : ℕ → ℕ → Option Span
span from to = Some (record { from = from; to = to })

-- a record of a kind at node 7 under height 2, with nothing but these fields
abbrev row_record : (kind slot count from to : ℕ) → Record
row_record kind slot count from to =
    record {
      kind = kind;
      slot = slot;
      node = 7;
      link = 2;
      mark = 0;
      passed = 0;
      units = 5;
      count = count;
      place = 3;
      keep = 0;
      early = 1;
      from = from;
      to = to;
    }

abbrev site : Site
site = record { node = 7; link = 2 }

abbrev kept : Kept
kept = record { units = 5; place = 3; mark = 0; passed = 0; keep = 0; early = 1 }

-- group 2 captured 4 to 6 and then 6 to 9, and group 1 captured 0 to 2 between
abbrev trail : List Record
trail =
    row_record 0 2 1 4 6 ∷ row_record 0 1 0 0 0 ∷ row_record KIND_TURN_OPEN 2 1 0 0 ∷ row_record 0 2 0 0 0 ∷ []

pub record AreRows : Type 0 where
  pub set_kept : entry_of (row_record KIND_UNDO 2 1 4 6) ≡ Undo site 2 (span 4 6)
  pub unset_kept : entry_of (row_record KIND_UNDO 2 7 4 6) ≡ Undo site 2 None
  pub turn : entry_of (row_record KIND_TURN_OPEN 0 9 0 0) ≡ TurnOpen site kept 9
  pub unknown : entry_of (row_record 255 2 1 4 6) ≡ Other site
  pub newest_taken : undone (past 3 (entries trail)) (span 0 2 ∷ span 6 9 ∷ []) ≡ span 0 2 ∷ span 4 6 ∷ []
  pub all_taken : undone (past 0 (entries trail)) (span 0 2 ∷ span 6 9 ∷ []) ≡ None ∷ None ∷ []
  pub none_taken : undone (past 4 (entries trail)) (span 0 2 ∷ span 6 9 ∷ []) ≡ span 0 2 ∷ span 6 9 ∷ []
  pub oldest_kept : up_to 1 trail ≡ row_record 0 2 0 0 0 ∷ []
