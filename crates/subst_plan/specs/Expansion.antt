-- What a replacement writes for a match (pcre2api, "Creating a new string with substitutions").
use Rattle.std.specs.Prelude.{◌≡◌, ⊤, ℕ, suc, ◌-◌, ◌==◌, Bool, List, [], ◌∷◌, ◌++◌, Option, Some, None, Result, Ok}
use Rattle.std.specs.Prelude.{Err, slice_range, encode_utf8, if◌then◌else◌}
use Rattle.subst_plan.specs.declared.faults.ExpandError.{ExpandError}
use Rattle.subst_plan.specs.declared.faults.ExpandError.TheVariants as fault
use Rattle.subst_plan.specs.declared.faults.ExpandError.TheVariants.{NoGroup, Unset}
use Rattle.subst_plan.specs.declared.pieces.Key.{Key}
use Rattle.subst_plan.specs.declared.pieces.Key.TheVariants as key
use Rattle.subst_plan.specs.declared.pieces.Forcing.TheVariants.{Off}
use Rattle.subst_plan.specs.declared.pieces.Piece.{Piece}
use Rattle.subst_plan.specs.declared.pieces.Piece.TheVariants as piece
use Rattle.subst_plan.specs.declared.expanding.UnsetRules.{UnsetRules}
use Rattle.subst_plan.specs.declared.expanding.State.{State}
use Rattle.subst_plan.specs.Matched.{Matched, Found, text, unset, unknown, numbered, named}
use Rattle.subst_plan.specs.Plans.{Replacement}
use Rattle.subst_plan.specs.Forcing.{forced, forcing_after}

infixl 10 ◌>>=◌
-- what follows a success
abbrev pub ◌>>=◌ : {A B : Type 0} → Result A ExpandError → (A → Result B ExpandError) → Result B ExpandError
Ok found >>= rest = rest found
Err fault >>= rest = Err fault

-- bytes before what is written after them
abbrev pub after : List ℕ → Result (List ℕ) ExpandError → Result (List ℕ) ExpandError
after first (Ok rest) = Ok (first ++ rest)
after first (Err e) = Err e

-- the text of a group if it is set; there must be such a group, unless unknown groups count as
-- unset
abbrev pub set_text : UnsetRules → Found → Result (Option (List ℕ)) ExpandError
set_text rules (text bytes) = Ok (Some bytes)
set_text rules unset = Ok None
set_text rules unknown = if rules.unknown_unset then Ok None else Err NoGroup

-- bytes are written in the case that is forced
abbrev pub writing : State → List ℕ → List ℕ × State
writing state bytes = (forced state.forcing bytes, record state { forcing = forcing_after state.forcing bytes })

-- so many inner texts are open from the outermost one that is left out
abbrev pub leaving : State → ℕ → State
leaving state n = record state { left_out = n }

-- where a text is left out, how many are open after a piece of it
abbrev pub left_out_after : Piece → ℕ → ℕ
left_out_after (piece.Default key) n = suc n
left_out_after (piece.Choice key) n = suc n
left_out_after piece.Else n = if n == 1 then 0 else n
left_out_after piece.Close n = n - 1
left_out_after _ n = n

-- what a group writes: an unset one nothing, if it may
abbrev pub group_written : UnsetRules → State → Option (List ℕ) → Result (List ℕ × State) ExpandError
group_written rules state (Some bytes) = Ok (writing state bytes)
group_written rules state None = if rules.unset_empty then Ok ([], state) else Err Unset

-- the default of a set group is left out
abbrev pub default_of : State → Option (List ℕ) → List ℕ × State
default_of state (Some bytes) = ((writing state bytes).0, leaving (writing state bytes).1 1)
default_of state None = ([], state)

-- the first text is left out where the group is unset
abbrev pub choice_of : State → Option (List ℕ) → List ℕ × State
choice_of state (Some bytes) = ([], state)
choice_of state None = ([], leaving state 1)

module _ (rules : UnsetRules) (m : Matched) (whole : List ℕ) where
  -- what there is of the group of a piece
  abbrev pub found_of : Key → Found
  found_of (key.Number n) = numbered m n
  found_of (key.Name from to) = named m (slice_range whole from to)
  found_of key.NoGroup = unknown

  abbrev pub group_text : Key → Result (Option (List ℕ)) ExpandError
  group_text key = set_text rules (found_of key)

  -- what a piece writes where its text isn't left out
  abbrev pub piece_written : State → Piece → Result (List ℕ × State) ExpandError
  piece_written state (piece.Text from to) = Ok (writing state (slice_range whole from to))
  piece_written state (piece.Byte b) = Ok (writing state (b ∷ []))
  piece_written state (piece.Char c) = Ok (writing state (encode_utf8 c))
  piece_written state (piece.Group key) = group_text key >>= λ found. group_written rules state found
  piece_written state piece.Mark = Ok (writing state m.mark)
  piece_written state (piece.Force forcing) = Ok ([], record state { forcing = forcing })
  piece_written state (piece.Default key) = group_text key >>= λ found. Ok (default_of state found)
  piece_written state (piece.Choice key) = group_text key >>= λ found. Ok (choice_of state found)
  piece_written state piece.Else = Ok ([], leaving state 1)
  piece_written state piece.Close = Ok ([], state)

  -- what a piece writes, and how far the expansion has come after it
  abbrev pub piece_expanded : State → Piece → Result (List ℕ × State) ExpandError
  piece_expanded state p =
      if state.left_out == 0 then piece_written state p
      else Ok ([], leaving state (left_out_after p state.left_out))

  -- what pieces write, or the first that can't be expanded
  abbrev pub expanded_from : State → List Piece → Result (List ℕ) ExpandError
  expanded_from state [] = Ok []
  expanded_from state (p ∷ pieces) =
      piece_expanded state p >>= λ done. after done.0 (expanded_from done.1 pieces)

-- no case is forced at the begin of an expansion
abbrev pub beginning : State
beginning = record { forcing = Off; left_out = 0 }

abbrev pub rules_of : Bool → Bool → UnsetRules
rules_of unset_empty unknown_unset = record { unset_empty = unset_empty; unknown_unset = unknown_unset }

-- what a replacement writes for a match
abbrev pub expansion : UnsetRules → Matched → Replacement → Result (List ℕ) ExpandError
expansion rules m plan = expanded_from rules m plan.text beginning plan.pieces

-- what a call answers that can't expand, where it doesn't want memory
abbrev pub Refuses : {A : Type 0} → Result A ExpandError → ExpandError → Type 0
Refuses expanded fault.Memory = ⊤
Refuses expanded e = expanded ≡ Err e

-- What a piece writes is added, and how far the expansion has come is told.
abbrev pub Expands : List ℕ → List ℕ → Result (List ℕ × State) ExpandError → Result State ExpandError → Type 0
Expands old new expanded (Ok state) = (bytes : List ℕ) × (expanded ≡ Ok (bytes, state)) × (new ≡ old ++ bytes)
Expands old new expanded (Err e) = Refuses expanded e
