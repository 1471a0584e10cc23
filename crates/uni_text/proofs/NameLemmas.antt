-- The list of names, and the table that the code reads.
use Rattle.std.proofs.Common.{◌≡◌, ℕ, ◌<◌, ◌≤◌, List, map, length, Some, None, refl, sym, ap, ◌∙◌, get_or}
use Rattle.std.proofs.lemmas.Option.{slice_get_past, slice_get_read, slice_get-map}
use Rattle.std.specs.Option.{option_map}
use Rattle.std.specs.Borrow.{Bor}
use Rattle.uni_text.specs.declared.properties.Prop.{Prop}
use Rattle.uni_text.specs.Properties.{numbered}
use Rattle.uni_text.specs.Table.{row_of}

pub numbered-past : (rows : List (Bor (List ℕ) × Prop)) (n : ℕ) → length rows ≤ n → None ≡ numbered (map row_of rows) n
numbered-past rows n past =
    sym (ap (λ o. option_map (λ (row : List ℕ × Prop). row.1) o)
    (slice_get-map row_of rows n ∙ ap (option_map row_of) (slice_get_past rows n past)))

pub numbered-within : (rows : List (Bor (List ℕ) × Prop)) (n : ℕ) (row : Bor (List ℕ) × Prop) → n < length rows
    → row ≡ get_or rows n row → Some row.1 ≡ numbered (map row_of rows) n
numbered-within rows n row within is =
    sym (ap (λ o. option_map (λ (row : List ℕ × Prop). row.1) o)
    (slice_get-map row_of rows n ∙ ap (option_map row_of) (slice_get_read rows (length rows) n row refl within is)))
