-- A file takes its place among others.
use Rattle.std.proofs.Common.{◌≡◌, ℕ, suc, ◌<◌, Bool, true, false, if◌then◌else◌, List, [], ◌∷◌, ◌++◌, map, length}
use Rattle.std.proofs.Common.{slice_set, bytes_eq, string_bytes, refl, ap, arith}
use Rattle.pcre_io.specs.MemTree.{place_of, with_file, file_view}
use Rattle.pcre_io.specs.declared.mem_files.MemFile.{MemFile}

module _ (m : MemFile) where
  abbrev place : List MemFile → ℕ
  place items = place_of (string_bytes m.name) (map file_view items)

  pub in_its_place : (items : List MemFile) → place items < length items
      → map file_view (slice_set items (place items) m) ≡ with_file (file_view m) (map file_view items)
  in_its_place [] h = absurd (omega (arith, h))
  in_its_place (x ∷ xs) h = by_name (in_its_place xs) (bytes_eq (string_bytes x.name) (string_bytes m.name)) h
    where
      by_name : (place xs < length xs → map file_view (slice_set xs (place xs) m) ≡ with_file (file_view m)
          (map file_view xs)) → (same : Bool) → (if same then 0 else suc (place xs)) < length (x ∷ xs)
          → map file_view (slice_set (x ∷ xs) (if same then 0 else suc (place xs)) m)
          ≡ (if same then file_view m ∷ map file_view xs else file_view x ∷ with_file (file_view m)
          (map file_view xs))
      by_name later true h = refl
      by_name later false h = ap (λ fs. file_view x ∷ fs) (later (omega (arith, h)))

  pub at_the_end : (items : List MemFile) → (place items < length items → ⊥)
      → map file_view (items ++ m ∷ []) ≡ with_file (file_view m) (map file_view items)
  at_the_end [] h = refl
  at_the_end (x ∷ xs) h = by_name (at_the_end xs) (bytes_eq (string_bytes x.name) (string_bytes m.name)) h
    where
      by_name : ((place xs < length xs → ⊥) → map file_view (xs ++ m ∷ []) ≡ with_file (file_view m)
          (map file_view xs)) → (same : Bool) → ((if same then 0 else suc (place xs)) < length (x ∷ xs) → ⊥)
          → map file_view ((x ∷ xs) ++ m ∷ []) ≡ (if same then file_view m ∷ map file_view xs else file_view
          x ∷ with_file (file_view m) (map file_view xs))
      by_name later true h = absurd (h (omega arith))
      by_name later false h = ap (λ fs. file_view x ∷ fs) (later (λ low. h (omega (arith, low))))
