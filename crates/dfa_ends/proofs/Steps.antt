-- How far one item, `\R` and anchors go: forward, and only before the subject's end.
use Rattle.std.proofs.Common.{◌≡◌, ℕ, ◌+◌, ◌<◌, ◌≤◌, Bool, true, false, List, length, drop, Option, Some, None}
use Rattle.std.proofs.Common.{nat_le, nat_lt, refl, arith, leb-false, ltb-true, inl, inr}
use Rattle.std.proofs.lemmas.Str.{len_utf8_bounds}
use Rattle.std.specs.Char.{len_utf8}
use Rattle.std.proofs.lemmas.Bool.{cases_lt}
use Rattle.pat_tree.specs.declared.nodes.Item.{Item}
use Rattle.pat_tree.specs.Newlines.{break_kind}
use Rattle.uni_text.specs.Characters.{first_char, char_at}
use Rattle.match_items.specs.Scene.{Scene}
use Rattle.match_items.specs.Items.{takes, after_item, break_len, after_break}
use Rattle.match_items.proofs.Newlines.{newline_past}

-- the next character ends past its place
past : (utf : Bool) (bytes : List ℕ) (p : ℕ) → p < (char_at utf bytes p).1
past false bytes p = omega arith
past true bytes p =
    let wide = len_utf8_bounds (first_char (drop p bytes)) in
    let one : 1 ≤ len_utf8 (first_char (drop p bytes)) = wide.0 in
    omega (arith, one)

some_same : (a b : ℕ) → ◌≡◌ {A = Option ℕ} (Some a) (Some b) → a ≡ b
some_same a b e = cc

module _ (g : Scene) (item : Item) (p q : ℕ) where
  by_takes : (t : Bool) → elim t as (λ _. Option ℕ) [
    | true ↦ Some (char_at g.options.utf g.subject p).1
    | false ↦ None
  ] ≡ Some q → p < q
  by_takes true e =
      let same : (char_at g.options.utf g.subject p).1 ≡ q = some_same _ _ e in
      let far : p < (char_at g.options.utf g.subject p).1 = past g.options.utf g.subject p in
      omega (arith, same, far)
  by_takes false e = cc

  by_end : (b : Bool) → nat_le (length g.subject) p ≡ b →
      elim (elim b as (λ _. Option (ℕ × ℕ)) [
        | true ↦ None
        | false ↦ Some (char_at g.options.utf g.subject p)
      ]) as (λ _. Option ℕ) [
        | None ↦ None
        | Some c ↦ elim (takes g item p c.0) [ true ↦ Some c.1 | false ↦ None ]
      ] ≡ Some q → (p < q) × (p < length g.subject)
  by_end true b e = cc
  by_end false b e =
      let there = leb-false _ _ b in
      (by_takes (takes g item p (char_at g.options.utf g.subject p).0) e, omega (arith, there))

  pub item_steps : after_item g item p ≡ Some q → (p < q) × (p < length g.subject)
  item_steps e = by_end (nat_le (length g.subject) p) refl e

  by_length : (b : Bool) → nat_lt 0 (break_len g p) ≡ b →
      elim b as (λ _. Option ℕ) [ true ↦ Some (p + break_len g p) | false ↦ None ] ≡ Some q →
      (p < q) × (p < length g.subject)
  by_length true b e =
      let some : 0 < break_len g p = ltb-true _ _ b in
      let same : p + break_len g p ≡ q = some_same _ _ e in (
        omega (arith, some, same),
        elim (cases_lt p (length g.subject)) [
          | inl h ↦ h
          | inr h ↦
              let none : break_len g p ≡ 0 = newline_past (break_kind g.options.bsr g.options.utf)
              g.subject p h in
              absurd (omega (arith, some, none))
        ],
      )
  by_length false b e = cc

  pub break_steps : after_break g p ≡ Some q → (p < q) × (p < length g.subject)
  break_steps e = by_length (nat_lt 0 (break_len g p)) refl e
