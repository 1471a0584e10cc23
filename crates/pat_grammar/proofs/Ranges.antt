-- What a character of a class begins, by the tokens after it.
use Rattle.std.proofs.Common.{◌≡◌, ℕ, ◌<◌, ◌≤◌, Bool, true, false, ◌&&◌, nat_lt, List, Option, Some, None, Ok, Err}
use Rattle.std.proofs.Common.{refl, ◌∙◌, if◌then◌else◌, arith}
use Rattle.std.proofs.lemmas.Bool.Decides.{nat_tests}
use Rattle.pat_tree.specs.declared.nodes.Part.{Part}
use Rattle.pat_tree.specs.declared.nodes.Part.TheVariants.{Range}
use Rattle.token_parts.specs.declared.fault.Fault.{Fault}
use Rattle.token_parts.specs.declared.token.Token.{Token}
use Rattle.token_parts.specs.Tell.{fault}
use Rattle.pat_grammar.specs.State.{State, Reads, item}
use Rattle.pat_grammar.specs.Classes.{character, is_hyphen, is_last, is_last_item, part_then, range_or_hyphen}
use Rattle.pat_grammar.specs.Classes.{from_character, from_set}

module _ (text : List ℕ) (n : ℕ) (rest : State → Reads (List Part)) (c : ℕ) (here : State) where
  module _ (before after : State) where
    module _ (token : Token) (to end : State) (found : item text true n after ≡ Ok (token, to, end)) where
      -- by whether the token is the last, and its character
      abbrev ranged : Bool → Option ℕ → Reads (List Part)
      ranged last (Some d) = if nat_lt d c then fault 108 here.at else part_then (Range c d) (rest end)
      ranged last None = if last then part_then (Range c c) (rest before) else fault 150 before.at

      range_is : range_or_hyphen text n rest c here before after ≡ ranged (is_last token) (character token)
      unfolding range_or_hyphen
      range_is = rw found refl

      pub range_made : (d : ℕ) → Some d ≡ character token → c ≤ d
          → range_or_hyphen text n rest c here before after ≡ part_then (Range c d) (rest end)
      range_made d is order =
          let in_order : nat_lt d c ≡ false = grind (arith, nat_tests) in
          range_is ∙ rw (← is, in_order) refl

      pub range_backward : (d : ℕ) → Some d ≡ character token → d < c
          → range_or_hyphen text n rest c here before after ≡ fault 108 here.at
      range_backward d is order =
          let backward : nat_lt d c ≡ true = grind (arith, nat_tests) in
          range_is ∙ rw (← is, backward) refl

      pub hyphen_last : None ≡ character token → is_last token ≡ true
          → range_or_hyphen text n rest c here before after ≡ part_then (Range c c) (rest before)
      hyphen_last none last = range_is ∙ rw (← none, last) refl

      pub hyphen_between : None ≡ character token → is_last token ≡ false
          → range_or_hyphen text n rest c here before after ≡ fault 150 before.at
      hyphen_between none last = range_is ∙ rw (← none, last) refl

    pub range_bad : (f : Fault) → item text true n after ≡ Err f
        → range_or_hyphen text n rest c here before after ≡ Err f
    unfolding range_or_hyphen
    range_bad f bad = rw bad refl

  module _ (after : State) where
    module _ (token : Token) (before beyond : State) (found : item text true n after ≡ Ok (token, before, beyond)) where
      pub character_hyphen : is_hyphen token ≡ true → from_character text n rest c here after ≡ range_or_hyphen text n
          rest c here before beyond
      unfolding from_character
      character_hyphen hyphen = rw (found, hyphen) refl

      pub character_alone : is_hyphen token ≡ false → from_character text n rest c here after ≡ part_then (Range c c)
          (rest after)
      unfolding from_character
      character_alone hyphen = rw (found, hyphen) refl

    pub character_bad : (f : Fault) → item text true n after ≡ Err f → from_character text n rest c here after ≡ Err f
    unfolding from_character
    character_bad f bad = rw bad refl

module _ (text : List ℕ) (n : ℕ) (rest : State → Reads (List Part)) (set : Part) (after : State) where
  module _ (token : Token) (before beyond : State) (found : item text true n after ≡ Ok (token, before, beyond)) where
    pub set_alone : is_hyphen token ≡ false → from_set text n rest set after ≡ part_then set (rest after)
    unfolding from_set
    set_alone hyphen = rw (found, hyphen) refl

    pub set_ends : is_last_item (item text true n beyond) ≡ true
        → from_set text n rest set after ≡ part_then set (rest after)
    unfolding from_set
    set_ends last =
        rw (found, last)
        (elim (is_hyphen token) as (λ b. ◌≡◌ {A = Reads (List Part)}
        (if b && false then fault 150 before.at else part_then set (rest after)) (part_then set (rest after)))
        [ true ↦ refl | false ↦ refl ])

    pub set_refused : is_hyphen token ≡ true → is_last_item (item text true n beyond) ≡ false
        → from_set text n rest set after ≡ fault 150 before.at
    unfolding from_set
    set_refused hyphen last = rw (found, hyphen, last) refl

  pub set_bad : (f : Fault) → item text true n after ≡ Err f → from_set text n rest set after ≡ Err f
  unfolding from_set
  set_bad f bad = rw bad refl
