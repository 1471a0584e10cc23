-- The characters of a text, one after the other.
use Rattle.std.proofs.Common.{◌≡◌, ◌∙◌, ℕ, ◌+◌, ◌-◌, ◌<◌, ◌≤◌, Bool, true, false, List, [], ◌∷◌, ◌++◌, length, take}
use Rattle.std.proofs.Common.{drop, refl, sym, ap, subst, arith, take-append-drop, append-nil, append_assoc}
use Rattle.std.proofs.Math.Utf8.{encode}
use Rattle.std.proofs.lemmas.List.{take-take, drop-take, take_all}
use Rattle.std.proofs.lemmas.Str.{IsUtf8-encode, IsUtf8-take, chars-append, chars_past_char, chars-nil, len_utf8_bounds}
use Rattle.std.specs.Str.{chars}
use Rattle.std.specs.Char.{len_utf8}
use Rattle.uni_text.specs.Characters.{char_at, first_char, IsChecked, IsPlace, IsCharSpan}
use Rattle.pat_tree.specs.declared.nodes.Placed.{Placed}
use Rattle.pat_tree.specs.declared.options.Options.{Options}
use Rattle.pat_tree.specs.Nested.{Nested}
use Rattle.pat_tree.specs.Growing.{Stand}
use Rattle.pat_grammar.specs.Reading.{characters, width, spelt, spelling, before_item, literal_parts}

-- a character ends past its place
pub goes_on : (utf : Bool) (text : List ℕ) (at c n : ℕ) → (c, n) ≡ char_at utf text at → at < n
goes_on false text at c n value = let next : n ≡ at + 1 = ap (λ (x : ℕ × ℕ). x.1) value in omega (arith, next)
goes_on true text at c n value =
    let next : n ≡ at + len_utf8 (first_char (drop at text)) = ap (λ (x : ℕ × ℕ). x.1) value in
    let some : 1 ≤ len_utf8 (first_char (drop at text)) = (len_utf8_bounds (first_char (drop at text))).0 in
    omega (arith, next, some)

-- the text up to the end of what stands at a place
up_to : (text : List ℕ) (at n : ℕ) (more : List ℕ) → at ≤ n → take (n - at) (drop at text) ≡ more
    → take n text ≡ take at text ++ more
up_to text at n more ordered stands =
    let whole : n ≡ at + (n - at) = omega arith in
    let front : take at (take n text) ≡ take at text = take-take at n text ordered in
    let back : drop at (take n text) ≡ more = ap (λ k. drop at (take k text)) whole ∙ drop-take at (n - at) text
    ∙ stands in
    sym (take-append-drop at (take n text)) ∙ ap (λ xs. xs ++ drop at (take n text)) front
    ∙ ap (λ ys. take at text ++ ys) back

-- the characters up to a place, and the one that begins there
next_character : (utf : Bool) (text : List ℕ) (at c n : ℕ) → IsChecked utf text → IsPlace utf text at → at < n
    → IsCharSpan utf text c at n →
    characters utf (take n text) ≡ characters utf (take at text) ++ c ∷ []
next_character false text at c n checked place goes span = up_to text at n (c ∷ []) (omega arith) span.stands
next_character true text at c n checked place goes span =
    let one_char : chars (encode c) ≡ c ∷ [] =
    chars_past_char (encode c) [] c (IsUtf8-encode c (span.scalar refl)) (sym (append-nil (encode c)))
    ∙ ap (λ cs. c ∷ cs) chars-nil in
    ap chars (up_to text at n (encode c) (omega arith) span.stands)
    ∙ chars-append (take at text) (encode c) (IsUtf8-take text at (checked refl) (place.1 refl))
    ∙ ap (λ cs. chars (take at text) ++ cs) one_char

no_characters : (utf : Bool) → characters utf [] ≡ []
no_characters false = refl
no_characters true = chars-nil

-- how many bytes these characters have
abbrev pub bytes_in : Bool → List ℕ → ℕ
bytes_in utf [] = 0
bytes_in utf (c ∷ cs) = width utf c + bytes_in utf cs

bytes_push : (utf : Bool) (cs : List ℕ) (c : ℕ) → bytes_in utf (cs ++ c ∷ []) ≡ bytes_in utf cs + width utf c
bytes_push utf [] c = omega arith
bytes_push utf (x ∷ cs) c = omega (arith, bytes_push utf cs c)

width_is : (utf : Bool) (text : List ℕ) (at c n : ℕ) → (c, n) ≡ char_at utf text at → n ≡ at + width utf c
width_is false text at c n value = ap (λ (x : ℕ × ℕ). x.1) value
width_is true text at c n value = ap (λ (x : ℕ × ℕ). x.1) value
    ∙ ap (λ k. at + len_utf8 k) (sym (ap (λ (x : ℕ × ℕ). x.0) value))

-- one character more
spelling_push : (options : Options) (at : ℕ) (cs : List ℕ) (c : ℕ) →
    spelling options at (cs ++ c ∷ []) ≡ spelling options at cs ++ spelling options (at + bytes_in options.utf cs)
    (c ∷ [])
spelling_push options at [] c = let e : at ≡ at + 0 = omega arith in ap (λ n. spelling options n (c ∷ [])) e
spelling_push options at (x ∷ cs) c =
    let len : ℕ = width options.utf x in
    let first : List Nested = before_item options (record { at = at; len = len }) in
    let more : List Nested = spelling options (at + len) cs in
    let last : ℕ → List Nested = λ n. spelling options n (c ∷ []) in
    let e : (at + len) + bytes_in options.utf cs ≡ at + (len + bytes_in options.utf cs) = omega arith in
    ap (λ ps. first ++ spelt options x ∷ ps) (spelling_push options (at + len) cs c ∙ ap (λ n. more ++ last n) e)
    ∙ sym (append_assoc first (spelt options x ∷ more) (last (at + (len + bytes_in options.utf cs))))

module _ (nodes : List Placed) (options : Options) (text kids : List ℕ) where
  -- the nodes of the characters up to a place, which have so many bytes
  abbrev pub Reached : ℕ → Type 0
  Reached at =
      let cs = characters options.utf (take at text) in
      Stand nodes kids (spelling options 0 cs) × (bytes_in options.utf cs ≡ at)

  pub reached_none : Stand nodes kids [] → Reached 0
  reached_none s = rw (no_characters options.utf) (s, refl)

  pub reached_next : (at c n : ℕ) → IsChecked options.utf text → IsPlace options.utf text at
      → (c, n) ≡ char_at options.utf text at → IsCharSpan options.utf text c at n →
      bytes_in options.utf (characters options.utf (take at text)) ≡ at →
      Stand nodes kids
      ((spelling options 0 (characters options.utf (take at text)) ++ before_item options
      (record { at = at; len = n - at })) ++ spelt options c ∷ []) → Reached n
  reached_next at c n checked place value span bytes s =
      let cs : List ℕ = characters options.utf (take at text) in
      let next : n ≡ at + width options.utf c = width_is options.utf text at c n value in
      let len : n - at ≡ width options.utf c = omega (arith, next) in
      let item : ℕ → List Nested = λ k. before_item options (record { at = at; len = k }) in
      let ends : 0 + bytes_in options.utf cs ≡ at = omega (arith, bytes) in
      let last : spelling options at (c ∷ []) ≡ item (n - at) ++ spelt options c ∷ [] =
      ap (λ k. item k ++ spelt options c ∷ []) (sym len) in
      let all : spelling options 0 (cs ++ c ∷ []) ≡ (spelling options 0 cs ++ item (n - at)) ++ spelt options c ∷ [] =
      spelling_push options 0 cs c ∙ ap (λ k. spelling options 0 cs ++ spelling options k (c ∷ [])) ends
      ∙ ap (λ ps. spelling options 0 cs ++ ps) last
      ∙ sym (append_assoc (spelling options 0 cs) (item (n - at)) (spelt options c ∷ [])) in
      rw (next_character options.utf text at c n checked place (goes_on options.utf text at c n value) span)
      (subst (Stand nodes kids) (sym all) s, omega (arith, bytes_push options.utf cs c, bytes, next))

  pub reached_all : (at : ℕ) → length text ≤ at → at ≤ length text →
      Stand nodes kids (spelling options 0 (characters options.utf (take at text)) ++ before_item options
      (record { at = at; len = 0 })) → Stand nodes kids (literal_parts options text)
  reached_all at past within s =
      let ends : at ≡ length text = omega arith in
      subst (Stand nodes kids)
      (ap (λ cs. spelling options 0 (characters options.utf cs) ++ before_item options (record { at = at; len = 0 }))
      (take_all at text past)
      ∙ ap (λ k. spelling options 0 (characters options.utf text) ++ before_item options (record { at = k; len = 0 }))
      ends) s
