-- Classes as they are written, at single characters.
use Rattle.std.specs.Prelude.{◌≡◌, Bool, true, false, List, [], ◌∷◌}
use Rattle.pat_tree.specs.declared.nodes.SetName.TheVariants.{Space, Word, Alpha, Upper, H, Property}
use Rattle.pat_tree.specs.declared.nodes.Part.{Part}
use Rattle.pat_tree.specs.declared.nodes.Part.TheVariants.{Range, Set}
use Rattle.pat_tree.specs.declared.nodes.ClassSpec.{ClassSpec}
use Rattle.char_sets.specs.Sets.{takes}

abbrev pub class : Bool → Bool → List Part → ClassSpec
class negated caseless parts = record { negated = negated; caseless = caseless; parts = parts }

pub record WorkedRows : Type 0 where
  -- [^a] takes b and not a, and under CASELESS not A either
  pub not_a_b : takes false (class true false (Range 97 97 ∷ [])) 98 ≡ true
  pub not_a_a : takes false (class true false (Range 97 97 ∷ [])) 97 ≡ false
  pub not_a_cased : takes false (class true true (Range 97 97 ∷ [])) 65 ≡ false
  -- [W-c] under CASELESS takes w and the bracket between the cases
  pub w_folds : takes false (class false true (Range 87 99 ∷ [])) 119 ≡ true
  pub bracket : takes false (class false true (Range 87 99 ∷ [])) 91 ≡ true
  -- \s takes VT, and \w the underscore
  pub vertical_tab : takes false (class false false (Set Space false false ∷ [])) 11 ≡ true
  pub underscore : takes false (class false false (Set Word false false ∷ [])) 95 ≡ true
  -- [[:^alpha:]_]
  pub not_alpha : takes false (class false false (Set Alpha true false ∷ Range 95 95 ∷ [])) 65 ≡ false
  -- [[:upper:]] under CASELESS takes a small letter
  pub upper_folds : takes false (class false true (Set Upper false false ∷ [])) 97 ≡ true
  -- past the bytes: \H without EN QUAD
  pub not_en_quad : takes false (class false false (Set H true false ∷ [])) 0x2000 ≡ false

-- in UTF
pub record WorkedUnicode : Type 0 where
  -- [^k] under CASELESS doesn't take the sign of the kelvin, which outside UTF it takes
  pub not_kelvin : takes true (class true true (Range 0x6B 0x6B ∷ [])) 0x212A ≡ false
  pub not_k : takes true (class true true (Range 0x6B 0x6B ∷ [])) 0x4B ≡ false
  pub kelvin_outside : takes false (class true true (Range 0x6B 0x6B ∷ [])) 0x212A ≡ true
  -- [\x{17f}] under CASELESS takes s
  pub long_s : takes true (class false true (Range 0x17F 0x17F ∷ [])) 0x73 ≡ true
  -- [\w] and [\W] with UCP
  pub e_acute : takes true (class false false (Set Word false true ∷ [])) 0xE9 ≡ true
  pub not_a_word : takes true (class false false (Set Word true true ∷ [])) 0xE9 ≡ false
  -- [[:upper:]] with UCP under CASELESS, and \p{Lu}, which stays
  pub upper_folds : takes true (class false true (Set Upper false true ∷ [])) 0x3B1 ≡ true
  pub property_stays : takes true (class false true (Set (Property 13) false false ∷ [])) 0x3B1 ≡ false
  -- \P{Lu} takes what is no character
  pub surrogate : takes true (class false false (Set (Property 13) true false ∷ [])) 0xD800 ≡ true
  -- a number of no property
  pub no_property : takes true (class false false (Set (Property 65535) false false ∷ [])) 0x41 ≡ false
