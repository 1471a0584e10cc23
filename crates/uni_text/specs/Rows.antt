-- The definitions on small texts. The encodings are the examples of RFC 3629, section 7, and the greatest code point.
use Rattle.std.specs.Prelude.{◌≡◌, ℕ, true, false, List, [], ◌∷◌, Some, None, codes}
use Rattle.ucd_category.specs.declared.GeneralCategory.TheVariants.{UppercaseLetter, Unassigned}
use Rattle.ucd_category.specs.declared.GeneralCategoryGroup.TheVariants.{CasedLetter}
use Rattle.ucd_script.specs.declared.Script.TheVariants.{Greek, SignWriting}
use Rattle.uni_text.specs.declared.properties.Prop.TheVariants.{Any, Xsp, Group, Category, Script}
use Rattle.uni_text.specs.Characters.{char_at, char_before}
use Rattle.uni_text.specs.Ascii.{is_word_char, ascii_fold}
use Rattle.uni_text.specs.Folding.{fold}
use Rattle.uni_text.specs.Properties.{has_prop, prop_by_name}
use Rattle.uni_text.specs.Sets.{digit, space, word, punct}

-- U+0041, U+2262, U+0391
abbrev pub a_not_alpha : List ℕ
a_not_alpha = 0x41 ∷ 0xE2 ∷ 0x89 ∷ 0xA2 ∷ 0xCE ∷ 0x91 ∷ []

-- U+233B4 and U+10FFFF
abbrev pub far : List ℕ
far = 0xF0 ∷ 0xA3 ∷ 0x8E ∷ 0xB4 ∷ 0xF4 ∷ 0x8F ∷ 0xBF ∷ 0xBF ∷ []

pub record WorkedRows : Type 0 where
  pub one : char_at true a_not_alpha 0 ≡ (0x41, 1)
  pub three : char_at true a_not_alpha 1 ≡ (0x2262, 4)
  pub two : char_at true a_not_alpha 4 ≡ (0x391, 6)
  pub four : char_at true far 0 ≡ (0x233B4, 4)
  pub before_end : char_before true a_not_alpha 6 ≡ (0x391, 4)
  pub before_two : char_before true a_not_alpha 4 ≡ (0x2262, 1)
  pub before_last : char_before true far 8 ≡ (0x10_FFFF, 4)
  pub byte : char_at false a_not_alpha 1 ≡ (0xE2, 2)
  pub byte_before : char_before false a_not_alpha 6 ≡ (0x91, 5)
  pub underscore : is_word_char 95 ≡ true
  pub hyphen : is_word_char 45 ≡ false
  pub folded : ascii_fold 90 ≡ 122

-- properties by their names, and what they ask
pub record PropertyRows : Type 0 where
  pub category : prop_by_name (codes "Lu") ≡ Some (Category UppercaseLetter)
  pub cased : prop_by_name (codes "l&") ≡ Some (Group CasedLetter)
  pub passed_over : prop_by_name (codes " Sign_writ-ING ") ≡ Some (Script SignWriting)
  pub unknown : prop_by_name (codes "Nosuch") ≡ None
  pub alpha_is_greek : has_prop (Script Greek) 0x3B1 ≡ true
  pub a_is_not_greek : has_prop (Script Greek) 0x61 ≡ false
  pub surrogate : has_prop Any 0xD800 ≡ false
  pub past_unicode : has_prop (Category Unassigned) 0x11_0000 ≡ false
  pub wide_space : has_prop Xsp 0x3000 ≡ true

-- the three letters that fold to k, the two forms of sigma, and sets with UCP and without
pub record FoldingRows : Type 0 where
  pub kelvin : fold 0x212A ≡ 0x6B
  pub capital_k : fold 0x4B ≡ 0x6B
  pub long_s : fold 0x17F ≡ 0x73
  pub final_sigma : fold 0x3C2 ≡ 0x3C3
  pub sharp_s : fold 0xDF ≡ 0xDF
  pub digit_of_arabic : digit true 0x660 ≡ true
  pub digit_of_ascii : digit false 0x660 ≡ false
  pub next_line : space true 0x85 ≡ true
  pub next_byte : space false 0x85 ≡ false
  pub accent_alone : word true 0x301 ≡ true
  pub circle_around : word true 0x20DD ≡ false
  pub undertie : word true 0x203F ≡ true
  pub undertie_of_ascii : word false 0x203F ≡ false
  pub dollar : punct true 0x24 ≡ true
  pub euro : punct true 0x20AC ≡ false
