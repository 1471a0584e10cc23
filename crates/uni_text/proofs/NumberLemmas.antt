-- A property's number is its place in the list of names.
use Rattle.std.proofs.Common.{◌≡◌, ℕ, ◌≤◌, Bool, true, ◌==◌, List, length, Option, Some, None, IfSome, refl, sym, ap}
use Rattle.std.proofs.Common.{subst, eqb-true, arith, inl, inr}
use Rattle.std.proofs.lemmas.Bool.{cases_lt}
use Rattle.std.proofs.lemmas.Option.{slice_get_past}
use Rattle.std.specs.Option.{option_map}
use Rattle.ucd_table.proofs.TrieCheck.{all_below, all_below-at}
use Rattle.ucd_category.specs.declared.GeneralCategory.{GeneralCategory}
use Rattle.ucd_category.specs.declared.GeneralCategory.TheVariants as category
use Rattle.ucd_category.specs.declared.GeneralCategoryGroup.{GeneralCategoryGroup}
use Rattle.ucd_category.specs.declared.GeneralCategoryGroup.TheVariants as group
use Rattle.ucd_script.specs.declared.Script.{Script as ScriptType}
use Rattle.ucd_script.specs.declared.Script.TheVariants as script
use Rattle.uni_text.specs.declared.properties.Prop.{Prop}
use Rattle.uni_text.specs.declared.properties.Prop.TheVariants.{Any, Xan, Xsp, Xps, Xwd, Group, Category, Script}
use Rattle.uni_text.specs.Names.{names}
use Rattle.uni_text.specs.Properties.{prop_number, prop_by_number}

by_group : (v : GeneralCategoryGroup) → prop_by_number (prop_number (Group v)) ≡ Some (Group v)
unfolding names
by_group group.Other = refl
by_group group.Letter = refl
by_group group.CasedLetter = refl
by_group group.Mark = refl
by_group group.Number = refl
by_group group.Punctuation = refl
by_group group.Symbol = refl
by_group group.Separator = refl

by_category : (v : GeneralCategory) → prop_by_number (prop_number (Category v)) ≡ Some (Category v)
unfolding names
by_category category.UppercaseLetter = refl
by_category category.LowercaseLetter = refl
by_category category.TitlecaseLetter = refl
by_category category.ModifierLetter = refl
by_category category.OtherLetter = refl
by_category category.NonspacingMark = refl
by_category category.SpacingMark = refl
by_category category.EnclosingMark = refl
by_category category.DecimalNumber = refl
by_category category.LetterNumber = refl
by_category category.OtherNumber = refl
by_category category.ConnectorPunctuation = refl
by_category category.DashPunctuation = refl
by_category category.OpenPunctuation = refl
by_category category.ClosePunctuation = refl
by_category category.InitialPunctuation = refl
by_category category.FinalPunctuation = refl
by_category category.OtherPunctuation = refl
by_category category.MathSymbol = refl
by_category category.CurrencySymbol = refl
by_category category.ModifierSymbol = refl
by_category category.OtherSymbol = refl
by_category category.SpaceSeparator = refl
by_category category.LineSeparator = refl
by_category category.ParagraphSeparator = refl
by_category category.Control = refl
by_category category.Format = refl
by_category category.Surrogate = refl
by_category category.PrivateUse = refl
by_category category.Unassigned = refl

by_script : (v : ScriptType) → prop_by_number (prop_number (Script v)) ≡ Some (Script v)
unfolding names
by_script script.Adlam = refl
by_script script.CaucasianAlbanian = refl
by_script script.Ahom = refl
by_script script.Arabic = refl
by_script script.ImperialAramaic = refl
by_script script.Armenian = refl
by_script script.Avestan = refl
by_script script.Balinese = refl
by_script script.Bamum = refl
by_script script.BassaVah = refl
by_script script.Batak = refl
by_script script.Bengali = refl
by_script script.BeriaErfe = refl
by_script script.Bhaiksuki = refl
by_script script.Bopomofo = refl
by_script script.Brahmi = refl
by_script script.Braille = refl
by_script script.Buginese = refl
by_script script.Buhid = refl
by_script script.Chakma = refl
by_script script.CanadianAboriginal = refl
by_script script.Carian = refl
by_script script.Cham = refl
by_script script.Cherokee = refl
by_script script.Chorasmian = refl
by_script script.Coptic = refl
by_script script.CyproMinoan = refl
by_script script.Cypriot = refl
by_script script.Cyrillic = refl
by_script script.Devanagari = refl
by_script script.DivesAkuru = refl
by_script script.Dogra = refl
by_script script.Deseret = refl
by_script script.Duployan = refl
by_script script.EgyptianHieroglyphs = refl
by_script script.Elbasan = refl
by_script script.Elymaic = refl
by_script script.Ethiopic = refl
by_script script.Garay = refl
by_script script.Georgian = refl
by_script script.Glagolitic = refl
by_script script.GunjalaGondi = refl
by_script script.MasaramGondi = refl
by_script script.Gothic = refl
by_script script.Grantha = refl
by_script script.Greek = refl
by_script script.Gujarati = refl
by_script script.GurungKhema = refl
by_script script.Gurmukhi = refl
by_script script.Hangul = refl
by_script script.Han = refl
by_script script.Hanunoo = refl
by_script script.Hatran = refl
by_script script.Hebrew = refl
by_script script.Hiragana = refl
by_script script.AnatolianHieroglyphs = refl
by_script script.PahawhHmong = refl
by_script script.NyiakengPuachueHmong = refl
by_script script.OldHungarian = refl
by_script script.OldItalic = refl
by_script script.Javanese = refl
by_script script.Jurchen = refl
by_script script.KayahLi = refl
by_script script.Katakana = refl
by_script script.Kawi = refl
by_script script.Kharoshthi = refl
by_script script.Khmer = refl
by_script script.Khojki = refl
by_script script.KhitanSmallScript = refl
by_script script.Kannada = refl
by_script script.KiratRai = refl
by_script script.Kaithi = refl
by_script script.TaiTham = refl
by_script script.Lao = refl
by_script script.Latin = refl
by_script script.Lepcha = refl
by_script script.Limbu = refl
by_script script.LinearA = refl
by_script script.LinearB = refl
by_script script.Lisu = refl
by_script script.Lycian = refl
by_script script.Lydian = refl
by_script script.Mahajani = refl
by_script script.Makasar = refl
by_script script.Mandaic = refl
by_script script.Manichaean = refl
by_script script.Marchen = refl
by_script script.Medefaidrin = refl
by_script script.MendeKikakui = refl
by_script script.MeroiticCursive = refl
by_script script.MeroiticHieroglyphs = refl
by_script script.Malayalam = refl
by_script script.Modi = refl
by_script script.Mongolian = refl
by_script script.Mro = refl
by_script script.MeeteiMayek = refl
by_script script.Multani = refl
by_script script.Myanmar = refl
by_script script.NagMundari = refl
by_script script.Nandinagari = refl
by_script script.OldNorthArabian = refl
by_script script.Nabataean = refl
by_script script.Newa = refl
by_script script.Nko = refl
by_script script.Nushu = refl
by_script script.Ogham = refl
by_script script.OlChiki = refl
by_script script.OlOnal = refl
by_script script.OldTurkic = refl
by_script script.Oriya = refl
by_script script.Osage = refl
by_script script.Osmanya = refl
by_script script.OldUyghur = refl
by_script script.Palmyrene = refl
by_script script.PauCinHau = refl
by_script script.ProtoCuneiform = refl
by_script script.OldPermic = refl
by_script script.PhagsPa = refl
by_script script.InscriptionalPahlavi = refl
by_script script.PsalterPahlavi = refl
by_script script.Phoenician = refl
by_script script.Miao = refl
by_script script.InscriptionalParthian = refl
by_script script.Rejang = refl
by_script script.HanifiRohingya = refl
by_script script.Runic = refl
by_script script.Samaritan = refl
by_script script.OldSouthArabian = refl
by_script script.Saurashtra = refl
by_script script.Seal = refl
by_script script.SignWriting = refl
by_script script.Shavian = refl
by_script script.Sharada = refl
by_script script.Siddham = refl
by_script script.Sidetic = refl
by_script script.Khudawadi = refl
by_script script.Sinhala = refl
by_script script.Sogdian = refl
by_script script.OldSogdian = refl
by_script script.SoraSompeng = refl
by_script script.Soyombo = refl
by_script script.Sundanese = refl
by_script script.Sunuwar = refl
by_script script.SylotiNagri = refl
by_script script.Syriac = refl
by_script script.Tagbanwa = refl
by_script script.Takri = refl
by_script script.TaiLe = refl
by_script script.NewTaiLue = refl
by_script script.Tamil = refl
by_script script.Tangut = refl
by_script script.TaiViet = refl
by_script script.TaiYo = refl
by_script script.Telugu = refl
by_script script.Tifinagh = refl
by_script script.Tagalog = refl
by_script script.Thaana = refl
by_script script.Thai = refl
by_script script.Tibetan = refl
by_script script.Tirhuta = refl
by_script script.Tangsa = refl
by_script script.Todhri = refl
by_script script.TolongSiki = refl
by_script script.Toto = refl
by_script script.TuluTigalari = refl
by_script script.Ugaritic = refl
by_script script.Vai = refl
by_script script.Vithkuqi = refl
by_script script.WarangCiti = refl
by_script script.Wancho = refl
by_script script.OldPersian = refl
by_script script.Cuneiform = refl
by_script script.Yezidi = refl
by_script script.Yi = refl
by_script script.ZanabazarSquare = refl
by_script script.Inherited = refl
by_script script.Common = refl
by_script script.Unknown = refl

-- the number of a property gives it back
pub prop_by_number-prop_number : (p : Prop) → prop_by_number (prop_number p) ≡ Some p
unfolding names
prop_by_number-prop_number Any = refl
prop_by_number-prop_number Xan = refl
prop_by_number-prop_number Xsp = refl
prop_by_number-prop_number Xps = refl
prop_by_number-prop_number Xwd = refl
prop_by_number-prop_number (Group v) = by_group v
prop_by_number-prop_number (Category v) = by_category v
prop_by_number-prop_number (Script v) = by_script v

-- a row's property, if there is a row, has that row's number
abbrev has_number : ℕ → Option Prop → Bool
has_number n None = true
has_number n (Some p) = prop_number p == n

rows_numbered : all_below (λ n. has_number n (prop_by_number n)) 221 ≡ true
unfolding names all_below
rows_numbered = refl

long : length names ≡ 221
unfolding names
long = refl

from_test : (n : ℕ) (o : Option Prop) → has_number n o ≡ true → IfSome o (λ p. prop_number p ≡ n)
from_test n None h = tt
from_test n (Some p) h = eqb-true (prop_number p) n h

past_names : (n : ℕ) → 221 ≤ n → prop_by_number n ≡ None
past_names n past = ap (option_map (λ (row : List ℕ × Prop). row.1))
    (slice_get_past names n (subst (λ k. k ≤ n) (sym long) past))

pub prop_number-prop_by_number : (n : ℕ) → IfSome (prop_by_number n) (λ p. prop_number p ≡ n)
prop_number-prop_by_number n = elim (cases_lt n 221) [
  | inl below ↦ from_test n (prop_by_number n)
      (all_below-at (λ n. has_number n (prop_by_number n)) 221 n rows_numbered below)
  | inr past ↦ subst (λ o. IfSome o (λ (p : Prop). prop_number p ≡ n)) (sym (past_names n (omega arith))) tt
]

pub prop_number_from : (n : ℕ) (p : Prop) → prop_by_number n ≡ Some p → prop_number p ≡ n
prop_number_from n p is = subst (λ o. IfSome o (λ (p : Prop). prop_number p ≡ n)) is (prop_number-prop_by_number n)
