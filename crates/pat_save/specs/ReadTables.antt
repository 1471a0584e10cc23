-- Reading what an image has of a pattern besides its nodes.
use Rattle.std.specs.Prelude.{ℕ, zero, suc, ◌/◌, ◌%◌, Bool, true, false, not, ◌||◌, ◌&&◌, ◌==◌, List, [], ◌∷◌}
use Rattle.std.specs.Prelude.{Option, Some, None, nat_lt, nat_le, is_some, if◌then◌else◌}
use Rattle.std.specs.Int.{w16, w32}
use Rattle.std.specs.Str.{is_utf8}
use Rattle.uni_text.specs.Properties.{is_char, prop_by_number}
use Rattle.pat_tree.specs.declared.options.Options.{Options}
use Rattle.pat_tree.specs.declared.options.Newline.{Newline}
use Rattle.pat_tree.specs.declared.options.Newline.TheVariants as newline
use Rattle.pat_tree.specs.declared.options.Bsr.{Bsr}
use Rattle.pat_tree.specs.declared.options.Bsr.TheVariants as bsr
use Rattle.pat_tree.specs.declared.nodes.SetName.{SetName}
use Rattle.pat_tree.specs.declared.nodes.SetName.TheVariants as set
use Rattle.pat_tree.specs.declared.nodes.Part.{Part}
use Rattle.pat_tree.specs.declared.nodes.Part.TheVariants as part
use Rattle.pat_tree.specs.declared.nodes.ClassSpec.{ClassSpec}
use Rattle.pat_tree.specs.declared.names.NameEntry.{NameEntry}
use Rattle.pat_tree.specs.Names.{name_cmp}
use Rattle.pat_save.specs.Reading.{Reader, ◌>>=◌, byte_at, number_at, bytes_at, joined, chosen, made, passing, listed}
use Rattle.pat_save.specs.Reading.{optional_at, either_at, counted_at, short_text_at, comes_after}

-- the bit of this place, from 0
unfoldable pub bit_of : ℕ → ℕ → Bool
bit_of n zero = n % 2 == 1
bit_of n (suc i) = bit_of (n / 2) i

-- the options of these bits
abbrev pub options_of : ℕ → Newline → Bsr → Option ℕ → Options
options_of n newline bsr limit = record {
  anchored = bit_of n 0;
  endanchored = bit_of n 1;
  caseless = bit_of n 2;
  multiline = bit_of n 3;
  dotall = bit_of n 4;
  extended = bit_of n 5;
  extended_more = bit_of n 6;
  dollar_endonly = bit_of n 7;
  dupnames = bit_of n 8;
  firstline = bit_of n 9;
  literal = bit_of n 10;
  no_auto_capture = bit_of n 11;
  ungreedy = bit_of n 12;
  utf = bit_of n 13;
  ucp = bit_of n 14;
  allow_empty_class = bit_of n 15;
  match_unset_backref = bit_of n 16;
  no_start_optimize = bit_of n 17;
  auto_callout = bit_of n 18;
  notempty = bit_of n 19;
  notempty_atstart = bit_of n 20;
  newline = newline;
  bsr = bsr;
  match_limit = limit;
}

abbrev pub newline_of : ℕ → Option Newline
newline_of =
    listed 0 (newline.Cr ∷ newline.Lf ∷ newline.CrLf ∷ newline.AnyCrLf ∷ newline.Any ∷ newline.Nul ∷ [])

abbrev pub bsr_of : ℕ → Option Bsr
bsr_of = listed 0 (bsr.Unicode ∷ bsr.AnyCrLf ∷ [])

-- no bit is set beyond the last of the bools
abbrev pub is_flags : ℕ → Bool
is_flags n = nat_lt n 2097152

unfoldable pub options_at : Reader Options
options_at = made (λ x. options_of x.0 x.1.0 x.1.1.0 x.1.1.1)
    (joined (passing is_flags (number_at w32)) (λ _. joined (chosen newline_of byte_at)
    (λ _. joined (chosen bsr_of byte_at) (λ _. optional_at (number_at w32)))))

abbrev pub is_checked : Bool → List ℕ → Bool
is_checked utf text = not utf || is_utf8 text

unfoldable pub text_at : Bool → Reader (List ℕ)
text_at utf = passing (is_checked utf)
    (made (λ x. x.1) (joined (passing (λ n. nat_le n 65536) (number_at w32)) bytes_at))

unfoldable pub name_at : Reader NameEntry
name_at = made (λ x. record { name = x.1; group = x.0 })
    (joined (passing (λ n. nat_le n 65535) (number_at w32)) (λ _. short_text_at 128))

-- a name, each before it
unfoldable pub name_after : List NameEntry → Reader NameEntry
name_after known = passing (comes_after name_cmp known) name_at

unfoldable pub verb_name_at : Bool → Reader (List ℕ)
verb_name_at utf = passing (is_checked utf) (short_text_at 255)

-- the set of a place in the list of sets, but for properties
abbrev pub set_of : ℕ → Option SetName
set_of = listed 0 (set.Digit ∷ set.Space ∷ set.Word ∷ set.Alpha ∷ set.Alnum ∷ set.Lower ∷ set.Upper ∷ set.Blank
    ∷ set.Cntrl ∷ set.Graph ∷ set.Print ∷ set.Punct ∷ set.Ascii ∷ set.Xdigit ∷ set.H ∷ set.V ∷ [])

unfoldable pub property_at : Reader SetName
property_at = made set.Property (passing (λ n. is_some (prop_by_number n)) (number_at w16))

unfoldable pub set_at : Reader SetName
set_at bytes = byte_at bytes >>= λ n. if n.0 == 16 then property_at n.1
    else (set_of n.0 >>= λ name. Some (name, n.1))

-- two bools as bits of a number
abbrev pub bools_of : ℕ → Option (Bool × Bool)
bools_of = listed 0 ((false, false) ∷ (true, false) ∷ (false, true) ∷ (true, true) ∷ [])

unfoldable pub two_bools_at : Reader (Bool × Bool)
two_bools_at = chosen bools_of byte_at

abbrev pub is_character : Bool → ℕ → Bool
is_character utf c = if utf then is_char c else nat_le c 255

abbrev pub is_range : Bool → ℕ × ℕ → Bool
is_range utf x = is_character utf x.0 && is_character utf x.1 && nat_le x.0 x.1

unfoldable pub range_at : Bool → Reader Part
range_at utf = made (λ x. part.Range x.0 x.1)
    (passing (is_range utf) (joined (number_at w32) (λ _. number_at w32)))

unfoldable pub set_part_at : Reader Part
set_part_at = made (λ x. part.Set x.1 x.0.0 x.0.1) (joined two_bools_at (λ _. set_at))

unfoldable pub part_at : Bool → Reader Part
part_at utf = either_at (range_at utf) set_part_at

unfoldable pub class_at : Bool → Reader ClassSpec
class_at utf = made (λ x. record { negated = x.0.0; caseless = x.0.1; parts = x.1 })
    (joined two_bools_at (λ _. counted_at (λ _. part_at utf)))
