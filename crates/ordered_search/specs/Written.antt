-- How patterns and searches are written in the worked rows.
use Rattle.std.specs.Prelude.{ℕ, ◌+◌, Bool, true, false, ◌&&◌, ◌||◌, not, cond, List, [], ◌∷◌, map, codes, Option}
use Rattle.std.specs.Prelude.{Some, None, ℤ, pos, ◌==◌, nat_le, slice_get}
use Prim.Native.String.{String}
use Rattle.std.specs.List.{list_any}
use Rattle.pat_tree.specs.declared.options.Options.{Options}
use Rattle.pat_tree.specs.declared.options.MatchOptions.{MatchOptions}
use Rattle.pat_tree.specs.declared.options.TheConstants.Options as plain
use Rattle.pat_tree.specs.declared.options.TheConstants.MatchOptions as plain_match
use Rattle.pat_tree.specs.declared.options.PartialMode.TheVariants.{Soft, Hard}
use Rattle.pat_tree.specs.declared.options.Newline.{Newline}
use Rattle.pat_tree.specs.declared.nodes.Item.TheVariants.{Char}
use Rattle.pat_tree.specs.declared.nodes.Part.{Part}
use Rattle.pat_tree.specs.declared.nodes.Part.TheVariants.{Range, Set}
use Rattle.pat_tree.specs.declared.nodes.ClassSpec.{ClassSpec}
use Rattle.pat_tree.specs.Nested.{Nested, Row, Callout, one, seq, group, none, more}
use Rattle.ordered_search.specs.Stream.{Block}
use Rattle.frame_store.specs.declared.registers.Span.{Span}
use Rattle.ordered_search.specs.Setting.{Setting}

-- Patterns.

infixr 4 ◌&◌
abbrev pub ◌&◌ : Nested → Row → Row
t & ts = more t ts

abbrev pub characters_then : List ℕ → Row → Row
characters_then [] ts = ts
characters_then (c ∷ cs) ts = one (Char c false) & characters_then cs ts

-- literal characters, and then other parts
infixr 4 ◌⨾◌
abbrev pub ◌⨾◌ : String → Row → Row
s ⨾ ts = characters_then (codes s) ts

abbrev pub text_of : List ℕ → Nested
text_of (c ∷ []) = one (Char c false)
text_of cs = seq (characters_then cs none)

abbrev pub text : String → Nested
text s = text_of (codes s)

-- a callout of this number before the item of one byte at a place of the pattern
abbrev pub callout_at : ℕ → ℕ → Callout
callout_at n p = record { number = n; text_from = 0; text_to = 0; item_at = p; item_len = 1 }

-- Classes of ranges: ASCII's letters fold, in UTF also the Kelvin sign.

abbrev pub kelvin_fold : ℕ → ℕ
kelvin_fold c = cond (nat_le 65 c && nat_le c 90) (c + 32) (cond (c == 0x212A) 107 c)

abbrev pub in_part : ℕ → Part → Bool
in_part c (Range from to) = nat_le from c && nat_le c to
in_part c (Set set outside ucp) = false

abbrev pub in_class : Option ClassSpec → ℕ → Bool
in_class None c = false
in_class (Some class) c =
    let inside : Bool = list_any (in_part c) class.parts || class.caseless && list_any (in_part (kelvin_fold c))
    class.parts in
    cond class.negated (not inside) inside

abbrev pub class_of : List Part → ClassSpec
class_of parts = record { negated = false; caseless = false; parts = parts }

abbrev pub digits : ClassSpec
digits = class_of (Range 48 57 ∷ [])

abbrev pub words : ClassSpec
words = class_of (Range 48 57 ∷ Range 65 90 ∷ Range 95 95 ∷ Range 97 122 ∷ [])

-- Searches.

-- the pattern of these top alternatives with so many groups, on a subject, with no option set
abbrev pub search : ℕ → Row → List ℕ → Setting
search groups ts subject = record {
  scene = record {
    options = plain.PLAIN;
    matching = plain_match.PLAIN;
    subject = subject;
    start = 0;
    class_has = λ k c. false;
    fold = kelvin_fold;
    is_word = λ c. nat_le 97 c && nat_le c 122;
  };
  whole = group None ts;
  groups = groups;
  classes = [];
  verb_names = [];
  reply = λ b. pos 0;
}

abbrev pub with_options : (Options → Options) → Setting → Setting
with_options f g = record g { scene = record g.scene { options = f g.options } }

abbrev pub with_matching : (MatchOptions → MatchOptions) → Setting → Setting
with_matching f g = record g { scene = record g.scene { matching = f g.matching } }

abbrev pub with_classes : List ClassSpec → Setting → Setting
with_classes classes g =
    record g { classes = classes; scene = record g.scene { class_has = λ k c. in_class (slice_get classes k) c } }

abbrev pub with_names : List String → Setting → Setting
with_names names g = record g { verb_names = map codes names }

abbrev pub with_reply : ℤ → Setting → Setting
with_reply n g = record g { reply = λ b. n }

abbrev pub from : ℕ → Setting → Setting
from p g = record g { scene = record g.scene { start = p } }

abbrev pub soft : Setting → Setting
soft = with_matching (λ m. record m { «partial» = Soft })

abbrev pub hard : Setting → Setting
hard = with_matching (λ m. record m { «partial» = Hard })

-- at most so many Steps, or units
abbrev pub steps : ℕ → Setting → Setting
steps n = with_matching (λ m. record m { match_limit = n })

abbrev pub units : ℕ → Setting → Setting
units n = with_matching (λ m. record m { frame_limit = n })

abbrev pub no_start_optimize : Setting → Setting
no_start_optimize = with_options (λ o. record o { no_start_optimize = true })

abbrev pub utf : Setting → Setting
utf = with_options (λ o. record o { utf = true })

abbrev pub lines_end_at : Newline → Setting → Setting
lines_end_at newline = with_options (λ o. record o { newline = newline })

abbrev pub span : ℕ → ℕ → Option Span
span p q = Some (record { from = p; to = q })

-- of what a callout is shown: its number, the next item's place in the pattern, the match's start and the present place
abbrev pub seen : Block → ℕ × ℕ × ℕ × ℕ
seen b = (b.number, b.pattern_at, b.start, b.current)
