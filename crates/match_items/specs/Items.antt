-- What one item, a reference or a simple assertion does at a place, and whether it reaches the subject's end.
use Rattle.std.specs.Prelude.{ℕ, zero, suc, ◌+◌, ◌-◌, Bool, true, false, ◌&&◌, ◌||◌, not, List, [], ◌∷◌, length}
use Rattle.std.specs.Prelude.{take, drop, Option, Some, None, ◌==◌, nat_lt, nat_le, min, sum_by, chars, slice_index}
use Rattle.std.specs.Prelude.{slice_range, option_map}
use Rattle.std.specs.Char.{len_utf8}
use Rattle.pat_tree.specs.declared.nodes.Item.{Item}
use Rattle.pat_tree.specs.declared.nodes.Item.TheVariants.{Char, AnyAll, NotNewline, Class}
use Rattle.pat_tree.specs.declared.nodes.AnchorKind.{AnchorKind}
use Rattle.pat_tree.specs.declared.nodes.AnchorKind.TheVariants.{Caret, Dollar, SubjectStart, SubjectEnd}
use Rattle.pat_tree.specs.declared.nodes.AnchorKind.TheVariants.{EndOrNewline, StartGiven, Word, NotWord}
use Rattle.pat_tree.specs.Newlines.{end_kind, break_kind}
use Rattle.byte_lanes.specs.Newlines.{newline_len, newline_before_len}
use Rattle.uni_text.specs.Ascii.{ascii_fold, is_word_char}
use Rattle.uni_text.specs.Characters.{char_at, char_before}
use Rattle.match_items.specs.Scene.{Scene, is_crlf}

-- a maximum after one more
abbrev pub one_less : Option ℕ → Option ℕ
one_less = option_map (λ n. n - 1)

-- nothing is left of a maximum
abbrev pub is_none_left : Option ℕ → Bool
is_none_left None = false
is_none_left (Some n) = n == 0

module _ (g : Scene) where
  -- Places and characters.

  abbrev pub is_end : ℕ → Bool
  is_end p = nat_le (length g.subject) p

  -- the character at a place, and the place after it
  abbrev pub next : ℕ → Option (ℕ × ℕ)
  next p = elim (is_end p) [ true ↦ None | false ↦ Some (char_at g.options.utf g.subject p) ]

  -- the character before a place, and its own place
  abbrev pub previous : ℕ → Option (ℕ × ℕ)
  previous zero = None
  previous (suc p) = Some (char_before g.options.utf g.subject (suc p))

  -- the place and those before it, n of them at most, the nearest first
  unfoldable pub places_back : ℕ → ℕ → List ℕ
  places_back zero p = p ∷ []
  places_back (suc n) p = elim (previous p) [ None ↦ p ∷ [] | Some c ↦ p ∷ places_back n c.1 ]

  -- the length of the newline that begins at a place, and of the one that ends there; 0 where there is none
  abbrev pub newline_at : ℕ → ℕ
  newline_at p = newline_len (end_kind g.options.newline g.options.utf) g.subject p

  abbrev pub newline_before : ℕ → ℕ
  newline_before p = newline_before_len (end_kind g.options.newline g.options.utf) g.subject p

  -- a CR stands there, and is the last byte
  abbrev pub is_last_cr : ℕ → Bool
  is_last_cr p = (p + 1 == length g.subject) && (slice_index g.subject p == 13)

  -- the first half of a newline CRLF may stand there
  abbrev pub is_half_newline : ℕ → Bool
  is_half_newline p = is_crlf g.options.newline && is_last_cr p

  -- Without regard to case characters agree by their simple foldings, outside UTF by those of ASCII.
  abbrev pub folded : ℕ → ℕ
  folded c = elim g.options.utf [ true ↦ g.fold c | false ↦ ascii_fold c ]

  abbrev pub agrees : Bool → ℕ → ℕ → Bool
  agrees true a b = folded a == folded b
  agrees false a b = a == b

  -- One character.

  -- the item takes the character b that stands at p
  abbrev pub takes : Item → ℕ → ℕ → Bool
  takes (Char c caseless) p b = agrees caseless c b
  takes AnyAll p b = true
  takes NotNewline p b = newline_at p == 0
  takes (Class n) p b = g.class_has n b

  -- the place after what the item takes at p, where it takes a character
  abbrev pub after_item : Item → ℕ → Option ℕ
  after_item item p =
      elim (next p) [
        | None ↦ None
        | Some c ↦ elim (takes item p c.0) [ true ↦ Some c.1 | false ↦ None ]
      ]

  -- the test of the item at p reaches the subject's end
  abbrev pub item_reaches : Item → ℕ → Bool
  item_reaches NotNewline p = is_end p || is_half_newline p
  item_reaches _ p = is_end p

  -- Runs of one item.

  -- the places after one character, after two and so on, as far as the item takes them and a maximum goes; n bounds
  -- their number
  unfoldable pub run_places : Item → ℕ → Option ℕ → ℕ → List ℕ
  run_places item zero most p = []
  run_places item (suc n) most p =
      elim (is_none_left most) [
        | true ↦ []
        | false ↦ elim (after_item item p) [ None ↦ [] | Some q ↦ q ∷ run_places item n (one_less most) q ]
      ]

  -- the places after the longest run from p
  abbrev pub longest_run : Item → Option ℕ → ℕ → List ℕ
  longest_run item most p = run_places item (length g.subject) most p

  -- some test of a run reaches the end: those at p and at the places after it but the last, and at the last one where
  -- the maximum is not reached
  unfoldable pub run_reaches : Item → Option ℕ → ℕ → List ℕ → Bool
  run_reaches item most p [] = not (is_none_left most) && item_reaches item p
  run_reaches item most p (q ∷ qs) = item_reaches item p || run_reaches item (one_less most) q qs

  -- `\R`

  abbrev pub break_len : ℕ → ℕ
  break_len p = newline_len (break_kind g.options.bsr g.options.utf) g.subject p

  abbrev pub after_break : ℕ → Option ℕ
  after_break p = elim (nat_lt 0 (break_len p)) [ true ↦ Some (p + break_len p) | false ↦ None ]

  -- nothing is left, or an LF may follow the CR that it takes
  abbrev pub break_reaches : ℕ → Bool
  break_reaches p = is_end p || is_last_cr p

  -- References.

  abbrev pub characters : List ℕ → List ℕ
  characters bytes = elim g.options.utf [ true ↦ chars bytes | false ↦ bytes ]

  -- how many bytes the characters take
  abbrev pub width : List ℕ → ℕ
  width cs = elim g.options.utf [ true ↦ sum_by len_utf8 cs | false ↦ length cs ]

  -- the characters agree, as far as both texts go
  abbrev pub same_front : Bool → List ℕ → List ℕ → Bool
  same_front caseless (a ∷ xs) (b ∷ ys) = agrees caseless a b && same_front caseless xs ys
  same_front caseless _ _ = true

  -- the place after a text that the characters ys begin with, where they do
  abbrev pub after_text : Bool → List ℕ → List ℕ → ℕ → Option ℕ
  after_text caseless xs ys p =
      elim (same_front caseless xs ys && nat_le (length xs) (length ys)) [
        | true ↦ Some (p + width (take (length xs) ys))
        | false ↦ None
      ]

  -- the place after the text from one place to another, where it stands again at p
  abbrev pub after_ref : ℕ → ℕ → Bool → ℕ → Option ℕ
  after_ref from to caseless p =
      after_text caseless (characters (slice_range g.subject from to)) (characters (drop p g.subject)) p

  -- fewer characters are left, and all of them agree
  abbrev pub text_reaches : Bool → List ℕ → List ℕ → Bool
  text_reaches caseless xs ys = same_front caseless xs ys && nat_lt (length ys) (length xs)

  abbrev pub ref_reaches : ℕ → ℕ → Bool → ℕ → Bool
  ref_reaches from to caseless p =
      text_reaches caseless (characters (slice_range g.subject from to)) (characters (drop p g.subject))

  -- Simple assertions (pcre2pattern, "Simple assertions", "Circumflex and dollar").

  -- at the end, or before a newline that ends there
  abbrev pub is_close : ℕ → Bool
  is_close p = is_end p || nat_lt 0 (newline_at p) && (p + newline_at p == length g.subject)

  abbrev pub is_word_at : Bool → Option (ℕ × ℕ) → Bool
  is_word_at ucp None = false
  is_word_at true (Some c) = g.is_word c.0
  is_word_at false (Some c) = is_word_char c.0

  -- word characters stand on one side alone
  abbrev pub is_boundary : Bool → ℕ → Bool
  is_boundary ucp p =
      elim (is_word_at ucp (previous p)) [ true ↦ not (is_word_at ucp (next p)) | false ↦ is_word_at ucp (next p) ]

  abbrev pub holds : AnchorKind → ℕ → Bool
  holds (Caret multi) p =
      elim (p == 0) [
        | true ↦ not g.matching.notbol
        | false ↦ multi && nat_lt 0 (newline_before p) && not (is_end p)
      ]
  holds (Dollar true end_only) p = elim (is_end p) [ true ↦ not g.matching.noteol | false ↦ nat_lt 0 (newline_at p) ]
  holds (Dollar false true) p = is_end p && not g.matching.noteol
  holds (Dollar false false) p = is_close p && not g.matching.noteol
  holds SubjectStart p = p == 0
  holds SubjectEnd p = is_end p
  holds EndOrNewline p = is_close p
  holds StartGiven p = p == g.start
  holds (Word ucp) p = is_boundary ucp p
  holds (NotWord ucp) p = not (is_boundary ucp p)

  abbrev pub anchor_reaches : AnchorKind → ℕ → Bool
  anchor_reaches (Dollar true end_only) p = is_end p && not g.matching.noteol || is_half_newline p
  anchor_reaches (Dollar false end_only) p = holds (Dollar false end_only) p || is_half_newline p
  anchor_reaches SubjectEnd p = is_end p
  anchor_reaches EndOrNewline p = is_close p || is_half_newline p
  anchor_reaches (Word ucp) p = is_end p
  anchor_reaches (NotWord ucp) p = is_end p
  anchor_reaches _ p = false

  -- the place of the character before, where there is one
  abbrev pub place_before : ℕ → ℕ
  place_before p = elim (previous p) [ None ↦ p | Some c ↦ c.1 ]

  -- the earliest place inspected: `\b` and `\B` look at the character before
  abbrev pub earliest : AnchorKind → ℕ → ℕ → ℕ
  earliest (Word ucp) p early = min early (place_before p)
  earliest (NotWord ucp) p early = min early (place_before p)
  earliest _ p early = early
