-- Worked rows: items, `\R`, references and simple assertions at a place, and where they reach the subject's end.
use Rattle.std.specs.Prelude.{◌≡◌, ℕ, ◌+◌, Bool, true, false, cond, ◌&&◌, ◌==◌, nat_le, List, [], ◌∷◌, map, codes}
use Rattle.std.specs.Prelude.{Some, None}
use Rattle.std.specs.List.{range_with_len}
use Prim.Native.String.{String}
use Rattle.pat_tree.specs.declared.options.TheConstants.Options as plain
use Rattle.pat_tree.specs.declared.options.TheConstants.MatchOptions as plain_match
use Rattle.pat_tree.specs.declared.options.Newline.{Newline}
use Rattle.pat_tree.specs.declared.options.Newline.TheVariants.{Lf, CrLf, AnyCrLf, Nul}
use Rattle.pat_tree.specs.declared.options.Bsr.TheVariants as bsr
use Rattle.pat_tree.specs.declared.nodes.Item.TheVariants.{Char, AnyAll, NotNewline}
use Rattle.pat_tree.specs.declared.nodes.AnchorKind.{AnchorKind}
use Rattle.pat_tree.specs.declared.nodes.AnchorKind.TheVariants.{Caret, Dollar, EndOrNewline, Word}
use Rattle.match_items.specs.Scene.{Scene}
use Rattle.match_items.specs.Items.{after_item, item_reaches, longest_run, run_reaches, after_break, break_reaches}
use Rattle.match_items.specs.Items.{after_ref, ref_reaches, holds, anchor_reaches, earliest, places_back}

-- a subject in a convention, in UTF or not
abbrev pub scene : Newline → Bool → List ℕ → Scene
scene newline utf subject = record {
  options = record plain.PLAIN { newline = newline; utf = utf };
  matching = plain_match.PLAIN;
  subject = subject;
  start = 0;
  class_has = λ n c. false;
  fold = λ c. cond (nat_le 65 c && nat_le c 90) (c + 32) (cond (c == 0x212A) 107 c);
  is_word = λ c. c == 0xE9;
}

abbrev pub bytes : String → Scene
bytes text = scene Lf false (codes text)

-- CR, LF, CR
abbrev pub returns : Newline → Scene
returns newline = scene newline false (13 ∷ 10 ∷ 13 ∷ [])

-- é, U+212A, é
abbrev pub wide : Scene
wide = scene Lf true (0xC3 ∷ 0xA9 ∷ 0xE2 ∷ 0x84 ∷ 0xAA ∷ 0xC3 ∷ 0xA9 ∷ [])

pub record ItemRows : Type 0 where
  pub character : after_item (bytes "ab") (Char 97 false) 0 ≡ Some 1
  pub other_case : after_item (bytes "Ab") (Char 97 true) 0 ≡ Some 1
  pub end : after_item (bytes "ab") AnyAll 2 ≡ None
  -- `.` where CR, LF and CR stand, by convention
  pub dot_lf : map (after_item (returns Lf) NotNewline) (range_with_len 0 3) ≡ Some 1 ∷ None ∷ Some 3 ∷ []
  pub dot_crlf : map (after_item (returns CrLf) NotNewline) (range_with_len 0 3) ≡ None ∷ Some 2 ∷ Some 3 ∷ []
  pub dot_any : map (after_item (returns AnyCrLf) NotNewline) (range_with_len 0 3) ≡ None ∷ None ∷ None ∷ []
  pub dot_nul : map (after_item (returns Nul) NotNewline) (range_with_len 0 3) ≡ Some 1 ∷ Some 2 ∷ Some 3 ∷ []
  -- the last CR may begin a CRLF
  pub half : map (item_reaches (returns CrLf) NotNewline) (range_with_len 0 4) ≡ false ∷ false ∷ true ∷ true ∷ []
  pub dotall : map (item_reaches (returns CrLf) AnyAll) (range_with_len 0 4) ≡ false ∷ false ∷ false ∷ true ∷ []
  -- the Kelvin sign folds to k
  pub kelvin : after_item wide (Char 107 true) 2 ≡ Some 5
  pub wide_dot : after_item wide NotNewline 0 ≡ Some 2

pub record RunRows : Type 0 where
  pub all : longest_run (bytes "aab") (Char 97 false) None 0 ≡ 1 ∷ 2 ∷ []
  pub most : longest_run (bytes "aab") (Char 97 false) (Some 1) 0 ≡ 1 ∷ []
  pub wide_run : longest_run wide AnyAll None 0 ≡ 2 ∷ 5 ∷ 7 ∷ []
  -- a further test at the end is made where the maximum is not reached
  pub reaching : run_reaches (bytes "aa") (Char 97 false) None 0 (1 ∷ 2 ∷ []) ≡ true
  pub bounded : run_reaches (bytes "aa") (Char 97 false) (Some 2) 0 (1 ∷ 2 ∷ []) ≡ false
  pub half : run_reaches (returns CrLf) NotNewline (Some 2) 1 (2 ∷ 3 ∷ []) ≡ true
  pub back : places_back wide 9 7 ≡ 7 ∷ 5 ∷ 2 ∷ 0 ∷ []

-- `\R` at the places of CR, LF and CR
pub record BreakRows : Type 0 where
  pub breaks : map (after_break (returns Lf)) (range_with_len 0 4) ≡ Some 2 ∷ Some 2 ∷ Some 3 ∷ None ∷ []
  pub reached : map (break_reaches (returns Lf)) (range_with_len 0 4) ≡ false ∷ false ∷ true ∷ true ∷ []
  pub form_feed : after_break (scene Lf false (12 ∷ [])) 0 ≡ Some 1
  pub no_form_feed : after_break
      (record (scene Lf false (12 ∷ [])) { options = record plain.PLAIN { bsr = bsr.AnyCrLf } }) 0 ≡ None
  pub separator : after_break (scene Lf true (0xE2 ∷ 0x80 ∷ 0xA8 ∷ [])) 0 ≡ Some 3

pub record ReferenceRows : Type 0 where
  pub again : after_ref (bytes "abab") 0 2 false 2 ≡ Some 4
  pub other : after_ref (bytes "abac") 0 2 false 2 ≡ None
  pub caseless : after_ref (bytes "abAB") 0 2 true 2 ≡ Some 4
  -- fewer characters are left: they agree, or one differs
  pub short : (after_ref (bytes "aba") 0 2 false 2 ≡ None) × (ref_reaches (bytes "aba") 0 2 false 2 ≡ true)
  pub other_short : ref_reaches (bytes "abc") 0 2 false 2 ≡ false
  -- the same characters in other lengths: k and the Kelvin sign
  pub widths : after_ref (scene Lf true (107 ∷ 0xE2 ∷ 0x84 ∷ 0xAA ∷ [])) 0 1 true 1 ≡ Some 4

abbrev pub where_holds : Scene → AnchorKind → ℕ → List Bool
where_holds g kind n = map (holds g kind) (range_with_len 0 n)

pub record AnchorRows : Type 0 where
  -- on `a`, LF
  pub dollar : where_holds (bytes "a\n") (Dollar false false) 3 ≡ false ∷ true ∷ true ∷ []
  pub end_only : where_holds (bytes "a\n") (Dollar false true) 3 ≡ false ∷ false ∷ true ∷ []
  pub end_or_newline : where_holds (bytes "a\n") EndOrNewline 3 ≡ false ∷ true ∷ true ∷ []
  -- on `a`, LF, `b`, LF: no line begins at the end
  pub lines : where_holds (bytes "a\nb\n") (Caret true) 5 ≡ true ∷ false ∷ true ∷ false ∷ false ∷ []
  pub line_ends : where_holds (bytes "a\nb\n") (Dollar true true) 5 ≡ false ∷ true ∷ false ∷ true ∷ true ∷ []
  -- on CR, LF, CR
  pub crlf_line : where_holds (returns CrLf) (Caret true) 4 ≡ true ∷ false ∷ true ∷ false ∷ []
  pub crlf_end : where_holds (scene CrLf false (97 ∷ 13 ∷ 10 ∷ [])) (Dollar false false)
      4 ≡ false ∷ true ∷ false ∷ true ∷ []
  pub half : anchor_reaches (returns CrLf) (Dollar false false) 2 ≡ true
  pub words : where_holds (bytes "a b") (Word false) 4 ≡ true ∷ true ∷ true ∷ true ∷ []
  pub wide_words : where_holds wide (Word true) 1 ≡ true ∷ []
  pub no_words : where_holds wide (Word false) 1 ≡ false ∷ []
  pub looked : earliest wide (Word true) 5 5 ≡ 2
  pub looked_at_start : earliest wide (Word true) 0 0 ≡ 0

pub record WorkedRows : Type 0 where
  pub item_rows : ItemRows
  pub run_rows : RunRows
  pub break_rows : BreakRows
  pub reference_rows : ReferenceRows
  pub anchor_rows : AnchorRows
