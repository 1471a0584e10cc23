-- What a view shows, and how the answers of the tests are told.
use Rattle.std.specs.Prelude.{◌≡◌, ℕ, ◌+◌, ◌-◌, Bool, true, false, ◌==◌, ◌&&◌, ◌||◌, nat_lt, length, if◌then◌else◌}
use Rattle.std.specs.Prelude.{List, [], ◌∷◌, Option, Some, None, slice_index}
use Rattle.pat_tree.specs.declared.nodes.Item.{Item}
use Rattle.pat_tree.specs.declared.nodes.Item.TheVariants.{Class, AnyAll, NotNewline}
use Rattle.uni_text.specs.Ascii.{ascii_fold}
use Rattle.uni_text.specs.Folding as unicode
use Rattle.uni_text.specs.Sets.{word}
use Rattle.char_sets.specs.Table.{CharSet, table_has}
use Rattle.byte_lanes.specs.Plain.{is_plain}
use Rattle.match_items.specs.declared.view.View.{View}
use Rattle.match_items.specs.declared.walks.Walk.{Walk}
use Rattle.match_items.specs.declared.view.Taken.{Taken}
use Rattle.match_items.specs.declared.view.Taken.TheVariants.{Took, No, AtEnd}
use Rattle.match_items.specs.Scene.{Scene}
use Rattle.match_items.specs.Items.{is_end, is_none_left, one_less, item_reaches, longest_run, place_before}
use Rattle.match_items.specs.Items.{run_reaches}

-- a character's folding: in UTF the simple one of Unicode, and outside it that of ASCII's letters
abbrev pub fold_in : Bool → ℕ → ℕ
fold_in utf c = if utf then unicode.fold c else ascii_fold c

abbrev pub agrees_in : Bool → Bool → ℕ → ℕ → Bool
agrees_in utf caseless a b = if caseless then fold_in utf a == fold_in utf b else a == b

-- what stands fixed while the view's subject is searched; a class holds of what its table takes
abbrev pub text_scene : View → List CharSet → Scene
text_scene view table = record {
  options = view.options.now;
  matching = view.matching.now;
  subject = view.subject.now;
  start = view.start;
  class_has = table_has table;
  fold = fold_in view.options.now.utf;
  is_word = word true;
}

-- the same for a test that asks no class
abbrev pub bare_text : View → Scene
bare_text view = text_scene view []

-- the place after what is taken, else whether the end is reached
abbrev pub told : Option ℕ → Bool → Taken
told (Some q) reaches = Took q
told None true = AtEnd
told None false = No

-- the greatest number of 32 bits stands for no maximum
abbrev pub maximum : ℕ → Option ℕ
maximum most = if most == 4294967295 then None else Some most

-- the last of the places, or p
abbrev pub end_of : ℕ → List ℕ → ℕ
end_of p [] = p
end_of p (q ∷ qs) = end_of q qs

-- a run has as many characters as the longest one and ends where it ends, and both tell whether
-- it reaches the subject's end
pub record IsWalk (g : Scene) (item : Item) (max p : ℕ) (walk : Walk) : Type 0 where
  pub count : walk.count ≡ length (longest_run g item (maximum max) p)
  pub to : walk.to ≡ end_of p (longest_run g item (maximum max) p)
  pub at_end : (is_end g walk.to
      && (nat_lt walk.count max || nat_lt p walk.to && item_reaches g item (place_before g walk.to)))
      ≡ run_reaches g item (maximum max) p (longest_run g item (maximum max) p)

-- how many tests of classes the item makes at a place: one where it is a class and a character stands there
abbrev pub step_tests : Scene → Item → ℕ → ℕ
step_tests g (Class n) p = if is_end g p then 0 else 1
step_tests g _ p = 0

-- and over a run: at p and at each place after it, the last one only where the maximum is not reached
unfoldable pub run_tests : Scene → Item → Option ℕ → ℕ → List ℕ → ℕ
run_tests g item most p [] = if is_none_left most then 0 else step_tests g item p
run_tests g item most p (q ∷ qs) = step_tests g item p + run_tests g item (one_less most) q qs

-- the tests of a class between two places, and at the second one where it is before the limit
abbrev pub span_tests : Item → ℕ → ℕ → ℕ → ℕ
span_tests (Class n) from to limit = (to - from) + (if nat_lt to limit then 1 else 0)
span_tests _ from to limit = 0

-- the item is `.`, with newlines or without them
abbrev pub is_dot : Item → Bool
is_dot AnyAll = true
is_dot NotNewline = true
is_dot _ = false

-- it is, and takes the byte at place k as a character of ASCII, whatever ends a line
abbrev pub IsPlainDot : Item → List ℕ → ℕ → Type 0
IsPlainDot item bytes k = (is_dot item ≡ true) × (is_plain (slice_index bytes k) ≡ true)
