-- The targets that words may stand for: each stands below its word, and over files that are told they are among them.
use Rattle.std.proofs.Common.{◌≡◌, ◌≢◌, ℕ, zero, suc, Bool, true, false, if◌then◌else◌, bytes_eq, codes, List, []}
use Rattle.std.proofs.Common.{◌∷◌, ◌++◌, flat_map, All, Option, Some, None, refl, ap, sym, ◌∙◌, append_assoc}
use Rattle.std.proofs.Common.{append-nil, Less, Equal, Greater}
use Rattle.std.proofs.lemmas.List.Elements.{All-append, All-cons, All-head, All-nil, All-same, All-tail}
use Rattle.std.proofs.lemmas.Slice.Eq.{bytes_eq-Decides}
use Rattle.std.specs.declared.cmp.Ordering.{Ordering}
use Rattle.std.specs.Ordering.{match_ordering}
use Rattle.std.specs.BTreeSet.{insert_key}
use Rattle.pcre_io.specs.MemTree.{joined}
use Rattle.pcre_io.specs.Files.{Contents, kind_of, listed_entries}
use Rattle.pcre_io.specs.declared.entries.Kind.{Kind}
use Rattle.pcre_io.specs.declared.entries.Kind.TheVariants as kind
use Rattle.pcre_io.specs.declared.entries.DirEntry.{DirEntry}
use Rattle.tool_io.specs.declared.target.Target.{Target}
use Rattle.tool_io.specs.declared.target.Target.TheVariants.{Input, File, NoOpen, NoList, TooDeep, Unnamed}
use Rattle.grep_targets.specs.Filters.{Filter}
use Rattle.grep_targets.specs.Paths.{ItemParts, item_cmp, item_of, items_in, has_unnamed, with_items, word_path}
use Rattle.grep_targets.specs.Targets.{allows_directory, allows_file, as_item, directory_targets, file_targets}
use Rattle.grep_targets.specs.Targets.{item_targets, kind_targets, listed_targets, path_targets, unnamed_targets}
use Rattle.grep_targets.specs.Targets.{word_levels, word_targets}
use Rattle.grep_targets.specs.Stands.{AreIf, AreOfDirectory, AreOfEach, AreOfItem, AreOfKind, AreOfListed, AreOfName}
use Rattle.grep_targets.specs.Stands.{AreOfPath, AreOfWord, AreOfWordBy}
use Rattle.grep_targets.specs.Laws.{IsAtOrBelow, IsNothingOrBelow, IsOf, StandBelow, ToldMayStand}

-- Paths at or below a path.

at-itself : (front : List ℕ) → IsAtOrBelow front front
at-itself front = ([], sym (append-nil front), tt)

below-joined : (front path name : List ℕ) → IsAtOrBelow front path → IsAtOrBelow front (joined path name)
below-joined front path name at = (
  at.0 ++ 47 ∷ name,
  ap (λ l. l ++ 47 ∷ name) at.1
      ∙ append_assoc front at.0 (47 ∷ name),
  by_rest at.0 at.2,
)
  where
    by_rest : (rest : List ℕ) → IsNothingOrBelow rest → IsNothingOrBelow (rest ++ 47 ∷ name)
    by_rest [] is = refl
    by_rest (c ∷ rest) is = is

-- Items that all have a property.
module _ (P : ItemParts → Type 0) where
  placed : (items : List ItemParts) (item : ItemParts) → All P items → P item → All P (insert_key item_cmp items item)
  placed [] item all is = All-cons P item [] is (All-nil P)
  placed (x ∷ items) item all is = by_order (placed items item (All-tail P x items all) is) (item_cmp item x)
    where
      by_order : All P (insert_key item_cmp items item) → (o : Ordering)
          → All P (match_ordering o (item ∷ x ∷ items) (x ∷ items) (x ∷ insert_key item_cmp items item))
      by_order later Less = All-cons P item (x ∷ items) is all
      by_order later Equal = all
      by_order later Greater = All-cons P x (insert_key item_cmp items item) (All-head P x items all) later

  with-all : (items others : List ItemParts) → All P items → All P others → All P (with_items items others)
  with-all items [] all more = all
  with-all items (x ∷ others) all more = with-all (insert_key item_cmp items x) others
      (placed items x all (All-head P x others more)) (All-tail P x others more)

  each-all : {A : Type 0} (f : A → List ItemParts) → ((x : A) → All P (f x)) → (xs : List A) → All P (flat_map f xs)
  each-all f made [] = All-nil P
  each-all f made (x ∷ xs) = All-append P (f x) (flat_map f xs) (made x) (each-all f made xs)

-- A word that isn't `-`.
module _ (filter : Filter) (word : List ℕ) (other : word ≢ codes "-") where
  abbrev Below : List ℕ → Type 0
  Below path = IsAtOrBelow (word_path word) path

  abbrev ItemBelow : ItemParts → Type 0
  ItemBelow item = Below item.path

  abbrev AllOf : List Target → Type 0
  AllOf list = All (IsOf word) list

  one : (target : Target) (list : List Target) → list ≡ target ∷ [] → IsOf word target → AllOf list
  one target list is of = All-same (IsOf word) list (target ∷ []) is
      (All-cons (IsOf word) target [] of (All-nil (IsOf word)))

  file-below : (path : List ℕ) → Below path → AllOf (file_targets filter path)
  file-below path at = by_test (allows_file filter path)
    where
      by_test : (b : Bool) → AllOf (if b then File path ∷ [] else [])
      by_test true = All-cons (IsOf word) (File path) [] (other, at) (All-nil (IsOf word))
      by_test false = All-nil (IsOf word)

  unnamed-below : (path : List ℕ) (entries : List DirEntry) → Below path → AllOf (unnamed_targets path entries)
  unnamed-below path entries at = by_test (has_unnamed entries)
    where
      by_test : (b : Bool) → AllOf (if b then Unnamed path ∷ [] else [])
      by_test true = All-cons (IsOf word) (Unnamed path) [] (other, at) (All-nil (IsOf word))
      by_test false = All-nil (IsOf word)

  each-below : {A : Type 0} (Are : A → List Target → Type 0) (P : A → Type 0)
      → ((x : A) → P x → (list : List Target) → Are x list → AllOf list)
      → (xs : List A) (list : List Target) → All P xs → AreOfEach Are xs list → AllOf list
  each-below Are P step [] list all of = All-same (IsOf word) list [] of (All-nil (IsOf word))
  each-below Are P step (x ∷ xs) list all of =
      All-same (IsOf word) list (of.0 ++ of.1) of.2
      (All-append (IsOf word) of.0 of.1 (step x (All-head P x xs all) of.0 of.3)
      (each-below Are P step xs of.1 (All-tail P x xs all) of.4))

  items-below : (path : List ℕ) (entries : List DirEntry) → Below path → All ItemBelow (items_in path entries)
  items-below path entries at = with-all ItemBelow [] (flat_map (item_of path) entries) (All-nil ItemBelow)
      (each-all ItemBelow (item_of path) (λ entry. by_kind entry.name entry.kind) entries)
    where
      by_kind : (name : List ℕ) (k : Kind) → All ItemBelow (item_of path (record { name = name; kind = k }))
      by_kind name kind.File = All-cons ItemBelow (as_item (joined path name) false) []
          (below-joined (word_path word) path name at) (All-nil ItemBelow)
      by_kind name kind.Dir = All-cons ItemBelow (as_item (joined path name) true) []
          (below-joined (word_path word) path name at) (All-nil ItemBelow)
      by_kind name kind.Other = All-nil ItemBelow
      by_kind name kind.Unnamed = All-nil ItemBelow

  module _ (AreBelow : List ℕ → List Target → Type 0)
      (step : (path : List ℕ) → Below path → (list : List Target) → AreBelow path list → AllOf list) where
    path-below : (is_directory : Bool) (path : List ℕ) → Below path → (list : List Target)
        → AreOfPath is_directory filter AreBelow path list → AllOf list
    path-below true path at list of = by_test (allows_directory filter path) of
      where
        by_test : (b : Bool) → AreIf b (AreBelow path list) list → AllOf list
        by_test true of = step path at list of
        by_test false of = All-same (IsOf word) list [] of (All-nil (IsOf word))
    path-below false path at list of = All-same (IsOf word) list (file_targets filter path) of (file-below path at)

    listed-below : (path : List ℕ) → Below path → (answer : Option (List DirEntry)) (list : List Target)
        → AreOfListed filter AreBelow path answer list → AllOf list
    listed-below path at None list of = one (NoList path) list of (other, at)
    listed-below path at (Some entries) list of =
        All-same (IsOf word) list (unnamed_targets path entries ++ of.0) of.1
        (All-append (IsOf word) (unnamed_targets path entries) of.0 (unnamed-below path entries at)
        (each-below (AreOfItem filter AreBelow) ItemBelow (λ item in_it. path-below item.is_directory item.path in_it)
        (items_in path entries) of.0 (items-below path entries at) of.2))

  directory-below : (levels : ℕ) (path : List ℕ) → Below path → (list : List Target)
      → AreOfDirectory filter levels path list → AllOf list
  directory-below zero path at list of = one (TooDeep path) list of (other, at)
  directory-below (suc levels) path at list of = listed-below (AreOfDirectory filter levels) (directory-below levels)
      path at of.0 list of.1

  kind-below : (path : List ℕ) → Below path → (answer : Option Kind) (list : List Target)
      → AreOfKind filter path answer list → AllOf list
  kind-below path at None list of = one (NoOpen path) list of (other, at)
  kind-below path at (Some kind.File) list of = All-same (IsOf word) list (file_targets filter path) of
      (file-below path at)
  kind-below path at (Some kind.Dir) list of = path-below (AreOfDirectory filter word_levels)
      (directory-below word_levels) true path at list of
  kind-below path at (Some kind.Other) list of = one (File path) list of (other, at)
  kind-below path at (Some kind.Unnamed) list of = one (File path) list of (other, at)

  name-below : (recursive : Bool) (list : List Target) → AreOfName recursive filter (word_path word) list → AllOf list
  name-below true list of = kind-below (word_path word) (at-itself (word_path word)) of.0 list of.1
  name-below false list of = All-same (IsOf word) list (file_targets filter (word_path word)) of
      (file-below (word_path word) (at-itself (word_path word)))

pub stand-below : StandBelow
stand-below recursive filter word list of = by_dash (bytes_eq word (codes "-")) refl of
  where
    by_dash : (dash : Bool) → bytes_eq word (codes "-") ≡ dash → AreOfWordBy dash recursive filter word list
        → All (IsOf word) list
    by_dash true is of = All-same (IsOf word) list (Input ∷ []) of
        (All-cons (IsOf word) Input [] ((bytes_eq-Decides word (codes "-")).0 is) (All-nil (IsOf word)))
    by_dash false is of = name-below filter word
        (λ same. absurd (let no : false ≡ true = sym is ∙ (bytes_eq-Decides word (codes "-")).1 same in cc)) recursive
        list of

-- Over files that are told.

each-told : {A : Type 0} (Are : A → List Target → Type 0) (f : A → List Target) → ((x : A) → Are x (f x))
    → (xs : List A) → AreOfEach Are xs (flat_map f xs)
each-told Are f made [] = refl
each-told Are f made (x ∷ xs) = (f x, flat_map f xs, refl, made x, each-told Are f made xs)

module _ (filter : Filter) (set : Contents) where
  item-told : (AreBelow : List ℕ → List Target → Type 0) (below : List ℕ → List Target)
      → ((path : List ℕ) → AreBelow path (below path)) → (item : ItemParts)
      → AreOfItem filter AreBelow item (item_targets filter below item)
  item-told AreBelow below made item = by_kind item.is_directory item.path
    where
      by_test : (b : Bool) (path : List ℕ) → AreIf b (AreBelow path (if b then below path else []))
          (if b then below path else [])
      by_test true path = made path
      by_test false path = refl

      by_kind : (d : Bool) (path : List ℕ) → AreOfPath d filter AreBelow path
          (item_targets filter below (as_item path d))
      by_kind true path = by_test (allows_directory filter path) path
      by_kind false path = refl

  directory-told : (levels : ℕ) (path : List ℕ) → AreOfDirectory filter levels path
      (directory_targets filter set levels path)
  directory-told zero path = refl
  directory-told (suc levels) path =
      (listed_entries path set, by_answer (directory-told levels) (listed_entries path set))
    where
      by_answer : ((path : List ℕ) → AreOfDirectory filter levels path (directory_targets filter set levels path))
          → (answer : Option (List DirEntry)) → AreOfListed filter (AreOfDirectory filter levels) path answer
          (listed_targets filter (directory_targets filter set levels) path answer)
      by_answer below-told None = refl
      by_answer below-told (Some entries) =
          let below = item_targets filter (directory_targets filter set levels) in (
            flat_map below (items_in path entries),
            refl,
            each-told (AreOfItem filter (AreOfDirectory filter levels))
                below (item-told (AreOfDirectory filter levels) (directory_targets filter set levels) below-told)
                (items_in path entries),
          )

  kind-told : (path : List ℕ) (answer : Option Kind) → AreOfKind filter path answer
      (kind_targets filter set path answer)
  kind-told path None = refl
  kind-told path (Some kind.File) = refl
  kind-told path (Some kind.Dir) = item-told (AreOfDirectory filter word_levels)
      (directory_targets filter set word_levels) (directory-told word_levels) (as_item path true)
  kind-told path (Some kind.Other) = refl
  kind-told path (Some kind.Unnamed) = refl

  name-told : (recursive : Bool) (path : List ℕ) → AreOfName recursive filter path
      (path_targets filter set recursive path)
  name-told true path = (kind_of path set, kind-told path (kind_of path set))
  name-told false path = refl

  word-told : (recursive : Bool) (word : List ℕ) → AreOfWord recursive filter word
      (word_targets filter set recursive word)
  word-told recursive word = by_dash (bytes_eq word (codes "-"))
    where
      by_dash : (dash : Bool) → AreOfWordBy dash recursive filter word
          (if dash then Input ∷ [] else path_targets filter set recursive (word_path word))
      by_dash true = refl
      by_dash false = name-told recursive (word_path word)

pub told-may-stand : ToldMayStand
told-may-stand recursive filter set [] = refl
told-may-stand recursive filter set (word ∷ words) =
    each-told (AreOfWord recursive filter) (word_targets filter set recursive) (word-told filter set recursive)
    (word ∷ words)
