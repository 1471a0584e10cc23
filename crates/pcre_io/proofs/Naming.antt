-- The directories in names.
use Rattle.std.proofs.Common.{◌≡◌, ℕ, ◌==◌, Bool, true, false, not, ◌&&◌, ◌||◌, if◌then◌else◌, List, [], ◌∷◌, ◌++◌}
use Rattle.std.proofs.Common.{map, filter, flat_map, bytes_eq, Option, Some, None, is_some, option_copied}
use Rattle.std.proofs.Common.{MatchOption, refl, ap, sym, subst, ◌∙◌}
use Rattle.std.specs.List.{list_any}
use Rattle.std.proofs.lemmas.Bool.{eqb-true, eq-eqb}
use Rattle.std.proofs.lemmas.List.Folds.{list_any-append}
use Rattle.std.proofs.lemmas.Slice.Eq.{bytes_eq-Decides}
use denote.Ref.{Bor}
use Rattle.pcre_io.specs.Files.{File, Directory, Contents, entries_in, is_file, is_among, kind_of, listed_entries}
use Rattle.pcre_io.specs.declared.entries.Kind.TheVariants as kind
use Rattle.pcre_io.specs.MemTree.{below, before_slashes, entries_below, held_by, is_slash, tree_of}
use Rattle.pcre_io.specs.declared.entries.DirEntry.{DirEntry}

-- What follows a directory's name.

pub below-append : (d rest : List ℕ) → below d (d ++ rest) ≡ below [] rest
below-append [] rest = refl
below-append (x ∷ d) rest = rw (eq-eqb x x refl) (below-append d rest)

pub below-none : (d name : List ℕ) → ((rest : List ℕ) → name ≡ d ++ rest → ⊥) → below d name ≡ None
below-none [] name other = absurd (other name refl)
below-none (x ∷ d) [] other = refl
below-none (x ∷ d) (c ∷ name) other =
    by_first (λ same. below-none d name (λ rest e. other rest (ap (λ y. y ∷ name) same ∙ ap (λ l. x ∷ l) e))) (c == x)
    refl
  where
    by_first : (c ≡ x → below d name ≡ None) → (same : Bool) → (c == x) ≡ same
        → (if same then below d name else None) ≡ None
    by_first more false is = refl
    by_first more true is = more (eqb-true c x is)

-- what follows a slash
pub after-slash : (rest : List ℕ) (r : Option (Bor (List ℕ)))
    → MatchOption r ((more : List ℕ) → rest ≡ 47 ∷ more → ⊥) (λ x. rest ≡ 47 ∷ x.now)
    → option_copied r ≡ below [] rest
after-slash rest (Some x) is = rw is
after-slash [] None other = refl
after-slash (c ∷ rest) None other = by_first (is_slash c) refl
  where
    by_first : (same : Bool) → is_slash c ≡ same → None ≡ (if same then Some rest else None)
    by_first false is = refl
    by_first true is = absurd (other rest (ap (λ y. y ∷ rest) (eqb-true c 47 is)))

-- The directories that a name's slashes give.

any-map-nil : (c : ℕ) (names : List (List ℕ)) → list_any (λ (x : List ℕ). bytes_eq x [])
    (map (λ l. c ∷ l) names) ≡ false
any-map-nil c [] = refl
any-map-nil c (x ∷ names) = any-map-nil c names

any-map-cons : (c x : ℕ) (d : List ℕ) (names : List (List ℕ))
    → list_any (λ (y : List ℕ). bytes_eq y (x ∷ d)) (map (λ l. c ∷ l) names)
    ≡ ((c == x) && list_any (λ (y : List ℕ). bytes_eq y d) names)
any-map-cons c x d [] = by_first (c == x)
  where
    by_first : (same : Bool) → false ≡ (same && false)
    by_first true = refl
    by_first false = refl
any-map-cons c x d (y ∷ names) = rw (any-map-cons c x d names) (by_first (c == x))
  where
    by_first : (same : Bool) → ((same && bytes_eq y d) || (same && list_any (λ (y : List ℕ). bytes_eq y d) names))
        ≡ (same && (bytes_eq y d || list_any (λ (y : List ℕ). bytes_eq y d) names))
    by_first true = refl
    by_first false = refl

pub any-before : (d name : List ℕ) → list_any (λ (x : List ℕ). bytes_eq x d) (before_slashes name) ≡ is_some
    (below d name)
any-before [] [] = refl
any-before (x ∷ d) [] = refl
any-before [] (c ∷ name) = by_first (is_slash c)
  where
    by_first : (slash : Bool) → list_any (λ (x : List ℕ). bytes_eq x [])
        (if slash then [] ∷ map (λ l. c ∷ l) (before_slashes name) else map (λ l. c ∷ l) (before_slashes name))
        ≡ is_some (if slash then Some name else None)
    by_first true = refl
    by_first false = any-map-nil c (before_slashes name)
any-before (x ∷ d) (c ∷ name) = by_first (is_slash c) ∙ any-map-cons c x d (before_slashes name)
    ∙ ap (λ b. (c == x) && b) (any-before d name) ∙ by_same (c == x)
  where
    by_first : (slash : Bool) → list_any (λ (y : List ℕ). bytes_eq y (x ∷ d))
        (if slash then [] ∷ map (λ l. c ∷ l) (before_slashes name) else map (λ l. c ∷ l) (before_slashes name))
        ≡ list_any (λ (y : List ℕ). bytes_eq y (x ∷ d)) (map (λ l. c ∷ l) (before_slashes name))
    by_first true = refl
    by_first false = refl

    by_same : (same : Bool) → (same && is_some (below d name)) ≡ is_some (if same then below d name else None)
    by_same true = refl
    by_same false = refl

any-directory : (d : List ℕ) (files : List File) → list_any (λ (x : List ℕ). bytes_eq x d)
    (flat_map (λ (file : File). before_slashes file.name) files) ≡ list_any
    (λ (file : File). is_some (below d file.name)) files
any-directory d [] = refl
any-directory d (file ∷ files) =
    list_any-append (λ (x : List ℕ). bytes_eq x d) (before_slashes file.name)
    (flat_map (λ (file : File). before_slashes file.name) files)
    ∙ ap (λ b. b || list_any (λ (x : List ℕ). bytes_eq x d)
    (flat_map (λ (file : File). before_slashes file.name) files)) (any-before d file.name)
    ∙ ap (λ b. is_some (below d file.name) || b) (any-directory d files)

module _ (files : List File) (d : List ℕ) (free : is_file d files ≡ false) where
  abbrev directory : List ℕ → Directory
  directory name = record { name = name; entries = entries_below name files }

  abbrev is_free : List ℕ → Bool
  is_free name = not (is_file name files)

  abbrev found : Bool → Option (List DirEntry)
  found b = if b then Some (entries_below d files) else None

  entries-first : (names : List (List ℕ)) → entries_in d (map directory (filter is_free (d ∷ names))) ≡ Some
      (entries_below d files)
  entries-first names = rw (free, (bytes_eq-Decides d d).1 refl)

  abbrev Finds : List (List ℕ) → Type 0
  Finds names = entries_in d (map directory (filter is_free names)) ≡ found
      (list_any (λ (x : List ℕ). bytes_eq x d) names)

  entries-of : (names : List (List ℕ)) → Finds names
  entries-of [] = refl
  entries-of (x ∷ names) = by_name (entries-of names) (bytes_eq x d) refl
    where
      by_file : Finds names → (kept : Bool) → bytes_eq x d ≡ false
          → entries_in d (map directory (if kept then x ∷ filter is_free names else filter is_free names)) ≡ found
          (list_any (λ (x : List ℕ). bytes_eq x d) names)
      by_file more true other = rw other more
      by_file more false other = more

      by_name : Finds names → (same : Bool) → bytes_eq x d ≡ same
          → entries_in d (map directory (filter is_free (x ∷ names))) ≡ found
          (same || list_any (λ (x : List ℕ). bytes_eq x d) names)
      by_name more true is =
          subst (λ (y : List ℕ). entries_in d (map directory (filter is_free (y ∷ names))) ≡ Some
          (entries_below d files)) (sym ((bytes_eq-Decides x d).0 is)) (entries-first names)
      by_name more false is = by_file more (is_free x) is

  -- a name is a directory where a file's name begins with it and a slash
  pub entries-tree : entries_in d (tree_of files) ≡ found
      (list_any (λ (file : File). is_some (below d file.name)) files)
  entries-tree = entries-of (flat_map (λ (file : File). before_slashes file.name) files)
      ∙ ap found (any-directory d files)

-- what is held, where these names are refused, of kind Other, or closed
module _ (files : List File) (refused others closed : List (List ℕ)) (name : List ℕ) where
  abbrev held : Contents
  held = held_by files refused others closed

  abbrev has_below : Bool
  has_below = list_any (λ (file : File). is_some (below name file.name)) files

  -- the kind of a name that is neither refused nor of kind Other nor a file's
  pub kind-held : (has : Bool) → is_among name refused ≡ false → is_among name others ≡ false
      → is_file name files ≡ false → has_below ≡ has → kind_of name held ≡ (if has then Some kind.Dir else None)
  kind-held has unrefused known free is = rw (unrefused, known, free, entries-tree files name free, is) (by_has has)
    where
      by_has : (b : Bool) → (if is_some (if b then Some (entries_below name files) else None) then Some kind.Dir else
          None) ≡ (if b then Some kind.Dir else None)
      by_has true = refl
      by_has false = refl

  -- a directory's entries
  pub listed-held : is_some (listed_entries name held) ≡ true
      → listed_entries name held ≡ Some (entries_below name files)
  listed-held is = listed-by (is_among name refused) (is_among name closed) (is_among name others)
      (is_file name files) has_below (entries_in name (tree_of files)) (λ free. entries-tree files name free) is
    where
      listed-by : (barred shut odd file has : Bool) (listed : Option (List DirEntry))
          → (file ≡ false → listed ≡ (if has then Some (entries_below name files) else None))
          → is_some (if barred then None else if shut then None else if odd then None else if file then None else
          listed) ≡ true
          → (if barred then None else if shut then None else if odd then None else if file then None else listed)
          ≡ Some (entries_below name files)
      listed-by true shut odd file has listed tree is = absurd (let no : false ≡ true = is in cc)
      listed-by false true odd file has listed tree is = absurd (let no : false ≡ true = is in cc)
      listed-by false false true file has listed tree is = absurd (let no : false ≡ true = is in cc)
      listed-by false false false true has listed tree is = absurd (let no : false ≡ true = is in cc)
      listed-by false false false false true listed tree is = tree refl
      listed-by false false false false false None tree is = absurd (let no : false ≡ true = is in cc)
      listed-by false false false false false (Some l) tree is = absurd (let no : Some l ≡ None = tree refl in cc)
