-- Reading the fields of an image from left to right: what a reader takes, and the bytes after it.
use Rattle.std.specs.Prelude.{◌≡◌, ℕ, zero, suc, Bool, true, false, List, [], ◌∷◌, ◌++◌, length, take, drop}
use Rattle.std.specs.Prelude.{Option, Some, None, Result, Ok, Err, ◌+◌, ◌&&◌, nat_lt, nat_le, ◌==◌, if◌then◌else◌}
use Rattle.std.specs.Int.{Width, w16, w32, byte_len, from_le_bytes}
use Rattle.std.specs.List.{list_all}
use Rattle.std.specs.Ordering.{is_lt, nat_cmp}
use Rattle.std.specs.declared.cmp.Ordering.{Ordering}
use Rattle.pat_save.specs.declared.errors.LoadError.{LoadError}
use Rattle.pat_save.specs.declared.errors.LoadError.TheVariants as load

-- none where no front of the bytes is a field
abbrev pub Reader : Type 0 → Type 0
Reader A = List ℕ → Option (A × List ℕ)

-- what a function returned, seen by view, is what reading gives, unless memory ran out
abbrev pub Fails : {Y : Type 0} → LoadError → Option Y → Type 0
Fails load.Memory read = Unit {0}
Fails load.Bad read = read ≡ None
Fails load.TooLarge read = ⊥

abbrev pub Gives : {X Y : Type 0} → (X → Y) → Result X LoadError → Option Y → Type 0
Gives view (Ok x) read = read ≡ Some (view x)
Gives view (Err e) read = Fails e read

infixl 10 ◌>>=◌
abbrev pub ◌>>=◌ : {A B : Type 0} → Option A → (A → Option B) → Option B
None >>= f = None
(Some x) >>= f = f x

abbrev pub byte_at : Reader ℕ
byte_at [] = None
byte_at (b ∷ bytes) = Some (b, bytes)

unfoldable pub number_at : Width → Reader ℕ
number_at w bytes = if nat_lt (length bytes) (byte_len w) then None
    else Some (from_le_bytes w (take (byte_len w) bytes), drop (byte_len w) bytes)

-- so many bytes
abbrev pub bytes_at : ℕ → Reader (List ℕ)
bytes_at n bytes = if nat_lt (length bytes) n then None else Some (take n bytes, drop n bytes)

abbrev pub nothing_at : Reader (Unit {0})
nothing_at bytes = Some (tt, bytes)

-- two fields, one after the other
abbrev pub joined : {A B : Type 0} → Reader A → (A → Reader B) → Reader (A × B)
joined one other bytes = one bytes >>= λ x. other x.0 x.1 >>= λ y. Some ((x.0, y.0), y.1)

-- one value made of another, where there is one
abbrev pub chosen : {A B : Type 0} → (A → Option B) → Reader A → Reader B
chosen f at bytes = at bytes >>= λ x. f x.0 >>= λ y. Some (y, x.1)

abbrev pub made : {A B : Type 0} → (A → B) → Reader A → Reader B
made f at bytes = at bytes >>= λ x. Some (f x.0, x.1)

-- a field that passes a test
abbrev pub passing : {A : Type 0} → (A → Bool) → Reader A → Reader A
passing test at bytes = at bytes >>= λ x. if test x.0 then Some x else None

-- the member of a list whose place is the number, where the first has this place
abbrev pub listed : {A : Type 0} → ℕ → List A → ℕ → Option A
listed first [] n = None
listed first (x ∷ xs) n = if n == first then Some x else listed (first + 1) xs n

-- a form of a sum behind its place
abbrev pub choice_at : {A : Type 0} → List (Reader A) → Reader A
choice_at forms bytes = byte_at bytes >>= λ b. listed 0 forms b.0 >>= λ at. at b.1

unfoldable pub bool_at : Reader Bool
bool_at = choice_at (made (λ _. false) nothing_at ∷ made (λ _. true) nothing_at ∷ [])

-- behind 0 the one form, behind 1 the other
abbrev pub either_at : {A : Type 0} → Reader A → Reader A → Reader A
either_at one other bytes = bool_at bytes >>= λ b. if b.0 then other b.1 else one b.1

abbrev pub optional_at : {A : Type 0} → Reader A → Reader (Option A)
optional_at at = either_at (made (λ _. None) nothing_at) (made (λ x. Some x) at)

-- so many fields after these, each read by what stands before it
abbrev pub gathered : {A : Type 0} → (List A → Reader A) → ℕ → List A → Reader (List A)
gathered at zero known bytes = Some (known, bytes)
gathered at (suc n) known bytes = at known bytes >>= λ x. gathered at n (known ++ x.0 ∷ []) x.1

abbrev pub counted_at : {A : Type 0} → (List A → Reader A) → Reader (List A)
counted_at at bytes = number_at w32 bytes >>= λ n. gathered at n.0 [] n.1

-- 1 to so many
abbrev pub is_size : ℕ → ℕ → Bool
is_size most n = nat_le 1 n && nat_le n most

-- a text of 1 to so many bytes behind its length
unfoldable pub short_text_at : ℕ → Reader (List ℕ)
short_text_at most = made (λ x. x.1) (joined (passing (is_size most) byte_at) bytes_at)

-- each of these comes before it
abbrev pub comes_after : {A : Type 0} → (A → A → Ordering) → List A → A → Bool
comes_after cmp known x = list_all (λ y. is_lt (cmp y x)) known

-- the number of a group, each below it
unfoldable pub group_after : List ℕ → Reader ℕ
group_after known = passing (comes_after nat_cmp known) (number_at w16)

unfoldable pub groups_at : Reader (List ℕ)
groups_at = counted_at group_after
