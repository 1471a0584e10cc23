-- The character before a place is the one that ends there.
use Rattle.std.proofs.Common.{◌≡◌, ◌∙◌, ℕ, zero, suc, ◌+◌, ◌-◌, ◌<◌, ◌≤◌, Bool, true, false, List, ◌++◌, take, drop}
use Rattle.std.proofs.Common.{refl, Some, None, sym, ap, arith, take-append-drop}
use Rattle.std.proofs.Math.Utf8.{encode}
use Rattle.std.specs.List.{slice_get}
use Rattle.std.proofs.lemmas.List.{take-take, drop-take}
use Rattle.std.proofs.lemmas.Str.{IsUtf8-encode, IsUtf8-take}
use Rattle.std.specs.Char.{len_utf8}
use Rattle.uni_text.specs.Characters.{char_at, char_before, first_char, last_char, IsChecked, IsPlace, IsCharSpan}
use Rattle.uni_text.proofs.CharLemmas.{last_char-append}
use Rattle.match_items.specs.Scene.{Scene}
use Rattle.match_items.specs.Items.{place_before, places_back}

-- the text up to the end of a character that begins at a place
up_to : (bytes : List ℕ) (at n c : ℕ) → at ≤ n → take (n - at) (drop at bytes) ≡ encode c
    → take n bytes ≡ take at bytes ++ encode c
up_to bytes at n c ordered stands =
    let whole : n ≡ at + (n - at) = omega arith in
    let front : take at (take n bytes) ≡ take at bytes = take-take at n bytes ordered in
    let back : drop at (take n bytes) ≡ encode c = ap (λ k. drop at (take k bytes)) whole
    ∙ drop-take at (n - at) bytes ∙ stands in
    sym (take-append-drop at (take n bytes)) ∙ ap (λ xs. xs ++ drop at (take n bytes)) front
    ∙ ap (λ ys. take at bytes ++ ys) back

char_before-char_at : (utf : Bool) (bytes : List ℕ) (at c n : ℕ) → IsChecked utf bytes → IsPlace utf bytes at
    → (c, n) ≡ char_at utf bytes at → IsCharSpan utf bytes c at n →
    (char_before utf bytes n).1 ≡ at
char_before-char_at false bytes at c n checked place value span = let next : n ≡ at + 1 =
    ap (λ (x : ℕ × ℕ). x.1) value in omega (arith, next)
char_before-char_at true bytes at c n checked place value span =
    let is : c ≡ first_char (drop at bytes) = ap (λ (x : ℕ × ℕ). x.0) value in
    let next : n ≡ at + len_utf8 (first_char (drop at bytes)) = ap (λ (x : ℕ × ℕ). x.1) value in
    let len : n ≡ at + len_utf8 c = next ∙ ap (λ d. at + len_utf8 d) (sym is) in
    let last : last_char (take n bytes) ≡ c =
    ap last_char (up_to bytes at n c (omega (arith, len)) span.stands)
    ∙ last_char-append (take at bytes) c (IsUtf8-take bytes at (checked refl) (place.1 refl))
    (IsUtf8-encode c (span.scalar refl)) in
    ap (λ d. n - len_utf8 d) last ∙ omega (arith, len)

pub place_before-some : (g : Scene) (p : ℕ) → 0 < p → place_before g p ≡ (char_before g.options.utf g.subject p).1
place_before-some g zero some = absurd (omega arith)
place_before-some g (suc p) some = refl

-- the place before the one after a character is the character's own
pub place_before-next : (g : Scene) (p c q : ℕ) → IsChecked g.options.utf g.subject
    → IsPlace g.options.utf g.subject p → (c, q) ≡ char_at g.options.utf g.subject p →
    IsCharSpan g.options.utf g.subject c p q → p < q → place_before g q ≡ p
place_before-next g p c q checked place value span forward =
    place_before-some g q (omega arith) ∙ char_before-char_at g.options.utf g.subject p c q checked place value span

-- So many characters back: none at the start, one step at a time, and none left.

pub back_none : (g : Scene) (n p : ℕ) → 0 < n → p ≡ 0 → slice_get (places_back g n p) n ≡ None
unfolding places_back
back_none g zero p some start = absurd (omega arith)
back_none g (suc n) zero some start = refl
back_none g (suc n) (suc p) some start = absurd (omega arith)

one_back : (g : Scene) (m p : ℕ) → 0 < p → slice_get (places_back g (suc m) p) (suc m) ≡ slice_get
    (places_back g m (place_before g p)) m
unfolding places_back
one_back g m zero some = absurd (omega arith)
one_back g m (suc p) some = refl

pub back_more : (g : Scene) (m n p : ℕ) → n ≡ suc m → 0 < p
    → slice_get (places_back g n p) n ≡ slice_get (places_back g m (place_before g p)) m
back_more g m n p is some = ap (λ k. slice_get (places_back g k p) k) is ∙ one_back g m p some

pub back_done : (g : Scene) (n p : ℕ) → n ≤ 0 → slice_get (places_back g n p) n ≡ Some p
unfolding places_back
back_done g zero p none = refl
back_done g (suc n) p none = absurd (omega arith)
