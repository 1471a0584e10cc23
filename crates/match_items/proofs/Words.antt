-- Word characters on both sides of a place.
use Rattle.std.proofs.Common.{◌≡◌, ◌∙◌, ℕ, zero, suc, ◌<◌, Bool, true, false, Option, Some, length, refl, sym, ap}
use Rattle.std.proofs.Common.{arith}
use Rattle.uni_text.specs.Characters.{char_at, char_before}
use Rattle.uni_text.specs.Sets.{word}
use Rattle.match_items.specs.declared.view.View.{View}
use Rattle.match_items.specs.Items.{is_word_at, next, previous}
use Rattle.match_items.specs.Views.{bare_text}
use Rattle.match_items.proofs.OneItem.{next-at}

word_of : (view : View) (ucp : Bool) (x : ℕ × ℕ) → word ucp x.0 ≡ is_word_at (bare_text view) ucp (Some x)
word_of view true x = refl
word_of view false x = refl

pub word_before : (view : View) (ucp : Bool) (p : ℕ) (x : ℕ × ℕ) → 0 < p
    → x ≡ char_before view.options.now.utf view.subject.now p →
    word ucp x.0 ≡ is_word_at (bare_text view) ucp (previous (bare_text view) p)
word_before view ucp zero x some e = absurd (omega arith)
word_before view ucp (suc p) x some e = word_of view ucp x
    ∙ ap (λ (o : ℕ × ℕ). is_word_at (bare_text view) ucp (Some o)) e

pub word_at : (view : View) (ucp : Bool) (p : ℕ) (x : ℕ × ℕ) → p < length view.subject.now
    → x ≡ char_at view.options.now.utf view.subject.now p →
    word ucp x.0 ≡ is_word_at (bare_text view) ucp (next (bare_text view) p)
word_at view ucp p x before e =
    word_of view ucp x ∙ ap (λ (o : Option (ℕ × ℕ)). is_word_at (bare_text view) ucp o)
    (ap Some e ∙ sym (next-at (bare_text view) p before))
