-- What a repeat of one item is made of, and what a part is not.
use Rattle.std.proofs.Common.{◌≡◌, ℕ, Bool, true, false, Option, not, Result, Ok, Err, IfOk, ap, sym, refl}
use Rattle.std.specs.Prelude.{OnOk}
use Rattle.std.proofs.lemmas.Bool.{false≢true}
use Rattle.pat_tree.specs.declared.nodes.Item.{Item}
use Rattle.pat_tree.specs.Nested as tree
use Rattle.pat_tree.specs.Nested.{Nested}
use Rattle.frame_state.specs.Stops.{IsMost}

pub record Most (t : Nested) (high : Option ℕ) : Type 0 where
  pub item : Item
  pub low : ℕ
  pub lazily : Bool
  pub is : tree.one_repeat item low high lazily ≡ t

pub most : (t : Nested) (high : Option ℕ) → IsMost t high → Most t high
most (tree.one_repeat item low max lazily) high e = record {
  item = item;
  low = low;
  lazily = lazily;
  is = ap (λ x. tree.one_repeat item low x lazily) (sym e);
}
most _ high e = absurd e

pub not_true : (b : Bool) → not b ≡ true → b ≡ false
not_true true e = absurd (false≢true e)
not_true false e = refl

pub not_false : (b : Bool) → not b ≡ false → b ≡ true
not_false true e = refl
not_false false e = absurd (false≢true (sym e))

pub ok_more : {A E : Type 0} (P Q : A → Type 0) (r : Result A E) → ((x : A) → P x → Q x) → IfOk r P → IfOk r Q
ok_more P Q (Ok x) h p = h x p
ok_more P Q (Err e) h p = p

pub on_ok : {A E : Type 0} (P Q : Type 0) (r : Result A E) → OnOk r P → (P → Q) → OnOk r Q
on_ok P Q (Ok x) p h = h p
on_ok P Q (Err e) p h = p
