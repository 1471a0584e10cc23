-- Places so far from the subject's end that no newline that begins there ends at it.
use Rattle.std.proofs.Common.{◌≡◌, ◌∙◌, ℕ, ◌+◌, ◌<◌, ◌≤◌, Bool, true, false, ◌&&◌, ◌||◌, not, cond, eqb, ltb, max}
use Rattle.std.proofs.Common.{List, [], ◌∷◌, length, refl, ap, arith, ⊎_elim}
use Rattle.std.proofs.lemmas.Bool.{cases_Bool, cases_lt, both_ways, lt-ltb, ne_eqb}
use Rattle.byte_lanes.specs.declared.line_end.EndKind.{EndKind}
use Rattle.byte_lanes.specs.declared.line_end.EndKind.TheVariants.{Cr, Lf, CrLf, AnyCrLf, Any, AnyUtf, Nul}
use Rattle.byte_lanes.specs.Newlines.{stands, longest, newline_texts}
use Rattle.pat_tree.specs.Newlines.{end_kind}
use Rattle.pat_tree.specs.declared.nodes.AnchorKind.{AnchorKind}
use Rattle.pat_tree.specs.declared.nodes.AnchorKind.TheVariants.{Caret, Dollar, SubjectStart, SubjectEnd}
use Rattle.pat_tree.specs.declared.nodes.AnchorKind.TheVariants.{EndOrNewline, StartGiven, Word, NotWord}
use Rattle.match_items.specs.Scene.{Scene}
use Rattle.match_items.specs.Items.{holds, is_close, newline_at}
use Rattle.match_items.proofs.OneItem.{is_end-before}
use Rattle.frame_parts.specs.Passing.{is_of_end}

-- a newline has at most 3 bytes
record IsShort (t : List ℕ) : Type 0 where
  few : length t ≤ 3

abbrev AreShort : List (List ℕ) → Type 0
AreShort [] = Unit {0}
AreShort (t ∷ ts) = IsShort t × AreShort ts

short : (t : List ℕ) → ltb 3 (length t) ≡ false → IsShort t
short t e = record { few = ⊎_elim (λ l. absurd (both_ways _ e (lt-ltb 3 _ l))) (λ l. l) (cases_lt 3 (length t)) }

are_short : (kind : EndKind) → AreShort (newline_texts kind)
are_short Cr = (short _ refl, tt)
are_short Lf = (short _ refl, tt)
are_short CrLf = (short _ refl, tt)
are_short AnyCrLf = (short _ refl, (short _ refl, (short _ refl, tt)))
are_short Any = (short _ refl, (short _ refl, (short _ refl, (short _ refl, (short _ refl, (short _ refl, tt))))))
are_short AnyUtf = (
  short _ refl,
  (
    short _ refl,
    (short _ refl, (short _ refl, (short _ refl, (short _ refl, (short _ refl, (short _ refl, tt)))))),
  ),
)
are_short Nul = (short _ refl, tt)

most_by : (ts : List (List ℕ)) (bytes : List ℕ) (k : ℕ) → AreShort ts → longest ts bytes k ≤ 3
most_by [] bytes k h = omega arith
most_by (t ∷ ts) bytes k h =
    let rest = most_by ts bytes k h.1 in
    let here = h.0.few in
    ⊎_elim (λ yes_is. let e : max (cond (stands t bytes k) (length t) 0) (longest ts bytes k) ≡ max (length t)
    (longest ts bytes k) = ap (λ q. max (cond q (length t) 0) (longest ts bytes k)) yes_is in omega arith)
    (λ no_is. let e : max (cond (stands t bytes k) (length t) 0) (longest ts bytes k) ≡ max 0 (longest ts bytes k) =
    ap (λ q. max (cond q (length t) 0) (longest ts bytes k)) no_is in omega arith)
    (cases_Bool (stands t bytes k))

no_both : (b : Bool) → (b && false) ≡ false
no_both true = refl
no_both false = refl

module _ (g : Scene) (p : ℕ) (far : p + 3 < length g.subject) where
  inside : p < length g.subject
  inside = omega (arith, far)

  newline_most : newline_at g p ≤ 3
  newline_most = most_by (newline_texts (end_kind g.options.newline g.options.utf)) g.subject p
      (are_short (end_kind g.options.newline g.options.utf))

  not_last : eqb (p + newline_at g p) (length g.subject) ≡ false
  not_last = ne_eqb _ _ (λ e. omega (arith, e, far, newline_most))

  far_close : is_close g p ≡ false
  far_close = (λ i. is_end-before g p inside i || (ltb 0 (newline_at g p) && not_last i))
      ∙ no_both (ltb 0 (newline_at g p))

  pub far_fails : (kind : AnchorKind) → is_of_end kind ≡ true → holds g kind p ≡ false
  far_fails (Caret m) e = absurd cc
  far_fails (Dollar true end_only) e = absurd cc
  far_fails (Dollar false true) e = ap (λ b. b && not g.matching.noteol) (is_end-before g p inside)
  far_fails (Dollar false false) e = ap (λ b. b && not g.matching.noteol) far_close
  far_fails SubjectStart e = absurd cc
  far_fails SubjectEnd e = is_end-before g p inside
  far_fails EndOrNewline e = far_close
  far_fails StartGiven e = absurd cc
  far_fails (Word u) e = absurd cc
  far_fails (NotWord u) e = absurd cc
