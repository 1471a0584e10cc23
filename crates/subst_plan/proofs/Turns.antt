-- What one piece makes of a replacement that is being read.
use Rattle.std.proofs.Common.{◌≡◌, ℕ, suc, ◌+◌, ◌-◌, ◌<◌, ◌≤◌, Bool, cond, List, [], ◌∷◌, ◌++◌, length, Result, Ok}
use Rattle.std.proofs.Common.{Err, All, ap, sym, ◌∙◌, refl, arith, append_assoc}
use Rattle.std.proofs.lemmas.List.{append-nil}
use Rattle.std.proofs.lemmas.Bool.{lt-ltb, le-ltb}
use Rattle.std.proofs.lemmas.List.Elements.{All-push, All-nil}
use Rattle.subst_plan.specs.declared.faults.PlanError.{PlanError}
use Rattle.subst_plan.specs.declared.faults.PlanError.TheVariants.{BadReplacement, BadEscape, MissingBrace}
use Rattle.subst_plan.specs.declared.faults.PlanError.TheVariants.{BadSyntax, Memory}
use Rattle.subst_plan.specs.declared.pieces.Inner.{Inner}
use Rattle.subst_plan.specs.declared.pieces.Piece.{Piece}
use Rattle.subst_plan.specs.Reading.{◌>>=◌}
use Rattle.subst_plan.specs.Plans.{before, ended, next_piece, nest_after, pieces_from, pieces_of, IsIn, IsAfter}
use Rattle.subst_plan.specs.Plans.{Refuses}

pub before_nothing : (read : Result (List Piece) PlanError) → before [] read ≡ read
before_nothing (Ok pieces) = refl
before_nothing (Err e) = refl

pub before_twice : (pieces : List Piece) (p : Piece) (read : Result (List Piece) PlanError)
    → before pieces (before (p ∷ []) read) ≡ before (pieces ++ p ∷ []) read
before_twice pieces p (Ok rest) = ap Ok (sym (append_assoc pieces (p ∷ []) rest))
before_twice pieces p (Err e) = refl

pub refuses : {A : Type 0} (read : Result A PlanError) (e : PlanError) → read ≡ Err e → Refuses read e
refuses read BadReplacement is = is
refuses read BadEscape is = is
refuses read MissingBrace is = is
refuses read BadSyntax is = is
refuses read Memory is = tt

pub refuses_on : {A B : Type 0} (read : Result A PlanError) (whole : Result B PlanError) (e : PlanError)
    → (read ≡ Err e → whole ≡ Err e) → Refuses read e → Refuses whole e
refuses_on read whole BadReplacement on is = on is
refuses_on read whole BadEscape on is = on is
refuses_on read whole MissingBrace on is = on is
refuses_on read whole BadSyntax on is = on is
refuses_on read whole Memory on is = tt

ended_some : (nest : List Inner) → 0 < length nest → ended nest ≡ Err MissingBrace
ended_some [] some = absurd (omega arith)
ended_some (text ∷ nest) some = refl

pub nothing_open : (nest : List Inner) → length nest ≡ 0 → nest ≡ []
nothing_open [] none = refl
nothing_open (text ∷ nest) none = absurd (omega arith)

one_more : (n size at : ℕ) → size < n + at → at ≤ size → n ≡ suc (n - 1)
one_more n size at enough inside = omega arith

module _ (extended utf : Bool) (text : List ℕ) where
  -- what the pieces from a place on are, by the piece there
  abbrev by_piece : ℕ → List Inner → Result (Piece × ℕ) PlanError → Result (List Piece) PlanError
  by_piece n nest next = next >>= λ found. nest_after found.0 nest >>= λ deeper. before (found.0 ∷ [])
      (pieces_from extended utf text n deeper found.1)

  turn : (n : ℕ) (nest : List Inner) (at : ℕ) → at < length text → length text < n + at
      → pieces_from extended utf text n nest at ≡ by_piece (n - 1) nest (next_piece extended utf text nest at)
  turn n nest at more enough =
      let one : n ≡ suc (n - 1) = one_more n (length text) at enough (omega arith) in
      ap (λ k. pieces_from extended utf text k nest at) one
      ∙ ap (λ b. cond b (by_piece (n - 1) nest (next_piece extended utf text nest at)) (ended nest))
      (lt-ltb at (length text) more)

  last : (n : ℕ) (nest : List Inner) (at : ℕ) → at ≡ length text → length text < n + at
      → pieces_from extended utf text n nest at ≡ ended nest
  last n nest at here enough =
      let one : n ≡ suc (n - 1) = one_more n (length text) at enough (omega arith) in
      ap (λ k. pieces_from extended utf text k nest at) one
      ∙ ap (λ b. cond b (by_piece (n - 1) nest (next_piece extended utf text nest at)) (ended nest))
      (le-ltb at (length text) (omega arith))

begins : (extended utf : Bool) (text : List ℕ)
    → before [] (pieces_from extended utf text (length text + 1) [] 0) ≡ pieces_of extended utf text
unfolding pieces_of
begins extended utf text = before_nothing (pieces_from extended utf text (length text + 1) [] 0)

-- how far the reading has come: these pieces, and those from the place on, are all of them
pub record Reads (extended utf : Bool) (text : List ℕ) (pieces : List Piece) (nest : List Inner) (at : ℕ) : Type 0 where
  pub fuel : ℕ
  pub enough : length text < fuel + at
  pub so_far : before pieces (pieces_from extended utf text fuel nest at) ≡ pieces_of extended utf text
  pub inside : at ≤ length text
  pub parts : All (IsIn text) pieces

pub start : (extended utf : Bool) (text : List ℕ) → Reads extended utf text [] [] 0
start extended utf text = record {
  fuel = length text + 1;
  enough = omega arith;
  so_far = begins extended utf text;
  inside = omega arith;
  parts = All-nil (IsIn text);
}

module _ (extended utf : Bool) (text : List ℕ) (pieces : List Piece) (nest : List Inner) (at : ℕ)
    (r : Reads extended utf text pieces nest at) where
  pub bad_piece : (e : PlanError) → at < length text → next_piece extended utf text nest at ≡ Err e
      → pieces_of extended utf text ≡ Err e
  bad_piece e more is =
      sym r.so_far
      ∙ ap (before pieces) (turn extended utf text r.fuel nest at more r.enough
      ∙ ap (by_piece extended utf text (r.fuel - 1) nest) is)

  pub bad_nest : (p : Piece) (to : ℕ) (e : PlanError) → at < length text
      → next_piece extended utf text nest at ≡ Ok (p, to) → nest_after p nest ≡ Err e
      → pieces_of extended utf text ≡ Err e
  bad_nest p to e more is bad =
      sym r.so_far
      ∙ ap (before pieces) (turn extended utf text r.fuel nest at more r.enough
      ∙ ap (by_piece extended utf text (r.fuel - 1) nest) is
      ∙ ap (λ inner. inner >>= λ deeper. before (p ∷ []) (pieces_from extended utf text (r.fuel - 1) deeper to)) bad)

  pub goes_on : (p : Piece) (to : ℕ) (deeper : List Inner) → at < length text
      → next_piece extended utf text nest at ≡ Ok (p, to) → IsAfter text at (p, to) → nest_after p nest ≡ Ok deeper
      → Reads extended utf text (pieces ++ p ∷ []) deeper to
  goes_on p to deeper more is after good =
      let enough = r.enough in
      record {
        fuel = r.fuel - 1;
        enough = omega (arith, enough, after.0);
        so_far = sym (before_twice pieces p (pieces_from extended utf text (r.fuel - 1) deeper to))
            ∙ sym (ap (before pieces) (turn extended utf text r.fuel nest at more r.enough
            ∙ ap (by_piece extended utf text (r.fuel - 1) nest) is
            ∙ ap (λ inner. inner >>= λ deeper. before (p ∷ []) (pieces_from extended utf text (r.fuel - 1) deeper to))
            good))
            ∙ r.so_far;
        inside = after.1;
        parts = All-push (IsIn text) pieces p r.parts after.2;
      }

  pub all_read : length text ≤ at → nest ≡ [] → pieces_of extended utf text ≡ Ok pieces
  all_read past none =
      let here : at ≡ length text = omega (arith, past, r.inside) in
      sym r.so_far
      ∙ ap (before pieces) (last extended utf text r.fuel nest at here r.enough ∙ ap ended none)
      ∙ ap Ok (append-nil pieces)

  pub not_closed : length text ≤ at → 0 < length nest → pieces_of extended utf text ≡ Err MissingBrace
  not_closed past some =
      let here : at ≡ length text = omega (arith, past, r.inside) in
      sym r.so_far
      ∙ ap (before pieces) (last extended utf text r.fuel nest at here r.enough ∙ ended_some nest some)
