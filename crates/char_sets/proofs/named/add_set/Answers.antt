use Rattle.std.proofs.Common.{◌≡◌, ℕ, ◌||◌, true, false, List, [], ◌∷◌, sym, ap, subst, refl, ◌∙◌, Contains}
use Rattle.std.proofs.lemmas.List.Folds.{list_any-append}
use Rattle.std.specs.List.{list_any}
use Rattle.char_sets.specs.declared.named.NamedSet.{NamedSet}
use Rattle.char_sets.specs.Named.{set_in}
use Rattle.char_sets.proofs.PairLemmas.{contained}
use Rattle.char_sets.proofs.PartLemmas.{or_none}
use Rattle.char_sets.proofs.named.add_set.Goals as goal

-- a set that is there adds nothing
kept : (c : ℕ) (sets : List NamedSet) (named : NamedSet) → Contains sets named →
    list_any (λ set. set_in set c) sets ≡ (list_any (λ set. set_in set c) sets || set_in named c)
kept c sets named at =
    elim (set_in named c) as (λ b. set_in named c ≡ b → list_any (λ set. set_in set c)
    sets ≡ (list_any (λ set. set_in set c) sets || b)) [
      | true ↦ λ is. let all : list_any (λ set. set_in set c) sets ≡ true =
          contained (λ set. set_in set c) sets named at is in all ∙ sym (ap (λ b. b || true) all)
      | false ↦ λ is. or_none (list_any (λ set. set_in set c) sets)
    ] refl

pub returns-then-has_set : goal.returns-then-has_set
returns-then-has_set c k =
    kept k c.args.sets.now.items c.args.named
    (subst (λ (sets : List NamedSet). Contains sets c.args.named) c.deref.ensures.value
    (c.has_set.ensures c.if-has_set.true))

pub returns : goal.returns
returns c k =
    ap (list_any (λ set. set_in set k)) c.in_ok-push.ensures.items
    ∙ list_any-append (λ set. set_in set k) c.args.sets.now.items (c.args.named ∷ [])
    ∙ ap (λ b. list_any (λ set. set_in set k) c.args.sets.now.items || b) (sym (or_none (set_in c.args.named k)))
