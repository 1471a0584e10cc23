-- What a record of each kind stands for.
use Rattle.std.proofs.Common.{◌≡◌, ◌≢◌, ◌⊎◌, inl, inr, ◌∙◌, ◌+◌, ◌≤◌, ℕ, true, false, List, [], ◌∷◌, nat_eq}
use Rattle.std.proofs.Common.{if◌then◌else◌, refl, sym, ap, subst, arith}
use Rattle.std.proofs.lemmas.Bool.{cond-true, cond-false, eq-eqb, ne_eqb, cases_eq, cases_lt}
use Rattle.frame_store.specs.declared.records.Record.{Record}
use Rattle.frame_store.specs.declared.kinds.TheConstants.{KIND_UNDO, KIND_LATER_BRANCH, KIND_GROUP_OPEN}
use Rattle.frame_store.specs.declared.kinds.TheConstants.{KIND_CALLED_GROUP, KIND_TURN_OPEN, KIND_TURN_OR_EXIT}
use Rattle.frame_store.specs.declared.kinds.TheConstants.{KIND_LATER_TURN, KIND_FEWER_ITEMS, KIND_MORE_ITEMS}
use Rattle.frame_store.specs.declared.kinds.TheConstants.{KIND_ATOMIC_OPEN, KIND_LOOK_OPEN, KIND_LOOK_ALL_OPEN}
use Rattle.frame_store.specs.declared.kinds.TheConstants.{KIND_LOOK_TEST, KIND_DENIAL_OPEN, KIND_DENIAL_TEST}
use Rattle.frame_store.specs.declared.kinds.TheConstants.{KIND_CALL_OPEN, KIND_ATOMIC_LEFT, KIND_MARK_PASSED}
use Rattle.frame_store.specs.declared.kinds.TheConstants.{KIND_COMMIT_PASSED, KIND_PRUNE_PASSED, KIND_SKIP_PASSED}
use Rattle.frame_store.specs.declared.kinds.TheConstants.{KIND_THEN_PASSED, KIND_LATER_TRY}
use Rattle.frame_store.specs.Captures.{Captures}
use Rattle.frame_store.specs.Entry.{Entry, Undo, LaterBranch, GroupOpen, CalledGroup, TurnOpen, TurnOrExit}
use Rattle.frame_store.specs.Entry.{LaterTurn, FewerItems, MoreItems, AtomicOpen, LookOpen, LookAllOpen, LookTest}
use Rattle.frame_store.specs.Entry.{DenialOpen, DenialTest, CallOpen, AtomicLeft, MarkPassed, CommitPassed}
use Rattle.frame_store.specs.Entry.{PrunePassed, SkipPassed, ThenPassed, LaterTry, Other, site_of, kept_of, kept_value}
use Rattle.frame_store.specs.Entry.{entry_table, entry_in, entry_of, entry_kind, KnownKindLaw, OtherEntryLaw}
use Rattle.frame_store.specs.Undo.{taken_back}

pub entry_of-undo : (r : Record) → r.kind ≡ KIND_UNDO → entry_of r ≡ Undo (site_of r) r.slot (kept_value r)
unfolding entry_in
entry_of-undo r e = ap (λ k. entry_in (entry_table r) k (Other (site_of r))) e

pub entry_of-later_branch : (r : Record) → r.kind ≡ KIND_LATER_BRANCH
    → entry_of r ≡ LaterBranch (site_of r) (kept_of r) r.count
unfolding entry_in
entry_of-later_branch r e = ap (λ k. entry_in (entry_table r) k (Other (site_of r))) e

pub entry_of-group_open : (r : Record) → r.kind ≡ KIND_GROUP_OPEN → entry_of r ≡ GroupOpen (site_of r) (kept_of r)
unfolding entry_in
entry_of-group_open r e = ap (λ k. entry_in (entry_table r) k (Other (site_of r))) e

pub entry_of-called_group : (r : Record) → r.kind ≡ KIND_CALLED_GROUP → entry_of r ≡ CalledGroup (site_of r) (kept_of r)
unfolding entry_in
entry_of-called_group r e = ap (λ k. entry_in (entry_table r) k (Other (site_of r))) e

pub entry_of-turn_open : (r : Record) → r.kind ≡ KIND_TURN_OPEN → entry_of r ≡ TurnOpen (site_of r) (kept_of r) r.count
unfolding entry_in
entry_of-turn_open r e = ap (λ k. entry_in (entry_table r) k (Other (site_of r))) e

pub entry_of-turn_or_exit : (r : Record) → r.kind ≡ KIND_TURN_OR_EXIT
    → entry_of r ≡ TurnOrExit (site_of r) (kept_of r) r.count
unfolding entry_in
entry_of-turn_or_exit r e = ap (λ k. entry_in (entry_table r) k (Other (site_of r))) e

pub entry_of-later_turn : (r : Record) → r.kind ≡ KIND_LATER_TURN
    → entry_of r ≡ LaterTurn (site_of r) (kept_of r) r.count
unfolding entry_in
entry_of-later_turn r e = ap (λ k. entry_in (entry_table r) k (Other (site_of r))) e

pub entry_of-fewer_items : (r : Record) → r.kind ≡ KIND_FEWER_ITEMS
    → entry_of r ≡ FewerItems (site_of r) (kept_of r) r.from r.to
unfolding entry_in
entry_of-fewer_items r e = ap (λ k. entry_in (entry_table r) k (Other (site_of r))) e

pub entry_of-more_items : (r : Record) → r.kind ≡ KIND_MORE_ITEMS
    → entry_of r ≡ MoreItems (site_of r) (kept_of r) r.count r.to
unfolding entry_in
entry_of-more_items r e = ap (λ k. entry_in (entry_table r) k (Other (site_of r))) e

pub entry_of-atomic_open : (r : Record) → r.kind ≡ KIND_ATOMIC_OPEN → entry_of r ≡ AtomicOpen (site_of r) (kept_of r)
unfolding entry_in
entry_of-atomic_open r e = ap (λ k. entry_in (entry_table r) k (Other (site_of r))) e

pub entry_of-look_open : (r : Record) → r.kind ≡ KIND_LOOK_OPEN → entry_of r ≡ LookOpen (site_of r) (kept_of r)
unfolding entry_in
entry_of-look_open r e = ap (λ k. entry_in (entry_table r) k (Other (site_of r))) e

pub entry_of-look_all_open : (r : Record) → r.kind ≡ KIND_LOOK_ALL_OPEN
    → entry_of r ≡ LookAllOpen (site_of r) (kept_of r)
unfolding entry_in
entry_of-look_all_open r e = ap (λ k. entry_in (entry_table r) k (Other (site_of r))) e

pub entry_of-look_test : (r : Record) → r.kind ≡ KIND_LOOK_TEST → entry_of r ≡ LookTest (site_of r) (kept_of r)
unfolding entry_in
entry_of-look_test r e = ap (λ k. entry_in (entry_table r) k (Other (site_of r))) e

pub entry_of-denial_open : (r : Record) → r.kind ≡ KIND_DENIAL_OPEN → entry_of r ≡ DenialOpen (site_of r) (kept_of r)
unfolding entry_in
entry_of-denial_open r e = ap (λ k. entry_in (entry_table r) k (Other (site_of r))) e

pub entry_of-denial_test : (r : Record) → r.kind ≡ KIND_DENIAL_TEST → entry_of r ≡ DenialTest (site_of r) (kept_of r)
unfolding entry_in
entry_of-denial_test r e = ap (λ k. entry_in (entry_table r) k (Other (site_of r))) e

pub entry_of-call_open : (r : Record) → r.kind ≡ KIND_CALL_OPEN
    → entry_of r ≡ CallOpen (site_of r) (kept_of r) r.slot r.from
unfolding entry_in
entry_of-call_open r e = ap (λ k. entry_in (entry_table r) k (Other (site_of r))) e

pub entry_of-atomic_left : (r : Record) → r.kind ≡ KIND_ATOMIC_LEFT
    → entry_of r ≡ AtomicLeft (site_of r) (kept_of r) r.from
unfolding entry_in
entry_of-atomic_left r e = ap (λ k. entry_in (entry_table r) k (Other (site_of r))) e

pub entry_of-mark_passed : (r : Record) → r.kind ≡ KIND_MARK_PASSED → entry_of r ≡ MarkPassed (site_of r) (kept_of r)
unfolding entry_in
entry_of-mark_passed r e = ap (λ k. entry_in (entry_table r) k (Other (site_of r))) e

pub entry_of-commit_passed : (r : Record) → r.kind ≡ KIND_COMMIT_PASSED
    → entry_of r ≡ CommitPassed (site_of r) (kept_of r) r.from
unfolding entry_in
entry_of-commit_passed r e = ap (λ k. entry_in (entry_table r) k (Other (site_of r))) e

pub entry_of-prune_passed : (r : Record) → r.kind ≡ KIND_PRUNE_PASSED
    → entry_of r ≡ PrunePassed (site_of r) (kept_of r) r.from
unfolding entry_in
entry_of-prune_passed r e = ap (λ k. entry_in (entry_table r) k (Other (site_of r))) e

pub entry_of-skip_passed : (r : Record) → r.kind ≡ KIND_SKIP_PASSED
    → entry_of r ≡ SkipPassed (site_of r) (kept_of r) r.from r.to
unfolding entry_in
entry_of-skip_passed r e = ap (λ k. entry_in (entry_table r) k (Other (site_of r))) e

pub entry_of-then_passed : (r : Record) → r.kind ≡ KIND_THEN_PASSED → entry_of r ≡ ThenPassed (site_of r) (kept_of r)
unfolding entry_in
entry_of-then_passed r e = ap (λ k. entry_in (entry_table r) k (Other (site_of r))) e

pub entry_of-later_try : (r : Record) → r.kind ≡ KIND_LATER_TRY → entry_of r ≡ LaterTry (site_of r) (kept_of r) r.count
unfolding entry_in
entry_of-later_try r e = ap (λ k. entry_in (entry_table r) k (Other (site_of r))) e

-- the entry changes no register
record IsPlain (e : Entry) : Type 0 where
  same : (caps : Captures) → taken_back e caps ≡ caps

abbrev ArePlain : List (ℕ × Entry) → Type 0
ArePlain [] = Unit {0}
ArePlain ((k, e) ∷ rest) = IsPlain e × ArePlain rest

entry_in_plain : (table : List (ℕ × Entry)) (kind : ℕ) (other : Entry) → ArePlain table → IsPlain other
    → IsPlain (entry_in table kind other)
unfolding entry_in
entry_in_plain [] kind other h o = o
entry_in_plain ((k, e) ∷ rest) kind other h o =
    elim (nat_eq kind k) as (λ b. IsPlain (if b then e else entry_in rest kind other)) [
      | true ↦ h.0
      | false ↦ entry_in_plain rest kind other h.1 o
    ]

-- the first row of a table is passed over where the kind is another
entry_in-tail : (k : ℕ) (e : Entry) (rest : List (ℕ × Entry)) (kind : ℕ) (other : Entry) → kind ≢ k
    → entry_in ((k, e) ∷ rest) kind other ≡ entry_in rest kind other
unfolding entry_in
entry_in-tail k e rest kind other n = cond-false _ _ _ (ne_eqb kind k n)

plain : {e : Entry} → ((caps : Captures) → taken_back e caps ≡ caps) → IsPlain e
plain h = record { same = h }

pub taken_back-not_undo : (r : Record) (caps : Captures) → r.kind ≢ KIND_UNDO → taken_back (entry_of r) caps ≡ caps
taken_back-not_undo r caps n =
    (subst IsPlain (sym (entry_in-tail _ _ _ _ _ n))
    (entry_in_plain _ _ _ (
      plain (λ caps. refl),
      (
        plain (λ caps. refl),
        (
          plain (λ caps. refl),
          (
            plain (λ caps. refl),
            (
              plain (λ caps. refl),
              (
                plain (λ caps. refl),
                (
                  plain (λ caps. refl),
                  (
                    plain (λ caps. refl),
                    (
                      plain (λ caps. refl),
                      (
                        plain (λ caps. refl),
                        (
                          plain (λ caps. refl),
                          (
                            plain (λ caps. refl),
                            (
                              plain (λ caps. refl),
                              (
                                plain (λ caps. refl),
                                (
                                  plain (λ caps. refl),
                                  (
                                    plain (λ caps. refl),
                                    (
                                      plain (λ caps. refl),
                                      (
                                        plain (λ caps. refl),
                                        (
                                          plain (λ caps. refl),
                                          (plain (λ caps. refl), (plain (λ caps. refl), (plain (λ caps. refl), tt))),
                                        ),
                                      ),
                                    ),
                                  ),
                                ),
                              ),
                            ),
                          ),
                        ),
                      ),
                    ),
                  ),
                ),
              ),
            ),
          ),
        ),
      ),
    )
    (plain (λ caps. refl)))).same caps

abbrev HaveKinds : List (ℕ × Entry) → Type 0
HaveKinds [] = Unit {0}
HaveKinds ((k, e) ∷ rest) = (entry_kind e ≡ k) × HaveKinds rest

-- none of these numbers is the kind
abbrev HasNoRow : List (ℕ × Entry) → ℕ → Type 0
HasNoRow [] kind = Unit {0}
HasNoRow ((k, e) ∷ rest) kind = (kind ≢ k) × HasNoRow rest kind

-- an entry of a table has the kind that it is found by, or the table has none
entry_in_kind : (table : List (ℕ × Entry)) (kind : ℕ) (other : Entry) → HaveKinds table
    → (entry_kind (entry_in table kind other) ≡ kind) ⊎ HasNoRow table kind
unfolding entry_in
entry_in_kind [] kind other h = inr tt
entry_in_kind ((k, e) ∷ rest) kind other h =
    elim (cases_eq kind k) [
      | inl same ↦ inl (ap entry_kind (cond-true _ _ _ (eq-eqb _ _ same)) ∙ h.0 ∙ sym same)
      | inr differs ↦
          elim (entry_in_kind rest kind other h.1) [
            | inl found ↦ inl (ap entry_kind (cond-false _ _ _ (ne_eqb _ _ differs)) ∙ found)
            | inr none ↦ inr (differs, none)
          ]
    ]

entry_in_none : (table : List (ℕ × Entry)) (kind : ℕ) (other : Entry) → HasNoRow table kind
    → entry_in table kind other ≡ other
unfolding entry_in
entry_in_none [] kind other h = refl
entry_in_none ((k, e) ∷ rest) kind other h = cond-false _ _ _ (ne_eqb _ _ h.0) ∙ entry_in_none rest kind other h.1

pub entry_kind-entry_of : KnownKindLaw
entry_kind-entry_of r h =
    elim (entry_in_kind (entry_table r) r.kind (Other (site_of r)) (
      refl,
      (
        refl,
        (
          refl,
          (
            refl,
            (
              refl,
              (
                refl,
                (
                  refl,
                  (
                    refl,
                    (
                      refl,
                      (
                        refl,
                        (
                          refl,
                          (
                            refl,
                            (refl, (refl, (refl, (refl, (refl, (refl, (refl, (refl, (refl, (refl, (refl, tt))))))))))),
                          ),
                        ),
                      ),
                    ),
                  ),
                ),
              ),
            ),
          ),
        ),
      ),
    )) [
      | inl found ↦ found
      | inr none ↦ absurd (omega arith)
    ]

pub entry_of-other : OtherEntryLaw
entry_of-other r h = entry_in_none (entry_table r) r.kind (Other (site_of r)) (
  λ e. omega arith,
  (
    λ e. omega arith,
    (
      λ e. omega arith,
      (
        λ e. omega arith,
        (
          λ e. omega arith,
          (
            λ e. omega arith,
            (
              λ e. omega arith,
              (
                λ e. omega arith,
                (
                  λ e. omega arith,
                  (
                    λ e. omega arith,
                    (
                      λ e. omega arith,
                      (
                        λ e. omega arith,
                        (
                          λ e. omega arith,
                          (
                            λ e. omega arith,
                            (
                              λ e. omega arith,
                              (
                                λ e. omega arith,
                                (
                                  λ e. omega arith,
                                  (
                                    λ e. omega arith,
                                    (
                                      λ e. omega arith,
                                      (λ e. omega arith, (λ e. omega arith, (λ e. omega arith, (λ e. omega arith, tt)))),
                                    ),
                                  ),
                                ),
                              ),
                            ),
                          ),
                        ),
                      ),
                    ),
                  ),
                ),
              ),
            ),
          ),
        ),
      ),
    ),
  ),
)

-- a record of another kind has an entry of another kind
pub entry_kind-not : (r : Record) (k : ℕ) → k ≤ KIND_LATER_TRY → r.kind ≢ k → entry_kind (entry_of r) ≢ k
entry_kind-not r k h differs same =
    elim (cases_lt KIND_LATER_TRY r.kind) [
      | inl past ↦
          let other : entry_kind (entry_of r) ≡ KIND_LATER_TRY + 1 = ap entry_kind (entry_of-other r past) in
          omega (arith, other, same, h)
      | inr within ↦ differs (sym (entry_kind-entry_of r within) ∙ same)
    ]
