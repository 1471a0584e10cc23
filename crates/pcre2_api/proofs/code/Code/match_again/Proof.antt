-- The workspace goes to the search, what it holds goes into the match, and what the search says is said of the match.
use Rattle.pcre2_api.proofs.LendingSteps.{◌≡◌, [], ◌∷◌, refl, subst, w64, proved, id⊢, emp, ent, Fml, ftrue, fsep}
use Rattle.pcre2_api.proofs.LendingSteps.{flft, Dict, named, a_type, dcons, dnil, inst_fn, tables, fact, fact_i}
use Rattle.pcre2_api.proofs.LendingSteps.{Item, mean, ‵, raw, ◌⊛◌, some, later, ◌$◌, ◌∵◌, !, qed, done, move, keep}
use Rattle.pcre2_api.proofs.LendingSteps.{drop, use0, use1, use2, split, join, pick, await, suffices, group, enter}
use Rattle.pcre2_api.proofs.LendingSteps.{addr, stop, no_more, and_then, returns, alloc_all, pass_all, free_all}
use Rattle.pcre2_api.proofs.LendingSteps.{look_at, get, through, sets, lands_as, u8, usize, RefOf, RefMutOf}
use Rattle.pcre2_api.proofs.LendingSteps.{SliceRefOf, yes, no, Is, shows, param, bounded, uint_vals, uint_Tells}
use Rattle.pcre2_api.proofs.LendingSteps.{RattleType, MutRef, ShrRef, mut_vals, mut_Tells, shr_vals, shr_Tells, Slot}
use Rattle.pcre2_api.proofs.LendingSteps.{type_at, plain, ShrSlice, shr_slice_vals, shr_slice_Tells, nothing, heard}
use Rattle.pcre2_api.proofs.LendingSteps.{peeks, calls_at, Lasts, lasts, at_exit, triple_of, Stays, walk_of}
use Rattle.pcre2_api.proofs.LendingSteps.{stay_dropped, gave_ref, Goes-dropped, Goes-gave_ref, ends_at, framed}
use Rattle.std.specs.Prelude.{IfOk, IfErr, OnOk, None}
use Rattle.std.proofs.result.Result.TheLaws.{the_row_laws as result_laws}
use Rattle.pcre_io.specs.declared.callouts.Block.{Block}
use Rattle.pcre_io.specs.declared.callouts.Callouts.{Ghosts}
use Rattle.match_drive.specs.frame_state.Room.{IsQuiet}
use Rattle.match_drive.specs.frame_machine.contracts.scratch.Scratch.{the_row as workspace}
use Rattle.match_drive.specs.Starts.{AreAlike}
use Rattle.pat_tree.specs.contracts.options.MatchOptions.{the_row as matching}
use Rattle.pcre2_api.specs.Matched.{AreParts, IsFound, IsMatchError, HasShown, search_of, shown_by}
use Rattle.pcre2_api.specs.Reserved.{Fits, IsOfMatch}
use Rattle.pcre2_api.specs.Starts.{start_fault}
use Rattle.pcre2_api.specs.Holding.{HasAnswer, Leaves, parts_of, as_found}
use Rattle.pcre2_api.specs.contracts.code.Code.{the_row as compiled}
use Rattle.pcre2_api.specs.contracts.found.Held as held-type
use Rattle.pcre2_api.specs.contracts.found.Found as found-type
use Rattle.pcre2_api.proofs.found.Held.TheLaws as held_laws
use Rattle.pcre2_api.proofs.found.Found.TheLaws as found_laws
use Rattle.pcre2_errors.specs.contracts.error.MatchError as error-type
use Rattle.pcre2_errors.proofs.error.MatchError.TheLaws as error_laws
use Rattle.pcre2_api.proofs.Lending.{if_found, on_found, if_refused, same_answer}
use Rattle.pcre2_api.specs.contracts.code.Code.match_again as f
use Rattle.pcre2_api.proofs.code.Code.match_again.Statement.{statement}
use Rattle.pcre2_api.proofs.code.Code.match_again.Code as code
use Rattle.pcre2_api.specs.contracts.seek.seek_again as g
use Rattle.pcre2_api.proofs.seek.seek_again.Met.{met as seek-met}
use Rattle.pcre2_api.specs.contracts.found.found_of as h
use Rattle.pcre2_api.proofs.found.found_of.Met.{met as found-met}

abbrev s0 : Slot 4
s0 = RefOf (0 ∷ []) tt (plain (λ _. compiled)) (λ _. tt)

abbrev s1 : Slot 4
s1 = SliceRefOf (0 ∷ []) tt (plain (λ _. u8)) (λ _. tt)

abbrev s2 : Slot 4
s2 = plain (λ _. usize)

abbrev s3 : Slot 4
s3 = RefOf (1 ∷ []) tt (plain (λ _. matching)) (λ _. tt)

abbrev s4 : Slot 4
s4 = RefMutOf (0 ∷ []) tt (plain (λ _. workspace)) (λ _. tt)

module _ (C : RattleType) (gh : Ghosts C.Denot) (d : Dict) where
  abbrev s5 : Slot 4
  s5 = plain (λ _. param 0 C)

  abbrev stayed : Stays (f.ended C gh d).signature.params (f.ended C gh d).kept
  stayed = (
    stay_dropped s0 yes,
    (
      stay_dropped s1 yes,
      (stay_dropped s2 yes, (stay_dropped s3 yes, (stay_dropped s4 no, (gave_ref (2 ∷ []) tt s5, tt)))),
    ),
  )

pub match_again_spec : {M : Type 1} → statement M
match_again_spec 𝓤 𝓛 𝓜 𝓡 wired C L gh d bound =
    let T = f.ended C gh d in let st = stayed C gh d in let CR : RattleType = param 0 C in
    let c = f.clauses C gh d 𝓛 𝓜.mem 𝓡.returns in
    let inst = bounded (a_type ∷ []) (C, tt) (dcons d dnil) in let fn = inst_fn inst code.function in
    proved 𝓛 T st c 𝓜 𝓡 (
      Goes-dropped 𝓛 4 s0 yes (λ κs x w. refl),
      (
        Goes-dropped 𝓛 4 s1 yes (λ κs x w. refl),
        (
          Goes-dropped 𝓛 4 s2 yes (λ κs x w. refl),
          (
            Goes-dropped 𝓛 4 s3 yes (λ κs x w. refl),
            (Goes-dropped 𝓛 4 s4 no (λ κs x w. refl), (Goes-gave_ref 𝓛 4 2 tt (s5 C gh d), tt)),
          ),
        ),
      ),
    )
    (f.Key.name inst) fn (code.unfolded 𝓤 𝓛.H 𝓜 𝓡 wired (C, tt) d)
    (λ κs. (shr_vals, (shr_slice_vals, (uint_vals w64, (shr_vals, (mut_vals, (mut_vals, tt)))))))
    (λ κs. (
      shr_Tells (named 0) κs.0 compiled,
      (
        shr_slice_Tells (named 0) κs.0 u8,
        (
          uint_Tells w64,
          (
            shr_Tells (named 1) κs.1.0 matching,
            (mut_Tells (named 0) κs.0 workspace, (mut_Tells (named 2) κs.1.1.0 CR, tt)),
          ),
        ),
      ),
    ))
    (λ κs qs bounds a _ are.
    let G = triple_of 𝓛 (g.signature C) (g.spec C gh d 𝓛 𝓜.mem 𝓡.returns) in
    let H = triple_of 𝓛 h.signature (h.spec 𝓛 𝓜.mem 𝓡.returns) in
    let Mid : RattleType = type_at (g.signature C).result κs in
    let Out : RattleType = type_at (f.signature C).result κs in
    let a1 = a.1.0 in let a2 = a.1.1.0 in let a3 = a.1.1.1.0 in let a4 = a.1.1.1.1.0 in let a5 = a.1.1.1.1.1.0 in
    let v0 = shr_vals a.0 in let v1 = shr_slice_vals a1 in let v2 = uint_vals w64 a2 in let v3 = shr_vals a3 in
    let v4 = mut_vals a4 in let v5 = mut_vals a5 in
    let W = walk_of 𝓛 T st c in
    let y : W.Ghost = ((κs, qs, bounds, a, (v0, (v1, (v2, (v3, (v4, (v5, tt))))))), tt) in
    let z : G.Ghost =
    ((κs, qs, bounds, (a4, (a.0, (a1, (a2, (a3, (a5, tt)))))), (v4, (v0, (v1, (v2, (v3, (v5, tt))))))), tt) in
    let O0 = ‵ ((ShrRef (named 0) κs.0 compiled).own_val a.0 v0) in
    let O1 = ‵ ((ShrSlice (named 0) κs.0 u8).own_val a1 v1) in
    let O2 = ‵ (usize.own_val a2 v2) in
    let O3 = ‵ ((ShrRef (named 1) κs.1.0 matching).own_val a3 v3) in
    let O4 = ‵ ((MutRef (named 0) κs.0 workspace).own_val a4 v4) in
    let O5 = ‵ ((MutRef (named 2) κs.1.1.0 CR).own_val a5 v5) in
    let rest : Fml = fsep (flft κs.1.0 qs.1.0)
    (fsep (flft κs.1.1.0 qs.1.1.0) (fsep (flft κs.1.1.1.0 qs.1.1.1.0) ftrue)) in
    let S = search_of a.0.now a3.now a1.now a2 (gh.answers a5.now) in
    qed 𝓛 (((‵ (flft κs.0 qs.0) ⊛ ‵ rest) ⊛ O0 ⊛ O1 ⊛ O2 ⊛ O3 ⊛ O4 ⊛ O5 ⊛ ‵ ftrue) ∷ raw ((c κs a).requires tt) ∷ []) ∵
    split ! $ move ! (1 ∷ []) $ split ! $ move ! (1 ∷ []) $ split ! $ move ! (1 ∷ []) $ split ! $ move ! (1 ∷ []) $
    split ! $ move ! (1 ∷ []) $ split ! $
    -- [the workspace; the calls; the options; the start; the subject; the code; the tokens; what is required]
    move ! (2 ∷ 1 ∷ []) $ join ! $ move ! (2 ∷ 0 ∷ []) $ join ! $ move ! (2 ∷ 0 ∷ []) $ join ! $ move ! (2 ∷ 0 ∷ []) $
    join ! $ move ! (1 ∷ 0 ∷ []) $ join ! $
    move ! (1 ∷ 0 ∷ []) $ join ! $ use2 𝓛 (raw (G.pre z)) (id⊢ 𝓤 _) $
    enter ! _ _ _ _ _ $ alloc_all !
    (λ l. pass_all ! refl (
      (tt, tt),
      (
        (tt, (tt, (record { fits = are.1.0.0.1.0 }, tt))),
        ((tt, record { fits = are.1.1.0.1 }), ((tt, tt), ((tt, tt), ((tt, tt), tt)))),
      ),
    ) $
    sets ! (addr ! (through ! refl (stop !))) refl (tt, tt) $ sets ! (addr ! (through ! refl (stop !))) refl (tt, tt) $
    calls_at ! (framed 𝓤 𝓛.H 𝓜 (tables 𝓤 𝓛.H 𝓜 𝓡 𝓡.env)) G
    (seek-met 𝓤 𝓛 𝓜 𝓡 (code.calls-pcre2_api::seek::seek_again 𝓡.env wired) C L gh d bound) z
    (and_then ! (get ! refl)
    (and_then ! (get ! refl)
    (and_then ! (get ! refl)
    (and_then ! (get ! refl) (and_then ! (get ! refl) (and_then ! (get ! refl) (no_more !))))))) (λ v.
    let aG = z.0.3 in
    use1 𝓛 (later (some (λ (r : Mid.Denot). ((‵ (flft κs.0 qs.0) ⊛ ‵ rest) ⊛ ‵ (Mid.own_val r (v ∷ []))) ⊛
    some (λ (ws : Lasts (g.ended C gh d) κs aG). ‵ (lasts (g.ended C gh d) κs aG ws) ⊛ raw
    ((g.clauses C gh d 𝓛 𝓜.mem 𝓡.returns κs aG).ensures tt r (at_exit (g.ended C gh d) κs aG ws)))))) (id⊢ 𝓤 _)
    $
    await ! tt $ pick ! (λ r. split ! $ split ! $ split ! $ move ! (3 ∷ []) $ pick ! (λ ws. split ! $ move ! (1 ∷ []) $
    -- [what the search ensures; what is left; the token; the other tokens; what it holds; the locals]
    let now : C.Denot = ws.1.1.1.1.1.0 in let seen = gh.seen a5.now in
    let Left : Type 0 → Item 𝓤 = λ Answered. ‵ (Leaves a4 S Answered) in
    let Parts-r : Type 0 = IfOk r (λ held. AreParts (parts_of held)) in
    let Found-r : Type 0 = IfOk r (λ held. IsFound S (parts_of held)) in
    let Code-r : Type 0 = IfOk r (λ held. (held.code.now ≡ a.0.now) × (held.subject.now ≡ a1.now)) in
    let Refused-r : Type 0 = IfErr r (IsMatchError S) in
    let Starts-r : Type 0 = start_fault a.0.now.tree.options.utf a1.now a2 ≡ None → AreAlike S in
    let Rule-r : Type 0 = (block : Block) → gh.answers now block ≡ gh.answers a5.now block in
    let Seen-r : Type 0 = OnOk r (gh.seen now ≡ shown_by S seen) in
    let Shown-r : Type 0 = IfErr r (λ e. HasShown e (gh.seen now) (shown_by S seen)) in
    let Reserved-r : Type 0 = Fits a.0.now a3.now a4.now → IsQuiet gh.refuses (gh.answers a5.now) → IfErr r IsOfMatch in
    use1 𝓛 (Left (HasAnswer r) ⊛ raw (fact 𝓤 Parts-r) ⊛ raw (fact 𝓤 Found-r) ⊛ raw (fact 𝓤 Code-r) ⊛ raw
    (fact 𝓤 Refused-r) ⊛ raw (fact 𝓤 Starts-r) ⊛ raw (fact 𝓤 Rule-r) ⊛ raw (fact 𝓤 Seen-r) ⊛ raw
    (fact 𝓤 Shown-r) ⊛ raw (fact 𝓤 Reserved-r)) (id⊢ 𝓤 _) $
    split ! $ move ! (1 ∷ []) $ split ! $ heard ! Parts-r
    (λ parts-is. split ! $ heard ! Found-r (λ found-is. split ! $ heard ! Code-r
    (λ code-is. split ! $ heard ! Refused-r
    (λ refused-is. split ! $ heard ! Starts-r
    (λ starts-is. split ! $ heard ! Rule-r
    (λ rule-is. split ! $ heard ! Seen-r
    (λ seen-is. split ! $ heard ! Shown-r (λ shown-is. heard ! Reserved-r (λ reserved-is.
    -- [what the workspace ends as; what is left; the token; the other tokens; what it holds; the locals]
    move ! (4 ∷ []) $ peeks ! Mid (Is Mid) (shows 𝓛 Mid) r (v ∷ []) (λ is.
    lands_as ! refl refl
    (((result_laws (held-type.the_row (record { mir = named 0; lft = κs.0 })) error-type.the_row
    (held_laws.the_row_laws (record { mir = named 0; lft = κs.0 })) error_laws.the_row_laws).lawful 𝓛).typed
    r (v ∷ []) is).0 $
    let z' : H.Ghost = (((κs.0, tt), (qs.0, tt), tt, (r, tt), (v ∷ [], tt)), tt) in
    nothing ! $ move ! (1 ∷ 0 ∷ []) $ join ! $ nothing ! $ move ! (4 ∷ 0 ∷ []) $ join ! $ join ! $
    use0 𝓛 (raw (fact 𝓤 Parts-r)) (fact_i 𝓤 Parts-r (emp 𝓤) parts-is) $ move ! (1 ∷ 0 ∷ []) $ use2 𝓛 (raw (H.pre z'))
    (id⊢ 𝓤 _) $
    calls_at ! (framed 𝓤 𝓛.H 𝓜 (tables 𝓤 𝓛.H 𝓜 𝓡 𝓡.env)) H
    (found-met 𝓤 𝓛 𝓜 𝓡 (code.calls-pcre2_api::found::found_of 𝓡.env wired)) z'
    (and_then ! (get ! refl) (no_more !)) (λ u.
    use1 𝓛 (later (some (λ (x : Out.Denot). ((‵ (flft κs.0 qs.0) ⊛ ‵ ftrue) ⊛ ‵ (Out.own_val x (u ∷ []))) ⊛
    some (λ (os : Lasts h.ended (κs.0, tt) (r, tt)). ‵ (lasts h.ended (κs.0, tt) (r, tt) os) ⊛ raw
    (fact 𝓤 (x ≡ as_found r)))))) (id⊢ 𝓤 _) $
    await ! tt $ pick ! (λ x. split ! $ split ! $ split ! $ move ! (3 ∷ []) $ pick !
    (λ os. split ! $ drop ! $ heard ! (x ≡ as_found r) (λ e.
    move ! (2 ∷ []) $ peeks ! Out (Is Out) (shows 𝓛 Out) x (u ∷ []) (λ is'.
    lands_as ! refl refl
    (((result_laws (found-type.the_row (record { mir = named 0; lft = κs.0 })) error-type.the_row
    (found_laws.the_row_laws (record { mir = named 0; lft = κs.0 })) error_laws.the_row_laws).lawful
    𝓛).typed x (u ∷ []) is').0 $
    returns ! (look_at ! 0 refl) $ free_all ! refl $
    suffices ! _ (ends_at 𝓛 T st c y u x (tt, (tt, (tt, (tt, (tt, (now, tt))))))
    (tt, (tt, (tt, (tt, (tt, (tt, tt))))))) $
    let Reserved-x : Type 0 = Fits a.0.now a3.now a4.now → IsQuiet gh.refuses (gh.answers a5.now)
    → IfErr x IsOfMatch in use0 𝓛 (raw (fact 𝓤 Reserved-x))
    (fact_i 𝓤 Reserved-x (emp 𝓤) (λ fits quiet. if_refused r x e IsOfMatch (reserved-is fits quiet))) $
    let Shown-x : Type 0 = IfErr x (λ e. HasShown e (gh.seen now) (shown_by S seen)) in
    use0 𝓛 (raw (fact 𝓤 Shown-x))
    (fact_i 𝓤 Shown-x (emp 𝓤) (if_refused r x e (λ e. HasShown e (gh.seen now) (shown_by S seen)) shown-is)) $
    join ! $
    let Seen-x : Type 0 = OnOk x (gh.seen now ≡ shown_by S seen) in
    use0 𝓛 (raw (fact 𝓤 Seen-x))
    (fact_i 𝓤 Seen-x (emp 𝓤) (on_found r x e (gh.seen now ≡ shown_by S seen) seen-is)) $ join ! $
    let Rule-x : Type 0 = (block : Block) → gh.answers now block ≡ gh.answers a5.now block in
    use0 𝓛 (raw (fact 𝓤 Rule-x)) (fact_i 𝓤 Rule-x (emp 𝓤) rule-is) $ join ! $
    let Starts-x : Type 0 = start_fault a.0.now.tree.options.utf a1.now a2 ≡ None → AreAlike S in
    use0 𝓛 (raw (fact 𝓤 Starts-x)) (fact_i 𝓤 Starts-x (emp 𝓤) starts-is) $ join ! $
    let Refused-x : Type 0 = IfErr x (IsMatchError S) in
    use0 𝓛 (raw (fact 𝓤 Refused-x)) (fact_i 𝓤 Refused-x (emp 𝓤) (if_refused r x e (IsMatchError S) refused-is)) $
    join ! $
    let Code-x : Type 0 = IfOk x (λ m. (m.code ≡ a.0.now) × (m.subject ≡ a1.now)) in
    use0 𝓛 (raw (fact 𝓤 Code-x))
    (fact_i 𝓤 Code-x (emp 𝓤) (if_found r x e (λ m. (m.code ≡ a.0.now) × (m.subject ≡ a1.now)) code-is)) $ join ! $
    let Found-x : Type 0 = IfOk x (IsFound S) in use0 𝓛 (raw (fact 𝓤 Found-x))
    (fact_i 𝓤 Found-x (emp 𝓤) (if_found r x e (IsFound S) found-is)) $ join ! $
    move ! (4 ∷ []) $ use1 𝓛 (Left (HasAnswer x))
    (subst (λ Answered. ent 𝓤 (mean 𝓛 (Left (HasAnswer r))) (mean 𝓛 (Left Answered))) (same_answer r x e)
    (id⊢ 𝓤 _)) $
    join ! $ move ! (2 ∷ 5 ∷ []) $ join ! $ keep ! (0 ∷ 4 ∷ 2 ∷ 1 ∷ []) $ group ! 3 $ done !))))))))))))))))))))
