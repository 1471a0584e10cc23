-- The branches of a lookbehind that are tried after one that has an end.
use Rattle.std.proofs.Common.{◌≡◌, ◌∙◌, ℕ, ◌<◌, ◌⊎◌, Bool, List, Option, Some, sym, subst, inl, inr}
use Rattle.std.specs.Prelude.{slice_get}
use Rattle.match_items.specs.Scene.{Scene}
use Rattle.pat_lengths.specs.declared.backs.Back.{Back}
use Rattle.dfa_paths.specs.declared.graph.Node.{Node}
use Rattle.dfa_paths.specs.declared.graph.Node.TheVariants.{Goto, Look}
use Rattle.dfa_paths.specs.Meets.{Meeting, MeetsBehind, Probes, probed, further}

same_miss : (a : Back) (b c d : ℕ) (p : Back) (q r s : ℕ) →
    ◌≡◌ {A = Option Node} (Some (Look (Some a) b c d)) (Some (Look (Some p) q r s)) → d ≡ s
same_miss a b c d p q r s e = cc

same_entry : (a : Back) (b c d : ℕ) (p : Back) (q r s : ℕ) →
    ◌≡◌ {A = Option Node} (Some (Look (Some a) b c d)) (Some (Look (Some p) q r s)) → b ≡ q
same_entry a b c d p q r s e = cc

same_back : (a : Back) (b c d : ℕ) (p : Back) (q r s : ℕ) →
    ◌≡◌ {A = Option Node} (Some (Look (Some a) b c d)) (Some (Look (Some p) q r s)) → a ≡ p
same_back a b c d p q r s e = cc

goto_look : (a : ℕ) (b : Option Back) (c d e : ℕ) →
    ◌≡◌ {A = Option Node} (Some (Goto a)) (Some (Look b c d e)) → ⊥
goto_look a b c d e h = cc

module _ (g : Scene) (nodes : List Node) (counts : Bool) (M : Meeting) (i : ℕ) where
  -- what is left to be tried at a branch
  pub at_branch : (q : ℕ) (back : Back) (entry hit miss : ℕ) →
      slice_get nodes q ≡ Some (Look (Some back) entry hit miss) →
      Probes g nodes counts M i q →
      MeetsBehind g M back entry i ⊎ ((q < miss) × Probes g nodes counts M i miss)
  at_branch _ back entry hit miss e (probed q b n h m f y) =
      let s = sym f ∙ e in
      inl (subst (λ k. MeetsBehind g M k entry i) (same_back b n h m back entry hit miss s)
      (subst (λ k. MeetsBehind g M b k i) (same_entry b n h m back entry hit miss s) y))
  at_branch _ back entry hit miss e (further q b n h m f l y) =
      let s = same_miss b n h m back entry hit miss (sym f ∙ e) in
      inr (subst (λ k. q < k) s l, subst (Probes g nodes counts M i) s y)

  pub no_branch : (q : ℕ) → ((back : Back) (entry hit miss : ℕ) →
      slice_get nodes q ≡ Some (Look (Some back) entry hit miss) → ⊥) →
      Probes g nodes counts M i q → ⊥
  no_branch _ none (probed q b n h m f y) = none b n h m f
  no_branch _ none (further q b n h m f l y) = none b n h m f

  pub not_goto : (q a : ℕ) → slice_get nodes q ≡ Some (Goto a) →
      Probes g nodes counts M i q → ⊥
  not_goto q a e =
      no_branch q (λ back entry hit miss f. goto_look a (Some back) entry hit miss (sym e ∙ f))
