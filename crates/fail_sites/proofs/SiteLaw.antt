-- Each site does what its graph says.
use Rattle.std.proofs.Common.{◌≡◌, ◌∙◌, ◌<◌, ℕ, suc, true, false, refl, Bool, Option, Some, None}
use Rattle.pat_tree.specs.declared.nodes.Item.{Item}
use Rattle.pat_tree.specs.declared.nodes.AnchorKind.{AnchorKind}
use Rattle.match_items.specs.Items.{after_item, holds}
use Rattle.match_items.proofs.TextGround.{places_stand}
use Rattle.ordered_search.specs.Stream.{Stream}
use Rattle.fail_sites.specs.Graph as sites
use Rattle.fail_sites.specs.Graph.{Graph, IsGraph, Fits}
use Rattle.fail_sites.specs.Stands.{Stands, standing}
use Rattle.fail_sites.specs.SiteLaws.{StandsAt, StandsPast, GoesTo, GoesOnIf, Meets, Holds, Steps, Turns, Branches}
use Rattle.fail_sites.specs.SiteLaws.{Leaves, SiteLaw}
use Rattle.fail_sites.specs.declared.op.Op.{Op}
use Rattle.fail_sites.specs.declared.op.Op.TheVariants as op
use Rattle.fail_sites.proofs.OneSite.{skips, holds_on, takes_on, takes_none, tests_on, tests_none}
use Rattle.fail_sites.proofs.TwoSites.{steps_on, turns_on, branches_on, leaves_on}

module _ (c : Graph) (is : IsGraph c) (v n p : ℕ) (x : ℕ → Stream) (at : StandsAt c v n p x) where
  on_skip : (w : ℕ) → sites.Skips (c.left v) (c.left w) → StandsAt c w n p x
  on_skip w h =
      let next = skips c.setting is.whole.off n p at.state h at.of in
      record {
        here = at.here;
        search = next.search;
        state = next.state;
        of = next.of;
        is = λ u. at.is u ∙ next.is u;
      }

  on_hold : (w : ℕ) → sites.Holds (c.left v) (c.left w) → Holds c w n p x
  on_hold w h =
      let next = holds_on c.setting is.whole.off n p at.state h at.of in
      record {
        after = λ u. next.search (standing p u next.state);
        stands = record {
          here = at.here;
          search = next.search;
          state = next.state;
          of = next.of;
          is = λ u. refl;
        };
        is = λ u. at.is u ∙ next.is u;
      }

  on_step : (w : ℕ) → sites.Steps (c.left v) (c.left w) → Steps c w n p x
  on_step w h =
      let next = steps_on c.setting is.whole.off n p at.state h at.of in
      record {
        after = λ u. next.search (standing p u next.state);
        stands = λ m e. record {
          here = at.here;
          search = next.search;
          state = next.state;
          of = next.of m e;
          is = λ u. refl;
        };
        is = λ u. at.is u ∙ next.is u;
      }

  on_turn : (w : ℕ) → sites.Turns (c.left v) (c.left w) → Turns c w n p x
  on_turn w h =
      let next = turns_on c.setting is.whole.off n p at.state h at.of in
      record {
        after = λ u. next.search (standing p u next.state);
        stands = λ m e. record {
          here = at.here;
          search = next.search;
          state = next.state;
          of = next.of m e;
          is = λ u. refl;
        };
        is = λ u. at.is u ∙ next.is u;
      }

  on_branch : (w y : ℕ) → sites.Branches (c.left v) (c.left w) (c.left y) → Branches c w y n p x
  on_branch w y h =
      let next = branches_on c.setting is.whole.off n p at.state h at.of in
      record {
        after = λ u. next.search (standing p u next.state);
        stands = λ m e. record {
          here = at.here;
          search = next.search;
          state = next.state;
          of = next.of m e;
          is = λ u. refl;
        };
        second = λ u. next.second (standing p u next.state_second);
        stands_second = record {
          here = at.here;
          search = next.second;
          state = next.state_second;
          of = next.of_second;
          is = λ u. refl;
        };
        is = λ u. at.is u ∙ next.is u;
      }

  on_leave : (w y : ℕ) → sites.Leaves (c.left v) (c.left w) (c.left y) → Leaves c w y n p x
  on_leave w y h =
      let next = leaves_on c.setting is.whole.off n p at.state h at.of in
      record {
        after = λ u. next.search (standing p u next.state);
        stands = record {
          here = at.here;
          search = next.search;
          state = next.state;
          of = next.of;
          is = λ u. refl;
        };
        second = λ u. next.second (standing p u next.state_second);
        stands_second = record {
          here = at.here;
          search = next.second;
          state = next.state_second;
          of = next.of_second;
          is = λ u. refl;
        };
        is = λ u. at.is u ∙ next.is u;
      }

  on_take : (item : Item) (w : ℕ) → sites.Takes item (c.left v) (c.left w) → (o : Option ℕ)
      → after_item c.setting.scene item p ≡ o → GoesTo c w n o x
  on_take item w h None e =
      λ u. at.is u ∙ takes_none c.setting is.whole.off n p item at.state u e h at.of
  on_take item w h (Some q) e =
      let there = (places_stand c.setting.scene is.whole.text).forward item p q at.here e in
      let next = takes_on c.setting is.whole.off n p item at.state q there.0 e h at.of in
      record {
        here = there.1;
        search = next.search;
        state = next.state;
        of = next.of;
        is = λ u. at.is u ∙ next.is u;
      }

  on_test : (kind : AnchorKind) (w : ℕ) → sites.Tests kind (c.left v) (c.left w) → (b : Bool)
      → holds c.setting.scene kind p ≡ b → GoesOnIf c w n p b x
  on_test kind w h false e =
      λ u. at.is u ∙ tests_none c.setting is.whole.off n p kind at.state u e h at.of
  on_test kind w h true e =
      let next = tests_on c.setting is.whole.off n p kind at.state e h at.of in
      record {
        here = at.here;
        search = next.search;
        state = next.state;
        of = next.of;
        is = λ u. at.is u ∙ next.is u;
      }

  on_op : (o : Op) → Fits c v o → Meets c o n p x
  on_op op.End fits = tt
  on_op (op.Skip w) fits = on_skip w fits.1
  on_op (op.Ask w) fits = on_skip w fits.0.1
  on_op (op.Take item w) fits = on_take item w fits.0.1 (after_item c.setting.scene item p) refl
  on_op (op.Test kind w) fits = on_test kind w fits.1 (holds c.setting.scene kind p) refl
  on_op (op.Hold w) fits = on_hold w fits.1
  on_op (op.Step w) fits = on_step w fits.1
  on_op (op.Turn w) fits = on_turn w fits.1
  on_op (op.Branch w y) fits = on_branch w y fits.2
  on_op (op.Leave w y) fits = on_leave w y fits.2
  on_op (op.Many item low high w y) fits = tt
  on_op op.Other fits = tt

pub site_law : SiteLaw
site_law c v n p x is within at = on_op c is v n p x at (c.op v) (is.fits v within)
