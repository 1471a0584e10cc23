-- Where the machine starts, what is ahead is the whole search.
use Rattle.std.proofs.Common.{false, ◌≡◌, ℕ, ◌+◌, ◌∙◌, true, [], replicate, None, ap, arith}
use Rattle.std.proofs.lemmas.List.{length-replicate}
use Rattle.std.proofs.lemmas.List.Elements.{All-replicate}
use Rattle.frame_store.specs.Captures.{Captures}
use Rattle.ordered_search.specs.Stream.{first_state}
use Rattle.ordered_search.specs.Setting.{match_limit}
use Rattle.ordered_search.specs.PlaceAnswer.{place_answer}
use Rattle.ordered_search.specs.Moves.{Follow, Handler, exhaust, at_end, tread}
use Rattle.ordered_search.specs.Paths.{paths}
use Rattle.frame_state.specs.declared.machine.Next.TheVariants.{Enter}
use Rattle.frame_state.specs.declared.machine.Spot.{Spot}
use Rattle.frame_state.specs.Ground.{Ground, tree_of, IsGround}
use Rattle.frame_state.specs.Machine.{conf, heard, Outside}
use Rattle.frame_state.specs.Stops.{none_met}
use Rattle.frame_state.specs.Frames.{past, around, fail, ahead, outside}
use Rattle.frame_state.specs.Validity.{SpanStands, IsValid}
use Rattle.frame_state.proofs.KidParts.{root_part}
use Rattle.frame_state.proofs.Frames.{cont_whole, caught_whole, hand_frame}
use Rattle.search_paths.proofs.Before.{tread_whole}
use Rattle.frame_state.proofs.PartPaths.{past_end}
use Rattle.frame_state.specs.Ground.{settles_by}

module _ (c : Ground) (ok : IsGround c) (place : ℕ) where
  abbrev start_spot : Spot
  start_spot = record {
    place = place;
    keep = place;
    early = place;
    units = 0;
    mark = 0;
    passed = 0;
    frame = 0;
    left = match_limit c.setting;
    last = none_met;
  }

  abbrev start_caps : Captures
  start_caps = replicate c.setting.groups None

  pub starts : tread c.setting (match_limit c.setting) (ahead c (conf (Enter c.root) start_spot [] start_caps))
      ≡ place_answer c.setting place
  unfolding around fail heard
  starts =
      let d : ℕ = match_limit c.setting + 1 in
      let K : Outside = outside c [] start_caps 0 in
      let follow : past c d K c.root ≡ at_end = past_end c c.root ok.last false (ap (settles_by c) ok.whole_unlooked)
      d K
      ∙ cont_whole c [] start_caps in
      ap (λ (z : Follow). tread c.setting (match_limit c.setting)
      (paths c.setting d (tree_of c c.root) (first_state c.setting.groups place) z exhaust (K.hand c.root)))
      follow
      ∙ ap (λ t. tread c.setting (match_limit c.setting)
      (paths c.setting d t (first_state c.setting.groups place) at_end exhaust (K.hand c.root))) ok.whole
      ∙ ap (λ (h : Handler). tread c.setting (match_limit c.setting)
      (paths c.setting d c.setting.whole (first_state c.setting.groups place) at_end exhaust h))
      (hand_frame c [] start_caps 0 c.root ok.whole_alone ∙ caught_whole c [] start_caps)
      ∙ tread_whole c.setting place

  pub starts_valid : c.stands place ≡ true → IsValid c (conf (Enter c.root) start_spot [] start_caps)
  unfolding around
  starts_valid here = record {
    running = (
      root_part c ok,
      record {
        inside = omega arith;
        deep = omega arith;
        counted = omega arith;
        few = omega arith;
        here = here;
        marked = omega arith;
        contained = tt;
      },
      tt,
    );
    records = tt;
    spans = All-replicate (SpanStands c) c.setting.groups None tt;
    slots = length-replicate c.setting.groups None;
  }
