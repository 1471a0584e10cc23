-- The first bytes of the input, which `front` has shown, beside the rows that were given since.
use Rattle.std.proofs.Common.{◌≡◌, ℕ, ◌≤◌, List, [], ◌∷◌, ◌++◌, length, take, refl, sym, ap, subst, ◌∙◌, arith}
use Rattle.std.proofs.Common.{⊎_elim, append-nil, length-append}
use Rattle.std.proofs.lemmas.List.{take-append-le}
use Rattle.pcre_io.specs.Told.{Told}
use Rattle.line_feed.specs.declared.phase.Phase.{Phase}
use Rattle.line_feed.specs.declared.phase.Phase.TheVariants.{Open, Ended, Missed, Full, Closed}
use Rattle.line_feed.specs.Rows.{Row, Ending, Finish, rows_from}
use Rattle.line_feed.specs.View.{Feed, Follows, HasNoMore, to_give}
use Rattle.line_feed.specs.Steps.{Moves}
use Rattle.line_feed.specs.Answers.{Cuts, Gives, Shows}
use Rattle.line_feed.specs.Hears.{HasGiven, HasHeard, HasBegun, HasShown}
use Rattle.line_feed.proofs.Given.{HasGiven-moved, HasGiven-cut, input-for, heard-of, phase-open}

nothing : (gone : List ℕ) → length gone ≡ 0 → gone ≡ []
nothing [] h = refl
nothing (x ∷ gone) h = absurd (omega arith)

-- what `front` showed
pub HasShown-shows : (before now after : Told) (f g : Feed) (shown : List ℕ) → HasGiven before now f [] → f.offset ≡ 0
    → Shows f g now after shown → HasShown before after g [] shown
HasShown-shows before now after f g shown has none shows =
    let h = HasGiven-moved before now after f g [] has shows.moves in
    let offset = h.0.offset in
    let same = shows.moves.offset in
    let gone = nothing h.0.gone (omega arith) in
    let all : g.held ≡ h.0.gone ++ g.held = sym (ap (λ l. l ++ g.held) gone) in
    record {
      given_so = h.0;
      first = shows.bytes ∙ ap (λ l. take 1024 l) all;
      many = λ opened. subst (λ l. 1024 ≤ length l) all (shows.many opened);
    }

-- it stays so when more is taken
pub HasShown-moves : (before now after : Told) (f g : Feed) (given : List Row) (shown : List ℕ)
    → HasShown before now f given shown → Moves f g now after → HasShown before after g given shown
HasShown-moves before now after f g given shown has moves =
    let h = HasGiven-moved before now after f g given has.given_so moves in
    let all = has.given_so.gone ++ f.held in
    ⊎_elim (λ opened.
    let many = has.many opened in
    let longer = length-append all moves.taken in
    record {
      given_so = h.0;
      first = has.first ∙ sym (take-append-le 1024 all moves.taken many) ∙ ap (λ l. take 1024 l) (sym h.1);
      many = λ _. subst (λ l. 1024 ≤ length l) (sym h.1) (omega arith);
    })
    (λ shut.
    let idle = moves.idle shut in
    let same : h.0.gone ++ g.held ≡ all = h.1 ∙ ap (λ l. all ++ l) idle.0 ∙ append-nil all in
    record {
      given_so = h.0;
      first = has.first ∙ ap (λ l. take 1024 l) (sym same);
      many = λ opened. absurd (shut (sym idle.1 ∙ opened));
    })
    (phase-open f.phase)

-- and when a row is given
pub HasShown-cuts : (before now : Told) (f g : Feed) (given : List Row) (row : Row) (shown : List ℕ)
    → HasShown before now f given shown → Cuts f g row → HasShown before now g (given ++ row ∷ []) shown
HasShown-cuts before now f g given row shown has cuts =
    let h = HasGiven-cut before now f g given row has.given_so cuts in
    record {
      given_so = h.0;
      first = has.first ∙ ap (λ l. take 1024 l) (sym h.1);
      many = λ opened. subst (λ l. 1024 ≤ length l) (sym h.1) (has.many (sym cuts.phase ∙ opened));
    }

pub HasShown-gives : (before now after : Told) (f g : Feed) (given : List Row) (row : Row) (shown : List ℕ)
    → HasShown before now f given shown → Gives f g now after row
    → HasShown before after g (given ++ row ∷ []) shown
HasShown-gives before now after f g given row shown has gives =
    HasShown-cuts before after gives.mid g given row shown
    (HasShown-moves before now after f gives.mid given shown has gives.reads.moves) gives.cuts

-- the bytes shown are the first of the input that the source stands for
front-of : (phase : Phase) (all more : List ℕ) (ending : Ending) → Follows phase more ending
    → (phase ≡ Open → 1024 ≤ length all) → take 1024 (all ++ more) ≡ take 1024 all
front-of Open all more ending follows many = take-append-le 1024 all more (many refl)
front-of Ended all more ending follows many = ap (λ l. take 1024 (all ++ l)) follows.0
    ∙ ap (λ l. take 1024 l) (append-nil all)
front-of Missed all more ending follows many = ap (λ l. take 1024 (all ++ l)) follows.0
    ∙ ap (λ l. take 1024 l) (append-nil all)
front-of Full all more ending follows many = ap (λ l. take 1024 (all ++ l)) follows.0
    ∙ ap (λ l. take 1024 l) (append-nil all)
front-of Closed all more ending follows many = absurd follows

-- there is no further row: the rows of the input, and its first bytes
pub HasShown-stops : (before now : Told) (f : Feed) (given : List Row) (finish : Finish) (shown : List ℕ)
    → HasShown before now f given shown → HasNoMore f finish
    → (heard : HasHeard f.kind f.max before now given finish) × (shown ≡ take 1024 heard.input.bytes)
HasShown-stops before now f given finish shown has none =
    let input = input-for before now f given has.given_so in
    let h = heard-of before now f given finish has.given_so none in
    let all = has.given_so.gone ++ f.held in (
      h.0,
      has.first ∙ sym (front-of f.phase all input.more input.input.ending input.follows has.many)
          ∙ ap (λ l. take 1024 l) (sym input.bytes) ∙ ap (λ i. take 1024 i.bytes) (sym h.1),
    )

-- the first rows of the input, and its first bytes
pub HasShown-begun : (before now : Told) (f : Feed) (given : List Row) (shown : List ℕ)
    → HasShown before now f given shown
    → (begun : HasBegun f.kind f.max before now given) × (shown ≡ take 1024 begun.input.bytes)
HasShown-begun before now f given shown has =
    let input = input-for before now f given has.given_so in
    let all = has.given_so.gone ++ f.held in (
      record {
        input = input.input;
        hears = input.hears;
        more = (to_give f input.more input.input.ending).rows;
        all = ap (λ l. (rows_from f.kind f.max 1 0 l input.input.ending).rows) input.bytes
            ∙ ap (λ r. r.rows) (has.given_so.rows input.more input.input.ending input.follows);
      },
      has.first ∙ sym (front-of f.phase all input.more input.input.ending input.follows has.many)
          ∙ ap (λ l. take 1024 l) (sym input.bytes),
    )
