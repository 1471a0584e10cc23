-- The rows after the last line that is selected, shown as its context.
use Rattle.std.proofs.Common.{◌≡◌, ◌≢◌, ℕ, ◌+◌, ◌<◌, ◌≤◌, false, List, [], ◌∷◌, ◌++◌, length, Ok, Err, refl, sym, ap}
use Rattle.std.proofs.Common.{subst, ◌∙◌, inl, inr, arith, append_assoc, append-nil, length-append}
use Rattle.std.specs.Prelude.{flat_map}
use Rattle.std.proofs.lemmas.List.Concat.{flat_map-append}
use Rattle.pcre_io.specs.Told.{Told, Kept}
use Rattle.line_feed.specs.Rows.{Row}
use Rattle.line_feed.specs.View.{Feed}
use Rattle.line_feed.proofs.Given.{kind-gives, max-gives}
use Rattle.grep_output.specs.declared.shows.Show.{Show}
use Rattle.grep_output.specs.declared.shows.Show.TheVariants as show
use Rattle.grep_output.specs.declared.shows.Treatment.{Treatment}
use Rattle.grep_output.specs.declared.ended.Ended.{Ended}
use Rattle.grep_output.specs.declared.ended.Ended.TheVariants as told
use Rattle.grep_output.specs.declared.ended.Stop.{Stop}
use Rattle.grep_output.specs.declared.ended.Stop.TheVariants.{SinkFault, Memory}
use Rattle.grep_match.specs.PatternTexts.{line_end}
use Rattle.grep_output.specs.Shows.{lines_after}
use Rattle.grep_output.specs.Course.{line_as}
use Rattle.tool_io.specs.Writes.{WritesAll}
use Rattle.grep_core.specs.Turns.{Halts, EndsSo}
use Rattle.grep_core.specs.WholeScans.{Stood}
use Rattle.grep_core.specs.Work.{Work, fed}
use Rattle.grep_core.specs.Follows.{past, ShowsRow, FollowsOne, FollowsAll, FollowsSome, FollowsPart, Follows}
use Rattle.grep_core.proofs.ScansRows.{stood-gives, stood-begins, stood-little, whole-gives}
use Rattle.grep_output.specs.LittlePast.{bytes_in}
use Rattle.grep_core.proofs.ScansTexts.{writes-none, writes-more, halts-more, halts-memory, grew-part, halts-part}
use Rattle.grep_core.proofs.ScansEnd.{ends-so, lacks-so}

pub after-lines : (shows : Show) (n : ℕ) → shows ≡ show.Lines → lines_after shows n ≡ n
after-lines shows n is = ap (λ (s : Show). lines_after s n) is

pub after-others : (shows : Show) (n : ℕ) → shows ≢ show.Lines → lines_after shows n ≡ 0
after-others show.Lines n other = absurd (other refl)
after-others show.Parts n other = refl
after-others show.Nothing n other = refl

module _ (work : Work) (treated : Treatment) (before : Told) (given : List Row) where
  abbrev texts : List Row → List ℕ
  texts rows = flat_map (line_as work.plan work.name false) rows

  texts-more : (rows : List Row) (row : Row) → texts (rows ++ row ∷ []) ≡ texts rows ++ line_as work.plan work.name
      false row
  texts-more rows row = flat_map-append (line_as work.plan work.name false) rows (row ∷ [])
      ∙ ap (λ l. texts rows ++ l) (append-nil (line_as work.plan work.name false row))

  -- so many rows were shown
  pub record Following (now : Told) (f : Feed) (out0 out : Kept) (n : ℕ) : Type 0 where
    pub rows : List Row
    pub stood : Stood work.plan treated before now f (given ++ rows)
    pub kind : f.kind ≡ line_end work.plan
    pub max : f.max ≡ work.plan.max_buffer_size
    pub near : length f.held ≤ 65536
    pub whole : f.offset ≡ bytes_in (given ++ rows)
    pub long : length rows ≡ n
    pub wrote : WritesAll (texts rows) out0 out

  pub following-none : (now : Told) (f : Feed) (out : Kept) → Stood work.plan treated before now f given
      → f.kind ≡ line_end work.plan → f.max ≡ work.plan.max_buffer_size → length f.held ≤ 65536
      → f.offset ≡ bytes_in given → Following now f out out 0
  following-none now f out stood kind max near whole = record {
    rows = [];
    stood = subst (λ l. Stood work.plan treated before now f l) (sym (append-nil given)) stood;
    kind = kind;
    max = max;
    near = near;
    whole = whole ∙ ap bytes_in (sym (append-nil given));
    long = refl;
    wrote = writes-none out;
  }

  module _ (now after : Told) (f g : Feed) (out0 out out1 : Kept) (n : ℕ) (had : Following now f out0 out n) where
    pub following-more : ShowsRow work (fed f now) (fed g after) out out1 → Following after g out0 out1 (n + 1)
    following-more shows =
        let long = length-append had.rows (shows.row ∷ []) in
        let had_long = had.long in record {
          rows = had.rows ++ shows.row ∷ [];
          stood = subst (λ l. Stood work.plan treated before after g l) (append_assoc given had.rows (shows.row ∷ []))
              (stood-gives work.plan treated before now after f g (given ++ had.rows) shows.row had.stood
              shows.gives);
          kind = kind-gives f g now after shows.row shows.gives ∙ had.kind;
          max = max-gives f g now after shows.row shows.gives ∙ had.max;
          near = shows.gives.cuts.near;
          whole = whole-gives now after f g (given ++ had.rows) shows.row had.whole shows.gives
              ∙ ap bytes_in (append_assoc given had.rows (shows.row ∷ []));
          long = omega arith;
          wrote = subst (λ l. WritesAll l out0 out1) (sym (texts-more had.rows shows.row))
              (writes-more (texts had.rows) (line_as work.plan work.name false shows.row) out0 out out1 had.wrote
              shows.wrote);
        }

    follows-some : (ended : Ended) → n < lines_after work.show work.plan.after_context
        → EndsSo f g now after ended × (out1 ≡ out) → FollowsSome work (past before treated given) after out0 out1
        ended
    follows-some ended few ends =
        let long = had.long in record {
          rows = had.rows;
          ends = ends-so work.plan treated before now after f g (given ++ had.rows) ended had.stood had.kind had.max
              ends.0;
          long = omega arith;
          wrote = subst (λ k. WritesAll (texts had.rows) out0 k) (sym ends.1) had.wrote;
        }

    pub follows-ends : (ended : Ended) → n < lines_after work.show work.plan.after_context
        → EndsSo f g now after ended × (out1 ≡ out) → Follows work (past before treated given) after out0 out1
        (Ok ended)
    follows-ends told.End few ends = follows-some told.End few ends
    follows-ends told.Early few ends = absurd ends.0
    follows-ends told.ReadFault few ends = follows-some told.ReadFault few ends
    follows-ends (told.TooLong line) few ends = follows-some (told.TooLong line) few ends
    follows-ends told.TooMuch few ends = follows-some told.TooMuch few ends

    pub follows-stops : (stop : Stop) → n < lines_after work.show work.plan.after_context
        → FollowsOne work (fed f now) (fed g after) out out1 (Err stop)
        → FollowsPart work (past before treated given) after out0 out1 stop
    follows-stops stop few (inl halts) =
        let rows = had.rows ++ halts.row ∷ [] in
        let stood : Stood work.plan treated before after g (given ++ rows) =
        subst (λ l. Stood work.plan treated before after g l) (append_assoc given had.rows (halts.row ∷ []))
        (stood-gives work.plan treated before now after f g (given ++ had.rows) halts.row had.stood halts.gives)
        in
        let more = length-append had.rows (halts.row ∷ []) in
        let long = had.long in record {
          rows = rows;
          begins = stood-begins work.plan treated before after g (given ++ rows)
              (kind-gives f g now after halts.row halts.gives ∙ had.kind)
              (max-gives f g now after halts.row halts.gives ∙ had.max) stood;
          some = omega arith;
          long = omega arith;
          wrote = subst (λ l. Halts l out0 out1 stop) (sym (texts-more had.rows halts.row))
              (halts-more (texts had.rows) (line_as work.plan work.name false halts.row) out0 out out1 stop had.wrote
              halts.wrote);
          soon = λ is. record {
            whole = had.rows;
            next = halts.row ∷ [];
            parts = refl;
            one = omega arith;
            grew = grew-part (texts had.rows) (line_as work.plan work.name false halts.row) out0.held out.held
                out1.held had.wrote.all (halts-part (line_as work.plan work.name false halts.row) out out1 stop is
                halts.wrote);
            little = stood-little work.plan treated before after g (given ++ rows) stood halts.gives.cuts.near
                (whole-gives now after f g (given ++ had.rows) halts.row had.whole halts.gives
                ∙ ap bytes_in (append_assoc given had.rows (halts.row ∷ [])));
          };
        }
    follows-stops stop few (inr lacks) =
        let long = had.long in record {
          rows = had.rows;
          begins = lacks-so work.plan treated before now after f g (given ++ had.rows) had.stood had.kind had.max
              lacks.1;
          some = omega arith;
          long = omega arith;
          wrote = subst (λ s. Halts (texts had.rows) out0 out1 s) (sym lacks.0)
              (subst (λ k. Halts (texts had.rows) out0 k Memory) (sym lacks.2)
              (halts-memory (texts had.rows) out0 out had.wrote));
          soon = λ is. let e : Memory ≡ SinkFault = sym lacks.0 ∙ is in absurd (cc);
        }

  pub follows-all : (now : Told) (f : Feed) (out0 out : Kept) (n : ℕ) → Following now f out0 out n
      → n ≡ lines_after work.show work.plan.after_context → FollowsAll work (past before treated given) now out0 out
  follows-all now f out0 out n had is = record {
    rows = had.rows;
    begins = stood-begins work.plan treated before now f (given ++ had.rows) had.kind had.max had.stood;
    little = stood-little work.plan treated before now f (given ++ had.rows) had.stood had.near had.whole;
    long = had.long ∙ is;
    wrote = had.wrote;
  }

  module _ (now : Told) (f : Feed) (out0 out out1 : Kept) (n : ℕ) (had : Following now f out0 out n) where
    sent-to : WritesAll [] out out1 → Following now f out0 out1 n
    sent-to sent = record {
      rows = had.rows;
      stood = had.stood;
      kind = had.kind;
      max = had.max;
      near = had.near;
      whole = had.whole;
      long = had.long;
      wrote = subst (λ l. WritesAll l out0 out1) (append-nil (texts had.rows))
          (writes-more (texts had.rows) [] out0 out out1 had.wrote sent);
    }

    -- what was gathered was sent on
    pub following-sent : (g : Feed) → g ≡ f → WritesAll [] out out1 → Following now g out0 out1 n
    following-sent g same sent = subst (λ (h : Feed). Following now h out0 out1 n) (sym same) (sent-to sent)

    -- it was refused
    pub follows-unsent : (stop : Stop) → n < lines_after work.show work.plan.after_context → Halts [] out out1 stop
        → FollowsPart work (past before treated given) now out0 out1 stop
    follows-unsent stop few halts =
        let long = had.long in record {
          rows = had.rows;
          begins = stood-begins work.plan treated before now f (given ++ had.rows) had.kind had.max had.stood;
          some = omega arith;
          long = omega arith;
          wrote = subst (λ l. Halts l out0 out1 stop) (append-nil (texts had.rows))
              (halts-more (texts had.rows) [] out0 out out1 stop had.wrote halts);
          soon = λ is. record {
            whole = had.rows;
            next = [];
            parts = sym (append-nil had.rows);
            one = omega arith;
            grew = grew-part (texts had.rows) [] out0.held out.held out1.held had.wrote.all
                (halts-part [] out out1 stop is halts);
            little = stood-little work.plan treated before now f (given ++ had.rows) had.stood had.near had.whole;
          };
        }
