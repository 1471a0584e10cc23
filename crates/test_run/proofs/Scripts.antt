-- A script that is run line by line: how far it has come, and what was written of it.
use Rattle.std.proofs.Common.{◌≡◌, ◌≢◌, ◌∙◌, ℕ, ◌^◌, ◌<◌, ◌≤◌, List, [], ◌∷◌, ◌++◌, fold, Result, Ok, Err, refl, sym}
use Rattle.std.proofs.Common.{ap, subst, arith, append_assoc, append-nil}
use Rattle.std.specs.Prelude.{IsErr, IsErrAnd}
use Rattle.std.proofs.lemmas.List.{map-append}
use Rattle.std.proofs.KnownBytes.{Appends-nil, Appends-trans}
use Rattle.std.specs.Io.KnownBytes.{Appends}
use Rattle.pcre_io.specs.Told.{Told, Kept, AppendsPrefix}
use Rattle.pcre_io.specs.Causes.{CountsRefusals}
use Rattle.pcre_io.specs.declared.traits.IoError.{IoError}
use Rattle.pcre_io.specs.declared.traits.IoError.TheVariants as io
use Rattle.byte_lanes.specs.declared.line_end.EndKind.TheVariants.{Lf}
use Rattle.line_feed.specs.declared.phase.FeedError.{FeedError}
use Rattle.line_feed.specs.declared.phase.FeedError.TheVariants as feed
use Rattle.line_feed.specs.declared.phase.Phase.TheVariants.{Open, Closed}
use Rattle.line_feed.specs.Rows.{Row, Input, Finish, At, Long, End, Fault, Limit, rows}
use Rattle.line_feed.specs.View.{Feed}
use Rattle.line_feed.specs.Answers.{Gives, Ends, Refuses}
use Rattle.line_feed.specs.Hears.{HasGiven, HasHeard, HasBegun}
use Rattle.line_feed.proofs.Given.{HasGiven-none, HasGiven-gives, HasGiven-lacks, HasHeard-ends, HasHeard-breaks}
use Rattle.line_feed.proofs.Given.{HasHeard-overflows, HasHeard-exceeds, HasBegun-given, live-gives, kind-gives}
use Rattle.line_feed.proofs.Given.{max-gives}
use Rattle.tool_io.specs.Texts.{line}
use Rattle.tool_io.specs.Writes.{Writes, WritesAll}
use Rattle.tool_io.proofs.Writing.{prefix-more, prefix-front}
use Rattle.tool_io.proofs.Printing.{prefix-of}
use Rattle.test_modifiers.specs.declared.modifiers.Modifiers.{Modifiers}
use Rattle.test_script.specs.declared.entries.Entry.{Entry}
use Rattle.test_script.specs.declared.plan.TestPlan.{TestPlan}
use Rattle.test_script.specs.Script.{Script, beginning, line_of, script_after, entries_of}
use Rattle.test_run.specs.declared.stop.ScriptStop.{ScriptStop}
use Rattle.test_run.specs.declared.stop.ScriptStop.TheVariants as stop
use Rattle.test_run.specs.Courses.{Course, between, entry_text, course_after}
use Rattle.test_run.specs.TestText.{Tested, told, text_of, bytes_of, greatest_line, test_text, tested_rows}
use Rattle.test_run.specs.Runs.{RunsTo, RunsScript, Sends, stop_of, stop_at}
use Rattle.test_run.proofs.Sending.{appends-keeps}

-- what a refusal of a write is turned into
pub stopped-so : (r : Result (Unit {0}) ScriptStop) (e : ScriptStop) → IsErr r → IsErrAnd r (λ told. told ≡ e)
    → r ≡ Err e
stopped-so (Ok u) e is told = absurd told
stopped-so (Err f) e is told = ap Err told

-- A feed that gave a row has come further.

pub gives-further : (f g : Feed) (now after : Told) (row : Row) → Gives f g now after row
    → (f.offset < g.offset) × (g.offset ≤ 2 ^ 40)
gives-further f g now after row gives =
    let offset = gives.reads.moves.offset in
    let row_offset = gives.cuts.offset in
    let next_offset = gives.cuts.next_offset in
    let some = gives.cuts.some in
    (omega arith, gives.cuts.limit)

-- The text of lines, and of lines after them.

abbrev pub course_behind : Course → List Entry → Course
course_behind course entries = fold course_after course entries

told-more : (course : Course) (script : Script) (xs ys : List (List ℕ))
    → told course (xs ++ ys) (entries_of script (xs ++ ys)) ≡ told course xs (entries_of script xs) ++ told
    (course_behind course (entries_of script xs)) ys (entries_of (script_after script xs) ys)
unfolding told
told-more course script [] ys = refl
told-more course script (l ∷ xs) ys =
    let e = (line_of script l).0 in
    let first = line l ++ entry_text course e in
    let next = (line_of script l).1 in
    ap (λ t. first ++ t) (told-more (course_after course e) next xs ys)
    ∙ sym (append_assoc first (told (course_after course e) xs (entries_of next xs))
    (told (course_behind (course_after course e) (entries_of next xs)) ys
    (entries_of (script_after next xs) ys)))

told-one : (course : Course) (script : Script) (l : List ℕ)
    → told course (l ∷ []) (entries_of script (l ∷ [])) ≡ line l ++ entry_text course (line_of script l).0
unfolding told
told-one course script l = append-nil (line l ++ entry_text course (line_of script l).0)

after-more : (script : Script) (xs : List (List ℕ)) (l : List ℕ)
    → script_after script (xs ++ l ∷ []) ≡ (line_of (script_after script xs) l).1
after-more script [] l = refl
after-more script (x ∷ xs) l = after-more (line_of script x).1 xs l

behind-more : (course : Course) (script : Script) (xs : List (List ℕ)) (l : List ℕ)
    → course_behind course (entries_of script (xs ++ l ∷ [])) ≡ course_after
    (course_behind course (entries_of script xs)) (line_of (script_after script xs) l).0
behind-more course script [] l = refl
behind-more course script (x ∷ xs) l = behind-more (course_after course (line_of script x).0) (line_of script x).1 xs l

module _ (defaults : Modifiers) where
  abbrev script_of : List Row → Script
  script_of given = script_after (beginning defaults) (bytes_of given)

  abbrev course_in : List Row → Course
  course_in given = course_behind between (entries_of (beginning defaults) (bytes_of given))

  abbrev text : List Row → List ℕ
  text given = text_of defaults (bytes_of given)

  -- what a row writes after those before it
  abbrev row_text : List Row → Row → List ℕ
  row_text given row = line row.bytes ++ entry_text (course_in given) (line_of (script_of given) row.bytes).0

  bytes-more : (given more : List Row) → bytes_of (given ++ more) ≡ bytes_of given ++ bytes_of more
  bytes-more given more = map-append (λ (r : Row). r.bytes) given more

  text-more : (given more : List Row) → text (given ++ more) ≡ text given ++ told (course_in given) (bytes_of more)
      (entries_of (script_of given) (bytes_of more))
  text-more given more = ap (text_of defaults) (bytes-more given more)
      ∙ told-more between (beginning defaults) (bytes_of given) (bytes_of more)

  text-row : (given : List Row) (row : Row) → text (given ++ row ∷ []) ≡ text given ++ row_text given row
  text-row given row = text-more given (row ∷ []) ∙ ap (λ t. text given ++ t)
      (told-one (course_in given) (script_of given) row.bytes)

  script-row : (given : List Row) (row : Row) → script_of (given ++ row ∷ []) ≡ (line_of (script_of given) row.bytes).1
  script-row given row = ap (script_after (beginning defaults)) (bytes-more given (row ∷ []))
      ∙ after-more (beginning defaults) (bytes_of given) row.bytes

  course-row : (given : List Row) (row : Row) → course_in (given ++ row ∷ []) ≡ course_after (course_in given)
      (line_of (script_of given) row.bytes).0
  course-row given row = ap (λ ls. course_behind between (entries_of (beginning defaults) ls))
      (bytes-more given (row ∷ [])) ∙ behind-more between (beginning defaults) (bytes_of given) row.bytes

  -- since the source stood so, the feed has given lines, and their text was written
  pub record Running (before now : Told) (f : Feed) (reader : Script) (course : Course) (old new : Kept) : Type 0 where
    pub live : f.phase ≢ Closed
    pub kind : f.kind ≡ Lf
    pub most : f.max ≡ greatest_line
    pub given : List Row
    pub has : HasGiven before now f given
    pub reader_is : reader ≡ script_of given
    pub course_is : course ≡ course_in given
    pub wrote : WritesAll (text given) old new

  pub running-none : (t : Told) (f : Feed) (reader : Script) (course : Course) (old : Kept) → f.kind ≡ Lf
      → f.max ≡ greatest_line → f.held ≡ [] → f.number ≡ 0 → f.offset ≡ 0 → f.phase ≡ Open
      → reader ≡ beginning defaults → course ≡ between → Running t t f reader course old old
  unfolding told
  running-none t f reader course old kind most held number offset phase reader_is course_is = record {
    live = λ closed. (let e : Open ≡ Closed = sym phase ∙ closed in cc);
    kind = kind;
    most = most;
    given = [];
    has = HasGiven-none t f held number offset phase;
    reader_is = reader_is;
    course_is = course_is;
    wrote = record { all = Appends-nil old.held; steady = refl };
  }

  module _ (before now : Told) (f : Feed) (reader : Script) (course : Course) (old mid : Kept)
      (running : Running before now f reader course old mid) where
    pub running-sent : (g : Feed) (new : Kept) (u : Unit {0}) → g ≡ f → Sends mid new (Ok u)
        → Running before now g reader course old new
    running-sent g new u same sent = record {
      live = subst (λ (h : Feed). h.phase ≢ Closed) (sym same) running.live;
      kind = ap (λ (h : Feed). h.kind) same ∙ running.kind;
      most = ap (λ (h : Feed). h.max) same ∙ running.most;
      given = running.given;
      has = subst (λ (h : Feed). HasGiven before now h running.given) (sym same) running.has;
      reader_is = running.reader_is;
      course_is = running.course_is;
      wrote = record {
        all = appends-keeps old.held mid.held new.held (text running.given) running.wrote.all sent.kept;
        steady = sent.cause ∙ running.wrote.steady;
      };
    }

    module _ (after : Told) (g : Feed) (row : Row) (new : Kept) (gives : Gives f g now after row) where
      abbrev entry : Entry
      entry = (line_of reader row.bytes).0

      row-text : line row.bytes ++ entry_text course entry ≡ row_text running.given row
      row-text =
          ap (λ c. line row.bytes ++ entry_text c entry) running.course_is
          ∙ ap (λ s. line row.bytes ++ entry_text (course_in running.given) (line_of s row.bytes).0) running.reader_is

      pub running-more : (u : Unit {0}) (reader' : Script) (course' : Course)
          → Writes (line row.bytes ++ entry_text course entry) mid new (Ok u)
          → reader' ≡ (line_of reader row.bytes).1 → course' ≡ course_after course entry
          → Running before after g reader' course' old new
      running-more u reader' course' w reader_is course_is = record {
        live = live-gives f g now after row gives;
        kind = kind-gives f g now after row gives ∙ running.kind;
        most = max-gives f g now after row gives ∙ running.most;
        given = running.given ++ row ∷ [];
        has = HasGiven-gives before now after f g running.given row running.has gives;
        reader_is = reader_is ∙ ap (λ s. (line_of s row.bytes).1) running.reader_is
            ∙ sym (script-row running.given row);
        course_is =
            course_is ∙ ap (λ c. course_after c entry) running.course_is
            ∙ ap (λ s. course_after (course_in running.given) (line_of s row.bytes).0) running.reader_is
            ∙ sym (course-row running.given row);
        wrote = record {
          all =
              subst (Appends old.held new.held) (ap (λ t. text running.given ++ t) row-text
              ∙ sym (text-row running.given row))
              (Appends-trans old.held mid.held new.held (text running.given)
              (line row.bytes ++ entry_text course entry) running.wrote.all w.all);
          steady = w.cause ∙ running.wrote.steady;
        };
      }

  -- Where it ends.

  -- these are all lines
  all-text : (plan : TestPlan) (heard : Input) (given : List Row) (finish : Finish) → plan.defaults ≡ defaults
      → rows Lf greatest_line heard ≡ record { rows = given; finish = finish }
      → test_text plan heard ≡ record { out = text given; finish = finish }
  all-text plan heard given finish same is = ap (λ m. tested_rows m (rows Lf greatest_line heard)) same
      ∙ ap (tested_rows defaults) is

  -- these are the first lines
  some-text : (plan : TestPlan) (heard : Input) (given more : List Row) → plan.defaults ≡ defaults
      → (rows Lf greatest_line heard).rows ≡ given ++ more
      → (test_text plan heard).out ≡ text given ++ told (course_in given) (bytes_of more)
      (entries_of (script_of given) (bytes_of more))
  some-text plan heard given more same is = ap (λ m. text_of m (bytes_of (rows Lf greatest_line heard).rows)) same
      ∙ ap text is ∙ text-more given more

  module _ (plan : TestPlan) (same : plan.defaults ≡ defaults) (before now : Told) (f : Feed) (reader : Script)
      (course : Course) (old mid : Kept) (running : Running before now f reader course old mid) where
    heard-all : (after : Told) (finish : Finish) (result : Result (Unit {0}) ScriptStop)
        → HasHeard f.kind f.max before after running.given finish
        → ((t : Tested) → t ≡ record { out = text running.given; finish = finish } → RunsTo t old mid result)
        → RunsScript plan before after old mid result
    heard-all after finish result heard to =
        let lined : HasHeard Lf greatest_line before after running.given finish =
        subst (λ m. HasHeard Lf m before after running.given finish) running.most
        (subst (λ k. HasHeard k f.max before after running.given finish) running.kind heard) in record {
          heard = lined.input;
          hears = lined.hears;
          runs = to (test_text plan lined.input) (all-text plan lined.input running.given finish same lined.all);
        }

    whole : (t : Tested) (finish : Finish) → t ≡ record { out = text running.given; finish = finish }
        → WritesAll t.out old mid × (t.finish ≡ finish)
    whole t finish is = (
      subst (λ (s : Tested). WritesAll s.out old mid) (sym is) running.wrote,
      ap (λ (s : Tested). s.finish) is,
    )

    pub runs-end : (after : Told) (g : Feed) (u : Unit {0}) → Ends f g now after
        → RunsScript plan before after old mid (Ok u)
    runs-end after g u ends = heard-all after (At End) (Ok u)
        (HasHeard-ends before now after f g running.given running.has ends) (λ t is. whole t (At End) is)

    begun-so : (after : Told) (g : Feed) (given : List Row) → g.kind ≡ Lf → g.max ≡ greatest_line
        → HasGiven before after g given → HasBegun Lf greatest_line before after given
    begun-so after g given kind most has =
        subst (λ m. HasBegun Lf m before after given) most
        (subst (λ k. HasBegun k g.max before after given) kind (HasBegun-given before after g given has))

    -- a part of the text was written
    module _ (after : Told) (given : List Row) (begun : HasBegun Lf greatest_line before after given) (new : Kept)
        (part : AppendsPrefix old.held new.held (text given)) where
      part-of : AppendsPrefix old.held new.held (test_text plan begun.input).out
      part-of =
          subst (AppendsPrefix old.held new.held) (sym (some-text plan begun.input given begun.more same begun.all))
          (prefix-front old.held new.held (text given)
          (told (course_in given) (bytes_of begun.more) (entries_of (script_of given) (bytes_of begun.more)))
          part)

      runs-halted : (e : IoError) → CountsRefusals {T = Unit {0}} old.faults new.faults (Err e)
          → RunsScript plan before after old new (Err (stop_of e))
      runs-halted io.Failed rose = record { heard = begun.input; hears = begun.hears; runs = (part-of, rose) }
      runs-halted io.Memory steady = record { heard = begun.input; hears = begun.hears; runs = (part-of, steady) }

    kept-part : AppendsPrefix old.held mid.held (text running.given)
    kept-part = prefix-of old.held mid.held (text running.given) running.wrote.all

    -- the feed refuses a line
    pub runs-refused : (after : Told) (g : Feed) (e : FeedError) → Refuses f g now after e
        → RunsScript plan before after old mid (Err (stop_at e))
    runs-refused after g feed.ReadFault refuses = heard-all after (At Fault) (Err stop.ReadFault)
        (HasHeard-breaks before now after f g running.given running.has refuses) (λ t is. whole t (At Fault) is)
    runs-refused after g (feed.TooLong n) refuses = heard-all after (Long n) (Err (stop.TooLong n))
        (HasHeard-exceeds before now after f g running.given n running.has refuses) (λ t is. whole t (Long n) is)
    runs-refused after g feed.TooMuch refuses = heard-all after (At Limit) (Err stop.TooMuch)
        (HasHeard-overflows before now after f g running.given running.has refuses) (λ t is. whole t (At Limit) is)
    runs-refused after g feed.Memory refuses =
        let lacks = refuses.0 in
        let begun = begun-so after g running.given (lacks.moves.kind ∙ running.kind) (lacks.moves.max ∙ running.most)
        (HasGiven-lacks before now after f g running.given running.has lacks) in
        runs-halted after running.given begun mid kept-part io.Memory running.wrote.steady

    -- memory lacked
    pub runs-lacks : RunsScript plan before now old mid (Err stop.Memory)
    runs-lacks = runs-halted now running.given (begun-so now f running.given running.kind running.most running.has)
        mid kept-part io.Memory running.wrote.steady

    -- what was gathered couldn't be sent on
    pub runs-unsent : (new : Kept) (e : IoError) → Sends mid new (Err e)
        → RunsScript plan before now old new (Err (stop_of e))
    runs-unsent new e sent =
        let part = prefix-of old.held new.held (text running.given)
        (appends-keeps old.held mid.held new.held (text running.given) running.wrote.all sent.kept) in
        runs-halted now running.given (begun-so now f running.given running.kind running.most running.has) new part e
        (subst (λ n. CountsRefusals {T = Unit {0}} n new.faults (Err e)) running.wrote.steady sent.cause)

    -- a part of what a line comes to was written
    pub runs-stopped : (after : Told) (g : Feed) (row : Row) (new : Kept) (e : IoError) → Gives f g now after row
        → Writes {T = Unit {0}} (line row.bytes ++ entry_text course (line_of reader row.bytes).0) mid new (Err e)
        → RunsScript plan before after old new (Err (stop_of e))
    runs-stopped after g row new e gives w =
        let given = running.given ++ row ∷ [] in
        let is = ap (λ t. text running.given ++ t)
        (row-text before now f reader course old mid running after g row new gives)
        ∙ sym (text-row running.given row) in
        let part = subst (AppendsPrefix old.held new.held) is
        (prefix-more old.held mid.held new.held (text running.given) _ running.wrote.all w.part) in
        runs-halted after given (begun-so after g given (kind-gives f g now after row gives ∙ running.kind)
        (max-gives f g now after row gives ∙ running.most)
        (HasGiven-gives before now after f g running.given row running.has gives)) new part e
        (subst (λ n. CountsRefusals {T = Unit {0}} n new.faults (Err e)) running.wrote.steady w.cause)

  -- memory lacked before the first line
  pub runs-unbegun : (plan : TestPlan) → plan.defaults ≡ defaults → (t : Told) (f : Feed) (old : Kept) → f.kind ≡ Lf
      → f.max ≡ greatest_line → f.held ≡ [] → f.number ≡ 0 → f.offset ≡ 0 → f.phase ≡ Open
      → RunsScript plan t t old old (Err stop.Memory)
  runs-unbegun plan same t f old kind most held number offset phase =
      runs-lacks plan same t t f (beginning defaults) between old old
      (running-none t f (beginning defaults) between old kind most held number offset phase refl refl)
