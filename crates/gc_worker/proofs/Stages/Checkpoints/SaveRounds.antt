-- A round for the checkpoint in progress, at each of its stages: it teaches its worker nothing of the epoch.
use Rattle.std.proofs.Common.{◌≡◌, ℕ, ◌-◌, Bool, true, false, Some, refl, ap, subst, ◌∙◌}
use Rattle.std.specs.Prelude.{◌&&◌, not, option_map}
use Rattle.plain_state.specs.State.{Plain}
use Rattle.atom_store.specs.declared.reply.Reply.{Reply}
use Rattle.atom_store.specs.declared.reply.Reply.TheVariants.{Value, Won}
use Rattle.atom_store.specs.declared.step.Step.TheVariants.{Load, Exchange}
use Rattle.atom_store.specs.declared.turn.Turn.{Turn}
use Rattle.atom_store.specs.declared.turn.Turn.TheVariants.{More, Finished}
use Rattle.atom_store.specs.StepOn.{IsOn, step_at}
use Rattle.atom_store.specs.StepOn as on_row
use Rattle.space_map.specs.Spaces.{Layout}
use Rattle.space_map.specs.Table.{SnapNumber, LastSaved}
use Rattle.space_map.specs.WholeTable.{WholeRow, Within, IsWholeRow, whole_place_of}
use Rattle.heap_state.specs.Configuration.{Configuration, Stands}
use Rattle.heap_state.specs.Memory.Entries.{LastSavedIs, word_in_whole}
use Rattle.heap_state.specs.Memory.Table.{word_in}
use Rattle.heap_state.specs.Known.{is_running}
use Rattle.page_saves.specs.declared.save_round_stage.SaveRoundStage.{SaveRoundStage}
use Rattle.page_saves.specs.declared.save_round_stage.SaveRoundStage.TheVariants.{LoadsSnap, Saves, ExchangesDone, Ended}
use Rattle.page_saves.specs.declared.save_round_end.SaveRoundEnd.{SaveRoundEnd}
use Rattle.page_saves.specs.SaveRound as save_round
use Rattle.page_saves.specs.SaveRound.{SavingRound}
use Rattle.page_saves.specs.SoundRound.{IsSaveRoundGoing}
use Rattle.page_saves.proofs.SaveRows.{round_by_rows, round_rows_fit}
use Rattle.page_saves.proofs.Staying.{round_stays}
use Rattle.gc_worker.specs.declared.stage.goal.Goal.{Goal}
use Rattle.gc_worker.specs.declared.stage.goal.Goal.TheVariants.{ForFlip, ForSnap, ForScanner}
use Rattle.gc_worker.specs.declared.stage.Stage.TheVariants.{Checkpoints}
use Rattle.gc_worker.specs.Workers.Fits.{Fits, FitsCheckpoint, IsRoundFor, ReadsSame}
use Rattle.gc_worker.specs.Workers.Held.{Held, at_stage}
use Rattle.gc_worker.specs.Workers.Knows.{knows, post_for}
use Rattle.gc_worker.specs.Steps.Goes.{Is, StepsSo}
use Rattle.gc_worker.specs.Steps.Turned.{turned_save_round}
use Rattle.gc_worker.specs.Steps.Wanted.{wanted}
use Rattle.gc_worker.proofs.Stages.Checkpoints.NextCheckpointStage.{ReadsOwn, round, stays_own, stays_same}
use Rattle.gc_worker.proofs.Stages.Checkpoints.Rounded.{at, rounded_fits, rounded_known}
use Rattle.gc_worker.proofs.Stages.Gate.GateWords.{wants}
use Rattle.gc_worker.proofs.Stages.Saves.SaveStages.{saves}
use Rattle.gc_worker.proofs.Words.RowSteps.{TeachesNothing, untaught, untaught_beside, loads_whole, exchanges_whole}

-- a round that has more to do goes on
going_on : (stage : SaveRoundStage) → save_round.told_at stage ≡ More → IsSaveRoundGoing stage
going_on (Ended result) more = absurd (cc)
going_on stage more = tt

-- ---- what it reads

-- a scanner's round may read anything
abbrev ReadsFor : Held → Goal → SaveRoundStage → Reply → Type 0
ReadsFor x ForScanner stage reply = Unit {0}
ReadsFor x ForFlip stage reply = ReadsOwn x stage reply
ReadsFor x ForSnap stage reply = ReadsOwn x stage reply

-- and each round but for SNAP
abbrev IsPastSnap : SaveRoundStage → Type 0
IsPastSnap LoadsSnap = ⊥
IsPastSnap stage = Unit {0}

own_past : (x : Held) (stage : SaveRoundStage) (reply : Reply) → IsPastSnap stage → ReadsOwn x stage reply
own_past x LoadsSnap reply past = absurd past
own_past x stage reply past = tt

reads_past : (x : Held) (goal : Goal) (stage : SaveRoundStage) (reply : Reply) → IsPastSnap stage → ReadsFor x goal stage reply
reads_past x ForScanner stage reply past = tt
reads_past x ForFlip stage reply past = own_past x stage reply past
reads_past x ForSnap stage reply past = own_past x stage reply past

takes_by : (x : Held) (goal : Goal) (stage : SaveRoundStage) (reply : Reply) → ReadsFor x goal stage reply → ReadsSame x goal stage reply
takes_by x ForScanner stage reply reads = tt
takes_by x ForFlip LoadsSnap (Value word) reads = reads
takes_by x ForSnap LoadsSnap (Value word) reads = reads
takes_by x goal stage reply reads = tt

module _ (c : Configuration) (p : Plain) (s : Stands c p) (k : ℕ) (y : Held) where
  module _ (r : SavingRound) (goal : Goal) (is : Is c k (at y r goal)) where
    abbrev x : Held
    x = at y r goal

    abbrev own : FitsCheckpoint x r goal
    own = is.fits.stage

    pages : r.layout.pages ≡ c.pages
    pages = ap (λ (l : Layout). l.pages) own.layout ∙ is.fits.pages

    -- ---- what becomes of it

    known_next : (q : SavingRound) (turn : Turn SaveRoundEnd) → knows x ≡ knows (turned_save_round x q goal turn)
    known_next q More = refl
    known_next q (Finished result) = rounded_known y r goal result

    caller_next : (goal : Goal) (reply : Reply) → IsRoundFor (at y r goal) goal r → ReadsFor (at y r goal) goal r.stage reply
        → IsRoundFor (at y (save_round.taken r reply) goal) goal (save_round.taken r reply)
    caller_next ForFlip reply of reads = (stays_own (at y (save_round.taken r reply) ForFlip) r of.0.caller of.0.epoch r.stage reply of.0.number reads, of.1)
    caller_next ForSnap reply of reads = (stays_own (at y (save_round.taken r reply) ForSnap) r of.0.caller of.0.epoch r.stage reply of.0.number reads, of.1)
    caller_next ForScanner reply of reads = record { caller = (stays_same r r.stage reply).caller ∙ of.caller; no_run = of.no_run }

    fits_next : (reply : Reply) → ReadsFor x goal r.stage reply → (turn : Turn SaveRoundEnd) → save_round.told (save_round.taken r reply) ≡ turn
        → Fits c.pages c.mutators k (turned_save_round x (save_round.taken r reply) goal turn)
    fits_next reply reads More more =
        let same = stays_same r r.stage reply in
        record {
          worker = is.fits.worker;
          end = is.fits.end;
          side = is.fits.side;
          task = is.fits.task;
          stage = record {
            room = own.room;
            layout = same.layout ∙ own.layout;
            worker = same.worker ∙ own.worker;
            caller = caller_next goal reply own.caller reads;
            going = going_on (save_round.taken r reply).stage more;
            sound = round_stays r reply own.sound;
          };
        }
    fits_next reply reads (Finished result) ends = rounded_fits y r c.pages c.mutators k goal result is.fits

    untaught_by : (reply : Reply) → ReadsFor x goal r.stage reply → TeachesNothing c p s k x reply
    untaught_by reply reads = record {
      same = known_next (save_round.taken r reply) (save_round.told (save_round.taken r reply));
      silent = refl;
      none = refl;
      takes = takes_by x goal r.stage reply reads;
      fits = fits_next reply reads (save_round.told (save_round.taken r reply)) refl;
    }

    -- ---- its steps

    -- a load
    loads_it : (row : WholeRow) → IsWholeRow r.layout.pages row → wanted x ≡ Some (Load (whole_place_of r.layout.pages row))
        → ReadsFor x goal r.stage (Value (word_in_whole c.pages c.words row)) → StepsSo c p s k x
    loads_it row is_row want reads =
        wants c p s k x (Load (whole_place_of c.pages row)) (want ∙ ap (λ (n : ℕ). Some (Load (whole_place_of n row))) pages)
        (loads_whole c p s k x is own.room row (subst (λ (n : ℕ). IsWholeRow n row) pages is_row) (untaught c p s k x is _ (untaught_by _ reads)))

  -- ---- the word of SNAP

  module _ (r : SavingRound) where
    -- a mutator that runs has read SNAP as it is
    snap_same : (goal : Goal) (is : Is c k (at y (round r LoadsSnap) goal)) → is_running (post_for goal) ≡ true → word_in c.pages c.words SnapNumber ≡ y.snap
    snap_same goal is runs =
        is.recalls (ap (λ (b : Bool). b && is_running (post_for goal) && not false) is.fits.stage.room ∙ ap (λ (b : Bool). true && b && not false) runs)

    snap_reads : (goal : Goal) → Is c k (at y (round r LoadsSnap) goal) → ReadsFor (at y (round r LoadsSnap) goal) goal LoadsSnap (Value (word_in c.pages c.words SnapNumber))
    snap_reads ForFlip is = snap_same ForFlip is refl
    snap_reads ForSnap is = snap_same ForSnap is refl
    snap_reads ForScanner is = tt

  -- ---- each stage

  module _ (r : SavingRound) (goal : Goal) where
    -- a load of another row than SNAP
    loads_past : (stage : SaveRoundStage) (row : WholeRow) (is : Is c k (at y (round r stage) goal)) → IsPastSnap stage
        → save_round.wants_at (round r stage) stage ≡ Some (on_row.Load row) → StepsSo c p s k (at y (round r stage) goal)
    loads_past stage row is past wants =
        let fits = is.fits.stage.sound.stage in
        loads_it (round r stage) goal is row (subst (IsOn (IsWholeRow r.layout.pages)) wants (round_rows_fit (round r stage) stage fits is.fits.stage.going))
        (round_by_rows (round r stage) stage fits ∙ ap (option_map (step_at (whole_place_of r.layout.pages))) wants)
        (reads_past (at y (round r stage) goal) goal stage _ past)

    -- DONE is exchanged
    marks : Is c k (at y (round r ExchangesDone) goal) → StepsSo c p s k (at y (round r ExchangesDone) goal)
    marks is =
        let q = round r ExchangesDone in
        let x = at y q goal in
        wants c p s k x (Exchange (whole_place_of c.pages (Within LastSaved)) (r.number - 1) r.number)
        (ap (λ (n : ℕ). Some (Exchange (whole_place_of n (Within LastSaved)) (r.number - 1) r.number)) (pages q goal is))
        (exchanges_whole c p s k x is is.fits.stage.room (LastSavedIs r.number) (r.number - 1) tt
        (λ same. untaught_beside c p s k x is (LastSavedIs r.number) Won tt (untaught_by q goal is Won (reads_past x goal ExchangesDone Won tt)))
        (λ other. untaught c p s k x is _ (untaught_by q goal is _ (reads_past x goal ExchangesDone _ tt))))

    by_stage : (stage : SaveRoundStage) → Is c k (at y (round r stage) goal) → StepsSo c p s k (at y (round r stage) goal)
    by_stage LoadsSnap is = loads_it (round r LoadsSnap) goal is (Within SnapNumber) tt refl (snap_reads r goal is)
    by_stage (Saves z) is =
        let own = is.fits.stage.sound.stage.1 in
        let x = at y (round r (Saves z)) goal in
        saves c p s k x is is.fits.stage.room z (own.in_layout ∙ is.fits.stage.layout)
        (λ reply. untaught_by (round r (Saves z)) goal is reply (reads_past x goal (Saves z) reply tt)) own.sound own.going refl
    by_stage ExchangesDone is = marks is
    by_stage (Ended result) is = absurd is.fits.stage.going
    by_stage stage is = loads_past stage _ is tt refl

    pub checkpoints : Is c k (at_stage y (Checkpoints r goal)) → StepsSo c p s k (at_stage y (Checkpoints r goal))
    checkpoints is = by_stage r.stage is
