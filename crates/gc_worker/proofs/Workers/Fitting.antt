-- What fits a worker at a stage fits it whatever its stage was before, and whatever its account, its registers and its task are.
use Rattle.std.proofs.Common.{◌≡◌, ℕ, ◌+◌, Bool, false, if◌then◌else◌, List, Option, ◌∙◌, sym, ap, subst, refl}
use Rattle.alloc_end.specs.Place.{Placing, taken, told}
use Rattle.atom_store.specs.declared.reply.Reply.{Reply}
use Rattle.atom_store.specs.declared.turn.Turn.TheVariants.{More}
use Rattle.fault_duty.specs.Duty.{Round}
use Rattle.forwarding.specs.Evacuation.{Evacuation}
use Rattle.heap_state.specs.Known.{Account}
use Rattle.page_saves.specs.SaveRound.{SavingRound}
use Rattle.page_scan.specs.Scanning.{Scanning}
use Rattle.gc_worker.specs.declared.stage.back.Back.{Back}
use Rattle.gc_worker.specs.declared.stage.back.Back.TheVariants.{ToSnap, ToScanner}
use Rattle.gc_worker.specs.declared.stage.goal.Goal.{Goal}
use Rattle.gc_worker.specs.declared.stage.goal.Goal.TheVariants.{ForFlip, ForSnap, ForScanner}
use Rattle.gc_worker.specs.declared.stage.write.Write.{Write}
use Rattle.gc_worker.specs.declared.stage.write.Write.TheVariants.{OfAccess, OfPlace}
use Rattle.gc_worker.specs.declared.stage.Stage.{Stage}
use Rattle.gc_worker.specs.declared.stage.Stage.TheVariants.{Looks, Passes, Flips, Forwards, Accesses, Places, Serves, Scans, Evacuates, Opens, Recalls, Guards, Checkpoints, BeginsCheckpoint, Gone}
use Rattle.gc_worker.specs.declared.task.Task.{Task}
use Rattle.gc_worker.specs.Workers.Fits.{FitsCopy, FitsPlace, FitsRound, FitsScan, FitsStage, FitsWrite, IsRoundFor, IsRoundOfMutator}
use Rattle.gc_worker.specs.Workers.Held.{Held, at_stage, fields_for, target_for}
use Rattle.gc_worker.specs.Steps.Stepped.{IsForCheckpoint}
use Rattle.gc_worker.specs.Steps.Turned.{back_from, checkpoints, goes_back, guards_place, traced_by, turned, turned_at, turned_place}

-- the parts of which no machine knows
pub record Aside : Type 0 where
  pub account : Account
  pub registers : List ℕ
  pub task : Option Task
  pub stage : Stage

abbrev pub with_aside : Held → Aside → Held
with_aside x o = record x { account = o.account; registers = o.registers; task = o.task; stage = o.stage }

-- the task makes a record with as many fields and the same target
module _ (x : Held) (o : Aside) (fields : fields_for (with_aside x o) ≡ fields_for x) (target : target_for (with_aside x o) ≡ target_for x) where
  abbrev z : Held
  z = with_aside x o

  fits_copy : (epoch : ℕ) (v : Evacuation) → FitsCopy x epoch v → FitsCopy z epoch v
  fits_copy epoch v f = record { layout = f.layout; of_epoch = f.of_epoch; worker = f.worker; going = f.going; sound = f.sound }

  fits_place : (p : Placing) → FitsPlace x p → FitsPlace z p
  fits_place p f =
      record { layout = f.layout; epoch = f.epoch; fields = f.fields ∙ sym fields; snap = f.snap; target = f.target ∙ sym target; going = f.going; rest = f.rest; sound = f.sound }

  fits_round : (d : Round) (back : Back) → FitsRound x d back → FitsRound z d back
  fits_round d back f = record { layout = f.layout; worker = f.worker; caller = f.caller; epoch = f.epoch; going = f.going; sound = f.sound }

  fits_scan : (s : Scanning) → FitsScan x s → FitsScan z s
  fits_scan s f = record { layout = f.layout; epoch = f.epoch; sound = f.sound }

  fits_write : (write : Write) (page : ℕ) → FitsWrite x write page → FitsWrite z write page
  fits_write (OfAccess a) page f = f
  fits_write (OfPlace p) page f = (fits_place p f.0, f.1)

  round_of_mutator : (r : SavingRound) → IsRoundOfMutator x r → IsRoundOfMutator z r
  round_of_mutator r f = record { caller = f.caller; epoch = f.epoch; number = f.number }

  round_for : (goal : Goal) (r : SavingRound) → IsRoundFor x goal r → IsRoundFor z goal r
  round_for ForFlip r f = (round_of_mutator r f.0, f.1)
  round_for ForSnap r f = (round_of_mutator r f.0, f.1)
  round_for ForScanner r f = record { caller = f.caller; no_run = f.no_run }

  pub fits_stage : (stage : Stage) → FitsStage x stage → FitsStage z stage
  fits_stage Looks f = tt
  fits_stage (Passes g after) f = record { layout = f.layout; passage = f.passage; going = f.going; sound = f.sound }
  fits_stage (Flips g) f = record { layout = f.layout; epoch = f.epoch; seen = f.seen; going = f.going; sound = f.sound }
  fits_stage (Forwards w) f = record { register = f.register; copy = fits_copy (x.epoch + 1) w.evac f.copy }
  fits_stage (Accesses a) f = f
  fits_stage (Places p) f = fits_place p f
  fits_stage (Serves d back) f = (fits_round d back f.0, f.1)
  fits_stage (Scans s back) f = (fits_scan s f.0, f.1, f.2)
  fits_stage (Evacuates v s back) f = (fits_copy x.epoch v f.0, fits_scan s f.1, f.2, f.3)
  fits_stage (Opens o s back) f =
      (record { layout = f.0.layout; epoch = f.0.epoch; page = f.0.page; going = f.0.going; sound = f.0.sound }, fits_scan s f.1, f.2, f.3)
  fits_stage (Recalls r after) f = record { room = f.room; layout = f.layout; going = f.going; sound = f.sound }
  fits_stage (Guards g write) f =
      record { room = f.room; layout = f.layout; worker = f.worker; number = f.number; runs = f.runs; going = f.going; sound = f.sound; write = fits_write write g.page f.write }
  fits_stage (Checkpoints r goal) f =
      record { room = f.room; layout = f.layout; worker = f.worker; caller = round_for goal r f.caller; going = f.going; sound = f.sound }
  fits_stage (BeginsCheckpoint s) f = record { layout = f.layout; number = f.number; may = f.may; going = f.going; sound = f.sound }
  fits_stage Gone f = tt

-- before its stage was another
pub fits_before : (x : Held) (was stage : Stage) → FitsStage (at_stage x was) stage → FitsStage x stage
fits_before x was stage f =
    fits_stage (at_stage x was) (record { account = x.account; registers = x.registers; task = x.task; stage = x.stage }) refl refl stage f

-- once its stage is another
pub fits_after : (x : Held) (now stage : Stage) → FitsStage x stage → FitsStage (at_stage x now) stage
fits_after x now stage f =
    fits_stage x (record { account = x.account; registers = x.registers; task = x.task; stage = now }) refl refl stage f

pub fits_moved : (x : Held) (was now stage : Stage) → FitsStage (at_stage x was) stage → FitsStage (at_stage x now) stage
fits_moved x was now stage f = fits_after x now stage (fits_before x was stage f)

-- an allocation that goes on, from which the step makes what is sound
pub placing_guarded : (v x : Held) (p q : Placing) (reply : Reply) → v ≡ x → v.stage ≡ Places p → q ≡ taken p reply → told q ≡ More → FitsStage (turned x reply) (turned x reply).stage
    → FitsStage (at_stage v (Places q)) (guards_place v q)
placing_guarded v x p q reply same is takes more fits =
    let comes : turned v reply ≡ at_stage v (guards_place v q) =
    ap (λ (s : Stage). turned_at v s reply) is ∙ (ap (λ (z : Placing). turned_place v z (told z)) (sym takes) ∙ ap (turned_place v q) more) in
    let fits_v = subst (λ (y : Held). FitsStage (turned y reply) (turned y reply).stage) (sym same) fits in
    fits_moved v (guards_place v q) (Places q) (guards_place v q) (subst (λ (y : Held). FitsStage y y.stage) comes fits_v)

-- without room for checkpoints, who is to begin one or to help with one goes back, if it finds the epoch traced
pub traced_without : (x : Held) (back : Back) → IsForCheckpoint back → x.layout.checkpoints ≡ false → FitsStage (traced_by x back) (traced_by x back).stage → traced_by x back ≡ back_from x back
traced_without x ToSnap helps none fits =
    let room = fits.room in
    absurd (cc (room, none))
traced_without x ToScanner helps none fits = ap (λ (b : Bool). at_stage x (if b then checkpoints x ForScanner else goes_back x ToScanner)) none
traced_without x _ helps none fits = absurd helps

-- and fits there
pub fits_without : (x : Held) (back : Back) → IsForCheckpoint back → x.layout.checkpoints ≡ false → FitsStage (traced_by x back) (traced_by x back).stage → FitsStage (back_from x back) (goes_back x back)
fits_without x back helps none fits = subst (λ (y : Held). FitsStage y y.stage) (traced_without x back helps none fits) fits
