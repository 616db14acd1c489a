-- A round of a lone mutator that goes on has less to pay.
use Rattle.std.proofs.Common.{◌≡◌, ◌≢◌, ℕ, ◌*◌, ◌<◌, true, Some, refl, sym, ap, subst, ◌∙◌, arith}
use Rattle.plain_state.specs.State.{Plain}
use Rattle.atom_store.specs.declared.reply.Reply.{Reply}
use Rattle.atom_store.specs.declared.reply.Reply.TheVariants.{Value}
use Rattle.atom_store.specs.declared.step.Step.TheVariants.{Load}
use Rattle.space_map.specs.Spaces.{to_space, space_start}
use Rattle.space_map.specs.Table.{Row, IsRow, place_of}
use Rattle.fault_duty.specs.declared.caller.Caller.{Caller}
use Rattle.fault_duty.specs.declared.caller.Caller.TheVariants as callers
use Rattle.fault_duty.specs.declared.duty_stage.DutyStage.{DutyStage}
use Rattle.fault_duty.specs.declared.duty_stage.DutyStage.TheVariants.{LoadsGate}
use Rattle.fault_duty.specs.Duty as duty
use Rattle.fault_duty.specs.Duty.{Round}
use Rattle.fault_duty.proofs.RoundMeasure as lowering
use Rattle.heap_state.specs.Configuration.{Configuration, Stands, table, era, memory, team}
use Rattle.heap_state.specs.Memory.Era.{Era, Memory}
use Rattle.heap_state.specs.Memory.Table.{word_in}
use Rattle.heap_state.specs.Known.{Known, is_running}
use Rattle.gc_worker.specs.declared.stage.back.Back.{Back}
use Rattle.gc_worker.specs.declared.stage.back.Back.TheVariants.{ToAccess, ToTarget, ToPlace, ToSnap, ToScanner}
use Rattle.gc_worker.specs.Workers.Fits.{IsCallerOf}
use Rattle.gc_worker.specs.Workers.Held.{Held}
use Rattle.gc_worker.specs.Workers.Knows.{epoch_at}
use Rattle.gc_worker.specs.Steps.Turned.{turned, turned_round}
use Rattle.gc_worker.proofs.Words.Eras.{board_is, start_is}
use Rattle.gc_worker.proofs.Plain.Quiet.{rounds_are_quiet}
use Rattle.gc_worker.proofs.Stages.Rounds.NextRoundStage.{round, at, same_pages}
use Rattle.lone_mutator.specs.Law.{Lowers, IsAlone, StepsLower, saves}
use Rattle.lone_mutator.specs.Lone.{BackStands}
use Rattle.lone_mutator.specs.Potential.{size_in}
use Rattle.lone_mutator.proofs.Steps.GoingBack.{same_back, runs, own_epoch}
use Rattle.lone_mutator.proofs.Stages.Gate.LoneGateCounts.{none_behind, present}
use Rattle.lone_mutator.proofs.Epochs.EpochPages.{opened}
use Rattle.lone_mutator.proofs.Stages.Rounds.LoneRounds.{RoundIsAlone, RoundGoes}
use Rattle.lone_mutator.proofs.Steps.Owed.{Owes, wants, loads, owes_quietly}

module _ (c : Configuration) (p : Plain) (s : Stands c p) (y : Held) (d : Round) (back : Back) where
  module _ (stage : DutyStage) (a : IsAlone c (at c p s 0 y d back stage)) where
    abbrev x : Held
    x = at c p s 0 y d back stage

    abbrev own : Round
    own = round c p s 0 y d back stage

    abbrev E : Era
    E = era c

    abbrev m : Memory
    m = memory c

    back_stands : BackStands back
    back_stands = a.remembers.stands.1

    -- ---- its epoch

    pub of_epoch : d.epoch ≡ y.epoch
    of_epoch = own_epoch x d.epoch back back_stands a.is.fits.stage.0.epoch

    known_epoch : (z : DutyStage) → epoch_at y.epoch (round c p s 0 y d back z) z ≡ d.epoch
    known_epoch LoadsGate = sym of_epoch
    known_epoch _ = refl

    pub worker_epoch : ((team c).worker 0).epoch ≡ d.epoch
    worker_epoch = ap (λ (w : Known). w.epoch) a.is.as_known ∙ known_epoch stage

    running : is_running ((team c).worker 0).post ≡ true
    running = ap (λ (w : Known). is_running w.post) a.is.as_known ∙ runs back back_stands

    pub worker_now : ((team c).worker 0).epoch ≡ E.epoch
    worker_now = (s.invariant.workers 0 a.is.below).timely.running running

    pub era_epoch : E.epoch ≡ d.epoch
    era_epoch = sym worker_now ∙ worker_epoch

    -- ---- it is alone

    mutator_by : (b : Back) (caller : Caller) → BackStands b → IsCallerOf x b caller → (mutators : ℕ) → caller ≢ callers.Scans mutators
    mutator_by (ToAccess access) (callers.Faulted page) stands is mutators e = cc
    mutator_by (ToTarget access) (callers.Faulted page) stands is mutators e = cc
    mutator_by (ToTarget access) callers.Allocates stands is mutators e = cc
    mutator_by ToPlace callers.Allocates stands is mutators e = cc
    mutator_by ToSnap callers.Allocates stands is mutators e = cc
    mutator_by ToScanner caller stands is mutators e = stands
    mutator_by _ _ stands is mutators e = is

    pages : d.layout.pages ≡ c.pages
    pages = same_pages c p s 0 y d back stage a.is

    pub alone : RoundIsAlone E m own
    alone = record {
      mutator = mutator_by back d.caller back_stands a.is.fits.stage.0.caller;
      gate = era_epoch;
      epoch = era_epoch;
      behind = none_behind c p s x a (present c p s x a (runs back back_stands));
      young = s.invariant.aged.young;
      opened = opened E m (team c) s.ghost s.invariant a.one (ap (λ (w : Known). w.scan) a.is.as_known);
      silent = λ k few. a.remembers.quiet k few (λ _. refl);
      board = board_is c ∙ ap (λ n. 64 * (2 * n)) (sym pages);
      start = start_is c ∙ (ap (λ n. space_start n (to_space E.epoch)) (sym pages) ∙ ap (λ e. space_start d.layout.pages (to_space e)) era_epoch);
    }

    -- ---- it goes on

    module _ (reply : Reply) (goes : RoundGoes E m own stage reply) where
      abbrev next : Held
      next = at c p s 0 y d back goes.next

      turns : turned x reply ≡ next
      turns = ap (λ (r : Round). turned_round x r back (duty.told r)) goes.same ∙ ap (turned_round x (round c p s 0 y d back goes.next) back) goes.more

      fewer : duty.left (round c p s 0 y d back goes.next) < duty.left own
      fewer = subst (λ (r : Round). duty.left r < duty.left own) goes.same
          (lowering.lowers own stage reply a.is.fits.stage.0.sound.pages a.is.fits.stage.0.sound.stage goes.advances)

      lower : Lowers c.pages (saves c) (table c) (table c) x next
      lower = record {
        remembers = record { began = a.remembers.began; quiet = a.remembers.quiet; stands = (record { untraced = goes.untraced back a.remembers.stands.0.untraced; found = goes.found }, back_stands) };
        falls = (let same = same_back c.pages (size_in (table c)) next x back refl refl in let less = goes.steps fewer in omega (arith, same, less));
      }

      pub goes_on : Owes c p s x (table c) reply
      goes_on = owes_quietly c p s x (table c) reply next turns (rounds_are_quiet (duty.told (duty.taken own reply))) lower

    -- a load of a row
    pub loads_it : (row : Row) → IsRow c.pages row → duty.wanted own ≡ Some (Load (place_of d.layout.pages row))
        → RoundGoes E m own stage (Value (word_in c.pages c.words row)) → StepsLower c x
    loads_it row is_row want goes =
        wants c p s x (Load (place_of c.pages row)) (want ∙ ap (λ n. Some (Load (place_of n row))) pages)
        (loads c p s x row is_row (goes_on (Value (word_in c.pages c.words row)) goes))
