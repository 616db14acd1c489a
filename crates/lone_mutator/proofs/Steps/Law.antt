-- The law of a step of a lone mutator, from those of the stages.
use Rattle.std.proofs.Common.{◌≡◌, false, sym, subst}
use Rattle.plain_state.specs.State.{Plain}
use Rattle.gate_core.specs.declared.gate_stage.GateStage.{GateStage}
use Rattle.gate_core.specs.declared.gate_stage.GateStage.TheVariants as gate_stage
use Rattle.gate_core.specs.Flip.{Flipping}
use Rattle.gate_core.specs.Gate.{Passing}
use Rattle.heap_state.specs.Configuration.{Configuration, Stands}
use Rattle.gc_worker.specs.declared.stage.after.After.{After}
use Rattle.gc_worker.specs.declared.stage.Stage.{Stage}
use Rattle.gc_worker.specs.declared.stage.Stage.TheVariants.{Looks, Passes, Flips, Forwards, Accesses, Places, Serves, Scans, Evacuates, Opens, Recalls, Guards, Checkpoints, BeginsCheckpoint, Gone}
use Rattle.gc_worker.specs.Workers.Held.{Held, at_stage, has_seen_flip}
use Rattle.gc_worker.specs.Steps.Stepped.{awaits_at}
use Rattle.lone_mutator.specs.Law.{IsAlone, LoneStepsLower, StepsLower}
use Rattle.lone_mutator.proofs.Stages.Access.AccessCosts.{accesses}
use Rattle.lone_mutator.proofs.Stages.Checkpoints.CheckpointCosts.{saves_pages}
use Rattle.lone_mutator.proofs.Stages.Copies.Registers.{forwards}
use Rattle.lone_mutator.proofs.Stages.Copies.Scanned.{evacuates}
use Rattle.lone_mutator.proofs.Stages.Gate.Flip.{flips_by}
use Rattle.lone_mutator.proofs.Stages.Gate.Look.{looks}
use Rattle.lone_mutator.proofs.Stages.Gate.Passages.{loads_gate, exchanges_gate}
use Rattle.lone_mutator.proofs.Stages.Guard.{guards}
use Rattle.lone_mutator.proofs.Stages.Place.AllocationCosts.{places}
use Rattle.lone_mutator.proofs.Stages.Recall.{recalls}
use Rattle.lone_mutator.proofs.Stages.Rounds.RoundCosts.{serves}
use Rattle.lone_mutator.proofs.Stages.Scan.PageOpening.{opens}
use Rattle.lone_mutator.proofs.Stages.Scan.ScanCosts.{scans_page}
use Rattle.lone_mutator.proofs.Stages.Snaps.{snaps}
use Rattle.lone_mutator.proofs.Steps.Heaps.{steps_lower}

module _ (c : Configuration) (p : Plain) (s : Stands c p) (x : Held) where
  passes : (g : Passing) (after : After) (stage : GateStage) → IsAlone c (at_stage x (Passes (record g { stage = stage }) after)) → StepsLower c (at_stage x (Passes (record g { stage = stage }) after))
  passes g after gate_stage.Loads a = loads_gate c p s x g.layout after g.passage a
  passes g after (gate_stage.Exchanges gate) a = exchanges_gate c p s x g.layout after g.passage gate a
  passes g after (gate_stage.Ended result) a = absurd a.is.fits.stage.going

  flips : (f : Flipping) → IsAlone c (at_stage x (Flips f)) → StepsLower c (at_stage x (Flips f))
  flips f a =
      let same : f ≡ record { layout = x.layout; epoch = x.epoch; asked = f.asked; seen = has_seen_flip x; stage = f.stage } =
      (λ i. record { layout = a.is.fits.stage.layout i; epoch = a.is.fits.stage.epoch i; asked = f.asked; seen = a.is.fits.stage.seen i; stage = f.stage }) in
      subst (λ (g : Flipping). StepsLower c (at_stage x (Flips g))) (sym same)
      (flips_by c p s x f.asked f.stage (subst (λ (g : Flipping). IsAlone c (at_stage x (Flips g))) same a))

  by_stage : (stage : Stage) → awaits_at stage x.task ≡ false → IsAlone c (at_stage x stage) → StepsLower c (at_stage x stage)
  by_stage Looks busy a = looks c p s x a busy
  by_stage (Passes g after) busy a = passes g after g.stage a
  by_stage (Flips f) busy a = flips f a
  by_stage (Forwards w) busy a = forwards c p s x w a
  by_stage (Accesses z) busy a = accesses c p s x z a
  by_stage (Places z) busy a = places c p s x z a
  by_stage (Serves d back) busy a = serves c p s x d back a
  by_stage (Scans z back) busy a = scans_page c p s x z back a
  by_stage (Evacuates v z back) busy a = evacuates c p s x v z back a
  by_stage (Opens o z back) busy a = opens c p s x o z back a
  by_stage (Recalls r after) busy a = recalls c p s x r after a
  by_stage (Guards g write) busy a = guards c p s x write g a
  by_stage (Checkpoints r goal) busy a = saves_pages c p s x r goal a
  by_stage (BeginsCheckpoint z) busy a = snaps c p s x z a
  by_stage Gone busy a = λ q asked. absurd (cc)

pub lone_steps_lower : LoneStepsLower
lone_steps_lower h p o x q st lone holds busy asked = steps_lower (λ c p s x busy a. by_stage c p s x x.stage busy a) h p o x q st lone holds busy asked
