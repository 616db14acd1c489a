-- The scan of a lone mutator that goes on, asks for a copy, or ends, has less to pay.
use Rattle.std.proofs.Common.{◌≡◌, ℕ, ◌<◌, true, false, Some, ap, arith}
use Rattle.plain_state.specs.State.{Plain}
use Rattle.atom_store.specs.declared.reply.Reply.{Reply}
use Rattle.atom_store.specs.declared.step.Step.{Step}
use Rattle.page_scan.specs.declared.scan_stage.ScanStage.{ScanStage}
use Rattle.page_scan.specs.declared.scan_stage.ScanStage.TheVariants.{Asks}
use Rattle.page_scan.specs.Left.{left_at, advances}
use Rattle.page_scan.specs.Scanning.{Scanning}
use Rattle.page_scan.specs.Soundness.{FitsStage}
use Rattle.page_scan.specs.Taken.{scan_end, stage_after}
use Rattle.heap_state.specs.Configuration.{Configuration, Stands, table}
use Rattle.heap_state.specs.Memory.Table.{Table}
use Rattle.heap_state.specs.Saving.Words.{Saves}
use Rattle.gc_worker.specs.declared.stage.back.Back.{Back}
use Rattle.gc_worker.specs.declared.stage.Stage.TheVariants.{Scans}
use Rattle.gc_worker.specs.Workers.Held.{Held}
use Rattle.gc_worker.specs.Steps.Wanted.{wanted}
use Rattle.gc_worker.proofs.Stages.Scan.ScanKnowledge.{scans_to}
use Rattle.gc_worker.proofs.Stages.Scan.ScanStages.{scans}
use Rattle.lone_mutator.specs.Law.{Lowers, IsAlone, StepsLower, saves}
use Rattle.lone_mutator.specs.Lone.{NobodyElseAnnounces}
use Rattle.lone_mutator.specs.Potential.{back_left, left_in, size_in}
use Rattle.page_scan.proofs.ScanMeasure.{cost, lowers}
use Rattle.lone_mutator.proofs.Steps.TableSteps.{HoldsBy}
use Rattle.lone_mutator.proofs.Steps.Owed.{OwesAll, pays}

module _ (c : Configuration) (p : Plain) (s : Stands c p) (y : Held) (z : Scanning) (back : Back) (stage : ScanStage) where
  abbrev pub at : Scanning
  at = record z { stage = stage }

  abbrev pub x : Held
  x = record y { stage = Scans at back }

  abbrev t : Table
  t = table c

  -- ---- where the table is as dear as before, and nobody announces a place

  module _ (a : IsAlone c x) (after : Table) (size : size_in after ≡ size_in t) (same : left_in c.pages after ≡ left_in c.pages t) (quiet : NobodyElseAnnounces after.announced false) where
    returns : back_left c.pages (size_in after) y back ≡ back_left c.pages (size_in t) y back
    returns = ap (λ (size : ℕ). back_left c.pages size y back) size

    lower : (next : ScanStage) → cost (scan_end z.layout z.page) next < left_at (scan_end z.layout z.page) stage → Lowers c.pages (saves c) t after x (scans_to x at back next)
    lower (Asks asked) fewer = record { remembers = record { began = a.remembers.began; quiet = quiet; stands = (tt, a.remembers.stands) }; falls = omega (arith, same, returns, fewer) }
    lower _ fewer = record { remembers = record { began = a.remembers.began; quiet = quiet; stands = a.remembers.stands }; falls = omega (arith, same, returns, fewer) }

    -- the stage after the reply
    abbrev next_at : Reply → ScanStage
    next_at reply = stage_after z.layout z.page z.epoch z.in_place stage reply

    pub goes_on : (reply : Reply) → advances stage reply ≡ true → FitsStage z.layout.pages z.page (next_at reply) → OwesAll c p s x after (saves c) reply
    goes_on reply on fits = pays c p s x after reply (lower (next_at reply) (lowers z.layout z.page z.epoch z.in_place stage reply a.is.fits.stage.0.sound.fits fits on))

  -- what a reply owes where the scan stays sound
  abbrev pub OwesSound : Table → Saves → Reply → Type 0
  OwesSound after then reply = FitsStage z.layout.pages z.page (stage_after z.layout z.page z.epoch z.in_place stage reply) → OwesAll c p s x after then reply

  -- which it does
  pub sound_steps : IsAlone c x → ((q : Step) → wanted x ≡ Some q → HoldsBy c p s OwesSound q) → StepsLower c x
  sound_steps a holds = λ q asked. holds q asked (scans c p s 0 y at back a.is q asked).goes.takes.fits
