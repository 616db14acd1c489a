-- A copy that a lone mutator makes for a word that it scans.
use Rattle.std.proofs.Common.{◌≡◌, ℕ, refl, sym, ap, subst, ◌∙◌, arith}
use Rattle.plain_state.specs.State.{Plain}
use Rattle.atom_store.specs.Step.{words_after, reply_of}
use Rattle.heap_words.specs.Decoded.{decode}
use Rattle.forwarding.specs.declared.evac_stage.EvacStage.{EvacStage}
use Rattle.forwarding.specs.declared.evac_stage.EvacStage.TheVariants.{LoadsHeader, TakesHeader, LoadsArea, Announces, Reserves, StoresHeader, LoadsWord, StoresWord, StoresCross, StoresForward, LoadsWeak, StoresLink, TakesWeak, Clears, Ended}
use Rattle.forwarding.specs.Evacuation.{Evacuation}
use Rattle.forwarding.specs.Taken.{stage_after, told}
use Rattle.page_scan.specs.declared.scan_stage.ScanStage.{ScanStage}
use Rattle.page_scan.specs.declared.scan_stage.ScanStage.TheVariants as scan_stage
use Rattle.page_scan.specs.Left as scan_left
use Rattle.page_scan.specs.Scanning.{Scanning}
use Rattle.page_scan.specs.Taken as scan_taken
use Rattle.heap_state.specs.Configuration.{Configuration, Stands, table, era, memory, team}
use Rattle.heap_state.specs.Memory.Table.{Table, table_of}
use Rattle.heap_state.specs.Saving.Words.{Saves}
use Rattle.heap_state.specs.Known.{Known, Quest, Scanned}
use Rattle.gc_worker.specs.declared.stage.back.Back.{Back}
use Rattle.gc_worker.specs.declared.stage.Stage.TheVariants.{Evacuates}
use Rattle.gc_worker.specs.Workers.Fits.{HasAsked}
use Rattle.gc_worker.specs.Workers.Held.{Held, at_stage}
use Rattle.gc_worker.specs.Workers.Knows.{copy_at, cursor_asked, quest_for, scan_of}
use Rattle.gc_worker.specs.Steps.Turned.{turned_copy}
use Rattle.lone_mutator.specs.Law.{Lowers, IsAlone, StepsLower, saves}
use Rattle.lone_mutator.specs.Potential.{back_left, size_in}
use Rattle.lone_mutator.proofs.Stages.Gate.LoneGateCounts.{knowing, present}
use Rattle.lone_mutator.proofs.Steps.GoingBack.{runs}
use Rattle.lone_mutator.proofs.Steps.Owed.{OwesAll, pays}
use Rattle.lone_mutator.proofs.Stages.Copies.CopyCosts.{CopyGoes, CopyIsAlone, copy_goes}
use Rattle.lone_mutator.proofs.Stages.Copies.CopyReads.{IsFirstWord, reads_first}
use Rattle.lone_mutator.proofs.Epochs.EpochPages.{untraced_scanning}

-- a scan that is answered has as much left as one that asks
answered-left : (z : Scanning) (stage : ScanStage) (v : Evacuation) (to : ℕ) → HasAsked v stage
    → scan_left.left_at (scan_taken.scan_end z.layout z.page) (scan_taken.stage_answered stage to) ≡ scan_left.left_at (scan_taken.scan_end z.layout z.page) stage
answered-left z (scan_stage.Asks asked) v to has = refl
answered-left z _ v to has = absurd has

module _ (c : Configuration) (p : Plain) (s : Stands c p) (y : Held) (v : Evacuation) (z : Scanning) (back : Back) (a : IsAlone c (at_stage y (Evacuates v z back))) where
  abbrev x : Held
  x = at_stage y (Evacuates v z back)

  abbrev t : Table
  t = table c

  -- ---- it is alone

  idle : v.stage ≡ LoadsHeader → s.ghost.kept 0 ≡ 0
  idle at = (knowing c p s x a).licensed.idle (ap (copy_at v.layout v.addr v.epoch) at)

  abbrev quest : Quest
  quest = quest_for (Scanned (cursor_asked z.stage)) v

  meets : v.stage ≡ LoadsHeader → IsFirstWord (decode (t.heap v.addr))
  meets at = reads_first (era c) (memory c) (team c) s.ghost s.invariant a.one quest ((knowing c p s x a).quest quest refl) (idle at)

  alone : CopyIsAlone c v
  alone =
      let own = a.is.fits.stage.0 in
      record {
        sound = own.sound;
        pages = ap (λ l. l.pages) own.layout ∙ a.is.fits.pages;
        own = own.worker ∙ a.is.fits.number;
        now = own.of_epoch ∙ present c p s x a (runs back a.remembers.stands.1);
        untraced = untraced_scanning (era c) (memory c) (team c) s.ghost s.invariant a.one (scan_of z z.stage) (ap (λ (w : Known). w.scan) a.is.as_known);
        meets = meets;
        stands = a.remembers.stands.0;
        quiet = a.remembers.quiet;
      }

  -- ---- it goes on, or answers the scan

  abbrev at : EvacStage → Evacuation
  at stage = record v { stage = stage }

  module _ (after : Table) where
    returns : (stage : EvacStage) → CopyGoes c.pages t after v (at stage) → back_left c.pages (size_in after) y back ≡ back_left c.pages (size_in t) y back
    returns stage goes = ap (λ (size : ℕ). back_left c.pages size y back) goes.size

    goes_on : (stage : EvacStage) → CopyGoes c.pages t after v (at stage) → Lowers c.pages (saves c) t after x (at_stage y (Evacuates (at stage) z back))
    goes_on stage goes = record {
      remembers = record { began = a.remembers.began; quiet = goes.quiet; stands = (goes.stands, a.remembers.stands.1) };
      falls = (let less = goes.left in let same = returns stage goes in omega (arith, less, same));
    }

    answers : (to : ℕ) → CopyGoes c.pages t after v (at (Ended to)) → Lowers c.pages (saves c) t after x (turned_copy x (at (Ended to)) z back (told (Ended to)))
    answers to goes = record {
      remembers = record { began = a.remembers.began; quiet = goes.quiet; stands = a.remembers.stands.1 };
      falls = (let less = goes.left in let same = answered-left z z.stage v to a.is.fits.stage.2 in let back = returns (Ended to) goes in omega (arith, less, same, back));
    }

    by_stage : (stage : EvacStage) → CopyGoes c.pages t after v (at stage) → Lowers c.pages (saves c) t after x (turned_copy x (at stage) z back (told stage))
    by_stage (Ended to) goes = answers to goes
    by_stage stage goes = goes_on stage goes

  pub evacuates : StepsLower c x
  evacuates q asked =
      let goes = copy_goes c p s v q alone asked in
      subst (λ (then : Saves). OwesAll c p s x (table_of c.pages (words_after q c.words)) then (reply_of q c.words)) (sym goes.1)
      (pays c p s x (table_of c.pages (words_after q c.words)) (reply_of q c.words)
      (by_stage (table_of c.pages (words_after q c.words)) (stage_after v.layout v.epoch v.stage (reply_of q c.words)) goes.0))
