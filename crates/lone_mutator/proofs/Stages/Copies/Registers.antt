-- A copy that a lone mutator makes for a register: five steps of each register that follows are paid by it.
use Rattle.std.proofs.Common.{◌≡◌, ℕ, ◌+◌, ◌-◌, ◌<◌, true, Option, None, Some, refl, sym, ap, subst, ◌∙◌, arith}
use Rattle.std.proofs.lemmas.Bool.{eqb-true}
use Rattle.plain_state.specs.State.{Plain}
use Rattle.atom_store.specs.Step.{words_after, reply_of}
use Rattle.heap_words.specs.Decoded.{decode}
use Rattle.forwarding.specs.declared.evac_stage.EvacStage.{EvacStage}
use Rattle.forwarding.specs.declared.evac_stage.EvacStage.TheVariants.{LoadsHeader, TakesHeader, LoadsArea, Announces, Reserves, StoresHeader, LoadsWord, StoresWord, StoresCross, StoresForward, LoadsWeak, StoresLink, TakesWeak, Clears, Ended}
use Rattle.forwarding.specs.Evacuation.{Evacuation}
use Rattle.forwarding.specs.Taken.{stage_after, told}
use Rattle.heap_state.specs.Configuration.{Configuration, Stands, table, era, memory, team}
use Rattle.heap_state.specs.Memory.Table.{Table, table_of}
use Rattle.heap_state.specs.Saving.Words.{Saves}
use Rattle.heap_state.specs.Known.{Quest, Register, is_late}
use Rattle.gc_worker.specs.declared.stage.forwarding_register.ForwardingRegister.{ForwardingRegister}
use Rattle.gc_worker.specs.declared.stage.Stage.TheVariants.{Forwards}
use Rattle.gc_worker.specs.Workers.Held.{Held, at_stage}
use Rattle.gc_worker.specs.Workers.Knows.{copy_at, knows, quest_for}
use Rattle.gc_worker.specs.Steps.Turned.{Pointed, first_pointer, forwards_it, turned_register, with_copy, with_evac}
use Rattle.gc_worker.proofs.Words.Pointers.{FirstPointer, Nowhere, There, found}
use Rattle.lone_mutator.specs.Law.{Lowers, IsAlone, StepsLower, saves}
use Rattle.lone_mutator.specs.Lone.{GoesOnPlacing}
use Rattle.lone_mutator.specs.Potential.{due_in, growing_left, size_in}
use Rattle.lone_mutator.specs.Copies.{copy_left}
use Rattle.lone_mutator.proofs.Stages.Gate.LoneGateCounts.{knowing}
use Rattle.lone_mutator.proofs.Steps.Owed.{OwesAll, pays}
use Rattle.lone_mutator.proofs.Stages.Copies.CopyCosts.{CopyGoes, CopyIsAlone, copy_goes, pays_due}
use Rattle.lone_mutator.proofs.Stages.Copies.CopyReads.{IsFirstWord, reads_first}
use Rattle.lone_mutator.proofs.Epochs.EpochPages.{untraced_behind}

module _ (c : Configuration) (p : Plain) (s : Stands c p) (y : Held) (w : ForwardingRegister) (a : IsAlone c (at_stage y (Forwards w))) where
  abbrev x : Held
  x = at_stage y (Forwards w)

  abbrev t : Table
  t = table c

  abbrev v : Evacuation
  v = w.evac

  -- ---- it is alone

  abbrev quest : Quest
  quest = quest_for (Register w.register) v

  late : is_late t.gate.epoch (knows x) ≡ true
  late = ((knowing c p s x a).origin quest refl).0

  idle : v.stage ≡ LoadsHeader → s.ghost.kept 0 ≡ 0
  idle at = (knowing c p s x a).licensed.idle (ap (copy_at v.layout v.addr v.epoch) at)

  meets : v.stage ≡ LoadsHeader → IsFirstWord (decode (t.heap v.addr))
  meets at = reads_first (era c) (memory c) (team c) s.ghost s.invariant a.one quest ((knowing c p s x a).quest quest refl) (idle at)

  alone : CopyIsAlone c v
  alone =
      let own = a.is.fits.stage.copy in
      record {
        sound = own.sound;
        pages = ap (λ l. l.pages) own.layout ∙ a.is.fits.pages;
        own = own.worker ∙ a.is.fits.number;
        now = own.of_epoch ∙ eqb-true (y.epoch + 1) t.gate.epoch late;
        untraced = untraced_behind (era c) (memory c) (team c) s.ghost s.invariant a.one ((knowing c p s x a).licensed.counted late);
        meets = meets;
        stands = a.remembers.stands.1;
        quiet = a.remembers.quiet;
      }

  -- ---- it goes on, or the next register is forwarded

  abbrev at : EvacStage → Evacuation
  at stage = record v { stage = stage }

  module _ (after : Table) (stage : EvacStage) (goes : CopyGoes c.pages t after v (at stage)) where
    less : copy_left stage + due_in c.pages after < copy_left v.stage + due_in c.pages t
    less = pays_due c.pages t after v (at stage) alone.untraced goes

    -- its instruction began before the last flip, as before
    placing : GoesOnPlacing after.gate.epoch y.begun w.after
    placing = record { places = a.remembers.stands.0.places; earlier = (let e = a.remembers.stands.0.earlier in let g = ap (λ g. g.epoch) goes.gate in omega (arith, e, g)) }

    growing : growing_left c.pages (size_in after) ≡ growing_left c.pages (size_in t)
    growing = ap (λ (size : ℕ). growing_left c.pages size) goes.size

    goes_on : Lowers c.pages (saves c) t after x (at_stage y (Forwards (with_evac w (at stage))))
    goes_on = record {
      remembers = record { began = a.remembers.began; quiet = goes.quiet; stands = (placing, goes.stands) };
      falls = (let fewer = less in let same = growing in omega (arith, fewer, same));
    }

  module _ (after : Table) (to : ℕ) (goes : CopyGoes c.pages t after v (at (Ended to))) where
    abbrev copied : Held
    copied = with_copy x w.register to

    next_by : (o : Option Pointed) → FirstPointer copied.registers (8 - (w.register + 1)) (w.register + 1) o → Lowers c.pages (saves c) t after x (at_stage copied (forwards_it copied w.after o))
    next_by None (Nowhere none) = record {
      remembers = record { began = a.remembers.began; quiet = goes.quiet; stands = (placing after (Ended to) goes, tt) };
      falls = (let fewer = less after (Ended to) goes in let same = growing after (Ended to) goes in omega (arith, fewer, same));
    }
    next_by (Some q) (There r addr from below is none) = record {
      remembers = record { began = a.remembers.began; quiet = goes.quiet; stands = (placing after (Ended to) goes, tt) };
      falls = (let fewer = less after (Ended to) goes in let same = growing after (Ended to) goes in omega (arith, fewer, same, from, below));
    }

    next : Lowers c.pages (saves c) t after x (turned_register x (with_evac w (at (Ended to))) (told (Ended to)))
    next = next_by (first_pointer copied.registers (8 - (w.register + 1)) (w.register + 1)) (found copied.registers (8 - (w.register + 1)) (w.register + 1))

  by_stage : (after : Table) (stage : EvacStage) → CopyGoes c.pages t after v (at stage) → Lowers c.pages (saves c) t after x (turned_register x (with_evac w (at stage)) (told stage))
  by_stage after (Ended to) goes = next after to goes
  by_stage after stage goes = goes_on after stage goes

  pub forwards : StepsLower c x
  forwards q asked =
      let goes = copy_goes c p s v q alone asked in
      subst (λ (then : Saves). OwesAll c p s x (table_of c.pages (words_after q c.words)) then (reply_of q c.words)) (sym goes.1)
      (pays c p s x (table_of c.pages (words_after q c.words)) (reply_of q c.words)
      (by_stage (table_of c.pages (words_after q c.words)) (stage_after v.layout v.epoch v.stage (reply_of q c.words)) goes.0))
