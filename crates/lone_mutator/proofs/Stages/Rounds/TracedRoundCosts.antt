-- A round finds the epoch traced: of who begins a checkpoint, and a round for the checkpoint in progress follows; or of who loads the target
-- of a cell, and the access goes on.
use Rattle.std.proofs.Common.{◌≡◌, ℕ, ◌+◌, Option, Some, true, nat_eq, refl, sym, ap, ◌∙◌, arith}
use Rattle.std.proofs.lemmas.Bool.{eq-eqb}
use Rattle.plain_state.specs.State.{Plain}
use Rattle.atom_store.specs.declared.reply.Reply.TheVariants.{Value}
use Rattle.atom_store.specs.declared.step.Step.TheVariants.{Load}
use Rattle.space_map.specs.Spaces.{Layout}
use Rattle.space_map.specs.Table.{Traced, place_of}
use Rattle.fault_duty.specs.declared.duty_stage.DutyStage.TheVariants.{LoadsTraced}
use Rattle.fault_duty.specs.Duty as duty
use Rattle.fault_duty.specs.Duty.{Round}
use Rattle.heap_state.specs.Configuration.{Configuration, Stands, table, era, memory}
use Rattle.heap_state.specs.Memory.Table.{Table}
use Rattle.page_saves.specs.SaveRound.{begun_by_mutator}
use Rattle.record_access.specs.declared.access.Access.{Access}
use Rattle.record_access.specs.declared.access_stage.AccessStage.{AccessStage}
use Rattle.record_access.specs.declared.access_stage.AccessStage.TheVariants.{LooksAtField, LoadsField}
use Rattle.gc_worker.specs.declared.stage.back.Back.{Back}
use Rattle.gc_worker.specs.declared.stage.back.Back.TheVariants.{ToTarget, ToSnap}
use Rattle.gc_worker.specs.declared.stage.goal.Goal.TheVariants.{ForSnap}
use Rattle.gc_worker.specs.declared.stage.Stage.TheVariants.{Accesses, Checkpoints}
use Rattle.record_access.specs.Access.{is_at_target}
use Rattle.gc_worker.specs.Workers.Held.{Held}
use Rattle.gc_worker.specs.Steps.Turned.{turned}
use Rattle.gc_worker.proofs.Plain.Quiet.{rounds_are_quiet}
use Rattle.gc_worker.proofs.Stages.Rounds.NextRoundStage.{at, round, same_pages}
use Rattle.gc_worker.proofs.Stages.Rounds.RoundWords.{traced_now, traced_word}
use Rattle.lone_mutator.specs.Law.{Lowers, IsAlone, StepsLower, saves}
use Rattle.lone_mutator.specs.Lone.{AccessStands}
use Rattle.lone_mutator.specs.Rounds.{EndsTraced}
use Rattle.lone_mutator.proofs.Steps.Owed.{wants, loads, owes_quietly}
use Rattle.lone_mutator.proofs.Stages.Rounds.NextRoundCost.{of_epoch, era_epoch}

-- an access that is to load a target has no word to exchange
targets_stand : (t : Table) (l : Layout) (stage : AccessStage) → is_at_target stage ≡ true → AccessStands t l stage
targets_stand t l (LooksAtField f usage) target = tt
targets_stand t l (LoadsField f into) target = tt
targets_stand t l stage target = absurd (cc)

module _ (c : Configuration) (p : Plain) (s : Stands c p) (y : Held) (d : Round) (hindrance : Option ℕ) where
  abbrev begins : Back → Held
  begins back = at c p s 0 y d back (LoadsTraced hindrance)

  module _ (back : Back) (a : IsAlone c (begins back)) (traced : (memory c).traced ≡ (era c).epoch + 1) where
    abbrev x : Held
    x = begins back

    same : d.epoch ≡ y.epoch
    same = of_epoch c p s y d back (LoadsTraced hindrance) a

    found : nat_eq (traced_now c) (d.epoch + 1) ≡ true
    found = eq-eqb (traced_now c) (d.epoch + 1) (sym (traced_word c) ∙ (traced ∙ ap (λ (e : ℕ). e + 1) (era_epoch c p s y d back (LoadsTraced hindrance) a)))

    pages : d.layout.pages ≡ c.pages
    pages = same_pages c p s 0 y d back (LoadsTraced hindrance) a.is

    -- where the mutator then is this
    ends : (next : Held) → turned x (Value (traced_now c)) ≡ next → Lowers c.pages (saves c) (table c) (table c) x next → StepsLower c x
    ends next turns lower =
        wants c p s x (Load (place_of c.pages Traced)) (ap (λ n. Some (Load (place_of n Traced))) pages)
        (loads c p s x Traced tt
        (owes_quietly c p s x (table c) (Value (traced_now c)) next turns (rounds_are_quiet (duty.told (duty.taken (round c p s 0 y d back (LoadsTraced hindrance)) (Value (traced_now c))))) lower))

  -- ---- the round for a checkpoint begins

  module _ (a : IsAlone c (begins ToSnap)) (traced : (memory c).traced ≡ (era c).epoch + 1) where
    abbrev saves_first : Held
    saves_first = record y { epoch = d.epoch; stage = Checkpoints (begun_by_mutator y.layout d.epoch y.number) ForSnap }

    turns_to_save : turned (begins ToSnap) (Value (traced_now c)) ≡ saves_first
    turns_to_save = rw (found ToSnap a traced) refl

    saves_lower : Lowers c.pages (saves c) (table c) (table c) (begins ToSnap) saves_first
    saves_lower = record {
      remembers = record { began = λ past. (let b = a.remembers.began tt in let e = same ToSnap a traced in omega (arith, b, e)); quiet = a.remembers.quiet; stands = (tt, tt) };
      falls = (let n = pages ToSnap a traced in let own = a.is.fits.pages in omega (arith, n, own));
    }

  -- ---- the target is loaded

  module _ (z : Access) (a : IsAlone c (begins (ToTarget z))) (traced : (memory c).traced ≡ (era c).epoch + 1) where
    abbrev loads_next : Held
    loads_next = record y { epoch = d.epoch; stage = Accesses z }

    turns_to_load : turned (begins (ToTarget z)) (Value (traced_now c)) ≡ loads_next
    turns_to_load = rw (found (ToTarget z) a traced) refl

    load_lowers : Lowers c.pages (saves c) (table c) (table c) (begins (ToTarget z)) loads_next
    load_lowers = record {
      remembers = record {
        began = λ past. (let b = a.remembers.began tt in let e = same (ToTarget z) a traced in omega (arith, b, e));
        quiet = a.remembers.quiet;
        stands = targets_stand (table c) z.spaces z.stage a.is.fits.stage.1.1;
      };
      falls = omega arith;
    }

  pub ends_traced : (back : Back) → EndsTraced back → IsAlone c (begins back) → (memory c).traced ≡ (era c).epoch + 1 → StepsLower c (begins back)
  ends_traced ToSnap is a traced = ends ToSnap a traced (saves_first a traced) (turns_to_save a traced) (saves_lower a traced)
  ends_traced (ToTarget z) is a traced = ends (ToTarget z) a traced (loads_next z a traced) (turns_to_load z a traced) (load_lowers z a traced)
  ends_traced _ is a traced = absurd is
