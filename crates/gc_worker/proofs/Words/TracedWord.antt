-- TRACED stays what it is, unless a step tells that the epoch is traced.
use Rattle.std.proofs.Common.{◌≡◌, ◌≢◌, ◌⊎◌, inl, inr, ℕ, ◌+◌, ◌==◌, Bool, true, false, cond, List, set, slice_index, Option, Some, None, refl, sym, subst, ◌∙◌, arith}
use Rattle.std.specs.Prelude.{⊤, option_map}
use Rattle.std.proofs.lemmas.Option.{same_Some}
use Rattle.atom_store.specs.declared.reply.Reply.TheVariants.{Won, Lost}
use Rattle.atom_store.specs.declared.step.Step.{Step}
use Rattle.atom_store.specs.declared.step.Step.TheVariants as step
use Rattle.atom_store.specs.Step.{words_after, reply_of}
use Rattle.atom_store.specs.StepOn.{StepOn, Load, Store, Exchange, WritesOnly, step_at}
use Rattle.space_map.specs.Table.{Row, Traced, SaveOf, ImageOf, place_of, save_place_of}
use Rattle.space_map.specs.WholeTable.{WholeRow, Within, Behind, whole_place_of}
use Rattle.alloc_end.specs.declared.place_stage.PlaceStage.{PlaceStage}
use Rattle.alloc_end.specs.declared.place_stage.PlaceStage.TheVariants as place_stage
use Rattle.alloc_end.specs.Place.{Placing}
use Rattle.alloc_end.specs.Place as place
use Rattle.cell_walk.proofs.WalkRows as walk_rows
use Rattle.fault_duty.specs.declared.duty_stage.DutyStage.{DutyStage}
use Rattle.fault_duty.specs.declared.duty_stage.DutyStage.TheVariants as duty_stage
use Rattle.fault_duty.specs.Duty as duty
use Rattle.fault_duty.specs.Soundness.{FitsDutyStage}
use Rattle.fault_duty.proofs.RoundRows as duty_rows
use Rattle.forwarding.specs.declared.evac_stage.EvacStage.{EvacStage}
use Rattle.forwarding.specs.declared.evac_stage.EvacStage.TheVariants as evac_stage
use Rattle.forwarding.specs.Evacuation.{Evacuation}
use Rattle.forwarding.specs.Evacuation as evac
use Rattle.gate_core.specs.declared.flip_stage.FlipStage.{FlipStage}
use Rattle.gate_core.specs.declared.flip_stage.FlipStage.TheVariants as flip_stage
use Rattle.gate_core.specs.Flip.{Flipping}
use Rattle.gate_core.specs.Flip as flip
use Rattle.page_slots.specs.Open as open_page
use Rattle.page_slots.proofs.ClaimRows.{claim_writes, opening_writes}
use Rattle.heap_state.specs.Configuration.{Configuration}
use Rattle.heap_state.specs.Memory.Table.{word_in}
use Rattle.gc_worker.specs.declared.stage.Stage.{Stage}
use Rattle.gc_worker.specs.declared.stage.Stage.TheVariants.{Flips, Places, Serves, Opens}
use Rattle.gc_worker.specs.Steps.Goes.{Is}
use Rattle.gc_worker.specs.Steps.Turned.{Empties, told, told_at, told_round}
use Rattle.gc_worker.specs.Steps.Wanted.{wanted, wanted_at}
use Rattle.gc_worker.specs.Workers.Held.{Held, at_stage}
use Rattle.gc_worker.proofs.Between.Pages.Written.{Elsewhere, row_stays}
use Rattle.gc_worker.proofs.Words.WorkerRows.{OfCopy, OnRow, WritesSuch, writes_such}

-- ---- rows

-- another row than that of TRACED
abbrev IsOther : Row → Type 0
IsOther Traced = ⊥
IsOther row = ⊤

-- whatever pages its table has
traced_apart : (n m : ℕ) (row : WholeRow) → Elsewhere IsOther row → place_of n Traced ≢ whole_place_of m row
unfolding place_of save_place_of
traced_apart n m (Within Traced) other same = other
traced_apart n m (Within row) other same = omega (arith, same)
traced_apart n m (Behind (SaveOf page)) other same = omega (arith, same)
traced_apart n m (Behind (ImageOf addr)) other same = omega (arith, same)

module _ (n : ℕ) (words : List ℕ) where
  abbrev Stays : Step → Type 0
  Stays q = word_in n (words_after q words) Traced ≡ word_in n words Traced

  unwritten : (m : ℕ) (on : StepOn WholeRow) → WritesOnly (Elsewhere IsOther) (Some on) → Stays (step_at (whole_place_of m) on)
  unwritten m (Load on) writes = refl
  unwritten m (Store on word) writes = row_stays n words (step.Store (whole_place_of m on) word) Traced (λ is. traced_apart n m on writes)
  unwritten m (Exchange on old new) writes = row_stays n words (step.Exchange (whole_place_of m on) old new) Traced (λ is. traced_apart n m on writes)

  beside_whole : (m : ℕ) (o : Option (StepOn WholeRow)) (q : Step) → WritesOnly (Elsewhere IsOther) o → option_map (step_at (whole_place_of m)) o ≡ Some q → Stays q
  beside_whole m None q writes asked = absurd (cc)
  beside_whole m (Some on) q writes asked = subst Stays (same_Some (step_at (whole_place_of m) on) q asked) (unwritten m on writes)

  beside : (m : ℕ) (o : Option (StepOn Row)) (q : Step) → WritesOnly IsOther o → option_map (step_at (place_of m)) o ≡ Some q → Stays q
  beside m None q writes asked = absurd (cc)
  beside m (Some (Load on)) q writes asked = beside_whole m (Some (Load (Within on))) q tt asked
  beside m (Some (Store on word)) q writes asked = beside_whole m (Some (Store (Within on) word)) q writes asked
  beside m (Some (Exchange on old new)) q writes asked = beside_whole m (Some (Exchange (Within on) old new)) q writes asked

  -- ---- the machines

  copies : (v : Evacuation) (stage : EvacStage) (q : Step) → evac.wanted_at v.layout v.addr v.epoch v.worker stage ≡ Some q → Stays q
  copies v evac_stage.LoadsHeader q asked = beside v.layout.pages (evac.wants_at v.layout v.addr v.epoch v.worker evac_stage.LoadsHeader) q tt asked
  copies v stage q asked = beside v.layout.pages (evac.wants_at v.layout v.addr v.epoch v.worker stage) q tt asked

  places : (z : Placing) (stage : PlaceStage) (q : Step) → place.wanted_at z stage ≡ Some q → Stays q
  places z place_stage.LoadsTraced q asked = beside_whole z.layout.pages (place.wants_at z place_stage.LoadsTraced) q tt asked
  places z stage q asked = beside_whole z.layout.pages (place.wants_at z stage) q tt asked

  flips : (f : Flipping) (stage : FlipStage) (q : Step) → flip.wanted_at f stage ≡ Some q → Stays q
  flips f flip_stage.LoadsGate q asked = beside f.layout.pages (flip.wants_at f flip_stage.LoadsGate) q tt asked
  flips f stage q asked = beside f.layout.pages (flip.wants_at f stage) q tt asked

  -- a round that exchanges TRACED tells so, if it wins
  exchanged : (d : duty.Round) (traced place new : ℕ) (b : Bool)
      → (word_in n (cond b (set words place new) words) Traced ≡ word_in n words Traced)
      ⊎ (told_round (duty.told (duty.taken_at d (duty_stage.Traces traced) (cond b Won (Lost (slice_index words place))))) ≡ Empties)
  exchanged d traced place new true = inr refl
  exchanged d traced place new false = inl refl

  rounds : (d : duty.Round) (stage : DutyStage) (q : Step) → FitsDutyStage d stage → duty.wanted_at d stage ≡ Some q
      → Stays q ⊎ (told_round (duty.told (duty.taken_at d stage (reply_of q words))) ≡ Empties)
  rounds d (duty_stage.Traces traced) q fits asked = subst (λ (z : Step). Stays z ⊎ (told_round (duty.told (duty.taken_at d (duty_stage.Traces traced) (reply_of z words))) ≡ Empties))
      (same_Some (step.Exchange (place_of d.layout.pages Traced) traced (d.epoch + 1)) q asked)
      (exchanged d traced (place_of d.layout.pages Traced) (d.epoch + 1) (slice_index words (place_of d.layout.pages Traced) == traced))
  rounds d (duty_stage.Claims c) q fits asked =
      inl (beside d.layout.pages (duty.wants_at d (duty_stage.Claims c)) q (claim_writes IsOther (λ page. tt) c c.stage) (sym (duty_rows.by_rows d (duty_stage.Claims c) fits) ∙ asked))
  rounds d (duty_stage.Walks word v) q fits asked =
      inl (beside d.layout.pages (duty.wants_at d (duty_stage.Walks word v)) q (walk_rows.writes IsOther tt (λ addr. tt) v.epoch v.stage) (sym (duty_rows.by_rows d (duty_stage.Walks word v) fits) ∙ asked))
  rounds d stage q fits asked = inl (beside d.layout.pages (duty.wants_at d stage) q tt asked)

  -- ---- each stage

  module _ (c : Configuration) (k : ℕ) (x : Held) where
    abbrev Goes : Stage → Step → Type 0
    Goes stage q = Stays q ⊎ (told_at x stage (reply_of q words) ≡ Empties)

    other_machines : (stage : Stage) (q : Step) → WritesSuch IsOther (at_stage x stage) (wanted_at x stage) → wanted_at x stage ≡ Some q → Stays q
    other_machines stage q (OnRow on writes same) asked = beside_whole x.layout.pages on q writes (sym same ∙ asked)
    other_machines stage q (OfCopy e v copy same) asked = copies v v.stage q (sym same ∙ asked)

    by_stage : (stage : Stage) (q : Step) → Is c k (at_stage x stage) → wanted_at x stage ≡ Some q → Goes stage q
    by_stage (Flips f) q is asked = inl (flips f f.stage q asked)
    by_stage (Places z) q is asked = inl (places z z.stage q asked)
    by_stage (Serves d back) q is asked = rounds d d.stage q is.fits.stage.0.sound.stage asked
    by_stage (Opens s z back) q is asked = inl (beside s.layout.pages (open_page.wants_at s s.stage) q (opening_writes IsOther (λ page. tt) s s.stage) asked)
    by_stage stage q is asked = inl (other_machines stage q (writes_such IsOther tt tt tt (λ addr. tt) (at_stage x stage) stage tt is.fits.stage) asked)

    pub traced_goes : (q : Step) → Is c k x → wanted x ≡ Some q → Stays q ⊎ (told x (reply_of q words) ≡ Empties)
    traced_goes q is asked = by_stage x.stage q is asked
