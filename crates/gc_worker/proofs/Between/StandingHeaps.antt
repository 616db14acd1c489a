-- What is so of a heap that stands, between any two steps.
use Rattle.std.proofs.Common.{◌≡◌, ℕ, ◌-◌, ◌<◌, ◌≤◌, true, false, length, slice_get, slice_index, Some, None, refl, sym, ap, subst, ◌∙◌, ⊎_elim, arith}
use Rattle.std.proofs.lemmas.Bool.{lt-ltb, or_cases}
use Rattle.std.proofs.lemmas.List.{length-map}
use Rattle.std.proofs.lemmas.Option.{slice_get_within, same_Some}
use Rattle.heap_words.specs.Decoded.{PointerWord, decode}
use Rattle.plain_state.specs.declared.sizes.TheConstants.{REGISTERS}
use Rattle.plain_state.specs.declared.value.Value.{Value}
use Rattle.plain_state.specs.State.{Mutator, Plain}
use Rattle.space_map.specs.Spaces.{space_start, to_space}
use Rattle.fault_duty.specs.declared.duty_stage.DutyStage.{DutyStage}
use Rattle.fault_duty.specs.declared.duty_stage.DutyStage.TheVariants as duty_stage
use Rattle.fault_duty.specs.Duty.{Round}
use Rattle.heap_state.specs.Configuration.{Configuration, era, memory, team}
use Rattle.heap_state.specs.Invariant.Ghost.{Ghost, header_kind}
use Rattle.heap_state.specs.Meaning.Values.{Accounts, value_of}
use Rattle.heap_state.specs.Known.{Known, Account, is_mutator, is_running, is_asking, is_late}
use Rattle.heap_state.proofs.Holds.Keeping.{holds}
use Rattle.heap_state.proofs.Represents.Representing.{represents}
use Rattle.heap_laws.specs.Fields.Effects.{IsLikePlain, RegisterHolds}
use Rattle.heap_laws.specs.Fields.Words.{IsLedTo}
use Rattle.heap_laws.specs.Steps.{Ready}
use Rattle.heap_laws.proofs.Fields.Effects.{registers_hold}
use Rattle.heap_laws.proofs.Fields.SameWords.{same_words}
use Rattle.heap_laws.proofs.Fields.Shown.{headers_are_read, registers_are_held}
use Rattle.heap_laws.proofs.Frames.Values.{value_from_pointer}
use Rattle.heap_laws.proofs.Lifting.Configurations.{ready}
use Rattle.heap_laws.proofs.Scanning.Scanners.{now_not_late}
use Rattle.gc_worker.specs.declared.stage.back.Back.TheVariants.{ToAccess, ToTarget, ToPlace, ToSnap, ToScanner}
use Rattle.gc_worker.specs.declared.stage.Stage.{Stage}
use Rattle.gc_worker.specs.declared.stage.Stage.TheVariants.{Serves}
use Rattle.gc_worker.specs.Laws.Between.{ShowsRegisters, RegistersLand, AreAlike, IsAsPlain, WhatStandsIsSo, is_present}
use Rattle.gc_worker.specs.Workers.Fits.{FitsStage}
use Rattle.gc_worker.specs.Steps.Goes.{Is}
use Rattle.gc_worker.specs.Workers.Held.{Held}
use Rattle.gc_worker.specs.Workers.Knows.{knows, post_in, epoch_at, epoch_in}
use Rattle.gc_worker.specs.Laws.Step.{Heap, read, held_at, WorkersStand, epoch_of}
use Rattle.gc_worker.specs.Steps.Turned.{epoch_in_gate}
use Rattle.gc_worker.proofs.Stages.Scan.ScannedHeaders.{heap_word}
use Rattle.gc_worker.proofs.Words.Eras.{start_is, span_within}
use Rattle.gc_worker.proofs.Stages.Gate.GateWords.{gate_says}
use Rattle.gc_worker.proofs.Workers.Members.{member}

-- who is present and makes a round makes it in its own epoch
round_epoch : (own : ℕ) (d : Round) (stage : DutyStage) → d.epoch ≡ own → epoch_at own d stage ≡ own
round_epoch own d duty_stage.LoadsGate e = refl
round_epoch own d _ e = e

own_epoch : (x : Held) (stage : Stage) → FitsStage x stage → is_present (post_in x stage) ≡ true → epoch_in x.epoch stage ≡ x.epoch
own_epoch x (Serves d (ToAccess a)) fits present = round_epoch x.epoch d d.stage fits.0.epoch
own_epoch x (Serves d (ToTarget a)) fits present = round_epoch x.epoch d d.stage fits.0.epoch
own_epoch x (Serves d ToPlace) fits present = round_epoch x.epoch d d.stage fits.0.epoch
own_epoch x (Serves d ToSnap) fits present = round_epoch x.epoch d d.stage fits.0.epoch
own_epoch x (Serves d ToScanner) fits present = absurd (cc)
own_epoch x _ fits present = refl

-- the mutators come first
enough : (h : Heap) (p o : Plain) → WorkersStand h p o → h.mutators ≤ length h.workers
enough h p o st = let f = st.stands.invariant.staffed.few in let n = length-map h.workers knows in omega (arith, f, n)

module _ (h : Heap) (p o : Plain) (st : WorkersStand h p o) (k : ℕ) (q : Mutator) (here : slice_get p.mutators k ≡ Some q) where
  abbrev c : Configuration
  c = read h

  abbrev g : Ghost
  g = st.stands.ghost

  abbrev x : Held
  x = held_at h k

  abbrev w : Known
  w = (team c).worker k

  is_one : k < h.mutators
  is_one = let l = slice_get_within p.mutators k q here in let n = st.stands.shown.as_many in omega (arith, l, n)

  there : Is c k x
  there = let m = is_one in let e = enough h p o st in member h p o k x st (omega (arith, m, e)) refl

  prepared : Ready (era c) (memory c) (team c) g k
  prepared = ready c p st.stands k there.below

  is_mutator_there : is_mutator w.post ≡ true
  is_mutator_there = st.stands.invariant.staffed.posts k there.below ∙ lt-ltb k h.mutators is_one

  as_plain : IsLikePlain (era c) (memory c) (team c) g p k q
  as_plain = record { is = here; same = record { account = st.stands.shown.accounts k q here; registers = st.stands.shown.registers k q here } }

  account : Accounts p.heap k x.account q
  account = subst (λ (a : Account). Accounts p.heap k a q) (ap (λ (v : Known). v.account) there.as_known) (st.stands.shown.accounts k q here)

  register : (j : ℕ) → w.registers j ≡ slice_index x.registers j
  register j = ap (λ (v : Known). v.registers j) there.as_known

  -- ---- where it is present

  module _ (present : is_present (post_in x x.stage) ≡ true) where
    present_there : is_present w.post ≡ true
    present_there = ap (λ (v : Known). is_present v.post) there.as_known ∙ present

    now : w.epoch ≡ (era c).epoch
    now =
        let t = (st.stands.invariant.workers k there.below).timely in
        ⊎_elim t.running t.asking (or_cases (is_running w.post) (is_asking w.post) present_there)

    -- its epoch is the current one
    of_now : x.epoch ≡ (era c).epoch
    of_now = sym (own_epoch x x.stage there.fits.stage present) ∙ (ap (λ (v : Known). v.epoch) (sym there.as_known) ∙ now)

    epoch_is : epoch_of h.pages h.words ≡ x.epoch
    epoch_is = ap (epoch_in_gate 0) (gate_says c p st.stands) ∙ sym of_now

    not_late : is_late (era c).epoch w ≡ false
    not_late = now_not_late (era c).epoch w.epoch w.post now

  -- ---- where it has no end

  module _ (no_end : q.end ≡ None) where
    shows : ShowsRegisters x.registers q
    unfolding value_of
    shows = record {
      numbers = λ j n small e. sym (as_plain.same.registers.registers_show no_end j small) ∙ rw (register j, e) refl;
      pointers = λ j a small e. (g.identity a, sym (as_plain.same.registers.registers_show no_end j small) ∙ value_from_pointer g.identity (w.registers j) a (ap decode (register j) ∙ e));
    }

    -- ---- and is present

    module _ (present : is_present (post_in x x.stage) ≡ true) where
      unended : w.account.end ≡ None
      unended = as_plain.same.account.end ∙ no_end

      led : (j a : ℕ) → j < REGISTERS → decode (slice_index x.registers j) ≡ PointerWord a → IsLedTo (era c) (memory c) g p a
      led j a small e =
          headers_are_read (era c) (memory c) (team c) g p k (w.registers j) a prepared st.stands.shown
          (registers_are_held (era c) (memory c) (team c) g k j prepared is_mutator_there (not_late present) unended small) (ap decode (register j) ∙ e)

      start : (era c).start ≡ space_start h.pages (to_space x.epoch)
      start = start_is c ∙ ap (λ e. space_start h.pages (to_space e)) (sym (of_now present))

      lands : RegistersLand h.pages h.words x
      lands = record {
        in_space = λ j a small e. let l = (led j a small e).inside in let b = start in let n = span_within c p st.stands in (omega arith, omega (arith, l, b), omega (arith, l, b, n));
        header = λ j a small e.
            (header_kind (g.kind a), g.size a - 1, (g.identity a).serial, (g.identity a).mutator, ap decode (sym (heap_word c a)) ∙ (led j a small e).header);
      }

      held : (j : ℕ) → j < REGISTERS → (y : Value) × (slice_get q.registers j ≡ Some y) × RegisterHolds (era c) g (w.registers j) y
      held j small = registers_hold (era c) (memory c) (team c) g p k q j prepared as_plain is_mutator_there (not_late present) unended small

      alike : AreAlike x.registers q
      alike j i small_j small_i =
          let one = held j small_j in
          let other = held i small_i in
          let words = same_words (era c) (memory c) (team c) g k (w.registers j) (w.registers i) one.0 other.0 prepared one.2.holds other.2.holds in (
            (λ e. one.1 ∙ (ap Some (words.0 (register j ∙ (e ∙ sym (register i)))) ∙ sym other.1)),
            (λ e. sym (register j) ∙ (words.1 (same_Some one.0 other.0 (sym one.1 ∙ (e ∙ other.1))) ∙ register i)),
          )

  is_as_plain : IsAsPlain h p k x q
  is_as_plain = record { account = account; shows = shows; epoch = epoch_is; lands = lands; alike = alike }

pub what_stands_is_so : WhatStandsIsSo
what_stands_is_so h p o st = record {
  whole = st.stands.formed.whole;
  sound = record {
    holds = holds (read h) st.stands.ghost st.stands.formed st.stands.invariant;
    represents = represents (read h) st.stands.ghost st.stands.formed st.stands.invariant p st.stands.shown;
  };
  fit = st.fit;
  as_many = st.stands.shown.as_many;
  enough = enough h p o st;
  mutators = λ k q here. is_as_plain h p o st k q here;
}
