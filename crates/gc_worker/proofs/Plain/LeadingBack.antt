-- A late mutator's register that is being forwarded leads into the old space.
use Rattle.std.proofs.Common.{◌≡◌, ℕ, ◌+◌, true, sym, ap, subst, ◌∙◌, arith}
use Rattle.std.proofs.lemmas.Bool.{eqb-true}
use Rattle.plain_state.specs.State.{Plain}
use Rattle.space_map.specs.Spaces.{IsInSpace, to_space, space_start}
use Rattle.heap_state.specs.Configuration.{era, team}
use Rattle.heap_state.specs.Memory.Era.{from_space}
use Rattle.heap_state.specs.Known.{Known, Register, is_late}
use Rattle.gc_worker.specs.declared.stage.forwarding_register.ForwardingRegister.{ForwardingRegister}
use Rattle.gc_worker.specs.declared.stage.Stage.TheVariants.{Forwards}
use Rattle.gc_worker.specs.Steps.Goes.{Is}
use Rattle.gc_worker.specs.Workers.Held.{Held, at_stage}
use Rattle.gc_worker.specs.Workers.Knows.{quest_for}
use Rattle.gc_worker.specs.Laws.Step.{Heap, read, WorkersStand, RegistersLeadBack}
use Rattle.gc_worker.proofs.Words.Eras.{old_start_is, old_span_within}
use Rattle.gc_worker.proofs.Workers.Members.{member}

module _ (h : Heap) (p o : Plain) (k : ℕ) (x : Held) (w : ForwardingRegister) (st : WorkersStand h p o) (there : Is (read h) k (at_stage x (Forwards w))) where
  before : x.epoch + 1 ≡ (era (read h)).epoch
  before =
      let q = (st.stands.invariant.workers k there.below).origin (quest_for (Register w.register) w.evac) (ap (λ (v : Known). v.quest) there.as_known) in
      let late : is_late (era (read h)).epoch ((team (read h)).worker k) ≡ true = q.0 in
      eqb-true (x.epoch + 1) (era (read h)).epoch (sym (ap (is_late (era (read h)).epoch) there.as_known) ∙ late)

  leads : IsInSpace h.pages w.evac.addr (to_space x.epoch)
  leads =
      let old = ((st.stands.invariant.workers k there.below).quest (quest_for (Register w.register) w.evac) (ap (λ (v : Known). v.quest) there.as_known)).old in
      let same : from_space (era (read h)).epoch ≡ to_space x.epoch = let b = before in omega (arith, b) in
      let start : (era (read h)).old_start ≡ space_start h.pages (to_space x.epoch) = old_start_is (read h) ∙ ap (space_start h.pages) same in
      let span = old_span_within (read h) p st.stands in
      (omega arith, omega (arith, old, start), omega (arith, old, start, span))

pub registers_lead_back : RegistersLeadBack
registers_lead_back h p o k x w st l holds staged =
    leads h p o k x w st (subst (Is (read h) k) (ap (at_stage x) staged) (member h p o k x st l holds))
