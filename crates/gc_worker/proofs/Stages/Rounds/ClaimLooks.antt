-- A round's claim looks at the announced places, and at the gate.
use Rattle.std.proofs.Common.{◌≡◌, ℕ, ◌+◌, ◌*◌, ◌<◌, ◌⊎◌, inl, inr, Bool, true, false, cond, nat_eq, nat_lt, nat_le, ◌&&◌, Some, None, refl, sym, ap, subst, ◌∙◌, arith}
use Rattle.std.proofs.lemmas.Bool.Decides.{nat_tests}
use Rattle.std.proofs.lemmas.Bool.{eqb-true, eqb-false, ne_eqb}
use Rattle.plain_state.specs.State.{Plain}
use Rattle.atom_store.specs.declared.step.Step.TheVariants.{Load}
use Rattle.atom_store.specs.declared.reply.Reply.TheVariants.{Value}
use Rattle.space_map.specs.declared.spaces.TheConstants.{LAST_WORKER}
use Rattle.space_map.specs.declared.gate_word.GateWord.{GateWord}
use Rattle.space_map.specs.Spaces.{Layout, board_page}
use Rattle.space_map.specs.Table.{Gate, Announce, place_of}
use Rattle.page_slots.specs.declared.claim_stage.ClaimStage.{ClaimStage}
use Rattle.page_slots.specs.declared.claim_stage.ClaimStage.TheVariants.{LooksAtPlace, LooksAtGate, Exchanges, Ended}
use Rattle.page_slots.specs.declared.claimed.Claimed.TheVariants as claimed
use Rattle.page_slots.specs.Claim.{Claiming}
use Rattle.page_slots.specs.Claim as claim
use Rattle.page_slots.specs.Soundness.{FitsClaimStage, IsClaimGoing}
use Rattle.fault_duty.specs.declared.duty_stage.DutyStage.{DutyStage}
use Rattle.fault_duty.specs.declared.duty_stage.DutyStage.TheVariants.{Claims}
use Rattle.fault_duty.specs.Duty as duty
use Rattle.fault_duty.specs.Duty.{Round}
use Rattle.fault_duty.specs.Soundness.{IsOwnClaim}
use Rattle.heap_state.specs.Configuration.{Configuration, Stands, table, era, memory, team}
use Rattle.heap_state.specs.Known.{Known}
use Rattle.heap_laws.specs.Scanning.Claims.{claiming}
use Rattle.heap_laws.proofs.Scanning.Claims.{looks_at_place, looks_at_gate}
use Rattle.gc_worker.specs.declared.stage.back.Back.{Back}
use Rattle.gc_worker.specs.Steps.Goes.{Is, Goes, StepsSo}
use Rattle.gc_worker.specs.Workers.Held.{Held}
use Rattle.gc_worker.specs.Workers.Knows.{knows, claim_with, looked_all}
use Rattle.gc_worker.proofs.Stages.Gate.GateWords.{gate_now, gate_says}
use Rattle.gc_worker.proofs.Stages.Rounds.NextRoundStage.{round, at, goes_on, ends, loads_it}
use Rattle.gc_worker.proofs.Stages.Rounds.RoundWords.{announced_now, announced_word}
use Rattle.gc_worker.proofs.Words.RowSteps.{Law, prepared}

-- ---- an announced place

free_by : (page w : ℕ) (a b : Bool) → nat_lt 0 w ≡ a → nat_le w (64 * (page + 1)) ≡ b → (a && b) ≡ false → (w ≡ 0) ⊎ (64 * page + 64 < w)
free_by page w true true some low e = absurd (cc)
free_by page w true false some low e = inr (let l : 64 * (page + 1) < w = grind (arith, nat_tests) in omega (arith, l))
free_by page w false b some low e = inl (grind (arith, nat_tests))

free_of : (page w : ℕ) → claim.names_below_end page w ≡ false → (w ≡ 0) ⊎ (64 * page + 64 < w)
free_of page w e = free_by page w (nat_lt 0 w) (nat_le w (64 * (page + 1))) refl refl e

module _ (c : Configuration) (p : Plain) (s : Stands c p) (k : ℕ) (y : Held) (d : Round) (back : Back) (q : Claiming) where
  abbrev claims : ClaimStage → DutyStage
  claims stage = Claims (record q { stage = stage })

  module _ (stage : ClaimStage) (is : Is c k (at c p s k y d back (claims stage))) where
    own : IsOwnClaim (round c p s k y d back (claims stage)) (record q { stage = stage })
    own = is.fits.stage.0.sound.stage

    own_at : (next : ClaimStage) → IsClaimGoing next → FitsClaimStage (record q { stage = next }) next → IsOwnClaim (round c p s k y d back (claims next)) (record q { stage = next })
    own_at next going fits = record {
      layout = own.layout;
      epoch = own.epoch;
      worker = own.worker;
      going = going;
      sound = (let z = own.sound in record { pages = z.pages; page = z.page; worker = z.worker; epoch = z.epoch; found = z.found; earlier = z.earlier; stage = fits });
    }

  -- ---- an announced place

  module _ (n : ℕ) (is : Is c k (at c p s k y d back (claims (LooksAtPlace n)))) where
    abbrev x : Held
    x = at c p s k y d back (claims (LooksAtPlace n))

    abbrev w : ℕ
    w = announced_now c n

    fits : FitsClaimStage (record q { stage = LooksAtPlace n }) (LooksAtPlace n)
    fits = (own (LooksAtPlace n) is).sound.stage

    all_looked : looked_all q ≡ LAST_WORKER + 1
    all_looked = rw (fits.1, ne_eqb q.page (board_page q.layout.pages) fits.2) refl

    learnt : claim.names_below_end q.page w ≡ false → Law c p s k x None (claiming (knows x) (claim_with q (n + 1) false)) s.ghost
    learnt free =
        subst (λ (v : Known). Law c p s k x None (claiming v (claim_with q (n + 1) false)) s.ghost) is.as_known
        (looks_at_place (era c) (memory c) (team c) s.ghost k (claim_with q n false) (prepared c p s k x is)
        (record { claims = ap (λ (v : Known). v.claim) is.as_known; free = rw (announced_word c n) (free_of q.page w free) }))

    last_by : (b : Bool) → nat_eq n LAST_WORKER ≡ b → claim.names_below_end q.page w ≡ false
        → duty.taken_at (round c p s k y d back (claims (LooksAtPlace n))) (claims (LooksAtPlace n)) (Value w)
        ≡ round c p s k y d back (duty.claim_went (record q { stage = cond b LooksAtGate (LooksAtPlace (n + 1)) }) (claim.told_at (cond b LooksAtGate (LooksAtPlace (n + 1)))))
        → Goes c p s k None x (Value w)
    last_by true test free taken =
        let all : n + 1 ≡ looked_all q = (let e = eqb-true n LAST_WORKER test in let f = all_looked in omega (arith, e, f)) in
        goes_on c p s k y d back (claims (LooksAtPlace n)) is None (Value w) (claims LooksAtGate) s.ghost taken refl refl
        (own_at (LooksAtPlace n) is LooksAtGate tt tt)
        (subst (λ (m : ℕ). Law c p s k x None (claiming (knows x) (claim_with q m false)) s.ghost) all (learnt free))
    last_by false test free taken =
        goes_on c p s k y d back (claims (LooksAtPlace n)) is None (Value w) (claims (LooksAtPlace (n + 1))) s.ghost taken refl refl
        (own_at (LooksAtPlace n) is (LooksAtPlace (n + 1)) tt ((let o = eqb-false n LAST_WORKER test in let l = fits.0 in omega (arith, o, l)), fits.1, fits.2))
        (learnt free)

    named_by : (b : Bool) → claim.names_below_end q.page w ≡ b
        → duty.taken_at (round c p s k y d back (claims (LooksAtPlace n))) (claims (LooksAtPlace n)) (Value w)
        ≡ round c p s k y d back (duty.claim_went (record q { stage = cond b (Ended (claimed.Taken w)) (cond (nat_eq n LAST_WORKER) LooksAtGate (LooksAtPlace (n + 1))) })
        (claim.told_at (cond b (Ended (claimed.Taken w)) (cond (nat_eq n LAST_WORKER) LooksAtGate (LooksAtPlace (n + 1))))))
        → Goes c p s k None x (Value w)
    named_by true names taken = ends c p s k y d back (claims (LooksAtPlace n)) is (Value w) w taken refl refl refl
    named_by false names taken = last_by (nat_eq n LAST_WORKER) refl names taken

    pub looks_at_announced : StepsSo c p s k x
    looks_at_announced = loads_it c p s k y d back (claims (LooksAtPlace n)) is (Announce n) (let l = fits.0 in omega (arith, l))
        (ap (λ (l : Layout). Some (Load (place_of l.pages (Announce n)))) (own (LooksAtPlace n) is).layout)
        (named_by (claim.names_below_end q.page w) refl refl)

  -- ---- the gate

  module _ (is : Is c k (at c p s k y d back (claims LooksAtGate))) where
    abbrev z : Held
    z = at c p s k y d back (claims LooksAtGate)

    abbrev gate : GateWord
    gate = (table c).gate

    sure : gate.epoch ≡ q.epoch → Law c p s k z None (claiming (knows z) (claim_with q (looked_all q) true)) s.ghost
    sure same =
        subst (λ (v : Known). Law c p s k z None (claiming v (claim_with q (looked_all q) true)) s.ghost) is.as_known
        (looks_at_gate (era c) (memory c) (team c) s.ghost k (claim_with q (looked_all q) false) (prepared c p s k z is)
        (record { claims = ap (λ (v : Known). v.claim) is.as_known; same = same ∙ ((own LooksAtGate is).epoch ∙ sym (ap (λ (v : Known). v.epoch) is.as_known)) }))

    epoch_by : (b : Bool) → nat_eq gate.epoch q.epoch ≡ b
        → duty.taken_at (round c p s k y d back (claims LooksAtGate)) (claims LooksAtGate) (Value (gate_now c))
        ≡ round c p s k y d back (duty.claim_went (record q { stage = cond b Exchanges (Ended (claimed.Taken (gate_now c))) })
        (claim.told_at (cond b Exchanges (Ended (claimed.Taken (gate_now c))))))
        → Goes c p s k None z (Value (gate_now c))
    epoch_by true test taken =
        goes_on c p s k y d back (claims LooksAtGate) is None (Value (gate_now c)) (claims Exchanges) s.ghost taken refl refl
        (own_at LooksAtGate is Exchanges tt tt) (sure (eqb-true gate.epoch q.epoch test))
    epoch_by false test taken = ends c p s k y d back (claims LooksAtGate) is (Value (gate_now c)) (gate_now c) taken refl refl refl

    pub looks_at_gate_again : StepsSo c p s k z
    looks_at_gate_again = loads_it c p s k y d back (claims LooksAtGate) is Gate tt
        (ap (λ (l : Layout). Some (Load (place_of l.pages Gate))) (own LooksAtGate is).layout)
        (epoch_by (nat_eq gate.epoch q.epoch) refl
        (ap (λ o. round c p s k y d back (duty.claim_went (record q { stage = claim.looked_at_gate q.epoch (gate_now c) o }) (claim.told_at (claim.looked_at_gate q.epoch (gate_now c) o)))) (gate_says c p s)))
