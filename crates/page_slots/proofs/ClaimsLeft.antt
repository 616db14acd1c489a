-- What a claim has left goes down with each reply that takes it on.
use Rattle.std.proofs.Common.{◌≡◌, ℕ, ◌+◌, ◌-◌, ◌<◌, ◌≤◌, Bool, true, false, cond, IsTrue, Option, Some, None, arith, refl, nat_eq}
use Rattle.std.specs.Prelude.{is_some}
use Rattle.std.proofs.lemmas.Bool.Decides.{nat_tests}
use Rattle.atom_store.specs.declared.reply.Reply.{Reply}
use Rattle.atom_store.specs.declared.reply.Reply.TheVariants.{Value, Won, Lost}
use Rattle.space_map.specs.declared.spaces.TheConstants.{LAST_WORKER}
use Rattle.space_map.specs.declared.gate_word.GateWord.{GateWord}
use Rattle.space_map.specs.GateWord.{decode_gate}
use Rattle.page_slots.specs.declared.claimed.Claimed.TheVariants as claimed
use Rattle.page_slots.specs.declared.claim_stage.ClaimStage.{ClaimStage}
use Rattle.page_slots.specs.declared.claim_stage.ClaimStage.TheVariants.{LooksAtPlace, LooksAtGate, Exchanges, Ended}
use Rattle.page_slots.specs.Claim.{Claiming, next_stage, looked_at_place, looked_at_gate, names_below_end, longest, left_at, advances_at}
use Rattle.page_slots.specs.Soundness.{FitsClaimStage}

by_place : (page k announced : ℕ) → k ≤ LAST_WORKER → left_at (looked_at_place page k announced) < longest - k
by_place page k announced few = by_tests (names_below_end page announced) (nat_eq k LAST_WORKER) refl
  where
    by_tests : (below last : Bool) → nat_eq k LAST_WORKER ≡ last
        → left_at (cond below (Ended (claimed.Taken announced)) (cond last LooksAtGate (LooksAtPlace (k + 1)))) < longest - k
    by_tests true last is = omega arith
    by_tests false true is = let same : k ≡ LAST_WORKER = grind (arith, nat_tests) in omega arith
    by_tests false false is = omega arith

by_gate : (epoch word : ℕ) (o : Option GateWord) → IsTrue (is_some o) → left_at (looked_at_gate epoch word o) < 2
by_gate epoch word (Some gate) t = by_epoch (nat_eq gate.epoch epoch)
  where
    by_epoch : (same : Bool) → left_at (cond same Exchanges (Ended (claimed.Taken word))) < 2
    by_epoch true = omega arith
    by_epoch false = omega arith
by_gate epoch word None t = cc

pub lowers : (c : Claiming) (stage : ClaimStage) (r : Reply) → FitsClaimStage c stage → IsTrue (advances_at stage r)
    → left_at (next_stage c stage r) < left_at stage
lowers c (LooksAtPlace k) (Value word) fits t = by_place c.page k word fits.0
lowers c LooksAtGate (Value word) fits t = by_gate c.epoch word (decode_gate word) t
lowers c Exchanges Won fits t = omega arith
lowers c Exchanges (Lost word) fits t = omega arith
lowers c stage r fits t = cc
