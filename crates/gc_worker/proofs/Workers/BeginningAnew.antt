-- A scanner's round keeps whose it is, so that it may begin anew.
use Rattle.std.proofs.Common.{◌≡◌, ℕ, Bool, true, false, Option, Some, None, refl, sym, ap, ◌∙◌, subst, if◌then◌else◌}
use Rattle.atom_store.specs.declared.reply.Reply.{Reply}
use Rattle.atom_store.specs.declared.reply.Reply.TheVariants.{Value}
use Rattle.space_map.specs.declared.gate_word.GateWord.{GateWord}
use Rattle.space_map.specs.GateWord.{decode_gate}
use Rattle.fault_duty.specs.declared.caller.Caller.{Caller}
use Rattle.fault_duty.specs.declared.caller.Caller.TheVariants.{Faulted, Allocates, Scans}
use Rattle.fault_duty.specs.declared.duty_stage.DutyStage.{DutyStage}
use Rattle.fault_duty.specs.declared.duty_stage.DutyStage.TheVariants.{LoadsGate}
use Rattle.fault_duty.specs.Duty.{Round, at_stage, begun, looked_at_gate, looked_by_gate, taken, taken_at}
use Rattle.gc_worker.specs.declared.stage.back.Back.{Back}
use Rattle.gc_worker.specs.declared.stage.back.Back.TheVariants.{ToScanner}
use Rattle.gc_worker.specs.declared.stage.Stage.TheVariants.{Serves}
use Rattle.gc_worker.specs.Steps.Stepped.{MayBeginAnew}
use Rattle.gc_worker.specs.Workers.Fits.{FitsRound, FitsStage, IsCallerOf}
use Rattle.gc_worker.specs.Workers.Held.{Held}
use Rattle.gc_worker.specs.Workers.Held as held

abbrev anew : Round → Round
anew d = begun d.layout d.caller 0 d.worker

by_test : (d : Round) (ended looked : DutyStage) (epoch : ℕ) (b : Bool)
    → anew (if b then at_stage d ended else record d { epoch = epoch; stage = looked }) ≡ anew d
by_test d ended looked epoch true = refl
by_test d ended looked epoch false = refl

by_caller : (d : Round) (caller : Caller) (word : ℕ) (gate : GateWord) → anew (looked_by_gate d caller word gate) ≡ anew d
by_caller d (Faulted page) word gate = refl
by_caller d Allocates word gate = refl
by_caller d (Scans mutators) word gate = by_test d _ _ _ _

by_gate : (d : Round) (word : ℕ) (o : Option GateWord) → anew (looked_at_gate d word o) ≡ anew d
by_gate d word (Some gate) = by_caller d d.caller word gate
by_gate d word None = refl

kept : (d : Round) (stage : DutyStage) (reply : Reply) → anew (taken_at d stage reply) ≡ anew d
kept d LoadsGate (Value word) = by_gate d word (decode_gate word)
kept d _ (Value _) = refl
kept d _ _ = refl

scans_for : (x : Held) (caller : Caller) → IsCallerOf x ToScanner caller → caller ≡ Scans x.mutators
scans_for x (Scans mutators) own = ap Scans own
scans_for x (Faulted page) own = absurd own
scans_for x Allocates own = absurd own

own_round : (x : Held) (d : Round) → FitsRound x d ToScanner → anew d ≡ begun x.layout (Scans x.mutators) 0 x.number
own_round x d own =
    let caller = scans_for x d.caller own.caller in
    λ i. begun (own.layout i) (caller i) 0 (own.worker i)

by_back : (x : Held) (d : Round) (reply : Reply) (back : Back) → FitsStage x (Serves d back) → MayBeginAnew x.layout x.mutators x.number (Serves (taken d reply) back)
by_back x d reply ToScanner fits = kept d d.stage reply ∙ own_round x d fits.0
by_back x d reply _ fits = tt

-- once a reply is taken it may begin anew, if it did before
pub taken_anew : (x : Held) (d done : Round) (back : Back) (reply : Reply) → x.stage ≡ Serves d back → done ≡ taken d reply → FitsStage x x.stage
    → MayBeginAnew x.layout x.mutators x.number (Serves done back)
taken_anew x d done back reply at steps fits =
    subst (λ (e : Round). MayBeginAnew x.layout x.mutators x.number (Serves e back)) (sym steps) (by_back x d reply back (subst (FitsStage x) at fits))

-- and begun anew it is the worker's own first round
pub goes_anew : (x : Held) (d : Round) (back : Back) → back ≡ ToScanner → MayBeginAnew x.layout x.mutators x.number (Serves d back)
    → held.at_stage x (Serves (anew d) back) ≡ held.at_stage x (Serves (begun x.layout (Scans x.mutators) 0 x.number) ToScanner)
goes_anew x d back is may =
    let same = subst (λ (b : Back). MayBeginAnew x.layout x.mutators x.number (Serves d b)) is may in
    λ i. held.at_stage x (Serves (same i) (is i))
