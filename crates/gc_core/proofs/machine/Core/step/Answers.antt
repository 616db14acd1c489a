use Rattle.std.proofs.Common.{◌<◌, ap, sym, subst, ◌∙◌}
use Rattle.gc_core.specs.Core.{CoreState, workers_of}
use Rattle.gc_core.specs.Event.{core_after, event_of}
use Rattle.gc_core.specs.Inside.{core_in}
use Rattle.gc_core.specs.Law.{IsLawful}
use Rattle.gc_core.specs.Run.{all_ended}
use Rattle.gc_core.proofs.Told.Readers.{read_held}
use Rattle.gc_core.proofs.Events.CoreSteps.{IsWorkerOfCore, WorkerIsReady, readies_soundly, has_counted, is_ready, steps_soundly, may_step, has_room, stepped_told, stepped_core}
use Rattle.gc_core.proofs.Events.ToldEnds.{ends_are_told}
use Rattle.gc_core.proofs.Events.Lawful.{lawful_after}
use Rattle.gc_core.proofs.machine.Core.step.Goals as goal
use Rattle.gc_core.proofs.machine.Core.step.Goals.{After-index_mut-slot, After-ready, After-step}

-- ---- the worker whose slot is borrowed

borrowed : (c : After-index_mut-slot) → IsWorkerOfCore (core_in c.self.inside) c.args.worker c.index_mut-slot.result.now
borrowed c =
    let below : c.args.worker < workers_of (core_in c.self.inside) = subst (λ (s : CoreState). c.args.worker < workers_of s) (sym c.self.view_is) c.requires in
    record { lawful = c.self.invariant.2; below = below; held = read_held (core_in c.self.inside) c.args.worker c.index_mut-slot.result.now below c.index_mut-slot.ensures.value }

pub ready-requires-clause-sound : goal.ready-requires-clause-sound
ready-requires-clause-sound c = readies_soundly _ _ _ (borrowed (goal.at.ready-requires-clause-sound c).After-index_mut-slot)

pub ready-requires-clause-counted : goal.ready-requires-clause-counted
ready-requires-clause-counted c = has_counted _ _ _ (borrowed (goal.at.ready-requires-clause-counted c).After-index_mut-slot)

-- ---- it is made ready, and makes its step

readied : (c : After-ready) → IsWorkerOfCore (core_in c.self.inside) c.args.worker c.index_mut-slot.result.now → WorkerIsReady (core_in c.self.inside) c.args.worker c.ready.new.self
readied c is = is_ready _ _ _ is c.ready.new.self c.ready.ensures

pub step-requires-clause-sound : goal.step-requires-clause-sound
step-requires-clause-sound c =
    let at = goal.at.step-requires-clause-sound c in
    steps_soundly _ _ _ (readied at.After-ready (borrowed at.After-index_mut-slot))

pub step-requires-clause-may : goal.step-requires-clause-may
step-requires-clause-may c =
    let at = goal.at.step-requires-clause-may c in
    may_step _ _ _ (readied at.After-ready (borrowed at.After-index_mut-slot))

pub step-requires-clause-room : goal.step-requires-clause-room
step-requires-clause-room c =
    let at = goal.at.step-requires-clause-room c in
    has_room _ _ _ (readied at.After-ready (borrowed at.After-index_mut-slot))

-- ---- what is told, and the core after it

pub returns-clause-told : goal.returns-clause-told
returns-clause-told c =
    let at = goal.at.returns-clause-told c in
    let is = readied at.After-ready (borrowed at.After-index_mut-slot) in
    c.step.ensures.tells ∙ (stepped_told _ _ _ is ∙ ap (λ (s : CoreState). (event_of s c.args.worker).told) c.self.view_is)

pub returns-clause-after : goal.returns-clause-after
returns-clause-after c =
    let at = goal.at.returns-clause-after c in
    let is = readied at.After-ready (borrowed at.After-index_mut-slot) in
    stepped_core _ _ _ is c.step.new.self c.step.new.on c.step.ensures.state c.step.ensures.words ∙ ap (λ (s : CoreState). core_after s c.args.worker) c.self.view_is

pub invariant_of-self : goal.invariant_of-self
invariant_of-self c =
    let at = goal.at.invariant_of-self c in
    let is = readied at.After-ready (borrowed at.After-index_mut-slot) in
    let core = stepped_core _ _ _ is c.step.new.self c.step.new.on c.step.ensures.state c.step.ensures.words in
    (c.self.invariant.0, c.self.invariant.1, subst IsLawful (sym core) (lawful_after _ c.args.worker c.self.invariant.2))

pub returns-clause-ends_are_told : goal.returns-clause-ends_are_told
returns-clause-ends_are_told c = λ untold.
    let at = goal.at.returns-clause-ends_are_told c in
    let is = readied at.After-ready (borrowed at.After-index_mut-slot) in
    let core = stepped_core _ _ _ is c.step.new.self c.step.new.on c.step.ensures.state c.step.ensures.words in
    let told = c.step.ensures.tells ∙ stepped_told _ _ _ is in
    ap all_ended core ∙ (ends_are_told (core_in c.self.inside) c.args.worker c.self.invariant.2 (λ m why ends. untold m why (told ∙ ends)) ∙ ap all_ended c.self.view_is)
