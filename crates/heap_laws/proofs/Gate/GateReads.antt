-- What a worker reads of the gate, of TRACED and of SIZE.
use Rattle.std.proofs.Common.{◌≡◌, ℕ, Bool, ◌+◌, true, Some, is_some, refl, arith, ◌⊎◌, inl, ◌*◌}
use Rattle.space_map.specs.declared.gate_word.GateWord.{GateWord}
use Rattle.heap_state.specs.Invariant.Parts.Knowledge.{Passes}
use Rattle.heap_state.specs.Known.{Known, Post, Passage, Request, GateStep, is_running, RequestSnap, is_asking}
use Rattle.heap_state.proofs.Puts.{some_same}
use Rattle.heap_laws.proofs.Steps.Learning.{learns, learnt}
use Rattle.heap_laws.specs.Gate.{ReadingGateKeeps, SeeingTracedKeeps, SeeingSizeKeeps, SizesAreKnown}
use Rattle.space_map.specs.declared.spaces.TheConstants.{PAGE_WORDS}

-- a passage that is allowed is allowed to who has seen more
seen_on : (post : Post) (epoch done : ℕ) (ended seen : Bool) (read : GateWord) (p : Passage) → Passes post epoch done ended seen read p → Passes post epoch done ended true read p
seen_on post epoch done ended seen read (Request asked) q = (q.0, q.1, q.2, refl)
seen_on post epoch done ended seen read RequestSnap q = (q.0, q.1, q.2, refl)
seen_on post epoch done ended seen read _ q = q

pub reads_gate : ReadingGateKeeps
reads_gate E m team g k p ready passes =
    let inv = ready.invariant in
    let me = inv.workers k ready.member in
    let w : Known = record (team.worker k) { gate_step = Some (record { read = m.gate; passage = p }) } in
    learnt (learns E m team g k w inv (assumption) (λ s e. (s, e, refl))
    (let new : (s : GateStep) → w.gate_step ≡ Some s → Passes (team.worker k).post (team.worker k).epoch (team.worker k).done (is_some (team.worker k).account.end) (team.worker k).traced_seen s.read s.passage = λ s e. rw (← some_same e) passes in
    assumption))

pub sees_traced : SeeingTracedKeeps
sees_traced E m team g k ready running traced =
    let inv = ready.invariant in
    let me = inv.workers k ready.member in
    let w : Known = record (team.worker k) { traced_seen = true } in
    let now = me.timely.running running in
    learnt (learns E m team g k w inv (assumption) (λ s e. (s, e, refl))
    (let seen : true ≡ true → ((is_running (team.worker k).post ≡ true) ⊎ (is_asking (team.worker k).post ≡ true)) × (m.traced ≡ E.epoch + 1) = λ e. (inl running, omega (arith, traced, now)) in
    let asks : is_asking (team.worker k).post ≡ true → true ≡ true = λ e. refl in
    let passage = λ (s : GateStep) (e : (team.worker k).gate_step ≡ Some s). seen_on (team.worker k).post (team.worker k).epoch (team.worker k).done (is_some (team.worker k).account.end) (team.worker k).traced_seen s.read s.passage (me.passage s e) in
    assumption))

pub sees_size : SeeingSizeKeeps
sees_size E m team g k p ready running size =
    let inv = ready.invariant in
    let me = inv.workers k ready.member in
    let w : Known = record (team.worker k) { size_seen = Some p } in
    learnt (learns E m team g k w inv (assumption) (λ s e. (s, e, refl))
    (let seen : (q : ℕ) → w.size_seen ≡ Some q → (is_running (team.worker k).post ≡ true) × (E.span ≡ PAGE_WORDS * q) = λ q e. (running, rw (← some_same e) size) in
    assumption))

pub sizes_are_known : SizesAreKnown
sizes_are_known E m team g k p ready seen = ((ready.invariant.workers k ready.member).size_seen p seen).1
