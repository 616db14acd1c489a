-- What is kept of checkpoints says: what the words say of the last one, and that neither the exchange by which one is begun is lost nor
-- that by which its request is cleared.
use Rattle.std.proofs.Common.{◌≡◌, ℕ, ◌+◌, ◌<◌, true, refl, length, Some, subst, sym, ap, ◌∙◌, slice_index}
use Rattle.std.proofs.lemmas.Bool.{eq-eqb}
use Rattle.std.proofs.lemmas.Option.{same_Some}
use Rattle.plain_state.specs.State.{Plain}
use Rattle.atom_store.specs.declared.reply.Reply.TheVariants.{Won}
use Rattle.atom_store.specs.declared.step.Step.{Step}
use Rattle.atom_store.specs.declared.step.Step.TheVariants.{Exchange}
use Rattle.atom_store.specs.Step.{reply_of}
use Rattle.space_map.specs.GateWord.{encode_gate}
use Rattle.space_map.specs.Table.{Gate, SnapNumber, place_of}
use Rattle.gate_core.specs.declared.gate_stage.GateStage.TheVariants as gate_stage
use Rattle.gate_core.specs.declared.passage.Passage.TheVariants.{Clear}
use Rattle.gate_core.specs.declared.snap.snap_stage.SnapStage.TheVariants.{ExchangesSnap}
use Rattle.gate_core.specs.Gate.{gate_after}
use Rattle.heap_state.specs.Configuration.{table}
use Rattle.heap_state.specs.Memory.Table.{word_in}
use Rattle.heap_state.specs.Saving.Parts.{KnowsSaving}
use Rattle.heap_state.specs.Saving.Words.{saves_of}
use Rattle.heap_state.proofs.Saving.Read.{checkpoints_are_said}
use Rattle.heap_state.proofs.Table.StoredRows.{word_in-row}
use Rattle.gc_worker.specs.declared.stage.Stage.{Stage}
use Rattle.gc_worker.specs.declared.stage.Stage.TheVariants.{Passes, BeginsCheckpoint}
use Rattle.gc_worker.specs.Laws.Step.{Heap, read, held_at, saves_in, CheckpointsStand, StandIf, WorkersStand, SnapsAreWon, ClearsAreWon, CheckpointsAreKept}
use Rattle.gc_worker.specs.Steps.Goes.{Is}
use Rattle.gc_worker.specs.Steps.Wanted.{wanted}
use Rattle.gc_worker.specs.Workers.Held.{Held, at_stage}
use Rattle.gc_worker.specs.Workers.Saves.{saver_of}
use Rattle.gc_worker.proofs.Stages.Gate.GateWords.{gate_now, gate_word}
use Rattle.gc_worker.proofs.Workers.Members.{member}
use Rattle.gc_worker.proofs.Workers.KeptParts.{has_room}
use Rattle.space_map.proofs.GateWords.{encode_gate-gate_in}

-- where checkpoints can be begun
pub kept : (h : Heap) (p o : Plain) → WorkersStand h p o → h.checkpoints ≡ true → CheckpointsStand h p
kept h p o st room = subst (λ b. StandIf b h p) room st.saving

pub checkpoints_are_kept : CheckpointsAreKept
checkpoints_are_kept h p o st room =
    let all = kept h p o st room in
    checkpoints_are_said h.pages h.words all.frozen (length h.workers) (λ k. saver_of (held_at h k)) p.heap all.formed all.stands all.shows

module _ (h : Heap) (p o : Plain) (k : ℕ) (x : Held) (st : WorkersStand h p o) (l : k < length h.workers) (holds : held_at h k ≡ x) where
  -- what it knows of checkpoints
  knows_of : (room : x.layout.checkpoints ≡ true) → KnowsSaving (table (read h)) (saves_in h) (kept h p o st (sym (st.laid_out k l) ∙ (ap (λ (y : Held). y.layout.checkpoints) holds ∙ room))).frozen k (saver_of x)
  knows_of room =
      let all = kept h p o st (sym (st.laid_out k l) ∙ (ap (λ (y : Held). y.layout.checkpoints) holds ∙ room)) in
      subst (λ (y : Held). KnowsSaving (table (read h)) (saves_in h) all.frozen k (saver_of y)) holds (all.stands.workers.each k l)

  module _ (stage : Stage) (staged : x.stage ≡ stage) where
    own : x ≡ at_stage x stage
    own = ap (at_stage x) staged

    there : Is (read h) k (at_stage x stage)
    there = subst (Is (read h) k) own (member h p o k x st l holds)

    knows_at : (room : x.layout.checkpoints ≡ true) → KnowsSaving (table (read h)) (saves_in h) (kept h p o st (sym (st.laid_out k l) ∙ (ap (λ (y : Held). y.layout.checkpoints) holds ∙ room))).frozen k (saver_of (at_stage x stage))
    knows_at room =
        let all = kept h p o st (sym (st.laid_out k l) ∙ (ap (λ (y : Held). y.layout.checkpoints) holds ∙ room)) in
        subst (λ (y : Held). KnowsSaving (table (read h)) (saves_in h) all.frozen k (saver_of y)) own (knows_of room)

-- ---- SNAP

snap_word : (h : Heap) → (saves_in h).snap ≡ word_in h.pages h.words SnapNumber
unfolding saves_of
snap_word h = refl

pub snaps_are_won : SnapsAreWon
snaps_are_won h p o k x s gate q st l holds staged asked =
    let stage = BeginsCheckpoint (record s { stage = ExchangesSnap gate }) in
    let is = there h p o k x st l holds stage staged in
    let fits = is.fits.stage in
    let settles = (knows_at h p o k x st l holds stage staged (has_room x.layout.checkpoints x.snap fits.may)).settles refl in
    let number : word_in h.pages h.words SnapNumber ≡ s.number = sym (snap_word h) ∙ (sym settles.snap ∙ sym fits.number) in
    let found : slice_index h.words (place_of h.pages SnapNumber) ≡ s.number = sym (word_in-row h.pages h.words SnapNumber tt) ∙ number in
    let pages : s.layout.pages ≡ h.pages = ap (λ l. l.pages) fits.layout ∙ is.fits.pages in
    let won : reply_of (Exchange (place_of s.layout.pages SnapNumber) s.number (s.number + 1)) h.words ≡ Won =
    rw (pages, eq-eqb (slice_index h.words (place_of h.pages SnapNumber)) s.number found) refl in
    let next : Some (Exchange (place_of s.layout.pages SnapNumber) s.number (s.number + 1)) ≡ Some q = ap wanted (sym (own h p o k x st l holds stage staged)) ∙ asked in
    subst (λ (z : Step). reply_of z h.words ≡ Won) (same_Some _ q next) won

-- ---- the request

pub clears_are_won : ClearsAreWon
clears_are_won h p o k x g after gate q st l holds staged asked =
    let stage = Passes (record g { passage = Clear; stage = gate_stage.Exchanges gate }) after in
    let is = there h p o k x st l holds stage staged in
    let fits = is.fits.stage in
    let still = (knows_at h p o k x st l holds stage staged fits.passage).still gate refl in
    let says : gate_now (read h) ≡ encode_gate gate = sym (encode_gate-gate_in (gate_now (read h))) ∙ ap encode_gate (sym (gate_word (read h)) ∙ still.1) in
    let found : slice_index h.words (place_of h.pages Gate) ≡ encode_gate gate = sym (word_in-row h.pages h.words Gate tt) ∙ says in
    let pages : g.layout.pages ≡ h.pages = ap (λ l. l.pages) fits.layout ∙ is.fits.pages in
    let won : reply_of (Exchange (place_of g.layout.pages Gate) (encode_gate gate) (encode_gate (gate_after Clear gate))) h.words ≡ Won =
    rw (pages, eq-eqb (slice_index h.words (place_of h.pages Gate)) (encode_gate gate) found) refl in
    let next : Some (Exchange (place_of g.layout.pages Gate) (encode_gate gate) (encode_gate (gate_after Clear gate))) ≡ Some q = ap wanted (sym (own h p o k x st l holds stage staged)) ∙ asked in
    subst (λ (z : Step). reply_of z h.words ≡ Won) (same_Some _ q next) won
