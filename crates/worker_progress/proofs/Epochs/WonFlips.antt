-- The exchange of a flip is never lost.
use Rattle.std.proofs.Common.{◌≡◌, ℕ, slice_index, Some, refl, sym, ap, subst, ◌∙◌}
use Rattle.std.proofs.lemmas.Bool.{eq-eqb}
use Rattle.std.proofs.lemmas.Option.{same_Some}
use Rattle.plain_state.specs.State.{Plain}
use Rattle.atom_store.specs.declared.reply.Reply.TheVariants.{Won}
use Rattle.atom_store.specs.declared.step.Step.{Step}
use Rattle.atom_store.specs.declared.step.Step.TheVariants.{Exchange}
use Rattle.atom_store.specs.Step.{reply_of}
use Rattle.space_map.specs.GateWord.{encode_gate}
use Rattle.space_map.specs.Table.{Gate, place_of}
use Rattle.gate_core.specs.declared.flip_stage.FlipStage.TheVariants.{Exchanges}
use Rattle.gate_core.specs.declared.reset.Reset.{Reset}
use Rattle.gate_core.specs.Flip.{Flipping, gate_flipped}
use Rattle.heap_state.proofs.Table.StoredRows.{word_in-row}
use Rattle.gc_worker.specs.declared.stage.Stage.TheVariants.{Flips}
use Rattle.gc_worker.specs.Steps.Goes.{Is}
use Rattle.gc_worker.specs.Workers.Held.{Held, at_stage, has_seen_flip}
use Rattle.gc_worker.specs.Laws.Step.{Heap, read, WorkersStand}
use Rattle.worker_progress.specs.WonFlips.{FlipsAreWon}
use Rattle.gc_worker.specs.Steps.Wanted.{wanted}
use Rattle.gc_worker.proofs.Stages.Flip.Flipping.{unmoved}
use Rattle.gc_worker.proofs.Workers.Members.{member}

module _ (h : Heap) (p o : Plain) (k : ℕ) (st : WorkersStand h p o) (r : Reset) where
  -- the flipper in its own layout and epoch
  module _ (x : Held) (asked : ℕ) (there : Is (read h) k (at_stage x (Flips (record { layout = x.layout; epoch = x.epoch; asked = asked; seen = has_seen_flip x; stage = Exchanges r })))) where
    at_gate : slice_index h.words (place_of h.pages Gate) ≡ encode_gate r.gate
    at_gate = sym (word_in-row h.pages h.words Gate tt) ∙ unmoved (read h) p st.stands k x asked r there

    wins : reply_of (Exchange (place_of x.layout.pages Gate) (encode_gate r.gate) (encode_gate (gate_flipped r.gate))) h.words ≡ Won
    wins = rw (there.fits.pages, eq-eqb (slice_index h.words (place_of h.pages Gate)) (encode_gate r.gate) at_gate) refl

  by_flip : (x : Held) (f : Flipping) → Is (read h) k (at_stage x (Flips (record f { stage = Exchanges r })))
      → reply_of (Exchange (place_of f.layout.pages Gate) (encode_gate r.gate) (encode_gate (gate_flipped r.gate))) h.words ≡ Won
  by_flip x f there =
      let same : record f { stage = Exchanges r } ≡ record { layout = x.layout; epoch = x.epoch; asked = f.asked; seen = has_seen_flip x; stage = Exchanges r } =
      (λ i. record { layout = there.fits.stage.layout i; epoch = there.fits.stage.epoch i; asked = f.asked; seen = there.fits.stage.seen i; stage = Exchanges r }) in
      subst (λ (g : Flipping). reply_of (Exchange (place_of g.layout.pages Gate) (encode_gate r.gate) (encode_gate (gate_flipped r.gate))) h.words ≡ Won) (sym same)
      (wins x f.asked (subst (λ (g : Flipping). Is (read h) k (at_stage x (Flips g))) same there))

pub flips_are_won : FlipsAreWon
flips_are_won h p o k x f r q st l holds staged asked =
    let own : x ≡ at_stage x (Flips (record f { stage = Exchanges r })) = ap (at_stage x) staged in
    let there = subst (Is (read h) k) own (member h p o k x st l holds) in
    let next : Some (Exchange (place_of f.layout.pages Gate) (encode_gate r.gate) (encode_gate (gate_flipped r.gate))) ≡ Some q = ap wanted (sym own) ∙ asked in
    subst (λ (z : Step). reply_of z h.words ≡ Won) (same_Some _ q next) (by_flip h p o k st r x f there)
