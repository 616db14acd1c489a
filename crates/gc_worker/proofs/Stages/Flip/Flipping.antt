-- The flip: the exchange of the gate, which is never lost.
use Rattle.std.proofs.Common.{◌≡◌, ℕ, ◌+◌, ◌^◌, ◌<◌, ◌≤◌, true, Some, refl, ap, sym, subst, ◌∙◌, arith}
use Rattle.plain_state.specs.State.{Plain}
use Rattle.atom_store.specs.declared.step.Step.TheVariants.{Exchange}
use Rattle.atom_store.specs.declared.reply.Reply.TheVariants.{Won}
use Rattle.space_map.specs.GateWord.{encode_gate}
use Rattle.space_map.specs.Table.{Gate, place_of}
use Rattle.space_map.proofs.GateWords.{encode_gate-gate_in}
use Rattle.gate_core.specs.declared.flip_stage.FlipStage.TheVariants.{Exchanges}
use Rattle.gate_core.specs.declared.passage.Passage.TheVariants.{Resume}
use Rattle.gate_core.specs.declared.reset.Reset as resets
use Rattle.gate_core.specs.Flip.{gate_flipped}
use Rattle.heap_state.specs.Configuration.{Configuration, Stands, era, memory, team}
use Rattle.heap_state.specs.Memory.Entries.{GateIs}
use Rattle.heap_state.specs.Known.{Known, Reset}
use Rattle.heap_laws.specs.Flipping.Flip.{Flips, after_flip, flipped_gate, next_ghost}
use Rattle.heap_laws.specs.Lifting.{Flipped}
use Rattle.heap_laws.proofs.Flipping.Flipped.{flip_keeps}
use Rattle.heap_laws.proofs.Lifting.Laws.{flips_are_lifted}
use Rattle.gc_worker.specs.declared.stage.after.After.TheVariants as afters
use Rattle.gc_worker.specs.Steps.Goes.{Is, Goes, StepsSo}
use Rattle.gc_worker.specs.Workers.Held.{Held, at_stage}
use Rattle.gc_worker.specs.Workers.Knows.{knows}
use Rattle.gc_worker.specs.Steps.Turned.{passes}
use Rattle.gc_worker.proofs.Workers.KeptParts.{before_passage}
use Rattle.gc_worker.proofs.Stages.Flip.Resetting.{at, now}
use Rattle.gc_worker.proofs.Stages.Gate.GateWords.{wants, gate_now, gate_word}
use Rattle.gc_worker.proofs.Words.RowSteps.{exchanges, prepared}

module _ (c : Configuration) (p : Plain) (s : Stands c p) (k : ℕ) (y : Held) (asked : ℕ) (r : resets.Reset) where
  abbrev x : Held
  x = at c p s k y asked (Exchanges r)

  abbrev pub q : Reset
  q = record { read = r.gate; size = Some r.size; grown = Some r.next; used = Some r.used; sized = true; stored = true; cleared = true }

  abbrev z : Held
  z = at_stage x (passes x (Resume x.epoch) afters.Places)

  module _ (is : Is c k x) where
    -- the other space got no fewer pages
    larger : (era c).span ≤ (era c).old_span
    larger =
        let resets = (s.invariant.workers k is.below).reset q (ap (λ (w : Known). w.reset) is.as_known) in
        let sized = resets.sized refl in
        let least = resets.grown sized.0 sized.1 in
        omega (arith, least, sized.2)

    pub flips : Flips (era c) (team c) k q
    flips = record {
      asked = asked;
      post = ap (λ (w : Known). w.post) is.as_known;
      reset = ap (λ (w : Known). w.reset) is.as_known;
      stored = refl;
      cleared = refl;
      fits = subst (λ (n : ℕ). n + 1 < 2 ^ 32) (now c p s k y asked (Exchanges r) is) is.fits.stage.sound.epoch;
      large = larger;
    }

    flipped : Flipped c (gate_flipped r.gate) k (knows z) p (next_ghost (era c) s.ghost)
    flipped = subst (λ (w : Known). Flipped c (flipped_gate r.gate) k (after_flip w) p (next_ghost (era c) s.ghost)) is.as_known (flips_are_lifted c p s k q is.below flips)

    goes : Goes c p s k (Some (GateIs (gate_flipped r.gate))) x Won
    goes = record {
      takes = record { pages = is.fits.stage.sound.pages; epoch = is.fits.stage.sound.epoch; stage = tt };
      fits = before_passage c.pages c.mutators k x is.fits (Resume x.epoch) afters.Places is.fits.end is.fits.side is.fits.task.0 refl;
      ghost_after = next_ghost (era c) s.ghost;
      leads = flipped;
      wins = tt;
      answered = tt;
      full = tt;
      flip = (is.fits.task.1, sym (now c p s k y asked (Exchanges r) is));
    }

    -- while a flip is in progress the gate stands still
    pub unmoved : gate_now c ≡ encode_gate r.gate
    unmoved =
        let won = (flip_keeps (era c) (memory c) (team c) s.ghost k q (prepared c p s k x is) flips).won in
        sym (encode_gate-gate_in (gate_now c)) ∙ ap encode_gate (sym (gate_word c) ∙ won)

    pub flips_gate : StepsSo c p s k x
    flips_gate =
        wants c p s k x (Exchange (place_of c.pages Gate) (encode_gate r.gate) (encode_gate (gate_flipped r.gate)))
        (ap (λ n. Some (Exchange (place_of n Gate) (encode_gate r.gate) (encode_gate (gate_flipped r.gate)))) is.fits.pages)
        (exchanges c p s k x (GateIs (gate_flipped r.gate)) (encode_gate r.gate) tt (λ same. goes) (λ other. absurd (other unmoved)))
