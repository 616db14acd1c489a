-- What a traced epoch has copied is what was live at its flip.
use Rattle.std.proofs.Common.{◌≡◌, ℕ, ◌+◌, Option, sym, ap, subst, ◌∙◌, arith}
use Rattle.std.proofs.lemmas.Option.{same_Some}
use Rattle.plain_state.specs.Reachable.{IsLive}
use Rattle.plain_state.specs.State.{Plain}
use Rattle.space_map.specs.declared.area_word.AreaWord.{AreaWord}
use Rattle.space_map.specs.declared.gate_word.GateWord.{GateWord}
use Rattle.space_map.specs.Spaces.{to_space}
use Rattle.heap_state.specs.Configuration.{Configuration, table, era}
use Rattle.heap_state.specs.Cycles.Copies.{CopiedIsLive, words_copied}
use Rattle.heap_laws.proofs.Steps.Answers.{areas_are_read}
use Rattle.heap_laws.proofs.Tracing.Live.{traced_is_live}
use Rattle.gc_worker.specs.Laws.Copied.{CopiedWasLive, FullTellsLive}
use Rattle.gc_worker.specs.Plain.Full.{FindsNoRoom}
use Rattle.gc_worker.specs.Workers.Held.{Held}
use Rattle.gc_worker.specs.Laws.Step.{Heap, read, WorkersStand}
use Rattle.gc_worker.specs.Steps.Turned.{epoch_in_gate}
use Rattle.gc_worker.proofs.Words.Areas.{area_says, is_space}
use Rattle.gc_worker.proofs.Stages.Gate.GateWords.{gate_says}
use Rattle.gc_worker.proofs.Stages.Rounds.RoundWords.{traced_word}

pub copied_was_live : CopiedWasLive
copied_was_live h p o st traced =
    traced_is_live (read h) p o (record { stands = st.stands; cycle = st.cycle })
    (traced_word (read h) ∙ (traced ∙ ap (λ (w : Option GateWord). epoch_in_gate 0 w + 1) (gate_says (read h) p st.stands)))

-- ---- where the heap is full

module _ (h : Heap) (p o : Plain) (x : Held) (asked room live : ℕ) (st : WorkersStand h p o) (full : FindsNoRoom h.pages h.words x asked room live) where
  abbrev c : Configuration
  c = read h

  of_now : (era c).epoch ≡ x.epoch
  of_now =
      let gate = same_Some (table c).gate full.gate (sym (gate_says c p st.stands) ∙ full.gate_is) in
      ap (λ (g : GateWord). g.epoch) gate ∙ full.epoch

  area_is : (table c).area (to_space (era c).epoch) ≡ full.area
  area_is =
      ap (λ (e : ℕ). (table c).area (to_space e)) of_now
      ∙ same_Some ((table c).area (to_space x.epoch)) full.area (sym (area_says c p st.stands (to_space x.epoch) (is_space x.epoch)) ∙ full.area_is)

  copied : CopiedIsLive c o
  copied = copied_was_live h p o st (full.traced ∙ ap (λ (e : ℕ). e + 1) (sym of_now ∙ sym (ap (epoch_in_gate 0) (gate_says c p st.stands))))

  words_are : words_copied c ≡ live
  words_are =
      let front = (areas_are_read c p st.stands).now.front in
      let read : ((table c).area (to_space (era c).epoch)).front ≡ full.area.front = ap (λ (a : AreaWord). a.front) area_is in
      let total = copied.front in
      let told = full.live_is in
      omega (arith, front, read, total, told)

  tells_live : IsLive o live
  tells_live = subst (IsLive o) words_are copied.live

pub full_tells_live : FullTellsLive
full_tells_live h p o x asked room live st full = tells_live h p o x asked room live st full
