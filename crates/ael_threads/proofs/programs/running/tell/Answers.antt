use Rattle.std.proofs.Common.{ℕ, map, arith, ◌∙◌, ap}
use Rattle.space_map.specs.Spaces.{Layout, to_space}
use Rattle.space_map.specs.Table.{Area, Gate, Traced, place_of}
use Rattle.gc_worker.specs.Readers.{live_said}
use Rattle.gc_worker.specs.Steps.Turned.{epoch_said}
use Rattle.ael_threads.specs.Runs.Outputs.{seat_registers, seat_seen}
use Rattle.ael_threads.proofs.ProgramRuns.Outputs.{word_read}
use Rattle.ael_threads.proofs.programs.running.tell.Goals as goal

pub returns-clause-told : goal.returns-clause-told
returns-clause-told c =
    let n = c.args.heap.table.shared.key.spaces.pages in
    let words = c.close-words.result in
    let cycles = c.epoch_said-cycles.result in
    let pages = ap (λ (l : Layout). l.pages) c.requires.layout in
    let gate = word_read n words Gate tt c.gate_place.result c.word.result (c.gate_place.ensures.place ∙ ap (λ (k : ℕ). place_of k Gate) pages) c.word.ensures in
    let traced = word_read n words Traced tt c.traced_place.result c.word-2.result (c.traced_place.ensures.place ∙ ap (λ (k : ℕ). place_of k Traced) pages) c.word-2.ensures in
    let area = word_read n words (Area (to_space cycles)) (omega arith) c.area_place.result c.word-area.result
    (c.area_place.ensures.place ∙ (λ i. place_of (pages i) (Area (c.to_space.ensures.space i)))) c.word-area.ensures in
    record {
      closes = c.close-words.ensures.closes;
      layout = c.requires.layout;
      all_words = c.close-words.ensures.whole ∙ c.requires.words;
      printed = c.in_ok-mutators.ensures ∙ ap (map seat_seen) c.deref.ensures.value;
      registers = c.in_ok-regs.ensures ∙ ap (map seat_registers) c.deref-2.ensures.value;
      kept = c.in_ok-kept.ensures;
      cycles = c.epoch_said-cycles.ensures ∙ ap (epoch_said 0) gate;
      live = c.live_said-live.ensures ∙ (λ i. live_said cycles (traced i) (area i));
    }
