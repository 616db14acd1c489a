use Rattle.std.proofs.Common.{ℕ, ap, sym, ◌∙◌}
use Rattle.space_map.specs.Table.{Area, place_of}
use Rattle.gc_worker.proofs.Words.Said.{live_read}
use Rattle.gc_core.specs.Inside.{core_in}
use Rattle.gc_core.specs.Readers.{cycles_of, live_of}
use Rattle.gc_core.proofs.machine.Core.live_words.Goals as goal

pub returns : goal.returns
returns c =
    let area = c.area_place-area.ensures.place ∙ ap (λ (n : ℕ). place_of c.self.inside.spaces.pages (Area n)) c.to_space.ensures.space in
    c.live_said.ensures
    ∙ (live_read (core_in c.self.inside).heap c.words-words.result.now c.words-words.ensures c.cycles-epoch.result c.traced_place.result c.area_place-area.result
    (c.cycles-epoch.ensures ∙ sym (ap cycles_of c.self.view_is)) c.traced_place.ensures.place area
    ∙ ap live_of c.self.view_is)
