-- What the opening's step does to the words.
use Rattle.std.proofs.Common.{ℕ, List, slice_index, arith, ap, ◌∙◌}
use Rattle.atom_store.specs.declared.step.Step.TheVariants.{Store}
use Rattle.atom_store.specs.declared.turn.Turn.TheVariants.{Finished}
use Rattle.atom_store.specs.Acts.{MakesStep}
use Rattle.atom_store.proofs.Acting.{no_step}
use Rattle.atom_store.proofs.StepWords.{slice_index-words_after, slice_index-stored}
use Rattle.space_map.specs.declared.page_word.PageWord.TheVariants.{Open}
use Rattle.space_map.specs.PageWord.{decode_page, encode_page}
use Rattle.space_map.specs.Table.{Page, place_of}
use Rattle.space_map.specs.TableWords.{HoldsTable}
use Rattle.space_map.proofs.PageWords.{decode_page-encode_page}
use Rattle.space_map.proofs.Rows.{place_of-lt}
use Rattle.page_slots.specs.declared.opened.Opened.{Opened}
use Rattle.page_slots.specs.declared.open_stage.OpenStage.{OpenStage}
use Rattle.page_slots.specs.declared.open_stage.OpenStage.TheVariants.{StoresOpen, Ended}
use Rattle.page_slots.specs.Open.{Opening, open_machine}
use Rattle.page_slots.specs.Soundness.{IsSoundOpening}
use Rattle.page_slots.specs.Theorems.{LeavesPageOpen}

pub opens : (o : Opening) (stage : OpenStage) (before after : List ℕ) (outcome : Opened) → IsSoundOpening o → HoldsTable o.layout.pages before
    → MakesStep open_machine (record o { stage = stage }) before after (Finished outcome) → LeavesPageOpen o before after
opens o StoresOpen before after outcome sound whole acts =
    let place : ℕ = place_of o.layout.pages (Page o.page) in
    let inside = place_of-lt o.layout.pages (Page o.page) sound.page in
    record {
      is = ap (λ ws. decode_page (slice_index ws place)) acts.makes
          ∙ ap decode_page (slice_index-stored place (encode_page (Open o.epoch)) before (omega (arith, inside, whole)))
          ∙ decode_page-encode_page (Open o.epoch) sound.epoch;
      others = λ other apart. ap (λ ws. slice_index ws other) acts.makes ∙ slice_index-words_after (Store place (encode_page (Open o.epoch))) before other apart;
    }
opens o (Ended result) before after outcome sound whole acts = absurd (no_step acts.has_step)
