-- The shared words spell what the table says.
use Rattle.std.proofs.Common.{ℕ, List, refl, sym}
use Rattle.space_map.specs.Table.{Gate, Area, Page}
use Rattle.space_map.proofs.AreaWords.{encode_area-area_in, AreaFits-area_in}
use Rattle.space_map.proofs.GateWords.{encode_gate-gate_in, GateFits-gate_in}
use Rattle.space_map.proofs.PageWords.{encode_page-decode_page, PageFits-decode_page}
use Rattle.heap_state.specs.Memory.Table.{word_in, table_of, IsFormed}
use Rattle.heap_state.specs.Theorems.Rows.{SpellsTable}

pub spelled : (n : ℕ) (words : List ℕ) → IsFormed n words → SpellsTable n words
unfolding table_of
spelled n words formed = record {
  gate = sym (encode_gate-gate_in (word_in n words Gate));
  gate_fits = GateFits-gate_in (word_in n words Gate) (formed.rows Gate tt);
  areas = λ space. sym (encode_area-area_in (word_in n words (Area space)));
  areas_fit = λ space short. AreaFits-area_in (word_in n words (Area space)) (formed.rows (Area space) short);
  sizes = λ space short. refl;
  pages = λ p short. sym (encode_page-decode_page (word_in n words (Page p)) ((table_of n words).page p) (formed.rows (Page p) short));
  pages_fit = λ p short. PageFits-decode_page (word_in n words (Page p)) ((table_of n words).page p) (formed.rows (Page p) short);
}
