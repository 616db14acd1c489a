-- The area words of both spaces.
use Rattle.std.proofs.Common.{◌≡◌, ℕ, ◌<◌, Some, ap, sym, ◌∙◌, arith}
use Rattle.plain_state.specs.State.{Plain}
use Rattle.space_map.specs.declared.area_word.AreaWord.{AreaWord}
use Rattle.space_map.specs.AreaWord.{AreaFits, area_in, decode_area, encode_area}
use Rattle.space_map.specs.Spaces.{to_space}
use Rattle.space_map.specs.Table.{Area}
use Rattle.space_map.proofs.AreaWords.{decode_area-short, area_in-encode_area}
use Rattle.heap_state.specs.Configuration.{Configuration, Stands, table}
use Rattle.heap_state.specs.Memory.Table.{table_of, word_in}

abbrev pub area_now : Configuration → ℕ → ℕ
area_now c space = word_in c.pages c.words (Area space)

pub area_word : (c : Configuration) (space : ℕ) → (table c).area space ≡ area_in (area_now c space)
unfolding table_of
area_word c space = λ i. area_in (area_now c space)

pub area_says : (c : Configuration) (p : Plain) → Stands c p → (space : ℕ) → space < 2 → decode_area (area_now c space) ≡ Some ((table c).area space)
area_says c p s space small = decode_area-short (area_now c space) (s.formed.rows (Area space) small) ∙ ap Some (sym (area_word c space))

-- the word is this area's, and so the area is this one
pub area_is : (c : Configuration) (space : ℕ) (area : AreaWord) → AreaFits area → area_now c space ≡ encode_area area → (table c).area space ≡ area
area_is c space area fits same = area_word c space ∙ (ap area_in same ∙ area_in-encode_area area fits)

pub is_space : (epoch : ℕ) → to_space epoch < 2
is_space epoch = omega arith
