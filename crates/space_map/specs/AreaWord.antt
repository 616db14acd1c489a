-- The format of an area word.
use Rattle.std.specs.Prelude.{ℕ, ◌+◌, ◌*◌, ◌/◌, ◌%◌, ◌^◌, ◌<◌, Option, Some, None, nat_lt, if◌then◌else◌}
use Rattle.space_map.specs.declared.area_word.AreaWord.{AreaWord}

-- each part has 18 bits, so it is below this
abbrev pub part_end : ℕ
part_end = 2 ^ 18

-- each part is in the range that its bits can say
pub record AreaFits (area : AreaWord) : Type 0 where
  pub front_fits : area.front < part_end
  pub low_fits : area.low < part_end
  pub owed_fits : area.owed < part_end

-- the word that says this
unfoldable pub encode_area : AreaWord → ℕ
encode_area area = area.front + 2 ^ 18 * area.low + 2 ^ 36 * area.owed

-- the parts of a word, 18 bits each
unfoldable pub area_in : ℕ → AreaWord
area_in w = record { front = w % 2 ^ 18; low = w / 2 ^ 18 % 2 ^ 18; owed = w / 2 ^ 36 }

-- what a word says, if no bit above the three parts is set
unfoldable pub decode_area : ℕ → Option AreaWord
decode_area w = if nat_lt w (2 ^ 54) then Some (area_in w) else None
