-- The format of the gate word.
use Rattle.std.specs.Prelude.{ℕ, ◌+◌, ◌*◌, ◌/◌, ◌%◌, ◌^◌, ◌<◌, ◌==◌, Option, Some, None, nat_lt, if◌then◌else◌}
use Rattle.space_map.specs.declared.gate_word.GateWord.{GateWord}

-- each part is in the range that its bits can say
pub record GateFits (gate : GateWord) : Type 0 where
  pub epoch_fits : gate.epoch < 2 ^ 32
  pub live_fits : gate.live < 2 ^ 8
  pub running_fits : gate.running < 2 ^ 8
  pub behind_fits : gate.behind < 2 ^ 8
  pub left_fits : gate.left < 2 ^ 5

-- the word that says this: 32 bits of epoch, 8 each of live, running and behind, 1 of request, 5 of left
unfoldable pub encode_gate : GateWord → ℕ
encode_gate gate =
    gate.epoch + 2 ^ 32 * gate.live + 2 ^ 40 * gate.running + 2 ^ 48 * gate.behind
    + 2 ^ 56 * (if gate.request then 1 else 0) + 2 ^ 57 * gate.left

-- the parts of a word
unfoldable pub gate_in : ℕ → GateWord
gate_in w = record {
  epoch = w % 2 ^ 32;
  live = w / 2 ^ 32 % 2 ^ 8;
  running = w / 2 ^ 40 % 2 ^ 8;
  behind = w / 2 ^ 48 % 2 ^ 8;
  request = w / 2 ^ 56 % 2 == 1;
  left = w / 2 ^ 57;
}

-- what a word says, if neither of its highest two bits is set
unfoldable pub decode_gate : ℕ → Option GateWord
decode_gate w = if nat_lt w (2 ^ 62) then Some (gate_in w) else None
