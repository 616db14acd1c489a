use Rattle.std.proofs.Common.{arith}
use Rattle.space_map.proofs.GateWords.{decode_gate-encode_gate, encode_gate-decode_gate, GateFits-decode_gate, encode_gate-lt}
use Rattle.space_map.proofs.laws.gate_words_are_unambiguous.Goals as goal

pub returns : goal.returns
returns c = record {
  reads_back = decode_gate-encode_gate;
  one_spelling = encode_gate-decode_gate;
  parts_fit = GateFits-decode_gate;
  is_word = λ gate fits. let short = encode_gate-lt gate fits in omega arith;
}
