use Rattle.std.proofs.Common.{◌/◌, ◌^◌, refl, arith, sym}
use Rattle.std.proofs.lemmas.Nat.{and_mask}
use Rattle.space_map.specs.GateWord.{gate_in}
use Rattle.space_map.proofs.GateWords.{decode_gate-short, decode_gate-long, encode_gate-decode_gate}
use Rattle.space_map.proofs.gate_word.GateWord.read.Goals as goal

pub returns-then-word-ne0-clause-decoded : goal.returns-then-word-ne0-clause-decoded
returns-then-word-ne0-clause-decoded c = sym (decode_gate-long c.args.word (omega arith))

pub returns-clause-decoded : goal.returns-clause-decoded
unfolding gate_in
returns-clause-decoded c =
    rw (
      decode_gate-short c.args.word (omega arith),
      and_mask c.args.word 32,
      and_mask (c.args.word / 2 ^ 32) 8,
      and_mask (c.args.word / 2 ^ 40) 8,
      and_mask (c.args.word / 2 ^ 48) 8,
      and_mask (c.args.word / 2 ^ 56) 1,
    ) refl

pub returns-clause-one_spelling : goal.returns-clause-one_spelling
returns-clause-one_spelling c = sym (encode_gate-decode_gate c.args.word _ (sym (returns-clause-decoded c)))
