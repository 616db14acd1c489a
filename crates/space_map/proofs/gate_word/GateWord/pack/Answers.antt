use Rattle.std.proofs.Common.{◌≡◌, ◌+◌, ◌*◌, ◌%◌, ◌^◌, ◌<◌, ◌∙◌, cond, arith}
use Rattle.space_map.specs.GateWord.{encode_gate}
use Rattle.space_map.proofs.GateWords.{decode_gate-encode_gate, bool_byte-bit, bit-lt}
use Rattle.space_map.proofs.Bits.{or_above}
use Rattle.space_map.proofs.gate_word.GateWord.pack.Goals as goal

pub returns-clause-word : goal.returns-clause-word
unfolding encode_gate
returns-clause-word c =
    let epoch = c.from.result in
    let live = c.from-2.result in
    let running = c.from-3.result in
    let behind = c.from-4.result in
    let request = c.from-5.result in
    let left = c.from-6.result in
    let request_is : request ≡ cond c.args.self.request 1 0 = c.from-5.ensures ∙ bool_byte-bit c.args.self.request in
    let request_fits : cond c.args.self.request 1 0 < 2 = bit-lt c.args.self.request in
    let live_whole : live * 2 ^ 32 % 2 ^ 64 ≡ live * 2 ^ 32 = omega arith in
    let running_whole : running * 2 ^ 40 % 2 ^ 64 ≡ running * 2 ^ 40 = omega arith in
    let behind_whole : behind * 2 ^ 48 % 2 ^ 64 ≡ behind * 2 ^ 48 = omega arith in
    let request_whole : request * 2 ^ 56 % 2 ^ 64 ≡ request * 2 ^ 56 = omega arith in
    let left_whole : left * 2 ^ 57 % 2 ^ 64 ≡ left * 2 ^ 57 = omega arith in
    let below_40 = epoch + live * 2 ^ 32 in
    let below_48 = below_40 + running * 2 ^ 40 in
    let below_56 = below_48 + behind * 2 ^ 48 in
    let below_57 = below_56 + request * 2 ^ 56 in
    rw (
      live_whole,
      running_whole,
      behind_whole,
      request_whole,
      left_whole,
      or_above epoch live 32 (omega arith),
      or_above below_40 running 40 (omega arith),
      or_above below_48 behind 48 (omega arith),
      or_above below_56 request 56 (omega arith),
      or_above below_57 left 57 (omega arith),
    ) (omega arith)

pub returns-clause-reads_back : goal.returns-clause-reads_back
returns-clause-reads_back c = rw (returns-clause-word c) (decode_gate-encode_gate c.args.self (record {
  epoch_fits = omega arith;
  live_fits = omega arith;
  running_fits = omega arith;
  behind_fits = omega arith;
  left_fits = c.requires;
}))
