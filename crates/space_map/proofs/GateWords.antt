-- A gate word says what it was made from, and nothing else is made as that word.
use Rattle.std.proofs.Common.{◌≡◌, ℕ, ◌+◌, ◌*◌, ◌/◌, ◌%◌, ◌^◌, ◌<◌, ◌≤◌, Bool, true, false, cond, zero, suc, nat_lt, nat_eq, Some, None, refl, arith}
use Rattle.std.proofs.lemmas.Bool.{ltb-true}
use mir.Val.{bool_byte}
use Rattle.std.proofs.lemmas.Bool.Decides.{nat_tests}
use Rattle.space_map.specs.declared.gate_word.GateWord.{GateWord}
use Rattle.space_map.specs.GateWord.{GateFits, gate_in, decode_gate, encode_gate}

pub decode_gate-short : (w : ℕ) → w < 2 ^ 62 → decode_gate w ≡ Some (gate_in w)
unfolding decode_gate
decode_gate-short w short = let test : nat_lt w (2 ^ 62) ≡ true = grind (arith, nat_tests) in rw test

pub decode_gate-long : (w : ℕ) → 2 ^ 62 ≤ w → decode_gate w ≡ None
unfolding decode_gate
decode_gate-long w long = let test : nat_lt w (2 ^ 62) ≡ false = grind (arith, nat_tests) in rw test

-- ---- the request bit

pub bit-lt : (b : Bool) → cond b 1 0 < 2
bit-lt true = omega arith
bit-lt false = omega arith

pub bool_byte-bit : (b : Bool) → bool_byte b ≡ cond b 1 0
bool_byte-bit true = refl
bool_byte-bit false = refl

bit_test : (b : Bool) (n : ℕ) → n ≡ cond b 1 0 → nat_eq n 1 ≡ b
bit_test true n is = rw is refl
bit_test false n is = rw is refl

bit_tested : (n : ℕ) → n < 2 → cond (nat_eq n 1) 1 0 ≡ n
bit_tested zero below = refl
bit_tested (suc zero) below = refl
bit_tested (suc (suc n)) below = absurd (omega arith)

-- ---- the parts

pub gate_in-encode_gate : (gate : GateWord) → GateFits gate → gate_in (encode_gate gate) ≡ gate
unfolding gate_in encode_gate
gate_in-encode_gate gate fits =
    let small = bit-lt gate.request in
    let w : ℕ =
    gate.epoch + 2 ^ 32 * gate.live + 2 ^ 40 * gate.running + 2 ^ 48 * gate.behind
    + 2 ^ 56 * (cond gate.request 1 0) + 2 ^ 57 * gate.left in
    let epoch : w % 2 ^ 32 ≡ gate.epoch = omega arith in
    let live : w / 2 ^ 32 % 2 ^ 8 ≡ gate.live = omega arith in
    let running : w / 2 ^ 40 % 2 ^ 8 ≡ gate.running = omega arith in
    let behind : w / 2 ^ 48 % 2 ^ 8 ≡ gate.behind = omega arith in
    let request : nat_eq (w / 2 ^ 56 % 2) 1 ≡ gate.request = bit_test gate.request (w / 2 ^ 56 % 2) (omega arith) in
    let left : w / 2 ^ 57 ≡ gate.left = omega arith in
    rw (epoch, live, running, behind, request, left) refl

pub encode_gate-lt : (gate : GateWord) → GateFits gate → encode_gate gate < 2 ^ 62
unfolding encode_gate
encode_gate-lt gate fits = omega (arith, bit-lt gate.request)

pub encode_gate-gate_in : (w : ℕ) → encode_gate (gate_in w) ≡ w
unfolding gate_in encode_gate
encode_gate-gate_in w =
    let request : cond (nat_eq (w / 2 ^ 56 % 2) 1) 1 0 ≡ w / 2 ^ 56 % 2 = bit_tested (w / 2 ^ 56 % 2) (omega arith) in
    rw request (omega arith)

pub GateFits-gate_in : (w : ℕ) → w < 2 ^ 62 → GateFits (gate_in w)
unfolding gate_in
GateFits-gate_in w short = record {
  epoch_fits = omega arith;
  live_fits = omega arith;
  running_fits = omega arith;
  behind_fits = omega arith;
  left_fits = omega arith;
}

pub decode_gate-encode_gate : (gate : GateWord) → GateFits gate → decode_gate (encode_gate gate) ≡ Some gate
decode_gate-encode_gate gate fits =
    rw (decode_gate-short (encode_gate gate) (encode_gate-lt gate fits), gate_in-encode_gate gate fits) refl

-- ---- from the word decoded

decoded_if : (b : Bool) (parts gate : GateWord) → cond b (Some parts) None ≡ Some gate → (b ≡ true) × (parts ≡ gate)
decoded_if true parts gate is = (refl, cc)
decoded_if false parts gate is = cc

pub encode_gate-decode_gate : (w : ℕ) (gate : GateWord) → decode_gate w ≡ Some gate → encode_gate gate ≡ w
unfolding decode_gate
encode_gate-decode_gate w gate is =
    let parts = decoded_if (nat_lt w (2 ^ 62)) (gate_in w) gate is in
    rw (← parts.1) (encode_gate-gate_in w)

pub GateFits-decode_gate : (w : ℕ) (gate : GateWord) → decode_gate w ≡ Some gate → GateFits gate
unfolding decode_gate
GateFits-decode_gate w gate is =
    let parts = decoded_if (nat_lt w (2 ^ 62)) (gate_in w) gate is in
    rw (← parts.1) (GateFits-gate_in w (ltb-true w (2 ^ 62) parts.0))
