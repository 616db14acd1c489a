-- The memory and the era that a table has follow it.
use Rattle.std.proofs.Common.{◌≡◌, ◌≢◌, ℕ, ◌+◌, ◌%◌, refl, sym, arith}
use Rattle.space_map.specs.declared.area_word.AreaWord.{AreaWord}
use Rattle.space_map.specs.declared.gate_word.GateWord.{GateWord}
use Rattle.space_map.specs.Spaces.{to_space}
use Rattle.heap_state.specs.Memory.Era.{from_space}
use Rattle.heap_state.specs.Memory.Table.{Table}
use Rattle.heap_state.specs.Theorems.Rows.{AreaSeen, SizeSeen, FlipSeen, MemoryFollows}
use Rattle.heap_state.proofs.Table.LaidOut.{laid_out}
use Rattle.heap_state.proofs.Puts.{put_same, put_other}

area_seen : (t : Table) (v : AreaWord) → AreaSeen t v
area_seen t v =
    let s : ℕ = to_space t.gate.epoch in
    let o : ℕ = from_space t.gate.epoch in
    let apart : o ≢ s = (λ e. let q : (t.gate.epoch + 1) % 2 ≡ t.gate.epoch % 2 = e in omega arith) in
    let other : s ≢ o = (λ e. apart (sym e)) in
    record {
      now = rw (put_same t.area s v, put_other t.area s v o apart) refl;
      old = rw (put_same t.area o v, put_other t.area o v s other) refl;
    }

flip_seen : (t : Table) (gate : GateWord) → gate.epoch ≡ t.gate.epoch + 1 → FlipSeen t gate
flip_seen t gate e =
    let twice : (t.gate.epoch + 1 + 1) % 2 ≡ t.gate.epoch % 2 = omega arith in
    record { memory = rw (e, twice) refl; era = rw (e, twice) refl }

size_seen : (t : Table) (pages : ℕ) → SizeSeen t pages
size_seen t pages =
    let s : ℕ = to_space t.gate.epoch in
    let o : ℕ = from_space t.gate.epoch in
    let other : s ≢ o = (λ e. let q : t.gate.epoch % 2 ≡ (t.gate.epoch + 1) % 2 = e in omega arith) in
    record { memory = refl; era = rw (put_same t.in_use o pages, put_other t.in_use o pages s other) refl }

pub follows : MemoryFollows
follows = record { area = area_seen; flip = flip_seen; size = size_seen; laid_out = laid_out }
