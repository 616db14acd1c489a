-- Sources and sinks in memory, as contracts see them.
use Rattle.std.specs.Prelude.{ℕ, ◌+◌, ◌-◌, ◌^◌, ◌==◌, ◌||◌, Bool, List, length, min}
use Rattle.std.specs.List.{list_any}

-- the bytes still to come, the calls that are to fail, and how many calls and faults there were
pub record Supply : Type 0 where
  pub left : List ℕ
  pub fails : List ℕ
  pub calls : ℕ
  pub faults : ℕ

-- the bytes held, how many there may be, the calls that are to fail, and how many calls and faults there were
pub record Store : Type 0 where
  pub held : List ℕ
  pub room : ℕ
  pub fails : List ℕ
  pub calls : ℕ
  pub faults : ℕ

-- the number of the call that comes after so many; the count stands still at its last value
abbrev pub next_call : ℕ → ℕ
next_call calls = min (calls + 1) (2 ^ 64 - 1)

-- whether a call is among those that are to fail
abbrev pub is_listed : List ℕ → ℕ → Bool
is_listed fails call = list_any (λ n. n == call) fails

-- how many bytes more may be held
abbrev pub room_left : Store → ℕ
room_left store = store.room - length store.held

-- whether a call is to fail: it is listed, or no byte more may be held
abbrev pub is_to_fail : Store → ℕ → Bool
is_to_fail store call = is_listed store.fails call || (room_left store == 0)
