-- What a worker keeps of the record that it copies, for all others to read: the record's header, and the place that it has
-- reserved for the copy.
use Rattle.std.specs.Prelude.{ℕ, ◌+◌, ◌<◌, ◌≤◌, ◌≡◌, ◌==◌, List, [], ◌∷◌, Option, Some, None, map, slice_index_or, if◌then◌else◌}
use Rattle.heap_words.specs.Decoded.{Decoded, HeaderWord, decode}
use Rattle.heap_state.specs.Known.{Known, Copy}

-- the header, and the reserved place and one more; each is 0 where there is none
pub record Kept : Type 0 where
  pub header : ℕ
  pub place : ℕ

abbrev pub nothing_kept : Kept
nothing_kept = record { header = 0; place = 0 }

-- what is kept for a copy
abbrev pub kept_by : Option Copy → Kept
kept_by None = nothing_kept
kept_by (Some c) = record { header = c.header; place = if c.reserved then c.to + 1 else 0 }

-- what each of these workers keeps
abbrev pub kept_of : List Known → List Kept
kept_of workers = map (λ (w : Known). kept_by w.copy) workers

-- what the worker at a number keeps
abbrev pub kept_at : List Kept → ℕ → Kept
kept_at kept k = slice_index_or kept k nothing_kept

-- ---- reserved places

-- the words that a record with this header takes, or 0 where it is no header
abbrev pub size_said : Decoded → ℕ
size_said (HeaderWord kind len serial mutator) = len + 1
size_said _ = 0

-- the size of the place at this address that is reserved for the record of a kept header, or 0
abbrev pub reserved_by : Kept → ℕ → ℕ
reserved_by k a = if k.place == a + 1 then size_said (decode k.header) else 0

-- the size of the place at this address that some worker has reserved, or 0
abbrev pub reserved_in : List Kept → ℕ → ℕ
reserved_in [] a = 0
reserved_in (k ∷ kept) a = if reserved_by k a == 0 then reserved_in kept a else reserved_by k a

-- the address is a word of a place that some worker has reserved
pub record IsReservedIn (kept : List Kept) (x : ℕ) : Type 0 where
  pub worker : ℕ
  pub place : ℕ
  pub reserved : (kept_at kept worker).place ≡ place + 1
  pub inside : (place ≤ x) × (x < place + size_said (decode (kept_at kept worker).header))
