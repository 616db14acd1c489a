-- The pieces of a line, read from the front: what a piece says, and the bytes behind it, or nothing where the piece is wrong.
use Rattle.std.specs.Prelude.{ℕ, ◌^◌, nat_lt, if◌then◌else◌, List, Option, Some, None}
use Rattle.dump_text.specs.Pieces.{Piece, ◌>>=◌, byte_at, numeral_at}
use Rattle.plain_heap.specs.declared.mark.Mark.{Mark}
use Rattle.plain_heap.specs.declared.mark.Mark.TheVariants.{Step, Flip, Full, Traced}

-- a number below this, in decimal digits of which the first is 0 in 0 alone
unfoldable pub decimal_at : ℕ → Piece ℕ
decimal_at limit bytes = do
  number ← numeral_at 19 bytes
  if nat_lt number.0 limit then Some (number.0, number.1) else None

-- a number of pages or of words
unfoldable pub amount_at : Piece ℕ
amount_at bytes = decimal_at (2 ^ 32) bytes

-- a number of a mutator, which the program need not have
unfoldable pub mutator_at : Piece ℕ
mutator_at bytes = decimal_at 256 bytes

-- a comma, and a number of pages or of words
unfoldable pub next_amount_at : Piece ℕ
next_amount_at bytes = do
  rest ← byte_at 44 bytes
  amount_at rest

unfoldable pub step_mark_at : Piece Mark
step_mark_at bytes = do
  m ← mutator_at bytes
  Some (Step m.0, m.1)

unfoldable pub flip_mark_at : Piece Mark
flip_mark_at bytes = do
  asked ← amount_at bytes
  Some (Flip asked.0, asked.1)

unfoldable pub full_mark_at : Piece Mark
full_mark_at bytes = do
  m ← mutator_at bytes
  asked ← next_amount_at m.1
  room ← next_amount_at asked.1
  live ← next_amount_at room.1
  Some (Full m.0 asked.0 room.0 live.0, live.1)

unfoldable pub traced_mark_at : Piece Mark
traced_mark_at bytes = Some (Traced, bytes)

-- what is read behind a byte that stands there, else the other
abbrev pub chosen : {A : Type 0} → Option (List ℕ) → Piece A → Option (A × List ℕ) → Option (A × List ℕ)
chosen (Some rest) piece other = piece rest
chosen None piece other = other

-- a mark of an order
unfoldable pub mark_at : Piece Mark
mark_at bytes = chosen (byte_at 70 bytes) flip_mark_at (chosen (byte_at 88 bytes) full_mark_at (chosen (byte_at 84 bytes) traced_mark_at (step_mark_at bytes)))

-- the word `order`
abbrev pub name_at : List ℕ → Option (List ℕ)
name_at bytes = do
  o ← byte_at 111 bytes
  r ← byte_at 114 o
  d ← byte_at 100 r
  e ← byte_at 101 d
  byte_at 114 e
