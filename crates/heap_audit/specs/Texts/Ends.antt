-- The end of a mutator, read from the front by its text.
use Rattle.std.specs.Prelude.{ℕ, ◌^◌, ◌<◌, List, [], ◌∷◌, codes, Option, Some, None}
use Rattle.plain_state.specs.declared.end.End.{End}
use Rattle.plain_state.specs.declared.end.End.TheVariants.{Halt, NotPointer, NotNumber, OutOfRange, WeakCell, IntoRaw, ZeroDivisor, JumpOut, TurnsOut, OutputFull, HeapFull}
use Rattle.plain_heap.specs.Print.{end_text}
use Rattle.dump_text.specs.Pieces.{Piece, ◌>>=◌, byte_at}
use Rattle.heap_audit.specs.Texts.Pieces.{amount_at, chosen}

-- what stands behind a text that is wanted
abbrev pub text_at : List ℕ → List ℕ → Option (List ℕ)
text_at [] bytes = Some bytes
text_at (b ∷ wanted) bytes = byte_at b bytes >>= λ rest. text_at wanted rest

-- the numbers of a heap that is full
unfoldable pub full_end_at : Piece (Option End)
full_end_at bytes = do
  asked ← amount_at bytes
  middle ← text_at (codes " room ") asked.1
  room ← amount_at middle
  last ← text_at (codes " live ") room.1
  live ← amount_at last
  Some (Some (HeapFull asked.0 room.0 live.0), live.1)

-- this end where its text stands, else the other
abbrev pub told : Option End → List ℕ → Option (Option End × List ℕ) → Option (Option End × List ℕ)
told end bytes other = chosen (text_at (end_text end) bytes) (λ rest. Some (end, rest)) other

-- the end of a mutator, or none where it was stopped
unfoldable pub end_at : Piece (Option End)
end_at bytes =
    told None bytes (told (Some Halt) bytes (told (Some NotPointer) bytes (told (Some NotNumber) bytes (told (Some OutOfRange) bytes (told (Some WeakCell) bytes (told (Some IntoRaw) bytes (told (Some ZeroDivisor) bytes (told (Some JumpOut) bytes (told (Some TurnsOut) bytes (told (Some OutputFull) bytes
    (chosen (text_at (codes "heap full asked ") bytes) full_end_at None)))))))))))

-- the numbers of an end are those that its parts hold
abbrev pub EndFits : Option End → Type 0
EndFits (Some (HeapFull asked room live)) = (asked < 2 ^ 32) × (room < 2 ^ 32) × (live < 2 ^ 32)
EndFits other = Unit {0}
