-- The text of an end.
use Rattle.std.specs.Prelude.{ℕ, List, ◌++◌, codes, decimal}
use Rattle.plain_state.specs.declared.end.End.{End}
use Rattle.plain_state.specs.declared.end.End.TheVariants.{Halt, NotPointer, NotNumber, OutOfRange, WeakCell, IntoRaw, ZeroDivisor, JumpOut, TurnsOut, OutputFull, HeapFull}

-- what is printed for an end, without the line end
abbrev pub text_of : End → List ℕ
text_of Halt = codes "halt"
text_of NotPointer = codes "not a pointer"
text_of NotNumber = codes "not a number"
text_of OutOfRange = codes "out of range"
text_of WeakCell = codes "weak cell"
text_of IntoRaw = codes "pointer into raw"
text_of ZeroDivisor = codes "zero divisor"
text_of JumpOut = codes "jump out"
text_of TurnsOut = codes "turns out"
text_of OutputFull = codes "output full"
text_of (HeapFull asked room live) =
    codes "heap full asked " ++ decimal asked ++ codes " room " ++ decimal room ++ codes " live " ++ decimal live
