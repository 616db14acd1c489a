use Rattle.std.proofs.Common.{◌≡◌, map, take}
use Rattle.mutator_asm.specs.Line.{line_of}
use Rattle.program_text.specs.Read.{line_view, tokens_view}
use Rattle.program_text.proofs.text.line.lines.Given as goal

abbrev pub invariant-loop-bytes : goal.invariant-loop-bytes
invariant-loop-bytes l = map line_view l.lines.items ≡ map line_of (tokens_view (take l.bytes-index l.bytes-items))
