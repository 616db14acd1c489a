use Rattle.std.proofs.Common.{◌≡◌, [], ◌∷◌, map}
use Rattle.program_text.specs.Part.{parts_view}
use Rattle.program_text.specs.Read.{lines_view}
use Rattle.program_text.proofs.text.parts.parts.Given as goal

abbrev pub invariant-loop-lines : goal.invariant-loop-lines
invariant-loop-lines l = record {
  next : (goal.iterator-loop-lines).can_next l.lines-iterator;
  finite : (goal.iterator-loop-lines).is_finite l.lines-iterator;
  so_far : parts_view l.parts.items ≡ [] ∷ map (λ s. lines_view s.now) l.yielded;
}
