use Rattle.std.proofs.Common.{◌≡◌, ◌++◌, [], ◌∷◌, flat_map, length}
use Rattle.std.specs.List.{AllByRecursion}
use Rattle.concordance_text.specs.Words.{mentions_of}
use Rattle.concordance_text.specs.Parts.{AreCutAtLineEnds, AreInLineOrder, IsNumbered, bytes_of, mentions_of_part}
use Rattle.concordance_text.proofs.part.parts.Given as goal

-- the parts so far, and the rest
abbrev pub invariant-loop-done : goal.invariant-loop-done
invariant-loop-done l = record {
  count : length l.parts.items ≡ l.done;
  bytes : flat_map bytes_of l.parts.items ++ bytes_of l.rest ≡ l.text;
  at_line_ends : AreCutAtLineEnds (l.parts.items ++ l.rest ∷ []);
  mentions : flat_map mentions_of_part l.parts.items ++ mentions_of_part l.rest ≡ mentions_of l.text;
  numbered : AllByRecursion IsNumbered l.parts.items;
  rest_numbered : IsNumbered l.rest;
  in_order : AreInLineOrder (l.parts.items ++ l.rest ∷ []);
  last : l.done ≡ l.count → bytes_of l.rest ≡ [];
}
