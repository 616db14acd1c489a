-- What is printed of a state, and the text of an order.
use Rattle.std.specs.Prelude.{ℕ, ◌+◌, List, [], ◌∷◌, ◌++◌, map, Option, Some, None, codes, decimal}
use Rattle.std.specs.List.{flat_map}
use Rattle.plain_state.specs.declared.end.End.{End}
use Rattle.plain_state.specs.End.{text_of}
use Rattle.plain_state.specs.State.{Mutator, Plain}
use Rattle.plain_heap.specs.declared.mark.Mark.{Mark}
use Rattle.plain_heap.specs.declared.mark.Mark.TheVariants.{Step, Flip, Full, Traced}

-- a line of mutator m
abbrev pub printed_line : ℕ → List ℕ → List ℕ
printed_line m text = decimal m ++ codes ": " ++ text ++ codes "\n"

abbrev pub end_text : Option End → List ℕ
end_text None = codes "stopped"
end_text (Some why) = text_of why

-- a line for each number that mutator m printed, and one for its end
abbrev pub printed_lines : ℕ → List ℕ → Option End → List ℕ
printed_lines m numbers end = flat_map (λ n. printed_line m (decimal n)) numbers ++ printed_line m (end_text end)

-- what is seen of a mutator: the numbers that it printed, and its end
pub record Seen : Type 0 where
  pub printed : List ℕ
  pub end : Option End

abbrev pub seen_in : List Mutator → List Seen
seen_in ks = map (λ k. record { printed = k.printed; end = k.end }) ks

abbrev pub plain_seen : Plain → List Seen
plain_seen s = seen_in s.mutators

-- the lines of mutators whose numbers begin with m, by what is seen of them
abbrev pub lines_seen : ℕ → List Seen → List ℕ
lines_seen m [] = []
lines_seen m (k ∷ ks) = printed_lines m k.printed k.end ++ lines_seen (m + 1) ks

-- the lines of all mutators
abbrev pub print_of : Plain → List ℕ
print_of s = lines_seen 0 (plain_seen s)

-- ---- the line of an order

abbrev pub mark_text : Mark → List ℕ
mark_text (Step m) = decimal m
mark_text (Flip asked) = codes "F" ++ decimal asked
mark_text (Full m asked room live) =
    codes "X" ++ decimal m ++ codes "," ++ decimal asked ++ codes "," ++ decimal room ++ codes "," ++ decimal live
mark_text Traced = codes "T"

abbrev pub order_line : List Mark → List ℕ
order_line marks = codes "order" ++ flat_map (λ mark. codes " " ++ mark_text mark) marks ++ codes "\n"
