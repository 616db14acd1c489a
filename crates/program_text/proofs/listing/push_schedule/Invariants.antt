use Rattle.std.proofs.Common.{◌≡◌, ◌++◌, drop, codes}
use Rattle.std.specs.List.{flat_map}
use Rattle.std.specs.String.{string_bytes}
use Rattle.mutator_asm.specs.Listing.{item_token}
use Rattle.program_text.proofs.listing.push_schedule.Given as goal

abbrev pub invariant-loop-item : goal.invariant-loop-item
invariant-loop-item l =
    string_bytes l.out ++ flat_map (λ item. codes " " ++ item_token item) (drop l.item-index l.items)
    ≡ string_bytes l.initial.out ++ flat_map (λ item. codes " " ++ item_token item) l.items
