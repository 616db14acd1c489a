use Rattle.std.proofs.Common.{◌≡◌, ◌++◌, flat_map}
use Rattle.concordance_text.specs.Rows.{row_text, rows_of_entries}
use Rattle.concordance_text.proofs.listing.told.Given as goal

-- the text so far, and what the rows that are left will add
abbrev pub invariant-loop-word : goal.invariant-loop-word
invariant-loop-word l = l.text.items ++ flat_map row_text (rows_of_entries l.word-iterator) ≡ flat_map row_text (rows_of_entries l.words.entries)
