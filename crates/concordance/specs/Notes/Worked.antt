-- Notes worked out by hand.
use Rattle.std.specs.Prelude.{List, [], ◌∷◌, codes}
use Rattle.plain_state.specs.State.{Record}
use Rattle.plain_state.specs.declared.value.Value.TheVariants.{Number}
use Rattle.concordance_text.specs.Words.{mentions_of}
use Rattle.concordance.specs.Notes.Invariant.{HoldsNotes}
use Rattle.concordance.specs.Desk.{own}
use Rattle.concordance.specs.Notes.Records.{Note, entry_record, letters_record, line_record}

-- The records of clerk 1 for the text of two lines, "b a" and "A". The path of "a" goes to the left at the entry of "b". The records of
-- "b" are the first three; those of "a" are the next three, and its second line is the last.
abbrev pub worked_records : List Record
worked_records =
    letters_record (codes "b")
    ∷ line_record (Number 1) (Number 0)
    ∷ entry_record (own 1 1) (own 1 2) (own 1 6) (Number 0) (Number 0)
    ∷ letters_record (codes "a")
    ∷ line_record (Number 1) (Number 0)
    ∷ entry_record (own 1 4) (own 1 7) (Number 0) (Number 0) (own 1 3)
    ∷ line_record (Number 2) (own 1 5)
    ∷ []

-- the entry of "a" is the latest
abbrev pub worked_notes : List Note
worked_notes = record { serial = 6; word = codes "a"; lines = 2 ∷ 1 ∷ [] } ∷ record { serial = 3; word = codes "b"; lines = 1 ∷ [] } ∷ []

abbrev pub HoldsWorkedOut : Type 0
HoldsWorkedOut = HoldsNotes 1 worked_records (own 1 3) (own 1 6) worked_notes (mentions_of (codes "b a\nA"))
