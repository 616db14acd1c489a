-- the rows so far, and the entries that are left
use Rattle.concordance_text.specs.Rows.{rows_of}
use Rattle.concordance.specs.Gathering.{HasRead, LeadsToEntries, whole_desk_of, with_notes}
use Rattle.concordance.proofs.Gathered.Walks.{EntriesLeft}
use Rattle.concordance.proofs.clerk.Clerk.gather_entries.Given as goal

abbrev pub invariant-loop : goal.invariant-loop
invariant-loop g l = record {
  read : HasRead l.fn.self l.self;
  left : (led : LeadsToEntries (whole_desk_of l.fn.self) 2) → EntriesLeft l.self 2 (rows_of l.words) (with_notes led.notes (rows_of l.fn.words));
}
