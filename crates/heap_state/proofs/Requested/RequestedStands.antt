-- The configuration in which a mutator has begun a checkpoint stands, and shows its plain state; where it runs on, it is told.
use Rattle.std.proofs.Common.{◌≡◌, ℕ, ◌+◌, ◌<◌, List, ◌∷◌, None, zero, suc, refl, sym, ◌∙◌, arith}
use Rattle.std.specs.Prelude.{true}
use Rattle.heap_state.specs.Configuration.{team, Stands}
use Rattle.heap_state.specs.Examples.Flipped.{flipped_plain}
use Rattle.heap_state.specs.Examples.Requested.{requested, requested_plain, requested_entries, running_on}
use Rattle.heap_state.specs.Invariant.Parts.Cells.{Cells}
use Rattle.heap_state.specs.Functions.{put, sum_below}
use Rattle.heap_state.specs.Invariant.Holds.{GateHolds}
use Rattle.heap_state.specs.Invariant.Inductive.{Invariant}
use Rattle.heap_state.specs.Meaning.Values.{value_of, Accounts, RegistersShow, BoardShows, Shown}
use Rattle.heap_state.specs.Memory.Entries.{Entry, GateIs, EachFits, HasSizes}
use Rattle.heap_state.specs.Memory.Era.{era_of, memory_of}
use Rattle.heap_state.specs.Theorems.Examples.{IsWorkedOutRequested}
use Rattle.heap_state.specs.Theorems.Saves.{WrittenWhole}
use Rattle.heap_state.specs.Theorems.Standing.{IsSound}
use Rattle.heap_state.proofs.Flipped.FlippedInvariant.{flipped_ghost, heap, identity, blank_word, zero_word, headed, once, kept_by, raw_words, counts, old_area}
use Rattle.heap_state.proofs.Flipped.FlippedStands.{objects, board_zero, registers}
use Rattle.heap_state.proofs.Cells.NoCells.{no_cells, nothing_to_show}
use Rattle.heap_state.proofs.Holds.Keeping.{holds}
use Rattle.heap_state.proofs.Represents.Representing.{represents}
use Rattle.heap_state.proofs.Represents.Snapped.{snaps_show}
use Rattle.heap_state.proofs.Requested.RequestedInvariant.{requested_table, requested_era, workers, KnowsHere, opened, landing, older, laid, copied, room, shut, filling, tracing, aged, old_words, old_pages, scanned, larger, new_written, old_space, crossing, counted, staffed, stocks, numbered, mutator_knows}
use Rattle.heap_state.proofs.Table.Writing.{writes_whole_tables}
use Rattle.heap_state.proofs.Worked.WorkedStands.{the_mutator, number_value, of_one}

-- ---- the invariant

knows : (k : ℕ) → k < 1 → KnowsHere k (workers.worker k)
knows zero l = mutator_knows
knows (suc k) l = absurd (omega arith)

-- nobody has a cell to link or walks
idle : (k : ℕ) → k < 1 → ((workers.worker k).linking ≡ None) × ((workers.worker k).pass ≡ None)
idle zero l = (refl, refl)
idle (suc k) l = absurd (omega arith)

cells : Cells (era_of requested_table) (memory_of requested_table) (team requested) flipped_ghost
cells = no_cells (era_of requested_table) (memory_of requested_table) (team requested) flipped_ghost (omega arith, omega arith) refl refl idle (λ a st e. absurd (cc))

keeps : Invariant (era_of requested_table) (memory_of requested_table) (team requested) flipped_ghost
unfolding put
keeps = assumption (counted, staffed, laid, headed, copied, once, kept_by, room, raw_words, counts, shut, filling, tracing, aged, scanned, opened, landing, older, old_area, new_written, old_space, old_words, old_pages, larger, crossing, stocks, numbered, cells, knows)

-- ---- the plain state

board : BoardShows requested_era (value_of identity) heap flipped_plain.heap
board = record {
  sixteen = refl;
  board = λ x l. rw (blank_word (512 + x) (omega arith)) (number_value identity 0 0 zero_word ∙ sym (board_zero x l));
}

flipped_shows : Shown (era_of requested_table) (memory_of requested_table) (team requested) flipped_ghost flipped_plain
unfolding put
flipped_shows = record {
  objects = objects;
  targets = nothing_to_show (era_of requested_table) (memory_of requested_table) flipped_ghost flipped_plain.heap (λ a st e. absurd (cc));
  board = board;
  as_many = refl;
  makers = refl;
  accounts = of_one (λ k q. Accounts flipped_plain.heap k (workers.worker k).account q) the_mutator (record { counter = refl; printed = refl; executed = refl; end = refl; serial = refl });
  registers = of_one (λ k q. RegistersShow (value_of identity) (workers.worker k).registers q) the_mutator registers;
}

shows : Shown (era_of requested_table) (memory_of requested_table) (team requested) flipped_ghost requested_plain
shows = snaps_show (era_of requested_table) (memory_of requested_table) (team requested) flipped_ghost flipped_plain flipped_shows

-- ---- the words

entries_fit : EachFits 4 requested_entries
entries_fit = (omega arith, (omega arith, (omega arith, (record { epoch_fits = omega arith; live_fits = omega arith; running_fits = omega arith; behind_fits = omega arith; left_fits = omega arith }, (tt, ((omega arith, record { front_fits = omega arith; low_fits = omega arith; owed_fits = omega arith }), ((omega arith, record { front_fits = omega arith; low_fits = omega arith; owed_fits = omega arith }), (tt, ((omega arith, omega arith, omega arith), ((omega arith, omega arith, omega arith), ((omega arith, omega arith), ((omega arith, omega arith), (tt, tt)))))))))))))

has_sizes : HasSizes requested_entries
has_sizes = record { first = (4, (8, omega arith, refl)); second = (4, (9, omega arith, refl)) }

table_is : WrittenWhole 4 requested_entries
table_is = writes_whole_tables 4 requested_entries entries_fit has_sizes

abbrev stands : Stands requested requested_plain
stands = record {
  size = (omega arith, omega arith);
  formed = table_is.formed;
  ghost = flipped_ghost;
  invariant = rw table_is.says keeps;
  shown = rw table_is.says shows;
}

sound : IsSound requested requested_plain
sound = record { holds = holds requested stands.ghost stands.formed stands.invariant; represents = represents requested stands.ghost stands.formed stands.invariant requested_plain stands.shown }

pub worked_out_requested : IsWorkedOutRequested
worked_out_requested = record { stands = stands; sound = sound; number = rw table_is.saves refl }

-- ---- who runs has no request

abbrev running_entries : List Entry
running_entries = GateIs (record { epoch = 0; live = 1; running = 1; behind = 0; request = true; left = 0 }) ∷ requested_entries

running_is : WrittenWhole 4 running_entries
running_is = writes_whole_tables 4 running_entries
    (record { epoch_fits = omega arith; live_fits = omega arith; running_fits = omega arith; behind_fits = omega arith; left_fits = omega arith }, entries_fit)
    (record { first = (4, (9, omega arith, refl)); second = (4, (10, omega arith, refl)) })

pub runs_on : ¬ (GateHolds running_on)
unfolding sum_below
runs_on holds = let broken : 1 ≡ 0 = rw running_is.says at holds.counted.request in omega (arith, broken)
