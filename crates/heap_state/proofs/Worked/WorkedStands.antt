-- The worked configuration stands, and shows its plain state.
use Rattle.std.proofs.Common.{◌≡◌, ◌≢◌, ℕ, ◌+◌, ◌<◌, [], ◌∷◌, Some, None, zero, suc, refl, sym, ◌∙◌, arith, ⊎_elim, ◌⊎◌, false}
use Rattle.std.specs.Prelude.{slice_get}
use Rattle.std.proofs.lemmas.Bool.{cases_eq, ne_eqb}
use Rattle.plain_state.specs.declared.kind.Kind.TheVariants.{Fields}
use Rattle.heap_words.specs.Decoded.{PointerWord, NumberWord, decode}
use Rattle.plain_state.specs.declared.value.Identity.{Identity}
use Rattle.plain_state.specs.declared.value.Value.TheVariants.{Number, Reference}
use Rattle.plain_state.specs.State as plain
use Rattle.heap_state.specs.Configuration.{team, Stands}
use Rattle.heap_state.specs.Memory.Entries.{EachFits, HasSizes}
use Rattle.heap_state.specs.Memory.Era.{era_of, memory_of}
use Rattle.heap_state.specs.Functions.{put}
use Rattle.heap_state.specs.Invariant.Parts.Cells.{Cells}
use Rattle.heap_state.specs.Invariant.Inductive.{Invariant}
use Rattle.heap_state.specs.Invariant.Parts.Pages.{Sizes}
use Rattle.heap_state.specs.Invariant.Parts.Records.{RawWords, Counts}
use Rattle.heap_state.specs.Meaning.Values.{value_of, Shows, ShowsAll, Accounts, RegistersShow, BoardShows, Shown}
use Rattle.heap_state.specs.Examples.Worked.{worked, worked_entries, worked_plain, worked_mutator, made, zeros_after}
use Rattle.heap_words.specs.Word.{pointer_word}
use Rattle.heap_state.proofs.Cells.NoCells.{no_cells, nothing_to_show}
use Rattle.heap_state.proofs.Puts.{some_same, none≢some}
use Rattle.heap_state.proofs.Worked.Ghost.{worked_table, worked_era, worked_ghost, size, writer, copy, keeper, identity, each_place}
use Rattle.heap_state.proofs.Worked.WorkedPages.{workers, shut, filling, tracing, aged, old_area, old_pages, scanned}
use Rattle.heap_state.proofs.Worked.WorkedRecords.{heap, laid, headed, new_written, copied, once, kept_by, room, landing, older, word_196, word_257, word_258, word_515, elsewhere}
use Rattle.heap_state.proofs.Worked.Spaces.{opened, new_area, old_space, crossing, counted, staffed, stocks, numbered}
use Rattle.heap_state.proofs.Worked.WorkedWorkers.{KnowsHere, mutator_knows, scanner_knows, first_register, zero_register}
use Rattle.heap_state.proofs.Table.Writing.{writes_tables}

-- ---- the invariant

knows : (k : ℕ) → k < 2 → KnowsHere k (workers.worker k)
knows zero l = mutator_knows
knows (suc zero) l = scanner_knows
knows (suc (suc k)) l = absurd (omega arith)

raw_words : RawWords size writer (λ a. Fields) heap
raw_words = record { raw = λ a i st w b l f. absurd (cc) }

counts : Counts size writer (λ a. Fields) heap
counts = record { counts = λ a count st w e. absurd (cc) }

sizes : Sizes worked_era false
sizes = record { below = λ e. omega arith }

-- nobody has a cell to link or walks
idle : (k : ℕ) → k < 2 → ((workers.worker k).linking ≡ None) × ((workers.worker k).pass ≡ None)
idle zero l = (refl, refl)
idle (suc zero) l = (refl, refl)
idle (suc (suc k)) l = absurd (omega arith)

cells : Cells (era_of worked_table) (memory_of worked_table) (team worked) worked_ghost
cells = no_cells (era_of worked_table) (memory_of worked_table) (team worked) worked_ghost (omega arith, omega arith) refl refl idle (λ a st e. absurd (cc))

pub keeps : Invariant (era_of worked_table) (memory_of worked_table) (team worked) worked_ghost
unfolding put
keeps = assumption (counted, staffed, laid, headed, copied, once, kept_by, room, raw_words, counts, shut, filling, tracing, aged, scanned, opened, landing, older, new_area, new_written, old_space, old_area, old_pages, sizes, crossing, stocks, numbered, cells, knows)

-- ---- the plain state

pub pointer_value : (named : ℕ → Identity) (w a : ℕ) → decode w ≡ PointerWord a → value_of named w ≡ Some (Reference (named a))
unfolding value_of
pointer_value named w a e = rw e refl

pub number_value : (named : ℕ → Identity) (w n : ℕ) → decode w ≡ NumberWord n → value_of named w ≡ Some (Number n)
unfolding value_of
number_value named w n e = rw e refl

-- what holds of the one mutator there is
pub of_one : (P : ℕ → plain.Mutator → Type 0) (q : plain.Mutator) → P 0 q → (k : ℕ) (r : plain.Mutator) → slice_get (q ∷ []) k ≡ Some r → P k r
of_one P q here zero r e = let s : q ≡ r = some_same e in rw (← s) here
of_one P q here (suc k) r e = none≢some e

pub objects : ShowsAll size writer copy keeper (λ a. Fields) identity heap worked_plain.heap
objects = record {
  shows = each_place (λ a. writer a ≡ 0 → (copy a ≡ 0) ⊎ (0 < keeper a)
      → (r : plain.Record) × (plain.record_of worked_plain.heap (identity a) ≡ Some r) × Shows (value_of identity) heap a Fields (size a) r)
      (λ w o. absurd (omega (arith, o)))
      (λ w o. (
        _,
        refl,
        record {
          kind = refl;
          size = refl;
          fields = λ x l f. let q : x ≡ 0 = omega arith in rw q (pointer_value identity (heap 196) 192 word_196);
          numbers = λ x l f. absurd (cc);
          count = tt;
        },
      ))
      (λ w o. (
        _,
        refl,
        record {
          kind = refl;
          size = refl;
          fields = λ x l f. ⊎_elim
              (λ (q : x ≡ 0). rw q (number_value identity (heap 257) 7 word_257))
              (λ (n : x ≢ 0). let q : x ≡ 1 = omega arith in rw q (pointer_value identity (heap 258) 195 word_258))
              (cases_eq x 0);
          numbers = λ x l f. absurd (cc);
          count = tt;
        },
      ))
      (λ w o. absurd (omega (arith, w)));
}

-- all board words but one are the number 0
board_zero : (x : ℕ) → x < 16 → x ≢ 3 → slice_get worked_plain.heap.board x ≡ Some (Number 0)
board_zero zero l n = refl
board_zero (suc zero) l n = refl
board_zero (suc (suc zero)) l n = refl
board_zero (suc (suc (suc zero))) l n = absurd (n refl)
board_zero (suc (suc (suc (suc zero)))) l n = refl
board_zero (suc (suc (suc (suc (suc zero))))) l n = refl
board_zero (suc (suc (suc (suc (suc (suc zero)))))) l n = refl
board_zero (suc (suc (suc (suc (suc (suc (suc zero))))))) l n = refl
board_zero (suc (suc (suc (suc (suc (suc (suc (suc zero)))))))) l n = refl
board_zero (suc (suc (suc (suc (suc (suc (suc (suc (suc zero))))))))) l n = refl
board_zero (suc (suc (suc (suc (suc (suc (suc (suc (suc (suc zero)))))))))) l n = refl
board_zero (suc (suc (suc (suc (suc (suc (suc (suc (suc (suc (suc zero))))))))))) l n = refl
board_zero (suc (suc (suc (suc (suc (suc (suc (suc (suc (suc (suc (suc zero)))))))))))) l n = refl
board_zero (suc (suc (suc (suc (suc (suc (suc (suc (suc (suc (suc (suc (suc zero))))))))))))) l n = refl
board_zero (suc (suc (suc (suc (suc (suc (suc (suc (suc (suc (suc (suc (suc (suc zero)))))))))))))) l n = refl
board_zero (suc (suc (suc (suc (suc (suc (suc (suc (suc (suc (suc (suc (suc (suc (suc zero))))))))))))))) l n = refl
board_zero (suc (suc (suc (suc (suc (suc (suc (suc (suc (suc (suc (suc (suc (suc (suc (suc x)))))))))))))))) l n = absurd (omega arith)

board : BoardShows worked_era (value_of identity) heap worked_plain.heap
board = record {
  sixteen = refl;
  board = λ x l. ⊎_elim
      (λ (e : x ≡ 3). rw e (pointer_value identity (heap 515) 256 word_515))
      (λ (n : x ≢ 3). number_value identity (heap (512 + x)) 0 (elsewhere (512 + x) (λ e. n (omega arith)) (omega arith)) ∙ sym (board_zero x l n))
      (cases_eq x 3);
}

abbrev pub the_mutator : plain.Mutator
the_mutator = record { counter = 12; registers = Reference (made 1) ∷ zeros_after []; printed = 7 ∷ []; executed = 20; end = None }

pub register_zero : (j : ℕ) → j < 8 → j ≢ 0 → slice_get the_mutator.registers j ≡ Some (Number 0)
register_zero zero l n = absurd (n refl)
register_zero (suc zero) l n = refl
register_zero (suc (suc zero)) l n = refl
register_zero (suc (suc (suc zero))) l n = refl
register_zero (suc (suc (suc (suc zero)))) l n = refl
register_zero (suc (suc (suc (suc (suc zero))))) l n = refl
register_zero (suc (suc (suc (suc (suc (suc zero)))))) l n = refl
register_zero (suc (suc (suc (suc (suc (suc (suc zero))))))) l n = refl
register_zero (suc (suc (suc (suc (suc (suc (suc (suc j)))))))) l n = absurd (omega arith)

registers : RegistersShow (value_of identity) worked_mutator.registers the_mutator
registers = record {
  eight = refl;
  registers_show = λ n j l. ⊎_elim
      (λ (e : j ≡ 0). rw e (pointer_value identity (pointer_word 256) 256 first_register))
      (λ (d : j ≢ 0). rw (ne_eqb j 0 d) (number_value identity 0 0 zero_register ∙ sym (register_zero j l d)))
      (cases_eq j 0);
}

pub shows : Shown (era_of worked_table) (memory_of worked_table) (team worked) worked_ghost worked_plain
unfolding put
shows = record {
  objects = objects;
  targets = nothing_to_show (era_of worked_table) (memory_of worked_table) worked_ghost worked_plain.heap (λ a st e. absurd (cc));
  board = board;
  as_many = refl;
  makers = refl;
  accounts = of_one (λ k q. Accounts worked_plain.heap k (workers.worker k).account q) the_mutator (record { counter = refl; printed = refl; executed = refl; end = refl; serial = refl });
  registers = of_one (λ k q. RegistersShow (value_of identity) (workers.worker k).registers q) the_mutator registers;
}

-- ---- the words

-- each entry fits its word
pub entries_fit : EachFits 4 worked_entries
entries_fit = (omega arith, (omega arith, (omega arith, (omega arith, (omega arith, (omega arith, (omega arith, (omega arith, (omega arith, (omega arith, (record { epoch_fits = omega arith; live_fits = omega arith; running_fits = omega arith; behind_fits = omega arith; left_fits = omega arith }, (tt, ((omega arith, record { front_fits = omega arith; low_fits = omega arith; owed_fits = omega arith }), ((omega arith, record { front_fits = omega arith; low_fits = omega arith; owed_fits = omega arith }), (tt, ((omega arith, omega arith, omega arith), ((omega arith, omega arith, omega arith), ((omega arith, omega arith), ((omega arith, (omega arith, omega arith)), ((omega arith, omega arith), ((omega arith, omega arith), ((omega arith, omega arith), ((omega arith, omega arith), (omega arith, (omega arith, tt)))))))))))))))))))))))))

-- the sizes stand behind the words of records, the gate, TRACED, the areas and the turn
pub has_sizes : HasSizes worked_entries
has_sizes = record { first = (4, (15, omega arith, refl)); second = (4, (16, omega arith, refl)) }

abbrev pub stands : Stands worked worked_plain
stands =
    let w = writes_tables 4 worked_entries entries_fit has_sizes in
    record {
      size = (omega arith, omega arith);
      formed = w.formed;
      ghost = worked_ghost;
      invariant = rw w.says keeps;
      shown = rw w.says shows;
    }
