-- The configuration after a flip stands, and shows its plain state.
use Rattle.std.proofs.Common.{◌≡◌, ◌≢◌, ℕ, ◌+◌, ◌<◌, [], ◌∷◌, Some, None, true, zero, suc, refl, sym, ◌∙◌, arith, ⊎_elim, inr}
use Rattle.std.specs.Prelude.{slice_get}
use Rattle.std.proofs.lemmas.Bool.{cases_eq, ne_eqb}
use Rattle.plain_state.specs.declared.kind.Kind.TheVariants.{Raw}
use Rattle.heap_words.specs.Decoded.{PointerWord, NumberWord, decode}
use Rattle.heap_words.specs.Word.{header_word, pointer_word, tag_of}
use Rattle.plain_state.specs.declared.value.Value.TheVariants.{Number, Reference}
use Rattle.heap_state.specs.Configuration.{team, Stands}
use Rattle.heap_state.specs.Meaning.Denotes.{denoted, denoted_in}
use Rattle.heap_state.specs.Memory.Entries.{EachFits, HasSizes}
use Rattle.heap_state.specs.Memory.Era.{era_of, memory_of}
use Rattle.heap_state.specs.Examples.Flipped.{flipped, flipped_entries, flipped_plain, late_mutator}
use Rattle.heap_state.specs.Functions.{put}
use Rattle.heap_state.specs.Invariant.Parts.Cells.{Cells}
use Rattle.heap_state.specs.Invariant.Inductive.{Invariant, Knows}
use Rattle.heap_state.specs.Invariant.Parts.Knowledge.{Clean}
use Rattle.std.proofs.Common.{◌⊎◌, inl, inr, ◌≤◌}
use Rattle.heap_state.specs.Sums.{uncopied}
use Rattle.heap_state.specs.Theorems.Examples.{IsWorkedOutFlipped}
use Rattle.heap_state.specs.Theorems.Rows.{Written}
use Rattle.heap_state.specs.Theorems.Standing.{IsSound}
use Rattle.heap_state.specs.Meaning.Values.{value_of, ShowsAll, Accounts, RegistersShow, BoardShows, Shown}
use Rattle.heap_state.specs.Memory.Walk.{walk, old_walk_of}
use Rattle.heap_state.specs.Examples.Worked.{made}
use Rattle.heap_state.specs.Known.{Known}
use Rattle.heap_state.proofs.Flipped.FlippedInvariant.{flipped_table, flipped_era, flipped_ghost, workers, heap, page, size, none, identity, only, blank_word, zero_word, first_register, number_lands, pointer_lands, counted, staffed, laid, headed, copied, once, kept_by, room, raw_words, counts, shut, filling, tracing, aged, scanned, opened, landing, older, new_area, new_written, old_space, old_words, old_pages, crossing, stocks, numbered}
use Rattle.heap_state.proofs.Cells.NoCells.{no_cells, nothing_to_show}
use Rattle.heap_state.proofs.Workers.Idle.{idle_knows}
use Rattle.heap_state.proofs.Holds.Keeping.{holds}
use Rattle.heap_state.proofs.Puts.{none≢some, true_false}
use Rattle.heap_state.proofs.Represents.Representing.{represents}
use Rattle.heap_state.proofs.Worked.WorkedStands.{the_mutator, register_zero, pointer_value, number_value, of_one}
use Rattle.heap_state.proofs.Table.Writing.{writes_tables}

-- ---- the invariant

abbrev pub KnowsHere : ℕ → Known → Type 0
KnowsHere k w = Knows flipped_era flipped_table.gate 1 256 512 0 192 0 flipped_ghost page flipped_table.cross flipped_table.announced heap k w

clean : Clean flipped_era size none true 0 late_mutator.registers
clean = record {
  clean = λ j l n. absurd (let z = n refl in omega (arith, z));
  lands = λ j l. ⊎_elim
      (λ (e : j ≡ 0). rw e (pointer_lands (pointer_word 192) 192 first_register (omega arith)))
      (λ (d : j ≢ 0). rw (ne_eqb j 0 d) (number_lands 0 0 zero_word))
      (cases_eq j 0);
  old = λ t j b l m e. old j b e (cases_eq j 0);
}
  where
    old : (j b : ℕ) → decode (late_mutator.registers j) ≡ PointerWord b → (j ≡ 0) ⊎ (j ≢ 0) → (0 ≤ b) × (b < 256)
    old j b e (inl z) = let q : PointerWord 192 ≡ PointerWord b = sym first_register ∙ rw z at e in let s : 192 ≡ b = cc in (omega arith, omega (arith, s))
    old j b e (inr n) = absurd (let q : NumberWord 0 ≡ PointerWord b = sym zero_word ∙ rw (ne_eqb j 0 n) at e in cc)

mutator_knows : KnowsHere 0 late_mutator
mutator_knows = idle_knows late_mutator refl
    (record { past = omega arith; live = λ l. inr refl; running = λ r. true_false refl r; asking = λ f. true_false refl f; rest = λ r. refl; below = omega arith })
    (record { stays = λ e. true_false refl e; gone = λ e. true_false refl e })
    (λ e. absurd (cc))
    (λ q e. none≢some e)
    (λ m n. clean)
    (λ e. omega arith)
    refl

knows : (k : ℕ) → k < 1 → KnowsHere k (workers.worker k)
knows zero l = mutator_knows
knows (suc k) l = absurd (omega arith)

-- nobody has a cell to link or walks
idle : (k : ℕ) → k < 1 → ((workers.worker k).linking ≡ None) × ((workers.worker k).pass ≡ None)
idle zero l = (refl, refl)
idle (suc k) l = absurd (omega arith)

cells : Cells (era_of flipped_table) (memory_of flipped_table) (team flipped) flipped_ghost
cells = no_cells (era_of flipped_table) (memory_of flipped_table) (team flipped) flipped_ghost (omega arith, omega arith) refl refl idle (λ a st e. absurd (cc))

keeps : Invariant (era_of flipped_table) (memory_of flipped_table) (team flipped) flipped_ghost
unfolding put
keeps = assumption (counted, staffed, laid, headed, copied, once, kept_by, room, raw_words, counts, shut, filling, tracing, aged, scanned, opened, landing, older, new_area, new_written, old_space, old_words, old_pages, crossing, stocks, numbered, cells, knows)

-- ---- the plain state

pub objects : ShowsAll size none none none (λ a. Raw) identity heap flipped_plain.heap
unfolding put
objects = record {
  shows = λ a st w o. let p = only a st in rw (p.0) (
    _,
    refl,
    record {
      kind = refl;
      size = refl;
      fields = λ x l f. absurd (cc);
      numbers = λ x l f. ⊎_elim
          (λ (q : x ≡ 0). rw q refl)
          (λ (n : x ≢ 0). let q : x ≡ 1 = omega arith in rw q refl)
          (cases_eq x 0);
      count = tt;
    },
  );
}

pub board_zero : (x : ℕ) → x < 16 → slice_get flipped_plain.heap.board x ≡ Some (Number 0)
board_zero zero l = refl
board_zero (suc zero) l = refl
board_zero (suc (suc zero)) l = refl
board_zero (suc (suc (suc zero))) l = refl
board_zero (suc (suc (suc (suc zero)))) l = refl
board_zero (suc (suc (suc (suc (suc zero))))) l = refl
board_zero (suc (suc (suc (suc (suc (suc zero)))))) l = refl
board_zero (suc (suc (suc (suc (suc (suc (suc zero))))))) l = refl
board_zero (suc (suc (suc (suc (suc (suc (suc (suc zero)))))))) l = refl
board_zero (suc (suc (suc (suc (suc (suc (suc (suc (suc zero))))))))) l = refl
board_zero (suc (suc (suc (suc (suc (suc (suc (suc (suc (suc zero)))))))))) l = refl
board_zero (suc (suc (suc (suc (suc (suc (suc (suc (suc (suc (suc zero))))))))))) l = refl
board_zero (suc (suc (suc (suc (suc (suc (suc (suc (suc (suc (suc (suc zero)))))))))))) l = refl
board_zero (suc (suc (suc (suc (suc (suc (suc (suc (suc (suc (suc (suc (suc zero))))))))))))) l = refl
board_zero (suc (suc (suc (suc (suc (suc (suc (suc (suc (suc (suc (suc (suc (suc zero)))))))))))))) l = refl
board_zero (suc (suc (suc (suc (suc (suc (suc (suc (suc (suc (suc (suc (suc (suc (suc zero))))))))))))))) l = refl
board_zero (suc (suc (suc (suc (suc (suc (suc (suc (suc (suc (suc (suc (suc (suc (suc (suc x)))))))))))))))) l = absurd (omega arith)

board : BoardShows flipped_era (value_of identity) heap flipped_plain.heap
board = record {
  sixteen = refl;
  board = λ x l. rw (blank_word (512 + x) (omega arith)) (number_value identity 0 0 zero_word ∙ sym (board_zero x l));
}

pub registers : RegistersShow (value_of identity) late_mutator.registers the_mutator
registers = record {
  eight = refl;
  registers_show = λ n j l. ⊎_elim
      (λ (e : j ≡ 0). rw e (pointer_value identity (pointer_word 192) 192 first_register))
      (λ (d : j ≢ 0). rw (ne_eqb j 0 d) (number_value identity 0 0 zero_word ∙ sym (register_zero j l d)))
      (cases_eq j 0);
}

shows : Shown (era_of flipped_table) (memory_of flipped_table) (team flipped) flipped_ghost flipped_plain
unfolding put
shows = record {
  objects = objects;
  targets = nothing_to_show (era_of flipped_table) (memory_of flipped_table) flipped_ghost flipped_plain.heap (λ a st e. absurd (cc));
  board = board;
  as_many = refl;
  makers = refl;
  accounts = of_one (λ k q. Accounts flipped_plain.heap k (workers.worker k).account q) the_mutator (record { counter = refl; printed = refl; executed = refl; end = refl; serial = refl });
  registers = of_one (λ k q. RegistersShow (value_of identity) (workers.worker k).registers q) the_mutator registers;
}

-- ---- the words

entries_fit : EachFits 4 flipped_entries
entries_fit = (omega arith, (omega arith, (omega arith, (record { epoch_fits = omega arith; live_fits = omega arith; running_fits = omega arith; behind_fits = omega arith; left_fits = omega arith }, (tt, ((omega arith, record { front_fits = omega arith; low_fits = omega arith; owed_fits = omega arith }), ((omega arith, record { front_fits = omega arith; low_fits = omega arith; owed_fits = omega arith }), (tt, ((omega arith, omega arith, omega arith), ((omega arith, omega arith, omega arith), ((omega arith, omega arith), ((omega arith, omega arith), tt))))))))))))

has_sizes : HasSizes flipped_entries
has_sizes = record { first = (4, (8, omega arith, refl)); second = (4, (9, omega arith, refl)) }

table_is : Written 4 flipped_entries
table_is = writes_tables 4 flipped_entries entries_fit has_sizes

abbrev stands : Stands flipped flipped_plain
stands = record {
  size = (omega arith, omega arith);
  formed = table_is.formed;
  ghost = flipped_ghost;
  invariant = rw table_is.says keeps;
  shown = rw table_is.says shows;
}

sound : IsSound flipped flipped_plain
sound = record { holds = holds flipped stands.ghost stands.formed stands.invariant; represents = represents flipped stands.ghost stands.formed stands.invariant flipped_plain stands.shown }

old : old_walk_of flipped ≡ record { at = 192; size = 3 } ∷ []
unfolding put walk decode tag_of header_word
old = rw table_is.says refl

uncopied_words : uncopied flipped (old_walk_of flipped) ≡ 3
unfolding put decode tag_of header_word
uncopied_words = rw (old, table_is.says) refl

in_place : denoted flipped (pointer_word 192) ≡ Some (Reference (made 1))
unfolding put denoted_in decode tag_of pointer_word header_word
in_place = rw table_is.says refl

pub worked_out_flipped : IsWorkedOutFlipped
worked_out_flipped = record { stands = stands; sound = sound; late = refl; old = old; uncopied_words = uncopied_words; in_place = in_place }
