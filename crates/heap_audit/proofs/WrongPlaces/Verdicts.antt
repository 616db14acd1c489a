-- What an audit's verdict follows from.
use Rattle.std.proofs.Common.{◌≡◌, ℕ, ◌+◌, true, List, length, None, Result, Ok, Err, refl, sym, ap, subst, ◌∙◌, inl, inr, arith}
use Rattle.std.specs.List.{list_all}
use Rattle.crossing_map.specs.Crossing.{pairs_kept}
use Rattle.dump_text.specs.Lines.{first_lines}
use Rattle.dump_text.specs.Said.{dump_said, register_told}
use Rattle.dump_text.specs.Text.{Dumped}
use Rattle.heap_state.specs.Meaning.Dump.{Dump}
use Rattle.heap_state.specs.Meaning.Represents.{DumpRepresents}
use Rattle.heap_state.specs.Memory.Table.{table_of}
use Rattle.mutator_asm.specs.Program.{is_valid}
use Rattle.mutator_asm.specs.declared.instr.Instr.{Instr}
use Rattle.plain_heap.proofs.Alone.Owned.{found_all}
use Rattle.plain_heap.proofs.States.Reached.{plain-consistent}
use Rattle.plain_heap.proofs.States.SameMutators.{plain_count}
use Rattle.plain_heap.specs.Order.{plain}
use Rattle.plain_heap.specs.declared.mark.Mark.{Mark}
use Rattle.plain_state.specs.Consistent.{IsMutator}
use Rattle.plain_state.specs.State.{Plain}
use Rattle.space_map.specs.Spaces.{board_page, first_word}
use Rattle.space_map.specs.Table.{HeapWord, place_of}
use Rattle.heap_audit.specs.Texts.Part.{Output}
use Rattle.heap_audit.specs.Places.{AllSeen, HasForm, IsFirstUnseen}
use Rattle.heap_audit.specs.Verdict.{IsVerdict, PrintsLines, SaysYesIfTrue, TellsPlace, TellsVerdict, plain_of}
use Rattle.heap_audit.specs.declared.audit_error.AuditError.{AuditError}
use Rattle.heap_audit.specs.declared.audit_error.AuditError.TheVariants as errors
use Rattle.heap_audit.specs.declared.places.place.Place.{Place}
use Rattle.heap_audit.specs.declared.verdict.At.{At}
use Rattle.heap_audit.specs.declared.verdict.At.TheVariants.{Line, Register, Word}
use Rattle.heap_audit.specs.declared.verdict.Verdict.{Verdict}
use Rattle.heap_audit.specs.declared.verdict.Verdict.TheVariants.{Yes, No}
use Rattle.heap_audit.proofs.WrongPlaces.AllPlaces.{places_show_all}
use Rattle.heap_audit.proofs.Texts.WholePart.{one_output}

-- ---- the heap of a dump

-- what is told of a heap, by the parts of its dump
abbrev pub told_by : (pages : ℕ) (registers : List (List ℕ)) (kept : List (ℕ × ℕ)) (words : List ℕ) → Dump
told_by pages registers kept words = record { table = table_of pages words; kept = pairs_kept kept; mutators = length registers; registers = register_told registers }

-- it is what the dump says
pub told_is_said : (d : Dumped) (pages : ℕ) (registers : List (List ℕ)) (kept : List (ℕ × ℕ)) (words : List ℕ) → pages ≡ d.pages → registers ≡ d.registers → pairs_kept kept ≡ d.kept → words ≡ d.words
    → told_by pages registers kept words ≡ dump_said d
told_is_said d pages registers kept words pages_are registers_are kept_are words_are = cc

-- where all is seen the dump represents the plain state, so no place is told
pub tells_none : (told : Dump) (d : Dumped) (p : Plain) → told ≡ dump_said d → HasForm (dump_said d) p → AllSeen told p → TellsPlace d p None
tells_none told d p same form seen = (places_show_all (dump_said d) p form).0 (subst (λ (x : Dump). AllSeen x p) same seen)

-- ---- the plain state

-- the state that a program comes to has the form of a dump with as many mutators
pub has_form : (code : List (List Instr)) (turns : ℕ) (order : List Mark) → list_all (list_all is_valid) code ≡ true → (d : Dumped) → length d.registers ≡ length code → HasForm (dump_said d) (plain code turns order)
has_form code turns order valid d many =
    let s = plain code turns order in
    let is = plain-consistent code turns order valid in
    let count = plain_count code turns order in
    record {
      as_many = (count ∙ sym many, is.as_many ∙ count ∙ sym many);
      eight = λ m q found. (found_all (IsMutator s.heap) s.mutators m q is.mutators found).register_count;
      sixteen = is.heap.board_words;
    }

-- ---- where a word stands

pub word_stands : (n heap address : ℕ) → heap ≡ place_of n (HeapWord 0) → heap + address ≡ place_of n (HeapWord address)
unfolding place_of
word_stands n heap address is = omega (arith, is)

pub board_word_stands : (n heap page board x : ℕ) → heap ≡ place_of n (HeapWord 0) → page ≡ board_page n → board ≡ first_word page → heap + board + x ≡ place_of n (HeapWord (first_word (board_page n) + x))
unfolding place_of
board_word_stands n heap page board x is page_is board_is = omega (arith, is, page_is, board_is)

-- ---- true outputs

-- a dump that represents a plain state shows it at each place
never_unseen : (d : Dump) (p : Plain) (place : Place) → DumpRepresents d p → IsFirstUnseen d p place → ⊥
never_unseen d p place dump first =
    let form : HasForm d p = record { as_many = dump.as_many; eight = dump.eight; sixteen = dump.sixteen } in
    first.unseen ((places_show_all d p form).1 dump place first.is_place)

module _ (code : List (List Instr)) (turns : ℕ) (output : Output) (lines : PrintsLines code turns output) (dump : DumpRepresents (dump_said output.dump) (plain_of code turns output)) where
  -- a true output has no first line or place that is wrong
  never_no : (at : At) → IsVerdict code turns output (No at) → ⊥
  never_no (Line line) other = other.other (ap (first_lines line) lines)
  never_no (Register m j) other = never_unseen (dump_said output.dump) (plain_of code turns output) other.1.first dump other.1.unseen
  never_no (Word word) other = never_unseen (dump_said output.dump) (plain_of code turns output) other.1.first dump other.1.unseen

  is_yes : (verdict : Verdict) → IsVerdict code turns output verdict → verdict ≡ Yes
  is_yes Yes is = refl
  is_yes (No at) is = absurd (never_no at is)

-- what tells a verdict says yes of a true output
pub says_yes : (code : List (List Instr)) (turns : ℕ) (bytes : List ℕ) (said : Result Verdict AuditError) → TellsVerdict code turns bytes said → SaysYesIfTrue code turns bytes said
says_yes code turns bytes (Ok verdict) tells output is printed lines dump =
    let same = one_output (length code) tells.0 output tells.1 is (sym tells.2 ∙ printed) in
    inl (ap (λ (v : Verdict). Ok v) (is_yes code turns output lines dump verdict (subst (λ (o : Output). IsVerdict code turns o verdict) same tells.3)))
says_yes code turns bytes (Err errors.NoMemory) tells output is printed lines dump = inr refl
says_yes code turns bytes (Err (errors.Bad line)) tells output is printed lines dump = absurd (tells.wrong output is (ap (first_lines line) printed))
