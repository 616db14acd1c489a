-- What `sim --order --dump` prints of a program is a true output of it.
use Rattle.std.proofs.Common.{◌≡◌, ◌≢◌, ℕ, ◌+◌, ◌^◌, ◌<◌, Bool, true, false, List, [], ◌∷◌, ◌++◌, Option, Some, None, length, map, cond, refl, sym, ap, ap₂, subst, append_assoc, ◌∙◌, arith}
use Rattle.std.specs.Prelude.{All, codes, option_map, unwrap_or}
use Rattle.std.specs.List.{AllByRecursion, join_with_byte, onto_first}
use borrow.Author.Tests.{eqb-true}
use Rattle.std.proofs.lemmas.List.{length-append, length-map, map-append}
use Rattle.std.proofs.lemmas.List.Elements.{All-head, All-tail}
use Rattle.std.proofs.lemmas.List.Splits.{join_with_byte-slice_split, length-slice_split, slice_split-cons_no, slice_split-cons_yes}
use Rattle.mutator_asm.specs.declared.instr.Instr.{Instr}
use Rattle.mutator_asm.specs.declared.item.Item.{Item}
use Rattle.mutator_asm.specs.declared.mistake.Mistake.TheVariants.{UnknownInstr}
use Rattle.mutator_asm.specs.Line.{Line, line_of}
use Rattle.mutator_asm.specs.Text.{IsCleanUpTo, IsText, error_of}
use Rattle.mutator_asm.specs.Line as asm_lines
use Rattle.mutator_asm.specs.Instr.{instr_of}
use Rattle.mutator_asm.specs.Token.{label_of, tokens_of}
use Rattle.mutator_asm.specs.Theorems.{MeansWellFormed}
use Rattle.plain_state.specs.Consistent.{IsMutator}
use Rattle.plain_state.specs.State.{Heap, Mutator, Plain}
use Rattle.plain_heap.specs.declared.mark.Mark.{Mark}
use Rattle.plain_heap.specs.Consistent.{RunsStayConsistent}
use Rattle.plain_heap.specs.Order.{Story, plain, story}
use Rattle.plain_heap.specs.Print.{order_line, plain_seen, print_of, seen_in}
use Rattle.plain_heap.specs.Tracing.{TracingNeedsCells, has_weak, untraced}
use Rattle.plain_heap.proofs.States.SameMutators.{plain_count}
use Rattle.dump_text.specs.Said.{dump_said}
use Rattle.dump_text.specs.Text.{dump_text}
use Rattle.heap_state.specs.Meaning.Represents.{DumpRepresents}
use Rattle.gc_core.specs.Dumped.{dumped}
use Rattle.gc_core.specs.Run.{Ran}
use Rattle.heap_audit.specs.Texts.Lines.{IsPrinted, SeenFits}
use Rattle.heap_audit.specs.Texts.Part.{IsPart, Output, part_text}
use Rattle.concordance_text.specs.Words.{ends_line, lines_of}
use Rattle.concordance_text.proofs.Cuts.{slice_split-append}
use Rattle.ael_jobs.specs.declared.arguments.options.RunOptions.{RunOptions}
use Rattle.ael_jobs.specs.declared.arguments.options.SimOptions.{SimOptions}
use Rattle.ael_jobs.specs.declared.status.Status.{Status}
use Rattle.ael_jobs.specs.Calls.Audits.{OutputsAreTrue, TellsOrderAndDump, audit_input}
use Rattle.ael_jobs.specs.Runs.Checkpoint.{TellsLastIf}
use Rattle.ael_jobs.specs.Runs.Orders.{shown_order}
use Rattle.ael_jobs.specs.Runs.Run.{HasFitEnd, IsRun, Scheduled, flag_lines}
use Rattle.ael_jobs.specs.Runs.Told.{heap_lines, told_of}
use Rattle.ael_jobs.specs.Tasks.Audit.{HasTrueOutput}
use Rattle.ael_jobs.specs.Tasks.Division.{divide_lines, divided, output_line, preceded_by}
use Rattle.ael_jobs.proofs.Inputs.InputLines.{divides, passes}

-- ---- no line of a program is `.output`

unknown : (before after : List Line) → error_of before (line_of output_line) after ≡ Some UnknownInstr
unfolding error_of line_of asm_lines.named_of tokens_of label_of instr_of
unknown before after = refl

-- a line between others that have no error
other_line : (before after : List (List ℕ)) (line : List ℕ) (all : List Line) → IsCleanUpTo (length all) all → all ≡ map line_of (before ++ line ∷ after) → line ≢ output_line
other_line before after line all clean is same =
    let cut : all ≡ map line_of before ++ line_of line ∷ map line_of after = is ∙ map-append line_of before (line ∷ after) in
    let long : length all ≡ length (map line_of before) + length (line_of line ∷ map line_of after) = ap length cut ∙ length-append (map line_of before) (line_of line ∷ map line_of after) in
    let none = clean.no_error (map line_of before) (line_of line) (map line_of after) cut (omega (arith, long)) in
    let some : Some UnknownInstr ≡ None = sym (unknown (map line_of before) (map line_of after)) ∙ ap (λ l. error_of (map line_of before) (line_of l) (map line_of after)) (sym same) ∙ none in
    cc

other_lines : (before lines after : List (List ℕ)) (all : List Line) → IsCleanUpTo (length all) all → all ≡ map line_of (before ++ lines ++ after) → AllByRecursion (λ l. l ≢ output_line) lines
other_lines before [] after all clean is = tt
other_lines before (line ∷ lines) after all clean is = (
  other_line before (lines ++ after) line all clean (is ∙ ap (map line_of) (append_assoc before (line ∷ lines) after)),
  other_lines (before ++ line ∷ []) lines after all clean (is ∙ ap (λ ls. map line_of (ls ++ after)) (sym (append_assoc before (line ∷ []) lines))),
)

-- ---- the lines of two texts, one behind the other

split_behind : (front behind : List ℕ) → lines_of (front ++ 10 ∷ behind) ≡ lines_of front ++ lines_of behind
split_behind front behind = slice_split-append ends_line front 10 behind refl

-- ---- where they are divided

-- lines, each with its end
abbrev ended : List (List ℕ) → List ℕ
ended [] = []
ended (line ∷ lines) = (line ++ codes "\n") ++ ended lines

divides_behind : (lines more : List (List ℕ)) → AllByRecursion (λ l. l ≢ output_line) lines → divide_lines (lines ++ output_line ∷ more) ≡ Some (ended lines, join_with_byte 10 more)
divides_behind [] more other = divides output_line more refl
divides_behind (line ∷ lines) more other = passes line (lines ++ output_line ∷ more) other.0 ∙ ap (option_map (preceded_by (line ++ codes "\n"))) (divides_behind lines more other.1)

ended_onto : (x : ℕ) (ls : List (List ℕ)) → 0 < length ls → ended (onto_first x ls) ≡ x ∷ ended ls
ended_onto x [] some = absurd (omega (arith, some))
ended_onto x (l ∷ ls) some = refl

ended_is : (bytes : List ℕ) → ended (lines_of bytes) ≡ bytes ++ codes "\n"
ended_is [] = refl
ended_is (x ∷ bytes) = by (ended_is bytes) (ends_line x) refl
  where
    by : ended (lines_of bytes) ≡ bytes ++ codes "\n" → (b : Bool) → ends_line x ≡ b → ended (lines_of (x ∷ bytes)) ≡ x ∷ (bytes ++ codes "\n")
    by whole true is = ap ended (slice_split-cons_yes ends_line x bytes is) ∙ ap₂ (λ (y : ℕ) (ys : List ℕ). y ∷ ys) (sym (eqb-true x 10 is)) whole
    by whole false is =
        let some = length-slice_split ends_line bytes in
        ap ended (slice_split-cons_no ends_line x bytes is) ∙ ended_onto x (lines_of bytes) (omega (arith, some)) ∙ ap (λ ys. x ∷ ys) whole

module _ (lines output : List ℕ) (program : List (List Instr)) (items : List Item) (text : IsText (lines ++ codes "\n") program items) where
  abbrev input : List ℕ
  input = audit_input lines output

  others : AllByRecursion (λ l. l ≢ output_line) (lines_of lines)
  unfolding asm_lines.lines_of
  others = other_lines [] (lines_of lines) ([] ∷ []) (asm_lines.lines_of (lines ++ codes "\n")) text.clean (ap (map line_of) (split_behind lines []))

  input_lines : lines_of input ≡ lines_of lines ++ output_line ∷ lines_of output
  input_lines = ap lines_of (append_assoc (lines ++ codes "\n") (codes ".output\n") output ∙ append_assoc lines (codes "\n") (codes ".output\n" ++ output)) ∙ split_behind lines (codes ".output\n" ++ output) ∙ ap (λ ls. lines_of lines ++ ls) (split_behind output_line output)

  pub divided_so : divided input ≡ (lines ++ codes "\n", output)
  unfolding divided
  divided_so =
      ap (λ (o : Option (List ℕ × List ℕ)). unwrap_or o (input, []))
      (ap divide_lines input_lines ∙ divides_behind (lines_of lines) (lines_of output) others
      ∙ ap₂ (λ (t p : List ℕ). Some (t, p)) (ended_is lines) (join_with_byte-slice_split 10 output))

-- ---- what is seen of the mutators fits

all_printed : (ns : List ℕ) → All (λ n. n < 2 ^ 62) ns → AllByRecursion IsPrinted ns
all_printed [] all = tt
all_printed (n ∷ ns) all = (All-head (λ n. n < 2 ^ 62) n ns all, all_printed ns (All-tail (λ n. n < 2 ^ 62) n ns all))

all_fit : (heap : Heap) (ks : List Mutator) → All (IsMutator heap) ks → AllByRecursion HasFitEnd (seen_in ks) → AllByRecursion SeenFits (seen_in ks)
all_fit heap [] all ends = tt
all_fit heap (k ∷ ks) all ends =
    let is : IsMutator heap k = All-head (IsMutator heap) k ks all in
    ((is.few_printed, all_printed k.printed is.printed, ends.0), all_fit heap ks (All-tail (IsMutator heap) k ks all) ends.1)

-- ---- the order that is shown

shown_by : (b : Bool) (code : List (List Instr)) (turns : ℕ) (order : List Mark) → TracingNeedsCells → has_weak code ≡ b → story code turns (cond b order (untraced order)) ≡ story code turns order
shown_by true code turns order law is = refl
shown_by false code turns order law is = law code turns order is

same_plain : TracingNeedsCells → (code : List (List Instr)) (turns : ℕ) (order : List Mark) → plain code turns (shown_order code order) ≡ plain code turns order
same_plain law code turns order = ap (λ (s : Story). s.now) (shown_by (has_weak code) code turns order law refl)

-- ---- the output

-- without other flags these are the lines of the dump
lines_of_dump : (options : RunOptions) (ran : Ran) (checkpoint : List ℕ) → options.dump ≡ true → options.cycles ≡ false → checkpoint ≡ [] → heap_lines options (told_of ran.last) checkpoint ≡ dump_text (dumped ran.last)
lines_of_dump options ran checkpoint dump no_cycles none = rw (dump, no_cycles, none) refl

module _ (formed : MeansWellFormed) (consistent : RunsStayConsistent) (tracing : TracingNeedsCells) (options : SimOptions) (lines output : List ℕ) (program : List (List Instr)) (items : List Item) (status : Status)
    (tells : TellsOrderAndDump options) (text : IsText (lines ++ codes "\n") program items) (is : IsRun (Scheduled options) program items output status) where
  abbrev turns : ℕ
  turns = options.run.turns

  abbrev state : Plain
  state = plain program turns is.ran.order

  abbrev out : Output
  out = record { seen = plain_seen state; order = shown_order program is.ran.order; dump = dumped is.ran.last }

  many : length state.mutators ≡ length program
  many = plain_count program turns is.ran.order

  is_part : IsPart (length program) out
  is_part =
      let valid = (formed (lines ++ codes "\n") program items text).instrs in
      record {
        seen = (length-map state.mutators (λ k. record { printed = k.printed; end = k.end }) ∙ many, all_fit state.heap state.mutators (consistent program turns is.ran.order valid).mutators is.fits.ends);
        order = is.fits.marks tells.order;
        dump = record { is_dump = is.is_dump tells.dump; as_many = sym is.is.dump.as_many.0 ∙ many };
      }

  no_checkpoint : is.checkpoint ≡ []
  no_checkpoint = subst (λ b. TellsLastIf b program turns is.ran.order is.checkpoint) tells.no_checkpoint is.saved

  flags : flag_lines (Scheduled options) program is.ran is.checkpoint ≡ order_line out.order ++ dump_text out.dump
  flags = ap₂ (λ (xs ys : List ℕ). xs ++ ys) (ap (λ b. cond b (order_line out.order) []) tells.order) (lines_of_dump options.run is.ran is.checkpoint tells.dump tells.no_cycles no_checkpoint)

  printed : output ≡ part_text out
  printed = is.prints ∙ ap (λ ls. print_of state ++ ls) flags ∙ sym (append_assoc (print_of state) (order_line out.order) (dump_text out.dump))

  same : plain program turns out.order ≡ state
  same = same_plain tracing program turns is.ran.order

  parts : divided (audit_input lines output) ≡ (lines ++ codes "\n", output)
  parts = divided_so lines output program items text

  pub true_output : HasTrueOutput turns (audit_input lines output)
  true_output = record {
    has = record {
      has = record { program = program; items = items; text = subst (λ (p : List ℕ × List ℕ). IsText p.0 program items) (sym parts) text };
      output = out;
      is_part = is_part;
      printed = ap (λ (p : List ℕ × List ℕ). p.1) parts ∙ printed;
    };
    lines = ap print_of (sym same);
    dump = subst (λ p. DumpRepresents (dump_said out.dump) p) (sym same) is.is.dump;
  }

pub outputs_are_true : MeansWellFormed → RunsStayConsistent → TracingNeedsCells → OutputsAreTrue
outputs_are_true formed consistent tracing options lines output program items status tells text is = true_output formed consistent tracing options lines output program items status tells text is
