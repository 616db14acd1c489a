-- The listing of a program is a text of it.
use Rattle.std.proofs.Common.{◌≡◌, ℕ, ◌<◌, ◌^◌, List, ◌∷◌, ◌++◌, [], length, sym, ap, ◌∙◌, arith}
use Rattle.std.specs.List.{flat_map}
use Rattle.mutator_asm.specs.declared.instr.Instr.{Instr}
use Rattle.mutator_asm.specs.declared.item.Item.{Item}
use Rattle.mutator_asm.specs.Line.{Line, Nothing, unlabelled, lines_of}
use Rattle.mutator_asm.specs.Listing.{listing, schedule_lines, section_lines}
use Rattle.mutator_asm.specs.Program.{IsWellFormed}
use Rattle.mutator_asm.specs.Text.{IsFault, IsText}
use Rattle.mutator_asm.proofs.Listings.Lines.{listed}
use Rattle.mutator_asm.proofs.Listings.Clean.{listed_clean}
use Rattle.mutator_asm.proofs.Listings.Code.{listed_begun, listed_code, listed_schedule}
use Rattle.mutator_asm.proofs.Texts.OneReading.{no_fault_in}
use Rattle.mutator_asm.proofs.Listings.RereadLines.{program_listed}
use Rattle.mutator_asm.proofs.Listings.Split.{lines_split}

lines_listed : (code : List (List Instr)) (schedule : List Item) → IsWellFormed code schedule → lines_of (listing code schedule) ≡ listed code schedule
unfolding listing
lines_listed code schedule h =
    let lines = schedule_lines schedule ++ flat_map section_lines code in
    let listed_lines = program_listed code schedule h in
    lines_split lines listed_lines.tokens ∙ ap (λ (read : List Line). read ++ unlabelled Nothing ∷ []) listed_lines.says

-- a listing is short enough to be assembled
pub listing_short : (code : List (List Instr)) (schedule : List Item) → IsWellFormed code schedule → length (listing code schedule) < 2 ^ 31
unfolding listing
listing_short code schedule h = omega (arith, (program_listed code schedule h).short)

-- the listing of a well-formed program is a text of it
pub listing_is_text : (code : List (List Instr)) (schedule : List Item) → IsWellFormed code schedule → IsText (listing code schedule) code schedule
listing_is_text code schedule h =
    let lines = lines_listed code schedule h in
    record {
      clean = rw lines (listed_clean code schedule h);
      begun = rw lines (listed_begun code schedule h);
      code_is = rw lines (listed_code code schedule h);
      schedule_is = rw lines (listed_schedule code schedule);
    }

-- a text means one program
pub one_text : (bytes : List ℕ) (code other : List (List Instr)) (schedule another : List Item) → IsText bytes code schedule → IsText bytes other another → (code ≡ other) × (schedule ≡ another)
one_text bytes code other schedule another p q = (p.code_is ∙ sym q.code_is, p.schedule_is ∙ sym q.schedule_is)

-- a listing means one program
pub listing_reads_back : (code other : List (List Instr)) (schedule another : List Item) → IsWellFormed code schedule → IsText (listing code schedule) other another → (other ≡ code) × (another ≡ schedule)
listing_reads_back code other schedule another h text = one_text (listing code schedule) other code another schedule text (listing_is_text code schedule h)

-- a listing has no fault
pub listing_has_no_fault : (code : List (List Instr)) (schedule : List Item) (number line : ℕ) → IsWellFormed code schedule → IsFault (listing code schedule) number line → ⊥
listing_has_no_fault code schedule number line h fault =
    let text = listing_is_text code schedule h in
    no_fault_in (lines_of (listing code schedule)) number line text.clean text.begun fault
