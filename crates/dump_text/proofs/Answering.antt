-- What a reading of all lines answers, and what one of the first line does.
use Rattle.std.proofs.Common.{◌≡◌, ℕ, List, ◌++◌, Option, Some, Result, Ok, Err, sym, ap, ◌∙◌}
use Rattle.std.specs.Prelude.{IfOk, IfErr, option_map}
use Rattle.dump_text.specs.declared.dump.Dump.{Dump}
use Rattle.dump_text.specs.declared.dump_error.DumpError.{DumpError}
use Rattle.dump_text.specs.declared.dump_error.DumpError.TheVariants as errors
use Rattle.dump_text.specs.Lines.{NamesFirstWrong}
use Rattle.dump_text.specs.Reading.{GivesReading, dump_at, dump_view}
use Rattle.dump_text.specs.Pieces.{head_at}
use Rattle.dump_text.specs.Text.{BeginsDump, Counts, Dumped, IsDump, dump_text}
use Rattle.dump_text.proofs.FirstLine.{head_piece}
use Rattle.dump_text.proofs.Laid.{head_is}
use Rattle.dump_text.proofs.WholeDump.{dump_takes, dump_again, dump_fault}

pub is_found : (bytes : List ℕ) (r : Result Dump DumpError) → GivesReading dump_view r (dump_at bytes) → IfOk r (λ d. IsDump (dump_view d) × (bytes ≡ dump_text (dump_view d)))
is_found bytes (Ok d) given = dump_takes bytes (dump_view d) given
is_found bytes (Err e) given = tt

pub is_only : (bytes : List ℕ) (r : Result Dump DumpError) → GivesReading dump_view r (dump_at bytes) → (d : Dumped) → IsDump d → bytes ≡ dump_text d → GivesReading dump_view r (Ok d)
is_only bytes (Ok x) given d h is = sym (dump_again d h) ∙ ap dump_at (sym is) ∙ given
is_only bytes (Err errors.NoMemory) given d h is = tt
is_only bytes (Err (errors.Bad line)) given d h is = sym (dump_again d h) ∙ ap dump_at (sym is) ∙ given

pub names_wrong : (bytes : List ℕ) (r : Result Dump DumpError) → GivesReading dump_view r (dump_at bytes) → IfErr r (λ e. NamesFirstWrong bytes e)
names_wrong bytes (Ok d) given = tt
names_wrong bytes (Err errors.NoMemory) given = tt
names_wrong bytes (Err (errors.Bad line)) given = dump_fault bytes line given

-- ---- the first line

pub head_begins : (bytes : List ℕ) (c : Counts) (rest : List ℕ) → head_at bytes ≡ Some (c, rest) → BeginsDump bytes c
head_begins bytes c rest is =
    let taken = head_piece.takes bytes c rest is in
    record { counts = taken.1; rest = rest; line = taken.0 ∙ ap (λ (line : List ℕ). line ++ rest) (sym (head_is c.pages c.mutators c.workers)) }

pub begun_is_read : (bytes : List ℕ) (c : Counts) (b : BeginsDump bytes c) → head_at bytes ≡ Some (c, b.rest)
begun_is_read bytes c b = ap head_at (b.line ∙ ap (λ (line : List ℕ). line ++ b.rest) (head_is c.pages c.mutators c.workers)) ∙ head_piece.again c b.rest b.counts

abbrev counts_read : Counts × List ℕ → Counts
counts_read x = x.0

pub only_begun : (bytes : List ℕ) (o : Option (Counts × List ℕ)) → o ≡ head_at bytes → (counts : Counts) → BeginsDump bytes counts → option_map counts_read o ≡ Some counts
only_begun bytes o is counts b = ap (option_map counts_read) (is ∙ begun_is_read bytes counts b)
