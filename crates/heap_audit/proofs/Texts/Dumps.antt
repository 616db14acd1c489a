-- The dump of a heap with so many mutators.
use Rattle.std.proofs.Common.{◌≡◌, ℕ, zero, suc, ◌-◌, ◌≤◌, true, List, [], ◌∷◌, ◌++◌, length, replicate, Option, Some, None, Result, Ok, Err, refl, sym, ap, ◌∙◌, arith}
use Rattle.std.proofs.lemmas.Bool.Decides.{nat_tests}
use Rattle.std.proofs.lemmas.List.{append_assoc, length-replicate}
use Rattle.std.specs.List.{flat_map, AllByRecursion}
use Rattle.std.specs.Prelude.{IfErr, IfOk}
use Rattle.space_map.specs.declared.spaces.TheConstants.{MOST_MUTATORS}
use Rattle.heap_state.specs.Kept.{nothing_kept}
use Rattle.space_map.specs.Table.{table_length}
use Rattle.dump_text.specs.Lines.{IsFirstWrong, NamesFirstWrong, first_lines}
use Rattle.dump_text.specs.Text.{AreKept, AreRegisters, BeginsDump, Counts, Dumped, IsDump, IsWord, are_counts, counts_of, dump_head, dump_text, kept_line, table_lines, words_line}
use Rattle.dump_text.specs.declared.dump_error.DumpError.{DumpError}
use Rattle.dump_text.specs.declared.dump_error.DumpError.TheVariants as dump_errors
use Rattle.dump_text.proofs.FirstLine.{head_ends}
use Rattle.dump_text.proofs.FirstLines.{front_and_rest}
use Rattle.dump_text.proofs.Laid.{head_is, head_text}
use Rattle.heap_audit.specs.Texts.FirstWrong.{DumpNamesWrong, IsFirstWrongOf}
use Rattle.heap_audit.specs.Texts.Part.{IsDumpOf}

-- ---- its first line

-- the text of a dump begins with its counts
begins : (bytes : List ℕ) (d : Dumped) → IsDump d → bytes ≡ dump_text d → BeginsDump bytes (counts_of d)
begins bytes d is e =
    let head = dump_head d.pages (length d.registers) (length d.kept) in
    let rows = flat_map words_line d.registers in
    let kept = flat_map kept_line d.kept in
    let table = table_lines d.words in
    record {
      counts = is.counts;
      rest = rows ++ (kept ++ table);
      line = e ∙ append_assoc (head ++ rows) kept table ∙ append_assoc head rows (kept ++ table);
    }

-- bytes whose first line is that of a dump begin with its counts
begins_so : (bytes : List ℕ) (k : ℕ) (d : Dumped) → IsDump d → first_lines (suc k) bytes ≡ first_lines (suc k) (dump_text d) → BeginsDump bytes (counts_of d)
begins_so bytes k d is e =
    let c = counts_of d in
    let b = begins (dump_text d) d is refl in
    let head = dump_head c.pages c.mutators c.workers in
    let same = head_is c.pages c.mutators c.workers in
    let lines : first_lines (suc k) (dump_text d) ≡ head_text c ++ first_lines k b.rest =
    ap (first_lines (suc k)) (b.line ∙ ap (λ (xs : List ℕ). xs ++ b.rest) same) ∙ head_ends c b.rest k is.counts in
    let f = front_and_rest (suc k) bytes in
    record {
      counts = is.counts;
      rest = first_lines k b.rest ++ f.0;
      line = f.1 ∙ ap (λ (xs : List ℕ). xs ++ f.0) (e ∙ lines ∙ ap (λ (xs : List ℕ). xs ++ first_lines k b.rest) (sym same)) ∙ append_assoc head (first_lines k b.rest) f.0;
    }

-- what the first line tells are the only counts with which the bytes begin
abbrev pub OnlyCounts : List ℕ → Option Counts → Type 0
OnlyCounts bytes told = (counts : Counts) → BeginsDump bytes counts → told ≡ Some counts

none_is_no_count : (c : Counts) → None ≡ Some c → ⊥
none_is_no_count c e = absurd cc

same_count : (a b : Counts) → Some a ≡ Some b → a.mutators ≡ b.mutators
same_count a b e = let is : a ≡ b = cc in ap (λ (c : Counts). c.mutators) is

-- ---- it is read back

pub no_head : (n : ℕ) (bytes : List ℕ) → OnlyCounts bytes None → (d : Dumped) → IsDumpOf n d → bytes ≡ dump_text d → ⊥
no_head n bytes only d is e = none_is_no_count (counts_of d) (only (counts_of d) (begins bytes d is.is_dump e))

-- the first line of a dump tells how many mutators it has
pub head_tells : (bytes : List ℕ) (head : Counts) → OnlyCounts bytes (Some head) → (d : Dumped) → IsDump d → bytes ≡ dump_text d → head.mutators ≡ length d.registers
head_tells bytes head only d is e = same_count head (counts_of d) (only (counts_of d) (begins bytes d is e))

-- a dump that was read has as many mutators as the first line tells
pub found_so : {X : Type 0} (n : ℕ) (bytes : List ℕ) (head : Counts) → OnlyCounts bytes (Some head) → head.mutators ≡ n → (v : X → Dumped) (r : Result X DumpError) → IfOk r (λ d. IsDump (v d) × (bytes ≡ dump_text (v d)))
    → IfOk r (λ d. IsDumpOf n (v d) × (bytes ≡ dump_text (v d)))
found_so n bytes head only number v (Ok d) h = (record { is_dump = h.0; as_many = sym (head_tells bytes head only (v d) h.0 h.1) ∙ number }, h.1)
found_so n bytes head only number v (Err e) h = tt

-- ---- some dump

zero_word : IsWord 0
zero_word = omega arith

no_registers : List ℕ
no_registers = 0 ∷ 0 ∷ 0 ∷ 0 ∷ 0 ∷ 0 ∷ 0 ∷ 0 ∷ []

are_registers : AreRegisters no_registers
unfolding no_registers
are_registers = let z = zero_word in (refl, (z, (z, (z, (z, (z, (z, (z, (z, tt)))))))))

all_same : {A : Type 0} (P : A → Type 0) (x : A) (n : ℕ) → P x → AllByRecursion P (replicate n x)
all_same P x zero h = tt
all_same P x (suc n) h = (h, all_same P x n h)

zeros : ℕ → List ℕ
zeros zero = []
zeros (suc n) = 0 ∷ zeros n

zeros_are : (n : ℕ) → (length (zeros n) ≡ n) × AllByRecursion IsWord (zeros n)
unfolding zeros
zeros_are zero = (refl, tt)
zeros_are (suc n) = let h = zeros_are n in (ap suc h.0, (zero_word, h.1))

pub some_dump : ℕ → Dumped
some_dump n = record { pages = 4; registers = replicate n no_registers; kept = replicate n nothing_kept; words = zeros (table_length 4) }

small_counts : (n : ℕ) → 1 ≤ n → n ≤ MOST_MUTATORS → are_counts (record { pages = 4; mutators = n; workers = n }) ≡ true
small_counts n some few = grind (arith, nat_tests)

some_counts : (n : ℕ) → counts_of (some_dump n) ≡ record { pages = 4; mutators = n; workers = n }
unfolding some_dump
some_counts n = rw (length-replicate n no_registers, length-replicate n nothing_kept) refl

pub some_is_dump : (n : ℕ) → 1 ≤ n → n ≤ MOST_MUTATORS → IsDumpOf n (some_dump n)
unfolding some_dump
some_is_dump n some few = record {
  is_dump = record {
    counts = ap are_counts (some_counts n) ∙ small_counts n some few;
    registers = all_same AreRegisters no_registers n are_registers;
    kept = all_same AreKept nothing_kept n (zero_word, zero_word);
    words = (zeros_are (table_length 4)).1;
    length = (zeros_are (table_length 4)).0;
  };
  as_many = length-replicate n no_registers;
}

-- ---- the first wrong line

module _ (n : ℕ) (some : 1 ≤ n) (few : n ≤ MOST_MUTATORS) (bytes : List ℕ) where
  -- a first line that is no dump's
  pub first_is_wrong : ((d : Dumped) → IsDumpOf n d → BeginsDump bytes (counts_of d) → ⊥) → IsFirstWrongOf dump_text (IsDumpOf n) bytes 1
  first_is_wrong none = record {
    begun = some_dump n;
    fits = some_is_dump n some few;
    before = refl;
    wrong = λ d is same. none d is (begins_so bytes 0 d is.is_dump same);
  }

  pub head_is_wrong : OnlyCounts bytes None → IsFirstWrongOf dump_text (IsDumpOf n) bytes 1
  head_is_wrong only = first_is_wrong (λ d is b. none_is_no_count (counts_of d) (only (counts_of d) b))

  pub number_is_wrong : (head : Counts) → OnlyCounts bytes (Some head) → (head.mutators ≡ n → ⊥) → IsFirstWrongOf dump_text (IsDumpOf n) bytes 1
  number_is_wrong head only other = first_is_wrong (λ d is b. other (same_count head (counts_of d) (only (counts_of d) b) ∙ is.as_many))

  module _ (head : Counts) (only : OnlyCounts bytes (Some head)) (number : head.mutators ≡ n) where
    line_is_wrong : (line : ℕ) → IsFirstWrong bytes line → IsFirstWrongOf dump_text (IsDumpOf n) bytes line
    line_is_wrong zero w = absurd (w.wrong w.begun w.begun_dump refl)
    line_is_wrong (suc zero) w = record {
      begun = some_dump n;
      fits = some_is_dump n some few;
      before = refl;
      wrong = λ d is same. w.wrong d is.is_dump same;
    }
    line_is_wrong (suc (suc k)) w =
        let here : suc (suc k) - 1 ≡ suc k = omega arith in
        let same : first_lines (suc k) bytes ≡ first_lines (suc k) (dump_text w.begun) = ap (λ (j : ℕ). first_lines j bytes) (sym here) ∙ w.before ∙ ap (λ (j : ℕ). first_lines j (dump_text w.begun)) here in
        record {
          begun = w.begun;
          fits = record { is_dump = w.begun_dump; as_many = sym (same_count head (counts_of w.begun) (only (counts_of w.begun) (begins_so bytes k w.begun w.begun_dump same))) ∙ number };
          before = w.before;
          wrong = λ d is same. w.wrong d is.is_dump same;
        }

    names_wrong : (why : DumpError) → NamesFirstWrong bytes why → DumpNamesWrong dump_text (IsDumpOf n) bytes why
    names_wrong dump_errors.NoMemory w = tt
    names_wrong (dump_errors.Bad line) w = line_is_wrong line w

    pub fails_wrong : {X : Type 0} (r : Result X DumpError) → IfErr r (λ e. NamesFirstWrong bytes e) → IfErr r (λ e. DumpNamesWrong dump_text (IsDumpOf n) bytes e)
    fails_wrong (Ok d) w = tt
    fails_wrong (Err e) w = names_wrong e w
