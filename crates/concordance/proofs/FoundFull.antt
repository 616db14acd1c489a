-- A heap that a clerk finds full while it notes a word.
use Rattle.std.proofs.Common.{◌≡◌, ℕ, ◌+◌, ◌≤◌, List, [], ◌∷◌, ◌++◌, length, Result, Ok, Err, sym, ap, ◌∙◌, subst, arith}
use Rattle.std.specs.Prelude.{IfErr, IsErrAnd}
use Rattle.std.specs.List.{sum_by}
use Rattle.std.proofs.lemmas.List.{length-append, length-map}
use Rattle.std.proofs.lemmas.List.Sums.{sum_by-append}
use Rattle.plain_state.specs.declared.value.Value.{Value}
use Rattle.plain_state.specs.declared.value.Value.TheVariants.{Number}
use Rattle.plain_state.specs.Layout.{size_of}
use Rattle.plain_state.specs.State.{Record}
use Rattle.mutator_asm.specs.declared.instr.Instr.{Instr}
use Rattle.ael_threads.specs.declared.view.Plan.{Plan}
use Rattle.ael_threads.specs.Seats.{Seated, ShowsSeen, first_number}
use Rattle.concordance_text.specs.declared.letters.TheConstants.{MOST_LETTERS}
use Rattle.concordance_text.specs.Rows.{AreRowsOf, WordRow, need}
use Rattle.concordance_text.specs.Words.{Mention, mention}
use Rattle.concordance.specs.Desk.{desk_register, desk_size_made}
use Rattle.concordance.specs.Full.{FindsFullWithin, WasFullFor}
use Rattle.concordance.specs.Lone.{FindsFull, IsLone, KeepsSeat, desk_of}
use Rattle.concordance.specs.Notes.Desks.{HasNoted}
use Rattle.concordance.specs.Notes.Invariant.{words_noted}
use Rattle.concordance.specs.Notes.Places.{HasNone}
use Rattle.concordance.specs.Notes.Records.{Note, letters_record, line_record}
use Rattle.concordance.specs.declared.registers.TheConstants.{FIRST, LATEST}
use Rattle.concordance.proofs.Desks.Seats.{seat_stays, seat_then}
use Rattle.concordance.proofs.Notes.NeedWithNew.{need_of_noted, need_with_new}

-- an error that is passed on
pub passed_on : {T E : Type 0} (P : E → Type 0) (r : Result T E) (e : E) → IsErrAnd r (λ x. x ≡ e) → P e → IfErr r P
passed_on P (Ok x) e is p = tt
passed_on P (Err x) e is p = subst P (sym is) p

-- ---- in one call

-- at once
pub full_now : (a b : Seated) (i : Instr) (asked room : ℕ) → IsLone a → ShowsSeen a.worker a.knows → FindsFull a i asked room b → desk_size_made i ≤ MOST_LETTERS + 1 → FindsFullWithin a 0 0 asked room
full_now a b i asked room lone shows full short = record { here = a; then = b; instr = i; seat = seat_stays a; lone = lone; shows = shows; full = full; short = short; few_records = omega arith; few_words = omega arith }

-- after other calls
pub full_later : (a b : Seated) (records words more_records more_words asked room : ℕ) → KeepsSeat a b → length (desk_of b).records + records ≤ length (desk_of a).records + more_records
    → sum_by size_of (desk_of b).records + words ≤ sum_by size_of (desk_of a).records + more_words → FindsFullWithin b records words asked room → FindsFullWithin a more_records more_words asked room
full_later a b records words more_records more_words asked room same few_records few_words full =
    let r = full.few_records in
    let w = full.few_words in
    record {
      here = full.here;
      then = full.then;
      instr = full.instr;
      seat = seat_then a b full.here same full.seat;
      lone = full.lone;
      shows = full.shows;
      full = full.full;
      short = full.short;
      few_records = omega (arith, r, few_records);
      few_words = omega (arith, w, few_words);
    }

-- after calls that made no record
pub full_still : (a b : Seated) (records words asked room : ℕ) → KeepsSeat a b → (desk_of b).records ≡ (desk_of a).records → FindsFullWithin b records words asked room → FindsFullWithin a records words asked room
full_still a b records words asked room same is full =
    let count = ap (λ (rs : List Record). length rs) is in
    let sizes = ap (sum_by size_of) is in
    full_later a b records words records words asked room same (omega (arith, count)) (omega (arith, sizes)) full

-- ---- while the records of a word are made

-- so many more records, and what they fill
pub count_more : (a b : Seated) (more : List Record) → (desk_of b).records ≡ (desk_of a).records ++ more → length (desk_of b).records ≡ length (desk_of a).records + length more
count_more a b more is = ap (λ (rs : List Record). length rs) is ∙ length-append (desk_of a).records more

pub sizes_more : (a b : Seated) (more : List Record) → (desk_of b).records ≡ (desk_of a).records ++ more → sum_by size_of (desk_of b).records ≡ sum_by size_of (desk_of a).records + sum_by size_of more
sizes_more a b more is = ap (sum_by size_of) is ∙ sum_by-append size_of (desk_of a).records more

module _ (a : Seated) (word : List ℕ) (asked room : ℕ) where
  pub full_for_letters : FindsFullWithin a 0 0 asked room → FindsFullWithin a 2 (length word + 4) asked room
  full_for_letters full = full_later a a 0 0 2 (length word + 4) asked room (seat_stays a) (omega arith) (omega arith) full

  module _ (b : Seated) (same : KeepsSeat a b) (letters : (desk_of b).records ≡ (desk_of a).records ++ letters_record word ∷ []) where
    letters_size : sum_by size_of (letters_record word ∷ []) ≡ length word + 1
    letters_size = let n = length-map {A = ℕ} {B = Value} word Number in omega (arith, n)

    pub full_for_line : FindsFullWithin b 0 0 asked room → FindsFullWithin a 2 (length word + 4) asked room
    full_for_line full =
        let count = count_more a b (letters_record word ∷ []) letters in
        let sizes = sizes_more a b (letters_record word ∷ []) letters in
        let size = letters_size in
        full_later a b 0 0 2 (length word + 4) asked room same (omega (arith, count)) (omega (arith, sizes, size)) full

    pub full_for_entry : (c : Seated) (line : ℕ) → KeepsSeat b c → (desk_of c).records ≡ (desk_of b).records ++ line_record (Number line) (Number 0) ∷ [] → FindsFullWithin c 0 0 asked room → FindsFullWithin a 2 (length word + 4) asked room
    full_for_entry c line then lines full =
        let count_b = count_more a b (letters_record word ∷ []) letters in
        let sizes_b = sizes_more a b (letters_record word ∷ []) letters in
        let size = letters_size in
        let count_c = count_more b c (line_record (Number line) (Number 0) ∷ []) lines in
        let sizes_c = sizes_more b c (line_record (Number line) (Number 0) ∷ []) lines in
        full_later a c 0 0 2 (length word + 4) asked room (seat_then a b c same then) (omega (arith, count_b, count_c)) (omega (arith, sizes_b, sizes_c, size)) full

-- ---- for the words that are noted

-- before the search for the word, and after it
module _ (a b : Seated) (same : KeepsSeat a b) (is : (desk_of b).records ≡ (desk_of a).records) (word : List ℕ) (line asked room : ℕ) (notes : List Note) (noted : List Mention) (holds : HasNoted (desk_of a) notes noted) (more : List Mention) where
  full_for : (records words : ℕ) → FindsFullWithin b records words asked room → records ≤ 3 → words ≤ 74
      → ((rows : List WordRow) → AreRowsOf (noted ++ mention word line ∷ more) rows → words_noted notes + words ≤ need rows) → WasFullFor a.knows.plan (first_number a.knows.hands) (noted ++ mention word line ∷ more) asked room
  full_for records words full few_records few_words needed =
      let f = full_still a b records words asked room same is full in
      let mentions = length-append noted (mention word line ∷ more) in
      let count = holds.filled.few_records in
      let sizes = holds.filled.few_words in
      let filled = holds.filled.words in
      let r = f.few_records in
      let w = f.few_words in
      record {
        here = f.here;
        then = f.then;
        instr = f.instr;
        plan_is = f.seat.plan;
        number_is = f.seat.number;
        lone = f.lone;
        shows = f.shows;
        full = f.full;
        short = f.short;
        few_records = omega (arith, r, count, mentions, few_records);
        few_words = omega (arith, w, filled, sizes, mentions, few_words);
        needed = λ rows are. (let n = needed rows are in omega (arith, w, filled, n));
      }

  -- for a line of a word that has an entry
  pub full_at_entry : FindsFullWithin b 0 0 asked room → WasFullFor a.knows.plan (first_number a.knows.hands) (noted ++ mention word line ∷ more) asked room
  full_at_entry full = full_for 0 0 full (omega arith) (omega arith) (λ rows are.
      let n = need_of_noted (desk_of a).number (desk_of a).records (desk_register (desk_of a) FIRST) (desk_register (desk_of a) LATEST) notes noted holds (mention word line ∷ more) rows are in
      omega (arith, n))

  -- for a record of a word that has none
  pub full_at_new : length word ≤ MOST_LETTERS → HasNone notes word → FindsFullWithin b 2 (length word + 4) asked room → WasFullFor a.knows.plan (first_number a.knows.hands) (noted ++ mention word line ∷ more) asked room
  full_at_new short none full = full_for 2 (length word + 4) full (omega arith) (omega (arith, short)) (λ rows are.
      let n = need_with_new (desk_of a).number (desk_of a).records (desk_register (desk_of a) FIRST) (desk_register (desk_of a) LATEST) notes noted holds more rows word line short none are in
      omega (arith, n))

-- a clerk of the same number, on the same heap
pub full_from : (a b : Seated) (mentions : List Mention) (asked room : ℕ) → KeepsSeat a b → WasFullFor b.knows.plan (first_number b.knows.hands) mentions asked room → WasFullFor a.knows.plan (first_number a.knows.hands) mentions asked room
full_from a b mentions asked room same full =
    subst (λ (p : Plan). WasFullFor p (first_number a.knows.hands) mentions asked room) same.plan (subst (λ (n : ℕ). WasFullFor b.knows.plan n mentions asked room) same.number full)
