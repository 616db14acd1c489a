-- A whole dump: it is read by its text, and a fault is the first line by which bytes differ from every dump.
use Rattle.std.proofs.Common.{◌≡◌, ℕ, suc, ◌+◌, ◌-◌, true, List, [], ◌∷◌, ◌++◌, length, Result, Ok, Err, refl, sym, ap, subst, ◌∙◌, arith}
use Rattle.std.proofs.lemmas.List.{append_assoc, append-nil}
use Rattle.std.specs.List.{flat_map, AllByRecursion}
use Rattle.heap_state.specs.Kept.{Kept}
use Rattle.space_map.specs.Table.{table_length}
use Rattle.dump_text.specs.Lines.{first_lines, IsFirstWrong}
use Rattle.dump_text.specs.Pieces.{cell_at, registers_at, kept_read_at, head_at}
use Rattle.dump_text.specs.Reading.{Reader, ◌>>=◌, or_line, many, nothing_at, dump_at}
use Rattle.dump_text.specs.Text.{Counts, Dumped, IsDump, IsWord, AreRegisters, AreKept, TellsOneDump, are_counts, counts_of, dump_text}
use Rattle.dump_text.proofs.Laid.{laid, laid_text, head_text, row_text, kept_text, table_text}
use Rattle.dump_text.proofs.Exact.{IsExact, IsWrong, one_line, many_lines, both, both_exact, same_front, ok_bind, err_bind, ok_is, err_is, ok_not_err, First, Second}
use Rattle.dump_text.proofs.FirstLine.{head_piece, head_ends}
use Rattle.dump_text.proofs.FirstLines.{front_and_rest, words_end}
use Rattle.dump_text.proofs.Pieces.{registers_piece, kept_piece, table_piece}

-- ---- its lines

head_lines : IsExact (λ line bytes. or_line line (head_at bytes)) head_text (λ c. are_counts c ≡ true) (λ _. 1)
head_lines = one_line head_piece (record { pages = 4; mutators = 1; workers = 1 }) refl (λ c rest n h. head_ends c rest n h)

registers_end : (words rest : List ℕ) (n : ℕ) → AreRegisters words → first_lines (suc n) (row_text words ++ rest) ≡ row_text words ++ first_lines n rest
registers_end [] rest n h = absurd (omega (arith, h.0))
registers_end (w ∷ words) rest n h = words_end n w words rest

no_registers : List ℕ
no_registers = 0 ∷ 0 ∷ 0 ∷ 0 ∷ 0 ∷ 0 ∷ 0 ∷ 0 ∷ []

zero_is_word : IsWord 0
zero_is_word = omega arith

registers_lines : IsExact (λ line bytes. or_line line (registers_at bytes)) row_text AreRegisters (λ _. 1)
unfolding no_registers
registers_lines =
    let z = zero_is_word in
    one_line registers_piece no_registers (refl, (z, (z, (z, (z, (z, (z, (z, (z, tt))))))))) registers_end

kept_lines : IsExact (λ line bytes. or_line line (kept_read_at bytes)) kept_text AreKept (λ _. 1)
kept_lines = one_line kept_piece (record { header = 0; place = 0 }) (zero_is_word, zero_is_word) (λ k rest n h. words_end n k.header (k.place ∷ []) rest)

table_lines : IsExact (λ line bytes. or_line line (cell_at 10 bytes)) table_text IsWord (λ _. 1)
table_lines = one_line table_piece 0 zero_is_word (λ w rest n h. words_end n w [] rest)

-- ---- its parts, one after another

abbrev Parts : Type 0
Parts = Counts × (List (List ℕ) × (List Kept × List ℕ))

abbrev parts_at : Reader Parts
parts_at = both (λ line bytes. or_line line (head_at bytes)) (λ _. 1) (λ c. both (many registers_at c.mutators) (λ _. c.mutators) (λ _. both (many kept_read_at c.workers) (λ _. c.workers) (λ _. many (cell_at 10) (table_length c.pages))))

abbrev parts_text : Parts → List ℕ
parts_text z = head_text z.0 ++ (flat_map row_text z.1.0 ++ (flat_map kept_text z.1.1.0 ++ flat_map table_text z.1.1.1))

abbrev PartsFit : Parts → Type 0
PartsFit z = (are_counts z.0 ≡ true) × (((length z.1.0 ≡ z.0.mutators) × AllByRecursion AreRegisters z.1.0) × (((length z.1.1.0 ≡ z.0.workers) × AllByRecursion AreKept z.1.1.0) × ((length z.1.1.1 ≡ table_length z.0.pages) × AllByRecursion IsWord z.1.1.1)))

abbrev parts_count : Parts → ℕ
parts_count z = 1 + (z.0.mutators + (z.0.workers + table_length z.0.pages))

parts_exact : IsExact parts_at parts_text PartsFit parts_count
parts_exact =
    both_exact head_lines (λ c. both_exact (many_lines registers_at registers_lines c.mutators) (λ _. both_exact (many_lines kept_read_at kept_lines c.workers) (λ _. many_lines (cell_at 10) table_lines (table_length c.pages))))

-- ---- a dump is its parts

abbrev dumped : Parts → Dumped
dumped z = record { pages = z.0.pages; registers = z.1.0; kept = z.1.1.0; words = z.1.1.1 }

abbrev parts_of : Dumped → Parts
parts_of d = (counts_of d, (d.registers, (d.kept, d.words)))

fits_of : (d : Dumped) → IsDump d → PartsFit (parts_of d)
fits_of d h = (h.counts, ((refl, h.registers), ((refl, h.kept), (h.length, h.words))))

same_counts : (z : Parts) → PartsFit z → counts_of (dumped z) ≡ z.0
same_counts z h = rw (h.1.0.0, h.1.1.0.0) refl

is_dump : (z : Parts) → PartsFit z → IsDump (dumped z)
is_dump z h = record { counts = ap are_counts (same_counts z h) ∙ h.0; registers = h.1.0.1; kept = h.1.1.0.1; words = h.1.1.1.1; length = h.1.1.1.0 }

same_text : (z : Parts) → PartsFit z → dump_text (dumped z) ≡ parts_text z
same_text z h = laid (dumped z) (is_dump z h) ∙ ap (λ (c : Counts). head_text c ++ (flat_map row_text z.1.0 ++ (flat_map kept_text z.1.1.0 ++ flat_map table_text z.1.1.1))) (same_counts z h)

-- ---- reading it line by line is reading its parts

once : {Y Z W : Type 0} (r : Result Y ℕ) (wrap : Y → W) (k : W → Result Z ℕ) → (r >>= λ y. k (wrap y)) ≡ ((r >>= λ y. Ok (wrap y)) >>= k)
once (Ok y) wrap k = refl
once (Err l) wrap k = refl

nest : {X Y Z W : Type 0} (r : Result X ℕ) (inner : X → Result Y ℕ) (wrap : X → Y → W) (next : X → Result Z ℕ) (k : W → Result Z ℕ) → ((x : X) → next x ≡ (inner x >>= λ y. k (wrap x y))) → (r >>= next) ≡ ((r >>= λ x. inner x >>= λ y. Ok (wrap x y)) >>= k)
nest (Ok x) inner wrap next k e = e x ∙ once (inner x) (wrap x) k
nest (Err l) inner wrap next k e = refl

abbrev total : Counts → ℕ
total c = 2 + c.mutators + c.workers + table_length c.pages

abbrev finish : Parts × List ℕ → Result Dumped ℕ
finish z = nothing_at (total z.0.0) z.1 >>= λ end. Ok (dumped z.0)

abbrev after_kept : Counts → List (List ℕ) → List Kept × List ℕ → Result Dumped ℕ
after_kept c r k = many (cell_at 10) (table_length c.pages) (2 + c.mutators + c.workers) k.1 >>= λ w. finish ((c, (r, (k.0, w.0))), w.1)

abbrev after_registers : Counts → List (List ℕ) × List ℕ → Result Dumped ℕ
after_registers c r = many kept_read_at c.workers (2 + c.mutators) r.1 >>= λ k. after_kept c r.0 k

abbrev after_head : Counts × List ℕ → Result Dumped ℕ
after_head h = many registers_at h.0.mutators 2 h.1 >>= λ r. after_registers h.0 r

abbrev last_parts : Counts → List Kept × List ℕ → Result (List ℕ × List ℕ) ℕ
last_parts c k = many (cell_at 10) (table_length c.pages) (2 + c.mutators + c.workers) k.1

abbrev later_parts : Counts → List (List ℕ) × List ℕ → Result ((List Kept × List ℕ) × List ℕ) ℕ
later_parts c r = both (many kept_read_at c.workers) (λ _. c.workers) (λ _. many (cell_at 10) (table_length c.pages)) (2 + c.mutators) r.1

abbrev other_parts : Counts × List ℕ → Result ((List (List ℕ) × (List Kept × List ℕ)) × List ℕ) ℕ
other_parts h = both (many registers_at h.0.mutators) (λ _. h.0.mutators) (λ _. both (many kept_read_at h.0.workers) (λ _. h.0.workers) (λ _. many (cell_at 10) (table_length h.0.pages))) 2 h.1

registers_nest : (c : Counts) (r : List (List ℕ) × List ℕ) → after_registers c r ≡ (later_parts c r >>= λ y. finish ((c, (r.0, y.0)), y.1))
registers_nest c r = nest (many kept_read_at c.workers (2 + c.mutators) r.1) (λ k. last_parts c k) (λ k w. ((k.0, w.0), w.1)) (λ k. after_kept c r.0 k) (λ y. finish ((c, (r.0, y.0)), y.1)) (λ k. refl)

head_nest : (h : Counts × List ℕ) → after_head h ≡ (other_parts h >>= λ y. finish ((h.0, y.0), y.1))
head_nest h = nest (many registers_at h.0.mutators 2 h.1) (λ r. later_parts h.0 r) (λ r y. ((r.0, y.0), y.1)) (λ r. after_registers h.0 r) (λ y. finish ((h.0, y.0), y.1)) (λ r. registers_nest h.0 r)

dump_is : (bytes : List ℕ) → dump_at bytes ≡ (parts_at 1 bytes >>= finish)
unfolding dump_at
dump_is bytes = nest (or_line 1 (head_at bytes)) (λ h. other_parts h) (λ h y. ((h.0, y.0), y.1)) (λ h. after_head h) finish (λ h. head_nest h)

-- ---- what is read, and what is read again

nothing_is : (line : ℕ) (bytes end : List ℕ) → nothing_at line bytes ≡ Ok end → bytes ≡ []
nothing_is line [] end e = refl
nothing_is line (b ∷ bytes) end e = absurd (ok_not_err end line (sym e))

pub dump_takes : (bytes : List ℕ) (d : Dumped) → dump_at bytes ≡ Ok d → IsDump d × (bytes ≡ dump_text d)
dump_takes bytes d e =
    let a = ok_bind (parts_at 1 bytes) finish d (sym (dump_is bytes) ∙ e) in
    let z = a.0.0 in
    let b = ok_bind (nothing_at (total z.0) a.0.1) (λ end. Ok (dumped z)) d a.2 in
    let t = parts_exact.takes 1 bytes z a.0.1 a.1 in
    let whole : bytes ≡ dump_text (dumped z) = t.0 ∙ ap (λ (r : List ℕ). parts_text z ++ r) (nothing_is (total z.0) a.0.1 b.0 b.1) ∙ append-nil (parts_text z) ∙ sym (same_text z t.1) in
    let P : Dumped → Type 0 = λ x. IsDump x × (bytes ≡ dump_text x) in
    subst P (ok_is (dumped z) d b.2) (is_dump z t.1, whole)

pub dump_again : (d : Dumped) → IsDump d → dump_at (dump_text d) ≡ Ok d
dump_again d h =
    let z = parts_of d in
    let read : parts_at 1 (parts_text z) ≡ Ok (z, []) = ap (parts_at 1) (sym (append-nil (parts_text z))) ∙ parts_exact.again 1 z [] (fits_of d h) in
    dump_is (dump_text d) ∙ ap (λ (r : Result (Parts × List ℕ) ℕ). r >>= finish) (ap (parts_at 1) (laid d h) ∙ read)

pub one_dump : TellsOneDump
one_dump a b is_a is_b same = ok_is a b (sym (dump_again a is_a) ∙ ap dump_at same ∙ dump_again b is_b)

-- ---- the first wrong line

nil_is_not_cons : {x : ℕ} {xs : List ℕ} → [] ≡ x ∷ xs → ⊥
nil_is_not_cons e = absurd cc

wrong_part : (bytes : List ℕ) (line place : ℕ) → line ≡ 1 + place → IsWrong parts_text PartsFit bytes place → IsFirstWrong bytes line
wrong_part bytes line place e w =
    let here : line - 1 ≡ place = omega (arith, e) in
    let next : line ≡ suc place = omega (arith, e) in
    record {
      begun = dumped w.begun;
      begun_dump = is_dump w.begun w.fits;
      before = ap (λ (n : ℕ). first_lines n bytes) here ∙ w.before [] ∙ ap (first_lines place) (append-nil (parts_text w.begun) ∙ sym (same_text w.begun w.fits)) ∙ ap (λ (n : ℕ). first_lines n (dump_text (dumped w.begun))) (sym here);
      wrong = λ d h same.
          w.wrong (parts_of d) [] (fits_of d h)
          (ap (λ (n : ℕ). first_lines n bytes) (sym next) ∙ same ∙ ap (λ (n : ℕ). first_lines n (dump_text d)) next ∙ ap (first_lines (suc place)) (laid d h ∙ sym (append-nil (laid_text d))));
    }

wrong_end : (bytes : List ℕ) (line : ℕ) (z : Parts) (b : ℕ) (rest : List ℕ) → line ≡ total z.0 → PartsFit z → bytes ≡ parts_text z ++ b ∷ rest → IsFirstWrong bytes line
wrong_end bytes line z b rest e h is =
    let here : line - 1 ≡ parts_count z + 0 = omega (arith, e) in
    let next : line ≡ parts_count z + 1 = omega (arith, e) in
    record {
      begun = dumped z;
      begun_dump = is_dump z h;
      before =
          ap (λ (n : ℕ). first_lines n bytes) here ∙ ap (first_lines (parts_count z + 0)) is ∙ parts_exact.ends z (b ∷ rest) 0 h
          ∙ sym (parts_exact.ends z [] 0 h) ∙ ap (first_lines (parts_count z + 0)) (append-nil (parts_text z) ∙ sym (same_text z h)) ∙ ap (λ (n : ℕ). first_lines n (dump_text (dumped z))) (sym here);
      wrong = λ d g same.
          let left : first_lines line bytes ≡ parts_text z ++ first_lines 1 (b ∷ rest) = ap (λ (n : ℕ). first_lines n bytes) next ∙ ap (first_lines (parts_count z + 1)) is ∙ parts_exact.ends z (b ∷ rest) 1 h in
          let f = front_and_rest line (dump_text d) in
          let split : parts_text (parts_of d) ++ [] ≡ parts_text z ++ (first_lines 1 (b ∷ rest) ++ f.0) =
          append-nil (laid_text d) ∙ sym (laid d g) ∙ f.1 ∙ ap (λ (xs : List ℕ). xs ++ f.0) (sym same ∙ left) ∙ append_assoc (parts_text z) (first_lines 1 (b ∷ rest)) f.0 in
          nil_is_not_cons (same_front parts_exact (parts_of d) z [] (first_lines 1 (b ∷ rest) ++ f.0) (fits_of d g) h split).1;
    }

finish_fault : (bytes : List ℕ) (line : ℕ) (z : Parts) (rest : List ℕ) → PartsFit z → bytes ≡ parts_text z ++ rest → finish (z, rest) ≡ Err line → IsFirstWrong bytes line
finish_fault bytes line z [] h is e = absurd (ok_not_err (dumped z) line e)
finish_fault bytes line z (b ∷ rest) h is e = wrong_end bytes line z b rest (sym (err_is {A = Dumped} (total z.0) line e)) h is

pub dump_fault : (bytes : List ℕ) (line : ℕ) → dump_at bytes ≡ Err line → IsFirstWrong bytes line
dump_fault bytes line e =
    elim (err_bind (parts_at 1 bytes) finish line (sym (dump_is bytes) ∙ e)) [
      | First f ↦ let w = parts_exact.fault 1 bytes line f in wrong_part bytes line w.0 w.1 w.2
      | Second z ok f ↦ let t = parts_exact.takes 1 bytes z.0 z.1 ok in finish_fault bytes line z.0 z.1 t.1 t.0 f
    ]
