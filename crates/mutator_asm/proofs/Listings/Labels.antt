-- The labels of a section's listed lines: each stands once, before the instruction of its number.
use Rattle.std.proofs.Common.{◌≡◌, ℕ, zero, suc, ◌+◌, ◌-◌, ◌<◌, ◌≤◌, inl, inr, Bool, true, false, cond, ◌&&◌, eqb, List, [], ◌∷◌, ◌++◌, length, get_or, take, Some, None, refl, sym, ap, ◌∙◌, arith}
use Rattle.std.specs.Prelude.{count_by}
use Rattle.std.specs.Fmt.{decimal}
use Rattle.std.specs.List.{All, before_first, list_all, position_or_len}
use Rattle.std.specs.Str.{bytes_eq}
use Rattle.std.proofs.Math.Seq.{get_or-append_seam}
use Rattle.std.proofs.lemmas.Bool.{eq-eqb, ne_eqb, and_from, and_right, cases_lt, cond-true, cond_both}
use Rattle.std.proofs.lemmas.Bool.Decides.{same_from_decides, nat_tests, Decides-like, Decides-eqb}
use Rattle.std.proofs.lemmas.Fmt.{decimal_injective}
use Rattle.std.proofs.lemmas.List.{get_or_append_left, get_or-append_right, length-append, length-take-le, take-append-le}
use Rattle.std.proofs.lemmas.List.Elements.{All-take}
use Rattle.std.proofs.lemmas.List.Folds.{list_any_at, list_any_none, Any-from_list_any}
use Rattle.std.proofs.lemmas.List.Sums.{AllPass-from_list_all, position_or_len_is}
use Rattle.std.proofs.lemmas.Slice.Eq.{bytes_eq-Decides}
use Rattle.plain_state.specs.declared.sizes.TheConstants.{MOST_INSTRS}
use Rattle.mutator_asm.specs.declared.instr.Instr.{Instr}
use Rattle.mutator_asm.specs.declared.instr.Instr.TheVariants.{Halt}
use Rattle.mutator_asm.specs.Line.{Line}
use Rattle.mutator_asm.specs.Listing.{leads_to, is_target_in, label_name}
use Rattle.mutator_asm.specs.Program.{leads_within, is_closed}
use Rattle.mutator_asm.specs.Text.{counts, has_instr, is_label, is_again, is_lost, defines, has_label, target_of}
use Rattle.mutator_asm.proofs.Listings.Lines.{instr_word, label_read, label_line, instrs_read, end_read, body_read, instrs_words, body_words}
use Rattle.mutator_asm.proofs.Lists.Tests.{count_by_all}

-- ---- one label

-- labels of two numbers differ
names_apart : (j k : ℕ) → j ≤ MOST_INSTRS → k ≤ MOST_INSTRS → bytes_eq (label_name j) (label_name k) ≡ eqb j k
names_apart j k few less =
    let same : label_name j ≡ label_name k → j ≡ k = λ e. let digits : decimal j ≡ decimal k = cc in decimal_injective j k (omega arith) (omega arith) digits in
    same_from_decides (bytes_eq (label_name j) (label_name k)) (eqb j k) (Decides-like (bytes_eq (label_name j) (label_name k)) same (ap label_name) (bytes_eq-Decides (label_name j) (label_name k))) (Decides-eqb j k)

label_if : (b : Bool) (label name : List ℕ) → is_label name (cond b (Some label) None) ≡ (b && bytes_eq label name)
label_if true label name = refl
label_if false label name = refl

label_is : (section : List Instr) (j k : ℕ) → j ≤ MOST_INSTRS → k ≤ MOST_INSTRS → is_label (label_name k) (label_read section j) ≡ (is_target_in section j && eqb j k)
label_is section j k few less = label_if (is_target_in section j) (label_name j) (label_name k) ∙ ap (λ b. is_target_in section j && b) (names_apart j k few less)

label_own : (section : List Instr) (k : ℕ) → k ≤ MOST_INSTRS → is_target_in section k ≡ true → is_label (label_name k) (label_read section k) ≡ true
label_own section k few target = label_is section k k few few ∙ and_from (is_target_in section k) (eqb k k) target (eq-eqb k k refl)

-- the label of an earlier number is another
label_other : (section : List Instr) (j k : ℕ) → j < k → k ≤ MOST_INSTRS → is_label (label_name k) (label_read section j) ≡ false
label_other section j k less few = label_is section j k (omega arith) few ∙ and_right (is_target_in section j) (eqb j k) (ne_eqb j k (λ e. omega arith))

-- ---- the labels of lines

length_instrs : (section : List Instr) (k : ℕ) (instrs : List Instr) → length (instrs_read section k instrs) ≡ length instrs
length_instrs section k [] = refl
length_instrs section k (instr ∷ instrs) = ap suc (length_instrs section (k + 1) instrs)

-- at most one line more than instructions
length_body : (section : List Instr) → length (body_read section) ≤ length section + 1
length_body section =
    let end : length (end_read section) ≤ 1 = cond_both (is_target_in section (length section)) (label_line (length section) ∷ []) [] (λ ls. length ls ≤ 1) (λ e. omega arith) (λ e. omega arith) in
    omega (arith, length-append (instrs_read section 0 section) (end_read section), length_instrs section 0 section)

instrs_label : (section : List Instr) (k i n : ℕ) (instrs : List Instr) (d : Line) → n ≡ k + i → i < length instrs → (get_or (instrs_read section k instrs) i d).label ≡ label_read section n
instrs_label section k i n [] d e lt = absurd (omega arith)
instrs_label section k zero n (instr ∷ instrs) d e lt = ap (label_read section) (omega arith)
instrs_label section k (suc i) n (instr ∷ instrs) d e lt = instrs_label section (k + 1) i n instrs d (omega arith) (omega arith)

end_label : (b : Bool) (section : List Instr) (k i n : ℕ) (d : Line) → is_target_in section k ≡ b → n ≡ k + i → i < length (cond b (label_line k ∷ []) []) → (get_or (cond b (label_line k ∷ []) []) i d).label ≡ label_read section n
end_label true section k zero n d e is lt = let same : n ≡ k = omega arith in rw (same, e) refl
end_label true section k (suc i) n d e is lt = absurd (omega arith)
end_label false section k i n d e is lt = absurd (omega arith)

-- each line has the label of its place
body_label : (section : List Instr) (i : ℕ) (d : Line) → i < length (body_read section) → (get_or (body_read section) i d).label ≡ label_read section i
body_label section i d lt =
    let instrs = instrs_read section 0 section in
    let many = length_instrs section 0 section in
    elim (cases_lt i (length section)) [
      | inl inside ↦ ap (λ (l : Line). l.label) (get_or_append_left instrs (end_read section) d i (omega arith)) ∙ instrs_label section 0 i i section d (omega arith) inside
      | inr behind ↦ ap (λ (l : Line). l.label) (get_or-append_right instrs (end_read section) (length section) i d many behind) ∙ end_label (is_target_in section (length section)) section (length section) (i - length section) i d refl (omega arith) (omega (arith, length-append instrs (end_read section)))
    ]

-- which is not that of a later place
body_other : (section : List Instr) (i k : ℕ) (d : Line) → i < k → k ≤ MOST_INSTRS → i < length (body_read section) → defines (label_name k) (get_or (body_read section) i d) ≡ false
body_other section i k d less few lt = ap (is_label (label_name k)) (body_label section i d lt) ∙ label_other section i k less few

-- no label of a section stands there twice
pub not_again : (section : List Instr) (part rest : List Line) (line : Line) → body_read section ≡ part ++ line ∷ rest → length section ≤ MOST_INSTRS → is_again (has_label part) line.label ≡ false
not_again section part rest line cut few =
    let n = length part in
    let test = defines (label_name n) in
    let inside : n < length (body_read section) = omega (arith, ap length cut, length-append part (line ∷ rest)) in
    let short = length_body section in
    let here : get_or (body_read section) n line ≡ line = ap (λ (ls : List Line). get_or ls n line) cut ∙ get_or-append_seam part line rest line in
    let before : (i : ℕ) (l : Line) → i < n → get_or (body_read section) i l ≡ get_or part i l = λ i l lt. ap (λ (ls : List Line). get_or ls i l) cut ∙ get_or_append_left part (line ∷ rest) l i lt in
    let none : has_label part (label_name n) ≡ false = list_any_none test part (λ i l lt. ap test (sym (before i l lt)) ∙ body_other section i n l lt (omega arith) (omega arith)) in
    ap (λ (l : Line). is_again (has_label part) l.label) (sym here) ∙ ap (is_again (has_label part)) (body_label section n line inside)
    ∙ cond_both (is_target_in section n) (Some (label_name n)) None (λ o. is_again (has_label part) o ≡ false) (λ e. none) (λ e. refl)

-- ---- where a label stands

-- the label of a name stands in the lines, behind i instructions
record StandsBehind (lines : List Line) (name : List ℕ) (i : ℕ) : Type 0 where
  there : has_label lines name ≡ true
  behind : count_by counts (before_first (defines name) lines) ≡ i

instr_counts : (instr : Instr) → has_instr (instr_word instr) ≡ true
instr_counts Halt = refl
instr_counts instr = refl

-- there is a line for the label to which a jump leads
target_inside : (section : List Instr) (t : ℕ) → is_target_in section t ≡ true → t ≤ length section → t < length (body_read section)
target_inside section t target le =
    let behind : t ≡ length section → end_read section ≡ label_line (length section) ∷ [] = λ e. cond-true (is_target_in section (length section)) (label_line (length section) ∷ []) [] (ap (is_target_in section) (sym e) ∙ target) in
    let whole = length-append (instrs_read section 0 section) (end_read section) in
    let many = length_instrs section 0 section in
    elim (cases_lt t (length section)) [ inl lt ↦ omega arith | inr ge ↦ omega (arith, ap length (behind (omega arith))) ]

leads_le : (n t : ℕ) (instr : Instr) → leads_within n instr ≡ true → leads_to t instr ≡ true → t ≤ n
leads_le n t Halt h e = absurd cc
leads_le n t instr h e = grind (arith, nat_tests)

target_within : (n t : ℕ) (instrs : List Instr) → list_all (leads_within n) instrs ≡ true → is_target_in instrs t ≡ true → t ≤ n
target_within n t instrs h e =
    let found = Any-from_list_any (leads_to t) instrs e in
    leads_le n t found.1 (rw found.3 at (AllPass-from_list_all (leads_within n) instrs h found.0 found.1 found.2)) found.4

-- the label to which a jump of a closed section leads stands before the instruction of its number
target_stands : (section : List Instr) (t : ℕ) (more : List Line) → is_closed section ≡ true → length section ≤ MOST_INSTRS → is_target_in section t ≡ true → StandsBehind (body_read section ++ more) (label_name t) t
target_stands section t more closed few target =
    let body = body_read section in
    let instrs = instrs_read section 0 section in
    let test = defines (label_name t) in
    let d = label_line t in
    let le = target_within (length section) t section closed target in
    let inside = target_inside section t target le in
    let whole = length-append body more in
    let many = length_instrs section 0 section in
    let here : test (get_or (body ++ more) t d) ≡ true = ap test (get_or_append_left body more d t inside) ∙ ap (is_label (label_name t)) (body_label section t d inside) ∙ label_own section t (omega arith) target in
    let earlier : (i : ℕ) → i < t → test (get_or (body ++ more) i d) ≡ false = λ i lt. ap test (get_or_append_left body more d i (omega arith)) ∙ body_other section i t d lt (omega arith) (omega arith) in
    let place : position_or_len test (body ++ more) ≡ t = position_or_len_is test (body ++ more) t d (omega arith) earlier (λ lt. here) in
    let before : before_first test (body ++ more) ≡ take t instrs = ap (λ (n : ℕ). take n (body ++ more)) place ∙ take-append-le t body more (omega arith) ∙ take-append-le t instrs (end_read section) (omega arith) in
    let all = instrs_words (λ w. has_instr w ≡ true) section 0 section (λ k i lt. instr_counts _) in
    record {
      there = list_any_at test (body ++ more) t d (omega arith) here;
      behind = ap (count_by counts) before ∙ count_by_all counts (take t instrs) (All-take (λ l. counts l ≡ true) t instrs all) ∙ length-take-le t instrs (omega arith);
    }

pub target_is : (section : List Instr) (t : ℕ) (more : List Line) → is_closed section ≡ true → length section ≤ MOST_INSTRS → is_target_in section t ≡ true → target_of (body_read section ++ more) (label_name t) ≡ t
target_is section t more closed few target =
    let stands = target_stands section t more closed few target in
    cond-true (has_label (body_read section ++ more) (label_name t)) _ 0 stands.there ∙ stands.behind

-- ---- the labels of jumps

known_word : (known : List ℕ → Bool) (instr : Instr) → ((t : ℕ) → leads_to t instr ≡ true → known (label_name t) ≡ true) → is_lost known (instr_word instr) ≡ false
known_word known Halt h = refl
known_word known instr h = grind (arith, nat_tests, h)

-- a line is no jump to a label that these lines don't have
abbrev pub IsFound : List Line → Line → Type 0
IsFound lines line = is_lost (has_label lines) line.word ≡ false

-- each jump of a closed section leads to a label of it
pub body_found : (section : List Instr) (more : List Line) → is_closed section ≡ true → length section ≤ MOST_INSTRS → All (IsFound (body_read section ++ more)) (body_read section)
body_found section more closed few =
    let known = has_label (body_read section ++ more) in
    body_words (λ word. is_lost known word ≡ false) section refl (λ k instr lt. known_word known _ (λ t e. (target_stands section t more closed few (list_any_at (leads_to t) section k instr lt e)).there))
