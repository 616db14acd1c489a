-- The text of a dump laid out as it is read, from the front.
use Rattle.std.proofs.Common.{◌≡◌, ℕ, decimal, List, [], ◌∷◌, ◌++◌, length, refl, sym, ap, ◌∙◌, arith}
use Rattle.std.proofs.lemmas.List.{append_assoc}
use Rattle.std.proofs.lemmas.List.Concat.{flat_map-cons}
use Rattle.std.specs.Prelude.{codes}
use Rattle.std.specs.List.{flat_map, AllByRecursion}
use Rattle.heap_state.specs.Kept.{Kept}
use Rattle.dump_text.specs.Pieces.{behind}
use Rattle.dump_text.specs.Text.{Counts, Dumped, IsDump, AreRegisters, counts_of, dump_head, dump_text, kept_line, table_lines, word_text, words_line}

-- words, each with what stands behind it
abbrev pub row_text : List ℕ → List ℕ
row_text [] = []
row_text (word ∷ words) = word_text word ++ behind (length words) ∷ row_text words

abbrev pub head_text : Counts → List ℕ
head_text c = codes "dump " ++ (decimal c.pages ++ 32 ∷ (decimal c.mutators ++ 32 ∷ (decimal c.workers ++ 10 ∷ [])))

abbrev pub kept_text : Kept → List ℕ
kept_text k = row_text (k.header ∷ k.place ∷ [])

abbrev pub table_text : ℕ → List ℕ
table_text word = row_text (word ∷ [])

abbrev pub laid_text : Dumped → List ℕ
laid_text d = head_text (counts_of d) ++ (flat_map row_text d.registers ++ (flat_map kept_text d.kept ++ flat_map table_text d.words))

-- ---- it is the text

abbrev spaced : ℕ → List ℕ
spaced w = codes " " ++ word_text w

others : (words : List ℕ) → flat_map spaced words ++ codes "\n" ≡ behind (length words) ∷ row_text words
others [] = refl
others (w ∷ words) =
    ap (λ (xs : List ℕ). xs ++ codes "\n") (flat_map-cons spaced w words) ∙ append_assoc (spaced w) (flat_map spaced words) (codes "\n") ∙ ap (λ (xs : List ℕ). 32 ∷ (word_text w ++ xs)) (others words)

row_is : (word : ℕ) (words : List ℕ) → words_line (word ∷ words) ≡ row_text (word ∷ words)
row_is word words = append_assoc (word_text word) (flat_map spaced words) (codes "\n") ∙ ap (λ (xs : List ℕ). word_text word ++ xs) (others words)

registers_are : (rows : List (List ℕ)) → AllByRecursion AreRegisters rows → flat_map words_line rows ≡ flat_map row_text rows
registers_are [] h = refl
registers_are ([] ∷ rows) h = absurd (omega (arith, h.0.0))
registers_are ((w ∷ words) ∷ rows) h =
    flat_map-cons words_line (w ∷ words) rows ∙ ap (λ (xs : List ℕ). xs ++ flat_map words_line rows) (row_is w words) ∙ ap (λ (xs : List ℕ). row_text (w ∷ words) ++ xs) (registers_are rows h.1)
    ∙ sym (flat_map-cons row_text (w ∷ words) rows)

kept_are : (kept : List Kept) → flat_map kept_line kept ≡ flat_map kept_text kept
kept_are [] = refl
kept_are (k ∷ kept) =
    flat_map-cons kept_line k kept ∙ ap (λ (xs : List ℕ). xs ++ flat_map kept_line kept) (row_is k.header (k.place ∷ [])) ∙ ap (λ (xs : List ℕ). kept_text k ++ xs) (kept_are kept)
    ∙ sym (flat_map-cons kept_text k kept)

pub head_is : (p m w : ℕ) → dump_head p m w ≡ head_text (record { pages = p; mutators = m; workers = w })
head_is p m w = simp append_assoc refl

-- the text of a dump is the one that is laid out
pub laid : (d : Dumped) → IsDump d → dump_text d ≡ laid_text d
laid d h =
    let head = dump_head d.pages (length d.registers) (length d.kept) in
    let regroup : dump_text d ≡ head ++ (flat_map words_line d.registers ++ (flat_map kept_line d.kept ++ table_lines d.words)) =
    append_assoc (head ++ flat_map words_line d.registers) (flat_map kept_line d.kept) (table_lines d.words) ∙ append_assoc head (flat_map words_line d.registers) (flat_map kept_line d.kept ++ table_lines d.words) in
    let c = counts_of d in
    let table = flat_map table_text d.words in
    regroup ∙ ap (λ (xs : List ℕ). xs ++ (flat_map words_line d.registers ++ (flat_map kept_line d.kept ++ table))) (head_is d.pages (length d.registers) (length d.kept))
    ∙ ap (λ (xs : List ℕ). head_text c ++ (xs ++ (flat_map kept_line d.kept ++ table))) (registers_are d.registers h.registers)
    ∙ ap (λ (xs : List ℕ). head_text c ++ (flat_map row_text d.registers ++ (xs ++ table))) (kept_are d.kept)
