-- The pieces of a line: each is read by its text, and what is read has that text.
use Rattle.std.proofs.Common.{◌≡◌, ℕ, zero, suc, eqb, List, [], ◌∷◌, ◌++◌, length, Some, refl, sym, ap, subst, ◌∙◌}
use Rattle.std.proofs.lemmas.Bool.{eqb-true, eq-eqb}
use Rattle.std.proofs.lemmas.List.{append_assoc}
use Rattle.std.specs.List.{AllByRecursion}
use Rattle.heap_state.specs.Kept.{Kept}
use Rattle.dump_text.specs.Pieces.{behind, Piece, ◌>>=◌, byte_at, word_at, cell_at, line_at, registers_at, kept_read_at}
use Rattle.dump_text.specs.Text.{word_text, IsWord, AreRegisters, AreKept}
use Rattle.dump_text.proofs.Laid.{row_text, kept_text, table_text}
use Rattle.dump_text.proofs.Hex.{word_takes, word_again}
use Rattle.dump_text.proofs.Options.{some_bind, some_if, some_is}

-- a piece has one text, and is read by it
pub record IsPiece {A : Type 0} (piece : Piece A) (text : A → List ℕ) (Fits : A → Type 0) : Type 0 where
  pub takes : (bytes : List ℕ) (x : A) (rest : List ℕ) → piece bytes ≡ Some (x, rest) → (bytes ≡ text x ++ rest) × Fits x
  pub again : (x : A) (rest : List ℕ) → Fits x → piece (text x ++ rest) ≡ Some (x, rest)

-- ---- a byte

pub byte_takes : (wanted : ℕ) (bytes rest : List ℕ) → byte_at wanted bytes ≡ Some rest → bytes ≡ wanted ∷ rest
byte_takes wanted [] rest e = absurd cc
byte_takes wanted (b ∷ bytes) rest e =
    let h = some_if (eqb b wanted) bytes rest e in
    rw (eqb-true b wanted h.0, h.1) refl

pub byte_again : (wanted : ℕ) (rest : List ℕ) → byte_at wanted (wanted ∷ rest) ≡ Some rest
byte_again wanted rest = rw (eq-eqb wanted wanted refl) refl

-- ---- a word with the byte behind it

pub cell_takes : (wanted : ℕ) (bytes : List ℕ) (w : ℕ) (rest : List ℕ) → cell_at wanted bytes ≡ Some (w, rest) → (bytes ≡ word_text w ++ wanted ∷ rest) × IsWord w
unfolding cell_at
cell_takes wanted bytes w rest e =
    let a = some_bind (word_at bytes) (λ word. byte_at wanted word.1 >>= λ rest. Some (word.0, rest)) (w, rest) e in
    let b = some_bind (byte_at wanted a.0.1) (λ rest. Some (a.0.0, rest)) (w, rest) a.2 in
    let pair = some_is {A = ℕ × List ℕ} (a.0.0, b.0) (w, rest) b.2 in
    let t = word_takes bytes a.0.0 a.0.1 a.1 in
    let whole : bytes ≡ word_text a.0.0 ++ wanted ∷ b.0 = t.0 ∙ ap (λ (xs : List ℕ). word_text a.0.0 ++ xs) (byte_takes wanted a.0.1 b.0 b.1) in
    let P : ℕ × List ℕ → Type 0 = λ p. (bytes ≡ word_text p.0 ++ wanted ∷ p.1) × IsWord p.0 in
    subst P pair (whole, t.1)

pub cell_again : (wanted w : ℕ) (rest : List ℕ) → IsWord w → cell_at wanted (word_text w ++ wanted ∷ rest) ≡ Some (w, rest)
unfolding cell_at
cell_again wanted w rest lt = rw (word_again w (wanted ∷ rest) lt, byte_again wanted rest) refl

-- ---- a line of words

line_takes : (n : ℕ) (bytes words rest : List ℕ) → line_at n bytes ≡ Some (words, rest) → (bytes ≡ row_text words ++ rest) × (length words ≡ n) × AllByRecursion IsWord words
line_takes zero bytes words rest e =
    let pair = some_is {A = List ℕ × List ℕ} ([], bytes) (words, rest) e in
    let P : List ℕ × List ℕ → Type 0 = λ p. (bytes ≡ row_text p.0 ++ p.1) × (length p.0 ≡ 0) × AllByRecursion IsWord p.0 in
    subst P pair (refl, refl, tt)
line_takes (suc n) bytes words rest e =
    let a = some_bind (cell_at (behind n) bytes) (λ word. line_at n word.1 >>= λ words. Some (word.0 ∷ words.0, words.1)) (words, rest) e in
    let b = some_bind (line_at n a.0.1) (λ words. Some (a.0.0 ∷ words.0, words.1)) (words, rest) a.2 in
    let pair = some_is {A = List ℕ × List ℕ} (a.0.0 ∷ b.0.0, b.0.1) (words, rest) b.2 in
    let first = cell_takes (behind n) bytes a.0.0 a.0.1 a.1 in
    let others = line_takes n a.0.1 b.0.0 b.0.1 b.1 in
    let whole : bytes ≡ (word_text a.0.0 ++ behind (length b.0.0) ∷ row_text b.0.0) ++ b.0.1 =
    first.0 ∙ ap (λ (xs : List ℕ). word_text a.0.0 ++ behind n ∷ xs) others.0 ∙ ap (λ (k : ℕ). word_text a.0.0 ++ behind k ∷ (row_text b.0.0 ++ b.0.1)) (sym others.1)
    ∙ sym (append_assoc (word_text a.0.0) (behind (length b.0.0) ∷ row_text b.0.0) b.0.1) in
    let P : List ℕ × List ℕ → Type 0 = λ p. (bytes ≡ row_text p.0 ++ p.1) × (length p.0 ≡ suc n) × AllByRecursion IsWord p.0 in
    subst P pair (whole, ap suc others.1, (first.1, others.2))

line_again : (words rest : List ℕ) → AllByRecursion IsWord words → line_at (length words) (row_text words ++ rest) ≡ Some (words, rest)
line_again [] rest h = refl
line_again (w ∷ words) rest h =
    let regrouped : row_text (w ∷ words) ++ rest ≡ word_text w ++ behind (length words) ∷ (row_text words ++ rest) = append_assoc (word_text w) (behind (length words) ∷ row_text words) rest in
    ap (line_at (suc (length words))) regrouped ∙ rw (cell_again (behind (length words)) w (row_text words ++ rest) h.0, line_again words rest h.1) refl

pub registers_piece : IsPiece registers_at row_text AreRegisters
unfolding registers_at
registers_piece = record {
  takes = λ bytes words rest e. let t = line_takes 8 bytes words rest e in (t.0, (t.1, t.2));
  again = λ words rest h. ap (λ (n : ℕ). line_at n (row_text words ++ rest)) (sym h.0) ∙ line_again words rest h.1;
}

pub table_piece : IsPiece (cell_at 10) table_text IsWord
table_piece = record {
  takes = λ bytes w rest e. let t = cell_takes 10 bytes w rest e in (t.0 ∙ sym (append_assoc (word_text w) (10 ∷ []) rest), t.1);
  again = λ w rest h. ap (cell_at 10) (append_assoc (word_text w) (10 ∷ []) rest) ∙ cell_again 10 w rest h;
}

-- ---- what a worker keeps

kept_takes : (bytes : List ℕ) (k : Kept) (rest : List ℕ) → kept_read_at bytes ≡ Some (k, rest) → (bytes ≡ kept_text k ++ rest) × AreKept k
unfolding kept_read_at
kept_takes bytes k rest e =
    let a = some_bind (cell_at 32 bytes) (λ header. cell_at 10 header.1 >>= λ place. Some (record { header = header.0; place = place.0 }, place.1)) (k, rest) e in
    let b = some_bind (cell_at 10 a.0.1) (λ place. Some (record { header = a.0.0; place = place.0 }, place.1)) (k, rest) a.2 in
    let made : Kept = record { header = a.0.0; place = b.0.0 } in
    let pair = some_is {A = Kept × List ℕ} (made, b.0.1) (k, rest) b.2 in
    let first = cell_takes 32 bytes a.0.0 a.0.1 a.1 in
    let second = cell_takes 10 a.0.1 b.0.0 b.0.1 b.1 in
    let whole : bytes ≡ kept_text made ++ b.0.1 =
    first.0 ∙ ap (λ (xs : List ℕ). word_text a.0.0 ++ 32 ∷ xs) (second.0 ∙ sym (append_assoc (word_text b.0.0) (10 ∷ []) b.0.1))
    ∙ sym (append_assoc (word_text a.0.0) (32 ∷ row_text (b.0.0 ∷ [])) b.0.1) in
    let P : Kept × List ℕ → Type 0 = λ p. (bytes ≡ kept_text p.0 ++ p.1) × AreKept p.0 in
    subst P pair (whole, (first.1, second.1))

pub kept_piece : IsPiece kept_read_at kept_text AreKept
unfolding kept_read_at
kept_piece = record {
  takes = kept_takes;
  again = λ k rest h.
      let regrouped : kept_text k ++ rest ≡ word_text k.header ++ 32 ∷ (word_text k.place ++ 10 ∷ rest) =
      append_assoc (word_text k.header) (32 ∷ row_text (k.place ∷ [])) rest ∙ ap (λ (xs : List ℕ). word_text k.header ++ 32 ∷ xs) (append_assoc (word_text k.place) (10 ∷ []) rest) in
      ap kept_read_at regrouped ∙ rw (cell_again 32 k.header (word_text k.place ++ 10 ∷ rest) h.0, cell_again 10 k.place rest h.1) refl;
}
