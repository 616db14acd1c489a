-- The worked configuration keeps the parts about records, copies and where words lead.
use Rattle.std.proofs.Common.{◌≡◌, ◌≢◌, ℕ, ◌+◌, ◌-◌, ◌<◌, ◌≤◌, refl, sym, ap, ◌∙◌, arith, ⊎_elim, ◌⊎◌, inl, inr}
use Rattle.std.proofs.lemmas.Bool.{cases_eq, ne_eqb}
use Rattle.plain_state.specs.declared.value.Identity.{Identity}
use Rattle.heap_state.specs.Examples.Worked.{made}
use Rattle.plain_state.specs.declared.kind.Kind.TheVariants.{Fields}
use Rattle.heap_words.specs.Decoded.{NumberWord, PointerWord, HeaderWord, BusyWord, ForwardWord, decode}
use Rattle.heap_words.specs.Word.{number_word}
use Rattle.heap_words.proofs.Decoding.{decode-number_word, decode-pointer_word, decode-header_word, decode-forward_word, decode-busy_word}
use Rattle.heap_state.specs.Functions.{put, sum_below}
use Rattle.heap_state.specs.Invariant.Ghost.{Here, Lands, header_kind}
use Rattle.heap_state.specs.Invariant.Parts.Copies.{Copied, Once, Keepers, Room}
use Rattle.heap_state.specs.Invariant.Parts.Leading.{Landing, Older}
use Rattle.heap_state.specs.Invariant.Parts.Records.{Laid, Headed, NewWritten}
use Rattle.heap_state.proofs.Worked.Ghost.{worked_table, worked_era, size, writer, copy, keeper, identity, kept, each_place, Sizes, sizes}

abbrev pub heap : ℕ → ℕ
heap = worked_table.heap

-- ---- what the words say

pub word_192 : decode (heap 192) ≡ ForwardWord 2 256
unfolding put
word_192 = decode-forward_word 2 256 (omega arith) (omega arith)

pub word_194 : decode (heap 194) ≡ PointerWord 195
unfolding put
word_194 = decode-pointer_word 195 (omega arith)

pub word_195 : decode (heap 195) ≡ BusyWord 1 1
unfolding put
word_195 = decode-busy_word 1 1 (omega arith) (omega arith)

pub word_196 : decode (heap 196) ≡ PointerWord 192
unfolding put
word_196 = decode-pointer_word 192 (omega arith)

pub word_256 : decode (heap 256) ≡ HeaderWord (header_kind Fields) 2 1 0
unfolding put
word_256 = decode-header_word (header_kind Fields) 2 1 0 (omega arith) (omega arith)

pub word_257 : decode (heap 257) ≡ NumberWord 7
unfolding put
word_257 = decode-number_word 7 (omega arith)

pub word_193 : decode (heap 193) ≡ NumberWord 7
unfolding put
word_193 = decode-number_word 7 (omega arith)

pub word_258 : decode (heap 258) ≡ PointerWord 195
unfolding put
word_258 = decode-pointer_word 195 (omega arith)

pub word_259 : decode (heap 259) ≡ HeaderWord (header_kind Fields) 1 2 0
unfolding put
word_259 = decode-header_word (header_kind Fields) 1 2 0 (omega arith) (omega arith)

pub word_515 : decode (heap 515) ≡ PointerWord 256
unfolding put
word_515 = decode-pointer_word 256 (omega arith)

-- past the second record's reserved place, all words are 0 but one of the board
pub blank_word : (x : ℕ) → x ≢ 515 → 260 ≤ x → heap x ≡ 0
unfolding put
blank_word x n l = rw (
  ne_eqb x 192 (λ e. omega arith),
  ne_eqb x 193 (λ e. omega arith),
  ne_eqb x 194 (λ e. omega arith),
  ne_eqb x 195 (λ e. omega arith),
  ne_eqb x 196 (λ e. omega arith),
  ne_eqb x 256 (λ e. omega arith),
  ne_eqb x 257 (λ e. omega arith),
  ne_eqb x 258 (λ e. omega arith),
  ne_eqb x 259 (λ e. omega arith),
  ne_eqb x 515 n,
) refl

pub elsewhere : (x : ℕ) → x ≢ 515 → 260 ≤ x → decode (heap x) ≡ NumberWord 0
unfolding number_word
elsewhere x n l = rw (blank_word x n l) (decode-number_word 0 (omega arith))

-- ---- records

pub laid : Laid worked_era 261 320 size
laid = record {
  apart = λ a b sa sb l. omega (arith, sizes a sa, sizes b sb, l);
  lies = λ a st. lies a (sizes a st);
  order = record { 0 = omega arith; 1 = omega arith; 2 = omega arith };
  aligned = refl;
  start = inr (omega arith);
  next = λ a s f st. next a s f (sizes a st);
}
  where
    lies : (a : ℕ) → Sizes a → ((256 ≤ a) × (a + size a ≤ 261)) ⊎ (((320 ≤ a) × (a + size a ≤ 512)) ⊎ ((0 ≤ a) × (a + size a ≤ 256)))
    lies a (inl p) = inr (inr (omega arith, omega (arith, p)))
    lies a (inr (inl p)) = inr (inr (omega arith, omega (arith, p)))
    lies a (inr (inr (inl p))) = inl (omega (arith, p), omega (arith, p))
    lies a (inr (inr (inr p))) = inl (omega (arith, p), omega (arith, p))

    next : (a : ℕ) → 256 ≤ a → a < 261 → Sizes a → (a + size a ≡ 261) ⊎ (0 < size (a + size a))
    next a s f (inl p) = absurd (omega (arith, p))
    next a s f (inr (inl p)) = absurd (omega (arith, p))
    next a s f (inr (inr (inl p))) = rw (p.1, p.0) (inr (omega arith))
    next a s f (inr (inr (inr p))) = inl (omega (arith, p))

pub headed : Headed size writer copy keeper (λ a. Fields) identity heap
headed = record {
  own = each_place (λ a. writer a ≡ 0 → copy a ≡ 0 → keeper a ≡ 0 → decode (heap a) ≡ HeaderWord (header_kind Fields) (size a - 1) (identity a).serial (identity a).mutator)
      (λ w n y. absurd (omega (arith, n))) (λ w n y. absurd (omega (arith, n))) (λ w n y. word_256) (λ w n y. absurd (omega (arith, w)));
  kept = λ a k st y. each_place (λ a. (k : ℕ) → keeper a ≡ k + 1 → decode (heap a) ≡ BusyWord (size a - 1) k)
      (λ k y. absurd (omega (arith, y))) (λ k y. let e : k ≡ 1 = omega (arith, y) in rw e word_195) (λ k y. absurd (omega (arith, y))) (λ k y. absurd (omega (arith, y))) a st k y;
  gone = λ a b st n y. each_place (λ a. (b : ℕ) → copy a ≡ b + 1 → keeper a ≡ 0 → decode (heap a) ≡ ForwardWord (size a - 1) b)
      (λ b n y. let e : b ≡ 256 = omega (arith, n) in rw e word_192) (λ b n y. absurd (omega (arith, y))) (λ b n y. absurd (omega (arith, n))) (λ b n y. absurd (omega (arith, n))) a st b n y;
}

pub new_written : NewWritten worked_era 320 size writer
new_written = record { written = λ a st l e. absurd (omega (arith, sizes a st, l)) }

-- ---- copies

pub copied : Copied worked_era 261 size writer copy keeper (λ a. Fields) identity kept
copied = record {
  target = λ a b st y. each_place (λ a. (b : ℕ) → copy a ≡ b + 1
      → (0 ≤ a) × (a < 256) × (256 ≤ b) × (b < 261) × (size b ≡ size a) × (identity b ≡ identity a) × (Fields ≡ Fields) × (writer b ≡ keeper a))
      (λ b y. let e : b ≡ 256 = omega (arith, y) in rw e (omega arith, omega arith, omega arith, omega arith, refl, refl, refl, refl))
      (λ b y. let e : b ≡ 259 = omega (arith, y) in rw e (omega arith, omega arith, omega arith, omega arith, refl, refl, refl, refl))
      (λ b y. absurd (omega (arith, y)))
      (λ b y. absurd (omega (arith, y)))
      a st b y;
  blank = λ a z. ⊎_elim (λ (e : a ≡ 192). absurd (let q : 3 ≡ 0 = rw e at z in omega arith)) (λ (n : a ≢ 192).
      ⊎_elim (λ (e : a ≡ 195). absurd (let q : 2 ≡ 0 = rw e at z in omega arith)) (λ (o : a ≢ 195).
      rw (ne_eqb a 192 n, ne_eqb a 195 o) (refl, refl))
      (cases_eq a 195)) (cases_eq a 192);
  origin = λ b st w. each_place (λ b. 0 < writer b → (a : ℕ) × (0 < size a) × (copy a ≡ b + 1))
      (λ w. absurd (omega arith)) (λ w. absurd (omega arith)) (λ w. absurd (omega arith)) (λ w. (195, omega arith, refl)) b st w;
  keeper_of = λ a k st y. each_place (λ a. (k : ℕ) → keeper a ≡ k + 1 → (kept k ≡ a + 1) × (0 ≤ a) × (a < 256))
      (λ k y. absurd (omega (arith, y))) (λ k y. let e : k ≡ 1 = omega (arith, y) in rw e (refl, omega arith, omega arith)) (λ k y. absurd (omega (arith, y))) (λ k y. absurd (omega (arith, y))) a st k y;
}

abbrev serial_of : Identity → ℕ
serial_of i = i.serial

-- two places of one identity are the first record and its copy, or the second and its own
pub once : Once size copy identity
once = record {
  once = λ a b sa sb e. each_place (λ a. (b : ℕ) → 0 < size b → identity a ≡ identity b → (a ≡ b) ⊎ ((copy a ≡ b + 1) ⊎ (copy b ≡ a + 1)))
      (λ b sb e. each_place (λ b. identity 192 ≡ identity b → (192 ≡ b) ⊎ ((copy 192 ≡ b + 1) ⊎ (copy b ≡ 193)))
      (λ e. inl refl) (λ e. absurd (apart e)) (λ e. inr (inl refl)) (λ e. absurd (apart e)) b sb e)
      (λ b sb e. each_place (λ b. identity 195 ≡ identity b → (195 ≡ b) ⊎ ((copy 195 ≡ b + 1) ⊎ (copy b ≡ 196)))
      (λ e. absurd (apart (sym e))) (λ e. inl refl) (λ e. absurd (apart (sym e))) (λ e. inr (inl refl)) b sb e)
      (λ b sb e. each_place (λ b. identity 256 ≡ identity b → (256 ≡ b) ⊎ ((copy 256 ≡ b + 1) ⊎ (copy b ≡ 257)))
      (λ e. inr (inr refl)) (λ e. absurd (apart e)) (λ e. inl refl) (λ e. absurd (apart e)) b sb e)
      (λ b sb e. each_place (λ b. identity 259 ≡ identity b → (259 ≡ b) ⊎ ((copy 259 ≡ b + 1) ⊎ (copy b ≡ 260)))
      (λ e. absurd (apart (sym e))) (λ e. inr (inr refl)) (λ e. absurd (apart (sym e))) (λ e. inl refl) b sb e)
      a sa b sb e;
}
  where
    apart : made 1 ≡ made 2 → ⊥
    apart e = let q : serial_of (made 1) ≡ serial_of (made 2) = ap serial_of e in omega (arith, q)

pub kept_by : Keepers size keeper 2
kept_by = record {
  kept = λ a k st y. each_place (λ a. (k : ℕ) → keeper a ≡ k + 1 → k < 2)
      (λ k y. absurd (omega (arith, y))) (λ k y. omega (arith, y)) (λ k y. absurd (omega (arith, y))) (λ k y. absurd (omega (arith, y))) a st k y;
}

pub room : Room worked_era 1 261 320 59 size copy
unfolding sum_below
room = record { needs = λ t. omega arith; fits = λ t. omega arith; small = omega arith }

-- ---- where words lead

pub number_lands : (w n : ℕ) → decode w ≡ NumberWord n → Lands size writer w
unfolding Lands
number_lands w n e b d = absurd (let q = sym e ∙ d in cc)

pub pointer_lands : (w a : ℕ) → decode w ≡ PointerWord a → 0 < size a → writer a ≡ 0 → Lands size writer w
unfolding Lands
pointer_lands w a e st z b d = let q = sym e ∙ d in let s : a ≡ b = cc in rw (← s) (st, z)

-- the words of the copy, and of the board
here_lands : (x : ℕ) → Here worked_era size writer (λ a. Fields) x → Lands size writer (heap x)
unfolding Here
here_lands x (inl f) = field f.a f.field.stands f.field.written f.inside.0 f.i f.field.first f.field.last f.at
  where
    field : (a : ℕ) → 0 < size a → writer a ≡ 0 → 256 ≤ a → (i : ℕ) → 0 < i → i < size a → x ≡ a + i → Lands size writer (heap x)
    field = each_place (λ a. writer a ≡ 0 → 256 ≤ a → (i : ℕ) → 0 < i → i < size a → x ≡ a + i → Lands size writer (heap x))
        (λ w s i f l e. absurd (omega (arith, s)))
        (λ w s i f l e. absurd (omega (arith, s)))
        (λ w s i f l e. ⊎_elim
        (λ (o : i ≡ 1). let q : x ≡ 257 = omega arith in rw q (number_lands (heap 257) 7 word_257))
        (λ (o : i ≢ 1). let q : x ≡ 258 = omega arith in rw q (pointer_lands (heap 258) 195 word_258 (omega arith) refl))
        (cases_eq i 1))
        (λ w s i f l e. absurd (omega (arith, w)))
here_lands x (inr b) = ⊎_elim
    (λ (e : x ≡ 515). rw e (pointer_lands (heap 515) 256 word_515 (omega arith) refl))
    (λ (n : x ≢ 515). number_lands (heap x) 0 (elsewhere x n (omega (arith, b))))
    (cases_eq x 515)

pub landing : Landing worked_era size writer (λ a. Fields) heap
landing = record { lands = here_lands }

pub older : Older worked_era size writer (λ a. Fields) heap
older = record {
  older = λ a i b f l m e. field a f.stands m i f.first f.last b e;
  written = λ a st l m. rw (ne_eqb a 259 (λ e. omega arith)) refl;
}
  where
    field : (a : ℕ) → 0 < size a → a < 256 → (i : ℕ) → 0 < i → i < size a → (b : ℕ) → decode (heap (a + i)) ≡ PointerWord b → (0 < size b) × (0 ≤ b) × (b < 256)
    field = each_place (λ a. a < 256 → (i : ℕ) → 0 < i → i < size a → (b : ℕ) → decode (heap (a + i)) ≡ PointerWord b → (0 < size b) × (0 ≤ b) × (b < 256))
        (λ m i f l b e. ⊎_elim
        (λ (o : i ≡ 1). absurd (let q : decode (heap 193) ≡ PointerWord b = rw o at e in let r = sym word_193 ∙ q in cc))
        (λ (o : i ≢ 1). let t : i ≡ 2 = omega arith in let q : decode (heap 194) ≡ PointerWord b = rw t at e in let r = sym word_194 ∙ q in let s : 195 ≡ b = cc in rw (← s) (omega arith, omega arith, omega arith))
        (cases_eq i 1))
        (λ m i f l b e. let t : i ≡ 1 = omega arith in let q : decode (heap 196) ≡ PointerWord b = rw t at e in let r = sym word_196 ∙ q in let s : 192 ≡ b = cc in rw (← s) (omega arith, omega arith, omega arith))
        (λ m i f l b e. absurd (omega (arith, m)))
        (λ m i f l b e. absurd (omega (arith, m)))
