-- What a word is part of, where it leads, and what it denotes.
use Rattle.std.proofs.Common.{◌≡◌, ℕ, ◌+◌, ◌<◌, ◌≤◌, Some, refl, sym, ap, ◌∙◌, arith, ⊎_elim, inl, inr, slice_get}
use Rattle.std.proofs.lemmas.Bool.{cases_lt}
use Rattle.std.proofs.lemmas.Option.{slice_get_within}
use Rattle.plain_state.specs.declared.kind.Kind.{Kind}
use Rattle.heap_words.specs.Decoded.{Decoded, NumberWord, PointerWord, decode}
use Rattle.heap_words.specs.Word.{number_word}
use Rattle.heap_words.proofs.Decoding.{decode-number_word}
use Rattle.plain_state.specs.State as plain
use Rattle.plain_state.specs.declared.value.Identity.{Identity}
use Rattle.plain_state.specs.declared.value.Value.TheVariants.{Number, Reference}
use Rattle.plain_state.specs.Layout.{values_at, word_of_value, size_of}
use Rattle.plain_state.specs.declared.value.Value.{Value}
use Rattle.heap_state.specs.Cycles.Cycle.{StillLeads, Copying}
use Rattle.heap_state.specs.Memory.Era.{Era}
use Rattle.heap_state.specs.Invariant.Ghost.{IsField, Here, Leads, Lands}
use Rattle.heap_state.specs.Meaning.Values.{value_said, value_of}
use Rattle.heap_state.proofs.Puts.{some_same}

-- two records that share a word are one
pub one_place : (size : ℕ → ℕ) (a b i j : ℕ) → ((a b : ℕ) → 0 < size a → 0 < size b → a < b → a + size a ≤ b) → i < size a → j < size b → a + i ≡ b + j → a ≡ b
one_place size a b i j apart l m e = ⊎_elim
    (λ (y : a < b). absurd (let q = apart a b (omega arith) (omega arith) y in omega arith))
    (λ (n : b ≤ a). ⊎_elim (λ (y : b < a). absurd (let q = apart b a (omega arith) (omega arith) y in omega arith)) (λ (o : a ≤ b). omega arith) (cases_lt b a))
    (cases_lt a b)

-- where mutators read: a word of the board, and a field of a record of the epoch's space
pub board_here : (E : Era) (size writer : ℕ → ℕ) (kind : ℕ → Kind) (x : ℕ) → x < 16 → Here E size writer kind (E.board + x)
unfolding Here
board_here E size writer kind x l = inr (omega arith, omega arith)

pub field_here : (E : Era) (size writer : ℕ → ℕ) (kind : ℕ → Kind) (a i : ℕ) → IsField size writer kind a i → (E.start ≤ a) × (a < E.start + E.span) → Here E size writer kind (a + i)
unfolding Here
field_here E size writer kind a i f inside = inl (record { a = a; i = i; field = f; inside = inside; at = refl })

-- ---- pointers

pub still_leads : (E : Era) (identity : ℕ → Identity) (w : ℕ) (i : Identity) → StillLeads E identity w i → Leads E w
unfolding Leads
still_leads E identity w i q = (q.at, q.points, q.old.0, q.old.1)

-- two addresses that a word decodes to are one
pub pointer_same : (w b c : ℕ) → decode w ≡ PointerWord b → decode w ≡ PointerWord c → b ≡ c
pointer_same w b c e f = let q = sym e ∙ f in cc

-- where a pointer lands a record stands
pub pointer_lands : (size writer : ℕ → ℕ) (w a : ℕ) → Lands size writer w → decode w ≡ PointerWord a → 0 < size a
unfolding Lands
pointer_lands size writer w a l e = (l a e).0

-- ---- the word 0

pub zero_word : decode 0 ≡ NumberWord 0
unfolding number_word
zero_word = decode-number_word 0 (omega arith)

pub zero_clean : (E : Era) (w : ℕ) → w ≡ 0 → ¬ (Leads E w)
unfolding Leads
zero_clean E w e l = absurd (let q : decode 0 ≡ PointerWord l.0 = rw e at l.1 in let r = sym zero_word ∙ q in cc)

pub zero_lands : (size writer : ℕ → ℕ) (w : ℕ) → w ≡ 0 → Lands size writer w
unfolding Lands
zero_lands size writer w e b d = absurd (let q : decode 0 ≡ PointerWord b = rw e at d in let r = sym zero_word ∙ q in cc)

pub zero_value : (identity : ℕ → Identity) (w : ℕ) → w ≡ 0 → value_of identity w ≡ Some (Number 0)
unfolding value_of
zero_value identity w e = rw (e, zero_word) refl

-- ---- what a word denotes

pub reference_same : {i j : Identity} → Some (Reference i) ≡ Some (Reference j) → i ≡ j
reference_same e = cc

-- a word that denotes a reference is a pointer to a record of that identity
pub pointer_from_value : (identity : ℕ → Identity) (w : ℕ) (i : Identity) → value_of identity w ≡ Some (Reference i) → (a : ℕ) × (decode w ≡ PointerWord a) × (identity a ≡ i)
unfolding value_of
pointer_from_value identity w i e = by_word (decode w) refl e
  where
    by_word : (v : Decoded) → decode w ≡ v → value_said identity v ≡ Some (Reference i) → (a : ℕ) × (decode w ≡ PointerWord a) × (identity a ≡ i)
    by_word (PointerWord a) q e = (a, q, reference_same e)
    by_word _ q e = absurd (cc)

pub value_from_pointer : (identity : ℕ → Identity) (w a : ℕ) → decode w ≡ PointerWord a → value_of identity w ≡ Some (Reference (identity a))
unfolding value_of
value_from_pointer identity w a e = rw e refl

-- under identities that agree where the word points
pub value_agrees : (identity other : ℕ → Identity) (w : ℕ) → ((a : ℕ) → decode w ≡ PointerWord a → other a ≡ identity a) → value_of other w ≡ value_of identity w
unfolding value_of
value_agrees identity other w f = by_word (decode w) f
  where
    by_word : (v : Decoded) → ((a : ℕ) → v ≡ PointerWord a → other a ≡ identity a) → value_said other v ≡ value_said identity v
    by_word (PointerWord a) f = rw (f a refl) refl
    by_word _ f = refl

-- ---- values of copies

-- a value of a copied record stands in one of its words
pub copied_within : {E : Era} {front : ℕ} {size writer copy keeper : ℕ → ℕ} {kind : ℕ → Kind} {identity : ℕ → Identity} {heap : ℕ → ℕ} {p : plain.Plain} → Copying E front size writer copy keeper kind identity heap p
    → (b x : ℕ) (r : plain.Record) (y : Value) → 0 < size b → E.start ≤ b → b < front → plain.record_of p.heap (identity b) ≡ Some r → slice_get r.values x ≡ Some y → word_of_value (kind b) x < size b
copied_within {size = size} {kind = kind} c b x r y st l u e o =
    let q = c.sizes b st l u in
    let same : q.0 ≡ r = some_same (sym q.1 ∙ e) in
    let z : size_of r ≡ size b = rw same at q.2 in
    let k : values_at r.kind ≡ values_at (kind b) = rw same at (ap values_at q.3) in
    let w = slice_get_within r.values x y o in
    omega (arith, w, z, k)
