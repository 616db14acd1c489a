-- The walk over one part of a space, by what it comes to next.
use Rattle.std.proofs.Common.{◌≡◌, ℕ, zero, suc, ◌+◌, ◌-◌, ◌<◌, ◌≤◌, Bool, true, false, List, [], ◌∷◌, ◌++◌, Option, Some, None, refl, ap, ◌∙◌, arith, ⊎_elim, ◌⊎◌, if◌then◌else◌, max, map}
use Rattle.std.specs.Prelude.{nat_lt, ◌==◌, ⊤}
use Rattle.std.specs.List.{All, Contains}
use Rattle.std.proofs.lemmas.Bool.{cases_lt, le-leb, lt-leb}
use Rattle.std.proofs.lemmas.List.Elements.{All-cons, All-contains, All-nil}
use Rattle.heap_words.specs.Decoded.{Decoded, HeaderWord, BusyWord, ForwardWord, decode}
use Rattle.space_map.specs.Spaces.{page_of}
use Rattle.heap_state.specs.Kept.{Kept, reserved_in}
use Rattle.heap_state.specs.Memory.Table.{Table}
use Rattle.heap_state.specs.Memory.Walk.{is_protected, Met, AtEnd, Nothing, Reserved, Record, Broken, Walked, meets, met_word, next_place, walk, walked_at}
use Rattle.heap_state.proofs.Walks.Walking.{walk_end}
use Rattle.crossing_map.specs.FirstWord.{size_met}
use Rattle.crossing_map.specs.declared.walked.Walked.{Walked as Next}
use Rattle.crossing_map.specs.declared.walked.Walked.TheVariants as next
use Rattle.crossing_map.specs.Walking.{next_at, next_in, next_walked, nothing_reserved, or_next, passes_closed, passes_none}
use Rattle.heap_audit.specs.Walks.{walked}
use Rattle.heap_audit.specs.declared.walks.RecordAt.{RecordAt}
use Rattle.crossing_map.proofs.WalkedParts.{at_end, is_broken, is_ended, item, later, next_in-end}

-- a word of a record, or a word that is none
abbrev IsWordMet : Met → Type 0
IsWordMet Broken = ⊤
IsWordMet (Record size) = ⊤
IsWordMet _ = ⊥

by_tests : (inside closed free blank : Bool) (reserved word m : Met) → IsWordMet m → (reserved ≡ m → ⊥)
    → (if inside then (if closed then Nothing else if free then (if blank then Nothing else word) else reserved) else AtEnd) ≡ m → word ≡ m
by_tests false closed free blank reserved word m is apart e = absurd (nothing m is e)
  where
    nothing : (m : Met) → IsWordMet m → AtEnd ≡ m → ⊥
    nothing Broken is e = cc
    nothing (Record size) is e = cc
    nothing _ is e = is
by_tests true true free blank reserved word m is apart e = absurd (nothing m is e)
  where
    nothing : (m : Met) → IsWordMet m → Nothing ≡ m → ⊥
    nothing Broken is e = cc
    nothing (Record size) is e = cc
    nothing _ is e = is
by_tests true false false blank reserved word m is apart e = absurd (apart e)
by_tests true false true true reserved word m is apart e = absurd (nothing m is e)
  where
    nothing : (m : Met) → IsWordMet m → Nothing ≡ m → ⊥
    nothing Broken is e = cc
    nothing (Record size) is e = cc
    nothing _ is e = is
by_tests true false true false reserved word m is apart e = e

-- the records at an address, by the size that is met there if a record is
abbrev pub records_at : ℕ → Option ℕ → List Walked
records_at a None = []
records_at a (Some size) = item a size ∷ []

word_size : (d : Decoded) (s : ℕ) → met_word d ≡ Record s → 0 < s
word_size (HeaderWord kind len serial mutator) s e = let q : len + 1 ≡ s = cc in omega arith
word_size (BusyWord len worker) s e = let q : len + 1 ≡ s = cc in omega arith
word_size (ForwardWord len a) s e = let q : len + 1 ≡ s = cc in omega arith
word_size _ s e = absurd (cc)

module _ (passes : ℕ → Bool) (reserved heap : ℕ → ℕ) (end : ℕ) where
  abbrev met : ℕ → Met
  met at = meets passes reserved heap end at

  abbrev items : ℕ → List Walked
  items at = walk (end - at) passes reserved heap end at

  met_broken : (a : ℕ) → met a ≡ Broken → met_word (decode (heap a)) ≡ Broken
  met_broken a e = by_tests (nat_lt a end) (passes (page_of a)) (reserved a == 0) (heap a == 0) (Reserved (reserved a)) (met_word (decode (heap a))) Broken tt (λ q. cc) e

  met_record : (a size : ℕ) → met a ≡ Record size → met_word (decode (heap a)) ≡ Record size
  met_record a size e = by_tests (nat_lt a end) (passes (page_of a)) (reserved a == 0) (heap a == 0) (Reserved (reserved a)) (met_word (decode (heap a))) (Record size) tt (λ q. cc) e

  -- ---- one turn

  one_turn : (n a : ℕ) (m : Met) → met a ≡ m → walk (suc n) passes reserved heap end a ≡ walked_at a m (walk n passes reserved heap end (next_place end a m))
  unfolding walk
  one_turn n a m e = ap (λ z. walked_at a z (walk n passes reserved heap end (next_place end a z))) e

  at_break : (a : ℕ) → a < end → (met a ≡ Broken) ⊎ ((size : ℕ) × (met a ≡ Record size) × (end < a + size)) → items a ≡ records_at a (size_met (met_word (decode (heap a))))
  at_break a before broken =
      let turns : end - a ≡ suc (end - a - 1) = omega arith in
      ⊎_elim
      (λ (e : met a ≡ Broken). rw (turns, met_broken a e) (one_turn (end - a - 1) a Broken e ∙ walk_end passes reserved heap end (end - a - 1) end (omega arith)))
      (λ (z : (size : ℕ) × (met a ≡ Record size) × (end < a + size)).
      rw (turns, met_record a z.0 z.1) (one_turn (end - a - 1) a (Record z.0) z.1 ∙ ap (λ xs. item a z.0 ∷ xs) (walk_end passes reserved heap end (end - a - 1) (a + z.0) (omega (arith, z.2)))))
      broken

  pub walk_broken : (at a : ℕ) → next_in (end - at) passes reserved heap end at ≡ next.Broken a → items at ≡ records_at a (size_met (met_word (decode (heap a))))
  walk_broken at a is = let b = is_broken passes reserved heap end at a is in b.3 ∙ at_break a b.1 b.2

  pub walk_ended : (at : ℕ) → next_in (end - at) passes reserved heap end at ≡ next.Ended → items at ≡ []
  walk_ended at is = ((is_ended passes reserved heap end at).0 is).0

  -- ---- a record has words

  words_by : (n at a size : ℕ) (m : Met) → met at ≡ m → ((there : ℕ) → next_in n passes reserved heap end there ≡ next.Record a size → 0 < size)
      → next_at end at m (next_in n passes reserved heap end (next_place end at m)) ≡ next.Record a size → 0 < size
  words_by n at a size AtEnd e rest is = absurd (cc)
  words_by n at a size Nothing e rest is = rest (next_place end at Nothing) is
  words_by n at a size (Reserved s) e rest is = rest (at + s) is
  words_by n at a size (Record s) e rest is = ⊎_elim
      (λ (over : end < at + s). absurd (let b : next.Broken at ≡ next.Record a size = rw (lt-leb (at + s) end over) at is in cc))
      (λ (within : at + s ≤ end).
      let r : next.Record at s ≡ next.Record a size = rw (le-leb (at + s) end within) at is in
      let same : s ≡ size = cc in
      let some = word_size (decode (heap at)) s (met_record at s e) in
      omega arith)
      (cases_lt end (at + s))
  words_by n at a size Broken e rest is = absurd (cc)

  has_words : (turns at a size : ℕ) → next_in turns passes reserved heap end at ≡ next.Record a size → 0 < size
  unfolding next_in
  has_words zero at a size is = absurd (cc)
  has_words (suc n) at a size is = words_by n at a size (met at) refl (λ there i. has_words n there a size i) is

  pub record_has_words : (at a size : ℕ) → next_in (end - at) passes reserved heap end at ≡ next.Record a size → 0 < size
  record_has_words at a size is = has_words (end - at) at a size is

  -- ---- where records lie

  abbrev Lies : ℕ → Walked → Type 0
  Lies from w = (from ≤ w.at) × (w.at < end)

  lie_by : (n from at : ℕ) (m : Met) → from ≤ at → at < end → at < next_place end at m
      → ((there : ℕ) → from ≤ there → All (Lies from) (walk n passes reserved heap end there))
      → All (Lies from) (walked_at at m (walk n passes reserved heap end (next_place end at m)))
  lie_by n from at AtEnd first before on rest = rest end (omega arith)
  lie_by n from at Nothing first before on rest = rest (next_place end at Nothing) (omega arith)
  lie_by n from at (Reserved size) first before on rest = rest (at + size) (omega arith)
  lie_by n from at (Record size) first before on rest = All-cons (Lies from) (item at size) (walk n passes reserved heap end (at + size)) (first, before) (rest (at + size) (omega arith))
  lie_by n from at Broken first before on rest = rest end (omega arith)

  lie : (turns from at : ℕ) → from ≤ at → All (Lies from) (walk turns passes reserved heap end at)
  unfolding walk
  lie zero from at first = All-nil (Lies from)
  lie (suc n) from at first = ⊎_elim
      (λ (before : at < end). lie_by n from at (met at) first before (later passes reserved heap end at before) (λ there f. lie n from there f))
      (λ (behind : end ≤ at). rw (at_end passes reserved heap end at behind, walk_end passes reserved heap end n end (omega arith)) (All-nil (Lies from)))
      (cases_lt at end)

  pub walked_lie : (turns from : ℕ) (w : Walked) → Contains (walk turns passes reserved heap end from) w → (from ≤ w.at) × (w.at < end)
  walked_lie turns from w has = All-contains (Lies from) (walk turns passes reserved heap end from) w (lie turns from from (omega arith)) has

pub or_ended : (n : Next) → or_next n next.Ended ≡ n
or_ended next.Ended = refl
or_ended _ = refl

-- ---- by what a walk over both parts comes to

-- where the second part is empty
pub next_copies : (t : Table) (kept : List Kept) (epoch end at : ℕ) → at ≤ end
    → next_walked t kept epoch (record { front = end; low = end; end = end }) at ≡ next_in (end - at) (λ p. false) (reserved_in kept) t.heap end at
next_copies t kept epoch end at inside =
    let m : max at end ≡ end = omega arith in
    let none : next_in (end - end) (passes_closed t epoch) nothing_reserved t.heap end end ≡ next.Ended = next_in-end (passes_closed t epoch) nothing_reserved t.heap end end (omega arith) in
    ap (λ (x : ℕ). or_next (next_in (end - at) (λ p. false) (reserved_in kept) t.heap end at) (next_in (end - x) (passes_closed t epoch) nothing_reserved t.heap end x)) m
    ∙ (ap (or_next (next_in (end - at) (λ p. false) (reserved_in kept) t.heap end at)) none ∙ or_ended _)

-- where the first is
pub next_new : (t : Table) (kept : List Kept) (epoch end at : ℕ)
    → next_walked t kept epoch (record { front = at; low = at; end = end }) at ≡ next_in (end - at) (λ p. is_protected epoch (t.page p)) (λ a. 0) t.heap end at
next_new t kept epoch end at =
    let m : max at at ≡ at = omega arith in
    let none : next_in (at - at) passes_none (reserved_in kept) t.heap at at ≡ next.Ended = next_in-end passes_none (reserved_in kept) t.heap at at (omega arith) in
    ap (λ (x : Next). or_next x (next_in (end - max at at) (passes_closed t epoch) nothing_reserved t.heap end (max at at))) none
    ∙ ap (λ (x : ℕ). next_in (end - x) (passes_closed t epoch) nothing_reserved t.heap end x) m

-- ---- the records that were found

-- one more before the others
pub found_more : (rs : List RecordAt) (r : RecordAt) (others : List Walked) → map walked (rs ++ r ∷ []) ++ others ≡ map walked rs ++ walked r ∷ others
found_more [] r others = refl
found_more (one ∷ rs) r others = ap (λ xs. walked one ∷ xs) (found_more rs r others)
