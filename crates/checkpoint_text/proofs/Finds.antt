-- Records that are found at an address, and lists of them.
use Rattle.std.proofs.Common.{◌≡◌, ◌≢◌, ⊎_elim, ℕ, ◌+◌, ◌*◌, ◌<◌, ◌≤◌, ◌==◌, Bool, true, false, cond, List, [], ◌∷◌, Option, Some, None, refl, sym, ap, ◌∙◌, arith}
use Rattle.std.specs.List.{Contains}
use Rattle.std.proofs.lemmas.Bool.{cases_lt}
use Rattle.std.proofs.lemmas.Bool.Decides.{eqb_tells}
use Rattle.std.proofs.lemmas.List.Elements.{Contains-append_right}
use Rattle.std.proofs.lemmas.List.Sums.{sum_by-cons}
use Rattle.std.proofs.lemmas.Option.{same_Some}
use Rattle.heap_words.specs.Word.{tag_of}
use Rattle.heap_words.specs.Decoded.{Decoded, PointerWord, decode, pointer_in}
use Rattle.record_layout.specs.declared.header.Header.{Header}
use Rattle.record_layout.specs.Layout.{header_in}
use Rattle.checkpoint_text.specs.declared.saved_record.SavedRecord.{SavedRecord}
use Rattle.checkpoint_text.specs.Heap.{saved_word}
use Rattle.checkpoint_text.specs.Records.{record_there, record_by}
use Rattle.checkpoint_text.specs.Reached.{times_listed}
use Rattle.checkpoint_text.proofs.CheckpointPlaces.{beyond_is}

-- a pointer, by the address that it has
pub pointer_is : (d : Decoded) (address : ℕ) → pointer_in d ≡ Some address → d ≡ PointerWord address
pointer_is (PointerWord b) address is = ap PointerWord (same_Some b address is)
pointer_is _ address is = cc

address_by : (a next : ℕ) (h : Option Header) (r : SavedRecord) → record_by a next h ≡ Some r → r.address ≡ a
address_by a next (Some h) r is = ap (λ (s : SavedRecord). s.address) (sym (same_Some _ r is))
address_by a next None r is = cc

-- a record stands where it was found
pub address_is : (heap : ℕ → ℕ) (a : ℕ) (r : SavedRecord) → record_there heap a ≡ Some r → r.address ≡ a
address_is heap a r is = address_by a (heap (a + 1)) (header_in (decode (heap a))) r is

no_header : header_in (decode 0) ≡ None
unfolding header_in decode tag_of
no_header = refl

-- a record is found on pages of the heap alone
pub found_within : (n : ℕ) (words : List ℕ) (a : ℕ) (r : SavedRecord) → record_there (saved_word n words) a ≡ Some r → a < 128 * n + 64
found_within n words a r is = ⊎_elim
    (λ (within : a < 128 * n + 64). within)
    (λ (beyond : 128 * n + 64 ≤ a).
    let zero_is = beyond_is n words a (omega arith) in
    let none : record_there (saved_word n words) a ≡ None = ap (λ (w : ℕ). record_by a (saved_word n words (a + 1)) (header_in (decode w))) zero_is ∙ ap (record_by a (saved_word n words (a + 1))) no_header in
    absurd (let differ : None ≡ Some r = sym none ∙ is in cc))
    (cases_lt a (128 * n + 64))

abbrev pub as_count : Bool → ℕ
as_count b = cond b 1 0

-- if records at an address are counted, one stands there
pub counted_stands : (address : ℕ) (records : List SavedRecord) → 0 < times_listed address records → (s : SavedRecord) × Contains records s × (s.address ≡ address)
counted_stands address [] some = absurd (omega (arith, some))
counted_stands address (r ∷ records) some = ⊎_elim
    (λ (h : ((r.address == address) ≡ true) × (r.address ≡ address)). (r, (0, omega arith, refl), h.1))
    (λ (h : ((r.address == address) ≡ false) × (r.address ≢ address)).
    let front : times_listed address (r ∷ records) ≡ as_count (r.address == address) + times_listed address records = sum_by-cons (λ (s : SavedRecord). as_count (s.address == address)) r records in
    let none : as_count (r.address == address) ≡ 0 = ap as_count h.0 in
    let later = counted_stands address records (omega (arith, front, none, some)) in
    (later.0, Contains-append_right (r ∷ []) records later.0 later.1, later.2))
    (eqb_tells r.address address)
