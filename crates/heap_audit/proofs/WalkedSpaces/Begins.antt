-- Where records begin, as it is noted, and where pointers lead.
use Rattle.std.proofs.Common.{◌≡◌, ◌≢◌, ℕ, ◌+◌, ◌<◌, ◌≤◌, Bool, true, false, List, [], ◌∷◌, ◌++◌, Some, get_or, length, map, set, take, sym, ap, ◌∙◌, subst, ⊎_elim}
use Rattle.std.specs.Prelude.{IsTrue, ◌↔◌}
use Rattle.std.specs.List.{Contains}
use Rattle.std.proofs.lemmas.Bool.{cases_eq}
use Rattle.std.proofs.lemmas.List.{get_or-set_other, get_or-set_same, get_or_past, take_all}
use Rattle.std.proofs.lemmas.List.Elements.{Contains-append_left, Contains-push, Contains-push_cases}
use Rattle.heap_words.specs.Decoded.{Decoded, PointerWord, decode, pointer_in}
use Rattle.heap_state.specs.Meaning.Dump.{Dump}
use Rattle.heap_state.specs.Meaning.Represents.{IsInHeap, LeadsToRecord}
use Rattle.heap_state.specs.Memory.Walk.{Walked}
use Rattle.heap_audit.specs.Walks.{walked}
use Rattle.heap_audit.specs.declared.walks.RecordAt.{RecordAt}
use Rattle.heap_audit.proofs.ShownRecords.RecordsSoFar.{walked_more}

abbrev item : ℕ → ℕ → Walked
item a size = record { at = a; size = size }

-- one of these records begins at the address
abbrev pub BeginsAmong : List RecordAt → ℕ → Type 0
BeginsAmong rs a = (size : ℕ) × Contains (map walked rs) (item a size)

-- the records are noted by address
abbrev pub Notes : List Bool → List RecordAt → Type 0
Notes begins rs = (a : ℕ) → (get_or begins a false ≡ true) ↔ BeginsAmong rs a

module _ (begins : List Bool) (rs : List RecordAt) (i : ℕ) (z r : RecordAt) (inside : i < length rs) (is : get_or rs i z ≡ r) (fits : r.at < length begins) (notes : Notes begins (take i rs)) where
  one_more : map walked (take (i + 1) rs) ≡ map walked (take i rs) ++ walked r ∷ []
  one_more = walked_more rs i z r inside is

  noted : (a : ℕ) → get_or (set begins r.at true) a false ≡ true → BeginsAmong (take (i + 1) rs) a
  noted a e = ⊎_elim
      (λ (here : a ≡ r.at).
      let there : Contains (map walked (take (i + 1) rs)) (walked r) = subst (λ (xs : List Walked). Contains xs (walked r)) (sym one_more) (Contains-push (map walked (take i rs)) (walked r)) in
      (r.size, subst (λ (z : ℕ). Contains (map walked (take (i + 1) rs)) (item z r.size)) (sym here) there))
      (λ (other : a ≢ r.at).
      let before = (notes a).0 (sym (get_or-set_other begins r.at a true false other) ∙ e) in
      (before.0, subst (λ (xs : List Walked). Contains xs (item a before.0)) (sym one_more) (Contains-append_left (map walked (take i rs)) (walked r ∷ []) (item a before.0) before.1)))
      (cases_eq a r.at)

  notes_it : (a : ℕ) → BeginsAmong (take (i + 1) rs) a → get_or (set begins r.at true) a false ≡ true
  notes_it a among = ⊎_elim
      (λ (here : a ≡ r.at). ap (λ z. get_or (set begins r.at true) z false) here ∙ get_or-set_same begins r.at true false fits)
      (λ (other : a ≢ r.at). ⊎_elim
      (λ before. get_or-set_other begins r.at a true false other ∙ (notes a).1 (among.0, before))
      (λ (same : walked r ≡ item a among.0). absurd (other (sym (ap (λ (w : Walked). w.at) same))))
      (Contains-push_cases (map walked (take i rs)) (walked r) (item a among.0) (subst (λ (xs : List Walked). Contains xs (item a among.0)) one_more among.1)))
      (cases_eq a r.at)

  pub notes_more : Notes (set begins r.at true) (take (i + 1) rs)
  notes_more a = (noted a, notes_it a)

pub notes_all : (begins : List Bool) (rs : List RecordAt) (i : ℕ) → length rs ≤ i → Notes begins (take i rs) → Notes begins rs
notes_all begins rs i all notes = subst (Notes begins) (take_all i rs all) notes

-- ---- where a word leads

pointer_is : (d : Decoded) (a : ℕ) → pointer_in d ≡ Some a → d ≡ PointerWord a
pointer_is (PointerWord b) a e = let s : b ≡ a = cc in ap PointerWord s
pointer_is _ a e = absurd (cc)

pub leads_by : (d : Dump) (w a : ℕ) (b : Bool) → pointer_in (decode w) ≡ Some a → ((b ≡ true) ↔ ((size : ℕ) × IsInHeap d (item a size))) → IsTrue b ↔ LeadsToRecord d w
leads_by d w a b points is =
    let word = pointer_is (decode w) a points in (
      λ t x e.
          let same : a ≡ x = (let q : PointerWord a ≡ PointerWord x = sym word ∙ e in cc) in
          subst (λ (z : ℕ). (size : ℕ) × IsInHeap d (item z size)) same (is.0 t),
      λ leads. is.1 (leads a word),
    )

pub past_is : (begins : List Bool) (a : ℕ) → length begins ≤ a → get_or begins a false ≡ false
past_is begins a l = get_or_past begins a false l

-- what is noted of the records of the heap says where one begins
pub begins_in : (d : Dump) (rs : List RecordAt) (begins : List Bool) → ((w : Walked) → Contains (map walked rs) w ↔ IsInHeap d w) → Notes begins rs
    → (a : ℕ) → (get_or begins a false ≡ true) ↔ ((size : ℕ) × IsInHeap d (item a size))
begins_in d rs begins found notes a =
    (λ e. let s = (notes a).0 e in (s.0, (found (item a s.0)).0 s.1), λ there. (notes a).1 (there.0, (found (item a there.0)).1 there.1))
