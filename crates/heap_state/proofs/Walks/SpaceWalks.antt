-- The walks over both parts of a space: below FRONT, and from LOW up.
use Rattle.std.proofs.Common.{◌≡◌, ◌≢◌, ℕ, zero, suc, ◌+◌, ◌-◌, ◌*◌, ◌/◌, ◌%◌, ◌<◌, ◌≤◌, Bool, true, false, refl, sym, ap, ◌∙◌, arith, ⊎_elim, ◌⊎◌, inl, inr}
use Rattle.std.proofs.lemmas.Bool.{cases_eq, cases_lt, cases_Bool, lt-ltb, eq-eqb, ne_eqb}
use Rattle.heap_words.specs.Decoded.{NumberWord, decode}
use Rattle.space_map.specs.declared.page_word.PageWord.{PageWord}
use Rattle.space_map.specs.declared.page_word.PageWord.TheVariants.{Unset, Open, Scanning}
use Rattle.heap_state.specs.Invariant.Parts.Records.{SpaceOf, WalkComesTo}
use Rattle.heap_state.specs.Memory.Walk.{Nothing, Reserved, Record, Broken, met_word, meets, next_place, is_protected}
use Rattle.heap_state.proofs.Walks.Walking.{MetAt, Part}
use Rattle.heap_words.specs.Word.{tag_of}

decode-zero : decode 0 ≡ NumberWord 0
unfolding decode tag_of
decode-zero = refl

-- a word that says a size is not 0
says_size : (w z : ℕ) → met_word (decode w) ≡ Record z → w ≢ 0
says_size w z said e = let q : met_word (decode 0) ≡ Record z = rw e at said in let b : Broken ≡ Record z = rw decode-zero at q in absurd (cc)

-- ---- what is met, by what is there

module _ (passes : ℕ → Bool) (reserved heap : ℕ → ℕ) (end at : ℕ) (before : at < end) where
  meets_closed : passes (at / 64) ≡ true → meets passes reserved heap end at ≡ Nothing
  meets_closed p = rw (lt-ltb at end before, p) refl

  meets_reserved : (z : ℕ) → passes (at / 64) ≡ false → reserved at ≡ z → 0 < z → meets passes reserved heap end at ≡ Reserved z
  meets_reserved z p r l = rw (lt-ltb at end before, p, r, ne_eqb z 0 (λ e. omega arith)) refl

  meets_blank : passes (at / 64) ≡ false → reserved at ≡ 0 → heap at ≡ 0 → meets passes reserved heap end at ≡ Nothing
  meets_blank p r h = rw (lt-ltb at end before, p, r, h) refl

  meets_record : (z : ℕ) → passes (at / 64) ≡ false → reserved at ≡ 0 → met_word (decode (heap at)) ≡ Record z → meets passes reserved heap end at ≡ Record z
  meets_record z p r said = rw (lt-ltb at end before, p, r, ne_eqb (heap at) 0 (says_size (heap at) z said)) said

-- ---- both parts of a space

-- a space of which no two records share a word, and each that has a first word says its size there
pub record SpaceSaysSizes (start front low end epoch : ℕ) (size writer heap : ℕ → ℕ) (page : ℕ → PageWord) : Type 0 where
  pub space : SpaceOf start front low end epoch size heap page
  pub end_aligned : end % 64 ≡ 0
  pub apart : (a b : ℕ) → 0 < size a → 0 < size b → a < b → a + size a ≤ b
  pub new_written : (a : ℕ) → 0 < size a → low ≤ a → a < end → writer a ≡ 0
  pub says : (a : ℕ) → 0 < size a → start ≤ a → a < end → writer a ≡ 0 → met_word (decode (heap a)) ≡ Record (size a)

-- the places that are reserved are those that somebody writes
abbrev pub TellsReserved : (start front : ℕ) (size writer reserved : ℕ → ℕ) → Type 0
TellsReserved start front size writer reserved = (a : ℕ) → start ≤ a → a < front → 0 < size a → ((writer a ≡ 0) × (reserved a ≡ 0)) ⊎ ((0 < writer a) × (reserved a ≡ size a))

-- no record reaches past the place
abbrev pub IsClear : (ℕ → ℕ) → ℕ → Type 0
IsClear size at = (a : ℕ) → 0 < size a → a < at → a + size a ≤ at

-- a walk from LOW up is at a place that it comes to, and clear
abbrev pub OnWalk : (ℕ → ℕ) → ℕ → Type 0
OnWalk size at = IsClear size at × WalkComesTo size at

-- a walk below FRONT is at its end or at a record
abbrev pub OnRecord : (front : ℕ) (size : ℕ → ℕ) → ℕ → Type 0
OnRecord front size at = (at ≡ front) ⊎ (0 < size at)

module _ (start front low end epoch : ℕ) (size writer heap : ℕ → ℕ) (page : ℕ → PageWord) (told : SpaceSaysSizes start front low end epoch size writer heap page) where
  abbrev none : ℕ → Bool
  none = λ page. false

  module _ (reserved : ℕ → ℕ) (tells : TellsReserved start front size writer reserved) where
    -- what a walk meets at a record below FRONT, and where it goes on
    meets_copy : (at : ℕ) → start ≤ at → at < front → 0 < size at
        → MetAt front size writer at (meets none reserved heap front at) × OnRecord front size (next_place front at (meets none reserved heap front at))
    meets_copy at f l st = ⊎_elim
        (λ (t : (writer at ≡ 0) × (reserved at ≡ 0)).
        let m = meets_record none reserved heap front at l (size at) refl t.1 (told.says at st f (omega (arith, told.space.order)) t.0) in
        rw m ((st, refl, t.0), next))
        (λ (t : (0 < writer at) × (reserved at ≡ size at)).
        let m = meets_reserved none reserved heap front at l (size at) refl t.1 st in
        rw m ((st, refl, t.0), next))
        (tells at f l st)
      where
        next : OnRecord front size (at + size at)
        next = told.space.next at f l st

    on_record : (at : ℕ) → at < front → OnRecord front size at → 0 < size at
    on_record at l (inl e) = absurd (omega arith)
    on_record at l (inr s) = s

    pub copied_part : Part none reserved heap start front size writer (OnRecord front size)
    copied_part = record {
      apart = told.apart;
      within = λ a st f l. let q = told.space.lies a st f (omega (arith, told.space.order)) in omega (arith, q, told.space.order);
      stands = λ at f l o. (meets_copy at f l (on_record at l o)).0;
      on = λ at f l o. (meets_copy at f l (on_record at l o)).1;
    }

    pub copied_start : OnRecord front size start
    copied_start = told.space.first

  -- ---- from LOW up

  abbrev closed : ℕ → Bool
  closed = λ p. is_protected epoch (page p)

  abbrev unreserved : ℕ → ℕ
  unreserved = λ a. 0

  open_page : (p : ℕ) → is_protected epoch (page p) ≡ false → page p ≡ Open epoch
  open_page p c = by_word (page p) refl c
    where
      by_word : (w : PageWord) → page p ≡ w → is_protected epoch w ≡ false → page p ≡ Open epoch
      by_word Unset e q = absurd (cc)
      by_word (Open d) e q = ⊎_elim (λ (s : d ≡ epoch). rw (e, s) refl) (λ (n : d ≢ epoch). absurd (let z : false ≡ true = sym (rw (ne_eqb d epoch n) at q) in cc)) (cases_eq d epoch)
      by_word (Scanning d k) e q = absurd (cc)

  closed_page : (p : ℕ) → is_protected epoch (page p) ≡ true → page p ≢ Open epoch
  closed_page p c e = let q : is_protected epoch (Open epoch) ≡ true = rw e at c in let z : false ≡ true = rw (eq-eqb epoch epoch refl) at q in absurd (cc)

  -- on a closed page no record begins
  none_closed : (at b : ℕ) → low ≤ at → at < end → page (at / 64) ≢ Open epoch → at ≤ b → b < 64 * (at / 64 + 1) → size b ≡ 0
  none_closed at b f l c a n = ⊎_elim
      (λ (st : 0 < size b).
      let same : b / 64 ≡ at / 64 = omega arith in
      let within : b < end = omega (arith, told.end_aligned) in
      let open_ = told.space.new.opened b b st (omega arith) within (omega arith) (omega arith) in
      absurd (c (ap page (sym same) ∙ open_)))
      (λ (st : size b ≤ 0). let q : size b ≡ 0 = omega arith in q)
      (cases_lt 0 (size b))

  -- where no record begins and none reaches past, none begins on the rest of the page
  none_blank : (n at b : ℕ) → low ≤ at → at < end → IsClear size at → size at ≡ 0 → b ≤ at + n → at ≤ b → b < 64 * (at / 64 + 1) → size b ≡ 0
  none_blank zero at b f l clear z m a p = let q : b ≡ at = omega arith in ap size q ∙ z
  none_blank (suc n) at b f l clear z m a p = ⊎_elim
      (λ (st : 0 < size b). ⊎_elim
      (λ (e : b ≡ at). ap size e ∙ z)
      (λ (d : b ≢ at).
      let inner : b % 64 ≢ 0 = (λ e. let q : b ≡ 64 * (b / 64) = omega arith in omega arith) in
      let within : b < end = omega (arith, told.end_aligned) in
      let o = told.space.new.prior b st (omega arith) within inner in
      ⊎_elim
      (λ (c : o.0 < at). absurd (let q = clear o.0 o.1 c in omega (arith, q, o.2)))
      (λ (c : at ≤ o.0). absurd (let q = none_blank n at o.0 f l clear z (omega (arith, o.1, o.2)) c (omega (arith, o.1, o.2)) in omega (arith, q, o.1)))
      (cases_lt o.0 at))
      (cases_eq b at))
      (λ (st : size b ≤ 0). let q : size b ≡ 0 = omega arith in q)
      (cases_lt 0 (size b))

  -- past the page the walk is clear where no record begins on its rest
  clear_after : (at : ℕ) → IsClear size at → ((b : ℕ) → at ≤ b → b < 64 * (at / 64 + 1) → size b ≡ 0) → IsClear size (64 * (at / 64 + 1))
  clear_after at clear empty a st l = ⊎_elim
      (λ (c : a < at). let q = clear a st c in omega arith)
      (λ (c : at ≤ a). absurd (let q = empty a c l in omega arith))
      (cases_lt a at)

  clear_past : (at : ℕ) → IsClear size at → 0 < size at → IsClear size (at + size at)
  clear_past at clear st a sa l = ⊎_elim
      (λ (c : a < at). let q = clear a sa c in omega arith)
      (λ (c : at ≤ a). ⊎_elim
      (λ (e : a ≡ at). let q : size a ≡ size at = ap size e in omega arith)
      (λ (d : a ≢ at). absurd (let q = told.apart at a st sa (omega arith) in omega arith))
      (cases_eq a at))
      (cases_lt a at)

  meets_new : (at : ℕ) → low ≤ at → at < end → IsClear size at → WalkComesTo size at
      → MetAt end size writer at (meets closed unreserved heap end at) × OnWalk size (next_place end at (meets closed unreserved heap end at))
  meets_new at f l clear comes = ⊎_elim
      (λ (c : is_protected epoch (page (at / 64)) ≡ true).
      let empty = λ (b : ℕ) (a : at ≤ b) (p : b < 64 * (at / 64 + 1)). none_closed at b f l (closed_page (at / 64) c) a p in
      rw (meets_closed closed unreserved heap end at l c) (empty, (clear_after at clear empty, page_next)))
      (λ (c : is_protected epoch (page (at / 64)) ≡ false). ⊎_elim
      (λ (st : 0 < size at).
      let w = told.new_written at st f l in
      rw (meets_record closed unreserved heap end at l (size at) c refl (told.says at st (omega (arith, told.space.order)) l w)) ((st, refl, w), (clear_past at clear st, inr (at, st, refl))))
      (λ (st : size at ≤ 0).
      let z : size at ≡ 0 = omega arith in
      let free : (a : ℕ) → 0 < size a → (at < a) ⊎ (a + size a ≤ at) = λ a sa. beside a sa z in
      let blank = told.space.new.blank at f l comes (open_page (at / 64) c) free in
      let empty = λ (b : ℕ) (a : at ≤ b) (p : b < 64 * (at / 64 + 1)). none_blank (b - at) at b f l clear z (omega arith) a p in
      rw (meets_blank closed unreserved heap end at l c refl blank) (empty, (clear_after at clear empty, page_next)))
      (cases_lt 0 (size at)))
      (cases_Bool (is_protected epoch (page (at / 64))))
    where
      page_next : WalkComesTo size (64 * (at / 64 + 1))
      page_next = inl (omega arith)

      beside : (a : ℕ) → 0 < size a → size at ≡ 0 → (at < a) ⊎ (a + size a ≤ at)
      beside a sa z = ⊎_elim
          (λ (c : a < at). inr (clear a sa c))
          (λ (c : at ≤ a). ⊎_elim (λ (e : a ≡ at). absurd (let q : size a ≡ size at = ap size e in omega arith)) (λ (d : a ≢ at). inl (omega arith)) (cases_eq a at))
          (cases_lt a at)

  pub new_part : Part closed unreserved heap low end size writer (OnWalk size)
  new_part = record {
    apart = told.apart;
    within = λ a st f l. let q = told.space.lies a st (omega (arith, told.space.order)) l in omega (arith, q, told.space.order);
    stands = λ at f l o. (meets_new at f l o.0 o.1).0;
    on = λ at f l o. (meets_new at f l o.0 o.1).1;
  }
