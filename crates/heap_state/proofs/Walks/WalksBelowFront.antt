-- The walk below FRONT: it meets the records that nobody writes. If nobody writes at all, it meets each record once, in order, and
-- passes over no word.
use Rattle.std.proofs.Common.{◌≡◌, ℕ, zero, suc, ◌+◌, ◌-◌, ◌<◌, ◌≤◌, Bool, true, false, List, ◌∷◌, Some, slice_get, refl, sym, ap, ◌∙◌, arith, ⊎_elim}
use Rattle.std.specs.List.{Contains}
use Rattle.std.proofs.lemmas.Bool.{cases_lt}
use Rattle.std.proofs.lemmas.List.Elements.{All-contains}
use Rattle.space_map.specs.declared.page_word.PageWord.{PageWord}
use Rattle.heap_state.specs.Memory.Table.{IsFormed}
use Rattle.heap_state.specs.Configuration.{Configuration, era, memory, team}
use Rattle.heap_state.specs.Cycles.Copies.{copied_of, words_copied}
use Rattle.heap_state.specs.Invariant.Ghost.{Ghost}
use Rattle.heap_state.specs.Invariant.Inductive.{Invariant}
use Rattle.heap_state.specs.Kept.{kept_of, reserved_in}
use Rattle.heap_state.specs.Sums.{sum_of_sizes}
use Rattle.heap_state.specs.Memory.Walk.{Met, AtEnd, Nothing, Reserved, Record, Broken, meets, Walked, walk}
use Rattle.heap_state.proofs.Puts.{some_same, none≢some}
use Rattle.heap_state.proofs.Walks.InHeap.{told_now}
use Rattle.heap_state.proofs.Walks.Reserving.{tells}
use Rattle.heap_state.proofs.Walks.SpaceWalks.{SpaceSaysSizes, TellsReserved, OnRecord, copied_part, copied_start}
use Rattle.heap_state.proofs.Walks.Walking.{MetAt, Part, IsItem, item, walk_end, sound, complete}

module _ (start front low end epoch : ℕ) (size writer heap reserved : ℕ → ℕ) (page : ℕ → PageWord) (told : SpaceSaysSizes start front low end epoch size writer heap page)
    (tells_so : TellsReserved start front size writer reserved) where
  abbrev none : ℕ → Bool
  none = λ page. false

  part : Part none reserved heap start front size writer (OnRecord front size)
  part = copied_part start front low end epoch size writer heap page told reserved tells_so

  abbrev copies : ℕ → ℕ → List Walked
  copies turns at = walk turns none reserved heap front at

  begins : OnRecord front size start
  begins = copied_start start front low end epoch size writer heap page told reserved tells_so

  abbrev all : List Walked
  all = copies (front - start) start

  pub all_sound : (w : Walked) → Contains all w → IsItem start front size writer w
  all_sound w has = All-contains (IsItem start front size writer) all w (sound _ _ _ _ _ _ _ _ part (front - start) start (omega arith) begins) has

  pub all_complete : (a : ℕ) → start ≤ a → a < front → 0 < size a → writer a ≡ 0 → Contains all (item a (size a))
  all_complete a f l st w = let o = told.space.order in complete _ _ _ _ _ _ _ _ part (front - start) start a (omega arith) begins (omega (arith, o)) f l st w

  -- ---- if nobody writes

  module _ (quiet : (a : ℕ) → 0 < size a → writer a ≡ 0) where
    stands : (at : ℕ) → at < front → OnRecord front size at → 0 < size at
    stands at l o = ⊎_elim (λ (e : at ≡ front). absurd (omega (arith, e, l))) (λ (s : 0 < size at). s) o

    -- what is met at a record is that record
    met : (at : ℕ) → 0 < size at → (m : Met) → MetAt front size writer at m → m ≡ Record (size at)
    met at st AtEnd s = absurd s
    met at st Nothing s = absurd (let e = s at (omega arith) (omega arith) in omega (arith, e, st))
    met at st (Reserved z) s = absurd (let w = quiet at st in omega (arith, w, s))
    met at st (Record z) s = ap Record (sym s.1)
    met at st Broken s = absurd s

    meets_it : (at : ℕ) → start ≤ at → at < front → OnRecord front size at → meets none reserved heap front at ≡ Record (size at)
    meets_it at f l o = met at (stands at l o) (meets none reserved heap front at) (part.stands at f l o)

    goes_on : (n at : ℕ) → start ≤ at → at < front → OnRecord front size at → copies (suc n) at ≡ item at (size at) ∷ copies n (at + size at)
    unfolding walk
    goes_on n at f l o = rw (meets_it at f l o) refl

    next : (at : ℕ) → start ≤ at → at < front → OnRecord front size at → OnRecord front size (at + size at)
    next at f l o = told.space.next at f l (stands at l o)

    -- ---- no word is passed over

    total : (n at : ℕ) → start ≤ at → OnRecord front size at → at ≤ front → front ≤ at + n → at + sum_of_sizes (λ w. true) (copies n at) ≡ front
    unfolding walk
    total zero at f o l t = omega (arith, l, t)
    total (suc n) at f o l t = ⊎_elim
        (λ (b : at < front).
        let st = stands at b o in
        let w = part.within at st f b in
        let i = total n (at + size at) (omega (arith, f)) (next at f b o) w (omega (arith, t, st)) in
        ap (λ (xs : List Walked). at + sum_of_sizes (λ w. true) xs) (goes_on n at f b o) ∙ omega (arith, i))
        (λ (e : front ≤ at). ap (λ (xs : List Walked). at + sum_of_sizes (λ w. true) xs) (walk_end none reserved heap front (suc n) at e) ∙ omega (arith, e, l))
        (cases_lt at front)

    -- ---- each is met once

    -- what is met from a record on is not before it
    later_by : (n at b : ℕ) (w : Walked) → ((j : ℕ) → slice_get (copies n (at + size at)) j ≡ Some w → at + size at ≤ w.at)
        → slice_get (item at (size at) ∷ copies n (at + size at)) b ≡ Some w → at ≤ w.at
    later_by n at zero w rest q = let s = ap (λ (v : Walked). v.at) (some_same q) in omega (arith, s)
    later_by n at (suc b) w rest q = let i = rest b q in omega (arith, i)

    later : (n at b : ℕ) (w : Walked) → start ≤ at → OnRecord front size at → slice_get (copies n at) b ≡ Some w → at ≤ w.at
    unfolding walk
    later zero at b w f o e = none≢some e
    later (suc n) at b w f o e = ⊎_elim
        (λ (l : at < front). later_by n at b w (λ j q. later n (at + size at) j w (omega (arith, f)) (next at f l o) q) (sym (ap (λ (xs : List Walked). slice_get xs b) (goes_on n at f l o)) ∙ e))
        (λ (l : front ≤ at). none≢some (sym (ap (λ (xs : List Walked). slice_get xs b) (walk_end none reserved heap front (suc n) at l)) ∙ e))
        (cases_lt at front)

    same_by : (n at a b : ℕ) (v w : Walked) → v.at ≡ w.at → ((j : ℕ) (u : Walked) → slice_get (copies n (at + size at)) j ≡ Some u → at < u.at)
        → ((i j : ℕ) → slice_get (copies n (at + size at)) i ≡ Some v → slice_get (copies n (at + size at)) j ≡ Some w → i ≡ j)
        → slice_get (item at (size at) ∷ copies n (at + size at)) a ≡ Some v → slice_get (item at (size at) ∷ copies n (at + size at)) b ≡ Some w → a ≡ b
    same_by n at zero zero v w e behind rest p q = refl
    same_by n at zero (suc b) v w e behind rest p q = absurd (let s = ap (λ (u : Walked). u.at) (some_same p) in let i = behind b w q in omega (arith, s, i, e))
    same_by n at (suc a) zero v w e behind rest p q = absurd (let s = ap (λ (u : Walked). u.at) (some_same q) in let i = behind a v p in omega (arith, s, i, e))
    same_by n at (suc a) (suc b) v w e behind rest p q = ap suc (rest a b p q)

    same_place : (n at a b : ℕ) (v w : Walked) → start ≤ at → OnRecord front size at → slice_get (copies n at) a ≡ Some v → slice_get (copies n at) b ≡ Some w → v.at ≡ w.at → a ≡ b
    unfolding walk
    same_place zero at a b v w f o p q e = none≢some p
    same_place (suc n) at a b v w f o p q e = ⊎_elim
        (λ (l : at < front).
        let on = next at f l o in
        let g = goes_on n at f l o in
        same_by n at a b v w e
        (λ j u r. let i = later n (at + size at) j u (omega (arith, f)) on r in let st = stands at l o in omega (arith, i, st))
        (λ i j r s. same_place n (at + size at) i j v w (omega (arith, f)) on r s e)
        (sym (ap (λ (xs : List Walked). slice_get xs a) g) ∙ p) (sym (ap (λ (xs : List Walked). slice_get xs b) g) ∙ q))
        (λ (l : front ≤ at). none≢some (sym (ap (λ (xs : List Walked). slice_get xs a) (walk_end none reserved heap front (suc n) at l)) ∙ p))
        (cases_lt at front)

    -- ---- the whole walk

    pub all_total : start + sum_of_sizes (λ w. true) all ≡ front
    all_total = let o = told.space.order in total (front - start) start (omega arith) begins (omega (arith, o)) (omega (arith, o))

    pub all_once : (a b : ℕ) (v w : Walked) → slice_get all a ≡ Some v → slice_get all b ≡ Some w → v.at ≡ w.at → a ≡ b
    all_once a b v w p q e = same_place (front - start) start a b v w (omega arith) begins p q e

-- ---- of a configuration

module _ (c : Configuration) (g : Ghost) (formed : IsFormed c.pages c.words) (inv : Invariant (era c) (memory c) (team c) g) where
  abbrev start : ℕ
  start = (era c).start

  abbrev front : ℕ
  front = (memory c).front

  tells_all : TellsReserved start front g.size g.writer (reserved_in (kept_of c.workers))
  tells_all a f l st = tells (era c) (memory c) c.mutators c.workers g inv a st

  pub copied_sound : (w : Walked) → Contains (copied_of c) w → IsItem start front g.size g.writer w
  copied_sound =
      all_sound start front (memory c).low (start + (era c).span) (era c).epoch g.size g.writer (memory c).heap (reserved_in (kept_of c.workers)) (memory c).page (told_now c g formed inv) tells_all

  pub copied_complete : (a : ℕ) → start ≤ a → a < front → 0 < g.size a → g.writer a ≡ 0 → Contains (copied_of c) (item a (g.size a))
  copied_complete =
      all_complete start front (memory c).low (start + (era c).span) (era c).epoch g.size g.writer (memory c).heap (reserved_in (kept_of c.workers)) (memory c).page (told_now c g formed inv) tells_all

  -- ---- if nobody writes

  module _ (quiet : (a : ℕ) → 0 < g.size a → g.writer a ≡ 0) where
    pub copied_total : start + words_copied c ≡ front
    copied_total =
        all_total start front (memory c).low (start + (era c).span) (era c).epoch g.size g.writer (memory c).heap (reserved_in (kept_of c.workers)) (memory c).page (told_now c g formed inv) tells_all quiet

    pub copied_once : (a b : ℕ) (v w : Walked) → slice_get (copied_of c) a ≡ Some v → slice_get (copied_of c) b ≡ Some w → v.at ≡ w.at → a ≡ b
    copied_once =
        all_once start front (memory c).low (start + (era c).span) (era c).epoch g.size g.writer (memory c).heap (reserved_in (kept_of c.workers)) (memory c).page (told_now c g formed inv) tells_all quiet
