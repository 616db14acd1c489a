-- The walks over a space whose new records lie on the pages of one epoch, or of none, and those of a dump.
use Rattle.std.proofs.Common.{◌≡◌, ◌≢◌, ℕ, zero, suc, ◌+◌, ◌-◌, ◌*◌, ◌<◌, ◌≤◌, Bool, true, false, List, [], ◌++◌, Option, Some, None, refl, sym, ap, ◌∙◌, subst, arith, ⊎_elim, ◌⊎◌, inl, inr, get_or, length, map}
use Rattle.std.specs.Prelude.{Result, Ok, Err, IfOk, ◌↔◌}
use Rattle.std.proofs.Math.Path.{fun_ext}
use Rattle.std.specs.List.{Contains}
use Rattle.std.proofs.lemmas.Bool.{cases_eq, cases_lt, eq-eqb, le-ltb, lt-ltb, ne_eqb}
use Rattle.std.proofs.lemmas.List.{append-nil, get_or-map, length-map}
use Rattle.std.proofs.lemmas.List.Elements.{Contains-append_cases, Contains-append_left, Contains-append_right, Contains-get_or}
use Rattle.space_map.specs.declared.spaces.TheConstants.{MOST_PAGES}
use Rattle.space_map.specs.declared.page_word.PageWord.{PageWord}
use Rattle.space_map.specs.declared.page_word.PageWord.TheVariants.{Unset, Open, Scanning}
use Rattle.space_map.specs.Spaces.{space_start, to_space}
use Rattle.heap_state.specs.Kept.{reserved_in}
use Rattle.heap_state.specs.Meaning.Dump.{Dump}
use Rattle.heap_state.specs.Meaning.Represents.{IsCopying, IsInHeap, IsInOrder, IsWalkedSpace}
use Rattle.heap_state.specs.Memory.Era.{era_of, from_space, memory_of}
use Rattle.heap_state.specs.Memory.Table.{Table}
use Rattle.heap_state.specs.Memory.Walk.{AtEnd, Nothing, Walked, is_closed_before, meets, next_place, old_walk_in, walk, walk_in, walk_space}
use Rattle.heap_audit.specs.Breaks.{BreaksAt, BreaksNow, BreaksOld, BreaksSpace, break_in}
use Rattle.heap_audit.specs.Firsts.{TellsFirst, least}
use Rattle.heap_audit.specs.Told.{extent_of}
use Rattle.heap_audit.specs.declared.told_heap.Extent.{Extent}
use Rattle.heap_audit.specs.Walks.{BreaksOver, break_on, epoch_before, is_closed_in, space_walked, walk_on, walked}
use Rattle.heap_audit.specs.declared.walks.RecordAt.{RecordAt}
use Rattle.heap_audit.specs.declared.walks.stretch.Stretch.TheVariants.{Copies, New}
use Rattle.heap_audit.proofs.WalkedSpaces.Leasts.{first_least, first_of, first_same}
use Rattle.heap_audit.proofs.WalkedSpaces.StretchWalks.{walked_lie}

-- ---- where no page is open

module _ (reserved heap : ℕ → ℕ) (end : ℕ) where
  abbrev all : ℕ → Bool
  all = λ p. true

  passed : (at : ℕ) → (meets all reserved heap end at ≡ AtEnd) ⊎ (meets all reserved heap end at ≡ Nothing)
  passed at = ⊎_elim (λ (l : at < end). inr (rw (lt-ltb at end l) refl)) (λ (l : end ≤ at). inl (rw (le-ltb at end l) refl)) (cases_lt at end)

  pub none_walked : (turns at : ℕ) → walk turns all reserved heap end at ≡ []
  unfolding walk
  none_walked zero at = refl
  none_walked (suc n) at = ⊎_elim
      (λ (e : meets all reserved heap end at ≡ AtEnd). rw e (none_walked n end))
      (λ (e : meets all reserved heap end at ≡ Nothing). rw e (none_walked n (next_place end at Nothing)))
      (passed at)

  pub none_broken : (turns at : ℕ) → break_in turns all reserved heap end at ≡ None
  unfolding break_in
  none_broken zero at = refl
  none_broken (suc n) at = ⊎_elim
      (λ (e : meets all reserved heap end at ≡ AtEnd). rw e refl)
      (λ (e : meets all reserved heap end at ≡ Nothing). rw e (none_broken n (next_place end at Nothing)))
      (passed at)

-- a page is closed in the epoch before where it is not open in that epoch
closed_before : (epoch : ℕ) (w : PageWord) → is_closed_in (epoch_before epoch) w ≡ is_closed_before epoch w
closed_before zero Unset = refl
closed_before zero (Open e) = let n : e + 1 ≢ 0 = (λ q. omega arith) in sym (rw (ne_eqb (e + 1) 0 n) refl)
closed_before zero (Scanning e k) = refl
closed_before (suc n) Unset = refl
closed_before (suc n) (Open e) = ⊎_elim
    (λ (s : e ≡ n). rw (eq-eqb e n s, eq-eqb (e + 1) (suc n) (omega arith)) refl)
    (λ (d : e ≢ n). rw (ne_eqb e n d, ne_eqb (e + 1) (suc n) (λ q. d (omega arith))) refl)
    (cases_eq e n)
closed_before (suc n) (Scanning e k) = refl

-- a space begins at the heap's first word, or behind the other one
pub starts : (n space : ℕ) → space < 2 → ((space ≡ 0) × (space_start n space ≡ 0)) ⊎ ((space ≡ 1) × (space_start n space ≡ 64 * n))
starts n zero few = inl (refl, omega arith)
starts n (suc zero) few = inr (refl, omega arith)
starts n (suc (suc space)) few = absurd (omega arith)

-- the parts of a space that is in order follow one another, and end in the heap
pub extent_fits : (t : Table) (n space : ℕ) → t.pages ≡ n → n ≤ MOST_PAGES → space < 2 → IsInOrder t space
    → ((t.area space).front ≤ (t.area space).low) × ((t.area space).low ≤ 64 * t.in_use space) × (space_start n space + 64 * t.in_use space ≤ 128 * n)
    × (t.in_use space ≤ MOST_PAGES) × (128 * n ≤ 128 * MOST_PAGES)
extent_fits t n space pages few one ordered =
    let s = starts n space one in
    (ordered.area.0, ordered.area.1, omega (arith, s, ordered.size, pages), omega (arith, ordered.size, pages), omega arith)

module _ (d : Dump) where
  abbrev epoch : ℕ
  epoch = d.table.gate.epoch

  abbrev closed_then : ℕ → Bool
  closed_then p = is_closed_in (epoch_before epoch) (d.table.page p)

  abbrev closed_there : ℕ → Bool
  closed_there p = is_closed_before epoch (d.table.page p)

  passes_before : closed_then ≡ closed_there
  passes_before = fun_ext (λ p. closed_before epoch (d.table.page p))

  -- ---- the lists

  pub walked_old : space_walked d (epoch_before epoch) (from_space epoch) ≡ old_walk_in d.table d.kept
  walked_old =
      ap (λ (passes : ℕ → Bool). walk_space passes (reserved_in d.kept) d.table.heap (era_of d.table).old_start (memory_of d.table).old_front
      (memory_of d.table).old_low ((era_of d.table).old_start + (era_of d.table).old_span)) passes_before

  -- ---- breaks

  abbrev over : (ℕ → Bool) → ℕ → Type 0
  over passes a = BreaksSpace passes (reserved_in d.kept) d.table.heap (era_of d.table).old_start (memory_of d.table).old_front (memory_of d.table).old_low
      ((era_of d.table).old_start + (era_of d.table).old_span) a

  breaks_old : (a : ℕ) → BreaksOver d (epoch_before epoch) (from_space epoch) a → BreaksOld d a
  breaks_old a b = subst (λ (passes : ℕ → Bool). over passes a) passes_before b

  old_breaks : (a : ℕ) → BreaksOld d a → BreaksOver d (epoch_before epoch) (from_space epoch) a
  old_breaks a b = subst (λ (passes : ℕ → Bool). over passes a) (sym passes_before) b

  pub first_old : (x : Option ℕ) → TellsFirst (λ a. BreaksOver d (epoch_before epoch) (from_space epoch) a → ⊥) x → TellsFirst (λ a. BreaksOld d a → ⊥) x
  first_old x first = first_same (λ a. BreaksOver d (epoch_before epoch) (from_space epoch) a → ⊥) (λ a. BreaksOld d a → ⊥) x
      (λ a apart b. apart (old_breaks a b)) (λ a apart b. apart (breaks_old a b)) first

  -- the first break of both walks, while records are copied, or of the one
  pub both_breaks : (x y : Option ℕ) → TellsFirst (λ a. BreaksNow d a → ⊥) x → TellsFirst (λ a. BreaksOld d a → ⊥) y → IsCopying d.table → TellsFirst (λ a. BreaksAt d a → ⊥) (least x y)
  both_breaks x y now old copying = first_same (λ a. (BreaksNow d a → ⊥) × (BreaksOld d a → ⊥)) (λ a. BreaksAt d a → ⊥) (least x y)
      (λ a apart b. ⊎_elim apart.0 (λ o. apart.1 o.1) b)
      (λ a apart. (λ b. apart (inl b), λ b. apart (inr (copying, b))))
      (first_least (λ a. BreaksNow d a → ⊥) (λ a. BreaksOld d a → ⊥) x y now old)

  pub now_breaks : (x : Option ℕ) → TellsFirst (λ a. BreaksNow d a → ⊥) x → (IsCopying d.table → ⊥) → TellsFirst (λ a. BreaksAt d a → ⊥) x
  now_breaks x now traced = first_same (λ a. BreaksNow d a → ⊥) (λ a. BreaksAt d a → ⊥) x
      (λ a apart b. ⊎_elim apart (λ o. traced o.0) b)
      (λ a apart b. apart (inl b))
      now

  -- ---- where records lie

  pub lies_in_space : (opened : Option ℕ) (space : ℕ) (w : Walked) → IsInOrder d.table space → Contains (space_walked d opened space) w
      → (space_start d.table.pages space ≤ w.at) × (w.at < space_start d.table.pages space + 64 * d.table.pages)
  lies_in_space opened space w order has = ⊎_elim
      (λ h. let l = walked_lie (λ p. false) (reserved_in d.kept) d.table.heap (extent_of d.table space).front ((extent_of d.table space).front - space_start d.table.pages space) (space_start d.table.pages space) w h in
      (l.0, omega (arith, l.1, order.area, order.size)))
      (λ h. let l = walked_lie (λ p. is_closed_in opened (d.table.page p)) (λ a. 0) d.table.heap (extent_of d.table space).end ((extent_of d.table space).end - (extent_of d.table space).low) (extent_of d.table space).low w h in
      (omega (arith, l.0), omega (arith, l.1, order.size)))
      (Contains-append_cases _ _ w has)

  module _ (ordered : (space : ℕ) → IsWalkedSpace d.table space → IsInOrder d.table space) where
    abbrev n : ℕ
    n = d.table.pages

    pub now_lies : (w : Walked) → Contains (walk_in d.table d.kept) w → (space_start n (to_space epoch) ≤ w.at) × (w.at < space_start n (to_space epoch) + 64 * n)
    now_lies w has = lies_in_space (Some epoch) (to_space epoch) w (ordered (to_space epoch) (inl refl)) has

    pub old_lies : IsCopying d.table → (w : Walked) → Contains (old_walk_in d.table d.kept) w → (space_start n (from_space epoch) ≤ w.at) × (w.at < space_start n (from_space epoch) + 64 * n)
    old_lies copying w has = lies_in_space (epoch_before epoch) (from_space epoch) w (ordered (from_space epoch) (inr (copying, refl))) (rw walked_old has)

    pub lies_in_heap : (w : Walked) → IsInHeap d w → w.at < 128 * n
    lies_in_heap w (inl now) = let l = now_lies w now in let s = starts n (to_space epoch) (omega arith) in omega (arith, l, s)
    lies_in_heap w (inr old) = let l = old_lies old.0 w old.1 in let s = starts n (from_space epoch) (omega arith) in omega (arith, l, s)

    -- no record is in both walks
    pub in_one_walk : (w : Walked) → Contains (walk_in d.table d.kept) w → IsCopying d.table → Contains (old_walk_in d.table d.kept) w → ⊥
    in_one_walk w now copying old =
        let l = now_lies w now in
        let m = old_lies copying w old in
        let s = starts n (to_space epoch) (omega arith) in
        let t = starts n (from_space epoch) (omega arith) in
        omega (arith, l, m, s, t)

-- ---- the walks over both parts of a space

module _ (d : Dump) (space : ℕ) where
  abbrev extent : Extent
  extent = extent_of d.table space

  abbrev copies : List Walked
  copies = walk_on d Copies extent.start extent.front

  pub walked_none : space_walked d None space ≡ copies
  walked_none = ap (λ (ws : List Walked). copies ++ ws) (none_walked (λ a. 0) d.table.heap extent.end (extent.end - extent.low) extent.low) ∙ append-nil copies

  abbrev LowBreaks : ℕ → Type 0
  LowBreaks a = break_on d Copies extent.start extent.front ≡ Some a

  abbrev HighBreaks : ℕ → ℕ → Type 0
  HighBreaks epoch a = break_on d (New epoch) extent.low extent.end ≡ Some a

  pub breaks_none : (below : Option ℕ) → below ≡ break_on d Copies extent.start extent.front → TellsFirst (λ a. BreaksOver d None space a → ⊥) below
  breaks_none below is = first_same (λ a. LowBreaks a → ⊥) (λ a. BreaksOver d None space a → ⊥) below
      (λ a apart b. ⊎_elim apart (λ e. absurd (let n = none_broken (λ x. 0) d.table.heap extent.end (extent.end - extent.low) extent.low in let z : None ≡ Some a = sym n ∙ e in cc)) b)
      (λ a apart b. apart (inl b))
      (subst (λ (o : Option ℕ). TellsFirst (λ a. LowBreaks a → ⊥) o) (sym is) (first_of (break_on d Copies extent.start extent.front)))

  pub breaks_some : (epoch : ℕ) (below above : Option ℕ) → below ≡ break_on d Copies extent.start extent.front → above ≡ break_on d (New epoch) extent.low extent.end
      → TellsFirst (λ a. BreaksOver d (Some epoch) space a → ⊥) (least below above)
  breaks_some epoch below above is there = first_same (λ a. (LowBreaks a → ⊥) × (HighBreaks epoch a → ⊥)) (λ a. BreaksOver d (Some epoch) space a → ⊥) (least below above)
      (λ a apart b. ⊎_elim apart.0 apart.1 b)
      (λ a apart. (λ b. apart (inl b), λ b. apart (inr b)))
      (first_least (λ a. LowBreaks a → ⊥) (λ a. HighBreaks epoch a → ⊥) below above
      (subst (λ (o : Option ℕ). TellsFirst (λ a. LowBreaks a → ⊥) o) (sym is) (first_of (break_on d Copies extent.start extent.front)))
      (subst (λ (o : Option ℕ). TellsFirst (λ a. HighBreaks epoch a → ⊥) o) (sym there) (first_of (break_on d (New epoch) extent.low extent.end))))

-- ---- what was found in both

module _ (d : Dump) (rs : List RecordAt) where
  abbrev BothWalked : Type 0
  BothWalked = map walked rs ≡ walk_in d.table d.kept ++ old_walk_in d.table d.kept

  abbrev NowWalked : Type 0
  NowWalked = map walked rs ≡ walk_in d.table d.kept

  pub both_found : IsCopying d.table → BothWalked → (w : Walked) → Contains (map walked rs) w ↔ IsInHeap d w
  both_found copying is w = (
    λ has. ⊎_elim (λ now. inl now) (λ old. inr (copying, old)) (Contains-append_cases (walk_in d.table d.kept) (old_walk_in d.table d.kept) w (subst (λ (ws : List Walked). Contains ws w) is has)),
    λ heap. subst (λ (ws : List Walked). Contains ws w) (sym is)
        (⊎_elim (λ now. Contains-append_left (walk_in d.table d.kept) (old_walk_in d.table d.kept) w now) (λ old. Contains-append_right (walk_in d.table d.kept) (old_walk_in d.table d.kept) w old.1) heap),
  )

  pub now_found : (IsCopying d.table → ⊥) → NowWalked → (w : Walked) → Contains (map walked rs) w ↔ IsInHeap d w
  now_found traced is w = (
    λ has. inl (subst (λ (ws : List Walked). Contains ws w) is has),
    λ heap. ⊎_elim (λ now. subst (λ (ws : List Walked). Contains ws w) (sym is) now) (λ old. absurd (traced old.0)) heap,
  )

  -- each record that was found begins in the heap
  pub found_within : (n : ℕ) → d.table.pages ≡ n → ((space : ℕ) → IsWalkedSpace d.table space → IsInOrder d.table space) → ((w : Walked) → Contains (map walked rs) w ↔ IsInHeap d w)
      → (k : ℕ) (z : RecordAt) → k < length rs → (get_or rs k z).at < 128 * n
  found_within n pages ordered found k z inside =
      let r = get_or rs k z in
      let few : k < length (map walked rs) = omega (arith, inside, length-map rs walked) in
      let has : Contains (map walked rs) (get_or (map walked rs) k (walked z)) = Contains-get_or (map walked rs) k (walked z) few in
      let same : get_or (map walked rs) k (walked z) ≡ walked r = get_or-map walked rs k z (walked z) inside in
      let lies = lies_in_heap d ordered (walked r) ((found (walked r)).0 (subst (λ (w : Walked). Contains (map walked rs) w) same has)) in
      omega (arith, lies, pages)

-- what holds of what a call gave holds with what follows from it
pub ok_with : {E : Type 0} (r : Result (Option ℕ) E) (P Q : Option ℕ → Type 0) → ((x : Option ℕ) → P x → Q x) → IfOk r P → IfOk r Q
ok_with (Ok x) P Q to p = to x p
ok_with (Err e) P Q to p = tt
