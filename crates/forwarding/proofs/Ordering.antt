-- What the machine does from the reserved address on.
use Rattle.std.proofs.Common.{◌≡◌, ℕ, zero, suc, ◌+◌, ◌-◌, ◌*◌, ◌<◌, ◌≤◌, ◌==◌, Bool, true, false, List, refl, ap, ◌∙◌, subst, arith, slice_index, if◌then◌else◌}
use Rattle.atom_store.specs.declared.reply.Reply.TheVariants.{Won, Lost}
use Rattle.std.proofs.lemmas.Bool.{lt-ltb, le-ltb, eq-eqb, ne_eqb}
use Rattle.atom_store.specs.Runs.{among, after_step}
use Rattle.space_map.specs.Table.{HeapWord}
use Rattle.forwarding.specs.declared.evac_stage.EvacStage.{EvacStage}
use Rattle.forwarding.specs.declared.evac_stage.EvacStage.TheVariants.{LoadsWord, StoresWord, StoresHeader, StoresCross, StoresForward, LoadsWeak, StoresLink, TakesWeak, Clears, Ended}
use Rattle.forwarding.specs.declared.reserved.Reserved.{Reserved}
use Rattle.forwarding.specs.Evacuation.{Evacuation, is_cell, size_of, wanted}
use Rattle.forwarding.specs.Taken.{evac_machine, crossed, copied, first_page, published, taken, told}
use Rattle.forwarding.specs.Theorems.{pages_begun, CopiesInOrder, EachCopiesInOrder, EndsAfter, LosesTry, TriesToLink, head_met, place, try_begins}

module _ (v : Evacuation) (r : Reserved) (met : ℕ → List ℕ) (begins : v.stage ≡ StoresHeader r) where
  -- after so many steps the machine is at this stage
  abbrev IsAt : ℕ → EvacStage → Type 0
  IsAt n x = among evac_machine v met n ≡ record v { stage = x }

  -- one step more
  abbrev then_at : EvacStage → ℕ → Evacuation
  then_at x n = after_step evac_machine (record v { stage = x }) (wanted (record v { stage = x })) (met n)

  step : (n : ℕ) (x : EvacStage) → IsAt n x → among evac_machine v met (suc n) ≡ then_at x n
  unfolding among
  step n x at = ap (λ z. after_step evac_machine z (wanted z) (met n)) at

  first : IsAt 0 (StoresHeader r)
  unfolding among
  first = λ i. record v { stage = begins i }

  abbrev word_at : ℕ → ℕ → ℕ
  word_at n i = slice_index (met n) (place v (HeapWord (v.addr + i)))

  loaded : (n i : ℕ) → IsAt n (LoadsWord r i) → IsAt (suc n) (StoresWord r (record { number = i; word = word_at n i }))
  loaded n i at = step n (LoadsWord r i) at

  next_word : (n i : ℕ) → i < r.kept.len → among evac_machine v met n ≡ record v { stage = copied r (i + 1) } → IsAt n (LoadsWord r (i + 1))
  next_word n i below at = at ∙ (rw (lt-ltb (i + 1) (size_of r.kept) (omega arith)) refl)

  -- the words below number i + 1 are copied after two steps more
  stored : (n i : ℕ) → IsAt n (LoadsWord r i) → among evac_machine v met (suc (suc n)) ≡ record v { stage = copied r (i + 1) }
  stored n i at = step (suc n) (StoresWord r (record { number = i; word = word_at n i })) (loaded n i at)

  -- the word of number i + 1 is loaded after 2 i + 1 steps
  word : (i : ℕ) → i < r.kept.len → IsAt (2 * i + 1) (LoadsWord r (i + 1))
  word zero below = next_word 1 0 below (step 0 (StoresHeader r) first)
  word (suc i) below =
      let n : ℕ = 2 * i + 1 in
      let later : suc (suc n) ≡ 2 * suc i + 1 = omega arith in
      let next : i + 1 + 1 ≡ suc i + 1 = omega arith in
      let P : ℕ → Type 0 = λ k. IsAt k (LoadsWord r (suc i + 1)) in
      let Q : ℕ → Type 0 = λ k. among evac_machine v met (suc (suc n)) ≡ record v { stage = copied r k } in
      subst P later (next_word (suc (suc n)) (suc i) below (subst Q next (stored n (i + 1) (word i (omega arith)))))

  -- after the words, the pages that begin in the copy
  after_words : (len : ℕ) → r.kept.len ≡ len → among evac_machine v met (2 * len + 1) ≡ record v { stage = crossed r (first_page r) }
  after_words zero is = step 0 (StoresHeader r) first ∙ rw (le-ltb 1 (size_of r.kept) (omega arith)) refl
  after_words (suc i) is =
      let n : ℕ = 2 * i + 1 in
      let later : suc (suc n) ≡ 2 * suc i + 1 = omega arith in
      let P : ℕ → Type 0 = λ k. among evac_machine v met k ≡ record v { stage = crossed r (first_page r) } in
      subst P later (stored n (i + 1) (word i (omega arith)) ∙ rw (le-ltb (i + 1 + 1) (size_of r.kept) (omega arith)) refl)

  -- so many pages are crossed
  after_pages : (j : ℕ) → j ≤ pages_begun r → among evac_machine v met (2 * r.kept.len + 1 + j) ≡ record v { stage = crossed r (first_page r + j) }
  after_pages zero within =
      let same : 2 * r.kept.len + 1 ≡ 2 * r.kept.len + 1 + 0 = omega arith in
      let page : first_page r ≡ first_page r + 0 = omega arith in
      let P : ℕ → Type 0 = λ k. among evac_machine v met k ≡ record v { stage = crossed r (first_page r + 0) } in
      let Q : ℕ → Type 0 = λ k. among evac_machine v met (2 * r.kept.len + 1) ≡ record v { stage = crossed r k } in
      subst P same (subst Q page (after_words r.kept.len refl))
  after_pages (suc j) within =
      let n : ℕ = 2 * r.kept.len + 1 + j in
      let later : suc n ≡ 2 * r.kept.len + 1 + suc j = omega arith in
      let page : first_page r + j + 1 ≡ first_page r + suc j = omega arith in
      let P : ℕ → Type 0 = λ k. among evac_machine v met k ≡ record v { stage = crossed r (first_page r + suc j) } in
      let Q : ℕ → Type 0 = λ k. among evac_machine v met (suc n) ≡ record v { stage = crossed r k } in
      let crosses : IsAt n (StoresCross r (first_page r + j)) =
      after_pages j (omega arith) ∙ rw (lt-ltb (64 * (first_page r + j)) (r.to + size_of r.kept) (omega arith)) refl in
      subst P later (subst Q page (step n (StoresCross r (first_page r + j)) crosses))

  -- a page that begins in the copy is crossed
  crosses : (page : ℕ) → r.to ≤ 64 * page → 64 * page < r.to + size_of r.kept
      → IsAt (2 * r.kept.len + 1 + (page - first_page r)) (StoresCross r page)
  crosses p from below =
      let behind : first_page r + (p - first_page r) ≡ p = omega arith in
      let P : ℕ → Type 0 = λ k. among evac_machine v met (2 * r.kept.len + 1 + (p - first_page r)) ≡ record v { stage = crossed r k } in
      subst P behind (after_pages (p - first_page r) (omega arith)) ∙ rw (lt-ltb (64 * p) (r.to + size_of r.kept) below) refl

  forwards : IsAt (2 * r.kept.len + 1 + pages_begun r) (StoresForward r)
  forwards =
      after_pages (pages_begun r) (omega arith)
      ∙ rw (le-ltb (64 * (first_page r + pages_begun r)) (r.to + size_of r.kept) (omega arith)) refl

  after_forward : among evac_machine v met (2 * r.kept.len + 2 + pages_begun r) ≡ record v { stage = published r }
  after_forward =
      let later : suc (2 * r.kept.len + 1 + pages_begun r) ≡ 2 * r.kept.len + 2 + pages_begun r = omega arith in
      let P : ℕ → Type 0 = λ k. among evac_machine v met k ≡ record v { stage = published r } in
      subst P later (step (2 * r.kept.len + 1 + pages_begun r) (StoresForward r) forwards)

  ends_after : (n : ℕ) → IsAt n (Clears r.to) → EndsAfter v r met n
  ends_after n at =
      let later : suc n ≡ n + 1 = omega arith in
      let P : ℕ → Type 0 = λ k. IsAt k (Ended r.to) in
      let ended : IsAt (n + 1) (Ended r.to) = subst P later (step n (Clears r.to) at) in
      record { clear = ap wanted at; ends = ap (λ z. told z.stage) ended }

  -- a record that is no cell
  clears : is_cell r.kept ≡ false → EndsAfter v r met (2 * r.kept.len + 2 + pages_begun r)
  clears plain = ends_after (2 * r.kept.len + 2 + pages_begun r) (after_forward ∙ ap (λ b. record v { stage = if b then LoadsWeak r.to else Clears r.to }) plain)

  -- a try to link a cell, after n steps
  abbrev head_at : ℕ → ℕ
  head_at n = head_met v met n

  weak_read : (n : ℕ) → IsAt n (LoadsWeak r.to) → IsAt (n + 1) (StoresLink r.to (head_at n))
  weak_read n at =
      let later : suc n ≡ n + 1 = omega arith in
      let P : ℕ → Type 0 = λ k. IsAt k (StoresLink r.to (head_at n)) in
      subst P later (step n (LoadsWeak r.to) at)

  link_stored : (n : ℕ) → IsAt n (LoadsWeak r.to) → IsAt (n + 2) (TakesWeak r.to (head_at n))
  link_stored n at =
      let later : suc (n + 1) ≡ n + 2 = omega arith in
      let P : ℕ → Type 0 = λ k. IsAt k (TakesWeak r.to (head_at n)) in
      subst P later (step (n + 1) (StoresLink r.to (head_at n)) (weak_read n at))

  -- what the exchange leads to, by whether it is won
  abbrev after_exchange : (n : ℕ) → Bool → Evacuation
  after_exchange n won = taken (record v { stage = TakesWeak r.to (head_at n) }) (if won then Won else Lost (head_at (n + 2)))

  weak_exchanged : (n : ℕ) (won : Bool) → IsAt n (LoadsWeak r.to) → (head_at (n + 2) == head_at n) ≡ won → among evac_machine v met (n + 3) ≡ after_exchange n won
  weak_exchanged n won at is =
      let later : suc (n + 2) ≡ n + 3 = omega arith in
      let P : ℕ → Type 0 = λ k. among evac_machine v met k ≡ after_exchange n (head_at (n + 2) == head_at n) in
      subst P later (step (n + 2) (TakesWeak r.to (head_at n)) (link_stored n at)) ∙ ap (after_exchange n) is

  tries_to_link : (n : ℕ) → IsAt n (LoadsWeak r.to) → TriesToLink v r met n
  tries_to_link n at = record {
    loads = ap wanted at;
    stores = ap wanted (weak_read n at);
    exchanges = ap wanted (link_stored n at);
    linked = λ same. ends_after (n + 3) (weak_exchanged n true at (eq-eqb (head_at (n + 2)) (head_at n) same));
  }

  tries : is_cell r.kept ≡ true → (try : ℕ) → ((before : ℕ) → before < try → LosesTry v r met before) → IsAt (try_begins r try) (LoadsWeak r.to)
  tries cell zero lost =
      let same : 2 * r.kept.len + 2 + pages_begun r ≡ try_begins r 0 = omega arith in
      let P : ℕ → Type 0 = λ k. IsAt k (LoadsWeak r.to) in
      subst P same (after_forward ∙ ap (λ b. record v { stage = if b then LoadsWeak r.to else Clears r.to }) cell)
  tries cell (suc try) lost =
      let n : ℕ = try_begins r try in
      let later : n + 3 ≡ try_begins r (suc try) = omega arith in
      let P : ℕ → Type 0 = λ k. IsAt k (LoadsWeak r.to) in
      subst P later (weak_exchanged n false (tries cell try (λ before below. lost before (omega (arith, below)))) (ne_eqb (head_at (n + 2)) (head_at n) (lost try (omega arith))))

  -- the word of number i + 1 is stored after 2 i + 2 steps
  stores : (i : ℕ) → i < r.kept.len → IsAt (2 * i + 2) (StoresWord r (record { number = i + 1; word = word_at (2 * i + 1) (i + 1) }))
  stores i below =
      let later : suc (2 * i + 1) ≡ 2 * i + 2 = omega arith in
      let P : ℕ → Type 0 = λ k. IsAt k (StoresWord r (record { number = i + 1; word = word_at (2 * i + 1) (i + 1) })) in
      subst P later (loaded (2 * i + 1) (i + 1) (word i below))

  pub in_order : CopiesInOrder v r met
  in_order = record {
    header = ap wanted first;
    loads = λ i below. ap wanted (word i below);
    stores = λ i below. ap wanted (stores i below);
    crosses = λ p from below. ap wanted (crosses p from below);
    forward = ap wanted forwards;
    clear = clears;
    link = λ cell try lost. tries_to_link (try_begins r try) (tries cell try lost);
  }

pub each_in_order : EachCopiesInOrder
each_in_order v r met begins = in_order v r met begins
