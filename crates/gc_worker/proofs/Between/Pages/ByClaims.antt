-- A page's word becomes one of the epoch by a claim alone, and LOW rises at a flip alone.
use Rattle.std.proofs.Common.{◌≡◌, ℕ, ◌+◌, ◌<◌, ◌≤◌, ◌⊎◌, inl, inr, List, length, Option, Some, sym, ap, ◌∙◌, arith, ⊎_elim}
use Rattle.plain_state.specs.State.{Plain}
use Rattle.atom_store.specs.declared.step.Step.{Step}
use Rattle.atom_store.specs.Step.{words_after, reply_of}
use Rattle.space_map.specs.AreaWord.{decode_area}
use Rattle.space_map.specs.Spaces.{board_page, first_word, space_start, to_space}
use Rattle.space_map.specs.Table.{Area}
use Rattle.heap_state.specs.Configuration.{Configuration, table, era, memory}
use Rattle.heap_state.specs.Memory.Table.{word_in}
use Rattle.heap_laws.proofs.Steps.Answers.{areas_are_read}
use Rattle.gc_worker.specs.Workers.Held.{Held}
use Rattle.gc_worker.specs.Laws.Claims.{IsBelowLow, IsForCopies, IsOfEpoch, ComesByClaim, PagesAreOpenedByClaims, LowRisesAtFlips}
use Rattle.gc_worker.specs.Laws.Step.{Heap, read, held_at, WorkersStand, moved, epoch_of, FlipsWhereTold, StepKeeps}
use Rattle.gc_worker.specs.Steps.Turned.{PageWon, Told, Marks, told, won}
use Rattle.gc_worker.specs.Steps.Wanted.{wanted}
use Rattle.gc_worker.proofs.Words.Areas.{area_says, is_space}
use Rattle.gc_worker.proofs.Words.Eras.{board_is, start_is}
use Rattle.gc_worker.proofs.Workers.Members.{member}
use Rattle.gc_worker.proofs.Between.Pages.Claims.{of_now, for_copies_within}
use Rattle.gc_worker.proofs.Stages.Rounds.RoundWords.{page_age}
use Rattle.gc_worker.proofs.StepKeeps.{steps_keep}
use Rattle.gc_worker.proofs.Between.Pages.PageWords.{leaves}
use Rattle.gc_worker.proofs.Between.Pages.Leaving.{ByClaim, Same, New, Wins, LeavesPages}

-- ---- the law

-- a step keeps the epoch, or raises it by one
epoch_goes : (n : ℕ) (words later : List ℕ) (x : Held) (t : Told) → FlipsWhereTold n words later x t → (epoch_of n later ≡ epoch_of n words) ⊎ (epoch_of n later ≡ epoch_of n words + 1)
epoch_goes n words later x (Marks asked) is = inr (let a = is.epoch in let b = is.next in omega (arith, a, b))
epoch_goes n words later x _ is = inl is.epoch

module _ (h : Heap) (p o : Plain) (k : ℕ) (x : Held) (q : Step) (st : WorkersStand h p o) (l : k < length h.workers) (holds : held_at h k ≡ x) (asked : wanted x ≡ Some q) where
  abbrev c : Configuration
  c = read h

  abbrev later : List ℕ
  later = words_after q h.words

  abbrev w : Option PageWon
  w = won x (reply_of q h.words)

  went : LeavesPages c later w
  went = leaves c p st.stands k x (member h p o k x st l holds) q asked

  keeps : StepKeeps h p o k x q
  keeps = steps_keep h p o k x q st l holds asked

  now : (era c).epoch ≡ epoch_of h.pages h.words
  now = of_now h p o st

  -- LOW rises at a flip alone
  module _ (same : epoch_of h.pages later ≡ epoch_of h.pages h.words) (page : ℕ) (is : IsBelowLow h.pages later page) where
    no_higher : is.area.low ≤ ((table c).area (to_space (era c).epoch)).low
    no_higher = went.low is.area (ap (λ (e : ℕ). decode_area (word_in h.pages later (Area (to_space e)))) (now ∙ sym same) ∙ is.area_is)

    below_before : IsBelowLow h.pages h.words page
    below_before =
        let start = ap (λ (e : ℕ). space_start h.pages (to_space e)) same in
        let low = ap (λ (e : ℕ). ((table c).area (to_space e)).low) now in
        let from = is.from in
        let below = is.below in
        let falls = no_higher in
        record {
          area = (table c).area (to_space (epoch_of h.pages h.words));
          area_is = area_says c p st.stands (to_space (epoch_of h.pages h.words)) (is_space (epoch_of h.pages h.words));
          from = omega (arith, start, from);
          below = omega (arith, start, below, falls, low);
        }

  module _ (page : ℕ) (is : IsOfEpoch h.pages later page) where
    for_copies : epoch_of h.pages later ≡ epoch_of h.pages h.words → IsForCopies h.pages h.words page
    for_copies same = ⊎_elim (λ (board : page ≡ board_page h.pages). inl board) (λ (below : IsBelowLow h.pages later page). inr (below_before same page below)) is.for_copies

    -- no page of new records
    not_new : epoch_of h.pages later ≡ epoch_of h.pages h.words → (memory c).low ≤ first_word page → first_word page < (era c).board → ⊥
    not_new same high beside = ⊎_elim
        (λ (board : page ≡ board_page h.pages). let b = board_is c in omega (arith, board, b, beside))
        (λ (below : IsBelowLow h.pages later page).
        let low = (areas_are_read c p st.stands).now.low in
        let falls = no_higher same page below in
        let start = start_is c ∙ ap (λ (e : ℕ). space_start h.pages (to_space e)) (now ∙ sym same) in
        let under = below.below in
        omega (arith, high, low, falls, start, under))
        is.for_copies

    by : ByClaim c later w page → ComesByClaim h.pages h.words later w page
    by (Same age) =
        let young = st.stands.invariant.aged.young page in
        let before = page_age c page in
        let e = now in
        let word = is.word in
        let same : epoch_of h.pages later ≡ epoch_of h.pages h.words = ⊎_elim
        (λ (s : epoch_of h.pages later ≡ epoch_of h.pages h.words). s)
        (λ (s : epoch_of h.pages later ≡ epoch_of h.pages h.words + 1). absurd (omega (arith, young, e, before, word, age, s)))
        (epoch_goes h.pages h.words later x (told x (reply_of q h.words)) keeps.flips) in
        inl (same, record { for_copies = for_copies same; word = omega (arith, word, age, same) })
    by (New age high beside) =
        let e = now in
        let word = is.word in
        absurd (not_new (omega (arith, e, word, age)) high beside)
    by (Wins epoch wins age) =
        let word = is.word in
        let e : epoch ≡ epoch_of h.pages later = omega (arith, word, age) in
        inr (wins ∙ ap (λ (d : ℕ). Some (record { page = page; epoch = d })) e)

    comes : ComesByClaim h.pages h.words later w page
    comes = by (went.page page (for_copies_within (moved h k x q) _ _ keeps.stands page is.for_copies))

pub pages_are_opened_by_claims : PagesAreOpenedByClaims
pages_are_opened_by_claims h p o k x q page st l holds asked is = comes h p o k x q st l holds asked page is

pub low_rises_at_flips : LowRisesAtFlips
low_rises_at_flips h p o k x q page st l holds asked same is = below_before h p o k x q st l holds asked same page is
