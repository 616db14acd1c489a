-- The worked configuration keeps the parts about pages, spaces and the gate.
use Rattle.std.proofs.Common.{◌≡◌, ◌≢◌, ℕ, ◌+◌, ◌/◌, ◌<◌, ◌≤◌, Some, refl, sym, ap, ◌∙◌, arith, ⊎_elim}
use Rattle.std.proofs.lemmas.Bool.{cases_eq, ne_eqb}
use Rattle.space_map.specs.declared.page_word.PageWord.{PageWord}
use Rattle.space_map.specs.declared.page_word.PageWord.TheVariants.{Unset, Open, Scanning}
use Rattle.space_map.specs.PageWord.{age_of}
use Rattle.heap_state.specs.Configuration.{team}
use Rattle.heap_state.specs.Functions.{put}
use Rattle.heap_state.specs.Invariant.Parts.OldSpace.{OldArea}
use Rattle.heap_state.specs.Invariant.Parts.Pages.{Shut, Quiet, Filling, Tracing, Aged, OldPages, ScannedBy}
use Rattle.heap_state.specs.Examples.Worked.{worked}
use Rattle.heap_state.specs.Known.{Team, Scan}
use Rattle.heap_state.proofs.Worked.Ghost.{worked_table, worked_era, size, writer, each_place}

abbrev pub page : ℕ → PageWord
page = worked_table.page

abbrev pub workers : Team
workers = team worked

-- the pages that have a word, for goals that compute
each_page : (P : ℕ → Type 0) → P 3 → P 4 → P 5 → P 6 → P 7 → P 8 → ((p : ℕ) → page p ≡ Unset → P p) → (p : ℕ) → P p
unfolding put
each_page P a b c d e f g p = ⊎_elim (λ (x : p ≡ 3). rw x a) (λ (n3 : p ≢ 3).
    ⊎_elim (λ (x : p ≡ 4). rw x b) (λ (n4 : p ≢ 4).
    ⊎_elim (λ (x : p ≡ 5). rw x c) (λ (n5 : p ≢ 5).
    ⊎_elim (λ (x : p ≡ 6). rw x d) (λ (n6 : p ≢ 6).
    ⊎_elim (λ (x : p ≡ 7). rw x e) (λ (n7 : p ≢ 7).
    ⊎_elim (λ (x : p ≡ 8). rw x f) (λ (n8 : p ≢ 8). g p (rw (ne_eqb p 3 n3, ne_eqb p 4 n4, ne_eqb p 5 n5, ne_eqb p 6 n6, ne_eqb p 7 n7, ne_eqb p 8 n8) refl))
    (cases_eq p 8)) (cases_eq p 7)) (cases_eq p 6)) (cases_eq p 5)) (cases_eq p 4)) (cases_eq p 3)

page_4 : page 4 ≡ Scanning 1 1
unfolding put
page_4 = refl

pub page_3 : page 3 ≡ Open 0
unfolding put
page_3 = refl

pub page_8 : page 8 ≡ Open 1
unfolding put
page_8 = refl

-- page 4 is not open
pub shut_4 : (p e : ℕ) → p ≡ 4 → page p ≡ Open e → ⊥
shut_4 p e q o = let r = sym page_4 ∙ (ap page (sym q) ∙ o) in absurd (cc)

pub shut : Shut worked_era 261 320 size writer page
shut = record {
  free = λ p l m. absurd (omega arith);
  held = λ b x st w l m o. place b st w x l m (λ e. shut_4 (x / 64) 1 e o);
  by = λ b x k st w l m s. place_by b st w x l m k s;
}
  where
    place : (b : ℕ) → 0 < size b → 0 < writer b → (x : ℕ) → b ≤ x → x < b + size b → (x / 64 ≡ 4 → ⊥) → ⊥
    place = each_place (λ b. 0 < writer b → (x : ℕ) → b ≤ x → x < b + size b → (x / 64 ≡ 4 → ⊥) → ⊥)
        (λ w x l m n. absurd (omega arith)) (λ w x l m n. absurd (omega arith)) (λ w x l m n. absurd (omega arith)) (λ w x l m n. n (omega arith))

    place_by : (b : ℕ) → 0 < size b → 0 < writer b → (x : ℕ) → b ≤ x → x < b + size b → (k : ℕ) → page (x / 64) ≡ Scanning 1 k → writer b ≡ k + 1
    place_by = each_place (λ b. 0 < writer b → (x : ℕ) → b ≤ x → x < b + size b → (k : ℕ) → page (x / 64) ≡ Scanning 1 k → writer b ≡ k + 1)
        (λ w x l m k s. absurd (omega arith)) (λ w x l m k s. absurd (omega arith)) (λ w x l m k s. absurd (omega arith))
        (λ w x l m k s. let e : x / 64 ≡ 4 = omega arith in let q = sym page_4 ∙ (ap page (sym e) ∙ s) in let r : 1 ≡ k = cc in omega arith)

-- nobody is behind, the board is open, and no page is full
pub quiet : Quiet worked_era 0 261 page
quiet = record { none = refl; board = page_8; full = λ p l m. absurd (omega arith) }

pub filling : Filling worked_era 0 261 page
filling = record { filling = λ p l m a. quiet }

pub tracing : Tracing worked_era 1 0 261 page
tracing = record { begun = omega arith; bottom = omega arith; top = omega arith; quiet = λ t. quiet; last = λ t. absurd (omega (arith, t)) }

pub aged : Aged worked_era page
unfolding put
aged = record {
  young = each_page (λ p. age_of (page p) ≤ 2) (omega arith) (omega arith) (omega arith) (omega arith) (omega arith) (omega arith) (λ p e. rw e (omega arith));
  board = omega arith;
}

pub old_pages : OldPages worked_era 0 page
old_pages = record { old = λ p l m. absurd (omega arith) }

pub scanned : ScannedBy worked_era 2 page workers.worker
unfolding put
scanned = record {
  scanned = λ p k e. each_page (λ p. (k : ℕ) → page p ≡ Scanning 1 k → (k < 2) × ((r : Scan) × ((workers.worker k).scan ≡ Some r) × (r.page ≡ p)))
      (λ k e. absurd (cc)) (λ k e. let q : 1 ≡ k = cc in rw (← q) (omega arith, (_, refl, refl))) (λ k e. absurd (cc)) (λ k e. absurd (cc)) (λ k e. absurd (cc)) (λ k e. absurd (cc))
      (λ p u k e. absurd (let q = sym u ∙ e in cc)) p k e;
}

pub old_area : OldArea worked_era 0 192
old_area = record { order = (omega arith, omega arith, omega arith) }
