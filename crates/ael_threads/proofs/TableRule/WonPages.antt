-- Pages won: whose they are after a step.
use Rattle.std.proofs.Common.{◌≡◌, ◌≢◌, ℕ, Bool, true, false, cond, ◌==◌, ◌&&◌, Option, Some, None, List, refl, ◌∙◌, ap, subst, ⊎_elim, ne_eqb, eq-eqb}
use Rattle.std.proofs.lemmas.Bool.{cases_eq}
use Rattle.gc_worker.specs.Laws.Step.{IsOut, WinsOne}
use Rattle.gc_worker.specs.Steps.Turned.{PageWon}
use Rattle.ael_threads.specs.declared.view.WonClaim.{WonClaim}
use Rattle.ael_threads.specs.Histories.{Each, IsOnce}
use Rattle.ael_threads.specs.Rule.{Won, won_page}
use Rattle.ael_threads.specs.Seats.{claim_by_win, with_claim}
use Rattle.ael_threads.proofs.Lists.Elements.{each_map}

abbrev same_page : WonClaim → WonClaim → Bool
same_page c d = (c.page == d.page) && (c.epoch == d.epoch)

page_is : (c : WonClaim) → same_page c c ≡ true
page_is c = rw (eq-eqb c.page c.page refl, eq-eqb c.epoch c.epoch refl) refl

page_is_not : (c d : WonClaim) → c ≢ d → same_page c d ≡ false
page_is_not c d other = ⊎_elim
    (λ (e : c.page ≡ d.page). ⊎_elim
    (λ (f : c.epoch ≡ d.epoch). absurd (other (λ i. record { page = e i; epoch = f i })))
    (λ (n : c.epoch ≢ d.epoch). rw (ne_eqb c.epoch d.epoch n) (and_false (c.page == d.page)))
    (cases_eq c.epoch d.epoch))
    (λ (n : c.page ≢ d.page). rw (ne_eqb c.page d.page n) refl)
    (cases_eq c.page d.page)
  where
    and_false : (b : Bool) → (b && false) ≡ false
    and_false true = refl
    and_false false = refl

-- whose a page is once the seat id has won this one
abbrev pub won_after : (WonClaim → ℕ) → ℕ → Option PageWon → WonClaim → ℕ
won_after winner id None c = winner c
won_after winner id (Some w) c = cond (same_page c (claim_by_win w)) id (winner c)

-- what a step does to the pages that are out
pub record LeavesPagesOut (n : ℕ) (words later : List ℕ) (w : Option PageWon) : Type 0 where
  pub kept : (p : PageWon) → IsOut n words p → IsOut n later p
  pub wins : WinsOne n words later w

module _ (n : ℕ) (words later : List ℕ) (winner : WonClaim → ℕ) (id : ℕ) where
  -- a page that is out stays whose it is
  won_kept : (w : Option PageWon) → LeavesPagesOut n words later w → (c : WonClaim) → IsOut n words (won_page c) → won_after winner id w c ≡ winner c
  won_kept None h c out = refl
  won_kept (Some w) h c out = ap (λ (b : Bool). cond b id (winner c)) (page_is_not c (claim_by_win w) (λ e. h.wins.0 (subst (λ (z : WonClaim). IsOut n words (won_page z)) e out)))

  pub claims_kept : (j : ℕ) (w : Option PageWon) → LeavesPagesOut n words later w → (cs : List WonClaim) → Each (Won n words winner j) cs → Each (Won n later (won_after winner id w) j) cs
  claims_kept j w h = each_map (Won n words winner j) (Won n later (won_after winner id w) j)
      (λ c t. record { owns = won_kept w h c t.out ∙ t.owns; out = h.kept (won_page c) t.out })

  pub claims_more : (w : Option PageWon) → LeavesPagesOut n words later w → (cs : List WonClaim) → Each (Won n words winner id) cs → Each (Won n later (won_after winner id w) id) (with_claim cs w)
  claims_more None h cs k = claims_kept id None h cs k
  claims_more (Some w) h cs k = (record { owns = ap (λ (b : Bool). cond b id (winner (claim_by_win w))) (page_is (claim_by_win w)); out = h.wins.1 }, claims_kept id (Some w) h cs k)

  pub once_more : (w : Option PageWon) → LeavesPagesOut n words later w → (cs : List WonClaim) → Each (Won n words winner id) cs → IsOnce cs → IsOnce (with_claim cs w)
  once_more None h cs k o = o
  once_more (Some w) h cs k o = (each_map (Won n words winner id) (λ c. c ≢ claim_by_win w) (λ c t e. h.wins.0 (subst (λ (z : WonClaim). IsOut n words (won_page z)) e t.out)) cs k, o)
