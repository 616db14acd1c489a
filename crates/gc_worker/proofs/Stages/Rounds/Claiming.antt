-- A round begins a claim.
use Rattle.std.proofs.Common.{◌≡◌, ◌≢◌, ℕ, ◌+◌, ◌/◌, ◌≤◌, Bool, true, false, cond, nat_eq, nat_lt, Some, None, refl, sym, ap, subst, ◌∙◌, arith}
use Rattle.std.proofs.lemmas.Bool.Decides.{nat_tests}
use Rattle.plain_state.specs.State.{Plain}
use Rattle.atom_store.specs.declared.reply.Reply.{Reply}
use Rattle.space_map.specs.declared.spaces.TheConstants.{LAST_WORKER}
use Rattle.space_map.specs.declared.page_word.PageWord.{PageWord}
use Rattle.space_map.specs.declared.page_word.PageWord.TheVariants as page_word
use Rattle.space_map.specs.PageWord.{PageFits, age_of}
use Rattle.space_map.specs.Spaces.{board_page, to_space, space_start}
use Rattle.page_slots.specs.declared.claim_stage.ClaimStage.{ClaimStage}
use Rattle.page_slots.specs.declared.claim_stage.ClaimStage.TheVariants.{LooksAtPlace, LooksAtGate}
use Rattle.page_slots.specs.Claim.{Claiming, begun}
use Rattle.page_slots.specs.Soundness.{FitsClaimStage, IsClaimGoing}
use Rattle.fault_duty.specs.declared.page_state.PageState.{PageState}
use Rattle.fault_duty.specs.declared.page_state.PageState.TheVariants.{Opened, Scanned, Waits, Past}
use Rattle.fault_duty.specs.declared.duty_stage.DutyStage.{DutyStage}
use Rattle.fault_duty.specs.declared.duty_stage.DutyStage.TheVariants.{Claims}
use Rattle.fault_duty.specs.Duty as duty
use Rattle.fault_duty.specs.Duty.{Round}
use Rattle.heap_state.specs.Configuration.{Configuration, Stands, era, memory, team}
use Rattle.heap_state.specs.Known.{Known}
use Rattle.heap_laws.specs.Composing.{ends_round}
use Rattle.heap_laws.specs.Scanning.Claims.{MayClaim, claiming, claim_by_word}
use Rattle.heap_laws.proofs.Steps.Composites.{claims_begin}
use Rattle.gc_worker.specs.declared.stage.back.Back.{Back}
use Rattle.gc_worker.specs.Steps.Goes.{Is, Goes}
use Rattle.gc_worker.specs.Workers.Held.{Held}
use Rattle.gc_worker.specs.Workers.Knows.{pass_at, knows, claim_at, epoch_at}
use Rattle.gc_worker.specs.Steps.Turned.{won_in}
use Rattle.gc_worker.proofs.Words.Eras.{board_is, start_is}
use Rattle.gc_worker.proofs.Stages.Rounds.NextRoundStage.{round, at, goes_on, same_pages}
use Rattle.gc_worker.proofs.Words.RowSteps.{Law, prepared}

-- ---- a page's word that waits is of an earlier epoch

waits_by : (found epoch : ℕ) (state : PageState) (same later : Bool) → nat_eq found epoch ≡ same → nat_lt epoch found ≡ later → (state ≡ Waits → ⊥)
    → cond same state (cond later Past Waits) ≡ Waits → found + 1 ≤ epoch
waits_by found epoch state true later is more other e = absurd (other e)
waits_by found epoch state false true is more other e = cc
waits_by found epoch state false false is more other e = grind (arith, nat_tests)

pub waits_earlier : (says : PageWord) (epoch : ℕ) → duty.state_of says epoch ≡ Waits → age_of says ≤ epoch
waits_earlier page_word.Unset epoch e = omega arith
waits_earlier (page_word.Open found) epoch e = waits_by found epoch Opened (nat_eq found epoch) (nat_lt epoch found) refl refl (λ z. cc) e
waits_earlier (page_word.Scanning found worker) epoch e = waits_by found epoch Scanned (nat_eq found epoch) (nat_lt epoch found) refl refl (λ z. cc) e

-- ---- the claim

module _ (c : Configuration) (p : Plain) (s : Stands c p) (k : ℕ) (y : Held) (d : Round) (back : Back) (stage : DutyStage) (is : Is c k (at c p s k y d back stage)) where
  abbrev x : Held
  x = at c p s k y d back stage

  -- the space of the round's epoch, where that is the current one
  pub start_now : d.epoch ≡ (era c).epoch → duty.to_start d ≡ (era c).start
  start_now now =
      ap (λ n. space_start n (to_space d.epoch)) (same_pages c p s k y d back stage is) ∙ ap (λ e. space_start c.pages (to_space e)) now ∙ sym (start_is c)

  -- the board's page
  pub board_now : board_page d.layout.pages ≡ (era c).board / 64
  board_now = let n = same_pages c p s k y d back stage is in let b = board_is c in omega (arith, n, b)

  module _ (page : ℕ) (says : PageWord) where
    abbrev claim : Claiming
    claim = begun d.layout page d.epoch d.worker says false

    abbrev first : Bool → ClaimStage
    first b = cond b LooksAtGate (LooksAtPlace 0)

    claim_same : (b : Bool) → nat_eq page (board_page d.layout.pages) ≡ b → Some (claim_by_word says page) ≡ claim_at claim (first b)
    claim_same true test = λ i. Some (record (claim_by_word says page) { looked = looked i })
      where
        none : ℕ
        none = 0

        looked : none ≡ cond (nat_eq page (board_page d.layout.pages)) none (LAST_WORKER + 1)
        looked = rw test refl
    claim_same false test = refl

    going : (b : Bool) → IsClaimGoing (first b)
    going true = tt
    going false = tt

    fits_first : (b : Bool) → nat_eq page (board_page d.layout.pages) ≡ b → FitsClaimStage claim (first b)
    fits_first true test = tt
    fits_first false test = (omega arith, refl, (let other : page ≢ board_page d.layout.pages = grind (arith, nat_tests) in other))

    -- what it then knows
    module _ (still : pass_at stage ≡ None) (own : epoch_at y.epoch (round c p s k y d back stage) stage ≡ d.epoch) where
      knows_claim : claiming (ends_round (knows x)) (claim_by_word says page) ≡ knows (at c p s k y d back (Claims claim))
      knows_claim = λ i. record (knows (at c p s k y d back (Claims claim))) { epoch = own i; pass = still i; claim = claim_same (nat_eq page (board_page d.layout.pages)) refl i }

      pub begins : (reply : Reply) → MayClaim (era c) (memory c) (team c) k page says → duty.state_of says d.epoch ≡ Waits → PageFits says
          → page ≤ board_page d.layout.pages → duty.taken_at (round c p s k y d back stage) stage reply ≡ round c p s k y d back (Claims claim)
          → won_in stage reply ≡ None → Goes c p s k None x reply
      begins reply may waits fits inside taken none =
          let sound = is.fits.stage.0.sound in
          goes_on c p s k y d back stage is None reply (Claims claim) s.ghost taken refl none
          (record {
            layout = refl;
            epoch = refl;
            worker = refl;
            going = going (nat_eq page (board_page d.layout.pages));
            sound = record {
              pages = sound.pages;
              page = inside;
              worker = sound.worker;
              epoch = sound.epoch;
              found = fits;
              earlier = waits_earlier says d.epoch waits;
              stage = fits_first (nat_eq page (board_page d.layout.pages)) refl;
            };
          })
          (subst (λ (w : Known). Law c p s k x None w s.ghost) (ap (λ (w : Known). claiming (ends_round w) (claim_by_word says page)) is.as_known ∙ knows_claim)
          (claims_begin (era c) (memory c) (team c) s.ghost k page says (prepared c p s k x is) (ap (λ (w : Known). w.pass) is.as_known ∙ still) may))

      -- the word is of an epoch before the worker's
      pub earlier_now : duty.state_of says d.epoch ≡ Waits → age_of says ≤ ((team c).worker k).epoch
      earlier_now waits = let e = ap (λ (w : Known). w.epoch) is.as_known in let a = waits_earlier says d.epoch waits in omega (arith, e, a, own)
