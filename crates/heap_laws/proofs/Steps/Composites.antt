-- Atomic steps that are several changes of what a worker knows.
use Rattle.std.proofs.Common.{◌≡◌, ℕ, zero, suc, ◌+◌, ◌-◌, ◌<◌, ◌≤◌, true, Option, Some, None, refl, sym, ap, ◌∙◌, arith, subst}
use Rattle.heap_words.specs.Decoded.{decode}
use Rattle.heap_state.specs.Memory.Entries.{Entry, AnnounceIs}
use Rattle.heap_state.specs.Memory.Era.{Era, Memory}
use Rattle.heap_state.specs.Functions.{put}
use Rattle.heap_state.specs.Invariant.Ghost.{Ghost}
use Rattle.heap_state.specs.Known.{Known, Team, Register, Quest, is_late}
use Rattle.heap_state.proofs.Puts.{put_same, put_other}
use Rattle.heap_laws.specs.Composing.{ends_round}
use Rattle.heap_laws.specs.Composites.{AsksAt, AllDone, AsksNext, LeadNowhere, come_to, RegistersArePassed, forwarded_to, RegistersFindForwards, RegistersAreSettled, LookingAtLastPageKeeps, ClaimsBegin, RoundsEnd}
use Rattle.heap_laws.specs.Flipping.Registers.{past_register, forwarded}
use Rattle.heap_laws.specs.Scanning.Claims.{claiming, claim_by_word}
use Rattle.heap_laws.specs.Steps.{Ready, Steps, with_worker}
use Rattle.heap_laws.specs.Tracing.{looking}
use Rattle.heap_laws.proofs.Steps.Composing.{steps_forget, steps_are_ready, steps_follow}
use Rattle.heap_laws.proofs.Steps.Forgotten.{of_round, rounds_are_forgotten}
use Rattle.heap_laws.proofs.Copying.Laws.{nothing_else_changes, forwards_are_found, announces_are_cleared}
use Rattle.heap_laws.proofs.Flipping.Registers.{passes_register, asks_for_register, forwards_register}
use Rattle.heap_laws.proofs.Scanning.Claims.{begins_claim}
use Rattle.heap_laws.proofs.Tracing.TracingLoads.{looks_at_page, looks_at_filling}

-- ---- one more step of the same worker

-- a law for a worker that was w before
module _ {E : Era} {m : Memory} {team : Team} {g : Ghost} {k : ℕ} {e : Option Entry} {v : Known} {h : Ghost} (ready : Ready E m team g k) (s : Steps E m team g k e v h) where
  abbrev then : Team
  then = with_worker team k v

  there : then.worker k ≡ v
  there = put_same team.worker k v

  is_ready : Ready E s.later then h k
  is_ready = steps_are_ready E m team g k e v h ready s

  -- what follows is known of the worker that there is then
  on : (f : Known → Known) (i : Ghost) → Steps E s.later then h k None (f (then.worker k)) i → Steps E m team g k e (f v) i
  on f i t = steps_follow E m team g k e v (f v) h i s (subst (λ (w : Known). Steps E s.later then h k None (f w) i) there t)

-- ---- registers

-- registers are passed one by one
passes_all : (n : ℕ) (E : Era) (m : Memory) (team : Team) (g : Ghost) (k : ℕ) → Ready E m team g k → is_late E.epoch (team.worker k) ≡ true → (team.worker k).quest ≡ None
    → (team.worker k).done + n ≤ 8 → LeadNowhere E (team.worker k).registers (team.worker k).done ((team.worker k).done + n)
    → Steps E m team g k None (record (team.worker k) { done = (team.worker k).done + n }) g
passes_all zero E m team g k ready late idle within clean =
    subst (λ (d : ℕ). Steps E m team g k None (record (team.worker k) { done = d }) g) (let e : (team.worker k).done ≡ (team.worker k).done + 0 = omega arith in e) (nothing_else_changes E m team g k ready)
passes_all (suc n) E m team g k ready late idle within clean =
    subst (λ (d : ℕ). Steps E m team g k None (record (team.worker k) { done = d }) g) (let e : (team.worker k).done + 1 + n ≡ (team.worker k).done + suc n = omega arith in e)
    (on ready first (λ w. record w { done = w.done + n }) g
    (passes_all n E first.later (then ready first) g k (is_ready ready first)
    (ap (is_late E.epoch) (there ready first) ∙ late)
    (ap (λ (w : Known). w.quest) (there ready first) ∙ idle)
    (let d = ap (λ (w : Known). w.done) (there ready first) in omega (arith, d, within))
    (λ r l n'.
    let d = ap (λ (w : Known). w.done) (there ready first) in
    rw (ap (λ (w : Known). w.registers) (there ready first)) (clean r (omega (arith, d, l)) (omega (arith, d, n'))))))
  where
    first : Steps E m team g k None (past_register (team.worker k)) g
    first = passes_register E m team g k ready (record { late = late; left = omega arith }) idle (clean (team.worker k).done (omega arith) (omega arith))

module _ (E : Era) (m : Memory) (team : Team) (g : Ghost) (k j : ℕ) (ready : Ready E m team g k) (late : is_late E.epoch (team.worker k) ≡ true)
    (idle : (team.worker k).quest ≡ None) (from : (team.worker k).done ≤ j) (to : j ≤ 8) (clean : LeadNowhere E (team.worker k).registers (team.worker k).done j) where
  passed : Steps E m team g k None (record (team.worker k) { done = j }) g
  passed =
      let e : (team.worker k).done + (j - (team.worker k).done) ≡ j = omega arith in
      subst (λ (d : ℕ). Steps E m team g k None (record (team.worker k) { done = d }) g) e
      (passes_all (j - (team.worker k).done) E m team g k ready late idle (omega arith) (λ r l n. clean r l (omega (arith, n))))

  asked : (q : Option Quest) → AsksAt (team.worker k).registers j q → Steps E m team g k None (come_to (team.worker k) j q) g
  asked _ (AllDone e) = subst (λ (q : Option Quest). Steps E m team g k None (record (team.worker k) { done = j; quest = q }) g) idle passed
  asked _ (AsksNext a l leads) = on ready passed (λ w. record w { quest = Some (record { old = a; origin = Register w.done; found = None }) }) g
      (asks_for_register E passed.later (then ready passed) g k a (is_ready ready passed)
      (record { late = ap (is_late E.epoch) (there ready passed) ∙ late; left = let d = ap (λ (w : Known). w.done) (there ready passed) in omega (arith, d, l) })
      (ap (λ (w : Known). w.quest) (there ready passed) ∙ idle)
      (ap (λ (w : Known). decode (w.registers w.done)) (there ready passed) ∙ leads))

pub registers_are_passed : RegistersArePassed
registers_are_passed E m team g k j q ready late idle from to clean asks = asked E m team g k j ready late idle from to clean q asks

-- after a register got its pointer, the next ones are passed
goes_on_to : {E : Era} {m : Memory} {team : Team} {g : Ghost} {k : ℕ} {e : Option Entry} {h : Ghost} (w : Known) (v j : ℕ) (next : Option Quest) → Ready E m team g k → is_late E.epoch w ≡ true
    → w.done < j → j ≤ 8 → LeadNowhere E w.registers (w.done + 1) j → AsksAt w.registers j next
    → Steps E m team g k e (forwarded w v) h → Steps E m team g k e (forwarded_to w v j next) h
goes_on_to {E} {m} {team} {g} {k} {e} {h} w v j next ready late from to clean asks s =
    on ready s (λ u. come_to u j next) h
    (registers_are_passed E s.later (then ready s) h k j next (is_ready ready s)
    (ap (is_late E.epoch) (there ready s) ∙ late)
    (ap (λ (u : Known). u.quest) (there ready s))
    (let d = ap (λ (u : Known). u.done) (there ready s) in omega (arith, d, from))
    to
    (λ r l n. let d = ap (λ (u : Known). u.done) (there ready s) in rw (ap (λ (u : Known). u.registers) (there ready s), put_other w.registers w.done v r (λ x. omega (arith, d, l, x))) (clean r (omega (arith, d, l)) n))
    (subst (λ (registers : ℕ → ℕ). AsksAt registers j next) (ap (λ (u : Known). u.registers) (sym (there ready s))) (asks_still next asks)))
  where
    asks_still : (next : Option Quest) → AsksAt w.registers j next → AsksAt (put w.registers w.done v) j next
    asks_still _ (AllDone l) = AllDone l
    asks_still _ (AsksNext a l leads) = AsksNext a l (rw (put_other w.registers w.done v j (λ x. omega (arith, from, x))) leads)

pub registers_find_forwards : RegistersFindForwards
registers_find_forwards E m team g k q len b v j next ready late idle still asks origin left word points from to clean after =
    goes_on_to (team.worker k) v j next ready late from to clean after
    (subst (λ (w : Known). Steps E m team g k None w g) forgets_quest
    (on ready found (λ w. forwarded w v) g
    (forwards_register E found.later (then ready found) g k (record q { found = Some b }) b v (is_ready ready found)
    (record {
      register = record { late = ap (is_late E.epoch) (there ready found) ∙ late; left = let d = ap (λ (w : Known). w.done) (there ready found) in omega (arith, d, left) };
      quest = ap (λ (w : Known). w.quest) (there ready found);
      origin = origin ∙ ap (λ (w : Known). Register w.done) (sym (there ready found));
      found = refl;
    })
    (ap (λ (w : Known). w.linking) (there ready found) ∙ still)
    points)))
  where
    found : Steps E m team g k None (record (team.worker k) { quest = Some (record q { found = Some b }) }) g
    found = forwards_are_found E m team g k q len b ready idle asks word

    forgets_quest : forwarded (record (team.worker k) { quest = Some (record q { found = Some b }) }) v ≡ forwarded (team.worker k) v
    forgets_quest = refl

pub registers_are_settled : RegistersAreSettled
registers_are_settled E m team g k q b v j next ready idle still has points from to clean after =
    goes_on_to (team.worker k) v j next ready has.register.late from to clean after
    (on ready cleared (λ w. forwarded w v) g
    (forwards_register E cleared.later (then ready cleared) g k q b v (is_ready ready cleared)
    (record {
      register = record { late = ap (is_late E.epoch) (there ready cleared) ∙ has.register.late; left = let d = ap (λ (w : Known). w.done) (there ready cleared) in let l = has.register.left in omega (arith, d, l) };
      quest = ap (λ (w : Known). w.quest) (there ready cleared) ∙ has.quest;
      origin = has.origin ∙ ap (λ (w : Known). Register w.done) (sym (there ready cleared));
      found = has.found;
    })
    (ap (λ (w : Known). w.linking) (there ready cleared) ∙ still)
    points))
  where
    cleared : Steps E m team g k (Some (AnnounceIs k 0)) (team.worker k) g
    cleared = announces_are_cleared E m team g k ready idle

-- ---- rounds of the duty

pub looks_at_last_page : LookingAtLastPageKeeps
looks_at_last_page E m team g k l p ready is next opened none =
    on ready page (λ w. looking w (record l { upto = p + 1; filled = true })) g
    (looks_at_filling E page.later (then ready page) g k (record l { upto = p + 1 }) (is_ready ready page)
    (record { looks = ap (λ (w : Known). w.look) (there ready page) })
    (λ q f n. absurd (none q f n)))
  where
    page : Steps E m team g k None (looking (team.worker k) (record l { upto = p + 1 })) g
    page = looks_at_page E m team g k l p ready is next opened

pub rounds_end : RoundsEnd
rounds_end E m team g k ready still = steps_forget E m team g k None (team.worker k) (ends_round (team.worker k)) g (nothing_else_changes E m team g k ready) (rounds_are_forgotten (team.worker k) still)

pub claims_begin : ClaimsBegin
claims_begin E m team g k p old ready still may = steps_forget E m team g k None (claiming (team.worker k) (claim_by_word old p)) (claiming (ends_round (team.worker k)) (claim_by_word old p)) g (begins_claim E m team g k p old ready may)
    (of_round (claiming (team.worker k) (claim_by_word old p)) (Some (claim_by_word old p)) None still (λ _ e. e) (λ _ e. absurd (cc)))
