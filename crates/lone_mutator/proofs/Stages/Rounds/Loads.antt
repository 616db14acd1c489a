-- The loads of a round by a lone mutator: each takes it on.
use Rattle.std.proofs.Common.{◌≡◌, ◌≢◌, ℕ, ◌+◌, ◌*◌, ◌≤◌, ◌⊎◌, inl, inr, Option, Some, refl, sym, ap, subst, ◌∙◌, arith}
use Rattle.std.proofs.lemmas.Bool.{cases_eq}
use Rattle.plain_state.specs.State.{Plain}
use Rattle.atom_store.specs.declared.reply.Reply.TheVariants.{Value}
use Rattle.space_map.specs.declared.spaces.TheConstants.{LAST_WORKER}
use Rattle.space_map.specs.declared.area_word.AreaWord.{AreaWord}
use Rattle.space_map.specs.PageWord.{decode_page}
use Rattle.atom_store.specs.declared.step.Step.TheVariants.{Load}
use Rattle.space_map.specs.Spaces.{Layout, page_of, to_space, board_page}
use Rattle.space_map.specs.Table.{Gate, Traced, Area, Page, Announce, place_of}
use Rattle.space_map.proofs.PageWords.{encode_page-decode_page}
use Rattle.page_slots.specs.declared.claim_stage.ClaimStage.TheVariants.{LooksAtPlace, LooksAtGate}
use Rattle.page_slots.specs.Claim.{Claiming}
use Rattle.fault_duty.specs.declared.findings.Findings.{Findings}
use Rattle.fault_duty.specs.declared.wanted_page.WantedPage.{WantedPage}
use Rattle.fault_duty.specs.declared.choice.Choice.{Choice}
use Rattle.fault_duty.specs.declared.end_look.EndLook.{EndLook}
use Rattle.space_map.specs.declared.page_word.PageWord.{PageWord}
use Rattle.fault_duty.specs.declared.duty_stage.DutyStage.{DutyStage}
use Rattle.fault_duty.specs.declared.duty_stage.DutyStage.TheVariants.{LoadsGate, LoadsTraced, LoadsWanted, LoadsFrontFor, LoadsFront, LoadsPage, Claims, EndGate, EndArea, EndPage, EndFilling, EndAreaAgain}
use Rattle.fault_duty.specs.Duty as duty
use Rattle.fault_duty.specs.Duty.{Round}
use Rattle.fault_duty.specs.Soundness.{FitsCaller}
use Rattle.heap_state.specs.Configuration.{Configuration, Stands, table, era, memory}
use Rattle.gc_worker.specs.declared.stage.back.Back.{Back}
use Rattle.gc_worker.specs.Workers.Held.{Held}
use Rattle.gc_worker.specs.Workers.Knows.{knows}
use Rattle.gc_worker.proofs.Words.Areas.{area_now, area_says, is_space}
use Rattle.gc_worker.proofs.Stages.Gate.GateWords.{gate_now, gate_says}
use Rattle.fault_duty.proofs.RoundMeasure.{to_start-le}
use Rattle.gc_worker.proofs.Stages.Rounds.Choosing.{front_for}
use Rattle.gc_worker.proofs.Stages.Rounds.NextRoundStage.{round, at, same_pages}
use Rattle.gc_worker.proofs.Stages.Rounds.RoundWords.{traced_word, page_now, page_says, announced_now, announced_word}
use Rattle.lone_mutator.specs.Law.{IsAlone, StepsLower}
use Rattle.lone_mutator.specs.Rounds.{EndsTraced}
use Rattle.lone_mutator.proofs.Stages.Rounds.LoneRounds.{RoundGoes}
use Rattle.lone_mutator.proofs.Stages.Rounds.Claims.{at_place, at_gate}
use Rattle.lone_mutator.proofs.Stages.Rounds.EndLooks.{at_gate_again, at_area, at_page_again, at_filling, at_area_again}
use Rattle.lone_mutator.proofs.Stages.Rounds.NextRoundCost.{alone, loads_it, worker_epoch, worker_now}
use Rattle.lone_mutator.proofs.Stages.Rounds.RoundLooks as looks
use Rattle.lone_mutator.proofs.Stages.Rounds.TracedRoundCosts.{ends_traced}

module _ (c : Configuration) (p : Plain) (s : Stands c p) (y : Held) (d : Round) (back : Back) where
  abbrev round_at : DutyStage → Round
  round_at z = round c p s 0 y d back z

  abbrev Owes : DutyStage → Type 0
  Owes z = IsAlone c (at c p s 0 y d back z) → StepsLower c (at c p s 0 y d back z)

  -- ---- what it reads

  module _ (z : DutyStage) (a : IsAlone c (at c p s 0 y d back z)) where
    abbrev space : ℕ
    space = to_space d.epoch

    abbrev area : AreaWord
    area = (table c).area space

    known_epoch : (knows (at c p s 0 y d back z)).epoch ≡ d.epoch
    known_epoch = ap (λ w. w.epoch) (sym a.is.as_known) ∙ worker_epoch c p s y d back z a

    front : duty.front_of (round_at z) area ≡ (memory c).front
    front = (front_for c p s 0 y d back z a.is known_epoch).now (worker_now c p s y d back z a)

    in_table : (page : ℕ) → page ≤ board_page d.layout.pages → page ≤ 2 * c.pages
    in_table page few = let n = same_pages c p s 0 y d back z a.is in omega (arith, few, n)

    reads_page : (page : ℕ) → page ≤ board_page d.layout.pages → decode_page (page_now c page) ≡ Some ((memory c).page page)
    reads_page page few = page_says c p s page (in_table page few)

  -- ---- each of them

  pub loads_gate : Owes LoadsGate
  loads_gate a = loads_it c p s y d back LoadsGate a Gate tt refl
      (looks.at_gate (era c) (memory c) (round_at LoadsGate) (alone c p s y d back LoadsGate a) (gate_now c) (gate_says c p s) a.remembers.stands.0.found)

  module _ (hindrance : Option ℕ) (a : IsAlone c (at c p s 0 y d back (LoadsTraced hindrance))) where
    -- the epoch isn't traced, and the round goes on
    goes_untraced : (memory c).traced ≢ (era c).epoch + 1 → StepsLower c (at c p s 0 y d back (LoadsTraced hindrance))
    goes_untraced untraced =
        let found = a.remembers.stands.0.found in
        let own = alone c p s y d back (LoadsTraced hindrance) a in
        loads_it c p s y d back (LoadsTraced hindrance) a Traced tt refl
        (subst (λ (w : ℕ). RoundGoes (era c) (memory c) (round_at (LoadsTraced hindrance)) (LoadsTraced hindrance) (Value w)) (traced_word c)
        (subst (λ (h : Option ℕ). RoundGoes (era c) (memory c) (round_at (LoadsTraced hindrance)) (LoadsTraced h) (Value (memory c).traced)) (sym found.1)
        (looks.at_traced (era c) (memory c) (round_at (LoadsTraced hindrance)) own untraced found.0)))

    -- or it ends a round of who begins a checkpoint or loads a target
    by_traced : EndsTraced back → ((memory c).traced ≡ (era c).epoch + 1) ⊎ ((memory c).traced ≢ (era c).epoch + 1)
        → StepsLower c (at c p s 0 y d back (LoadsTraced hindrance))
    by_traced ends (inl traced) = ends_traced c p s y d hindrance back ends a traced
    by_traced ends (inr untraced) = goes_untraced untraced

    by_known : EndsTraced back ⊎ ((memory c).traced ≢ (era c).epoch + 1) → StepsLower c (at c p s 0 y d back (LoadsTraced hindrance))
    by_known (inl ends) = by_traced ends (cases_eq (memory c).traced ((era c).epoch + 1))
    by_known (inr untraced) = goes_untraced untraced

  pub loads_traced : (hindrance : Option ℕ) → Owes (LoadsTraced hindrance)
  loads_traced hindrance a = by_known hindrance a a.remembers.stands.0.untraced

  pub loads_wanted : (found : Findings) (page : ℕ) → Owes (LoadsWanted found page)
  loads_wanted found page a =
      let z = LoadsWanted found page in
      let sound = a.is.fits.stage.0.sound in
      let few : page ≤ board_page d.layout.pages = subst (FitsCaller d.layout.pages) sound.stage.1 sound.caller in
      loads_it c p s y d back z a (Page page) (in_table z a page few) refl
      (looks.at_wanted (era c) (memory c) (round_at z) (alone c p s y d back z a) found page a.remembers.stands.0.found.1 a.remembers.stands.0.found.0
      (page_now c page) (reads_page z a page few))

  pub loads_front_for : (found : Findings) (w : WantedPage) → Owes (LoadsFrontFor found w)
  loads_front_for found w a =
      let z = LoadsFrontFor found w in
      loads_it c p s y d back z a (Area (to_space d.epoch)) (is_space d.epoch) refl
      (looks.at_front_for (era c) (memory c) (round_at z) (alone c p s y d back z a) found w a.remembers.stands.0.found.1 a.remembers.stands.0.found.0
      (area_now c (to_space d.epoch)) (area z a) (area_says c p s (to_space d.epoch) (is_space d.epoch)))

  pub loads_front : (found : Findings) → Owes (LoadsFront found)
  loads_front found a =
      let z = LoadsFront found in
      loads_it c p s y d back z a (Area (to_space d.epoch)) (is_space d.epoch) refl
      (looks.at_front (era c) (memory c) (round_at z) (alone c p s y d back z a) found (area_now c (to_space d.epoch)) (area z a) a.remembers.stands.0.found
      (area_says c p s (to_space d.epoch) (is_space d.epoch)) (front z a))

  pub loads_page : (choice : Choice) (page : ℕ) → Owes (LoadsPage choice page)
  loads_page choice page a =
      let z = LoadsPage choice page in
      let fits = a.is.fits.stage.0.sound.stage.1 in
      loads_it c p s y d back z a (Page page) (in_table z a page fits.in_table) refl
      (looks.at_page (era c) (memory c) (round_at z) (alone c p s y d back z a) choice page a.remembers.stands.0.found fits (page_now c page)
      (reads_page z a page fits.in_table))

  pub looks_at_place : (q : Claiming) (k : ℕ) → Owes (Claims (record q { stage = LooksAtPlace k }))
  looks_at_place q k a =
      let z = Claims (record q { stage = LooksAtPlace k }) in
      let own = a.is.fits.stage.0.sound.stage in
      let few : k ≤ LAST_WORKER = own.sound.stage.0 in
      loads_it c p s y d back z a (Announce k) few (ap (λ (l : Layout). Some (Load (place_of l.pages (Announce k)))) own.layout)
      (at_place (era c) (memory c) (round_at z) (alone c p s y d back z a) q a.remembers.stands.0.found own.epoch k (announced_now c k)
      (sym (announced_word c k) ∙ (alone c p s y d back z a).silent k few))

  pub looks_at_gate : (q : Claiming) → Owes (Claims (record q { stage = LooksAtGate }))
  looks_at_gate q a =
      let z = Claims (record q { stage = LooksAtGate }) in
      let own = a.is.fits.stage.0.sound.stage in
      loads_it c p s y d back z a Gate tt (ap (λ (l : Layout). Some (Load (place_of l.pages Gate))) own.layout)
      (at_gate (era c) (memory c) (round_at z) (alone c p s y d back z a) q a.remembers.stands.0.found own.epoch (gate_now c) (gate_says c p s))

  pub loads_gate_again : (traced : ℕ) → Owes (EndGate traced)
  loads_gate_again traced a =
      let z = EndGate traced in
      loads_it c p s y d back z a Gate tt refl
      (at_gate_again (era c) (memory c) (round_at z) (alone c p s y d back z a) traced (gate_now c) a.remembers.stands.0.found.0 a.remembers.stands.0.found.1 (gate_says c p s))

  pub loads_area : (traced : ℕ) → Owes (EndArea traced)
  loads_area traced a =
      let z = EndArea traced in
      loads_it c p s y d back z a (Area (to_space d.epoch)) (is_space d.epoch) refl
      (at_area (era c) (memory c) (round_at z) (alone c p s y d back z a) traced (area_now c (to_space d.epoch)) (area z a) a.remembers.stands.0.found.0
      a.remembers.stands.0.found.1 (area_says c p s (to_space d.epoch) (is_space d.epoch)) (front z a))

  pub loads_page_again : (look : EndLook) (page : ℕ) → Owes (EndPage look page)
  loads_page_again look page a =
      let z = EndPage look page in
      let fits = a.is.fits.stage.0.sound.stage.1 in
      loads_it c p s y d back z a (Page page) (in_table z a page fits.in_table) refl
      (at_page_again (era c) (memory c) (round_at z) (alone c p s y d back z a) look page a.remembers.stands.0.found.0 a.remembers.stands.0.found.1 fits (page_now c page)
      (sym (encode_page-decode_page (page_now c page) ((memory c).page page) (reads_page z a page fits.in_table))))

  pub loads_filling : (look : EndLook) → Owes (EndFilling look)
  loads_filling look a =
      let z = EndFilling look in
      let few : page_of look.front ≤ board_page d.layout.pages =
      let high = a.is.fits.stage.0.sound.stage.1.high in let low = to_start-le d in omega (arith, high, low) in
      loads_it c p s y d back z a (Page (page_of look.front)) (in_table z a (page_of look.front) few) refl
      (at_filling (era c) (memory c) (round_at z) (alone c p s y d back z a) look a.remembers.stands.0.found (page_now c (page_of look.front))
      (reads_page z a (page_of look.front) few))

  pub loads_area_again : (look : EndLook) (filling : PageWord) → Owes (EndAreaAgain look filling)
  loads_area_again look filling a =
      let z = EndAreaAgain look filling in
      loads_it c p s y d back z a (Area (to_space d.epoch)) (is_space d.epoch) refl
      (at_area_again (era c) (memory c) (round_at z) (alone c p s y d back z a) look filling a.remembers.stands.0.found.0 a.remembers.stands.0.found.1
      a.is.fits.stage.0.sound.stage.3 (area_now c (to_space d.epoch)) (area z a) (area_says c p s (to_space d.epoch) (is_space d.epoch)) (front z a))
