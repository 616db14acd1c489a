-- The end of the area: the area is read once more. All is open, or the filling page is claimed.
use Rattle.std.proofs.Common.{◌≡◌, ◌≢◌, ℕ, ◌+◌, ◌*◌, ◌%◌, ◌<◌, ◌==◌, ◌⊎◌, inl, inr, Bool, true, false, Some, None, refl, sym, ap, subst, ◌∙◌, arith, if◌then◌else◌}
use Rattle.std.specs.Prelude.{nat_lt}
use Rattle.std.proofs.lemmas.Bool.{eqb-true, ltb-true}
use Rattle.plain_state.specs.State.{Plain}
use Rattle.atom_store.specs.declared.reply.Reply.TheVariants.{Value}
use Rattle.space_map.specs.declared.area_word.AreaWord.{AreaWord}
use Rattle.space_map.specs.declared.page_word.PageWord.{PageWord}
use Rattle.space_map.specs.PageWord.{encode_page}
use Rattle.space_map.specs.Spaces.{page_of, to_space}
use Rattle.space_map.specs.Table.{Area}
use Rattle.page_slots.specs.Claim as claim
use Rattle.cell_walk.specs.Walking as walk
use Rattle.fault_duty.specs.declared.duty_stage.DutyStage.{DutyStage}
use Rattle.fault_duty.specs.declared.duty_stage.DutyStage.TheVariants.{Claims, EndAreaAgain, Walks, Ended}
use Rattle.fault_duty.specs.declared.end_look.EndLook.{EndLook}
use Rattle.fault_duty.specs.declared.page_state.PageState.{PageState}
use Rattle.fault_duty.specs.declared.page_state.PageState.TheVariants.{Opened, Scanned, Waits, Past}
use Rattle.fault_duty.specs.declared.round_end.RoundEnd.TheVariants.{NothingNow}
use Rattle.fault_duty.specs.Duty as duty
use Rattle.fault_duty.specs.Duty.{Round}
use Rattle.heap_state.specs.Configuration.{Configuration, Stands, table, era, memory, team}
use Rattle.heap_state.specs.Known.{Known, Look}
use Rattle.heap_laws.specs.Tracing.{LooksAgain, IsFrontFor, about_to_trace, about_to_fill}
use Rattle.heap_laws.proofs.Tracing.TracingLoads.{looks_again, claims_filling}
use Rattle.gc_worker.specs.declared.stage.back.Back.{Back}
use Rattle.gc_worker.specs.Steps.Goes.{Is, Goes, StepsSo}
use Rattle.gc_worker.specs.Workers.Held.{Held}
use Rattle.gc_worker.specs.Workers.Knows.{look_with, upto_all, is_open_state}
use Rattle.gc_worker.proofs.Words.Areas.{area_now, area_says, is_space}
use Rattle.fault_duty.proofs.RoundMeasure.{to_start-le, to_start-to_page}
use Rattle.gc_worker.proofs.Stages.Rounds.Choosing.{front_for}
use Rattle.gc_worker.proofs.Stages.Rounds.Claiming.{waits_earlier}
use Rattle.gc_worker.proofs.Stages.Rounds.NextRoundStage.{round, at, goes_on, ends, loads_it}
use Rattle.gc_worker.proofs.Words.RowSteps.{Law, prepared}

module _ (c : Configuration) (p : Plain) (s : Stands c p) (k : ℕ) (y : Held) (d : Round) (back : Back) (look : EndLook) (filling : PageWord)
    (is : Is c k (at c p s k y d back (EndAreaAgain look filling))) where
  abbrev x : Held
  x = at c p s k y d back (EndAreaAgain look filling)

  abbrev rd : Round
  rd = round c p s k y d back (EndAreaAgain look filling)

  abbrev space : ℕ
  space = to_space d.epoch

  abbrev area : AreaWord
  area = (table c).area space

  abbrev reply : ℕ
  reply = area_now c space

  -- the look, by what the filling page's word says
  abbrev seen : PageState → Look
  seen state = look_with d look.traced look.front true (upto_all d look.front) (is_open_state state)

  -- all full pages were looked at
  all_by : (b : Bool) → nat_lt look.front (duty.to_start d + 64) ≡ b
      → (look.front < 64 * (if b then 0 else page_of look.front) + 64) ⊎ (look.front < duty.to_start d + 64)
  all_by true test = inr (ltb-true look.front (duty.to_start d + 64) test)
  all_by false test = inl (omega arith)

  module _ (same : duty.front_of d area ≡ look.front) (state : PageState) (e : duty.state_of filling d.epoch ≡ state) where
    again : LooksAgain (era c) (memory c) (team c) k (seen state)
    again = record {
      looks = ap (λ (w : Known). w.look) is.as_known ∙ ap (λ (t : PageState). Some (seen t)) e;
      front = subst (IsFrontFor (era c) (memory c) ((team c).worker k)) same (front_for c p s k y d back (EndAreaAgain look filling) is refl);
      board = refl;
      full = all_by (nat_lt look.front (duty.to_start d + 64)) refl;
    }

  -- all is open: the walk over the chain of copied cells begins
  abbrev next_walk : DutyStage
  next_walk = Walks look.traced (walk.begun d.layout d.epoch)

  traces : duty.front_of d area ≡ look.front → duty.state_of filling d.epoch ≡ Opened
      → duty.taken_at rd (EndAreaAgain look filling) (Value reply) ≡ round c p s k y d back next_walk → Goes c p s k None x (Value reply)
  traces same e taken =
      goes_on c p s k y d back (EndAreaAgain look filling) is None (Value reply) next_walk s.ghost taken refl refl
      (is.fits.stage.0.sound.stage.0, record { layout = refl; epoch = refl; going = tt; sound = record { pages = is.fits.stage.0.sound.pages; fits = tt } })
      (subst (λ (w : Known). Law c p s k x None (about_to_trace w (seen Opened)) s.ghost) is.as_known
      (looks_again (era c) (memory c) (team c) s.ghost k (seen Opened) (prepared c p s k x is) (ap (λ (w : Known). w.pass) is.as_known) (again same Opened e) refl))

  -- the filling page is claimed
  module _ (same : duty.front_of d area ≡ look.front) (e : duty.state_of filling d.epoch ≡ Waits) where
    abbrev page : ℕ
    page = page_of look.front

    inside : look.front % 64 ≢ 0
    inside none = let z = sym e ∙ is.fits.stage.0.sound.stage.3 none in cc

    abbrev next : DutyStage
    next = Claims (claim.begun d.layout page d.epoch d.worker filling true)

    claims : duty.taken_at rd (EndAreaAgain look filling) (Value reply) ≡ round c p s k y d back next → Goes c p s k None x (Value reply)
    claims taken =
        let sound = is.fits.stage.0.sound in
        let front = sound.stage.1 in
        let high = front.high in
        let low = front.low in
        let l = to_start-le d in
        let m = to_start-to_page d in
        let a = waits_earlier filling d.epoch e in
        let own = ap (λ (w : Known). w.epoch) is.as_known in
        goes_on c p s k y d back (EndAreaAgain look filling) is None (Value reply) next s.ghost taken refl refl
        (record {
          layout = refl;
          epoch = refl;
          worker = refl;
          going = tt;
          sound = record { pages = sound.pages; page = omega (arith, high, l); worker = sound.worker; epoch = sound.epoch; found = sound.stage.2; earlier = a; stage = tt };
        })
        (subst (λ (w : Known). Law c p s k x None (about_to_fill w page filling) s.ghost) is.as_known
        (claims_filling (era c) (memory c) (team c) s.ghost k (seen Waits) page filling (prepared c p s k x is) (again same Waits e)
        (omega (arith, low, m)) (omega (arith, inside)) (omega arith) (omega (arith, a, own))))

  by_state : duty.front_of d area ≡ look.front → (state : PageState) → duty.state_of filling d.epoch ≡ state
      → duty.taken_at rd (EndAreaAgain look filling) (Value reply) ≡ round c p s k y d back (duty.ends_by rd look filling state) → Goes c p s k None x (Value reply)
  by_state same Opened e taken = traces same e taken
  by_state same Waits e taken = claims same e taken
  by_state same Scanned e taken = ends c p s k y d back (EndAreaAgain look filling) is (Value reply) (encode_page filling) taken refl refl refl
  by_state same Past e taken = ends c p s k y d back (EndAreaAgain look filling) is (Value reply) (encode_page filling) taken refl refl refl

  by_front : (b : Bool) → (duty.front_of d area == look.front) ≡ b
      → duty.taken_at rd (EndAreaAgain look filling) (Value reply) ≡ round c p s k y d back (if b then duty.ends_by rd look filling (duty.state_of filling d.epoch) else Ended (NothingNow reply))
      → Goes c p s k None x (Value reply)
  by_front true test taken = by_state (eqb-true (duty.front_of d area) look.front test) (duty.state_of filling d.epoch) refl taken
  by_front false test taken = ends c p s k y d back (EndAreaAgain look filling) is (Value reply) reply taken refl refl refl

  pub loads_area_again : StepsSo c p s k x
  loads_area_again = loads_it c p s k y d back (EndAreaAgain look filling) is (Area space) (is_space d.epoch) refl
      (by_front (duty.front_of d area == look.front) refl
      (ap (λ o. round c p s k y d back (duty.ended_area_again rd look filling reply o)) (area_says c p s space (is_space d.epoch))))
