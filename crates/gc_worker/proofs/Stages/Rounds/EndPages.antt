-- The end of the area: the board and the full pages are found open, one by one.
use Rattle.std.proofs.Common.{◌≡◌, ◌≢◌, ℕ, ◌+◌, ◌*◌, ◌%◌, ◌<◌, ◌≤◌, ◌==◌, ◌⊎◌, inl, inr, Bool, true, false, Some, None, nat_lt, refl, sym, ap, subst, ◌∙◌, arith, if◌then◌else◌, ⊎_elim}
use Rattle.std.proofs.lemmas.Bool.{eq-eqb, ne_eqb, eqb-true, cases_eq, ltb-true}
use Rattle.std.proofs.lemmas.Bool.Decides.{nat_tests}
use Rattle.std.proofs.lemmas.Option.{same_Some}
use Rattle.plain_state.specs.State.{Plain}
use Rattle.atom_store.specs.declared.reply.Reply.TheVariants.{Value}
use Rattle.space_map.specs.declared.page_word.PageWord.TheVariants.{Open}
use Rattle.space_map.specs.PageWord.{decode_page, encode_page}
use Rattle.space_map.specs.Spaces.{board_page, page_of}
use Rattle.space_map.specs.Table.{Page}
use Rattle.space_map.proofs.PageWords.{decode_page-encode_page}
use Rattle.fault_duty.specs.declared.end_look.EndLook.{EndLook}
use Rattle.fault_duty.specs.declared.duty_stage.DutyStage.{DutyStage}
use Rattle.fault_duty.specs.declared.duty_stage.DutyStage.TheVariants.{EndPage, EndFilling, EndAreaAgain, Ended}
use Rattle.fault_duty.specs.declared.round_end.RoundEnd.TheVariants.{NothingNow}
use Rattle.fault_duty.specs.Duty as duty
use Rattle.fault_duty.specs.Duty.{Round}
use Rattle.fault_duty.specs.Soundness.{IsChoice, FitsFront}
use Rattle.heap_state.specs.Configuration.{Configuration, Stands, table, era, memory, team}
use Rattle.heap_state.specs.Known.{Known, Look}
use Rattle.heap_laws.specs.Steps.{with_worker}
use Rattle.heap_laws.specs.Steps as law
use Rattle.heap_laws.specs.Tracing.{looking}
use Rattle.heap_state.proofs.Puts.{put_same}
use Rattle.heap_laws.proofs.Steps.Composing.{steps_follow, steps_are_ready}
use Rattle.heap_laws.proofs.Tracing.TracingLoads.{looks_at_board, looks_at_page, looks_at_filling}
use Rattle.gc_worker.specs.declared.stage.back.Back.{Back}
use Rattle.gc_worker.specs.Steps.Goes.{Is, Goes, StepsSo}
use Rattle.gc_worker.specs.Workers.Held.{Held}
use Rattle.gc_worker.specs.Workers.Knows.{knows, look_with, is_past_board, upto_before, upto_all}
use Rattle.fault_duty.proofs.RoundMeasure.{to_start-le, to_start-to_page}
use Rattle.gc_worker.proofs.Stages.Rounds.Choosing.{next_choice, at_another}
use Rattle.gc_worker.proofs.Stages.Rounds.Claiming.{board_now}
use Rattle.gc_worker.proofs.Stages.Rounds.NextRoundStage.{round, at, goes_on, ends, loads_it, same_pages}
use Rattle.gc_worker.proofs.Stages.Rounds.RoundWords.{page_now, page_says}
use Rattle.gc_worker.proofs.Words.RowSteps.{Law, prepared}

module _ (c : Configuration) (p : Plain) (s : Stands c p) (k : ℕ) (y : Held) (d : Round) (back : Back) (look : EndLook) (page : ℕ) (is : Is c k (at c p s k y d back (EndPage look page))) where
  abbrev x : Held
  x = at c p s k y d back (EndPage look page)

  abbrev rd : Round
  rd = round c p s k y d back (EndPage look page)

  abbrev loaded : ℕ
  loaded = page_now c page

  choice : IsChoice rd look.front page
  choice = is.fits.stage.0.sound.stage.1

  in_table : page ≤ 2 * c.pages
  in_table = let n = same_pages c p s k y d back (EndPage look page) is in let i = choice.in_table in omega (arith, n, i)

  -- the look before, and after the page was found open
  abbrev before : Look
  before = look_with d look.traced look.front (is_past_board d page) (upto_before d page) false

  abbrev seen_to : ℕ
  seen_to = if page == board_page d.layout.pages then 0 else page + 1

  abbrev after : (filled : Bool) → Look
  after filled = look_with d look.traced look.front true seen_to filled

  is_open : loaded ≡ encode_page (Open d.epoch) → (table c).page page ≡ Open d.epoch
  is_open e = same_Some ((table c).page page) (Open d.epoch) (sym (page_says c p s page in_table) ∙ ap decode_page e ∙ decode_page-encode_page (Open d.epoch) is.fits.stage.0.sound.epoch)

  abbrev of_worker : ((team c).worker k).epoch ≡ d.epoch
  of_worker = ap (λ (w : Known). w.epoch) is.as_known

  has_look : ((team c).worker k).look ≡ Some before
  has_look = ap (λ (w : Known). w.look) is.as_known

  looked : (table c).page page ≡ Open d.epoch → Law c p s k x None (looking (knows x) (after false)) s.ghost
  looked open_now = ⊎_elim at_board at_page (cases_eq page (board_page d.layout.pages))
    where
      at_board : page ≡ board_page d.layout.pages → Law c p s k x None (looking (knows x) (after false)) s.ghost
      at_board e =
          let q = eq-eqb page (board_page d.layout.pages) e in
          let t = subst (λ (w : Known). Law c p s k x None (looking w (record before { board = true })) s.ghost) is.as_known
          (looks_at_board (era c) (memory c) (team c) s.ghost k before (prepared c p s k x is) (record { looks = has_look })
          (ap (λ z. (table c).page z) (sym (board_now c p s k y d back (EndPage look page) is) ∙ sym e) ∙ open_now ∙ ap Open (sym of_worker))) in
          rw q (rw q at t)

      at_page : page ≢ board_page d.layout.pages → Law c p s k x None (looking (knows x) (after false)) s.ghost
      at_page n =
          let q = ne_eqb page (board_page d.layout.pages) n in
          let t = subst (λ (w : Known). Law c p s k x None (looking w (record before { upto = page + 1 })) s.ghost) is.as_known
          (looks_at_page (era c) (memory c) (team c) s.ghost k before page (prepared c p s k x is) (record { looks = has_look })
          (rw q (first_by (page == duty.to_page d) refl)) (open_now ∙ ap Open (sym of_worker))) in
          rw q (rw q at t)
        where
          first_by : (b : Bool) → (page == duty.to_page d) ≡ b → (page ≡ (if b then 0 else page)) ⊎ (64 * page ≡ duty.to_start d)
          first_by true e = inr (let f = eqb-true page (duty.to_page d) e in let g = to_start-to_page d in omega (arith, f, g))
          first_by false e = inl refl

  -- ---- the next page

  abbrev next : ℕ
  next = duty.page_after rd page

  full_le : duty.is_full look.front next ≡ true → 64 * (next + 1) ≤ look.front
  full_le f = grind (arith, nat_tests)

  not_full : duty.is_full look.front next ≡ false → look.front < 64 * (next + 1)
  not_full f = grind (arith, nat_tests)

  -- what it is after this one
  next_is : (page ≡ board_page d.layout.pages → (next ≡ duty.to_page d) × (seen_to ≡ 0)) × (page ≢ board_page d.layout.pages → (next ≡ page + 1) × (seen_to ≡ page + 1))
  next_is = (
    λ e. let q = eq-eqb page (board_page d.layout.pages) e in (rw q refl, rw q refl),
    λ n. let q = ne_eqb page (board_page d.layout.pages) n in (rw q refl, rw q refl),
  )

  below_board : duty.is_full look.front next ≡ true → next ≢ board_page d.layout.pages
  below_board f e = let l = full_le f in let h = choice.at.high in let t = to_start-le rd in omega (arith, l, h, t, e)

  past_next : duty.is_full look.front next ≡ true → is_past_board d next ≡ true
  past_next f = rw (ne_eqb next (board_page d.layout.pages) (below_board f)) refl

  upto_next : duty.is_full look.front next ≡ true → upto_before d next ≡ seen_to
  upto_next f = ⊎_elim
      (λ (e : page ≡ board_page d.layout.pages). let m = next_is.0 e in upto_first m.0 m.1)
      (λ (n : page ≢ board_page d.layout.pages). let m = next_is.1 n in let low = choice.in_space n in upto_later m.0 m.1 (λ z. let a = m.0 in omega (arith, a, z, low)))
      (cases_eq page (board_page d.layout.pages))
    where
      upto_first : next ≡ duty.to_page d → seen_to ≡ 0 → upto_before d next ≡ seen_to
      upto_first a b = rw (ne_eqb next (board_page d.layout.pages) (below_board f), eq-eqb next (duty.to_page d) a) (sym b)

      upto_later : next ≡ page + 1 → seen_to ≡ page + 1 → next ≢ duty.to_page d → upto_before d next ≡ seen_to
      upto_later a b n = rw (ne_eqb next (board_page d.layout.pages) (below_board f), ne_eqb next (duty.to_page d) n) (a ∙ sym b)

  goes_next : duty.is_full look.front next ≡ true → loaded ≡ encode_page (Open d.epoch)
      → duty.taken_at rd (EndPage look page) (Value loaded) ≡ round c p s k y d back (EndPage look next) → Goes c p s k None x (Value loaded)
  goes_next f e taken =
      let l : Law c p s k x None (knows (at c p s k y d back (EndPage look next))) s.ghost = rw (past_next f, upto_next f) (looked (is_open e)) in
      goes_on c p s k y d back (EndPage look page) is None (Value loaded) (EndPage look next) s.ghost taken refl refl
      (is.fits.stage.0.sound.stage.0, at_another rd (EndPage look next) look.front next (next_choice rd look.front page is.fits.stage.0.sound.pages choice f)) l

  -- ---- after the last page

  upto_end : duty.is_full look.front next ≡ false → upto_all d look.front ≡ seen_to
  upto_end f = ⊎_elim
      (λ (e : page ≡ board_page d.layout.pages). let m = next_is.0 e in let a = m.0 in let l = not_full f in let g = to_start-to_page d in
      upto_none (nat_lt look.front (duty.to_start d + 64)) refl (omega (arith, a, l, g)) m.1)
      (λ (n : page ≢ board_page d.layout.pages). let m = next_is.1 n in let a = m.0 in let b = m.1 in let l = not_full f in let g = to_start-to_page d in let low = choice.in_space n in let w = choice.full n in
      upto_some (nat_lt look.front (duty.to_start d + 64)) refl (omega (arith, g, low, w)) (omega (arith, a, b, l, w)))
      (cases_eq page (board_page d.layout.pages))
    where
      upto_none : (b : Bool) → nat_lt look.front (duty.to_start d + 64) ≡ b → look.front < duty.to_start d + 64 → seen_to ≡ 0 → (if b then 0 else page_of look.front) ≡ seen_to
      upto_none true e l z = sym z
      upto_none false e l z = absurd (grind (arith, nat_tests, e, l))

      upto_some : (b : Bool) → nat_lt look.front (duty.to_start d + 64) ≡ b → duty.to_start d + 64 ≤ look.front → page_of look.front ≡ seen_to → (if b then 0 else page_of look.front) ≡ seen_to
      upto_some true e l z = absurd (let m = ltb-true look.front (duty.to_start d + 64) e in omega (arith, m, l))
      upto_some false e l z = z

  fits_front : (stage : DutyStage) → FitsFront (round c p s k y d back stage) look.front
  fits_front stage = record { low = choice.at.low; high = choice.at.high }

  goes_filling : duty.is_full look.front next ≡ false → loaded ≡ encode_page (Open d.epoch) → look.front % 64 ≢ 0
      → duty.taken_at rd (EndPage look page) (Value loaded) ≡ round c p s k y d back (EndFilling look) → Goes c p s k None x (Value loaded)
  goes_filling f e some taken =
      let l : Law c p s k x None (knows (at c p s k y d back (EndFilling look))) s.ghost = rw (upto_end f) (looked (is_open e)) in
      goes_on c p s k y d back (EndPage look page) is None (Value loaded) (EndFilling look) s.ghost taken refl refl
      (is.fits.stage.0.sound.stage.0, fits_front (EndFilling look), some) l

  -- there is no filling page
  looked_all : (table c).page page ≡ Open d.epoch → look.front % 64 ≡ 0 → Law c p s k x None (looking (knows x) (after true)) s.ghost
  looked_all open_now none =
      let first = looked open_now in
      let there : (with_worker (team c) k (looking (knows x) (after false))).worker k ≡ looking (knows x) (after false) = put_same (team c).worker k (looking (knows x) (after false)) in
      let second = looks_at_filling (era c) first.later (with_worker (team c) k (looking (knows x) (after false))) s.ghost k (after false)
      (steps_are_ready (era c) (memory c) (team c) s.ghost k None (looking (knows x) (after false)) s.ghost (prepared c p s k x is) first)
      (record { looks = ap (λ (w : Known). w.look) there })
      (λ q low high. absurd (omega (arith, low, high, none))) in
      steps_follow (era c) (memory c) (team c) s.ghost k None (looking (knows x) (after false)) (looking (knows x) (after true)) s.ghost s.ghost first
      (subst (λ (w : Known). law.Steps (era c) first.later (with_worker (team c) k (looking (knows x) (after false))) s.ghost k None (looking w (after true)) s.ghost) there second)

  goes_again : duty.is_full look.front next ≡ false → loaded ≡ encode_page (Open d.epoch) → look.front % 64 ≡ 0
      → duty.taken_at rd (EndPage look page) (Value loaded) ≡ round c p s k y d back (EndAreaAgain look (Open d.epoch)) → Goes c p s k None x (Value loaded)
  goes_again f e none taken =
      let l : Law c p s k x None (knows (at c p s k y d back (EndAreaAgain look (Open d.epoch)))) s.ghost =
      rw (upto_end f, eq-eqb d.epoch d.epoch refl) (looked_all (is_open e) none) in
      goes_on c p s k y d back (EndPage look page) is None (Value loaded) (EndAreaAgain look (Open d.epoch)) s.ghost taken refl refl
      (is.fits.stage.0.sound.stage.0, fits_front (EndAreaAgain look (Open d.epoch)), is.fits.stage.0.sound.epoch, (λ whole. rw (eq-eqb d.epoch d.epoch refl) refl)) l

  -- ---- all

  end_by : (b : Bool) → (look.front % 64 == 0) ≡ b → duty.is_full look.front next ≡ false → loaded ≡ encode_page (Open d.epoch)
      → duty.taken_at rd (EndPage look page) (Value loaded) ≡ round c p s k y d back (if b then EndAreaAgain look (Open d.epoch) else EndFilling look) → Goes c p s k None x (Value loaded)
  end_by true test f e taken = goes_again f e (eqb-true (look.front % 64) 0 test) taken
  end_by false test f e taken = goes_filling f e (λ z. absurd (let q = sym test ∙ eq-eqb (look.front % 64) 0 z in cc)) taken

  next_by : (b : Bool) → duty.is_full look.front next ≡ b → loaded ≡ encode_page (Open d.epoch)
      → duty.taken_at rd (EndPage look page) (Value loaded) ≡ round c p s k y d back (if b then EndPage look next else duty.after_pages rd look) → Goes c p s k None x (Value loaded)
  next_by true f e taken = goes_next f e taken
  next_by false f e taken = end_by (look.front % 64 == 0) refl f e taken

  open_by : (b : Bool) → (loaded == encode_page (Open d.epoch)) ≡ b
      → duty.taken_at rd (EndPage look page) (Value loaded) ≡ round c p s k y d back (if b then (if duty.is_full look.front next then EndPage look next else duty.after_pages rd look) else Ended (NothingNow loaded))
      → Goes c p s k None x (Value loaded)
  open_by true test taken = next_by (duty.is_full look.front next) refl (eqb-true loaded (encode_page (Open d.epoch)) test) taken
  open_by false test taken = ends c p s k y d back (EndPage look page) is (Value loaded) loaded taken refl refl refl

  pub loads_page_again : StepsSo c p s k x
  loads_page_again = loads_it c p s k y d back (EndPage look page) is (Page page) in_table refl (open_by (loaded == encode_page (Open d.epoch)) refl refl)
