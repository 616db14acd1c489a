-- A word of the board, or a field, is passed.
use Rattle.std.proofs.Common.{◌≡◌, ℕ, ◌+◌, ◌*◌, ◌/◌, Bool, true, false, is_some, nat_lt, nat_le, refl, sym, arith, inl, inr, if◌then◌else◌}
use Rattle.std.proofs.lemmas.Bool.{eq-eqb, ltb-true, leb-true}
use Rattle.std.proofs.lemmas.Bool.Decides.{nat_tests}
use Rattle.space_map.specs.Spaces.{first_word, board_page, IsPageCount}
use Rattle.page_scan.specs.Scanning.{Scanning}
use Rattle.page_scan.specs.Soundness as scan_sound
use Rattle.page_scan.specs.Taken.{passes_word, board_words}
use Rattle.page_scan.specs.declared.scan_stage.ScanStage.{ScanStage}
use Rattle.page_scan.specs.declared.scan_stage.ScanStage.TheVariants as scan_stage
use Rattle.page_scan.specs.declared.spot.Spot.{Spot}
use Rattle.page_scan.specs.declared.spot.Spot.TheVariants.{OnBoard, InRecord}
use Rattle.heap_state.specs.Memory.Era.{Era}
use Rattle.heap_laws.specs.Composing.{IsAtMost}
use Rattle.heap_laws.specs.Scanning.Words.{scanning, is_past, past_word, AtField}
use Rattle.gc_worker.specs.declared.stage.back.Back.{Back}
use Rattle.gc_worker.specs.declared.stage.Stage.TheVariants.{Scans}
use Rattle.gc_worker.specs.Workers.Fits.{Fits, FitsScan, FitsBack, FitsTaskBack, IsOnSideBack}
use Rattle.gc_worker.specs.Workers.Held.{Held}
use Rattle.gc_worker.specs.Workers.Knows.{knows, scan_of, seen_record, scan_at}
use Rattle.heap_laws.proofs.Steps.Forgotten.{of_scan}
use Rattle.gc_worker.proofs.Stages.Scan.ScanKnowledge.{scans_to, going_fits, ended_fits}
use Rattle.gc_worker.proofs.Stages.Scan.Passing.{goes_on_less, goes_on_sound, goes_on_fits}

module _ (y : Held) (v : Scanning) (back : Back) where
  abbrev x : Held
  x = record y { stage = Scans v back }

  -- where the scan goes on on the board, by whether it is past the words that are used
  abbrev board_by : ℕ → Bool → ScanStage
  board_by a b = if b then scan_stage.LoadsWord (OnBoard (a + 1)) else scan_stage.Ended (record { cursor = a + 1; at_front = false })

  -- ---- what is known

  module _ (E : Era) (n : ℕ) (board : E.board ≡ 128 * n) where
    pub at_field : (spot : Spot) → scan_sound.IsOnPage n v.page spot → AtField E (scan_at v spot)
    at_field (OnBoard a) on = record { on_page = omega (arith, on); place = inl ((omega (arith, on, board), omega (arith, on, board)), refl) }
    at_field (InRecord r a) on = record { on_page = omega (arith, on); place = inr (seen_record r, refl, on.5) }

    past_board : (a : ℕ) (b : Bool) → v.page ≡ board_page n → nat_lt (a + 1) (first_word v.page + board_words) ≡ b → is_past E v.page (a + 1) ≡ (if b then false else true)
    past_board a b at e = rw (eq-eqb v.page (E.board / 64) (omega (arith, at, board))) (by_test b e (nat_le (E.board + 16) (a + 1)) refl)
      where
        by_test : (b : Bool) → nat_lt (a + 1) (first_word v.page + board_words) ≡ b → (t : Bool) → nat_le (E.board + 16) (a + 1) ≡ t → t ≡ (if b then false else true)
        by_test true e true f = absurd (let l = ltb-true (a + 1) (first_word v.page + board_words) e in let m = leb-true (E.board + 16) (a + 1) f in omega (arith, l, m, at, board))
        by_test true e false f = refl
        by_test false e true f = refl
        by_test false e false f = absurd (grind (arith, nat_tests, e, f, at, board))

    board_less : (a : ℕ) (b : Bool) → v.page ≡ board_page n → nat_lt (a + 1) (first_word v.page + board_words) ≡ b
        → IsAtMost (knows (scans_to x v back (board_by a b))) (scanning (knows x) (past_word E (scan_at v (OnBoard a))))
    board_less a true at e = of_scan (scanning (knows x) (past_word E (scan_at v (OnBoard a)))) (scan_of v (scan_stage.LoadsWord (OnBoard (a + 1)))) (past_word E (scan_at v (OnBoard a))) refl
        (record { page = refl; cursor = refl; in_place = refl; over = λ _ u. u; headed = λ _ u. u; current = λ _ u. u; inner = λ u. u; ended = sym (past_board a true at e) })
    board_less a false at e = of_scan (scanning (knows x) (past_word E (scan_at v (OnBoard a)))) (scan_of v (scan_stage.Ended (record { cursor = a + 1; at_front = false }))) (past_word E (scan_at v (OnBoard a))) refl
        (record { page = refl; cursor = refl; in_place = refl; over = λ _ u. u; headed = λ _ u. u; current = λ _ u. u; inner = λ u. u; ended = sym (past_board a false at e) })

    pub passes_less : (spot : Spot) → scan_sound.IsOnPage n v.page spot → IsAtMost (knows (scans_to x v back (passes_word v.page v.in_place spot))) (scanning (knows x) (past_word E (scan_at v spot)))
    passes_less (OnBoard a) on = board_less a (nat_lt (a + 1) (first_word v.page + board_words)) on.0 refl
    passes_less (InRecord r a) on = goes_on_less y v back r (a + 1) E (λ e. omega (arith, on, board, e))

  -- ---- that it fits

  board_sound : (a : ℕ) (b : Bool) → IsPageCount v.layout.pages → scan_sound.IsOnPage v.layout.pages v.page (OnBoard a) → nat_lt (a + 1) (first_word v.page + board_words) ≡ b
      → scan_sound.FitsStage v.layout.pages v.page (board_by a b)
  board_sound a true few on e = (on.0, omega (arith, on), ltb-true (a + 1) (first_word v.page + board_words) e)
  board_sound a false few on e = omega (arith, on, few)

  pub passes_sound : (spot : Spot) → IsPageCount v.layout.pages → scan_sound.IsOnPage v.layout.pages v.page spot → scan_sound.FitsStage v.layout.pages v.page (passes_word v.page v.in_place spot)
  passes_sound (OnBoard a) few on = board_sound a (nat_lt (a + 1) (first_word v.page + board_words)) few on refl
  passes_sound (InRecord r a) few on = let f = on.0.fields in goes_on_sound y v back r (a + 1) on.0 on.1 (omega (arith, on)) (omega (arith, on)) (omega (arith, on, f))

  module _ (n mutators k : ℕ) (f : Fits n mutators k x) (unended : is_some x.account.end ≡ false) (fits : FitsScan x v) (own : FitsBack x back)
      (side : IsOnSideBack back (nat_lt x.number x.mutators)) (task : FitsTaskBack x back) where
    board_fits : (a : ℕ) (b : Bool) → scan_sound.FitsStage v.layout.pages v.page (board_by a b) → Fits n mutators k (scans_to x v back (board_by a b))
    board_fits a true sound = going_fits x v back n mutators k f unended fits own side task (scan_stage.LoadsWord (OnBoard (a + 1))) tt sound
    board_fits a false sound = ended_fits x v back n mutators k f unended fits own side task (record { cursor = a + 1; at_front = false }) sound

    pub passes_fits : (spot : Spot) → scan_sound.IsOnPage v.layout.pages v.page spot → Fits n mutators k (scans_to x v back (passes_word v.page v.in_place spot))
    passes_fits (OnBoard a) on = board_fits a (nat_lt (a + 1) (first_word v.page + board_words)) (passes_sound (OnBoard a) fits.sound.pages on)
    passes_fits (InRecord r a) on = let e = on.0.fields in goes_on_fits y v back r (a + 1) on.0 on.1 (omega (arith, on)) (omega (arith, on)) (omega (arith, on, e)) n mutators k f unended fits own side task
