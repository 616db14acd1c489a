-- Where a scan goes on in a record: at its next field on the page, at the next record, or it has ended.
use Rattle.std.proofs.Common.{◌≡◌, ◌≢◌, ℕ, ◌+◌, ◌*◌, ◌/◌, ◌<◌, ◌≤◌, Bool, true, false, Some, None, is_some, nat_lt, nat_le, refl, sym, ◌∙◌, arith, if◌then◌else◌}
use Rattle.std.proofs.lemmas.Bool.{ne_eqb, ltb-true, leb-true}
use Rattle.std.proofs.lemmas.Bool.Decides.{nat_tests}
use Rattle.space_map.specs.Spaces.{first_word, board_page}
use Rattle.page_scan.specs.Scanning.{Scanning}
use Rattle.page_scan.specs.Soundness as scan_sound
use Rattle.page_scan.specs.Taken.{goes_on_at}
use Rattle.page_scan.specs.declared.scanned_record.ScannedRecord.{ScannedRecord}
use Rattle.page_scan.specs.declared.scan_stage.ScanStage.{ScanStage}
use Rattle.page_scan.specs.declared.scan_stage.ScanStage.TheVariants as scan_stage
use Rattle.page_scan.specs.declared.spot.Spot.TheVariants.{InRecord}
use Rattle.heap_state.specs.Memory.Era.{Era}
use Rattle.heap_state.specs.Memory.FieldSpan.{next_scanned}
use Rattle.heap_state.specs.Known.{Scan}
use Rattle.heap_laws.specs.Composing.{IsAtMost}
use Rattle.heap_laws.specs.Scanning.Words.{scanning, is_past}
use Rattle.gc_worker.specs.declared.stage.back.Back.{Back}
use Rattle.gc_worker.specs.declared.stage.Stage.TheVariants.{Scans}
use Rattle.gc_worker.specs.Workers.Fits.{Fits, FitsScan, FitsBack, FitsTaskBack, IsOnSideBack}
use Rattle.gc_worker.specs.Workers.Held.{Held}
use Rattle.gc_worker.specs.Workers.Knows.{knows, scan_of, seen_record}
use Rattle.heap_laws.proofs.Steps.Forgotten.{of_scan}
use Rattle.gc_worker.proofs.Stages.Scan.ScanKnowledge.{scans_to, going_fits, ended_fits}

module _ (y : Held) (v : Scanning) (back : Back) (r : ScannedRecord) (z : ℕ) where
  abbrev x : Held
  x = record y { stage = Scans v back }

  -- the stage by where it stands: at a field, on the page, before the next record of the page, in place
  abbrev stage_by : (b1 b2 b3 in_place : Bool) → ScanStage
  stage_by b1 b2 b3 in_place =
      if b1
      then (if b2 then scan_stage.LoadsWord (InRecord r z) else scan_stage.Ended (record { cursor = z; at_front = false }))
      else if b3
      then (if in_place then scan_stage.LoadsFront r else scan_stage.LoadsNext r)
      else scan_stage.Ended (record { cursor = r.next; at_front = false })

  module _ (E : Era) (apart : v.page ≢ E.board / 64) where
    -- the scan that has gone on to a place
    abbrev pub gone_to : ℕ → Scan
    gone_to a = record { page = v.page; cursor = a; in_place = v.in_place; over = None; headed = None; current = Some (seen_record r); inner = false; ended = is_past E v.page a }

    -- it is past the page, or not
    past_by : (a : ℕ) (b : Bool) → nat_lt a (first_word (v.page + 1)) ≡ b → is_past E v.page a ≡ (if b then false else true)
    past_by a b e = rw (ne_eqb v.page (E.board / 64) apart) (by_test b e (nat_le (64 * v.page + 64) a) refl)
      where
        by_test : (b : Bool) → nat_lt a (first_word (v.page + 1)) ≡ b → (t : Bool) → nat_le (64 * v.page + 64) a ≡ t → t ≡ (if b then false else true)
        by_test true e true f = absurd (let l = ltb-true a (first_word (v.page + 1)) e in let m = leb-true (64 * v.page + 64) a f in omega (arith, l, m))
        by_test true e false f = refl
        by_test false e true f = refl
        by_test false e false f = absurd (grind (arith, nat_tests, e, f))

    less_by : (b1 b2 b3 in_place : Bool) → nat_lt z (first_word (v.page + 1)) ≡ b2 → nat_lt r.next (first_word (v.page + 1)) ≡ b3 → v.in_place ≡ in_place
        → IsAtMost (knows (scans_to x v back (stage_by b1 b2 b3 in_place))) (scanning (knows x) (gone_to (if b1 then z else r.next)))
    less_by true true b3 ip e f g = of_scan (scanning (knows x) (gone_to z)) (scan_of v (scan_stage.LoadsWord (InRecord r z))) (gone_to z) refl
        (record { page = refl; cursor = refl; in_place = refl; over = λ _ u. u; headed = λ _ u. u; current = λ _ u. u; inner = λ u. u; ended = sym (past_by z true e) })
    less_by true false b3 ip e f g = of_scan (scanning (knows x) (gone_to z)) (scan_of v (scan_stage.Ended (record { cursor = z; at_front = false }))) (gone_to z) refl
        (record { page = refl; cursor = refl; in_place = refl; over = λ _ u. u; headed = λ _ u. u; current = λ _ u. absurd (cc); inner = λ u. u; ended = sym (past_by z false e) })
    less_by false b2 true true e f g = of_scan (scanning (knows x) (gone_to r.next)) (scan_of v (scan_stage.LoadsFront r)) (gone_to r.next) refl
        (record { page = refl; cursor = refl; in_place = refl; over = λ _ u. u; headed = λ _ u. u; current = λ _ u. u; inner = λ u. u; ended = sym (past_by r.next true f) })
    less_by false b2 true false e f g = of_scan (scanning (knows x) (gone_to r.next)) (scan_of v (scan_stage.LoadsNext r)) (gone_to r.next) refl
        (record { page = refl; cursor = refl; in_place = refl; over = λ _ u. u; headed = λ _ u. u; current = λ _ u. u; inner = λ u. sym g ∙ u; ended = sym (past_by r.next true f) })
    less_by false b2 false ip e f g = of_scan (scanning (knows x) (gone_to r.next)) (scan_of v (scan_stage.Ended (record { cursor = r.next; at_front = false }))) (gone_to r.next) refl
        (record { page = refl; cursor = refl; in_place = refl; over = λ _ u. u; headed = λ _ u. u; current = λ _ u. absurd (cc); inner = λ u. u; ended = sym (past_by r.next false f) })

    pub goes_on_less : IsAtMost (knows (scans_to x v back (goes_on_at v.page v.in_place r z))) (scanning (knows x) (gone_to (next_scanned (seen_record r) z)))
    goes_on_less = less_by (nat_lt z r.fields_end) (nat_lt z (first_word (v.page + 1))) (nat_lt r.next (first_word (v.page + 1))) v.in_place refl refl refl

  -- the record is one, and the place is on the page or behind it, and behind its header
  module _ (whole : scan_sound.IsScannedRecord r) (space : v.page < board_page v.layout.pages) (from : first_word v.page ≤ z) (behind : r.at < z) (reaches : first_word v.page ≤ r.next) where
    sound_by : (b1 b2 b3 in_place : Bool) → nat_lt z r.fields_end ≡ b1 → nat_lt z (first_word (v.page + 1)) ≡ b2 → nat_lt r.next (first_word (v.page + 1)) ≡ b3
        → scan_sound.FitsStage v.layout.pages v.page (stage_by b1 b2 b3 in_place)
    sound_by true true b3 ip d e f = (whole, space, from, ltb-true z (first_word (v.page + 1)) e, behind, ltb-true z r.fields_end d)
    sound_by true false b3 ip d e f = let l = ltb-true z r.fields_end d in let a = whole.fields in let b = whole.short in let i = whole.inside in omega (arith, l, a, b, i)
    sound_by false b2 true true d e f = (whole, space, reaches, ltb-true r.next (first_word (v.page + 1)) f)
    sound_by false b2 true false d e f = (whole, space, reaches, ltb-true r.next (first_word (v.page + 1)) f)
    sound_by false b2 false ip d e f = let b = whole.short in let i = whole.inside in omega (arith, b, i)

    pub goes_on_sound : scan_sound.FitsStage v.layout.pages v.page (goes_on_at v.page v.in_place r z)
    goes_on_sound = sound_by (nat_lt z r.fields_end) (nat_lt z (first_word (v.page + 1))) (nat_lt r.next (first_word (v.page + 1))) v.in_place refl refl refl

    module _ (n mutators k : ℕ) (f : Fits n mutators k x) (unended : is_some x.account.end ≡ false) (fits : FitsScan x v) (own : FitsBack x back)
        (side : IsOnSideBack back (nat_lt x.number x.mutators)) (task : FitsTaskBack x back) where
      fits_by : (b1 b2 b3 in_place : Bool) → scan_sound.FitsStage v.layout.pages v.page (stage_by b1 b2 b3 in_place) → Fits n mutators k (scans_to x v back (stage_by b1 b2 b3 in_place))
      fits_by true true b3 ip sound = going_fits x v back n mutators k f unended fits own side task (scan_stage.LoadsWord (InRecord r z)) tt sound
      fits_by true false b3 ip sound = ended_fits x v back n mutators k f unended fits own side task (record { cursor = z; at_front = false }) sound
      fits_by false b2 true true sound = going_fits x v back n mutators k f unended fits own side task (scan_stage.LoadsFront r) tt sound
      fits_by false b2 true false sound = going_fits x v back n mutators k f unended fits own side task (scan_stage.LoadsNext r) tt sound
      fits_by false b2 false ip sound = ended_fits x v back n mutators k f unended fits own side task (record { cursor = r.next; at_front = false }) sound

      pub goes_on_fits : Fits n mutators k (scans_to x v back (goes_on_at v.page v.in_place r z))
      goes_on_fits = fits_by (nat_lt z r.fields_end) (nat_lt z (first_word (v.page + 1))) (nat_lt r.next (first_word (v.page + 1))) v.in_place goes_on_sound
