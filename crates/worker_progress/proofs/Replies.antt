-- What a step may read, by its machine's stage: a word that takes the machine on, or that of another worker which copies the record; or its
-- exchange is lost.
use Rattle.std.specs.Bool.{⊤}
use Rattle.std.proofs.Common.{◌≡◌, ◌≢◌, ℕ, zero, suc, ◌+◌, ◌*◌, ◌<◌, ◌≤◌, ◌==◌, ◌||◌, Bool, true, false, cond, Some, is_some, slice_index, refl, sym, ap, subst, ◌∙◌, arith}
use Rattle.std.proofs.lemmas.Option.{same_Some}
use Rattle.plain_state.specs.State.{Plain}
use Rattle.atom_store.specs.declared.reply.Reply.{Reply}
use Rattle.atom_store.specs.declared.reply.Reply.TheVariants.{Value, Won, Lost}
use Rattle.atom_store.specs.declared.step.Step.{Step}
use Rattle.atom_store.specs.declared.step.Step.TheVariants.{Load}
use Rattle.atom_store.specs.declared.turn.Turn.TheVariants.{More}
use Rattle.atom_store.specs.Step.{reply_of}
use Rattle.heap_words.specs.Decoded.{Decoded, BusyWord, decode, number_in}
use Rattle.heap_words.specs.FirstWords.{is_header, is_forward}
use Rattle.space_map.specs.AreaWord.{decode_area}
use Rattle.space_map.specs.GateWord.{decode_gate}
use Rattle.space_map.specs.PageWord.{decode_page}
use Rattle.space_map.specs.Spaces.{board_page, page_of, to_space}
use Rattle.space_map.specs.Table.{Row, IsRow, Gate, Area, Page, HeapWord, place_of}
use Rattle.alloc_end.specs.declared.place_stage.PlaceStage.{PlaceStage}
use Rattle.alloc_end.specs.declared.place_stage.PlaceStage.TheVariants as place_stage
use Rattle.alloc_end.specs.Place as place
use Rattle.fault_duty.specs.declared.caller.Caller.{Caller}
use Rattle.fault_duty.specs.declared.caller.Caller.TheVariants.{Faulted}
use Rattle.fault_duty.specs.declared.duty_stage.DutyStage.{DutyStage}
use Rattle.fault_duty.specs.declared.duty_stage.DutyStage.TheVariants as duty_stage
use Rattle.cell_walk.proofs.WalkGoesOn as walk_going
use Rattle.fault_duty.specs.Duty as duty
use Rattle.fault_duty.specs.Soundness.{FitsCaller, IsSoundRound}
use Rattle.forwarding.specs.declared.evac_stage.EvacStage.{EvacStage}
use Rattle.forwarding.specs.declared.evac_stage.EvacStage.TheVariants as evac_stage
use Rattle.forwarding.specs.Evacuation as evac
use Rattle.forwarding.specs.Left as evac_left
use Rattle.gate_core.specs.declared.flip_stage.FlipStage.{FlipStage}
use Rattle.gate_core.specs.declared.flip_stage.FlipStage.TheVariants as flip_stage
use Rattle.gate_core.specs.declared.gate_stage.GateStage.{GateStage}
use Rattle.gate_core.specs.declared.gate_stage.GateStage.TheVariants as gate_stage
use Rattle.gate_core.specs.Flip as flip
use Rattle.gate_core.specs.Gate as gate
use Rattle.page_scan.specs.declared.scan_stage.ScanStage.{ScanStage}
use Rattle.page_scan.specs.declared.scan_stage.ScanStage.TheVariants as scan_stage
use Rattle.page_scan.specs.Left as scan_left
use Rattle.page_scan.specs.Taken.{is_count}
use Rattle.page_scan.specs.Scanning as scan
use Rattle.page_slots.specs.declared.claim_stage.ClaimStage.{ClaimStage}
use Rattle.page_slots.specs.declared.claim_stage.ClaimStage.TheVariants as claim_stage
use Rattle.page_slots.specs.declared.open_stage.OpenStage.{OpenStage}
use Rattle.page_slots.specs.declared.open_stage.OpenStage.TheVariants as open_stage
use Rattle.page_slots.specs.Claim as claim
use Rattle.page_slots.specs.Open as open_page
use Rattle.heap_state.specs.Configuration.{Configuration, Stands, era, memory}
use Rattle.heap_state.specs.Memory.Table.{word_in}
use Rattle.heap_state.proofs.Table.StoredRows.{word_in-row}
use Rattle.heap_laws.specs.Answers.{OldHeader, InPlace, KeptBy, Forwards}
use Rattle.record_access.specs.declared.access.Access.{Access}
use Rattle.record_access.specs.declared.access_stage.AccessStage.{AccessStage}
use Rattle.record_access.specs.declared.access_stage.AccessStage.TheVariants.{LoadsHeader, LoadsCount, LoadsField, StoresField, ExchangesField, LoadsBoard, StoresBoard, SwapsBoard}
use Rattle.record_access.specs.declared.board_access.BoardSwap.{BoardSwap}
use Rattle.record_access.specs.declared.field_access.FieldAccess.{FieldAccess}
use Rattle.record_access.specs.declared.field_access.FieldExchange.{FieldExchange}
use Rattle.record_access.specs.declared.mixed_access.MixedAccess.{MixedAccess}
use Rattle.record_access.specs.declared.record_access.RecordAccess.{RecordAccess}
use Rattle.record_access.specs.Access as access
use Rattle.gc_worker.proofs.Words.Areas.{area_says, is_space}
use Rattle.gc_worker.proofs.Stages.Scan.ScannedHeaders.{heap_word}
use Rattle.gc_worker.proofs.Stages.Gate.GateWords.{gate_says}
use Rattle.gc_worker.proofs.Stages.Rounds.RoundWords.{page_says}

-- the reply takes the machine on, the exchange is lost, or this is so
pub data TakesOn (advances : Reply → Bool) (r : Reply) (kept : Type 0) : Type 0 where
  Advances : advances r ≡ true → TakesOn advances r kept
  Loses : (word : ℕ) → r ≡ Lost word → TakesOn advances r kept
  Waits : kept → TakesOn advances r kept

pub won_or_lost : (advances : Reply → Bool) (kept : Type 0) (b : Bool) (word : ℕ) → advances Won ≡ true → TakesOn advances (cond b Won (Lost word)) kept
won_or_lost advances kept true word won = Advances won
won_or_lost advances kept false word won = Loses word refl

pub either_way : (advances : Reply → Bool) (kept : Type 0) (b : Bool) (word : ℕ) → advances Won ≡ true → advances (Lost word) ≡ true → TakesOn advances (cond b Won (Lost word)) kept
either_way advances kept true word won lost = Advances won
either_way advances kept false word won lost = Advances lost

-- worker k loads the first word of a record whose header another one keeps
pub record MeetsBusy (c : Configuration) (k : ℕ) (q : Step) : Type 0 where
  pub at : ℕ
  pub loads : q ≡ Load (place_of c.pages (HeapWord at))
  pub len : ℕ
  pub worker : ℕ
  pub busy : decode (word_in c.pages c.words (HeapWord at)) ≡ BusyWord len worker
  pub other : worker ≢ k

module _ (c : Configuration) (p : Plain) (s : Stands c p) (k : ℕ) where
  -- a step is answered so
  abbrev pub On : (Reply → Bool) → Step → Type 0
  On advances z = TakesOn advances (reply_of z c.words) (MeetsBusy c k z)

  -- the words of the table, by the pages of a machine's own layout
  abbrev pub word_at : ℕ → Row → ℕ
  word_at n row = slice_index c.words (place_of n row)

  pub word_is : (n : ℕ) → n ≡ c.pages → (row : Row) → IsRow c.pages row → word_at n row ≡ word_in c.pages c.words row
  word_is n same row is = ap (λ (m : ℕ). word_at m row) same ∙ sym (word_in-row c.pages c.words row is)

  pub says_gate : (n : ℕ) → n ≡ c.pages → is_some (decode_gate (word_at n Gate)) ≡ true
  says_gate n same = ap (λ (w : ℕ). is_some (decode_gate w)) (word_is n same Gate tt) ∙ ap is_some (gate_says c p s)

  says_area : (n : ℕ) → n ≡ c.pages → (epoch : ℕ) → is_some (decode_area (word_at n (Area (to_space epoch)))) ≡ true
  says_area n same epoch =
      ap (λ (w : ℕ). is_some (decode_area w)) (word_is n same (Area (to_space epoch)) (is_space epoch)) ∙ ap is_some (area_says c p s (to_space epoch) (is_space epoch))

  says_page : (n : ℕ) → n ≡ c.pages → (page : ℕ) → page ≤ board_page n → is_some (decode_page (word_at n (Page page))) ≡ true
  says_page n same page within =
      let is : page ≤ 2 * c.pages = omega (arith, within, same) in
      ap (λ (w : ℕ). is_some (decode_page w)) (word_is n same (Page page) is) ∙ ap is_some (page_says c p s page is)

  -- ---- the gate, flips, openings

  pub passing : (g : gate.Passing) (stage : GateStage) (q : Step) → g.layout.pages ≡ c.pages → gate.wanted_at g stage ≡ Some q → On (gate.advances_at stage) q
  passing g gate_stage.Loads q same asked = subst (On (gate.advances_at gate_stage.Loads)) (same_Some _ q asked) (Advances (says_gate g.layout.pages same))
  passing g (gate_stage.Exchanges read) q same asked = subst (On (gate.advances_at (gate_stage.Exchanges read))) (same_Some _ q asked) (won_or_lost _ _ _ _ refl)
  passing g (gate_stage.Ended result) q same asked = absurd (cc)

  pub flipping : (f : flip.Flipping) (stage : FlipStage) (q : Step) → f.layout.pages ≡ c.pages → flip.wanted_at f stage ≡ Some q → On (flip.advances_at stage) q
  flipping f flip_stage.LoadsGate q same asked = subst (On (flip.advances_at flip_stage.LoadsGate)) (same_Some _ q asked) (Advances (says_gate f.layout.pages same))
  flipping f (flip_stage.LoadsSize read) q same asked = subst (On (flip.advances_at (flip_stage.LoadsSize read))) (same_Some _ q asked) (Advances refl)
  flipping f (flip_stage.LoadsArea read size) q same asked = subst (On (flip.advances_at (flip_stage.LoadsArea read size))) (same_Some _ q asked) (Advances (says_area f.layout.pages same f.epoch))
  flipping f (flip_stage.StoresSize reset) q same asked = subst (On (flip.advances_at (flip_stage.StoresSize reset))) (same_Some _ q asked) (Advances refl)
  flipping f (flip_stage.StoresArea reset) q same asked = subst (On (flip.advances_at (flip_stage.StoresArea reset))) (same_Some _ q asked) (Advances refl)
  flipping f (flip_stage.ResetsWeak reset) q same asked = subst (On (flip.advances_at (flip_stage.ResetsWeak reset))) (same_Some _ q asked) (Advances refl)
  flipping f (flip_stage.Exchanges reset) q same asked = subst (On (flip.advances_at (flip_stage.Exchanges reset))) (same_Some _ q asked) (won_or_lost _ _ _ _ refl)
  flipping f (flip_stage.Ended result) q same asked = absurd (cc)

  pub opening : (o : open_page.Opening) (stage : OpenStage) (q : Step) → open_page.wanted_at o stage ≡ Some q → On (open_page.advances_at stage) q
  opening o open_stage.StoresOpen q asked = subst (On (open_page.advances_at open_stage.StoresOpen)) (same_Some _ q asked) (Advances refl)
  opening o (open_stage.Ended result) q asked = absurd (cc)

  -- ---- allocations

  pub placing : (a : place.Placing) (stage : PlaceStage) (q : Step) → a.layout.pages ≡ c.pages → place.wanted_at a stage ≡ Some q → On (place.advances_at stage) q
  placing a (place_stage.LoadsArea traced size) q same asked = subst (On (place.advances_at (place_stage.LoadsArea traced size))) (same_Some _ q asked) (Advances (says_area a.layout.pages same a.epoch))
  placing a (place_stage.ExchangesArea f) q same asked = subst (On (place.advances_at (place_stage.ExchangesArea f))) (same_Some _ q asked) (won_or_lost _ _ _ _ refl)
  placing a (place_stage.Ended result) q same asked = absurd (cc)
  placing a stage q same asked = subst (On (place.advances_at stage)) (same_Some _ q asked) (Advances refl)

  -- ---- claims and rounds

  pub claiming : (a : claim.Claiming) (stage : ClaimStage) (q : Step) → a.layout.pages ≡ c.pages → claim.wanted_at a stage ≡ Some q → On (claim.advances_at stage) q
  claiming a (claim_stage.LooksAtPlace j) q same asked = subst (On (claim.advances_at (claim_stage.LooksAtPlace j))) (same_Some _ q asked) (Advances refl)
  claiming a claim_stage.LooksAtGate q same asked = subst (On (claim.advances_at claim_stage.LooksAtGate)) (same_Some _ q asked) (Advances (says_gate a.layout.pages same))
  claiming a claim_stage.Exchanges q same asked = subst (On (claim.advances_at claim_stage.Exchanges)) (same_Some _ q asked) (either_way _ _ _ _ refl refl)
  claiming a (claim_stage.Ended result) q same asked = absurd (cc)

  -- the first page of a space is no later than that of the last one
  one_space : (n space : ℕ) → space < 2 → n * space ≤ n
  one_space n zero l = omega arith
  one_space n (suc zero) l = omega arith
  one_space n (suc (suc space)) l = absurd (omega (arith, l))

  -- the page that a fault is for is a page
  wanted_page : (n : ℕ) (caller : Caller) (page : ℕ) → FitsCaller n caller → caller ≡ Faulted page → page ≤ board_page n
  wanted_page n caller page fits is = subst (FitsCaller n) is fits

  module _ (d : duty.Round) (q : Step) (same : d.layout.pages ≡ c.pages) where
    abbrev pub Reads : DutyStage → Type 0
    Reads stage = On (duty.advances_at stage) q

    abbrev pub sound_at : DutyStage → Type 0
    sound_at stage = IsSoundRound (record d { stage = stage })

    pub serving : (stage : DutyStage) → sound_at stage → duty.wanted_at (record d { stage = stage }) stage ≡ Some q → Reads stage
    serving duty_stage.LoadsGate sound asked = subst (On (duty.advances_at duty_stage.LoadsGate)) (same_Some _ q asked) (Advances (says_gate d.layout.pages same))
    serving (duty_stage.LoadsTraced hindrance) sound asked = subst (On (duty.advances_at (duty_stage.LoadsTraced hindrance))) (same_Some _ q asked) (Advances refl)
    serving (duty_stage.LoadsWanted seen page) sound asked =
        subst (On (duty.advances_at (duty_stage.LoadsWanted seen page))) (same_Some _ q asked)
        (Advances (says_page d.layout.pages same page (wanted_page d.layout.pages d.caller page sound.caller sound.stage.1)))
    serving (duty_stage.LoadsFrontFor seen w) sound asked = subst (On (duty.advances_at (duty_stage.LoadsFrontFor seen w))) (same_Some _ q asked) (Advances (says_area d.layout.pages same d.epoch))
    serving (duty_stage.LoadsFront seen) sound asked = subst (On (duty.advances_at (duty_stage.LoadsFront seen))) (same_Some _ q asked) (Advances (says_area d.layout.pages same d.epoch))
    serving (duty_stage.LoadsPage choice page) sound asked =
        subst (On (duty.advances_at (duty_stage.LoadsPage choice page))) (same_Some _ q asked) (Advances (says_page d.layout.pages same page sound.stage.1.in_table))
    serving (duty_stage.Claims a) sound asked = claiming a a.stage q (ap (λ l. l.pages) sound.stage.layout ∙ same) asked
    serving (duty_stage.EndGate traced) sound asked = subst (On (duty.advances_at (duty_stage.EndGate traced))) (same_Some _ q asked) (Advances (says_gate d.layout.pages same))
    serving (duty_stage.EndArea traced) sound asked = subst (On (duty.advances_at (duty_stage.EndArea traced))) (same_Some _ q asked) (Advances (says_area d.layout.pages same d.epoch))
    serving (duty_stage.EndPage look page) sound asked = subst (On (duty.advances_at (duty_stage.EndPage look page))) (same_Some _ q asked) (Advances refl)
    serving (duty_stage.EndFilling look) sound asked =
        let high = sound.stage.1.high in
        let space = one_space d.layout.pages (to_space d.epoch) (is_space d.epoch) in
        subst (On (duty.advances_at (duty_stage.EndFilling look))) (same_Some _ q asked)
        (Advances (says_page d.layout.pages same (page_of look.front) (omega (arith, high, space))))
    serving (duty_stage.EndAreaAgain look filling) sound asked =
        subst (On (duty.advances_at (duty_stage.EndAreaAgain look filling))) (same_Some _ q asked) (Advances (says_area d.layout.pages same d.epoch))
    serving (duty_stage.Walks traced walk) sound asked = Advances (walk_going.goes_on walk q c.words sound.stage.1.sound asked).0
    serving (duty_stage.Traces traced) sound asked = subst (On (duty.advances_at (duty_stage.Traces traced))) (same_Some _ q asked) (either_way _ _ _ _ refl refl)
    serving (duty_stage.Ended result) sound asked = absurd (cc)

  -- ---- copies

  -- the first word of the record that is asked for
  by_header : (v : evac.Evacuation) (q : Step) (size : ℕ) (d : Decoded) (word : ℕ) → decode word ≡ d → q ≡ Load (place_of c.pages (HeapWord v.addr)) → word ≡ word_in c.pages c.words (HeapWord v.addr)
      → OldHeader (era c) (memory c).front k size d → TakesOn (evac_left.advances evac_stage.LoadsHeader) (Value word) (MeetsBusy c k q)
  by_header v q size d word says is there (InPlace kind len serial mutator of_size) = Advances (ap (λ (e : Decoded). is_header e || is_forward e) says)
  by_header v q size d word says is there (KeptBy len j of_size other) =
      Waits (record { at = v.addr; loads = is; len = len; worker = j; busy = ap decode (sym there) ∙ says; other = other })
  by_header v q size d word says is there (Forwards len to of_size inside) = Advances (ap (λ (e : Decoded). is_header e || is_forward e) says)

  module _ (v : evac.Evacuation) (q : Step) (same : v.layout.pages ≡ c.pages) where
    abbrev pub first_step : Step
    first_step = Load (place_of v.layout.pages (HeapWord v.addr))

    pub loads_header : (size : ℕ) → v.addr < 128 * c.pages → OldHeader (era c) (memory c).front k size (decode ((memory c).heap v.addr)) → On (evac_left.advances evac_stage.LoadsHeader) first_step
    loads_header size inside old =
        let row : IsRow c.pages (HeapWord v.addr) = omega (arith, inside) in
        let there = word_is v.layout.pages same (HeapWord v.addr) row in
        let heap = heap_word c v.addr in
        by_header v first_step size (decode ((memory c).heap v.addr)) (word_at v.layout.pages (HeapWord v.addr)) (ap decode (there ∙ sym heap))
        (ap (λ (n : ℕ). Load (place_of n (HeapWord v.addr))) same) there old

    pub copying : (stage : EvacStage) → evac.wanted_at v.layout v.addr v.epoch v.worker stage ≡ Some q → (stage ≡ evac_stage.LoadsHeader → On (evac_left.advances evac_stage.LoadsHeader) first_step)
        → On (evac_left.advances stage) q
    copying evac_stage.LoadsHeader asked first = subst (On (evac_left.advances evac_stage.LoadsHeader)) (same_Some _ q asked) (first refl)
    copying (evac_stage.LoadsArea kept) asked first = subst (On (evac_left.advances (evac_stage.LoadsArea kept))) (same_Some _ q asked) (Advances (says_area v.layout.pages same v.epoch))
    copying (evac_stage.Ended to) asked first = absurd (cc)
    copying stage asked first = subst (On (evac_left.advances stage)) (same_Some _ q asked) (first_of (search (refl, Advances), search (refl, won_or_lost)))

  -- ---- accesses, of which those that end need nothing

  module _ (a : Access) (same : a.spaces.pages ≡ c.pages) where
    abbrev pub its_step : AccessStage → Step
    its_step stage = access.wanted_at a.spaces stage

    abbrev pub More_at : AccessStage → Type 0
    More_at stage = access.told (access.at_stage a stage) (reply_of (its_step stage) c.words) ≡ More

    pub accessing : (stage : AccessStage) → More_at stage → ((r : RecordAccess) → stage ≡ LoadsHeader r → access.is_header (decode (word_at a.spaces.pages (HeapWord r.at))) ≡ true)
        → ((m : MixedAccess) → stage ≡ LoadsCount m → is_some (number_in (decode (word_at a.spaces.pages (HeapWord (access.count_at m))))) ≡ true)
        → On (access.advances_at stage) (its_step stage)
    accessing (LoadsHeader r) more header count = Advances (header r refl)
    accessing (LoadsCount m) more header count = Advances (count m refl)
    accessing (LoadsField f into) more header count = absurd (cc)
    accessing (StoresField f new) more header count = absurd (cc)
    accessing (ExchangesField f e old) more header count = exchanged f e old (slice_index c.words (place_of a.spaces.pages (HeapWord (access.field_at f))) == old) more
      where
        exchanged : (f : FieldAccess) (e : FieldExchange) (old : ℕ) (won : Bool) → access.told (access.at_stage a (ExchangesField f e old)) (cond won Won (Lost (slice_index c.words (place_of a.spaces.pages (HeapWord (access.field_at f)))))) ≡ More
            → TakesOn (access.advances_at (ExchangesField f e old)) (cond won Won (Lost (slice_index c.words (place_of a.spaces.pages (HeapWord (access.field_at f)))))) (MeetsBusy c k (its_step (ExchangesField f e old)))
        exchanged f e old true more = absurd (cc)
        exchanged f e old false more = Loses _ refl
    accessing (LoadsBoard y into) more header count = absurd (cc)
    accessing (StoresBoard y new) more header count = absurd (cc)
    accessing (SwapsBoard b old) more header count = swapped b old (slice_index c.words (place_of a.spaces.pages (HeapWord (access.board_at a.spaces b.word))) == old) more
      where
        swapped : (b : BoardSwap) (old : ℕ) (won : Bool) → access.told (access.at_stage a (SwapsBoard b old)) (cond won Won (Lost (slice_index c.words (place_of a.spaces.pages (HeapWord (access.board_at a.spaces b.word)))))) ≡ More
            → TakesOn (access.advances_at (SwapsBoard b old)) (cond won Won (Lost (slice_index c.words (place_of a.spaces.pages (HeapWord (access.board_at a.spaces b.word)))))) (MeetsBusy c k (its_step (SwapsBoard b old)))
        swapped b old true more = absurd (cc)
        swapped b old false more = Loses _ refl
    accessing _ more header count = Advances refl

  -- ---- scans

  -- the word of a record that a scan is about to read is the one that has to be there
  abbrev pub IsThere : (v : scan.Scanning) → ScanStage → Type 0
  IsThere v (scan_stage.LoadsFirst at) = is_header (decode (word_at v.layout.pages (HeapWord at))) ≡ true
  IsThere v (scan_stage.LoadsNext r) = is_header (decode (word_at v.layout.pages (HeapWord r.next))) ≡ true
  IsThere v (scan_stage.LoadsCount h) = is_count h.size (decode (word_at v.layout.pages (HeapWord (h.at + 1)))) ≡ true
  IsThere v stage = ⊤

  module _ (v : scan.Scanning) (q : Step) (same : v.layout.pages ≡ c.pages) where
    pub scanning : (stage : ScanStage) → scan.wanted_at v.layout v.page v.epoch stage ≡ Some q → IsThere v stage → On (scan_left.advances stage) q
    scanning (scan_stage.LoadsFirst at) asked there = subst (On (scan_left.advances (scan_stage.LoadsFirst at))) (same_Some _ q asked) (Advances there)
    scanning (scan_stage.LoadsCount h) asked there = subst (On (scan_left.advances (scan_stage.LoadsCount h))) (same_Some _ q asked) (Advances there)
    scanning (scan_stage.Asks ask) asked there = absurd (cc)
    scanning (scan_stage.LoadsFront r) asked there = subst (On (scan_left.advances (scan_stage.LoadsFront r))) (same_Some _ q asked) (Advances (says_area v.layout.pages same v.epoch))
    scanning (scan_stage.LoadsNext r) asked there = subst (On (scan_left.advances (scan_stage.LoadsNext r))) (same_Some _ q asked) (Advances there)
    scanning (scan_stage.Ended ending) asked there = absurd (cc)
    scanning stage asked there = subst (On (scan_left.advances stage)) (same_Some _ q asked) (Advances refl)
