-- The walk over the chain of copied cells, which a round makes before it exchanges TRACED: the turn is taken, WEAK is loaded, and of each
-- cell its target, what stands where that leads, and its link; and a target that leads into the old space is replaced.
use Rattle.std.proofs.Common.{◌≡◌, ◌≢◌, ℕ, ◌+◌, ◌-◌, ◌*◌, ◌^◌, ◌<◌, ◌≤◌, ◌⊎◌, inl, inr, Bool, true, false, Option, Some, None, nat_lt, refl, sym, ap, subst, ◌∙◌, arith, ⊎_elim}
use Rattle.std.specs.Prelude.{nat_le}
use Rattle.std.proofs.lemmas.Bool.{and_parts, leb-true, ltb-true, ltb-false, le-leb, lt-ltb, eq-eqb, ne_eqb}
use Rattle.plain_state.specs.State.{Plain}
use Rattle.atom_store.specs.declared.reply.Reply.{Reply}
use Rattle.atom_store.specs.declared.reply.Reply.TheVariants.{Value, Done, Won, Lost}
use Rattle.atom_store.specs.declared.step.Step.TheVariants.{Load, Store, Exchange}
use Rattle.atom_store.specs.declared.turn.Turn.TheVariants.{More}
use Rattle.heap_words.specs.Decoded.{Decoded, NumberWord, PointerWord, HeaderWord, ForwardWord, BusyWord, Malformed, decode}
use Rattle.heap_words.specs.Word.{number_word, pointer_word}
use Rattle.heap_words.proofs.Decoding.{decode-number_word, decode-pointer_word}
use Rattle.space_map.specs.Spaces.{to_space, space_start}
use Rattle.space_map.specs.Table.{Row, IsRow, WeakHead, WeakTurn, HeapWord, place_of}
use Rattle.cell_walk.specs.declared.linked_cell.LinkedCell.{LinkedCell}
use Rattle.cell_walk.specs.declared.walk_end.WalkEnd.TheVariants.{Passed, Another}
use Rattle.cell_walk.specs.declared.walk_stage.WalkStage.{WalkStage}
use Rattle.cell_walk.specs.declared.walk_stage.WalkStage.TheVariants.{LoadsTurn, TakesTurn, LoadsWeak, LoadsTarget, LoadsTargetHeader, StoresTarget, LoadsLink, Ended}
use Rattle.cell_walk.specs.Soundness.{FitsStage, FitsCell, IsReplacement}
use Rattle.cell_walk.specs.Taken.{along, by_target, is_old, replacement, stage_after, told}
use Rattle.cell_walk.specs.Walking.{Walking, IsGoing, most_cells}
use Rattle.fault_duty.specs.declared.duty_stage.DutyStage.{DutyStage}
use Rattle.fault_duty.specs.declared.duty_stage.DutyStage.TheVariants.{Walks, Traces}
use Rattle.fault_duty.specs.Duty as duty
use Rattle.fault_duty.specs.Duty.{Round, walk_went}
use Rattle.fault_duty.specs.Soundness.{IsOwnWalk, IsUntraced}
use Rattle.heap_state.specs.Configuration.{Configuration, Stands, era, memory, team}
use Rattle.heap_state.specs.Invariant.Ghost.{Leads}
use Rattle.heap_state.specs.Memory.Entries.{Entry, WordIs, WeakTurnIs}
use Rattle.heap_state.specs.Memory.Era.{from_space}
use Rattle.heap_state.specs.Memory.Table.{table_of, word_in}
use Rattle.heap_state.specs.Known.{Known, LastLook, Visit, Pass, Begins, At}
use Rattle.heap_state.specs.Known as workers
use Rattle.heap_laws.specs.Answers.{LeadsToCell, SettledHeader, NotCopied, CopiedTo, WalkAnswers}
use Rattle.heap_laws.specs.Cells.Walks.{ComesTo, passed, replacing, visit}
use Rattle.heap_laws.specs.Tracing.{has_turn}
use Rattle.heap_laws.specs.Walking.{IsAtTarget, walking}
use Rattle.heap_laws.proofs.Frames.Values.{pointer_same}
use Rattle.heap_laws.proofs.Tracing.Turns.{turns_are_taken}
use Rattle.heap_laws.proofs.Walking.Answered.{walks_are_answered, chains_are_answered}
use Rattle.heap_laws.proofs.Walking.Loads.{walks_begin, walks_go_on, targets_stay, targets_lead_out, copies_replace_targets, nothing_replaces_targets}
use Rattle.heap_laws.proofs.Walking.Replaced.{targets_are_replaced}
use Rattle.gc_worker.specs.declared.stage.back.Back.{Back}
use Rattle.gc_worker.specs.Steps.Goes.{Is, Goes, StepsSo}
use Rattle.gc_worker.specs.Workers.Held.{Held}
use Rattle.gc_worker.specs.Workers.Knows.{knows, pass_of, visited}
use Rattle.gc_worker.proofs.Stages.Scan.ScannedHeaders.{heap_word}
use Rattle.gc_worker.proofs.Stages.Gate.GateWords.{wants}
use Rattle.gc_worker.proofs.Stages.Rounds.NextRoundStage.{round, at, goes_on, ends, same_pages}
use Rattle.gc_worker.proofs.Stages.Rounds.SecondLook.{looked_in}
use Rattle.gc_worker.proofs.Words.Eras.{board_is, start_is, old_start_is, spaces_apart, span_within, old_span_within}
use Rattle.gc_worker.proofs.Words.RowSteps.{Law, exchanges, loads, nothing, prepared, row_fits, stores}

abbrev pub turn_now : Configuration → ℕ
turn_now c = word_in c.pages c.words WeakTurn

pub turn_word : (c : Configuration) → (memory c).weak_turn ≡ turn_now c
unfolding table_of
turn_word c = λ i. turn_now c

abbrev head_now : Configuration → ℕ
head_now c = word_in c.pages c.words WeakHead

head_word : (c : Configuration) → (memory c).weak ≡ head_now c
unfolding table_of
head_word c = λ i. head_now c

-- what replaces a target is below 2^62
small : (word : ℕ) → IsReplacement word → word < 2 ^ 62
unfolding number_word pointer_word
small word is = ⊎_elim (λ e. omega (arith, e)) (λ a. let l = a.1 in let e = a.2 in omega (arith, l, e)) is

-- along a word that leads to a cell, or is 0
along_none : (most link : ℕ) → link ≡ 0 → along most link ≡ Ended Passed
along_none most link e = rw (eq-eqb link 0 e) refl

along_cell : (most link a : ℕ) → link ≡ a + 1 → 0 < most → along most link ≡ LoadsTarget (record { at = a; most = most })
along_cell most link a e some =
    let first : a ≡ link - 1 = omega (arith, e) in
    rw (ne_eqb link 0 (omega (arith, e)), ne_eqb most 0 (omega (arith, some)), first) refl

module _ (c : Configuration) (p : Plain) (s : Stands c p) (k : ℕ) (y : Held) (d : Round) (back : Back) (traced : ℕ) (w : Walking) where
  abbrev walk_at : WalkStage → Walking
  walk_at z = record w { stage = z }

  abbrev stage_at : WalkStage → DutyStage
  stage_at z = Walks traced (walk_at z)

  abbrev here : WalkStage → Held
  here z = at c p s k y d back (stage_at z)

  -- what becomes of the round by the walk's next stage
  went : (z next : WalkStage) (reply : Reply) → stage_after w.layout w.epoch z reply ≡ next
      → duty.taken_at (round c p s k y d back (stage_at z)) (stage_at z) reply ≡ round c p s k y d back (walk_went traced (walk_at next) (told next))
  went z next reply after = ap (λ (n : WalkStage). round c p s k y d back (walk_went traced (walk_at n) (told n))) after

  module _ (z : WalkStage) (is : Is c k (here z)) where
    abbrev x : Held
    x = here z

    untraced : IsUntraced d.epoch traced
    untraced = is.fits.stage.0.sound.stage.0

    own : IsOwnWalk (round c p s k y d back (stage_at z)) (walk_at z)
    own = is.fits.stage.0.sound.stage.1

    pages : w.layout.pages ≡ c.pages
    pages = ap (λ l. l.pages) own.layout ∙ same_pages c p s k y d back (stage_at z) is

    -- the walk goes on
    goes : (e : Option Entry) (reply : Reply) (next : WalkStage) → stage_after w.layout w.epoch z reply ≡ next → told next ≡ More → IsGoing next → FitsStage w.layout w.epoch next
        → Law c p s k x e (knows (here next)) s.ghost → Goes c p s k e x reply
    goes e reply next after more going fits law =
        goes_on c p s k y d back (stage_at z) is e reply (stage_at next) s.ghost
        (went z next reply after ∙ ap (λ t. round c p s k y d back (walk_went traced (walk_at next) t)) more) refl refl
        (untraced, record { layout = own.layout; epoch = own.epoch; going = going; sound = record { pages = own.sound.pages; fits = fits } }) law

    -- it has passed all cells
    passes : (reply : Reply) → stage_after w.layout w.epoch z reply ≡ Ended Passed → Law c p s k x None (walking (knows x) workers.Done) s.ghost → Goes c p s k None x reply
    passes reply after law =
        goes_on c p s k y d back (stage_at z) is None reply (Traces traced) s.ghost (went z (Ended Passed) reply after) refl refl untraced law

    -- another has the turn
    ends_by : (reply : Reply) (word : ℕ) → stage_after w.layout w.epoch z reply ≡ Ended (Another word) → pass_of z ≡ None → Goes c p s k None x reply
    ends_by reply word after still = ends c p s k y d back (stage_at z) is reply word (went z (Ended (Another word)) reply after) refl still refl

    walks_so : ((team c).worker k).pass ≡ pass_of z
    walks_so = ap (λ (u : Known). u.pass) is.as_known

    -- a law of the worker whose walk is so
    of_walk : (e : Option Entry) (q : Pass) → Law c p s k x e (walking ((team c).worker k) q) s.ghost → Law c p s k x e (walking (knows x) q) s.ghost
    of_walk e q law = subst (λ (u : Known). Law c p s k x e (walking u q) s.ghost) is.as_known law

    loads_row : (row : Row) → IsRow c.pages row
        → duty.wanted (round c p s k y d back (stage_at z)) ≡ Some (Load (place_of w.layout.pages row))
        → Goes c p s k None x (Value (word_in c.pages c.words row)) → StepsSo c p s k x
    loads_row row is_row want there =
        wants c p s k x (Load (place_of c.pages row))
        (want ∙ ap (λ n. Some (Load (place_of n row))) pages) (loads c p s k x row is_row there)

    -- along a word that leads to a cell, or is 0
    goes_along : (most link : ℕ) → stage_after w.layout w.epoch z (Value link) ≡ along most link → most ≤ most_cells w.layout.pages → LeadsToCell (era c) link most
        → ((q : Pass) → ComesTo link most q → Law c p s k x None (walking ((team c).worker k) q) s.ghost) → Goes c p s k None x (Value link)
    goes_along most link after few leads law = ⊎_elim
        (λ (zero : link ≡ 0). passes (Value link) (after ∙ along_none most link zero) (of_walk None workers.Done (law workers.Done (inl (zero, refl)))))
        (λ (a : (a : ℕ) × (link ≡ a + 1) × (a + 3 ≤ (era c).board) × (0 < most)).
        let cell : LinkedCell = record { at = a.0; most = most } in
        let inside = a.2 in
        let board = board_is c in
        let n = pages in
        goes None (Value link) (LoadsTarget cell) (after ∙ along_cell most link a.0 a.1 a.3) refl tt
        (record { inside = omega (arith, inside, board, n); some = a.3; few = few })
        (of_walk None (At (visit a.0 most)) (law (At (visit a.0 most)) (inr (a.0, a.1, refl)))))
        leads

  -- ---- the turn

  module _ (is : Is c k (here LoadsTurn)) where
    turn_by : (b : Bool) → nat_lt w.epoch (turn_now c) ≡ b → Goes c p s k None (here LoadsTurn) (Value (turn_now c))
    turn_by true test = ends_by LoadsTurn is (Value (turn_now c)) (turn_now c) (rw test refl) refl
    turn_by false test =
        goes LoadsTurn is None (Value (turn_now c)) (TakesTurn (turn_now c)) (rw test refl) refl tt (ltb-false w.epoch (turn_now c) test)
        (nothing c p s k (here LoadsTurn) is (knows (here (TakesTurn (turn_now c)))) refl)

    loads_turn : StepsSo c p s k (here LoadsTurn)
    loads_turn = loads_row LoadsTurn is WeakTurn tt refl (turn_by (nat_lt w.epoch (turn_now c)) refl)

  module _ (turn : ℕ) (is : Is c k (here (TakesTurn turn))) where
    wins : turn_now c ≡ turn → Law c p s k (here (TakesTurn turn)) (Some (WeakTurnIs (w.epoch + 1))) (knows (here LoadsWeak)) s.ghost
    wins same =
        let l : LastLook = record { traced = traced } in
        let mine = own (TakesTurn turn) is in
        let epoch : ((team c).worker k).epoch ≡ w.epoch = ap (λ (u : Known). u.epoch) is.as_known ∙ sym mine.epoch in
        let met = turn_word c ∙ same in
        let law = turns_are_taken (era c) (memory c) (team c) s.ghost k l (prepared c p s k (here (TakesTurn turn)) is) (record {
          looks = looked_in is refl;
          of_epoch = let e = (untraced (TakesTurn turn) is).0 in let f = mine.epoch in omega (arith, e, f, epoch);
          free = let e = mine.sound.fits in omega (arith, e, epoch, met);
        }) in
        subst (λ (n : ℕ). Law c p s k (here (TakesTurn turn)) (Some (WeakTurnIs (n + 1))) (knows (here LoadsWeak)) s.ghost) epoch
        (subst (λ (u : Known). Law c p s k (here (TakesTurn turn)) (Some (WeakTurnIs (((team c).worker k).epoch + 1))) (has_turn u) s.ghost) is.as_known law)

    takes_turn : StepsSo c p s k (here (TakesTurn turn))
    takes_turn =
        wants c p s k (here (TakesTurn turn)) (Exchange (place_of c.pages WeakTurn) turn (w.epoch + 1))
        (ap (λ n. Some (Exchange (place_of n WeakTurn) turn (w.epoch + 1))) (pages (TakesTurn turn) is))
        (exchanges c p s k (here (TakesTurn turn)) (WeakTurnIs (w.epoch + 1)) turn tt
        (λ same. goes (TakesTurn turn) is (Some (WeakTurnIs (w.epoch + 1))) Won LoadsWeak refl refl tt tt (wins same))
        (λ other. ends_by (TakesTurn turn) is (Lost (turn_now c)) (turn_now c) refl refl))

  -- ---- WEAK

  module _ (is : Is c k (here LoadsWeak)) where
    loads_weak : StepsSo c p s k (here LoadsWeak)
    loads_weak =
        let most = most_cells w.layout.pages in
        let n = pages LoadsWeak is in
        let within = span_within c p s in
        let room : (era c).span < 3 * (most + 1) = omega (arith, n, within) in
        let ready = prepared c p s k (here LoadsWeak) is in
        let begins : ((team c).worker k).pass ≡ Some Begins = walks_so LoadsWeak is in
        loads_row LoadsWeak is WeakHead tt refl
        (goes_along LoadsWeak is most (head_now c) refl (omega arith)
        (subst (λ link. LeadsToCell (era c) link most) (head_word c) (chains_are_answered (era c) (memory c) (team c) s.ghost k most ready begins room))
        (λ q comes. walks_begin (era c) (memory c) (team c) s.ghost k most q ready begins room (subst (λ link. ComesTo link most q) (sym (head_word c)) comes)))

  -- ---- a cell

  module _ (cell : LinkedCell) where
    abbrev v : Visit
    v = visited cell

    module _ (z : WalkStage) (is : Is c k (here z)) (u : Visit) (comes : pass_of z ≡ Some (At u)) where
      has : ((team c).worker k).pass ≡ Some (At u)
      has = walks_so z is ∙ comes

      answers : WalkAnswers (era c) (memory c) u
      answers = walks_are_answered (era c) (memory c) (team c) s.ghost k u (prepared c p s k (here z) is) has

      -- the walk is of the epoch
      epoch_now : w.epoch ≡ (era c).epoch
      epoch_now =
          let now = (s.invariant.cells.chain.pass k (At u) is.below has).now.0 in
          (own z is).epoch ∙ sym (ap (λ (x : Known). x.epoch) is.as_known) ∙ now

      old_start : space_start w.layout.pages (to_space (w.epoch + 1)) ≡ (era c).old_start
      old_start = ap (λ n. space_start n (to_space (w.epoch + 1))) (pages z is) ∙ ap (λ e. space_start c.pages (from_space e)) epoch_now ∙ sym (old_start_is c)

      -- an address of the old space, by all its pages, is none of the epoch's space
      out : (b : ℕ) → is_old w.layout w.epoch b ≡ true → (b < (era c).start) ⊎ ((era c).start + (era c).span ≤ b)
      out b old =
          let e = and_parts (nat_le (space_start w.layout.pages (to_space (w.epoch + 1))) b) (nat_lt b (space_start w.layout.pages (to_space (w.epoch + 1)) + 64 * w.layout.pages)) old in
          let from = leb-true (space_start w.layout.pages (to_space (w.epoch + 1))) b e.0 in
          let to = ltb-true b (space_start w.layout.pages (to_space (w.epoch + 1)) + 64 * w.layout.pages) e.1 in
          let n = pages z is in
          let o = old_start in
          let a = spaces_apart c.pages (era c).epoch in
          let t = start_is c in
          let f = old_start_is c in
          let within = span_within c p s in
          ⊎_elim (λ below. inr (omega (arith, from, n, o, below, t, f, within))) (λ above. inl (omega (arith, to, n, o, above, t, f))) a

      -- and one that leads into the old space is such an address
      old_by : (b : ℕ) → (era c).old_start ≤ b → b < (era c).old_start + (era c).old_span → is_old w.layout w.epoch b ≡ true
      old_by b from to =
          let n = pages z is in
          let o = old_start in
          let within = old_span_within c p s in
          rw (
            le-leb (space_start w.layout.pages (to_space (w.epoch + 1))) b (omega (arith, from, o)),
            lt-ltb b (space_start w.layout.pages (to_space (w.epoch + 1)) + 64 * w.layout.pages) (omega (arith, to, n, o, within)),
          ) refl

    -- ---- its target

    module _ (is : Is c k (here (LoadsTarget cell))) where
      abbrev target : ℕ
      target = word_in c.pages c.words (HeapWord (cell.at + 1))

      fits_target : FitsCell w.layout.pages cell
      fits_target = (own (LoadsTarget cell) is).sound.fits

      at_target : IsAtTarget (team c) k v
      at_target = record { at = has (LoadsTarget cell) is v refl; before = refl }

      stays : stage_after w.layout w.epoch (LoadsTarget cell) (Value target) ≡ LoadsLink cell → ¬ (Leads (era c) target) → Goes c p s k None (here (LoadsTarget cell)) (Value target)
      stays after none =
          goes (LoadsTarget cell) is None (Value target) (LoadsLink cell) after refl tt fits_target
          (of_walk (LoadsTarget cell) is None (At (passed v))
          (targets_stay (era c) (memory c) (team c) s.ghost k v (prepared c p s k (here (LoadsTarget cell)) is) at_target (subst (λ x. ¬ (Leads (era c) x)) (sym (heap_word c (cell.at + 1))) none)))

      -- no pointer
      stays_other : (e : Decoded) → decode target ≡ e → ((b : ℕ) → e ≢ PointerWord b) → by_target w.layout w.epoch cell e ≡ LoadsLink cell → Goes c p s k None (here (LoadsTarget cell)) (Value target)
      unfolding Leads
      stays_other e says other after = stays (ap (by_target w.layout w.epoch cell) says ∙ after) (λ leads. other leads.0 (sym says ∙ leads.1))

      by_pointer : (b : ℕ) → decode target ≡ PointerWord b → (old : Bool) → is_old w.layout w.epoch b ≡ old → Goes c p s k None (here (LoadsTarget cell)) (Value target)
      unfolding Leads
      by_pointer b says true old =
          goes (LoadsTarget cell) is None (Value target) (LoadsTargetHeader cell b) (ap (by_target w.layout w.epoch cell) says ∙ rw old refl) refl tt (fits_target, old)
          (of_walk (LoadsTarget cell) is None (At (record v { old = Some b; word = None }))
          (targets_lead_out (era c) (memory c) (team c) s.ghost k v b (prepared c p s k (here (LoadsTarget cell)) is) at_target (ap decode (heap_word c (cell.at + 1)) ∙ says)
          (out (LoadsTarget cell) is v refl b old)))
      by_pointer b says false young =
          stays (ap (by_target w.layout w.epoch cell) says ∙ rw young refl)
          (λ leads. let same : leads.0 ≡ b = pointer_same target leads.0 b leads.1 says in
          let old : is_old w.layout w.epoch b ≡ true = old_by (LoadsTarget cell) is v refl b (rw same at leads.2) (rw same at leads.3) in
          absurd (let z = sym young ∙ old in cc))

      by_word : (e : Decoded) → decode target ≡ e → Goes c p s k None (here (LoadsTarget cell)) (Value target)
      by_word (PointerWord b) says = by_pointer b says (is_old w.layout w.epoch b) refl
      by_word (NumberWord n) says = stays_other (NumberWord n) says (λ b e. absurd (cc)) refl
      by_word (HeaderWord kind len serial mutator) says = stays_other (HeaderWord kind len serial mutator) says (λ b e. absurd (cc)) refl
      by_word (ForwardWord len address) says = stays_other (ForwardWord len address) says (λ b e. absurd (cc)) refl
      by_word (BusyWord len worker) says = stays_other (BusyWord len worker) says (λ b e. absurd (cc)) refl
      by_word Malformed says = stays_other Malformed says (λ b e. absurd (cc)) refl

      loads_target : StepsSo c p s k (here (LoadsTarget cell))
      loads_target =
          let inside = fits_target.inside in
          let n = pages (LoadsTarget cell) is in
          loads_row (LoadsTarget cell) is (HeapWord (cell.at + 1)) (omega (arith, inside, n)) refl (by_word (decode target) refl)

    -- ---- where it leads

    module _ (old : ℕ) (is : Is c k (here (LoadsTargetHeader cell old))) where
      abbrev u : Visit
      u = record v { old = Some old }

      abbrev first : ℕ
      first = word_in c.pages c.words (HeapWord old)

      fits_header : FitsCell w.layout.pages cell
      fits_header = (own (LoadsTargetHeader cell old) is).sound.fits.0

      at_header : IsAtTarget (team c) k u
      at_header = record { at = has (LoadsTargetHeader cell old) is u refl; before = refl }

      settled : (old < (era c).board) × SettledHeader (era c) (memory c).front (decode ((memory c).heap old))
      settled = (answers (LoadsTargetHeader cell old) is u refl).old old refl refl

      replaces : (word : ℕ) → replacement (decode first) ≡ word → IsReplacement word
          → Law c p s k (here (LoadsTargetHeader cell old)) None (walking ((team c).worker k) (At (replacing u word))) s.ghost → Goes c p s k None (here (LoadsTargetHeader cell old)) (Value first)
      replaces word is_word is_value law =
          goes (LoadsTargetHeader cell old) is None (Value first) (StoresTarget cell word) (ap (StoresTarget cell) is_word) refl tt (fits_header, is_value)
          (of_walk (LoadsTargetHeader cell old) is None (At (replacing u word)) law)

      by_header : (e : Decoded) → decode first ≡ e → SettledHeader (era c) (memory c).front e → Goes c p s k None (here (LoadsTargetHeader cell old)) (Value first)
      by_header e says (NotCopied kind len serial mutator) =
          replaces (number_word 0) (ap replacement says) (inl refl)
          (nothing_replaces_targets (era c) (memory c) (team c) s.ghost k u old kind len serial mutator (number_word 0) (prepared c p s k (here (LoadsTargetHeader cell old)) is) at_header refl
          (ap decode (heap_word c old) ∙ says) (decode-number_word 0 (omega arith)))
      by_header e says (CopiedTo len to inside) =
          let order = s.invariant.laid.order in
          let below = (prepared c p s k (here (LoadsTargetHeader cell old)) is).laid_out.below in
          let board = board_is c in
          let most = s.size.1 in
          let short : to < 2 ^ 32 = omega (arith, inside, order, below, board, most) in
          replaces (pointer_word to) (ap replacement says) (inr (to, short, refl))
          (copies_replace_targets (era c) (memory c) (team c) s.ghost k u old len to (pointer_word to) (prepared c p s k (here (LoadsTargetHeader cell old)) is) at_header refl
          (ap decode (heap_word c old) ∙ says) (decode-pointer_word to short))

      loads_header : StepsSo c p s k (here (LoadsTargetHeader cell old))
      loads_header =
          let below = settled.0 in
          let board = board_is c in
          loads_row (LoadsTargetHeader cell old) is (HeapWord old) (omega (arith, below, board)) refl
          (by_header (decode first) refl (subst (λ x. SettledHeader (era c) (memory c).front (decode x)) (heap_word c old) settled.1))

    -- ---- it is replaced

    module _ (word : ℕ) (is : Is c k (here (StoresTarget cell word))) where
      abbrev t : Visit
      t = replacing v word

      fits_store : FitsCell w.layout.pages cell × IsReplacement word
      fits_store = (own (StoresTarget cell word) is).sound.fits

      replaced : Law c p s k (here (StoresTarget cell word)) (Some (WordIs (cell.at + 1) word)) (walking ((team c).worker k) (At (passed t))) s.ghost
      replaced =
          targets_are_replaced (era c) (memory c) (team c) s.ghost k t word (prepared c p s k (here (StoresTarget cell word)) is)
          (record { at = has (StoresTarget cell word) is t refl; before = refl }) refl (small word fits_store.1)

      stores_target : StepsSo c p s k (here (StoresTarget cell word))
      stores_target =
          let row = row_fits c p s k (here (StoresTarget cell word)) (WordIs (cell.at + 1) word) (walking ((team c).worker k) (At (passed t))) s.ghost is.below replaced in
          wants c p s k (here (StoresTarget cell word)) (Store (place_of c.pages (HeapWord (cell.at + 1))) word)
          (ap (λ n. Some (Store (place_of n (HeapWord (cell.at + 1))) word)) (pages (StoresTarget cell word) is))
          (stores c p s k (here (StoresTarget cell word)) (WordIs (cell.at + 1) word) row
          (goes (StoresTarget cell word) is (Some (WordIs (cell.at + 1) word)) Done (LoadsLink cell) refl refl tt fits_store.0
          (of_walk (StoresTarget cell word) is (Some (WordIs (cell.at + 1) word)) (At (passed t)) replaced)))

    -- ---- its link

    module _ (is : Is c k (here (LoadsLink cell))) where
      abbrev done : Visit
      done = passed v

      abbrev link : ℕ
      link = word_in c.pages c.words (HeapWord (cell.at + 2))

      fits_link : FitsCell w.layout.pages cell
      fits_link = (own (LoadsLink cell) is).sound.fits

      loads_link : StepsSo c p s k (here (LoadsLink cell))
      loads_link =
          let inside = fits_link.inside in
          let few = fits_link.few in
          let n = pages (LoadsLink cell) is in
          loads_row (LoadsLink cell) is (HeapWord (cell.at + 2)) (omega (arith, inside, n)) refl
          (goes_along (LoadsLink cell) is (cell.most - 1) link refl (omega (arith, few))
          (subst (λ x. LeadsToCell (era c) x (cell.most - 1)) (heap_word c (cell.at + 2)) ((answers (LoadsLink cell) is done refl).link refl))
          (λ q comes. walks_go_on (era c) (memory c) (team c) s.ghost k done q (prepared c p s k (here (LoadsLink cell)) is) (has (LoadsLink cell) is done refl) refl
          (subst (λ x. ComesTo x (cell.most - 1) q) (sym (heap_word c (cell.at + 2))) comes)))

  -- ---- by its stage

  by_stage : (z : WalkStage) → Is c k (here z) → StepsSo c p s k (here z)
  by_stage LoadsTurn is = loads_turn is
  by_stage (TakesTurn turn) is = takes_turn turn is
  by_stage LoadsWeak is = loads_weak is
  by_stage (LoadsTarget cell) is = loads_target cell is
  by_stage (LoadsTargetHeader cell old) is = loads_header cell old is
  by_stage (StoresTarget cell word) is = stores_target cell word is
  by_stage (LoadsLink cell) is = loads_link cell is
  by_stage (Ended end) is = λ q asked. absurd (let none = asked in cc)

  pub walks : Is c k (at c p s k y d back (Walks traced w)) → StepsSo c p s k (at c p s k y d back (Walks traced w))
  walks is = by_stage w.stage is
