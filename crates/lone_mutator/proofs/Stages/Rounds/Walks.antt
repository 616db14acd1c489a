-- The walk of a lone mutator over the chain of cells: the turn is free and is won, which pays for the walk, and each of its steps leaves less to
-- pay, to the chain's end.
use Rattle.std.proofs.Common.{◌≡◌, ℕ, ◌+◌, ◌-◌, ◌≤◌, ⊎_elim, true, false, nat_lt, Some, refl, sym, ap, subst, ◌∙◌, arith}
use Rattle.std.specs.Prelude.{is_some}
use Rattle.std.proofs.lemmas.Bool.{le-ltb}
use Rattle.plain_state.specs.State.{Plain}
use Rattle.atom_store.specs.declared.reply.Reply.{Reply}
use Rattle.atom_store.specs.declared.reply.Reply.TheVariants.{Value, Done}
use Rattle.atom_store.specs.declared.step.Step.TheVariants.{Load, Store, Exchange}
use Rattle.atom_store.specs.declared.turn.Turn.TheVariants.{More}
use Rattle.heap_words.specs.Decoded.{decode}
use Rattle.space_map.specs.Spaces.{Layout, to_space}
use Rattle.space_map.specs.Table.{Row, IsRow, WeakHead, WeakTurn, HeapWord, place_of}
use Rattle.cell_walk.specs.declared.linked_cell.LinkedCell.{LinkedCell}
use Rattle.cell_walk.specs.declared.walk_end.WalkEnd.TheVariants.{Passed, Another}
use Rattle.cell_walk.specs.declared.walk_stage.WalkStage.{WalkStage}
use Rattle.cell_walk.specs.declared.walk_stage.WalkStage.TheVariants.{LoadsTurn, TakesTurn, LoadsWeak, LoadsTarget, LoadsTargetHeader, StoresTarget, LoadsLink, Ended}
use Rattle.cell_walk.specs.Left.{advances}
use Rattle.cell_walk.specs.Taken.{stage_after, told}
use Rattle.cell_walk.specs.Theorems.{HasTurn}
use Rattle.cell_walk.specs.Walking.{Walking, most_cells}
use Rattle.cell_walk.proofs.Along.{of_along, of_target}
use Rattle.cell_walk.proofs.WalkRows.{rows_fit}
use Rattle.fault_duty.specs.declared.duty_stage.DutyStage.{DutyStage}
use Rattle.fault_duty.specs.declared.duty_stage.DutyStage.TheVariants.{Walks, Traces}
use Rattle.fault_duty.specs.Duty as duty
use Rattle.fault_duty.specs.Duty.{Round, at_stage, walk_went}
use Rattle.fault_duty.specs.Soundness.{IsOwnWalk}
use Rattle.heap_state.specs.Cells.{HasWalker}
use Rattle.heap_state.specs.Configuration.{Configuration, Stands, table, era, memory, team}
use Rattle.heap_state.specs.Known.{Known}
use Rattle.heap_state.specs.Memory.Entries.{Entry, WeakTurnIs, WordIs, with_entry}
use Rattle.heap_state.specs.Memory.Era.{Era, Memory}
use Rattle.heap_state.specs.Memory.Table.{Table, word_in}
use Rattle.gc_worker.specs.declared.stage.back.Back.{Back}
use Rattle.gc_worker.specs.Workers.Held.{Held}
use Rattle.gc_worker.proofs.Stages.Rounds.NextRoundStage.{round, at, same_pages}
use Rattle.gc_worker.proofs.Stages.Rounds.Walking.{turn_word}
use Rattle.lone_mutator.specs.Bound.{walk_cost}
use Rattle.lone_mutator.specs.Law.{Lowers, IsAlone, StepsLower, saves}
use Rattle.lone_mutator.specs.Potential.{again_left, due_in, left_in, round_left, size_in, walk_ahead_at}
use Rattle.lone_mutator.specs.Rounds.{TurnStands}
use Rattle.lone_mutator.specs.Tracing.{tracing_left}
use Rattle.lone_mutator.proofs.Epochs.Cost.{due_untraced, left_turned}
use Rattle.lone_mutator.proofs.Stages.Rounds.LoneRounds.{RoundGoes, left_again}
use Rattle.lone_mutator.proofs.Stages.Rounds.NextRoundCost.{era_epoch, loads_it}
use Rattle.lone_mutator.proofs.Steps.GoingBack.{same_back}
use Rattle.lone_mutator.proofs.Steps.Owed.{wants, exchanges, stores}

-- ---- who has the turn

-- keeps it
keeps_turn : (l : Layout) (e : ℕ) (z : WalkStage) (r : Reply) → HasTurn z → HasTurn (stage_after l e z r)
keeps_turn l e LoadsWeak (Value w) has = of_along HasTurn (most_cells l.pages) w (λ at is some. tt) tt
keeps_turn l e (LoadsTarget cell) (Value w) has = of_target HasTurn l e cell (decode w) (λ old leads back. tt) tt
keeps_turn l e (LoadsTargetHeader cell old) (Value w) has = tt
keeps_turn l e (StoresTarget cell word) Done has = tt
keeps_turn l e (LoadsLink cell) (Value w) has = of_along HasTurn (cell.most - 1) w (λ at is some. tt) tt
keeps_turn l e LoadsTurn r has = absurd has
keeps_turn l e (TakesTurn found) r has = absurd has
keeps_turn l e z r has = has

-- pays for its walk itself
none_ahead : (d : Round) (z : WalkStage) → HasTurn z → walk_ahead_at d z ≡ 0
none_ahead d LoadsTurn has = absurd has
none_ahead d (TakesTurn found) has = absurd has
none_ahead d z has = refl

-- and needs no more what it had read of WEAKTURN
none_read : (turn : ℕ) (z : WalkStage) → HasTurn z → TurnStands turn z
none_read turn (TakesTurn found) has = absurd has
none_read turn z has = tt

module _ (E : Era) (m : Memory) (d : Round) (traced : ℕ) (v : Walking) (is : traced ≡ m.traced) where
  abbrev walk_at : WalkStage → Walking
  walk_at z = record v { stage = z }

  abbrev walks_at : WalkStage → DutyStage
  walks_at z = Walks traced (walk_at z)

  -- ---- the turn is free, and is to be taken

  at_turn : v.layout.pages ≡ d.layout.pages → v.epoch ≡ E.epoch → m.weak_turn ≤ E.epoch → RoundGoes E m d (walks_at LoadsTurn) (Value m.weak_turn)
  at_turn pages epoch free =
      let test : nat_lt v.epoch m.weak_turn ≡ false = le-ltb v.epoch m.weak_turn (omega (arith, free, epoch)) in
      let cells = ap most_cells pages in
      record {
        next = walks_at (TakesTurn m.weak_turn);
        same = rw test refl;
        more = refl;
        found = (is, refl);
        untraced = λ back known. known;
        advances = refl;
        steps = λ less. omega (arith, cells);
      }

  -- ---- with the turn

  module _ (z : WalkStage) (r : Reply) (has : HasTurn z) (on : advances z r ≡ true) where
    onward : (next : WalkStage) → stage_after v.layout v.epoch z r ≡ next → HasTurn next → told next ≡ More → RoundGoes E m d (walks_at z) r
    onward next after turn more = record {
      next = walks_at next;
      same = ap (λ (n : WalkStage). at_stage d (walk_went traced (walk_at n) (told n))) after ∙ ap (λ t. at_stage d (walk_went traced (walk_at next) t)) more;
      more = refl;
      found = (is, none_read m.weak_turn next turn);
      untraced = λ back known. known;
      advances = on;
      steps = λ less. let here = none_ahead d z has in let there = none_ahead (at_stage d (walks_at next)) next turn in omega (arith, less, here, there);
    }

    -- all cells are passed
    passes : stage_after v.layout v.epoch z r ≡ Ended Passed → RoundGoes E m d (walks_at z) r
    passes after = record {
      next = Traces traced;
      same = ap (λ (n : WalkStage). at_stage d (walk_went traced (walk_at n) (told n))) after;
      more = refl;
      found = is;
      untraced = λ back known. known;
      advances = on;
      steps = λ less. let here = none_ahead d z has in omega (arith, less, here);
    }

    by_next : (next : WalkStage) → stage_after v.layout v.epoch z r ≡ next → HasTurn next → RoundGoes E m d (walks_at z) r
    by_next LoadsTurn after turn = absurd turn
    by_next (TakesTurn found) after turn = absurd turn
    by_next (Ended Passed) after turn = passes after
    by_next (Ended (Another word)) after turn = absurd turn
    by_next next after turn = onward next after turn refl

    goes_on_walking : RoundGoes E m d (walks_at z) r
    goes_on_walking = by_next (stage_after v.layout v.epoch z r) refl (keeps_turn v.layout v.epoch z r has)

module _ (c : Configuration) (p : Plain) (s : Stands c p) (y : Held) (d : Round) (back : Back) (traced : ℕ) (w : Walking) where
  abbrev stage_at : WalkStage → DutyStage
  stage_at z = Walks traced (record w { stage = z })

  abbrev here : WalkStage → Held
  here z = at c p s 0 y d back (stage_at z)

  abbrev round_at : WalkStage → Round
  round_at z = round c p s 0 y d back (stage_at z)

  module _ (z : WalkStage) (a : IsAlone c (here z)) where
    own : IsOwnWalk (round_at z) (record w { stage = z })
    own = a.is.fits.stage.0.sound.stage.1

    pages : w.layout.pages ≡ c.pages
    pages = ap (λ (l : Layout). l.pages) own.layout ∙ same_pages c p s 0 y d back (stage_at z) a.is

    -- the walk is of the gate's epoch
    now : w.epoch ≡ (era c).epoch
    now = own.epoch ∙ sym (era_epoch c p s y d back (stage_at z) a)

    traced_stands : traced ≡ (memory c).traced
    traced_stands = a.remembers.stands.0.found.0

    -- a load with the turn
    loads_on : (row : Row) → duty.wanted (round_at z) ≡ Some (Load (place_of w.layout.pages row)) → IsRow w.layout.pages row → HasTurn z
        → advances z (Value (word_in c.pages c.words row)) ≡ true → StepsLower c (here z)
    loads_on row want is_row has on =
        loads_it c p s y d back (stage_at z) a row (subst (λ (n : ℕ). IsRow n row) pages is_row)
        (want ∙ ap (λ (l : Layout). Some (Load (place_of l.pages row))) own.layout)
        (goes_on_walking (era c) (memory c) (round_at z) traced w traced_stands z (Value (word_in c.pages c.words row)) has on)

  -- ---- the turn

  module _ (a : IsAlone c (here LoadsTurn)) where
    -- the only worker doesn't walk over the chain
    nobody_walks : HasWalker (team c) → ⊥
    nobody_walks other =
        let one = a.one in
        let member = other.member in
        let first : other.worker ≡ 0 = omega (arith, one, member) in
        let walks : is_some ((team c).worker 0).pass ≡ true = ap (λ (k : ℕ). is_some ((team c).worker k).pass) (sym first) ∙ other.walks in
        let rests = ap (λ (u : Known). is_some u.pass) a.is.as_known in
        let both = sym walks ∙ rests in
        cc

    -- and so the turn of the epoch, which isn't traced, is free
    turn_is_free : (memory c).weak_turn ≤ (era c).epoch
    turn_is_free =
        let top = s.invariant.tracing.top in
        let untraced = a.remembers.stands.0.untraced in
        let early : (memory c).traced ≤ (era c).epoch = omega (arith, top, untraced) in
        let chain = s.invariant.cells.chain in
        ⊎_elim
        (λ (free : (memory c).weak_turn ≡ (era c).epoch). omega (arith, free))
        (λ (taken : (memory c).weak_turn ≡ (era c).epoch + 1). absurd (nobody_walks (chain.walker early taken)))
        chain.top

    loads_turn : StepsLower c (here LoadsTurn)
    loads_turn =
        let mine = own LoadsTurn a in
        loads_it c p s y d back (stage_at LoadsTurn) a WeakTurn tt (ap (λ (l : Layout). Some (Load (place_of l.pages WeakTurn))) mine.layout)
        (subst (λ (word : ℕ). RoundGoes (era c) (memory c) (round_at LoadsTurn) (stage_at LoadsTurn) (Value word)) (turn_word c)
        (at_turn (era c) (memory c) (round_at LoadsTurn) traced w (traced_stands LoadsTurn a) (ap (λ (l : Layout). l.pages) mine.layout) (now LoadsTurn a) turn_is_free))

  module _ (turn : ℕ) (a : IsAlone c (here (TakesTurn turn))) where
    abbrev t : Table
    t = table c

    abbrev entry : Entry
    entry = WeakTurnIs (w.epoch + 1)

    abbrev owed : ℕ
    owed = (t.area (to_space t.gate.epoch)).owed

    met : turn ≡ (memory c).weak_turn
    met = a.remembers.stands.0.found.1

    -- it was of an earlier epoch, and so the walk is paid
    paid : left_in c.pages (with_entry entry t) + walk_cost c.pages ≡ left_in c.pages t
    paid =
        let early = (own (TakesTurn turn) a).sound.fits in
        let same = now (TakesTurn turn) a in
        let is = met in
        ap (λ (e : ℕ). tracing_left c.pages t.gate.epoch t.traced (e + 1) owed t.page + walk_cost c.pages) same
        ∙ left_turned c.pages t.gate.epoch t.traced t.weak_turn owed t.page a.remembers.stands.0.untraced (λ (taken : t.weak_turn ≡ t.gate.epoch + 1). absurd (omega (arith, early, same, is, taken)))

    -- who begins a checkpoint or loads a target makes one more round, which is paid before as after
    again : (now : ℕ) → round_left (tracing_left c.pages t.gate.epoch t.traced now owed t.page) (due_in c.pages (record t { weak_turn = now })) back
        ≡ tracing_left c.pages t.gate.epoch t.traced now owed t.page + again_left c.pages back
    again now = left_again c.pages (tracing_left c.pages t.gate.epoch t.traced now owed t.page) (due_in c.pages (record t { weak_turn = now }))
        (due_untraced c.pages t.gate.epoch t.traced now owed t.page a.remembers.stands.0.untraced) back

    lower : Lowers c.pages (saves c) t (with_entry entry t) (here (TakesTurn turn)) (here LoadsWeak)
    lower = record {
      remembers = record {
        began = a.remembers.began;
        quiet = a.remembers.quiet;
        stands = (record { untraced = a.remembers.stands.0.untraced; found = (a.remembers.stands.0.found.0, tt) }, a.remembers.stands.1);
      };
      falls =
          (let same = same_back c.pages (size_in t) (here LoadsWeak) (here (TakesTurn turn)) back refl refl in
          let cells = ap most_cells (pages (TakesTurn turn) a) in
          let less = paid in
          let before = again t.weak_turn in
          let after = again (w.epoch + 1) in
          omega (arith, same, cells, less, before, after));
    }

    takes_turn : StepsLower c (here (TakesTurn turn))
    takes_turn =
        wants c p s (here (TakesTurn turn)) (Exchange (place_of c.pages WeakTurn) turn (w.epoch + 1))
        (ap (λ n. Some (Exchange (place_of n WeakTurn) turn (w.epoch + 1))) (pages (TakesTurn turn) a))
        (exchanges c p s (here (TakesTurn turn)) entry turn tt tt (sym (turn_word c) ∙ sym met) lower)

  -- ---- a target is replaced

  module _ (cell : LinkedCell) (word : ℕ) (a : IsAlone c (here (StoresTarget cell word))) where
    replaces : Lowers c.pages (saves c) (table c) (with_entry (WordIs (cell.at + 1) word) (table c)) (here (StoresTarget cell word)) (here (LoadsLink cell))
    replaces = record {
      remembers = record {
        began = a.remembers.began;
        quiet = a.remembers.quiet;
        stands = (record { untraced = a.remembers.stands.0.untraced; found = (a.remembers.stands.0.found.0, tt) }, a.remembers.stands.1);
      };
      falls =
          (let same = same_back c.pages (size_in (table c)) (here (LoadsLink cell)) (here (StoresTarget cell word)) back refl refl in
          let some = (own (StoresTarget cell word) a).sound.fits.0.some in
          omega (arith, same, some));
    }

    stores_target : StepsLower c (here (StoresTarget cell word))
    stores_target =
        let inside = (own (StoresTarget cell word) a).sound.fits.0.inside in
        let n = pages (StoresTarget cell word) a in
        wants c p s (here (StoresTarget cell word)) (Store (place_of c.pages (HeapWord (cell.at + 1))) word)
        (ap (λ n. Some (Store (place_of n (HeapWord (cell.at + 1))) word)) n)
        (stores c p s (here (StoresTarget cell word)) (WordIs (cell.at + 1) word) (omega (arith, inside, n)) tt replaces)

  -- ---- each stage

  by_stage : (z : WalkStage) → IsAlone c (here z) → StepsLower c (here z)
  by_stage LoadsTurn a = loads_turn a
  by_stage (TakesTurn turn) a = takes_turn turn a
  by_stage LoadsWeak a = loads_on LoadsWeak a WeakHead refl tt tt refl
  by_stage (LoadsTarget cell) a =
      let mine = own (LoadsTarget cell) a in
      loads_on (LoadsTarget cell) a (HeapWord (cell.at + 1)) refl (rows_fit w.layout w.epoch (LoadsTarget cell) mine.sound.fits tt) tt refl
  by_stage (LoadsTargetHeader cell old) a =
      let mine = own (LoadsTargetHeader cell old) a in
      loads_on (LoadsTargetHeader cell old) a (HeapWord old) refl (rows_fit w.layout w.epoch (LoadsTargetHeader cell old) mine.sound.fits tt) tt refl
  by_stage (StoresTarget cell word) a = stores_target cell word a
  by_stage (LoadsLink cell) a =
      let mine = own (LoadsLink cell) a in
      loads_on (LoadsLink cell) a (HeapWord (cell.at + 2)) refl (rows_fit w.layout w.epoch (LoadsLink cell) mine.sound.fits tt) tt refl
  by_stage (Ended end) a = λ q asked. absurd (let none = asked in cc)

  pub walks : IsAlone c (at c p s 0 y d back (Walks traced w)) → StepsLower c (at c p s 0 y d back (Walks traced w))
  walks a = by_stage w.stage a
