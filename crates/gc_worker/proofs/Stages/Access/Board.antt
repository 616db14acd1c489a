-- The words of the board: one is loaded, or stored, or changes places with a register.
use Rattle.std.proofs.Common.{◌≡◌, ℕ, ◌+◌, ◌*◌, ◌<◌, ◌≤◌, Some, None, refl, ap, sym, subst, ◌∙◌, arith}
use Rattle.std.specs.Prelude.{slice_set}
use Rattle.std.proofs.lemmas.Option.{get_or_from_slice_get, same_Some}
use Rattle.plain_state.specs.declared.value.Value.{Value}
use Rattle.plain_state.specs.declared.value.Value.TheVariants.{Number}
use Rattle.plain_state.specs.State.{Mutator, Plain}
use Rattle.plain_state.specs.Writing.{with_board}
use Rattle.plain_heap.specs.declared.action.Action.{Action}
use Rattle.plain_heap.specs.declared.action.Action.TheVariants.{Loads, Stores, Gets, Puts, Swaps}
use Rattle.plain_heap.specs.Call as plain
use Rattle.plain_heap.specs.Call.{board_word}
use Rattle.atom_store.specs.declared.step.Step.TheVariants.{Load, Store, Exchange}
use Rattle.atom_store.specs.declared.reply.Reply.TheVariants as replies
use Rattle.space_map.specs.declared.page_word.PageWord.TheVariants.{Open}
use Rattle.space_map.specs.Spaces.{board_page, page_of}
use Rattle.space_map.specs.Table.{HeapWord, place_of}
use Rattle.heap_state.specs.Configuration.{Configuration, Stands, era, memory, team}
use Rattle.heap_state.specs.Memory.Entries.{WordIs}
use Rattle.heap_state.specs.Memory.Table.{word_in}
use Rattle.heap_state.specs.Known as workers
use Rattle.heap_laws.specs.Fields.Held.{MutatorGoesOn, HoldsValue}
use Rattle.heap_laws.specs.Fields.Stores.{IsAs}
use Rattle.heap_laws.proofs.Fields.Effects.{board_words_are_values}
use Rattle.heap_laws.proofs.Fields.Laws.{mutators_store_on_board}
use Rattle.record_access.specs.declared.access_stage.AccessStage.{AccessStage}
use Rattle.record_access.specs.declared.access_stage.AccessStage.TheVariants.{LooksAtBoard, LoadsBoard, StoresBoard, LoadsForSwap, SwapsBoard}
use Rattle.record_access.specs.declared.board_access.BoardAccess.{BoardAccess}
use Rattle.record_access.specs.declared.board_access.BoardSwap.{BoardSwap}
use Rattle.record_access.specs.declared.board_access.BoardUse.TheVariants as board_uses
use Rattle.record_access.specs.Access.{board_at}
use Rattle.gc_worker.specs.Steps.Access.{begun}
use Rattle.gc_worker.specs.Workers.Fits.{ExecutesAction}
use Rattle.gc_worker.specs.Steps.Goes.{Is, Goes, StepsSo}
use Rattle.gc_worker.specs.Workers.Held.{Held}
use Rattle.gc_worker.specs.Workers.Knows.{knows, opened_at}
use Rattle.record_access.specs.Seen.{IsValueWord, word_for}
use Rattle.gc_worker.specs.Steps.Turned.{loads, went_on}
use Rattle.gc_worker.proofs.Plain.Actions.{plain_value}
use Rattle.gc_worker.proofs.Plain.AnswerSteps.{LawTo}
use Rattle.gc_worker.proofs.Plain.Effects.{moved_goes, moved_as, loaded_goes, loaded_as}
use Rattle.gc_worker.proofs.Words.Eras.{board_is}
use Rattle.gc_worker.proofs.Stages.Gate.GateWords.{wants}
use Rattle.gc_worker.proofs.Stages.Scan.ScannedHeaders.{heap_word}
use Rattle.gc_worker.proofs.Words.RowSteps as steps
use Rattle.gc_worker.proofs.Words.RowSteps.{nothing}
use Rattle.gc_worker.proofs.Stages.Access.Acting.{q, its, names, value_word}
use Rattle.gc_worker.proofs.Stages.Access.NextAccessStage.{at, ready, running, no_end, knew_opened, goes_to}
use Rattle.gc_worker.proofs.Stages.Access.AccessOutcomes.{goes_bringing, goes_loading, goes_storing}

-- ---- the action of an access to the board

same_board : (a b : BoardAccess) → Some (LooksAtBoard a) ≡ Some (LooksAtBoard b) → a ≡ b
same_board a b is = let e : LooksAtBoard a ≡ LooksAtBoard b = same_Some (LooksAtBoard a) (LooksAtBoard b) is in cc

same_word : (a b : BoardAccess) → Some (LooksAtBoard a) ≡ Some (LooksAtBoard b) → a.word ≡ b.word
same_word a b is = ap (λ (a : BoardAccess). a.word) (same_board a b is)

same_use : (a b : BoardAccess) → Some (LooksAtBoard a) ≡ Some (LooksAtBoard b) → a.usage ≡ b.usage
same_use a b is = ap (λ (a : BoardAccess). a.usage) (same_board a b is)

gets : (act : Action) (x into : ℕ) → begun act ≡ Some (LooksAtBoard (record { word = x; usage = board_uses.Loads into })) → act ≡ Gets into x
gets (Gets d x) y into is =
    let a : BoardAccess = record { word = x; usage = board_uses.Loads d } in
    let b : BoardAccess = record { word = y; usage = board_uses.Loads into } in
    let usage : board_uses.Loads d ≡ board_uses.Loads into = same_use a b is in
    let word : x ≡ y = same_word a b is in
    cc
gets (Puts x v) y into is = absurd (let e = same_use (record { word = x; usage = board_uses.Stores (word_for v) }) (record { word = y; usage = board_uses.Loads into }) is in cc)
gets (Swaps d x v) y into is = absurd (let e = same_use (record { word = x; usage = board_uses.Swaps d (word_for v) }) (record { word = y; usage = board_uses.Loads into }) is in cc)
gets _ y into is = absurd (cc)

puts : (act : Action) (x new : ℕ) → begun act ≡ Some (LooksAtBoard (record { word = x; usage = board_uses.Stores new })) → (v : Value) × (act ≡ Puts x v) × (word_for v ≡ new)
puts (Puts x v) y new is =
    let a : BoardAccess = record { word = x; usage = board_uses.Stores (word_for v) } in
    let b : BoardAccess = record { word = y; usage = board_uses.Stores new } in
    let usage : board_uses.Stores (word_for v) ≡ board_uses.Stores new = same_use a b is in
    (v, ap (λ (x : ℕ). Puts x v) (same_word a b is), cc)
puts (Gets d x) y new is = absurd (let e = same_use (record { word = x; usage = board_uses.Loads d }) (record { word = y; usage = board_uses.Stores new }) is in cc)
puts (Swaps d x v) y new is = absurd (let e = same_use (record { word = x; usage = board_uses.Swaps d (word_for v) }) (record { word = y; usage = board_uses.Stores new }) is in cc)
puts _ y new is = absurd (cc)

swaps : (act : Action) (s : BoardSwap) → begun act ≡ Some (LooksAtBoard (record { word = s.word; usage = board_uses.Swaps s.into s.new })) → (v : Value) × (act ≡ Swaps s.into s.word v) × (word_for v ≡ s.new)
swaps (Swaps d x v) s is =
    let a : BoardAccess = record { word = x; usage = board_uses.Swaps d (word_for v) } in
    let b : BoardAccess = record { word = s.word; usage = board_uses.Swaps s.into s.new } in
    let usage : board_uses.Swaps d (word_for v) ≡ board_uses.Swaps s.into s.new = same_use a b is in
    let word : x ≡ s.word = same_word a b is in
    (v, cc, cc)
swaps (Gets d x) s is = absurd (let e = same_use (record { word = x; usage = board_uses.Loads d }) (record { word = s.word; usage = board_uses.Swaps s.into s.new }) is in cc)
swaps (Puts x v) s is = absurd (let e = same_use (record { word = x; usage = board_uses.Stores (word_for v) }) (record { word = s.word; usage = board_uses.Swaps s.into s.new }) is in cc)
swaps _ s is = absurd (cc)

-- ---- a word of the board

module _ (c : Configuration) (p : Plain) (s : Stands c p) (k : ℕ) (y : Held) (stage : AccessStage) (is : Is c k (at c p s k y stage)) where
  abbrev x : Held
  x = at c p s k y stage

  -- the mutator of the plain machine
  abbrev own : Mutator
  own = q c p s k y stage is

  module _ (word : ℕ) (small : word < 16) (opened : opened_at y.layout stage ≡ Some (board_page y.layout.pages)) where
    abbrev addr : ℕ
    addr = board_at y.layout word

    addr_is : (era c).board + word ≡ addr
    addr_is = let b = board_is c in let n = is.fits.pages in omega (arith, b, n)

    open_board : (memory c).page (page_of (era c).board) ≡ Open (era c).epoch
    open_board =
        let b = board_is c in let n = is.fits.pages in
        let same : board_page y.layout.pages ≡ page_of (era c).board = omega (arith, b, n) in
        subst (λ (page : ℕ). (memory c).page page ≡ Open (era c).epoch) same (knew_opened c p s k y stage is (board_page y.layout.pages) opened)

    in_table : addr ≤ 128 * c.pages + 63
    in_table = let n = is.fits.pages in omega (arith, n, small)

    abbrev found : ℕ
    found = word_in c.pages c.words (HeapWord addr)

    -- what stands there is what the plain board has
    there : HoldsValue (era c) s.ghost found (board_word p.heap word)
    there =
        let b = board_words_are_values (era c) (memory c) (team c) s.ghost p k word (ready c p s k y stage is) s.shown open_board small in
        let same : (memory c).heap ((era c).board + word) ≡ found = ap (λ (a : ℕ). (memory c).heap a) addr_is ∙ heap_word c addr in
        subst (λ (v : Value). HoldsValue (era c) s.ghost found v) (sym (get_or_from_slice_get p.heap.board word b.0 (Number 0) b.1))
        (subst (λ (w : ℕ). HoldsValue (era c) s.ghost w b.0) same b.2)

    found_value : IsValueWord found
    found_value = value_word s.ghost.identity found (board_word p.heap word) there.denotes

    -- a word is stored there
    stored : (next : workers.Known) (now : Mutator) (new : ℕ) (v : Value) → HoldsValue (era c) s.ghost new v → MutatorGoesOn (era c) (memory c) s.ghost ((team c).worker k) next → IsAs s.ghost p.heap k next now
        → LawTo c p s k x (Some (WordIs addr new)) next s.ghost (record { heap = with_board p.heap word v; mutators = slice_set p.mutators k now })
    stored next now new v holds goes as_it =
        subst (λ (a : ℕ). LawTo c p s k x (Some (WordIs a new)) next s.ghost (record { heap = with_board p.heap word v; mutators = slice_set p.mutators k now })) addr_is
        (mutators_store_on_board (era c) (memory c) (team c) s.ghost p k next now word new v (ready c p s k y stage is) (running c p s k y stage is) s.shown small open_board holds goes as_it)

-- ---- the stages

module _ (c : Configuration) (p : Plain) (s : Stands c p) (k : ℕ) (y : Held) where
  -- it is loaded

  pub loads_board : (word into : ℕ) → Is c k (at c p s k y (LoadsBoard word into)) → StepsSo c p s k (at c p s k y (LoadsBoard word into))
  loads_board word into is =
      let stage = LoadsBoard word into in
      let fits = is.fits.stage.sound.stage in
      let act = gets is.fits.task.act word into is.fits.task.is in
      let executes : ExecutesAction y.account y.registers y.task (Gets into word) = subst (λ (a : Action). ExecutesAction y.account y.registers y.task a) act is.fits.task.executes in
      let place = board_at y.layout word in
      wants c p s k (at c p s k y stage) (Load (place_of c.pages (HeapWord place))) (ap (λ n. Some (Load (place_of n (HeapWord place)))) is.fits.pages)
      (steps.loads c p s k (at c p s k y stage) (HeapWord place) (in_table c p s k y stage is word fits.0 refl)
      (goes_loading c p s k y stage is (Gets into word) executes (replies.Value (found c p s k y stage is word fits.0 refl)) into (found c p s k y stage is word fits.0 refl) (board_word p.heap word) refl fits.1
      (found_value c p s k y stage is word fits.0 refl) (there c p s k y stage is word fits.0 refl) refl tt))

  -- one is stored

  module _ (word new : ℕ) (is : Is c k (at c p s k y (StoresBoard word new))) where
    stores_it : (v : Value) → word_for v ≡ new → ExecutesAction y.account y.registers y.task (Puts word v) → Goes c p s k (Some (WordIs (board_at y.layout word) new)) (at c p s k y (StoresBoard word new)) replies.Done
    stores_it v spelled executes =
        let stage = StoresBoard word new in
        let mine = own c p s k y stage is in
        let held = (names c p s k y stage is (Puts word v) executes).2 in
        let law = stored c p s k y stage is word is.fits.stage.sound.stage refl (knows (went_on (at c p s k y stage))) (plain.went_on mine) new (plain_value s.ghost.identity v)
        (subst (λ (w : ℕ). HoldsValue (era c) s.ghost w (plain_value s.ghost.identity v)) spelled held)
        (moved_goes c p s k (at c p s k y stage) is refl (no_end c p s k y stage is) mine (its c p s k y stage is))
        (moved_as c p s k (at c p s k y stage) is refl (no_end c p s k y stage is) mine (its c p s k y stage is)) in
        goes_storing c p s k y stage is (Puts word v) executes (Some (WordIs (board_at y.layout word) new)) replies.Done
        (record { heap = with_board p.heap word (plain_value s.ghost.identity v); mutator = plain.went_on mine }) refl refl law tt

    pub stores_board : StepsSo c p s k (at c p s k y (StoresBoard word new))
    stores_board =
        let stage = StoresBoard word new in
        let act = puts is.fits.task.act word new is.fits.task.is in
        let executes : ExecutesAction y.account y.registers y.task (Puts word act.0) = subst (λ (a : Action). ExecutesAction y.account y.registers y.task a) act.1 is.fits.task.executes in
        let place = board_at y.layout word in
        wants c p s k (at c p s k y stage) (Store (place_of c.pages (HeapWord place)) new) (ap (λ n. Some (Store (place_of n (HeapWord place)) new)) is.fits.pages)
        (steps.stores c p s k (at c p s k y stage) (WordIs place new) (in_table c p s k y stage is word is.fits.stage.sound.stage refl) (stores_it act.0 act.2 executes))

  -- it changes places with a register

  pub loads_for_swap : (b : BoardSwap) → Is c k (at c p s k y (LoadsForSwap b)) → StepsSo c p s k (at c p s k y (LoadsForSwap b))
  loads_for_swap b is =
      let stage = LoadsForSwap b in
      let fits = is.fits.stage.sound.stage in
      let place = board_at y.layout b.word in
      let old = found c p s k y stage is b.word fits.0 refl in
      wants c p s k (at c p s k y stage) (Load (place_of c.pages (HeapWord place))) (ap (λ n. Some (Load (place_of n (HeapWord place)))) is.fits.pages)
      (steps.loads c p s k (at c p s k y stage) (HeapWord place) (in_table c p s k y stage is b.word fits.0 refl)
      (goes_to c p s k y stage is (SwapsBoard b old) (replies.Value old) refl (nothing c p s k (at c p s k y stage) is (knows (at c p s k y (SwapsBoard b old))) refl)
      (record { act = is.fits.task.act; executes = is.fits.task.executes; is = is.fits.task.is }) fits tt))

  module _ (b : BoardSwap) (old : ℕ) (is : Is c k (at c p s k y (SwapsBoard b old))) where
    abbrev stage : AccessStage
    stage = SwapsBoard b old

    abbrev place : ℕ
    place = board_at y.layout b.word

    abbrev here : Held
    here = at c p s k y stage

    won : (v : Value) → word_for v ≡ b.new → ExecutesAction y.account y.registers y.task (Swaps b.into b.word v) → found c p s k y stage is b.word is.fits.stage.sound.stage.0 refl ≡ old
        → Goes c p s k (Some (WordIs place b.new)) here replies.Won
    won v spelled executes same =
        let fits = is.fits.stage.sound.stage in
        let mine = own c p s k y stage is in
        let before = board_word p.heap b.word in
        let held = (names c p s k y stage is (Swaps b.into b.word v) executes).2 in
        let old_held : HoldsValue (era c) s.ghost old before = subst (λ (w : ℕ). HoldsValue (era c) s.ghost w before) same (there c p s k y stage is b.word fits.0 refl) in
        let now = plain.went_on (plain.set_register mine b.into before) in
        let law = stored c p s k y stage is b.word fits.0 refl (knows (loads here b.into old)) now b.new (plain_value s.ghost.identity v)
        (subst (λ (w : ℕ). HoldsValue (era c) s.ghost w (plain_value s.ghost.identity v)) spelled held)
        (loaded_goes c p s k here is refl (no_end c p s k y stage is) mine (its c p s k y stage is) b.into old before fits.1 old_held)
        (loaded_as c p s k here is refl (no_end c p s k y stage is) mine (its c p s k y stage is) b.into old before fits.1 old_held) in
        goes_bringing c p s k y stage is (Swaps b.into b.word v) executes (Some (WordIs place b.new)) replies.Won b.into old
        (record { heap = with_board p.heap b.word (plain_value s.ghost.identity v); mutator = now }) refl fits.1
        (value_word s.ghost.identity old before old_held.denotes) refl law tt

    lost : Goes c p s k None here (replies.Lost (found c p s k y stage is b.word is.fits.stage.sound.stage.0 refl))
    lost =
        let word = found c p s k y stage is b.word is.fits.stage.sound.stage.0 refl in
        goes_to c p s k y stage is (LoadsForSwap b) (replies.Lost word) refl (nothing c p s k here is (knows (at c p s k y (LoadsForSwap b))) refl)
        (record { act = is.fits.task.act; executes = is.fits.task.executes; is = is.fits.task.is }) is.fits.stage.sound.stage tt

    pub swaps_board : StepsSo c p s k here
    swaps_board =
        let act = swaps is.fits.task.act b is.fits.task.is in
        let executes : ExecutesAction y.account y.registers y.task (Swaps b.into b.word act.0) = subst (λ (a : Action). ExecutesAction y.account y.registers y.task a) act.1 is.fits.task.executes in
        wants c p s k here (Exchange (place_of c.pages (HeapWord place)) old b.new) (ap (λ n. Some (Exchange (place_of n (HeapWord place)) old b.new)) is.fits.pages)
        (steps.exchanges c p s k here (WordIs place b.new) old (in_table c p s k y stage is b.word is.fits.stage.sound.stage.0 refl) (won act.0 act.2 executes) (λ other. lost))
