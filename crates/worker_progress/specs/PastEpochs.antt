-- A round that slept past a flip wins nothing: its claim of a page and its exchanges of WEAKTURN and TRACED are lost.
use Rattle.std.specs.Prelude.{◌≡◌, ℕ, ◌<◌, List, length, Some, None}
use Rattle.plain_state.specs.State.{Plain}
use Rattle.atom_store.specs.declared.reply.Reply.TheVariants.{Lost}
use Rattle.atom_store.specs.declared.step.Step.{Step}
use Rattle.atom_store.specs.declared.turn.Turn.TheVariants.{Finished}
use Rattle.atom_store.specs.Step.{words_after, reply_of}
use Rattle.space_map.specs.Table.{Page, Traced, WeakTurn}
use Rattle.page_slots.specs.declared.claim_stage.ClaimStage.TheVariants.{Exchanges}
use Rattle.page_slots.specs.Claim.{Claiming}
use Rattle.cell_walk.specs.declared.walk_stage.WalkStage.TheVariants.{TakesTurn}
use Rattle.cell_walk.specs.Walking.{begun}
use Rattle.fault_duty.specs.declared.duty_stage.DutyStage.TheVariants.{Claims, Walks, Traces}
use Rattle.fault_duty.specs.declared.round_end.RoundEnd.TheVariants.{NothingNow}
use Rattle.fault_duty.specs.Duty as duty
use Rattle.fault_duty.specs.Duty.{Round}
use Rattle.heap_state.specs.Memory.Table.{word_in}
use Rattle.gc_worker.specs.Laws.Claims.{epoch_of_heap}
use Rattle.gc_worker.specs.Workers.Held.{Held}
use Rattle.gc_worker.specs.Laws.Step.{Heap, IsOut, WorkersStand, held_at}
use Rattle.gc_worker.specs.Steps.Turned.{PageWon, Silent, back_from, of_round, told, turned, won}
use Rattle.gc_worker.specs.Steps.Wanted.{wanted}
use Rattle.gc_worker.specs.declared.stage.back.Back.{Back}
use Rattle.gc_worker.specs.declared.stage.Stage.TheVariants.{Serves}

-- The exchange of a round is lost, by the word that stands there: no word changes, no page is won, the plain machine sees nothing, and the
-- round ends with nothing to do now, after which the worker goes back to what it did.
pub record IsLost (words : List ℕ) (x : Held) (d : Round) (back : Back) (q : Step) (word : ℕ) : Type 0 where
  pub reply : reply_of q words ≡ Lost word
  pub unchanged : words_after q words ≡ words
  pub none : won x (Lost word) ≡ None
  pub silent : told x (Lost word) ≡ Silent
  pub ends : duty.told (duty.taken d (Lost word)) ≡ Finished (NothingNow word)
  pub goes_back : turned x (Lost word) ≡ back_from (of_round x d) back

-- the round of a claim that exchanges the page's word next
abbrev pub exchanges_next : Round → Claiming → Round
exchanges_next d c = record d { stage = Claims (record c { stage = Exchanges }) }

-- Where the round's epoch is below the gate's, a claim's exchange is lost: the page's word is of the round's epoch or a later one.
pub record LosesPage (h : Heap) (x : Held) (d : Round) (back : Back) (c : Claiming) (q : Step) : Type 0 where
  pub out : IsOut h.pages h.words (record { page = c.page; epoch = d.epoch })
  pub lost : IsLost h.words x (exchanges_next d c) back q (word_in h.pages h.words (Page c.page))

abbrev pub PastClaimsAreLost : Type 0
PastClaimsAreLost = (h : Heap) (p o : Plain) (k : ℕ) (x : Held) (d : Round) (back : Back) (c : Claiming) (q : Step) → WorkersStand h p o → k < length h.workers → held_at h k ≡ x
    → x.stage ≡ Serves (exchanges_next d c) back → d.epoch < epoch_of_heap h → wanted x ≡ Some q → LosesPage h x d back c q

-- the round that exchanges WEAKTURN next, which it has read as this word, and TRACED as that
abbrev pub takes_turn_next : Round → (found turn : ℕ) → Round
takes_turn_next d found turn = record d { stage = Walks found (record (begun d.layout d.epoch) { stage = TakesTurn turn }) }

-- There the exchange of WEAKTURN is lost: it says that the turn of the round's epoch or of a later one was taken.
pub record LosesTurn (h : Heap) (x : Held) (d : Round) (back : Back) (found turn : ℕ) (q : Step) : Type 0 where
  pub taken : d.epoch < word_in h.pages h.words WeakTurn
  pub lost : IsLost h.words x (takes_turn_next d found turn) back q (word_in h.pages h.words WeakTurn)

abbrev pub PastTurnsAreLost : Type 0
PastTurnsAreLost = (h : Heap) (p o : Plain) (k : ℕ) (x : Held) (d : Round) (back : Back) (found turn : ℕ) (q : Step) → WorkersStand h p o → k < length h.workers → held_at h k ≡ x
    → x.stage ≡ Serves (takes_turn_next d found turn) back → d.epoch < epoch_of_heap h → wanted x ≡ Some q → LosesTurn h x d back found turn q

-- the round that exchanges TRACED next, which it has read as this word
abbrev pub traces_next : Round → (found : ℕ) → Round
traces_next d found = record d { stage = Traces found }

-- There the exchange of TRACED is lost too: TRACED says that the round's epoch or a later one is traced.
pub record LosesTraced (h : Heap) (x : Held) (d : Round) (back : Back) (found : ℕ) (q : Step) : Type 0 where
  pub traced : d.epoch < word_in h.pages h.words Traced
  pub lost : IsLost h.words x (traces_next d found) back q (word_in h.pages h.words Traced)

abbrev pub PastMarksAreLost : Type 0
PastMarksAreLost = (h : Heap) (p o : Plain) (k : ℕ) (x : Held) (d : Round) (back : Back) (found : ℕ) (q : Step) → WorkersStand h p o → k < length h.workers → held_at h k ≡ x
    → x.stage ≡ Serves (traces_next d found) back → d.epoch < epoch_of_heap h → wanted x ≡ Some q → LosesTraced h x d back found q

-- So a page is won in the gate's epoch alone.
abbrev pub PagesAreWonNow : Type 0
PagesAreWonNow = (h : Heap) (p o : Plain) (k : ℕ) (x : Held) (q : Step) (w : PageWon) → WorkersStand h p o → k < length h.workers → held_at h k ≡ x
    → wanted x ≡ Some q → won x (reply_of q h.words) ≡ Some w → w.epoch ≡ epoch_of_heap h
