-- The walk over the chain of copied cells: the turn is taken, each target is looked at and replaced, and TRACED is exchanged.
use Rattle.std.specs.Prelude.{◌≡◌, ℕ, ◌+◌, ◌-◌, ◌*◌, ◌<◌, ◌≤◌, ◌⊎◌, true, false, Some, None, is_some}
use Rattle.heap_words.specs.declared.kind.Kind.{Kind as HeaderKind}
use Rattle.heap_words.specs.Decoded.{NumberWord, PointerWord, HeaderWord, ForwardWord, decode}
use Rattle.heap_state.specs.Cells.{Ranks, KnowsCopy, SameGround, IsCopiedCell, TargetsOld, ReplacesTarget, Chain}
use Rattle.heap_state.specs.Memory.Entries.{WordIs, TracedIs, WeakTurnIs}
use Rattle.heap_state.specs.Memory.Era.{Era, Memory}
use Rattle.heap_state.specs.Invariant.Ghost.{Ghost, Leads}
use Rattle.heap_state.specs.Known.{Known, Team, LastLook, Visit, Pass, Begins, At, Done}
use Rattle.heap_laws.specs.Steps.{Ready, WritesRow, with_worker}
use Rattle.heap_laws.specs.Tracing.{WinsTurn}

-- but for the walk, the chain reads of worker w what it reads of u
pub record SameBesidePass (w u : Known) : Type 0 where
  pub post : w.post ≡ u.post
  pub ground : SameGround w u
  pub scan : w.scan ≡ u.scan
  pub asked : KnowsCopy u → KnowsCopy w
  pub reset : w.reset ≡ u.reset
  pub linking : w.linking ≡ u.linking

-- ---- the turn

-- the exchange of WEAKTURN is won
abbrev pub TakingTurnCarriesChain : Type 0
TakingTurnCarriesChain = (E : Era) (m later : Memory) (weak turn : ℕ) (team : Team) (g : Ghost) (r : Ranks) (k : ℕ) (l : LastLook) (w : Known) → Ready E m team g k
    → WinsTurn turn team k l → w.pass ≡ Some Begins
    → WritesRow E m (Some (WeakTurnIs ((team.worker k).epoch + 1))) later → SameBesidePass w (team.worker k)
    → Chain E m weak turn team g r → Chain E later weak ((team.worker k).epoch + 1) (with_worker team k w) g r

-- ---- from cell to cell

-- the walk comes to a cell, and so many cells may still come
abbrev pub visit : (cell more : ℕ) → Visit
visit cell more = record { cell = cell; old = None; word = None; past = false; more = more }

-- where the walk comes to by a link or WEAK: behind the last cell, or to the next one
abbrev pub ComesTo : (word more : ℕ) → Pass → Type 0
ComesTo word more q = ((word ≡ 0) × (q ≡ Done)) ⊎ ((a : ℕ) × (word ≡ a + 1) × (q ≡ At (visit a more)))

-- the linked cells have room below FRONT, three words each
abbrev pub ChainIsShort : Type 0
ChainIsShort = (E : Era) (m : Memory) (weak turn : ℕ) (team : Team) (g : Ghost) (r : Ranks) (k : ℕ) → Ready E m team g k → m.traced ≤ E.epoch
    → Chain E m weak turn team g r → E.start + 3 * r.length ≤ m.front

-- WEAK is loaded, and no more cells are linked than may come
abbrev pub BeginningWalkCarriesChain : Type 0
BeginningWalkCarriesChain = (E : Era) (m later : Memory) (weak turn : ℕ) (team : Team) (g : Ghost) (r : Ranks) (k more : ℕ) (q : Pass) (w : Known) → k < team.count
    → (team.worker k).pass ≡ Some Begins → r.length ≤ more → ComesTo weak more q → w.pass ≡ Some q → WritesRow E m None later → SameBesidePass w (team.worker k)
    → Chain E m weak turn team g r → Chain E later weak turn (with_worker team k w) g r

-- the link of a cell is loaded that the walk has done with
abbrev pub GoingOnCarriesChain : Type 0
GoingOnCarriesChain = (E : Era) (m later : Memory) (weak turn : ℕ) (team : Team) (g : Ghost) (r : Ranks) (k : ℕ) (v : Visit) (q : Pass) (w : Known) → k < team.count
    → (team.worker k).pass ≡ Some (At v) → v.past ≡ true → ComesTo (m.heap (v.cell + 2)) (v.more - 1) q → w.pass ≡ Some q → WritesRow E m None later → SameBesidePass w (team.worker k)
    → Chain E m weak turn team g r → Chain E later weak turn (with_worker team k w) g r

-- ---- a cell's target

-- a cell whose target the walk has done with
abbrev pub passed : Visit → Visit
passed v = record v { old = None; word = None; past = true }

-- one whose target this word is to replace
abbrev pub replacing : Visit → (word : ℕ) → Visit
replacing v word = record v { old = None; word = Some word }

-- what the walk knows of a target once it is loaded: that it doesn't lead into the old space, or where it leads there
abbrev pub FindsTarget : Era → Memory → Ghost → (v u : Visit) → Type 0
FindsTarget E m g v u = (¬ (Leads E (m.heap (v.cell + 1))) × (u ≡ passed v))
    ⊎ ((b : ℕ) × TargetsOld E m g v.cell b × (u ≡ record v { old = Some b; word = None }))

-- the target is loaded
abbrev pub FindingTargetCarriesChain : Type 0
FindingTargetCarriesChain = (E : Era) (m later : Memory) (weak turn : ℕ) (team : Team) (g : Ghost) (r : Ranks) (k : ℕ) (v u : Visit) (w : Known) → k < team.count
    → (team.worker k).pass ≡ Some (At v) → v.past ≡ false → FindsTarget E m g v u → w.pass ≡ Some (At u) → WritesRow E m None later → SameBesidePass w (team.worker k)
    → Chain E m weak turn team g r → Chain E later weak turn (with_worker team k w) g r

-- the first word of an old record says what is to replace a target that leads to it
pub record HeaderReplaces (m : Memory) (g : Ghost) (b : ℕ) : Type 0 where
  pub forward : (len d word : ℕ) → decode (m.heap b) ≡ ForwardWord len d → decode word ≡ PointerWord d → ReplacesTarget g b word
  pub header : (kind : HeaderKind) (len serial mutator word : ℕ) → decode (m.heap b) ≡ HeaderWord kind len serial mutator → decode word ≡ NumberWord 0 → ReplacesTarget g b word

abbrev pub HeadersReplaceTargets : Type 0
HeadersReplaceTargets = (E : Era) (m : Memory) (team : Team) (g : Ghost) (k b : ℕ) → Ready E m team g k → 0 < g.size b → E.old_start ≤ b → b < E.old_start + E.old_span → HeaderReplaces m g b

-- that word is known
abbrev pub FindingWordCarriesChain : Type 0
FindingWordCarriesChain = (E : Era) (m later : Memory) (weak turn : ℕ) (team : Team) (g : Ghost) (r : Ranks) (k : ℕ) (v : Visit) (b x : ℕ) (w : Known) → k < team.count
    → (team.worker k).pass ≡ Some (At v) → v.past ≡ false → v.old ≡ Some b → ReplacesTarget g b x → w.pass ≡ Some (At (replacing v x)) → WritesRow E m None later → SameBesidePass w (team.worker k)
    → Chain E m weak turn team g r → Chain E later weak turn (with_worker team k w) g r

-- it is stored as the target
abbrev pub ReplacingTargetCarriesChain : Type 0
ReplacingTargetCarriesChain = (E : Era) (m later : Memory) (weak turn : ℕ) (team : Team) (g : Ghost) (r : Ranks) (k : ℕ) (v : Visit) (x : ℕ) (w : Known) → Ready E m team g k
    → (team.worker k).pass ≡ Some (At v) → v.past ≡ false → v.word ≡ Some x → w.pass ≡ Some (At (passed v))
    → WritesRow E m (Some (WordIs (v.cell + 1) x)) later → SameBesidePass w (team.worker k)
    → Chain E m weak turn team g r → Chain E later weak turn (with_worker team k w) g r

-- ---- TRACED

-- What stands of the chain when TRACED is exchanged by who has walked over it: all copied cells are passed.
pub record IsWalked (E : Era) (m : Memory) (g : Ghost) : Type 0 where
  pub clean : (a : ℕ) → IsCopiedCell E m.front g a → ¬ (Leads E (m.heap (a + 1)))

abbrev pub WalkIsDone : Type 0
WalkIsDone = (E : Era) (m : Memory) (weak turn : ℕ) (team : Team) (g : Ghost) (r : Ranks) (k : ℕ) → Ready E m team g k → (team.worker k).pass ≡ Some Done → Chain E m weak turn team g r → IsWalked E m g

-- the exchange of TRACED is won, by who has the turn
abbrev pub TracingCarriesChain : Type 0
TracingCarriesChain = (E : Era) (m later : Memory) (weak turn : ℕ) (team : Team) (g : Ghost) (r : Ranks) (k : ℕ) (w : Known) → Ready E m team g k
    → is_some (team.worker k).pass ≡ true → w.pass ≡ None → w.linking ≡ (team.worker k).linking → w.reset ≡ (team.worker k).reset
    → WritesRow E m (Some (TracedIs ((team.worker k).epoch + 1))) later
    → Chain E m weak turn team g r → Chain E later weak turn (with_worker team k w) g r
