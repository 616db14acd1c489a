-- A page's word becomes one of this epoch, and with it the scan and the claim of one worker: the step keeps all, if it keeps what
-- speaks of both.
use Rattle.std.proofs.Common.{◌≢◌, ℕ, ◌<◌, Option, refl}
use Rattle.space_map.specs.declared.page_word.PageWord.{PageWord}
use Rattle.heap_state.specs.Memory.Era.{Era, Memory}
use Rattle.heap_state.specs.Functions.{put}
use Rattle.heap_state.specs.Invariant.Ghost.{Ghost}
use Rattle.heap_state.specs.Invariant.Inductive.{Invariant, Knows}
use Rattle.heap_state.specs.Invariant.Parts.Leading.{Opened}
use Rattle.heap_state.specs.Invariant.Parts.Pages.{Shut, Filling, ScannedBy}
use Rattle.heap_state.specs.Known.{Known, Team, Scan, Claim}
use Rattle.heap_state.proofs.Puts.{team_put}
use Rattle.heap_state.proofs.Workers.Frames.{counted_put, staffed_put, stocks_put, numbered_put, rooted_put}
use Rattle.heap_laws.specs.Cells.Frames.{GoesOnInChain}
use Rattle.heap_laws.specs.Steps.{Preserves, with_page, with_worker}
use Rattle.heap_laws.proofs.Cells.Kept.{same_keeps}
use Rattle.heap_laws.proofs.Frames.NewPages.{PageTurns, not_old_word, new_turns, stocks_turn}
use Rattle.heap_laws.proofs.Frames.PageWords.{grows, tracing_turns, aged_turns, old_pages_turn, old_space_turns}
use Rattle.heap_laws.proofs.Steps.Learning.{shown_put}
use Rattle.heap_laws.proofs.Targets.Frames.{made_put}

module _ (E : Era) (m : Memory) (team : Team) (g : Ghost) (k p : ℕ) (v : PageWord) (scan : Option Scan) (claim : Option Claim) (inv : Invariant E m team g) (turns : PageTurns E m.front m.low m.page p v) where
  abbrev page' : ℕ → PageWord
  page' = put m.page p v

  abbrev w' : Known
  w' = record (team.worker k) { scan = scan; claim = claim }

  abbrev KnowsNow : ℕ → Known → Type 0
  KnowsNow = Knows E m.gate m.traced m.front m.low m.old_front m.old_low m.old_owed g page' m.cross m.announced m.heap

  pub keeps_turned : ScannedBy E team.count page' (put team.worker k w') → Shut E m.front m.low g.size g.writer page' → Opened E g.size g.writer g.kind m.heap page' → Filling E m.gate.behind m.front page'
      → GoesOnInChain E w' (team.worker k) → ((j : ℕ) → j < team.count → j ≢ k → KnowsNow j (team.worker j)) → KnowsNow k w' → Preserves E m (with_page m p v) team (with_worker team k w') g g
  keeps_turned scanned shut opened filling goes others own = record {
    invariant = invariant;
    shown = λ o s. shown_put E m (with_page m p v) team g k w' o refl refl refl refl refl (λ e. e) s;
    cycle = λ o c. record {
      copying = c.copying;
      rooted = rooted_put team.worker k w' refl refl refl (λ _ _ a b. (a, b)) c.rooted;
      made = made_put team.worker k w' refl c.made;
    };
    ages = grows turns.turn;
  }
    where
      invariant : Invariant E (with_page m p v) (with_worker team k w') g
      invariant =
          let p1 = counted_put team.worker k w' refl refl inv.counted in
          let p2 = staffed_put team.worker k w' refl inv.staffed in
          let p3 = tracing_turns turns.turn inv.tracing in
          let p4 = aged_turns turns.turn inv.aged in
          let p5 = new_turns turns inv.new in
          let p6 = old_space_turns turns.turn (not_old_word turns) inv.old_space in
          let p7 = old_pages_turn turns.turn inv.old_pages in
          let p8 = stocks_put team.worker k w' (λ _ e. e) (stocks_turn turns inv.stocks) in
          let p9 = numbered_put team.worker k w' refl inv.numbered in
          let p11 = same_keeps E m (with_page m p v) team g g k w' (assumption) (assumption) (assumption) goes inv.cells in
          let p10 = team_put team.count KnowsNow team.worker k w' others own in
          assumption
