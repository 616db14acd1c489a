-- A worker that does nothing and has seen nothing knows where it stands, and no more.
use Rattle.std.proofs.Common.{◌≡◌, ℕ, ◌<◌, true, false, Some, None, is_some, refl}
use Rattle.space_map.specs.declared.gate_word.GateWord.{GateWord}
use Rattle.space_map.specs.declared.page_word.PageWord.{PageWord}
use Rattle.heap_state.specs.Memory.Era.{Era}
use Rattle.heap_state.specs.Invariant.Ghost.{Ghost}
use Rattle.heap_state.specs.Invariant.Inductive.{Knows, KnowsAtPages}
use Rattle.heap_state.specs.Invariant.Parts.Knowledge.{Timely, Ends, Clean}
use Rattle.heap_state.specs.Known.{Known, Outside, Stock, fresh, is_mutator, is_asking, is_late}
use Rattle.heap_state.proofs.Puts.{none≢some, true_false}

-- the worker that stands where this one does, and has its account, its registers and its stock, but nothing else
abbrev pub at_rest : Known → Known
at_rest w = record (fresh w.post) { epoch = w.epoch; account = w.account; registers = w.registers; done = w.done; stock = w.stock }

pub nothing_at_pages : {E : Era} {traced front behind : ℕ} {size writer : ℕ → ℕ} {page : ℕ → PageWord} (w : Known) → KnowsAtPages E traced front behind size writer page (at_rest w)
nothing_at_pages w = record {
  round = λ r e. none≢some e;
  claim = λ q e. none≢some e;
  look = λ l e. none≢some e;
  last_look = λ l e. none≢some e;
}

pub idle_knows : {E : Era} {gate : GateWord} {traced front low old_front old_low old_owed : ℕ} {g : Ghost} {page : ℕ → PageWord} {cross announced heap : ℕ → ℕ} {k : ℕ} (w : Known) → is_asking w.post ≡ false
    → Timely E w.post w.epoch w.done → Ends w.post (is_some w.account.end) → (w.post ≡ Outside → (j : ℕ) → j < 8 → w.registers j ≡ 0) → ((q : Stock) → w.stock ≡ Some q → q.epoch ≡ w.epoch)
    → (is_mutator w.post ≡ true → w.account.end ≡ None → Clean E g.size g.writer (is_late E.epoch w) w.done w.registers) → (is_late E.epoch w ≡ true → 0 < gate.behind) → g.kept k ≡ 0
    → Knows E gate traced front low old_front old_low old_owed g page cross announced heap k (at_rest w)
idle_knows w asks timely ends outside stock registers counted kept = record {
  timely = timely;
  ends = ends;
  outside = outside;
  stock = stock;
  registers = registers;
  active = λ f e. none≢some e;
  access = λ f e. none≢some e;
  opened = λ p e. none≢some e;
  origin = λ q e. none≢some e;
  quest = λ q e. none≢some e;
  licensed = record { licensed = λ c e. none≢some e; asked = λ c e. none≢some e; counted = counted; idle = λ e. kept };
  copy = λ c e. none≢some e;
  keeps = λ c e. none≢some e;
  present = λ s e. none≢some e;
  scan = λ s e. none≢some e;
  stepping = λ s e. none≢some e;
  pages = nothing_at_pages w;
  seen_traced = λ e. true_false refl e;
  asks = λ e. true_false asks e;
  size_seen = λ p e. none≢some e;
  passage = λ s e. none≢some e;
  resets = λ r e. none≢some e;
  reset = λ r e. none≢some e;
  unsized = λ e. true_false asks e;
}
