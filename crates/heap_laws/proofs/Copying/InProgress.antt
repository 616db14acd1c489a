-- Who goes on copying the same record knows the rest as before.
use Rattle.std.proofs.Common.{◌≡◌, ℕ, refl, sym, ap, ◌∙◌, Some}
use Rattle.space_map.specs.declared.gate_word.GateWord.{GateWord}
use Rattle.space_map.specs.declared.page_word.PageWord.{PageWord}
use Rattle.heap_state.specs.Memory.Era.{Era}
use Rattle.heap_state.specs.Invariant.Ghost.{Ghost}
use Rattle.heap_state.specs.Invariant.Inductive.{Knows}
use Rattle.heap_state.specs.Invariant.Parts.Copying.{IsOrigin, Copies, Keeps, Licensed}
use Rattle.heap_state.specs.Invariant.Parts.Scanning.{Scans}
use Rattle.heap_state.specs.Known.{Known, Quest, Copy, Scan, is_late}
use Rattle.heap_state.proofs.Puts.{some_same, none≢some}
use Rattle.heap_laws.specs.Cells.Frames.{GoesOnInChain}
use Rattle.heap_laws.specs.Copying.{copying}
use Rattle.heap_laws.proofs.Cells.Kept.{in_chain}

-- who goes on copying the same record knows the rest as before, where the heap still has what the rest speaks of
pub knows_copying : (E : Era) (gate : GateWord) (traced front low old_front old_low old_owed : ℕ) (g : Ghost) (page : ℕ → PageWord) (cross announced heap crossed claimed stored : ℕ → ℕ) (k : ℕ) (w : Known) (c d : Copy)
    → w.copy ≡ Some c → d.from ≡ c.from → Knows E gate traced front low old_front old_low old_owed g page cross announced heap k w
    → Copies E front g.size g.writer g.copy g.keeper g.kept claimed crossed stored k d → Keeps g.kind g.identity stored d
    → ((q : Quest) → w.quest ≡ Some q → IsOrigin E g.size g.writer g.kind stored (is_late E.epoch w) w.done w.registers w.scan q.old q.origin)
    → ((s : Scan) → w.scan ≡ Some s → Scans E front g.size g.writer g.kind stored page k s)
    → Knows E gate traced front low old_front old_low old_owed g page crossed claimed stored k (copying w d)
knows_copying E gate traced front low old_front old_low old_owed g page cross announced heap crossed claimed stored k w c d has from u copies keeps origin scan =
    let o1 : Licensed gate.behind g.kept k (is_late E.epoch w) (Some d) w.quest w.scan = record {
      licensed = λ x m. u.licensed.licensed c has;
      asked = λ x m. let q = u.licensed.asked c has in (q.0, q.1, q.2 ∙ (sym from ∙ ap (λ (y : Copy). y.from) (some_same m)), q.3);
      counted = u.licensed.counted;
      idle = λ e. absurd (none≢some (sym e));
    } in
    let o2 : (x : Copy) → Some d ≡ Some x → Copies E front g.size g.writer g.copy g.keeper g.kept claimed crossed stored k x = λ x m. rw (← some_same m) copies in
    let o3 : (x : Copy) → Some d ≡ Some x → Keeps g.kind g.identity stored x = λ x m. rw (← some_same m) keeps in
    assumption

-- and it has the same part in the chain of copied cells
pub copies_in_chain : (E : Era) (w : Known) (c : Copy) → GoesOnInChain E (copying w c) w
copies_in_chain E w c = in_chain E (copying w c) w refl refl refl (record { linking = refl; pass = refl; asked = λ _ y. y; ground = λ _. (refl, refl); cleared = λ e. e })
