-- A worker has found the copy that it asked for: what a pointer to the copy is, in the place of the word that led to the old record.
use Rattle.std.proofs.Common.{◌≡◌, ℕ, ◌+◌, ◌<◌, ◌≤◌, Some, sym, ap, ◌∙◌, arith}
use Rattle.heap_words.specs.Decoded.{PointerWord, decode}
use Rattle.plain_state.specs.declared.value.Identity.{Identity}
use Rattle.plain_state.specs.declared.value.Value.TheVariants.{Reference}
use Rattle.heap_state.specs.Cycles.Cycle.{StillLeads}
use Rattle.heap_state.specs.Memory.Era.{Era, Memory, IsLaidOut}
use Rattle.heap_state.specs.Invariant.Ghost.{Ghost, Leads, Lands}
use Rattle.heap_state.specs.Invariant.Inductive.{Invariant}
use Rattle.heap_state.specs.Invariant.Parts.Copying.{Seeks}
use Rattle.heap_state.specs.Meaning.Values.{value_of}
use Rattle.heap_state.specs.Known.{Team, Quest, Copy}
use Rattle.heap_state.proofs.Puts.{some_same, none≢some}
use Rattle.heap_state.specs.Targets.{IsCopied}
use Rattle.heap_laws.proofs.Frames.Values.{pointer_same, value_from_pointer}

-- v in the place of w
pub record FoundCopy (E : Era) (m : Memory) (team : Team) (g : Ghost) (k w v : ℕ) : Type 0 where
  pub clean : ¬ (Leads E v)
  pub lands : Lands g.size g.writer v
  pub value : value_of g.identity v ≡ value_of g.identity w
  pub seen : (i : Identity) → StillLeads E g.identity w i → IsCopied E m.front g.size g.writer g.identity i
  pub copies_nothing : (c : Copy) → (team.worker k).copy ≡ Some c → ⊥

pub found_copy : (E : Era) (m : Memory) (team : Team) (g : Ghost) (k w v b : ℕ) (q : Quest) → IsLaidOut E → Invariant E m team g → k < team.count → (team.worker k).quest ≡ Some q → q.found ≡ Some b
    → decode w ≡ PointerWord q.old → decode v ≡ PointerWord b → FoundCopy E m team g k w v
unfolding Leads Lands
found_copy E m team g k w v b q out inv below has found led word = record {
  clean = λ y. let e : b ≡ y.0 = pointer_same v b y.0 word y.1 in let t = target in omega (arith, e, y.2, y.3, t.2, t.3, inv.laid.order, out.apart);
  lands = λ c e. let z : b ≡ c = pointer_same v b c word e in rw (← z) stands;
  value = value_from_pointer g.identity v b word ∙ (ap (λ i. Some (Reference i)) target.5 ∙ sym (value_from_pointer g.identity w q.old led));
  seen = λ i y.
      let e : q.old ≡ y.at = pointer_same w q.old y.at led y.points in
      let z : g.identity q.old ≡ g.identity y.at = ap g.identity e in
      record { at = b; stands = stands; below = (target.2, target.3); named = target.5 ∙ (z ∙ y.named) };
  copies_nothing = λ c e.
      let a = (inv.workers k below).licensed.asked c e in
      let f : a.0 ≡ q = some_same (sym a.1 ∙ has) in
      let y : a.0.found ≡ q.found = ap (λ (u : Quest). u.found) f in
      none≢some (sym a.3 ∙ (y ∙ found));
}
  where
    seeks : Seeks E g.size g.writer g.copy q
    seeks = (inv.workers k below).quest q has

    target : (E.old_start ≤ q.old) × (q.old < E.old_start + E.old_span) × (E.start ≤ b) × (b < m.front) × (g.size b ≡ g.size q.old)
        × (g.identity b ≡ g.identity q.old) × (g.kind b ≡ g.kind q.old) × (g.writer b ≡ g.keeper q.old)
    target = inv.copied.target q.old b seeks.old.0 (seeks.found b found).0

    stands : (0 < g.size b) × (g.writer b ≡ 0)
    stands = (let o = seeks.old in let t = target in omega (arith, t.4, o), (seeks.found b found).1)
