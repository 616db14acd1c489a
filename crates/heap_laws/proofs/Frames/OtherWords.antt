-- Two heaps that agree on some words: what reads those words alone stays.
use Rattle.std.proofs.Common.{◌≡◌, ℕ, ◌+◌, ◌/◌, ◌<◌, ◌≤◌, true, false, Option, Some, slice_get, ◌∙◌, arith, ⊎_elim, ◌⊎◌}
use Rattle.heap_state.proofs.Records.Layouts.{value_within, count_stays}
use Rattle.plain_state.specs.Layout.{word_of_value}
use Rattle.std.proofs.lemmas.Bool.{cases_Bool}
use Rattle.std.proofs.lemmas.Option.{slice_get_within}
use Rattle.plain_state.specs.declared.kind.Kind.{Kind}
use Rattle.plain_state.specs.State as plain
use Rattle.plain_state.specs.declared.value.Identity.{Identity}
use Rattle.plain_state.specs.declared.value.Value.{Value}
use Rattle.space_map.specs.declared.page_word.PageWord.{PageWord}
use Rattle.heap_state.specs.Memory.Era.{Era}
use Rattle.heap_state.specs.Invariant.Ghost.{Here, Leads}
use Rattle.heap_state.specs.Invariant.Parts.Copying.{Copies}
use Rattle.heap_state.specs.Invariant.Parts.OldSpace.{OldSpace}
use Rattle.heap_state.specs.Invariant.Parts.Records.{Headed, NewArea, SpaceOf}
use Rattle.heap_state.specs.Invariant.Parts.Scanning.{Scans}
use Rattle.heap_state.specs.Invariant.Parts.Stocks.{Stocked}
use Rattle.heap_state.specs.Meaning.Values.{Shows}
use Rattle.heap_state.specs.Known.{Copy, Scan, Stock, IsNotAhead}

-- a copy that has words is in a place that is reserved
pub has_place : {E : Era} {front : ℕ} {size writer copy keeper kept announced cross heap : ℕ → ℕ} (j : ℕ) (c : Copy) → Copies E front size writer copy keeper kept announced cross heap j c → 0 < c.done → c.reserved ≡ true
has_place j c p l = ⊎_elim (λ (y : c.reserved ≡ true). y) (λ (y : c.reserved ≡ false). absurd (let z = p.loose y in omega (arith, z, l))) (cases_Bool c.reserved)

-- a word stored ahead lies where words were made 0 before
pub ahead_zeroed : {E : Era} {low : ℕ} {size heap : ℕ → ℕ} {page : ℕ → PageWord} (q : Stock) → Stocked E low size heap page q → (i w : ℕ) → slice_get q.ahead i ≡ Some w → q.at + 1 + i < q.zeroed
ahead_zeroed q p i w e = let n = slice_get_within q.ahead i w e in let f = p.fits (omega arith) in omega (arith, f, n)

module _ {h other : ℕ → ℕ} where
  pub headed_same : {size writer copy keeper : ℕ → ℕ} {kind : ℕ → Kind} {identity : ℕ → Identity} → ((a : ℕ) → 0 < size a → other a ≡ h a)
      → Headed size writer copy keeper kind identity h → Headed size writer copy keeper kind identity other
  headed_same same p = record {
    own = λ a st w y z. rw (same a st) (p.own a st w y z);
    kept = λ a k st y. rw (same a st) (p.kept a k st y);
    gone = λ a b st y z. rw (same a st) (p.gone a b st y z);
  }

  -- words of no record
  pub area_same : {low end epoch : ℕ} {size : ℕ → ℕ} {page : ℕ → PageWord} → ((x : ℕ) → low ≤ x → x < end → ((a : ℕ) → 0 < size a → (x < a) ⊎ (a + size a ≤ x)) → other x ≡ h x)
      → NewArea low end epoch size h page → NewArea low end epoch size other page
  area_same same p = record { opened = p.opened; prior = p.prior; blank = λ x l u w o free. rw (same x l u free) (p.blank x l u w o free) }

  pub old_space_same : {E : Era} {traced old_front old_low : ℕ} {size : ℕ → ℕ} {page : ℕ → PageWord}
      → ((x : ℕ) → E.old_start ≤ x → x < E.old_start + E.old_span → ((a : ℕ) → 0 < size a → (x < a) ⊎ (a + size a ≤ x)) → other x ≡ h x)
      → OldSpace E traced old_front old_low size h page → OldSpace E traced old_front old_low size other page
  old_space_same {E} {traced} {old_front} {old_low} {size} {page} same p = record { walks = λ t d e. of_space d (p.walks t d e) }
    where
      of_space : (d : ℕ) → SpaceOf E.old_start old_front old_low (E.old_start + E.old_span) d size h page → SpaceOf E.old_start old_front old_low (E.old_start + E.old_span) d size other page
      of_space d s = let a = area_same (λ x l u free. same x (let o = s.order in omega (arith, o, l)) u free) s.new in assumption

  -- the words that were made 0, and those stored ahead
  pub stocked_same : {E : Era} {low : ℕ} {size : ℕ → ℕ} {page : ℕ → PageWord} (q : Stock) → ((x : ℕ) → q.at ≤ x → x < q.zeroed → other x ≡ h x) → Stocked E low size h page q → Stocked E low size other page q
  stocked_same q same p =
      let z : (x : ℕ) → q.at ≤ x → x < q.zeroed → IsNotAhead q x → other x ≡ 0 = λ x l u n. rw (same x l u) (p.zeros x l u n) in
      let a : (i w : ℕ) → slice_get q.ahead i ≡ Some w → other (q.at + 1 + i) ≡ w = λ i w e. rw (same (q.at + 1 + i) (omega arith) (ahead_zeroed q p i w e)) (p.ahead i w e) in
      assumption

  -- the words where mutators read
  pub scans_same : {E : Era} {front : ℕ} {size writer : ℕ → ℕ} {kind : ℕ → Kind} {page : ℕ → PageWord} (j : ℕ) (s : Scan) → ((x : ℕ) → Here E size writer kind x → other x ≡ h x)
      → Scans E front size writer kind h page j s → Scans E front size writer kind other page j s
  scans_same {E} {front} {size} {writer} {kind} j s same p =
      let q : (x : ℕ) → Here E size writer kind x → x / 64 ≡ s.page → x < s.cursor → ¬ (Leads E (other x)) = λ x u e l. rw (same x u) (p.passed x u e l) in assumption

  -- the words of the old record, and those of the copy
  pub copies_same : {E : Era} {front : ℕ} {size writer copy keeper kept announced cross : ℕ → ℕ} (j : ℕ) (c : Copy)
      → ((i : ℕ) → 0 < i → i < c.size → other (c.from + i) ≡ h (c.from + i)) → (c.reserved ≡ true → (i : ℕ) → 0 < i → i < c.size → other (c.to + i) ≡ h (c.to + i))
      → Copies E front size writer copy keeper kept announced cross h j c → Copies E front size writer copy keeper kept announced cross other j c
  copies_same j c source target p =
      let a : (i : ℕ) → 0 < i → i < c.done → other (c.to + i) ≡ other (c.from + i) = λ i f l. let b = p.bound in
      rw (target (has_place j c p (omega (arith, l))) i f (omega (arith, b, l)), source i f (omega (arith, b, l))) (p.same i f l) in
      let b : (u : ℕ) → c.word ≡ Some u → (0 < c.done) × (c.done < c.size) × (other (c.from + c.done) ≡ u) = λ u e. let q = p.loaded u e in (q.0, q.1, source c.done q.0 q.1 ∙ q.2) in
      assumption

  pub shows_same : {denotes : ℕ → Option Value} {a z : ℕ} {k : Kind} (r : plain.Record) → ((i : ℕ) → 0 < i → i < z → other (a + i) ≡ h (a + i)) → Shows denotes h a k z r → Shows denotes other a k z r
  shows_same {k = k} r same s = record {
    kind = s.kind;
    size = s.size;
    fields = λ x l t. let w = value_within r s x l in rw (same (word_of_value k x) w.0 w.1) (s.fields x l t);
    numbers = λ x l t. let w = value_within r s x l in rw (same (word_of_value k x) w.0 w.1) (s.numbers x l t);
    count = count_stays r s other _ (λ _ l _. same 1 (omega arith) l);
  }
