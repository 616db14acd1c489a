-- What a cycle keeps is kept where a new record begins to stand.
use Rattle.std.proofs.Common.{◌≡◌, ◌≢◌, ℕ, zero, suc, ◌+◌, ◌<◌, ◌≤◌, List, length, None, refl, sym, ap, ◌∙◌, arith, ⊎_elim, inl, inr}
use Rattle.std.proofs.lemmas.Bool.{cases_eq}
use Rattle.std.proofs.lemmas.Option.{slice_get_past}
use Rattle.plain_state.specs.declared.kind.Kind.{Kind}
use Rattle.plain_state.specs.State as plain
use Rattle.plain_state.specs.declared.value.Identity.{Identity}
use Rattle.plain_state.specs.Layout.{word_of_value}
use Rattle.heap_state.specs.Cycles.Cycle.{Cycle, Copying, MadeSince, Rooted, RootLeads, ByBoard, ByRegister, StillLeads}
use Rattle.heap_state.specs.Memory.Era.{Era, IsLaidOut, Memory}
use Rattle.heap_state.specs.Functions.{put}
use Rattle.heap_state.specs.Invariant.Ghost.{Ghost}
use Rattle.heap_state.specs.Invariant.Inductive.{Invariant}
use Rattle.heap_state.specs.Meaning.Values.{value_of, Shows}
use Rattle.heap_state.specs.Known.{Known, Team, Stock, is_mutator, is_late}
use Rattle.heap_state.proofs.Puts.{each_put, put_at, put_other, proj_put}
use Rattle.heap_state.proofs.Records.Layouts.{value_within}
use Rattle.heap_state.specs.Targets.{IsCopied}
use Rattle.heap_laws.specs.Allocation.Records.{next_identity, allocated}
use Rattle.heap_laws.proofs.Allocation.StockPages.Stocks.{Places}
use Rattle.heap_laws.specs.Steps.{with_word, with_worker}
use Rattle.heap_laws.proofs.Allocation.FreeWords.{IsFree, word_same, copying_free, rooted_free}
use Rattle.heap_laws.proofs.Allocation.Header.{placed, new_place, free, mutator, zeros}
use Rattle.heap_laws.proofs.Allocation.NewRecordParts.{NewPlace, unused, was, same_size, same_writer, old_other, below_other, here_was}
use Rattle.heap_laws.proofs.Allocation.Values.{field_lands, value_allocated}
use Rattle.heap_laws.proofs.Frames.Values.{still_leads, zero_clean}

-- a mutator has made no record with a serial above the number of its records
none_past : (xs : List plain.Record) (n : ℕ) → length xs < n → plain.at_serial xs n ≡ None
none_past xs zero past = refl
none_past xs (suc n) past = slice_get_past xs n (omega arith)

module _ (E : Era) (m : Memory) (team : Team) (g : Ghost) (p : plain.Plain) (k : ℕ) (q : Stock) (c : Kind) (z v : ℕ) {target : ℕ} (lay : IsLaidOut E) (inv : Invariant E m team g) (places : Places E team k q c z v target) (cy : Cycle E m team g p) where
  abbrev j : Identity
  j = next_identity team k

  abbrev heap : ℕ → ℕ
  heap = put m.heap q.at v

  abbrev g' : Ghost
  g' = allocated g q.at z c j

  abbrev w : Known
  w = placed team k q z

  is_free : IsFree E g.size q.at
  is_free = free E m team g k q c z v lay inv places

  is_new_place : NewPlace E m.front m.low g.size g.copy g.keeper q.at z
  is_new_place = new_place E m team g k q c z v lay inv places

  -- ---- what still leads, and what is copied

  still_was : (x : ℕ) (i : Identity) → StillLeads E g'.identity x i → StillLeads E g.identity x i
  still_was x i s = record { at = s.at; points = s.points; old = s.old; named = rw (put_other g.identity q.at j s.at (old_other is_new_place s.at s.old.0 s.old.1)) at s.named }

  still_on : (x : ℕ) (i : Identity) → StillLeads E g.identity x i → StillLeads E g'.identity x i
  still_on x i s = record { at = s.at; points = s.points; old = s.old; named = rw (put_other g.identity q.at j s.at (old_other is_new_place s.at s.old.0 s.old.1)) s.named }

  copied_on : (i : Identity) → IsCopied E m.front g.size g.writer g.identity i → IsCopied E m.front g'.size g'.writer g'.identity i
  copied_on i t = let d = below_other is_new_place t.at t.below.1 in record {
    at = t.at;
    stands = rw (same_size is_new_place t.at d, same_writer is_new_place g.writer t.at d) t.stands;
    below = t.below;
    named = rw (put_other g.identity q.at j t.at d) t.named;
  }

  -- an old record shows what it showed
  shows_on : (a : ℕ) (r : plain.Record) → 0 < g.size a → g.writer a ≡ 0 → Shows (value_of g.identity) heap a (g.kind a) (g.size a) r → Shows (value_of g'.identity) heap a (g.kind a) (g.size a) r
  shows_on a r st u s = record {
    kind = s.kind;
    size = s.size;
    fields = λ x l f.
        let t = value_within r s x l in
        let n = word_of_value (g.kind a) x in
        value_allocated g.size g.writer g.identity q.at j (heap (a + n)) (unused is_new_place) (rw (word_same is_free g.writer g.kind m.heap v a n t.1) (field_lands E m team g a n inv st u f t.0 t.1)) ∙ s.fields x l f;
    numbers = s.numbers;
    count = s.count;
  }

  -- ---- the parts

  copying : Copying E m.front g.size g.writer g.copy g.keeper g.kind g.identity heap p → Copying E m.front g'.size g'.writer g'.copy g'.keeper g'.kind g'.identity heap p
  copying y = record {
    old = λ a st l u o.
        let d = old_other is_new_place a l u in
        let s = was is_new_place a d st in
        let t = y.old a s l u o in
        rw (same_size is_new_place a d, put_other g.kind q.at c a d, put_other g.identity q.at j a d) (t.0, t.1, shows_on a t.0 s (inv.older.written a s l u) t.2);
    sound = λ x i h s. ⊎_elim
        (λ t. y.sound x i t (still_was (heap x) i s))
        (λ t. absurd (zero_clean E (heap x) t (still_leads E g'.identity (heap x) i s)))
        (here_was is_new_place g.writer g.kind c heap (zeros E m team g k q c z v lay inv places) x h);
    reached = λ a st l u o. let d = old_other is_new_place a l u in rw (put_other g.identity q.at j a d) (y.reached a (was is_new_place a d st) l u o);
    sizes = λ b st l u. let d = below_other is_new_place b u in rw (same_size is_new_place b d, put_other g.kind q.at c b d, put_other g.identity q.at j b d) (y.sizes b (was is_new_place b d st) l u);
    complete = λ b x r i st u l n e f a.
        let d = below_other is_new_place b n in
        let kind = put_other g.kind q.at c b d in
        rw kind (⊎_elim (λ t. inl (copied_on i t)) (λ t. inr (still_on (heap (b + word_of_value (g.kind b) x)) i t))
        (y.complete b x r i (was is_new_place b d st) (rw (same_writer is_new_place g.writer b d) at u) l n (rw (put_other g.identity q.at j b d) at e) (rw kind at f) a));
    only = λ b st l u. let d = below_other is_new_place b u in rw (put_other g.identity q.at j b d) (y.only b (was is_new_place b d st) l u);
  }

  rooted : Rooted E m.front team.count g.size g.writer g.identity heap team.worker p → Rooted E m.front team.count g'.size g'.writer g'.identity heap (put team.worker k w) p
  rooted r = record {
    roots = λ i root. ⊎_elim (λ x. inl (copied_on i x)) (λ t. inr (leads i t)) (r.roots i root);
    sound = λ a x i s mu n b t. r.sound a x i s
        (sym (proj_put (λ u. is_mutator u.post) team.worker k w a refl) ∙ mu)
        (sym (proj_put (λ u. u.account.end) team.worker k w a refl) ∙ n)
        b (still_was ((team.worker a).registers x) i (rw (proj_put (λ u. u.registers) team.worker k w a refl) at t));
  }
    where
      leads : (i : Identity) → RootLeads E team.count g.identity heap team.worker i → RootLeads E team.count g'.identity heap (put team.worker k w) i
      leads i (ByBoard x l s) = ByBoard x l (still_on (heap (E.board + x)) i s)
      leads i (ByRegister a x l u t d s) = ByRegister a x l u
          (proj_put (λ y. is_late E.epoch y) team.worker k w a refl ∙ t)
          (rw (proj_put (λ y. y.done) team.worker k w a refl) d)
          (rw (proj_put (λ y. y.registers) team.worker k w a refl) (still_on ((team.worker a).registers x) i s))

  -- the new record was not there at the flip: it is one more than its mutator had made
  made : MadeSince E m.low team.mutators g.size g.identity team.worker p → MadeSince E m.low team.mutators g'.size g'.identity (put team.worker k w) p
  made y = record {
    new = λ a st l u. ⊎_elim
        (λ (e : a ≡ q.at). rw (put_at g.identity q.at j a e) (none_past (plain.made_by p.heap k) j.serial (let n = y.grown k (mutator E m team g k q c z v lay inv places) in omega (arith, n))))
        (λ (d : a ≢ q.at). rw (put_other g.identity q.at j a d) (y.new a (was is_new_place a d st) l u))
        (cases_eq a q.at);
    grown = λ a l. let n = y.grown a l in each_put (λ b (u : Known). b ≡ a → plain.serial_of p.heap a ≤ u.account.serial) team.worker k w a
        (λ _ _. n)
        (λ e _. let t : (team.worker a).account.serial ≡ (team.worker k).account.serial = ap (λ b. (team.worker b).account.serial) e in omega (arith, n, t))
        refl;
  }

  pub placing_keeps_cycle : Cycle E (with_word m q.at v) (with_worker team k w) g' p
  placing_keeps_cycle = record {
    copying = copying (copying_free is_free g.writer g.kind m.heap v m.front g.copy g.keeper g.identity p cy.copying);
    rooted = rooted (rooted_free is_free g.writer g.kind m.heap v m.front team.count g.identity team.worker p cy.rooted);
    made = made cy.made;
  }
