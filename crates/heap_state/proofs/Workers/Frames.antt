-- One worker of a team becomes another: the parts that speak of all workers are kept.
use Rattle.std.proofs.Common.{◌≡◌, ◌≢◌, ℕ, ◌<◌, ◌≤◌, Bool, true, Some, refl, sym, ap, ◌∙◌, Option, ⊎_elim, ◌⊎◌, inl, inr}
use Rattle.std.proofs.lemmas.Bool.{cases_eq}
use Rattle.plain_state.specs.State as plain
use Rattle.plain_state.specs.declared.value.Identity.{Identity}
use Rattle.space_map.specs.declared.gate_word.GateWord.{GateWord}
use Rattle.space_map.specs.declared.page_word.PageWord.{PageWord}
use Rattle.heap_state.specs.Cycles.Cycle.{Rooted, RootLeads, ByBoard, ByRegister}
use Rattle.heap_state.specs.Memory.Era.{Era}
use Rattle.heap_state.specs.Functions.{put, sum_below, count_one}
use Rattle.heap_state.specs.Invariant.Parts.Gate.{Counted, Staffed}
use Rattle.heap_state.specs.Invariant.Parts.Pages.{ScannedBy}
use Rattle.heap_state.specs.Invariant.Parts.Stocks.{Stocks, Stocked, Numbered}
use Rattle.heap_state.specs.Theorems.Workers.{FramesOfWorkers}
use Rattle.heap_state.specs.Meaning.Values.{Accounts, RegistersShow}
use Rattle.heap_state.specs.Known.{Known, Account, Stock, is_mutator, is_live, is_running, is_asking, is_gone, is_late}
use Rattle.heap_state.proofs.Puts.{put_at, put_other, each_put, proj_put, sum_below-same}

module _ (worker : ℕ → Known) (k : ℕ) (w : Known) where
  abbrev after : ℕ → Known
  after = put worker k w

  -- a count over workers that agree on what is counted
  count_put : (count : ℕ) (is : Known → Bool) → is w ≡ is (worker k) → sum_below count (λ j. count_one (is (worker j))) ≡ sum_below count (λ j. count_one (is (after j)))
  count_put count is e = sum_below-same count (λ j. count_one (is (worker j))) (λ j. count_one (is (after j))) (λ j l. ap count_one (sym (proj_put is worker k w j e)))

  pub counted_put : {gate : GateWord} {count : ℕ} → w.post ≡ (worker k).post → w.epoch ≡ (worker k).epoch → Counted gate count worker → Counted gate count after
  counted_put {gate} {count} post epoch c = record {
    live = c.live ∙ count_put count (λ u. is_live u.post) (ap is_live post);
    running = c.running ∙ count_put count (λ u. is_running u.post) (ap is_running post);
    behind = c.behind ∙ count_put count (is_late gate.epoch) (rw (post, epoch) refl);
    left = c.left ∙ count_put count (λ u. is_gone u.post) (ap is_gone post);
    request = c.request ∙ count_put count (λ u. is_asking u.post) (ap is_asking post);
    still = c.still;
    epoch_fits = c.epoch_fits;
  }

  pub staffed_put : {mutators count : ℕ} → is_mutator w.post ≡ is_mutator (worker k).post → Staffed mutators count worker → Staffed mutators count after
  staffed_put mutator s = record { few = s.few; posts = λ j l. proj_put (λ u. is_mutator u.post) worker k w j mutator ∙ s.posts j l }

  pub scanned_put : {E : Era} {count : ℕ} {page : ℕ → PageWord} → w.scan ≡ (worker k).scan → ScannedBy E count page worker → ScannedBy E count page after
  scanned_put same s = record { scanned = λ p j e. let q = s.scanned p j e in (q.0, (q.1.0, proj_put (λ u. u.scan) worker k w j same ∙ q.1.1, q.1.2)) }

  -- the account of each mutator has as many records
  pub numbered_put : {mutators : ℕ} {size : ℕ → ℕ} {identity : ℕ → Identity} → w.account.serial ≡ (worker k).account.serial → Numbered mutators size identity worker → Numbered mutators size identity after
  numbered_put {identity = identity} same n = record { maker = n.maker; last = λ a st. rw (proj_put (λ u. u.account.serial) worker k w (identity a).mutator same) (n.last a st) }

  -- the worker keeps its stock or gives it up
  pub stocks_put : {E : Era} {low count : ℕ} {size heap : ℕ → ℕ} {page : ℕ → PageWord} → ((q : Stock) → w.stock ≡ Some q → (worker k).stock ≡ Some q)
      → Stocks E low count size heap page worker → Stocks E low count size heap page after
  stocks_put less s = record {
    stocked = λ j l q e n. s.stocked j l q (had j q e) n;
    apart = λ i j li lj d p q e f. s.apart i j li lj d p q (had i p e) (had j q f);
  }
    where
      had : (j : ℕ) (q : Stock) → (after j).stock ≡ Some q → (worker j).stock ≡ Some q
      had j q e = each_put (λ i u. u.stock ≡ Some q → (worker i).stock ≡ Some q) worker k w j (λ d f. f) (λ y f. let z : (worker k).stock ≡ Some q = less q f in rw y z) e

  -- the worker's stock is well, and apart from each other one; the others' are what they were
  pub stocks_anew : {E : Era} {low count : ℕ} {size heap : ℕ → ℕ} {page : ℕ → PageWord}
      → ((j : ℕ) → j < count → j ≢ k → (q : Stock) → (worker j).stock ≡ Some q → q.epoch ≡ E.epoch → Stocked E low size heap page q)
      → ((q : Stock) → w.stock ≡ Some q → q.epoch ≡ E.epoch → Stocked E low size heap page q)
      → ((i j : ℕ) → i < count → j < count → i ≢ k → j ≢ k → i ≢ j → (p q : Stock) → (worker i).stock ≡ Some p → (worker j).stock ≡ Some q → p.epoch ≡ E.epoch → q.epoch ≡ E.epoch → (p.end ≤ q.at) ⊎ (q.end ≤ p.at))
      → ((j : ℕ) → j < count → j ≢ k → (p q : Stock) → (worker j).stock ≡ Some p → w.stock ≡ Some q → p.epoch ≡ E.epoch → q.epoch ≡ E.epoch → (p.end ≤ q.at) ⊎ (q.end ≤ p.at))
      → Stocks E low count size heap page after
  stocks_anew {E} {low} {count} {size} {heap} {page} others own apart beside = record {
    stocked = λ j l. each_put (λ i u. i ≡ j → (q : Stock) → u.stock ≡ Some q → q.epoch ≡ E.epoch → Stocked E low size heap page q) worker k w j (λ d _. others j l d) (λ _ _. own) refl;
    apart = λ i j li lj d. ⊎_elim
        (λ (x : i ≡ k).
        let y : j ≢ k = (λ e. d (x ∙ sym e)) in
        rw (put_at worker k w i x, put_other worker k w j y) (λ p q sp sq ep eq. ⊎_elim (λ z. inr z) (λ z. inl z) (beside j lj y q p sq sp eq ep)))
        (λ (x : i ≢ k). ⊎_elim
        (λ (y : j ≡ k). rw (put_other worker k w i x, put_at worker k w j y) (beside i li x))
        (λ (y : j ≢ k). rw (put_other worker k w i x, put_other worker k w j y) (apart i j li lj x y d))
        (cases_eq j k))
        (cases_eq i k);
  }

  -- ---- what is shown, and the roots

  pub accounts_put : {records : plain.Heap} → w.account ≡ (worker k).account → (j : ℕ) (q : plain.Mutator) → Accounts records j (worker j).account q → Accounts records j (after j).account q
  accounts_put same j q p = rw (proj_put (λ u. u.account) worker k w j same) p

  pub registers_put : {denotes : ℕ → Option _} → w.registers ≡ (worker k).registers → (j : ℕ) (q : plain.Mutator) → RegistersShow denotes (worker j).registers q → RegistersShow denotes (after j).registers q
  registers_put same j q p = rw (proj_put (λ u. u.registers) worker k w j same) p

  -- a register that was to be forwarded still is, where the worker has an end if it had one
  pub rooted_put_end : {E : Era} {front count : ℕ} {size writer : ℕ → ℕ} {identity : ℕ → Identity} {heap : ℕ → ℕ} {p : plain.Plain}
      → is_mutator w.post ≡ is_mutator (worker k).post → w.account.end ≡ (worker k).account.end → w.registers ≡ (worker k).registers
      → ((r : ℕ) → r < 8 → is_late E.epoch (worker k) ≡ true → (worker k).done ≤ r → (is_late E.epoch w ≡ true) × (w.done ≤ r))
      → Rooted E front count size writer identity heap worker p → Rooted E front count size writer identity heap after p
  rooted_put_end {E} {front} {count} {size} {writer} {identity} {heap} mutator ends registers left r = record {
    roots = λ i root. ⊎_elim (λ c. inl c) (λ l. inr (leads i l)) (r.roots i root);
    sound = λ j n i l m end small t. r.sound j n i l
        (sym (proj_put (λ u. is_mutator u.post) worker k w j mutator) ∙ m)
        (sym (proj_put (λ u. u.account.end) worker k w j ends) ∙ end) small (rw (proj_put (λ u. u.registers) worker k w j registers) at t);
  }
    where
      leads : (i : Identity) → RootLeads E count identity heap worker i → RootLeads E count identity heap after i
      leads i (ByBoard x l t) = ByBoard x l t
      leads i (ByRegister j n l s late d t) =
          let y = each_put (λ a u. is_late E.epoch (worker a) ≡ true → (worker a).done ≤ n → (is_late E.epoch u ≡ true) × (u.done ≤ n)) worker k w j (λ _ b c. (b, c)) (λ e b c. left n s (rw e at b) (rw e at c)) late d in
          ByRegister j n l s y.0 y.1 (rw (proj_put (λ u. u.registers) worker k w j registers) t)

  -- so it is where its account stays
  pub rooted_put : {E : Era} {front count : ℕ} {size writer : ℕ → ℕ} {identity : ℕ → Identity} {heap : ℕ → ℕ} {p : plain.Plain}
      → is_mutator w.post ≡ is_mutator (worker k).post → w.account ≡ (worker k).account → w.registers ≡ (worker k).registers
      → ((r : ℕ) → r < 8 → is_late E.epoch (worker k) ≡ true → (worker k).done ≤ r → (is_late E.epoch w ≡ true) × (w.done ≤ r))
      → Rooted E front count size writer identity heap worker p → Rooted E front count size writer identity heap after p
  rooted_put mutator account registers left r = rooted_put_end mutator (ap (λ (a : Account). a.end) account) registers left r

pub frames_of_workers : FramesOfWorkers
frames_of_workers worker k w same = record {
  counted = λ _ _. counted_put worker k w same.post same.epoch;
  staffed = λ _ _. staffed_put worker k w (ap is_mutator same.post);
  scanned = λ _ _ _. scanned_put worker k w same.scan;
  stocks = λ _ _ _ _ _ _. stocks_put worker k w (λ q e. sym same.stock ∙ e);
  numbered = λ _ _ _. numbered_put worker k w same.serial;
}
