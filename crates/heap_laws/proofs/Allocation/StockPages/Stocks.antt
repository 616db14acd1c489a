-- A worker's stock: that it is of the epoch, and what the worker knows where it alone changes.
use Rattle.std.proofs.Common.{◌≡◌, ◌≢◌, ℕ, ◌+◌, ◌-◌, ◌*◌, ◌<◌, ◌≤◌, ◌⊎◌, true, List, Option, Some, length, slice_get, refl, ap, subst, ◌∙◌, arith, ⊎_elim, inl, inr}
use Rattle.std.proofs.lemmas.Bool.{cases_eq, cases_lt}
use Rattle.heap_words.specs.Decoded.{HeaderWord, decode}
use Rattle.plain_state.specs.declared.kind.Kind.{Kind}
use Rattle.plain_state.specs.declared.kind.Kind.TheVariants.{Fields, Raw, Mixed, Weak}
use Rattle.plain_state.specs.Layout.{is_field, is_raw, values_at, words_behind}
use Rattle.plain_state.specs.declared.sizes.TheConstants.{NUMBERS}
use Rattle.heap_words.specs.Word.{number_word}
use Rattle.heap_state.specs.Meaning.Values.{CountShows}
use Rattle.heap_state.specs.Memory.Era.{Era, Memory}
use Rattle.heap_state.specs.Invariant.Ghost.{Ghost, header_kind}
use Rattle.heap_state.specs.Invariant.Inductive.{Knows}
use Rattle.heap_state.specs.Invariant.Parts.Stocks.{Stocked}
use Rattle.space_map.specs.declared.page_word.PageWord.{PageWord}
use Rattle.heap_state.specs.Known.{Known, Team, Stock, Account, IsNotAhead, is_running}
use Rattle.heap_state.proofs.Puts.{some_same}
use Rattle.heap_state.specs.Memory.FieldSpan.{fields_end}
use Rattle.heap_state.proofs.Records.Layouts.{values_behind_header}
use Rattle.heap_laws.specs.Allocation.Stocks.{HasStock, OpensNext}
use Rattle.heap_laws.specs.Allocation.Records.{PlacesNext, stored_ahead}
use Rattle.heap_laws.specs.Cells.Frames.{GoesOnInChain}
use Rattle.heap_laws.specs.Steps.{Ready, with_worker}
use Rattle.heap_laws.proofs.Cells.Kept.{in_chain}

-- what it knows
pub stocked_knows : (E : Era) (m : Memory) (g : Ghost) (k : ℕ) (w : Known) (q : Stock) → q.epoch ≡ w.epoch
    → Knows E m.gate m.traced m.front m.low m.old_front m.old_low m.old_owed g m.page m.cross m.announced m.heap k w
    → Knows E m.gate m.traced m.front m.low m.old_front m.old_low m.old_owed g m.page m.cross m.announced m.heap k (record w { stock = Some q })
stocked_knows E m g k w q now p =
    let a : (s : Stock) → Some q ≡ Some s → s.epoch ≡ w.epoch = λ s e. rw (← some_same e) now in
    assumption

-- its part in the chain of copied cells is the same, whatever its stock and its account
pub stocked_in_chain : (E : Era) (w : Known) (stock : Option Stock) (account : Account) → GoesOnInChain E (record w { stock = stock; account = account }) w
stocked_in_chain E w stock account = in_chain E (record w { stock = stock; account = account }) w refl refl refl (record { linking = refl; pass = refl; asked = λ _ k. k; ground = λ _. (refl, refl); cleared = λ c. c })

-- ---- words stored ahead

-- where nothing is stored ahead, no word of the stock is
pub is_not_ahead : (q : Stock) (x : ℕ) → length q.ahead ≡ 0 → q.at ≤ x → IsNotAhead q x
is_not_ahead q x none l = ⊎_elim (λ e. inl e) (λ (d : x ≢ q.at). inr (omega arith)) (cases_eq x q.at)

-- nothing is while words are still to be made 0, or pages to be opened
pub nothing_ahead : {E : Era} {low : ℕ} {size heap : ℕ → ℕ} {page : ℕ → PageWord} (q : Stock) → Stocked E low size heap page q → (q.zeroed < q.end) ⊎ (q.opened < q.end) → length q.ahead ≡ 0
nothing_ahead q p more = ⊎_elim
    (λ (l : 0 < length q.ahead). absurd (let f = p.fits l in omega (arith, f, more)))
    (λ (n : length q.ahead ≤ 0). let z : length q.ahead ≡ 0 = omega arith in z)
    (cases_lt 0 (length q.ahead))

-- what is stored ahead of a record's header lies before its fields and plain numbers, and in the record
pub ahead_of_values : (c : Kind) (target j : ℕ) → values_at c ≤ j → (is_field c j ≡ true) ⊎ (is_raw c j ≡ true) → length (stored_ahead c target) < j
ahead_of_values Weak target j from value = absurd (⊎_elim (λ e. cc) (λ e. cc) value)
ahead_of_values _ target j from value = from

within : (c : Kind) (target z : ℕ) → values_at c + words_behind c ≤ z → (c ≡ Weak → z ≡ 3) → length (stored_ahead c target) < z
within Weak target z some three = let e = three refl in omega (arith, e)
within _ target z some three = omega (arith, some)

module _ {E : Era} {low : ℕ} {size heap : ℕ → ℕ} {page : ℕ → PageWord} (q : Stock) (p : Stocked E low size heap page q) where
  -- behind what is stored ahead, the words of a run are 0
  pub zero_behind : q.zeroed ≡ q.end → (j : ℕ) → length q.ahead < j → q.at + j < q.end → heap (q.at + j) ≡ 0
  zero_behind blank j past inside = p.zeros (q.at + j) (omega arith) (omega (arith, blank, inside)) (inr (omega (arith, past)))

  -- the count of a mixed record is stored ahead of its header
  pub count_ahead : (c : Kind) (target : ℕ) → q.ahead ≡ stored_ahead c target → CountShows c heap q.at
  count_ahead (Mixed count) target e = ap heap (omega arith) ∙ p.ahead 0 (number_word count) (ap (λ xs. slice_get xs 0) e)
  count_ahead _ target e = tt

  -- a cell's target and its link are
  pub target_ahead : (target : ℕ) → q.ahead ≡ stored_ahead Weak target → heap (q.at + 1) ≡ target
  target_ahead target e = ap heap (omega arith) ∙ p.ahead 0 target (ap (λ xs. slice_get xs 0) e)

  link_ahead : (target : ℕ) → q.ahead ≡ stored_ahead Weak target → heap (q.at + 2) ≡ 0
  link_ahead target e = ap heap (omega arith) ∙ p.ahead 1 0 (ap (λ xs. slice_get xs 1) e)

  -- these words are small, where the record has room for its fields
  pub small_ahead : (c : Kind) (target z j : ℕ) → q.ahead ≡ stored_ahead c target → (c ≡ Weak → target < NUMBERS) → z - 1 ≤ 4095 → fields_end c z ≤ z → 0 < j → j ≤ length q.ahead
      → heap (q.at + j) < NUMBERS
  unfolding number_word
  small_ahead c target z j ahead cell len room some last = by_kind c (subst (λ (xs : List ℕ). j ≤ length xs) ahead last) ahead cell room
    where
      same : (i : ℕ) → j ≡ i → heap (q.at + j) ≡ heap (q.at + i)
      same i e = ap (λ x. heap (q.at + x)) e

      by_kind : (c : Kind) → j ≤ length (stored_ahead c target) → q.ahead ≡ stored_ahead c target → (c ≡ Weak → target < NUMBERS) → fields_end c z ≤ z → heap (q.at + j) < NUMBERS
      by_kind Fields last e cell room = absurd (omega (arith, some, last))
      by_kind Raw last e cell room = absurd (omega (arith, some, last))
      by_kind (Mixed count) last e cell room = let w = same 1 (omega (arith, some, last)) in let t = count_ahead (Mixed count) target e in omega (arith, w, t, len, room)
      by_kind Weak last e cell room = ⊎_elim
          (λ (i : j ≡ 1). let w = same 1 i in let t = target_ahead target e in let n = cell refl in omega (arith, w, t, n))
          (λ (d : j ≢ 1). let w = same 2 (omega (arith, some, last, d)) in let t = link_ahead target e in omega (arith, w, t))
          (cases_eq j 1)

-- ---- stocks of the epoch

-- worker k has this stock, claimed in the epoch
pub record Owns (E : Era) (team : Team) (k : ℕ) (q : Stock) : Type 0 where
  pub worker : k < team.count
  pub has : (team.worker k).stock ≡ Some q
  pub epoch : q.epoch ≡ E.epoch

-- the page is the next one of it to open
pub record Opens (E : Era) (team : Team) (k : ℕ) (q : Stock) (page : ℕ) : Type 0 where
  pub own : Owns E team k q
  pub blank : q.zeroed ≡ q.end
  pub at : 64 * page ≡ q.opened
  pub more : q.opened < q.end

-- it has room for a record of this kind and size, whose header is v and whose target, if it is a cell, is a small word
pub record Places (E : Era) (team : Team) (k : ℕ) (q : Stock) (c : Kind) (z v target : ℕ) : Type 0 where
  pub own : Owns E team k q
  pub runs : is_running (team.worker k).post ≡ true
  pub run : (q.zeroed ≡ q.end) × (q.opened ≡ q.end)
  pub some : 0 < z
  pub fields : fields_end c z ≤ z
  pub fits : q.at + z ≤ q.end
  pub rest : q.end < q.at + z + 64
  pub ahead : q.ahead ≡ stored_ahead c target
  pub behind : length q.ahead < z
  pub cell : c ≡ Weak → target < NUMBERS
  pub header : decode v ≡ HeaderWord (header_kind c) (z - 1) ((team.worker k).account.serial + 1) k

-- the stock of a worker that runs is of the epoch
pub owns : {E : Era} {m : Memory} {team : Team} {g : Ghost} {k : ℕ} (q : Stock) → Ready E m team g k → HasStock team k q → Owns E team k q
owns {k = k} q ready own = let me = ready.invariant.workers k ready.member in record { worker = ready.member; has = own.has; epoch = me.stock q own.has ∙ me.timely.running own.runs }

pub opens_of : {E : Era} {m : Memory} {team : Team} {g : Ghost} {k : ℕ} (q : Stock) (page : ℕ) → Ready E m team g k → OpensNext team k q page → Opens E team k q page
opens_of q page ready opens = record { own = owns q ready opens.own; blank = omega (arith, opens.blank); at = opens.at; more = opens.more }

pub places_of : {E : Era} {m : Memory} {team : Team} {g : Ghost} {k : ℕ} (q : Stock) (c : Kind) (z v target : ℕ) → Ready E m team g k → PlacesNext team k q c z v target
    → (c ≡ Weak → z ≡ 3) → (c ≡ Weak → target < NUMBERS) → Places E team k q c z v target
places_of q c z v target ready places three cell = record {
  own = owns q ready places.own;
  runs = places.own.runs;
  run = places.run;
  some = (let b = values_behind_header c in let s = places.some in omega (arith, b, s));
  fields = places.fields;
  fits = places.fits;
  rest = places.rest;
  ahead = places.ahead;
  behind = rw places.ahead (within c target z places.some three);
  cell = cell;
  header = places.header;
}

-- the team in which worker k has this stock
abbrev pub with_stock : Team → ℕ → Stock → Team
with_stock team k q = with_worker team k (record (team.worker k) { stock = Some q })
