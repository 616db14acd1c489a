-- The worked configuration keeps the parts about spaces, the gate and claimed words.
use Rattle.std.proofs.Common.{◌≡◌, ◌≢◌, ℕ, ◌+◌, ◌*◌, ◌/◌, ◌%◌, ◌<◌, ◌≤◌, Some, [], zero, suc, refl, sym, ◌∙◌, arith, ⊎_elim, ◌⊎◌, inl, inr}
use Rattle.std.proofs.lemmas.Bool.{cases_eq, ne_eqb}
use Rattle.plain_state.specs.declared.kind.Kind.TheVariants.{Fields}
use Rattle.heap_words.specs.Decoded.{PointerWord, NumberWord, decode}
use Rattle.space_map.specs.declared.page_word.PageWord.TheVariants.{Open}
use Rattle.heap_state.specs.Functions.{put, sum_below}
use Rattle.heap_state.specs.Invariant.Ghost.{Here, Leads}
use Rattle.heap_state.specs.Invariant.Parts.Crossing.{Crossing}
use Rattle.heap_state.specs.Invariant.Parts.Gate.{Counted, Staffed}
use Rattle.heap_state.specs.Invariant.Parts.Leading.{Opened}
use Rattle.heap_state.specs.Invariant.Parts.OldSpace.{OldSpace}
use Rattle.heap_state.specs.Invariant.Parts.Records.{NewArea, SpaceOf}
use Rattle.heap_state.specs.Invariant.Parts.Stocks.{Stocks, Stocked, Numbered}
use Rattle.heap_state.specs.Known.{Stock, is_mutator}
use Rattle.heap_state.proofs.Puts.{some_same, none≢some}
use Rattle.heap_state.proofs.Worked.Ghost.{worked_table, worked_era, size, writer, identity, each_place, Sizes, sizes}
use Rattle.heap_state.proofs.Worked.WorkedPages.{page, workers, shut_4, page_3}
use Rattle.heap_state.proofs.Worked.WorkedRecords.{heap, blank_word, word_515, elsewhere}
use Rattle.std.specs.Prelude.{nat_lt}

-- ---- where words lead

pub number_leads : (w n : ℕ) → decode w ≡ NumberWord n → ¬ (Leads worked_era w)
unfolding Leads
number_leads w n e l = absurd (let q = sym e ∙ l.1 in cc)

pub pointer_leads : (w a : ℕ) → decode w ≡ PointerWord a → 256 ≤ a → ¬ (Leads worked_era w)
unfolding Leads
pointer_leads w a e m l = let q = sym e ∙ l.1 in let s : a ≡ l.0 = cc in omega (arith, l.3, s, m)

-- no board word leads into the old space
pub board_leads : (x : ℕ) → 512 ≤ x → ¬ (Leads worked_era (heap x))
board_leads x b = ⊎_elim
    (λ (e : x ≡ 515). rw e (pointer_leads (heap 515) 256 word_515 (omega arith)))
    (λ (n : x ≢ 515). number_leads (heap x) 0 (elsewhere x n (omega arith)))
    (cases_eq x 515)

pub opened : Opened worked_era size writer (λ a. Fields) heap page
unfolding Here
opened = record { opened = λ x h o. by_place x h o }
  where
    field : (a : ℕ) → 0 < size a → writer a ≡ 0 → 256 ≤ a → (i : ℕ) → i < size a → (x : ℕ) → x ≡ a + i → x / 64 ≡ 4
    field = each_place (λ a. writer a ≡ 0 → 256 ≤ a → (i : ℕ) → i < size a → (x : ℕ) → x ≡ a + i → x / 64 ≡ 4)
        (λ w s i l x e. absurd (omega (arith, s))) (λ w s i l x e. absurd (omega (arith, s))) (λ w s i l x e. omega arith) (λ w s i l x e. absurd (omega (arith, w)))

    by_place : (x : ℕ) → Here worked_era size writer (λ a. Fields) x → page (x / 64) ≡ Open 1 → ¬ (Leads worked_era (heap x))
    by_place x (inl f) o = absurd (shut_4 (x / 64) 1 (field f.a f.field.stands f.field.written f.inside.0 f.i f.field.last x f.at) o)
    by_place x (inr b) o = board_leads x b.0

-- ---- spaces

pub new_area : NewArea 320 512 1 size heap page
new_area = record {
  opened = λ a x st l e f m. absurd (omega (arith, sizes a st, l));
  prior = λ b st l e n. absurd (omega (arith, sizes b st, l));
  blank = λ x l e w o free. blank_word x (λ q. omega arith) (omega arith);
}

old_word : (x : ℕ) → 197 ≤ x → x < 256 → heap x ≡ 0
unfolding put
old_word x l m = rw (
  ne_eqb x 192 (λ e. omega arith),
  ne_eqb x 193 (λ e. omega arith),
  ne_eqb x 194 (λ e. omega arith),
  ne_eqb x 195 (λ e. omega arith),
  ne_eqb x 196 (λ e. omega arith),
  ne_eqb x 256 (λ e. omega arith),
  ne_eqb x 257 (λ e. omega arith),
  ne_eqb x 258 (λ e. omega arith),
  ne_eqb x 259 (λ e. omega arith),
  ne_eqb x 515 (λ e. omega arith),
) refl

old_area : NewArea 192 256 0 size heap page
old_area = record {
  opened = λ a x st l e f m. let q : x / 64 ≡ 3 = omega (arith, sizes a st) in rw q page_3;
  prior = λ b st l e n. prior b (sizes b st) e n;
  blank = λ x l e w o free. old_word x (omega (arith, free 192 (omega arith), free 195 (omega arith))) e;
}
  where
    prior : (b : ℕ) → Sizes b → b < 256 → b % 64 ≢ 0 → (a : ℕ) × (0 < size a) × (a + size a ≡ b)
    prior b (inl p) e n = absurd (n (rw (p.0) refl))
    prior b (inr (inl p)) e n = (192, omega arith, sym p.0)
    prior b (inr (inr p)) e n = absurd (omega (arith, p))

pub old_space : OldSpace worked_era 1 0 192 size heap page
old_space = record { walks = λ t d e. let z : d ≡ 0 = omega arith in rw z space }
  where
    space : SpaceOf 0 0 192 256 0 size heap page
    space = record {
      lies = λ a st s e. inr (omega (arith, sizes a st, e), omega (arith, sizes a st, e));
      order = record { 0 = omega arith; 1 = omega arith; 2 = omega arith };
      aligned = refl;
      first = inl refl;
      next = λ a s f st. absurd (omega arith);
      new = old_area;
    }

pub crossing : Crossing worked_era 261 size writer worked_table.cross
unfolding put
crossing = record { crossing = λ p a s f st l m w. let q : p ≡ 4 = omega arith in let r : 256 ≡ a = over a (sizes a st) p q l m w in rw q r }
  where
    over : (a : ℕ) → Sizes a → (p : ℕ) → p ≡ 4 → a ≤ 64 * p → 64 * p < a + size a → writer a ≡ 0 → 256 ≡ a
    over a (inl z) p q l m w = absurd (omega (arith, z))
    over a (inr (inl z)) p q l m w = absurd (omega (arith, z))
    over a (inr (inr (inl z))) p q l m w = sym z.0
    over a (inr (inr (inr z))) p q l m w = absurd (omega (arith, z))

-- ---- the gate

pub counted : Counted worked_table.gate 2 workers.worker
unfolding sum_below
counted = record { live = refl; running = refl; behind = refl; left = refl; request = refl; still = λ b. absurd (omega (arith, b)); epoch_fits = omega arith }

pub staffed : Staffed 1 2 workers.worker
staffed = record { few = (omega arith, omega arith, omega arith); posts = by_number }
  where
    by_number : (k : ℕ) → k < 2 → is_mutator (workers.worker k).post ≡ nat_lt k 1
    by_number zero l = refl
    by_number (suc zero) l = refl
    by_number (suc (suc k)) l = absurd (omega arith)

-- ---- claimed words

run_opens : (x : ℕ) → 320 ≤ x → x < 512 → page (x / 64) ≡ Open 1
unfolding put
run_opens x l m = ⊎_elim
    (λ (e : x / 64 ≡ 5). rw e refl)
    (λ (n : x / 64 ≢ 5). ⊎_elim (λ (e : x / 64 ≡ 6). rw e refl) (λ (o : x / 64 ≢ 6). let e : x / 64 ≡ 7 = omega arith in rw e refl) (cases_eq (x / 64) 6))
    (cases_eq (x / 64) 5)

abbrev pub worked_run : Stock
worked_run = record { epoch = 1; at = 320; end = 512; zeroed = 512; opened = 512; ahead = [] }

run : Stocked worked_era 320 size heap page worked_run
run = record {
  lies = (omega arith, omega arith, omega arith);
  so_far = (omega arith, omega arith, omega arith);
  aligned = (refl, refl);
  empty = λ a st. inl (omega (arith, sizes a st));
  zeros = λ x l m n. blank_word x (λ q. omega arith) (omega arith);
  ahead = λ i w e. none≢some e;
  fits = λ l. absurd (omega arith);
  shut = λ p l m. absurd (omega arith);
  opens = run_opens;
  order = inr refl;
  whole = (omega arith, inl refl);
  after = inl refl;
  on_page = inl refl;
}

pub stocks : Stocks worked_era 320 2 size heap page workers.worker
stocks = record { stocked = by_number; apart = by_numbers }
  where
    by_number : (k : ℕ) → k < 2 → (q : Stock) → (workers.worker k).stock ≡ Some q → q.epoch ≡ 1 → Stocked worked_era 320 size heap page q
    by_number zero l q e n = let s : worked_run ≡ q = some_same e in rw (← s) run
    by_number (suc zero) l q e n = none≢some e
    by_number (suc (suc k)) l q e n = absurd (omega arith)

    by_numbers : (j k : ℕ) → j < 2 → k < 2 → j ≢ k → (p q : Stock) → (workers.worker j).stock ≡ Some p → (workers.worker k).stock ≡ Some q → p.epoch ≡ 1 → q.epoch ≡ 1 → (p.end ≤ q.at) ⊎ (q.end ≤ p.at)
    by_numbers zero zero l m d p q e f n o = absurd (d refl)
    by_numbers zero (suc zero) l m d p q e f n o = none≢some f
    by_numbers zero (suc (suc k)) l m d p q e f n o = absurd (omega arith)
    by_numbers (suc zero) k l m d p q e f n o = none≢some e
    by_numbers (suc (suc j)) k l m d p q e f n o = absurd (omega arith)

pub numbered : Numbered 1 size identity workers.worker
numbered = record {
  maker = each_place (λ a. (identity a).mutator < 1) (omega arith) (omega arith) (omega arith) (omega arith);
  last = each_place (λ a. (identity a).serial ≤ (workers.worker (identity a).mutator).account.serial) (omega arith) (omega arith) (omega arith) (omega arith);
}
