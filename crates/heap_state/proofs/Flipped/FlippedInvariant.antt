-- The configuration after a flip keeps the parts of the invariant.
use Rattle.std.proofs.Common.{◌≡◌, ◌≢◌, ℕ, ◌+◌, ◌/◌, ◌<◌, ◌≤◌, Some, true, false, zero, suc, refl, sym, ◌∙◌, arith, ⊎_elim, inl, inr}
use Rattle.std.specs.Prelude.{if◌then◌else◌, ◌==◌, nat_lt}
use Rattle.std.proofs.lemmas.Bool.{cases_eq, ne_eqb}
use Rattle.plain_state.specs.declared.kind.Kind.TheVariants.{Raw}
use Rattle.heap_words.specs.Decoded.{PointerWord, NumberWord, HeaderWord, decode}
use Rattle.heap_words.specs.Word.{number_word, pointer_word}
use Rattle.heap_words.proofs.Decoding.{decode-number_word, decode-pointer_word, decode-header_word}
use Rattle.plain_state.specs.declared.value.Identity.{Identity}
use Rattle.space_map.specs.declared.page_word.PageWord.{PageWord}
use Rattle.space_map.specs.declared.page_word.PageWord.TheVariants.{Unset, Open, Scanning}
use Rattle.space_map.specs.PageWord.{age_of}
use Rattle.heap_state.specs.Configuration.{team}
use Rattle.heap_state.specs.Memory.Entries.{table_with}
use Rattle.heap_state.specs.Memory.Era.{Era}
use Rattle.heap_state.specs.Examples.Flipped.{flipped, flipped_entries}
use Rattle.heap_state.specs.Functions.{put, sum_below}
use Rattle.heap_state.specs.Invariant.Ghost.{Ghost, Here, Leads, Lands, header_kind}
use Rattle.heap_state.specs.Invariant.Parts.Copies.{Copied, Once, Keepers, Room}
use Rattle.heap_state.specs.Invariant.Parts.Crossing.{Crossing}
use Rattle.heap_state.specs.Invariant.Parts.Gate.{Counted, Staffed}
use Rattle.heap_state.specs.Invariant.Parts.Leading.{Opened, Landing, Older}
use Rattle.heap_state.specs.Invariant.Parts.OldSpace.{OldSpace, OldArea}
use Rattle.heap_state.specs.Invariant.Parts.Pages.{Shut, Filling, Tracing, Aged, OldPages, ScannedBy}
use Rattle.heap_state.specs.Invariant.Parts.Records.{Laid, Headed, NewArea, NewWritten, SpaceOf, RawWords, Counts}
use Rattle.heap_state.specs.Invariant.Parts.Stocks.{Stocks, Stocked, Numbered}
use Rattle.heap_state.specs.Memory.Table.{Table}
use Rattle.heap_state.specs.Examples.Worked.{made}
use Rattle.heap_state.specs.Known.{Team, Stock, Scan, is_mutator, Known}
use Rattle.heap_state.proofs.Puts.{none≢some}

abbrev pub flipped_table : Table
flipped_table = table_with 4 flipped_entries

abbrev pub flipped_era : Era
flipped_era = record { epoch = 1; start = 256; span = 256; old_start = 0; old_span = 256; board = 512 }

abbrev pub heap : ℕ → ℕ
heap = flipped_table.heap

abbrev pub page : ℕ → PageWord
page = flipped_table.page

abbrev pub workers : Team
workers = team flipped

-- ---- the ghost

abbrev pub size : ℕ → ℕ
size a = if a == 192 then 3 else 0

abbrev pub none : ℕ → ℕ
none a = 0

abbrev pub identity : ℕ → Identity
identity a = made 1

abbrev pub flipped_ghost : Ghost
flipped_ghost = record { size = size; writer = none; copy = none; keeper = none; kind = λ a. Raw; identity = identity; kept = none }

-- one record stands
pub only : (a : ℕ) → 0 < size a → (a ≡ 192) × (size a ≡ 3)
only a st = ⊎_elim (λ (e : a ≡ 192). (e, rw e refl)) (λ (n : a ≢ 192). absurd (let z : 0 < 0 = rw (ne_eqb a 192 n) at st in omega arith)) (cases_eq a 192)

-- ---- words

pub word_192 : decode (heap 192) ≡ HeaderWord (header_kind Raw) 2 1 0
unfolding put
word_192 = decode-header_word (header_kind Raw) 2 1 0 (omega arith) (omega arith)

pub blank_word : (x : ℕ) → 195 ≤ x → heap x ≡ 0
unfolding put
blank_word x l = rw (ne_eqb x 192 (λ e. omega arith), ne_eqb x 193 (λ e. omega arith), ne_eqb x 194 (λ e. omega arith)) refl

pub zero_word : decode 0 ≡ NumberWord 0
unfolding number_word
zero_word = decode-number_word 0 (omega arith)

pub first_register : decode (pointer_word 192) ≡ PointerWord 192
first_register = decode-pointer_word 192 (omega arith)

pub number_lands : (w n : ℕ) → decode w ≡ NumberWord n → Lands size none w
unfolding Lands
number_lands w n e b d = absurd (let q = sym e ∙ d in cc)

pub pointer_lands : (w a : ℕ) → decode w ≡ PointerWord a → 0 < size a → Lands size none w
unfolding Lands
pointer_lands w a e st b d = let q = sym e ∙ d in let s : a ≡ b = cc in rw (← s) (st, refl)

pub number_leads : (w n : ℕ) → decode w ≡ NumberWord n → ¬ (Leads flipped_era w)
unfolding Leads
number_leads w n e l = absurd (let q = sym e ∙ l.1 in cc)

-- what mutators read is the board, and all of its words are 0
here_zero : (x : ℕ) → Here flipped_era size none (λ a. Raw) x → heap x ≡ 0
unfolding Here
here_zero x (inl f) = absurd (omega (arith, only f.a f.field.stands, f.inside))
here_zero x (inr b) = blank_word x (omega (arith, b))

pub opened : Opened flipped_era size none (λ a. Raw) heap page
opened = record { opened = λ x h o. rw (here_zero x h) (number_leads 0 0 zero_word) }

pub landing : Landing flipped_era size none (λ a. Raw) heap
landing = record { lands = λ x h. rw (here_zero x h) (number_lands 0 0 zero_word) }

pub older : Older flipped_era size none (λ a. Raw) heap
older = record { older = λ a i b f l m e. absurd (let q : false ≡ true = f.field in cc); written = λ a st l m. refl }

pub raw_words : RawWords size none (λ a. Raw) heap
unfolding put
raw_words = record {
  raw = λ a i st w f l y.
      let o = only a st in
      ⊎_elim
      (λ (e : a + i ≡ 193). rw e (omega arith))
      (λ (n : a + i ≢ 193). let e : a + i ≡ 194 = omega arith in rw e (omega arith))
      (cases_eq (a + i) 193);
}

pub counts : Counts size none (λ a. Raw) heap
counts = record { counts = λ a count st w e. absurd (cc) }

-- ---- records and copies

pub laid : Laid flipped_era 256 512 size
laid = record {
  apart = λ a b sa sb l. absurd (omega (arith, only a sa, only b sb));
  lies = λ a st. let o = only a st in inr (inr (omega arith, omega (arith, o)));
  order = record { 0 = omega arith; 1 = omega arith; 2 = omega arith };
  aligned = refl;
  start = inl refl;
  next = λ a s f st. absurd (omega arith);
}

pub headed : Headed size none none none (λ a. Raw) identity heap
headed = record {
  own = λ a st w n y. let o = only a st in rw (o.0) word_192;
  kept = λ a k st y. absurd (omega (arith, y));
  gone = λ a b st n y. absurd (omega (arith, n));
}

pub copied : Copied flipped_era 256 size none none none (λ a. Raw) identity none
copied = record {
  target = λ a b st y. absurd (omega (arith, y));
  blank = λ a z. (refl, refl);
  origin = λ b st w. absurd (omega (arith, w));
  keeper_of = λ a k st y. absurd (omega (arith, y));
}

pub once : Once size none identity
once = record { once = λ a b sa sb e. inl (omega (arith, only a sa, only b sb)) }

pub kept_by : Keepers size none 1
kept_by = record { kept = λ a k st y. absurd (omega (arith, y)) }

pub room : Room flipped_era 1 256 512 64 size none
unfolding sum_below
room = record { needs = λ t. omega arith; fits = λ t. omega arith; small = omega arith }

-- ---- pages

-- the pages that have a word, for goals that compute
pub each_page : (P : ℕ → Type 0) → P 3 → P 8 → ((p : ℕ) → page p ≡ Unset → P p) → (p : ℕ) → P p
unfolding put
each_page P a b c p = ⊎_elim (λ (x : p ≡ 3). rw x a) (λ (n : p ≢ 3).
    ⊎_elim (λ (x : p ≡ 8). rw x b) (λ (o : p ≢ 8). c p (rw (ne_eqb p 3 n, ne_eqb p 8 o) refl)) (cases_eq p 8)) (cases_eq p 3)

pub page_3 : page 3 ≡ Open 0
unfolding put
page_3 = refl

-- no page has a word of this epoch
pub before : (p : ℕ) → age_of (page p) ≤ 1
unfolding put
before = each_page (λ p. age_of (page p) ≤ 1) (omega arith) (omega arith) (λ p e. rw e (omega arith))

pub shut : Shut flipped_era 256 512 size none page
shut = record { free = λ p l m. before p; held = λ b x st w l m o. omega (arith, w); by = λ b x k st w l m s. absurd (omega (arith, w)) }

pub filling : Filling flipped_era 1 256 page
filling = record { filling = λ p l m a. absurd (omega arith) }

pub tracing : Tracing flipped_era 1 1 256 page
tracing = record { begun = omega arith; bottom = omega arith; top = omega arith; quiet = λ t. absurd (omega (arith, t)); last = λ t. absurd (omega (arith, t)) }

pub aged : Aged flipped_era page
unfolding put
aged = record { young = λ p. let b = before p in omega (arith, b); board = omega arith }

pub old_words : OldArea flipped_era 0 192
old_words = record { order = (omega arith, omega arith, omega arith) }

pub old_pages : OldPages flipped_era 0 page
old_pages = record { old = λ p l m. absurd (omega arith) }

pub scanned : ScannedBy flipped_era 1 page workers.worker
unfolding put
scanned = record {
  scanned = λ p k e. each_page (λ p. (k : ℕ) → page p ≡ Scanning 1 k → (k < 1) × ((r : Scan) × ((workers.worker k).scan ≡ Some r) × (r.page ≡ p)))
      (λ k e. absurd (cc)) (λ k e. absurd (cc)) (λ p u k e. absurd (let q = sym u ∙ e in cc)) p k e;
}

-- ---- spaces

pub new_area : NewArea 512 512 1 size heap page
new_area = record {
  opened = λ a x st l e f m. absurd (omega arith);
  prior = λ b st l e n. absurd (omega arith);
  blank = λ x l e w o free. absurd (omega arith);
}

pub new_written : NewWritten flipped_era 512 size none
new_written = record { written = λ a st l e. refl }

pub old_area : NewArea 192 256 0 size heap page
old_area = record {
  opened = λ a x st l e f m. let q : x / 64 ≡ 3 = omega (arith, only a st) in rw q page_3;
  prior = λ b st l e n. let o = only b st in absurd (n (rw (o.0) refl));
  blank = λ x l e w o free. blank_word x (omega (arith, free 192 (omega arith)));
}

pub old_space : OldSpace flipped_era 1 0 192 size heap page
old_space = record { walks = λ t d e. let z : d ≡ 0 = omega arith in rw z space }
  where
    space : SpaceOf 0 0 192 256 0 size heap page
    space = record {
      lies = λ a st s e. let o = only a st in inr (omega arith, omega (arith, o));
      order = record { 0 = omega arith; 1 = omega arith; 2 = omega arith };
      aligned = refl;
      first = inl refl;
      next = λ a s f st. absurd (omega arith);
      new = old_area;
    }

pub crossing : Crossing flipped_era 256 size none flipped_table.cross
crossing = record { crossing = λ p a s f st l m w. absurd (omega arith) }

-- ---- the gate, stocks and serials

pub counted : Counted flipped_table.gate 1 workers.worker
unfolding sum_below
counted = record { live = refl; running = refl; behind = refl; left = refl; request = refl; still = λ b. (refl, refl); epoch_fits = omega arith }

-- one worker, which is a mutator
pub staffed_alone : (worker : ℕ → Known) → is_mutator (worker 0).post ≡ true → Staffed 1 1 worker
staffed_alone worker is = record { few = (omega arith, omega arith, omega arith); posts = by_number }
  where
    by_number : (k : ℕ) → k < 1 → is_mutator (worker k).post ≡ nat_lt k 1
    by_number zero l = is
    by_number (suc k) l = absurd (omega arith)

pub staffed : Staffed 1 1 workers.worker
staffed = staffed_alone workers.worker refl

pub stocks : Stocks flipped_era 512 1 size heap page workers.worker
stocks = record { stocked = by_number; apart = λ j k l m n p q e f d o. absurd (omega arith) }
  where
    by_number : (k : ℕ) → k < 1 → (q : Stock) → (workers.worker k).stock ≡ Some q → q.epoch ≡ 1 → Stocked flipped_era 512 size heap page q
    by_number zero l q e n = none≢some e
    by_number (suc k) l q e n = absurd (omega arith)

pub numbered : Numbered 1 size identity workers.worker
numbered = record { maker = λ a st. omega arith; last = λ a st. omega arith }
