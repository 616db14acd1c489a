-- The configuration in which a mutator has begun a checkpoint keeps the parts of the invariant. Its words and pages are those before
-- the flip.
use Rattle.std.proofs.Common.{◌≡◌, ◌≢◌, ℕ, ◌+◌, ◌*◌, ◌<◌, ◌≤◌, Some, true, false, zero, suc, refl, sym, ◌∙◌, arith, ⊎_elim, inl, inr}
use Rattle.std.proofs.lemmas.Bool.{cases_eq, ne_eqb}
use Rattle.plain_state.specs.declared.kind.Kind.TheVariants.{Raw}
use Rattle.heap_words.specs.Decoded.{PointerWord, NumberWord, decode}
use Rattle.heap_words.specs.Word.{pointer_word}
use Rattle.space_map.specs.declared.page_word.PageWord.TheVariants.{Open, Scanning}
use Rattle.space_map.specs.PageWord.{age_of}
use Rattle.heap_state.specs.Configuration.{team}
use Rattle.heap_state.specs.Memory.Entries.{table_with}
use Rattle.heap_state.specs.Memory.Era.{Era}
use Rattle.heap_state.specs.Memory.Table.{Table}
use Rattle.heap_state.specs.Examples.Requested.{requested, requested_entries, snapping_mutator}
use Rattle.heap_state.specs.Functions.{put, sum_below}
use Rattle.heap_state.specs.Invariant.Ghost.{Here, Leads}
use Rattle.heap_state.specs.Invariant.Inductive.{Knows, KnowsAtPages}
use Rattle.heap_state.specs.Invariant.Parts.Copies.{Copied, Room}
use Rattle.heap_state.specs.Invariant.Parts.Crossing.{Crossing}
use Rattle.heap_state.specs.Invariant.Parts.Gate.{Counted, Staffed}
use Rattle.heap_state.specs.Invariant.Parts.Knowledge.{Clean}
use Rattle.heap_state.specs.Invariant.Parts.Leading.{Opened, Landing, Older}
use Rattle.heap_state.specs.Invariant.Parts.OldSpace.{OldSpace, OldArea}
use Rattle.heap_state.specs.Invariant.Parts.Pages.{Shut, Filling, Tracing, Aged, OldPages, Sizes, ScannedBy}
use Rattle.heap_state.specs.Invariant.Parts.Records.{Laid, NewWritten}
use Rattle.heap_state.specs.Invariant.Parts.Stocks.{Stocks, Stocked, Numbered}
use Rattle.heap_state.specs.Known.{Known, Team, Stock, Scan}
use Rattle.heap_state.proofs.Puts.{none≢some, some_same, true_false}
use Rattle.heap_state.proofs.Workers.Idle.{at_rest, nothing_at_pages}
use Rattle.heap_state.proofs.Flipped.FlippedInvariant.{flipped_ghost, heap, page, size, none, identity, only, blank_word, zero_word, first_register, number_lands, pointer_lands, each_page, before, staffed_alone}

abbrev pub requested_table : Table
requested_table = table_with 4 requested_entries

abbrev pub requested_era : Era
requested_era = record { epoch = 0; start = 0; span = 256; old_start = 256; old_span = 256; board = 512 }

abbrev pub workers : Team
workers = team requested

-- ---- words

number_leads : (w n : ℕ) → decode w ≡ NumberWord n → ¬ (Leads requested_era w)
unfolding Leads
number_leads w n e l = absurd (let q = sym e ∙ l.1 in cc)

-- what mutators read is the board, and all of its words are 0
here_zero : (x : ℕ) → Here requested_era size none (λ a. Raw) x → heap x ≡ 0
unfolding Here
here_zero x (inl f) = absurd (let q : false ≡ true = f.field.field in cc)
here_zero x (inr b) = blank_word x (omega (arith, b))

pub opened : Opened requested_era size none (λ a. Raw) heap page
opened = record { opened = λ x h o. rw (here_zero x h) (number_leads 0 0 zero_word) }

pub landing : Landing requested_era size none (λ a. Raw) heap
landing = record { lands = λ x h. rw (here_zero x h) (number_lands 0 0 zero_word) }

pub older : Older requested_era size none (λ a. Raw) heap
older = record { older = λ a i b f l m e. absurd (let q : false ≡ true = f.field in cc); written = λ a st l m. refl }

-- ---- records and copies

pub laid : Laid requested_era 0 192 size
laid = record {
  apart = λ a b sa sb l. absurd (omega (arith, only a sa, only b sb));
  lies = λ a st. let o = only a st in inr (inl (omega (arith, o), omega (arith, o)));
  order = record { 0 = omega arith; 1 = omega arith; 2 = omega arith };
  aligned = refl;
  start = inl refl;
  next = λ a s f st. absurd (omega arith);
}

pub copied : Copied requested_era 0 size none none none (λ a. Raw) identity none
copied = record {
  target = λ a b st y. absurd (omega (arith, y));
  blank = λ a z. (refl, refl);
  origin = λ b st w. absurd (omega (arith, w));
  keeper_of = λ a k st y. absurd (omega (arith, y));
}

pub room : Room requested_era 1 0 192 0 size none
room = record { needs = λ t. absurd (omega (arith, t)); fits = λ t. absurd (omega (arith, t)); small = omega arith }

-- ---- pages

-- no page below LOW has a word
low_page : (p : ℕ) → 64 * p + 64 ≤ 192 → age_of (page p) ≤ 0
low_page = each_page (λ p. 64 * p + 64 ≤ 192 → age_of (page p) ≤ 0) (λ l. absurd (omega (arith, l))) (λ l. absurd (omega (arith, l))) (λ p e l. rw e (omega arith))

page_8 : page 8 ≡ Open 0
unfolding put
page_8 = refl

pub shut : Shut requested_era 0 192 size none page
shut = record { free = λ p l m. low_page p m; held = λ b x st w l m o. omega (arith, w); by = λ b x k st w l m s. absurd (omega (arith, w)) }

pub filling : Filling requested_era 0 0 page
filling = record { filling = λ p l m a. absurd (omega (arith, l)) }

pub tracing : Tracing requested_era 1 0 0 page
tracing = record {
  begun = omega arith;
  bottom = omega arith;
  top = omega arith;
  quiet = λ t. record { none = refl; board = page_8; full = λ p s l. absurd (omega (arith, l)) };
  last = λ t p l m. absurd (omega (arith, l));
}

pub aged : Aged requested_era page
aged = record { young = before; board = omega arith }

pub old_words : OldArea requested_era 256 512
old_words = record { order = (omega arith, omega arith, omega arith) }

pub old_pages : OldPages requested_era 256 page
old_pages = record { old = λ p l m. absurd (omega (arith, l, m)) }

pub scanned : ScannedBy requested_era 1 page workers.worker
unfolding put
scanned = record {
  scanned = λ p k e. each_page (λ p. (k : ℕ) → page p ≡ Scanning 0 k → (k < 1) × ((r : Scan) × ((workers.worker k).scan ≡ Some r) × (r.page ≡ p)))
      (λ k e. absurd (cc)) (λ k e. absurd (cc)) (λ p u k e. absurd (let q = sym u ∙ e in cc)) p k e;
}

pub larger : Sizes requested_era true
larger = record { below = λ e. absurd (cc) }

-- ---- spaces

pub new_written : NewWritten requested_era 192 size none
new_written = record { written = λ a st l e. refl }

pub old_space : OldSpace requested_era 1 256 512 size heap page
old_space = record { walks = λ t d e. absurd (omega (arith, t)) }

pub crossing : Crossing requested_era 0 size none requested_table.cross
crossing = record { crossing = λ p a s f st l m w. absurd (omega (arith, f)) }

-- ---- the gate, stocks and serials

pub counted : Counted requested_table.gate 1 workers.worker
unfolding sum_below
counted = record { live = refl; running = refl; behind = refl; left = refl; request = refl; still = λ b. absurd (omega (arith, b)); epoch_fits = omega arith }

pub staffed : Staffed 1 1 workers.worker
staffed = staffed_alone workers.worker refl

pub stocks : Stocks requested_era 192 1 size heap page workers.worker
stocks = record { stocked = by_number; apart = λ j k l m n p q e f d o. absurd (omega arith) }
  where
    by_number : (k : ℕ) → k < 1 → (q : Stock) → (workers.worker k).stock ≡ Some q → q.epoch ≡ 0 → Stocked requested_era 192 size heap page q
    by_number zero l q e n = none≢some e
    by_number (suc k) l q e n = absurd (omega arith)

pub numbered : Numbered 1 size identity workers.worker
numbered = record { maker = λ a st. omega arith; last = λ a st. omega arith }

-- ---- the mutator

abbrev pub KnowsHere : ℕ → Known → Type 0
KnowsHere k w = Knows requested_era requested_table.gate 1 0 192 256 512 0 flipped_ghost page requested_table.cross requested_table.announced heap k w

-- its first register leads to the record, which is in the epoch's space
clean : Clean requested_era size none false 0 snapping_mutator.registers
unfolding Leads
clean = record {
  clean = λ j l n. ⊎_elim (λ (e : j ≡ 0). rw e here) (λ (d : j ≢ 0). rw (ne_eqb j 0 d) (number_leads 0 0 zero_word)) (cases_eq j 0);
  lands = λ j l. ⊎_elim
      (λ (e : j ≡ 0). rw e (pointer_lands (pointer_word 192) 192 first_register (omega arith)))
      (λ (d : j ≢ 0). rw (ne_eqb j 0 d) (number_lands 0 0 zero_word))
      (cases_eq j 0);
  old = λ t. true_false refl t;
}
  where
    here : ¬ (Leads requested_era (pointer_word 192))
    here l = let q : PointerWord 192 ≡ PointerWord l.0 = sym first_register ∙ l.1 in let s : 192 ≡ l.0 = cc in omega (arith, s, l.2)

at_pages : KnowsAtPages requested_era 1 0 requested_table.gate.behind size none page snapping_mutator
at_pages = let idle : KnowsAtPages requested_era 1 0 requested_table.gate.behind size none page (at_rest snapping_mutator) = nothing_at_pages snapping_mutator in assumption

pub mutator_knows : KnowsHere 0 snapping_mutator
mutator_knows = record {
  timely = record { past = omega arith; live = λ l. inl refl; running = λ r. refl; asking = λ a. refl; rest = λ r. refl; below = omega arith };
  ends = record { stays = λ e. true_false refl e; gone = λ e. true_false refl e };
  outside = λ e. absurd (cc);
  stock = λ q e. none≢some e;
  registers = λ m n. clean;
  active = λ f e. none≢some e;
  access = λ f e. none≢some e;
  opened = λ p e. none≢some e;
  origin = λ q e. none≢some e;
  quest = λ q e. none≢some e;
  licensed = record { licensed = λ c e. none≢some e; asked = λ c e. none≢some e; counted = λ e. true_false refl e; idle = λ e. refl };
  copy = λ c e. none≢some e;
  keeps = λ c e. none≢some e;
  present = λ s e. none≢some e;
  scan = λ s e. none≢some e;
  stepping = λ s e. none≢some e;
  pages = at_pages;
  seen_traced = λ e. (inr refl, refl);
  asks = λ e. refl;
  size_seen = λ p e. none≢some e;
  passage = λ s e. rw (← some_same e) refl;
  resets = λ r e. none≢some e;
  reset = λ r e. none≢some e;
  unsized = λ _ _. omega arith;
}
