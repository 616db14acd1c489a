-- The workers of the worked configuration know what they should.
use Rattle.std.proofs.Common.{◌≡◌, ◌≢◌, ℕ, ◌+◌, ◌/◌, ◌<◌, ◌≤◌, true, false, Some, None, [], refl, sym, arith, ⊎_elim, inl, inr}
use Rattle.std.proofs.lemmas.Bool.{cases_eq, ne_eqb}
use Rattle.plain_state.specs.declared.kind.Kind.TheVariants.{Fields}
use Rattle.heap_words.specs.Decoded.{PointerWord, NumberWord, decode}
use Rattle.heap_words.specs.Word.{number_word, pointer_word, header_word}
use Rattle.heap_words.proofs.Decoding.{decode-number_word, decode-pointer_word, decode-header_word}
use Rattle.heap_state.specs.Functions.{put}
use Rattle.heap_state.specs.Invariant.Ghost.{Here, Leads, header_kind}
use Rattle.heap_state.specs.Invariant.Inductive.{Knows, KnowsAtPages}
use Rattle.heap_state.specs.Invariant.Parts.Copying.{IsOrigin, Seeks, Copies, Keeps}
use Rattle.heap_state.specs.Invariant.Parts.Knowledge.{Clean}
use Rattle.heap_state.specs.Invariant.Parts.Scanning.{Scans, Stepping}
use Rattle.heap_state.specs.Examples.Worked.{worked_mutator, worked_scanner}
use Rattle.heap_state.specs.Known.{Known, Copy, Scan, Quest, Scanned}
use Rattle.heap_state.proofs.Workers.Idle.{at_rest, nothing_at_pages, idle_knows}
use Rattle.heap_state.proofs.Puts.{some_same, none≢some, true_false}
use Rattle.heap_state.proofs.Worked.Ghost.{worked_table, worked_era, worked_ghost, size, writer, copy, keeper, identity, kept, each_place}
use Rattle.heap_state.proofs.Worked.WorkedPages.{page}
use Rattle.heap_state.proofs.Worked.WorkedRecords.{heap, word_257, word_258, word_259, number_lands, pointer_lands}
use Rattle.heap_state.proofs.Worked.Spaces.{number_leads, pointer_leads}

-- what a worker of the configuration knows
abbrev pub KnowsHere : ℕ → Known → Type 0
KnowsHere k w = Knows worked_era worked_table.gate 1 261 320 0 192 0 worked_ghost page worked_table.cross worked_table.announced heap k w

-- ---- mutator 0

pub first_register : decode (pointer_word 256) ≡ PointerWord 256
first_register = decode-pointer_word 256 (omega arith)

pub zero_register : decode 0 ≡ NumberWord 0
unfolding number_word
zero_register = decode-number_word 0 (omega arith)

clean : Clean worked_era size writer false 0 worked_mutator.registers
clean = record {
  clean = λ j l n. ⊎_elim
      (λ (e : j ≡ 0). rw e (pointer_leads (pointer_word 256) 256 first_register (omega arith)))
      (λ (d : j ≢ 0). rw (ne_eqb j 0 d) (number_leads 0 0 zero_register))
      (cases_eq j 0);
  lands = λ j l. ⊎_elim
      (λ (e : j ≡ 0). rw e (pointer_lands (pointer_word 256) 256 first_register (omega arith) refl))
      (λ (d : j ≢ 0). rw (ne_eqb j 0 d) (number_lands 0 0 zero_register))
      (cases_eq j 0);
  old = λ e. true_false refl e;
}

pub mutator_knows : KnowsHere 0 worked_mutator
mutator_knows = idle_knows worked_mutator refl
    (record { past = omega arith; live = λ l. inl refl; running = λ r. refl; asking = λ f. true_false refl f; rest = λ r. refl; below = omega arith })
    (record { stays = λ e. true_false refl e; gone = λ e. true_false refl e })
    (λ e. absurd (cc))
    (λ q e. let s : record { epoch = 1; at = 320; end = 512; zeroed = 512; opened = 512; ahead = [] } ≡ q = some_same e in rw (← s) refl)
    (λ m n. clean)
    (λ e. true_false refl e)
    refl

-- ---- scanner 1

abbrev pub the_copy : Copy
the_copy = record { header = header_word (header_kind Fields) 1 2 0; from = 195; to = 259; size = 2; done = 1; word = None; aimed = true; announced = true; reserved = true; crossed = 0 }

abbrev pub the_scan : Scan
the_scan = record { page = 4; cursor = 258; in_place = true; over = None; headed = None; current = Some (record { at = 256; fields_end = 259; next = 259 }); inner = false; ended = false }

abbrev pub the_quest : Quest
the_quest = record { old = 195; origin = Scanned 258; found = None }

copies : Copies worked_era 261 size writer copy keeper kept worked_table.announced worked_table.cross heap 1 the_copy
unfolding put
copies = record {
  old = (omega arith, refl, refl, refl, omega arith, omega arith);
  loose = λ e. true_false e refl;
  aimed = λ e. (omega arith, omega arith);
  named = λ e. (refl, omega arith, omega arith);
  place = λ e. (refl, refl, refl, refl, omega arith, omega arith);
  same = λ j a b. absurd (omega arith);
  bound = omega arith;
  loaded = λ v e. none≢some e;
  crossings = λ e p a b l. absurd (omega arith);
}

keeps : Keeps (λ a. Fields) identity heap the_copy
keeps = record { head = λ l. word_259; keeps = decode-header_word (header_kind Fields) 1 2 0 (omega arith) (omega arith) }

scans : Scans worked_era 261 size writer (λ a. Fields) heap page 1 the_scan
unfolding put Here
scans = record {
  claimed = refl;
  place = inr (omega arith, omega arith);
  passed = λ x h e l. passed x h e l;
  cursor = inr (omega arith);
  above = λ b x st w l m e. above b st w x l;
}
  where
    field : (a : ℕ) → 0 < size a → writer a ≡ 0 → 256 ≤ a → (i : ℕ) → 0 < i → (x : ℕ) → x ≡ a + i → x < 258 → ¬ (Leads worked_era (heap x))
    field = each_place (λ a. writer a ≡ 0 → 256 ≤ a → (i : ℕ) → 0 < i → (x : ℕ) → x ≡ a + i → x < 258 → ¬ (Leads worked_era (heap x)))
        (λ w s i f x e l. absurd (omega (arith, s))) (λ w s i f x e l. absurd (omega (arith, s)))
        (λ w s i f x e l. let q : x ≡ 257 = omega arith in rw q (number_leads (heap 257) 7 word_257))
        (λ w s i f x e l. absurd (omega (arith, w)))

    passed : (x : ℕ) → Here worked_era size writer (λ a. Fields) x → x / 64 ≡ 4 → x < 258 → ¬ (Leads worked_era (heap x))
    passed x (inl f) e l = field f.a f.field.stands f.field.written f.inside.0 f.i f.field.first x f.at l
    passed x (inr b) e l = absurd (omega (arith, b))

    above : (b : ℕ) → 0 < size b → writer b ≡ 2 → (x : ℕ) → b ≤ x → 258 ≤ x
    above = each_place (λ b. writer b ≡ 2 → (x : ℕ) → b ≤ x → 258 ≤ x)
        (λ w x l. absurd (omega (arith, w))) (λ w x l. absurd (omega (arith, w))) (λ w x l. absurd (omega (arith, w))) (λ w x l. omega arith)

stepping : Stepping worked_era 261 size writer (λ a. Fields) the_scan
stepping = record {
  over = λ a e. none≢some e;
  headed = λ h e. none≢some e;
  current = λ r e. let s : record { at = 256; fields_end = 259; next = 259 } ≡ r = some_same e in
      rw (← s) (record { stands = omega arith; written = refl; fields = refl; whole = refl; inside = (omega arith, omega arith); entered = omega arith; cursor = omega arith });
  begun = omega arith;
  inner = λ e. true_false refl e;
  full = λ e. true_false e refl;
  ended = λ e. true_false refl e;
}

seeks : Seeks worked_era size writer copy the_quest
seeks = record { old = (omega arith, omega arith, omega arith); found = λ b e. none≢some e }

origin : IsOrigin worked_era size writer (λ a. Fields) heap false 0 (λ r. 0) (Some the_scan) 195 (Scanned 258)
unfolding Here
origin = ((the_scan, refl, refl, refl, refl), inl (record { a = 256; i = 2; field = record { stands = omega arith; written = refl; field = refl; first = omega arith; last = omega arith }; inside = (omega arith, omega arith); at = refl }), word_258)

at_pages : KnowsAtPages worked_era 1 261 worked_table.gate.behind size writer page (at_rest worked_scanner)
at_pages = nothing_at_pages worked_scanner

pub scanner_knows : KnowsHere 1 worked_scanner
scanner_knows = record {
  timely = record { past = omega arith; live = λ l. true_false refl l; running = λ r. refl; asking = λ f. refl; rest = λ r. refl; below = omega arith };
  ends = record { stays = λ e. true_false refl e; gone = λ e. true_false refl e };
  outside = λ e. absurd (cc);
  stock = λ q e. none≢some e;
  registers = λ m n. true_false refl m;
  active = λ f e. none≢some e;
  access = λ f e. none≢some e;
  opened = λ p e. none≢some e;
  origin = λ q e. let s : the_quest ≡ q = some_same e in rw (← s) origin;
  quest = λ q e. let s : the_quest ≡ q = some_same e in rw (← s) seeks;
  licensed = record {
    licensed = λ c e. inl (the_scan, refl);
    asked = λ c e. let s : the_copy ≡ c = some_same e in rw (← s) (the_quest, refl, refl, refl);
    counted = λ e. true_false refl e;
    idle = λ e. none≢some (sym e);
  };
  copy = λ c e. let s : the_copy ≡ c = some_same e in rw (← s) copies;
  keeps = λ c e. let s : the_copy ≡ c = some_same e in rw (← s) keeps;
  present = λ s e. refl;
  scan = λ r e. let s : the_scan ≡ r = some_same e in rw (← s) scans;
  stepping = λ r e. let s : the_scan ≡ r = some_same e in rw (← s) stepping;
  pages = assumption (at_pages);
  seen_traced = λ e. true_false refl e;
  size_seen = λ p e. none≢some e;
  asks = λ e. true_false refl e;
  passage = λ s e. none≢some e;
  resets = λ r e. none≢some e;
  reset = λ r e. none≢some e;
  unsized = λ e. true_false refl e;
}
