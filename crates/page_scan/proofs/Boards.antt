-- The scan of the board.
use Rattle.std.proofs.Common.{◌≡◌, ℕ, zero, suc, ◌+◌, ◌*◌, ◌<◌, ◌≤◌, List, length, slice_set, Bool, true, false, refl, sym, ap, ◌∙◌, subst, arith, ⊎_elim, if◌then◌else◌}
use Rattle.std.specs.Prelude.{◌==◌}
use Rattle.std.proofs.lemmas.Bool.{lt-ltb, le-ltb, cases_lt}
use Rattle.std.proofs.lemmas.Bool.Decides.{nat_tests}
use Rattle.atom_store.specs.Runs.{Working, alone}
use Rattle.heap_words.specs.Decoded.{Decoded, PointerWord, decode}
use Rattle.heap_words.specs.Word.{pointer_word}
use Rattle.space_map.specs.Spaces.{Layout, board_page}
use Rattle.space_map.specs.Table.{HeapWord, place_of, table_length}
use Rattle.page_scan.specs.declared.ending.Ending.{Ending}
use Rattle.page_scan.specs.declared.scan_stage.ScanStage.{ScanStage}
use Rattle.page_scan.specs.declared.scan_stage.ScanStage.TheVariants.{LoadsWord, Asks, StoresCopy, Ended}
use Rattle.page_scan.specs.declared.spot.Spot.{Spot}
use Rattle.page_scan.specs.declared.spot.Spot.TheVariants.{OnBoard, InRecord}
use Rattle.page_scan.specs.Answering.{LeadsBack, ReplacesPointers, answered_by, answering, heap_in}
use Rattle.page_scan.specs.Fields.{IsOnBoard}
use Rattle.page_scan.specs.Scanning.{Scanning, address_of, first_stage}
use Rattle.page_scan.specs.Taken.{board_words, by_word, is_old, passes_word}
use Rattle.page_scan.specs.Theorems.{ScansBoards}
use Rattle.page_scan.proofs.Replacing.{Replaced, begun-Replaced, unread, passed, stored, ended-Replaced}

module _ (l : Layout) (epoch : ℕ) (in_place : Bool) (words : List ℕ) (answer : ℕ → ℕ) (whole : table_length l.pages ≤ length words) where
  abbrev board : ℕ
  board = board_page l.pages

  abbrev Looked : ℕ → Type 0
  Looked x = IsOnBoard board x

  abbrev Below : ℕ → List ℕ → Type 0
  Below cursor now = Replaced l epoch answer words Looked cursor now

  abbrev KnowsSpot : Spot → List ℕ → Type 0
  KnowsSpot (OnBoard x) now = Below x now × Looked x
  KnowsSpot (InRecord r x) now = ⊥

  abbrev Knows : ScanStage → List ℕ → Type 0
  Knows (LoadsWord spot) now = KnowsSpot spot now
  Knows (StoresCopy asked to) now =
      KnowsSpot asked.spot now × LeadsBack l epoch Looked words (address_of asked.spot) asked.old × (to ≡ answer asked.old)
  Knows (Ended ending) now = Below ending.cursor now × (64 * board + board_words ≤ ending.cursor)
  Knows _ now = ⊥

  passes-Knows : (x : ℕ) (now : List ℕ) → Below (x + 1) now → Looked x → Knows (answered_by answer (passes_word board in_place (OnBoard x))) now
  passes-Knows x now replaced looked = ⊎_elim
      (λ (on : x + 1 < 64 * board + board_words). rw (lt-ltb (x + 1) (64 * board + board_words) on) (replaced, (let from = looked.0 in omega arith, on)))
      (λ (off : 64 * board + board_words ≤ x + 1). rw (le-ltb (x + 1) (64 * board + board_words) off) (replaced, off))
      (cases_lt (x + 1) (64 * board + board_words))

  -- a word that doesn't lead back is passed
  over_word : (x : ℕ) (now : List ℕ) → Below x now → Looked x
      → ((old : ℕ) → decode (heap_in l words x) ≡ PointerWord old → is_old l epoch old ≡ true → ⊥)
      → Knows (answered_by answer (passes_word board in_place (OnBoard x))) now
  over_word x now replaced looked other =
      passes-Knows x now
      (passed l epoch answer words Looked x (x + 1) now replaced (omega arith)
      (λ y old back from below.
      let here : y ≡ x = omega arith in
      other old (subst (λ z. decode (heap_in l words z) ≡ PointerWord old) here back.leads) back.is_back)) looked

  old-Knows : (x : ℕ) (now : List ℕ) (a : ℕ) (b : Bool) → Below x now → Looked x → decode (heap_in l words x) ≡ PointerWord a → is_old l epoch a ≡ b
      → Knows (answered_by answer (if b then Asks (record { spot = OnBoard x; old = a }) else passes_word board in_place (OnBoard x))) now
  old-Knows x now a true replaced looked leads back = ((replaced, looked), record { looked = looked; leads = leads; is_back = back }, refl)
  old-Knows x now a false replaced looked leads back =
      over_word x now replaced looked (λ old other is. let same : a ≡ old = (let e : PointerWord a ≡ PointerWord old = sym leads ∙ other in cc) in
      let false_true : false ≡ true = sym back ∙ ap (is_old l epoch) same ∙ is in cc)

  word-Knows : (x : ℕ) (now : List ℕ) (d : Decoded) → Below x now → Looked x → decode (heap_in l words x) ≡ d
      → Knows (answered_by answer (by_word l board epoch in_place (OnBoard x) d)) now
  word-Knows x now (PointerWord a) replaced looked is = old-Knows x now a (is_old l epoch a) replaced looked is refl
  word-Knows x now _ replaced looked is = over_word x now replaced looked (λ old leads back. let e = sym is ∙ leads in cc)

  spot-Knows : (spot : Spot) (now : List ℕ) → KnowsSpot spot now
      → Knows (answered_by answer (by_word l board epoch in_place spot (decode (heap_in l now (address_of spot))))) now
  spot-Knows (OnBoard x) now known =
      subst (λ w. Knows (answered_by answer (by_word l board epoch in_place (OnBoard x) (decode w))) now)
      (sym (unread l epoch answer words Looked x now known.0 x (omega arith)))
      (word-Knows x now (decode (heap_in l words x)) known.0 known.1 refl)
  spot-Knows (InRecord r x) now known = absurd known

  in_table : (x : ℕ) → Looked x → place_of l.pages (HeapWord x) < length words
  unfolding place_of
  in_table x looked = let below = looked.1 in omega arith

  stored-Knows : (spot : Spot) (old to : ℕ) (now : List ℕ) → KnowsSpot spot now → LeadsBack l epoch Looked words (address_of spot) old → to ≡ answer old
      → Knows (answered_by answer (passes_word board in_place spot)) (slice_set now (place_of l.pages (HeapWord (address_of spot))) (pointer_word to))
  stored-Knows (OnBoard x) old to now known back is =
      passes-Knows x (slice_set now (place_of l.pages (HeapWord x)) (pointer_word to))
      (subst (λ z. Below (x + 1) (slice_set now (place_of l.pages (HeapWord x)) (pointer_word z))) (sym is)
      (stored l epoch answer words Looked x old now known.0 back (in_table x known.1))) known.1
  stored-Knows (InRecord r x) old to now known back is = absurd known

  abbrev scan_at : ScanStage → List ℕ → Working Scanning
  scan_at x now = record { machine = record { layout = l; page = board; epoch = epoch; in_place = in_place; stage = x }; words = now }

  abbrev Running : ℕ → ScanStage → List ℕ → Type 0
  Running n x now = Knows (alone (answering answer) n (scan_at x now)).machine.stage (alone (answering answer) n (scan_at x now)).words

  runs : (n : ℕ) (x : ScanStage) (now : List ℕ) → Knows x now → Running n x now
  unfolding alone
  runs zero x now known = known
  runs (suc n) (LoadsWord spot) now known = runs n _ now (spot-Knows spot now known)
  runs (suc n) (StoresCopy asked to) now known = runs n _ _ (stored-Knows asked.spot asked.old to now known.0 known.1 known.2)
  runs (suc n) (Ended ending) now known = runs n (Ended ending) now known
  runs (suc n) _ now known = absurd known

  pub scanned : (n : ℕ) (ending : Ending) → (alone (answering answer) n (scan_at (LoadsWord (OnBoard (64 * board))) words)).machine.stage ≡ Ended ending
      → ReplacesPointers l epoch Looked answer words (alone (answering answer) n (scan_at (LoadsWord (OnBoard (64 * board))) words)).words
  scanned n ending ends =
      let now : List ℕ = (alone (answering answer) n (scan_at (LoadsWord (OnBoard (64 * board))) words)).words in
      let known : Knows (Ended ending) now =
      subst (λ x. Knows x now) ends (runs n (LoadsWord (OnBoard (64 * board))) words
      (begun-Replaced l epoch answer words Looked (64 * board) (λ x looked. looked.0), (omega arith, omega arith))) in
      ended-Replaced l epoch answer words Looked ending.cursor now known.0 (λ x looked. let below = looked.1 in let past = known.1 in omega arith)

pub boards : ScansBoards
boards l epoch in_place words answer n ending whole =
    let start : Bool → Working Scanning = λ b. record {
      machine = record {
        layout = l;
        page = board_page l.pages;
        epoch = epoch;
        in_place = in_place;
        stage = first_stage b (board_page l.pages);
      };
      words = words;
    } in
    let on_board : true ≡ (board_page l.pages == board_page l.pages) = grind (arith, nat_tests) in
    subst (λ b. (alone (answering answer) n (start b)).machine.stage ≡ Ended ending
    → ReplacesPointers l epoch (IsOnBoard (board_page l.pages)) answer words (alone (answering answer) n (start b)).words)
    on_board (scanned l epoch in_place words answer whole n ending)
