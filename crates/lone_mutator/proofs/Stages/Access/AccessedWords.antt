-- Words of records and of the board are loaded, stored and exchanged by a lone mutator: no exchange is lost.
use Rattle.std.proofs.Common.{◌≡◌, ℕ, ◌+◌, ◌*◌, ◌<◌, ◌≤◌, ◌==◌, Bool, true, false, cond, Some, sym, ap, ◌∙◌, arith}
use Rattle.plain_state.specs.State.{Plain}
use Rattle.atom_store.specs.declared.step.Step.TheVariants.{Load, Store, Exchange}
use Rattle.space_map.specs.Table.{HeapWord, place_of}
use Rattle.heap_state.specs.Configuration.{Configuration, Stands, table}
use Rattle.heap_state.specs.Memory.Entries.{WordIs}
use Rattle.heap_state.specs.Functions.{put}
use Rattle.heap_state.specs.Memory.Table.{word_in}
use Rattle.heap_words.specs.Word.{number_word}
use Rattle.heap_laws.specs.Fields.Effects.{word_held}
use Rattle.record_access.specs.declared.access_stage.AccessStage.TheVariants.{LoadsField, StoresField, LoadsForCas, ExchangesField, LoadsBoard, StoresBoard, LoadsForSwap, SwapsBoard}
use Rattle.record_access.specs.declared.board_access.BoardSwap.{BoardSwap}
use Rattle.record_access.specs.declared.accessed.Accessed.TheVariants.{Brings}
use Rattle.record_access.specs.declared.field_access.FieldAccess.{FieldAccess}
use Rattle.record_access.specs.declared.field_access.FieldExchange.{FieldExchange}
use Rattle.record_access.specs.Access.{Comes, GoesTo, board_at, field_at, role_of}
use Rattle.gc_worker.specs.Workers.Held.{Held}
use Rattle.gc_worker.proofs.Stages.Access.NextAccessStage.{at}
use Rattle.gc_worker.proofs.Stages.Scan.ScannedHeaders.{heap_word}
use Rattle.lone_mutator.specs.Law.{IsAlone, StepsLower}
use Rattle.lone_mutator.proofs.Steps.Owed.{exchanges, loads, stores, wants}
use Rattle.lone_mutator.proofs.Stages.Access.PaidOutcomes.{Owed, brings, goes, stored}

module _ (c : Configuration) (p : Plain) (s : Stands c p) (y : Held) where
  -- ---- fields

  pub loads_field : (f : FieldAccess) (into : ℕ) → IsAlone c (at c p s 0 y (LoadsField f into)) → StepsLower c (at c p s 0 y (LoadsField f into))
  loads_field f into a =
      let inside = a.is.fits.stage.sound.stage.0 in
      let n = a.is.fits.pages in
      let word = word_in c.pages c.words (HeapWord (field_at f)) in
      wants c p s (at c p s 0 y (LoadsField f into)) (Load (place_of c.pages (HeapWord (field_at f)))) (ap (λ n. Some (Load (place_of n (HeapWord (field_at f))))) a.is.fits.pages)
      (loads c p s (at c p s 0 y (LoadsField f into)) (HeapWord (field_at f)) (omega (arith, inside, n)) (brings c p s y (LoadsField f into) a (table c) into (word_held (role_of f.role) word) a.remembers.quiet))

  pub stores_field : (f : FieldAccess) (new : ℕ) → IsAlone c (at c p s 0 y (StoresField f new)) → StepsLower c (at c p s 0 y (StoresField f new))
  stores_field f new a =
      let inside = a.is.fits.stage.sound.stage in
      let n = a.is.fits.pages in
      wants c p s (at c p s 0 y (StoresField f new)) (Store (place_of c.pages (HeapWord (field_at f))) new) (ap (λ n. Some (Store (place_of n (HeapWord (field_at f))) new)) a.is.fits.pages)
      (stores c p s (at c p s 0 y (StoresField f new)) (WordIs (field_at f) new) (omega (arith, inside, n)) tt
      (stored c p s y (StoresField f new) a (record (table c) { heap = put (table c).heap (field_at f) new }) a.remembers.quiet))

  module _ (f : FieldAccess) (e : FieldExchange) where
    module _ (a : IsAlone c (at c p s 0 y (LoadsForCas f e))) where
      abbrev word : ℕ
      word = word_in c.pages c.words (HeapWord (field_at f))

      -- it is what is expected, or not
      by_test : (b : Bool) → Owed c p s y (LoadsForCas f e) a (table c) (cond b (GoesTo (ExchangesField f e word)) (Comes (Brings e.into (number_word 0))))
      by_test true = goes c p s y (LoadsForCas f e) a (ExchangesField f e word) (heap_word c (field_at f)) (omega arith)
      by_test false = brings c p s y (LoadsForCas f e) a (table c) e.into (number_word 0) a.remembers.quiet

      pub loads_for_cas : StepsLower c (at c p s 0 y (LoadsForCas f e))
      loads_for_cas =
          let inside = a.is.fits.stage.sound.stage.0 in
          let n = a.is.fits.pages in
          wants c p s (at c p s 0 y (LoadsForCas f e)) (Load (place_of c.pages (HeapWord (field_at f)))) (ap (λ n. Some (Load (place_of n (HeapWord (field_at f))))) a.is.fits.pages)
          (loads c p s (at c p s 0 y (LoadsForCas f e)) (HeapWord (field_at f)) (omega (arith, inside, n)) (by_test (word_held (role_of f.role) word == e.expected)))

    pub exchanges_field : (old : ℕ) → IsAlone c (at c p s 0 y (ExchangesField f e old)) → StepsLower c (at c p s 0 y (ExchangesField f e old))
    exchanges_field old a =
        let inside = a.is.fits.stage.sound.stage.0 in
        let n = a.is.fits.pages in
        wants c p s (at c p s 0 y (ExchangesField f e old)) (Exchange (place_of c.pages (HeapWord (field_at f))) old e.new) (ap (λ n. Some (Exchange (place_of n (HeapWord (field_at f))) old e.new)) a.is.fits.pages)
        (exchanges c p s (at c p s 0 y (ExchangesField f e old)) (WordIs (field_at f) e.new) old (omega (arith, inside, n)) tt (sym (heap_word c (field_at f)) ∙ a.remembers.stands)
        (brings c p s y (ExchangesField f e old) a (record (table c) { heap = put (table c).heap (field_at f) e.new }) e.into (number_word 1) a.remembers.quiet))

  -- ---- the board

  abbrev addr : ℕ → ℕ
  addr word = board_at y.layout word

  board_in : (word n : ℕ) → word < 16 → n ≡ c.pages → 64 * (2 * n) + word ≤ 128 * c.pages + 63
  board_in word n few same = omega (arith, few, same)

  pub loads_board : (word into : ℕ) → IsAlone c (at c p s 0 y (LoadsBoard word into)) → StepsLower c (at c p s 0 y (LoadsBoard word into))
  loads_board word into a =
      wants c p s (at c p s 0 y (LoadsBoard word into)) (Load (place_of c.pages (HeapWord (addr word)))) (ap (λ n. Some (Load (place_of n (HeapWord (addr word))))) a.is.fits.pages)
      (loads c p s (at c p s 0 y (LoadsBoard word into)) (HeapWord (addr word)) (board_in word y.layout.pages a.is.fits.stage.sound.stage.0 a.is.fits.pages)
      (brings c p s y (LoadsBoard word into) a (table c) into (word_in c.pages c.words (HeapWord (addr word))) a.remembers.quiet))

  pub stores_board : (word new : ℕ) → IsAlone c (at c p s 0 y (StoresBoard word new)) → StepsLower c (at c p s 0 y (StoresBoard word new))
  stores_board word new a =
      wants c p s (at c p s 0 y (StoresBoard word new)) (Store (place_of c.pages (HeapWord (addr word))) new) (ap (λ n. Some (Store (place_of n (HeapWord (addr word))) new)) a.is.fits.pages)
      (stores c p s (at c p s 0 y (StoresBoard word new)) (WordIs (addr word) new) (board_in word y.layout.pages a.is.fits.stage.sound.stage a.is.fits.pages) tt
      (stored c p s y (StoresBoard word new) a (record (table c) { heap = put (table c).heap (addr word) new }) a.remembers.quiet))

  pub loads_for_swap : (b : BoardSwap) → IsAlone c (at c p s 0 y (LoadsForSwap b)) → StepsLower c (at c p s 0 y (LoadsForSwap b))
  loads_for_swap b a =
      wants c p s (at c p s 0 y (LoadsForSwap b)) (Load (place_of c.pages (HeapWord (addr b.word)))) (ap (λ n. Some (Load (place_of n (HeapWord (addr b.word))))) a.is.fits.pages)
      (loads c p s (at c p s 0 y (LoadsForSwap b)) (HeapWord (addr b.word)) (board_in b.word y.layout.pages a.is.fits.stage.sound.stage.0 a.is.fits.pages)
      (goes c p s y (LoadsForSwap b) a (SwapsBoard b (word_in c.pages c.words (HeapWord (addr b.word)))) (heap_word c (addr b.word)) (omega arith)))

  pub swaps_board : (b : BoardSwap) (old : ℕ) → IsAlone c (at c p s 0 y (SwapsBoard b old)) → StepsLower c (at c p s 0 y (SwapsBoard b old))
  swaps_board b old a =
      wants c p s (at c p s 0 y (SwapsBoard b old)) (Exchange (place_of c.pages (HeapWord (addr b.word))) old b.new) (ap (λ n. Some (Exchange (place_of n (HeapWord (addr b.word))) old b.new)) a.is.fits.pages)
      (exchanges c p s (at c p s 0 y (SwapsBoard b old)) (WordIs (addr b.word) b.new) old (board_in b.word y.layout.pages a.is.fits.stage.sound.stage.0 a.is.fits.pages) tt
      (sym (heap_word c (addr b.word)) ∙ a.remembers.stands)
      (brings c p s y (SwapsBoard b old) a (record (table c) { heap = put (table c).heap (addr b.word) b.new }) b.into old a.remembers.quiet))
