-- The stages that an allocation comes to. What holds of each that a test may choose holds of the one that it chooses; an allocation ends only
-- where it looks at the area or stores the header; where room was found it stays so; and each reply that takes it on leaves it less to do.
use Rattle.std.proofs.Common.{◌≡◌, ℕ, ◌+◌, ◌-◌, ◌*◌, ◌<◌, ◌≤◌, ◌==◌, Bool, true, false, cond, nat_lt, List, Option, Some, None, is_some, refl, arith}
use Rattle.std.specs.Prelude.{⊤}
use Rattle.std.proofs.lemmas.Bool.Decides.{nat_tests}
use Rattle.atom_store.specs.declared.reply.Reply.{Reply}
use Rattle.atom_store.specs.declared.reply.Reply.TheVariants.{Value, Done, Won}
use Rattle.atom_store.specs.declared.turn.Turn.{Turn}
use Rattle.atom_store.specs.declared.turn.Turn.TheVariants.{More, Finished}
use Rattle.atom_store.specs.Acts.{MakesStep}
use Rattle.atom_store.proofs.Acting.{no_step}
use Rattle.heap_words.specs.declared.kind.Kind.{Kind}
use Rattle.heap_words.specs.declared.kind.Kind.TheVariants.{Fields}
use Rattle.space_map.specs.declared.area_word.AreaWord.{AreaWord}
use Rattle.space_map.specs.AreaWord.{decode_area}
use Rattle.space_map.specs.Spaces.{page_of}
use Rattle.alloc_end.specs.declared.allocated.Allocated.{Allocated}
use Rattle.alloc_end.specs.declared.allocated.Allocated.TheVariants.{Full}
use Rattle.alloc_end.specs.declared.new_pages.NewPages.{NewPages}
use Rattle.alloc_end.specs.declared.place_stage.PlaceStage.{PlaceStage}
use Rattle.alloc_end.specs.declared.place_stage.PlaceStage.TheVariants.{LoadsTraced, LoadsSize, LoadsArea, ExchangesArea, StoresZero, StoresNew, OpensPage, StoresCount, StoresTarget, StoresLink, StoresHeader, Ended}
use Rattle.alloc_end.specs.Place.{Placing, advances_at, after_opening, at_stage, cleared, fits, left, left_at, looked_at_area, pages_for, place_machine, readies, shortage, size_of, stores_first, taken_at, told, told_at, words_for}
use Rattle.alloc_end.specs.Soundness.{FitsPlaceStage, IsPlacingGoing}

-- ---- what a test chooses

-- the next page is opened, or first marked as new
pub readied : (Holds : PlaceStage → Type 0) (snap : ℕ) (new : NewPages) → (snap ≡ 0 → Holds (OpensPage new)) → (0 < snap → Holds (StoresNew new)) → Holds (readies snap new)
readied Holds snap new opens marks = by_test (snap == 0) refl
  where
    by_test : (none : Bool) → (snap == 0) ≡ none → Holds (cond none (OpensPage new) (StoresNew new))
    by_test true test = opens (grind (arith, nat_tests))
    by_test false test = marks (grind (arith, nat_tests))

-- the next word is cleared, or all are
pub cleared_on : (Holds : PlaceStage → Type 0) (words snap : ℕ) (new : NewPages)
    → (new.next + 1 < new.first + words → Holds (StoresZero (record { first = new.first; next = new.next + 1 })))
    → (new.first + words ≤ new.next + 1 → Holds (readies snap (record { first = new.first; next = page_of new.first }))) → Holds (cleared words snap new)
cleared_on Holds words snap new more last = by_test (nat_lt (new.next + 1) (new.first + words)) refl
  where
    by_test : (b : Bool) → nat_lt (new.next + 1) (new.first + words) ≡ b
        → Holds (cond b (StoresZero (record { first = new.first; next = new.next + 1 })) (readies snap (record { first = new.first; next = page_of new.first })))
    by_test true test = more (grind (arith, nat_tests))
    by_test false test = last (grind (arith, nat_tests))

-- the next page is readied, or all are open
pub opened_on : (Holds : Placing → Type 0) (p : Placing) (new : NewPages)
    → (new.next + 1 < page_of new.first + pages_for (size_of p.header) → Holds (at_stage p (readies p.snap (record { first = new.first; next = new.next + 1 }))))
    → (page_of new.first + pages_for (size_of p.header) ≤ new.next + 1
    → Holds (record p { run = record { at = new.first; end = new.first + words_for p.header }; stage = stores_first p.header.kind }))
    → Holds (after_opening p new)
opened_on Holds p new more last = by_test (nat_lt (new.next + 1) (page_of new.first + pages_for (size_of p.header))) refl
  where
    by_test : (b : Bool) → nat_lt (new.next + 1) (page_of new.first + pages_for (size_of p.header)) ≡ b
        → Holds (cond b (at_stage p (readies p.snap (record { first = new.first; next = new.next + 1 })))
        (record p { run = record { at = new.first; end = new.first + words_for p.header }; stage = stores_first p.header.kind }))
    by_test true test = more (grind (arith, nat_tests))
    by_test false test = last (grind (arith, nat_tests))

-- ---- where it ends

-- the step of this stage may be its last
abbrev pub MayEnd : PlaceStage → Type 0
MayEnd (LoadsArea traced size) = ⊤
MayEnd StoresHeader = ⊤
MayEnd stage = ⊥

goes_on : (result : Allocated) → More ≡ Finished result → ⊥
goes_on result e = cc

first_goes_on : (kind : Kind) (result : Allocated) → told_at (stores_first kind) ≡ Finished result → ⊥
first_goes_on Fields result e = cc
first_goes_on _ result e = cc

readied_goes_on : (snap : ℕ) (new : NewPages) (result : Allocated) → told_at (readies snap new) ≡ Finished result → ⊥
readied_goes_on snap new result = readied (λ stage. told_at stage ≡ Finished result → ⊥) snap new (λ none e. cc) (λ some e. cc)

pub may_end : (p : Placing) (stage : PlaceStage) (r : Reply) (result : Allocated) → IsPlacingGoing stage → told (taken_at (at_stage p stage) stage r) ≡ Finished result → MayEnd stage
may_end p (LoadsArea traced size) r result going tells = tt
may_end p StoresHeader r result going tells = tt
may_end p (StoresZero new) Done result going tells =
    cleared_on (λ stage. told_at stage ≡ Finished result → ⊥) (words_for p.header) p.snap new (λ more e. cc) (λ last. readied_goes_on p.snap (record { first = new.first; next = page_of new.first }) result)
    tells
may_end p (OpensPage new) Done result going tells =
    opened_on (λ q. told q ≡ Finished result → ⊥) p new (λ more. readied_goes_on p.snap (record { first = new.first; next = new.next + 1 }) result) (λ last. first_goes_on p.header.kind result) tells
may_end p (ExchangesArea f) Won result going tells = cc
may_end p (Ended other) r result going tells = going
may_end p _ (Value _) result going tells = cc
may_end p _ _ result going tells = cc

pub last_step : (p : Placing) (stage : PlaceStage) (before after : List ℕ) (result : Allocated) → MakesStep place_machine (at_stage p stage) before after (Finished result) → MayEnd stage
last_step p (LoadsArea traced size) before after result acts = tt
last_step p StoresHeader before after result acts = tt
last_step p (ExchangesArea f) before after result acts = may_end p (ExchangesArea f) _ result tt acts.tells
last_step p (StoresZero new) before after result acts = may_end p (StoresZero new) Done result tt acts.tells
last_step p (OpensPage new) before after result acts = may_end p (OpensPage new) Done result tt acts.tells
last_step p (Ended other) before after result acts = absurd (no_step acts.has_step)
last_step p _ before after result acts = absurd (goes_on result acts.tells)

-- ---- where it has found room

-- pages were claimed for the record, or it fits into the run, and it doesn't stand yet
abbrev pub HasFoundRoom : PlaceStage → Type 0
HasFoundRoom LoadsTraced = ⊥
HasFoundRoom (LoadsSize traced) = ⊥
HasFoundRoom (LoadsArea traced size) = ⊥
HasFoundRoom (ExchangesArea f) = ⊥
HasFoundRoom (Ended result) = ⊥
HasFoundRoom stage = ⊤

-- at a stage that it comes to, and it is for the same record
abbrev pub KeepsRoom : Placing → Placing → Type 0
KeepsRoom p next = HasFoundRoom next.stage × (next.header ≡ p.header)

first_has_room : (kind : Kind) → HasFoundRoom (stores_first kind)
first_has_room Fields = tt
first_has_room _ = tt

readied_has_room : (snap : ℕ) (new : NewPages) → HasFoundRoom (readies snap new)
readied_has_room snap new = readied HasFoundRoom snap new (λ none. tt) (λ some. tt)

pub room_stays : (p : Placing) (stage : PlaceStage) (r : Reply) → HasFoundRoom stage → told (taken_at (at_stage p stage) stage r) ≡ More → KeepsRoom p (taken_at (at_stage p stage) stage r)
room_stays p LoadsTraced r found more = absurd found
room_stays p (LoadsSize traced) r found more = absurd found
room_stays p (LoadsArea traced size) r found more = absurd found
room_stays p (ExchangesArea f) r found more = absurd found
room_stays p (Ended result) r found more = absurd found
room_stays p (StoresZero new) Done found more =
    (cleared_on HasFoundRoom (words_for p.header) p.snap new (λ next. tt) (λ last. readied_has_room p.snap (record { first = new.first; next = page_of new.first })), refl)
room_stays p (OpensPage new) Done found more =
    opened_on (KeepsRoom p) p new (λ next. (readied_has_room p.snap (record { first = new.first; next = new.next + 1 }), refl)) (λ last. (first_has_room p.header.kind, refl))
room_stays p StoresHeader Done found more = absurd (cc)
room_stays p _ (Value _) found more = (tt, refl)
room_stays p _ _ found more = (tt, refl)

-- ---- what is left

module _ (p : Placing) where
  abbrev asked : ℕ
  asked = pages_for (size_of p.header)

  by_area : (traced : Bool) (size : ℕ) (o : Option AreaWord) → is_some o ≡ true → left_at asked (looked_at_area p traced size o) < 66 * asked + 5
  by_area traced size (Some area) t = by_fits (fits traced (words_for p.header) area)
    where
      by_fits : (b : Bool) → left_at asked (cond b (ExchangesArea (record { traced = traced; area = area })) (Ended (Full (shortage traced size p.header area)))) < 66 * asked + 5
      by_fits true = omega arith
      by_fits false = omega arith
  by_area traced size None t = absurd (cc)

  by_zero : (new : NewPages) → FitsPlaceStage p.layout.pages asked p.snap p.run p.header (StoresZero new) → left_at asked (cleared (words_for p.header) p.snap new) < 66 * asked + 3 - (new.next - new.first)
  by_zero new fits = grind (arith, nat_tests)

  by_first : (kind : Kind) → left_at asked (stores_first kind) ≤ 3
  by_first Fields = omega arith
  by_first _ = omega arith

  by_page : (new : NewPages) → FitsPlaceStage p.layout.pages asked p.snap p.run p.header (OpensPage new) → left (after_opening p new) < 2 * asked + 2 - 2 * (new.next - page_of new.first)
  by_page new fits = let first = by_first p.header.kind in grind (arith, nat_tests, first)

  pub lowers : (stage : PlaceStage) (r : Reply) → FitsPlaceStage p.layout.pages asked p.snap p.run p.header stage → advances_at stage r ≡ true → left (taken_at p stage r) < left_at asked stage
  lowers LoadsTraced (Value word) fits t = omega arith
  lowers (LoadsSize traced) (Value word) fits t = omega arith
  lowers (LoadsArea traced size) (Value word) fits t = by_area traced size (decode_area word) t
  lowers (ExchangesArea f) Won fits t = omega arith
  lowers (StoresZero new) Done fits t = by_zero new fits
  lowers (StoresNew new) Done fits t = let page = fits.0 in omega (arith, page)
  lowers (OpensPage new) Done fits t = by_page new fits
  lowers StoresCount Done fits t = omega arith
  lowers StoresTarget Done fits t = omega arith
  lowers StoresLink Done fits t = omega arith
  lowers StoresHeader Done fits t = omega arith
  lowers stage r fits t = cc
