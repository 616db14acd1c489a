-- What the claim of pages does to the area, and when it doesn't fit.
use Rattle.std.proofs.Common.{◌≡◌, ◌≢◌, ℕ, ◌+◌, ◌<◌, Bool, true, false, cond, nat_eq, nat_le, List, slice_index, Option, Some, None, arith, refl, sym, ap, subst, ◌∙◌}
use Rattle.std.proofs.lemmas.Bool.Decides.{nat_tests}
use Rattle.atom_store.specs.declared.reply.Reply.TheVariants as reply
use Rattle.atom_store.specs.declared.step.Step.TheVariants.{Exchange}
use Rattle.atom_store.specs.declared.turn.Turn.{Turn}
use Rattle.atom_store.specs.declared.turn.Turn.TheVariants.{Finished}
use Rattle.atom_store.specs.Acts.{MakesStep}
use Rattle.atom_store.proofs.StepWords.{slice_index-words_after, slice_index-won, won_exactly}
use Rattle.space_map.specs.declared.area_word.AreaWord.{AreaWord}
use Rattle.space_map.specs.AreaWord.{decode_area, encode_area, part_end}
use Rattle.space_map.specs.Spaces.{to_space}
use Rattle.space_map.specs.Table.{Traced, Area, place_of}
use Rattle.space_map.specs.TableWords.{row_word, HoldsTable}
use Rattle.space_map.proofs.AreaWords.{decode_area-encode_area}
use Rattle.space_map.proofs.Rows.{place_of-lt}
use Rattle.alloc_end.specs.declared.fitting.Fitting.{Fitting}
use Rattle.alloc_end.specs.declared.shortage.Shortage.{Shortage}
use Rattle.alloc_end.specs.declared.allocated.Allocated.{Allocated}
use Rattle.alloc_end.specs.declared.allocated.Allocated.TheVariants.{Placed, Full}
use Rattle.alloc_end.specs.declared.place_stage.PlaceStage.{PlaceStage}
use Rattle.alloc_end.specs.declared.place_stage.PlaceStage.TheVariants.{LoadsTraced, LoadsSize, LoadsArea, ExchangesArea, StoresHeader, Ended}
use Rattle.alloc_end.specs.Place.{Placing, at_stage, words_for, kept_room, room_in, fits, area_after, shortage, place_machine, told, taken_at, looked_at_area}
use Rattle.alloc_end.specs.Soundness.{IsSoundPlacing}
use Rattle.alloc_end.specs.Theorems.{area_word, LooksAtTraced, LooksAtSize, ShowsShortage, ClaimsPages, LosesPages}
use Rattle.alloc_end.proofs.NextStages.{last_step}

-- ---- TRACED

same_test : (m n : ℕ) → m ≡ n → nat_eq m n ≡ true
same_test m n same = grind (arith, nat_tests)

test_same : (m n : ℕ) → nat_eq m n ≡ true → m ≡ n
test_same m n test = grind (arith, nat_tests)

pub looks_at_traced : (p : Placing) (before after : List ℕ) (turn : Turn Allocated) → MakesStep place_machine (at_stage p LoadsTraced) before after turn
    → LooksAtTraced p before after
looks_at_traced p before after turn acts =
    let loaded : ℕ = row_word p.layout.pages Traced before in
    record { traced = nat_eq loaded (p.epoch + 1); exactly = (test_same loaded (p.epoch + 1), same_test loaded (p.epoch + 1)); goes = refl; stays = acts.makes }

pub looks_at_size : (p : Placing) (traced : Bool) (before after : List ℕ) (turn : Turn Allocated) → MakesStep place_machine (at_stage p (LoadsSize traced)) before after turn
    → LooksAtSize p traced before after
looks_at_size p traced before after turn acts = record { goes = refl; stays = acts.makes }

-- ---- the exchange

apart_test : (m n : ℕ) → m ≢ n → nat_eq m n ≡ false
apart_test m n apart = grind (arith, nat_tests)

kept_room-lt : (traced : Bool) (area : AreaWord) → area.owed < part_end → kept_room traced area < part_end
kept_room-lt true area owed = omega arith
kept_room-lt false area owed = owed

stage_by : (p : Placing) (f : Fitting) (b : Bool) (found : ℕ) → b ≡ true
    → (taken_at (at_stage p (ExchangesArea f)) (ExchangesArea f) (cond b reply.Won (reply.Lost found))).stage ≡ (taken_at (at_stage p (ExchangesArea f)) (ExchangesArea f) reply.Won).stage
stage_by p f true found is = refl
stage_by p f false found is = cc

stage_lost : (p : Placing) (f : Fitting) (b : Bool) (found : ℕ) → b ≡ false
    → (taken_at (at_stage p (ExchangesArea f)) (ExchangesArea f) (cond b reply.Won (reply.Lost found))).stage ≡ LoadsTraced
stage_lost p f true found is = cc
stage_lost p f false found is = refl

words_lost : (b : Bool) (changed words : List ℕ) → b ≡ false → cond b changed words ≡ words
words_lost true changed words is = cc
words_lost false changed words is = refl

pub claims : (p : Placing) (f : Fitting) (before after : List ℕ) (turn : Turn Allocated) → IsSoundPlacing (at_stage p (ExchangesArea f)) → HoldsTable p.layout.pages before
    → MakesStep place_machine (at_stage p (ExchangesArea f)) before after turn → area_word p before ≡ encode_area f.area → ClaimsPages p f before after
claims p f before after turn sound whole acts stood =
    let n : ℕ = p.layout.pages in
    let place : ℕ = place_of n (Area (to_space p.epoch)) in
    let new : ℕ = encode_area (area_after (words_for p.header) f) in
    let room = sound.stage in
    let pages = sound.pages in
    let kept = kept_room-lt f.traced f.area room.owed in
    let won = (won_exactly place (encode_area f.area) new before).1 stood in
    let inside = place_of-lt n (Area (to_space p.epoch)) (omega arith) in
    record {
      is = ap (λ ws. decode_area (slice_index ws place)) acts.makes
          ∙ ap decode_area (slice_index-won place (encode_area f.area) new before (omega (arith, inside, whole)) won)
          ∙ decode_area-encode_area (area_after (words_for p.header) f)
          (record { front_fits = (let k = room.kept in let s = room.in_space in omega arith); low_fits = (let s = room.in_space in omega arith); owed_fits = kept });
      kept = (let k = room.kept in omega arith);
      goes = stage_by p f (nat_eq (area_word p before) (encode_area f.area)) (area_word p before) (same_test (area_word p before) (encode_area f.area) stood);
      others = λ other apart. ap (λ ws. slice_index ws other) acts.makes ∙ slice_index-words_after (Exchange place (encode_area f.area) new) before other apart;
    }

pub loses : (p : Placing) (f : Fitting) (before after : List ℕ) (turn : Turn Allocated) → MakesStep place_machine (at_stage p (ExchangesArea f)) before after turn
    → area_word p before ≢ encode_area f.area → LosesPages p f before after
loses p f before after turn acts other =
    let test = apart_test (area_word p before) (encode_area f.area) other in
    record {
      stays = acts.makes ∙ words_lost (nat_eq (area_word p before) (encode_area f.area)) _ before test;
      goes = stage_lost p f (nat_eq (area_word p before) (encode_area f.area)) (area_word p before) test;
    }

-- ---- heap full

-- the area's word says an area into which the claim doesn't fit
record Short (p : Placing) (traced : Bool) (size : ℕ) (s : Shortage) (o : Option AreaWord) : Type 0 where
  area : AreaWord
  is : o ≡ Some area
  test : fits traced (words_for p.header) area ≡ false
  numbers : s ≡ shortage traced size p.header area

short : (p : Placing) (traced : Bool) (size : ℕ) (s : Shortage) (o : Option AreaWord) → told (at_stage p (looked_at_area p traced size o)) ≡ Finished (Full s)
    → Short p traced size s o
short p traced size s (Some area) tells = by_test (fits traced (words_for p.header) area) refl tells
  where
    by_test : (b : Bool) → fits traced (words_for p.header) area ≡ b
        → told (at_stage p (cond b (ExchangesArea (record { traced = traced; area = area })) (Ended (Full (shortage traced size p.header area))))) ≡ Finished (Full s)
        → Short p traced size s (Some area)
    by_test true test e = cc
    by_test false test e = record { area = area; is = refl; test = test; numbers = cc }
short p traced size s None tells = cc

too_much : (words kept room : ℕ) → nat_le (words + kept) room ≡ false → room < words + kept
too_much words kept room test = grind (arith, nat_tests)

header_never_full : (at : ℕ) (s : Shortage) → Finished (Placed at) ≡ Finished (Full s) → ⊥
header_never_full at s e = cc

shows : (p : Placing) (traced : Bool) (size : ℕ) (area : AreaWord) (before after : List ℕ) → decode_area (area_word p before) ≡ Some area
    → fits traced (words_for p.header) area ≡ false → after ≡ before → ShowsShortage (at_stage p (LoadsArea traced size)) before after (shortage traced size p.header area)
shows p traced size area before after says test stays = record {
  found = refl;
  area = area;
  read = says;
  asked = refl;
  room = refl;
  owed = refl;
  live = refl;
  short = too_much (words_for p.header) (kept_room traced area) (room_in area) test;
  stays = stays;
}

pub fulls : (p : Placing) (stage : PlaceStage) (before after : List ℕ) (s : Shortage)
    → MakesStep place_machine (at_stage p stage) before after (Finished (Full s)) → ShowsShortage (at_stage p stage) before after s
fulls p (LoadsArea traced size) before after s acts =
    let found = short p traced size s (decode_area (area_word p before)) acts.tells in
    subst (ShowsShortage (at_stage p (LoadsArea traced size)) before after) (sym found.numbers) (shows p traced size found.area before after found.is found.test acts.makes)
fulls p StoresHeader before after s acts = absurd (header_never_full p.run.at s acts.tells)
fulls p stage before after s acts = absurd (last_step p stage before after (Full s) acts)

refuses : (words kept room : ℕ) → room < words + kept → nat_le (words + kept) room ≡ false
refuses words kept room less = grind (arith, nat_tests)

pub is_full : (p : Placing) (traced : Bool) (size : ℕ) (area : AreaWord) (words : List ℕ) → decode_area (area_word p words) ≡ Some area
    → room_in area < words_for p.header + kept_room traced area
    → MakesStep place_machine (at_stage p (LoadsArea traced size)) words words (Finished (Full (shortage traced size p.header area)))
is_full p traced size area words says less = record {
  has_step = refl;
  makes = refl;
  tells = rw says (rw (refuses (words_for p.header) (kept_room traced area) (room_in area) less) refl);
}
