-- What a flip's step does to the words, by what it then tells, and that what it has read stands.
use Rattle.std.proofs.Common.{◌≡◌, ◌≢◌, ℕ, ◌+◌, ◌*◌, ◌%◌, ◌<◌, ◌≤◌, Bool, true, false, cond, ◌&&◌, ◌||◌, nat_eq, nat_lt, min, ◌⊎◌, inl, inr, List, slice_index, Option, Some, None, arith, refl, sym, ap, subst, ◌∙◌}
use Rattle.std.proofs.lemmas.Bool.Decides.{nat_tests}
use Rattle.atom_store.specs.declared.reply.Reply.{Reply}
use Rattle.atom_store.specs.declared.reply.Reply.TheVariants as reply
use Rattle.atom_store.specs.declared.step.Step.TheVariants.{Store, Exchange}
use Rattle.atom_store.specs.declared.turn.Turn.{Turn}
use Rattle.atom_store.specs.declared.turn.Turn.TheVariants.{Finished}
use Rattle.atom_store.specs.Acts.{MakesStep}
use Rattle.atom_store.specs.Runs.{after_step}
use Rattle.atom_store.specs.Step.{reply_of, words_after}
use Rattle.atom_store.proofs.Acting.{no_step}
use Rattle.atom_store.proofs.StepWords.{slice_index-words_after, slice_index-stored, slice_index-won}
use Rattle.space_map.specs.declared.area_word.AreaWord.{AreaWord}
use Rattle.space_map.specs.declared.gate_word.GateWord.{GateWord}
use Rattle.space_map.specs.AreaWord.{decode_area, encode_area, part_end}
use Rattle.space_map.specs.GateWord.{GateFits, decode_gate, encode_gate}
use Rattle.space_map.specs.Spaces.{IsPageCount, to_space}
use Rattle.space_map.specs.Table as row
use Rattle.space_map.specs.Table.{Row, IsRow, place_of}
use Rattle.space_map.specs.TableWords.{row_word, HoldsTable}
use Rattle.space_map.proofs.AreaWords.{decode_area-encode_area}
use Rattle.space_map.proofs.GateWords.{decode_gate-encode_gate}
use Rattle.space_map.proofs.Rows.{place_of-apart, place_of-lt}
use Rattle.gate_core.specs.declared.reset.Reset.{Reset}
use Rattle.gate_core.specs.declared.flipped.Flipped.{Flipped}
use Rattle.gate_core.specs.declared.flipped.Flipped.TheVariants.{Went, NotYet}
use Rattle.gate_core.specs.declared.flip_stage.FlipStage.{FlipStage}
use Rattle.gate_core.specs.declared.flip_stage.FlipStage.TheVariants.{LoadsGate, LoadsSize, LoadsArea, StoresSize, StoresArea, ResetsWeak, Exchanges, Ended}
use Rattle.gate_core.specs.Flip.{Flipping, flip_machine, wanted, told_at, next_stage, looked, read_area, is_still, gate_flipped, next_size, area_reset}
use Rattle.gate_core.specs.Soundness.{IsSoundFlipping, FitsReset, MayFlip}
use Rattle.gate_core.specs.Theorems.{CountsUsed, IsSized, IsReset, IsUnlinked, StandsAt, FlipsHeap, ForbidsFlip, size_in}

abbrev at : Flipping → FlipStage → Flipping
at f stage = record f { stage = stage }

-- the words of rows
abbrev gate_of : Flipping → List ℕ → ℕ
gate_of f words = row_word f.layout.pages row.Gate words

abbrev area_of : Flipping → (epoch : ℕ) → List ℕ → ℕ
area_of f epoch words = row_word f.layout.pages (row.Area (to_space epoch)) words

-- ---- rows

space_below : (epoch : ℕ) → to_space epoch < 2
space_below epoch = omega arith

gate_apart : (n space : ℕ) → space < 2 → place_of n row.Gate ≢ place_of n (row.Area space)
gate_apart n space below = place_of-apart n row.Gate (row.Area space) tt below (λ same. cc)

-- the two spaces have areas of their own
areas_apart : (n epoch : ℕ) → place_of n (row.Area (to_space epoch)) ≢ place_of n (row.Area (to_space (epoch + 1)))
areas_apart n epoch =
    place_of-apart n (row.Area (to_space epoch)) (row.Area (to_space (epoch + 1))) (space_below epoch) (space_below (epoch + 1)) (λ same. let e : epoch % 2 ≡ (epoch + 1) % 2 = cc in omega arith)

-- so have their sizes
sizes_apart : (n epoch : ℕ) → place_of n (row.Size (to_space epoch)) ≢ place_of n (row.Size (to_space (epoch + 1)))
sizes_apart n epoch =
    place_of-apart n (row.Size (to_space epoch)) (row.Size (to_space (epoch + 1))) (space_below epoch) (space_below (epoch + 1)) (λ same. let e : epoch % 2 ≡ (epoch + 1) % 2 = cc in omega arith)

size_and_area_apart : (n one other : ℕ) → one < 2 → other < 2 → place_of n (row.Size one) ≢ place_of n (row.Area other)
size_and_area_apart n one other one_below other_below = place_of-apart n (row.Size one) (row.Area other) one_below other_below (λ same. cc)

gate_and_size_apart : (n space : ℕ) → space < 2 → place_of n row.Gate ≢ place_of n (row.Size space)
gate_and_size_apart n space below = place_of-apart n row.Gate (row.Size space) tt below (λ same. cc)

-- the first cell of the chain is told in a word of its own
gate_and_weak_apart : (n : ℕ) → place_of n row.Gate ≢ place_of n row.WeakHead
gate_and_weak_apart n = place_of-apart n row.Gate row.WeakHead tt tt (λ same. cc)

area_and_weak_apart : (n space : ℕ) → space < 2 → place_of n (row.Area space) ≢ place_of n row.WeakHead
area_and_weak_apart n space below = place_of-apart n (row.Area space) row.WeakHead below tt (λ same. cc)

size_and_weak_apart : (n space : ℕ) → space < 2 → place_of n (row.Size space) ≢ place_of n row.WeakHead
size_and_weak_apart n space below = place_of-apart n (row.Size space) row.WeakHead below tt (λ same. cc)

-- ---- gates

still_says : (g : GateWord) → is_still g ≡ true → (g.running ≡ 0) × (g.behind ≡ 0)
still_says g is = (grind (arith, nat_tests), grind (arith, nat_tests))

not_still_says : (g : GateWord) → is_still g ≡ false → (g.running ≢ 0) ⊎ (g.behind ≢ 0)
not_still_says g is = by_running (nat_eq g.running 0) refl is
  where
    by_running : (b : Bool) → nat_eq g.running 0 ≡ b → b && nat_eq g.behind 0 ≡ false → (g.running ≢ 0) ⊎ (g.behind ≢ 0)
    by_running true test e = inr (let other : g.behind ≢ 0 = grind (arith, nat_tests) in other)
    by_running false test e = inl (let other : g.running ≢ 0 = grind (arith, nat_tests) in other)

flipped_fits : (g : GateWord) → MayFlip g → GateFits (gate_flipped g)
flipped_fits g may = record {
  epoch_fits = may.next_fits;
  live_fits = may.fits.live_fits;
  running_fits = may.fits.running_fits;
  behind_fits = may.fits.live_fits;
  left_fits = may.fits.left_fits;
}

-- ---- what is read

gate_stands : (f : Flipping) (words : List ℕ) (loaded : ℕ) (o : Option GateWord) → decode_gate (gate_of f words) ≡ o → StandsAt f (looked loaded o) words
gate_stands f words loaded (Some g) is = by_test (is_still g)
  where
    by_test : (b : Bool) → StandsAt f (cond b (LoadsSize g) (Ended (NotYet loaded))) words
    by_test true = is
    by_test false = tt
gate_stands f words loaded None is = tt

area_stands : (f : Flipping) (words : List ℕ) (g : GateWord) (size : ℕ) (o : Option AreaWord) → StandsAt f (LoadsArea g size) words
    → decode_area (area_of f f.epoch words) ≡ o → StandsAt f (read_area f.layout.pages f.seen g size o) words
area_stands f words g size (Some area) stands is = record { gate = stands.0; size = stands.1; area = area; read = is; used = refl; next = refl }
area_stands f words g size None stands is = stands

-- ---- what is stored

-- the words that the flip has read are those after a store elsewhere
still_counts : (f : Flipping) (reset : Reset) (place stored : ℕ) (before after : List ℕ) → place_of f.layout.pages row.Gate ≢ place
    → place_of f.layout.pages (row.Size (to_space f.epoch)) ≢ place → place_of f.layout.pages (row.Area (to_space f.epoch)) ≢ place
    → CountsUsed f reset before → after ≡ words_after (Store place stored) before → CountsUsed f reset after
still_counts f reset place stored before after gate_elsewhere size_elsewhere area_elsewhere counts makes =
    let n : ℕ = f.layout.pages in
    let same : (other : ℕ) → other ≢ place → slice_index after other ≡ slice_index before other
    = λ other apart. ap (λ ws. slice_index ws other) makes ∙ slice_index-words_after (Store place stored) before other apart in
    record {
      gate = ap decode_gate (same (place_of n row.Gate) gate_elsewhere) ∙ counts.gate;
      size = same (place_of n (row.Size (to_space f.epoch))) size_elsewhere ∙ counts.size;
      area = counts.area;
      read = ap decode_area (same (place_of n (row.Area (to_space f.epoch))) area_elsewhere) ∙ counts.read;
      used = counts.used;
      next = counts.next;
    }

size_stands : (f : Flipping) (reset : Reset) (before after : List ℕ) → HoldsTable f.layout.pages before → CountsUsed f reset before
    → after ≡ words_after (Store (place_of f.layout.pages (row.Size (to_space (f.epoch + 1)))) reset.next) before
    → CountsUsed f reset after × IsSized f reset after
size_stands f reset before after whole counts makes =
    let n : ℕ = f.layout.pages in
    let other : ℕ = to_space (f.epoch + 1) in
    let below : other < 2 = space_below (f.epoch + 1) in
    let there : ℕ = place_of n (row.Size other) in
    let inside = place_of-lt n (row.Size other) below in (
      still_counts f reset there reset.next before after (gate_and_size_apart n other below) (sizes_apart n f.epoch)
          (λ same. size_and_area_apart n other (to_space f.epoch) below (space_below f.epoch) (sym same)) counts makes,
      ap (size_in f (f.epoch + 1)) makes ∙ slice_index-stored there reset.next before (omega (arith, inside, whole)),
    )

-- the next size is no more than the pages that there are
next_fits : (n : ℕ) (seen : Bool) (size copied : ℕ) → size ≤ n → next_size n seen size copied ≤ n
next_fits n seen size copied fits = by_test (seen || nat_lt (64 * size) (2 * copied))
  where
    by_test : (b : Bool) → cond b (min n (2 * size)) size ≤ n
    by_test true = omega arith
    by_test false = fits

reset_stands : (f : Flipping) (reset : Reset) (before after : List ℕ) → IsPageCount f.layout.pages → FitsReset f.layout.pages f.seen reset
    → HoldsTable f.layout.pages before → CountsUsed f reset before → IsSized f reset before
    → after ≡ words_after (Store (place_of f.layout.pages (row.Area (to_space (f.epoch + 1)))) (encode_area (area_reset reset.next reset.used))) before
    → CountsUsed f reset after × IsSized f reset after × IsReset f reset after
reset_stands f reset before after few fits whole counts sized makes =
    let n : ℕ = f.layout.pages in
    let other : ℕ = to_space (f.epoch + 1) in
    let below : other < 2 = space_below (f.epoch + 1) in
    let there : ℕ = place_of n (row.Area other) in
    let stored : ℕ = encode_area (area_reset reset.next reset.used) in
    let inside = place_of-lt n (row.Area other) below in
    let size_same = slice_index-words_after (Store there stored) before (place_of n (row.Size other)) (size_and_area_apart n other other below below) in
    let next_small : reset.next ≤ n = subst (λ (m : ℕ). m ≤ n) (sym fits.next) (next_fits n f.seen reset.size fits.copied fits.size.1) in
    let used_small = fits.used in
    let size_small = fits.size.1 in (
      still_counts f reset there stored before after (gate_apart n other below) (size_and_area_apart n (to_space f.epoch) other (space_below f.epoch) below) (areas_apart n f.epoch) counts makes,
      ap (size_in f (f.epoch + 1)) makes ∙ size_same ∙ sized,
      ap (λ ws. decode_area (area_of f (f.epoch + 1) ws)) makes ∙ ap decode_area (slice_index-stored there stored before (omega (arith, inside, whole)))
          ∙ decode_area-encode_area (area_reset reset.next reset.used) (record {
            front_fits = lit;
            low_fits = omega (arith, next_small, few);
            owed_fits = omega (arith, used_small, size_small, few);
          }),
    )
  where
    lit : 0 < part_end
    lit = omega arith

weak_stands : (f : Flipping) (reset : Reset) (before after : List ℕ) → HoldsTable f.layout.pages before → CountsUsed f reset before → IsSized f reset before → IsReset f reset before
    → after ≡ words_after (Store (place_of f.layout.pages row.WeakHead) 0) before
    → CountsUsed f reset after × IsSized f reset after × IsReset f reset after × IsUnlinked f after
weak_stands f reset before after whole counts sized emptied makes =
    let n : ℕ = f.layout.pages in
    let other : ℕ = to_space (f.epoch + 1) in
    let below : other < 2 = space_below (f.epoch + 1) in
    let own : to_space f.epoch < 2 = space_below f.epoch in
    let there : ℕ = place_of n row.WeakHead in
    let inside = place_of-lt n row.WeakHead tt in (
      still_counts f reset there 0 before after (gate_and_weak_apart n) (size_and_weak_apart n (to_space f.epoch) own) (area_and_weak_apart n (to_space f.epoch) own) counts makes,
      ap (size_in f (f.epoch + 1)) makes ∙ slice_index-words_after (Store there 0) before (place_of n (row.Size other)) (size_and_weak_apart n other below) ∙ sized,
      ap (λ ws. decode_area (area_of f (f.epoch + 1) ws)) makes
          ∙ ap decode_area (slice_index-words_after (Store there 0) before (place_of n (row.Area other)) (area_and_weak_apart n other below)) ∙ emptied,
      ap (row_word n row.WeakHead) makes ∙ slice_index-stored there 0 before (omega (arith, inside, whole)),
    )

ended_stands : (f : Flipping) (reset : Reset) (words : List ℕ) (b : Bool) (found : ℕ) → StandsAt f (next_stage f (Exchanges reset) (cond b reply.Won (reply.Lost found))) words
ended_stands f reset words true found = tt
ended_stands f reset words false found = tt

pub keeps : (f : Flipping) (stage : FlipStage) (before after : List ℕ) (turn : Turn Flipped) → IsSoundFlipping (at f stage) → HoldsTable f.layout.pages before
    → StandsAt f stage before → MakesStep flip_machine (at f stage) before after turn
    → StandsAt f (after_step flip_machine (at f stage) (wanted (at f stage)) before).stage after
keeps f LoadsGate before after turn sound whole stands acts =
    subst (λ ws. StandsAt f (looked (gate_of f before) (decode_gate (gate_of f before))) ws) (sym acts.makes) (gate_stands f before (gate_of f before) (decode_gate (gate_of f before)) refl)
keeps f (LoadsSize g) before after turn sound whole stands acts =
    subst (λ ws. StandsAt f (LoadsArea g (size_in f f.epoch before)) ws) (sym acts.makes) (stands, refl)
keeps f (LoadsArea g size) before after turn sound whole stands acts =
    subst (λ ws. StandsAt f (read_area f.layout.pages f.seen g size (decode_area (area_of f f.epoch before))) ws) (sym acts.makes)
    (area_stands f before g size (decode_area (area_of f f.epoch before)) stands refl)
keeps f (StoresSize reset) before after turn sound whole stands acts = size_stands f reset before after whole stands acts.makes
keeps f (StoresArea reset) before after turn sound whole stands acts = reset_stands f reset before after sound.pages sound.stage whole stands.0 stands.1 acts.makes
keeps f (ResetsWeak reset) before after turn sound whole stands acts = weak_stands f reset before after whole stands.0 stands.1 stands.2 acts.makes
keeps f (Exchanges reset) before after turn sound whole stands acts = ended_stands f reset after _ _
keeps f (Ended result) before after turn sound whole stands acts = absurd (no_step acts.has_step)

-- ---- what is told

never_went_at_gate : (word asked : ℕ) (o : Option GateWord) → told_at (looked word o) ≡ Finished (Went asked) → ⊥
never_went_at_gate word asked (Some g) tells = by_test (is_still g) tells
  where
    by_test : (b : Bool) → told_at (cond b (LoadsSize g) (Ended (NotYet word))) ≡ Finished (Went asked) → ⊥
    by_test true e = cc
    by_test false e = cc
never_went_at_gate word asked None tells = cc

never_ends_at_area : (n : ℕ) (seen : Bool) (g : GateWord) (size : ℕ) (o : Option AreaWord) (result : Flipped)
    → told_at (read_area n seen g size o) ≡ Finished result → ⊥
never_ends_at_area n seen g size (Some area) result tells = cc
never_ends_at_area n seen g size None result tells = cc

exchange_goes : (f : Flipping) (reset : Reset) (r : Reply) (asked : ℕ) → told_at (next_stage f (Exchanges reset) r) ≡ Finished (Went asked)
    → (r ≡ reply.Won) × (asked ≡ f.asked)
exchange_goes f reset reply.Won asked tells = (refl, cc)
exchange_goes f reset _ asked tells = cc

exchange_never_hindered : (f : Flipping) (reset : Reset) (r : Reply) (word : ℕ) → told_at (next_stage f (Exchanges reset) r) ≡ Finished (NotYet word) → ⊥
exchange_never_hindered f reset reply.Won word tells = cc
exchange_never_hindered f reset _ word tells = cc

pub flips : (f : Flipping) (stage : FlipStage) (before after : List ℕ) (asked : ℕ) → IsSoundFlipping (at f stage) → HoldsTable f.layout.pages before
    → StandsAt f stage before → MakesStep flip_machine (at f stage) before after (Finished (Went asked)) → FlipsHeap f before after × (asked ≡ f.asked)
flips f LoadsGate before after asked sound whole stands acts = absurd (never_went_at_gate (gate_of f before) asked (decode_gate (gate_of f before)) acts.tells)
flips f (LoadsSize g) before after asked sound whole stands acts = absurd (never acts.tells)
  where
    never : told_at (LoadsArea g (size_in f f.epoch before)) ≡ Finished (Went asked) → ⊥
    never e = cc
flips f (LoadsArea g size) before after asked sound whole stands acts =
    absurd (never_ends_at_area f.layout.pages f.seen g size (decode_area (area_of f f.epoch before)) (Went asked) acts.tells)
flips f (StoresSize reset) before after asked sound whole stands acts = absurd (never acts.tells)
  where
    never : told_at (StoresArea reset) ≡ Finished (Went asked) → ⊥
    never e = cc
flips f (StoresArea reset) before after asked sound whole stands acts = absurd (never acts.tells)
  where
    never : told_at (ResetsWeak reset) ≡ Finished (Went asked) → ⊥
    never e = cc
flips f (ResetsWeak reset) before after asked sound whole stands acts = absurd (never acts.tells)
  where
    never : told_at (Exchanges reset) ≡ Finished (Went asked) → ⊥
    never e = cc
flips f (Exchanges reset) before after asked sound whole stands acts =
    let n : ℕ = f.layout.pages in
    let place : ℕ = place_of n row.Gate in
    let new : ℕ = encode_gate (gate_flipped reset.gate) in
    let may = sound.stage.gate in
    let goes = exchange_goes f reset (reply_of (Exchange place (encode_gate reset.gate) new) before) asked acts.tells in
    let inside = place_of-lt n row.Gate tt in
    let now = slice_index-won place (encode_gate reset.gate) new before (omega (arith, inside, whole)) goes.0 in
    let others : (other : ℕ) → other ≢ place → slice_index after other ≡ slice_index before other
    = λ other apart. ap (λ ws. slice_index ws other) acts.makes ∙ slice_index-words_after (Exchange place (encode_gate reset.gate) new) before other apart in
    let size_same : (epoch : ℕ) → size_in f epoch after ≡ size_in f epoch before
    = λ epoch. others (place_of n (row.Size (to_space epoch))) (λ same. gate_and_size_apart n (to_space epoch) (space_below epoch) (sym same)) in
    let size_is : size_in f f.epoch after ≡ reset.size = size_same f.epoch ∙ stands.0.size in
    let next_is : size_in f (f.epoch + 1) after ≡ reset.next = size_same (f.epoch + 1) ∙ stands.1 in (
      record {
        gate = reset.gate;
        was = stands.0.gate;
        still = still_says reset.gate may.still;
        is = ap (λ ws. decode_gate (slice_index ws place)) acts.makes ∙ ap decode_gate now ∙ decode_gate-encode_gate (gate_flipped reset.gate) (flipped_fits reset.gate may);
        area = stands.0.area;
        size = next_is ∙ stands.0.next ∙ sym (ap (λ size. next_size n f.seen size stands.0.area.front) size_is);
        in_use = ap decode_area (others (place_of n (row.Area (to_space f.epoch))) (λ same. gate_apart n (to_space f.epoch) (space_below f.epoch) (sym same))) ∙ stands.0.read;
        empty = ap decode_area (others (place_of n (row.Area (to_space (f.epoch + 1)))) (λ same. gate_apart n (to_space (f.epoch + 1)) (space_below (f.epoch + 1)) (sym same)))
            ∙ stands.2 ∙ ap (λ used. Some (area_reset reset.next used)) stands.0.used ∙ sym (rw (next_is, size_is) refl);
        unlinked = others (place_of n row.WeakHead) (λ same. gate_and_weak_apart n (sym same)) ∙ stands.3;
        others = others;
      },
      goes.1,
    )
flips f (Ended result) before after asked sound whole stands acts = absurd (no_step acts.has_step)

-- the gate forbids the flip
record Forbids (loaded word : ℕ) (o : Option GateWord) : Type 0 where
  gate : GateWord
  is : o ≡ Some gate
  test : is_still gate ≡ false
  same : word ≡ loaded

hinders : (loaded word : ℕ) (o : Option GateWord) → told_at (looked loaded o) ≡ Finished (NotYet word) → Forbids loaded word o
hinders loaded word (Some g) tells = by_test (is_still g) refl tells
  where
    by_test : (b : Bool) → is_still g ≡ b → told_at (cond b (LoadsSize g) (Ended (NotYet loaded))) ≡ Finished (NotYet word) → Forbids loaded word (Some g)
    by_test true test e = cc
    by_test false test e = record { gate = g; is = refl; test = test; same = cc }
hinders loaded word None tells = cc

pub hindered : (f : Flipping) (stage : FlipStage) (before after : List ℕ) (word : ℕ)
    → MakesStep flip_machine (at f stage) before after (Finished (NotYet word)) → ForbidsFlip f before after word
hindered f LoadsGate before after word acts =
    let found = hinders (gate_of f before) word (decode_gate (gate_of f before)) acts.tells in
    record {
      gate = found.gate;
      says = ap decode_gate found.same ∙ found.is;
      forbidden = not_still_says found.gate found.test;
      tells = found.same;
      stays = acts.makes;
    }
hindered f (LoadsSize g) before after word acts = absurd (never acts.tells)
  where
    never : told_at (LoadsArea g (size_in f f.epoch before)) ≡ Finished (NotYet word) → ⊥
    never e = cc
hindered f (LoadsArea g size) before after word acts =
    absurd (never_ends_at_area f.layout.pages f.seen g size (decode_area (area_of f f.epoch before)) (NotYet word) acts.tells)
hindered f (StoresSize reset) before after word acts = absurd (never acts.tells)
  where
    never : told_at (StoresArea reset) ≡ Finished (NotYet word) → ⊥
    never e = cc
hindered f (StoresArea reset) before after word acts = absurd (never acts.tells)
  where
    never : told_at (ResetsWeak reset) ≡ Finished (NotYet word) → ⊥
    never e = cc
hindered f (ResetsWeak reset) before after word acts = absurd (never acts.tells)
  where
    never : told_at (Exchanges reset) ≡ Finished (NotYet word) → ⊥
    never e = cc
hindered f (Exchanges reset) before after word acts = absurd (exchange_never_hindered f reset _ word acts.tells)
hindered f (Ended result) before after word acts = absurd (no_step acts.has_step)
