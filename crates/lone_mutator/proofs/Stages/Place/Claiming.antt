-- An allocation by a lone mutator looks at the area: it claims pages, makes a round, requests a flip, or finds the heap full.
use Rattle.std.proofs.Common.{◌≡◌, ◌≢◌, ℕ, ◌+◌, ◌-◌, ◌*◌, ◌^◌, ◌<◌, ◌≤◌, inr, ◌==◌, ◌&&◌, ◌||◌, Bool, true, false, cond, Option, Some, nat_lt, refl, sym, ap, subst, ◌∙◌, arith, ⊎_elim}
use Rattle.std.proofs.lemmas.Bool.{eq-eqb, cases_eq, cases_lt}
use Rattle.plain_state.specs.State.{Plain}
use Rattle.record_layout.specs.declared.header.Header.{Header}
use Rattle.atom_store.specs.declared.step.Step.TheVariants.{Load, Exchange}
use Rattle.space_map.specs.declared.area_word.AreaWord.{AreaWord}
use Rattle.space_map.specs.declared.page_word.PageWord.{PageWord}
use Rattle.space_map.specs.AreaWord.{AreaFits, encode_area}
use Rattle.space_map.specs.Spaces.{to_space}
use Rattle.space_map.specs.Table.{Traced, Size, Area, place_of}
use Rattle.alloc_end.specs.declared.allocated.Allocated.TheVariants.{Full}
use Rattle.alloc_end.specs.declared.fitting.Fitting.{Fitting}
use Rattle.alloc_end.specs.declared.place_stage.PlaceStage.{PlaceStage}
use Rattle.alloc_end.specs.declared.place_stage.PlaceStage.TheVariants.{LoadsTraced, LoadsSize, LoadsArea, ExchangesArea, Ended}
use Rattle.alloc_end.specs.declared.run.Run.{Run}
use Rattle.alloc_end.specs.declared.shortage.Shortage.{Shortage}
use Rattle.alloc_end.specs.Place.{Placing, area_after, fits, kept_room, looked_at_area, pages_for, shortage, size_of, told_at, words_for}
use Rattle.heap_state.specs.Configuration.{Configuration, Stands, era, table}
use Rattle.heap_state.specs.Memory.Entries.{AreaIs}
use Rattle.heap_state.specs.Functions.{put}
use Rattle.heap_state.specs.Memory.Table.{Table, word_in}
use Rattle.heap_state.proofs.Puts.{put_at}
use Rattle.heap_state.proofs.Table.Spelled.{spelled}
use Rattle.gate_core.specs.declared.passage.Passage.TheVariants.{Request}
use Rattle.gc_worker.specs.declared.stage.after.After.TheVariants as afters
use Rattle.gc_worker.specs.declared.stage.goal.Goal.TheVariants.{ForFlip}
use Rattle.gc_worker.specs.declared.stage.Stage.TheVariants.{Places}
use Rattle.gc_worker.specs.declared.task.Task.{Task}
use Rattle.gc_worker.specs.Workers.Held.{Held, at_stage, fields_for, target_for}
use Rattle.gc_worker.specs.Steps.Turned.{Silent, asks_flip, checkpoints, end_by_shortage, ended, full_by, is_full, passes, told_end, told_full, told_place, turned_place}
use Rattle.gc_worker.proofs.Words.Areas.{area_says, is_space}
use Rattle.gc_worker.proofs.Stages.Rounds.RoundWords.{traced_now, traced_word}
use Rattle.lone_mutator.specs.Bound.{flip_cost, flips_cost}
use Rattle.lone_mutator.specs.Law.{IsAlone, Lowers, LowersWhereTold, StepsLower, saves}
use Rattle.lone_mutator.specs.Lone.{PlaceStands}
use Rattle.lone_mutator.specs.Potential.{due_in, flips_left, size_in}
use Rattle.lone_mutator.specs.Tracing.{tracing_due}
use Rattle.lone_mutator.proofs.Stages.Gate.LoneGateCounts.{knowing, present}
use Rattle.lone_mutator.proofs.Steps.Owed.{exchanges, loads, wants}
use Rattle.lone_mutator.proofs.Steps.EpochSize.{size_in-within}
use Rattle.lone_mutator.proofs.Epochs.Cost.{due_traced, due_still, due_untraced}
use Rattle.lone_mutator.proofs.Epochs.Growths.{flips_cost-less, growths-below}

-- ---- plain

-- a record needs 64 pages at most
pub few_pages : (header : Header) → pages_for (size_of header) ≤ 64
few_pages header = let short = header.short in omega (arith, short)

-- where less is owed, no more is to be paid
due-le_owed : (n e traced turn owed less : ℕ) (page : ℕ → PageWord) → less ≤ owed → tracing_due n e traced turn less page ≤ tracing_due n e traced turn owed page
due-le_owed n e traced turn owed less page fewer = ⊎_elim
    (λ (is : traced ≡ e + 1). let now = due_traced n e traced turn less page is in omega (arith, now))
    (λ (other : traced ≢ e + 1). let now = due_still n e traced turn less page other in let before = due_still n e traced turn owed page other in omega (arith, now, before, fewer))
    (cases_eq traced (e + 1))

kept-le : (traced : Bool) (area : AreaWord) → kept_room traced area ≤ area.owed
kept-le true area = omega arith
kept-le false area = omega arith

neither : (a b : Bool) → a || b ≡ false → a ≡ false
neither true b e = e
neither false b e = refl

module _ (c : Configuration) (p : Plain) (s : Stands c p) (y : Held) (run : Run) (header : Header) where
  abbrev pub placing : PlaceStage → Placing
  placing stage = record { layout = y.layout; run = run; header = header; fields = fields_for y; epoch = y.epoch; snap = y.snap; target = target_for y; stage = stage }

  abbrev pub at : PlaceStage → Held
  at stage = at_stage y (Places (placing stage))

  abbrev space : ℕ
  space = to_space y.epoch

  -- who allocates is of the gate's epoch
  now : (stage : PlaceStage) → IsAlone c (at stage) → y.epoch ≡ (table c).gate.epoch
  now stage a = present c p s (at stage) a refl

  -- ---- TRACED

  module _ (a : IsAlone c (at LoadsTraced)) where
    stands_by : (b : Bool) → (traced_now c == y.epoch + 1) ≡ b → PlaceStands (table c) (placing (LoadsSize b)) (LoadsSize b)
    stands_by true test = tt
    stands_by false test = λ same. absurd (let is = eq-eqb (traced_now c) (y.epoch + 1) (sym (traced_word c) ∙ same) in let e = sym is ∙ test in cc)

    falls_by : (b : Bool) → (traced_now c == y.epoch + 1) ≡ b → Lowers c.pages (saves c) (table c) (table c) (at LoadsTraced) (at (LoadsSize b))
    falls_by b test = record { remembers = record { began = a.remembers.began; quiet = a.remembers.quiet; stands = stands_by b test }; falls = omega arith }

    pub loads_traced : StepsLower c (at LoadsTraced)
    loads_traced =
        wants c p s (at LoadsTraced) (Load (place_of c.pages Traced)) (ap (λ n. Some (Load (place_of n Traced))) a.is.fits.pages)
        (loads c p s (at LoadsTraced) Traced tt (falls_by (traced_now c == y.epoch + 1) refl))

  -- ---- the size

  module _ (traced : Bool) (a : IsAlone c (at (LoadsSize traced))) where
    read_so : (size : ℕ) (b : Bool) → PlaceStands (table c) (placing (LoadsSize b)) (LoadsSize b) → PlaceStands (table c) (placing (LoadsArea b size)) (LoadsArea b size)
    read_so size true stands = tt
    read_so size false stands = stands

    pub loads_size : StepsLower c (at (LoadsSize traced))
    loads_size =
        wants c p s (at (LoadsSize traced)) (Load (place_of c.pages (Size space))) (ap (λ n. Some (Load (place_of n (Size space)))) a.is.fits.pages)
        (loads c p s (at (LoadsSize traced)) (Size space) (is_space y.epoch)
        (record {
          remembers = record { began = a.remembers.began; quiet = a.remembers.quiet; stands = read_so (word_in c.pages c.words (Size space)) traced a.remembers.stands };
          falls = omega arith;
        }))

  -- ---- the area

  module _ (traced : Bool) (size : ℕ) (a : IsAlone c (at (LoadsArea traced size))) where
    abbrev x : Held
    x = at (LoadsArea traced size)

    abbrev area : AreaWord
    area = (table c).area space

    abbrev f : Fitting
    f = record { traced = traced; area = area }

    abbrev short : Shortage
    short = shortage traced size header area

    -- once its machine is at this stage
    abbrev Comes : PlaceStage → Type 0
    Comes stage = LowersWhereTold c.pages (saves c) (table c) (table c) x (turned_place x (placing stage) (told_at stage)) (told_place x (told_at stage))

    claims : Comes (ExchangesArea f)
    claims =
        let few = few_pages header in
        record { remembers = record { began = a.remembers.began; quiet = a.remembers.quiet; stands = refl }; falls = omega (arith, few) }

    -- it makes a round
    serves : (table c).traced ≢ y.epoch + 1 → Lowers c.pages (saves c) (table c) (table c) x (full_by x short false)
    serves untraced =
        let n = a.is.fits.pages in
        let other : (table c).traced ≢ (table c).gate.epoch + 1 = (λ same. untraced (same ∙ ap (λ (e : ℕ). e + 1) (sym (now (LoadsArea traced size) a)))) in
        let due = due_untraced c.pages (table c).gate.epoch (table c).traced (table c).weak_turn ((table c).area (to_space (table c).gate.epoch)).owed (table c).page other in
        record {
          remembers = record { began = λ past. a.remembers.began tt; quiet = a.remembers.quiet; stands = (record { untraced = inr other; found = λ wanted is. absurd (cc) }, tt) };
          falls = omega (arith, n, due);
        }

    -- the size that it has read is that of the space
    size_is : size ≡ size_in (table c)
    size_is =
        let read = ((knowing c p s x a).size_seen size refl).1 in
        let span : (era c).span ≡ 64 * size_in (table c) = refl in
        omega (arith, read, span)

    -- if a flip can help, there is one that it may still request
    may_ask : (seen : Bool) → nat_lt y.begun y.epoch ≡ seen → (seen && (size == y.layout.pages)) || (y.epoch == 2 ^ 32 - 1) ≡ false → 1 ≤ flips_left c.pages (size_in (table c)) x
    may_ask false unseen can = rw unseen (omega arith)
    may_ask true seen can =
        let n = a.is.fits.pages in
        let is = size_is in
        let within = (size_in-within c p s).1 in
        let other : size == y.layout.pages ≡ false = neither (size == y.layout.pages) (y.epoch == 2 ^ 32 - 1) can in
        ⊎_elim
        (λ (below : size_in (table c) < c.pages). let some = growths-below c.pages (size_in (table c)) below in rw seen (omega (arith, some)))
        (λ (all : c.pages ≤ size_in (table c)). absurd (let same = eq-eqb size y.layout.pages (omega (arith, n, is, within, all)) in let e = sym same ∙ other in cc))
        (cases_lt (size_in (table c)) c.pages)

    -- where checkpoints can be begun, it makes a round for one in progress before that
    by_room : (room : Bool) → flips_cost c.pages (flips_left c.pages (size_in (table c)) x) ≡ flips_cost c.pages (flips_left c.pages (size_in (table c)) x - 1) + flip_cost c.pages
        → Lowers c.pages (saves c) (table c) (table c) x (at_stage x (cond room (checkpoints x ForFlip) (passes x Request afters.Places)))
    by_room true flip =
        let n = a.is.fits.pages in
        record { remembers = record { began = λ past. a.remembers.began tt; quiet = a.remembers.quiet; stands = (tt, tt) }; falls = omega (arith, flip, n) }
    by_room false flip = record { remembers = record { began = λ past. a.remembers.began tt; quiet = a.remembers.quiet; stands = (tt, tt) }; falls = omega (arith, flip) }

    -- it requests a flip, unless none can help
    request_by : (b : Bool) → is_full x short ≡ b → LowersWhereTold c.pages (saves c) (table c) (table c) x (cond b (ended x (end_by_shortage short)) (at_stage x (asks_flip x))) (cond b (told_end x.task (end_by_shortage short)) Silent)
    request_by true full =
        subst (λ (task : Option Task). LowersWhereTold c.pages (saves c) (table c) (table c) x (ended x (end_by_shortage short)) (told_end task (end_by_shortage short))) (sym a.is.fits.task.0.executes.task_is) tt
    request_by false full =
        let flip = flips_cost-less c.pages (flips_left c.pages (size_in (table c)) x) (may_ask (nat_lt y.begun y.epoch) refl full) in
        by_room y.layout.checkpoints flip

    full_so : (b : Bool) → PlaceStands (table c) (placing (LoadsArea b size)) (LoadsArea b size) → LowersWhereTold c.pages (saves c) (table c) (table c) x (full_by x short b) (told_full x short b)
    full_so true stands = request_by (is_full x short) refl
    full_so false stands = serves stands

    area_by : (b : Bool) → Comes (cond b (ExchangesArea f) (Ended (Full short)))
    area_by true = claims
    area_by false = full_so traced a.remembers.stands

    pub loads_area : StepsLower c x
    loads_area =
        wants c p s x (Load (place_of c.pages (Area space))) (ap (λ n. Some (Load (place_of n (Area space)))) a.is.fits.pages)
        (loads c p s x (Area space) (is_space y.epoch)
        (subst (λ (o : Option AreaWord). Comes (looked_at_area (placing (LoadsArea traced size)) traced size o)) (sym (area_says c p s space (is_space y.epoch))) (area_by (fits traced (words_for header) area))))

  -- ---- the claim

  module _ (f : Fitting) (a : IsAlone c (at (ExchangesArea f))) where
    abbrev z : Held
    z = at (ExchangesArea f)

    abbrev lower : AreaWord
    lower = area_after (words_for header) f

    abbrev claimed : Table
    claimed = record (table c) { area = put (table c).area space lower }

    area_fits : AreaFits f.area
    area_fits = subst AreaFits a.remembers.stands ((spelled c.pages c.words s.formed).areas_fit space (is_space y.epoch))

    lower_fits : AreaFits lower
    lower_fits =
        let kept = kept-le f.traced f.area in
        let low = area_fits.low_fits in
        let owed = area_fits.owed_fits in
        record { front_fits = area_fits.front_fits; low_fits = omega (arith, low); owed_fits = omega (arith, kept, owed) }

    due_after : due_in c.pages claimed ≤ due_in c.pages (table c)
    due_after =
        let own : to_space (table c).gate.epoch ≡ space = ap to_space (sym (now (ExchangesArea f) a)) in
        let owed : ((put (table c).area space lower) (to_space (table c).gate.epoch)).owed ≡ kept_room f.traced f.area = ap (λ (w : AreaWord). w.owed) (put_at (table c).area space lower (to_space (table c).gate.epoch) own) in
        let before : ((table c).area (to_space (table c).gate.epoch)).owed ≡ f.area.owed = ap (λ (w : AreaWord). w.owed) (ap (table c).area own ∙ a.remembers.stands) in
        let kept = kept-le f.traced f.area in
        due-le_owed c.pages (table c).gate.epoch (table c).traced (table c).weak_turn ((table c).area (to_space (table c).gate.epoch)).owed ((put (table c).area space lower) (to_space (table c).gate.epoch)).owed (table c).page (omega (arith, owed, before, kept))

    pub exchanges_area : StepsLower c z
    exchanges_area =
        let due = due_after in
        wants c p s z (Exchange (place_of c.pages (Area space)) (encode_area f.area) (encode_area lower)) (ap (λ n. Some (Exchange (place_of n (Area space)) (encode_area f.area) (encode_area lower))) a.is.fits.pages)
        (exchanges c p s z (AreaIs space lower) (encode_area f.area) (is_space y.epoch, lower_fits) tt ((spelled c.pages c.words s.formed).areas space ∙ ap encode_area a.remembers.stands)
        (record { remembers = record { began = a.remembers.began; quiet = a.remembers.quiet; stands = tt }; falls = omega (arith, due) }))
