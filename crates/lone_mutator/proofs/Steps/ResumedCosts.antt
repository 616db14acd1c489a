-- Where a mutator goes on that stopped or made a round: it has no more to pay than what it went back to was said to cost. And how it goes
-- on to a write, by a look at the page or without.
use Rattle.std.proofs.Common.{◌≡◌, ℕ, ◌+◌, ◌≤◌, ◌==◌, inl, Bool, true, false, cond, Option, Some, None, nat_le, refl, sym, subst, arith}
use Rattle.heap_words.specs.declared.kind.Kind.{Kind}
use Rattle.heap_words.specs.declared.kind.Kind.TheVariants.{Fields, Raw, Mixed, Weak}
use Rattle.record_layout.specs.declared.header.Header.{Header}
use Rattle.space_map.specs.Spaces.{Layout}
use Rattle.page_saves.specs.Guard as guard
use Rattle.alloc_end.specs.declared.place_stage.PlaceStage.TheVariants.{LoadsTraced, StoresCount, StoresTarget, StoresHeader}
use Rattle.alloc_end.specs.declared.place_stage.PlaceStage.{PlaceStage}
use Rattle.alloc_end.specs.Place as place
use Rattle.heap_state.specs.Memory.Table.{Table}
use Rattle.heap_state.specs.Saving.Words.{Saves}
use Rattle.record_access.specs.declared.access_stage.AccessStage.{AccessStage}
use Rattle.record_access.specs.declared.access_stage.AccessStage.TheVariants.{ExchangesField, SwapsBoard}
use Rattle.gc_worker.specs.declared.stage.back.Back.{Back}
use Rattle.gc_worker.specs.declared.stage.back.Back.TheVariants.{ToAccess, ToTarget, ToPlace, ToSnap, ToScanner}
use Rattle.gc_worker.specs.declared.stage.write.Write.{Write}
use Rattle.gc_worker.specs.declared.stage.write.Write.TheVariants.{OfPlace}
use Rattle.gc_worker.specs.declared.stage.Stage.{Stage}
use Rattle.gc_worker.specs.declared.stage.Stage.TheVariants.{Guards, Places}
use Rattle.gc_worker.specs.Workers.Fits.{FitsTaskBack, IsMaking}
use Rattle.gc_worker.specs.Workers.Held.{Held, at_stage, fields_for, header_for, run_held, target_for}
use Rattle.gc_worker.specs.Steps.Turned.{back_from, guards, guards_place, places}
use Rattle.gc_worker.proofs.Plain.NewRecords.{header_made, header_is}
use Rattle.lone_mutator.specs.Bound.{longest_placing}
use Rattle.lone_mutator.specs.Lone.{AccessStands, BackStands, IsLook, NobodyElseAnnounces, Remembers}
use Rattle.lone_mutator.specs.Potential.{again_left, back_left, due_in, flip_left, potential_in, size_in}

-- ---- to a write

-- what is so of where it writes, and of the look at the page before that, is so of where it goes on
pub goes_writing : (P : Stage → Type 0) (x : Held) (write : Write) (page : Option ℕ) (stage : Stage) → P stage
    → ((on : ℕ) → page ≡ Some on → P (Guards (guard.begun x.layout on x.running x.number) write)) → P (guards x write page stage)
goes_writing P x write None stage now looks = now
goes_writing P x write (Some on) stage now looks = by_running (x.running == 0)
  where
    by_running : (none : Bool) → P (cond none stage (Guards (guard.begun x.layout on x.running x.number) write))
    by_running true = now
    by_running false = looks on refl

-- ---- where it goes on

-- the mutator remembers what is so, and has to pay no more than this
pub record GoesAt (n : ℕ) (s : Saves) (t : Table) (y : Held) (cost : ℕ) : Type 0 where
  pub remembers : Remembers t s y
  pub within : potential_in n t y ≤ cost

module _ (n : ℕ) (s : Saves) (t : Table) (x : Held) (pages : x.layout.pages ≡ n) (began : x.begun ≤ x.epoch) (quiet : NobodyElseAnnounces t.announced false) where
  -- ---- an allocation

  abbrev Goes : Stage → Type 0
  Goes stage = GoesAt n s t (at_stage x stage) (longest_placing + flip_left n (size_in t) x + due_in n t)

  module _ (header : Header) where
    abbrev begun_at : PlaceStage → place.Placing
    begun_at stage = record { layout = x.layout; run = run_held x; header = header; fields = fields_for x; epoch = x.epoch; snap = x.snap; target = target_for x; stage = stage }

    count_first : Goes (guards_place x (begun_at StoresCount))
    count_first = goes_writing Goes x (OfPlace (begun_at StoresCount)) (place.writes_on (begun_at StoresCount) StoresCount) (Places (begun_at StoresCount))
        (record { remembers = record { began = λ past. began; quiet = quiet; stands = tt }; within = omega arith })
        (λ on is. record { remembers = record { began = λ past. began; quiet = quiet; stands = (tt, tt) }; within = omega arith })

    target_first : Goes (guards_place x (begun_at StoresTarget))
    target_first = goes_writing Goes x (OfPlace (begun_at StoresTarget)) (place.writes_on (begun_at StoresTarget) StoresTarget) (Places (begun_at StoresTarget))
        (record { remembers = record { began = λ past. began; quiet = quiet; stands = tt }; within = omega arith })
        (λ on is. record { remembers = record { began = λ past. began; quiet = quiet; stands = (tt, tt) }; within = omega arith })

    header_first : Goes (guards_place x (begun_at StoresHeader))
    header_first = goes_writing Goes x (OfPlace (begun_at StoresHeader)) (place.writes_on (begun_at StoresHeader) StoresHeader) (Places (begun_at StoresHeader))
        (record { remembers = record { began = λ past. began; quiet = quiet; stands = tt }; within = omega arith })
        (λ on is. record { remembers = record { began = λ past. began; quiet = quiet; stands = (tt, tt) }; within = omega arith })

    begins_by : (kind : Kind) (b : Bool) → Goes (guards_place x (begun_at (cond b (place.stores_first kind) LoadsTraced)))
    begins_by Fields true = header_first
    begins_by Raw true = header_first
    begins_by Mixed true = count_first
    begins_by Weak true = target_first
    begins_by kind false = record { remembers = record { began = λ past. began; quiet = quiet; stands = tt }; within = omega arith }

    pub begins : Goes (places x (Some header))
    begins = begins_by header.kind (nat_le ((run_held x).at + place.size_of header) (run_held x).end)

  pub goes_placing : IsMaking x.account x.registers x.task → Goes (places x (header_for x))
  goes_placing making = subst (λ (o : Option Header). Goes (places x o)) (sym (header_is x making)) (begins (header_made x making))

  -- ---- after a round

  looks_so : (l : Layout) (stage : AccessStage) → IsLook stage → AccessStands t l stage
  looks_so l (ExchangesField f e old) look = absurd look
  looks_so l (SwapsBoard b old) look = absurd look
  looks_so l stage look = tt

  pub goes_back : (back : Back) → BackStands back → FitsTaskBack x back → GoesAt n s t (back_from x back) (back_left n (size_in t) x back + again_left n back + due_in n t)
  goes_back (ToAccess a) look task = record { remembers = record { began = λ past. began; quiet = quiet; stands = looks_so a.spaces a.stage look }; within = omega arith }
  goes_back (ToTarget a) look task = record {
    remembers = record { began = λ past. began; quiet = quiet; stands = (record { untraced = inl tt; found = λ wanted is. absurd (cc) }, tt) };
    within = omega (arith, pages);
  }
  goes_back ToPlace look making = let goes = goes_placing making in record { remembers = goes.remembers; within = (let within = goes.within in omega (arith, within)) }
  goes_back ToSnap look task = record {
    remembers = record { began = λ past. began; quiet = quiet; stands = (record { untraced = inl tt; found = λ wanted is. absurd (cc) }, tt) };
    within = omega (arith, pages);
  }
  goes_back ToScanner look task = absurd look
