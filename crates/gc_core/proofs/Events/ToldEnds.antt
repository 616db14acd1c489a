-- No mutator gets its end by a step that tells of none.
use Rattle.std.proofs.Common.{◌≡◌, ◌≢◌, ℕ, Bool, false, [], Option, Some, None, is_some, slice_get, refl, ap, sym, ◌∙◌}
use Rattle.std.specs.List.{list_all}
use Rattle.std.specs.Option.{option_map, unwrap_or}
use Rattle.std.proofs.lemmas.List.Folds.{list_all_at}
use Rattle.std.proofs.lemmas.Option.{same_Some, slice_get-map, slice_get_within, unwrap_or-slice_get}
use Rattle.plain_state.specs.declared.end.End.{End}
use Rattle.plain_state.specs.State.{Mutator, Plain}
use Rattle.plain_heap.specs.Order.{Story, end_of}
use Rattle.plain_heap.specs.Print.{Seen, plain_seen}
use Rattle.gc_worker.specs.declared.steps.stepped.Stepped.{Stepped}
use Rattle.gc_worker.specs.declared.steps.stepped.Stepped.TheVariants.{Effect, Ended}
use Rattle.gc_worker.proofs.Between.StandingHeaps.{what_stands_is_so}
use Rattle.gc_core.specs.Core.{CoreState}
use Rattle.gc_core.specs.Event.{core_after, event_of}
use Rattle.gc_core.specs.Law.{IsLawful, IsTold, plain_after, plain_met_by}
use Rattle.gc_core.specs.Run.{all_ended}
use Rattle.gc_core.proofs.Runs.Stories.{stands_seen}
use Rattle.gc_core.proofs.EventLaws.{events_stand}

abbrev has_end : Seen → Bool
has_end k = is_some k.end

abbrev seen_as : Mutator → Seen
seen_as k = record { printed = k.printed; end = k.end }

-- where a mutator has none, not all have theirs
not_all : (p : Plain) (m : ℕ) → end_of p m ≡ Some None → list_all has_end (plain_seen p) ≡ false
not_all p m none = by_mutator (slice_get p.mutators m) refl none
  where
    by_mutator : (o : Option Mutator) → slice_get p.mutators m ≡ o → option_map (λ (k : Mutator). k.end) o ≡ Some None → list_all has_end (plain_seen p) ≡ false
    by_mutator None e none = absurd (cc)
    by_mutator (Some q) e none =
        let there : slice_get (plain_seen p) m ≡ Some (seen_as q) = slice_get-map seen_as p.mutators m ∙ ap (λ (o : Option Mutator). option_map seen_as o) e in
        let other : Seen = record { printed = []; end = None } in
        list_all_at has_end (plain_seen p) m other (slice_get_within (plain_seen p) m (seen_as q) there)
        (ap has_end (sym (unwrap_or-slice_get (plain_seen p) m other) ∙ ap (λ (o : Option Seen). unwrap_or o other) there)
        ∙ ap (λ (end : Option End). is_some end) (same_Some q.end None none))

pub ends_are_told : (s : CoreState) (w : ℕ) → IsLawful s → ((m : ℕ) (why : End) → (event_of s w).told ≢ Ended m why) → all_ended (core_after s w) ≡ all_ended s
ends_are_told s w l untold =
    let keeps = events_stand s w story l.steady l.stands in
    ap (list_all has_end) (stands_seen what_stands_is_so (core_after s w) _ _ keeps.stands)
    ∙ (by_told (event_of s w).told refl keeps.told
    ∙ sym (ap (list_all has_end) (stands_seen what_stands_is_so s l.plain l.flip l.stands)))
  where
    story : Story
    story = record { flip = l.flip; now = l.plain }

    by_told : (t : Stepped) → (event_of s w).told ≡ t → IsTold s w story (event_of s w).after t
        → list_all has_end (plain_seen (plain_met_by s story (event_of s w).after t)) ≡ list_all has_end (plain_seen l.plain)
    by_told (Effect m) e told = not_all (plain_after s story (Effect m)) m told.2 ∙ sym (not_all l.plain m told.1)
    by_told (Ended m why) e told = absurd (untold m why e)
    by_told _ e told = refl
