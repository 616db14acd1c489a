-- What the seats know after a step of one worker.
use Rattle.std.proofs.Common.{◌≡◌, ◌≢◌, ℕ, Option, List, ◌∷◌, ◌++◌, map, slice_set, sym, ◌∙◌, ap, subst, ⊎_elim}
use mathlib.Core.Option.{some}
use mathlib.Core.List.{IsPrefix}
use lib.ListN.{get_elem?}
use Rattle.plain_state.specs.State.{Plain}
use Rattle.gc_worker.specs.Workers.Held.{Held}
use Rattle.gc_worker.specs.Steps.Turned.{PageWon, Told}
use Rattle.ael_threads.specs.declared.view.WonClaim.{WonClaim}
use Rattle.gc_worker.specs.declared.calls.entry.Entry.{Entry}
use Rattle.ael_threads.specs.declared.view.Hand.{Hand}
use Rattle.ael_threads.specs.declared.view.Plan.{Plan}
use Rattle.ael_threads.specs.declared.view.View.{View}
use Rattle.gc_worker.specs.History.Legal.{extra, last_flip}
use Rattle.ael_threads.specs.Histories.{Each, first_plain, hand_number}
use Rattle.ael_threads.specs.Rule.{FitsView, HasHand, view}
use Rattle.ael_threads.specs.Seats.{with_claim}
use Rattle.ael_threads.proofs.Lists.Reads.{at_set}
use Rattle.ael_threads.proofs.Lists.Elements.{each_both, each_map, each_of_map, prefix_more, prefix_self}
use Rattle.gc_worker.proofs.History.Extensions.{calls_other}
use Rattle.ael_threads.proofs.TableRule.WonPages.{LeavesPagesOut, claims_kept, claims_more, once_more, won_after}

-- worker m of the seat id makes the step: the words, the workers and the history before and after, and the page won
module _ (plan : Plan) (words later : List ℕ) (workers workers' : List Held) (log : List Entry) (t : Told) (owner : ℕ → ℕ) (winner : WonClaim → ℕ) (id m : ℕ) (w : Option PageWon)
    (h : LeavesPagesOut plan.spaces.pages words later w) (same : (n : ℕ) → n ≢ m → get_elem? workers' n ≡ get_elem? workers n) where
  -- the plain state at the last flip
  abbrev o : Plain
  o = last_flip (first_plain plan) log

  abbrev log' : List Entry
  log' = log ++ extra o m t

  abbrev winner' : WonClaim → ℕ
  winner' = won_after winner id w

  -- a worker that isn't m
  other_has : (j : ℕ) (d : Hand) → d.number ≢ m → HasHand workers log owner j d → HasHand workers' log' owner j d
  other_has j d other y = record {
    owns = y.owns;
    state = record { held = y.state.held; is = same d.number other ∙ y.state.is; shown = y.state.shown };
    calls = calls_other o d.number log m t other ∙ y.calls;
  }

  -- what another seat knows
  others_fit : owner m ≡ id → (j : ℕ) (u : View) → j ≢ id → FitsView plan words workers log owner winner j u → FitsView plan later workers' log' owner winner' j u
  others_fit mine j u other f = record {
    same = f.same;
    seen = prefix_more u.seen log (extra o m t) f.seen;
    heard = prefix_more u.heard log (extra o m t) f.heard;
    hands = each_map (HasHand workers log owner j) (HasHand workers' log' owner j) (λ d y. other_has j d (λ e. other (sym y.owns ∙ (ap owner e ∙ mine))) y) u.hands f.hands;
    apart = f.apart;
    claims = claims_kept plan.spaces.pages words later winner id j w h u.claims f.claims;
    once = f.once;
  }

  -- what the seat itself knows
  pub my_fit : (p : Plan) (was d : Hand) (others : List Hand) (seen seen' heard : List Entry) (claims : List WonClaim)
      → FitsView plan words workers log owner winner id (view p (was ∷ others) seen heard claims) → was.number ≡ m → d.number ≡ m → HasHand workers' log' owner id d
      → IsPrefix seen' log'
      → FitsView plan later workers' log' owner winner' id (view p (d ∷ others) seen' log' (with_claim claims w))
  my_fit p was d others seen seen' heard claims f was_is number_is has pre = record {
    same = f.same;
    seen = pre;
    heard = prefix_self log';
    hands = (
      has,
      each_map (λ (z : Hand). HasHand workers log owner id z × (z.number ≢ was.number)) (HasHand workers' log' owner id)
          (λ z y. other_has id z (λ e. y.1 (e ∙ sym was_is)) y.0) others
          (each_both (HasHand workers log owner id) (λ (z : Hand). z.number ≢ was.number) others f.hands.1 (each_of_map (λ n. n ≢ was.number) hand_number others f.apart.0)),
    );
    apart = (subst (λ (n : ℕ). Each (λ e. e ≢ n) (map hand_number others)) (was_is ∙ sym number_is) f.apart.0, f.apart.1);
    claims = claims_more plan.spaces.pages words later winner id w h claims f.claims;
    once = once_more plan.spaces.pages words later winner id w h claims f.claims f.once;
  }

  pub all_fit : owner m ≡ id → (views : List View) (v' : View) → ((j : ℕ) (u : View) → get_elem? views j ≡ some u → FitsView plan words workers log owner winner j u)
      → FitsView plan later workers' log' owner winner' id v'
      → (j : ℕ) (u : View) → get_elem? (slice_set views id v') j ≡ some u → FitsView plan later workers' log' owner winner' j u
  all_fit mine views v' fits fit j u at =
      ⊎_elim (λ (y : (j ≡ id) × (v' ≡ u)). subst (λ (z : ℕ × View). FitsView plan later workers' log' owner winner' z.0 z.1) (λ i. (sym y.0 i, y.1 i)) fit)
      (λ (y : (j ≢ id) × (get_elem? views j ≡ some u)). others_fit mine j u y.0 (fits j u y.1))
      (at_set views id j v' u at)
