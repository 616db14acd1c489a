-- Two seats become one, and a seat sees the whole history.
use Rattle.std.proofs.Common.{◌≡◌, ◌≢◌, ℕ, ◌<◌, ◌==◌, Bool, cond, List, [], ◌∷◌, ◌++◌, map, set, refl, sym, ◌∙◌, ap, subst, ⊎_elim, arith, eq-eqb, ne_eqb}
use mathlib.Core.Option.{some}
use mathlib.Core.List.{map-append}
use lib.ListN.{get_elem?}
use Rattle.atomic_table.specs.Table as table
use Rattle.gc_worker.specs.Workers.Held.{Held}
use Rattle.ael_threads.specs.declared.view.WonClaim.{WonClaim}
use Rattle.gc_worker.specs.declared.calls.entry.Entry.{Entry}
use Rattle.ael_threads.specs.declared.view.Hand.{Hand}
use Rattle.ael_threads.specs.declared.view.Plan.{Plan}
use Rattle.ael_threads.specs.declared.view.View.{View}
use Rattle.gc_worker.specs.History.Tally.{EachEntry, EntryIs, tasks_held}
use Rattle.ael_threads.specs.Began.{FlippedIfFull, begun_held}
use Rattle.ael_threads.specs.Histories.{AreSizesOf, opening_tally, Each, IsOnce, first_plain, hand_number}
use Rattle.gc_worker.specs.History.Legal.{IsLegal, calls_of}
use Rattle.ael_threads.specs.Rule.{FitsView, HasHand, RuleHolds, Won, spent_view, view}
use Rattle.ael_threads.specs.Seats.{HasFlippedIfFull, Learns, Me, both_of}
use Rattle.ael_threads.proofs.BegunLooks.{hand_flipped}
use Rattle.ael_threads.proofs.TableRule.PagesInUse.{tallied_sizes}
use Rattle.ael_threads.proofs.Lists.Reads.{at_set, set_else}
use Rattle.ael_threads.proofs.Lists.Elements.{each_append, each_map, each_to_map, prefix_self}
use Rattle.ael_threads.proofs.TableRule.GateLooks.{keeps_rule}

-- whose a thing is once what was the seat other's is the seat id's
abbrev moved_to : {A : Type 0} → (A → ℕ) → ℕ → ℕ → A → ℕ
moved_to owner id other n = cond (owner n == other) id (owner n)

taken_in : {A : Type 0} (owner : A → ℕ) (id other : ℕ) (n : A) → owner n ≡ other → moved_to owner id other n ≡ id
taken_in owner id other n e = ap (λ (b : Bool). cond b id (owner n)) (eq-eqb (owner n) other e)

left_alone : {A : Type 0} (owner : A → ℕ) (id other : ℕ) (n : A) → owner n ≢ other → moved_to owner id other n ≡ owner n
left_alone owner id other n e = ap (λ (b : Bool). cond b id (owner n)) (ne_eqb (owner n) other e)

-- two lists without repetition, of which each number is whose it is
once_append : {A : Type 0} (owner : A → ℕ) (i j : ℕ) → j ≢ i → (xs ys : List A) → Each (λ n. owner n ≡ i) xs → Each (λ n. owner n ≡ j) ys → IsOnce xs → IsOnce ys → IsOnce (xs ++ ys)
once_append owner i j apart [] ys h k o p = p
once_append owner i j apart (x ∷ xs) ys h k o p = (
  each_append (λ d. d ≢ x) xs ys o.0 (each_map (λ n. owner n ≡ j) (λ d. d ≢ x) (λ d e same. apart (sym e ∙ (ap owner same ∙ h.0))) ys k),
  once_append owner i j apart xs ys h.1 k o.1 p,
)

module _ (plan : Plan) (words : List ℕ) (workers : List Held) (log : List Entry) (owner : ℕ → ℕ) (winner : WonClaim → ℕ) (id other : ℕ) (apart : other ≢ id) where
  abbrev owner' : ℕ → ℕ
  owner' = moved_to owner id other

  abbrev winner' : WonClaim → ℕ
  winner' = moved_to winner id other

  has_stays : (j : ℕ) → j ≢ other → (h : Hand) → HasHand workers log owner j h → HasHand workers log owner' j h
  has_stays j else h t = record { owns = left_alone owner id other h.number (λ e. else (sym t.owns ∙ e)) ∙ t.owns; state = t.state; calls = t.calls }

  has_comes : (h : Hand) → HasHand workers log owner other h → HasHand workers log owner' id h
  has_comes h t = record { owns = taken_in owner id other h.number t.owns; state = t.state; calls = t.calls }

  won_stays : (j : ℕ) → j ≢ other → (c : WonClaim) → Won plan.spaces.pages words winner j c → Won plan.spaces.pages words winner' j c
  won_stays j else c t = record { owns = left_alone winner id other c (λ e. else (sym t.owns ∙ e)) ∙ t.owns; out = t.out }

  won_comes : (c : WonClaim) → Won plan.spaces.pages words winner other c → Won plan.spaces.pages words winner' id c
  won_comes c t = record { owns = taken_in winner id other c t.owns; out = t.out }

  other_fits : (j : ℕ) (u : View) → j ≢ other → FitsView plan words workers log owner winner j u → FitsView plan words workers log owner' winner' j u
  other_fits j u else f = record {
    same = f.same;
    seen = f.seen;
    heard = f.heard;
    hands = each_map (HasHand workers log owner j) (HasHand workers log owner' j) (has_stays j else) u.hands f.hands;
    apart = f.apart;
    claims = each_map (Won plan.spaces.pages words winner j) (Won plan.spaces.pages words winner' j) (won_stays j else) u.claims f.claims;
    once = f.once;
  }

  numbers_of : (j : ℕ) (hs : List Hand) → Each (HasHand workers log owner j) hs → Each (λ n. owner n ≡ j) (map hand_number hs)
  numbers_of j hs h = each_to_map (λ n. owner n ≡ j) hand_number hs (each_map (HasHand workers log owner j) (λ (h : Hand). owner h.number ≡ j) (λ h t. t.owns) hs h)

  both_fits : (v u : View) → FitsView plan words workers log owner winner id v → FitsView plan words workers log owner winner other u
      → FitsView plan words workers log owner' winner' id (both_of v u)
  both_fits v u f g = record {
    same = f.same;
    seen = f.heard;
    heard = g.heard;
    hands = each_append (HasHand workers log owner' id) v.hands u.hands
        (each_map (HasHand workers log owner id) (HasHand workers log owner' id) (has_stays id (λ e. apart (sym e))) v.hands f.hands)
        (each_map (HasHand workers log owner other) (HasHand workers log owner' id) has_comes u.hands g.hands);
    apart = subst IsOnce (sym (map-append hand_number v.hands u.hands)) (once_append owner id other apart (map hand_number v.hands) (map hand_number u.hands) (numbers_of id v.hands f.hands) (numbers_of other u.hands g.hands) f.apart g.apart);
    claims = each_append (Won plan.spaces.pages words winner' id) v.claims u.claims
        (each_map (Won plan.spaces.pages words winner id) (Won plan.spaces.pages words winner' id) (won_stays id (λ e. apart (sym e))) v.claims f.claims)
        (each_map (Won plan.spaces.pages words winner other) (Won plan.spaces.pages words winner' id) won_comes u.claims g.claims);
    once = once_append winner id other apart v.claims u.claims (each_map (Won plan.spaces.pages words winner id) (λ c. winner c ≡ id) (λ c t. t.owns) v.claims f.claims)
        (each_map (Won plan.spaces.pages words winner other) (λ c. winner c ≡ other) (λ c t. t.owns) u.claims g.claims) f.once g.once;
  }

pub joins : (plan : Plan) (id : ℕ) (v : View) (other : ℕ) (u : View) → table.Joins (RuleHolds plan) id v other u (both_of v u) spent_view
joins plan id v other u s b at apart at' =
    let both : View = both_of v u in
    let there : get_elem? s.views other ≡ some u = sym (set_else s.views id other both apart) ∙ at' in
    let owner' : ℕ → ℕ = moved_to b.owner id other in
    let winner' : WonClaim → ℕ = moved_to b.winner id other in record {
      log = b.log;
      workers = b.workers;
      count = b.count;
      owner = owner';
      winner = winner';
      legal = b.legal;
      story = b.story;
      last = b.last;
      tallied = b.tallied;
      begun = b.begun;
      flipped = b.flipped;
      seats = λ j w at''. ⊎_elim
          (λ (t : (j ≡ other) × (spent_view ≡ w)). subst (FitsView plan s.words b.workers b.log owner' winner' j) t.1
          (record { same = λ none. absurd (omega arith); seen = (b.log, refl); heard = (b.log, refl); hands = tt; apart = tt; claims = tt; once = tt }))
          (λ (t : (j ≢ other) × (get_elem? (set s.views id both) j ≡ some w)).
          ⊎_elim (λ (p : (j ≡ id) × (both ≡ w)). subst (λ (z : ℕ × View). FitsView plan s.words b.workers b.log owner' winner' z.0 z.1) (λ i. (sym p.0 i, p.1 i))
          (both_fits plan s.words b.workers b.log b.owner b.winner id other apart v u (b.seats id v at) (b.seats other u there)))
          (λ (p : (j ≢ id) × (get_elem? s.views j ≡ some w)). other_fits plan s.words b.workers b.log b.owner b.winner id other apart j w t.0 (b.seats j w p.1))
          (at_set s.views id j both w t.1))
          (at_set (set s.views id both) other j spent_view w at'');
    }

-- a load of word 0 that sees the whole history
pub learns : (plan : Plan) (slots id : ℕ) (me : Me) (st : table.Step ℕ) → 0 < me.0.plan.spaces.pages → table.Allows (RuleHolds plan) slots id me 0 (λ n. n) (Learns st me)
learns plan slots id me st live s b homes at small =
    let v : View = me.0 in
    let f = b.seats id v at in
    let w : View = view v.plan v.hands b.log b.log v.claims in
    let fit : FitsView plan s.words b.workers b.log b.owner b.winner id w = record {
      same = f.same;
      seen = prefix_self b.log;
      heard = prefix_self b.log;
      hands = f.hands;
      apart = f.apart;
      claims = f.claims;
      once = f.once;
    } in (
      w,
      table.keeps,
      tt,
      keeps_rule plan id s b me.1 w fit,
      (
        refl,
        record {
          plan = refl;
          hands = refl;
          claims = refl;
          seen = f.seen;
          heard = f.heard;
          whole = record {
            hears = refl;
            apart = f.apart;
            own = each_map (HasHand b.workers b.log b.owner id) (λ (h : Hand). calls_of h.number b.log ≡ h.own) (λ h t. t.calls) v.hands f.hands;
            once = f.once;
            legal = subst (λ (z : Plan). IsLegal (first_plain z) b.log) (sym (f.same live)) b.legal;
            tasks = tasks_held b.workers;
            sizes = b.tallied.sizes;
            sized = subst (λ (z : Plan). AreSizesOf z b.tallied.sizes) (sym (f.same live)) (tallied_sizes plan s.words b.workers b.log b.tallied);
            entries = subst (λ (z : Plan). EachEntry (EntryIs b.tallied.sizes (tasks_held b.workers)) (opening_tally z) b.log) (sym (f.same live)) b.tallied.entries;
            flipped = subst (λ (z : Plan). Each (HasFlippedIfFull z b.log) v.hands) (sym (f.same live))
                (each_map (HasHand b.workers b.log b.owner id) (HasFlippedIfFull plan b.log) (λ h t. hand_flipped plan b.workers b.log h t.state b.flipped) v.hands f.hands);
            all_flipped = subst (λ (z : Plan). (m : ℕ) → (begun : ℕ) × FlippedIfFull z m begun b.log) (sym (f.same live)) (λ m. (begun_held b.workers m, b.flipped m));
          };
        },
      ),
    )
