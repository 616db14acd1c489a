-- A step of a seat: it is in the table, the rule allows it, and it tells what it moves.
use Rattle.std.proofs.Common.{◌≡◌, ℕ, ◌<◌, List, [], ◌∷◌, Some, sym, ap, ◌∙◌, subst}
use mathlib.Core.Option.{none}
use Rattle.atomic_table.specs.Table as table
use Rattle.atomic_table.specs.Table.{Allows, step}
use Rattle.atom_store.specs.declared.step.Step.{Step}
use Rattle.atom_store.specs.Step.{place_in}
use Rattle.space_map.specs.Table.{whole_length}
use Rattle.gc_worker.specs.Workers.Held.{Held}
use Rattle.gc_worker.specs.Steps.Wanted.{wanted}
use Rattle.gc_worker.proofs.Words.WorkerRows.{places_fit}
use Rattle.ael_threads.specs.declared.view.Hand.{Hand}
use Rattle.ael_threads.specs.declared.view.Plan.{Plan}
use Rattle.ael_threads.specs.Rule.{RuleHolds}
use Rattle.ael_threads.specs.Seats.{Heads, IsMine, Me, Moves, Plays, ShowsSeen, first_number, reply_to}
use Rattle.ael_threads.proofs.TableRule.AllowedSteps.{allows, word_after}

-- the place of the step is in the table
pub bound : (plan : Plan) (words : ℕ) (hs : List Hand) (x : Held) (q q' : Step) → Heads plan x hs → words ≡ whole_length plan.spaces → wanted x ≡ Some q → q ≡ q' → place_in q' < words
bound plan words [] x q q' h e want is = absurd h
bound plan words (was ∷ others) x q q' h e want is = subst (λ (z : Step). place_in z < words) is
    (subst (λ (z : ℕ). place_in q < z) (ap whole_length h.laid_out ∙ sym e) (places_fit plan.spaces.pages plan.mutators was.number x q h.fits want))

pub now_allows : (key : Plan) (slots id : ℕ) (me : Me) (x j : Held) (q q' : Step) (st : table.Step ℕ) → Heads me.0.plan x me.0.hands → 0 < me.0.plan.spaces.pages → IsMine me.0 → ShowsSeen x me.0 → x ≡ j → wanted x ≡ Some q → q ≡ q' → (says : ℕ → ℕ)
    → ((found : ℕ) → reply_to q' (says found) ≡ reply_to q' found) → Allows (RuleHolds key) slots id me (place_in q') (word_after q') (λ found later. Plays j st me (says found) later)
now_allows key slots id me x j q q' st heads live mine shows now want is says same =
    allows key slots id me j q' (subst (λ (z : Held). Heads me.0.plan z me.0.hands) now heads) live mine (subst (λ (z : Held). ShowsSeen z me.0) now shows) (sym (ap wanted now) ∙ (want ∙ ap (λ (z : Step). Some z) is)) st says same

pub moved : (me later : Me) (x j : Held) (q q' : Step) (found : ℕ) → x ≡ j → wanted x ≡ Some q → q ≡ q' → Plays j (step 0 0 0 0 none) me found later → Moves me.0 (first_number me.0.hands) x (reply_to q' found) later.0
moved me later x j q q' found now want is h =
    subst (λ (z : Held). Moves me.0 (first_number me.0.hands) z (reply_to q' found) later.0) (sym now) (h.1 q' (sym (ap wanted now) ∙ (want ∙ ap (λ (z : Step). Some z) is)))
