-- A team of which one worker changes.
use Rattle.std.proofs.Common.{ℕ, ◌<◌, List, length, set, get_or-set_same, get_or-set_other, arith, sym}
use Rattle.std.proofs.Math.ListN.{length-set}
use Rattle.heap_state.specs.Configuration.{team_of}
use Rattle.heap_state.specs.Functions.{put}
use Rattle.heap_state.specs.Theorems.Workers.{TeamChanges, SumsByTerms}
use Rattle.heap_state.specs.Known.{Known, Scanner, fresh}
use Rattle.heap_state.proofs.Puts.{put_is, put_same, put_other, sum_below-change}

pub team_changes : (mutators : ℕ) (workers : List Known) (k : ℕ) (w : Known) → k < length workers → TeamChanges mutators workers k w
team_changes mutators workers k w l = record {
  worker = put_is (team_of mutators workers).worker (team_of mutators (set workers k w)).worker k w (get_or-set_same workers k w (fresh Scanner) l) (λ j d. get_or-set_other workers k j w (fresh Scanner) d);
  count = length-set workers k w;
}

pub sums_by_terms : SumsByTerms
sums_by_terms n f a x l =
    let c = sum_below-change n f (put f a x) a l (λ y m d. sym (put_other f a x y d)) in
    let s = put_same f a x in
    omega arith
