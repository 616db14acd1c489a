use Rattle.std.proofs.Common.{◌≡◌, ℕ, List, Result, Err, length, sym, ap, ◌∙◌, subst}
use Rattle.std.specs.Prelude.{IsErrOf}
use Rattle.ael_threads.specs.Seats.{Seated}
use Rattle.ael_threads.proofs.ProgramRuns.StartAndEnd.{all_back}
use Rattle.concordance.specs.declared.error.ConcordError.{ConcordError}
use Rattle.concordance.specs.declared.error.ConcordError.TheVariants.{HeapFull, NoMemory}
use Rattle.concordance.specs.Working.{HaveWorked, MayAllBeTakenIn, WasFullForOne}
use Rattle.concordance.proofs.making.noted.Goals.{in-Ok, in-Err}
use Rattle.concordance.proofs.making.noted.Goals as goal

pub joined-first-requires-clause-left : goal.joined-first-requires-clause-left
joined-first-requires-clause-left g c =
    let w = c.args.job.now in
    let all = c.args.clerks.now in
    let many = c.read_all-read.ensures.as_many ∙ ap length c.as_mut_slice.ensures.value in
    let back = all_back all.len all.items c.read_all-read.new.clerks (sym all.ok.0) many in
    (w, subst (MayAllBeTakenIn w 0) (sym back) c.read_all-read.ensures.left)

pub gathered-gathered-requires-clause-has : goal.gathered-gathered-requires-clause-has
gathered-gathered-requires-clause-has g c =
    let w = c.args.job.now in
    let all = c.args.clerks.now in
    let now : List Seated = c.read_all-read.new.clerks in
    let many : length now ≡ length all.items = c.read_all-read.ensures.as_many ∙ ap length c.as_mut_slice.ensures.value in
    let back = all_back all.len all.items now (sym all.ok.0) many in
    c.joined-first.ensures w c.args.parts.now (ap length back ∙ (many ∙ c.requires.all)) (subst (HaveWorked w 0 c.args.parts.now) (sym back) c.in-Ok.ensures.worked)

-- an error has one asked for and one room
is_full : {T : Type 0} (r : Result T ConcordError) (a b asked room : ℕ) → r ≡ Err (HeapFull a b) → IsErrOf r (HeapFull asked room) → (a ≡ asked) × (b ≡ room)
is_full r a b asked room is full = (cc, cc)

-- what gathers finds no full heap
never_full : {T : Type 0} (r q : Result T ConcordError) (asked room : ℕ) → r ≡ q → ((e : ConcordError) → IsErrOf q e → e ≡ NoMemory) → IsErrOf r (HeapFull asked room) → ⊥
never_full r q asked room is memory full = let e : HeapFull asked room ≡ NoMemory = memory (HeapFull asked room) (subst (λ z. IsErrOf z (HeapFull asked room)) is full) in cc

pub returns-clause-full : goal.returns-clause-full
returns-clause-full g c = elim c.match-read.branch [
  | in-Ok w ↦ λ asked room is. absurd (never_full _ _ asked room w.gathered-is w.gathered-gathered.ensures.memory is)
  | in-Err w ↦ λ asked room is.
      let same = is_full _ w.in-Err.field-0.asked w.in-Err.field-0.room asked room w.gathered-is is in
      subst (λ (p : ℕ × ℕ). WasFullForOne c.args.job.now 0 c.args.parts.now p.0 p.1) (λ i. (same.0 i, same.1 i)) w.in-Err.ensures.full
]
